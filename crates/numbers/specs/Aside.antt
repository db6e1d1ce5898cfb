-- An event whose number of its own goes by another name.
use Rattle.std.specs.Prelude.{◌≡◌, ℕ, List, Some, None, codes}
use Rattle.std.specs.Ordering.{nat_cmp, match_ordering}
use Rattle.std.specs.Cmp.Lexicographic.{slice_cmp}
use Rattle.serde_json.specs.Data.{Data, Members, no_members, member, object, put}
use Rattle.serde_json.specs.Find.{get_member}
use Rattle.serde_json.specs.Written.{compact_text}
use Rattle.attributes.specs.Event.{EventValue, members_of, text}

-- an event's members without the first of this name, for its `sequence` renamed
abbrev pub without : List ℕ → Members → Members
without k no_members = no_members
without k (member l d ms) =
    match_ordering (slice_cmp nat_cmp k l) (member l d (without k ms)) ms (member l d (without k ms))

-- the member `sequence` of an object goes by this name, which no member had
pub record IsRenamed (name : List ℕ) (old new : Members) : Type 0 where
  pub value : Data
  pub had : get_member (codes "sequence") old ≡ Some value
  pub free : get_member name (without (codes "sequence") old) ≡ None
  pub is : new ≡ put name value (without (codes "sequence") old)

-- the event's JSON object is a numbered event's with its member `sequence` by this name
pub record IsAside (name : List ℕ) (e found : EventValue) : Type 0 where
  pub members : Members
  pub renamed : IsRenamed name (members_of e) members
  pub is : text found ≡ compact_text (object members)
