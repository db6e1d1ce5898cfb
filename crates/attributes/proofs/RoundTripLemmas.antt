-- The compact text of exact JSON reads back as it.
use Rattle.std.proofs.Common.{◌≡◌, ◌∙◌, ◌≤◌, suc, max, pos, negsuc, List, [], Option, Some, option_map, option_and_then, refl, ap, ap₂, sym, arith, append-nil}
use Rattle.std.specs.List.Sorted.{IsStrictlySortedBy}
use Rattle.json.specs.Token.{Token}
use Rattle.json.specs.Lex.{tokens}
use Rattle.json.specs.Json as json
use Rattle.json.specs.Print.{IsNumber}
use Rattle.json.specs.Tree as tree
use Rattle.json.proofs.Printed.Tokens.{tokens-print}
use Rattle.json.proofs.Printed.Trees.{value-json_tokens, ArePrintable-json_tokens}
use Rattle.json.proofs.Printed.Decimals.{IsNumber-decimal, IsNumber-signed_decimal}
use Rattle.serde_json.specs.Data.{Num, unsigned, negative, float, Data, null, boolean, number, string, array, object, Items, no_items, item, Members, no_members, member, put, depth, items_depth, members_depth}
use Rattle.serde_json.specs.Read.{number_of, of_json, of_items, of_members, max_depth, read}
use Rattle.serde_json.specs.Written.{number_text, outline, items_outline, members_outline, compact_text}
use Rattle.serde_json.proofs.Numbers.{number_of-decimal, number_of-negative}
use Rattle.serde_json.proofs.Texts.{print-outline}
use Rattle.attributes.specs.Exact.{IsWholeNumber, member_names, KeysAscend, IsExact, ItemsAreExact, MembersAreExact}
use Rattle.attributes.specs.steps.ObjectText.{then_members}
use Rattle.attributes.proofs.PutLemmas.{then_members-no_members, then_members-assoc, put-last, AreBelowAll, AreBelowAll-no_members, AreBelowAll-more}

-- ---- numbers

number_of-number_text : (n : Num) → IsWholeNumber n → number_of (number_text n) ≡ Some n
number_of-number_text (unsigned n) h = number_of-decimal n h
number_of-number_text (negative (pos n)) h = absurd h
number_of-number_text (negative (negsuc n)) h = number_of-negative n h
number_of-number_text (float x) h = absurd h

IsNumber-number_text : (n : Num) → IsWholeNumber n → IsNumber (number_text n)
IsNumber-number_text (unsigned n) h = IsNumber-decimal n h
IsNumber-number_text (negative (pos n)) h = absurd h
IsNumber-number_text (negative (negsuc n)) h = IsNumber-signed_decimal (negsuc n) h
IsNumber-number_text (float x) h = absurd h

mutual
  HasNumbers-outline : (d : Data) → IsExact d → tree.HasNumbers (outline d)
  HasNumbers-outline null h = tt
  HasNumbers-outline (boolean b) h = tt
  HasNumbers-outline (number n) h = IsNumber-number_text n h
  HasNumbers-outline (string s) h = tt
  HasNumbers-outline (array ds) h = HasNumbers-items ds h
  HasNumbers-outline (object ms) h = HasNumbers-members ms h.1

  HasNumbers-items : (ds : Items) → ItemsAreExact ds → tree.ItemsHaveNumbers (items_outline ds)
  HasNumbers-items no_items h = tt
  HasNumbers-items (item d ds) h = (HasNumbers-outline d h.0, HasNumbers-items ds h.1)

  HasNumbers-members : (ms : Members) → MembersAreExact ms → tree.MembersHaveNumbers (members_outline ms)
  HasNumbers-members no_members h = tt
  HasNumbers-members (member k d ms) h = (HasNumbers-outline d h.0, HasNumbers-members ms h.1)

-- ---- depths

mutual
  depth-outline : (d : Data) → tree.depth (outline d) ≡ depth d
  depth-outline null = refl
  depth-outline (boolean b) = refl
  depth-outline (number n) = refl
  depth-outline (string s) = refl
  depth-outline (array ds) = ap suc (depth-items ds)
  depth-outline (object ms) = ap suc (depth-members ms)

  depth-items : (ds : Items) → tree.items_depth (items_outline ds) ≡ items_depth ds
  depth-items no_items = refl
  depth-items (item d ds) = ap₂ max (depth-outline d) (depth-items ds)

  depth-members : (ms : Members) → tree.members_depth (members_outline ms) ≡ members_depth ms
  depth-members no_members = refl
  depth-members (member k d ms) = ap₂ max (depth-outline d) (depth-members ms)

-- ---- values

mutual
  unfolding IsStrictlySortedBy

  of_json-outline : (d : Data) → IsExact d → of_json (outline d) ≡ Some d
  of_json-outline null h = refl
  of_json-outline (boolean b) h = refl
  of_json-outline (number n) h = ap (option_map number) (number_of-number_text n h)
  of_json-outline (string s) h = refl
  of_json-outline (array ds) h = ap (option_map array) (of_items-outline ds h)
  of_json-outline (object ms) h = ap (option_map object) (of_members-outline ms no_members h.0 (AreBelowAll-no_members (member_names ms)) h.1)

  of_items-outline : (ds : Items) → ItemsAreExact ds → of_items (items_outline ds) ≡ Some ds
  of_items-outline no_items h = refl
  of_items-outline (item d ds) h =
      ap (option_and_then (λ e. option_map (item e) (of_items (items_outline ds)))) (of_json-outline d h.0)
      ∙ ap (option_map (item d)) (of_items-outline ds h.1)

  of_members-outline : (ms found : Members) → KeysAscend ms → AreBelowAll found (member_names ms) → MembersAreExact ms → of_members (members_outline ms) found ≡ Some (then_members found ms)
  of_members-outline no_members found ascend below h = ap (λ m. Some m) (sym (then_members-no_members found))
  of_members-outline (member k d ms) found ascend below h =
      ap (option_and_then (λ e. of_members (members_outline ms) (put k e found))) (of_json-outline d h.0)
      ∙ (ap (of_members (members_outline ms)) (put-last found k d below.0)
      ∙ (of_members-outline ms (then_members found (member k d no_members)) ascend.1 (AreBelowAll-more found k d (member_names ms) below.1 ascend.0) h.1
      ∙ ap (λ m. Some m) (then_members-assoc found (member k d no_members) ms)))

-- what is made of a value that was read, and of the tokens after it
abbrev whole : Option (json.Json × List Token) → Option Data
whole o = option_and_then of_json (option_and_then (λ p. json.if_last p.0 p.1) o)

pub read-compact_text : (d : Data) → IsExact d → depth d ≤ max_depth → read (compact_text d) ≡ Some d
read-compact_text d h shallow =
    let written : tokens (compact_text d) ≡ tree.json_tokens (outline d) =
    ap tokens (sym (print-outline d)) ∙ tokens-print (tree.json_tokens (outline d)) (ArePrintable-json_tokens (outline d) (HasNumbers-outline d h)) in
    ap whole (ap (json.value max_depth) (written ∙ sym (append-nil (tree.json_tokens (outline d)))) ∙ value-json_tokens (outline d) max_depth [] (omega (arith, depth-outline d)))
    ∙ of_json-outline d h
