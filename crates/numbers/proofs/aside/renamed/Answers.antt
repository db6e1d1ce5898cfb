use Rattle.std.proofs.Common.{◌≡◌, ◌∙◌, ap, ap₂, sym, codes, option_map, List, ℕ}
use Rattle.serde_json.specs.Data.{put}
use Rattle.serde_json.specs.Find.{get_member}
use Rattle.serde_json.specs.View.{members_view, view}
use Rattle.serde_json.proofs.Views.{members_view-insert_entry, view-lookup}
use Rattle.numbers.specs.Aside.{without}
use Rattle.numbers.proofs.AsideLemmas.{members_view-remove, no_view}
use Rattle.numbers.proofs.aside.renamed.Goals as goal

pub returns : goal.returns
returns c =
    let old = c.args.members.entries in
    let left = c.remove.new.self.entries in
    let cut : members_view left ≡ without (codes "sequence") (members_view old) = ap members_view c.remove.ensures.entries ∙ members_view-remove (codes "sequence") old in
    record {
      value = view c.in-Some.number;
      had = sym (view-lookup (codes "sequence") old) ∙ ap (option_map view) (sym c.remove.ensures.value ∙ c.in-Some.is);
      free = ap (get_member c.args.name.now) (sym cut) ∙ sym (view-lookup c.args.name.now left) ∙ no_view _ (sym c.contains_key.ensures ∙ c.if-contains_key.false);
      is = ap members_view c.in_ok-insert.ensures.entries ∙ members_view-insert_entry left c.in_ok-name.name c.in-Some.number
          ∙ ap₂ (λ (k : List ℕ) ms. put k (view c.in-Some.number) ms) c.in_ok-name.ensures.ok cut;
    }
