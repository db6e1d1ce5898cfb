-- What a schema tells of the layout.
use Rattle.std.proofs.Common.{◌≡◌, Option, Some, None, slice_get, inl, inr, ℕ, Bool, true, false, codes, unwrap_or, option_map, refl, sym, ap, ◌∙◌}
use Rattle.sqlite_schema.specs.declared.schema.Schema.{Schema}
use Rattle.sqlite_schema.specs.declared.schema.Table.{Table}
use Rattle.sqlite_schema.specs.Names.{table_named}
use Rattle.sqlite_tied.specs.Compute.{everything}
use Rattle.database_layout.specs.Beside.{HasAnyInbox}
use Rattle.database_layout.specs.Layout.{has_inbox, inbox_tree, schema_in}
use Rattle.database_layout.specs.declared.layout.Layout.{Layout}
use Rattle.database_layout.specs.declared.layout.Layout.TheVariants.{Empty, Service, Inbox, InboxService, ServiceInbox, Inbox2, Inbox2Service, ServiceInbox2, Upgraded, UpgradedService, ServiceUpgraded, ShiftedUpgraded}

-- the tree of the table at this place among the tables of the schema, and that of the inbox
abbrev tree_at : Schema → Option ℕ → Option ℕ
tree_at s None = None
tree_at s (Some at) = option_map (λ (t : Table). t.tree) (slice_get s.tables at)

abbrev tree_in : Schema → ℕ
tree_in s = unwrap_or (tree_at s (table_named s (codes "inbox"))) (unwrap_or (tree_at s (table_named s (codes "inbox2"))) 0)

tells_tree : (l : Layout) → HasAnyInbox l → tree_in (schema_in l) ≡ inbox_tree l
unfolding everything
tells_tree Empty (inl h) = absurd h
tells_tree Empty (inr h) = absurd h
tells_tree Service (inl h) = absurd h
tells_tree Service (inr h) = absurd h
tells_tree Inbox h = refl
tells_tree InboxService h = refl
tells_tree ServiceInbox h = refl
tells_tree Inbox2 h = refl
tells_tree Inbox2Service h = refl
tells_tree ServiceInbox2 h = refl
tells_tree Upgraded h = refl
tells_tree UpgradedService h = refl
tells_tree ServiceUpgraded h = refl
tells_tree ShiftedUpgraded h = refl

-- it names one just where there is one
named : (l : Layout) → HasAnyInbox l → has_inbox (schema_in l) ≡ true
unfolding everything
named Empty (inl h) = absurd h
named Empty (inr h) = absurd h
named Service (inl h) = absurd h
named Service (inr h) = absurd h
named Inbox h = refl
named InboxService h = refl
named ServiceInbox h = refl
named Inbox2 h = refl
named Inbox2Service h = refl
named ServiceInbox2 h = refl
named Upgraded h = refl
named UpgradedService h = refl
named ServiceUpgraded h = refl
named ShiftedUpgraded h = refl

there : (l : Layout) → has_inbox (schema_in l) ≡ true → HasAnyInbox l
unfolding everything
there Empty h = absurd (let e : ◌≡◌ {A = Bool} false true = h in cc)
there Service h = absurd (let e : ◌≡◌ {A = Bool} false true = h in cc)
there Inbox h = inl tt
there InboxService h = inl tt
there ServiceInbox h = inl tt
there Inbox2 h = inr tt
there Inbox2Service h = inr tt
there ServiceInbox2 h = inr tt
there Upgraded h = inr tt
there UpgradedService h = inr tt
there ServiceUpgraded h = inr tt
there ShiftedUpgraded h = inr tt

-- two layouts with one schema have the inbox in one tree
pub same_inbox : (l m : Layout) → HasAnyInbox m → schema_in l ≡ schema_in m → HasAnyInbox l × (inbox_tree l ≡ inbox_tree m)
same_inbox l m has e =
    let here = there l (ap has_inbox e ∙ named m has) in
    (here, sym (tells_tree l here) ∙ ap tree_in e ∙ tells_tree m has)
