use Rattle.std.proofs.Common.{◌≡◌, ◌∙◌, Bool, true, false, inl, refl, rules, sym}
use Rattle.databases.specs.declared.trouble.Trouble.TheVariants as trouble
use Rattle.database_commands.proofs.opener.Opener.open.Goals as goal

pub returns-then-is_no_file-clause-refused : goal.returns-then-is_no_file-clause-refused
returns-then-is_no_file-clause-refused c = (trouble.NoFile, refl, inl tt)

pub returns-in-Ok-clause-none : goal.returns-in-Ok-clause-none
returns-in-Ok-clause-none c is =
    let yes : c.is_no_file.result ≡ true = c.is_no_file.ensures.none is in
    let no : c.is_no_file.result ≡ false = search rules in
    absurd (let e : ◌≡◌ {A = Bool} true false = sym yes ∙ no in cc)
