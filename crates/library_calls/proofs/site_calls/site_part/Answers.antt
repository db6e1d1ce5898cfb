use Rattle.std.proofs.Common.{inl, inr, refl}
use Rattle.library_calls.proofs.site_calls.site_part.Goals as goal

pub returns-in-File : goal.returns-in-File
returns-in-File c = let it = c.show_file_part.ensures in (c.let_go.ensures, inr (inl (_, _, c.in-File.is, refl, it.table, it.owed, it.shows)))
