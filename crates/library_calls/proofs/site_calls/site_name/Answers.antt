use Rattle.std.proofs.Common.{inl, inr, refl}
use Rattle.library_calls.proofs.site_calls.site_name.Goals as goal

pub returns-in-File : goal.returns-in-File
returns-in-File c = let it = c.tell_file_name.ensures in (c.let_go.ensures, inr (inl (_, _, c.in-File.is, refl, it.table, it.owed, ((it.site, refl), it.tells))))
