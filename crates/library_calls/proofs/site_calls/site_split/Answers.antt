use Rattle.std.proofs.Common.{inl, inr, refl}
use Rattle.library_calls.proofs.site_calls.site_split.Goals as goal

pub returns-in-File : goal.returns-in-File
returns-in-File c = (c.let_go.ensures, inr (inl (_, _, c.in-File.is, c.in-File.is, refl, refl, c.show_split-in-File.ensures)))
