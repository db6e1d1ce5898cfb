-- Openings that are refused, and the commands that aren't begun.
use Rattle.std.proofs.Common.{◌≡◌, ◌∙◌, Result, Ok, Err, IfErr, IfOk, IsOk, ap, inl, inr, subst, sym}
use Rattle.std.specs.Prelude.{MatchResult}
use Rattle.std.proofs.lemmas.Result.{IfErr-weaker}
use Rattle.databases.specs.Fault.{IsOfNamed, OrOfNamed}
use Rattle.databases.specs.Trouble.{IsOfOpening}
use Rattle.databases.specs.declared.fault.CommandFault.{CommandFault}
use Rattle.databases.specs.declared.trouble.Trouble.{Trouble}
use Rattle.databases.specs.declared.trouble.Trouble.TheVariants as trouble

none_refused : {A F : Type 0} (r : Result A F) (P : F → Type 0) → IsOk r → IfErr r P
none_refused (Ok x) P ok = tt
none_refused (Err f) P ok = absurd (cc)

pub refused_on : {A B F : Type 0} (opened : Result A F) (r : Result B F) (P : F → Type 0) → MatchResult opened (λ _. IsOk r) (λ why. r ≡ Err why) → IfErr opened P → IfErr r P
refused_on (Ok x) r P is h = none_refused r P is
refused_on (Err f) r P is h = subst (λ z. IfErr z P) (sym is) h

-- nor is anything else answered than why
pub same_on : {A B F : Type 0} (opened : Result A F) (r : Result B F) (f : F) → MatchResult opened (λ _. IsOk r) (λ why. r ≡ Err why) → opened ≡ Err f → r ≡ Err f
same_on {A} {B} {F} (Ok x) r f is h = absurd (let e : ◌≡◌ {A = Result A F} (Ok x) (Err f) = h in cc)
same_on {A} {B} {F} (Err why) r f is h = is ∙ (let e : ◌≡◌ {A = Result A F} (Err why) (Err f) = h in let at : why ≡ f = cc in ap Err at)

-- what is met at an opening isn't that the name is none
pub opens_name : (why : Trouble) → IsOfOpening why → why ≡ trouble.NoFile → ⊥
opens_name why opening is = subst IsOfOpening is opening

-- what a command that was carried out or wasn't begun is refused for
pub closed_fails : {X A : Type 0} (ended : Result X CommandFault) (outcome : X → Result A CommandFault) (result : Result A CommandFault) (Fails : CommandFault → Type 0)
    → MatchResult ended (λ e. result ≡ outcome e) (λ f. result ≡ Err f) → IfOk ended (λ e. IfErr (outcome e) Fails) → IfErr ended IsOfNamed → IfErr result (OrOfNamed Fails)
closed_fails (Ok e) outcome result Fails is fails named = subst (λ r. IfErr r (OrOfNamed Fails)) (sym is) (IfErr-weaker (outcome e) _ _ (λ f so. inl so) fails)
closed_fails (Err f) outcome result Fails is fails named = subst (λ r. IfErr r (OrOfNamed Fails)) (sym is) (inr named)

-- so a command isn't begun
pub not_begun : {A B F : Type 0} (opened : Result A F) (r : Result B F) (f : F) (x : B) → MatchResult opened (λ _. IsOk r) (λ why. r ≡ Err why) → opened ≡ Err f → r ≡ Ok x → ⊥
not_begun {A} {B} {F} opened r f x begun none is = let e : ◌≡◌ {A = Result B F} (Ok x) (Err f) = sym is ∙ same_on opened r f begun none in cc
