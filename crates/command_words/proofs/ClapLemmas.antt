-- What clap's rule for a command says once the command is known.
use Rattle.std.proofs.Common.{◌≡◌, ℕ, List, [], Bool, true, false, ◌&&◌, refl, sym, ap, ◌∙◌, ◌≢◌, inl, inr, subst}
use Rattle.std.specs.Prelude.{codes, if◌then◌else◌}
use Rattle.std.specs.Str.{bytes_eq}
use Rattle.clap.specs.Words.{App, HasKind, HasMatchesOf, IsAmong, Text, fault_of, kind_of, found_of, is_simple, is_simple_and_free, matches_of, rows_of}
use Rattle.clap.specs.declared.parser.matches.ArgMatches.{ArgMatches}
use Rattle.clap.specs.declared.error.Error.{Error}
use Rattle.clap.specs.declared.error.kind.ErrorKind.TheVariants as kind
use Rattle.command_words.specs.declared.fault.Faulty.{Faulty}
use Rattle.command_words.specs.declared.fault.Faulty.TheVariants.{OutOfMemory, Words}
use Rattle.command_words.specs.Commands.{app_for, word_of}
use Rattle.command_words.specs.Plans.{Blames}
use Rattle.command_words.specs.declared.command.Command.{Command}
use Rattle.command_words.specs.declared.command.Command.TheVariants.{Arrivals, Ask, Check, Combine, Delta, Follow, Number, Order, Part, Relay, Run, Scrub, Service, Summary, Take}
use Rattle.views.specs.declared.query.Query.TheVariants.{Conflicts, Cover, Days, Gaps, Kinds, Latest, Shown}

-- what a command that is b matched at the words
pub rows_by : (a b : App) (words ws : List Text) (m : ArgMatches) → a ≡ b → ws ≡ words → is_simple b ≡ true
    → HasMatchesOf a ws m → rows_of (found_of m) ≡ matches_of b words
rows_by a b words ws m e w s h = (h (ap is_simple e ∙ s)).0 ∙ (ap (λ x. matches_of x ws) e ∙ ap (λ x. matches_of b x) w)

-- where a command that is b answered, it finds no fault
pub fault_by : (a b : App) (words ws : List Text) → a ≡ b → ws ≡ words → is_simple_and_free b ≡ true
    → (is_simple_and_free a ≡ true → fault_of a ws ≡ []) → fault_of b words ≡ []
fault_by a b words ws e w s h = sym (ap (λ x. fault_of x ws) e ∙ ap (λ x. fault_of b x) w) ∙ h (ap is_simple_and_free e ∙ s)

-- where a command that is b refused the words for another cause than memory, it finds a fault
pub refused_by : (a b : App) (words ws : List Text) (e : Error) → a ≡ b → ws ≡ words → is_simple_and_free b ≡ true
    → (is_simple_and_free a ≡ true → HasKind (fault_of a ws) e) → kind_of e ≢ kind.OutOfMemory → fault_of b words ≢ []
refused_by a b words ws e at given s h memory none =
    let empty : fault_of a ws ≡ [] = (ap (λ x. fault_of x ws) at ∙ ap (λ x. fault_of b x) given) ∙ none in
    elim (h (ap is_simple_and_free at ∙ s)) [ inl m ↦ memory m | inr among ↦ subst (IsAmong (kind_of e)) empty among ]

-- one fault is blamed where another is
pub Blames-weaker : (F G : Type 0) (e : Faulty) → (F → G) → Blames F e → Blames G e
Blames-weaker F G OutOfMemory f h = h
Blames-weaker F G (Words text is_help) f h = f h

-- a command's rule is one that clap's contracts speak of
pub app_for-simple : (command : Command) → is_simple_and_free (app_for command) ≡ true
app_for-simple (Ask query) = refl
app_for-simple Check = refl
app_for-simple Summary = refl
app_for-simple Take = refl
app_for-simple Follow = refl
app_for-simple Delta = refl
app_for-simple Scrub = refl
app_for-simple Arrivals = refl
app_for-simple Run = refl
app_for-simple Service = refl
app_for-simple Order = refl
app_for-simple Relay = refl
app_for-simple Number = refl
app_for-simple Part = refl
app_for-simple Combine = refl

-- the command of a word, where it is one
abbrev of_word : List ℕ → Command
of_word word =
    if bytes_eq word (codes "cover") then Ask Cover else if bytes_eq word (codes "gaps") then Ask Gaps
    else if bytes_eq word (codes "shown") then Ask Shown else if bytes_eq word (codes "latest") then Ask Latest
    else if bytes_eq word (codes "kinds") then Ask Kinds else if bytes_eq word (codes "days") then Ask Days
    else if bytes_eq word (codes "conflicts") then Ask Conflicts else if bytes_eq word (codes "take") then Take
    else if bytes_eq word (codes "follow") then Follow else if bytes_eq word (codes "check") then Check
    else if bytes_eq word (codes "summary") then Summary
    else if bytes_eq word (codes "delta") then Delta else if bytes_eq word (codes "scrub") then Scrub
    else if bytes_eq word (codes "arrivals") then Arrivals
    else if bytes_eq word (codes "service") then Service
    else if bytes_eq word (codes "order") then Order
    else if bytes_eq word (codes "run") then Run
    else if bytes_eq word (codes "relay") then Relay else if bytes_eq word (codes "part") then Part
    else if bytes_eq word (codes "combine") then Combine else Number

of_word_back : (command : Command) → of_word (word_of command) ≡ command
of_word_back (Ask Cover) = refl
of_word_back (Ask Gaps) = refl
of_word_back (Ask Shown) = refl
of_word_back (Ask Latest) = refl
of_word_back (Ask Kinds) = refl
of_word_back (Ask Days) = refl
of_word_back (Ask Conflicts) = refl
of_word_back Check = refl
of_word_back Summary = refl
of_word_back Take = refl
of_word_back Follow = refl
of_word_back Delta = refl
of_word_back Scrub = refl
of_word_back Arrivals = refl
of_word_back Run = refl
of_word_back Service = refl
of_word_back Order = refl
of_word_back Relay = refl
of_word_back Number = refl
of_word_back Part = refl
of_word_back Combine = refl

-- commands of one word are one
pub command_by_word : (a b : Command) → word_of a ≡ word_of b → a ≡ b
command_by_word a b same = sym (of_word_back a) ∙ (ap of_word same ∙ of_word_back b)

both_left : (a b : Bool) → (a && b) ≡ true → a ≡ true
both_left true b h = refl
both_left false b h = h

-- a rule of which clap's contracts speak is one of which the walk's do
pub is_simple_by : (a : App) → is_simple_and_free a ≡ true → is_simple a ≡ true
is_simple_by a h = both_left (is_simple a) _ h
