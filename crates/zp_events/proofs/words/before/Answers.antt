use Rattle.std.proofs.Common.{ℕ, ◌≡◌, ◌≢◌, ◌++◌, List}
use Rattle.std.specs.Borrow.{Bor}
use Rattle.std.proofs.lemmas.Bool.Decides.{Decides-eqb}
use Rattle.std.proofs.lemmas.Slice.Eq.{strip_suffix_is}
use Rattle.zp_events.proofs.Options.{of_some, of_none}
use Rattle.zp_events.proofs.words.before.Goals as goal

-- the text does not end so
abbrev Lacks : List ℕ → List ℕ → Type 0
Lacks text end = (front : List ℕ) → text ≢ front ++ end

-- this stands before the end
abbrev Before : List ℕ → List ℕ → Bor (List ℕ) → Type 0
Before text end front = text ≡ front.now ++ end

pub returns-clause-some : goal.returns-clause-some
returns-clause-some c =
    of_some c.strip_suffix.result (Lacks c.args.text.now c.args.end.now) (Before c.args.text.now c.args.end.now) (strip_suffix_is Decides-eqb c.args.text.now c.args.end.now c.strip_suffix.result c.strip_suffix.ensures.cases)

pub returns-clause-none : goal.returns-clause-none
returns-clause-none c =
    of_none c.strip_suffix.result (Lacks c.args.text.now c.args.end.now) (Before c.args.text.now c.args.end.now) (strip_suffix_is Decides-eqb c.args.text.now c.args.end.now c.strip_suffix.result c.strip_suffix.ensures.cases)
