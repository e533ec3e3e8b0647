use Rattle.std.proofs.Common.{ℕ, ◌≡◌, ◌≢◌, ◌++◌, List}
use Rattle.std.specs.Borrow.{Bor}
use Rattle.std.proofs.lemmas.Bool.Decides.{Decides-eqb}
use Rattle.std.proofs.lemmas.Slice.Eq.{strip_prefix_is}
use Rattle.zp_events.proofs.Options.{of_some, of_none}
use Rattle.zp_events.proofs.words.behind.Goals as goal

-- the text does not begin so
abbrev Lacks : List ℕ → List ℕ → Type 0
Lacks text front = (rest : List ℕ) → text ≢ front ++ rest

-- this stands behind the front
abbrev Behind : List ℕ → List ℕ → Bor (List ℕ) → Type 0
Behind text front rest = text ≡ front ++ rest.now

pub returns-clause-some : goal.returns-clause-some
returns-clause-some c =
    of_some c.strip_prefix.result (Lacks c.args.text.now c.args.front.now) (Behind c.args.text.now c.args.front.now) (strip_prefix_is Decides-eqb c.args.text.now c.args.front.now c.strip_prefix.result c.strip_prefix.ensures.cases)

pub returns-clause-none : goal.returns-clause-none
returns-clause-none c =
    of_none c.strip_prefix.result (Lacks c.args.text.now c.args.front.now) (Behind c.args.text.now c.args.front.now) (strip_prefix_is Decides-eqb c.args.text.now c.args.front.now c.strip_prefix.result c.strip_prefix.ensures.cases)
