use Rattle.std.proofs.Common.{ℕ, ◌+◌, ◌*◌, ◌/◌, ◌%◌, ◌≡◌, ◌∙◌, inl, inr, subst, sym, ap, arith, slice_index}
use Rattle.std.proofs.lemmas.Bool.{cases_eq}
use Rattle.zp_tree.specs.declared.constants.TheConstants.{PLACES}
use Rattle.zp_tree.specs.Words.{Has}
use Rattle.zp_tree.specs.Marks.{HasLow}
use Rattle.zp_tree.proofs.GroupBlocks.{level_low, low_of, low_has}
use Rattle.zp_tree.proofs.groups.first_low.Goals.{After-read}
use Rattle.zp_tree.proofs.groups.first_low.Goals as goal

-- the word that is read
read : (c : After-read) → c.read.result ≡ slice_index c.args.low.now (PLACES * c.args.group + c.words.word)
read c =
    c.read.ensures.node 0 ∙ ap (λ r. slice_index c.args.low.now (r + c.words.word)) c.first_word-first.ensures

-- a block that starts in it
here : (c : After-read) (i o : ℕ) → HasLow c.args.low.now i o → i / PLACES ≡ PLACES * c.args.group + c.words.word → Has c.read.result (i % PLACES) o
here c i o h e = let P : ℕ → Type 0 = λ w. Has w (i % PLACES) o in subst P (ap (slice_index c.args.low.now) e ∙ sym (read c)) (low_has c.args.low.now i o h)

pub returns-in-Some-clause-first : goal.returns-in-Some-clause-first
returns-in-Some-clause-first c =
    let w = (goal.at.returns-in-Some-clause-first c).After-read in
    let r = PLACES * c.args.group + c.words.word in
    let f = c.in-Some.ensures in
    let P : ℕ → Type 0 = λ v. Has v c.in-Some.place c.in-Some.level in
    let y = subst P (read w) f.0 in
    let small = level_low c.args.low.now r _ _ c.requires.alone (omega (arith, c.requires.inside)) y in
    let h = low_of c.args.low.now r c.in-Some.place c.in-Some.level c.at-at.result (omega (arith, c.requires.inside)) small y (omega (arith, c.at-at.ensures, c.first_word-first.ensures)) in (
      rw c.in_ok-new.ensures.some h.0,
      omega (arith, h.1),
      omega (arith, h.1),
      omega (arith, f.1, c.number.ensures.same, c.in_ok-new.ensures.some),
      λ i o y lo before.
          elim (cases_eq (i / PLACES) r) [
            | inl e ↦ omega (arith, f.2 (i % PLACES) o (here w i o y e) (omega (arith, c.at-at.ensures, c.first_word-first.ensures, e)), c.number.ensures.same)
            | inr ne ↦ c.words.invariant.none i o y lo (omega (arith, h.1, before, ne))
          ],
    )

pub words-preserved : goal.words-preserved
words-preserved c =
    let w = (goal.at.words-preserved c).After-read in
    record {
      none = λ i o y lo hi. elim (cases_eq (i / PLACES) (PLACES * c.args.group + c.words.word)) [
        | inl e ↦ omega (arith, c.in_default.ensures (i % PLACES) o (here w i o y e), c.number.ensures.same)
        | inr ne ↦ c.words.invariant.none i o y lo (omega arith)
      ];
      counted = omega (arith, c.read.ensures.counted, c.words.invariant.counted);
    }
