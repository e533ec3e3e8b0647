use Rattle.std.proofs.Common.{ℕ, ◌*◌, ◌+◌, ◌/◌, ◌≡◌, ◌∙◌, ap, arith, refl, slice_index, sym, true, eqb, Option, None, Some}
use Rattle.std.specs.Option.{option_eq}
use Rattle.std.proofs.lemmas.Bool.{eqb-true, false≢true}
use Rattle.zp_tree.specs.declared.constants.TheConstants.{PLACES}
use Rattle.zp_tree.proofs.GroupBlocks.{low_of}
use Rattle.zp_tree.proofs.groups.has_in_word.Goals as goal

option_is : (o : Option ℕ) (k : ℕ) → option_eq eqb o (Some k) ≡ true → o ≡ Some k
option_is None k e = absurd (false≢true e)
option_is (Some j) k e = ap (λ n. Some n) (eqb-true j k e)

-- a block of the word is one of its group
pub returns-then-number-lt-WORD_LEVELS : goal.returns-then-number-lt-WORD_LEVELS
returns-then-number-lt-WORD_LEVELS c = λ on.
    let r : ℕ = c.args.at / PLACES in
    let read : c.read.result ≡ slice_index c.args.low.now (c.args.at / PLACES) = c.read.ensures.node 0 ∙ ap (slice_index c.args.low.now) c.low_word.ensures in
    let e : c.largest.result ≡ Some c.args.order = option_is c.largest.result c.number-then-number-lt-WORD_LEVELS.result (sym c.eq.ensures ∙ on) ∙ ap (λ n. Some n) c.number-then-number-lt-WORD_LEVELS.ensures.same in
    let w = (rw (e, read) at c.largest.ensures).0 in
    let h = low_of c.args.low.now (c.args.at / PLACES) w.0 c.args.order (PLACES * (c.args.at / PLACES) + w.0) c.requires (omega arith) w.1 refl in
    (PLACES * (c.args.at / PLACES) + w.0, h.0, h.1)
