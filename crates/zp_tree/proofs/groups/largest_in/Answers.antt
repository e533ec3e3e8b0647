use Rattle.std.proofs.Common.{ℕ, ◌+◌, ◌-◌, ◌*◌, ◌/◌, ◌%◌, ◌^◌, ◌≡◌, ◌≤◌, ◌<◌, ◌∙◌, sym, ap, arith, slice_index, Option, Some, None}
use Rattle.std.proofs.Math.Pow.{pow_mono}
use Rattle.zp_tree.specs.declared.constants.TheConstants.{PLACES, WORD_LEVELS, GROUP_PAGES}
use Rattle.zp_tree.specs.Words.{IsLargestIn, IsUnion}
use Rattle.zp_tree.specs.Marks.{order_at}
use Rattle.zp_tree.proofs.Places.{low_place, high_place}
use Rattle.zp_tree.proofs.LargestMarks.{largest_small, largest_large, largest_rest, run_words}
use Rattle.zp_tree.proofs.groups.largest_in.Goals.{After-largest_in-2, After-low_word-2, After-union}
use Rattle.zp_tree.proofs.groups.largest_in.Goals as goal

pub largest_in-requires : goal.largest_in-requires
largest_in-requires c = rw (c.low_place.ensures.place, c.number-level.ensures.same) (low_place c.args.high.now c.args.at c.args.order c.requires.aligned (omega arith)).place

pub returns-then-level-lt-WORD_LEVELS : goal.returns-then-level-lt-WORD_LEVELS
returns-then-level-lt-WORD_LEVELS c =
    let lt : c.args.order < WORD_LEVELS = omega arith in
    let read : c.read-word.result ≡ slice_index c.args.low.now (c.args.at / PLACES) =
    c.read-word.ensures.node 0 ∙ ap (slice_index c.args.low.now) c.low_word.ensures in
    let m : IsLargestIn (slice_index c.args.low.now (c.args.at / PLACES)) (c.args.at % PLACES) c.args.order c.largest_in.result = rw (read, c.low_place.ensures.place, c.number-level.ensures.same) at c.largest_in.ensures in
    rw c.order_of.ensures (largest_small c.args.low.now c.args.high.now c.args.at c.args.order c.largest_in.result c.requires.words c.requires.aligned lt m)

pub largest_in-requires-2 : goal.largest_in-requires-2
largest_in-requires-2 c = rw (c.high_place.ensures.place, c.number-level.ensures.same) (high_place c.args.high.now c.args.at c.args.order c.requires.aligned (omega arith)).place

-- what the high word has
high : (c : After-largest_in-2) → IsLargestIn (slice_index c.args.high.now (c.args.at / GROUP_PAGES)) (c.args.at / PLACES % PLACES) (c.args.order - WORD_LEVELS) c.largest_in-2.result
high c =
    let read : c.read-word-2.result ≡ slice_index c.args.high.now (c.args.at / GROUP_PAGES) =
    c.read-word-2.ensures.node 0 ∙ ap (slice_index c.args.high.now) c.group_of.ensures in
    rw (read, c.high_place.ensures.place, c.number-level.ensures.same) at c.largest_in-2.ensures

-- an order is told where a level is
told : (q : Option ℕ) (w p l : ℕ) (o : ℕ) → order_at q WORD_LEVELS ≡ Some o → IsLargestIn w p l q → (j : ℕ) × (o ≡ j + WORD_LEVELS) × IsLargestIn w p l (Some j)
told None w p l o e m = absurd cc
told (Some j) w p l o e m = (j, cc, m)

untold : (q : Option ℕ) (w p l : ℕ) → order_at q WORD_LEVELS ≡ None → IsLargestIn w p l q → IsLargestIn w p l None
untold None w p l e m = m
untold (Some j) w p l e m = absurd cc

pub returns-in-Some : goal.returns-in-Some
returns-in-Some c =
    let t = told c.largest_in-2.result _ _ _ c.in-Some.order (sym c.order_of-2.ensures ∙ c.in-Some.is) (high (goal.at.returns-in-Some c).After-largest_in-2) in
    rw t.1 (largest_large c.args.low.now c.args.high.now c.args.at c.args.order t.0 c.requires.aligned (omega arith) t.2)

words : (c : After-low_word-2) → (c.low_word-2.result ≡ c.args.at / PLACES) × (1 * 2 ^ (c.number-level.result - 5) % 18446744073709551616 ≡ 2 ^ (c.args.order - WORD_LEVELS))
words c =
    let le : 2 ^ (c.args.order - WORD_LEVELS) ≤ 2 ^ WORD_LEVELS = pow_mono {i = c.args.order - WORD_LEVELS} {j = WORD_LEVELS} (omega (arith, c.requires.aligned.order)) in
    let e : 2 ^ (c.number-level.result - 5) ≡ 2 ^ (c.args.order - WORD_LEVELS) = ap (λ n. 2 ^ (n - 5)) c.number-level.ensures.same in
    (c.low_word-2.ensures, omega (arith, e, le))

pub union-requires-clause-inside : goal.union-requires-clause-inside
union-requires-clause-inside c = let w = words (goal.at.union-requires-clause-inside c).After-low_word-2 in omega (arith, w.0, w.1, run_words c.args.low.now c.args.high.now c.args.at c.args.order c.requires.words c.requires.aligned (omega arith))

pub returns : goal.returns
returns c =
    let w = words (goal.at.returns c).After-low_word-2 in
    let u : IsUnion c.args.low.now (c.args.at / PLACES) (2 ^ (c.args.order - WORD_LEVELS)) c.union.result = rw (w.0, w.1) at c.union.ensures.union in
    let none = untold c.largest_in-2.result _ _ _ (sym c.order_of-2.ensures ∙ c.in_default.is) (high (goal.at.returns c).After-largest_in-2) in
    rw c.order_of-3.ensures (largest_rest c.args.low.now c.args.high.now c.args.at c.args.order c.union.result c.largest.result c.requires.words c.requires.aligned (omega arith) none u c.largest.ensures)
