use Rattle.std.proofs.Common.{ℕ, ◌≡◌, List, map, arith, sym, ◌∙◌, take_all, subst, ◌<◌, ◌^◌}
use Rattle.std.specs.Fmt.{decimal}
use Rattle.std.proofs.lemmas.List.{length-map}
use Rattle.zp_buddyinfo.specs.Figures.{AreFreeBlocks}
use Rattle.zp_buddyinfo.specs.Rows.{spelled}
use Rattle.zp_buddyinfo.proofs.WordLists.{at_none, none_weaker, blocks_small, all_at, all_push, decimals_same, word_of_block, number_more}
use Rattle.zp_buddyinfo.proofs.row.blocks_of.Goals as goal

-- no blocks have these words
abbrev NoBlocks : List (List ℕ) → Type 0
NoBlocks words = (blocks : List ℕ) → AreFreeBlocks blocks → words ≡ map decimal blocks → ⊥

pub returns-in_err-parse_u64-clause-none : goal.returns-in_err-parse_u64-clause-none
returns-in_err-parse_u64-clause-none c =
    at_none _ {P = NoBlocks (spelled c.args.words.now)} (λ blocks are e.
    let word = word_of_block c.args.words.now _ c.loop-word.word-index blocks e c.loop-word-test.true in
    c.in_err-parse_u64.ensures.none _ (all_at (λ n. n < 2 ^ 64) blocks c.loop-word.word-index word.0 (blocks_small blocks are)) word.1)

pub loop-word-preserved : goal.loop-word-preserved
loop-word-preserved c = record {
  written = number_more c.args.words.now _ _ _ _ _ c.loop-word-test.true c.loop-word.invariant.written c.push.ensures.items c.in_ok-parse_u64.ensures.some;
  small = all_push (λ n. n < 2 ^ 64) _ _ _ c.push.ensures.items c.loop-word.invariant.small c.in_ok-parse_u64.ensures.fits;
  as_many = omega (arith, c.push.ensures.len, c.loop-word.invariant.as_many);
}

pub returns-clause-none : goal.returns-clause-none
returns-clause-none c =
    none_weaker c.new.result {Q = NoBlocks (spelled c.args.words.now)} (λ no blocks are e.
    let all : map decimal c.loop-word.by_order.items ≡ map decimal blocks = c.loop-word.invariant.written ∙ take_all _ _ (omega (arith, c.loop-word-test.false, length-map c.args.words.now (λ w. w.now))) ∙ e in
    no (subst AreFreeBlocks (sym (decimals_same c.loop-word.by_order.items blocks c.loop-word.invariant.small (blocks_small blocks are) all)) are)) c.new.ensures.none
