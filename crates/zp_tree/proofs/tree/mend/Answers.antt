use Rattle.std.proofs.Common.{ℕ, ◌≡◌, subst, sym, inl, inr, arith, slice_index, Some, None}
use Rattle.std.proofs.lemmas.List.{set-get_or}
use Rattle.zp_tree.specs.declared.constants.TheConstants.{WORD_LEVELS}
use Rattle.zp_tree.specs.Words.{IsLargestIn}
use Rattle.zp_tree.specs.Marks.{HasLarge, IsRankOf}
use Rattle.zp_tree.proofs.FirstBlocks.{near_bound}
use Rattle.zp_tree.proofs.GroupBlocks.{none_large, rank_of_high}
use Rattle.zp_tree.proofs.Mended.{within_bound}
use Rattle.zp_tree.proofs.tree.mend.Goals.{After-of_number-rank, In_default}
use Rattle.zp_tree.proofs.tree.mend.Goals as goal

-- the rank by the high word
exact : (c : After-of_number-rank) → IsRankOf c.args._low.now c.args.high.now c.args.stale c.of_number-rank.result
exact c =
    let P : ℕ → Type 0 = λ w. IsLargestIn w 0 WORD_LEVELS (Some c.in-Some.level) in
    rank_of_high _ _ _ c.in-Some.level _ c.requires.words c.requires.group (subst P (c.read.ensures.node 0) c.in-Some.ensures) c.of_number-rank.ensures

pub returns-then-not-is_at_least-clause-mended : goal.returns-then-not-is_at_least-clause-mended
returns-then-not-is_at_least-clause-mended c = record { rank = c.of_number-rank.result; after = c.put.ensures; is = exact (goal.at.returns-then-not-is_at_least-clause-mended c).After-of_number-rank }

pub returns-else-not-is_at_least-clause-mended : goal.returns-else-not-is_at_least-clause-mended
returns-else-not-is_at_least-clause-mended c =
    let e = exact (goal.at.returns-else-not-is_at_least-clause-mended c).After-of_number-rank in
    let below = within_bound _ _ _ _ _ e (near_bound _ _ _ _ c.requires.near) in
    let same : c.of_number-rank.result ≡ slice_index c.args.ranks.now c.args.stale = omega (arith, below, c.is_at_least.ensures.0 c.if-not-is_at_least.false, c.read-in-Some.ensures.rank) in
    record { rank = slice_index c.args.ranks.now c.args.stale; after = sym (set-get_or c.args.ranks.now c.args.stale 0); is = rw (← same) e }

-- no block stands in the high word, and the rank is exact
none : (c : In_default) → HasLarge c.args.high.now c.args.stale → ⊥
none c = let P : ℕ → Type 0 = λ w. IsLargestIn w 0 WORD_LEVELS None in none_large c.args.high.now c.args.stale (subst P (c.read.ensures.node 0) c.in_default.ensures)

pub returns-in_default-clause-both : goal.returns-in_default-clause-both
returns-in_default-clause-both c l = absurd (none (goal.at.returns-in_default-clause-both c).In_default l)

pub returns-in_default-clause-mended : goal.returns-in_default-clause-mended
returns-in_default-clause-mended c =
    record {
      rank = slice_index c.args.ranks.now c.args.stale;
      after = sym (set-get_or c.args.ranks.now c.args.stale 0);
      is = elim c.requires.near [ inl exact ↦ exact | inr z ↦ absurd (none (goal.at.returns-in_default-clause-mended c).In_default z.1) ];
    }
