-- A status tree whose stale rank was mended.
use Rattle.std.proofs.Common.{ℕ, ◌≡◌, ◌≤◌, ◌<◌, inl, inr, refl, arith, zero, suc, List, length, slice_index, slice_set, Option}
use Rattle.std.proofs.lemmas.List.{get_or-set_same, length-set}
use Rattle.zp_tree.specs.Marks.{IsFit, IsRankBound, IsRankOf, IsReranked}
use Rattle.zp_tree.specs.Spelled.{IsRankIn, IsTreeOf}
use Rattle.zp_tree.proofs.Ranked.{IsInside, IsChangedIn, rank_in, ranks_set}
use Rattle.zp_tree.proofs.Spelling.{block_in_groups}
use Rattle.zp_tree.proofs.TreeReads.{IsServing}
use Rattle.zp_tree.proofs.TreeSteps.{another}

-- the rank of a group is within its bound
pub within_bound : (ls hs : List ℕ) (g q r : ℕ) → IsRankOf ls hs g r → IsRankBound ls hs g q → r ≤ q
within_bound ls hs g q zero x b = omega arith
within_bound ls hs g q (suc k) x b = let w = x.some k (omega arith) in omega (arith, b w.0 k w.1 w.2)

unchanged : (s : List (Option ℕ)) (g k : ℕ) → IsChangedIn s s g k
unchanged s g k = record { others = λ i ne. refl; larger = λ i o more. (λ st. st, λ st. st) }

-- it is a tree of the same set, with no stale rank
pub mended_tree : (m pages : ℕ) (ls hs rs ts : List ℕ) (x : ℕ) (s : List (Option ℕ)) → IsTreeOf m pages ls hs rs x s → IsReranked ls hs rs ts x → IsTreeOf m pages ls hs ts x s × IsRankIn s x (slice_index ts x)
mended_tree m pages ls hs rs ts x s t r =
    let inside : IsInside hs s = λ i o. block_in_groups m pages ls hs rs x s i o t in
    let exact : IsRankIn s x r.rank = rank_in ls hs s x r.rank t.marked inside r.is in
    let room : x < length rs = omega (arith, t.stale, t.rows) in
    let here : slice_index (slice_set rs x r.rank) x ≡ r.rank = get_or-set_same rs x r.rank 0 room in
    rw r.after (
      another m pages ls hs rs ls hs (slice_set rs x r.rank) x x s s t t.words refl (length-set rs x r.rank) refl t.set t.marked t.stale (ranks_set rs s s x 0 x r.rank t.ranked (unchanged s x 0) room (inl exact)),
      rw here exact,
    )

-- it serves the search that it was mended for
pub fit_tree : (m pages : ℕ) (ls hs rs ts : List ℕ) (x : ℕ) (s : List (Option ℕ)) (k : ℕ) → IsTreeOf m pages ls hs rs x s → IsFit ls hs rs ts x k → IsTreeOf m pages ls hs ts x s × IsServing ts x s k
fit_tree m pages ls hs rs ts x s k t (inl y) = rw y.1 (t, inl y.0)
fit_tree m pages ls hs rs ts x s k t (inr y) = let z = mended_tree m pages ls hs rs ts x s t y in (z.0, inr z.1)
