-- The ranks after a block was cleared.
use Rattle.std.proofs.Common.{ℕ, ◌+◌, ◌≡◌, ◌≢◌, ◌≤◌, ◌<◌, ◌∙◌, inl, inr, refl, sym, arith, Bool, false, IsTrue, List, length, slice_index, slice_set}
use Rattle.std.proofs.lemmas.Bool.{cases_eq, cases_lt, false≢true}
use Rattle.std.proofs.lemmas.List.{get_or-set_same, get_or-set_other, length-set}
use Rattle.zp_tree.specs.Marks.{CanStay, HasLarge, IsLowered, IsReranked}

-- a rank that a block's own is not at least as large as is larger
pub larger : (b : Bool) (k v r : ℕ) → (v ≤ r → IsTrue b) → b ≡ false → r ≡ k + 1 → k + 1 < v
larger b k v r f e same = elim (cases_lt (k + 1) v) [ inl lt ↦ lt | inr ge ↦ absurd (false≢true (sym e ∙ f (omega (arith, same)))) ]

-- the group's rank was reckoned anew
pub reranked : (ls hs rs ts : List ℕ) (x g k : ℕ) → g < length rs → IsReranked ls hs rs ts g → IsLowered ls hs rs ts x x g k
reranked ls hs rs ts x g k room r = rw r.after record {
  size = length-set rs g r.rank;
  stale = inl refl;
  ranks = λ h. elim (cases_eq h g) [
    | inl e ↦ let here : slice_index (slice_set rs g r.rank) g ≡ r.rank = get_or-set_same rs g r.rank 0 room in inl (rw (e, here) r.is)
    | inr ne ↦ inr (get_or-set_other rs g h r.rank 0 ne, λ _. refl, λ e. absurd (ne e))
  ];
}

-- each rank stays
pub unchanged : (ls hs rs : List ℕ) (x g k : ℕ) → CanStay hs x g k (slice_index rs g) → IsLowered ls hs rs rs x x g k
unchanged ls hs rs x g k stay = record { size = refl; stale = inl refl; ranks = λ h. inr (refl, λ _. refl, λ _. stay) }

-- the group became the stale one
pub evicted : (ls hs rs ts : List ℕ) (x y g k : ℕ) → x < length rs → x ≢ g → HasLarge hs g → y ≡ g → IsReranked ls hs rs ts x → IsLowered ls hs rs ts x y g k
evicted ls hs rs ts x y g k room other large same r = rw r.after record {
  size = length-set rs x r.rank;
  stale = inr same;
  ranks = λ h. elim (cases_eq h x) [
    | inl e ↦ let here : slice_index (slice_set rs x r.rank) x ≡ r.rank = get_or-set_same rs x r.rank 0 room in inl (rw (e, here) r.is)
    | inr ne ↦ inr (get_or-set_other rs x h r.rank 0 ne, λ e. absurd (ne e), λ _. inr (large, inr same))
  ];
}
