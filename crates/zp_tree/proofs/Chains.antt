-- The bits of a chain of buddies: as the table of a word's nodes has them, cut at a level, and put into a word or taken out of it.
use Rattle.std.proofs.Common.{ℕ, zero, suc, ◌+◌, ◌-◌, ◌/◌, ◌%◌, ◌^◌, ◌≡◌, ◌≤◌, ◌<◌, Bool, true, eqb, eqb-true, inl, inr, refl, sym, ◌∙◌, ap, arith, slice_index, bit_and, bit_or, bit_xor, w64}
use Rattle.std.specs.Int.{bit_at, bit_not}
use Rattle.std.proofs.lemmas.Bool.{cases_lt, cases_eq, agree_below_at}
use Rattle.std.proofs.lemmas.Nat.{shr-shr, shr_split, shr_below}
use Rattle.std.proofs.lemmas.Nat.Bits.{bit_at_and, bit_at_or, bit_at_not, bit_at_xor, bit_at-lt, bit_at-zero}
use Rattle.std.proofs.Math.Pow.{pow_mono}
use Rattle.zp_model.proofs.Heads.{two, aligned_down}
use Rattle.zp_tree.specs.declared.buddies.TheConstants.{BUDDIES}
use Rattle.zp_tree.specs.declared.constants.TheConstants.{PLACES, WORD_LEVELS}
use Rattle.zp_tree.specs.Blocks.{buddy}
use Rattle.zp_tree.specs.Words.{node, IsPlace, IsMarked, IsChain, IsHalved, IsPaired, IsUnpaired}
use Rattle.zp_tree.proofs.Nodes.{node_is, node_within}
use Rattle.zp_tree.proofs.WordBits.{set_bit, set_marks, set_keeps_none}
use Rattle.zp_tree.proofs.BuddyPlaces.{buddy_place, buddy_node, place_inside}

entry : ℕ → ℕ
entry n = slice_index BUDDIES n

-- the entry of node n + 2 is that of the node above it with the bit of its buddy
adds_buddy : ℕ → Bool
adds_buddy n = eqb (entry (n + 2)) (set_bit (entry ((n + 2) / 2)) (bit_xor (n + 2) 1))

none_above : entry 1 ≡ 0
unfolding entry
none_above = refl

each_entry : (n : ℕ) → 2 ≤ n → n < 64 → entry n ≡ set_bit (entry (n / 2)) (bit_xor n 1)
unfolding adds_buddy entry
each_entry n lo hi =
    let e : (n - 2) + 2 ≡ n = omega arith in
    let t : entry ((n - 2) + 2) ≡ set_bit (entry (((n - 2) + 2) / 2)) (bit_xor ((n - 2) + 2) 1) = eqb-true _ _ (agree_below_at adds_buddy (λ _. true) 62 (n - 2) refl (omega arith)) in
    rw e at t

-- half of a node's number is that of the node above it
node_above : (p k : ℕ) → node p k / 2 ≡ node p (k + 1)
node_above p k = shr-shr (PLACES + p) k 1

around_within : (p k : ℕ) → p < PLACES → k ≤ WORD_LEVELS → (2 ^ (WORD_LEVELS - k) ≤ node p k) × (node p k < 2 ^ (WORD_LEVELS - k + 1))
around_within p k lt le =
    let e : WORD_LEVELS ≡ (WORD_LEVELS - k) + k = omega arith in
    let b : p < 2 ^ WORD_LEVELS = lt in
    let s : p / 2 ^ k < 2 ^ (WORD_LEVELS - k) = shr_below p (WORD_LEVELS - k) k (rw (← e) b) in
    (omega (arith, node_is p k le), omega (arith, node_is p k le, s, two (WORD_LEVELS - k)))

entry_marked : (p k : ℕ) → p < PLACES → k < WORD_LEVELS → IsMarked (entry (node p (k + 1))) (entry (node p k)) (buddy p k) k 1 × (bit_at (entry (node p (k + 1))) 0 ≡ 0 → bit_at (entry (node p k)) 0 ≡ 0)
entry_marked p k lt few =
    let low : 2 ^ 1 ≤ 2 ^ (WORD_LEVELS - k) = pow_mono {i = 1} {j = WORD_LEVELS - k} (omega arith) in
    let e : entry (node p k) ≡ set_bit (entry (node p (k + 1))) (bit_xor (node p k) 1) =
    each_entry (node p k) (omega (arith, around_within p k lt (omega arith), low)) (place_inside p k lt (omega arith)) ∙ ap (λ n. set_bit (entry n) (bit_xor (node p k) 1)) (node_above p k) in
    let b = buddy_place p k lt few in
    let n = sym (buddy_node p k lt few) in
    (rw e (set_marks _ _ _ _ b n), λ none. rw e (set_keeps_none _ _ _ _ b n none))

-- a chain that begins a level lower has one buddy more
one_level_lower : (p f t v u : ℕ) → p < PLACES → f < t → t ≤ WORD_LEVELS → IsChain p (f + 1) t v → IsMarked v u (buddy p f) f 1 → bit_at u 0 ≡ 0 → IsChain p f t u
one_level_lower p f t v u lt up le h m none = record {
  buddies = λ k from to. elim (cases_eq k f) [
    | inl same ↦ rw same m.here
    | inr ne ↦ m.others (buddy p k) k (buddy_place p k lt (omega arith)) (λ _ s. ne s) ∙ h.buddies k (omega arith) to
  ];
  others = λ q k y ne. m.others q k y (λ a s. ne (rw s a) (omega (arith, s)) (omega (arith, s, up))) ∙ h.others q k y (λ a from to. ne a (omega arith) to);
  none = none;
}

-- the entry of the node around a place has the chain up to the root
whole_chain : (d p f : ℕ) → p < PLACES → f + d ≡ WORD_LEVELS → IsChain p f WORD_LEVELS (entry (node p f))
whole_chain zero p f lt e =
    let s : f ≡ WORD_LEVELS = omega arith in
    let one : node p WORD_LEVELS ≡ 1 = omega (arith, around_within p WORD_LEVELS lt (omega arith)) in
    let z : entry (node p f) ≡ 0 = ap (λ k. entry (node p k)) s ∙ (ap entry one ∙ none_above) in
    rw z record { buddies = λ k from to. absurd (omega arith); others = λ q k y ne. bit_at-zero (node q k); none = bit_at-zero 0 }
whole_chain (suc d) p f lt e =
    let m = entry_marked p f lt (omega arith) in
    let h = whole_chain d p (f + 1) lt (omega arith) in
    one_level_lower p f WORD_LEVELS _ _ lt (omega arith) (omega arith) h m.0 (m.1 h.none)

-- of the buddies up to the root those from level t on are left out
chain_between : (p f t v u : ℕ) → p < PLACES → f ≤ t → t ≤ WORD_LEVELS → IsChain p f WORD_LEVELS v → IsChain p t WORD_LEVELS u → IsChain p f t (bit_xor v u)
chain_between p f t v u lt up le h g = record {
  buddies = λ k from to.
      let y = buddy_place p k lt (omega arith) in
      omega (arith, bit_at_xor v u (node (buddy p k) k), h.buddies k from (omega arith), g.others (buddy p k) k y (λ _ high _. omega (arith, high, to)));
  others = λ q k y ne. elim (cases_lt k t) [
    | inl low ↦ omega (arith, bit_at_xor v u (node q k), h.others q k y (λ a from _. ne a from low), g.others q k y (λ _ high _. omega (arith, high, low)))
    | inr high ↦ elim (cases_eq q (buddy p k)) [
      | inl e ↦ elim (cases_lt k WORD_LEVELS) [
        | inl few ↦ rw e (omega (arith, bit_at_xor v u (node (buddy p k) k), h.buddies k (omega arith) few, g.buddies k (omega arith) few))
        | inr all ↦ omega (arith, bit_at_xor v u (node q k), h.others q k y (λ _ _ few. omega (arith, few, all)), g.others q k y (λ _ _ few. omega (arith, few, all)))
      ]
      | inr other ↦ omega (arith, bit_at_xor v u (node q k), h.others q k y (λ a _ _. other a), g.others q k y (λ a _ _. other a))
    ]
  ];
  none = omega (arith, bit_at_xor v u 0, h.none, g.none);
}

pub chain_bits : (p f t : ℕ) → p < PLACES → f ≤ t → t ≤ WORD_LEVELS → IsChain p f t (bit_xor (slice_index BUDDIES (node p f)) (slice_index BUDDIES (node p t)))
unfolding entry
chain_bits p f t lt up le = chain_between p f t _ _ lt up le (whole_chain (WORD_LEVELS - f) p f lt (omega arith)) (whole_chain (WORD_LEVELS - t) p t lt (omega arith))

-- the high halves of a block are the buddies of its low parts
high_half : (p k l : ℕ) → IsPlace p l → k < l → buddy p k ≡ p + 2 ^ k
high_half p k l x lt =
    let a : p % 2 ^ k ≡ 0 = aligned_down k l p (omega arith) x.aligned in
    let b : p % 2 ^ (k + 1) ≡ 0 = aligned_down (k + 1) l p (omega arith) x.aligned in
    omega (arith, shr_split p k, shr_split p (k + 1), a, b)

pub with_chain : (w v p f t : ℕ) → IsPlace p f → IsChain p t f v → IsHalved w (bit_or w v) p f t
with_chain w v p f t x h = record {
  halves = λ k from to. let e = high_half p k f x to in let o : bit_at v (node (p + 2 ^ k) k) ≡ 1 = rw (← e) (h.buddies k from to) in omega (arith, bit_at_or w v (node (p + 2 ^ k) k), o, bit_at-lt w (node (p + 2 ^ k) k));
  others = λ q k y ne. let z = h.others q k y (λ a from to. ne (a ∙ high_half p k f x to) from to) in omega (arith, bit_at_or w v (node q k), z);
}

pub with_chain_around : (w v p f t : ℕ) → IsChain p f t v → IsPaired w (bit_or w v) p f t
with_chain_around w v p f t h = record {
  buddies = λ k from to. omega (arith, bit_at_or w v (node (buddy p k) k), h.buddies k from to, bit_at-lt w (node (buddy p k) k));
  others = λ q k y ne. omega (arith, bit_at_or w v (node q k), h.others q k y ne);
}

pub without_chain : (w v p f t : ℕ) → p < PLACES → t ≤ WORD_LEVELS → v < 2 ^ 64 → IsChain p f t v → IsUnpaired w (bit_and w (bit_not w64 v)) p f t
without_chain w v p f t lt le fits h = record {
  buddies = λ k from to.
      let n = node (buddy p k) k in
      omega (arith, bit_at_and w (bit_not w64 v) n, bit_at_not w64 v n fits (node_within _ _ (buddy_place p k lt (omega arith))).1, h.buddies k from to);
  others = λ q k y ne. omega (arith, bit_at_and w (bit_not w64 v) (node q k), bit_at_not w64 v (node q k) fits (node_within q k y).1, h.others q k y ne, bit_at-lt w (node q k));
}
