-- A block set after a block came, went or was split is one.
use Rattle.std.proofs.Common.{ℕ, suc, zero, ◌+◌, ◌-◌, ◌%◌, ◌^◌, ◌≡◌, ◌≢◌, ◌≤◌, ◌<◌, inl, inr, refl, sym, ◌∙◌, ap, arith, List, length, get_or, Option, Some, None}
use Rattle.std.proofs.lemmas.Bool.{cases_eq}
use Rattle.std.proofs.lemmas.List.{length-set, get_or-set_same, get_or-set_other}
use Rattle.std.proofs.lemmas.Nat.{pow_pos, pow_below}
use Rattle.std.proofs.Math.Nat.{add-mod_right}
use Rattle.zp_model.specs.Block.{IsBlock}
use Rattle.zp_model.specs.BlockSet.{Starts}
use Rattle.zp_model.proofs.Heads.{two, lt_pow, aligned_down, head_of}
use Rattle.zp_model.proofs.Pages.{in_run-to}
use Rattle.zp_tree.specs.Blocks.{IsBlockSet, IsApart, with_block, without_block, high_halves, split_set}
use Rattle.zp_tree.proofs.Apart.{uncovered-to, set-starts, clear-starts, clear_apart, set_still_apart}

-- no block has a page of a run that is apart
pub none_in : (m : ℕ) (s : List (Option ℕ)) (p k g j i : ℕ) → IsBlockSet m s → IsApart s p k → Starts s g j → p ≤ i → i < p + 2 ^ k → g ≤ i → i < g + 2 ^ j → ⊥
none_in m s p k g j i x a st pi ik gi ij =
    let b = x.block g j st in
    uncovered-to s i j (a i pi ik) (omega (arith, lt_pow j, b.inside)) (rw (head_of g i j b.aligned gi ij) st)

pub set_block_set : (m : ℕ) (s : List (Option ℕ)) (p k : ℕ) → IsBlockSet m s → IsBlock m (length s) p k → IsApart s p k → IsBlockSet m (with_block s p k)
set_block_set m s p k x b a =
    let pos = pow_pos k in
    let lt : p < length s = omega (arith, b.inside) in
    let n = length-set s p (Some k) in
    record {
      block = λ g j st. elim (set-starts s p k g j lt st) [
        | inl e ↦ let f : IsBlock m (length s) g j = rw (e.0, e.1) b in rw n f
        | inr old ↦ rw n (x.block g j old)
      ];
      apart = λ g j h o i y z u v.
          let c = in_run-to g j i u in
          let d = in_run-to h o i v in
          elim (set-starts s p k g j lt y) [
            | inl e ↦ elim (set-starts s p k h o lt z) [
              | inl f ↦ e.0 ∙ sym f.0
              | inr old ↦ let q : 2 ^ j ≡ 2 ^ k = ap (λ w. 2 ^ w) e.1 in absurd (none_in m s p k h o i x a old (omega (arith, c.0, e.0)) (omega (arith, c.1, e.0, q)) d.0 d.1)
            ]
            | inr old ↦ elim (set-starts s p k h o lt z) [
              | inl f ↦ let q : 2 ^ o ≡ 2 ^ k = ap (λ w. 2 ^ w) f.1 in absurd (none_in m s p k g j i x a old (omega (arith, d.0, f.0)) (omega (arith, d.1, f.0, q)) c.0 c.1)
              | inr other ↦ x.apart g j h o i old other u v
            ]
          ];
    }

pub clear_block_set : (m : ℕ) (s : List (Option ℕ)) (p k : ℕ) → IsBlockSet m s → Starts s p k → IsBlockSet m (without_block s p)
clear_block_set m s p k x st =
    let b = x.block p k st in
    let lt : p < length s = omega (arith, b.inside, pow_pos k) in
    record {
      block = λ g j y. rw (length-set s p None) (x.block g j (clear-starts s p g j lt y).1);
      apart = λ g j h o i y z u v. x.apart g j h o i (clear-starts s p g j lt y).1 (clear-starts s p h o lt z).1 u v;
    }

-- the high halves of a run that is apart, one after the other
pub halves_block_set : (m : ℕ) (s : List (Option ℕ)) (h k d : ℕ) → IsBlockSet m s → IsBlock m (length s) h (k + d) → IsApart s h (k + d) → IsBlockSet m (high_halves s h k d)
halves_block_set m s h k zero x b a = x
halves_block_set m s h k (suc d) x b a =
    let n = k + d in
    let up : k + suc d ≡ n + 1 = omega arith in
    let t : 2 ^ (k + suc d) ≡ 2 ^ n + 2 ^ n = ap (λ w. 2 ^ w) up ∙ two n in
    let whole : IsBlock m (length s) h (n + 1) = rw (← up) b in
    let low : h % 2 ^ n ≡ 0 = aligned_down n (n + 1) h (omega arith) whole.aligned in
    let high : IsBlock m (length s) (h + 2 ^ n) n = record { order = omega (arith, whole.order); aligned = add-mod_right h (2 ^ n) ∙ low; inside = omega (arith, b.inside, t) } in
    let apart : IsApart s (h + 2 ^ n) n = λ i from to. a i (omega arith) (omega (arith, t)) in
    let low_block : IsBlock m (length (with_block s (h + 2 ^ n) n)) h n = rw (length-set s (h + 2 ^ n) (Some n)) record { order = omega (arith, whole.order); aligned = low; inside = omega (arith, b.inside, t) } in
    let low_apart : IsApart s h n = λ i from to. a i from (omega (arith, t)) in
    halves_block_set m (with_block s (h + 2 ^ n) n) h k d (set_block_set m s (h + 2 ^ n) n x high apart) low_block (set_still_apart m s (h + 2 ^ n) n h n high low_apart (inl (omega arith)))

-- what stands at a page after the high halves came
pub halves_length : (s : List (Option ℕ)) (h k d : ℕ) → length (high_halves s h k d) ≡ length s
halves_length s h k zero = refl
halves_length s h k (suc d) = halves_length (with_block s (h + 2 ^ (k + d)) (k + d)) h k d ∙ length-set s (h + 2 ^ (k + d)) (Some (k + d))

pub halves_other : (s : List (Option ℕ)) (h k d i : ℕ) → ((j : ℕ) → k ≤ j → j < k + d → i ≢ h + 2 ^ j) → get_or (high_halves s h k d) i None ≡ get_or s i None
halves_other s h k zero i ne = refl
halves_other s h k (suc d) i ne =
    halves_other (with_block s (h + 2 ^ (k + d)) (k + d)) h k d i (λ j lo hi. ne j lo (omega arith)) ∙ get_or-set_other s (h + 2 ^ (k + d)) i (Some (k + d)) None (ne (k + d) (omega arith) (omega arith))

pub halves_at : (s : List (Option ℕ)) (h k d j : ℕ) → k ≤ j → j < k + d → h + 2 ^ j < length s → Starts (high_halves s h k d) (h + 2 ^ j) j
halves_at s h k zero j lo hi room = absurd (omega arith)
halves_at s h k (suc d) j lo hi room = elim (cases_eq j (k + d)) [
  | inl same ↦
      let e : 2 ^ j ≡ 2 ^ (k + d) = ap (λ w. 2 ^ w) same in
      let other : get_or (high_halves (with_block s (h + 2 ^ (k + d)) (k + d)) h k d) (h + 2 ^ (k + d)) None ≡ Some (k + d) =
      halves_other (with_block s (h + 2 ^ (k + d)) (k + d)) h k d (h + 2 ^ (k + d)) (λ l from to f. omega (arith, pow_below l (k + d) to, f)) ∙ get_or-set_same s (h + 2 ^ (k + d)) (Some (k + d)) None (omega (arith, e)) in
      rw same other
  | inr ne ↦ halves_at (with_block s (h + 2 ^ (k + d)) (k + d)) h k d j lo (omega arith) (omega (arith, length-set s (h + 2 ^ (k + d)) (Some (k + d))))
]

pub split_block_set : (m : ℕ) (s : List (Option ℕ)) (h f t : ℕ) → IsBlockSet m s → Starts s h f → t ≤ f → IsBlockSet m (split_set s h f t)
split_block_set m s h f t x st le =
    let e : t + (f - t) ≡ f = omega arith in
    let n = length-set s h None in
    let b : IsBlock m (length (without_block s h)) h (t + (f - t)) = rw (n, e) (x.block h f st) in
    halves_block_set m (without_block s h) h t (f - t) (clear_block_set m s h f x st) b (rw e (clear_apart m s h f x st))
