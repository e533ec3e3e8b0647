-- A run has an aligned block in it, so a run of a set of pages has pages of a large block of the set.
use Rattle.std.proofs.Common.{ℕ, ◌+◌, ◌-◌, ◌%◌, ◌^◌, ◌≡◌, ◌≤◌, ◌<◌, arith}
use Rattle.std.proofs.lemmas.Nat.{pow_pos}
use Rattle.zp_model.specs.Block.{head}
use Rattle.zp_model.proofs.Heads.{two, head_aligned, head_le, lt_head}
use Rattle.zp_model.proofs.Normal.{IsNormal, run_in_block}

-- an aligned run of order j at g lies in the run (h, n), and begins with one of its first 2 to the j pages
pub record IsAligned (h n j g : ℕ) : Type 0 where
  pub aligned : g % 2 ^ j ≡ 0
  pub from : h ≤ g
  pub soon : g < h + 2 ^ j
  pub within : g + 2 ^ j ≤ h + n

-- there is one where twice its pages are n + 1 at most: so for the greatest order, j is the logarithm of (n + 1) / 2
pub aligned_in : (h n j : ℕ) → 2 ^ (j + 1) ≤ n + 1 → (g : ℕ) × IsAligned h n j g
aligned_in h n j le =
    let i : ℕ = h + 2 ^ j - 1 in (
      head i j,
      record {
        aligned = head_aligned i j;
        from = omega (arith, lt_head i j, pow_pos j);
        soon = omega (arith, head_le i j, pow_pos j);
        within = omega (arith, head_le i j, two j, pow_pos j);
      },
    )

-- the block (f, k) has order j at least, and a page of the run's: it begins before 2 to the j pages of the run are over, and ends after the run's first page
pub record IsLargeNear (S : ℕ → ℕ → Type 0) (h j f k : ℕ) : Type 0 where
  pub starts : S f k
  pub enough : j ≤ k
  pub soon : f < h + 2 ^ j
  pub past : h < f + 2 ^ k

-- a run of a set has pages of a large block of it: the run begins in that block, or less than 2 to the j pages before it
pub large_near : (m : ℕ) (S : ℕ → ℕ → Type 0) (U : ℕ → Type 0) → IsNormal m S U → (h n j : ℕ) → j ≤ m → 2 ^ (j + 1) ≤ n + 1 → ((i : ℕ) → h ≤ i → i < h + n → U i) →
    (f : ℕ) × (k : ℕ) × IsLargeNear S h j f k
large_near m S U z h n j le some full =
    let g = aligned_in h n j some in
    let c = run_in_block m S U z j le g.0 g.1.aligned (λ i p q. full i (omega (arith, g.1.from)) (omega (arith, g.1.within))) in
    (head g.0 c.0, c.0, record { starts = c.2; enough = c.1; soon = omega (arith, head_le g.0 c.0, g.1.soon); past = omega (arith, lt_head g.0 c.0, g.1.from) })
