-- The blocks of 32 places in one word (this profile): the places' binary tree in its own numbering. The root is node 1, below node n are 2 n
-- and 2 n + 1, and bit n is set where the places of node n are a block.
use Rattle.std.specs.Prelude.{ℕ, ◌+◌, ◌*◌, ◌/◌, ◌%◌, ◌^◌, ◌≡◌, ◌≤◌, ◌<◌, List, slice_index, Option, None, Some}
use Rattle.std.specs.Int.{bit_at}
use Rattle.zp_tree.specs.declared.constants.TheConstants.{PLACES, WORD_LEVELS}
use Rattle.zp_tree.specs.Blocks.{buddy}

-- the number of the node of 2 ^ l places at place p
abbrev pub node : ℕ → ℕ → ℕ
node p l = (PLACES + p) / 2 ^ l

-- the places of a block of level l can start at place p
pub record IsPlace (p l : ℕ) : Type 0 where
  pub level : l ≤ WORD_LEVELS
  pub aligned : p % 2 ^ l ≡ 0
  pub inside : p < PLACES

-- the block of level l at place p is in the word w
pub record Has (w p l : ℕ) : Type 0 where
  pub place : IsPlace p l
  pub bit : bit_at w (node p l) ≡ 1

-- v is the word w but for the bit b of the block of level l at place p
pub record IsMarked (w v p l b : ℕ) : Type 0 where
  pub here : bit_at v (node p l) ≡ b
  pub others : (q k : ℕ) → IsPlace q k → (q ≡ p → k ≡ l → ⊥) → bit_at v (node q k) ≡ bit_at w (node q k)

-- v has the bits of the buddies of the runs around place p, from level f to below level t, and no others
pub record IsChain (p f t v : ℕ) : Type 0 where
  pub buddies : (k : ℕ) → f ≤ k → k < t → bit_at v (node (buddy p k) k) ≡ 1
  pub others : (q k : ℕ) → IsPlace q k → (q ≡ buddy p k → f ≤ k → k < t → ⊥) → bit_at v (node q k) ≡ 0
  pub none : bit_at v 0 ≡ 0

-- v is the word w with the high halves of the blocks at place p, from level f down to level t
pub record IsHalved (w v p f t : ℕ) : Type 0 where
  pub halves : (k : ℕ) → t ≤ k → k < f → bit_at v (node (p + 2 ^ k) k) ≡ 1
  pub others : (q k : ℕ) → IsPlace q k → (q ≡ p + 2 ^ k → t ≤ k → k < f → ⊥) → bit_at v (node q k) ≡ bit_at w (node q k)

-- v is the word w without the buddies of the runs around place p, from level f to below level t
pub record IsUnpaired (w v p f t : ℕ) : Type 0 where
  pub buddies : (k : ℕ) → f ≤ k → k < t → bit_at v (node (buddy p k) k) ≡ 0
  pub others : (q k : ℕ) → IsPlace q k → (q ≡ buddy p k → f ≤ k → k < t → ⊥) → bit_at v (node q k) ≡ bit_at w (node q k)

-- v is the word w with the buddies of the runs around place p, from level f to below level t
pub record IsPaired (w v p f t : ℕ) : Type 0 where
  pub buddies : (k : ℕ) → f ≤ k → k < t → bit_at v (node (buddy p k) k) ≡ 1
  pub others : (q k : ℕ) → IsPlace q k → (q ≡ buddy p k → f ≤ k → k < t → ⊥) → bit_at v (node q k) ≡ bit_at w (node q k)

-- v has the bits of the nodes d levels below node n of the word w, and no others
pub record IsRow (w n d v : ℕ) : Type 0 where
  pub bits : (i : ℕ) → i < 2 ^ d → bit_at v i ≡ bit_at w (n * 2 ^ d + i)
  pub within : v < 2 ^ 2 ^ d

-- the largest level of a block of w that lies in the run of level l at place p
abbrev pub IsLargestIn : ℕ → ℕ → ℕ → Option ℕ → Type 0
IsLargestIn w p l None = (q k : ℕ) → Has w q k → p ≤ q → q + 2 ^ k ≤ p + 2 ^ l → ⊥
IsLargestIn w p l (Some j) =
    ((q : ℕ) × Has w q j × (p ≤ q) × (q + 2 ^ j ≤ p + 2 ^ l)) × ((q k : ℕ) → Has w q k → p ≤ q → q + 2 ^ k ≤ p + 2 ^ l → k ≤ j)

-- the first place of a block of w of level l
abbrev pub IsFirstOf : ℕ → ℕ → Option ℕ → Type 0
IsFirstOf w l None = (p : ℕ) → Has w p l → ⊥
IsFirstOf w l (Some p) = Has w p l × ((q : ℕ) → Has w q l → p ≤ q)

-- the first block of w of level l or more, and its level
abbrev pub IsFirst : ℕ → ℕ → Option (ℕ × ℕ) → Type 0
IsFirst w l None = (q k : ℕ) → Has w q k → k < l
IsFirst w l (Some b) = Has w b.0 b.1 × (l ≤ b.1) × ((q k : ℕ) → Has w q k → q < b.0 → k < l)

-- v has the bits of n words from word a on, and no others
pub record IsUnion (ws : List ℕ) (a n v : ℕ) : Type 0 where
  pub each : (r i : ℕ) → a ≤ r → r < a + n → bit_at (slice_index ws r) i ≡ 1 → bit_at v i ≡ 1
  pub only : (i : ℕ) → bit_at v i ≡ 1 → (r : ℕ) × (a ≤ r) × (r < a + n) × (bit_at (slice_index ws r) i ≡ 1)
