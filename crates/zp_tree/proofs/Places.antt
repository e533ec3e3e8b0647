-- Where the bits of a zone's blocks stand.
use Rattle.std.proofs.Common.{ℕ, ◌+◌, ◌-◌, ◌*◌, ◌/◌, ◌%◌, ◌^◌, ◌≡◌, ◌≤◌, ◌<◌, refl, sym, ◌∙◌, ap, arith, List, length, slice_index}
use Rattle.std.specs.Int.{bit_at}
use Rattle.std.proofs.lemmas.Bool.{lt-ltb, le-ltb}
use Rattle.std.proofs.lemmas.Nat.{pow_pos, mod-pow-add}
use Rattle.std.proofs.Math.Pow.{mod-mod-pow}
use Rattle.zp_model.proofs.Heads.{aligned_down}
use Rattle.zp_tree.specs.declared.constants.TheConstants.{PLACES, WORD_LEVELS, GROUP_PAGES}
use Rattle.zp_tree.specs.Words.{node, IsPlace}
use Rattle.zp_tree.specs.Marks.{mark, IsInGroups}

pub low_mark : (ls hs : List ℕ) (i k : ℕ) → k < WORD_LEVELS → mark ls hs i k ≡ bit_at (slice_index ls (i / PLACES)) (node (i % PLACES) k)
low_mark ls hs i k lt = rw (lt-ltb k WORD_LEVELS lt) refl

pub high_mark : (ls hs : List ℕ) (i k : ℕ) → WORD_LEVELS ≤ k → mark ls hs i k ≡ bit_at (slice_index hs (i / GROUP_PAGES)) (node (i / PLACES % PLACES) (k - WORD_LEVELS))
high_mark ls hs i k le = rw (le-ltb k WORD_LEVELS le) refl

pub mod_pow : (n k j : ℕ) → k ≤ j → n % 2 ^ j % 2 ^ k ≡ n % 2 ^ k
mod_pow n k j le = let e : (j - k) + k ≡ j = omega arith in ap (λ m. n % 2 ^ m % 2 ^ k) (sym e) ∙ mod-mod-pow n (j - k) k

-- a block of a low word
pub record IsLow (hs : List ℕ) (i k : ℕ) : Type 0 where
  pub place : IsPlace (i % PLACES) k
  pub word : i / PLACES < PLACES * length hs

pub low_place : (hs : List ℕ) (i k : ℕ) → IsInGroups hs i k → k < WORD_LEVELS → IsLow hs i k
low_place hs i k x lt =
    let pos = pow_pos k in
    record {
      place = record { level = omega arith; aligned = mod_pow i k WORD_LEVELS (omega arith) ∙ x.aligned; inside = omega arith };
      word = omega (arith, x.inside, pos);
    }

-- a block of a high word
pub record IsHigh (hs : List ℕ) (i k : ℕ) : Type 0 where
  pub place : IsPlace (i / PLACES % PLACES) (k - WORD_LEVELS)
  pub word : i / GROUP_PAGES < length hs
  pub whole : i % PLACES ≡ 0

pub high_place : (hs : List ℕ) (i k : ℕ) → IsInGroups hs i k → WORD_LEVELS ≤ k → IsHigh hs i k
high_place hs i k x le =
    let pos = pow_pos k in
    let l = k - WORD_LEVELS in
    let few = x.order in
    let whole : i % PLACES ≡ 0 = aligned_down WORD_LEVELS k i le x.aligned in
    let e : l + WORD_LEVELS ≡ k = omega arith in
    let al : i / PLACES % 2 ^ l ≡ 0 = omega (arith, mod-pow-add i l WORD_LEVELS, ap (λ j. i % 2 ^ j) e, x.aligned) in
    record {
      place = record { level = omega arith; aligned = mod_pow (i / PLACES) l WORD_LEVELS (omega arith) ∙ al; inside = omega arith };
      word = omega (arith, x.inside, pos);
      whole = whole;
    }
