-- Where the buddies of the runs around a page lie, and their nodes in a word.
use Rattle.std.proofs.Common.{ℕ, ◌+◌, ◌-◌, ◌*◌, ◌/◌, ◌%◌, ◌^◌, ◌≡◌, ◌≤◌, ◌<◌, ◌⊎◌, inl, inr, sym, ◌∙◌, ap, arith, bit_xor, refl}
use Rattle.std.proofs.lemmas.Bool.{cases_eq}
use Rattle.std.proofs.lemmas.Nat.{pow_pos, pow-add, shr-shr}
use Rattle.std.proofs.Math.Nat.{add-mod_right, mul-div_cancel, mul-add-div_right, mul_assoc}
use Rattle.zp_model.specs.Block.{head}
use Rattle.zp_model.proofs.Buddies.{turned_buddy}
use Rattle.zp_model.proofs.Heads.{two, head_le, lt_head, head_of, head_aligned, head_head, head_room, aligned_down, half, number_around}
use Rattle.zp_tree.specs.declared.constants.TheConstants.{PLACES, WORD_LEVELS}
use Rattle.zp_tree.specs.Blocks.{buddy}
use Rattle.zp_tree.specs.Words.{node, IsPlace}
use Rattle.zp_tree.proofs.Nodes.{node_is, node_within}

-- one of the run and its buddy is the low half of their double, the other the high half
pub sides : (h k : ℕ) → let d = head h (k + 1) in ((head h k ≡ d) × (buddy h k ≡ d + 2 ^ k)) ⊎ ((head h k ≡ d + 2 ^ k) × (buddy h k ≡ d))
sides h k =
    let same : head (head h k) (k + 1) ≡ head h (k + 1) = head_head h k (k + 1) (omega arith) in
    elim (half (head h k) k (head_aligned h k)) [
      | inl low ↦ let e = low ∙ same in inl (e, omega arith)
      | inr high ↦ let e = high ∙ ap (λ n. n + 2 ^ k) same in inr (e, omega arith)
    ]

pub buddy_aligned : (h k : ℕ) → buddy h k % 2 ^ k ≡ 0
buddy_aligned h k =
    let d = head h (k + 1) in
    let al : d % 2 ^ k ≡ 0 = aligned_down k (k + 1) d (omega arith) (head_aligned h (k + 1)) in
    elim (sides h k) [
      | inl low ↦ ap (λ n. n % 2 ^ k) low.1 ∙ add-mod_right d (2 ^ k) ∙ al
      | inr high ↦ ap (λ n. n % 2 ^ k) high.1 ∙ al
    ]

-- a buddy lies in each larger run around the page
pub buddy_within : (h k o : ℕ) → k < o → (head h o ≤ buddy h k) × (buddy h k + 2 ^ k ≤ head h o + 2 ^ o)
buddy_within h k o lt =
    let d = head h (k + 1) in
    let same : head d o ≡ head h o = head_head h (k + 1) o (omega arith) in
    let s = sides h k in
    let room = head_room d (k + 1) o (omega arith) (head_aligned h (k + 1)) in
    (omega (arith, s, head_le d o, same), omega (arith, s, room, same, two k))

-- so it is of the same large run
pub buddy_around : (h k o : ℕ) → k < o → buddy h k / 2 ^ o ≡ h / 2 ^ o
buddy_around h k o lt =
    let w = buddy_within h k o lt in
    let al = head_aligned h o in
    number_around (head h o) (buddy h k) o o (omega arith) al w.0 (omega (arith, w.1, pow_pos k)) ∙ sym (number_around (head h o) h o o (omega arith) al (head_le h o) (lt_head h o))

pub head_around : (h k o : ℕ) → k ≤ o → head h k / 2 ^ o ≡ h / 2 ^ o
head_around h k o le = sym (number_around (head h k) h k o le (head_aligned h k) (head_le h k) (lt_head h k))

-- the block around a place of a word is one of the word's, and its node that of the place
pub head_place : (p l : ℕ) → p < PLACES → l ≤ WORD_LEVELS → IsPlace (head p l) l
head_place p l lt le = record { level = le; aligned = head_aligned p l; inside = omega (arith, head_le p l) }

pub head_node : (p l : ℕ) → l ≤ WORD_LEVELS → node p l ≡ node (head p l) l
head_node p l le = omega (arith, node_is p l le, node_is (head p l) l le, head_around p l l (omega arith))

pub place_inside : (p l : ℕ) → p < PLACES → l ≤ WORD_LEVELS → node p l < 64
place_inside p l lt le = let w = node_within (head p l) l (head_place p l lt le) in omega (arith, head_node p l le, w.1)

-- the number of a buddy among the runs of its order
abbrev pub other_number : ℕ → ℕ
other_number a = 4 * (a / 2) + 1 - a

pub buddy_is : (h k : ℕ) → buddy h k ≡ other_number (h / 2 ^ k) * 2 ^ k
buddy_is h k =
    let a = h / 2 ^ k in
    let m = 2 ^ k in
    let up : a / 2 ≡ h / 2 ^ (k + 1) = shr-shr h k 1 in
    let d : head h (k + 1) ≡ a / 2 * (m + m) = ap (λ n. n * 2 ^ (k + 1)) (sym up) ∙ ap (λ n. a / 2 * n) (two k) in
    let b = a / 2 in
    elim (cases_eq (a % 2) 0) [
      | inl even ↦
          let e : a ≡ 2 * b = omega arith in
          let x : head h k ≡ 2 * b * m = ap (λ n. n * m) e in
          let o : other_number a * m ≡ (2 * b + 1) * m = let f : other_number a ≡ 2 * b + 1 = omega arith in ap (λ n. n * m) f in
          omega (arith, d, x, o)
      | inr odd ↦
          let e : a ≡ 2 * b + 1 = omega arith in
          let x : head h k ≡ (2 * b + 1) * m = ap (λ n. n * m) e in
          let o : other_number a * m ≡ 2 * b * m = let f : other_number a ≡ 2 * b = omega arith in ap (λ n. n * m) f in
          omega (arith, d, x, o)
    ]

pub buddy_number : (h k : ℕ) → buddy h k / 2 ^ k ≡ other_number (h / 2 ^ k)
buddy_number h k = ap (λ n. n / 2 ^ k) (buddy_is h k) ∙ mul-div_cancel (other_number (h / 2 ^ k)) (pow_pos k)

-- the last bit turned
pub turned_last : (n : ℕ) → bit_xor n 1 ≡ other_number n
turned_last n =
    let t = turned_buddy n 0 (bit_xor n 1) refl (omega arith) in
    elim t.halves [
      | inl low ↦ omega (arith, t.double, low)
      | inr high ↦ omega (arith, t.double, high)
    ]

-- the buddies of the runs around a place of a word, below its root, are places
pub buddy_place : (p k : ℕ) → p < PLACES → k < WORD_LEVELS → IsPlace (buddy p k) k
buddy_place p k lt few =
    let w = buddy_within p k WORD_LEVELS few in
    let z : head p WORD_LEVELS ≡ 0 = head_of 0 p WORD_LEVELS (omega arith) (omega arith) lt in
    record { level = omega arith; aligned = buddy_aligned p k; inside = omega (arith, w.1, z, pow_pos k) }

-- a buddy's node stands beside that of the run
pub buddy_node : (p k : ℕ) → p < PLACES → k < WORD_LEVELS → node (buddy p k) k ≡ bit_xor (node p k) 1
buddy_node p k lt few =
    let a = p / 2 ^ k in
    let x = node_is p k (omega arith) in
    let y = node_is (buddy p k) k (omega arith) ∙ ap (λ n. 2 ^ (WORD_LEVELS - k) + n) (buddy_number p k) in
    let e : WORD_LEVELS - k ≡ (WORD_LEVELS - k - 1) + 1 = omega arith in
    let even : 2 ^ (WORD_LEVELS - k) ≡ 2 ^ (WORD_LEVELS - k - 1) + 2 ^ (WORD_LEVELS - k - 1) = ap (λ n. 2 ^ n) e ∙ two (WORD_LEVELS - k - 1) in
    let n : other_number (node p k) ≡ 2 ^ (WORD_LEVELS - k) + other_number a = omega (arith, x, even) in
    y ∙ sym n ∙ sym (turned_last (node p k))

-- the runs around a page of some aligned run, counted from there
pub head_shift : (r q m k : ℕ) → k ≤ m → head (r * 2 ^ m + q) k ≡ r * 2 ^ m + head q k
head_shift r q m k le =
    let e : (m - k) + k ≡ m = omega arith in
    let whole : r * 2 ^ m ≡ r * 2 ^ (m - k) * 2 ^ k = ap (λ n. r * n) (ap (λ n. 2 ^ n) (sym e) ∙ pow-add 2 (m - k) k) ∙ sym (mul_assoc r (2 ^ (m - k)) (2 ^ k)) in
    let n : (r * 2 ^ m + q) / 2 ^ k ≡ r * 2 ^ (m - k) + q / 2 ^ k = ap (λ x. (x + q) / 2 ^ k) whole ∙ mul-add-div_right (pow_pos k) (r * 2 ^ (m - k)) q in
    ap (λ x. x * 2 ^ k) n ∙ omega (arith, whole)

pub buddy_shift : (r q m k : ℕ) → k < m → buddy (r * 2 ^ m + q) k ≡ r * 2 ^ m + buddy q k
buddy_shift r q m k lt = omega (arith, head_shift r q m k (omega arith), head_shift r q m (k + 1) (omega arith), sides q k, sides (r * 2 ^ m + q) k)

-- the runs of many pages around a page, counted in words
pub head_words : (p k l : ℕ) → k ≡ l + WORD_LEVELS → head p k ≡ PLACES * head (p / PLACES) l
head_words p k l e =
    let w : 2 ^ k ≡ 2 ^ l * PLACES = ap (λ n. 2 ^ n) e ∙ pow-add 2 l WORD_LEVELS in
    let f : k ≡ WORD_LEVELS + l = omega arith in
    let n : p / 2 ^ k ≡ p / PLACES / 2 ^ l = ap (λ x. p / 2 ^ x) f ∙ sym (shr-shr p WORD_LEVELS l) in
    ap (λ x. x * 2 ^ k) n ∙ ap (λ x. p / PLACES / 2 ^ l * x) w ∙ sym (mul_assoc (p / PLACES / 2 ^ l) (2 ^ l) PLACES) ∙ omega arith

pub buddy_words : (p k l : ℕ) → k ≡ l + WORD_LEVELS → buddy p k ≡ PLACES * buddy (p / PLACES) l
buddy_words p k l e =
    let w : 2 ^ k ≡ 2 ^ l * PLACES = ap (λ n. 2 ^ n) e ∙ pow-add 2 l WORD_LEVELS in
    omega (arith, head_words p k l e, head_words p (k + 1) (l + 1) (omega arith), w, sides (p / PLACES) l)

-- the bit of a buddy stands in the low word around the page
pub buddy_low : (p k : ℕ) → k < WORD_LEVELS → (buddy p k / PLACES ≡ p / PLACES) × (buddy p k % PLACES ≡ buddy (p % PLACES) k)
buddy_low p k lt =
    let q = p % PLACES in
    let e : p ≡ p / PLACES * 2 ^ WORD_LEVELS + q = omega arith in
    let s : buddy p k ≡ p / PLACES * 2 ^ WORD_LEVELS + buddy q k = ap (λ n. buddy n k) e ∙ buddy_shift (p / PLACES) q WORD_LEVELS k lt in
    let x = (buddy_place q k (omega arith) lt).inside in
    (omega (arith, s, x), omega (arith, s, x))

-- and from order 5 on in the high one
pub buddy_high : (p k l : ℕ) → k ≡ l + WORD_LEVELS → l < WORD_LEVELS → (buddy p k / PLACES / PLACES ≡ p / PLACES / PLACES) × (buddy p k / PLACES % PLACES ≡ buddy (p / PLACES % PLACES) l)
buddy_high p k l e lt =
    let w = buddy_words p k l e in
    let n : buddy p k / PLACES ≡ buddy (p / PLACES) l = omega (arith, w) in
    let b = buddy_low (p / PLACES) l lt in
    (ap (λ x. x / PLACES) n ∙ b.0, ap (λ x. x % PLACES) n ∙ b.1)

-- it begins with a word then
pub buddy_whole : (p k : ℕ) → WORD_LEVELS ≤ k → buddy p k % PLACES ≡ 0
buddy_whole p k le = aligned_down WORD_LEVELS k (buddy p k) le (buddy_aligned p k)
