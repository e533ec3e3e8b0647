-- The pages of a block, next to each other in an order of halves: the d-th is the first one with the bits of d turned. Given back one by one
-- they leave what giving back the block does.
use Rattle.std.proofs.Common.{ℕ, suc, zero, ◌+◌, ◌-◌, ◌*◌, ◌/◌, ◌%◌, ◌^◌, ◌≡◌, ◌≤◌, ◌<◌, inl, inr, refl, sym, ◌∙◌, ap, arith, false, List, [], ◌∷◌, ◌++◌, length, get_or, length-append, min, subst}
use Rattle.std.specs.Int.Bits.{bit_and, bit_xor, xor_assoc, xor_disjoint, xor_self, xor_zero_r}
use Rattle.std.proofs.Math.ListN.{get_or-append}
use Rattle.std.proofs.Math.Nat.{div-eq_of_lt, mod_self}
use Rattle.std.proofs.lemmas.Bool.{cases_lt, false_from_ne_true}
use Rattle.std.proofs.lemmas.List.{get_or-append-add}
use Rattle.std.proofs.lemmas.Nat.{and_comm, mod_below, pow_pos, shl-shr, shr_split, xor_mod, xor_shr}
use Rattle.std.proofs.lemmas.Nat.Bits.{and_pow, bit_at_above}
use Rattle.zp_model.specs.Block.{has, head, in_run}
use Rattle.zp_model.specs.Area.{Area}
use Rattle.zp_model.specs.Take.{give}
use Rattle.zp_model.specs.Lawful.{IsListedArea}
use Rattle.zp_model.proofs.Buddies.{turned_buddy}
use Rattle.zp_model.proofs.Covers.{length-with}
use Rattle.zp_model.proofs.Heads.{two, head_aligned, head_of, head_head, head_self}
use Rattle.zp_model.proofs.Pages.{in_run-to}
use Rattle.zp_laws.proofs.Areas.{free-give, largest-give, lists-give}
use Rattle.zp_laws.proofs.Counting.{has-with_any}
use Rattle.zp_buddy.specs.Runs.{gives, turned_pages}
use Rattle.zp_buddy.proofs.GiveRuns.{AreHalves, give_halves, half_inside}

-- a power of two and a smaller number have no bit in common
low_apart : (j d : ℕ) → d < 2 ^ j → bit_and (2 ^ j) d ≡ 0
low_apart j d lt =
    let none : 0 * 2 ^ j ≡ 0 = omega arith in
    and_comm (2 ^ j) d ∙ and_pow d j ∙ ap (λ b. b * 2 ^ j) (bit_at_above d j j lt (omega arith)) ∙ none

pub turned_far : (p j d : ℕ) → d < 2 ^ j → bit_xor (bit_xor p (2 ^ j)) d ≡ bit_xor p (2 ^ j + d)
turned_far p j d lt = xor_assoc p (2 ^ j) d ∙ ap (bit_xor p) (xor_disjoint (2 ^ j) d (low_apart j d lt))

pub length-turned : (p j : ℕ) → length (turned_pages p j) ≡ 2 ^ j
length-turned p zero = refl
length-turned p (suc j) =
    let s : suc j ≡ j + 1 = omega arith in
    length-append (turned_pages p j) (turned_pages (bit_xor p (2 ^ j)) j) ∙ (λ i. length-turned p j i + length-turned (bit_xor p (2 ^ j)) j i) ∙ sym (ap (λ n. 2 ^ n) s ∙ two j)

pub get_or-turned : (p j d : ℕ) → d < 2 ^ j → get_or (turned_pages p j) d 0 ≡ bit_xor p d
get_or-turned p zero d lt = let none : d ≡ 0 = omega arith in rw none (sym (xor_zero_r p))
get_or-turned p (suc j) d lt =
    let s : suc j ≡ j + 1 = omega arith in
    let n : 2 ^ suc j ≡ 2 ^ j + 2 ^ j = ap (λ n. 2 ^ n) s ∙ two j in
    let low : List ℕ = turned_pages p j in
    let high : List ℕ = turned_pages (bit_xor p (2 ^ j)) j in
    let len : length low ≡ 2 ^ j = length-turned p j in
    elim (cases_lt d (2 ^ j)) [
      | inl lt ↦ get_or-append low high 0 d (omega arith) ∙ get_or-turned p j d lt
      | inr ge ↦
          let far : length low + (d - 2 ^ j) ≡ d = omega arith in
          let near : 2 ^ j + (d - 2 ^ j) ≡ d = omega arith in
          ap (λ i. get_or (low ++ high) i 0) (sym far) ∙ get_or-append-add low high (d - 2 ^ j) 0 ∙ get_or-turned (bit_xor p (2 ^ j)) j (d - 2 ^ j) (omega arith)
          ∙ turned_far p j (d - 2 ^ j) (omega arith) ∙ ap (bit_xor p) near
    ]

-- the run of the page with the bit of the order turned is the other half
turned_half : (p j : ℕ) → AreHalves (head p (j + 1)) j (head p j) (head (bit_xor p (2 ^ j)) j)
turned_half p j =
    let w : ℕ = 2 ^ j in
    let x : ℕ = head p j in
    let c : ℕ = bit_xor x w in
    let al : x % w ≡ 0 = head_aligned p j in
    let b = turned_buddy x j c refl al in
    let number : bit_xor p w / w ≡ c / w = xor_shr p w j ∙ ap (λ n. bit_xor n (w / w)) (sym (shl-shr (p / w) j)) ∙ sym (xor_shr x w j) in
    let turned : c % w ≡ 0 = xor_mod x w j ∙ (λ i. bit_xor (al i) (mod_self w i)) in
    let same : head (bit_xor p w) j ≡ c = ap (λ n. n * w) number ∙ head_self c j turned in
    let d : ℕ = min x c in
    let double : d ≤ x → x < d + 2 ^ (j + 1) → head p (j + 1) ≡ d = λ lo hi. sym (head_head p j (j + 1) (omega arith)) ∙ head_of d x (j + 1) b.double lo hi in
    elim b.halves [
      | inl e ↦ let h = double (omega (arith, e.0)) (omega (arith, e.0, two j, pow_pos j)) in inl (e.0 ∙ sym h, same ∙ e.1 ∙ ap (λ n. n + w) (sym h))
      | inr e ↦ let h = double (omega (arith, e.1)) (omega (arith, e.1, two j, pow_pos j)) in inr (e.1 ∙ ap (λ n. n + w) (sym h), same ∙ e.0 ∙ sym h)
    ]

pub gives-append : (a : Area) (xs ys : List ℕ) → gives a (xs ++ ys) ≡ gives (gives a xs) ys
gives-append a [] ys = refl
gives-append a (x ∷ xs) ys = gives-append (give a x 0) xs ys

-- no page of a run is in the set
abbrev pub IsOutOf : Area → ℕ → ℕ → Type 0
IsOutOf a h k = (i : ℕ) → h ≤ i → i < h + 2 ^ k → has a.free i ≡ false

pub gives_turned : (j : ℕ) (a : Area) (p : ℕ) → IsListedArea a → j ≤ a.largest → head p j + 2 ^ j ≤ length a.free → IsOutOf a (head p j) j → gives a (turned_pages p j) ≡ give a (head p j) j
gives_turned zero a p l order room clear = ap (λ h. give a h 0) (sym (head_self p 0 (omega arith)))
gives_turned (suc j) a p l order room clear =
    let s : suc j ≡ j + 1 = omega arith in
    let q : ℕ = bit_xor p (2 ^ j) in
    let h : ℕ = head p (j + 1) in
    let x : ℕ = head p j in
    let y : ℕ = head q j in
    let e = turned_half p j in
    let in_it = half_inside h j x y e in
    let full : h + 2 ^ (j + 1) ≤ length a.free = rw s at room in
    let P : ℕ → Type 0 = λ n. IsOutOf a (head p n) n in
    let out : IsOutOf a h (j + 1) = subst P s clear in
    let low = gives_turned j a p l (omega arith) (omega (arith, in_it.1)) (λ i lo hi. out i (omega (arith, in_it.0)) (omega (arith, in_it.1))) in
    let b : Area = give a x j in
    let largest : b.largest ≡ a.largest = largest-give a x j in
    let len : length b.free ≡ length a.free = ap length (free-give a x j) ∙ length-with a.free x j in
    let high = gives_turned j b q (lists-give a x j l) (omega arith) (omega (arith, in_it.3)) (λ i lo hi.
    let off : in_run x j i ≡ false = false_from_ne_true _ (λ on. let r = in_run-to x j i on in elim in_it.4 [ inl below ↦ omega (arith, r.1) | inr above ↦ omega (arith, r.0) ]) in
    ap (λ u. has u i) (free-give a x j) ∙ has-with_any a.free x j i (omega (arith, in_it.1)) ∙ rw (off, out i (omega (arith, in_it.2)) (omega (arith, in_it.3))) refl) in
    gives-append a (turned_pages p j) (turned_pages q j) ∙ ap (λ z. gives z (turned_pages q j)) low ∙ high
    ∙ give_halves a h j x y l (head_aligned p (j + 1)) (omega arith) full out e ∙ (λ i. give a (head p (sym s i)) (sym s i))

-- of a run, each page is the first one with the bits of a small number turned, and each such page lies in the run
pub turned_number : (p i j : ℕ) → i / 2 ^ j ≡ p / 2 ^ j → bit_xor p i < 2 ^ j
turned_number p i j e =
    let none : bit_xor p i / 2 ^ j ≡ 0 = xor_shr p i j ∙ ap (bit_xor (p / 2 ^ j)) e ∙ xor_self (p / 2 ^ j) in
    let low : 0 * 2 ^ j ≡ 0 = omega arith in
    let all : bit_xor p i / 2 ^ j * 2 ^ j ≡ 0 = ap (λ n. n * 2 ^ j) none ∙ low in
    omega (arith, shr_split (bit_xor p i) j, all, mod_below (bit_xor p i) (2 ^ j) (pow_pos j))

pub turned_back : (p i : ℕ) → bit_xor p (bit_xor p i) ≡ i
turned_back p i = sym (xor_assoc p p i) ∙ ap (λ n. bit_xor n i) (xor_self p)

pub turned_in : (p j d : ℕ) → d < 2 ^ j → head (bit_xor p d) j ≡ head p j
turned_in p j d lt = ap (λ n. n * 2 ^ j) (xor_shr p d j ∙ ap (bit_xor (p / 2 ^ j)) (div-eq_of_lt lt) ∙ xor_zero_r (p / 2 ^ j))
