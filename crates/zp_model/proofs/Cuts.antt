-- The cut of a run: its blocks tile the run, each as large as it may be, and are blocks of the zone.
use Rattle.std.proofs.Common.{ℕ, suc, zero, ◌+◌, ◌-◌, ◌/◌, ◌%◌, ◌^◌, ◌≡◌, ◌≤◌, ◌<◌, inl, inr, refl, sym, ◌∙◌, ap, arith, Bool, true, List, [], ◌∷◌, length, All}
use Rattle.std.specs.List.{find}
use Rattle.std.specs.Prelude.{unwrap_or}
use Rattle.std.proofs.lemmas.Bool.{and_parts, and_from, both_ways, cases_Bool, cases_eq, cases_lt, eq-eqb, eqb-true, le-leb, leb-true}
use Rattle.std.proofs.lemmas.List.Elements.{All-cons}
use Rattle.std.proofs.lemmas.Nat.{pow_pos}
use Rattle.std.proofs.Math.Nat.{add-div_right, add-mod_right, pow-le-pow_right}
use Rattle.std.proofs.Math.Pow.{shr_mono}
use Rattle.zp_model.specs.Block.{IsBlock, head}
use Rattle.zp_model.specs.Area.{falling}
use Rattle.zp_model.specs.Runs.{cut, cut_up_to, fits, fitting_order}
use Rattle.zp_model.specs.RunLaws.{IsFitting, Tile, CutTiles, CutInZone, CutLength}
use Rattle.zp_model.proofs.Heads.{two, aligned_down, half, head_aligned}

-- of the numbers below n the greatest that passes is found, where 0 does
found : (p : ℕ → Bool) (n : ℕ) → p 0 ≡ true → 0 < n →
    (unwrap_or (find p (falling n)) 0 < n) × (p (unwrap_or (find p (falling n)) 0) ≡ true) × ((j : ℕ) → j < n → p j ≡ true → j ≤ unwrap_or (find p (falling n)) 0)
found p zero e lt = absurd (omega arith)
found p (suc n) e lt =
    elim (cases_Bool (p n)) [
      | inl t ↦ rw t (omega arith, t, λ j below x. omega arith)
      | inr out ↦
          elim (cases_lt 0 n) [
            | inr none ↦ let z : n ≡ 0 = omega arith in absurd (both_ways (p n) out (ap p z ∙ e))
            | inl some ↦
                let r = found p n e some in
                rw out (
                  omega (arith, r.0),
                  r.1,
                  λ j below x. elim (cases_eq j n) [ inl same ↦ absurd (both_ways (p n) out (ap p (sym same) ∙ x)) | inr other ↦ r.2 j (omega arith) x ],
                )
          ]
    ]

fits-to : (h n k : ℕ) → fits h n k ≡ true → (h % 2 ^ k ≡ 0) × (2 ^ k ≤ n)
fits-to h n k e = let a = and_parts _ _ e in (eqb-true (h % 2 ^ k) 0 a.0, leb-true (2 ^ k) n a.1)

fits-from : (h n k : ℕ) → h % 2 ^ k ≡ 0 → 2 ^ k ≤ n → fits h n k ≡ true
fits-from h n k a b = and_from _ _ (eq-eqb (h % 2 ^ k) 0 a) (le-leb (2 ^ k) n b)

-- the order of the first block of a run's cut
pub fitting : (m h n : ℕ) → 1 ≤ n → IsFitting m h n (fitting_order m h n)
fitting m h n some =
    let x = found (fits h n) (m + 1) (fits-from h n 0 (omega arith) (omega arith)) (omega arith) in
    let y = fits-to h n (fitting_order m h n) x.1 in
    record {
      order = omega (arith, x.0);
      aligned = y.0;
      inside = y.1;
      greatest = λ j le a b. x.2 j (omega arith) (fits-from h n j a b);
    }

-- it is the only one
pub fitting_unique : (m h n k : ℕ) → IsFitting m h n k → fitting_order m h n ≡ k
fitting_unique m h n k x =
    let some : 1 ≤ n = omega (arith, x.inside, pow_pos k) in
    let y = fitting m h n some in
    omega (arith, x.greatest (fitting_order m h n) y.order y.aligned y.inside, y.greatest k x.order x.aligned x.inside)

tile : (most m h n : ℕ) → n ≤ most → Tile m h n (cut_up_to m most h n)
tile zero m h n le = omega arith
tile (suc most) m h zero le = refl
tile (suc most) m h (suc n) le =
    let x = fitting m h (suc n) (omega arith) in
    (refl, x, tile most m (h + 2 ^ fitting_order m h (suc n)) (suc n - 2 ^ fitting_order m h (suc n)) (omega (arith, pow_pos (fitting_order m h (suc n)))))

pub cut_tiles : CutTiles
cut_tiles m h n = tile n m h n (omega arith)

-- the blocks that tile a run of the zone are blocks of the zone
pub tiles_inside : (m pages h n : ℕ) (bs : List (ℕ × ℕ)) → h + n ≤ pages → Tile m h n bs → All (λ (b : ℕ × ℕ). IsBlock m pages b.0 b.1) bs
tiles_inside m pages h n [] le t = λ i d lt. absurd (omega arith)
tiles_inside m pages h n (b ∷ bs) le t =
    let x = t.1 in
    All-cons (λ (c : ℕ × ℕ). IsBlock m pages c.0 c.1) b bs (record { order = x.order; aligned = rw t.0 x.aligned; inside = omega (arith, t.0, x.inside) })
    (tiles_inside m pages (h + 2 ^ b.1) (n - 2 ^ b.1) bs (omega (arith, x.inside)) t.2)

pub cut_in_zone : CutInZone
cut_in_zone m pages h n le = tiles_inside m pages h n (cut m h n) le (cut_tiles m h n)

-- how many tiles: fewer pages than the run's alignment are tiled by falling orders
few : (j m h n : ℕ) (bs : List (ℕ × ℕ)) → j ≤ m → h % 2 ^ j ≡ 0 → n < 2 ^ j → Tile m h n bs → length bs ≤ j
few j m h n [] le al lt t = omega arith
few zero m h n (b ∷ bs) le al lt t = absurd (omega (arith, t.1.inside, pow_pos b.1))
few (suc j) m h n (b ∷ bs) le al lt t =
    let x = t.1 in
    let s : suc j ≡ j + 1 = omega arith in
    let full : h % 2 ^ (j + 1) ≡ 0 = rw s at al in
    let part : h % 2 ^ j ≡ 0 = aligned_down j (j + 1) h (omega arith) full in
    let both : 2 ^ suc j ≡ 2 ^ j + 2 ^ j = ap (λ i. 2 ^ i) s ∙ two j in
    elim (cases_lt n (2 ^ j)) [
      | inl low ↦ omega (arith, few j m h n (b ∷ bs) (omega arith) part low t)
      | inr high ↦
          let up : j ≤ b.1 = x.greatest j (omega arith) part high in
          elim (cases_lt j b.1) [
            | inl more ↦ let p : 2 ^ suc j ≤ 2 ^ b.1 = pow-le-pow_right (omega arith) (omega arith) in absurd (omega (arith, x.inside))
            | inr not ↦
                let same : b.1 ≡ j = omega arith in
                let size : 2 ^ b.1 ≡ 2 ^ j = ap (λ i. 2 ^ i) same in
                let next : (h + 2 ^ b.1) % 2 ^ j ≡ 0 = rw size (add-mod_right h (2 ^ j) ∙ part) in
                omega (arith, few j m (h + 2 ^ b.1) (n - 2 ^ b.1) bs (omega arith) next (omega arith) t.2)
          ]
    ]

-- from a place that is aligned for the largest order on
aligned_tiles : (m h n : ℕ) (bs : List (ℕ × ℕ)) → h % 2 ^ m ≡ 0 → Tile m h n bs → length bs ≤ n / 2 ^ m + m
aligned_tiles m h n [] al t = omega arith
aligned_tiles m h n (b ∷ bs) al t =
    let x = t.1 in
    elim (cases_lt n (2 ^ m)) [
      | inl low ↦ omega (arith, few m m h n (b ∷ bs) (omega arith) al low t)
      | inr high ↦
          let up : m ≤ b.1 = x.greatest m (omega arith) al high in
          let size : 2 ^ b.1 ≡ 2 ^ m = ap (λ i. 2 ^ i) (omega (arith, x.order)) in
          let next : (h + 2 ^ b.1) % 2 ^ m ≡ 0 = rw size (add-mod_right h (2 ^ m) ∙ al) in
          let all : n - 2 ^ b.1 + 2 ^ m ≡ n = omega arith in
          let more : n / 2 ^ m ≡ (n - 2 ^ b.1) / 2 ^ m + 1 = ap (λ i. i / 2 ^ m) (sym all) ∙ add-div_right (n - 2 ^ b.1) (pow_pos m) in
          omega (arith, aligned_tiles m (h + 2 ^ b.1) (n - 2 ^ b.1) bs next t.2)
    ]

-- before it the orders rise
rising_tiles : (d m j h n : ℕ) (bs : List (ℕ × ℕ)) → j + d ≡ m → h % 2 ^ j ≡ 0 → Tile m h n bs → length bs ≤ d + n / 2 ^ m + m
rising_tiles zero m j h n bs e al t =
    let same : j ≡ m = omega arith in
    omega (arith, aligned_tiles m h n bs (rw same at al) t)
rising_tiles (suc d) m j h n [] e al t = omega arith
rising_tiles (suc d) m j h n (b ∷ bs) e al t =
    let x = t.1 in
    elim (cases_eq (h % 2 ^ (j + 1)) 0) [
      | inl more ↦ omega (arith, rising_tiles d m (j + 1) h n (b ∷ bs) (omega arith) more t)
      | inr odd ↦
          elim (cases_lt n (2 ^ j)) [
            | inl low ↦ omega (arith, few j m h n (b ∷ bs) (omega arith) al low t)
            | inr high ↦
                let up : j ≤ b.1 = x.greatest j (omega arith) al high in
                elim (cases_lt j b.1) [
                  | inl above ↦ absurd (odd (aligned_down (j + 1) b.1 h (omega arith) x.aligned))
                  | inr not ↦
                      let size : 2 ^ b.1 ≡ 2 ^ j = ap (λ i. 2 ^ i) (omega arith) in
                      elim (half h j al) [
                        | inl low ↦ absurd (odd (ap (λ i. i % 2 ^ (j + 1)) low ∙ head_aligned h (j + 1)))
                        | inr up_half ↦
                            let place : h + 2 ^ b.1 ≡ head h (j + 1) + 2 ^ (j + 1) = omega (arith, two j) in
                            let next : (h + 2 ^ b.1) % 2 ^ (j + 1) ≡ 0 = ap (λ i. i % 2 ^ (j + 1)) place ∙ add-mod_right (head h (j + 1)) (2 ^ (j + 1)) ∙ head_aligned h (j + 1) in
                            let fewer : (n - 2 ^ b.1) / 2 ^ m ≤ n / 2 ^ m = shr_mono m (omega arith) in
                            omega (arith, rising_tiles d m (j + 1) (h + 2 ^ b.1) (n - 2 ^ b.1) bs (omega arith) next t.2)
                      ]
                ]
          ]
    ]

pub cut_length : CutLength
cut_length m h n = omega (arith, rising_tiles m m 0 h n (cut m h n) (omega arith) (omega arith) (cut_tiles m h n))
