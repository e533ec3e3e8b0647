-- The blocks of a run's cut are the maximal blocks of its pages: blocks that tile a run, each as large as it may be, are disjoint, and no two of them are buddies.
use Rattle.std.proofs.Common.{ℕ, ◌+◌, ◌-◌, ◌%◌, ◌^◌, ◌≡◌, ◌≤◌, ◌<◌, inl, inr, refl, sym, ◌∙◌, ap, arith, false, List, [], ◌∷◌, replicate}
use Rattle.std.proofs.lemmas.Bool.{cases_lt, false≢true}
use Rattle.std.proofs.lemmas.List.{length-replicate}
use Rattle.std.proofs.lemmas.Nat.{pow_pos}
use Rattle.zp_model.specs.Block.{head}
use Rattle.zp_model.specs.Runs.{cut}
use Rattle.zp_model.specs.RunLaws.{CutIsMaximal, IsAmong, Tile, pages_of_run}
use Rattle.zp_model.proofs.Cuts.{cut_tiles}
use Rattle.zp_model.proofs.Heads.{two, head_of}
use Rattle.zp_model.proofs.MaximalBlocks.{max-unique}
use Rattle.zp_model.proofs.Normal.{IsNormal}
use Rattle.zp_model.proofs.Pages.{In}
use Rattle.zp_model.proofs.RowLists.{replicated}
use Rattle.zp_model.proofs.RunParts.{with_pages-new, with_pages-to}

module _ (m : ℕ) where
  -- a tile lies in the run, and is a block
  lies : (h n : ℕ) (bs : List (ℕ × ℕ)) → Tile m h n bs → (g k : ℕ) → IsAmong bs g k → (h ≤ g) × (g + 2 ^ k ≤ h + n) × (k ≤ m) × (g % 2 ^ k ≡ 0)
  lies h n [] t g k x = absurd x
  lies h n (b ∷ bs) t g k (inl e) =
      let x = t.1 in
      let at : h ≡ g = sym t.0 ∙ e.0 in
      rw (← e.1, ← at) (omega arith, omega (arith, x.inside), x.order, x.aligned)
  lies h n (b ∷ bs) t g k (inr y) =
      let z = lies (h + 2 ^ b.1) (n - 2 ^ b.1) bs t.2 g k y in
      (omega (arith, z.0), omega (arith, z.1, t.1.inside), z.2, z.3)

  apart : (h n : ℕ) (bs : List (ℕ × ℕ)) → Tile m h n bs → (g k f j i : ℕ) → IsAmong bs g k → IsAmong bs f j → g ≤ i → i < g + 2 ^ k → f ≤ i → i < f + 2 ^ j → (g ≡ f) × (k ≡ j)
  apart h n [] t g k f j i x y a c d e = absurd x
  apart h n (b ∷ bs) t g k f j i (inl x) (inl y) a c d e = (sym x.0 ∙ y.0, sym x.1 ∙ y.1)
  apart h n (b ∷ bs) t g k f j i (inr x) (inr y) a c d e = apart (h + 2 ^ b.1) (n - 2 ^ b.1) bs t.2 g k f j i x y a c d e
  apart h n (b ∷ bs) t g k f j i (inl x) (inr y) a c d e =
      let size : 2 ^ b.1 ≡ 2 ^ k = ap (λ o. 2 ^ o) x.1 in
      absurd (omega (arith, t.0, x.0, (lies (h + 2 ^ b.1) (n - 2 ^ b.1) bs t.2 f j y).0))
  apart h n (b ∷ bs) t g k f j i (inr x) (inl y) a c d e =
      let size : 2 ^ b.1 ≡ 2 ^ j = ap (λ o. 2 ^ o) y.1 in
      absurd (omega (arith, t.0, y.0, (lies (h + 2 ^ b.1) (n - 2 ^ b.1) bs t.2 g k x).0))

  -- two buddies that tile a run would be one tile
  unjoined : (h n : ℕ) (bs : List (ℕ × ℕ)) → Tile m h n bs → (g k : ℕ) → k < m → g % 2 ^ (k + 1) ≡ 0 → IsAmong bs g k → IsAmong bs (g + 2 ^ k) k → ⊥
  unjoined h n [] t g k lt al x y = x
  unjoined h n (b ∷ bs) t g k lt al (inr x) (inr y) = unjoined (h + 2 ^ b.1) (n - 2 ^ b.1) bs t.2 g k lt al x y
  unjoined h n (b ∷ bs) t g k lt al (inl x) (inl y) = omega (arith, x.0, y.0, pow_pos k)
  unjoined h n (b ∷ bs) t g k lt al (inr x) (inl y) = omega (arith, t.0, y.0, pow_pos k, pow_pos b.1, (lies (h + 2 ^ b.1) (n - 2 ^ b.1) bs t.2 g k x).0)
  unjoined h n (b ∷ bs) t g k lt al (inl x) (inr y) =
      let at : g ≡ h = sym x.0 ∙ t.0 in
      let size : 2 ^ b.1 ≡ 2 ^ k = ap (λ o. 2 ^ o) x.1 in
      let z = lies (h + 2 ^ b.1) (n - 2 ^ b.1) bs t.2 (g + 2 ^ k) k y in
      let more : k + 1 ≤ b.1 = t.1.greatest (k + 1) (omega arith) (rw at at al) (omega (arith, two k, z.1, t.1.inside)) in
      omega (arith, x.1)

  covers : (h n : ℕ) (bs : List (ℕ × ℕ)) → Tile m h n bs → (i : ℕ) → h ≤ i → i < h + n → (k : ℕ) × IsAmong bs (head i k) k
  covers h n [] t i a c = absurd (omega arith)
  covers h n (b ∷ bs) t i a c =
      elim (cases_lt i (h + 2 ^ b.1)) [
        | inl low ↦ (b.1, inl (t.0 ∙ sym (head_of h i b.1 t.1.aligned a low), refl))
        | inr high ↦ let z = covers (h + 2 ^ b.1) (n - 2 ^ b.1) bs t.2 i high (omega (arith, t.1.inside)) in (z.0, inr z.1)
      ]

  tiles-normal : (pages h n : ℕ) (bs : List (ℕ × ℕ)) → h + n ≤ pages → Tile m h n bs → IsNormal m (IsAmong bs) (In (pages_of_run pages h n))
  tiles-normal pages h n bs le t = record {
    order = λ g k x. (lies h n bs t g k x).2;
    aligned = λ g k x. (lies h n bs t g k x).3;
    apart = apart h n bs t;
    unjoined = unjoined h n bs t;
    covers = λ i x. elim (with_pages-to (replicate pages false) h n i x) [
      | inl old ↦ absurd (false≢true (sym (replicated pages i false) ∙ old))
      | inr new ↦ covers h n bs t i new.0 new.1
    ];
    inside = λ g k x i a c.
        let z = lies h n bs t g k x in
        with_pages-new (replicate pages false) h n i (omega (arith, z.1, length-replicate pages false)) (omega (arith, z.0)) (omega (arith, z.1));
  }

pub cut_is_maximal : CutIsMaximal
cut_is_maximal m pages h n le g k = max-unique m (IsAmong (cut m h n)) (pages_of_run pages h n) (tiles-normal m pages h n (cut m h n) le (cut_tiles m h n)) g k
