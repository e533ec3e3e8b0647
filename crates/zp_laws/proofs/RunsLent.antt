-- Whose each page is when the blocks of a run go out: the run's pages are the worker's, and all others are whose they were.
use Rattle.std.proofs.Common.{ℕ, ◌+◌, ◌-◌, ◌^◌, ◌≡◌, ◌≢◌, ◌≤◌, ◌<◌, ◌⊎◌, inl, inr, refl, sym, ◌∙◌, ap, arith, Bool, true, false, List, [], ◌∷◌, length, not, ◌&&◌, ◌||◌, Option, Some, None}
use Rattle.std.proofs.lemmas.Nat.{pow_pos}
use Rattle.std.proofs.lemmas.Bool.{cases_eq, false_from_ne_true, or_cases}
use Rattle.std.proofs.Math.Bool.{or-true}
use Rattle.std.proofs.lemmas.Option.{none-some, same_Some}
use Rattle.std.proofs.lemmas.List.{get_or-set_same, get_or-set_other}
use Rattle.std.specs.Option.{option_map}
use Rattle.zp_model.specs.declared.migrate_type.MigrateType.{MigrateType}
use Rattle.zp_model.specs.Block.{in_run, IsBlock}
use Rattle.zp_model.specs.Books.{own}
use Rattle.zp_model.specs.Lawful.{IsLawful}
use Rattle.zp_model.specs.Runs.{block_around, cut, hand_out_blocks, hand_out_run, is_within}
use Rattle.zp_model.specs.RunLaws.{Tile}
use Rattle.zp_model.specs.Zone.{PlainZone, Holding, holding_at, pages_of, workers_of, hand_out}
use Rattle.zp_model.proofs.Cuts.{cut_tiles}
use Rattle.zp_model.proofs.RunParts.{within-to, within-from}
use Rattle.zp_laws.proofs.Around.{IsAround, around-from, around-to}
use Rattle.zp_laws.proofs.BooksOut.{own-taken}
use Rattle.zp_laws.proofs.HandedOut.{in_run-head}
use Rattle.zp_laws.proofs.RunsOut.{IsLawfulBut, IsReady, block_out, nowhere-not_out, within_parts}

-- from z to y the pages of a run went out to w in blocks of these types, and nothing else that is out changed
pub record IsLentToo (z y : PlainZone) (w : ℕ) (kind : ℕ → MigrateType) (h n : ℕ) : Type 0 where
  pub kept : (v i : ℕ) (c : ℕ × Holding) → IsAround z.out v i c → IsAround y.out v i c
  pub new : (i : ℕ) → is_within h n i ≡ true → (c : ℕ × Holding) × IsAround y.out w i c × (c.1.kind ≡ kind c.0)
  pub only : (v i : ℕ) (c : ℕ × Holding) → IsAround y.out v i c → IsAround z.out v i c ⊎ ((v ≡ w) × (is_within h n i ≡ true))
  pub others : (u : ℕ) → u ≢ w → own u y.out ≡ own u z.out

-- a block goes out where none was
block_lent : (z : PlainZone) (w h k : ℕ) (kind : ℕ → MigrateType) → h < length z.out → holding_at z.out h ≡ None → IsLentToo z (hand_out z w h k (kind h)) w kind h (2 ^ k)
block_lent z w h k kind lt none =
    let x : Holding = record { order = k; kind = kind h; worker = w } in
    let here : holding_at (hand_out z w h k (kind h)).out h ≡ Some x = get_or-set_same z.out h (Some x) None lt in
    record {
      kept = λ v i c a. record {
        at = get_or-set_other z.out h c.0 (Some x) None (λ e. none-some c.1 (sym none ∙ ap (holding_at z.out) (sym e) ∙ a.at)) ∙ a.at;
        worker = a.worker;
        page = a.page;
      };
      new = λ i r. ((h, x), record { at = here; worker = refl; page = r }, refl);
      only = λ v i c a. elim (cases_eq c.0 h) [
        | inr other ↦ inl (record { at = sym (get_or-set_other z.out h c.0 (Some x) None other) ∙ a.at; worker = a.worker; page = a.page })
        | inl same ↦
            let one : x ≡ c.1 = same_Some x c.1 (sym here ∙ ap (holding_at (hand_out z w h k (kind h)).out) (sym same) ∙ a.at) in
            inr (sym a.worker ∙ ap (λ (y : Holding). y.worker) (sym one), ap (λ g. in_run g k i) (sym same) ∙ ap (λ (y : Holding). in_run c.0 y.order i) one ∙ a.page)
      ];
      others = λ u ne. own-taken u h z.out x ne none;
    }

-- the blocks that tile a run of pages that lie nowhere go out
tiles_lent : (w : ℕ) (kind : ℕ → MigrateType) (bs : List (ℕ × ℕ)) (h n : ℕ) (z : PlainZone) (u : ℕ → Bool) → Tile z.area.largest h n bs → h + n ≤ pages_of z → w < workers_of z →
    ((i : ℕ) → is_within h n i ≡ true → u i ≡ true) → IsLawfulBut z u → IsLentToo z (hand_out_blocks z w kind bs) w kind h n
tiles_lent w kind [] h n z u t le lt all l = record {
  kept = λ v i c a. a;
  new = λ i r. absurd (nothing i r);
  only = λ v i c a. inl a;
  others = λ u ne. refl;
}
  where
    nothing : (i : ℕ) → is_within h n i ≡ true → ⊥
    nothing i r = let c = within-to h n i r in omega (arith, c.0, c.1, t)
tiles_lent w kind (b ∷ bs) h n z u t le lt all l =
    let x = t.1 in
    let k : ℕ = b.1 in
    let first : ℕ → Bool = λ i. u i && not (in_run b.0 k i) in
    let rest : ℕ → Bool = is_within (h + 2 ^ k) (n - 2 ^ k) in
    let at : (i : ℕ) → in_run b.0 k i ≡ in_run h k i = λ i. ap (λ g. in_run g k i) t.0 in
    let parts : (i : ℕ) → is_within h n i ≡ (in_run b.0 k i || rest i) = λ i. within_parts h n (2 ^ k) i x.inside ∙ ap (λ c. c || rest i) (sym (at i)) in
    let block : IsBlock z.area.largest (pages_of z) b.0 k = record { order = x.order; aligned = rw t.0 x.aligned; inside = omega (arith, t.0, x.inside) } in
    let sub : (i : ℕ) → in_run b.0 k i ≡ true → u i ≡ true = λ i r. all i (parts i ∙ rw r refl) in
    let y : PlainZone = hand_out z w b.0 k (kind b.0) in
    let room : b.0 < pages_of z = omega (arith, block.inside, pow_pos k) in
    let none : holding_at z.out b.0 ≡ None = nowhere-not_out z u l b.0 room (sub b.0 (in_run-head b.0 k)) in
    let m : IsLawfulBut y first = block_out z u l w b.0 k (kind b.0) lt block sub in
    let one : IsLentToo z y w kind b.0 (2 ^ k) = block_lent z w b.0 k kind (omega (arith, l.places)) none in
    let more : IsLentToo y (hand_out_blocks y w kind bs) w kind (h + 2 ^ k) (n - 2 ^ k) = tiles_lent w kind bs (h + 2 ^ k) (n - 2 ^ k) y first t.2 (omega (arith, x.inside)) lt (λ i r.
    let c = within-to (h + 2 ^ k) (n - 2 ^ k) i r in
    let off : in_run b.0 k i ≡ false = at i ∙ false_from_ne_true _ (λ q. let d = within-to h (2 ^ k) i q in omega (arith, c.0, d.1)) in
    rw (all i (within-from h n i (omega (arith, c.0)) (omega (arith, c.1, x.inside))), off) refl) m in
    record {
      kept = λ v i c a. more.kept v i c (one.kept v i c a);
      new = λ i r. elim (or_cases _ _ (sym (parts i) ∙ r)) [ inl low ↦ let c = one.new i low in (c.0, more.kept w i c.0 c.1, c.2) | inr high ↦ more.new i high ];
      only = λ v i c a. elim (more.only v i c a) [
        | inr high ↦ inr (high.0, parts i ∙ rw high.1 (or-true (in_run b.0 k i)))
        | inl before ↦ elim (one.only v i c before) [ inl old ↦ inl old | inr low ↦ inr (low.0, parts i ∙ rw low.1 refl) ]
      ];
      others = λ v ne. more.others v ne ∙ one.others v ne;
    }

pub cut_lent : (z : PlainZone) (u : ℕ → Bool) (w : ℕ) (kind : ℕ → MigrateType) (h n : ℕ) → IsReady z u w h n → IsLentToo z (hand_out_run z w kind h n) w kind h n
cut_lent z u w kind h n x = tiles_lent w kind (cut z.area.largest h n) h n z u (cut_tiles z.area.largest h n) x.inside x.worker x.pages x.but

-- the type for which page i is lent to w
abbrev pub type_around : PlainZone → ℕ → ℕ → Option MigrateType
type_around z w i = option_map (λ (b : ℕ × Holding). b.1.kind) (block_around z w i)

-- a page is lent for the type of the block around it
pub type_some : (z : PlainZone) (w i : ℕ) (c : ℕ × Holding) → IsLawful z → IsAround z.out w i c → type_around z w i ≡ Some c.1.kind
type_some z w i c l a = rw (around-from z l w i c a) refl

pub type_none : (z : PlainZone) (w i : ℕ) → ((c : ℕ × Holding) → IsAround z.out w i c → ⊥) → type_around z w i ≡ None
type_none z w i off = go (block_around z w i) refl
  where
    go : (o : Option (ℕ × Holding)) → block_around z w i ≡ o → type_around z w i ≡ None
    go None e = rw e refl
    go (Some c) e = absurd (off c (around-to z w i c e))

-- a page that lies in blocks of the same type before and after, if in any
pub type_same : (z y : PlainZone) (w i : ℕ) → IsLawful z → IsLawful y → ((c : ℕ × Holding) → IsAround z.out w i c → (d : ℕ × Holding) × IsAround y.out w i d × (d.1.kind ≡ c.1.kind)) →
    ((d : ℕ × Holding) → IsAround y.out w i d → (c : ℕ × Holding) × IsAround z.out w i c) → type_around y w i ≡ type_around z w i
type_same z y w i k l to from = go (block_around z w i) refl
  where
    go : (o : Option (ℕ × Holding)) → block_around z w i ≡ o → type_around y w i ≡ type_around z w i
    go (Some c) e = let d = to c (around-to z w i c e) in type_some y w i d.0 l d.1 ∙ ap (λ t. Some t) d.2 ∙ sym (rw e refl)
    go None e = type_none y w i (λ d a. let c = from d a in none-some c.0 (sym e ∙ around-from z k w i c.0 c.1)) ∙ sym (rw e refl)
