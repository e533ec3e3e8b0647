-- A zone of which some pages lie nowhere, and the blocks of a run of them that go out.
use Rattle.std.proofs.Common.{ℕ, ◌+◌, ◌-◌, ◌^◌, ◌≡◌, ◌≤◌, ◌<◌, inl, inr, refl, sym, ◌∙◌, ap, arith, Bool, true, false, List, [], ◌∷◌, length, not, ◌&&◌, ◌||◌, Option, Some, None}
use Rattle.std.specs.Prelude.{slice_set}
use Rattle.std.proofs.lemmas.Nat.{pow_pos}
use Rattle.std.proofs.lemmas.Bool.{cases_eq, false_from_ne_true}
use Rattle.std.proofs.lemmas.Bool.Decides.{nat_tests}
use Rattle.std.proofs.lemmas.Option.{same_Some}
use Rattle.std.proofs.lemmas.List.{length-set, get_or-set_same, get_or-set_other}
use Rattle.zp_model.specs.declared.migrate_type.MigrateType.{MigrateType}
use Rattle.zp_model.specs.Block.{has, in_run, IsBlock}
use Rattle.zp_model.specs.Area.{pageblocks_of}
use Rattle.zp_model.specs.Lawful.{times_out, times_posted, IsLawful, IsListedArea}
use Rattle.zp_model.specs.Runs.{cut, hand_out_blocks, hand_out_run, is_within}
use Rattle.zp_model.specs.RunLaws.{Tile}
use Rattle.zp_model.specs.Zone.{PlainZone, Holding, holding_at, pages_of, workers_of, hand_out, posted_to}
use Rattle.zp_model.proofs.Cuts.{cut_tiles}
use Rattle.zp_model.proofs.RunParts.{within-to, within-from}
use Rattle.zp_laws.proofs.Counting.{one_if}
use Rattle.zp_laws.proofs.HandedOut.{times-parts, times_out-more, out-has, in_run-head}
use Rattle.zp_laws.proofs.Keeping.{AllPosted}

-- the zone is lawful but for the pages of u, which lie nowhere
pub record IsLawfulBut (z : PlainZone) (u : ℕ → Bool) : Type 0 where
  pub places : length z.out ≡ pages_of z
  pub kinds : length z.area.kinds ≡ pageblocks_of z.area.largest (pages_of z)
  pub out : (h : ℕ) (x : Holding) → holding_at z.out h ≡ Some x → IsBlock z.area.largest (pages_of z) h x.order × (x.worker < workers_of z)
  pub posted : (w : ℕ) → AllPosted z.area.largest (pages_of z) (posted_to z w)
  pub once : (i : ℕ) → i < pages_of z → one_if (has z.area.free i) + times_out z.out i + times_posted z.posted i + one_if (u i) ≡ 1
  pub lists : IsListedArea z.area

-- it is lawful where there are none
pub but_none : (z : PlainZone) (u : ℕ → Bool) → IsLawfulBut z u → ((i : ℕ) → u i ≡ false) → IsLawful z
but_none z u l e = record {
  places = l.places;
  kinds = l.kinds;
  out = l.out;
  posted = l.posted;
  once = λ i lt. let no : one_if (u i) ≡ 0 = ap one_if (e i) in times-parts z i ∙ omega (arith, l.once i lt);
  lists = l.lists;
}

pub but_same : (z : PlainZone) (u v : ℕ → Bool) → IsLawfulBut z u → ((i : ℕ) → u i ≡ v i) → IsLawfulBut z v
but_same z u v l e =
    record { places = l.places; kinds = l.kinds; out = l.out; posted = l.posted; once = λ i lt. rw (← e i) (l.once i lt); lists = l.lists }

module _ (z : PlainZone) (u : ℕ → Bool) (l : IsLawfulBut z u) where
  -- no block out has a page that lies nowhere
  pub nowhere-not_out : (h : ℕ) → h < pages_of z → u h ≡ true → holding_at z.out h ≡ None
  nowhere-not_out h lt e = go (holding_at z.out h) refl
    where
      go : (o : Option Holding) → holding_at z.out h ≡ o → holding_at z.out h ≡ None
      go None q = q
      go (Some x) q = let one : one_if (u h) ≡ 1 = ap one_if e in absurd (omega (arith, out-has z.out h h x q (in_run-head h x.order), l.once h lt))

  -- a block of such pages goes out
  pub block_out : (w h k : ℕ) (t : MigrateType) → w < workers_of z → IsBlock z.area.largest (pages_of z) h k → ((i : ℕ) → in_run h k i ≡ true → u i ≡ true) →
      IsLawfulBut (hand_out z w h k t) (λ i. u i && not (in_run h k i))
  block_out w h k t lt b all =
      let x : Holding = record { order = k; kind = t; worker = w } in
      let room : h < pages_of z = omega (arith, b.inside, pow_pos k) in
      let below : h < length z.out = omega (arith, l.places) in
      let none : holding_at z.out h ≡ None = nowhere-not_out h room (all h (in_run-head h k)) in
      record {
        places = length-set z.out h (Some x) ∙ l.places;
        kinds = l.kinds;
        out = λ g y e. elim (cases_eq g h) [
          | inl same ↦ rw (same, ← same_Some x y (sym (get_or-set_same z.out h (Some x) None below) ∙ rw same at e)) (b, lt)
          | inr other ↦ l.out g y (sym (get_or-set_other z.out h g (Some x) None other) ∙ e)
        ];
        posted = l.posted;
        once = λ i inside.
            moved (one_if (has z.area.free i)) (times_out z.out i) (times_out (slice_set z.out h (Some x)) i) (times_posted z.posted i) (u i) (in_run h k i)
            (times_out-more z.out h i x below none) (all i) (l.once i inside);
        lists = l.lists;
      }
    where
      moved : (f o o' p : ℕ) (u r : Bool) → o' ≡ o + one_if r → (r ≡ true → u ≡ true) → f + o + p + one_if u ≡ 1 → f + o' + p + one_if (u && not r) ≡ 1
      moved f o o' p u r e sub s = grind arith

-- a run is its first pages and the others
pub within_parts : (h n s i : ℕ) → s ≤ n → is_within h n i ≡ (is_within h s i || is_within (h + s) (n - s) i)
within_parts h n s i le = grind (arith, nat_tests)

pub within_none : (h n i : ℕ) → n ≡ 0 → is_within h n i ≡ false
within_none h n i e = false_from_ne_true _ (λ x. let r = within-to h n i x in omega (arith, r.0, r.1))

-- blocks that tile a run of such pages go out
tiles_out : (w : ℕ) (kind : ℕ → MigrateType) (bs : List (ℕ × ℕ)) (h n : ℕ) (z : PlainZone) (u : ℕ → Bool) → Tile z.area.largest h n bs → h + n ≤ pages_of z → w < workers_of z →
    ((i : ℕ) → is_within h n i ≡ true → u i ≡ true) → IsLawfulBut z u → IsLawfulBut (hand_out_blocks z w kind bs) (λ i. u i && not (is_within h n i))
tiles_out w kind [] h n z u t le lt all l = but_same z u (λ i. u i && not (is_within h n i)) l (λ i. rw (within_none h n i t) (whole (u i)))
  where
    whole : (u : Bool) → u ≡ (u && not false)
    whole u = grind arith
tiles_out w kind (b ∷ bs) h n z u t le lt all l =
    let x = t.1 in
    let k : ℕ = b.1 in
    let first : ℕ → Bool = λ i. u i && not (in_run b.0 k i) in
    let rest : ℕ → Bool = is_within (h + 2 ^ k) (n - 2 ^ k) in
    let at : (i : ℕ) → in_run b.0 k i ≡ in_run h k i = λ i. ap (λ g. in_run g k i) t.0 in
    let parts : (i : ℕ) → is_within h n i ≡ (in_run b.0 k i || rest i) = λ i. within_parts h n (2 ^ k) i x.inside ∙ ap (λ c. c || rest i) (sym (at i)) in
    let block : IsBlock z.area.largest (pages_of z) b.0 k = record { order = x.order; aligned = rw t.0 x.aligned; inside = omega (arith, t.0, x.inside) } in
    let y : PlainZone = hand_out z w b.0 k (kind b.0) in
    let m : IsLawfulBut y first = block_out z u l w b.0 k (kind b.0) lt block (λ i r. all i (parts i ∙ rw r refl)) in
    but_same (hand_out_blocks y w kind bs) (λ i. first i && not (rest i)) (λ i. u i && not (is_within h n i))
    (tiles_out w kind bs (h + 2 ^ k) (n - 2 ^ k) y first t.2 (omega (arith, x.inside)) lt (λ i r.
    let c = within-to (h + 2 ^ k) (n - 2 ^ k) i r in
    let off : in_run b.0 k i ≡ false = at i ∙ false_from_ne_true _ (λ q. let d = within-to h (2 ^ k) i q in omega (arith, c.0, d.1)) in
    rw (all i (within-from h n i (omega (arith, c.0)) (omega (arith, c.1, x.inside))), off) refl) m)
    (λ i. rw (parts i) (twice (u i) (in_run b.0 k i) (rest i)))
  where
    twice : (u a b : Bool) → ((u && not a) && not b) ≡ (u && not (a || b))
    twice u a b = grind arith

-- w may have the run, whose pages lie nowhere: they are among those of u
pub record IsReady (z : PlainZone) (u : ℕ → Bool) (w h n : ℕ) : Type 0 where
  pub inside : h + n ≤ pages_of z
  pub worker : w < workers_of z
  pub pages : (i : ℕ) → is_within h n i ≡ true → u i ≡ true
  pub but : IsLawfulBut z u

-- the blocks of its cut go out
pub cut_out : (z : PlainZone) (u : ℕ → Bool) (w : ℕ) (kind : ℕ → MigrateType) (h n : ℕ) → IsReady z u w h n → IsLawfulBut (hand_out_run z w kind h n) (λ i. u i && not (is_within h n i))
cut_out z u w kind h n x = tiles_out w kind (cut z.area.largest h n) h n z u (cut_tiles z.area.largest h n) x.inside x.worker x.pages x.but
