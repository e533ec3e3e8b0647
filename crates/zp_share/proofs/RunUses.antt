-- Runs of pages among those of a worker: how they go out as the blocks of their cut, and come back block by block.
use Rattle.std.specs.Prelude.{slice_set, IfNone, IfSome}
use Rattle.std.specs.List.{range_with_len}
use Rattle.std.specs.Option.{is_some}
use Rattle.std.proofs.Common.{ℕ, ◌+◌, ◌-◌, ◌^◌, ◌≡◌, ◌==◌, ◌≤◌, ◌<◌, inl, inr, refl, sym, ◌∙◌, ap, arith, true, false, List, [], ◌∷◌, length, map, Option, Some, None}
use Rattle.std.proofs.Math.ListN.{get_or-map}
use Rattle.std.proofs.lemmas.Bool.{and_from, and_parts, both_ways, cases_Bool, cases_eq, cases_lt, eq-eqb, eqb-true, false≢true, false_from_ne_true, le-leb, leb-true}
use Rattle.std.proofs.lemmas.List.{ext_get_or, get_or-set_other, get_or-set_same, length-map, length-set, map-set}
use Rattle.std.proofs.lemmas.List.FromFn.{get_or-map-range_with_len, length-map-range_with_len}
use Rattle.std.proofs.lemmas.Nat.{pow_pos}
use Rattle.std.proofs.lemmas.Option.{none-some, same_Some}
use Rattle.zp_model.specs.declared.migrate_type.MigrateType.{MigrateType}
use Rattle.zp_model.specs.declared.constants.TheConstants.{ORDERS}
use Rattle.zp_model.specs.Area.{Area}
use Rattle.zp_model.specs.Block.{head, in_run, IsBlock}
use Rattle.zp_model.specs.Books.{only, own}
use Rattle.zp_model.specs.Lawful.{IsLawful}
use Rattle.zp_model.specs.MigrateType.{type_number}
use Rattle.zp_model.specs.Runs.{block_around, cut, fitting_order, give_run, hand_out_blocks, hand_out_run, may_free_run, run_freed}
use Rattle.zp_model.specs.Zone.{PlainZone, Holding, hand_out, holding_at, pages_of, take_back, workers_of}
use Rattle.zp_model.proofs.Covers.{some_below-decides}
use Rattle.zp_model.proofs.Cuts.{fitting}
use Rattle.zp_model.proofs.Heads.{head_aligned, head_le, head_of, head_self, lt_head}
use Rattle.zp_model.proofs.LowestRun.{all-from, all-to}
use Rattle.zp_model.proofs.Pages.{in_run-from, in_run-to}
use Rattle.zp_model.proofs.RunParts.{within-from, within-to}
use Rattle.zp_laws.specs.RunsByBlocks.{part_freed}
use Rattle.zp_laws.proofs.Areas.{largest-give_run}
use Rattle.zp_laws.proofs.Around.{IsAround, around-from, out_apart}
use Rattle.zp_laws.proofs.BooksOut.{own-at}
use Rattle.zp_laws.proofs.KeepingRuns.{IsLent, freed_run_rest, out_rest}
use Rattle.zp_laws.proofs.RunSteps.{lent-to, run_freed_lawful}
use Rattle.zp_laws.proofs.RunsByBlocks.{freed_in_block}
use Rattle.zp_zone.proofs.RunsFreed.{IsFreeingRun, freeing_begins, freeing_goes}
use Rattle.zp_zone.proofs.RunsGiven.{lent_all}
use Rattle.zp_zone.proofs.RunsNoted.{cut_first}
use Rattle.zp_share.specs.declared.page_use.PageUse.{PageUse}
use Rattle.zp_share.specs.declared.page_use.PageUse.TheVariants.{Away, Lent, Cached}
use Rattle.zp_share.specs.PageUses.{AreUncached, AreWholeBlocks, HasSameCached, IsCutLent, IsOneBlock, IsPartFreed, held, is_cached_as, is_lent_as, is_lent_page, is_lent_run, lent_as, use_at, uses_by}

-- what goes out in zones that have the same blocks out leaves the same blocks out
out_alike : (w : ℕ) (kind : ℕ → MigrateType) (bs : List (ℕ × ℕ)) (z y : PlainZone) → z.out ≡ y.out → (hand_out_blocks z w kind bs).out ≡ (hand_out_blocks y w kind bs).out
out_alike w kind [] z y e = e
out_alike w kind (b ∷ bs) z y e =
    let x : Holding = record { order = b.1; kind = kind b.0; worker = w } in
    out_alike w kind bs (hand_out z w b.0 b.1 (kind b.0)) (hand_out y w b.0 b.1 (kind b.0)) (ap (λ o. slice_set o b.0 (Some x)) e)

run_alike : (w : ℕ) (kind : ℕ → MigrateType) (h n : ℕ) (z y : PlainZone) → z.area.largest ≡ y.area.largest → z.out ≡ y.out → (hand_out_run z w kind h n).out ≡ (hand_out_run y w kind h n).out
run_alike w kind h n z y m e = ap (λ l. (hand_out_blocks z w kind (cut l h n)).out) m ∙ out_alike w kind (cut y.area.largest h n) z y e

-- the first block of a run's cut goes out, and then the rest
run_first : (z : PlainZone) (w : ℕ) (kind : ℕ → MigrateType) (m h n : ℕ) → z.area.largest ≡ m → 0 < n →
    hand_out_run z w kind h n ≡ hand_out_run (hand_out z w h (fitting_order m h n) (kind h)) w kind (h + 2 ^ fitting_order m h n) (n - 2 ^ fitting_order m h n)
run_first z w kind m h n e some =
    let k : ℕ = fitting_order m h n in
    ap (λ l. hand_out_blocks z w kind (cut l h n)) e
    ∙ ap (λ bs. hand_out_blocks z w kind bs) (cut_first m h n some)
    ∙ ap (λ l. hand_out_blocks (hand_out z w h k (kind h)) w kind (cut l (h + 2 ^ k) (n - 2 ^ k))) (sym e)

-- a page is lent where a lent block around it is
page_to : (us : List PageUse) (i : ℕ) → is_lent_page us i ≡ true → (k : ℕ) × (k < ORDERS) × (is_lent_as k (use_at us (head i k)) ≡ true)
unfolding is_lent_page
page_to us i e = (some_below-decides (λ k. is_lent_as k (use_at us (head i k))) ORDERS).0 e

page_from : (us : List PageUse) (i k : ℕ) → k < ORDERS → is_lent_as k (use_at us (head i k)) ≡ true → is_lent_page us i ≡ true
unfolding is_lent_page
page_from us i k lt e = (some_below-decides (λ k. is_lent_as k (use_at us (head i k))) ORDERS).1 (k, lt, e)

pub page_not : (us : List PageUse) (i : ℕ) → ((k : ℕ) → k < ORDERS → is_lent_as k (use_at us (head i k)) ≡ false) → is_lent_page us i ≡ false
page_not us i f = false_from_ne_true _ (λ e. let k = page_to us i e in both_ways _ (f k.0 k.1) k.2)

-- each page of a lent block is lent
pub block_lent : (us : List PageUse) (at k i : ℕ) → k < ORDERS → is_lent_as k (use_at us (head at k)) ≡ true → head at k ≤ i → i < head at k + 2 ^ k → is_lent_page us i ≡ true
block_lent us at k i lt e lo hi = page_from us i k lt (ap (λ g. is_lent_as k (use_at us g)) (head_of (head at k) i k (head_aligned at k) lo hi) ∙ e)

-- it is so still where a later page gets another use
page_kept : (us : List PageUse) (i g : ℕ) (u : PageUse) → i < g → is_lent_page us i ≡ true → is_lent_page (slice_set us g u) i ≡ true
page_kept us i g u before e =
    let k = page_to us i e in
    page_from (slice_set us g u) i k.0 k.1 (ap (is_lent_as k.0) (get_or-set_other us g (head i k.0) u Away (λ same. omega (arith, same, head_le i k.0, before))) ∙ k.2)

-- of the run (h, n) the blocks of the cut before page next are lent, and left pages are to be: the uses were us, and are vs
pub record IsLending (m : ℕ) (kind : ℕ → MigrateType) (us vs : List PageUse) (h n next left : ℕ) : Type 0 where
  pub upto : next + left ≡ h + n
  pub from : h ≤ next
  pub pages : length vs ≡ length us
  pub cached : HasSameCached us vs
  pub lent : (i : ℕ) → h ≤ i → i < next → is_lent_page vs i ≡ true
  pub blocks : (z : PlainZone) (w : ℕ) → z.area.largest ≡ m → (hand_out_run (record z { out = map (held w) vs }) w kind next left).out ≡ (hand_out_run (record z { out = map (held w) us }) w kind h n).out

pub lending_begins : (m : ℕ) (kind : ℕ → MigrateType) (us : List PageUse) (h n : ℕ) → IsLending m kind us us h n h n
lending_begins m kind us h n = record { upto = refl; from = omega arith; pages = refl; cached = λ r g. refl; lent = λ i lo hi. absurd (omega (arith, lo, hi)); blocks = λ z w e. refl }

-- a page that was on no list gets a use that is no list's
set_cached : (us vs : List PageUse) (g : ℕ) (u : PageUse) → HasSameCached us vs → g < length vs → ((r : ℕ) → is_cached_as r (use_at us g) ≡ false) → ((r : ℕ) → is_cached_as r u ≡ false) → HasSameCached us (slice_set vs g u)
set_cached us vs g u x below was now r f = elim (cases_eq f g) [
  | inl same ↦ ap (λ i. is_cached_as r (use_at (slice_set vs g u) i)) same ∙ ap (is_cached_as r) (get_or-set_same vs g u Away below) ∙ now r ∙ sym (was r) ∙ ap (λ i. is_cached_as r (use_at us i)) (sym same)
  | inr other ↦ ap (is_cached_as r) (get_or-set_other vs g f u Away other) ∙ x r f
]

pub lending_goes : (m : ℕ) (kind : ℕ → MigrateType) (us vs : List PageUse) (h n next left : ℕ) → IsLending m kind us vs h n next left → 0 < left → fitting_order m next left < ORDERS →
    AreUncached us h n → h + n ≤ length us →
    IsLending m kind us (slice_set vs next (Lent (fitting_order m next left) (kind next))) h n (next + 2 ^ fitting_order m next left) (left - 2 ^ fitting_order m next left)
lending_goes m kind us vs h n next left x some small out inside =
    let k : ℕ = fitting_order m next left in
    let fit = fitting m next left (omega (arith, some)) in
    let below : next < length vs = omega (arith, x.pages, x.upto, inside, some) in
    let at : head next k ≡ next = head_self next k fit.aligned in
    let here : is_lent_as k (use_at (slice_set vs next (Lent k (kind next))) (head next k)) ≡ true = rw (at, get_or-set_same vs next (Lent k (kind next)) Away below) (eq-eqb k k refl) in
    record {
      upto = omega (arith, x.upto, fit.inside);
      from = omega (arith, x.from);
      pages = length-set vs next (Lent k (kind next)) ∙ x.pages;
      cached = set_cached us vs next (Lent k (kind next)) x.cached below (λ r. out r next x.from (omega (arith, x.upto))) (λ r. refl);
      lent = λ i lo hi. elim (cases_lt i next) [
        | inl before ↦ page_kept vs i next (Lent k (kind next)) before (x.lent i lo before)
        | inr new ↦ block_lent (slice_set vs next (Lent k (kind next))) next k i small here (omega (arith, at, new)) (omega (arith, at, hi))
      ];
      blocks = λ z w e.
          let y : PlainZone = record z { out = map (held w) vs } in
          ap (λ o. (hand_out_run (record z { out = o }) w kind (next + 2 ^ k) (left - 2 ^ k)).out) (map-set (held w) vs next (Lent k (kind next)))
          ∙ sym (ap (λ (v : PlainZone). v.out) (run_first y w kind m next left e some))
          ∙ x.blocks z w e;
    }

pub lending_ends : (m : ℕ) (kind : ℕ → MigrateType) (us vs : List PageUse) (h n next left : ℕ) → left ≡ 0 → IsLending m kind us vs h n next left → IsCutLent m kind us vs h n
lending_ends m kind us vs h n next left none x = record {
  pages = x.pages;
  cached = x.cached;
  lent = λ i lo hi. x.lent i lo (omega (arith, x.upto, none, hi));
  blocks = λ z w e. sym (ap (λ l. (hand_out_run (record z { out = map (held w) vs }) w kind next l).out) none) ∙ x.blocks z w e;
}

-- a use that is cached, and one that is lent
cached_use : (r : ℕ) (u : PageUse) → is_cached_as r u ≡ true → (t : MigrateType) × (u ≡ Cached t) × (type_number t ≡ r)
cached_use r Away e = absurd (false≢true e)
cached_use r (Lent j t) e = absurd (false≢true e)
cached_use r (Cached t) e = (t, refl, eqb-true (type_number t) r e)

pub lent_by : (k : ℕ) (u : PageUse) → is_lent_as k u ≡ true → (t : MigrateType) × (u ≡ Lent k t)
lent_by k Away e = absurd (false≢true e)
lent_by k (Lent j t) e = (t, ap (λ i. Lent i t) (eqb-true j k e))
lent_by k (Cached t) e = absurd (false≢true e)

-- of a lent block that was no list's the first pages come back, and what the block has before and behind them is lent again
pub part_freed_uses : (m : ℕ) (us u1 u2 u3 : List PageUse) (g k h n c : ℕ) (t : MigrateType) → use_at us g ≡ Lent k t → g < length us → in_run g k h ≡ true → 1 ≤ c → c ≤ n → h + c ≤ g + 2 ^ k → (c < n → h + c ≡ g + 2 ^ k) →
    u1 ≡ slice_set us g Away → IsCutLent m (λ _. t) u1 u2 g (h - g) → IsCutLent m (λ _. t) u2 u3 (h + c) (g + 2 ^ k - (h + c)) → IsPartFreed m us u3 h n c
part_freed_uses m us u1 u2 u3 g k h n c t was below around some most within ends gone before behind = record {
  first = g;
  order = k;
  kind = t;
  was = was;
  around = around;
  some = some;
  most = most;
  within = within;
  ends = ends;
  pages = behind.pages ∙ before.pages ∙ ap length gone ∙ length-set us g Away;
  cached = λ r f. behind.cached r f ∙ before.cached r f ∙ ap (λ l. is_cached_as r (use_at l f)) gone ∙ set_cached us us g Away (λ q i. refl) below (λ q. ap (is_cached_as q) was) (λ q. refl) r f;
  blocks = λ z w e out.
      let x : Holding = record { order = k; kind = t; worker = w } in
      let y : PlainZone = record z { area = give_run z.area h c } in
      let y1 : PlainZone = take_back y g in
      let y2 : PlainZone = hand_out_run y1 w (λ _. t) g (h - g) in
      let largest : y1.area.largest ≡ z.area.largest = largest-give_run z.area h c in
      let o1 : map (held w) u1 ≡ y1.out = ap (map (held w)) gone ∙ map-set (held w) us g Away ∙ ap (λ o. slice_set o g None) (sym out) in
      let o2 : map (held w) u2 ≡ y2.out = before.blocks z w e ∙ run_alike w (λ _. t) g (h - g) (record z { out = map (held w) u1 }) y1 (sym largest) o1 in
      let still : y2.area.largest ≡ z.area.largest = ap (λ (a : Area). a.largest) (out_rest w (λ _. t) (cut y1.area.largest g (h - g)) y1).area ∙ largest in
      behind.blocks z w e ∙ run_alike w (λ _. t) (h + c) (g + 2 ^ k - (h + c)) (record z { out = map (held w) u2 }) y2 (sym still) o2;
}

-- no page has no block to be lent
none_lent : (m : ℕ) (kind : ℕ → MigrateType) (us : List PageUse) (h n : ℕ) → n ≡ 0 → IsCutLent m kind us us h n
none_lent m kind us h n none = lending_ends m kind us us h n h n none (lending_begins m kind us h n)

-- a lent block comes back whole
pub whole_freed_uses : (m : ℕ) (us vs : List PageUse) (g k h n c : ℕ) → is_lent_as k (use_at us g) ≡ true → g < length us → in_run g k h ≡ true → c ≡ 2 ^ k → c ≤ n → h + c ≤ g + 2 ^ k →
    vs ≡ slice_set us g Away → IsPartFreed m us vs h n c
whole_freed_uses m us vs g k h n c lent below around size most within gone =
    let t = lent_by k (use_at us g) lent in
    let r = in_run-to g k h around in
    part_freed_uses m us vs vs vs g k h n c t.0 t.1 below around (omega (arith, size, pow_pos k)) most within (λ less. omega (arith, size, r.0, within)) gone
    (none_lent m (λ _. t.0) vs g (h - g) (omega (arith, size, within))) (none_lent m (λ _. t.0) vs (h + c) (g + 2 ^ k - (h + c)) (omega (arith, size, r.0)))

-- a run is lent where it lies in the zone and each page of it is
pub run_not : (base p n : ℕ) (us : List PageUse) → (base ≤ p → 1 ≤ n → p - base + n ≤ length us → ⊥) → is_lent_run base us p n ≡ false
unfolding is_lent_run
run_not base p n us none = false_from_ne_true _ (λ e.
    let a = and_parts _ _ e in
    let b = and_parts _ _ a.0 in
    let c = and_parts _ _ b.0 in
    none (leb-true base p c.0) (leb-true 1 n c.1) (leb-true (p - base + n) (length us) b.1))

pub run_not_page : (base p n i : ℕ) (us : List PageUse) → p - base ≤ i → i < p - base + n → is_lent_page us i ≡ false → is_lent_run base us p n ≡ false
unfolding is_lent_run
run_not_page base p n i us lo hi none = false_from_ne_true _ (λ e. both_ways _ none (all-to (is_lent_page us) (p - base) n (and_parts _ _ e).1 i lo hi))

pub run_from : (base p n : ℕ) (us : List PageUse) → base ≤ p → 1 ≤ n → p - base + n ≤ length us → ((i : ℕ) → p - base ≤ i → i < p - base + n → is_lent_page us i ≡ true) → is_lent_run base us p n ≡ true
unfolding is_lent_run
run_from base p n us from some inside each =
    and_from _ _ (and_from _ _ (and_from _ _ (le-leb base p from) (le-leb 1 n some)) (le-leb (p - base + n) (length us) inside)) (all-from (is_lent_page us) (p - base) n each)

-- a run that is one lent block is lent
pub one_lent : (base p n k : ℕ) (us : List PageUse) → k < ORDERS → IsOneBlock base us p n k → is_lent_run base us p n ≡ true
one_lent base p n k us small x =
    let lent : is_lent_as k (use_at us (head (p - base) k)) ≡ true = ap (λ g. is_lent_as k (use_at us g)) x.aligned ∙ x.lent in
    run_from base p n us x.from (omega (arith, x.size, pow_pos k)) x.inside (λ i lo hi. block_lent us (p - base) k i small lent (omega (arith, x.aligned, lo)) (omega (arith, x.aligned, x.size, hi)))

-- the order that is found of the block that a run is, if it is one, is told at its place
pub one_found : (base p n at : ℕ) (us : List PageUse) (got : Option ℕ) → base ≤ p → at ≡ p - base → at + n ≤ length us →
    IfSome got (λ k. (head at k ≡ at) × (is_lent_as k (use_at us (head at k)) ≡ true) × (2 ^ k ≡ n)) → IfSome got (IsOneBlock base us p n)
one_found base p n at us None from place inside e = tt
one_found base p n at us (Some k) from place inside e = record {
  from = from;
  inside = omega (arith, place, inside);
  size = e.2;
  aligned = ap (λ g. head g k) (sym place) ∙ e.0 ∙ place;
  lent = ap (λ g. is_lent_as k (use_at us g)) (sym place ∙ sym e.0) ∙ e.1;
}

-- and then the run is lent
pub found_lent : (base p n : ℕ) (us : List PageUse) (got : Option ℕ) → IfSome got (λ k. k < ORDERS) → IfSome got (IsOneBlock base us p n) → IfSome got (λ _. is_lent_run base us p n ≡ true)
found_lent base p n us None small x = tt
found_lent base p n us (Some k) small x = one_lent base p n k us small x

pub none_found : (base p n at : ℕ) (us : List PageUse) (got : Option ℕ) → at ≡ p - base →
    IfNone got ((k : ℕ) → head at k ≡ at → 2 ^ k ≡ n → is_lent_as k (use_at us at) ≡ false) → IfNone got ((k : ℕ) → IsOneBlock base us p n k → ⊥)
none_found base p n at us None place e = λ k x. both_ways _ (e k (ap (λ g. head g k) place ∙ x.aligned ∙ sym place) x.size) (ap (λ g. is_lent_as k (use_at us g)) place ∙ x.lent)
none_found base p n at us (Some k) place e = tt

pub run_parts : (base p n : ℕ) (us : List PageUse) → is_lent_run base us p n ≡ true →
    (base ≤ p) × (1 ≤ n) × (p - base + n ≤ length us) × ((i : ℕ) → p - base ≤ i → i < p - base + n → is_lent_page us i ≡ true)
unfolding is_lent_run
run_parts base p n us e =
    let a = and_parts _ _ e in
    let b = and_parts _ _ a.0 in
    let c = and_parts _ _ b.0 in
    (leb-true base p c.0, leb-true 1 n c.1, leb-true (p - base + n) (length us) b.1, all-to (is_lent_page us) (p - base) n a.1)

-- what is out in a worker's name at a page tells the page's use
only_some : (w : ℕ) (o : Option Holding) (x : Holding) → only w o ≡ Some x → o ≡ Some x
only_some w None x e = absurd (none-some x e)
only_some w (Some y) x e = elim (cases_Bool (y.worker == w)) [
  | inl t ↦ rw t at e
  | inr f ↦ absurd (none-some x (rw f at e))
]

module _ (z : PlainZone) (w : ℕ) (us : List PageUse) (out : own w z.out ≡ map (held w) us) where
  -- at each page
  out_use : (g : ℕ) → only w (holding_at z.out g) ≡ held w (use_at us g)
  out_use g = sym (own-at w g z.out) ∙ ap (λ o. holding_at o g) out ∙ get_or-map (held w) us g Away

  pub pages_out : length us ≡ length z.out
  pages_out = sym (length-map us (held w)) ∙ ap length (sym out) ∙ length-map z.out (only w)

  lent_out : (g k : ℕ) (t : MigrateType) → use_at us g ≡ Lent k t → holding_at z.out g ≡ (let x : Holding = record { order = k; kind = t; worker = w } in Some x)
  lent_out g k t e = only_some w (holding_at z.out g) (record { order = k; kind = t; worker = w }) (out_use g ∙ ap (held w) e)

  cached_out : (g : ℕ) (t : MigrateType) → use_at us g ≡ Cached t → holding_at z.out g ≡ (let x : Holding = record { order = 0; kind = t; worker = w } in Some x)
  cached_out g t e = only_some w (holding_at z.out g) (record { order = 0; kind = t; worker = w }) (out_use g ∙ ap (held w) e)

  -- a page of a lent block lies in that block
  lent_around : (g k i : ℕ) (t : MigrateType) → use_at us g ≡ Lent k t → in_run g k i ≡ true → IsAround z.out w i (g, record { order = k; kind = t; worker = w })
  lent_around g k i t e run = record { at = lent_out g k t e; worker = refl; page = run }

  module _ (l : IsLawful z) where
    pub whole_blocks : AreWholeBlocks us
    whole_blocks g k e =
        let u = lent_by k (use_at us g) e in
        let x : Holding = record { order = k; kind = u.0; worker = w } in
        let b : IsBlock z.area.largest (pages_of z) g k = (l.out g x (lent_out g k u.0 u.1)).0 in (
          omega (arith, b.inside, l.places, pages_out),
          λ r i lo hi. false_from_ne_true _ (λ c.
              let v = cached_use r (use_at us i) c in
              let y : Holding = record { order = 0; kind = v.0; worker = w } in
              let same : i ≡ g = out_apart z l i g i y x (cached_out i v.0 v.1) (lent_out g k u.0 u.1) (in_run-from i 0 i (omega arith) (omega arith)) (in_run-from g k i lo hi) in
              let bad : Cached v.0 ≡ Lent k u.0 = sym v.1 ∙ ap (use_at us) same ∙ u.1 in cc),
        )

    -- a page of a lent block is lent to the worker
    page_lent : (i : ℕ) → is_lent_page us i ≡ true → (b : ℕ × Holding) × (block_around z w i ≡ Some b)
    page_lent i e =
        let k = page_to us i e in
        let u = lent_by k.0 (use_at us (head i k.0)) k.2 in
        let b : ℕ × Holding = (head i k.0, record { order = k.0; kind = u.0; worker = w }) in
        (b, around-from z l w i b (lent_around (head i k.0) k.0 i u.0 u.1 (in_run-from (head i k.0) k.0 i (head_le i k.0) (lt_head i k.0))))

-- so a run that is lent by the uses is lent in the zone
pub run_lent : (z : PlainZone) (w p n base : ℕ) (us : List PageUse) → own w z.out ≡ map (held w) us → IsLawful z → base ≡ z.base → is_lent_run base us p n ≡ true → may_free_run z w p n ≡ true
run_lent z w p n base us out l same e =
    let a = run_parts z.base p n us (rw same at e) in
    and_from _ _ (and_from _ _ (le-leb z.base p a.0) (le-leb 1 n a.1)) (lent_all z w (p - z.base) n (λ i lo hi.
    let c = page_lent z w us out l i (a.3 i lo hi) in ap is_some c.1))

-- and none of its pages is cached
pub run_uncached : (us : List PageUse) (h n : ℕ) → AreWholeBlocks us → ((i : ℕ) → h ≤ i → i < h + n → is_lent_page us i ≡ true) → AreUncached us h n
run_uncached us h n x e r g lo hi =
    let k = page_to us g (e g lo hi) in
    (x (head g k.0) k.0 k.2).1 r g (head_le g k.0) (lt_head g k.0)

-- of a run (h, n) that is lent in zone z the pages before page next have come back, block by block, which leaves the zone y
pub record IsFreeing (z : PlainZone) (w h n next end : ℕ) (us vs : List PageUse) : Type 0 where
  pub now : PlainZone
  pub lawful : IsLawful now
  pub largest : now.area.largest ≡ z.area.largest
  pub run : IsFreeingRun z now w h n next end
  pub out : own w now.out ≡ map (held w) vs
  pub cached : HasSameCached us vs
  pub pages : length vs ≡ length us

pub uses_begin : (z : PlainZone) (w p n next end : ℕ) (us : List PageUse) → IsLawful z → own w z.out ≡ map (held w) us → may_free_run z w p n ≡ true → next ≡ p - z.base → end ≡ next + n →
    IsFreeing z w (p - z.base) n next end us us
uses_begin z w p n next end us l out may at to = record {
  now = z;
  lawful = l;
  largest = refl;
  run = freeing_begins z w p n next end may at to;
  out = out;
  cached = λ r g. refl;
  pages = refl;
}

-- what is out in a worker's name of a block of which a part comes back
out_own : (w : ℕ) (kind : ℕ → MigrateType) (bs : List (ℕ × ℕ)) (z y : PlainZone) → own w z.out ≡ y.out → own w (hand_out_blocks z w kind bs).out ≡ (hand_out_blocks y w kind bs).out
out_own w kind [] z y e = e
out_own w kind (b ∷ bs) z y e =
    let x : Holding = record { order = b.1; kind = kind b.0; worker = w } in
    out_own w kind bs (hand_out z w b.0 b.1 (kind b.0)) (hand_out y w b.0 b.1 (kind b.0))
    (map-set (only w) z.out b.0 (Some x) ∙ ap (λ o. slice_set (own w z.out) b.0 o) (mine x refl) ∙ ap (λ o. slice_set o b.0 (Some x)) e)
  where
    mine : (x : Holding) → x.worker ≡ w → only w (Some x) ≡ Some x
    mine x same = rw (eq-eqb x.worker w same) refl

part_own : (z : PlainZone) (w g : ℕ) (x : Holding) (h n : ℕ) → own w (part_freed z w g x h n).out ≡ (part_freed (record z { out = own w z.out }) w g x h n).out
part_own z w g x h n =
    let kind : ℕ → MigrateType = λ _. x.kind in
    let y : PlainZone = take_back (record z { area = give_run z.area h n }) g in
    let v : PlainZone = take_back (record z { area = give_run z.area h n; out = own w z.out }) g in
    let one : own w (hand_out_run y w kind g (h - g)).out ≡ (hand_out_run v w kind g (h - g)).out = out_own w kind (cut y.area.largest g (h - g)) y v (map-set (only w) z.out g None) in
    let same : (hand_out_run y w kind g (h - g)).area ≡ (hand_out_run v w kind g (h - g)).area = (out_rest w kind (cut y.area.largest g (h - g)) y).area ∙ sym (out_rest w kind (cut y.area.largest g (h - g)) v).area in
    out_own w kind (cut (hand_out_run y w kind g (h - g)).area.largest (h + n) (g + 2 ^ x.order - (h + n))) (hand_out_run y w kind g (h - g)) (hand_out_run v w kind g (h - g)) one
    ∙ ap (λ (a : Area). (hand_out_blocks (hand_out_run v w kind g (h - g)) w kind (cut a.largest (h + n) (g + 2 ^ x.order - (h + n)))).out) same

-- one block more
pub uses_go : (z : PlainZone) (w h n next end m c : ℕ) (us vs xs : List PageUse) → w < workers_of z → m ≡ z.area.largest → next < end → (x : IsFreeing z w h n next end us vs) → IsPartFreed m vs xs next (end - next) c →
    IsFreeing z w h n (next + c) end us xs
uses_go z w h n next end m c us vs xs lt large more x p =
    let y : PlainZone = x.now in
    let b : ℕ × Holding = (p.first, record { order = p.order; kind = p.kind; worker = w }) in
    let run = in_run-to p.first p.order next p.around in
    let here : IsAround y.out w next b = lent_around y w vs x.out p.first p.order next p.kind p.was p.around in
    let last : IsAround y.out w (next + c - 1) b =
    lent_around y w vs x.out p.first p.order (next + c - 1) p.kind p.was (in_run-from p.first p.order (next + c - 1) (omega (arith, run.0, p.some)) (omega (arith, p.within, p.some))) in
    let workers : w < workers_of y = rw x.run.workers lt in
    let all : IsLent y w next (end - next) = lent-to y w next (end - next) (omega arith) (x.run.lent more) in
    let part : IsLent y w next c = record { some = p.some; around = λ i q. let r = within-to next c i q in all.around i (within-from next (end - next) i r.0 (omega (arith, r.1, p.most))) } in
    let rest = freed_run_rest y w next c in
    record {
      now = run_freed y w next c;
      lawful = run_freed_lawful y x.lawful w next c workers part;
      largest = ap (λ (a : Area). a.largest) rest.area ∙ largest-give_run y.area next c ∙ x.largest;
      run = freeing_goes z y w h n next end c x.lawful lt x.run more (omega (arith, p.some)) p.most (λ less. (b, around-from y x.lawful w (next + c - 1) b last, sym (p.ends less)));
      out = ap (λ (v : PlainZone). own w v.out) (freed_in_block y w next c b x.lawful p.some (around-from y x.lawful w next b here) p.within)
          ∙ part_own y w p.first b.1 next c
          ∙ sym (p.blocks (record y { out = own w y.out }) w (x.largest ∙ sym large) x.out);
      cached = λ r g. p.cached r g ∙ x.cached r g;
      pages = p.pages ∙ x.pages;
    }

-- the next page lies in a lent block
pub next_lent : (z : PlainZone) (w h n next end : ℕ) (us vs : List PageUse) → z.area.largest < ORDERS → AreUncached us next (end - next) → next < end → (x : IsFreeing z w h n next end us vs) → is_lent_page vs next ≡ true
next_lent z w h n next end us vs few out more x =
    let all : IsLent x.now w next (end - next) = lent-to x.now w next (end - next) (omega arith) (x.run.lent more) in
    let a = all.around next (within-from next (end - next) next (omega arith) (omega arith)) in
    let block : IsBlock x.now.area.largest (pages_of x.now) a.0.0 a.0.1.order = (x.lawful.out a.0.0 a.0.1 a.1.at).0 in
    let r = in_run-to a.0.0 a.0.1.order next a.1.page in
    let at : head next a.0.1.order ≡ a.0.0 = head_of a.0.0 next a.0.1.order block.aligned r.0 r.1 in
    let mine : only w (Some a.0.1) ≡ Some a.0.1 = rw (eq-eqb a.0.1.worker w a.1.worker) refl in
    let seen : held w (use_at vs a.0.0) ≡ Some a.0.1 = sym (out_use x.now w vs x.out a.0.0) ∙ ap (only w) a.1.at ∙ mine in
    go (use_at vs a.0.0) a.0.0 a.0.1 refl seen at r (omega (arith, block.order, x.largest, few))
  where
    go : (u : PageUse) (g : ℕ) (c : Holding) → use_at vs g ≡ u → held w u ≡ Some c → head next c.order ≡ g → (g ≤ next) × (next < g + 2 ^ c.order) → c.order < ORDERS → is_lent_page vs next ≡ true
    go Away g c e s at r lt = absurd (none-some c s)
    go (Lent k t) g c e s at r lt =
        let order : k ≡ c.order = ap (λ (q : Holding). q.order) (same_Some (record { order = k; kind = t; worker = w }) c s) in
        page_from vs next c.order lt (ap (λ i. is_lent_as c.order (use_at vs i)) at ∙ ap (is_lent_as c.order) e ∙ eq-eqb k c.order order)
    go (Cached t) g c e s at r lt =
        let order : 0 ≡ c.order = ap (λ (q : Holding). q.order) (same_Some (record { order = 0; kind = t; worker = w }) c s) in
        let same : g ≡ next = omega (arith, r.0, (rw (← order) at r.1)) in
        let yes : is_cached_as (type_number t) (use_at vs next) ≡ true = ap (λ i. is_cached_as (type_number t) (use_at vs i)) (sym same) ∙ ap (is_cached_as (type_number t)) e ∙ eq-eqb (type_number t) (type_number t) refl in
        absurd (both_ways _ (out (type_number t) next (omega arith) (omega arith)) (sym (x.cached (type_number t) next) ∙ yes))

type_one : (s t : MigrateType) → type_number s ≡ type_number t → s ≡ t
type_one s t e = grind arith

-- uses with the same pages cached are told by the blocks that they stand for
pub uses_told : (w : ℕ) (us vs : List PageUse) → length vs ≡ length us → HasSameCached us vs → uses_by us (map (held w) vs) ≡ vs
unfolding uses_by
uses_told w us vs pages same =
    let f : ℕ → PageUse = λ g. lent_as (use_at us g) (holding_at (map (held w) vs) g) in
    ext_get_or Away (map f (range_with_len 0 (length us))) vs (length-map-range_with_len f 0 (length us) ∙ sym pages) (λ g below.
    let lt : g < length us = omega (arith, below, length-map-range_with_len f 0 (length us)) in
    get_or-map-range_with_len f 0 (length us) g g Away lt (omega arith)
    ∙ ap (lent_as (use_at us g)) (get_or-map (held w) vs g Away)
    ∙ go (use_at us g) (use_at vs g) (λ r. same r g))
  where
    go : (u v : PageUse) → ((r : ℕ) → is_cached_as r v ≡ is_cached_as r u) → lent_as u (held w v) ≡ v
    go Away Away x = refl
    go Away (Lent k t) x = refl
    go Away (Cached t) x = absurd (both_ways _ (x (type_number t)) (eq-eqb (type_number t) (type_number t) refl))
    go (Lent j s) Away x = refl
    go (Lent j s) (Lent k t) x = refl
    go (Lent j s) (Cached t) x = absurd (both_ways _ (x (type_number t)) (eq-eqb (type_number t) (type_number t) refl))
    go (Cached s) v x = let w = cached_use (type_number s) v (x (type_number s) ∙ eq-eqb (type_number s) (type_number s) refl) in ap Cached (type_one s w.0 (sym w.2)) ∙ sym w.1

-- once a run has come back, what is out in the worker's name is what the uses say
pub uses_end : (z : PlainZone) (w h n next end : ℕ) (us vs : List PageUse) → IsFreeing z w h n next end us vs → next ≡ end → own w (run_freed z w h n).out ≡ map (held w) vs
uses_end z w h n next end us vs x last = ap (λ (y : PlainZone). own w y.out) (sym (x.run.done last)) ∙ x.out

-- a run that is one lent block has come back once its head is away
pub block_back : (z : PlainZone) (w p n at k : ℕ) (us vs : List PageUse) → IsLawful z → own w z.out ≡ map (held w) us → w < workers_of z → may_free_run z w p n ≡ true → at ≡ p - z.base →
    at < length us → is_lent_as k (use_at us at) ≡ true → 2 ^ k ≡ n → vs ≡ slice_set us at Away →
    IsFreeing z w (p - z.base) n (at + n) (at + n) us vs
block_back z w p n at k us vs l out lt may place below lent size gone =
    let some : 0 < n = omega (arith, size, pow_pos k) in
    let left : at + n - at ≡ n = omega arith in
    let part : IsPartFreed z.area.largest us vs at n n =
    whole_freed_uses z.area.largest us vs at k at n n lent below (in_run-from at k at (omega arith) (omega (arith, pow_pos k))) (sym size) (omega arith) (omega (arith, size)) gone in
    uses_go z w (p - z.base) n at (at + n) z.area.largest n us us vs lt refl (omega (arith, some)) (uses_begin z w p n at (at + n) us l out may place refl) (rw left part)
