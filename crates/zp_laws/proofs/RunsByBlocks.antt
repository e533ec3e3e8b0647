-- A run is taken by the blocks of its cut, and given back by the blocks that it was lent in.
use Rattle.std.proofs.Common.{ℕ, ◌+◌, ◌-◌, ◌^◌, ◌≡◌, ◌≢◌, ◌≤◌, ◌<◌, inl, inr, refl, sym, ◌∙◌, ap, arith, true, false, List, [], ◌∷◌, length, cond, max, Option, Some, None}
use Rattle.std.specs.Prelude.{slice_set}
use Rattle.std.proofs.lemmas.Bool.{both_ways, cases_Bool, cases_eq, cases_lt, false_from_ne_true}
use Rattle.std.proofs.lemmas.Nat.{pow_pos}
use Rattle.std.proofs.lemmas.List.{ext_get_or, get_or-set_other, get_or-set_same, length-set}
use Rattle.std.proofs.lemmas.Option.{same_Some}
use Rattle.zp_model.specs.declared.migrate_type.MigrateType.{MigrateType}
use Rattle.zp_model.specs.Area.{Area, kind_at}
use Rattle.zp_model.specs.Lawful.{IsLawful}
use Rattle.zp_model.specs.PageblockType.{noted_type}
use Rattle.zp_model.specs.Runs.{block_around, cut, give_run, hand_out_blocks, hand_out_run, kept_before, kept_from, leave_run, meets, run_freed, without_blocks}
use Rattle.zp_model.specs.RunLaws.{IsTakenRun, Tile, leave_blocks}
use Rattle.zp_model.specs.Take.{leave}
use Rattle.zp_model.specs.Zone.{PlainZone, Holding, hand_out, holding_at, pages_of, take_back, workers_of}
use Rattle.zp_model.proofs.Cuts.{cut_tiles}
use Rattle.zp_model.proofs.Pages.{in_run-from, in_run-to}
use Rattle.zp_model.proofs.RunGiven.{give_more, left_by_cut, listed}
use Rattle.zp_model.proofs.RunParts.{within-from, within-to}
use Rattle.zp_laws.specs.RunsByBlocks.{RunsTakenByCut, RunsFreedInBlock, RunsFreedInParts, take_blocks}
use Rattle.zp_laws.proofs.Areas.{largest-give_run, largest-leave_run}
use Rattle.zp_laws.proofs.Around.{IsAround, around-from, around-to, out_apart}
use Rattle.zp_laws.proofs.HandedOut.{held_below}
use Rattle.zp_laws.proofs.KeepingRuns.{IsLent, left_at, length-left, meets-from, meets-to, out_rest}
use Rattle.zp_laws.proofs.Counting.{same_tests}
use Rattle.zp_laws.proofs.RunBooks.{before_lent, rest_from}
use Rattle.zp_laws.proofs.RunSteps.{lent-not_free, lent-to, lent_inside, run_freed_lawful}

-- what goes out does not hang on the area
out_beside : (w : ℕ) (kind : ℕ → MigrateType) (bs : List (ℕ × ℕ)) (z : PlainZone) (a : Area) → hand_out_blocks (record z { area = a }) w kind bs ≡ record (hand_out_blocks z w kind bs) { area = a }
out_beside w kind [] z a = refl
out_beside w kind (b ∷ bs) z a = out_beside w kind bs (hand_out z w b.0 b.1 (kind b.0)) a

blocks_taken : (w : ℕ) (kind : ℕ → MigrateType) (bs : List (ℕ × ℕ)) (z : PlainZone) → take_blocks z w kind bs ≡ record (hand_out_blocks z w kind bs) { area = leave_blocks z.area bs }
blocks_taken w kind [] z = refl
blocks_taken w kind (b ∷ bs) z =
    let y : PlainZone = hand_out (record z { area = leave z.area b.0 b.1 }) w b.0 b.1 (kind b.0) in
    blocks_taken w kind bs y ∙ ap (λ (v : PlainZone). record v { area = leave_blocks (leave z.area b.0 b.1) bs }) (out_beside w kind bs (hand_out z w b.0 b.1 (kind b.0)) (leave z.area b.0 b.1))

pub taken_by_cut : RunsTakenByCut
taken_by_cut z w h n l =
    let kind : ℕ → MigrateType = λ g. noted_type (kind_at z.area.largest z.area.kinds g) in
    let bs : List (ℕ × ℕ) = cut z.area.largest h n in
    let y : PlainZone = record z { area = leave_run z.area h n } in
    blocks_taken w kind bs z
    ∙ ap (λ (a : Area). record (hand_out_blocks z w kind bs) { area = a }) (left_by_cut z.area h n l.lists)
    ∙ sym (out_beside w kind bs z (leave_run z.area h n))
    ∙ ap (λ m. hand_out_blocks y w kind (cut m h n)) (sym (largest-leave_run z.area h n))

-- a zone with other blocks out
with_out : (y z : PlainZone) → y.out ≡ z.out → y.area ≡ z.area → y.posted ≡ z.posted → y.base ≡ z.base → y.min ≡ z.min → y ≡ z
with_out y z a b c d e = λ i. record { area = b i; out = a i; posted = c i; base = d i; min = e i }

-- where a run lies in one block, that block alone meets it
one_left : (z : PlainZone) (w h n : ℕ) (b : ℕ × Holding) → IsLawful z → 1 ≤ n → IsAround z.out w h b → h + n ≤ b.0 + 2 ^ b.1.order → (without_blocks z h n).out ≡ slice_set z.out b.0 None
one_left z w h n b l some x le =
    ext_get_or None (without_blocks z h n).out (slice_set z.out b.0 None) (length-left z h n ∙ sym (length-set z.out b.0 None)) (λ g below.
    left_at z h n g ∙ elim (cases_eq g b.0) [
      | inl same ↦
          let r = in_run-to b.0 b.1.order h x.page in
          let m : meets h n g (holding_at z.out g) ≡ true = rw (same, x.at) (meets-from h n b.0 b.1 (omega (arith, r.0)) (omega (arith, r.1))) in
          rw m (sym (ap (λ f. holding_at (slice_set z.out b.0 None) f) same ∙ get_or-set_same z.out b.0 None None (held_below z.out b.0 b.1 x.at)))
      | inr other ↦ go g other (holding_at z.out g) refl ∙ sym (get_or-set_other z.out b.0 g None None other)
    ])
  where
    apart : (g : ℕ) → g ≢ b.0 → (c : Holding) → holding_at z.out g ≡ Some c → meets h n g (Some c) ≡ false
    apart g other c at = false_from_ne_true (meets h n g (Some c)) (λ m.
        let r = meets-to h n g c m in
        let s = in_run-to b.0 b.1.order h x.page in
        let j : ℕ = max g h in
        other (out_apart z l g b.0 j c b.1 at x.at (in_run-from g c.order j (omega arith) (omega (arith, r.1, pow_pos c.order)))
        (in_run-from b.0 b.1.order j (omega (arith, s.0)) (omega (arith, s.1, r.0)))))

    go : (g : ℕ) → g ≢ b.0 → (o : Option Holding) → holding_at z.out g ≡ o → cond (meets h n g (holding_at z.out g)) None (holding_at z.out g) ≡ holding_at z.out g
    go g other None at = rw at refl
    go g other (Some c) at = rw (at, apart g other c at) refl

pub freed_in_block : RunsFreedInBlock
freed_in_block z w h n b l some e le =
    let x : IsAround z.out w h b = around-to z w h b e in
    let r = in_run-to b.0 b.1.order h x.page in
    let y : PlainZone = record z { area = give_run z.area h n } in
    let last : block_around z w (h + n - 1) ≡ Some b = around-from z l w (h + n - 1) b (record { at = x.at; worker = x.worker; page = in_run-from b.0 b.1.order (h + n - 1) (omega (arith, r.0)) (omega arith) }) in
    let one : without_blocks y h n ≡ take_back y b.0 = with_out (without_blocks y h n) (take_back y b.0) (one_left z w h n b l some x le) refl refl refl refl in
    (λ i. kept_from (kept_before (without_blocks y h n) w h (e i)) w (h + n) (last i))
    ∙ ap (λ (v : PlainZone). kept_from (kept_before v w h (Some b)) w (h + n) (Some b)) one

-- what meets a run in two parts meets one of them
meets_both : (h n k g : ℕ) (o : Option Holding) → 1 ≤ n → 1 ≤ k →
    cond (meets (h + n) k g (cond (meets h n g o) None o)) None (cond (meets h n g o) None o) ≡ cond (meets h (n + k) g o) None o
meets_both h n k g None p q = refl
meets_both h n k g (Some x) p q = elim (cases_Bool (meets h n g (Some x))) [
  | inl t ↦ let r = meets-to h n g x t in rw (t, meets-from h (n + k) g x (omega (arith, r.0)) r.1) refl
  | inr f ↦
      let size : 0 < 2 ^ x.order = pow_pos x.order in
      let same : meets (h + n) k g (Some x) ≡ meets h (n + k) g (Some x) = same_tests (meets (h + n) k g (Some x)) (meets h (n + k) g (Some x))
      (λ t. let r = meets-to (h + n) k g x t in meets-from h (n + k) g x (omega (arith, r.0)) (omega (arith, r.1)))
      (λ t.
      let r = meets-to h (n + k) g x t in
      elim (cases_lt g (h + n)) [
        | inl low ↦ absurd (both_ways _ f (meets-from h n g x low r.1))
        | inr high ↦ meets-from (h + n) k g x (omega (arith, r.0)) (omega arith)
      ]) in
      rw (f, same) refl
]

left_twice : (z : PlainZone) (h n k : ℕ) → 1 ≤ n → 1 ≤ k → without_blocks (without_blocks z h n) (h + n) k ≡ without_blocks z h (n + k)
left_twice z h n k p q =
    let y : PlainZone = without_blocks z h n in
    with_out (without_blocks y (h + n) k) (without_blocks z h (n + k))
    (ext_get_or None (without_blocks y (h + n) k).out (without_blocks z h (n + k)).out (length-left y (h + n) k ∙ length-left z h n ∙ sym (length-left z h (n + k))) (λ g below.
    left_at y (h + n) k g
    ∙ ap (λ (o : Option Holding). cond (meets (h + n) k g o) None o) (left_at z h n g)
    ∙ meets_both h n k g (holding_at z.out g) p q
    ∙ sym (left_at z h (n + k) g))) refl refl refl refl

-- blocks that tile a run before another do not meet that one
left_beside : (w : ℕ) (kind : ℕ → MigrateType) (bs : List (ℕ × ℕ)) (z : PlainZone) (m g n h k : ℕ) → Tile m g n bs → g + n ≤ h → h ≤ length z.out →
    without_blocks (hand_out_blocks z w kind bs) h k ≡ hand_out_blocks (without_blocks z h k) w kind bs
left_beside w kind [] z m g n h k t le room = refl
left_beside w kind (b ∷ bs) z m g n h k t le room =
    let y : PlainZone = hand_out z w b.0 b.1 (kind b.0) in
    let v : PlainZone = hand_out (without_blocks z h k) w b.0 b.1 (kind b.0) in
    let c : Holding = record { order = b.1; kind = kind b.0; worker = w } in
    let inside : b.0 + 2 ^ b.1 ≤ h = omega (arith, t.0, t.1.inside) in
    let below : b.0 < length z.out = omega (arith, pow_pos b.1) in
    let len : length (without_blocks z h k).out ≡ length z.out = length-left z h k in
    let off : meets h k b.0 (Some c) ≡ false = false_from_ne_true (meets h k b.0 (Some c)) (λ e. let r = meets-to h k b.0 c e in omega (arith, r.1)) in
    let one : without_blocks y h k ≡ v = with_out (without_blocks y h k) v
    (ext_get_or None (without_blocks y h k).out v.out (length-left y h k ∙ length-set z.out b.0 (Some c) ∙ sym len ∙ sym (length-set (without_blocks z h k).out b.0 (Some c))) (λ f lt.
    left_at y h k f ∙ elim (cases_eq f b.0) [
      | inl same ↦
          let here : holding_at y.out f ≡ Some c = ap (λ i. holding_at y.out i) same ∙ get_or-set_same z.out b.0 (Some c) None below in
          let apart : meets h k f (Some c) ≡ false = ap (λ i. meets h k i (Some c)) same ∙ off in
          rw (here, apart) (sym (ap (λ i. holding_at v.out i) same ∙ get_or-set_same (without_blocks z h k).out b.0 (Some c) None (omega arith)))
      | inr other ↦
          ap (λ (o : Option Holding). cond (meets h k f o) None o) (get_or-set_other z.out b.0 f (Some c) None other)
          ∙ sym (left_at z h k f) ∙ sym (get_or-set_other (without_blocks z h k).out b.0 f (Some c) None other)
    ])) refl refl refl refl in
    left_beside w kind bs y m (g + 2 ^ b.1) (n - 2 ^ b.1) h k t.2 (omega (arith, t.1.inside)) (rw (length-set z.out b.0 (Some c)) room)
    ∙ ap (λ (x : PlainZone). hand_out_blocks x w kind bs) one

-- nothing is out again of a block that ends with the run, or begins with it
none_behind : (z : PlainZone) (w e : ℕ) (b : ℕ × Holding) → b.0 + 2 ^ b.1.order ≤ e → kept_from z w e (Some b) ≡ z
none_behind z w e b le = let n : b.0 + 2 ^ b.1.order - e ≡ 0 = omega arith in ap (λ n. hand_out_run z w (λ g. b.1.kind) e n) n

none_before : (z : PlainZone) (w h : ℕ) (b : ℕ × Holding) → h ≤ b.0 → kept_before z w h (Some b) ≡ z
none_before z w h b le = let n : h - b.0 ≡ 0 = omega arith in ap (λ n. hand_out_run z w (λ g. b.1.kind) b.0 n) n

-- a run that is lent, with a block that ends between its parts
module _ (z : PlainZone) (l : IsLawful z) (w h n k : ℕ) (p : 1 ≤ n) (q : 1 ≤ k) (x : IsLent z w h (n + k)) (b : ℕ × Holding) (y : IsAround z.out w (h + n - 1) b)
    (ends : b.0 + 2 ^ b.1.order ≡ h + n) where
  -- a block around a later page begins behind it
  late : (i : ℕ) (c : ℕ × Holding) → IsAround z.out w i c → h + n ≤ i → h + n ≤ c.0
  late i c a le = elim (cases_lt c.0 (h + n)) [
    | inr ge ↦ ge
    | inl lt ↦
        let r = in_run-to c.0 c.1.order i a.page in
        let same : c.0 ≡ b.0 = out_apart z l c.0 b.0 (h + n - 1) c.1 b.1 a.at y.at (in_run-from c.0 c.1.order (h + n - 1) (omega arith) (omega (arith, r.1))) y.page in
        let one : c.1 ≡ b.1 = same_Some c.1 b.1 (sym a.at ∙ ap (holding_at z.out) same ∙ y.at) in
        let size : 2 ^ c.1.order ≡ 2 ^ b.1.order = ap (λ (v : Holding). 2 ^ v.order) one in
        absurd (omega (arith, r.1, same))
  ]

  first : IsLent z w h n
  first = record { some = p; around = λ i e. let r = within-to h n i e in x.around i (within-from h (n + k) i r.0 (omega (arith, r.1))) }

  begin : (c : ℕ × Holding) × IsAround z.out w h c
  begin = x.around h (within-from h (n + k) h (omega arith) (omega arith))

  worker : w < workers_of z
  worker = rw begin.1.worker at ((l.out begin.0.0 begin.0.1 begin.1.at).1)

  between : (c : ℕ × Holding) × IsAround z.out w (h + n) c
  between = x.around (h + n) (within-from h (n + k) (h + n) (omega arith) (omega arith))

  ending : (c : ℕ × Holding) × IsAround z.out w (h + n + k - 1) c
  ending = x.around (h + n + k - 1) (within-from h (n + k) (h + n + k - 1) (omega arith) (omega arith))

  abbrev y2 : PlainZone
  y2 = without_blocks (record z { area = give_run z.area h n }) h n

  abbrev y3 : PlainZone
  y3 = kept_before y2 w h (Some begin.0)

  -- the zone after the first part
  first_freed : run_freed z w h n ≡ y3
  first_freed =
      let s : block_around z w h ≡ Some begin.0 = around-from z l w h begin.0 begin.1 in
      let e : block_around z w (h + n - 1) ≡ Some b = around-from z l w (h + n - 1) b y in
      (λ i. kept_from (kept_before y2 w h (s i)) w (h + n) (e i)) ∙ none_behind y3 w (h + n) b (omega arith)

  first_lawful : IsLawful y3
  first_lawful = rw first_freed at (run_freed_lawful z l w h n worker first)

  -- later blocks are out as before
  still : (i : ℕ) (c : ℕ × Holding) → IsAround z.out w i c → h + n ≤ c.0 → block_around y3 w i ≡ Some c
  still i c a le =
      let off : meets h n c.0 (Some c.1) ≡ false = false_from_ne_true (meets h n c.0 (Some c.1)) (λ e. let r = meets-to h n c.0 c.1 e in omega (arith, r.0)) in
      around-from y3 first_lawful w i c ((before_lent z l w h n first worker begin.0 b begin.1 y).kept w i c (rest_from z l w h n first worker begin.0 b begin.1 y w i c a off))

  abbrev whole : PlainZone
  whole = without_blocks (record z { area = give_run z.area h (n + k) }) h (n + k)

  -- what the second part leaves is what both leave at once
  both_left : without_blocks (record y3 { area = give_run y3.area (h + n) k }) (h + n) k ≡ kept_before whole w h (Some begin.0)
  both_left =
      let kind : ℕ → MigrateType = λ g. begin.0.1.kind in
      let g : ℕ = begin.0.0 in
      let r = in_run-to g begin.0.1.order h begin.1.page in
      let bs : List (ℕ × ℕ) = cut z.area.largest g (h - g) in
      let a : Area = give_run z.area h (n + k) in
      let out : PlainZone = hand_out_blocks y2 w kind bs in
      let clear : IsTakenRun z.area h (n + k) = λ i lo hi. let c = x.around i (within-from h (n + k) i lo (omega (arith, hi))) in lent-not_free z w i c.0 l c.1 in
      let room : h + (n + k) ≤ pages_of z = lent_inside z w h (n + k) l x in
      let same : y3 ≡ out = ap (λ m. hand_out_blocks y2 w kind (cut m g (h - g))) (largest-give_run z.area h n) in
      let area : give_run out.area (h + n) k ≡ a = ap (λ (b : Area). give_run b (h + n) k) (out_rest w kind bs y2).area ∙ give_more z.area h n k (listed z.area l.lists) clear in
      ap (λ (v : PlainZone). without_blocks (record v { area = give_run v.area (h + n) k }) (h + n) k) same
      ∙ ap (λ (b : Area). without_blocks (record out { area = b }) (h + n) k) area
      ∙ ap (λ (v : PlainZone). without_blocks v (h + n) k) (sym (out_beside w kind bs y2 a))
      ∙ left_beside w kind bs (record y2 { area = a }) z.area.largest g (h - g) (h + n) k (cut_tiles z.area.largest g (h - g)) (omega (arith, r.0)) (omega (arith, length-left z h n, l.places))
      ∙ ap (λ (v : PlainZone). hand_out_blocks v w kind bs) (left_twice (record z { area = a }) h n k p q)
      ∙ ap (λ m. hand_out_blocks whole w kind (cut m g (h - g))) (sym (largest-give_run z.area h (n + k)))

  pub parts_freed : run_freed (run_freed z w h n) w (h + n) k ≡ run_freed z w h (n + k)
  parts_freed =
      let v : PlainZone = without_blocks (record y3 { area = give_run y3.area (h + n) k }) (h + n) k in
      let c : block_around y3 w (h + n) ≡ Some between.0 = still (h + n) between.0 between.1 (late (h + n) between.0 between.1 (omega arith)) in
      let e : block_around y3 w (h + n + k - 1) ≡ Some ending.0 = still (h + n + k - 1) ending.0 ending.1 (late (h + n + k - 1) ending.0 ending.1 (omega arith)) in
      let s : block_around z w h ≡ Some begin.0 = around-from z l w h begin.0 begin.1 in
      let t : block_around z w (h + n + k - 1) ≡ Some ending.0 = around-from z l w (h + n + k - 1) ending.0 ending.1 in
      let sum : h + n + k ≡ h + (n + k) = omega arith in
      ap (λ (u : PlainZone). run_freed u w (h + n) k) first_freed
      ∙ (λ i. kept_from (kept_before v w (h + n) (c i)) w (h + n + k) (e i))
      ∙ ap (λ (u : PlainZone). kept_from u w (h + n + k) (Some ending.0)) (none_before v w (h + n) between.0 (late (h + n) between.0 between.1 (omega arith)) ∙ both_left)
      ∙ sym (λ i. kept_from (kept_before whole w h (s i)) w (h + n + k) (t i))
      ∙ ap (λ j. kept_from (kept_before whole w h (block_around z w h)) w j (block_around z w (j - 1))) sum

pub freed_in_parts : RunsFreedInParts
freed_in_parts z w h n k b l p q lent e ends =
    parts_freed z l w h n k p q (lent-to z w h (n + k) (omega arith) lent) b (around-to z w (h + n - 1) b e) ends
