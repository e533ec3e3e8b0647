-- The lowest run of free pages, as the blocks of a zone are passed one after another: what a search knows at the end of a block, and what it comes to.
use Rattle.std.proofs.Common.{ℕ, ◌+◌, ◌-◌, ◌*◌, ◌/◌, ◌%◌, ◌^◌, ◌≡◌, ◌≤◌, ◌<◌, ◌↔◌, ◌⊎◌, inl, inr, refl, sym, max, ◌∙◌, ap, arith, Bool, true, false, Some, None, eqb-true, eq-eqb}
use Rattle.std.specs.List.{slice_index_or}
use Rattle.std.proofs.Math.Nat.{mul-le-mul_right, mul-mod_left, pow-le-pow_right}
use Rattle.std.proofs.lemmas.Bool.{and_parts, and_from, both_ways, cases_lt, false_from_ne_true, leb-true, true≢false}
use Rattle.std.proofs.lemmas.Nat.{div_below, mod_below, one_shl, pow_pos, shr_split}
use Rattle.zp_model.specs.declared.constants.TheConstants.{BASE_LIMIT, LARGEST_ALIGNMENT, LARGEST_BLOCK_PAGES, LARGEST_ORDER, MAX_PAGES}
use Rattle.zp_model.specs.declared.pageblock_type.PageblockType.TheVariants.{Movable}
use Rattle.zp_model.specs.declared.mark.Mark.{Mark}
use Rattle.zp_model.specs.declared.refused.Refused.TheVariants.{BelowMark, NoBlock}
use Rattle.zp_model.specs.declared.request.Reply.{Reply}
use Rattle.zp_model.specs.Area.{available, is_isolated}
use Rattle.zp_model.specs.Block.{has, head, is_max}
use Rattle.zp_model.specs.Mark.{pages_at_hand}
use Rattle.zp_model.specs.Runs.{has_pages, is_above_by, is_run_for, lowest_run, may_alloc_run, run_taken}
use Rattle.zp_model.specs.Step.{Outcome, alloc_run, refuse}
use Rattle.zp_model.specs.PageblockType.{is_isolate}
use Rattle.zp_model.specs.Zone.{PlainZone, pages_of}
use Rattle.zp_model.proofs.Heads.{head_of, number_around, two}
use Rattle.zp_model.proofs.LowestRun.{available-to, has_pages-from, has_pages-to, lowest_found, lowest_none, lowest_some}
use Rattle.zp_model.proofs.Maximal.{Max, max-normal, maximal-apart}
use Rattle.zp_model.proofs.MaximalBlocks.{each_page_in_one_block, max_has}
use Rattle.zp_model.proofs.Normal.{IsMaximal}
use Rattle.zp_model.proofs.Pages.{In, in_run-to, is_max-to}
use Rattle.zp_model.proofs.RunBlocks.{large_near}
use Rattle.zp_model.proofs.RunParts.{within-from, within-to}
use Rattle.zp_laws.proofs.KeepingRuns.{IsFree}
use Rattle.zp_buddy.specs.Bare.{AreAtHand, IsBareTo}
use Rattle.zp_zone.specs.Lowest.{IsFirstMultiple, IsNextStart, IsPassed, IsPassedFor, serves}

-- the multiple is found by rounding up
pub first_multiple : (base h a : ℕ) → IsFirstMultiple base h a ((base + h + (2 ^ a - 1)) / 2 ^ a * 2 ^ a - base)
first_multiple base h a =
    let n : ℕ = base + h + (2 ^ a - 1) in
    let split : n / 2 ^ a * 2 ^ a + n % 2 ^ a ≡ n = shr_split n a in
    let low : n % 2 ^ a < 2 ^ a = mod_below n (2 ^ a) (pow_pos a) in
    let some : 0 < 2 ^ a = pow_pos a in
    let back : base + (n / 2 ^ a * 2 ^ a - base) ≡ n / 2 ^ a * 2 ^ a = omega arith in
    record {
      from = omega arith;
      near = omega arith;
      aligned = ap (λ x. x % 2 ^ a) back ∙ mul-mod_left (n / 2 ^ a) (2 ^ a);
      least = λ g from e.
          let whole : (base + g) / 2 ^ a * 2 ^ a ≡ base + g = omega (arith, shr_split (base + g) a) in
          let number : n / 2 ^ a < (base + g) / 2 ^ a + 1 = div_below n (2 ^ a) ((base + g) / 2 ^ a + 1) some (omega arith) in
          let le : n / 2 ^ a ≤ (base + g) / 2 ^ a = omega arith in
          let order : n / 2 ^ a * 2 ^ a ≤ (base + g) / 2 ^ a * 2 ^ a = mul-le-mul_right (2 ^ a) le in
          omega arith;
    }

-- as the code does, which shifts
pub shifted : (base h a : ℕ) → base ≤ BASE_LIMIT → h ≤ MAX_PAGES → a ≤ LARGEST_ALIGNMENT → IsFirstMultiple base h a ((base + h + (1 * 2 ^ a % 2 ^ 32 - 1)) / 2 ^ a * 2 ^ a % 2 ^ 32 - base)
shifted base h a based room few =
    let n : ℕ = base + h + (2 ^ a - 1) in
    let step : 1 * 2 ^ a % 2 ^ 32 ≡ 2 ^ a = one_shl a 32 (omega arith) in
    let size : 2 ^ a ≤ 2 ^ 24 = pow-le-pow_right (omega arith) few in
    let split : n / 2 ^ a * 2 ^ a + n % 2 ^ a ≡ n = shr_split n a in
    let whole : n / 2 ^ a * 2 ^ a % 2 ^ 32 ≡ n / 2 ^ a * 2 ^ a = omega arith in
    rw (step, whole) (first_multiple base h a)

module _ (z : PlainZone) where
  -- pages that are not free are passed
  pub used_passed : (h n : ℕ) → 0 < n → h + n ≤ pages_of z → ((i : ℕ) → h ≤ i → i < h + n → has z.area.free i ≡ false) → IsPassed z h n false
  used_passed h n some inside none = record {
    some = some;
    inside = inside;
    alike = λ i lo hi. false_from_ne_true _ (λ e. both_ways _ (none i lo hi) (available-to z.area.largest z.area.kinds z.area.free i e).0);
  }

  -- so is what there is of such pages from one of them on
  pub rest_passed : {n : ℕ} {b : Bool} → (g h d : ℕ) → h ≡ g + d → d < n → IsPassed z g n b → IsPassed z h (n - d) b
  rest_passed g h d e lt p = record {
    some = omega arith;
    inside = omega (arith, p.inside);
    alike = λ i lo hi. p.alike i (omega arith) (omega arith);
  }

  -- and such pages side by side
  pub passed_on : {n c : ℕ} {b : Bool} → (h : ℕ) → IsPassed z h n b → IsPassed z (h + n) c b → IsPassed z h (n + c) b
  passed_on {n} {c} {b} h p q = record {
    some = omega (arith, p.some);
    inside = omega (arith, q.inside);
    alike = λ i lo hi. elim (cases_lt i (h + n)) [ inl before ↦ p.alike i lo before | inr on ↦ q.alike i on (omega arith) ];
  }

  -- and a page that lies in no free block is passed alone
  pub alone_passed : (h : ℕ) → h < pages_of z → ((k : ℕ) → k ≤ z.area.largest → (j : ℕ) → is_max z.area.largest z.area.free (head h k) j ≡ true → head h k + 2 ^ j ≤ h) → IsPassed z h 1 false
  alone_passed h inside none = used_passed h 1 (omega arith) (omega (arith, inside)) (λ i lo hi. let same : i ≡ h = omega arith in rw same (false_from_ne_true _ (λ e.
      let x = each_page_in_one_block z.area.largest z.area.free h e in
      let r = in_run-to x.0 x.1 h x.2.1 in
      let y = is_max-to z.area.largest z.area.free x.0 x.1 x.2.0 in
      let at : head h x.1 ≡ x.0 = head_of x.0 h x.1 y.aligned r.0 r.1 in
      absurd (omega (arith, at, none x.1 y.order x.1 (rw at x.2.0), r.1)))))

-- before page next no run of n pages begins below start, and the pages from start on serve, but are too few
pub record IsSearching (z : PlainZone) (n a start next : ℕ) : Type 0 where
  pub inside : next ≤ pages_of z
  pub aligned : (z.base + start) % 2 ^ a ≡ 0
  pub few : next < start + n
  pub serve : (i : ℕ) → start ≤ i → i < next → serves z i ≡ true
  pub none : (g : ℕ) → g < start → is_run_for z n a g ≡ false

module _ (z : PlainZone) (n a : ℕ) where
  -- no run begins at a place that is no multiple
  askew : (h s g : ℕ) → IsFirstMultiple z.base h a s → h ≤ g → g < s → is_run_for z n a g ≡ false
  askew h s g m le lt = false_from_ne_true _ (λ e. omega (arith, m.least g le (eqb-true _ _ (and_parts _ _ e).0)))

  -- nor where one of its pages does not serve
  broken : (g i : ℕ) → g ≤ i → i < g + n → serves z i ≡ false → is_run_for z n a g ≡ false
  broken g i lo hi out =
      false_from_ne_true _ (λ e. both_ways _ out (has_pages-to (available z.area.largest z.area.kinds z.area.free) g n (and_parts _ _ e).1 i lo hi))

  -- nor where a large block is too far away
  unaided : (k h e g : ℕ) → k ≤ z.area.largest → 2 ^ (k + 1) ≤ n + 1 → IsBareTo z.area k h e → h ≤ g → g + 2 ^ k ≤ e → is_run_for z n a g ≡ false
  unaided k h e g le some bare from far = false_from_ne_true _ (λ r.
      let all = has_pages-to (available z.area.largest z.area.kinds z.area.free) g n (and_parts _ _ r).1 in
      let free : (i : ℕ) → g ≤ i → i < g + n → In z.area.free i = λ i lo hi. (available-to z.area.largest z.area.kinds z.area.free i (all i lo hi)).0 in
      let x = large_near z.area.largest (Max z.area.largest z.area.free) (In z.area.free) (max-normal z.area.largest z.area.free) g n k le some free in
      let f = x.0 in
      let j = x.1 in
      let y : IsMaximal z.area.largest (In z.area.free) f j = is_max-to z.area.largest z.area.free f j x.2.starts in
      let shown : is_isolated z.area.largest z.area.kinds f ≡ false = elim (cases_lt f g) [
        | inl before ↦
            ap (λ q. is_isolate (slice_index_or z.area.kinds q Movable)) (sym (number_around f g j z.area.largest y.order y.aligned (omega arith) x.2.past))
            ∙ (available-to z.area.largest z.area.kinds z.area.free g (all g (omega arith) (omega (arith, some, pow_pos k, two k)))).1
        | inr on ↦ (available-to z.area.largest z.area.kinds z.area.free f (all f on (omega (arith, x.2.soon, some, pow_pos k, two k)))).1
      ] in
      omega (arith, bare f j x.2.starts shown x.2.enough (omega (arith, from, x.2.past)), x.2.soon, far))

  -- the first multiple from there on is where a search goes on
  pub start_comes : (k h e l s : ℕ) → k ≤ z.area.largest → 2 ^ (k + 1) ≤ n + 1 → IsBareTo z.area k h e → h ≤ l → l ≤ h ⊎ l + 2 ^ k ≤ e + 1 → IsFirstMultiple z.base l a s → IsNextStart z n a h s
  start_comes k h e l s le some bare from near m = record {
    from = omega (arith, from, m.from);
    aligned = m.aligned;
    none = λ g lo hi. elim (cases_lt g l) [
      | inl before ↦ elim near [ inl none ↦ absurd (omega arith) | inr far ↦ unaided k h e g le some bare lo (omega arith) ]
      | inr on ↦ askew l s g m on hi
    ];
  }

  -- it is none of the pages before the first free block either
  pub start_comes_free : (k h e d l s : ℕ) → k ≤ z.area.largest → 2 ^ (k + 1) ≤ n + 1 → 0 < n → IsBareTo z.area k h e → IsBareTo z.area 0 h d → l ≡ max (max h d) (e - (2 ^ k - 1)) → IsFirstMultiple z.base l a s → IsNextStart z n a h s
  start_comes_free k h e d l s le some more bare none is m =
      let one : 2 ^ 0 ≡ 1 = refl in
      let twice : 2 ^ (0 + 1) ≡ 2 = refl in
      elim (cases_lt (max h d) (e - (2 ^ k - 1))) [
        | inl by ↦ start_comes k h e l s le some bare (omega arith) (inr (omega (arith, by, is, pow_pos k))) m
        | inr not ↦ elim (cases_lt h d) [
          | inl up ↦ start_comes 0 h d l s (omega arith) (omega (arith, twice, more)) none (omega arith) (inr (omega (arith, up, is, not, one))) m
          | inr stays ↦ start_comes k h e l s le some bare (omega arith) (inl (omega (arith, stays, is, not))) m
        ]
      ]

  -- pages that are alike are passed
  pub passed_for : {c : ℕ} {b : Bool} → (s h : ℕ) → 0 < n → h < s + n → IsPassed z h c b → IsPassedFor z n a s h c b
  passed_for {c} {b} s h some lt p = record {
    some = p.some;
    inside = p.inside;
    serve = λ on i lo hi. p.alike i lo hi ∙ on;
    none = λ out g from to. elim (cases_lt g h) [
      | inl before ↦ broken g h (omega arith) (omega (arith, from, lt)) (p.alike h (omega arith) (omega (arith, p.some)) ∙ out)
      | inr on ↦ broken g g (omega arith) (omega arith) (p.alike g on to ∙ out)
    ];
  }

  -- whole groups at hand are passed
  pub whole_passed : (s h e : ℕ) → h < e → e ≤ pages_of z → AreAtHand z.area h e → IsPassedFor z n a s h (e - h) true
  whole_passed s h e lt inside all = record {
    some = omega arith;
    inside = omega arith;
    serve = λ on i lo hi. all i lo (omega arith);
    none = λ out. absurd (true≢false out);
  }

  -- a group that is not whole is passed where no multiple lies inside it: the runs that begin before it have all of it
  pub group_passed : (s h v : ℕ) → h + LARGEST_BLOCK_PAGES ≤ s + n → s + n ≤ pages_of z → IsFirstMultiple z.base (h + 1) a v → LARGEST_BLOCK_PAGES ≤ v - h →
      (AreAtHand z.area h (h + LARGEST_BLOCK_PAGES) → ⊥) → IsPassedFor z n a s h LARGEST_BLOCK_PAGES false
  group_passed s h v room inside m far out = record {
    some = omega arith;
    inside = omega (arith, room, inside);
    serve = λ on. absurd (true≢false (sym on));
    none = λ _ g from to. elim (cases_lt h g) [
      | inl behind ↦ askew (h + 1) v g m (omega arith) (omega (arith, far, to))
      | inr before ↦ false_from_ne_true _ (λ r.
          out (λ i lo hi. has_pages-to (available z.area.largest z.area.kinds z.area.free) g n (and_parts _ _ r).1 i (omega arith) (omega (arith, from, room, hi))))
    ];
  }

  pub search_begins : (s : ℕ) → 0 < n → IsNextStart z n a 0 s → IsSearching z n a s 0
  search_begins s some m = record {
    inside = omega arith;
    aligned = m.aligned;
    few = omega arith;
    serve = λ i lo hi. absurd (omega arith);
    none = λ g lt. m.none g (omega arith) lt;
  }

  module _ {start next : ℕ} (x : IsSearching z n a start next) where
    -- the pages before the start need not be looked at
    pub search_skips : (v : ℕ) → 0 < n → start + n ≤ pages_of z → v ≡ max next start → IsSearching z n a start v
    search_skips v some room e = elim (cases_lt next start) [
      | inl up ↦
          let same : start ≡ v = omega (arith, e) in
          rw (← same) (record {
            inside = omega arith;
            aligned = x.aligned;
            few = omega arith;
            serve = λ i lo hi. absurd (omega arith);
            none = x.none;
          })
      | inr stays ↦ let same : next ≡ v = omega (arith, e) in rw (← same) x
    ]

    -- pages are passed before whose end no run begins
    pub search_leaves : {c : ℕ} → (s : ℕ) → 0 < n → IsPassedFor z n a start next c false → IsNextStart z n a (next + c) s → IsSearching z n a s (next + c)
    search_leaves {c} s some p m = record {
      inside = p.inside;
      aligned = m.aligned;
      few = omega (arith, m.from);
      serve = λ i lo hi. absurd (omega (arith, m.from));
      none = λ g lt. elim (cases_lt g start) [
        | inl below ↦ x.none g below
        | inr from ↦ elim (cases_lt g (next + c)) [ inl within ↦ p.none refl g from within | inr behind ↦ m.none g behind lt ]
      ];
    }

    -- pages that serve are passed, and are too few still
    pub search_grows : {c : ℕ} → IsPassedFor z n a start next c true → next + c < start + n → IsSearching z n a start (next + c)
    search_grows p few = record {
      inside = p.inside;
      aligned = x.aligned;
      few = few;
      serve = λ i lo hi. elim (cases_lt i next) [ inl before ↦ x.serve i lo before | inr on ↦ p.serve refl i on hi ];
      none = x.none;
    }

    -- or they are enough
    pub search_finds : {c : ℕ} → IsPassedFor z n a start next c true → start + n ≤ next + c → lowest_run z n a ≡ Some start
    search_finds p enough =
        lowest_some z n a start (omega (arith, p.inside))
        (and_from _ _ (eq-eqb _ _ x.aligned)
        (has_pages-from (available z.area.largest z.area.kinds z.area.free) start n (λ i lo hi. elim (cases_lt i next) [ inl before ↦ x.serve i lo before | inr on ↦ p.serve refl i on (omega arith) ])))
        x.none

    -- there is no place for a run from start on
    pub search_ends : pages_of z < start + n → lowest_run z n a ≡ None
    search_ends past = lowest_none z n a (λ g le. x.none g (omega arith))

  -- a zone with too few pages has no run
  pub none_fits : pages_of z < n → lowest_run z n a ≡ None
  none_fits few = lowest_none z n a (λ g le. absurd (omega arith))

  -- the lowest run is free
  pub lowest_free : (h : ℕ) → lowest_run z n a ≡ Some h → IsFree z h n
  lowest_free h e =
      let x = lowest_found z n a h e in
      record {
        inside = x.0;
        full = λ i q.
            let s = within-to h n i q in
            (available-to z.area.largest z.area.kinds z.area.free i
            (has_pages-to (available z.area.largest z.area.kinds z.area.free) h n (and_parts _ _ x.1).1 i s.0 s.1)).0;
      }

-- the pages of a free run are free
pub free_run : (z : PlainZone) (h n : ℕ) → IsFree z h n → has_pages z.area.free h n ≡ true
free_run z h n x = has_pages-from z.area.free h n (λ i lo hi. x.full i (within-from h n i lo hi))

-- a run that may be asked for has a page, and no more than the largest alignment
pub may_alloc_run-to : (n a : ℕ) → may_alloc_run n a ≡ true → (0 < n) × (a ≤ LARGEST_ALIGNMENT)
may_alloc_run-to n a e = let x = and_parts _ _ e in (leb-true 1 n x.0, leb-true a LARGEST_ALIGNMENT x.1)

-- the mark's test, as the code makes it
pub marked : (z : PlainZone) (n free room : ℕ) (m : Mark) → free ≡ pages_at_hand z → ((k : ℕ) → 0 < k → k < 2 ^ 32 → (k ≤ room) ↔ (is_above_by z.min free k m ≡ true)) → 0 < n → n < 2 ^ 32 →
    (n ≤ room) ↔ (is_above_by z.min (pages_at_hand z) n m ≡ true)
marked z n free room m e f some fits = rw e at (f n some fits)

-- what a request for such a run comes to
module _ (z : PlainZone) (w n a : ℕ) (m : Mark) where
  pub run_below : is_above_by z.min (pages_at_hand z) n m ≡ false → alloc_run z w n a m ≡ refuse z BelowMark
  run_below e = rw e refl

  pub run_none : is_above_by z.min (pages_at_hand z) n m ≡ true → lowest_run z n a ≡ None → alloc_run z w n a m ≡ refuse z NoBlock
  run_none e none = rw (e, none) refl

  pub run_got : (h : ℕ) → is_above_by z.min (pages_at_hand z) n m ≡ true → lowest_run z n a ≡ Some h →
      alloc_run z w n a m ≡ (let o : Outcome = record { reply = Reply.Page (z.base + h); zone = run_taken z w h n } in o)
  run_got h e some = rw (e, some) refl
