-- Where the lowest run is: near a large block at hand. So it is found by going over those in rising order.
use Rattle.std.proofs.Common.{ℕ, ◌+◌, ◌%◌, ◌^◌, ◌≡◌, ◌≤◌, ◌<◌, sym, ◌∙◌, ap, arith, Bool, true, false, List, get_or}
use Rattle.std.proofs.lemmas.Bool.{and_parts, both_ways, false_from_ne_true}
use Rattle.std.proofs.lemmas.Nat.{pow_pos}
use Rattle.zp_model.specs.declared.pageblock_type.PageblockType.{PageblockType}
use Rattle.zp_model.specs.Block.{has, head}
use Rattle.zp_model.specs.BlockSet.{Starts, max_blocks}
use Rattle.zp_model.specs.declared.pageblock_type.PageblockType.TheVariants.{Movable}
use Rattle.zp_model.specs.PageblockType.{is_isolate}
use Rattle.zp_model.specs.Area.{Area, available, is_isolated}
use Rattle.zp_model.specs.Runs.{is_run_for}
use Rattle.zp_model.specs.Take.{blocks_at_hand}
use Rattle.zp_model.specs.Zone.{PlainZone}
use Rattle.zp_model.proofs.Covers.{has_below}
use Rattle.zp_model.proofs.Heads.{head_aligned, head_le, lt_head, number_around}
use Rattle.zp_model.proofs.LowestRun.{available-from, available-to, has_pages-to}
use Rattle.zp_model.proofs.Maximal.{Max, max-normal}
use Rattle.zp_model.proofs.Pages.{In, is_max-to, is_max-from}
use Rattle.zp_model.proofs.RunBlocks.{IsLargeNear, large_near}
use Rattle.zp_laws.proofs.Choosing.{available_blocks-to, max_blocks-to}
use Rattle.zp_laws.proofs.ChoosingAny.{at_hand_some}

-- the pages of an aligned block of the largest order at most are isolated if one of them is
isolated_alike : (m : ℕ) (kinds : List PageblockType) (h k i : ℕ) → k ≤ m → h % 2 ^ k ≡ 0 → h ≤ i → i < h + 2 ^ k → is_isolated m kinds i ≡ is_isolated m kinds h
isolated_alike m kinds h k i le al lo hi = ap (λ b. is_isolate (get_or kinds b Movable)) (number_around h i k m le al lo hi)

module _ (a : Area) where
  abbrev at_hand : List Bool
  at_hand = available a.largest a.kinds a.free

  -- the blocks at hand are the maximal blocks of the free pages outside isolated pageblocks
  pub at_hand-to : (h k : ℕ) → Starts (blocks_at_hand a) h k → Max a.largest at_hand h k
  at_hand-to h k s =
      let x = available_blocks-to a.largest a.kinds (max_blocks a.largest a.free) h k s in
      let y = is_max-to a.largest a.free h k (max_blocks-to a.largest a.free h k x.0) in
      is_max-from a.largest at_hand h k (record {
        order = y.order;
        aligned = y.aligned;
        inside = λ i p q. available-from a.largest a.kinds a.free i (y.inside i p q) (isolated_alike a.largest a.kinds h k i y.order y.aligned p q ∙ x.1);
        alone = λ lt full. y.alone lt (λ i p q. (available-to a.largest a.kinds a.free i (full i p q)).0);
      })

  pub at_hand-from : (h k : ℕ) → Max a.largest at_hand h k → Starts (blocks_at_hand a) h k
  at_hand-from h k s =
      let y = is_max-to a.largest at_hand h k s in
      let first = available-to a.largest a.kinds a.free h (y.inside h (omega arith) (omega (arith, pow_pos k))) in
      at_hand_some a h k (has_below a.free h first.0) first.1 (is_max-from a.largest a.free h k (record {
        order = y.order;
        aligned = y.aligned;
        inside = λ i p q. (available-to a.largest a.kinds a.free i (y.inside i p q)).0;
        alone = λ lt full. y.alone lt (λ i p q.
            let d : ℕ = head h (k + 1) in
            let al : d % 2 ^ (k + 1) ≡ 0 = head_aligned h (k + 1) in
            available-from a.largest a.kinds a.free i (full i p q)
            (isolated_alike a.largest a.kinds d (k + 1) i (omega arith) al p q
            ∙ sym (isolated_alike a.largest a.kinds d (k + 1) h (omega arith) al (head_le h (k + 1)) (lt_head h (k + 1))) ∙ first.1));
      }))

module _ (z : PlainZone) (n a : ℕ) where
  -- each page of a run that passes is at hand: so no run over another page does
  pub run_pages-at_hand : (h i : ℕ) → is_run_for z n a h ≡ true → h ≤ i → i < h + n → In (at_hand z.area) i
  run_pages-at_hand h i e p q = has_pages-to (at_hand z.area) h n (and_parts _ _ e).1 i p q

  pub no_run_over : (h i : ℕ) → has (at_hand z.area) i ≡ false → h ≤ i → i < h + n → is_run_for z n a h ≡ false
  no_run_over h i off p q = false_from_ne_true (is_run_for z n a h) (λ e. both_ways _ off (run_pages-at_hand h i e p q))

  module _ (j : ℕ) (le : j ≤ z.area.largest) (some : 2 ^ (j + 1) ≤ n + 1) where
    -- a run that passes begins in a large block at hand, or less than 2 to the j pages before it
    pub run_near : (h : ℕ) → is_run_for z n a h ≡ true → (f : ℕ) × (k : ℕ) × IsLargeNear (Starts (blocks_at_hand z.area)) h j f k
    run_near h e =
        let c = large_near z.area.largest (Max z.area.largest (at_hand z.area)) (In (at_hand z.area)) (max-normal z.area.largest (at_hand z.area)) h n j le some
        (λ i p q. run_pages-at_hand h i e p q) in
        (c.0, c.1, record { starts = at_hand-from z.area c.0 c.1 c.2.starts; enough = c.2.enough; soon = c.2.soon; past = c.2.past })

    -- so where each large block that ends past page x begins at f or past it, no run from x on passes that begins 2 to the j pages before f, or more
    pub no_run_before : (x f : ℕ) → ((g k : ℕ) → Starts (blocks_at_hand z.area) g k → j ≤ k → x < g + 2 ^ k → f ≤ g) → (h : ℕ) → x ≤ h → h + 2 ^ j ≤ f → is_run_for z n a h ≡ false
    no_run_before x f each h lo hi = false_from_ne_true (is_run_for z n a h) (λ e.
        let c = run_near h e in
        let late : f ≤ c.0 = each c.0 c.1 c.2.starts c.2.enough (omega (arith, c.2.past)) in
        omega (arith, c.2.soon))

    -- and none at all where no large block ends past x
    pub no_run_past : (x : ℕ) → ((g k : ℕ) → Starts (blocks_at_hand z.area) g k → j ≤ k → x < g + 2 ^ k → ⊥) → (h : ℕ) → x ≤ h → is_run_for z n a h ≡ false
    no_run_past x none h lo = false_from_ne_true (is_run_for z n a h) (λ e. let c = run_near h e in none c.0 c.1 c.2.starts c.2.enough (omega (arith, c.2.past)))
