-- What the groups of a status tree tell of free pages.
use Rattle.std.proofs.Common.{ℕ, ◌+◌, ◌-◌, ◌*◌, ◌/◌, ◌^◌, ◌≡◌, ◌≤◌, ◌<◌, inl, inr, arith, true, false, length}
use Rattle.std.proofs.lemmas.Bool.{cases_lt}
use Rattle.std.proofs.lemmas.Nat.{pow_pos}
use Rattle.zp_model.specs.declared.constants.TheConstants.{LARGEST_ORDER}
use Rattle.zp_model.specs.Area.{Area, available, is_isolated}
use Rattle.zp_model.specs.Block.{has, is_max}
use Rattle.zp_model.specs.BlockSet.{Starts, max_blocks}
use Rattle.zp_model.specs.Take.{blocks_at_hand}
use Rattle.zp_model.proofs.Covers.{has_below}
use Rattle.zp_model.proofs.Heads.{number_around}
use Rattle.zp_model.proofs.LowestRun.{available-from, available-to}
use Rattle.zp_model.proofs.MaximalBlocks.{max_block_some, max_blocks-to, max_has}
use Rattle.zp_model.proofs.Pages.{In, is_max-from, is_max-to}
use Rattle.zp_tree.specs.Blocks.{HasBlockOf, IsBare, IsWhole}
use Rattle.zp_tree.specs.declared.constants.TheConstants.{GROUP_ORDER, GROUP_PAGES}
use Rattle.zp_area.proofs.AvailableBlocks as blocks
use Rattle.zp_buddy.specs.Bare.{AreAtHand, HasBlockFrom, IsBareTo}

module _ (a : Area) where
  -- a large block that ends past a page is in the page's group or a later one
  pub bare_to : (k g e i : ℕ) → a.largest ≤ LARGEST_ORDER → g ≡ i / GROUP_PAGES → IsBare (blocks_at_hand a) k g e → IsBareTo a k i (e * GROUP_PAGES)
  bare_to k g e i few same bare h j x shown le past =
      let y = is_max-to a.largest a.free h j x in
      let lt : h < length a.free = has_below a.free h (max_has a.largest a.free h j x) in
      let st : Starts (blocks_at_hand a) h j = blocks.available-from a.largest a.kinds (max_blocks a.largest a.free) h j (max_block_some a.largest a.free h j lt x) shown in
      let end : (h + 2 ^ j - 1) / 2 ^ GROUP_ORDER ≡ h / 2 ^ GROUP_ORDER = number_around h (h + 2 ^ j - 1) j GROUP_ORDER (omega (arith, y.order, few)) y.aligned (omega (arith, pow_pos j)) (omega (arith, pow_pos j)) in
      let from : g ≤ h / GROUP_PAGES = omega (arith, end, same, past) in
      elim (cases_lt (h / GROUP_PAGES) e) [ inl before ↦ absurd (omega (arith, bare h j st from before, le)) | inr behind ↦ omega (arith, behind) ]

  -- and in a group that has a block one begins
  pub block_from : (k g : ℕ) → HasBlockOf (blocks_at_hand a) g k → HasBlockFrom a k (g * GROUP_PAGES) GROUP_PAGES
  block_from k g x =
      let b = blocks.available-to a.largest a.kinds (max_blocks a.largest a.free) x.0 x.1 x.2 in
      (x.0, x.1, max_blocks-to a.largest a.free x.0 x.1 b.0, b.1, x.4, omega (arith, x.3), omega (arith, x.3))

  -- a group that is one block has all its pages at hand
  whole_group : (x i : ℕ) → Starts (blocks_at_hand a) (GROUP_PAGES * x) GROUP_ORDER → GROUP_PAGES * x ≤ i → i < GROUP_PAGES * x + GROUP_PAGES → has (available a.largest a.kinds a.free) i ≡ true
  whole_group x i st from to =
      let b = blocks.available-to a.largest a.kinds (max_blocks a.largest a.free) (GROUP_PAGES * x) GROUP_ORDER st in
      let y = is_max-to a.largest a.free (GROUP_PAGES * x) GROUP_ORDER (max_blocks-to a.largest a.free (GROUP_PAGES * x) GROUP_ORDER b.0) in
      let there = number_around (GROUP_PAGES * x) i GROUP_ORDER a.largest y.order y.aligned from to in
      available-from a.largest a.kinds a.free i (y.inside i from to) (blocks.isolated_there a.largest a.kinds (GROUP_PAGES * x) i false there b.1)

  -- and a group all of whose pages are at hand is one block, where blocks can be as large
  pub at_hand_whole : (x : ℕ) → a.largest ≡ LARGEST_ORDER → AreAtHand a (GROUP_PAGES * x) (GROUP_PAGES * x + GROUP_PAGES) → Starts (blocks_at_hand a) (GROUP_PAGES * x) GROUP_ORDER
  at_hand_whole x top all =
      let h = GROUP_PAGES * x in
      let each : (i : ℕ) → h ≤ i → i < h + GROUP_PAGES → In a.free i × (is_isolated a.largest a.kinds i ≡ false) = λ i lo hi. available-to a.largest a.kinds a.free i (all i lo hi) in
      let here = each h (omega arith) (omega arith) in
      let max : is_max a.largest a.free h GROUP_ORDER ≡ true = is_max-from a.largest a.free h GROUP_ORDER (record {
        order = omega (arith, top);
        aligned = omega arith;
        inside = λ i lo hi. (each i lo hi).0;
        alone = λ lt f. omega (arith, lt, top);
      }) in
      blocks.available-from a.largest a.kinds (max_blocks a.largest a.free) h GROUP_ORDER (max_block_some a.largest a.free h GROUP_ORDER (has_below a.free h here.0) max) here.1

  -- so where the groups that are one block end, some page is not at hand
  pub stops_at : (r end : ℕ) → (r < end / GROUP_PAGES → Starts (blocks_at_hand a) (GROUP_PAGES * r) GROUP_ORDER → ⊥) → a.largest ≡ LARGEST_ORDER → r * GROUP_PAGES + GROUP_PAGES ≤ end → AreAtHand a (r * GROUP_PAGES) (r * GROUP_PAGES + GROUP_PAGES) → ⊥
  stops_at r end stops top room all = stops (omega (arith, room)) (at_hand_whole r top (λ i lo hi. all i (omega (arith, lo)) (omega (arith, hi))))

  pub whole_at_hand : (g e h : ℕ) → g ≡ h / GROUP_PAGES → IsWhole (blocks_at_hand a) g e → AreAtHand a h (e * GROUP_PAGES)
  whole_at_hand g e h same whole i from to =
      let x = i / GROUP_PAGES in
      whole_group x i (whole x (omega (arith, same)) (omega arith)) (omega arith) (omega arith)
