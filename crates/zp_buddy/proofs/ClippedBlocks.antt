-- Pages that leave from the middle of free ones: an aligned run around them leaves, and what it has before and behind them comes back.
use Rattle.std.proofs.Common.{ℕ, ◌+◌, ◌-◌, ◌/◌, ◌%◌, ◌^◌, ◌≡◌, ◌≤◌, ◌<◌, ◌⊎◌, inl, inr, sym, ◌∙◌, ap, arith, Bool, true, false, List, length}
use Rattle.std.proofs.lemmas.Bool.{both_ways, cases_lt, false_from_ne_true}
use Rattle.std.proofs.lemmas.Nat.{pow_pos}
use Rattle.zp_model.specs.PageblockType.{pageblock_types}
use Rattle.zp_model.specs.Block.{has, head, without}
use Rattle.zp_model.specs.Rows.{list_at, stands_in}
use Rattle.zp_model.specs.Area.{Area, lists_count, settle}
use Rattle.zp_model.specs.Take.{leave}
use Rattle.zp_model.specs.Runs.{give_run, leave_run, with_pages, without_pages}
use Rattle.zp_model.proofs.Covers.{has_below, length-without, same_pages, without-decides}
use Rattle.zp_model.proofs.Heads.{head_aligned, head_le, head_of, head_room, head_same, lt_head}
use Rattle.zp_model.proofs.Maximal.{Max}
use Rattle.zp_model.proofs.Normal.{Filled}
use Rattle.zp_model.proofs.Pages.{In, is_max-to, is_max-from}
use Rattle.zp_model.proofs.RunGiven.{IsHeld, belongs_by, max_of, not_max, settle_held, settle_through}
use Rattle.zp_model.proofs.RunLists.{settled_rising}
use Rattle.zp_model.proofs.RunParts.{giving_rises, length-with_pages, length-without_pages, smaller_max, with_pages-new, with_pages-old, with_pages-to, without_pages-from, without_pages-to}

-- the pages of an aligned run of order k at g, all of them free, leave the pages f
module _ (m : ℕ) (f : List Bool) (g k : ℕ) (low : k ≤ m) (aligned : g % 2 ^ k ≡ 0) (full : Filled (In f) g k) where
  abbrev fewer : List Bool
  fewer = without f g k

  fewer-to : (i : ℕ) → In fewer i → In f i × (g ≤ i → i < g + 2 ^ k → ⊥)
  fewer-to i e = (without-decides f g k i (omega (arith, has_below fewer i e, length-without f g k))).0 e

  fewer-from : (i : ℕ) → In f i → (g ≤ i → i < g + 2 ^ k → ⊥) → In fewer i
  fewer-from i e out = (without-decides f g k i (has_below f i e)).1 (e, out)

  -- an aligned run that is no larger and has a page of it lies in it
  small_in : (b j i : ℕ) → j ≤ k → b % 2 ^ j ≡ 0 → b ≤ i → i < b + 2 ^ j → g ≤ i → i < g + 2 ^ k → (g ≤ b) × (b + 2 ^ j ≤ g + 2 ^ k)
  small_in b j i le al c d p q =
      let up : head b k ≡ g = sym (head_same b i j k le al c d) ∙ head_of g i k aligned p q in
      (omega (arith, head_le b k, up), omega (arith, head_room b j k le al, up))

  -- a block that is maximal in what is left, and was not, is as large as the run
  large_new : (b j : ℕ) → Max m fewer b j → (Max m f b j → ⊥) → k ≤ j
  large_new b j e new = elim (cases_lt j k) [
    | inr le ↦ le
    | inl small ↦
        let z = is_max-to m fewer b j e in
        absurd (new (is_max-from m f b j (record {
          order = z.order;
          aligned = z.aligned;
          inside = λ i c d. (fewer-to i (z.inside i c d)).0;
          alone = λ below filled. z.alone below (λ i c d. fewer-from i (filled i c d) (λ p q.
              let within = small_in (head b (j + 1)) (j + 1) i (omega arith) (head_aligned b (j + 1)) c d p q in
              (fewer-to b (z.inside b (omega arith) (omega (arith, pow_pos j)))).1 (omega (arith, within.0, head_le b (j + 1))) (omega (arith, within.1, lt_head b (j + 1)))));
        })))
  ]

  -- what the run has before page x comes back, and what it has behind the n pages from x on
  module _ (x n : ℕ) (lo : g ≤ x) (some : 0 < n) (hi : x + n ≤ g + 2 ^ k) where
    abbrev before : List Bool
    before = with_pages fewer g (x - g)

    abbrev rest : ℕ
    rest = g + 2 ^ k - (x + n)

    abbrev clipped : List Bool
    clipped = with_pages before (x + n) rest

    length-before : length before ≡ length f
    length-before = length-with_pages fewer g (x - g) ∙ length-without f g k

    length-clipped : length clipped ≡ length f
    length-clipped = length-with_pages before (x + n) rest ∙ length-before

    clipped-to : (i : ℕ) → In clipped i → In f i × (x ≤ i → i < x + n → ⊥)
    clipped-to i e = elim (with_pages-to before (x + n) rest i e) [
      | inr back ↦ (full i (omega (arith, back.0)) (omega (arith, back.1)), λ p q. omega (arith, back.0))
      | inl early ↦ elim (with_pages-to fewer g (x - g) i early) [
        | inr front ↦ (full i front.0 (omega (arith, front.1)), λ p q. omega (arith, front.1))
        | inl old ↦ let w = fewer-to i old in (w.0, λ p q. w.1 (omega arith) (omega arith))
      ]
    ]

    stays_in : (i : ℕ) → In fewer i → In clipped i
    stays_in i e = with_pages-old before (x + n) rest i (with_pages-old fewer g (x - g) i e)

    clipped-from : (i : ℕ) → In f i → (x ≤ i → i < x + n → ⊥) → In clipped i
    clipped-from i e out =
        let below : i < length f = has_below f i e in
        elim (cases_lt i g) [
          | inl low ↦ stays_in i (fewer-from i e (λ p q. omega arith))
          | inr from ↦ elim (cases_lt i x) [
            | inl front ↦
                let here : In before i = with_pages-new fewer g (x - g) i (omega (arith, length-without f g k)) from (omega arith) in
                with_pages-old before (x + n) rest i here
            | inr late ↦ elim (cases_lt i (x + n)) [
              | inl within ↦ absurd (out late within)
              | inr past ↦ elim (cases_lt i (g + 2 ^ k)) [
                | inl back ↦ with_pages-new before (x + n) rest i (omega (arith, length-before)) past (omega arith)
                | inr far ↦ stays_in i (fewer-from i e (λ p q. omega arith))
              ]
            ]
          ]
        ]

    -- then the n pages alone have left
    pages_clipped : clipped ≡ without_pages f x n
    pages_clipped =
        same_pages clipped (without_pages f x n) (length-clipped ∙ sym (length-without_pages f x n))
        (λ i e. let w = clipped-to i e in without_pages-from f x n i w.0 w.1)
        (λ i e. let w = without_pages-to f x n i e in clipped-from i w.0 w.1)

    -- a run that is no smaller, and all of it free at last, has no page of it
    large_apart : (b j i : ℕ) → k ≤ j → b % 2 ^ j ≡ 0 → Filled (In clipped) b j → b ≤ i → i < b + 2 ^ j → g ≤ i → i < g + 2 ^ k → ⊥
    large_apart b j i le al filled c d p q =
        let up : head g j ≡ b = sym (head_same g i k j le aligned p q) ∙ head_of b i j al c d in
        (clipped-to x (filled x (omega (arith, head_le g j, up)) (omega (arith, head_room g k j le aligned, up)))).1 (omega arith) (omega arith)

    -- a block that is maximal at last, and was not in between, is smaller than the run
    small_late : (b j : ℕ) → Max m clipped b j → (Max m fewer b j → ⊥) → j < k
    small_late b j late new = elim (cases_lt j k) [
      | inl lt ↦ lt
      | inr large ↦
          let y = is_max-to m clipped b j late in
          absurd (new (smaller_max m fewer clipped b j stays_in (λ i c d. fewer-from i (clipped-to i (y.inside i c d)).0 (λ p q. large_apart b j i large y.aligned y.inside c d p q)) late))
    ]

    -- a block that was maximal, and is so at last, is so in between
    stays : (b j : ℕ) → Max m f b j → Max m clipped b j → Max m fewer b j
    stays b j e late =
        let z = is_max-to m f b j e in
        let y = is_max-to m clipped b j late in
        smaller_max m fewer f b j (λ i w. (fewer-to i w).0) (λ i c d. fewer-from i (z.inside i c d) (λ p q. elim (cases_lt j k) [
          | inr large ↦ large_apart b j i large z.aligned y.inside c d p q
          | inl small ↦
              let within = small_in (head b (j + 1)) (j + 1) i (omega arith) (head_aligned b (j + 1)) (omega (arith, head_le b (j + 1))) (omega (arith, head_room b j (j + 1) (omega arith) z.aligned)) p q in
              z.alone (omega arith) (λ t s r. full t (omega (arith, within.0)) (omega (arith, within.1)))
        ])) e

-- two runs come back, the lower one first, as at once, where no page behind the lower one is free as far as the higher one goes
both_come : (a : Area) (h n k l : ℕ) → IsHeld a → h + n ≤ k → ((i : ℕ) → h + n ≤ i → i < k + l → has a.free i ≡ false) →
    give_run (give_run a h n) k l ≡ settle (record a { free = with_pages (with_pages a.free h n) k l })
unfolding give_run settle
both_come a h n k l x behind clear =
    let m : ℕ = a.largest in
    let f : List Bool = a.free in
    let u : List Bool = with_pages f h n in
    let v : List Bool = with_pages u k l in
    let more : (i : ℕ) → In u i → In v i = with_pages-old u k l in
    let last : (i : ℕ) → In v i → In u i ⊎ ((h + n ≤ i) × (i < k + l)) = λ i e. elim (with_pages-to u k l i e) [
      | inl old ↦ inl old
      | inr new ↦ inr (omega (arith, new.0), new.1)
    ] in
    let off : (i : ℕ) → h + n ≤ i → i < k + l → In u i → ⊥ = λ i lo hi e. elim (with_pages-to f h n i e) [
      | inl old ↦ both_ways (has f i) (clear i lo hi) old
      | inr new ↦ absurd (omega (arith, new.1))
    ] in
    let stay : (g j : ℕ) → Max m f g j → Max m v g j → Max m u g j = λ g j p q.
    smaller_max m u v g j more (λ i lo hi. with_pages-old f h n i ((is_max-to m f g j p).inside i lo hi)) q in
    let rises : (g b j : ℕ) → Max m v g j → (Max m u g j → ⊥) → Max m u b j → (Max m f b j → ⊥) → b < g =
    giving_rises m f u v h (h + n) (k + l) (with_pages-old f h n) (with_pages-to f h n) more last off in
    settle_through a u v (λ r lt. settled_rising m u v a.kinds r (list_at a.lists r) (sym (length-with_pages u k l))
    (λ g on e. belongs_by m a.kinds r u v g e (stay g (r / pageblock_types) (max_of m a.kinds r f g (sym (x.held r g lt) ∙ on)) (max_of m a.kinds r v g e)))
    (λ g b vg ug ub out vb. rises g b (r / pageblock_types) (max_of m a.kinds r v g vg) (not_max m a.kinds r u v g vg ug) (max_of m a.kinds r u b ub)
    (not_max m a.kinds r f v b vb (sym (x.held r b lt) ∙ out))))

-- the n pages from x on of an aligned run that is free leave: the run leaves, and what it has before them and behind them comes back, on each list too
pub left_clipped : (a : Area) (g k x n : ℕ) → IsHeld a → k ≤ a.largest → g % 2 ^ k ≡ 0 → Filled (In a.free) g k → g ≤ x → 0 < n → x + n ≤ g + 2 ^ k →
    give_run (give_run (leave a g k) g (x - g)) (x + n) (g + 2 ^ k - (x + n)) ≡ leave_run a x n
unfolding leave leave_run settle
left_clipped a g k x n l within al full lo some hi =
    let m : ℕ = a.largest in
    let f : List Bool = a.free in
    let u : List Bool = fewer m f g k within al full in
    let v : List Bool = clipped m f g k within al full x n lo some hi in
    let max_old : (r b : ℕ) → r < lists_count m → stands_in b (list_at a.lists r) ≡ true → Max m f b (r / pageblock_types) = λ r b below on.
    max_of m a.kinds r f b (sym (l.held r b below) ∙ on) in
    both_come (leave a g k) g (x - g) (x + n) (g + 2 ^ k - (x + n)) (settle_held (record a { free = u })) (omega arith)
    (λ i p q. false_from_ne_true (has u i) (λ e. (fewer-to m f g k within al full i e).1 (omega arith) (omega arith)))
    ∙ settle_through a u v (λ r below.
    let j : ℕ = r / pageblock_types in
    settled_rising m u v a.kinds r (list_at a.lists r) (length-without f g k ∙ sym (length-clipped m f g k within al full x n lo some hi))
    (λ b on e. belongs_by m a.kinds r u v b e (stays m f g k within al full x n lo some hi b j (max_old r b below on) (max_of m a.kinds r v b e)))
    (λ c b late new up off last.
    let large : k ≤ j = large_new m f g k within al full b j (max_of m a.kinds r u b up) (not_max m a.kinds r f v b last (sym (l.held r b below) ∙ off)) in
    let small : j < k = small_late m f g k within al full x n lo some hi c j (max_of m a.kinds r v c late) (not_max m a.kinds r u v c late new) in
    absurd (omega arith)))
    ∙ ap (λ w. settle (record a { free = w })) (pages_clipped m f g k within al full x n lo some hi)
