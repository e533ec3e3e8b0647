-- The parts of a zone's text, one after another.
use Rattle.std.proofs.Common.{ℕ, ◌≡◌, ◌<◌, ◌≤◌, ◌+◌, ◌*◌, List, ◌++◌, length, take, take_all, get_or, codes, sym, ap, ◌∙◌, arith, Option}
use Rattle.std.specs.List.{flat_map, range_with_len, repeat}
use Rattle.std.specs.Fmt.{decimal}
use Rattle.std.proofs.lemmas.List.FromFn.{length-range_with_len, get_or-range_with_len}
use Rattle.zp_buddyinfo.specs.declared.index.FragmentationIndex.{FragmentationIndex}
use Rattle.zp_buddyinfo.specs.declared.style.Style.{Style}
use Rattle.zp_buddyinfo.specs.declared.row.BuddyinfoRow.{BuddyinfoRow}
use Rattle.zp_buddyinfo.specs.Figures.{free_pages, largest_order}
use Rattle.zp_buddyinfo.specs.Report.{right_aligned, thousandths, fragmentation_text, above, bar, yellow, red, figures_line, order_line, order_lines, largest_text, head_line, column_heads, zone_text}
use Rattle.zp_buddyinfo.proofs.Parts.{first, then, item_more}

-- the line of an order
pub figures_written : (style : Style) (k count unusable : ℕ) (fragmentation : FragmentationIndex) (a b c d e f g h i j : List ℕ) (seen : ℕ) →
    seen ≡ above fragmentation → b ≡ a ++ right_aligned 5 (decimal k) → c ≡ b ++ right_aligned 11 (decimal count) → d ≡ c ++ right_aligned 10 (thousandths unusable) → e ≡ d ++ codes " " → f ≡ e ++ bar style yellow unusable → g ≡ f ++ right_aligned 8 (fragmentation_text fragmentation) → h ≡ g ++ codes " " → i ≡ h ++ bar style red seen → j ≡ i ++ codes "\n" → j ≡ a ++ figures_line style k count unusable fragmentation
unfolding figures_line
figures_written style k count unusable fragmentation a b c d e f g h i j seen same e1 e2 e3 e4 e5 e6 e7 e8 e9 =
    (then _ _ _ _ _
    (then _ _ _ _ _
    (then _ _ _ _ _
    (then _ _ _ _ _
    (then _ _ _ _ _
    (then _ _ _ _ _
    (then _ _ _ _ _
    (then _ _ _ _ _
    (first _ _ _ e1)
    e2)
    e3)
    e4)
    e5)
    e6)
    e7)
    (e8 ∙ ap (λ x. h ++ bar style red x) same))
    e9).text

-- the line before those of the orders
pub head_written : (page node : ℕ) (zone : List ℕ) (free : ℕ) (largest : Option ℕ) (a b c d e f g h i j k l : List ℕ) (n m p : ℕ) →
    n ≡ node → m ≡ free → p ≡ page * free → b ≡ a ++ codes "Node " → c ≡ b ++ decimal n → d ≡ c ++ codes ", zone " → e ≡ d ++ zone → f ≡ e ++ codes ": " → g ≡ f ++ decimal m → h ≡ g ++ codes " free pages, " → i ≡ h ++ decimal p → j ≡ i ++ codes " bytes; largest block: " → k ≡ j ++ largest_text page largest → l ≡ k ++ codes "\n" → l ≡ a ++ head_line page node zone free largest
unfolding head_line
head_written page node zone free largest a b c d e f g h i j k l n m p nodes frees bytes e1 e2 e3 e4 e5 e6 e7 e8 e9 e10 e11 =
    (then _ _ _ _ _
    (then _ _ _ _ _
    (then _ _ _ _ _
    (then _ _ _ _ _
    (then _ _ _ _ _
    (then _ _ _ _ _
    (then _ _ _ _ _
    (then _ _ _ _ _
    (then _ _ _ _ _
    (then _ _ _ _ _
    (first _ _ _ e1)
    (e2 ∙ ap (λ x. b ++ decimal x) nodes))
    e3)
    e4)
    e5)
    (e6 ∙ ap (λ x. f ++ decimal x) frees))
    e7)
    (e8 ∙ ap (λ x. h ++ decimal x) bytes))
    e9)
    e10)
    e11).text

-- what stands over the columns
pub heads_written : (style : Style) (a b c d : List ℕ) (spaces : List ℕ) →
    spaces ≡ repeat style.cells (codes " ") → b ≡ a ++ codes "order     blocks  unusable " → c ≡ b ++ spaces → d ≡ c ++ codes "  fragmentation\n" → d ≡ a ++ column_heads style
unfolding column_heads
heads_written style a b c d spaces same e1 e2 e3 =
    (then _ _ _ _ _
    (then _ _ _ _ _
    (first _ _ _ e1)
    (e2 ∙ ap (λ x. b ++ x) same))
    e3).text

-- the text of a zone
pub zone_written : (page : ℕ) (style : Style) (row : BuddyinfoRow) (a b c d : List ℕ) (node free : ℕ) (largest : Option ℕ) →
    node ≡ row.node → free ≡ free_pages row.blocks → largest ≡ largest_order row.blocks → b ≡ a ++ head_line page node row.zone.now free largest → c ≡ b ++ column_heads style → d ≡ c ++ order_lines style row.blocks → d ≡ a ++ zone_text page style row
unfolding zone_text
zone_written page style row a b c d node free largest nodes frees largests e1 e2 e3 =
    let head = ap (λ x. head_line page x row.zone.now free largest) nodes ∙ ap (λ x. head_line page row.node row.zone.now x largest) frees ∙ ap (λ x. head_line page row.node row.zone.now (free_pages row.blocks) x) largests in
    (then _ _ _ _ _
    (then _ _ _ _ _
    (first _ _ _ (e1 ∙ ap (λ x. a ++ x) head))
    e2)
    e3).text

-- the line of one order more
pub order_more : (style : Style) (blocks : List ℕ) (i : ℕ) (a b c : List ℕ) → i < length blocks → b ≡ a ++ flat_map (order_line style blocks) (take i (range_with_len 0 (length blocks))) →
    c ≡ b ++ order_line style blocks i → c ≡ a ++ flat_map (order_line style blocks) (take (i + 1) (range_with_len 0 (length blocks)))
order_more style blocks i a b c lt so_far is =
    let here : get_or (range_with_len 0 (length blocks)) i 0 ≡ i = get_or-range_with_len 0 (length blocks) i 0 lt ∙ omega arith in
    item_more (order_line style blocks) (range_with_len 0 (length blocks)) i 0 a b c (omega (arith, length-range_with_len 0 (length blocks))) so_far (is ∙ ap (λ k. b ++ order_line style blocks k) (sym here))

-- the lines of all orders
pub all_orders : (style : Style) (blocks : List ℕ) (i : ℕ) (a b : List ℕ) → length blocks ≤ i → b ≡ a ++ flat_map (order_line style blocks) (take i (range_with_len 0 (length blocks))) → b ≡ a ++ order_lines style blocks
unfolding order_lines
all_orders style blocks i a b far so_far =
    so_far ∙ ap (λ ks. a ++ flat_map (order_line style blocks) ks) (take_all i (range_with_len 0 (length blocks)) (omega (arith, far, length-range_with_len 0 (length blocks))))
