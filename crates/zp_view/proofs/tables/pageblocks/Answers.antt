use Rattle.std.proofs.Common.{ℕ, ◌+◌, ◌-◌, ◌/◌, ◌≡◌, ◌≤◌, ◌∙◌, ap, arith, length}
use Rattle.std.specs.List.{count_by}
use Rattle.std.proofs.lemmas.List.{take_all}
use Rattle.zp_model.specs.Area.{pageblock_pages}
use Rattle.zp_view.specs.Tables.{is_kind, typed_pageblocks}
use Rattle.zp_view.proofs.tables.pageblocks.Goals as goal

all_there : (a b p q i n : ℕ) → a ≡ b → p ≡ q → n ≡ (b + (q - 1)) / q → (a + (p - 1)) / p ≤ i → n ≤ i
all_there a b p q i n e f g le = let h = rw (e, f) at le in omega (arith, g, h)

pub returns : goal.returns
unfolding typed_pageblocks
returns c =
    let kinds = c.args.zone.now.plain.area.kinds in
    let pages = c.pageblock_pages-pages.ensures.pages ∙ ap pageblock_pages c.largest.ensures in
    let all : length kinds ≤ c.pageblocks.number = all_there _ _ _ _ _ _ c.pages.ensures.pages pages c.counts.ensures.lawful.kinds c.pageblocks-test.false in
    c.pageblocks.invariant.counted ∙ ap (count_by (is_kind c.args.kind)) (take_all c.pageblocks.number kinds all)
