use Rattle.std.proofs.Common.{◌≡◌, ◌∙◌, ap, arith, length}
use Rattle.std.specs.List.{range_with_len, count_by}
use Rattle.zp_view.specs.Tables.{is_typed_block, typed_blocks}
use Rattle.zp_view.proofs.Counted.{count_more}
use Rattle.zp_view.proofs.tables.free_blocks.Goals as goal
use Rattle.zp_view.proofs.tables.free_blocks.Goals.{then-is_typed_block, else-is_typed_block}

pub places-preserved : goal.places-preserved
places-preserved c =
    let more = count_more (is_typed_block c.args.zone.now.plain.area c.args.order c.args.kind) c.places.place c.is_typed_block.result c.is_typed_block.ensures in
    elim c.if-is_typed_block.branch [
      | then-is_typed_block w ↦ let h = rw w.if-is_typed_block.true at more in record { within = omega arith; counted = omega (arith, h, c.places.invariant.counted) }
      | else-is_typed_block w ↦ let h = rw w.if-is_typed_block.false at more in record { within = omega arith; counted = omega (arith, h, c.places.invariant.counted) }
    ]

pub returns : goal.returns
unfolding typed_blocks
returns c =
    let all : c.places.place ≡ length c.args.zone.now.plain.area.free = omega (arith, c.pages-place-end.ensures.pages) in
    c.places.invariant.counted ∙ ap (λ n. count_by (is_typed_block c.args.zone.now.plain.area c.args.order c.args.kind) (range_with_len 0 n)) all
