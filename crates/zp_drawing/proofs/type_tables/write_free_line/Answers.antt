use Rattle.std.proofs.Common.{ap, ◌+◌, take, get_or, []}
use Rattle.std.specs.List.{flat_map}
use Rattle.zp_model.specs.Info.{number_field}
use Rattle.zp_drawing.proofs.TableTexts.{free_line_written, told_as}
use Rattle.zp_drawing.proofs.type_tables.write_free_line.Goals as goal

pub returns : goal.returns
returns g c =
    let by_order = told_as _ _ _ _ (ap (λ n. flat_map number_field (take (c.args.largest + 1) (get_or c.args.zone.now.free n []))) c.number.ensures.number)
    c.in_ok-write_by_order.ensures in
    free_line_written c.args.largest c.args.zone.now c.args.kind _ _ _ _ _ _ _ c.in_ok-write.ensures.bytes c.in_ok-write_name.ensures
    c.in_ok-write-2.ensures.bytes c.in_ok-write_type.ensures by_order c.in_ok-writeln.ensures.bytes
