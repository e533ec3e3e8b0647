use Rattle.std.proofs.Common.{◌/◌, Bool, sym, ◌∙◌, ap, cond}
use Rattle.zp_model.specs.Area.{Area, pageblock_pages}
use Rattle.zp_model.specs.PageblockType.{pageblock_type}
use Rattle.zp_model.specs.Take.{leave, retype, taken}
use Rattle.zp_model.proofs.Heads.{number_lt}
use Rattle.zp_plain.proofs.take.PlainArea.take_chosen.Goals as goal
use Rattle.zp_plain.proofs.take.PlainArea.take_chosen.Goals.{then-claims, else-claims}

pub retype-requires : goal.retype-requires
retype-requires c = rw (c.pageblock_of-pageblock.ensures, c.largest.ensures, c.marks-marks.ensures.sound.typed) (number_lt _ _ _ c.requires)

pub returns : goal.returns
unfolding taken
returns c =
    let R : Bool → Area = λ b. cond b (retype c.args.self.now (c.args.chosen.head / pageblock_pages c.args.self.now.largest) (pageblock_type c.args.kind)) c.args.self.now in
    elim c.if-claims.branch [
      | then-claims w ↦
          c.leave.ensures
          ∙ ap (λ a. leave a c.args.chosen.head c.args.order)
          (w.self-is ∙ w.retype.ensures ∙ ap (λ t. retype c.args.self.now w.pageblock_of-pageblock.result t) w.pageblock_type.ensures ∙ ap (λ i. retype c.args.self.now i (pageblock_type c.args.kind)) (w.pageblock_of-pageblock.ensures
          ∙ ap (λ m. c.args.chosen.head / pageblock_pages m) w.largest.ensures))
          ∙ ap (λ b. leave (R b) c.args.chosen.head c.args.order) (sym w.if-claims.true)
      | else-claims w ↦
          c.leave.ensures
          ∙ ap (λ a. leave a c.args.chosen.head c.args.order) w.self-is
          ∙ ap (λ b. leave (R b) c.args.chosen.head c.args.order) (sym w.if-claims.false)
    ]
