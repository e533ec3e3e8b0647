use Rattle.std.proofs.Common.{◌∙◌, ◌<◌, ap, arith, length, subst, sym}
use mathlib.Core.List.{IsPrefix}
use Rattle.zp_counts.specs.CountBoards.{BoardState}
use Rattle.zp_counts.specs.CountBoards.{CountsSeen}
use Rattle.zp_shared.specs.Rows.{HaveReadAt, IsPublished}
use Rattle.zp_shared.proofs.Readers.{reader_tie, readers_length, readers_set, seen_beside, seen_here, seen_put}
use Rattle.zp_shared.proofs.row.read_row.Goals as goal

pub read_board-requires-clause-reader : goal.read_board-requires-clause-reader
read_board-requires-clause-reader g c =
    ap (λ (r : CountsSeen). r.tie) c.index_mut.ensures.value
    ∙ reader_tie g.J.Naming.zones g.J.Naming.boards c.args.readers.now.items c.place-place.result c.index_mut.result.now c.requires.readers (omega (arith, c.requires.place, c.place-place.ensures.place))
    ∙ sym (ap (λ (b : BoardState). b.tie) (c.requires.board ∙ ap (Rattle.zp_shared.specs.Rows.board_at g.J.Naming.boards) (sym c.place-place.ensures.place)))

pub returns-clause-read : goal.returns-clause-read
returns-clause-read g c =
    let rs = c.args.readers.now.items in
    let k = c.place-place.result in
    let many = readers_length g.J.Naming.zones g.J.Naming.boards rs c.requires.readers in
    let lt : k < length rs = omega (arith, many, c.requires.place, c.place-place.ensures.place) in
    subst (λ i. HaveReadAt i c.args.guarded.now.zone c.args.readers.now (Rattle.std.specs.Vec.with_item c.args.readers.now k c.read_board.new.reader)) c.place-place.ensures.place
    (record {
      here =
          subst (IsPublished c.args.guarded.now.zone) (sym (seen_here rs k c.read_board.new.reader lt ∙ ap (λ (r : CountsSeen). r.seen) c.read_board.ensures.reader))
          c.read_board.ensures.published;
      others = λ j other. seen_beside rs k j c.read_board.new.reader other;
    })

pub returns-clause-readers : goal.returns-clause-readers
returns-clause-readers g c =
    let rs = c.args.readers.now.items in
    let k = c.place-place.result in
    let tie = ap (λ (r : CountsSeen). r.tie) c.read_board.ensures.reader ∙ ap (λ (r : CountsSeen). r.tie) c.index_mut.ensures.value in
    let more =
    subst (λ (r : CountsSeen). IsPrefix r.seen c.read_board.new.reader.seen) c.index_mut.ensures.value
    (subst (IsPrefix c.index_mut.result.now.seen) (sym (ap (λ (r : CountsSeen). r.seen) c.read_board.ensures.reader)) c.read_board.ensures.before) in
    (readers_set g.J.Naming.zones g.J.Naming.boards rs k c.read_board.new.reader c.index_mut.result.now c.requires.readers tie, seen_put rs k c.read_board.new.reader c.index_mut.result.now more)
