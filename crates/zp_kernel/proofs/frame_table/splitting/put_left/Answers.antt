use Rattle.std.proofs.Common.{◌+◌, ◌-◌, arith}
use Rattle.zp_kernel.proofs.Splitting.{few_pieces}
use Rattle.zp_kernel.proofs.frame_table.splitting.put_left.Goals as goal

pub put_cut-requires-clause-room : goal.put_cut-requires-clause-room
put_cut-requires-clause-room c = omega (arith, c.requires.room, few_pieces 0 c.args.from (omega (arith, c.requires.some, c.pages_behind.ensures.within, c.pages_behind.ensures.behind, c.requires.inside)))

pub put_cut-requires-2-clause-room : goal.put_cut-requires-2-clause-room
put_cut-requires-2-clause-room c =
    omega (
      arith,
      c.requires.room,
      c.put_cut.ensures.room,
      few_pieces 0 c.args.from (omega (arith, c.requires.some, c.pages_behind.ensures.within, c.pages_behind.ensures.behind, c.requires.inside)),
      few_pieces (c.args.from + c.args.pages) (c.pages_behind.result - c.args.pages) (omega (arith, c.requires.some, c.pages_behind.ensures.within)),
    )
