use Rattle.std.proofs.Common.{◌/◌, ◌^◌}
use Rattle.std.proofs.lemmas.Nat.{and_mask}
use Rattle.zp_table.proofs.Masks.{mask}
use Rattle.zp_table.proofs.field.field.Goals as goal

pub returns-clause-same : goal.returns-clause-same
returns-clause-same c = rw (mask c.args.bits c.requires.1) (and_mask (c.args.word / 2 ^ c.args.from) c.args.bits)
