use Rattle.std.proofs.Common.{◌-◌, arith}
use Rattle.zp_trace.proofs.DistinctLabels.{key_below}
use Rattle.zp_trace.proofs.keys.label_key.Goals as goal

-- all bytes but one make a number below 2^49

pub overflow_mul-key : goal.overflow_mul-key
overflow_mul-key c = omega (arith, c.loop-left.invariant.read, key_below 7 c.loop-left.left c.as_bytes-bytes.result.now c.as_bytes-bytes.ensures.name (omega (arith, c.as_bytes-bytes.ensures.name.1, c.loop-left-test.true)))

pub overflow_add-key : goal.overflow_add-key
overflow_add-key c =
    omega (arith, c.loop-left.invariant.read, c.from.ensures, c.type_inv.bytes (c.loop-left.left - 1), key_below 7 c.loop-left.left c.as_bytes-bytes.result.now c.as_bytes-bytes.ensures.name (omega (arith, c.as_bytes-bytes.ensures.name.1, c.loop-left-test.true)))

pub returns-clause-within : goal.returns-clause-within
returns-clause-within c =
    omega (arith, c.loop-left.invariant.read, key_below 8 c.loop-left.left c.as_bytes-bytes.result.now c.as_bytes-bytes.ensures.name (omega (arith, c.as_bytes-bytes.ensures.name.1)))
