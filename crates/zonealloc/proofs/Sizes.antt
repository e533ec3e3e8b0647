-- How much a zone takes at most.
use Rattle.std.proofs.Common.{ℕ, ◌≤◌, ◌+◌, ◌-◌, ◌^◌, arith}
use Rattle.std.proofs.Math.Nat.{div-le_self, mul-le-mul_right}
use Rattle.std.proofs.Math.Pow.{pow_mono}
use Rattle.zp_model.specs.declared.constants.TheConstants.{MAX_WORKERS}
use Rattle.zonealloc.specs.declared.memory.TheConstants.{GROUP_PAGES, WORKER_BYTES}
use Rattle.zonealloc.specs.declared.zone_spec.ZoneSpec.{ZoneSpec}
use Rattle.zonealloc.specs.Memory.{HasSize, zone_bytes}

-- (far more than it takes: the sum over a row is a number of 64 bits)
pub zone_small : (workers : ℕ) (z : ZoneSpec) → workers ≤ MAX_WORKERS → HasSize z → zone_bytes workers z ≤ 2 ^ 33
zone_small workers z few size =
    let groups = div-le_self (z.pages + (GROUP_PAGES - 1)) GROUP_PAGES in
    let blocks = div-le_self (z.pages + (2 ^ z.largest - 1)) (2 ^ z.largest) in
    let side : 2 ^ z.largest ≤ 1024 = pow_mono size.0.1 in
    let own = mul-le-mul_right (WORKER_BYTES + z.pages) few in
    omega (arith, groups, blocks, side, own, size.0.1, size.1.1)
