use Rattle.std.proofs.Common.{ℕ, ◌≡◌, ◌≤◌, ◌<◌, ◌+◌, ◌-◌, List, length, slice_index_or, subst, inl, inr, arith}
use Rattle.std.proofs.lemmas.Bool.{cases_lt, false≢true}
use Rattle.zonealloc.specs.declared.zone_spec.ZoneSpec.{ZoneSpec}
use Rattle.zonealloc.specs.Zones.{AreApart}
use Rattle.zonealloc.proofs.zone_spec.are_apart.Goals as goal

-- a zone that begins below the end of the one before it is not apart from that
meets : (zs : List ZoneSpec) (k i e b : ℕ) (none : ZoneSpec) → i + 1 ≡ k → k < length zs → b ≡ (slice_index_or zs k none).base → b < e → e ≡ (slice_index_or zs i none).base + (slice_index_or zs i none).pages → AreApart zs → ⊥
meets zs k i e b none is lt here below end apart =
    let after = subst (λ n. (slice_index_or zs i none).base + (slice_index_or zs i none).pages ≤ (slice_index_or zs n none).base) is (apart i none (omega (arith, is, lt))) in
    omega (arith, here, below, end, after)

pub returns-then-from-end : goal.returns-then-from-end
returns-then-from-end c =
    let kept = c.loop-zone.invariant in
    let k = c.loop-zone.zone-index in
    let i : ℕ = k - 1 in (
      (λ no. absurd (false≢true no)),
      λ apart. absurd (elim (cases_lt k 1) [
        | inl zero ↦ omega (arith, c.if-from-end.true, kept.first (omega (arith, zero)))
        | inr one ↦ let is : i + 1 ≡ k = omega (arith, one) in meets _ k i c.loop-zone.end c.from.result _ is c.loop-zone-test.true c.from.ensures c.if-from-end.true (kept.end i _ is) apart
      ]),
    )
