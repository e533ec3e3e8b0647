use Rattle.std.proofs.Common.{arith, inr, refl}
use Rattle.zonealloc.proofs.memory.zonealloc_bytes.Goals as goal

pub returns-in-Err : goal.returns-in-Err
returns-in-Err c =
    let why = c.in-Err.ensures.why in
    record {
      told = λ none. absurd (let some = why.number in omega (arith, none, some));
      kept = λ _. refl;
      count = λ out. absurd (out (omega arith, omega (arith, c.if-zones-gt-MAX_ZONES.false)));
      crew = λ _ out. absurd (out (omega (arith, c.if-workers-eq0.false), omega (arith, c.if-workers-gt-MAX_WORKERS.false)));
      sizes = λ _ _. inr why;
    }
