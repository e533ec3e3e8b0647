use Rattle.std.proofs.Common.{ℕ, ◌<◌, ◌+◌, ◌-◌, ◌∷◌, List, [], length, slice_index_or, arith}
use Rattle.zonealloc.proofs.making.make.Goals as goal

one_of : {A : Type 0} (xs : List A) (n : ℕ) → n < length xs → A
one_of [] n lt = absurd (omega (arith, lt))
one_of (x ∷ xs) n lt = x

pub returns-in-Ok-clause-call : goal.returns-in-Ok-clause-call
returns-in-Ok-clause-call c =
    let made = c.in-Ok.ensures in
    let crew = c.in-Ok.crew.items in
    let put = c.put_all.ensures in
    record {
      was_empty = λ z. (c.is_live.ensures.none c.if-is_live.false, c.has_live.ensures.none c.if-has_live.false);
      apart = λ z. made.apart;
      made = λ z. (
        c.in-Ok.row_made.value,
        c.put_row.ensures,
        made.keys,
        made.boards,
        (
          put.each,
          λ w none lt.
              let few : w < length crew = omega (arith, lt, put.each, made.crew) in
              let k : ℕ = length crew - (w + 1) in
              let within : k < length crew = omega (arith, few) in
              let boxed = slice_index_or crew k (one_of crew w few) in
              (boxed.value, put.put k w (one_of crew w few) within (omega (arith, few, made.crew)) none, made.new k w (one_of crew w few) within (omega (arith, few, made.crew))),
        ),
      );
      unchanged = λ n. absurd (omega (arith, n));
    }
