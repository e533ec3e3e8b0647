use Rattle.zp_plain.proofs.frames.is_clear.Goals as goal

pub returns-then-is_block : goal.returns-then-is_block
returns-then-is_block c =
    let clear = rw c.pages.ensures.pages at c.is_clear_run.ensures in (
      λ t. let x = clear.0 t in record { block = c.is_block.ensures.0 c.if-is_block.true; free = λ i lo hi. (x i lo hi).0; aside = λ r i lo hi. (x i lo hi).1 r },
      λ x. clear.1 (λ i lo hi. (x.free i lo hi, λ r. x.aside r i lo hi)),
    )
