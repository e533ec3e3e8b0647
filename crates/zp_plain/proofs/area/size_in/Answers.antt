use Rattle.std.proofs.Common.{ℕ, ◌≡◌, ◌+◌, ◌-◌, ◌*◌, arith, refl, sym, Bool, List}
use Rattle.std.specs.List.{range_with_len, count_by}
use Rattle.zp_model.specs.Block.{has}
use Rattle.zp_model.specs.Area.{pageblock_pages, size_in}
use Rattle.zp_plain.proofs.Looking.{count_step, count_end}
use Rattle.zp_plain.proofs.area.size_in.Goals as goal
use Rattle.zp_plain.proofs.area.size_in.Goals.{then-has, else-has}

count_all : (m : ℕ) (u : List Bool) (pageblock pages n : ℕ) → pages ≡ pageblock_pages m → n ≡ pages → count_by (λ i. has u i) (range_with_len (pageblock * pages) n) ≡ size_in m u pageblock
unfolding size_in
count_all m u pageblock pages n e f = rw (f, e) refl

pub pages-init : goal.pages-init
pages-init c =
    let pages = c.pageblock_pages-length.result in
    record {
      within = omega arith;
      counted =
          let e = count_all c.args.largest c.args.set.now c.args.pageblock pages (c.args.pageblock * pages + pages - c.args.pageblock * pages) c.pageblock_pages-length.ensures.pages (omega arith) in
          omega (arith, e);
    }

pub pages-preserved : goal.pages-preserved
pages-preserved c =
    let pages = c.pageblock_pages-length.result in
    let step = count_step (λ i. has c.args.set.now i) c.pages.i (c.args.pageblock * pages + pages) c.has.result (omega arith) (sym c.has.ensures) in
    elim c.if-has.branch [
      | then-has w ↦
          let h = rw w.if-has.true at step in
          record { within = omega (arith, c.pages.invariant.within, w.pages-is); counted = omega (arith, h, c.pages.invariant.counted, w.pages-is) }
      | else-has w ↦
          let h = rw w.if-has.false at step in
          record { within = omega (arith, c.pages.invariant.within, w.pages-is); counted = omega (arith, h, c.pages.invariant.counted, w.pages-is) }
    ]

pub returns : goal.returns
returns c =
    let pages = c.pageblock_pages-length.result in
    omega (arith, c.pages.invariant.counted, count_end (λ i. has c.args.set.now i) c.pages.i (c.args.pageblock * pages + pages) (omega arith))
