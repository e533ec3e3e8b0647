use Rattle.std.proofs.Common.{◌≡◌, ◌≤◌, ◌<◌, ◌+◌, ◌^◌, arith, false, length, refl, true}
use Rattle.zp_journal.proofs.Together.{adjoining_none, adjoining_more, adjoining_all, not_adjoining, too_many}
use Rattle.zp_journal.proofs.pieces.are_adjoining.Goals as goal

pub loop-piece-init : goal.loop-piece-init
loop-piece-init c = adjoining_none c.args.pieces.now

pub loop-piece-preserved : goal.loop-piece-preserved
loop-piece-preserved c =
    adjoining_more c.args.pieces.now c.loop-piece.piece-index c.loop-piece.before c.in-Some.more c.piece-item.result c.loop-piece-test.true c.piece-item.is c.if-piece-before.false
    (let sum : c.in-Some.more ≡ c.loop-piece.before + length c.piece-item.result.journal.entries = omega (arith, c.in-Some.ensures.1, c.from.ensures, c.len.ensures.entries) in sum)
    (let small : c.in-Some.more < 2 ^ 64 = omega (arith, c.in-Some.ensures.0, c.in-Some.ensures.1) in small)
    c.loop-piece.invariant

pub returns-then-piece-before : goal.returns-then-piece-before
returns-then-piece-before c = (
  λ e. absurd (let no : false ≡ true = e in cc),
  λ x. absurd (not_adjoining c.args.pieces.now c.loop-piece.piece-index c.loop-piece.before c.piece-item.result c.loop-piece-test.true c.piece-item.is c.if-piece-before.true c.loop-piece.invariant x.0),
)

pub returns-in_default : goal.returns-in_default
returns-in_default c = (
  λ e. absurd (let no : false ≡ true = e in cc),
  λ x.
      absurd
      (let many : 2 ^ 64 ≤ c.loop-piece.before + length c.piece-item.result.journal.entries = omega (arith, c.in_default.ensures, c.from.ensures, c.len.ensures.entries) in
      omega (arith, x.1, too_many c.args.pieces.now c.loop-piece.piece-index c.loop-piece.before (2 ^ 64) c.piece-item.result c.loop-piece-test.true c.piece-item.is many c.loop-piece.invariant)),
)

pub returns : goal.returns
returns c =
    let all : length c.args.pieces.now ≤ c.loop-piece.piece-index = omega (arith, c.loop-piece-test.false) in
    let x = adjoining_all c.args.pieces.now c.loop-piece.piece-index c.loop-piece.before all c.loop-piece.invariant in
    (λ e. x, λ y. refl)
