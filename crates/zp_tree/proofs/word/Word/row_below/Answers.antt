use Rattle.std.proofs.Common.{◌*◌, ◌%◌, ◌^◌, ◌≡◌, ◌<◌, arith}
use Rattle.std.proofs.lemmas.Nat.{pow_pos}
use Rattle.std.proofs.Math.Nat.{mod-eq_of_lt}
use Rattle.std.proofs.Math.Pow.{pow_mono}
use Rattle.zp_tree.proofs.Rows.{row_masked}
use Rattle.zp_tree.proofs.word.Word.row_below.Goals as goal

pub returns : goal.returns
returns c =
    let m = 2 ^ c.args.down in
    let a = c.args.node * m in
    let pos = pow_pos c.args.down in
    let shift : a % 4294967296 ≡ a = mod-eq_of_lt (omega (arith, c.requires.node.1)) in
    let wide : 2 ^ c.places_of-width.result < 2 ^ 64 = omega (arith, pow_mono {i = c.places_of-width.result} {j = 32} c.places_of-width.ensures.within) in
    let ones : 1 * 2 ^ c.places_of-width.result % 18446744073709551616 ≡ 2 ^ c.places_of-width.result = omega arith in
    rw (shift, ones, c.places_of-width.ensures.places, c.self.view_is) (row_masked c.args.self c.args.node c.args.down)
