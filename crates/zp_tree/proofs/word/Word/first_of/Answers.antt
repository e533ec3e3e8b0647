use Rattle.std.proofs.Common.{◌+◌, ◌-◌, ◌*◌, ◌%◌, ◌^◌, ◌≡◌, ◌≤◌, arith, rules, w64}
use Rattle.std.specs.Int.{trailing_zeros}
use Rattle.std.proofs.Math.Nat.{mod-eq_of_lt}
use Rattle.std.proofs.Math.Pow.{pow_mono}
use Rattle.zp_tree.specs.declared.constants.TheConstants.{WORD_LEVELS}
use Rattle.zp_tree.proofs.Nodes.{place_room}
use Rattle.zp_tree.proofs.Rows.{all_places, row_none, row_first}
use Rattle.zp_tree.proofs.word.Word.first_of.Goals as goal

pub row_below-row-requires-clause-node : goal.row_below-row-requires-clause-node
row_below-row-requires-clause-node c =
    let le : 2 ^ (WORD_LEVELS - c.args.level) ≤ 2 ^ WORD_LEVELS = pow_mono {i = WORD_LEVELS - c.args.level} {j = WORD_LEVELS} (omega arith) in
    (omega arith, omega (arith, le))

pub returns-then-row-eq0 : goal.returns-then-row-eq0
returns-then-row-eq0 c p h =
    row_none c.args.self 0 WORD_LEVELS c.args.level _ p all_places c.requires c.row_below-row.ensures (omega arith) h (omega arith) (omega (arith, place_room p c.args.level h.place))

pub returns-else-row-eq0 : goal.returns-else-row-eq0
returns-else-row-eq0 c =
    let f = row_first c.args.self 0 WORD_LEVELS c.args.level _ all_places c.requires c.row_below-row.ensures (omega arith) (search rules) in
    let z = trailing_zeros w64 c.row_below-row.result * 2 ^ c.args.level in
    let small : z % 4294967296 ≡ z = mod-eq_of_lt (omega (arith, f.1.place.inside)) in
    let start : 0 + z ≡ z = omega arith in
    rw (small, ← start) (f.1, λ q h. f.3 q h (omega arith) (omega (arith, place_room q c.args.level h.place)))
