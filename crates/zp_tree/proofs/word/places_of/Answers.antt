use Rattle.std.proofs.Common.{◌^◌, ◌≤◌, arith}
use Rattle.std.proofs.Math.Pow.{pow_mono}
use Rattle.zp_tree.specs.declared.constants.TheConstants.{PLACES, WORD_LEVELS}
use Rattle.zp_tree.proofs.word.places_of.Goals as goal

pub returns-clause-within : goal.returns-clause-within
returns-clause-within c = let le : 2 ^ c.args.level ≤ PLACES = pow_mono {i = c.args.level} {j = WORD_LEVELS} c.requires in omega (arith, le)
