use Rattle.std.proofs.Common.{IsTrue}
use Rattle.std.specs.Char.{is_ascii_graphic}
use Rattle.std.proofs.lemmas.Str.{IsUtf8-from_ascii}
use Rattle.std.proofs.lemmas.List.Elements.{recursion_from_All}
use Rattle.zp_buddyinfo.proofs.WordLists.{name_ascii}
use Rattle.zp_buddyinfo.proofs.row.zone_of.Goals as goal

pub returns-in_default-clause-none : goal.returns-in_default-clause-none
returns-in_default-clause-none c is =
    c.in_default.ensures.cases.0 (IsUtf8-from_ascii c.args.word.now (name_ascii c.args.word.now (recursion_from_All (λ b. IsTrue (is_ascii_graphic b)) c.args.word.now is.1)))
