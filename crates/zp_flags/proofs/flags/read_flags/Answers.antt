use Rattle.std.proofs.Common.{◌≡◌, codes, inl, rules}
use Rattle.std.specs.List.{Any}
use Rattle.zp_flags.proofs.CommandLine.{bad_dashes}
use Rattle.zp_flags.proofs.flags.read_flags.Goals as goal

pub returns-then-any-clause-read : goal.returns-then-any-clause-read
returns-then-any-clause-read g c =
    let dashes : Any (λ w. g.S.AsStr.text w ≡ codes "--") c.args.words.now = search rules in
    inl (bad_dashes g.S.AsStr.text c.args.words.now dashes)
