use Rattle.std.proofs.Common.{IsTrue, ◌<◌, ℕ, arith, rules}
use Rattle.std.specs.Char.{is_ascii_alphanumeric}
use Rattle.std.proofs.lemmas.Bool.Decides.{nat_tests}
use Rattle.std.proofs.lemmas.List.Elements.{All-weaker}
use Rattle.std.proofs.lemmas.Str.{IsUtf8-from_ascii}
use Rattle.std.proofs.lemmas.Str.Ascii.{IsAscii-from_all}
use Rattle.zp_model.proofs.name.Name.as_str.Goals as goal

ascii : (b : ℕ) → IsTrue (is_ascii_alphanumeric b) → b < 128
ascii b h = grind (arith, nat_tests)

pub unwrap-requires : goal.unwrap-requires
unwrap-requires c =
    let utf8 = IsUtf8-from_ascii c.as_bytes.result.now (IsAscii-from_all c.as_bytes.result.now (All-weaker (λ b. IsTrue (is_ascii_alphanumeric b)) (λ b. b < 128) ascii c.as_bytes.result.now c.as_bytes.ensures.name.2)) in
    search (rules, utf8)
