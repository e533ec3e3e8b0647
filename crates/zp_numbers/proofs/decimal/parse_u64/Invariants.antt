use Rattle.std.proofs.Common.{◌≡◌, ◌<◌, ◌^◌, take}
use Rattle.std.specs.Str.Parse.{AllDigits, digits_value}
use Rattle.zp_numbers.proofs.decimal.parse_u64.Given as goal

-- the digits so far, and their number
abbrev pub invariant-loop-digit : goal.invariant-loop-digit
invariant-loop-digit l = record {
  small : l.number < 2 ^ 64;
  digits : AllDigits 10 (take l.digit-index l.word);
  number : l.number ≡ digits_value 10 (take l.digit-index l.word);
}
