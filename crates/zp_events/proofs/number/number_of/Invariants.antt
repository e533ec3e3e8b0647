use Rattle.std.proofs.Common.{◌≡◌, ◌<◌, ◌^◌, take, length}
use Rattle.std.specs.Str.Parse.{AllDigits, digits_value}
use Rattle.zp_events.proofs.number.number_of.Given as goal

-- the digits so far, and their number
abbrev pub invariant-loop-byte : goal.invariant-loop-byte
invariant-loop-byte l = record {
  some : 0 < length l.word;
  small : l.number < 2 ^ 64;
  digits : AllDigits l.base (take l.byte-index l.word);
  number : l.number ≡ digits_value l.base (take l.byte-index l.word);
}
