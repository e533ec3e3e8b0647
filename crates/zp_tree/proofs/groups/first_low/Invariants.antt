use Rattle.std.proofs.Common.{ℕ, ◌+◌, ◌*◌, ◌/◌, ◌≡◌, ◌≤◌, ◌<◌}
use Rattle.zp_tree.specs.declared.constants.TheConstants.{PLACES}
use Rattle.zp_tree.specs.Marks.{HasLow}
use Rattle.zp_tree.proofs.groups.first_low.Given as goal

-- no word that was read has such a block
abbrev pub invariant-words : goal.invariant-words
invariant-words l = record {
  none : (i o : ℕ) → HasLow l.low i o → PLACES * l.fn.group ≤ i / PLACES → i / PLACES < PLACES * l.fn.group + l.word → o < l.fn.order;
  counted : l.meter ≡ l.initial.meter + l.word;
}
