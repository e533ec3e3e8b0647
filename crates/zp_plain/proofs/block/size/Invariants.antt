use Rattle.std.proofs.Common.{◌≡◌, ◌≤◌, take}
use Rattle.std.specs.List.{count_by}
use Rattle.zp_plain.proofs.block.size.Given as goal

abbrev pub invariant-pages : goal.invariant-pages
invariant-pages l = record { within : l.pages ≤ l.mark-index; counted : l.pages ≡ count_by (λ b. b) (take l.mark-index l.set) }
