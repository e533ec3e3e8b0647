use Rattle.std.proofs.Common.{rules, List, ℕ}
use Rattle.std.proofs.lemmas.List.{take-append-drop}
use Rattle.zp_model.specs.Area.{lists_count}
use Rattle.zp_buddy.proofs.buddy.Buddy.entry.Goals as goal

pub returns-clause-linked : goal.returns-clause-linked
returns-clause-linked c = rw (← c.self.view_is, take-append-drop {A = List ℕ} (lists_count c.self.inside.area.largest) c.self.inside.area.rows.lists) (search rules)
