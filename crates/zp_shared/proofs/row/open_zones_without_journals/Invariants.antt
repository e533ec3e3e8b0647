use Rattle.std.proofs.Common.{◌≡◌, ◌≤◌, ◌++◌, [], ◌∷◌, All, length, map}
use Rattle.std.specs.Vec.{vec_capacity}
use Rattle.zp_shared.specs.Rows.{OpenedState, zone_counts}
use Rattle.zp_shared.proofs.row.open_zones_without_journals.Given as goal

-- the zones so far are opened, and there is room for the others
abbrev pub invariant-loop-zone : goal.invariant-loop-zone
invariant-loop-zone l =
    record {
      zones : map (λ (o : OpenedState). o.zone) l.row.items ≡ l.yielded;
      many : length l.row.items ≡ length l.yielded;
      sections : All (λ (o : OpenedState). (o.board.capacity ≡ l.sections) × (o.capacity ≡ l.sections)) l.row.items;
      published : All (λ (o : OpenedState). o.published ≡ zone_counts o.zone ∷ []) l.row.items;
      whole : l.yielded ++ l.zone-iterator.rest.items ≡ l.fn.zones.items;
      room : length l.fn.zones.items ≤ vec_capacity l.row;
    }
