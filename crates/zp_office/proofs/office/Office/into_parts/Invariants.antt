use Rattle.std.proofs.Common.{◌≡◌, ◌++◌, ◌≤◌, length, map, vec_capacity}
use Rattle.zp_office.specs.Desks.{DeskState}
use Rattle.zp_office.proofs.office.Office.into_parts.Given as goal

-- the shares of the desks so far, in order, and room for all
abbrev pub invariant-loop-desk : goal.invariant-loop-desk
invariant-loop-desk l =
    record {
      whole : l.yielded ++ l.desk-iterator.rest.items ≡ l.initial.desk-iterator.rest.items;
      shares : l.shares.items ≡ map (λ (d : DeskState). d.share) l.yielded;
      room : length l.initial.desk-iterator.rest.items ≤ vec_capacity l.shares;
    }
