use Rattle.std.proofs.Common.{◌≡◌, ◌++◌, ◌≤◌, length, map, vec_capacity}
use Rattle.zp_office.specs.Offices.{desk_for}
use Rattle.zp_office.proofs.making.desks_of.Given as goal

-- the desks of the shares so far, in order, and room for the others
abbrev pub invariant-loop-share : goal.invariant-loop-share
invariant-loop-share l =
    record {
      whole : l.yielded ++ l.share-iterator.rest.items ≡ l.initial.share-iterator.rest.items;
      desks : l.desks.items ≡ map (desk_for l.trace) l.yielded;
      room : length l.initial.share-iterator.rest.items ≤ vec_capacity l.desks;
    }
