use Rattle.std.proofs.Common.{◌≡◌, ◌≤◌, ◌++◌, All, length, map}
use Rattle.std.specs.List.{AllZip}
use Rattle.std.specs.Vec.{vec_capacity}
use Rattle.zp_counts.specs.CountBoards.{BoardState}
use Rattle.zp_journal.specs.Journals.{IsJournalOf, JournalState}
use Rattle.zp_share.specs.Shares.{key_of}
use Rattle.zp_shared.specs.Rows.{AreKept, HaveReadZones, board_at, key_at}
use Rattle.zp_shared.proofs.row.close_zones.Given as goal

-- the zones and journals of the locks so far are taken out, their readers have read them, and there is room for the others
abbrev pub invariant-loop-shared : goal.invariant-loop-shared
invariant-loop-shared g l =
    record {
      keys : map key_of l.zones.items ≡ map (key_at g.J.Naming.zones) l.yielded;
      journals : AllZip IsJournalOf l.zones.items l.journals.items;
      rooms : map (λ (j : JournalState). j.capacity) l.journals.items ≡ map (λ (b : BoardState). b.capacity) (map (board_at g.J.Naming.boards) l.yielded);
      read : All (HaveReadZones l.zones.items) l.readers;
      kept : AllZip (AreKept g.J.Naming.zones g.J.Naming.boards) l.initial.readers l.readers;
      zones_many : length l.zones.items ≡ length l.yielded;
      journals_many : length l.journals.items ≡ length l.yielded;
      whole : l.yielded ++ l.shared-iterator.rest.items ≡ l.fn.row.items;
      zone_room : length l.fn.row.items ≤ vec_capacity l.zones;
      journal_room : length l.fn.row.items ≤ vec_capacity l.journals;
    }
