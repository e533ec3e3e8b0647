-- What the tables of /proc/pagetypeinfo say of the zones of a trace after some of its requests.
use Rattle.std.specs.Prelude.{ℕ, List, [], ◌∷◌, length, map, max, min, Option}
use Rattle.std.specs.List.{fold, range_with_len}
use Rattle.zp_model.specs.declared.constants.TheConstants.{ORDERS}
use Rattle.zp_model.specs.declared.pageblock_type.PageblockType.{PageblockType}
use Rattle.zp_model.specs.declared.pageblock_type.PageblockType.TheVariants.{Unmovable, Reclaimable, Movable, Isolate}
use Rattle.zp_model.specs.Area.{Area}
use Rattle.zp_zone.specs.NamedZone.{NamedZone}
use Rattle.zp_view.specs.Tables.{typed_blocks, typed_pageblocks}
use Rattle.zp_trace.specs.declared.trace.Trace.{Trace}
use Rattle.zp_states.specs.Replays.{office_after}
use Rattle.zp_drawing.specs.declared.type_tables.TypeCounts.{TypeCounts}
use Rattle.zp_drawing.specs.TypeTables.{type_tables}
use Rattle.zp_pictures.specs.Inputs.{requests_to}

-- the types by their numbers
abbrev pub numbered_types : List PageblockType
numbered_types = Unmovable ∷ Reclaimable ∷ Movable ∷ Isolate ∷ []

-- how many free blocks of each order lie in pageblocks of type t
abbrev pub blocks_by_order : Area → PageblockType → List ℕ
blocks_by_order a t = map (λ k. typed_blocks a k t) (range_with_len 0 ORDERS)

-- what the tables say of a zone
abbrev pub type_counts : NamedZone → TypeCounts
type_counts z = record {
  name = z.name;
  free = map (blocks_by_order z.plain.area) numbered_types;
  pageblocks = map (typed_pageblocks z.plain.area) numbered_types;
}

-- the order of the largest block that one of the zones can have
abbrev pub largest_of : List NamedZone → ℕ
largest_of zones = fold (λ m (z : NamedZone). max m z.plain.area.largest) 0 zones

-- the tables of these zones, in their order
unfoldable pub tables_of : List NamedZone → List ℕ
tables_of zones = type_tables (largest_of zones) (map type_counts zones)

-- the zones of a trace after the requests in its first lines, or after all
abbrev pub zones_to : Trace → Option ℕ → List NamedZone
zones_to t line = (office_after t (min (requests_to t line) (length t.commands))).zones
