-- A plain zone: what is free, what is out and what is posted.
use Rattle.std.specs.Prelude.{ℕ, ◌^◌, ◌==◌, ◌&&◌, Bool, false, List, [], length, replicate, slice_index_or, slice_set, Option, None, Some}
use Rattle.std.specs.List.{sum_by}
use Rattle.zp_model.specs.declared.migrate_type.MigrateType.{MigrateType}
use Rattle.zp_model.specs.Area.{Area, opening}

-- a block out: its order, the type noted for it, and whose it is
pub record Holding : Type 0 where
  pub order : ℕ
  pub kind : MigrateType
  pub worker : ℕ

-- a posted block
pub record PostedBlock : Type 0 where
  pub head : ℕ
  pub order : ℕ
  pub kind : MigrateType

pub record PlainZone : Type 0 where
  pub area : Area
  -- at each page, the block out that starts there
  pub out : List (Option Holding)
  -- for each worker the blocks posted to it, the front first
  pub posted : List (List PostedBlock)
  -- the absolute number of the zone's first page
  pub base : ℕ
  -- the least mark
  pub min : ℕ

-- all pages free, nothing out and nothing posted, where the largest block has order m
abbrev pub zone_opening : ℕ → ℕ → ℕ → ℕ → ℕ → PlainZone
zone_opening m base pages min workers =
    record { area = opening m pages; out = replicate pages None; posted = replicate workers []; base = base; min = min }

abbrev pub pages_of : PlainZone → ℕ
pages_of z = length z.area.free

abbrev pub workers_of : PlainZone → ℕ
workers_of z = length z.posted

abbrev pub held_pages : Option Holding → ℕ
held_pages None = 0
held_pages (Some x) = 2 ^ x.order

-- the pages of the blocks out
unfoldable pub out_pages : PlainZone → ℕ
out_pages z = sum_by held_pages z.out

-- the pages of the posted blocks
unfoldable pub posted_pages : PlainZone → ℕ
posted_pages z = sum_by (λ (ps : List PostedBlock). sum_by (λ (p : PostedBlock). 2 ^ p.order) ps) z.posted

abbrev pub holding_at : List (Option Holding) → ℕ → Option Holding
holding_at out h = slice_index_or out h None

abbrev pub posted_to : PlainZone → ℕ → List PostedBlock
posted_to z w = slice_index_or z.posted w []

-- whether a holding is worker w's, with order k
abbrev pub is_of : ℕ → ℕ → Option Holding → Bool
is_of w k None = false
is_of w k (Some x) = (x.order == k) && (x.worker == w)

-- whether worker w holds the block (h, k): it is out in the worker's name
abbrev pub holds : PlainZone → ℕ → ℕ → ℕ → Bool
holds z w h k = is_of w k (holding_at z.out h)

-- the block (h, k) is out in w's name, with its type
abbrev pub hand_out : PlainZone → ℕ → ℕ → ℕ → MigrateType → PlainZone
hand_out z w h k t = record z { out = slice_set z.out h (Some (record { order = k; kind = t; worker = w })) }

-- the block at h is out no more
abbrev pub take_back : PlainZone → ℕ → PlainZone
take_back z h = record z { out = slice_set z.out h None }
