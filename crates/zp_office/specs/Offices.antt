-- A row of zones with the desks of all its workers, and what carrying out their commands makes of it (this profile).
use Rattle.std.specs.Prelude.{ℕ, ◌≡◌, ◌≤◌, ◌<◌, ◌+◌, ◌==◌, List, [], ◌∷◌, All, None, length, map, replicate, slice_index_or, slice_set}
use Rattle.std.specs.List.{count_by, range_with_len}
use Rattle.zp_model.specs.declared.constants.TheConstants.{TRACE_ZONES}
use Rattle.zp_model.specs.Zone.{workers_of}
use Rattle.zp_trace.specs.declared.line.CommandLine.{CommandLine}
use Rattle.zp_trace.specs.declared.trace.Trace.{Trace}
use Rattle.zp_zone.specs.NamedZone.{NamedZone}
use Rattle.zp_zone.specs.Seats.{ZoneState}
use Rattle.zp_share.specs.Crews.{CrewState}
use Rattle.zp_share.specs.Shares.{ShareState, IsShareOf, key_of, named_zone}
use Rattle.zp_office.specs.declared.command.Command.{Command}
use Rattle.zp_office.specs.declared.command.Command.TheVariants.{Info}
use Rattle.zp_office.specs.Desks.{DeskState, DeskWorld, PlainDesk, IsScriptFor, after_command, opening_desk, plain_desk}
use Rattle.zp_office.specs.Scripts.{script_of}
use Rattle.zp_office.specs.Opening.{opened_crew, opening_share}

pub record OfficeState : Type 0 where
  -- the zones, the lowest first, and the desk of each worker in order
  pub zones : List NamedZone
  pub desks : List PlainDesk

-- what contracts see of zones and desks
abbrev pub office_of : List ZoneState → List DeskState → OfficeState
office_of zones desks = record { zones = map named_zone zones; desks = map plain_desk desks }

-- past the last worker there is no desk
abbrev pub no_desk : PlainDesk
no_desk = record { share = record { batch = 0; high_len = 0; zones = [] }; script = []; slots = []; replies = [] }

abbrev pub desk_of : OfficeState → ℕ → PlainDesk
desk_of o w = slice_index_or o.desks w no_desk

-- the zones, and worker w's desk
abbrev pub desk_world_of : OfficeState → ℕ → DeskWorld
desk_world_of o w = record { zones = o.zones; desk = desk_of o w }

abbrev pub with_desk_world : ℕ → DeskWorld → OfficeState → OfficeState
with_desk_world w d o = record { zones = d.zones; desks = slice_set o.desks w d.desk }

-- the command of a desk that comes next
abbrev pub next_at : PlainDesk → Command
next_at d = slice_index_or d.script (length d.replies) Info

-- worker w carries out the command that comes next
abbrev pub next_done : ℕ → OfficeState → OfficeState
next_done w o = with_desk_world w (after_command (desk_world_of o w) (next_at (desk_of o w))) o

-- these workers in turn
abbrev pub in_order : OfficeState → List ℕ → OfficeState
in_order o [] = o
in_order o (w ∷ ws) = in_order (next_done w o) ws

-- the workers of a trace's commands, in order
abbrev pub workers_in : List CommandLine → List ℕ
workers_in cs = map (λ (c : CommandLine). c.worker) cs

-- how often worker w has its turn
abbrev pub turns : ℕ → List ℕ → ℕ
turns w ws = count_by (λ v. v == w) ws

-- at each turn its worker has a command left
pub record HaveCommands (o : OfficeState) (ws : List ℕ) : Type 0 where
  pub workers : All (λ w. w < length o.desks) ws
  pub left : (w : ℕ) → w < length o.desks → length (desk_of o w).replies + turns w ws ≤ length (desk_of o w).script

-- each desk's share is one of the zones, and its script names what is there; the desks are those of the zones' workers, in order
pub record AreDesksOf (zones : List ZoneState) (desks : List DeskState) : Type 0 where
  pub few : length zones ≤ TRACE_ZONES
  pub fit : All (λ (d : DeskState). IsShareOf (map key_of zones) d.share) desks
  pub scripts : All (λ (d : DeskState). IsScriptFor (map key_of zones) d.script) desks
  pub workers : map (λ (d : DeskState). d.share.worker) desks ≡ range_with_len 0 (length desks)
  pub crew : All (λ (z : ZoneState). workers_of z.plain ≡ length desks) zones

-- the shares of the desks
abbrev pub crew_in : OfficeState → CrewState
crew_in o = record { zones = o.zones; shares = map (λ (d : PlainDesk). d.share) o.desks }

-- the desk of a share, before the first command of a trace
abbrev pub desk_for : Trace → ShareState → DeskState
desk_for t s = opening_desk s (script_of t s.worker)

-- worker w's desk before the first command of a trace
abbrev pub opened_desk : Trace → ℕ → PlainDesk
opened_desk t w =
    let script = script_of t w in
    record { share = opening_share t.header w; script = script; slots = replicate (length script) None; replies = [] }

-- the zones that a trace declares, and the desks of its workers
abbrev pub opened_office : Trace → OfficeState
opened_office t = record { zones = (opened_crew t.header).zones; desks = map (opened_desk t) (range_with_len 0 t.header.workers) }
