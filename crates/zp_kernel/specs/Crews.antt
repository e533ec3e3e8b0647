-- What the commands of one worker make of a row of zones and the shares of all its workers (this profile).
use Rattle.std.specs.Prelude.{ℕ, ◌≡◌, ◌&&◌, Bool, [], length, slice_index_or, slice_set, Option, None, Result, Ok, Err, cond, ltb}
use Rattle.zp_model.specs.declared.block.Block.{Block}
use Rattle.zp_model.specs.declared.mark.Mark.TheVariants.{Min}
use Rattle.zp_model.specs.declared.migrate_type.MigrateType.{MigrateType}
use Rattle.zp_model.specs.declared.refused.Refused.{Refused}
use Rattle.zp_model.specs.declared.refused.Refused.TheVariants.{NoBlock}
use Rattle.zp_model.specs.declared.origin.Origin.{Origin}
use Rattle.zp_model.specs.declared.request.Request.TheVariants as request
use Rattle.zp_model.specs.declared.request.Reply.{Reply}
use Rattle.zp_model.specs.Choose.{origin}
use Rattle.zp_share.specs.declared.commands.Lent.{Lent}
use Rattle.zp_share.specs.PlainShares.{PlainShare, list_of, own_at}
use Rattle.zp_share.specs.Crews.{CrewState}
use Rattle.zp_share.specs.Commands.{World, Done, told_as, section, done_answer, alloc_down, free_in, is_listed, zone_at}

-- there are as many zones as before, and as many workers
pub record IsSameCrew (c d : CrewState) : Type 0 where
  pub zones : length d.zones ≡ length c.zones
  pub workers : length d.shares ≡ length c.shares

-- past the last worker there is no share
abbrev pub no_share : PlainShare
no_share = record { batch = 0; high_len = 0; zones = [] }

abbrev pub share_of : CrewState → ℕ → PlainShare
share_of c w = slice_index_or c.shares w no_share

-- the zones, and worker w's share
abbrev pub world_of : CrewState → ℕ → World
world_of c w = record { zones = c.zones; share = share_of c w }

-- what is answered, and what is left
pub record CrewDone (A : Type 0) : Type 0 where
  pub answer : A
  pub crew : CrewState

-- a command of worker w
abbrev pub by_worker : {A : Type 0} → ℕ → (World → Done A) → CrewState → CrewDone A
by_worker w command c =
    let d = command (world_of c w) in
    record { answer = d.answer; crew = record { zones = d.world.zones; shares = slice_set c.shares w d.world.share } }

-- goes on where it was not refused
abbrev pub and_then : {A B : Type 0} → CrewDone (Result A Refused) → (A → CrewState → CrewDone (Result B Refused)) → CrewDone (Result B Refused)
and_then d f = elim d.answer [ Ok a ↦ f a d.crew | Err e ↦ record { answer = Err e; crew = d.crew } ]

-- worker w asks for a block of order k for type t out of zone i or one below it, held to the least mark
abbrev pub asked_by : ℕ → ℕ → MigrateType → ℕ → CrewState → CrewDone (Result Lent Refused)
asked_by w k t i c = by_worker w (alloc_down k t Min i) c

-- whether a block of order k for type t out of zone i comes off the worker's list: where such blocks come from lists, and that one has a page
abbrev pub is_off_list : PlainShare → ℕ → ℕ → MigrateType → Bool
is_off_list s i k t = is_listed s k && ltb 0 (length (list_of (own_at s i) t))

-- where a block of order k for type t comes from that zone i gives to worker w: none where it comes off the worker's list. The first page of a
-- refill tells where the refill comes from
abbrev pub origin_of : ℕ → ℕ → MigrateType → CrewState → ℕ → Option Origin
origin_of w k t c i = cond (is_off_list (share_of c w) i k t) None (origin (zone_at c.zones i).plain.area k t)

-- worker w gives back a block of its own
abbrev pub freed_by : ℕ → Lent → CrewState → CrewDone (Result (Unit {0}) Refused)
freed_by w l c = by_worker w (λ v. free_in v l.zone l.page l.order) c

-- worker w frees n pages of zone i from page p on, by whatever blocks they are lent to it
abbrev pub run_freed_by : ℕ → ℕ → ℕ → ℕ → CrewState → CrewDone (Result (Unit {0}) Refused)
run_freed_by w i p n c = by_worker w (λ v. told_as done_answer (section v i (request.FreeRun p n))) c

-- worker w posts a block of its own to another
abbrev pub posted_by : ℕ → Lent → ℕ → CrewState → CrewDone (Result (Unit {0}) Refused)
posted_by w l to c = by_worker w (λ v. told_as done_answer (section v l.zone (request.Post l.page l.order to))) c

-- a zone answers a collect with a block, or refuses it
abbrev pub block_answer : Reply → Result Block Refused
block_answer (Reply.Block b) = Ok b
block_answer (Reply.Refused r) = Err r
block_answer q = Err NoBlock

-- worker w takes the block in front of those that were posted to it in zone i
abbrev pub collected_by : ℕ → ℕ → CrewState → CrewDone (Result Block Refused)
collected_by w i c = by_worker w (λ v. told_as block_answer (section v i request.Collect)) c

-- what was to be done is what was answered and left
pub record IsCrewDone {A : Type 0} (d : CrewDone A) (a : A) (c : CrewState) : Type 0 where
  pub answer : a ≡ d.answer
  pub crew : c ≡ d.crew
