-- Workers' desks, and what carrying out a script makes of them (this profile).
use Rattle.std.specs.Prelude.{ℕ, ◌≡◌, ◌<◌, ◌≤◌, ◌+◌, ◌⊎◌, List, [], ◌∷◌, ◌++◌, All, IfSome, ⊤, length, map, replicate, slice_index_or, slice_set, Option, None, Some, Result, Ok, Err}
use Rattle.std.specs.List.{AllZip, range_with_len}
use Rattle.zp_model.specs.declared.block.Block.{Block}
use Rattle.zp_model.specs.declared.constants.TheConstants.{TRACE_ZONES}
use Rattle.zp_model.specs.declared.counts.Counts.{Counts}
use Rattle.zp_model.specs.declared.refused.Refused.{Refused}
use Rattle.zp_model.specs.declared.refused.Refused.TheVariants.{NoBlock, NothingPosted, NotLent, JournalFull}
use Rattle.zp_model.specs.declared.request.Request.TheVariants as request
use Rattle.zp_model.specs.declared.request.Reply.{Reply as ZoneReply}
use Rattle.zp_model.specs.declared.request.Reply.TheVariants as zone_reply
use Rattle.zp_zone.specs.NamedZone.{NamedZone}
use Rattle.zp_share.specs.declared.commands.Lent.{Lent}
use Rattle.zp_share.specs.PlainShares.{PlainShare}
use Rattle.zp_share.specs.ZoneShares.{IsAllocRefusal, IsIsolateRefusal, IsReleaseRefusal}
use Rattle.zp_share.specs.Commands.{World, Done, done, told_as, section, done_answer, alloc_down, free_in, drain_all, counts_at}
use Rattle.zp_share.specs.Shares.{ShareState, ZoneKey, IsShareOf, IsSameShare, HasWorkerAt, plain, ties_of}
use Rattle.zp_office.specs.declared.command.Command.{Command}
use Rattle.zp_office.specs.declared.command.Command.TheVariants.{Alloc, Low, Free, Post, Collect, Drain, Isolate, Release, Info}
use Rattle.zp_office.specs.declared.reply.CommandReply.{CommandReply}
use Rattle.zp_office.specs.declared.reply.CommandReply.TheVariants as reply

-- the blocks that the slots keep
abbrev pub Slots : Type 0
Slots = List (Option Lent)

pub record DeskState : Type 0 where
  pub share : ShareState
  pub script : List Command
  pub slots : Slots
  -- to the commands carried out so far
  pub replies : List CommandReply

-- before the first command: no slot keeps a block
abbrev pub opening_desk : ShareState → List Command → DeskState
opening_desk share script = record { share = share; script = script; slots = replicate (length script) None; replies = [] }

-- the command that comes next
abbrev pub next_of : DeskState → Command
next_of d = slice_index_or d.script (length d.replies) Info

-- a command's slot is one of n
abbrev pub HasSlotBelow : ℕ → Command → Type 0
HasSlotBelow n (Alloc s k t i m) = s < n
HasSlotBelow n (Low s k i) = s < n
HasSlotBelow n (Free s) = s < n
HasSlotBelow n (Post s to) = s < n
HasSlotBelow n (Collect s i) = s < n
HasSlotBelow n c = ⊤

-- a slot's block is of one of n zones
abbrev pub IsInRow : ℕ → Option Lent → Type 0
IsInRow n kept = IfSome kept (λ l. l.zone < n)

-- each zone of the row has this worker
abbrev pub HaveWorker : List ZoneKey → ℕ → Type 0
HaveWorker keys w = (i : ℕ) → i < length keys → HasWorkerAt keys i w

-- the zone and the worker that a command names are there; a reply has room for the counts of as many zones as a trace declares
abbrev pub IsCommandFor : List ZoneKey → Command → Type 0
IsCommandFor keys (Alloc s k t i m) = i < length keys
IsCommandFor keys (Low s k i) = i < length keys
IsCommandFor keys (Post s to) = HaveWorker keys to
IsCommandFor keys (Collect s i) = i < length keys
IsCommandFor keys (Isolate i b) = i < length keys
IsCommandFor keys (Release i b t) = i < length keys
IsCommandFor keys Info = length keys ≤ TRACE_ZONES
IsCommandFor keys c = ⊤

abbrev pub IsScriptFor : List ZoneKey → List Command → Type 0
IsScriptFor keys script = All (IsCommandFor keys) script

-- what is answered, and what the slots then keep
pub record Answer : Type 0 where
  pub reply : CommandReply
  pub slots : Slots

abbrev pub answer_with : Slots → CommandReply → Answer
answer_with slots q = record { reply = q; slots = slots }

-- the slot keeps the block that was lent
abbrev pub keeping : Slots → ℕ → Lent → CommandReply → Answer
keeping slots s l q = answer_with (slice_set slots s (Some l)) q

abbrev pub lent_answer : Slots → ℕ → Result Lent Refused → Answer
lent_answer slots s (Ok l) = keeping slots s l (reply.Page l.page)
lent_answer slots s (Err r) = answer_with slots (reply.Refused r)

-- the block of zone i, as it is lent
abbrev pub lent_of : ℕ → Block → Lent
lent_of i b = record { zone = i; page = b.page; order = b.order }

-- zone i answers a low or a collect with a block, or refuses it; f b is what the worker is told of block b
abbrev pub block_answer : Slots → ℕ → ℕ → (Block → CommandReply) → ZoneReply → Answer
block_answer slots s i f (zone_reply.Block b) = keeping slots s (lent_of i b) (f b)
block_answer slots s i f (zone_reply.Refused r) = answer_with slots (reply.Refused r)
block_answer slots s i f q = answer_with slots (reply.Refused NoBlock)

-- done, which is told in these words, or refused
abbrev pub plain_answer : Slots → CommandReply → Result (Unit {0}) Refused → Answer
plain_answer slots q (Ok u) = answer_with slots q
plain_answer slots q (Err r) = answer_with slots (reply.Refused r)

abbrev pub drained_answer : Slots → Result ℕ Refused → Answer
drained_answer slots (Ok n) = answer_with slots (reply.Drained n)
drained_answer slots (Err r) = answer_with slots (reply.Refused r)

-- the block that a slot keeps is given back; 20 where it keeps none
abbrev pub free_kept : Slots → Option Lent → World → Done Answer
free_kept slots None w = done (answer_with slots (reply.Refused NotLent)) w
free_kept slots (Some l) w = told_as (plain_answer slots reply.Freed) (free_in w l.zone l.page l.order)

-- the block that a slot keeps is posted; 20 where it keeps none
abbrev pub post_kept : Slots → Option Lent → ℕ → World → Done Answer
post_kept slots None to w = done (answer_with slots (reply.Refused NotLent)) w
post_kept slots (Some l) to w =
    told_as (λ q. plain_answer slots reply.Posted (done_answer q)) (section w l.zone (request.Post l.page l.order to))

abbrev pub kept_at : Slots → ℕ → Option Lent
kept_at slots s = slice_index_or slots s None

-- the counts of each zone
abbrev pub counts_in : World → List Counts
counts_in w = map (counts_at w.zones) (range_with_len 0 (length w.share.zones))

-- what a command is answered and leaves, over zones that are known
abbrev pub carried_out : Slots → World → Command → Done Answer
carried_out slots w (Alloc s k t i m) = told_as (lent_answer slots s) (alloc_down k t m i w)
carried_out slots w (Low s k i) = told_as (block_answer slots s i (λ b. reply.Page b.page)) (section w i (request.AllocLow k))
carried_out slots w (Free s) = free_kept slots (kept_at slots s) w
carried_out slots w (Post s to) = post_kept slots (kept_at slots s) to w
carried_out slots w (Collect s i) = told_as (block_answer slots s i (λ b. reply.Block b)) (section w i request.Collect)
carried_out slots w Drain = told_as (drained_answer slots) (drain_all w)
carried_out slots w (Isolate i b) = told_as (λ q. plain_answer slots reply.Isolated (done_answer q)) (section w i (request.Isolate b))
carried_out slots w (Release i b t) = told_as (λ q. plain_answer slots reply.Released (done_answer q)) (section w i (request.Release b t))
carried_out slots w Info = done (answer_with slots (reply.Info (counts_in w))) w

-- a desk without what ties its share to the zones
pub record PlainDesk : Type 0 where
  pub share : PlainShare
  pub script : List Command
  pub slots : Slots
  pub replies : List CommandReply

abbrev pub plain_desk : DeskState → PlainDesk
plain_desk d = record { share = plain d.share; script = d.script; slots = d.slots; replies = d.replies }

-- a row of zones that are known, and one worker's desk
pub record DeskWorld : Type 0 where
  pub zones : List NamedZone
  pub desk : PlainDesk

abbrev pub desk_world : List NamedZone → DeskState → DeskWorld
desk_world zones d = record { zones = zones; desk = plain_desk d }

-- the command is carried out, and its reply noted
abbrev pub with_done : DeskWorld → Done Answer → DeskWorld
with_done w d =
    record {
      zones = d.world.zones;
      desk = record { share = d.world.share; script = w.desk.script; slots = d.answer.slots; replies = w.desk.replies ++ d.answer.reply ∷ [] };
    }

abbrev pub after_command : DeskWorld → Command → DeskWorld
after_command w c = with_done w (carried_out w.desk.slots (record { zones = w.zones; share = w.desk.share }) c)

-- the commands are carried out in turn
abbrev pub after_commands : DeskWorld → List Command → DeskWorld
after_commands w [] = w
after_commands w (c ∷ cs) = after_commands (after_command w c) cs

-- what these zones and this desk have become; the zones are told here
pub record IsDeskLeft (w : DeskWorld) (rows : Option (List NamedZone)) (d : DeskState) : Type 0 where
  pub zones : rows ≡ Some w.zones
  pub desk : plain_desk d ≡ w.desk

-- what each command may be answered, of a row of n zones
abbrev pub IsFreeAnswer : CommandReply → Type 0
IsFreeAnswer reply.Freed = ⊤
IsFreeAnswer (reply.Refused e) = (e ≡ NotLent) ⊎ (e ≡ JournalFull)
IsFreeAnswer q = ⊥

abbrev pub IsPostAnswer : CommandReply → Type 0
IsPostAnswer reply.Posted = ⊤
IsPostAnswer (reply.Refused e) = (e ≡ NotLent) ⊎ (e ≡ JournalFull)
IsPostAnswer q = ⊥

abbrev pub IsAllocAnswer : CommandReply → Type 0
IsAllocAnswer (reply.Page p) = ⊤
IsAllocAnswer (reply.Refused e) = IsAllocRefusal e
IsAllocAnswer q = ⊥

abbrev pub IsLowAnswer : CommandReply → Type 0
IsLowAnswer (reply.Page p) = ⊤
IsLowAnswer (reply.Refused e) = (e ≡ NoBlock) ⊎ (e ≡ JournalFull)
IsLowAnswer q = ⊥

abbrev pub IsCollectAnswer : CommandReply → Type 0
IsCollectAnswer (reply.Block b) = ⊤
IsCollectAnswer (reply.Refused e) = (e ≡ NothingPosted) ⊎ (e ≡ JournalFull)
IsCollectAnswer q = ⊥

abbrev pub IsDrainAnswer : CommandReply → Type 0
IsDrainAnswer (reply.Drained pages) = ⊤
IsDrainAnswer (reply.Refused e) = e ≡ JournalFull
IsDrainAnswer q = ⊥

abbrev pub IsIsolateAnswer : CommandReply → Type 0
IsIsolateAnswer reply.Isolated = ⊤
IsIsolateAnswer (reply.Refused e) = IsIsolateRefusal e
IsIsolateAnswer q = ⊥

abbrev pub IsReleaseAnswer : CommandReply → Type 0
IsReleaseAnswer reply.Released = ⊤
IsReleaseAnswer (reply.Refused e) = IsReleaseRefusal e
IsReleaseAnswer q = ⊥

abbrev pub IsInfoAnswer : ℕ → CommandReply → Type 0
IsInfoAnswer n (reply.Info counts) = length counts ≡ n
IsInfoAnswer n q = ⊥

abbrev pub IsAnswerTo : ℕ → Command → CommandReply → Type 0
IsAnswerTo n (Alloc s k t i m) = IsAllocAnswer
IsAnswerTo n (Low s k i) = IsLowAnswer
IsAnswerTo n (Free s) = IsFreeAnswer
IsAnswerTo n (Post s to) = IsPostAnswer
IsAnswerTo n (Collect s i) = IsCollectAnswer
IsAnswerTo n Drain = IsDrainAnswer
IsAnswerTo n (Isolate i b) = IsIsolateAnswer
IsAnswerTo n (Release i b t) = IsReleaseAnswer
IsAnswerTo n Info = IsInfoAnswer n

-- one reply more, which answers the next command; the script, and what ties the share to its zones, stay
pub record IsNextAnswered (d e : DeskState) : Type 0 where
  pub same : IsSameShare d.share e.share
  pub ties : ties_of e.share ≡ ties_of d.share
  pub script : e.script ≡ d.script
  pub answer : CommandReply
  pub answers : IsAnswerTo (length d.share.zones) (next_of d) answer
  pub replies : e.replies ≡ d.replies ++ answer ∷ []

-- the script was carried out whole: as many replies more as it has commands, each of which answers its command
pub record IsWorked (d e : DeskState) : Type 0 where
  pub same : IsSameShare d.share e.share
  pub ties : ties_of e.share ≡ ties_of d.share
  pub script : e.script ≡ d.script
  pub count : length e.replies ≡ length d.replies + length d.script
  pub answers : AllZip (IsAnswerTo (length d.share.zones)) d.script e.replies

-- the share is one of the row with these keys, the script names what is there, and no command was carried out
pub record IsReady (keys : List ZoneKey) (d : DeskState) : Type 0 where
  pub fits : IsShareOf keys d.share
  pub script : IsScriptFor keys d.script
  pub unworked : d.replies ≡ []
