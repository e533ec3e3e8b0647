-- What a kernel's page events make of our zones, and of what is kept of them (this profile). The kernel's events are those of
-- include/trace/events/kmem.h.
use Rattle.std.specs.Prelude.{ℕ, ◌-◌, ◌%◌, ◌^◌, ◌==◌, Option, None, Some, Result, Ok, Err, cond, length, ltb}
use Rattle.std.specs.FinMap.{get}
use Rattle.zp_events.specs.declared.event.Action.{Action}
use Rattle.zp_events.specs.declared.event.Action.TheVariants as action
use Rattle.zp_events.specs.declared.event.FrameBlock.{FrameBlock}
use Rattle.zp_events.specs.declared.event.PageEvent.{PageEvent}
use Rattle.zp_events.specs.declared.event.PageRequest.{PageRequest}
use Rattle.zp_model.specs.declared.migrate_type.MigrateType.{MigrateType}
use Rattle.zp_model.specs.declared.refused.Refused.{Refused}
use Rattle.zp_share.specs.declared.commands.Lent.{Lent}
use Rattle.zp_kernel.specs.declared.kernel_state.KernelState.{KernelState}
use Rattle.zp_kernel.specs.declared.event_counts.Happening.TheVariants as happened
use Rattle.zp_kernel.specs.declared.held.Held.{Held}
use Rattle.zp_kernel.specs.declared.held.Holder.{Holder}
use Rattle.zp_kernel.specs.declared.setting.Setting.{Setting}
use Rattle.zp_kernel.specs.KernelStates.{given_back, given_up, holding, holding_none, noting, part_freed}
use Rattle.zp_kernel.specs.Counts.{noted, origin_noted, pages_out}
use Rattle.zp_share.specs.Crews.{CrewState}
use Rattle.zp_kernel.specs.Crews.{asked_by, origin_of}
use Rattle.zp_kernel.specs.Frames.{holder_around}
use Rattle.zp_kernel.specs.Settings.{kind_of, top_of}

pub record PlainKernel : Type 0 where
  pub setting : Setting
  pub state : KernelState

-- the worker of a CPU: CPUs above the last worker share one with another
abbrev pub worker_of : KernelState → ℕ → ℕ
worker_of b cpu = cpu % length b.crew.shares

-- ---- a block is handed out

-- where the frame holds a block still, as its free was not seen, that goes back first
abbrev pub still_held : ℕ → Option Held → KernelState → KernelState
still_held w None b = b
still_held w (Some h) b = given_back w h (noting happened.Again b)

abbrev pub cleared : ℕ → ℕ → KernelState → KernelState
cleared w f b = still_held w (get b.frames f) (holding_none f b)

-- what worker w's request for the kernel's block of order k at frame f, of type t, was answered is noted, with what it left of zones and shares.
-- Where a block came from is told of its zone as that was before, and those that refused the request were left so
abbrev pub answered : ℕ → ℕ → ℕ → MigrateType → CrewState → Result Lent Refused → KernelState → KernelState
answered w f k t crew (Ok l) b =
    let from = origin_of w k t b.crew l.zone in
    holding f (record { lent = l; worker = w }) (record b { crew = crew; counts = pages_out (2 ^ k) (noted happened.Given (origin_noted from t b.counts)) })
answered w f k t crew (Err r) b = record b { crew = crew; counts = noted (happened.Refused r) b.counts }

-- worker w asks for it, of type t, out of zone i or one below it
abbrev pub asked : ℕ → FrameBlock → MigrateType → ℕ → KernelState → KernelState
asked w x t i b = let d = asked_by w x.order t i b.crew in answered w x.frame x.order t d.crew d.answer b

-- nothing is asked for a type that our zones do not have
abbrev pub asked_for : Option MigrateType → ℕ → FrameBlock → ℕ → KernelState → KernelState
asked_for None w x i b = noting happened.OtherType b
asked_for (Some t) w x i b = asked w x t i (cleared w x.frame b)

-- nor for a block that is larger than theirs
abbrev pub handed_out : Setting → ℕ → FrameBlock → PageRequest → KernelState → KernelState
handed_out s w x r b = cond (ltb s.largest x.order) (noting happened.TooLarge b) (asked_for (kind_of r.migrate_type) w x (top_of s.limits r.zone_limit) b)

-- ---- a block is freed

-- at a frame that holds a block: a part of it where that is larger, as the kernel splits blocks (split_page), else the whole
abbrev pub freed_held : ℕ → FrameBlock → Held → KernelState → KernelState
freed_held w x h b =
    cond (ltb x.order h.lent.order) (part_freed w 0 x.order x.frame h b)
    (given_up w x.frame h (noting (cond (x.order == h.lent.order) happened.Freed happened.Larger) b))

-- at a frame that holds none: a part of the block around it, or unknown, as it was handed out before the first event or refused here
abbrev pub freed_inside : ℕ → FrameBlock → Option Holder → KernelState → KernelState
freed_inside w x None b = noting happened.Unknown b
freed_inside w x (Some r) b = part_freed w (x.frame - r.frame) x.order r.frame r.held b

abbrev pub freed_at : ℕ → FrameBlock → Option Held → KernelState → KernelState
freed_at w x None b = freed_inside w x (holder_around b.frames x.frame) b
freed_at w x (Some h) b = freed_held w x h b

abbrev pub freed : ℕ → FrameBlock → KernelState → KernelState
freed w x b = freed_at w x (get b.frames x.frame) b

-- ---- an event

abbrev pub after_action : Setting → ℕ → Action → KernelState → KernelState
after_action s w (action.Alloc x r) b = handed_out s w x r b
after_action s w (action.Refuse x r) b = noting happened.KernelRefused b
after_action s w (action.Free x) b = freed w x b
after_action s w action.Fallback b = noting happened.Fallback b

abbrev pub after_event : Setting → KernelState → PageEvent → KernelState
after_event s b e = after_action s (worker_of b e.cpu) e.action b
