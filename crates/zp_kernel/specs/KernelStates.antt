-- What is kept of a kernel's page events, and how a block goes back (this profile).
use Rattle.std.specs.Prelude.{ℕ, ◌^◌, ◌==◌, Bool, true, false, Result, Ok, Err, cond, min}
use Rattle.std.specs.FinMap.{insert, remove}
use Rattle.zp_model.specs.declared.block.Block.{Block}
use Rattle.zp_model.specs.declared.refused.Refused.{Refused}
use Rattle.zp_share.specs.declared.commands.Lent.{Lent}
use Rattle.zp_kernel.specs.declared.kernel_state.KernelState.{KernelState}
use Rattle.zp_kernel.specs.declared.event_counts.EventCounts.{EventCounts}
use Rattle.zp_kernel.specs.declared.event_counts.Happening.{Happening}
use Rattle.zp_kernel.specs.declared.event_counts.Happening.TheVariants as happened
use Rattle.zp_kernel.specs.declared.held.Held.{Held}
use Rattle.zp_kernel.specs.Counts.{noted, pages_back}
use Rattle.zp_share.specs.Crews.{CrewState}
use Rattle.zp_kernel.specs.Crews.{CrewDone, and_then, collected_by, freed_by, posted_by, run_freed_by}
use Rattle.zp_kernel.specs.Frames.{can_split, page_behind, pages_behind, split}

abbrev pub noting : Happening → KernelState → KernelState
noting x b = record b { counts = noted x b.counts }

-- frame f holds this block, or none
abbrev pub holding : ℕ → Held → KernelState → KernelState
holding f h b = record b { frames = insert b.frames f h }

abbrev pub holding_none : ℕ → KernelState → KernelState
holding_none f b = record b { frames = remove b.frames f }

-- the block of zone i, as it is lent
abbrev pub lent_of : ℕ → Block → Lent
lent_of i x = record { zone = i; page = x.page; order = x.order }

-- worker v's block comes to worker w: v posts it to w, and w takes the first of those posted to it, and gives that back
abbrev pub passed_back : ℕ → Lent → ℕ → CrewState → CrewDone (Result (Unit {0}) Refused)
passed_back v l w c = and_then (posted_by v l w c) (λ _ d. and_then (collected_by w l.zone d) (λ x e. freed_by w (lent_of l.zone x) e))

-- worker w gives back a block: its own, or another's
abbrev pub back_by : ℕ → Held → CrewState → CrewDone (Result (Unit {0}) Refused)
back_by w h c = cond (h.worker == w) (freed_by w h.lent c) (passed_back h.worker h.lent w c)

-- what is counted of a block that goes back
abbrev pub refusal_noted : Result (Unit {0}) Refused → EventCounts → EventCounts
refusal_noted (Ok u) c = c
refusal_noted (Err r) c = noted (happened.Refused r) c

abbrev pub passing_noted : Bool → EventCounts → EventCounts
passing_noted true c = c
passing_noted false c = noted happened.Passed c

-- worker w gives back a block that no frame holds any more: a refusal on the way is counted, and the rest is left out
abbrev pub given_back : ℕ → Held → KernelState → KernelState
given_back w h b =
    let d = back_by w h b.crew in
    record b { crew = d.crew; counts = refusal_noted d.answer (passing_noted (h.worker == w) (pages_back (2 ^ h.lent.order) b.counts)) }

-- frame f gives up its block
abbrev pub given_up : ℕ → ℕ → Held → KernelState → KernelState
given_up w f h b = given_back w h (holding_none f b)

-- n pages of the block h are freed, from its page i on, by the worker that has it
abbrev pub run_given_back : ℕ → ℕ → Held → KernelState → KernelState
run_given_back i n h b =
    let d = run_freed_by h.worker h.lent.zone (page_behind h.lent.page i) n b.crew in
    record b { crew = d.crew; counts = refusal_noted d.answer (pages_back n b.counts) }

-- frame f gives up its block, of which these pages are freed, and frames hold what is left of it. Where one of them holds a block already, the
-- kernel handed out anew what it had freed unseen, and the whole block goes back
abbrev pub split_up : ℕ → ℕ → ℕ → ℕ → Held → KernelState → KernelState
split_up w f i n h b =
    let fs = remove b.frames f in
    cond (can_split fs f h i n) (run_given_back i n h (record b { frames = split fs f h i n })) (given_up w f h b)

-- so many pages as a block of order k has, but no more than the block h has behind its first i
abbrev pub part_pages : Held → ℕ → ℕ → ℕ
part_pages h i k = min (2 ^ k) (pages_behind h i)

-- of the block that frame f holds the pages of a block of order k are freed, from its page i on
abbrev pub part_freed : ℕ → ℕ → ℕ → ℕ → Held → KernelState → KernelState
part_freed w i k f h b = split_up w f i (part_pages h i k) h (noting happened.Part b)
