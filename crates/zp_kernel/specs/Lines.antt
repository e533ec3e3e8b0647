-- What the lines of a text of page events are, counted (this profile).
use Rattle.std.specs.Prelude.{ℕ, zero, suc, ◌≡◌, ◌-◌, ◌⊎◌, ◌↔◌, Bool, true, false, List, [], ◌∷◌, IsTrue}
use Rattle.zp_events.specs.declared.event.Action.{Action}
use Rattle.zp_events.specs.declared.event.Action.TheVariants as action
use Rattle.zp_events.specs.declared.event.PageEvent.{PageEvent}
use Rattle.zp_events.specs.Lines.{BeginsAsEvent, HoldsEventName, IsBroken, IsEvent}
use Rattle.zp_events.specs.Words.{words_of}
use Rattle.zp_events.specs.BufferLines.{AreEntries, IsLost}
use Rattle.zp_kernel.specs.declared.line_counts.LineCounts.{LineCounts}
use Rattle.zp_kernel.specs.declared.line_counts.Remark.{Remark}
use Rattle.zp_kernel.specs.Counts.{one_more, with_more}

-- the line reports so many lost events; none, where it reports nothing
abbrev pub IsLostSaid : List ℕ → ℕ → Type 0
IsLostSaid line n = IsLost line n ⊎ (((m : ℕ) → IsLost line m → ⊥) × (n ≡ 0))

-- by the line a buffer did not keep so many of the events that were written to it; none, where it says nothing of one
abbrev pub IsUnkeptSaid : List ℕ → ℕ → Type 0
IsUnkeptSaid line n =
    ((kept : ℕ) × (written : ℕ) × AreEntries (words_of line) kept written × (n ≡ written - kept))
    ⊎ (((kept written : ℕ) → AreEntries (words_of line) kept written → ⊥) × (n ≡ 0))

-- what a line that is none of a page event tells of such events
pub record IsRemark (line : List ℕ) (r : Remark) : Type 0 where
  pub named : IsTrue r.is_named ↔ HoldsEventName line
  pub lost : IsLostSaid line r.lost
  pub unkept : IsUnkeptSaid line r.unkept

-- ---- counts

abbrev pub no_lines : LineCounts
no_lines =
    record {
      lines = 0;
      allocs = 0;
      refusals = 0;
      frees = 0;
      fallbacks = 0;
      broken = 0;
      others = 0;
      named = 0;
      first_named = 0;
      lost = 0;
      unkept = 0;
    }

-- how many are events
abbrev pub event_count : LineCounts → ℕ
event_count c = with_more (with_more (with_more c.allocs c.refusals) c.frees) c.fallbacks

-- an event
abbrev pub with_event : Action → LineCounts → LineCounts
with_event (action.Alloc x r) c = record c { lines = one_more c.lines; allocs = one_more c.allocs }
with_event (action.Refuse x r) c = record c { lines = one_more c.lines; refusals = one_more c.refusals }
with_event (action.Free x) c = record c { lines = one_more c.lines; frees = one_more c.frees }
with_event action.Fallback c = record c { lines = one_more c.lines; fallbacks = one_more c.fallbacks }

-- the first line that holds an event's name keeps its number
abbrev pub first_named : ℕ → LineCounts → ℕ
first_named zero c = c.lines
first_named (suc n) c = c.first_named

-- the line holds an event's name
abbrev pub with_named : LineCounts → LineCounts
with_named c = record c { named = one_more c.named; first_named = first_named c.named c }

abbrev pub with_name : Bool → LineCounts → LineCounts
with_name true c = with_named c
with_name false c = c

-- none of an event, which tells this of them
abbrev pub with_other : Remark → LineCounts → LineCounts
with_other r c =
    with_name r.is_named (record c { lines = one_more c.lines; others = one_more c.others; lost = with_more c.lost r.lost; unkept = with_more c.unkept r.unkept })

-- a broken one
abbrev pub with_broken : LineCounts → LineCounts
with_broken c = record c { lines = one_more c.lines; broken = one_more c.broken }

-- one line more: an event, none of one, or a broken one
abbrev pub IsCounted : LineCounts → List ℕ → LineCounts → Type 0
IsCounted c line d =
    ((event : PageEvent) × IsEvent line event × (d ≡ with_event event.action c))
    ⊎ (((BeginsAsEvent line → ⊥) × (r : Remark) × IsRemark line r × (d ≡ with_other r c)) ⊎ (IsBroken line × (d ≡ with_broken c)))

-- these lines more, one after another
unfoldable pub AreCounted : LineCounts → List (List ℕ) → LineCounts → Type 0
AreCounted c [] d = c ≡ d
AreCounted c (line ∷ lines) d = (e : LineCounts) × IsCounted c line e × AreCounted e lines d
