-- What a text of page events makes of our zones (this profile).
use Rattle.std.specs.Prelude.{ℕ, ◌≡◌, ◌+◌, ◌-◌, ◌^◌, ◌++◌, ◌⊎◌, List, [], ◌∷◌, length, Option, None, Some}
use Rattle.std.specs.Io.KnownBytes.{Consumes, IsAtEnd}
use Rattle.zp_events.specs.declared.event.PageEvent.{PageEvent}
use Rattle.zp_events.specs.declared.text.AtBroken.{AtBroken}
use Rattle.zp_events.specs.declared.text.AtBroken.TheVariants as at_broken
use Rattle.zp_events.specs.declared.text.TextFault.{TextFault}
use Rattle.zp_events.specs.declared.text.TextFault.TheVariants as fault
use Rattle.zp_events.specs.Lines.{BeginsAsEvent, IsBroken, IsEvent}
use Rattle.zp_events.specs.Reading.{ArePassed, HasNoLineFeed, IsNextLine, IsTooLong, Spot}
use Rattle.zp_events.specs.Texts.{lines_of}
use Rattle.zp_kernel.specs.declared.kernel_state.KernelState.{KernelState}
use Rattle.zp_kernel.specs.declared.line_counts.LineCounts.{LineCounts}
use Rattle.zp_kernel.specs.declared.setting.Setting.{Setting}
use Rattle.zp_kernel.specs.Events.{PlainKernel, after_event}
use Rattle.zp_kernel.specs.Lines.{AreCounted}

-- who looks on, the zones with what events made of them, once they are opened, and what was counted of the lines
pub record RunState (O : Type 0) : Type 0 where
  pub onlooker : O
  pub kernel : Option PlainKernel
  pub lines : LineCounts

-- the events are carried out, one after another
unfoldable pub after_events : Setting → KernelState → List PageEvent → KernelState
after_events s b [] = b
after_events s b (event ∷ events) = after_events s (after_event s b event) events

module _ (mode : AtBroken) where
  -- these are the events of the lines, in order; other lines are passed over, and broken ones too where that is asked for; else none is broken
  unfoldable pub AreEventsOf : List (List ℕ) → List PageEvent → Type 0
  AreEventsOf [] events = events ≡ []
  AreEventsOf (line ∷ lines) events =
      ((event : PageEvent) × (more : List PageEvent) × IsEvent line event × (events ≡ event ∷ more) × AreEventsOf lines more)
      ⊎ (((BeginsAsEvent line → ⊥) × AreEventsOf lines events) ⊎ ((mode ≡ at_broken.KeepGoing) × IsBroken line × AreEventsOf lines events))

  -- the events of these lines are carried out, and nothing else is done
  pub record IsRunOf (lines : List (List ℕ)) (before after : PlainKernel) : Type 0 where
    pub events : List PageEvent
    pub are : AreEventsOf lines events
    pub run : after ≡ record before { state = after_events before.setting before.state events }

  -- who looks on hears the lines that are none of an event, and opens zones by what it heard
  module _ {O : Type 0} (hears : O → List ℕ → O → Type 0) (opens : O → PlainKernel → Type 0) where
    -- no line is an event: each is heard, but the broken ones
    unfoldable pub AreHeard : O → List (List ℕ) → O → Type 0
    AreHeard o [] p = o ≡ p
    AreHeard o (line ∷ lines) p =
        ((q : O) × (BeginsAsEvent line → ⊥) × hears o line q × AreHeard q lines p) ⊎ ((mode ≡ at_broken.KeepGoing) × IsBroken line × AreHeard o lines p)

    -- zones are opened at the first event, by what the lines before it told; its event and those behind it are carried out over them
    pub record IsRunFromFirst (o : O) (lines : List (List ℕ)) (after : PlainKernel) : Type 0 where
      pub head : List (List ℕ)
      pub first : List ℕ
      pub rest : List (List ℕ)
      pub are : lines ≡ head ++ first ∷ rest
      pub event : PageEvent
      pub is : IsEvent first event
      pub heard : O
      pub head_is : AreHeard o head heard
      pub opened : PlainKernel
      pub opened_is : opens heard opened
      pub run : IsRunOf (first ∷ rest) opened after

    -- what the lines make of the zones, which are not opened, or are
    abbrev pub IsCarriedOut : O → List (List ℕ) → Option PlainKernel → Option PlainKernel → Type 0
    IsCarriedOut o lines None None = (heard : O) × AreHeard o lines heard
    IsCarriedOut o lines None (Some l) = IsRunFromFirst o lines l
    IsCarriedOut o lines (Some k) None = ⊥
    IsCarriedOut o lines (Some k) (Some l) = IsRunOf lines k l

    -- the run of these lines: their events are carried out, and they are counted
    pub record IsRun (lines : List (List ℕ)) (before after : RunState O) : Type 0 where
      pub carried : IsCarriedOut before.onlooker lines before.kernel after.kernel
      pub counted : AreCounted before.lines lines after.lines

    -- what was kept, and then all that the reader had, are a text of n lines, whose run it is
    pub record IsRunOver (from to : Spot) (n : ℕ) (before after : RunState O) : Type 0 where
      pub read : List ℕ
      pub front : Consumes from.left to.left read
      pub end : IsAtEnd to.left
      pub count : n ≡ length (lines_of (from.kept ++ read))
      pub run : IsRun (lines_of (from.kept ++ read)) before after

    -- these lines were passed, whose run it is
    pub record IsRunTo (from : Spot) (lines : List (List ℕ)) (to : Spot) (before after : RunState O) : Type 0 where
      pub passed : ArePassed from lines to
      pub run : IsRun lines before after

    -- line n is broken, and the run is that of those before it
    pub record IsRunToBroken (from to : Spot) (n : ℕ) (before after : RunState O) : Type 0 where
      pub lines : List (List ℕ)
      pub run : IsRunTo from lines to before after
      pub line : List ℕ
      pub next : IsNextLine to line
      pub broken : IsBroken line
      pub number : n ≡ to.passed + 1
      pub asked : mode ≡ at_broken.End

    -- line n is too long, and the run is that of those before it
    pub record IsRunToTooLong (from to : Spot) (n : ℕ) (before after : RunState O) : Type 0 where
      pub lines : List (List ℕ)
      pub run : IsRunTo from lines to before after
      pub too_long : IsTooLong to.kept
      pub number : n ≡ to.passed + 1

    -- the reader failed, and the run is that of all whole lines that it had given
    pub record IsRunToFailure (from to : Spot) (before after : RunState O) : Type 0 where
      pub lines : List (List ℕ)
      pub run : IsRunTo from lines to before after
      pub no_more : HasNoLineFeed to.kept

    -- as many lines were read as are counted, and the run is theirs
    pub record IsRunToCount (from to : Spot) (before after : RunState O) : Type 0 where
      pub lines : List (List ℕ)
      pub run : IsRunTo from lines to before after
      pub last : to.passed ≡ 2 ^ 64 - 1

    -- who looks on failed at a line, or there was no memory for it, and until then the run was that of those before it
    pub record IsRunToLine (from to : Spot) (before : RunState O) : Type 0 where
      pub lines : List (List ℕ)
      pub until : RunState O
      pub run : IsRunTo from lines to before until
      pub line : List ℕ
      pub next : IsNextLine to line

    -- what was carried out before a fault
    abbrev pub IsRunUntil : Spot → Spot → TextFault → RunState O → RunState O → Type 0
    IsRunUntil from to (fault.Broken n) before after = IsRunToBroken from to n before after
    IsRunUntil from to (fault.TooLong n) before after = IsRunToTooLong from to n before after
    IsRunUntil from to fault.TooMany before after = IsRunToCount from to before after
    IsRunUntil from to fault.Read before after = IsRunToFailure from to before after
    IsRunUntil from to (fault.Sink error) before after = IsRunToLine from to before
