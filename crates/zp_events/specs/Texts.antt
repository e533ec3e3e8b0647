-- The lines of a text, and who is told what they say.
use Rattle.std.specs.Prelude.{ℕ, ◌≡◌, ◌==◌, ◌+◌, ◌-◌, ◌^◌, ◌++◌, ◌⊎◌, List, [], ◌∷◌, length, if◌then◌else◌, Result, MatchResult, IsOk, IsErr}
use Rattle.std.specs.Io.KnownBytes.{Consumes, IsAtEnd}
use Rattle.zp_events.specs.declared.event.PageEvent.{PageEvent}
use Rattle.zp_events.specs.declared.text.AtBroken.{AtBroken}
use Rattle.zp_events.specs.declared.text.AtBroken.TheVariants as at_broken
use Rattle.zp_events.specs.declared.text.Untaken.{Untaken}
use Rattle.zp_events.specs.declared.text.Untaken.TheVariants as untaken
use Rattle.zp_events.specs.declared.text.TextFault.{TextFault}
use Rattle.zp_events.specs.declared.text.TextFault.TheVariants as fault
use Rattle.zp_events.specs.Lines.{IsEvent, BeginsAsEvent, IsBroken}
use Rattle.zp_events.specs.Reading.{HasNoLineFeed, line_feed, Spot, ArePassed, IsNextLine, IsTooLong}

-- a byte at the front of the first line
abbrev pub with_front : ℕ → List (List ℕ) → List (List ℕ)
with_front b [] = (b ∷ []) ∷ []
with_front b (line ∷ lines) = (b ∷ line) ∷ lines

-- the lines of a text, in order: a line feed ends a line and is none of it, and the last line may lack it
unfoldable pub lines_of : List ℕ → List (List ℕ)
lines_of [] = []
lines_of (b ∷ text) = if b == line_feed then [] ∷ lines_of text else with_front b (lines_of text)

-- the sink failed exactly where its line was not taken
abbrev pub IsToldBy : {E : Type 0} → Result (Unit {0}) E → Result (Unit {0}) Untaken → Type 0
IsToldBy answer result = MatchResult result (λ _. IsOk answer) (λ e. (e ≡ untaken.Broken → ⊥) × IsErr answer)

module _ {S : Type 0} (carries : S → PageEvent → S → Type 0) (passes : S → List ℕ → S → Type 0) (drops : S → S → Type 0) (mode : AtBroken) where
  -- of a line with an event the event is carried out; one that begins as no event's is passed on; a broken one is dropped, where that is asked for
  abbrev pub IsTaken : S → List ℕ → S → Type 0
  IsTaken s line t =
      ((event : PageEvent) × IsEvent line event × carries s event t)
      ⊎ (((BeginsAsEvent line → ⊥) × passes s line t) ⊎ ((mode ≡ at_broken.KeepGoing) × IsBroken line × drops s t))

  -- why a line was not taken: it is broken, and nothing was told of it, or the sink failed
  abbrev pub IsUntaken : (S → S → Type 0) → S → List ℕ → Untaken → S → Type 0
  IsUntaken fails s line untaken.Broken t = (mode ≡ at_broken.End) × IsBroken line × (t ≡ s)
  IsUntaken fails s line (untaken.Sink error) t = fails s t

  -- each of these lines was taken, one after another
  unfoldable pub AreTaken : S → List (List ℕ) → S → Type 0
  AreTaken s [] t = s ≡ t
  AreTaken s (line ∷ lines) t = (u : S) × IsTaken s line u × AreTaken u lines t

  -- these lines were passed, and each was taken
  pub record AreTakenTo (s : S) (from : Spot) (lines : List (List ℕ)) (to : Spot) (t : S) : Type 0 where
    pub passed : ArePassed from lines to
    pub taken : AreTaken s lines t

  -- what was kept, and then all that the reader had, are a text of n lines, and each was taken
  pub record AreAllTaken (s : S) (from to : Spot) (n : ℕ) (t : S) : Type 0 where
    pub read : List ℕ
    pub front : Consumes from.left to.left read
    pub end : IsAtEnd to.left
    pub none : to.kept ≡ []
    pub count : n ≡ length (lines_of (from.kept ++ read))
    pub number : to.passed ≡ from.passed + n
    pub taken : AreTaken s (lines_of (from.kept ++ read)) t

  -- the next line was taken
  pub record IsNextTaken (s : S) (from to : Spot) (t : S) : Type 0 where
    pub line : List ℕ
    pub taken : AreTakenTo s from (line ∷ []) to t

  -- the last line was taken, or none was left
  pub record AreLastTaken (s : S) (from to : Spot) (t : S) : Type 0 where
    pub count : ℕ
    pub taken : AreAllTaken s from to count t

  -- line n is broken; those before it were taken
  pub record IsStoppedAtBroken (s : S) (from to : Spot) (n : ℕ) (t : S) : Type 0 where
    pub before : List (List ℕ)
    pub taken : AreTakenTo s from before to t
    pub line : List ℕ
    pub next : IsNextLine to line
    pub broken : IsBroken line
    pub number : n ≡ to.passed + 1
    pub asked : mode ≡ at_broken.End

  -- line n is too long; those before it were taken
  pub record IsStoppedAtTooLong (s : S) (from to : Spot) (n : ℕ) (t : S) : Type 0 where
    pub before : List (List ℕ)
    pub taken : AreTakenTo s from before to t
    pub too_long : IsTooLong to.kept
    pub number : n ≡ to.passed + 1

  -- the reader failed; all whole lines that it had given were taken
  pub record IsStoppedInReading (s : S) (from to : Spot) (t : S) : Type 0 where
    pub before : List (List ℕ)
    pub taken : AreTakenTo s from before to t
    pub no_more : HasNoLineFeed to.kept

  -- the sink failed at a line; those before it were taken
  pub record IsStoppedBySink (fails : S → S → Type 0) (s : S) (from to : Spot) (t : S) : Type 0 where
    pub before : List (List ℕ)
    pub until : S
    pub taken : AreTakenTo s from before to until
    pub line : List ℕ
    pub next : IsNextLine to line
    pub failed : fails until t

  -- as many lines were taken as are counted
  pub record IsStoppedByCount (s : S) (from to : Spot) (t : S) : Type 0 where
    pub before : List (List ℕ)
    pub taken : AreTakenTo s from before to t
    pub last : to.passed ≡ 2 ^ 64 - 1

  -- what was taken before a fault
  abbrev pub IsStoppedBy : (S → S → Type 0) → S → Spot → Spot → TextFault → S → Type 0
  IsStoppedBy fails s from to (fault.Broken n) t = IsStoppedAtBroken s from to n t
  IsStoppedBy fails s from to (fault.TooLong n) t = IsStoppedAtTooLong s from to n t
  IsStoppedBy fails s from to fault.TooMany t = IsStoppedByCount s from to t
  IsStoppedBy fails s from to fault.Read t = IsStoppedInReading s from to t
  IsStoppedBy fails s from to (fault.Sink error) t = IsStoppedBySink fails s from to t
