-- What a line of page events is. ftrace and perf write such lines; that of trace-cmd is not from a text that it wrote:
--     ftrace           sh-97      [001] d..3.     2.911084: mm_page_free: page=(____ptrval____) pfn=0x46f6 order=0
--     trace-cmd        sh-97    [001]     2.911084: mm_page_free:         page=0xffffea000011bd80 pfn=18166 order=0
--     perf script      sh    97 [001]     2.911084:  kmem:mm_page_free: page=0xffffea000011bd80 pfn=0x46f6 order=0
-- Before the CPU's mark stands the task, whose name may be any text, also one with marks and colons. Between the mark and the next colon stand
-- flags and a time. perf puts the names of events flush right, so one space or more stand behind that colon.
use Rattle.std.specs.Prelude.{ℕ, ◌≡◌, ◌≢◌, ◌<◌, ◌++◌, ◌∷◌, ◌⊎◌, List, [], drop, length, codes}
use Rattle.std.specs.List.{AllByRecursion}
use Rattle.zp_events.specs.declared.event.EventName.{EventName}
use Rattle.zp_events.specs.declared.event.EventName.TheVariants.{Alloc, Free, Fallback}
use Rattle.zp_events.specs.declared.event.PageEvent.{PageEvent}
use Rattle.zp_events.specs.Numbers.{IsSmall}
use Rattle.zp_events.specs.Words.{space, words_of}
use Rattle.zp_events.specs.Fields.{IsAction}

abbrev pub colon : ℕ
colon = 58

-- the text begins with the mark of a CPU, ` [`, its number and `] `, and this stands behind the mark
pub record IsMark (text : List ℕ) (cpu : ℕ) (rest : List ℕ) : Type 0 where
  pub number : List ℕ
  pub written : text ≡ codes " [" ++ (number ++ (codes "] " ++ rest))
  pub number_is : IsSmall number cpu

-- of the places of a text at which a mark stands this is the last
pub record IsLastMark (text : List ℕ) (cpu : ℕ) (rest : List ℕ) : Type 0 where
  pub place : ℕ
  pub mark : IsMark (drop place text) cpu rest
  pub last : (k other : ℕ) (more : List ℕ) → place < k → IsMark (drop k text) other more → ⊥

-- what names an event, with its colon
abbrev pub name_text : EventName → List ℕ
name_text Alloc = codes "mm_page_alloc:"
name_text Free = codes "mm_page_free:"
name_text Fallback = codes "mm_page_alloc_extfrag:"

-- the text names an event as ftrace and trace-cmd do, and this stands behind the name
abbrev pub IsNamedAlone : List ℕ → EventName → List ℕ → Type 0
IsNamedAlone text name rest = text ≡ name_text name ++ rest

-- the text names it as perf does, with its subsystem
abbrev pub IsNamedBySubsystem : List ℕ → EventName → List ℕ → Type 0
IsNamedBySubsystem text name rest = text ≡ codes "kmem:" ++ (name_text name ++ rest)

abbrev pub IsNamed : List ℕ → EventName → List ℕ → Type 0
IsNamed text name rest = IsNamedAlone text name rest ⊎ IsNamedBySubsystem text name rest

-- the text names it behind one space or more
pub record IsSpacedName (text : List ℕ) (name : EventName) (rest : List ℕ) : Type 0 where
  pub spaces : List ℕ
  pub named : List ℕ
  pub written : text ≡ spaces ++ named
  pub some : 0 < length spaces
  pub only_spaces : AllByRecursion (λ b. b ≡ space) spaces
  pub name_is : IsNamed named name rest

-- behind so many bytes of a line stand a colon, spaces and the name of an event, and then these fields; of the marks before the colon the last is
-- this CPU's, and no colon stands between them
pub record NamesEventAt (line : List ℕ) (place cpu : ℕ) (name : EventName) (fields : List ℕ) : Type 0 where
  pub before : List ℕ
  pub time : List ℕ
  pub behind : List ℕ
  pub written : line ≡ before ++ colon ∷ behind
  pub place_is : place ≡ length before
  pub mark : IsLastMark before cpu time
  pub no_colon : AllByRecursion (λ b. b ≢ colon) time
  pub named : IsSpacedName behind name fields

-- the line begins as one of an event of this name on this CPU: of the places at which it names an event this is the first
pub record IsBeginning (line : List ℕ) (cpu : ℕ) (name : EventName) (fields : List ℕ) : Type 0 where
  pub place : ℕ
  pub here : NamesEventAt line place cpu name fields
  pub first : (k other : ℕ) (another : EventName) (more : List ℕ) → k < place → NamesEventAt line k other another more → ⊥

-- the line is one of this event
pub record IsEvent (line : List ℕ) (event : PageEvent) : Type 0 where
  pub name : EventName
  pub fields : List ℕ
  pub beginning : IsBeginning line event.cpu name fields
  pub action : IsAction name (words_of fields) event.action

-- the line begins as one of a page event
pub record BeginsAsEvent (line : List ℕ) : Type 0 where
  pub cpu : ℕ
  pub name : EventName
  pub fields : List ℕ
  pub beginning : IsBeginning line cpu name fields

-- the line begins so, and is one of no event
pub record IsBroken (line : List ℕ) : Type 0 where
  pub begins : BeginsAsEvent line
  pub no_event : (event : PageEvent) → IsEvent line event → ⊥

-- the text ends in the name of an event, but for its colon
pub record EndsInName (text : List ℕ) : Type 0 where
  pub front : List ℕ
  pub name : EventName
  pub written : text ++ colon ∷ [] ≡ front ++ name_text name

-- the name of an event, with its colon, stands anywhere in the line
pub record HoldsEventName (line : List ℕ) : Type 0 where
  pub front : List ℕ
  pub name : EventName
  pub rest : List ℕ
  pub written : line ≡ front ++ (name_text name ++ rest)
