-- What the words of a command line ask for.
use Rattle.std.specs.Prelude.{ℕ, Bool, true, ◌||◌, List, codes, Result, Ok, Err, if◌then◌else◌}
use Rattle.std.specs.List.{list_all, list_any}
use Rattle.std.specs.Str.{bytes_eq}
use Rattle.zp_flags.specs.declared.flags.Flags.{Flags}
use Rattle.zp_flags.specs.declared.flags.FlagFault.{FlagFault}
use Rattle.zp_flags.specs.declared.flags.FlagFault.TheVariants.{Unknown, NeedsThreads}

abbrev pub is_serial : List ℕ → Bool
is_serial word = bytes_eq word (codes "--serial")

abbrev pub is_journal : List ℕ → Bool
is_journal word = bytes_eq word (codes "--journal")

abbrev pub is_flag : List ℕ → Bool
is_flag word = is_serial word || is_journal word

-- journals are those of threads
abbrev pub flags_together : Bool → Bool → Result Flags FlagFault
flags_together true true = Err NeedsThreads
flags_together serial journal = Ok (record { serial = serial; journal = journal })

-- each flag may stand more than once, and no other word may stand at all
abbrev pub flags_of : List (List ℕ) → Result Flags FlagFault
flags_of words =
    if list_all is_flag words then flags_together (list_any is_serial words) (list_any is_journal words) else Err Unknown
