-- What is said of words that are no flags.
use Rattle.std.specs.Prelude.{ℕ, List, codes}
use Rattle.zp_flags.specs.declared.flags.FlagFault.{FlagFault}
use Rattle.zp_flags.specs.declared.flags.FlagFault.TheVariants.{Unknown, NeedsThreads, Memory}

abbrev pub flag_message : FlagFault → List ℕ
flag_message Unknown = codes "zonereplay: unknown argument"
flag_message NeedsThreads = codes "zonereplay: --journal needs threads"
flag_message Memory = codes "zonereplay: no memory"
