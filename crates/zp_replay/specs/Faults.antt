-- What is said of each fault.
use Rattle.std.specs.Prelude.{ℕ, List, codes}
use Rattle.zp_replay.specs.declared.ending.ReplayFault.{ReplayFault}
use Rattle.zp_replay.specs.declared.ending.ReplayFault.TheVariants.{Memory, Read, Write, NoThread}

abbrev pub replay_message : ReplayFault → List ℕ
replay_message Memory = codes "zonereplay: no memory"
replay_message Read = codes "zonereplay: cannot read"
replay_message Write = codes "zonereplay: cannot write"
replay_message NoThread = codes "zonereplay: no thread"
