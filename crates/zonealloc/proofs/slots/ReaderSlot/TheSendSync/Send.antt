-- A slot may cross threads, as the reader in it may.
use denote.Param.Send.{IsSend}
use Rattle.zonealloc.proofs.SlotKinds.{reader}
use Rattle.zonealloc.proofs.SlotWalks.{slot_send}
use Rattle.zp_gate.proofs.gated_reader.GatedReader.TheSendSync.{the_send as crosses}
use Rattle.zonealloc.specs.contracts.slots.ReaderSlot.{the_row}

pub send : IsSend the_row
send = slot_send reader crosses
