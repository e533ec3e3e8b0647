-- A slot may cross threads, as the row in it may.
use denote.Param.Send.{IsSend}
use Rattle.zonealloc.proofs.SlotKinds.{row}
use Rattle.zonealloc.proofs.SlotWalks.{slot_send}
use Rattle.zp_gate.proofs.gated_row.GatedRow.TheSendSync.{the_send as crosses}
use Rattle.zonealloc.specs.contracts.slots.RowSlot.{the_row}

pub send : IsSend the_row
send = slot_send row crosses
