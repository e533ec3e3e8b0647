-- A slot may cross threads, as the worker in it may.
use denote.Param.Send.{IsSend}
use Rattle.zonealloc.proofs.SlotKinds.{worker}
use Rattle.zonealloc.proofs.SlotWalks.{slot_send}
use Rattle.zp_gate.proofs.gated_worker.GatedWorker.TheSendSync.{the_send as crosses}
use Rattle.zonealloc.specs.contracts.slots.WorkerSlot.{the_row}

pub send : IsSend the_row
send = slot_send worker crosses
