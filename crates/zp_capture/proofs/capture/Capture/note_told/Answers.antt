use Rattle.zp_capture.proofs.MachineTelling.{zones_noted}
use Rattle.zp_capture.proofs.capture.Capture.note_told.Goals as goal

pub returns-in_default : goal.returns-in_default
returns-in_default c =
    record { told = zones_noted c.note.result (record { zones = c.self.inside.zones; cpus = c.self.inside.cpus; is_afterwards = c.self.inside.is_afterwards }) c.args.self.now c.args.line.now c.note.new.self c.self.view_is c.in_default.ensures.none c.note.ensures.noted }
