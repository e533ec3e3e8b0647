-- Entries that are legal from a zone, and the rest of them, from where those before it lead.
use Rattle.std.proofs.Common.{ℕ, zero, suc, List, [], ◌∷◌, take, drop}
use Rattle.zp_model.specs.Entries.{Entry}
use Rattle.zp_model.specs.Zone.{PlainZone}
use Rattle.zp_model.specs.Step.{step}
use Rattle.zp_model.specs.Run.{IsLegal, run}

pub legal_rest : (z : PlainZone) (es : List Entry) (n : ℕ) → IsLegal z es → IsLegal (run z (take n es)) (drop n es)
legal_rest z [] zero legal = legal
legal_rest z [] (suc n) legal = legal
legal_rest z (e ∷ es) zero legal = legal
legal_rest z (e ∷ es) (suc n) legal = legal_rest (step z e.worker e.request).zone es n legal.1
