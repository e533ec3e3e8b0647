-- What a request leaves for the calls after it, in the words of a zone that contracts see: its workers, a lawful zone, and its step.
use Rattle.std.proofs.Common.{ℕ, ◌≡◌, ◌<◌, ap, List}
use Rattle.zp_model.specs.declared.request.Request.{Request}
use Rattle.zp_model.specs.declared.request.Reply.{Reply}
use Rattle.zp_model.specs.Zone.{PlainZone, workers_of}
use Rattle.zp_model.specs.Step.{step}
use Rattle.zp_model.specs.Lawful.{IsLawful}
use Rattle.zp_laws.proofs.Sameness.{step-same}
use Rattle.zp_zone.proofs.BlockSteps.{named}
use Rattle.zp_zone.specs.NamedZone.{NamedZone}

-- a worker of the zone is one after a step
pub workers_stay : (z y : PlainZone) (w v : ℕ) (q : Request) → y ≡ (step z w q).zone → v < workers_of z → v < workers_of y
workers_stay z y w v q e lt = rw (e, (step-same z w q).workers) lt

pub lawful_in : (Z : NamedZone) (name : List ℕ) (z : PlainZone) → (let n : NamedZone = record { name = name; plain = z } in n) ≡ Z → IsLawful z → IsLawful Z.plain
lawful_in Z name z e l = rw (← e) l

-- a step, in the words of a zone that contracts see
pub reply_in : (Z : NamedZone) (name : List ℕ) (z : PlainZone) (w : ℕ) (q : Request) (r : Reply) → named name z ≡ Z → r ≡ (step z w q).reply → r ≡ (step Z.plain w q).reply
reply_in Z name z w q r e f = rw (← e) f

pub after_in : (Z : NamedZone) (name : List ℕ) (z y : PlainZone) (w : ℕ) (q : Request) → named name z ≡ Z → y ≡ (step z w q).zone →
    named name y ≡ record Z { plain = (step Z.plain w q).zone }
after_in Z name z y w q e f = rw (← e) (ap (named name) f)
