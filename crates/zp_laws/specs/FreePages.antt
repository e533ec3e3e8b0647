-- Which pages a step hands out and takes back. Pages are absolute here.
use Rattle.std.specs.Prelude.{ℕ, ◌+◌, ◌-◌, ◌≡◌, ◌&&◌, ◌||◌, not, Bool, true, false, leb}
use Rattle.zp_model.specs.declared.request.Request.{Request}
use Rattle.zp_model.specs.declared.request.Reply.{Reply}
use Rattle.zp_model.specs.declared.refused.Refused.{Refused}
use Rattle.zp_model.specs.Block.{has, in_run, size}
use Rattle.zp_model.specs.Rows.{stands_in}
use Rattle.zp_model.specs.Runs.{is_within}
use Rattle.zp_model.specs.Zone.{PlainZone, pages_of, workers_of, out_pages, posted_pages}
use Rattle.zp_model.specs.Step.{step}
use Rattle.zp_model.specs.Run.{IsDefined}
use Rattle.zp_model.specs.Lawful.{IsLawful}

-- whether page p is a free page of the zone
abbrev pub is_free : PlainZone → ℕ → Bool
is_free z p = leb z.base p && has z.area.free (p - z.base)

-- whether this answer to the request hands out page p
abbrev pub handed_out : Request → Reply → ℕ → Bool
handed_out (Request.Alloc k t m) (Reply.Page a) p = in_run a k p
handed_out (Request.AllocLow k) (Reply.Block b) p = in_run b.page k p
handed_out (Request.Refill t m n) (Reply.Pages ps) p = stands_in p ps
handed_out (Request.AllocRun n a m) (Reply.Page h) p = is_within h n p
handed_out (Request.AllocRunAt b n) (Reply.Page h) p = is_within h n p
handed_out q r p = false

-- whether the request gives back page p
abbrev pub given_back : Request → ℕ → Bool
given_back (Request.Free a k) p = in_run a k p
given_back (Request.Drain t ps) p = stands_in p ps
given_back (Request.FreeRun h n) p = is_within h n p
given_back q p = false

-- between two moments of a zone the pages that go were free and are free no more, those that come were not and are, and no
-- other page changes
pub record IsMove (before after : PlainZone) (goes comes : ℕ → Bool) : Type 0 where
  pub went : (p : ℕ) → goes p ≡ true → is_free before p ≡ true
  pub came : (p : ℕ) → comes p ≡ true → is_free before p ≡ false
  pub each : (p : ℕ) → is_free after p ≡ ((is_free before p && not (goes p)) || comes p)

-- a step changes the free pages by exactly those that it hands out or that are given back
abbrev pub StepsMovePages : Type 0
StepsMovePages =
    (z : PlainZone) (w : ℕ) (q : Request) → IsLawful z → IsDefined z w q →
    IsMove z (step z w q).zone (handed_out q (step z w q).reply) (given_back q)

-- a refusal leaves the zone as it was
abbrev pub RefusalsChangeNothing : Type 0
RefusalsChangeNothing =
    (z : PlainZone) (w : ℕ) (q : Request) (r : Refused) → (step z w q).reply ≡ Reply.Refused r → (step z w q).zone ≡ z

-- two moments of one zone
pub record IsSameZone (before after : PlainZone) : Type 0 where
  pub largest : after.area.largest ≡ before.area.largest
  pub pages : pages_of after ≡ pages_of before
  pub base : after.base ≡ before.base
  pub min : after.min ≡ before.min
  pub workers : workers_of after ≡ workers_of before

-- no step changes the largest order of a zone, its size, its base, its least mark or the number of its workers
abbrev pub StepsKeepTheZone : Type 0
StepsKeepTheZone = (z : PlainZone) (w : ℕ) (q : Request) → IsSameZone z (step z w q).zone

-- each page of a lawful zone is free, out or posted, and none twice: their numbers add up to the zone's pages
abbrev pub PagesAddUp : Type 0
PagesAddUp = (z : PlainZone) → IsLawful z → size z.area.free + out_pages z + posted_pages z ≡ pages_of z
