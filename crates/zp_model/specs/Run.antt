-- Runs and legal histories: the zone that a list of entries leaves, and which lists a zone could have made.
use Rattle.std.specs.Prelude.{ℕ, ◌-◌, ◌≡◌, ◌<◌, ◌&&◌, Bool, true, List, [], ◌∷◌, leb, ltb, not}
use Rattle.std.specs.List.{list_all}
use Rattle.zp_model.specs.declared.constants.TheConstants.{MAX_BATCH}
use Rattle.zp_model.specs.Entries.{Entry}
use Rattle.zp_model.specs.declared.request.Request.{Request}
use Rattle.zp_model.specs.declared.request.Request.TheVariants.{Alloc, AllocLow, Free, Post, Collect, Refill, Drain, Isolate, Release, AllocRun, AllocRunAt, FreeRun}
use Rattle.zp_model.specs.Rows.{stands_in}
use Rattle.zp_model.specs.Zone.{PlainZone, holds, pages_of, workers_of, zone_opening}
use Rattle.zp_model.specs.Runs.{may_alloc_run, may_free_run}
use Rattle.zp_model.specs.Step.{step}

abbrev pub is_distinct : List ℕ → Bool
is_distinct [] = true
is_distinct (x ∷ xs) = not (stands_in x xs) && is_distinct xs

-- whether the block of order k at an absolute page is out in w's name
abbrev pub is_out : PlainZone → ℕ → ℕ → ℕ → Bool
is_out z w p k = leb z.base p && holds z w (p - z.base) k

-- whether a worker of the zone may ask for it (this profile)
abbrev pub may_ask : PlainZone → ℕ → Request → Bool
may_ask z w (Alloc k t m) = true
may_ask z w (AllocLow k) = true
may_ask z w (Free p k) = is_out z w p k
may_ask z w (Post p k to) = is_out z w p k && ltb to (workers_of z)
may_ask z w Collect = true
may_ask z w (Refill t m n) = leb 1 n && leb n MAX_BATCH
may_ask z w (Drain t ps) = list_all (λ p. is_out z w p 0) ps && is_distinct ps
may_ask z w (Isolate b) = true
may_ask z w (Release b t) = true
may_ask z w (AllocRun n a m) = may_alloc_run n a
may_ask z w (AllocRunAt p n) = true
may_ask z w (FreeRun p n) = may_free_run z w p n

abbrev pub run : PlainZone → List Entry → PlainZone
run z [] = z
run z (e ∷ es) = run (step z e.worker e.request).zone es

-- the step is defined: the worker is one of the zone's, and may ask for it
abbrev pub IsDefined : PlainZone → ℕ → Request → Type 0
IsDefined z w q = (w < workers_of z) × (may_ask z w q ≡ true)

-- the entry's request could be made, and has the reply of the step
abbrev pub IsLegalEntry : PlainZone → Entry → Type 0
IsLegalEntry z e = IsDefined z e.worker e.request × ((step z e.worker e.request).reply ≡ e.reply)

-- from z on, each entry is legal
abbrev pub IsLegal : PlainZone → List Entry → Type 0
IsLegal z [] = Unit {0}
IsLegal z (e ∷ es) = IsLegalEntry z e × IsLegal (step z e.worker e.request).zone es

-- the zone as it was made: no step changes its base, its pages, its least mark, or how many workers it has
abbrev pub opening_of : PlainZone → PlainZone
opening_of z = zone_opening z.area.largest z.base (pages_of z) z.min (workers_of z)

-- all that was asked of the zone: a legal list from its opening, whose run the zone is
pub record IsHistory (z : PlainZone) (es : List Entry) : Type 0 where
  pub legal : IsLegal (opening_of z) es
  pub run : run (opening_of z) es ≡ z
