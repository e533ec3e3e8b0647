-- What requests for runs change of what is lent, in a lawful zone.
use Rattle.std.specs.Prelude.{ℕ, ◌-◌, ◌≡◌, cond, leb, Option, None, Some}
use Rattle.std.specs.Option.{option_map}
use Rattle.zp_model.specs.declared.migrate_type.MigrateType.{MigrateType}
use Rattle.zp_model.specs.declared.request.Request.{Request}
use Rattle.zp_model.specs.Books.{type_of_page}
use Rattle.zp_model.specs.Lawful.{IsLawful}
use Rattle.zp_model.specs.Run.{IsDefined}
use Rattle.zp_model.specs.Runs.{block_around}
use Rattle.zp_model.specs.Step.{step}
use Rattle.zp_model.specs.Zone.{PlainZone, Holding}
use Rattle.zp_laws.specs.FreePages.{given_back, handed_out}

-- the request is one for a run
abbrev pub IsForRun : Request → Type 0
IsForRun (Request.AllocRun n a m) = Unit {0}
IsForRun (Request.AllocRunAt p n) = Unit {0}
IsForRun (Request.FreeRun p n) = Unit {0}
IsForRun q = ⊥

-- the type for which page p is lent to worker w, where it lies in a block out in w's name
abbrev pub lent_type : PlainZone → ℕ → ℕ → Option MigrateType
lent_type z w p = cond (leb z.base p) (option_map (λ (b : ℕ × Holding). b.1.kind) (block_around z w (p - z.base))) None

-- the pages that such a request hands out are lent, for the types of their pageblocks, those given back are no more, and each other page is as before
abbrev pub RunStepsMoveLent : Type 0
RunStepsMoveLent =
    (z : PlainZone) (w : ℕ) (q : Request) (p : ℕ) → IsLawful z → IsDefined z w q → IsForRun q →
    lent_type (step z w q).zone w p ≡
    cond (handed_out q (step z w q).reply p) (Some (type_of_page z (p - z.base))) (cond (given_back q p) None (lent_type z w p))
