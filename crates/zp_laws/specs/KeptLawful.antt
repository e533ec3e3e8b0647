-- What keeps a zone lawful.
use Rattle.std.specs.Prelude.{ℕ, ◌≡◌, ◌<◌, ◌==◌, false, List, None, Some}
use Rattle.std.specs.List.{IsDistinct}
use Rattle.zp_model.specs.declared.migrate_type.MigrateType.{MigrateType}
use Rattle.zp_model.specs.declared.mark.Mark.{Mark}
use Rattle.zp_model.specs.Entries.{Entry}
use Rattle.zp_model.specs.declared.request.Request.{Request}
use Rattle.zp_model.specs.Area.{Area, settle, lists_count, is_isolated}
use Rattle.zp_model.specs.Rows.{list_at}
use Rattle.zp_model.specs.Choose.{Chosen, choose}
use Rattle.zp_model.specs.Take.{take_low_answer}
use Rattle.zp_model.specs.Zone.{PlainZone, zone_opening, workers_of}
use Rattle.zp_model.specs.Step.{alloc, step}
use Rattle.zp_model.specs.Run.{IsDefined, run, IsLegal}
use Rattle.zp_model.specs.Lawful.{IsListedArea, IsLawful}
use Rattle.zp_laws.specs.Found.{IsFound}

abbrev pub OpeningIsLawful : Type 0
OpeningIsLawful = (m base pages min workers : ℕ) → IsLawful (zone_opening m base pages min workers)

-- from lists that hold no head twice, settling makes lists that hold what belongs there, each once and nothing else
abbrev pub SettlingListsTheArea : Type 0
SettlingListsTheArea =
    (a : Area) → ((r : ℕ) → r < lists_count a.largest → IsDistinct (λ x y. x == y) (list_at a.lists r)) → IsListedArea (settle a)

-- what is chosen heads a free block that is large enough
abbrev pub ChoosingFindsFree : Type 0
ChoosingFindsFree =
    (a : Area) (k : ℕ) (t : MigrateType) (c : Chosen) → IsListedArea a → choose a k t ≡ Some c → IsFound a.largest a.free k c.head

-- and it lies in no isolated pageblock
abbrev pub ChoosingPassesIsolated : Type 0
ChoosingPassesIsolated =
    (a : Area) (k : ℕ) (t : MigrateType) (c : Chosen) → IsListedArea a → choose a k t ≡ Some c → is_isolated a.largest a.kinds c.head ≡ false

-- where none is chosen, no free block outside isolated pageblocks is large enough
abbrev pub ChoosingMissesNone : Type 0
ChoosingMissesNone =
    (a : Area) (k : ℕ) (t : MigrateType) (h : ℕ) → IsListedArea a → choose a k t ≡ None → is_isolated a.largest a.kinds h ≡ false → IsFound a.largest a.free k h → ⊥

-- the lowest block that is looked for lies in no isolated pageblock either
abbrev pub LowestPassesIsolated : Type 0
LowestPassesIsolated = (a : Area) (k h : ℕ) → take_low_answer a k ≡ Some h → is_isolated a.largest a.kinds h ≡ false

-- and where there is none, no free block outside isolated pageblocks is large enough
abbrev pub LowestMissesNone : Type 0
LowestMissesNone =
    (a : Area) (k h : ℕ) → take_low_answer a k ≡ None → is_isolated a.largest a.kinds h ≡ false → IsFound a.largest a.free k h → ⊥

abbrev pub AllocKeepsLawful : Type 0
AllocKeepsLawful =
    (z : PlainZone) (w k : ℕ) (t : MigrateType) (m : Mark) → IsLawful z → w < workers_of z → IsLawful (alloc z w k t m).zone

-- each step that is defined keeps a lawful zone lawful
abbrev pub StepsKeepLawful : Type 0
StepsKeepLawful =
    (z : PlainZone) (w : ℕ) (q : Request) → IsLawful z → IsDefined z w q → IsLawful (step z w q).zone

-- and so does a legal list of entries
abbrev pub RunsKeepLawful : Type 0
RunsKeepLawful = (z : PlainZone) (es : List Entry) → IsLawful z → IsLegal z es → IsLawful (run z es)
