-- What a C program's call comes to that makes many requests of a zone (this profile).
use Rattle.std.specs.Prelude.{ℕ, List, ◌≡◌, ◌≢◌, ◌<◌, ◌≤◌, ◌⊎◌, All, length, Option, None, Some}
use Rattle.zp_model.specs.declared.constants.TheConstants.{LARGEST_ORDER}
use Rattle.zp_model.specs.declared.mark.Mark.{Mark}
use Rattle.zp_model.specs.declared.migrate_type.MigrateType.{MigrateType}
use Rattle.zp_model.specs.declared.refused.Refused.{Refused}
use Rattle.zp_model.specs.declared.request.Reply.{Reply}
use Rattle.zp_model.specs.declared.request.Request.{Request}
use Rattle.zp_model.specs.MigrateType.{type_number}
use Rattle.zp_model.specs.Refused.{refused_number}
use Rattle.zp_gate.specs.declared.granted.Granted.{Granted}
use Rattle.zp_gate.specs.GatedWorkers.{AreMadeAt, WorkerState}
use Rattle.zp_gate.specs.GatedZones.{each_is, free_of}
use Rattle.zonealloc.specs.Calls.{IsOfBoth}
use Rattle.zonealloc.specs.Numbers.{mark_number}

-- how they ended, by its number: 0 where all were granted, else that of the refusal
abbrev pub end_number : Option Refused → ℕ
end_number None = 0
end_number (Some e) = refused_number e

-- the requests, by the numbers that C names: blocks of one kind, or the blocks of two arrays back
abbrev pub AsksAllocs : ℕ → ℕ → ℕ → (ℕ → Request) → Type 0
AsksAllocs k t m f = (kind : MigrateType) × (mark : Mark) × (type_number kind ≡ t) × (mark_number mark ≡ m) × (f ≡ each_is (Request.Alloc k kind mark))

abbrev pub AsksFrees : List ℕ → List ℕ → (ℕ → Request) → Type 0
AsksFrees ps ks f = f ≡ free_of ps ks

-- each of the numbers is an order's
abbrev pub AreOrders : List ℕ → Type 0
AreOrders ks = All (λ k. k ≤ LARGEST_ORDER) ks

-- two arrays that do not name blocks, one at least: they have not as many orders as pages, or none, or a number that is no order's
abbrev pub NameNoBlocks : List ℕ → List ℕ → Type 0
NameNoBlocks ps ks = (length ks ≢ length ps) ⊎ ((length ps ≡ 0) ⊎ ¬ AreOrders ks)

-- Answered below 40, the worker made such requests of the zone at place i in one visit, one after another: so many were granted as is told, each by its
-- reply, and it ended by this number. From 40 on nothing was asked, and none is told
pub record IsManyCall (asks : (ℕ → Request) → Type 0) (gives : ℕ → Reply) (most told i code : ℕ) (b a : Option WorkerState) : Type 0 where
  pub made : code < 40 → (f : ℕ → Request) × (g : Granted) × asks f × (g.count ≡ told) × (end_number g.refused ≡ code) × IsOfBoth (AreMadeAt i f gives most g) b a
  pub unasked : 40 ≤ code → (told ≡ 0) × (a ≡ b)
