-- What is told of the zone behind a lock, as it is at one moment (this profile).
use Rattle.std.specs.Prelude.{ℕ, ◌≡◌, ◌<◌, ◌≤◌, ◌+◌, ◌↔◌, List, Option, IsSome, IfSome}
use Rattle.zp_model.specs.Area.{pageblocks_of}
use Rattle.zp_model.specs.declared.counts.CountsByType.{CountsByType}
use Rattle.zp_model.specs.Info.{counts_by_type, counts_of, info_line}
use Rattle.zp_model.specs.Mark.{level_of}
use Rattle.zp_model.specs.Run.{IsHistory}
use Rattle.zp_model.specs.Zone.{pages_of, posted_pages}
use Rattle.zp_zone.specs.NamedZone.{IsPageOf, IsPageblockOf, IsToldOf}
use Rattle.zp_zone.specs.Seats.{ZoneState}
use Rattle.zp_zone.specs.declared.page.ZonePage.{ZonePage}
use Rattle.zp_zone.specs.declared.pageblock.Pageblock.{Pageblock}
use Rattle.zp_share.specs.Shares.{ShareState, ZoneKey, key_of, share_at}
use Rattle.zp_share.specs.ZoneShares.{SharesIn}
use Rattle.zp_gate.specs.GatedZones.{GateKey}
use Rattle.zp_gate.specs.declared.question.ZoneTold.{ZoneTold}
use Rattle.zp_gate.specs.declared.question.Question.{Question}
use Rattle.zp_gate.specs.declared.question.Answer.{Answer}

-- the zone of a share: it has this key, so its name and all else that never changes, and the first page of the share; what is out in the worker's
-- name is what the share has, page by page of the zone; and it is what its requests, the worker's sections among them, made of it, so a lawful zone
pub record IsZoneOf (key : ZoneKey) (s : ShareState) (z : ZoneState) : Type 0 where
  pub known : key_of z ≡ key
  pub agrees : SharesIn z (share_at s 0)
  pub base : z.plain.base ≡ (share_at s 0).seat.part.base
  pub history : IsHistory z.plain z.entries

-- the zone with this key has this page, by its absolute number; and the pageblock of this number
abbrev pub HasPage : GateKey → ℕ → Type 0
HasPage k p = (k.zone.base ≤ p) × (p < k.zone.base + k.zone.pages)

abbrev pub HasPageblock : GateKey → ℕ → Type 0
HasPageblock k n = n < pageblocks_of k.zone.largest k.zone.pages

-- it is so of the zone of this share, as it is then
abbrev pub IsThen : GateKey → ShareState → (ZoneState → Type 0) → Type 0
IsThen key s P = (z : ZoneState) × IsZoneOf key.zone s z × P z

-- its free blocks and pages, its level, and its posted pages
abbrev pub TellsZone : ZoneTold → ZoneState → Type 0
TellsZone t z = (t.counts ≡ counts_of z.plain.area.largest z.plain.area.free) × (t.level ≡ level_of z.plain) × (t.posted ≡ posted_pages z.plain)

abbrev pub TellsLine : List ℕ → ZoneState → Type 0
TellsLine line z = line ≡ info_line z.name z.plain.area.largest (counts_of z.plain.area.largest z.plain.area.free)

abbrev pub TellsPage : ℕ → Option ZonePage → ZoneState → Type 0
TellsPage p e z = (IsSome e ↔ IsPageOf z.plain p) × IfSome e (λ (e : ZonePage). IsToldOf z.plain p e.state e.back e.forward)

abbrev pub TellsPageblock : ℕ → Option Pageblock → ZoneState → Type 0
TellsPageblock n e z = (IsSome e ↔ (n < pageblocks_of z.plain.area.largest (pages_of z.plain))) × IfSome e (IsPageblockOf z.plain n)

-- its free blocks by their pageblock's type and their order, and its pageblocks by their type
abbrev pub TellsTypes : CountsByType → ZoneState → Type 0
TellsTypes t z = t ≡ counts_by_type z.plain.area.largest z.plain.area.free z.plain.area.kinds

-- the answer is one to this question, and so of the zone
abbrev pub Tells : Question → Answer → ZoneState → Type 0
Tells Question.Zone (Answer.Zone t) z = TellsZone t z
Tells Question.Line (Answer.Line line) z = TellsLine line z
Tells (Question.Page p) (Answer.Page e) z = TellsPage p e z
Tells (Question.Pageblock n) (Answer.Pageblock e) z = TellsPageblock n e z
Tells Question.Types (Answer.Types t) z = TellsTypes t z
Tells q a z = ⊥
