-- A block that a section was granted came from somewhere.
use Rattle.std.proofs.Common.{ℕ, ◌≡◌, Option, None, Some}
use Rattle.zp_model.specs.declared.migrate_type.MigrateType.{MigrateType}
use Rattle.zp_model.specs.declared.mark.Mark.{Mark}
use Rattle.zp_model.specs.declared.origin.Origin.{Origin}
use Rattle.zp_model.specs.declared.refused.Refused.{Refused}
use Rattle.zp_model.specs.declared.request.Request.TheVariants as request
use Rattle.zp_model.specs.declared.request.Reply.TheVariants as Reply
use Rattle.zp_model.specs.Choose.{origin}
use Rattle.zp_zone.specs.Seats.{ZoneState}
use Rattle.zp_laws.proofs.Origins.{granted_origin}
use Rattle.zp_share.specs.PlainShares.{refusal_of}
use Rattle.zp_share.specs.Sections.{ComesOf, IsAsked}
use Rattle.zp_share.specs.ZoneShares.{ZoneShareState, plain_share}

came_from : (e : Option Refused) (k : ℕ) (t : MigrateType) (m : Mark) (p : ℕ) (z y : ZoneState) (a b : ZoneShareState) →
    ComesOf e (request.Alloc k t m) (Reply.Page p) z y a b → (g : Origin) × (origin z.plain.area k t ≡ Some g)
came_from None k t m p z y a b x = granted_origin z.plain a.seat.worker k t m p x.reply
came_from (Some e) k t m p z y a b x = absurd (cc)

pub section_origin : (k : ℕ) (t : MigrateType) (m : Mark) (p : ℕ) (z y : ZoneState) (a b : ZoneShareState) →
    IsAsked (request.Alloc k t m) (Reply.Page p) z y a b → (g : Origin) × (origin z.plain.area k t ≡ Some g)
section_origin k t m p z y a b x = came_from (refusal_of (request.Alloc k t m) (plain_share a)) k t m p z y a b x.made
