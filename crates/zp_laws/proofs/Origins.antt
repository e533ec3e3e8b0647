-- Where a block came from that a request was granted.
use Rattle.std.proofs.Common.{ℕ, ◌≡◌, refl, arith, true, false, Option, Some, None}
use Rattle.std.specs.Option.{option_map, option_or}
use Rattle.zp_model.specs.declared.migrate_type.MigrateType.{MigrateType}
use Rattle.zp_model.specs.declared.mark.Mark.{Mark}
use Rattle.zp_model.specs.declared.origin.Origin.{Origin}
use Rattle.zp_model.specs.declared.origin.Origin.TheVariants.{Own, Claimed, Borrowed}
use Rattle.zp_model.specs.declared.request.Request.TheVariants as request
use Rattle.zp_model.specs.declared.request.Reply.TheVariants as Reply
use Rattle.zp_model.specs.Area.{Area}
use Rattle.zp_model.specs.Choose.{Chosen, borrow, choose, chosen_at, claim, origin, own}
use Rattle.zp_model.specs.Step.{step}
use Rattle.zp_model.specs.Zone.{PlainZone}
use Rattle.zp_laws.proofs.Outcomes.{alloc_by}

-- what is chosen comes from somewhere
chosen_origin : (a : Area) (k : ℕ) (t : MigrateType) (c : Chosen) → choose a k t ≡ Some c → (g : Origin) × (origin a k t ≡ Some g)
unfolding choose origin
chosen_origin a k t c e = from_one (own a k t) (claim a k t) (borrow a k t) e
  where
    from_one : (x y z : Option ℕ) → option_or (chosen_at false x) (option_or (chosen_at true y) (chosen_at false z)) ≡ Some c →
        (g : Origin) × (option_or (option_map (λ _. Own) x) (option_or (option_map (λ _. Claimed) y) (option_map (λ _. Borrowed) z)) ≡ Some g)
    from_one (Some h) y z e = (Own, refl)
    from_one None (Some h) z e = (Claimed, refl)
    from_one None None (Some h) e = (Borrowed, refl)
    from_one None None None e = absurd (cc)

-- so does the block that is granted
pub granted_origin : (z : PlainZone) (w k : ℕ) (t : MigrateType) (m : Mark) (p : ℕ) → Reply.Page p ≡ (step z w (request.Alloc k t m)).reply →
    (g : Origin) × (origin z.area k t ≡ Some g)
granted_origin z w k t m p r =
    alloc_by (λ o. Reply.Page p ≡ o.reply → (g : Origin) × (origin z.area k t ≡ Some g)) z w k t m (λ x r. absurd (cc)) (λ c e r. chosen_origin z.area k t c e) r
