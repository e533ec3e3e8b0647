-- Which blocks are out when one went out or came back: that one, and the others as they were.
use Rattle.std.proofs.Common.{ℕ, ◌+◌, ◌-◌, ◌≡◌, ◌≤◌, ◌<◌, ◌&&◌, inl, inr, refl, ◌∙◌, ap, arith, true, false, List, length, set, Option, Some, None}
use Rattle.std.proofs.lemmas.Bool.{cases_lt, and_from, and_right, le-leb, eq-eqb, false≢true, false_from_ne_true}
use Rattle.std.proofs.lemmas.List.{length-set, get_or-set_same, get_or-set_other, get_or_past}
use Rattle.std.specs.Prelude.{leb, slice_set}
use Rattle.zp_model.specs.declared.migrate_type.MigrateType.{MigrateType}
use Rattle.zp_model.specs.declared.mark.Mark.{Mark}
use Rattle.zp_model.specs.declared.block.Block.{Block}
use Rattle.zp_model.specs.declared.request.Request.TheVariants as request
use Rattle.zp_model.specs.declared.request.Reply.TheVariants as Reply
use Rattle.zp_model.specs.Area.{Area, kind_at}
use Rattle.zp_model.specs.PageblockType.{noted_type}
use Rattle.zp_model.specs.Choose.{Chosen, choose}
use Rattle.zp_model.specs.Take.{taken, leave, give, take_low_answer}
use Rattle.zp_model.specs.Zone.{PlainZone, Holding, PostedBlock, holding_at, is_of, workers_of, hand_out}
use Rattle.zp_model.specs.Step.{alloc, freed, handed_on, step}
use Rattle.zp_model.specs.Run.{is_out}
use Rattle.zp_model.specs.Lawful.{IsLawful}
use Rattle.zp_laws.proofs.Choosing.{choose_found, take_low_found}
use Rattle.zp_laws.proofs.Keeping.{found_place, posted_place}
use Rattle.zp_laws.proofs.Held.{out-to}
use Rattle.zp_laws.proofs.Outcomes.{alloc_by, low_by, collected_by}

-- what is out at another page stays out when the holding of a page changes
out-at_other : (z : PlainZone) (a : Area) (h : ℕ) (v : Option Holding) (w p k : ℕ) → (p - z.base ≡ h → ⊥) → is_out z w p k ≡ true →
    is_out (record z { area = a; out = set z.out h v }) w p k ≡ true
out-at_other z a h v w p k ne e = ap (λ (o : Option Holding). leb z.base p && is_of w k o) (get_or-set_other z.out h (p - z.base) v None ne) ∙ e

-- a block that goes out is out
out-handed : (z : PlainZone) (a : Area) (w h k : ℕ) (t : MigrateType) (p : ℕ) → h < length z.out → p ≡ z.base + h → is_out (hand_out (record z { area = a }) w h k t) w p k ≡ true
out-handed z a w h k t p lt e =
    let x : Option Holding = Some (record { order = k; kind = t; worker = w }) in
    let place : p - z.base ≡ h = omega arith in
    and_from _ _ (le-leb z.base p (omega arith)) (rw (place, get_or-set_same z.out h x None lt) (and_from _ _ (eq-eqb k k refl) (eq-eqb w w refl)))

-- no block out starts at a page where none did
not_out-where_none : (z : PlainZone) (w p k h : ℕ) → holding_at z.out h ≡ None → is_out z w p k ≡ true → p - z.base ≡ h → ⊥
not_out-where_none z w p k h none e same = let held = (out-to z w p k e).1 in false≢true (rw (same, none) at held)

-- a request that answers a page or a block: what was out stays out, what is answered is out, and it was not out before
pub record IsHandedOut (z y : PlainZone) (w p k : ℕ) : Type 0 where
  pub kept : (v q j : ℕ) → is_out z v q j ≡ true → is_out y v q j ≡ true
  pub out : is_out y w p k ≡ true
  pub fresh : (v j : ℕ) → is_out z v p j ≡ false

handed : (z : PlainZone) (a : Area) (ps : List (List PostedBlock)) (w h k : ℕ) (t : MigrateType) → (h < length z.out) × (holding_at z.out h ≡ None) →
    IsHandedOut z (hand_out (record z { area = a; posted = ps }) w h k t) w (z.base + h) k
handed z a ps w h k t place = record {
  kept = λ v q j on. out-at_other z a h (Some (record { order = k; kind = t; worker = w })) v q j (not_out-where_none z v q j h place.1 on) on;
  out = out-handed z a w h k t (z.base + h) place.0 refl;
  fresh = λ v j. false_from_ne_true _ (λ on. not_out-where_none z v (z.base + h) j h place.1 on (omega arith));
}

pub chosen_place : (z : PlainZone) (k : ℕ) (t : MigrateType) (c : Chosen) → choose z.area k t ≡ Some c → IsLawful z → (c.head < length z.out) × (holding_at z.out c.head ≡ None)
chosen_place z k t c e l = found_place z l k c.head (choose_found z.area k t c l.lists e)

pub low_place : (z : PlainZone) (k h : ℕ) → take_low_answer z.area k ≡ Some h → IsLawful z → (h < length z.out) × (holding_at z.out h ≡ None)
low_place z k h e l = found_place z l k h (take_low_found z.area k h e)

-- a request for a block
module _ (z : PlainZone) (w k : ℕ) (t : MigrateType) (m : Mark) (l : IsLawful z) where
  pub alloc-kept : (v p j : ℕ) → is_out z v p j ≡ true → is_out (alloc z w k t m).zone v p j ≡ true
  alloc-kept v p j q =
      alloc_by (λ o. is_out o.zone v p j ≡ true) z w k t m (λ r. q) (λ c e. (handed z (taken z.area k t (Some c)) z.posted w c.head k t (chosen_place z k t c e l)).kept v p j q)

  -- the page that is answered
  pub alloc-handed : (p : ℕ) → Reply.Page p ≡ (alloc z w k t m).reply → IsHandedOut z (alloc z w k t m).zone w p k
  alloc-handed p r = alloc_by (λ o. Reply.Page p ≡ o.reply → IsHandedOut z o.zone w p k) z w k t m (λ x r. absurd (cc)) (λ c e r.
      let same : p ≡ z.base + c.head = cc in
      rw same (handed z (taken z.area k t (Some c)) z.posted w c.head k t (chosen_place z k t c e l))) r

-- a request for the lowest block
module _ (z : PlainZone) (w k : ℕ) (l : IsLawful z) where
  pub alloc_low-kept : (v p j : ℕ) → is_out z v p j ≡ true → is_out (step z w (request.AllocLow k)).zone v p j ≡ true
  alloc_low-kept v p j q = low_by (λ o. is_out o.zone v p j ≡ true) z w k q (λ h e.
      (handed z (leave z.area h k) z.posted w h k (noted_type (kind_at z.area.largest z.area.kinds h)) (low_place z k h e l)).kept v p j q)

  -- the block that is answered, with the order asked for
  pub alloc_low-handed : (b : Block) → Reply.Block b ≡ (step z w (request.AllocLow k)).reply → (b.order ≡ k) × IsHandedOut z (step z w (request.AllocLow k)).zone w b.page k
  alloc_low-handed b r = low_by (λ o. Reply.Block b ≡ o.reply → (b.order ≡ k) × IsHandedOut z o.zone w b.page k) z w k (λ r. absurd (cc)) (λ h e r.
      let x : Block = record { page = z.base + h; order = k; kind = noted_type (kind_at z.area.largest z.area.kinds h) } in
      let same : b ≡ x = cc in
      rw same (refl, handed z (leave z.area h k) z.posted w h k (noted_type (kind_at z.area.largest z.area.kinds h)) (low_place z k h e l))) r

-- collecting a posted block
module _ (z : PlainZone) (w : ℕ) (l : IsLawful z) (lt : w < workers_of z) where
  pub collect-kept : (v p j : ℕ) → is_out z v p j ≡ true → is_out (step z w request.Collect).zone v p j ≡ true
  collect-kept v p j q =
      collected_by (λ o. is_out o.zone v p j ≡ true) z w q (λ b ps e. (handed z z.area (slice_set z.posted w ps) w b.head b.order b.kind (posted_place z l w b ps e lt)).kept v p j q)

  pub collect-handed : (b : Block) → Reply.Block b ≡ (step z w request.Collect).reply → IsHandedOut z (step z w request.Collect).zone w b.page b.order
  collect-handed b r = collected_by (λ o. Reply.Block b ≡ o.reply → IsHandedOut z o.zone w b.page b.order) z w (λ r. absurd (cc)) (λ p ps e r.
      let x : Block = record { page = z.base + p.head; order = p.order; kind = p.kind } in
      let same : b ≡ x = cc in
      rw same (handed z z.area (slice_set z.posted w ps) w p.head p.order p.kind (posted_place z l w p ps e lt))) r

pub none_left_at : (out : List (Option Holding)) (h : ℕ) → holding_at (set out h None) h ≡ None
none_left_at out h = elim (cases_lt h (length out)) [
  | inl lt ↦ get_or-set_same out h None None lt
  | inr ge ↦ get_or_past (set out h None) h None (omega (arith, length-set out h None))
]

-- what comes back is out no more
pub freed-gone : (z : PlainZone) (a k w j : ℕ) → is_out (freed z (a - z.base) k) w a j ≡ false
freed-gone z a k w j = and_right _ _ (ap (λ (o : Option Holding). is_of w j o) (none_left_at z.out (a - z.base)))

-- and the others stay out
pub freed-kept : (z : PlainZone) (a k : ℕ) → z.base ≤ a → (w p j : ℕ) → (p ≡ a → ⊥) → is_out z w p j ≡ true → is_out (freed z (a - z.base) k) w p j ≡ true
freed-kept z a k le w p j ne e =
    let low : z.base ≤ p = (out-to z w p j e).0 in
    out-at_other z (give z.area (a - z.base) k) (a - z.base) None w p j (λ same. ne (omega arith)) e

-- a posted block is out no more, and the others stay out
pub handed_on-gone : (z : PlainZone) (a to w j : ℕ) → is_out (handed_on z to (a - z.base) (holding_at z.out (a - z.base))) w a j ≡ false
handed_on-gone z a to w j = go (holding_at z.out (a - z.base)) refl
  where
    go : (o : Option Holding) → holding_at z.out (a - z.base) ≡ o → is_out (handed_on z to (a - z.base) o) w a j ≡ false
    go None e = and_right _ _ (ap (λ (q : Option Holding). is_of w j q) e)
    go (Some x) e = freed-gone z a x.order w j

pub handed_on-kept : (z : PlainZone) (a to : ℕ) (o : Option Holding) → z.base ≤ a → (w p j : ℕ) → (p ≡ a → ⊥) → is_out z w p j ≡ true → is_out (handed_on z to (a - z.base) o) w p j ≡ true
handed_on-kept z a to None le w p j ne e = e
handed_on-kept z a to (Some x) le w p j ne e = freed-kept z a x.order le w p j ne e
