-- What is kept after a block was handed out.
use Rattle.std.proofs.Common.{ℕ, ◌≡◌, ◌≤◌, ◌∙◌, sym, ap, subst, refl, arith, Bool, true, false, cond, Some, None, Ok, IsSome}
use Rattle.std.specs.Prelude.{Option, Result, ltb, ◌^◌}
use Rattle.std.specs.Ordering.{nat_cmp, eq_by_cmp}
use Rattle.std.specs.Cmp.{nat_cmp_total}
use Rattle.std.specs.FinMap.{FinMap, get, insert, remove, same_map, nat_cmp-IsAntisymmetric, get-insert, get-remove}
use Rattle.std.proofs.lemmas.Bool.Decides.{nat_tests}
use Rattle.zp_events.specs.declared.event.FrameBlock.{FrameBlock}
use Rattle.zp_events.specs.declared.event.PageRequest.{PageRequest}
use Rattle.zp_model.specs.declared.migrate_type.MigrateType.{MigrateType}
use Rattle.zp_model.specs.declared.origin.Origin.{Origin}
use Rattle.zp_model.specs.declared.refused.Refused.{Refused}
use Rattle.zp_share.specs.declared.commands.Lent.{Lent}
use Rattle.zp_kernel.specs.declared.kernel_state.KernelState.{KernelState}
use Rattle.zp_kernel.specs.declared.event_counts.EventCounts.{EventCounts}
use Rattle.zp_kernel.specs.declared.event_counts.Happening.TheVariants as happened
use Rattle.zp_kernel.specs.declared.held.Held.{Held}
use Rattle.zp_kernel.specs.declared.setting.Setting.{Setting}
use Rattle.zp_kernel.specs.KernelStates.{holding_none, noting}
use Rattle.zp_kernel.specs.Counts.{noted, origin_noted, pages_out}
use Rattle.zp_share.specs.Crews.{CrewState}
use Rattle.zp_kernel.specs.Crews.{IsCrewDone, asked_by, origin_of}
use Rattle.zp_kernel.specs.Events.{answered, asked, asked_for, cleared, handed_out, still_held}
use Rattle.zp_kernel.specs.Frames.{Frames}
use Rattle.zp_kernel.specs.Settings.{kind_of, top_of}

same_key : (k : ℕ) → eq_by_cmp nat_cmp k k ≡ true
same_key k = grind (arith, nat_tests)

module _ {X : Type 0} where
  pub get_inserted : (m : FinMap nat_cmp X) (k : ℕ) (v : X) → get (insert m k v) k ≡ Some v
  get_inserted m k v = get-insert nat_cmp_total m k v k ∙ ap (λ b. cond b (Some v) (get m k)) (same_key k)

  -- what is written last stands
  pub insert_removed : (m : FinMap nat_cmp X) (k : ℕ) (v : X) → insert (remove m k) k v ≡ insert m k v
  insert_removed m k v =
      same_map nat_cmp_total nat_cmp-IsAntisymmetric _ _
      (λ q. get-insert nat_cmp_total (remove m k) k v q
      ∙ ap (λ r. cond (eq_by_cmp nat_cmp q k) (Some v) r) (get-remove nat_cmp_total m k q)
      ∙ last (eq_by_cmp nat_cmp q k) (Some v) None (get m q)
      ∙ sym (get-insert nat_cmp_total m k v q))
    where
      last : {A : Type 0} (b : Bool) (x y z : A) → cond b x (cond b y z) ≡ cond b x z
      last true x y z = refl
      last false x y z = refl

  pub remove_inserted : (m : FinMap nat_cmp X) (k : ℕ) (v : X) → remove (insert m k v) k ≡ remove m k
  remove_inserted m k v =
      same_map nat_cmp_total nat_cmp-IsAntisymmetric _ _
      (λ q. get-remove nat_cmp_total (insert m k v) k q
      ∙ ap (λ r. cond (eq_by_cmp nat_cmp q k) None r) (get-insert nat_cmp_total m k v q)
      ∙ last (eq_by_cmp nat_cmp q k) None (Some v) (get m q)
      ∙ sym (get-remove nat_cmp_total m k q))
    where
      last : {A : Type 0} (b : Bool) (x y z : A) → cond b x (cond b y z) ≡ cond b x z
      last true x y z = refl
      last false x y z = refl

-- a request that was met
pub asked_ok : (w : ℕ) (x : FrameBlock) (k i pages : ℕ) (t : MigrateType) (b : KernelState) (r : Result Lent Refused) (l : Lent) (crew : CrewState) (fs : Frames) (from : Option Origin) (counts : EventCounts) →
    k ≡ x.order → IsCrewDone (asked_by w k t i b.crew) r crew → r ≡ Ok l → pages ≡ 2 ^ k → fs ≡ insert b.frames x.frame (record { lent = l; worker = w })
    → from ≡ origin_of w k t b.crew l.zone → counts ≡ pages_out pages (noted happened.Given (origin_noted from t b.counts)) →
    let after : KernelState = record { crew = crew; frames = fs; counts = counts } in after ≡ asked w x t i (holding_none x.frame b)
asked_ok w x k i pages t b r l crew fs from counts same done is many frames came noted_is =
    let d = asked_by w x.order t i b.crew in
    let here : IsCrewDone (asked_by w x.order t i b.crew) r crew = subst (λ n. IsCrewDone (asked_by w n t i b.crew) r crew) same done in
    let c : KernelState = holding_none x.frame b in
    let size : pages ≡ 2 ^ x.order = many ∙ ap (λ n. 2 ^ n) same in
    let held : Held = record { lent = l; worker = w } in
    let to : fs ≡ insert (remove b.frames x.frame) x.frame held = frames ∙ sym (insert_removed b.frames x.frame held) in
    let counted : counts ≡ pages_out (2 ^ x.order) (noted happened.Given (origin_noted (origin_of w x.order t b.crew l.zone) t b.counts)) =
    noted_is
    ∙ ap (λ n. pages_out n (noted happened.Given (origin_noted from t b.counts))) size
    ∙ ap (λ o. pages_out (2 ^ x.order) (noted happened.Given (origin_noted o t b.counts))) (came ∙ ap (λ n. origin_of w n t b.crew l.zone) same) in
    let first : ◌≡◌ {A = KernelState} (record { crew = crew; frames = fs; counts = counts }) (answered w x.frame x.order t crew (Ok l) c) = joined crew _ _ _ _ to counted in
    first
    ∙ ap (λ a. answered w x.frame x.order t crew a c) (sym is ∙ here.answer)
    ∙ ap (λ y. answered w x.frame x.order t y d.answer c) here.crew
  where
    joined : (crew : CrewState) (fs gs : Frames) (a b : EventCounts) → fs ≡ gs → a ≡ b →
        ◌≡◌ {A = KernelState} (record { crew = crew; frames = fs; counts = a }) (record { crew = crew; frames = gs; counts = b })
    joined crew fs gs a b e f = cc

-- what a block's frame held still is none of the frames' any more
pub still_frames : (w : ℕ) (o : Option Held) (b : KernelState) → (still_held w o b).frames ≡ b.frames
still_frames w None b = refl
still_frames w (Some h) b = refl

pub place_stays : (w f : ℕ) (o : Option Held) (b c : KernelState) (place : Held) → c ≡ still_held w o b → (fs : Frames) → b.frames ≡ insert fs f place → IsSome (get c.frames f)
place_stays w f o b c place e fs is =
    let there : get c.frames f ≡ Some place = ap (λ (x : KernelState). get x.frames f) e ∙ ap (λ gs. get gs f) (still_frames w o b ∙ is) ∙ get_inserted fs f place in
    subst (λ (r : Option Held). IsSome r) (sym there) refl

cleared_is : (w f : ℕ) (o : Option Held) (b : KernelState) (place : Held) → holding_none f (still_held w o (record b { frames = insert b.frames f place })) ≡ still_held w o (holding_none f b)
cleared_is w f None b place = ap (λ fs. let x : KernelState = record b { frames = fs } in x) (remove_inserted b.frames f place)
cleared_is w f (Some h) b place = ap (λ fs. still_held w (Some h) (let x : KernelState = record b { frames = fs } in x)) (remove_inserted b.frames f place)

-- a block of an order and a type that our zones have was handed out
pub handed : (s : Setting) (w : ℕ) (x : FrameBlock) (r : PageRequest) (t : MigrateType) (i : ℕ) (o : Option Held) (place : Held) (b c d : KernelState) → x.order ≤ s.largest →
    Some t ≡ kind_of r.migrate_type → i ≡ top_of s.limits r.zone_limit → o ≡ get b.frames x.frame → c ≡ still_held w o (record b { frames = insert b.frames x.frame place })
    → d ≡ asked w x t i (holding_none x.frame c) → d ≡ handed_out s w x r b
handed s w x r t i o place b c d within kind top before still after =
    let small : ltb s.largest x.order ≡ false = grind (arith, nat_tests) in
    after
    ∙ ap (λ y. asked w x t i (holding_none x.frame y)) still
    ∙ ap (asked w x t i) (cleared_is w x.frame o b place)
    ∙ ap (λ y. asked w x t i (still_held w y (holding_none x.frame b))) before
    ∙ ap (λ n. asked w x t n (cleared w x.frame b)) top
    ∙ ap (λ k. asked_for k w x (top_of s.limits r.zone_limit) b) kind
    ∙ ap (λ v. cond v (noting happened.TooLarge b) (asked_for (kind_of r.migrate_type) w x (top_of s.limits r.zone_limit) b)) (sym small)
