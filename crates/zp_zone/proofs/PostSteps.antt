-- What a zone's fields, and the number of its posted pages, become when a block is posted and when one is collected.
use Rattle.std.proofs.Common.{ℕ, ◌+◌, ◌*◌, ◌^◌, ◌≡◌, ◌<◌, ap, arith, List, [], ◌∷◌, ◌++◌, replicate, Some, inl, inr, refl, sym, ◌∙◌, length, map, set, length-set, get_or, get_or-set_same, get_or-set_other, eq-eqb, ne_eqb, Option, ◌-◌, ◌||◌, true, eqb-true, None, ◌≤◌}
use Rattle.std.specs.List.{sum_by}
use Rattle.std.proofs.lemmas.List.Sums.{sum_by-cons, sum_by-set, sum_by_push}
use Rattle.std.proofs.lemmas.List.Folds.{sum_by-replicate}
use Rattle.std.proofs.Math.ListN.{get_or-map}
use Rattle.std.proofs.lemmas.Bool.{cases_eq, false≢true}
use Rattle.std.proofs.lemmas.Option.{same_Some}
use Rattle.std.proofs.lemmas.List.{length-map, map-set, map-append, set-get_or}
use Rattle.zp_model.specs.Zone.{PlainZone, Holding, PostedBlock, posted_to, posted_pages, workers_of, zone_opening, holding_at, pages_of}
use Rattle.zp_model.specs.Step.{handed_on, collected, step}
use Rattle.zp_model.specs.declared.migrate_type.MigrateType.{MigrateType}
use Rattle.zp_model.specs.declared.state.State.{State}
use Rattle.zp_model.specs.declared.state.State.TheVariants.{Tail, Out, Posted, Free}
use Rattle.zp_model.specs.Rows.{state_at, list_at, stands_in, front, rest, IsLoose}
use Rattle.zp_model.specs.Frames.{Frames, IsFramed}
use Rattle.zp_model.proofs.RowLists.{stands_end, end_others, front_stands}
use Rattle.zp_model.specs.declared.block.Block.{Block}
use Rattle.zp_model.specs.declared.request.Reply.{Reply}
use Rattle.zp_model.specs.declared.constants.TheConstants.{MAX_PAGES}
use Rattle.zp_model.specs.Block.{size}
use Rattle.zp_laws.proofs.Held.{IsHolding}
use Rattle.zp_laws.proofs.HandedOut.{held_below}
use Rattle.zp_laws.proofs.Steps.{post_lawful, collect_lawful}
use Rattle.zp_laws.proofs.AddingUp.{pages_add_up}
use Rattle.zp_zone.specs.Kept.{holding_of, posted_block, plain_of, IsPostedAside, IsKept, is_posted_to}
use Rattle.zp_zone.specs.NamedZone.{NamedZone}
use Rattle.zp_zone.proofs.Noted.{blocks_at, posted_of, posted_stay, kept_by, IsOffAll, off_apart, side_set, aside_by, posted_at}
use Rattle.zp_zone.proofs.BlockSteps.{IsAsked, named, held_off}
use Rattle.zp_model.specs.declared.request.Request.TheVariants as request

-- the pages of some blocks
abbrev pages_in : List PostedBlock → ℕ
pages_in ps = sum_by (λ (p : PostedBlock). 2 ^ p.order) ps

pub pages_none : (m base pages min workers : ℕ) → 0 ≡ posted_pages (zone_opening m base pages min workers)
unfolding posted_pages
pages_none m base pages min workers =
    let e : sum_by pages_in (replicate workers []) ≡ workers * 0 = sum_by-replicate pages_in workers [] in
    omega (arith, e)

-- a block more is posted
pub pages_posted : (z : PlainZone) (to h : ℕ) (x : Holding) → to < workers_of z → posted_pages (handed_on z to h (Some x)) ≡ posted_pages z + 2 ^ x.order
unfolding posted_pages
pages_posted z to h x lt =
    let p : PostedBlock = record { head = h; order = x.order; kind = x.kind } in
    let a = sum_by-set pages_in z.posted to (posted_to z to ++ p ∷ []) [] lt in
    let b = sum_by_push (λ (q : PostedBlock). 2 ^ q.order) (posted_to z to) p in
    omega (arith, a, b)

-- and one less
pub pages_collected : (z : PlainZone) (w : ℕ) (p : PostedBlock) (ps : List PostedBlock) → posted_to z w ≡ p ∷ ps → w < workers_of z →
    posted_pages (collected z w (p ∷ ps)).zone + 2 ^ p.order ≡ posted_pages z
unfolding posted_pages
pages_collected z w p ps e lt =
    let a = sum_by-set pages_in z.posted w ps [] lt in
    let b : pages_in (posted_to z w) ≡ pages_in (p ∷ ps) = ap pages_in e in
    let c = sum_by-cons (λ (q : PostedBlock). 2 ^ q.order) p ps in
    omega (arith, a, b, c)

-- the block at h, of order k and type t, is noted as posted to a worker, and stands at the end of the worker's list
abbrev pub posted_frames : Frames → ℕ → ℕ → ℕ → MigrateType → Frames
posted_frames f to h k t = record f { states = set f.states h (Posted k t to); sides = set f.sides to (list_at f.sides to ++ h ∷ []) }

-- the pages on the further lists are those noted as posted, when one more is noted and put at an end
aside_posted : (sides : List (List ℕ)) (s : List State) (h k to : ℕ) (t : MigrateType) → IsPostedAside sides s → IsOffAll sides h → h < length s → to < length sides →
    IsPostedAside (set sides to (list_at sides to ++ h ∷ [])) (set s h (Posted k t to))
aside_posted sides s h k to t x off here lt =
    aside_by sides (set sides to (list_at sides to ++ h ∷ [])) s h (Posted k t to) x
    (λ w. rw (get_or-set_same s h (Posted k t to) Tail here) (elim (cases_eq w to) [
      | inl e ↦ rw (e, get_or-set_same sides to (list_at sides to ++ h ∷ []) [] lt, stands_end h (list_at sides to)) (sym (eq-eqb to to refl))
      | inr ne ↦ rw (get_or-set_other sides to w (list_at sides to ++ h ∷ []) [] ne) (off w ∙ sym (ne_eqb to w (λ e. ne (sym e))))
    ]))
    (λ w p ne. side_set sides to w p (list_at sides to ++ h ∷ []) lt (end_others p h (list_at sides to) ne))

-- the block that is out at h is of this order and type, as the page's note says
pub record IsNotedOut (f : Frames) (base min w h k : ℕ) (t : MigrateType) : Type 0 where
  pub held : IsHolding (plain_of f base min) w h k
  pub here : h < length f.states
  pub at : holding_at (map holding_of f.states) h ≡ Some (record { order = k; kind = t; worker = w })

pub noted_out : (f : Frames) (base min w h k j v : ℕ) (t : MigrateType) → IsHolding (plain_of f base min) w h k → state_at f.states h ≡ Out j t v → IsNotedOut f base min w h k t
noted_out f base min w h k j v t x e =
    let y : Holding = record { order = j; kind = t; worker = v } in
    let at : holding_at (map holding_of f.states) h ≡ Some y = get_or-map holding_of f.states h Tail ∙ ap holding_of e in
    let same : x.holding ≡ y = same_Some x.holding y (sym x.at ∙ at) in
    let order : j ≡ k = sym (ap (λ (q : Holding). q.order) same) ∙ x.order in
    let worker : v ≡ w = sym (ap (λ (q : Holding). q.worker) same) ∙ x.worker in
    record {
      held = x;
      here = omega (arith, held_below (map holding_of f.states) h x.holding x.at, length-map f.states holding_of);
      at = at ∙ (λ i. Some (let z : Holding = record { order = order i; kind = t; worker = worker i } in z));
    }

pub plain-posted : (f : Frames) (base min w h k to : ℕ) (t : MigrateType) → IsAsked f base min → IsNotedOut f base min w h k t →
    plain_of (posted_frames f to h k t) base min ≡ handed_on (plain_of f base min) to h (holding_at (plain_of f base min).out h)
plain-posted f base min w h k to t x y =
    let z : PlainZone = plain_of f base min in
    let s2 : List State = set f.states h (Posted k t to) in
    let xs : List ℕ = list_at f.sides to in
    let block : PostedBlock = record { head = h; order = k; kind = t } in
    let stay : posted_of s2 f.sides ≡ posted_of f.states f.sides =
    posted_stay f.states s2 f.sides (λ r p e. get_or-set_other f.states h p (Posted k t to) Tail (off_apart f.sides h (held_off f base min w h k x y.held) r p e)) in
    let old : blocks_at s2 xs ≡ posted_to z to = sym (get_or-map (blocks_at s2) f.sides to []) ∙ ap (λ (ps : List (List PostedBlock)). get_or ps to []) stay in
    let one : blocks_at s2 (h ∷ []) ≡ block ∷ [] = ap (λ (q : State). posted_block h q ∷ []) (get_or-set_same f.states h (Posted k t to) Tail y.here) in
    let list : blocks_at s2 (xs ++ h ∷ []) ≡ posted_to z to ++ block ∷ [] = map-append (λ g. posted_block g (state_at s2 g)) xs (h ∷ []) ∙ (λ i. old i ++ one i) in
    let posts : posted_of s2 (set f.sides to (xs ++ h ∷ [])) ≡ set z.posted to (posted_to z to ++ block ∷ []) = map-set (blocks_at s2) f.sides to (xs ++ h ∷ []) ∙ (λ i. set (stay i) to (list i)) in
    (λ i. record z { out = map-set holding_of f.states h (Posted k t to) i; posted = posts i })
    ∙ ap (λ (o : Option Holding). handed_on z to h o) (sym y.at)

pub posted_kept : {count : ℕ} → (name : List ℕ) (f : Frames) (base min w h k to : ℕ) (t : MigrateType) → IsKept name f base min count → IsFramed f →
    IsNotedOut f base min w h k t → to < workers_of (plain_of f base min) → IsKept name (posted_frames f to h k t) base min (count + 2 ^ k)
posted_kept {count} name f base min w h k to t x y out lt =
    let asked : IsAsked f base min = record { framed = y; lawful = x.lawful } in
    let z : PlainZone = plain_of f base min in
    let same = plain-posted f base min w h k to t asked out in
    let held : Holding = record { order = k; kind = t; worker = w } in
    kept_by name f (posted_frames f to h k t) base min (count + 2 ^ k) x (length-set f.states h (Posted k t to)) (length-set f.sides to (list_at f.sides to ++ h ∷ []))
    (aside_posted f.sides f.states h k to t x.aside (held_off f base min w h k asked out.held) out.here (omega (arith, length-map f.sides (λ (ps : List ℕ). blocks_at f.states ps))))
    (ap (λ (v : ℕ). v + 2 ^ k) x.counted ∙ sym (pages_posted z to h held lt) ∙ ap (λ (o : Option Holding). posted_pages (handed_on z to h o)) (sym out.at) ∙ ap posted_pages (sym same))
    (rw same (post_lawful z to h x.lawful lt))

-- the block at h, of order k and type t, leaves the front of worker w's list, and is noted as out to the worker
abbrev pub collected_frames : Frames → ℕ → ℕ → ℕ → MigrateType → Frames
collected_frames f w h k t = record f { states = set f.states h (Out k t w); sides = set f.sides w (rest (list_at f.sides w)) }

-- where a list has a front, and where it has none
front_some : (xs : List ℕ) (h : ℕ) → Some h ≡ front xs → xs ≡ h ∷ rest xs
front_some [] h e = cc
front_some (x ∷ xs) h e = let same : h ≡ x = cc in ap (λ n. n ∷ xs) (sym same)

front_none : (xs : List ℕ) → None ≡ front xs → xs ≡ []
front_none [] e = refl
front_none (x ∷ xs) e = cc

-- nothing is posted to the worker: nothing changes
pub none_left : (f f2 : Frames) (w : ℕ) → None ≡ front (list_at f.sides w) → f2 ≡ record f { sides = set f.sides w (rest (list_at f.sides w)) } → f2 ≡ f
none_left f f2 w e e2 =
    let empty : list_at f.sides w ≡ [] = front_none (list_at f.sides w) e in
    let same : set f.sides w (rest (list_at f.sides w)) ≡ f.sides = ap (λ (ys : List ℕ). set f.sides w (rest ys)) empty ∙ ap (set f.sides w) (sym empty) ∙ set-get_or f.sides w [] in
    e2 ∙ ap (λ (ls : List (List ℕ)). let g : Frames = record f { sides = ls } in g) same

-- the page in front is noted as posted to the worker
posted_noted : (w : ℕ) (s : State) → is_posted_to w s ≡ true → (k : ℕ) × (t : MigrateType) × (s ≡ Posted k t w)
posted_noted w Tail e = absurd (false≢true e)
posted_noted w (Free k) e = absurd (false≢true e)
posted_noted w (Out k t v) e = absurd (false≢true e)
posted_noted w (Posted k t v) e = (k, t, ap (λ n. Posted k t n) (eqb-true v w e))

pub front_noted : (f : Frames) (w h : ℕ) → IsPostedAside f.sides f.states → Some h ≡ front (list_at f.sides w) → (k : ℕ) × (t : MigrateType) × (state_at f.states h ≡ Posted k t w)
front_noted f w h x e = posted_noted w (state_at f.states h) (sym (x w h) ∙ front_stands (list_at f.sides w) (Some h) e)

-- the block in front of worker w's list is (h, k), of type t, and stands on no further list once it is taken off
pub record IsFront (f : Frames) (w h k : ℕ) (t : MigrateType) : Type 0 where
  pub front : Some h ≡ front (list_at f.sides w)
  pub noted : state_at f.states h ≡ Posted k t w
  pub here : h < length f.states
  pub loose : IsLoose (set f.sides w (rest (list_at f.sides w))) h

module _ (f : Frames) (base min w h k : ℕ) (t : MigrateType) (x : IsFront f w h k t) where
  -- what is posted to the worker begins with the block
  first_block : posted_to (plain_of f base min) w ≡ record { head = h; order = k; kind = t } ∷ blocks_at f.states (rest (list_at f.sides w))
  first_block =
      posted_at f base min w
      ∙ ap (blocks_at f.states) (front_some (list_at f.sides w) h x.front)
      ∙ ap (λ (q : State). posted_block h q ∷ blocks_at f.states (rest (list_at f.sides w))) x.noted

  pub plain-collected : plain_of (collected_frames f w h k t) base min ≡ (step (plain_of f base min) w request.Collect).zone
  plain-collected =
      let z : PlainZone = plain_of f base min in
      let s2 : List State = set f.states h (Out k t w) in
      let ys : List ℕ = rest (list_at f.sides w) in
      let ls : List (List ℕ) = set f.sides w ys in
      let posts : posted_of s2 ls ≡ set z.posted w (blocks_at f.states ys) =
      posted_stay f.states s2 ls (λ r p e. get_or-set_other f.states h p (Out k t w) Tail (off_apart ls h x.loose r p e)) ∙ map-set (blocks_at f.states) f.sides w ys in
      (λ i. record z { out = map-set holding_of f.states h (Out k t w) i; posted = posts i })
      ∙ ap (λ ps. (collected z w ps).zone) (sym first_block)

  pub collected_reply : (p : ℕ) → p ≡ base + h → Reply.Block (record { page = p; order = k; kind = t }) ≡ (step (plain_of f base min) w request.Collect).reply
  collected_reply p e = ap (λ (q : ℕ). Reply.Block (let b : Block = record { page = q; order = k; kind = t } in b)) e ∙ ap (λ ps. (collected (plain_of f base min) w ps).reply) (sym first_block)

  -- the number of the posted pages falls by those of the block
  pub pages_left : w < workers_of (plain_of f base min) → posted_pages (plain_of (collected_frames f w h k t) base min) + 2 ^ k ≡ posted_pages (plain_of f base min)
  pages_left lt =
      let z : PlainZone = plain_of f base min in
      let b : PostedBlock = record { head = h; order = k; kind = t } in
      ap (λ (q : PlainZone). posted_pages q + 2 ^ k) plain-collected
      ∙ ap (λ (qs : List PostedBlock). posted_pages (collected z w qs).zone + 2 ^ k) first_block
      ∙ pages_collected z w b (blocks_at f.states (rest (list_at f.sides w))) first_block lt

-- the pages on the further lists are those noted as posted, when one leaves its list and is noted as out
aside_collected : (f : Frames) (w h k : ℕ) (t : MigrateType) → IsPostedAside f.sides f.states → IsFront f w h k t → w < length f.sides →
    IsPostedAside (set f.sides w (rest (list_at f.sides w))) (set f.states h (Out k t w))
aside_collected f w h k t x y lt =
    aside_by f.sides (set f.sides w (rest (list_at f.sides w))) f.states h (Out k t w) x
    (λ v. y.loose v ∙ sym (ap (is_posted_to v) (get_or-set_same f.states h (Out k t w) Tail y.here)))
    (λ v p ne.
    side_set f.sides w v p (rest (list_at f.sides w)) lt
    (sym (ap (stands_in p) (front_some (list_at f.sides w) h y.front) ∙ ap (λ b. b || stands_in p (rest (list_at f.sides w))) (ne_eqb p h ne))))

pub collected_kept : {count : ℕ} → (name : List ℕ) (f : Frames) (base min w h k : ℕ) (t : MigrateType) → IsKept name f base min count → IsFront f w h k t →
    w < workers_of (plain_of f base min) → IsKept name (collected_frames f w h k t) base min (count - 2 ^ k)
collected_kept {count} name f base min w h k t x y lt =
    kept_by name f (collected_frames f w h k t) base min (count - 2 ^ k) x (length-set f.states h (Out k t w)) (length-set f.sides w (rest (list_at f.sides w)))
    (aside_collected f w h k t x.aside y (omega (arith, length-map f.sides (λ (ps : List ℕ). blocks_at f.states ps))))
    (omega (arith, x.counted, pages_left f base min w h k t y lt))
    (rw (plain-collected f base min w h k t y) (collect_lawful (plain_of f base min) w x.lawful lt))

pub front_block : (f : Frames) (w h k v : ℕ) (t : MigrateType) → IsPostedAside f.sides f.states → Some h ≡ front (list_at f.sides w) → state_at f.states h ≡ Posted k t v →
    h < length f.states → IsLoose (set f.sides w (rest (list_at f.sides w))) h → IsFront f w h k t
front_block f w h k v t x e s lt loose =
    let r = front_noted f w h x e in
    let same : v ≡ w = worker_of r.0 r.1 (sym s ∙ r.2) in
    record { front = e; noted = s ∙ ap (λ n. Posted k t n) same; here = lt; loose = loose }
  where
    worker_of : (j : ℕ) (u : MigrateType) → Posted k t v ≡ Posted j u w → v ≡ w
    worker_of j u e = cc

pub posted_within : (name : List ℕ) (f : Frames) (base min count : ℕ) → IsKept name f base min count → size f.area.free + count ≤ length f.area.free
posted_within name f base min count x =
    let n : count ≡ posted_pages (plain_of f base min) = x.counted in
    omega (arith, pages_add_up (plain_of f base min) x.lawful)

pub posted_few : (name : List ℕ) (f : Frames) (base min count : ℕ) → IsKept name f base min count → count ≤ MAX_PAGES
posted_few name f base min count x =
    let a : size f.area.free + count ≤ length f.area.free = posted_within name f base min count x in
    let b : length (map holding_of f.states) ≡ length f.area.free = x.lawful.places in
    let c : length (map holding_of f.states) ≡ length f.states = length-map f.states holding_of in
    let d : length f.states ≤ MAX_PAGES = x.pages in
    omega arith

-- the same, in the words of a zone that contracts see
pub within_in : (Z : NamedZone) (name : List ℕ) (f : Frames) (base min count : ℕ) → named name (plain_of f base min) ≡ Z → IsKept name f base min count →
    size Z.plain.area.free + count ≤ pages_of Z.plain
within_in Z name f base min count e x =
    rw (← e) (posted_within name f base min count x)
