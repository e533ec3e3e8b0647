-- Pages given back: a drain changes no lent block, and the lists of all zones are given back zone by zone.
use Rattle.std.specs.List.{range_with_len}
use Rattle.std.proofs.Common.{ℕ, arith, ◌-◌, suc, ◌+◌, ◌≡◌, ◌≢◌, ◌<◌, ◌≤◌, refl, sym, ◌∙◌, ap, subst, Option, List, length, Result, Ok, Err, Bool, true, cond, Some}
use Rattle.zp_model.specs.declared.migrate_type.MigrateType.{MigrateType}
use Rattle.zp_model.specs.declared.refused.Refused.{Refused}
use Rattle.zp_model.specs.declared.request.Request.TheVariants.{Drain}
use Rattle.zp_model.specs.MigrateType.{type_number}
use Rattle.zp_model.specs.Rows.{stands_in}
use Rattle.zp_zone.specs.NamedZone.{NamedZone}
use Rattle.zp_model.specs.declared.request.Reply.TheVariants as reply
use Rattle.zp_share.specs.declared.page_use.PageUse.{PageUse}
use Rattle.zp_share.specs.declared.page_use.PageUse.TheVariants.{Away, Cached}
use Rattle.zp_share.specs.PageUses.{use_of, is_lent_as, all_as}
use Rattle.zp_share.specs.PlainShares.{back, lent_kind, list_of, own_at}
use Rattle.zp_share.specs.Commands.{World, Done, done, and_then, done_answer, section, drain_back, drain_pages, drain_list, drain_zone, drain_zones, drain_all}
use Rattle.zp_share.specs.ZoneShares.{ZoneShareState, IsShare, use_in, cached_of, answered}
use Rattle.zp_share.specs.Shares.{ShareState, HasSameLent, IsDone, plain, world, share_at, noted_at, is_section, IsSameShare}
use Rattle.zp_share.specs.Sections.{done_reply}
use Rattle.zp_share.proofs.Carrying.{here, noted_one, own-plain, then_ok, told_as_is, same_lent, then_err}
use Rattle.zp_share.proofs.OneUse.{use-all_as}
use Rattle.zp_share.proofs.Listing.{back_stands, standing_cached, standing_in}
use Rattle.zp_share.proofs.Closing.{listing}

-- a page at the back of a list is one of the zone, cached, and another keeps its use: what does not tell a cached page from one that is
-- away stays
same_by : {A : Type 0} → (f : PageUse → A) (t : MigrateType) (b : Bool) (u : PageUse) → f Away ≡ f (Cached t) → (b ≡ true → u ≡ Cached t) → f (cond b Away u) ≡ f u
same_by f t b u same is = grind arith

same-away : {A : Type 0} → (f : PageUse → A) (s : ZoneShareState) (t : MigrateType) (n p : ℕ) → f Away ≡ f (Cached t) → IsShare s → n ≤ length (cached_of s t) →
    f (use_of s.seat.part.base (all_as s.seat.part.base Away (back n (cached_of s t)) s.uses) p) ≡ f (use_in s p)
same-away f s t n p same x le =
    ap f
    (use-all_as s.seat.part.base p Away (back n (cached_of s t)) s.uses
    (λ q e. standing_in s.seat.part.base (type_number t) q s.uses s.cached (listing s x) (back_stands q n (cached_of s t) le e)))
    ∙ same_by f t (stands_in p (back n (cached_of s t))) (use_in s p) same
    (λ e. standing_cached s.seat.part.base p s.uses s.cached t (listing s x) (back_stands p n (cached_of s t) le e))

-- so a drain, done or refused, changes no lent block, and leaves its type
abbrev left : MigrateType → ℕ → Result (Unit {0}) Refused → ZoneShareState → ZoneShareState
left t n r z = let q = done_reply reply.Drained r in cond (is_section q) (answered (Drain t (back n (cached_of z t))) q z) z

same-left : {A : Type 0} → (f : PageUse → A) (z : ZoneShareState) (t : MigrateType) (n p : ℕ) (r : Result (Unit {0}) Refused) → f Away ≡ f (Cached t) → IsShare z → n ≤ length (cached_of z t) →
    f (use_in (left t n r z) p) ≡ f (use_in z p)
same-left f z t n p (Ok v) same x le = same-away f z t n p same x le
same-left f z t n p (Err e) same x le = go (is_section (reply.Refused e))
  where
    go : (b : Bool) → f (use_in (cond b (answered (Drain t (back n (cached_of z t))) (reply.Refused e) z) z) p) ≡ f (use_in z p)
    go b = grind arith

pub same_lent_drained : (s u : ShareState) (i n : ℕ) (t : MigrateType) (r : Result (Unit {0}) Refused) → i < length s.zones → IsShare (share_at s i) → n ≤ length (cached_of (share_at s i) t) →
    u ≡ noted_at i (Drain t (back n (cached_of (share_at s i) t))) (done_reply reply.Drained r) s → HasSameLent s u
same_lent_drained s u i n t r lt x le e =
    subst (λ w. HasSameLent s w) (sym (e ∙ noted_one s i (Drain t (back n (cached_of (share_at s i) t))) (done_reply reply.Drained r))) (same_lent s i (left t n r (share_at s i)) lt (λ p k. same-left (is_lent_as k) (share_at s i) t n p r refl x le))

pub same_kind_drained : (s u : ShareState) (i n : ℕ) (t : MigrateType) (r : Result (Unit {0}) Refused) → i < length s.zones → IsShare (share_at s i) → n ≤ length (cached_of (share_at s i) t) →
    u ≡ noted_at i (Drain t (back n (cached_of (share_at s i) t))) (done_reply reply.Drained r) s → (p k : ℕ) → lent_kind (use_in (share_at u i) p) k ≡ lent_kind (use_in (share_at s i) p) k
same_kind_drained s u i n t r lt x le e p k =
    ap (λ w. lent_kind (use_in (share_at w i) p) k) (e ∙ noted_one s i (Drain t (back n (cached_of (share_at s i) t))) (done_reply reply.Drained r))
    ∙ ap (λ y. lent_kind (use_in y p) k) (here s i (left t n r (share_at s i)) lt)
    ∙ same-left (λ y. lent_kind y k) (share_at s i) t n p r refl x le

-- so a whole list is given back
pub drained_list : (rows : List NamedZone) (s u : ShareState) (i n before : ℕ) (t : MigrateType) (told : Option (List NamedZone)) → n ≢ 0 → n ≡ length (cached_of (share_at s i) t) →
    IsDone (section (world rows s) i (Drain t (back n (cached_of (share_at s i) t)))) reply.Drained told u → IsDone (drain_list before (world rows s) i t) (Ok (before + n)) told u
drained_list rows s u i n before t told ne len d =
    let w : World = world rows s in
    let same : list_of (own_at (plain s) i) t ≡ cached_of (share_at s i) t = ap (λ x. list_of x t) (own-plain s i) in
    let rest : Unit {0} → World → Done (Result ℕ Refused) = λ _ v. done (Ok (before + n)) v in
    let is : drain_list before w i t ≡ and_then (drain_back w i t n) rest = ap (λ k. drain_pages before k w i t) (ap length same ∙ sym len) ∙ some n w ne in
    let asked : IsDone (section w i (Drain t (back n (list_of (own_at (plain s) i) t)))) reply.Drained told u =
    subst (λ ps. IsDone (section w i (Drain t (back n ps))) reply.Drained told u) (sym same) d in
    subst (λ y. IsDone y (Ok (before + n)) told u) (sym is)
    (then_ok (drain_back w i t n) rest tt (Ok tt) told u (Ok (before + n)) told u
    (told_as_is done_answer (section w i (Drain t (back n (list_of (own_at (plain s) i) t)))) reply.Drained (Ok tt) told u asked refl) refl
    (λ rows2 e2. record { answer = refl; zones = e2; share = refl }))
  where
    some : (n : ℕ) (w : World) → n ≢ 0 → drain_pages before n w i t ≡ and_then (drain_back w i t n) (λ _ v. done (Ok (before + n)) v)
    some n w ne = grind arith

-- the zones from place i on are left, and n pages were given back before
abbrev pub left_from : ℕ → ℕ → World → ℕ → Done (Result ℕ Refused)
left_from all n w i = drain_zones n w (range_with_len i (all - i))

-- so far as place i all went well: what is left to do, from here on, is what was to be done
pub record IsDrainedTo (start : World) (all n i : ℕ) (told : Option (List NamedZone)) (s : ShareState) : Type 0 where
  pub rows : List NamedZone
  pub known : told ≡ Some rows
  pub rest : drain_all start ≡ left_from all n (world rows s) i

-- the zone at place i comes first of what is left
next_left : (all n i : ℕ) (w : World) → i < all → left_from all n w i ≡ and_then (drain_zone n w i) (λ m v. left_from all m v (i + 1))
next_left all n i w lt = ap (λ k. drain_zones n w (range_with_len i k)) (let more : all - i ≡ suc (all - (i + 1)) = omega (arith, lt) in more)

pub drained_one : (start : World) (all n m i : ℕ) (told last : Option (List NamedZone)) (s u : ShareState) → i < all → IsDrainedTo start all n i told s →
    ((rows : List NamedZone) → told ≡ Some rows → IsDone (drain_zone n (world rows s) i) (Ok m) last u) → IsDrainedTo start all m (i + 1) last u
drained_one start all n m i told last s u lt x f =
    let d : IsDone (drain_zone n (world x.rows s) i) (Ok m) last u = f x.rows x.known in
    let after : World = (drain_zone n (world x.rows s) i).world in
    record {
      rows = after.zones;
      known = d.zones;
      rest =
          x.rest ∙ next_left all n i (world x.rows s) lt
          ∙ ap (λ q. and_then (done q after) (λ m v. left_from all m v (i + 1))) (sym d.answer)
          ∙ ap (λ p. let w : World = record { zones = after.zones; share = p } in left_from all m w (i + 1)) (sym d.share);
    }

pub drained_all : (start : World) (all n i : ℕ) (told : Option (List NamedZone)) (s : ShareState) → all ≤ i → IsDrainedTo start all n i told s → IsDone (drain_all start) (Ok n) told s
drained_all start all n i told s ge x =
    let on : drain_all start ≡ done (Ok n) (world x.rows s) = x.rest ∙ ap (λ k. drain_zones n (world x.rows s) (range_with_len i k)) (let none : all - i ≡ 0 = omega (arith, ge) in none) in
    subst (λ d. IsDone d (Ok n) told s) (sym on) (record { answer = refl; zones = x.known; share = refl })

pub drained_err : (start : World) (all n i : ℕ) (e : Refused) (told last : Option (List NamedZone)) (s u : ShareState) → i < all → IsDrainedTo start all n i told s →
    ((rows : List NamedZone) → told ≡ Some rows → IsDone (drain_zone n (world rows s) i) (Err e) last u) → IsDone (drain_all start) (Err e) last u
drained_err start all n i e told last s u lt x f =
    subst (λ d. IsDone d (Err e) last u) (sym (x.rest ∙ next_left all n i (world x.rows s) lt))
    (then_err (drain_zone n (world x.rows s) i) (λ m v. left_from all m v (i + 1)) e (Err e) last u (f x.rows x.known) refl)

pub same_share : (s u v : ShareState) → IsSameShare s u → IsSameShare u v → IsSameShare s v
same_share s u v x y = record { worker = y.worker ∙ x.worker; batch = y.batch ∙ x.batch; high_len = y.high_len ∙ x.high_len; places = y.places ∙ x.places }

-- one command after the other
pub same_lent_then : (s u v : ShareState) → HasSameLent s u → HasSameLent u v → HasSameLent s v
same_lent_then s u v f g i p k = g i p k ∙ f i p k
