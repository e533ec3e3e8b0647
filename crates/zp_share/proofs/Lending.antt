-- A block out of a zone or one below it, and a page off a list: what is lent then, and what is done.
use Rattle.std.specs.Option.{ok_or}
use Rattle.std.proofs.lemmas.Bool.{cases_eq}
use Rattle.std.proofs.Common.{ℕ, ◌+◌, ◌==◌, ◌&&◌, not, ◌≡◌, ◌≢◌, ◌<◌, ◌≤◌, inl, inr, refl, sym, ◌∙◌, ap, subst, arith, Bool, true, cond, List, [], ◌∷◌, ◌++◌, length, All, Option, Result, Ok, Some, Err, false, zero, suc}
use Rattle.std.proofs.lemmas.List.{get_or-set_same, length-append, nil_from_length}
use Rattle.zp_model.specs.declared.mark.Mark.{Mark}
use Rattle.zp_model.specs.declared.migrate_type.MigrateType.{MigrateType}
use Rattle.zp_model.specs.declared.refused.Refused.{Refused}
use Rattle.zp_model.specs.declared.refused.Refused.TheVariants.{NoBlock, JournalFull}
use Rattle.zp_model.specs.declared.request.Reply.{Reply}
use Rattle.zp_model.specs.MigrateType.{type_number}
use Rattle.zp_model.specs.Rows.{front, stands_in}
use Rattle.zp_model.specs.declared.request.Request.{Request}
use Rattle.zp_model.specs.declared.request.Request.TheVariants.{Refill}
use Rattle.zp_model.proofs.Settles.{stands_first}
use Rattle.zp_zone.specs.NamedZone.{NamedZone}
use Rattle.zp_model.specs.declared.request.Request.TheVariants as request
use Rattle.zp_share.specs.declared.page_use.PageUse.{PageUse}
use Rattle.zp_share.specs.declared.page_use.PageUse.TheVariants.{Away, Lent, Cached}
use Rattle.zp_share.specs.PageUses.{is_lent_as, use_of, all_as}
use Rattle.zp_share.specs.PlainShares.{lends, taken, taken_at, own_at, list_of}
use Rattle.zp_share.specs.ZoneShares.{ZoneShareState, IsAllocRefusal, IsShare, IsNew, use_in, is_lent, cached_of, answered, plain_share}
use Rattle.zp_share.specs.Shares.{ShareState, AreAskedDown, AreAskedTo, IsAskedFor, IsGivenBy, IsGivenIn, IsSameShare, HasSameLent, is_section, noted, page_request, share_at, with_zone_share, noted_at, IsDone, plain, world}
use Rattle.zp_share.specs.declared.commands.Lent.{Lent as LentBlock}
use Rattle.zp_share.specs.Commands.{World, Done, told_as, and_then, done_answer, section, is_listed, alloc_in, alloc_listed, alloc_down, goes_down, lent_in, take_front, front_answer}
use Rattle.zp_share.proofs.Carrying.{here, elsewhere, noted_one, same_lent, same_lent_but, own-plain, moved, told_as_is, then_ok}
use Rattle.zp_share.proofs.OneUse.{use-set_other, use-all_as}
use Rattle.zp_share.proofs.Listing.{standing_of_all, number_in, standing_cached, standing_in}
use Rattle.zp_share.proofs.Closing.{listing}

-- a list from which a page can be taken, and what changed to have it
pub record IsFilled (i : ℕ) (t : MigrateType) (s v : ShareState) : Type 0 where
  pub lent : HasSameLent s v
  pub elsewhere : (j : ℕ) → j ≢ i → share_at v j ≡ share_at s j
  pub some : 1 ≤ length (cached_of (share_at v i) t)

pub filled_before : (s v : ShareState) (i n : ℕ) (t : MigrateType) → v ≡ s → n ≡ length (cached_of (share_at s i) t) → n ≢ 0 → IsFilled i t s v
filled_before s v i n t same len ne =
    subst (λ u. IsFilled i t s u) (sym same) (record { lent = λ j p k. refl; elsewhere = λ j other. refl; some = omega (arith, len, ne) })

-- no page of a refill was lent
lent_by : (k : ℕ) (t : MigrateType) (b : Bool) (u : PageUse) → (b ≡ true → u ≡ Away) → is_lent_as k (cond b (Cached t) u) ≡ is_lent_as k u
lent_by k t b u f = grind arith

lent-cached : (s : ZoneShareState) (t : MigrateType) (ps : List ℕ) (p k : ℕ) → All (IsNew s) ps →
    is_lent_as k (use_of s.seat.part.base (all_as s.seat.part.base (Cached t) ps s.uses) p) ≡ is_lent s p k
lent-cached s t ps p k new =
    ap (is_lent_as k) (use-all_as s.seat.part.base p (Cached t) ps s.uses (λ q e. (standing_of_all (IsNew s) ps new q e).place))
    ∙ lent_by k t (stands_in p ps) (use_in s p) (λ e. (standing_of_all (IsNew s) ps new p e).away)

pub filled_now : (s v : ShareState) (i n : ℕ) (t : MigrateType) (m : Mark) (ps : List ℕ) → i < length s.zones → IsShare (share_at s i) →
    v ≡ noted_at i (request.Refill t m n) (Reply.Pages ps) s → All (IsNew (share_at s i)) ps → 1 ≤ length ps → IsFilled i t s v
filled_now s v i n t m ps lt whole is new some =
    let z : ZoneShareState = share_at s i in
    let x : ZoneShareState = answered (request.Refill t m n) (Reply.Pages ps) z in
    let on : cached_of x t ≡ ps ++ cached_of z t = get_or-set_same z.cached (type_number t) (ps ++ cached_of z t) [] (number_in z.seat.part.base z.uses z.cached t (listing z whole)) in
    let many : length (cached_of x t) ≡ length ps + length (cached_of z t) = ap length on ∙ length-append ps (cached_of z t) in
    let at : length (cached_of (share_at (with_zone_share i x s) i) t) ≡ length (cached_of x t) = ap (λ y. length (cached_of y t)) (here s i x lt) in
    subst (λ u. IsFilled i t s u) (sym is)
    (record {
      lent = same_lent s i x lt (λ p k. lent-cached z t ps p k new);
      elsewhere = λ j ne. elsewhere s i j x ne;
      some = omega (arith, some, many, at);
    })

-- what the share has of the zone of a request is noted there, and elsewhere all stays
pub noted_here : (s u : ShareState) (i : ℕ) (r : Request) (q : Reply) → i < length s.zones → u ≡ noted_at i r q s → share_at u i ≡ noted r q (share_at s i)
noted_here s u i r q lt is = ap (λ w. share_at w i) (is ∙ noted_one s i r q) ∙ here s i (noted r q (share_at s i)) lt

pub noted_elsewhere : (s u : ShareState) (i j : ℕ) (r : Request) (q : Reply) → j ≢ i → u ≡ noted_at i r q s → share_at u j ≡ share_at s j
noted_elsewhere s u i j r q ne is = ap (λ w. share_at w j) (is ∙ noted_one s i r q) ∙ elsewhere s i j (noted r q (share_at s i)) ne

-- the request for a page, where lists serve it and where they do not
pub request_listed : (s : ShareState) (k : ℕ) (t : MigrateType) (m : Mark) → is_listed (plain s) k ≡ true → page_request s k t m ≡ request.Refill t m s.batch
request_listed s k t m on = ap (λ b. cond b (request.Refill t m s.batch) (request.Alloc k t m)) on

-- a page off a list that had some, and off one that was filled first
pub given_before : (k : ℕ) (t : MigrateType) (m : Mark) (i n : ℕ) (s v u : ShareState) → is_listed (plain s) k ≡ true → n ≡ length (cached_of (share_at s i) t) → n ≢ 0 → v ≡ s →
    plain_share (share_at u i) ≡ taken t (plain_share (share_at v i)) → (p : ℕ) → IsGivenIn k t m i p s u
given_before k t m i n s v u on len ne same after p = go (is_listed (plain s) k) (cached_of (share_at s i) t) on len
  where
    go : (b : Bool) (l : List ℕ) → b ≡ true → n ≡ length l → IsGivenBy b l (page_request s k t m) t p (share_at s i) (share_at u i)
    go false l e len = absurd (let no : false ≡ true = e in cc)
    go true [] e len = absurd (ne len)
    go true (q ∷ qs) e len = after ∙ ap (λ w. taken t (plain_share (share_at w i))) same

pub given_now : (k : ℕ) (t : MigrateType) (m : Mark) (i n : ℕ) (ps : List ℕ) (s v u : ShareState) → i < length s.zones → is_listed (plain s) k ≡ true → n ≡ length (cached_of (share_at s i) t) → n ≡ 0 →
    v ≡ noted_at i (request.Refill t m s.batch) (Reply.Pages ps) s → plain_share (share_at u i) ≡ taken t (plain_share (share_at v i)) → (p : ℕ) → IsGivenIn k t m i p s u
given_now k t m i n ps s v u lt on len none is after p =
    subst (λ l. IsGivenBy (is_listed (plain s) k) l (page_request s k t m) t p (share_at s i) (share_at u i)) (sym (nil_from_length (cached_of (share_at s i) t) (sym len ∙ none)))
    (subst (λ b. IsGivenBy b [] (page_request s k t m) t p (share_at s i) (share_at u i)) (sym on)
    (ps, after ∙ ap (λ y. taken t (plain_share y)) (noted_here s v i (request.Refill t m s.batch) (Reply.Pages ps) lt is ∙ ap (λ r. answered r (Reply.Pages ps) (share_at s i)) (sym (request_listed s k t m on)))))

-- the front of such a list, taken and lent: it was cached
pub taken_asked : (k : ℕ) (m : Mark) (s v u : ShareState) (i : ℕ) (t : MigrateType) (o : Option ℕ) (r : Result ℕ Refused) → i < length v.zones → IsFilled i t s v → IsShare (share_at v i) →
    u ≡ with_zone_share i (share_at u i) v → plain_share (share_at u i) ≡ taken t (plain_share (share_at v i)) → o ≡ front (cached_of (share_at v i) t) → r ≡ ok_or o NoBlock →
    ((p : ℕ) → IsGivenIn k t m i p s u) → IsAskedFor k t m i r s u
taken_asked k m s v u i t o r lt full whole is after first answer given = go (cached_of (share_at v i) t) refl
  where
    go : (xs : List ℕ) → cached_of (share_at v i) t ≡ xs → IsAskedFor k t m i r s u
    go [] e = absurd (let none : length (cached_of (share_at v i) t) ≡ 0 = ap length e in omega (arith, none, full.some))
    go (p ∷ ps) e =
        let z : ZoneShareState = share_at v i in
        let on : stands_in p (cached_of z t) ≡ true = ap (stands_in p) e ∙ stands_first p ps in
        let cached : use_in z p ≡ Cached t = standing_cached z.seat.part.base p z.uses z.cached t (listing z whole) on in
        let place = standing_in z.seat.part.base (type_number t) p z.uses z.cached (listing z whole) on in
        let now : plain_share (share_at u i) ≡ taken_at t (p ∷ ps) (plain_share z) = after ∙ ap (λ l. taken_at t l (plain_share z)) e in
        let others : (q l : ℕ) → q ≢ p → is_lent (share_at u i) q l ≡ is_lent z q l = λ q l ne. ap (λ y. lends y q l) now ∙ ap (is_lent_as l) (use-set_other z.seat.part.base p q (Lent 0 t) z.uses place.from ne) in
        let got : r ≡ Ok p = answer ∙ ap (λ q. ok_or q NoBlock) (first ∙ ap front e) in
        subst (λ q. IsAskedFor k t m i q s u) (sym got)
        (record {
          fresh = λ l. sym (full.lent i p l) ∙ ap (is_lent_as l) cached;
          others = λ j q l ne. ap (λ y. is_lent (share_at y j) q l) is ∙ same_lent_but v i p (share_at u i) lt others j q l ne ∙ full.lent j q l;
          left = tt;
          given = given p;
          refused = tt;
          elsewhere = λ j ne. ap (λ y. share_at y j) is ∙ elsewhere v i j (share_at u i) ne ∙ full.elsewhere j ne;
        })

-- a zone that gives a block, or refuses it 30, is the last that is asked, and so is the lowest
pub stops : (k : ℕ) (t : MigrateType) (m : Mark) (n : ℕ) (w : World) (r : Result ℕ Refused) (b : Result LentBlock Refused) (told : Option (List NamedZone)) (u : ShareState) →
    IsDone (alloc_in w n k t m) r told u → (n ≢ 0 → goes_down r ≡ false) → b ≡ lent_in n k r → IsDone (alloc_down k t m n w) b told u
stops k t m zero w r b told u x g e = told_as_is (lent_in 0 k) (alloc_in w 0 k t m) r b told u x e
stops k t m (suc i) w r b told u x g e =
    let d : Done (Result ℕ Refused) = alloc_in w (suc i) k t m in
    let on : alloc_down k t m (suc i) w ≡ told_as (lent_in (suc i) k) d =
    ap (λ q. cond q (alloc_down k t m i d.world) (told_as (lent_in (suc i) k) d)) (ap goes_down (sym x.answer) ∙ g (λ z. absurd (omega (arith, z)))) in
    subst (λ y. IsDone y b told u) (sym on) (told_as_is (lent_in (suc i) k) d r b told u x e)

-- each refusal but 30 leaves the block to the zones below
pub goes_on : (e : Refused) → (e ≡ JournalFull → ⊥) → goes_down (Err e) ≡ true
goes_on e ne = grind arith

-- a zone above the lowest that refuses otherwise leaves it to those below
pub down_below : (k : ℕ) (t : MigrateType) (m : Mark) (n i : ℕ) (w : World) (e : Refused) (mid : Option (List NamedZone)) (v : ShareState) (b : Result LentBlock Refused) (told : Option (List NamedZone))
    (u : ShareState) → n ≡ suc i → IsDone (alloc_in w n k t m) (Err e) mid v → goes_down (Err e) ≡ true →
    ((rows : List NamedZone) → mid ≡ Some rows → IsDone (alloc_down k t m i (world rows v)) b told u) → IsDone (alloc_down k t m n w) b told u
down_below k t m n i w e mid v b told u same x g rest =
    let d : Done (Result ℕ Refused) = alloc_in w (suc i) k t m in
    let y : IsDone d (Err e) mid v = subst (λ j. IsDone (alloc_in w j k t m) (Err e) mid v) same x in
    let on : alloc_down k t m (suc i) w ≡ alloc_down k t m i (world d.world.zones v) =
    ap (λ q. cond q (alloc_down k t m i d.world) (told_as (lent_in (suc i) k) d)) (ap goes_down (sym y.answer) ∙ g)
    ∙ ap (λ p. let c : World = record { zones = d.world.zones; share = p } in alloc_down k t m i c) (sym y.share) in
    subst (λ j. IsDone (alloc_down k t m j w) b told u) (sym same) (subst (λ y. IsDone y b told u) (sym on) (rest d.world.zones y.zones))

-- the front of a list, taken and lent
pub takes : (rows : List NamedZone) (s u : ShareState) (i : ℕ) (t : MigrateType) (r : Result ℕ Refused) (told : Option (List NamedZone)) → told ≡ Some rows →
    u ≡ with_zone_share i (share_at u i) s → plain_share (share_at u i) ≡ taken t (plain_share (share_at s i)) → r ≡ front_answer (cached_of (share_at s i) t) →
    IsDone (take_front (world rows s) i t) r told u
takes rows s u i t r told z e g a = record {
  answer = a ∙ ap (λ x. front_answer (list_of x t)) (sym (own-plain s i));
  zones = z;
  share = moved s u i (taken t) e g;
}

pub front_ok : (xs : List ℕ) (o : Option ℕ) (r : Result ℕ Refused) → r ≡ ok_or o NoBlock → o ≡ front xs → r ≡ front_answer xs
front_ok xs o r e f = grind arith

-- a block of a listed order comes from the list
listed : (w : World) (i k : ℕ) (t : MigrateType) (m : Mark) → is_listed w.share k ≡ true → alloc_in w i k t m ≡ alloc_listed (list_of (own_at w.share i) t) w i t m
listed w i k t m e = rw e refl

some_on : (xs : List ℕ) (w : World) (i : ℕ) (t : MigrateType) (m : Mark) → (length xs ≡ 0 → ⊥) → alloc_listed xs w i t m ≡ take_front w i t
some_on xs w i t m ne = grind arith

length-own : (s : ShareState) (i : ℕ) (t : MigrateType) → length (list_of (own_at (plain s) i) t) ≡ length (cached_of (share_at s i) t)
length-own s i t = ap (λ x. length (list_of x t)) (own-plain s i)

-- from a list that has a page
pub from_list : (rows : List NamedZone) (s u v : ShareState) (i k n : ℕ) (t : MigrateType) (m : Mark) (r : Result ℕ Refused) (told mid : Option (List NamedZone)) → mid ≡ Some rows →
    is_listed (plain s) k ≡ true → n ≡ length (cached_of (share_at s i) t) → (n ≡ 0 → ⊥) → told ≡ mid → v ≡ s →
    u ≡ with_zone_share i (share_at u i) v → plain_share (share_at u i) ≡ taken t (plain_share (share_at v i)) → r ≡ front_answer (cached_of (share_at v i) t) →
    IsDone (alloc_in (world rows s) i k t m) r told u
from_list rows s u v i k n t m r told mid z on len ne same share e g a =
    let w : World = world rows s in
    let is : alloc_in w i k t m ≡ take_front w i t = listed w i k t m on ∙ some_on (list_of (own_at (plain s) i) t) w i t m (λ q. ne (len ∙ sym (length-own s i t) ∙ q)) in
    subst (λ y. IsDone y r told u) (sym is)
    (takes rows s u i t r told (same ∙ z) (e ∙ ap (with_zone_share i (share_at u i)) share) (g ∙ ap (λ x. taken t (plain_share (share_at x i))) share)
    (a ∙ ap (λ x. front_answer (cached_of (share_at x i) t)) share))

-- from a list that is refilled first
pub from_refill : (rows : List NamedZone) (s u v x : ShareState) (i k n : ℕ) (t : MigrateType) (m : Mark) (ps : List ℕ) (r : Result ℕ Refused) (told mid : Option (List NamedZone)) →
    is_listed (plain s) k ≡ true → n ≡ length (cached_of (share_at s i) t) → n ≡ 0 → IsDone (section (world rows s) i (Refill t m s.batch)) (Reply.Pages ps) mid x → told ≡ mid → v ≡ x →
    u ≡ with_zone_share i (share_at u i) v → plain_share (share_at u i) ≡ taken t (plain_share (share_at v i)) → r ≡ front_answer (cached_of (share_at v i) t) →
    IsDone (alloc_in (world rows s) i k t m) r told u
from_refill rows s u v x i k n t m ps r told mid on len none d same share e g a =
    let w : World = world rows s in
    let f : Unit {0} → World → Done (Result ℕ Refused) = λ _ y. take_front y i t in
    let sec : Done (Result (Unit {0}) Refused) = told_as done_answer (section w i (Refill t m s.batch)) in
    let is : alloc_in w i k t m ≡ and_then sec f =
    listed w i k t m on ∙ ap (λ xs. alloc_listed xs w i t m) (nil_from_length (list_of (own_at (plain s) i) t) (length-own s i t ∙ sym len ∙ none)) in
    let y : IsDone (section w i (Refill t m s.batch)) (Reply.Pages ps) told v = record { answer = d.answer; zones = same ∙ d.zones; share = ap plain share ∙ d.share } in
    subst (λ y. IsDone y r told u) (sym is)
    (then_ok sec f tt (Ok tt) told v r told u (told_as_is done_answer (section w i (Refill t m s.batch)) (Reply.Pages ps) (Ok tt) told v y refl) refl
    (λ rows2 e2. takes rows2 v u i t r told e2 e g a))

-- a request for a page is the same after a zone was asked
same_request : (k : ℕ) (t : MigrateType) (m : Mark) (s v : ShareState) → IsSameShare s v → page_request v k t m ≡ page_request s k t m
same_request k t m s v x = ap (λ b. cond ((k == 0) && not (b == 0)) (request.Refill t m b) (request.Alloc k t m)) x.batch

-- a refusal but 30 is a section
section_but_full : (e : Refused) → IsAllocRefusal e → (e ≡ JournalFull → ⊥) → is_section (Reply.Refused e) ≡ true
section_but_full e why ne = grind (arith, why)

-- so it is one more zone that was asked in vain
more_above : (r : Request) (j n i : ℕ) (e : Refused) (s v u : ShareState) → n ≡ i + 1 → AreAskedTo r j i v u → is_section (Reply.Refused e) ≡ true → share_at v n ≡ noted r (Reply.Refused e) (share_at s n) →
    ((h : ℕ) → h ≢ n → share_at v h ≡ share_at s h) → ((h : ℕ) → i < h → share_at u h ≡ share_at v h) → AreAskedTo r j n s u
more_above r j n i e s v u next x section now elsewhere above = record {
  within = omega (arith, next, x.within);
  above = λ h lo hi.
      elim (cases_eq h n) [
        | inl same ↦ (
          e,
          (
            section,
            above h (omega (arith, next, same)) ∙ subst (λ g. share_at v g ≡ answered r (Reply.Refused e) (share_at s g)) (sym same) (now ∙ ap (λ b. cond b (answered r (Reply.Refused e) (share_at s n)) (share_at s n)) section),
          ),
        )
        | inr other ↦
            let w = x.above h lo (omega (arith, next, hi, other)) in
            (w.0, (w.1.0, w.1.1 ∙ ap (answered r (Reply.Refused w.0)) (elsewhere h other)))
      ];
  below = λ h lt. x.below h lt ∙ elsewhere h (λ same. omega (arith, next, x.within, lt, same));
}

-- it refused, and the zones below it were asked
pub asked_below : (k : ℕ) (t : MigrateType) (m : Mark) (n i : ℕ) (e : Refused) (b : Result LentBlock Refused) (s v u : ShareState) → n ≡ i + 1 → IsSameShare s v → IsAllocRefusal e → (e ≡ JournalFull → ⊥) →
    IsAskedFor k t m n (Err e) s v → ((h : ℕ) → i < h → share_at u h ≡ share_at v h) → AreAskedDown k t m i b v u → AreAskedDown k t m n b s u
asked_below k t m n i e b s v u next same why ne x above y = go b y
  where
    r : Request
    r = page_request s k t m

    to : (j : ℕ) → AreAskedTo (page_request v k t m) j i v u → AreAskedTo r j n s u
    to j z = more_above r j n i e s v u next (subst (λ q. AreAskedTo q j i v u) (same_request k t m s v same) z) (section_but_full e why ne) x.refused x.elsewhere above

    below : (j : ℕ) → j ≤ i → share_at v j ≡ share_at s j
    below j le = x.elsewhere j (λ q. omega (arith, next, le, q))

    go : (b : Result LentBlock Refused) → AreAskedDown k t m i b v u → AreAskedDown k t m n b s u
    go (Ok l) z = (
      to l.zone z.0,
      subst (λ f. IsGivenBy ((k == 0) && not (f == 0)) (cached_of (share_at s l.zone) t) (cond ((k == 0) && not (f == 0)) (request.Refill t m f) (request.Alloc k t m)) t l.page (share_at s l.zone) (share_at u l.zone)) same.batch
          (subst (λ (g : ZoneShareState). IsGivenBy (is_listed (plain v) k) (cached_of g t) (page_request v k t m) t l.page g (share_at u l.zone)) (below l.zone z.0.within) z.1),
    )
    go (Err f) z = (
      z.0,
      (
        to z.0 z.1.0,
        z.1.1,
        z.1.2 ∙ ap (λ q. noted q (Reply.Refused f) (share_at v z.0)) (same_request k t m s v same) ∙ ap (noted r (Reply.Refused f)) (below z.0 z.1.0.within),
      ),
    )
