-- A block given back: to its zone, or to the front of its list.
use Rattle.std.proofs.Common.{ℕ, inl, inr, ◌⊎◌, ◌<◌, ◌≡◌, ◌+◌, ◌∷◌, [], arith, refl, sym, ◌∙◌, ap, subst, List, length, Option, Some, Result, Ok, Err, OnOk, OnErr, IfErr, true, false, cond}
use Rattle.std.proofs.lemmas.Bool.{lt-leb, lt-ltb}
use Rattle.std.proofs.lemmas.Bool.Decides.{eqb_tells}
use Rattle.std.proofs.lemmas.List.{get_or-set_same}
use Rattle.zp_model.specs.MigrateType.{type_number}
use Rattle.zp_model.specs.declared.migrate_type.MigrateType.{MigrateType}
use Rattle.zp_model.specs.declared.refused.Refused.{Refused}
use Rattle.zp_model.specs.declared.refused.Refused.TheVariants.{JournalFull}
use Rattle.zp_model.specs.declared.request.Request.TheVariants.{Free}
use Rattle.zp_model.proofs.TypeNumbers.{type_number_below}
use Rattle.zp_zone.specs.NamedZone.{NamedZone}
use Rattle.zp_share.specs.declared.page_use.PageUse.TheVariants.{Away, Cached}
use Rattle.zp_share.specs.PageUses.{is_lent_as}
use Rattle.zp_share.specs.PlainShares.{PlainZoneShare, PlainShare, Putting, used_as, list_of, lends, lent_kind, put, putting}
use Rattle.zp_share.specs.ZoneShares.{ZoneShareState, IsShare, plain_share, use_in, is_lent, cached_of}
use Rattle.zp_share.specs.Commands.{World, Done, done, told_as, and_then, done_answer, section, is_listed, drain_full, put_page, free_listed, free_as, free_in}
use Rattle.zp_share.specs.Shares.{ShareState, HasSameLentBut, IsDone, IsFreedBy, IsFreedIn, share_at, with_room, with_zone_share, plain, world}
use Rattle.zp_share.proofs.OneUse.{in_by_use, use-set, use-set_other, lent_use}
use Rattle.zp_share.proofs.Carrying.{own-plain, moved, same_lent_but, then_ok}

-- a page that is put on its list is lent no more
put_away : (x : PlainZoneShare) (p k : ℕ) (t : MigrateType) → (used_as x p ≡ Away → ⊥) → lends (put p t x) p k ≡ false
put_away x p k t ne = ap (is_lent_as k) (use-set x.base p (Cached t) x.uses (in_by_use x.base p x.uses ne))

pub put_gone : (s u : ShareState) (i p k : ℕ) (t : MigrateType) → lent_kind (use_in (share_at s i) p) 0 ≡ Some t →
    plain_share (share_at u i) ≡ put p t (plain_share (share_at s i)) → is_lent (share_at u i) p k ≡ false
put_gone s u i p k t e f = ap (λ x. lends x p k) f ∙ put_away (plain_share (share_at s i)) p k t (λ away. let none = rw away at e in cc)

-- and no other block is
pub put_others : (s u : ShareState) (i p : ℕ) (t : MigrateType) → i < length s.zones → lent_kind (use_in (share_at s i) p) 0 ≡ Some t → u ≡ with_zone_share i (share_at u i) s →
    plain_share (share_at u i) ≡ put p t (plain_share (share_at s i)) → HasSameLentBut i p s u
put_others s u i p t lt e o f j q k ne =
    let x : PlainZoneShare = plain_share (share_at s i) in
    let from = (in_by_use x.base p x.uses (λ away. let none = rw away at e in cc)).from in
    ap (λ v. is_lent (share_at v j) q k) o
    ∙ same_lent_but s i p (share_at u i) lt (λ v n other. ap (λ y. lends y v n) f ∙ ap (is_lent_as n) (use-set_other x.base p v (Cached t) x.uses from other)) j q k ne

-- a lent page of order 0 is put on its list, where that has room
put_done : (x : PlainZoneShare) (p high : ℕ) (t : MigrateType) → lent_kind (used_as x p) 0 ≡ Some t → length (list_of x t) < high →
    putting x p high ≡ record { answer = Ok tt; share = put p t x }
put_done x p high t e lt = rw (lent_use (used_as x p) 0 t e, lt-ltb (length (list_of x t)) high lt) refl

pub puts : (rows : List NamedZone) (s u : ShareState) (i p : ℕ) (t : MigrateType) (told : Option (List NamedZone)) → told ≡ Some rows →
    lent_kind (use_in (share_at s i) p) 0 ≡ Some t → length (cached_of (share_at s i) t) < s.high_len → u ≡ with_zone_share i (share_at u i) s →
    plain_share (share_at u i) ≡ put p t (plain_share (share_at s i)) → IsDone (put_page (world rows s) i p) (Ok tt) told u
puts rows s u i p t told z e lt o g =
    let is = put_done (plain_share (share_at s i)) p s.high_len t e lt in
    record {
      answer = sym (ap (λ x. (putting x p s.high_len).answer) (own-plain s i) ∙ ap (λ (d : Putting). d.answer) is);
      zones = z;
      share = moved s u i (λ x. (putting x p s.high_len).share) o (g ∙ sym (ap (λ (d : Putting). d.share) is));
    }

-- pages alone are listed
listed_zero : (s : PlainShare) (k : ℕ) → is_listed s k ≡ true → k ≡ 0
listed_zero s k on = elim (eqb_tells k 0) [ inl w ↦ w.1 | inr w ↦ let none = rw w.0 at on in absurd cc ]

-- a page that was lent is lent still, where a drain left the types of the lent blocks
pub lent_still : (s m : ShareState) (i p k : ℕ) (t : MigrateType) → ((q j : ℕ) → lent_kind (use_in (share_at m i) q) j ≡ lent_kind (use_in (share_at s i) q) j) →
    Some t ≡ lent_kind (use_in (share_at s i) p) k → is_listed (plain s) k ≡ true → lent_kind (use_in (share_at m i) p) 0 ≡ Some t
lent_still s m i p k t kinds e on = kinds p 0 ∙ ap (λ j. lent_kind (use_in (share_at s i) p) j) (sym (listed_zero (plain s) k on)) ∙ sym e

-- a page of a listed order goes to the list of its type
pub free_on : (rows : List NamedZone) (s : ShareState) (i p k : ℕ) (t : MigrateType) → Some t ≡ lent_kind (use_in (share_at s i) p) k → is_listed (plain s) k ≡ true →
    free_in (world rows s) i p k ≡ free_listed (world rows s) i p t
free_on rows s i p k t e on =
    let w : World = world rows s in
    ap (λ x. free_as (lent_kind (used_as x p) k) w i p k) (own-plain s i)
    ∙ ap (λ o. free_as o w i p k) (sym e)
    ∙ ap (λ b. cond b (free_listed w i p t) (told_as done_answer (section w i (Free p k)))) on

-- what comes after the first drain, and what comes after the page is put
abbrev pub after_room : ℕ → ℕ → MigrateType → Unit {0} → World → Done (Result (Unit {0}) Refused)
after_room i p t _ v = and_then (put_page v i p) (λ _ u. done (Ok tt) (drain_full u i t).world)

-- the page is put, and what becomes of the second drain is passed over
pub freed : (rows : List NamedZone) (s m n u : ShareState) (i p k : ℕ) (t : MigrateType) (a : Unit {0}) (r : Result (Unit {0}) Refused) (mid last : Option (List NamedZone)) →
    Some t ≡ lent_kind (use_in (share_at s i) p) k → is_listed (plain s) k ≡ true → IsDone (drain_full (world rows s) i t) (Ok a) mid m →
    lent_kind (use_in (share_at m i) p) 0 ≡ Some t → length (cached_of (share_at m i) t) < m.high_len → n ≡ with_zone_share i (share_at n i) m →
    plain_share (share_at n i) ≡ put p t (plain_share (share_at m i)) →
    ((rows : List NamedZone) → mid ≡ Some rows → IsDone (drain_full (world rows n) i t) r last u) → IsDone (free_in (world rows s) i p k) (Ok tt) last u
freed rows s m n u i p k t a r mid last e on x lent lt f g z =
    subst (λ d. IsDone d (Ok tt) last u) (sym (free_on rows s i p k t e on))
    (then_ok (drain_full (world rows s) i t) (after_room i p t) a (Ok a) mid m (Ok tt) last u x refl
    (λ rows2 e2.
    then_ok (put_page (world rows2 m) i p) (λ _ v. done (Ok tt) (drain_full v i t).world) tt (Ok tt) mid n (Ok tt) last u (puts rows2 m n i p t mid e2 lent lt f g) refl
    (λ rows3 e3. let d = z rows3 e3 in record { answer = refl; zones = d.zones; share = d.share })))

-- a lent page went to its list: share s made room and was m, the page came and it was n, and it made room again and is u, or was refused that
pub put_freed : (R : Type 0) (s m n u : ShareState) (i p k batch high : ℕ) (t : MigrateType) (r : Result (Unit {0}) Refused) → Some t ≡ lent_kind (use_in (share_at s i) p) k →
    is_listed (plain s) k ≡ true → share_at m i ≡ with_room s.batch s.high_len t (share_at s i) → plain_share (share_at n i) ≡ put p t (plain_share (share_at m i)) →
    (share_at n i).seat ≡ (share_at m i).seat → batch ≡ s.batch → high ≡ s.high_len → OnOk r (share_at u i ≡ with_room batch high t (share_at n i)) →
    OnErr r (u ≡ n) → (r ≡ Err JournalFull → R) → IfErr r (λ e. e ≡ JournalFull) → IsFreedIn R i p k s u
put_freed R s m n u i p k batch high t r e on made page seat b h ok err why only =
    subst (λ l. IsFreedBy l R s.batch s.high_len p k (share_at s i) (share_at u i)) (sym on) (
      t,
      (
        sym e,
        record {
          listed = share_at n i;
          put = page ∙ ap (λ x. put p t (plain_share x)) made;
          seat = seat ∙ ap (λ (x : ZoneShareState). x.seat) made;
          rest = rest r ok err why only;
        },
      ),
    )
  where
    rest : (r : Result (Unit {0}) Refused) → OnOk r (share_at u i ≡ with_room batch high t (share_at n i)) → OnErr r (u ≡ n) → (r ≡ Err JournalFull → R) → IfErr r (λ e. e ≡ JournalFull) →
        (share_at u i ≡ with_room s.batch s.high_len t (share_at n i)) ⊎ (R × (share_at u i ≡ share_at n i))
    rest (Ok a) ok err why only = inl (ok ∙ ap (λ c. with_room c high t (share_at n i)) b ∙ ap (λ c. with_room s.batch c t (share_at n i)) h)
    rest (Err x) ok err why only = inr (why (ap Err only), ap (λ v. share_at v i) err)

-- a list that is not full makes no room, and stays
pub room_is : (n high : ℕ) (t : MigrateType) (x : ZoneShareState) → length (cached_of x t) < high → x ≡ with_room n high t x
room_is n high t x lt = rw (lt-leb high (length (cached_of x t)) lt) refl

pub makes_no_room : (rows : List NamedZone) (s : ShareState) (i : ℕ) (t : MigrateType) (told : Option (List NamedZone)) → told ≡ Some rows → length (cached_of (share_at s i) t) < s.high_len →
    IsDone (drain_full (world rows s) i t) (Ok tt) told s
makes_no_room rows s i t told e lt = rw (own-plain s i, lt-leb s.high_len (length (cached_of (share_at s i) t)) lt) (record { answer = refl; zones = e; share = refl })

-- a list with room for two has room once a page was put on it
pub still_room : (s n : ShareState) (i p : ℕ) (t : MigrateType) → IsShare (share_at s i) → plain_share (share_at n i) ≡ put p t (plain_share (share_at s i)) →
    length (cached_of (share_at s i) t) + 1 < s.high_len → length (cached_of (share_at n i) t) < s.high_len
still_room s n i p t whole e lt =
    let x : PlainZoneShare = plain_share (share_at s i) in
    let below = type_number_below t in
    let longer : length (cached_of (share_at n i) t) ≡ length (p ∷ list_of x t) =
    ap (λ y. length (list_of y t)) e ∙ ap length (get_or-set_same x.cached (type_number t) (p ∷ list_of x t) [] (omega (arith, below, whole.lists))) in
    omega (arith, longer)
