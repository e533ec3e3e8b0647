-- What a put that is refused leaves, and that one which is not found room.
use Rattle.std.proofs.Common.{ℕ, ◌≡◌, ◌<◌, ◌≤◌, ◌∙◌, Bool, true, false, cond, length, refl, ap, arith}
use Rattle.std.specs.Prelude.{Ok, Err, IfErr, OnOk, Result, ltb, ◌==◌}
use Rattle.std.proofs.lemmas.Bool.{ltb-true}
use Rattle.std.proofs.lemmas.List.{set-get_or}
use Rattle.zp_model.specs.Bounds.{AreLists}
use Rattle.zp_model.specs.declared.refused.Refused.{Refused}
use Rattle.zp_model.specs.declared.refused.Refused.TheVariants.{NotLent, ListFull}
use Rattle.zp_share.specs.declared.page_use.PageUse.{PageUse}
use Rattle.zp_share.specs.declared.page_use.PageUse.TheVariants.{Away, Lent, Cached}
use Rattle.zp_share.specs.PlainShares.{PlainZoneShare, Putting, list_of, put, putting_as, used_as}
use Rattle.zp_share.specs.ZoneShares.{ZoneShareState, opening_share, plain_share}
use Rattle.zp_share.specs.Shares.{ShareState, no_seat, share_at, with_zone_share}
use Rattle.zp_gate.specs.GatedWorkers.{IsPut}

-- a put of a page that is lent: whether as one of order 0, and whether its list has room
abbrev tried : Bool → Bool → PlainZoneShare → PlainZoneShare → Putting
tried a b s t = cond a (cond b (record { answer = Ok tt; share = t }) (record { answer = Err ListFull; share = s })) (record { answer = Err NotLent; share = s })

-- one that was done found room, which is P; one that was refused changed nothing
abbrev IsSo : Type 0 → PlainZoneShare → PlainZoneShare → Result (Unit {0}) Refused → Type 0
IsSo P s t answer = OnOk answer P × IfErr answer (λ _. t ≡ s)

tried_so : (P : Type 0) (a b : Bool) (s t : PlainZoneShare) → (b ≡ true → P) → IsSo P s (tried a b s t).share (tried a b s t).answer
tried_so P true true s t room = (room refl, tt)
tried_so P true false s t room = (tt, refl)
tried_so P false b s t room = (tt, refl)

so_as : (u : PageUse) (p high : ℕ) (s : PlainZoneShare) → IsSo (0 < high) s (putting_as u p high s).share (putting_as u p high s).answer
so_as (Lent k t) p high s = tried_so (0 < high) (k == 0) (ltb (length (list_of s t)) high) s (put p t s) (λ is. let few = ltb-true (length (list_of s t)) high is in omega (arith, few))
so_as Away p high s = (tt, refl)
so_as (Cached t) p high s = (tt, refl)

so : (page : ℕ) (s t : ShareState) (r : Result (Unit {0}) Refused) → IsPut page r s t → IsSo (0 < s.high_len) (plain_share (share_at s 0)) (plain_share (share_at t 0)) r
so page s t r is = rw (is.after, is.answer) (so_as (used_as (plain_share (share_at s 0)) page) page s.high_len (plain_share (share_at s 0)))

same_share : (s t : ZoneShareState) → t.seat ≡ s.seat → plain_share t ≡ plain_share s → t ≡ s
same_share s t seat plain = λ i. record { seat = seat i; uses = (plain i).uses; cached = (plain i).cached; sections = (plain i).sections }

-- a put that is refused leaves the share as it was
pub stays : (page : ℕ) (e : Refused) (s t : ShareState) → IsPut page (Err e) s t → t ≡ s
stays page e s t is =
    is.others ∙ ap (λ (x : ZoneShareState). with_zone_share 0 x s) (same_share (share_at s 0) (share_at t 0) is.seat (so page s t (Err e) is).1)
    ∙ (λ i. record s { zones = set-get_or s.zones 0 (opening_share no_seat 0) i })

-- where a page was put on a list, there are lists
pub has_lists : (page : ℕ) (s t : ShareState) → AreLists s.batch s.high_len → IsPut page (Ok tt) s t → 1 ≤ s.batch
has_lists page s t lists is = let room = (so page s t (Ok tt) is).0 in grind (arith, room, lists.none)
