use Rattle.std.proofs.Common.{◌∙◌, ◌<◌, ap, arith, length, sym, refl, Ok}
use Rattle.zp_share.specs.ZoneShares.{cached_of}
use Rattle.zp_share.specs.Shares.{ShareState, share_at}
use Rattle.zp_share.proofs.Carrying.{moved_fits}
use Rattle.zp_share.proofs.Freeing.{put_freed, freed, lent_still, makes_no_room, room_is, still_room}
use Rattle.zp_share.proofs.commands.free.Goals as goal

pub returns-then-len-high_len-clause-fits : goal.returns-then-len-high_len-clause-fits
returns-then-len-high_len-clause-fits g c =
    moved_fits (g.Z.Zones.keys c.args.zones.now) c.args.share.now c.put_lent.new.self c.args.zone c.requires.fits c.put_lent.ensures.others c.put_lent.ensures.seat

pub returns-then-len-high_len-clause-freed : goal.returns-then-len-high_len-clause-freed
returns-then-len-high_len-clause-freed g c =
    let s = c.args.share.now in
    let n = c.put_lent.new.self in
    let on = sym c.is_listed.ensures ∙ c.if-not-is_listed.false in
    let some : length (cached_of (share_at s c.args.zone) c.in-Some.kind) < s.high_len = omega arith in
    let left = still_room s n c.args.zone c.args.page c.in-Some.kind c.cached_len-len.ensures.share c.put_lent.ensures.after (omega arith) in
    put_freed (g.Z.Zones.ended c.args.zones.now c.args.zone n) s s n n c.args.zone c.args.page c.args.order s.batch s.high_len c.in-Some.kind (Ok tt)
    c.in-Some.ensures.kind on (room_is s.batch s.high_len c.in-Some.kind (share_at s c.args.zone) some) c.put_lent.ensures.after c.put_lent.ensures.seat refl refl
    (room_is s.batch s.high_len c.in-Some.kind (share_at n c.args.zone) left) tt (λ e. absurd cc) tt

pub returns-then-len-high_len-clause-told : goal.returns-then-len-high_len-clause-told
returns-then-len-high_len-clause-told g c =
    λ rows e.
    let s = c.args.share.now in
    let n = c.put_lent.new.self in
    let on = sym c.is_listed.ensures ∙ c.if-not-is_listed.false in
    let some : length (cached_of (share_at s c.args.zone) c.in-Some.kind) < s.high_len = omega arith in
    let left = still_room s n c.args.zone c.args.page c.in-Some.kind c.cached_len-len.ensures.share c.put_lent.ensures.after (omega arith) in
    freed rows s s n n c.args.zone c.args.page c.args.order c.in-Some.kind tt (Ok tt) (g.Z.Zones.told c.args.zones.now) (g.Z.Zones.told c.args.zones.now)
    c.in-Some.ensures.kind on (makes_no_room rows s c.args.zone c.in-Some.kind _ e some) (lent_still s s c.args.zone c.args.page c.args.order c.in-Some.kind (λ q j. refl) c.in-Some.ensures.kind on) some c.put_lent.ensures.others c.put_lent.ensures.after
    (λ rows2 e2. makes_no_room rows2 n c.args.zone c.in-Some.kind _ e2 (omega (arith, left, ap (λ (v : ShareState). v.high_len) c.put_lent.ensures.others)))
