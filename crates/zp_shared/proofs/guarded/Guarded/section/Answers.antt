use Rattle.std.proofs.Common.{sym, ap, arith, subst, ◌∙◌}
use Rattle.zp_share.specs.Shares.{ZoneKey, share_at, workers_at}
use Rattle.zp_share.proofs.Asking.{may_more}
use Rattle.zp_shared.specs.Rows.{GuardedZone, board_at}
use Rattle.zp_shared.proofs.Guarding.{IsAfter, Parts, after, counts_held, has_room, not_lent_left, seat_at, told, told_full}
use Rattle.zp_shared.proofs.guarded.Guarded.section.Given.{Over}
use Rattle.zp_shared.proofs.guarded.Guarded.section.Goals as goal

pub section-reply-requires-clause-seat : goal.section-reply-requires-clause-seat
section-reply-requires-clause-seat g c = seat_at g.J.Naming.zones c.self.inside.place c.self.inside.zone c.args.share.now c.self.invariant.0 c.requires.fits

pub section-reply-requires-clause-may : goal.section-reply-requires-clause-may
section-reply-requires-clause-may g c =
    may_more _ _ c.args.share.now.batch c.args.share.now.batch c.args.request.now _ _
    (ap (λ (v : GuardedZone). workers_at g.J.Naming.zones v.place) (sym c.self.view_is) ∙ sym (ap (λ (k : ZoneKey). k.workers) c.self.invariant.0))
    (ap (λ (v : GuardedZone). share_at c.args.share.now v.place) (sym c.self.view_is)) (omega arith) c.requires.may

pub note-requires-clause-room : goal.note-requires-clause-room
note-requires-clause-room g c =
    let p : Parts _ = record { place = c.self.inside.place; zone = c.self.inside.zone; journal = c.self.inside.journal; publisher = c.self.inside.publisher } in
    let room =
    has_room g.K.Keeps.capacity g.K.Keeps.bounds g.K.Keeps.handed g.K.Keeps.keeps g.J.Naming.zones g.J.Naming.boards p c.args.board.now c.is_full-board_is_full.result c.is_full.result c.self.invariant (told g.K.Keeps.capacity g.K.Keeps.bounds g.K.Keeps.handed g.K.Keeps.keeps g.J.Naming.boards c.args.self.now p c.args.board.now c.is_full-board_is_full.result c.is_full.result c.self.view_is c.requires.board c.is_full-board_is_full.ensures.full c.is_full.ensures.full c.is_full.ensures.within) c.if-is_full.false in
    ((board_at g.J.Naming.boards c.self.inside.place).capacity, c.self.inside.zone, c.self.invariant.1, room.0)

pub note-requires-clause-board_room : goal.note-requires-clause-board_room
note-requires-clause-board_room g c =
    let p : Parts _ = record { place = c.self.inside.place; zone = c.self.inside.zone; journal = c.self.inside.journal; publisher = c.self.inside.publisher } in
    let room =
    has_room g.K.Keeps.capacity g.K.Keeps.bounds g.K.Keeps.handed g.K.Keeps.keeps g.J.Naming.zones g.J.Naming.boards p c.args.board.now c.is_full-board_is_full.result c.is_full.result c.self.invariant (told g.K.Keeps.capacity g.K.Keeps.bounds g.K.Keeps.handed g.K.Keeps.keeps g.J.Naming.boards c.args.self.now p c.args.board.now c.is_full-board_is_full.result c.is_full.result c.self.view_is c.requires.board c.is_full-board_is_full.ensures.full c.is_full.ensures.full c.is_full.ensures.within) c.if-is_full.false in
    omega (arith, room.0, room.1, c.self.invariant.5.many)

pub note-requires-clause-counts : goal.note-requires-clause-counts
note-requires-clause-counts g c =
    let p : Parts _ = record { place = c.self.inside.place; zone = c.self.inside.zone; journal = c.self.inside.journal; publisher = c.self.inside.publisher } in
    counts_held g.K.Keeps.capacity g.K.Keeps.bounds g.K.Keeps.handed g.K.Keeps.keeps g.J.Naming.zones g.J.Naming.boards c.args.request.now c.section-reply.result p c.section-reply.new.zone c.args.share.now c.section-reply.new.self
    c.self.invariant c.section-reply.ensures.section

-- where no section was made
left : (g : Over) (c : goal.After-check g) →
    IsAfter g.K.Keeps.capacity g.K.Keeps.bounds g.K.Keeps.handed g.K.Keeps.keeps g.J.Naming.zones g.J.Naming.boards c.args.request.now c.section-reply.result c.args.self.now
    (let n : Parts _ = record { place = c.self.inside.place; zone = c.section-reply.new.zone; journal = c.self.inside.journal; publisher = c.self.inside.publisher } in n) c.args.share.now c.section-reply.new.self
left g c =
    let p : Parts _ = record { place = c.self.inside.place; zone = c.self.inside.zone; journal = c.self.inside.journal; publisher = c.self.inside.publisher } in
    let room =
    has_room g.K.Keeps.capacity g.K.Keeps.bounds g.K.Keeps.handed g.K.Keeps.keeps g.J.Naming.zones g.J.Naming.boards p c.args.board.now c.is_full-board_is_full.result c.is_full.result c.self.invariant (told g.K.Keeps.capacity g.K.Keeps.bounds g.K.Keeps.handed g.K.Keeps.keeps g.J.Naming.boards c.args.self.now p c.args.board.now c.is_full-board_is_full.result c.is_full.result c.self.view_is c.requires.board c.is_full-board_is_full.ensures.full c.is_full.ensures.full c.is_full.ensures.within) c.if-is_full.false in
    let full = told_full g.K.Keeps.capacity g.K.Keeps.bounds g.K.Keeps.handed g.K.Keeps.keeps g.J.Naming.zones g.J.Naming.boards p c.args.board.now c.is_full-board_is_full.result c.is_full.result c.self.invariant (told g.K.Keeps.capacity g.K.Keeps.bounds g.K.Keeps.handed g.K.Keeps.keeps g.J.Naming.boards c.args.self.now p c.args.board.now c.is_full-board_is_full.result c.is_full.result c.self.view_is c.requires.board c.is_full-board_is_full.ensures.full c.is_full.ensures.full c.is_full.ensures.within) in
    not_lent_left g.K.Keeps.capacity g.K.Keeps.bounds g.K.Keeps.handed g.K.Keeps.keeps g.J.Naming.zones g.J.Naming.boards c.args.request.now c.section-reply.result c.args.self.now p c.section-reply.new.zone c.args.share.now c.section-reply.new.self c.self.invariant c.requires.fits
    c.self.view_is (sym full ∙ c.if-is_full.false) (omega (arith, room.1, c.is_full-board_is_full.ensures.within)) c.section-reply.ensures.others c.section-reply.ensures.section
    (sym c.is_section.ensures ∙ c.if-not-is_section.true) c.check.ensures.agrees

-- and then both were checked
checked : (g : Over) (c : goal.After-check g) →
    IsAfter g.K.Keeps.capacity g.K.Keeps.bounds g.K.Keeps.handed g.K.Keeps.keeps g.J.Naming.zones g.J.Naming.boards c.args.request.now c.section-reply.result c.args.self.now
    (let n : Parts _ = record { place = c.self.inside.place; zone = c.check.new.zone; journal = c.self.inside.journal; publisher = c.self.inside.publisher } in n) c.args.share.now c.check.new.self
checked g c =
    subst (λ z. IsAfter g.K.Keeps.capacity g.K.Keeps.bounds g.K.Keeps.handed g.K.Keeps.keeps g.J.Naming.zones g.J.Naming.boards c.args.request.now c.section-reply.result c.args.self.now
    (let n : Parts _ = record { place = c.self.inside.place; zone = z; journal = c.self.inside.journal; publisher = c.self.inside.publisher } in n) c.args.share.now c.check.new.self) (sym c.check.ensures.zone)
    (subst (λ t. IsAfter g.K.Keeps.capacity g.K.Keeps.bounds g.K.Keeps.handed g.K.Keeps.keeps g.J.Naming.zones g.J.Naming.boards c.args.request.now c.section-reply.result c.args.self.now
    (let n : Parts _ = record { place = c.self.inside.place; zone = c.section-reply.new.zone; journal = c.self.inside.journal; publisher = c.self.inside.publisher } in n) c.args.share.now t) (sym c.check.ensures.share) (left g c))

pub invariant_of-self : goal.invariant_of-self
invariant_of-self g c = (checked g c).guarded

pub returns-then-not-is_section : goal.returns-then-not-is_section
returns-then-not-is_section g c = (checked g c).asked

-- where one was
made : (g : Over) (c : goal.After-note g) →
    IsAfter g.K.Keeps.capacity g.K.Keeps.bounds g.K.Keeps.handed g.K.Keeps.keeps g.J.Naming.zones g.J.Naming.boards c.args.request.now c.section-reply.result c.args.self.now
    (let n : Parts _ = record { place = c.self.inside.place; zone = c.section-reply.new.zone; journal = c.note.new.journal; publisher = c.note.new.publisher } in n) c.args.share.now c.section-reply.new.self
made g c =
    let p : Parts _ = record { place = c.self.inside.place; zone = c.self.inside.zone; journal = c.self.inside.journal; publisher = c.self.inside.publisher } in
    let full = told_full g.K.Keeps.capacity g.K.Keeps.bounds g.K.Keeps.handed g.K.Keeps.keeps g.J.Naming.zones g.J.Naming.boards p c.args.board.now c.is_full-board_is_full.result c.is_full.result c.self.invariant (told g.K.Keeps.capacity g.K.Keeps.bounds g.K.Keeps.handed g.K.Keeps.keeps g.J.Naming.boards c.args.self.now p c.args.board.now c.is_full-board_is_full.result c.is_full.result c.self.view_is c.requires.board c.is_full-board_is_full.ensures.full c.is_full.ensures.full c.is_full.ensures.within) in
    after g.K.Keeps.capacity g.K.Keeps.bounds g.K.Keeps.handed g.K.Keeps.keeps g.J.Naming.zones g.J.Naming.boards c.args.request.now c.section-reply.result c.args.self.now p c.section-reply.new.zone c.note.new.journal c.note.new.publisher c.args.share.now c.section-reply.new.self
    (record {
      guarded = c.self.invariant;
      fits = c.requires.fits;
      others = c.section-reply.ensures.others;
      asked = c.section-reply.ensures.section;
      is_section = sym c.is_section.ensures ∙ c.if-not-is_section.false;
      kept = c.note.ensures.kept;
      room = c.note.ensures.capacity;
      handed_over = c.note.ensures.handed;
      history = c.history.ensures;
      tie = c.note.ensures.tie;
      published = c.note.ensures.published;
    })
    c.self.view_is (sym full ∙ c.if-is_full.false)

pub invariant_of-self-2 : goal.invariant_of-self-2
invariant_of-self-2 g c = (made g c).guarded

pub returns : goal.returns
returns g c = (made g c).asked
