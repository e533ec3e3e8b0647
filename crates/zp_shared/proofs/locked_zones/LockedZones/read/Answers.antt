use Rattle.std.proofs.Common.{◌≡◌, ◌<◌, ◌∙◌, List, ap, arith, length, refl, slice_index_or, slice_set, subst, sym}
use Rattle.std.proofs.lemmas.Grind.{get_or-set_at}
use Rattle.std.proofs.lemmas.List.{get_or_default, get_or-set_other}
use mathlib.Core.List.{IsPrefix}
use Rattle.zp_model.specs.declared.counts.Counts.{Counts}
use Rattle.zp_counts.specs.CountBoards.{BoardState}
use Rattle.zp_counts.specs.CountBoards.{CountsSeen, IsFreshRead, IsReadingOf, last_reading}
use Rattle.zp_shared.specs.Rows.{IsReadAt, ViewState, board_at, no_reader, seen_at, seen_by}
use Rattle.zp_shared.proofs.Readers.{reader_tie, readers_length, readers_set, seen_beside, seen_by_at, seen_here, seen_put, seen_set}
use Rattle.zp_shared.proofs.locked_zones.LockedZones.read.Given.{Over}
use Rattle.zp_shared.proofs.locked_zones.LockedZones.read.Goals as goal

pub read-requires : goal.read-requires
read-requires g c =
    ap (λ (r : CountsSeen). r.tie) c.index_mut.ensures.value
    ∙ reader_tie g.J.Naming.zones g.J.Naming.boards c.self.inside.readers.items _ c.index_mut.result.now c.self.invariant.1 (omega (arith, c.requires))
    ∙ sym (ap (λ (b : BoardState). b.tie) (c.board-board.ensures ∙ ap (board_at g.J.Naming.boards) (omega (arith, c.shared_at.ensures))))

pub invariant_of-self : goal.invariant_of-self
invariant_of-self g c =
    let more = subst (λ (r : CountsSeen). IsPrefix r.seen c.read.new.self.seen) c.index_mut.ensures.value c.read.ensures.seen in
    let same = c.read.ensures.tie ∙ ap (λ (r : CountsSeen). r.tie) c.index_mut.ensures.value in (
      c.self.invariant.0,
      readers_set g.J.Naming.zones g.J.Naming.boards c.self.inside.readers.items _ c.read.new.self c.index_mut.result.now c.self.invariant.1 same,
      seen_set g.E.Earlier.seen c.self.inside.readers.items _ c.read.new.self c.index_mut.result.now c.self.invariant.2 more,
    )

pub returns-clause-last : goal.returns-clause-last
returns-clause-last g c =
    let many = readers_length g.J.Naming.zones g.J.Naming.boards c.self.inside.readers.items c.self.invariant.1 in
    c.read.ensures.last ∙ ap last_reading (sym (seen_here c.self.inside.readers.items c.args.zone c.read.new.self (omega (arith, many, c.requires))))

before : (g : Over) (c : goal.After-self-1 g) → c.index_mut.result.now ≡ slice_index_or c.self.inside.readers.items c.args.zone no_reader
before g c =
    let rs : List CountsSeen = c.self.inside.readers.items in
    let many = readers_length g.J.Naming.zones g.J.Naming.boards rs c.self.invariant.1 in
    c.index_mut.ensures.value ∙ get_or_default rs c.args.zone c.index_mut.result.now no_reader (omega (arith, many, c.requires))

after : (g : Over) (c : goal.After-self-1 g) → slice_index_or (slice_set c.self.inside.readers.items c.args.zone c.read.new.self) c.args.zone no_reader ≡ c.read.new.self
after g c =
    let rs : List CountsSeen = c.self.inside.readers.items in
    let many = readers_length g.J.Naming.zones g.J.Naming.boards rs c.self.invariant.1 in
    get_or-set_at rs c.args.zone c.args.zone c.read.new.self no_reader refl (omega (arith, many, c.requires))

pub returns-clause-read : goal.returns-clause-read
returns-clause-read g c =
    let rs : List CountsSeen = c.self.inside.readers.items in
    let i = c.args.zone in
    let more = subst (λ (r : CountsSeen). IsPrefix r.seen c.read.new.self.seen) c.index_mut.ensures.value c.read.ensures.seen in
    let was : ViewState = record { readers = rs; strayed = c.self.inside.strayed } in
    let now : ViewState = record { readers = slice_set rs i c.read.new.self; strayed = c.self.inside.strayed } in
    subst (λ (v : ViewState). IsReadAt i v now) c.self.view_is
    (let read : IsReadAt i was now = record {
      seen = seen_put rs i c.read.new.self c.index_mut.result.now more i;
      fresh = subst (λ (p : CountsSeen × CountsSeen). IsFreshRead p.0 p.1) (λ k. (before g c k, sym (after g c) k)) c.read.ensures.fresh;
      others = λ j other. get_or-set_other rs i j c.read.new.self no_reader other;
      unseen = λ j other. seen_beside rs i j c.read.new.self other;
      strayed = refl;
    } in read)

-- what is then seen at the place is what its reader has seen
seen_now : (g : Over) (c : goal.After-self-1 g) → seen_at (seen_by (slice_set c.self.inside.readers.items c.args.zone c.read.new.self)) c.args.zone ≡ c.read.new.self.seen
seen_now g c =
    let many = readers_length g.J.Naming.zones g.J.Naming.boards c.self.inside.readers.items c.self.invariant.1 in
    seen_here c.self.inside.readers.items c.args.zone c.read.new.self (omega (arith, many, c.requires))

pub returns-clause-some : goal.returns-clause-some
returns-clause-some g c = subst (λ (cs : List Counts). 0 < length cs) (sym (seen_now g c)) c.read.ensures.some

pub returns-clause-taken : goal.returns-clause-taken
returns-clause-taken g c = subst (λ (cs : List Counts). IsReadingOf cs c.read.result) (sym (seen_now g c)) c.read.ensures.taken

pub returns-clause-kept : goal.returns-clause-kept
returns-clause-kept g c =
    λ r was.
    subst (λ (cs : List Counts). IsReadingOf cs r) (sym (seen_now g c))
    (c.read.ensures.kept r
    (let many = readers_length g.J.Naming.zones g.J.Naming.boards c.self.inside.readers.items c.self.invariant.1 in
    subst (λ (cs : List Counts). IsReadingOf cs r)
    (seen_by_at c.self.inside.readers.items c.args.zone c.index_mut.result.now (omega (arith, many, c.requires)) ∙ ap (λ (k : CountsSeen). k.seen) (sym c.index_mut.ensures.value))
    (subst (λ (v : ViewState). IsReadingOf (seen_at (seen_by v.readers) c.args.zone) r) (sym c.self.view_is) was)))
