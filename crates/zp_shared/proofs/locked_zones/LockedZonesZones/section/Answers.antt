use Rattle.std.proofs.Common.{◌≡◌, ◌<◌, ◌∙◌, List, false, true, ap, arith, length, subst, sym}
use Rattle.std.specs.Prelude.{slice_set}
use Rattle.std.proofs.lemmas.List.{length-map}
use mathlib.Core.List.{IsPrefix}
use Rattle.zp_counts.specs.CountBoards.{BoardState}
use Rattle.zp_counts.specs.CountBoards.{CountsSeen}
use Rattle.zp_share.specs.PlainShares.{lends_for}
use Rattle.zp_share.specs.Shares.{IsShareOf, ShareState, ZoneKey, is_section, share_at}
use Rattle.zp_share.specs.ZoneShares.{ZoneShareState, plain_share}
use Rattle.zp_shared.specs.Rows.{GuardedZone, HasReadAfter, IsReadAfter, ViewState, board_at}
use Rattle.zp_shared.proofs.Readers.{reader_tie, readers_length, readers_set, seen_set}
use Rattle.zp_shared.proofs.Guarding.{full_section, refused_at, viewed}
use Rattle.zp_shared.proofs.Viewing.{asked_after, strayed_after}
use Rattle.zp_shared.proofs.locked_zones.LockedZonesZones.section.Goals as goal

-- the row has as many zones as the share
as_many : (keys : List ZoneKey) (s : ShareState) → IsShareOf keys s → length s.zones ≡ length keys
as_many keys s fits = sym (length-map s.zones (λ (v : ZoneShareState). v.seat.tie)) ∙ ap length fits ∙ length-map keys (λ (k : ZoneKey). k.tie)

pub returns-in_default-clause-asked : goal.returns-in_default-clause-asked
returns-in_default-clause-asked g c = refused_at g.J.Naming.zones c.args.zone c.args.request.now c.refuse.result c.args.share.now c.requires.fits c.refuse.ensures

pub returns-in_default-clause-read : goal.returns-in_default-clause-read
returns-in_default-clause-read g c =
    let bounds = g.K.Keeps.bounds (board_at g.J.Naming.boards c.args.zone).capacity in
    let none : is_section c.refuse.result ≡ false = ap is_section c.refuse.ensures ∙ full_section (lends_for c.args.request.now (plain_share (share_at c.args.share.now c.args.zone))) in
    let after : ViewState = record { readers = c.self.inside.readers.items; strayed = true } in
    subst (λ v. IsReadAfter bounds c.args.zone c.refuse.result c.args.share.now v after) c.self.view_is
    (strayed_after bounds c.args.zone c.refuse.result c.args.share.now c.self.inside.readers.items c.self.inside.strayed none)

pub index_mut-reader-requires : goal.index_mut-reader-requires
index_mut-reader-requires g c =
    let many = as_many g.J.Naming.zones c.args.share.now c.requires.fits in
    omega (arith, many, readers_length g.J.Naming.zones g.J.Naming.boards c.self.inside.readers.items c.self.invariant.1, c.requires.zone)

pub returns-clause-asked : goal.returns-clause-asked
returns-clause-asked g c =
    viewed g.J.Naming.zones c.args.zone c.args.request.now c.section_and_reading.result c.deref_mut.result.now c.section_and_reading.new.guarded c.args.share.now c.section_and_reading.new.share
    (ap (λ (v : GuardedZone). v.place) c.deref_mut.ensures.value ∙ c.in-Some.ensures.place) c.section_and_reading.ensures.asked

pub section_and_reading-requires-clause-reader : goal.section_and_reading-requires-clause-reader
section_and_reading-requires-clause-reader g c =
    let many = as_many g.J.Naming.zones c.args.share.now c.requires.fits in
    ap (λ (r : CountsSeen). r.tie) c.index_mut-reader.ensures.value
    ∙ reader_tie g.J.Naming.zones g.J.Naming.boards c.self.inside.readers.items c.args.zone c.index_mut-reader.result.now c.self.invariant.1 (omega (arith, many, c.requires.zone))
    ∙ sym (ap (λ (b : BoardState). b.tie) c.in-Some.ensures.board)

pub invariant_of-self-2 : goal.invariant_of-self-2
invariant_of-self-2 g c =
    let rs = c.self.inside.readers.items in
    let k = c.section_and_reading.new.reader in
    let j = c.index_mut-reader.result.now in
    let read = c.section_and_reading.ensures.read in (
      c.self.invariant.0,
      readers_set g.J.Naming.zones g.J.Naming.boards rs c.args.zone k j c.self.invariant.1 (read.tie ∙ ap (λ (r : CountsSeen). r.tie) c.index_mut-reader.ensures.value),
      seen_set g.E.Earlier.seen rs c.args.zone k j c.self.invariant.2 (subst (λ (r : CountsSeen). IsPrefix r.seen k.seen) c.index_mut-reader.ensures.value read.before),
    )

pub returns-clause-read : goal.returns-clause-read
returns-clause-read g c =
    let rs = c.self.inside.readers.items in
    let k = c.section_and_reading.new.reader in
    let j = c.index_mut-reader.result.now in
    let many = as_many g.J.Naming.zones c.args.share.now c.requires.fits in
    let lt : c.args.zone < length rs = omega (arith, many, readers_length g.J.Naming.zones g.J.Naming.boards rs c.self.invariant.1, c.requires.zone) in
    let at = ap (λ (v : GuardedZone). v.place) c.deref_mut.ensures.value ∙ c.in-Some.ensures.place in
    let bounds = g.K.Keeps.bounds (board_at g.J.Naming.boards c.args.zone).capacity in
    let read : HasReadAfter bounds c.section_and_reading.result c.section_and_reading.new.guarded j k =
    subst (λ (b : BoardState). HasReadAfter (g.K.Keeps.bounds b.capacity) c.section_and_reading.result c.section_and_reading.new.guarded j k) c.in-Some.ensures.board c.section_and_reading.ensures.read in
    let after : ViewState = record { readers = slice_set rs c.args.zone k; strayed = c.self.inside.strayed } in
    subst (λ v. IsReadAfter bounds c.args.zone c.section_and_reading.result c.section_and_reading.new.share v after) c.self.view_is
    (asked_after g.J.Naming.zones bounds c.args.zone c.args.request.now c.section_and_reading.result c.deref_mut.result.now c.section_and_reading.new.guarded
    c.args.share.now c.section_and_reading.new.share rs j k c.self.inside.strayed at lt c.section_and_reading.ensures.asked c.index_mut-reader.ensures.value read)
