-- What a worker's view has read when a request under the lock of a place was answered.
use Rattle.std.proofs.Common.{ℕ, ◌≡◌, ◌<◌, ◌≤◌, ◌+◌, inl, inr, Bool, true, false, List, length, refl, sym, ◌∙◌, ap, subst, arith}
use Rattle.std.specs.Prelude.{slice_index_or, slice_set}
use Rattle.std.proofs.lemmas.Bool.{leb-true}
use Rattle.std.proofs.lemmas.List.{get_or_default, set-get_or}
use mathlib.Core.List.{IsPrefix}
use Rattle.zp_model.specs.Entries.{Entry}
use Rattle.zp_model.specs.declared.refused.Refused.TheVariants.{NotLent, JournalFull}
use Rattle.zp_model.specs.declared.request.Request.{Request}
use Rattle.zp_model.specs.declared.request.Reply.{Reply}
use Rattle.zp_model.specs.Books.{made_by}
use Rattle.zp_zone.specs.Seats.{ZoneState}
use Rattle.zp_counts.specs.CountBoards.{CountsSeen}
use Rattle.zp_share.specs.PlainShares.{lends_for, refusal}
use Rattle.zp_share.specs.Sections.{ComesOf}
use Rattle.zp_share.specs.ZoneShares.{ZoneShareState, IsSection, plain_share}
use Rattle.zp_share.specs.Shares.{ShareState, ZoneKey, is_section, share_at}
use Rattle.zp_share.proofs.Tried.{full_of}
use Rattle.zp_shared.specs.Rows.{GuardedZone, HasReadAfter, IsAskedUnderLock, IsPublished, IsReadAfter, IsReadWhole, ViewState, is_journal_full, is_not_lent, seen_at, seen_by}
use Rattle.zp_shared.proofs.Guarding.{filter_few}
use Rattle.zp_shared.proofs.Readers.{known_put, seen_beside, seen_here, seen_put, seen_same}

-- a request that was a section was made
section_of : (lent full : Bool) (r : Request) (q : Reply) (z y : ZoneState) (a b : ZoneShareState) → ComesOf (refusal lent full) r q z y a b → is_section q ≡ true → IsSection r q z y a b
section_of false full r q z y a b x e = absurd (let same : false ≡ true = sym (ap is_section x.0) ∙ e in cc)
section_of true true r q z y a b x e = absurd (let same : false ≡ true = sym (ap is_section x.0) ∙ e in cc)
section_of true false r q z y a b x e = x

-- the share has made fewer sections than are published
own_seen : (g h : GuardedZone) (r : Request) (q : Reply) (a b : ZoneShareState) → ComesOf (refusal (lends_for r (plain_share a)) (is_journal_full g)) r q g.zone h.zone a b → is_section q ≡ true →
    IsPublished h.zone h.published → b.sections.made < length h.published
own_seen g h r q a b made e p =
    let s = section_of (lends_for r (plain_share a)) (is_journal_full g) r q g.zone h.zone a b made e in
    let few : length (made_by b.seat.worker h.zone.entries) ≤ length h.zone.entries = filter_few (λ (x : Entry). Rattle.std.specs.Prelude.nat_eq x.worker b.seat.worker) h.zone.entries in
    omega (arith, few, s.after.sections, p.many)

-- where there is no room, as much as there is room for is published
full_seen : (g h : GuardedZone) (r : Request) (q : Reply) (a b : ZoneShareState) → ComesOf (refusal (lends_for r (plain_share a)) (is_journal_full g)) r q g.zone h.zone a b → q ≡ Reply.Refused JournalFull →
    IsPublished h.zone h.published → h.capacity ≡ g.capacity → length h.zone.entries ≤ h.capacity → length h.published ≡ h.capacity + 1
full_seen g h r q a b made e p kept within =
    let f = full_of (lends_for r (plain_share a)) (is_journal_full g) r q g.zone h.zone a b made e in
    let reached : g.capacity ≤ length g.zone.entries = leb-true g.capacity (length g.zone.entries) f.0 in
    omega (arith, reached, ap (λ (z : ZoneState). length z.entries) f.1.zone, p.many, kept, within)

read_after : (keys : List ZoneKey) (bounds : ℕ → Type 0) (i : ℕ) (r : Request) (q : Reply) (g h : GuardedZone) (s t : ShareState) (rs : List CountsSeen) (k : CountsSeen) (b : Bool) → g.place ≡ i → i < length rs →
    IsAskedUnderLock keys r q g h s t → is_not_lent q ≡ false → IsPrefix (slice_index_or rs i k).seen k.seen → (slice_index_or rs i k).known ≤ k.known → IsReadWhole bounds h k.seen →
    IsReadAfter bounds i q t (record { readers = rs; strayed = b }) (record { readers = slice_set rs i k; strayed = b })
read_after keys bounds i r q g h s t rs k b at lt x lent before known read =
    let made : ComesOf (refusal (lends_for r (plain_share (share_at s i))) (is_journal_full g)) r q g.zone h.zone (share_at s i) (share_at t i) =
    subst (λ p. ComesOf (refusal (lends_for r (plain_share (share_at s p))) (is_journal_full g)) r q g.zone h.zone (share_at s p) (share_at t p)) at x.made in
    let now : seen_at (seen_by (slice_set rs i k)) i ≡ h.published = seen_here rs i k lt ∙ read.seen in
    record {
      own = λ e. let all = ap length now in omega (arith, all, own_seen g h r q (share_at s i) (share_at t i) made e read.published);
      full = λ e. inr (h.capacity, read.room.1, ap length now ∙ full_seen g h r q (share_at s i) (share_at t i) made e read.published x.kept.capacity read.room.0);
      not_lent = λ e. absurd (let same : false ≡ true = sym lent ∙ ap is_not_lent e in cc);
      seen = seen_put rs i k k before;
      known = known_put rs i k k known;
      others = λ j other. seen_beside rs i j k other;
      strayed = λ e. e;
      stays = λ e. refl;
    }

-- no section was made and nothing was read
pub unread_after : (bounds : ℕ → Type 0) (i : ℕ) (q : Reply) (t : ShareState) (v : ViewState) → is_not_lent q ≡ true → IsReadAfter bounds i q t v v
unread_after bounds i q t v lent = record {
  own = λ e. absurd (not_both q lent e);
  full = λ e. absurd (let same : true ≡ false = sym lent ∙ ap is_not_lent e in cc);
  not_lent = λ e. refl;
  seen = seen_same (seen_by v.readers);
  known = λ j. omega arith;
  others = λ j other. refl;
  strayed = λ e. e;
  stays = λ e. refl;
}
  where
    not_both : (p : Reply) → is_not_lent p ≡ true → is_section p ≡ true → ⊥
    not_both (Reply.Refused NotLent) l e = let same : false ≡ true = e in cc
    not_both p l e = let same : false ≡ true = l in cc

-- the zone of another place was found, and nothing was read
pub strayed_after : (bounds : ℕ → Type 0) (i : ℕ) (q : Reply) (t : ShareState) (rs : List CountsSeen) (b : Bool) → is_section q ≡ false →
    IsReadAfter bounds i q t (record { readers = rs; strayed = b }) (record { readers = rs; strayed = true })
strayed_after bounds i q t rs b none = record {
  own = λ e. absurd (let same : false ≡ true = sym none ∙ e in cc);
  full = λ e. inl refl;
  not_lent = λ e. refl;
  seen = seen_same (seen_by rs);
  known = λ j. omega arith;
  others = λ j other. refl;
  strayed = λ e. refl;
  stays = λ e. absurd (let same : false ≡ true = sym none ∙ e in cc);
}

-- the view after a request under the lock of a place, with the reader of that place as it was left
pub asked_after : (keys : List ZoneKey) (bounds : ℕ → Type 0) (i : ℕ) (r : Request) (q : Reply) (g h : GuardedZone) (s t : ShareState) (rs : List CountsSeen) (j k : CountsSeen) (b : Bool) → g.place ≡ i → i < length rs →
    IsAskedUnderLock keys r q g h s t → j ≡ slice_index_or rs i j → HasReadAfter bounds q h j k →
    IsReadAfter bounds i q t (record { readers = rs; strayed = b }) (record { readers = slice_set rs i k; strayed = b })
asked_after keys bounds i r q g h s t rs j k b at lt x is read = go (is_not_lent q) refl
  where
    go : (l : Bool) → is_not_lent q ≡ l → IsReadAfter bounds i q t (record { readers = rs; strayed = b }) (record { readers = slice_set rs i k; strayed = b })
    go true e =
        let same : slice_set rs i k ≡ rs = ap (slice_set rs i) (read.left e ∙ is) ∙ set-get_or rs i j in
        subst (λ (l : List CountsSeen). IsReadAfter bounds i q t (record { readers = rs; strayed = b }) (record { readers = l; strayed = b })) (sym same)
        (unread_after bounds i q t (record { readers = rs; strayed = b }) e)
    go false e =
        let here : slice_index_or rs i k ≡ slice_index_or rs i j = get_or_default rs i k j lt in
        read_after keys bounds i r q g h s t rs k b at lt x e (subst (λ (v : CountsSeen). IsPrefix v.seen k.seen) (is ∙ sym here) read.before) (subst (λ (v : CountsSeen). v.known ≤ k.known) (is ∙ sym here) read.known) (read.read e)
