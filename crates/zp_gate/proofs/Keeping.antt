-- What one call makes of what stands behind a lock: it is the zone of the same key still.
use Rattle.std.proofs.Common.{ℕ, zero, suc, ◌≡◌, ◌<◌, ◌+◌, List, length, All, slice_index, slice_index_or, slice_set, refl, sym, ap, ◌∙◌, subst, inl, inr, arith}
use Rattle.std.specs.Prelude.{Bool, Option, Some, None, Result, Ok, Err}
use Rattle.std.proofs.lemmas.List.{get_or_default, get_or-set_other, get_or-set_same, length-set}
use Rattle.std.proofs.lemmas.List.Elements.{All-push}
use Rattle.zp_model.specs.declared.refused.Refused.{Refused}
use Rattle.zp_model.specs.declared.request.Request.{Request}
use Rattle.zp_model.specs.declared.request.Reply.{Reply}
use Rattle.zp_model.specs.Step.{step as stepping}
use Rattle.zp_model.specs.Zone.{workers_of}
use Rattle.zp_laws.proofs.Sameness.{step-same}
use Rattle.zp_zone.specs.Seats.{ZoneState}
use Rattle.zp_share.specs.PlainShares.{refusal_of}
use Rattle.zp_share.specs.Sections.{ComesOf, IsAsked, IsRefilled}
use Rattle.zp_share.specs.Shares.{ShareState, ZoneKey, is_section, key_of, share_at, with_zone_share}
use Rattle.zp_share.specs.ZoneShares.{ZoneShareState, plain_share}
use Rattle.zp_share.proofs.Telling.{same-key}
use Rattle.zp_counts.specs.CountBoards.{BoardState, CountsPublished}
use Rattle.zp_gate.specs.declared.granted.Granted.{Granted}
use Rattle.zp_gate.specs.GatedWorkers.{AreMadeAt, GatedShareState, HasTurned, WorkerState, gated_at, no_gated_share}
use Rattle.zp_gate.specs.Visits.{AreAnswers}
use Rattle.zp_gate.specs.Boards.{IsBoardOf, IsTiedTo, board_after}
use Rattle.zp_gate.specs.GatedZones.{AreSections, AreSectionsTill, EndsWith, GateKey, GatedState, IsBehind, IsOneCall, IsOneShare, IsSectionOf, IsWrittenTo, each_is, free_of, freed_of, page_of}
use Rattle.zp_gate.proofs.Boards.{board_stays, made_stays, tied_stays}

-- whatever is asked, the zone's key stays, and the first page of the share
came : (e : Option Refused) (r : Request) (q : Reply) (z y : ZoneState) (a b : ZoneShareState) → ComesOf e r q z y a b → (key_of y ≡ key_of z) × (b.seat.part.base ≡ a.seat.part.base)
came (Some e) r q z y a b x = (ap key_of x.1.zone, ap (λ (s : ZoneShareState). s.seat.part.base) x.1.share)
came None r q z y a b x = (ap key_of x.zone ∙ same-key z (stepping z.plain a.seat.worker r).zone (step-same z.plain a.seat.worker r), ap (λ (s : ZoneShareState). s.seat.part.base) x.share)

pub key_stays : (r : Request) (q : Reply) (z y : ZoneState) (a b : ZoneShareState) → IsAsked r q z y a b → key_of y ≡ key_of z
key_stays r q z y a b x = (came (refusal_of r (plain_share a)) r q z y a b x.made).0

-- nor do its workers change
pub workers_stay : (r : Request) (q : Reply) (z y : ZoneState) (a b : ZoneShareState) → IsAsked r q z y a b → workers_of y.plain ≡ workers_of z.plain
workers_stay r q z y a b x = ap (λ (k : ZoneKey). k.workers) (key_stays r q z y a b x)

pub refill_workers : (r : Request) (z y : ZoneState) (a b : ZoneShareState) (answer : Result (Unit {0}) Refused) → IsRefilled (λ q. IsAsked r q z y a b) answer → workers_of y.plain ≡ workers_of z.plain
refill_workers r z y a b (Ok u) got = workers_stay r (Reply.Pages got.0) z y a b got.1
refill_workers r z y a b (Err e) got = workers_stay r (Reply.Refused e) z y a b got

-- what stands behind a lock stands there after a section
section_behind : (key : GateKey) (r : Request) (q : Reply) (y z : GatedState) (s t : ShareState) → IsBehind key y → IsSectionOf r q y z s t → IsBehind key z
section_behind key r q y z s t behind x =
    record {
      known = key_stays r q y.zone z.zone (share_at s 0) (share_at t 0) x.0 ∙ behind.known;
      left = subst (λ (ss : List ShareState). All (IsOneShare key.zone) ss) (sym (ap (λ (g : GatedState). g.left) x.1)) behind.left;
      made = made_stays r q y.zone z.zone (share_at s 0) (share_at t 0) behind.made x.0;
      board = subst (λ (p : Option CountsPublished). IsBoardOf key.board z.zone p) (sym (ap (λ (g : GatedState). g.board) x.1))
          (board_stays key.board y.board r q y.zone z.zone (share_at s 0) (share_at t 0) behind.made x.0 behind.board);
    }

-- after so many
sections_behind : (key : GateKey) (asks : ℕ → Request) (gives : ℕ → Reply) (n : ℕ) (y z : GatedState) (s t : ShareState) → IsBehind key y → AreSections asks gives n y z s t → IsBehind key z
sections_behind key asks gives zero y z s t behind x = subst (IsBehind key) (sym x.0) behind
sections_behind key asks gives (suc n) y z s t behind x = section_behind key (asks n) (gives n) x.0 z x.1 t (sections_behind key asks gives n y x.0 s x.1 behind x.2) x.3

end_behind : (key : GateKey) (asks : ℕ → Request) (most n : ℕ) (e : Option Refused) (y z : GatedState) (s t : ShareState) → IsBehind key y → EndsWith asks most n e y z s t → IsBehind key z
end_behind key asks most n None y z s t behind x = subst (IsBehind key) (sym x.1) behind
end_behind key asks most n (Some e) y z s t behind x = section_behind key (asks n) (Reply.Refused e) y z s t behind x.1

-- and after one call
pub one_call_behind : (key : GateKey) (y z : GatedState) → IsBehind key y → IsOneCall key y z → IsBehind key z
one_call_behind key y z behind (inl x) = section_behind key x.0 x.1 y z x.2 x.3 behind x.4
one_call_behind key y z behind (inr (inl x)) =
    subst (IsBehind key) (sym x.2) (record { known = behind.known; left = All-push (IsOneShare key.zone) y.left x.0 behind.left x.1; made = behind.made; board = behind.board })
one_call_behind key y z behind (inr (inr (inl same))) = subst (IsBehind key) (sym same) behind
one_call_behind key y z behind (inr (inr (inr x))) =
    let made = x.6 in
    end_behind key x.0 x.2 x.3.count x.3.refused made.0 z made.1 x.5 (sections_behind key x.0 x.1 x.3.count y made.0 x.4 made.1 behind made.2) made.3

-- a share that made a section is one of the same zone still
pub share_stays : (key : ZoneKey) (r : Request) (q : Reply) (y z : GatedState) (s t : ShareState) → IsOneShare key s → IsSectionOf r q y z s t → IsOneShare key t
share_stays key r q y z s t one x = (
  ap (λ (u : ShareState). length u.zones) x.2 ∙ length-set s.zones 0 (share_at t 0) ∙ one.0,
  (x.0.same.tie ∙ one.1.0, (came (refusal_of r (plain_share (share_at s 0))) r q y.zone z.zone (share_at s 0) (share_at t 0) x.0.made).1 ∙ one.1.1),
)

pub still_one : (r : Request) (q : Reply) (y z : GatedState) (s t : ShareState) → IsOneShare (key_of y.zone) s → IsSectionOf r q y z s t → IsOneShare (key_of z.zone) t
still_one r q y z s t one x =
    subst (λ (k : ZoneKey). IsOneShare k t) (sym (key_stays r q y.zone z.zone (share_at s 0) (share_at t 0) x.0)) (share_stays (key_of y.zone) r q y z s t one x)

sections_stay : (key : ZoneKey) (asks : ℕ → Request) (gives : ℕ → Reply) (n : ℕ) (y z : GatedState) (s t : ShareState) → IsOneShare key s → AreSections asks gives n y z s t → IsOneShare key t
sections_stay key asks gives zero y z s t one x = subst (IsOneShare key) (sym x.1) one
sections_stay key asks gives (suc n) y z s t one x = share_stays key (asks n) (gives n) x.0 z x.1 t (sections_stay key asks gives n y x.0 s x.1 one x.2) x.3

end_stays : (key : ZoneKey) (asks : ℕ → Request) (most n : ℕ) (e : Option Refused) (y z : GatedState) (s t : ShareState) → IsOneShare key s → EndsWith asks most n e y z s t → IsOneShare key t
end_stays key asks most n None y z s t one x = subst (IsOneShare key) (sym x.2) one
end_stays key asks most n (Some e) y z s t one x = share_stays key (asks n) (Reply.Refused e) y z s t one x.1

-- and so is one that made many
pub many_stay : (key : ZoneKey) (asks : ℕ → Request) (gives : ℕ → Reply) (most : ℕ) (g : Granted) (y z : GatedState) (s t : ShareState) → IsOneShare key s → AreSectionsTill asks gives most g y z s t → IsOneShare key t
many_stay key asks gives most g y z s t one x = end_stays key asks most g.count g.refused x.0 z x.1 t (sections_stay key asks gives g.count y x.0 s x.1 one x.2) x.3

-- so many sections, and one more
pub one_more : (asks : ℕ → Request) (gives : ℕ → Reply) (n : ℕ) (y m z : GatedState) (s u t : ShareState) → AreSections asks gives n y m s u → IsSectionOf (asks n) (gives n) m z u t → AreSections asks gives (n + 1) y z s t
one_more asks gives n y m z s u t made x =
    let more : AreSections asks gives (suc n) y z s t = (m, u, made, x) in
    let next : suc n ≡ n + 1 = omega arith in
    subst (λ (k : ℕ). AreSections asks gives k y z s t) next more

-- of the replies only the first n are told
same_told : (asks : ℕ → Request) (gives others : ℕ → Reply) (n : ℕ) (y z : GatedState) (s t : ShareState) → ((i : ℕ) → i < n → gives i ≡ others i) → AreSections asks gives n y z s t → AreSections asks others n y z s t
same_told asks gives others zero y z s t same x = x
same_told asks gives others (suc n) y z s t same x = (
  x.0,
  x.1,
  same_told asks gives others n y x.0 s x.1 (λ i lt. same i (omega (arith, lt))) x.2,
  subst (λ (q : Reply). IsSectionOf (asks n) q x.0 z x.1 t) (same n (omega arith)) x.3,
)

-- a page was got, and stands behind those that were got before
pub page_got : (r : Request) (n page : ℕ) (pages : List ℕ) (y m z : GatedState) (s u t : ShareState) → n < length pages → AreSections (each_is r) (page_of pages) n y m s u → IsSectionOf r (Reply.Page page) m z u t
    → AreSections (each_is r) (page_of (slice_set pages n page)) (n + 1) y z s t
page_got r n page pages y m z s u t lt made x =
    let now : List ℕ = slice_set pages n page in
    let before : (i : ℕ) → i < n → page_of pages i ≡ page_of now i = λ i less. ap (λ (k : ℕ). Reply.Page k) (sym (get_or-set_other pages n i page 0 (λ same. absurd (omega (arith, less, same))))) in
    let last : page_of now n ≡ Reply.Page page = ap (λ (k : ℕ). Reply.Page k) (get_or-set_same pages n page 0 lt) in
    one_more (each_is r) (page_of now) n y m z s u t (same_told (each_is r) (page_of pages) (page_of now) n y m s u before made) (subst (λ (q : Reply). IsSectionOf r q m z u t) (sym last) x)

pub one_written : (n page : ℕ) (before pages : List ℕ) → IsWrittenTo n before pages → IsWrittenTo (n + 1) before (slice_set pages n page)
one_written n page before pages is = (
  length-set pages n page ∙ is.0,
  λ i after. get_or-set_other pages n i page 0 (λ same. absurd (omega (arith, same, after))) ∙ is.1 i (omega (arith, after)),
)

-- a block more was freed
pub block_freed : (ps ks : List ℕ) (n page order : ℕ) (y m z : GatedState) (s u t : ShareState) → page ≡ slice_index ps n → order ≡ slice_index ks n → AreSections (free_of ps ks) freed_of n y m s u
    → IsSectionOf (Request.Free page order) Reply.Freed m z u t → AreSections (free_of ps ks) freed_of (n + 1) y z s t
block_freed ps ks n page order y m z s u t at of made x =
    one_more (free_of ps ks) freed_of n y m z s u t made (subst (λ (r : Request). IsSectionOf r Reply.Freed m z u t) (λ i. Request.Free (at i) (of i)) x)

-- what many requests made of a worker's share at a place they made of the worker
pub made_at : (i : ℕ) (asks : ℕ → Request) (gives : ℕ → Reply) (most : ℕ) (g : Granted) (v w : WorkerState) (d f : GatedShareState) → i < length v.shares → d ≡ slice_index_or v.shares i d
    → w ≡ record v { shares = slice_set v.shares i f } → HasTurned (AreAnswers d.key asks gives most g) d f → AreMadeAt i asks gives most g v w
made_at i asks gives most g v w d f lt at now made =
    let P : GatedShareState → GatedShareState → Type 0 = λ x y. HasTurned (AreAnswers x.key asks gives most g) x y in
    let was : gated_at v i ≡ d = get_or_default v.shares i no_gated_share d lt ∙ sym at in
    let is : gated_at w i ≡ f = ap (λ (x : WorkerState). gated_at x i) now ∙ get_or-set_same v.shares i f no_gated_share lt in
    let turned : P (gated_at v i) (gated_at w i) = subst (λ (x : GatedShareState). P x (gated_at w i)) (sym was) (subst (λ (y : GatedShareState). P d y) (sym is) made) in
    (lt, turned, now ∙ ap (λ (y : GatedShareState). record v { shares = slice_set v.shares i y }) (sym is))

-- and the right to publish is one for the same board
pub still_tied : (b : Option BoardState) (r : Request) (q : Reply) (y z : GatedState) (s t : ShareState) → IsTiedTo b y.board → IsSectionOf r q y z s t → IsTiedTo b z.board
still_tied b r q y z s t is x = subst (IsTiedTo b) (sym (ap (λ (g : GatedState). g.board) x.1)) (tied_stays b y.board (is_section q) z.zone is)

-- where there is no board nothing is published
none_after : (b : Option CountsPublished) (asked : Bool) (z : ZoneState) → b ≡ None → board_after asked z b ≡ b
none_after None asked z is = refl
none_after (Some p) asked z is = absurd (cc)

pub section_without : (r : Request) (q : Reply) (v z : ZoneState) (l : List ShareState) (b : Option CountsPublished) (y : GatedState) (s t : ShareState) → record { zone = v; left = l; board = b } ≡ y → b ≡ None →
    IsAsked r q v z (share_at s 0) (share_at t 0) → t ≡ with_zone_share 0 (share_at t 0) s → IsSectionOf r q y (record { zone = z; left = l; board = b }) s t
section_without r q v z l b y s t is none x others =
    subst (λ (w : GatedState). IsSectionOf r q w (record { zone = z; left = l; board = b }) s t) is (x, (λ i. record { zone = z; left = l; board = sym (none_after b (is_section q) z none) i }), others)

pub refill_without : (r : Request) (answer : Result (Unit {0}) Refused) (v z : ZoneState) (l : List ShareState) (b : Option CountsPublished) (y : GatedState) (s t : ShareState) → record { zone = v; left = l; board = b } ≡ y → b ≡ None →
    IsRefilled (λ q. IsAsked r q v z (share_at s 0) (share_at t 0)) answer → t ≡ with_zone_share 0 (share_at t 0) s → IsRefilled (λ q. IsSectionOf r q y (record { zone = z; left = l; board = b }) s t) answer
refill_without r (Ok u) v z l b y s t is none x others = (x.0, section_without r (Reply.Pages x.0) v z l b y s t is none x.1 others)
refill_without r (Err e) v z l b y s t is none x others = section_without r (Reply.Refused e) v z l b y s t is none x others
