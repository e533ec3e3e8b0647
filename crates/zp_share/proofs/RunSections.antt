-- One section of a share for a run of pages: what the zone's answer makes of the share, and that it is a reply to the request.
use Rattle.std.specs.Prelude.{IfOk, Result, Ok, Err, slice_set}
use Rattle.std.proofs.Common.{ℕ, ◌+◌, ◌-◌, ◌≡◌, ◌≤◌, ◌<◌, refl, sym, ◌∙◌, ap, subst, arith, true, false, List, length, map, Option}
use Rattle.std.proofs.lemmas.Bool.{and_from, and_parts, eq-eqb, le-leb, leb-true, ltb-true}
use Rattle.std.proofs.lemmas.List.{length-map}
use Rattle.std.proofs.lemmas.Nat.{pow_pos}
use Rattle.zp_model.specs.declared.mark.Mark.{Mark}
use Rattle.zp_model.specs.declared.refused.Refused.{Refused}
use Rattle.zp_model.specs.declared.constants.TheConstants.{ORDERS}
use Rattle.zp_model.specs.declared.request.Request.{Request}
use Rattle.zp_model.specs.declared.request.Reply.{Reply}
use Rattle.zp_model.specs.Area.{Area, kind_at}
use Rattle.zp_model.specs.Block.{head}
use Rattle.zp_model.specs.Books as books
use Rattle.zp_model.specs.Books.{blocks_after_in, has_run as part_has_run, own, type_of_page}
use Rattle.zp_model.specs.Lawful.{IsLawful}
use Rattle.zp_model.specs.PageblockType.{noted_type}
use Rattle.zp_model.specs.Runs.{hand_out_run, is_within, may_free_run, run_freed, run_taken}
use Rattle.zp_model.specs.Step.{Outcome, step}
use Rattle.zp_model.specs.Zone.{PlainZone, Holding, holding_at, is_of, pages_of, workers_of}
use Rattle.zp_model.proofs.Covers.{some_below-decides}
use Rattle.zp_model.proofs.Heads.{head_aligned, head_of, lt_pow}
use Rattle.zp_model.proofs.LowestRun.{all-from}
use Rattle.zp_model.proofs.RunParts.{within-from}
use Rattle.zp_laws.proofs.Areas.{kinds-leave_run, largest-leave_run}
use Rattle.zp_laws.proofs.KeepingRuns.{IsFree, run_taken_rest}
use Rattle.zp_laws.proofs.RunSteps.{alloc_run_at_by, alloc_run_by}
use Rattle.zp_laws.proofs.RunsHeld.{run-lent}
use Rattle.zp_laws.proofs.RunsOwn.{freed_own}
use Rattle.zp_laws.proofs.Sameness.{step-same}
use Rattle.zp_zone.specs.Asking.{IsGivenRun}
use Rattle.zp_zone.specs.NamedZone.{page_reply}
use Rattle.zp_zone.specs.Seats.{ZoneState, SeatState, Agrees, asked, has, has_run}
use Rattle.zp_share.specs.declared.page_use.PageUse.{PageUse}
use Rattle.zp_share.specs.declared.page_use.PageUse.TheVariants.{Away, Lent}
use Rattle.zp_share.specs.declared.zone_share.ZoneShare.TheInside.{Inside}
use Rattle.zp_share.specs.PageUses.{UsesState, HasSameCached, IsCutLent, IsLentWhereGot, IsOneBlock, IsRunOff, held, is_cached_as, is_lent_run, use_at, uses_after_in, uses_by}
use Rattle.zp_share.specs.Sections.{IsRunLent}
use Rattle.zp_share.specs.ZoneShares.{ZoneShareState, IsNew, use_in}
use Rattle.zp_share.proofs.Closing.{IsRunUsed, IsWhole, away_by_none, held_at, share_of}
use Rattle.zp_share.proofs.OneUse.{IsIn, in_at}
use Rattle.zp_share.proofs.RunUses.{IsFreeing, block_back, lent_by, one_lent, run_from, run_lent, uses_end, uses_told}

-- a run of n pages at p was free in zone z, and has gone out, which leaves y
pub record IsRunGot (z y : PlainZone) (p n : ℕ) : Type 0 where
  pub from : z.base ≤ p
  pub inside : p - z.base + n ≤ pages_of z
  pub largest : y.area.largest ≡ z.area.largest
  pub types : type_of_page y ≡ type_of_page z

run_got : (z : PlainZone) (w h n p : ℕ) → z.base ≤ p → p - z.base ≡ h → IsFree z h n → IsRunGot z (run_taken z w h n) p n
run_got z w h n p from at x =
    let rest = run_taken_rest z w h n in
    let kinds : (run_taken z w h n).area.kinds ≡ z.area.kinds = ap (λ (a : Area). a.kinds) rest.area ∙ kinds-leave_run z.area h n in
    let largest : (run_taken z w h n).area.largest ≡ z.area.largest = ap (λ (a : Area). a.largest) rest.area ∙ largest-leave_run z.area h n in
    record {
      from = from;
      inside = omega (arith, at, x.inside);
      largest = largest;
      types = λ j g. noted_type (kind_at (largest j) (kinds j) g);
    }

-- where a zone answers a request for a run with a page
abbrev pub GetsRun : PlainZone → Outcome → ℕ → Type 0
GetsRun z o n = (p : ℕ) → o.reply ≡ Reply.Page p → IsRunGot z o.zone p n

pub gets_lowest : (z : PlainZone) (w n a : ℕ) (m : Mark) → GetsRun z (step z w (Request.AllocRun n a m)) n
gets_lowest z w n a m =
    alloc_run_by (λ o. GetsRun z o n) z w n a m (λ e p is. absurd cc) (λ h x p is.
    let at : z.base + h ≡ p = page_same (z.base + h) p is in
    run_got z w h n p (omega (arith, at)) (omega (arith, at)) x)
  where
    page_same : (p q : ℕ) → Reply.Page p ≡ Reply.Page q → p ≡ q
    page_same p q e = cc

pub gets_at : (z : PlainZone) (w b n : ℕ) → GetsRun z (step z w (Request.AllocRunAt b n)) n
gets_at z w b n =
    alloc_run_at_by (λ o. GetsRun z o n) z w b n (λ e p is. absurd cc) (λ from x p is.
    let at : b ≡ p = page_same b p is in
    subst (λ q. IsRunGot z (run_taken z w (b - z.base) n) q n) at (run_got z w (b - z.base) n b from refl x))
  where
    page_same : (p q : ℕ) → Reply.Page p ≡ Reply.Page q → p ≡ q
    page_same p q e = cc

-- what a seat and its zone agree on
module _ (z : ZoneState) (o : Inside) (x : IsWhole o) (a : Agrees z o.seat) where
  pub same_base : o.uses.base ≡ z.plain.base
  same_base = x.0 ∙ ap (λ p. p.base) a

  pub same_out : own o.seat.worker z.plain.out ≡ map (held o.seat.worker) o.uses.uses
  same_out = sym (ap (λ p. p.blocks) a) ∙ x.1.blocks

  pub same_pages : IsLawful z.plain → length o.uses.uses ≡ pages_of z.plain
  same_pages l =
      sym (length-map o.uses.uses (held o.seat.worker)) ∙ ap length (sym same_out) ∙ length-map z.plain.out (books.only o.seat.worker) ∙ l.places

  -- a run that is lent by the uses is the seat's
  pub seat_has_run : (p n : ℕ) → IsLawful z.plain → is_lent_run o.uses.base o.uses.uses p n ≡ true → has_run o.seat p n ≡ true
  seat_has_run p n l e =
      ap (λ s. books.has_run o.seat.worker s p n) a
      ∙ run-lent o.seat.worker (record { plain = z.plain; entries = z.entries }) l p n
      ∙ run_lent z.plain o.seat.worker p n o.uses.base o.uses.uses same_out l same_base e

-- a page at which the seat has no block is away
new_use : (o : Inside) (q : ℕ) → IsWhole o → IsIn o.seat.part.base o.uses.uses q → ((k : ℕ) → has o.seat q k ≡ false) → use_in (share_of o) q ≡ Away
new_use o q x i none = away_by_none o.seat.worker (use_in (share_of o) q) (λ j. sym (held_at (share_of o) q j x.1 i) ∙ none j)

-- a run that was got is of the zone, and was none of the share's
module _ (z : ZoneState) (y : PlainZone) (o : Inside) (x : IsWhole o) (a : Agrees z o.seat) (l : IsLawful z.plain) (p n : ℕ) (b : SeatState) (r : IsRunGot z.plain y p n) (g : IsGivenRun p n o.seat b) where
  place : (q : ℕ) → p ≤ q → q < p + n → IsIn o.seat.part.base o.uses.uses q
  place q lo hi = record { from = omega (arith, r.from, ap (λ s. s.base) a, lo); below = omega (arith, r.inside, r.from, same_pages z o x a l, ap (λ s. s.base) a, lo, hi) }

  pub got_new : (q : ℕ) → is_within p n q ≡ true → IsNew (share_of o) q
  got_new q e =
      let c = and_parts _ _ e in
      let i : IsIn o.seat.part.base o.uses.uses q = place q (leb-true p q c.0) (ltb-true q (p + n) c.1) in
      record { place = i; away = new_use o q x i (g.fresh q e) }

  pub got_off : IsRunOff o.uses p n
  got_off = record {
    from = omega (arith, r.from, same_base z o x a);
    inside = omega (arith, r.inside, same_pages z o x a l, same_base z o x a);
    uncached = λ k f lo hi.
        let q : ℕ = o.uses.base + f in
        let within : is_within p n q ≡ true = within-from p n q (omega (arith, lo)) (omega (arith, hi, r.from, same_base z o x a)) in
        let m : IsNew (share_of o) q = got_new q within in
        let at : q - o.seat.part.base ≡ f = omega (arith, x.0) in
        let away : use_at o.uses.uses f ≡ Away = ap (use_at o.uses.uses) (sym at) ∙ in_at o.seat.part.base q o.uses.uses m.place ∙ m.away in
        ap (is_cached_as k) away;
  }

  -- it is lent then
  pub got_lent : (us : List PageUse) → 1 ≤ n → IsCutLent y.area.largest (type_of_page y) o.uses.uses us (p - o.uses.base) n → is_lent_run o.uses.base us p n ≡ true
  got_lent us some cut =
      run_from o.uses.base p n us got_off.from some (omega (arith, got_off.inside, cut.pages)) cut.lent

-- what a request for a run that gives the page p, or none, makes of the uses
pub run_used : (z y : PlainZone) (r : Request) (n base w : ℕ) (got : Result ℕ Refused) (u v : UsesState) → u.base ≡ base →
    ((p : ℕ) (out : List (Option Holding)) → blocks_after_in z base w r (Reply.Page p) out ≡ (hand_out_run (record z { out = out }) w (type_of_page z) (p - base) n).out) →
    ((p : ℕ) (us : List PageUse) → uses_after_in z base w r (Reply.Page p) us ≡ uses_by us (blocks_after_in z base w r (Reply.Page p) (map (held w) us))) →
    ((e : Refused) (out : List (Option Holding)) → blocks_after_in z base w r (Reply.Refused e) out ≡ out) →
    ((e : Refused) (us : List PageUse) → uses_after_in z base w r (Reply.Refused e) us ≡ us) →
    ((p : ℕ) → got ≡ Ok p → IsRunGot z y p n) → IsLentWhereGot y n got u v → IsRunUsed z r (page_reply got) base w u.uses v.uses
run_used z y r n base w (Ok p) u v at out uses none same run cut =
    let g = run p refl in
    let blocks : blocks_after_in z base w r (Reply.Page p) (map (held w) u.uses) ≡ map (held w) v.uses =
    out p (map (held w) u.uses)
    ∙ ap (λ k. (hand_out_run (record z { out = map (held w) u.uses }) w k (p - base) n).out) (sym g.types)
    ∙ ap (λ b. (hand_out_run (record z { out = map (held w) u.uses }) w (type_of_page y) (p - b) n).out) (sym at)
    ∙ sym (cut.blocks z w (sym g.largest)) in
    record {
      cached = cut.cached;
      blocks = blocks;
      uses = sym (uses p u.uses ∙ ap (uses_by u.uses) blocks ∙ uses_told w u.uses v.uses cut.pages cut.cached);
    }
run_used z y r n base w (Err e) u v at out uses none same run cut = record {
  cached = λ k g. ap (λ us. is_cached_as k (use_at us g)) cut;
  blocks = none e (map (held w) u.uses) ∙ ap (map (held w)) (sym cut);
  uses = cut ∙ sym (same e u.uses);
}

-- of a run
abbrev IsOff : UsesState → ℕ → ℕ → Type 0
IsOff u n p = IsRunOff u p n

-- a seat that has a run has a page of it
run_some : (s : SeatState) (p n : ℕ) → has_run s p n ≡ true → 1 ≤ n
unfolding part_has_run
run_some s p n e = leb-true 1 n (and_parts _ _ (and_parts _ _ e).0).1

-- a share asks its zone z for a run of n pages, which leaves y, by the request r
module _ (z y : ZoneState) (o : Inside) (n : ℕ) (r : Request) (got : Result ℕ Refused) (b : SeatState) (x : IsWhole o) (a : Agrees z o.seat) (l : IsLawful z.plain)
    (gets : GetsRun z.plain (step z.plain o.seat.worker r) n) (reply : page_reply got ≡ (step z.plain o.seat.worker r).reply) (after : y ≡ asked o.seat.worker r z)
    (given : IfOk got (λ p. IsGivenRun p n o.seat b)) where
  pub asked_got : (p : ℕ) → got ≡ Ok p → IsRunGot z.plain y.plain p n
  asked_got p e = subst (λ (v : ZoneState). IsRunGot z.plain v.plain p n) (sym after) (gets p (sym reply ∙ ap page_reply e))

  pub asked_pages : length o.uses.uses ≡ pages_of y.plain
  asked_pages = same_pages z o x a l ∙ sym (ap (λ (v : ZoneState). pages_of v.plain) after ∙ (step-same z.plain o.seat.worker r).pages)

  given_run : (p : ℕ) → got ≡ Ok p → IsGivenRun p n o.seat b
  given_run p e = subst (λ (g : Result ℕ Refused). IfOk g (λ p. IsGivenRun p n o.seat b)) e given

  pub asked_off : IfOk got (IsOff o.uses n)
  asked_off = go got refl
    where
      go : (g : Result ℕ Refused) → got ≡ g → IfOk g (IsOff o.uses n)
      go (Ok p) e = got_off z y.plain o x a l p n b (asked_got p e) (given_run p e)
      go (Err v) e = tt

  pub asked_lent : (m : Inside) (p : ℕ) → got ≡ Ok p → m.seat.part.base ≡ o.seat.part.base → IsLentWhereGot y.plain n got o.uses m.uses → IsRunLent p n (share_of o) (share_of m)
  asked_lent m p e base cut =
      let g = asked_got p e in
      let h = given_run p e in
      let c : IsCutLent y.plain.area.largest (type_of_page y.plain) o.uses.uses m.uses.uses (p - o.uses.base) n = subst (λ (g : Result ℕ Refused). IsLentWhereGot y.plain n g o.uses m.uses) e cut in
      record {
        fresh = got_new z y.plain o x a l p n b g h;
        lent = subst (λ v. is_lent_run v m.uses.uses p n ≡ true) (x.0 ∙ sym base) (got_lent z y.plain o x a l p n b g h m.uses.uses (run_some b p n h.has) c);
      }

-- a run that comes back by a share's uses is what it is to the zone
pub freed_used : (z : ZoneState) (o : Inside) (v : UsesState) (p n : ℕ) → IsWhole o → Agrees z o.seat → HasSameCached o.uses.uses v.uses → length v.uses ≡ length o.uses.uses →
    own o.seat.worker (run_freed z.plain o.seat.worker (p - o.uses.base) n).out ≡ map (held o.seat.worker) v.uses →
    IsRunUsed z.plain (Request.FreeRun p n) Reply.Freed o.seat.part.base o.seat.worker o.uses.uses v.uses
freed_used z o v p n x a cached pages out =
    let w : ℕ = o.seat.worker in
    let blocks : (run_freed (record z.plain { out = map (held w) o.uses.uses }) w (p - o.seat.part.base) n).out ≡ map (held w) v.uses =
    ap (λ f. (run_freed (record z.plain { out = f }) w (p - o.seat.part.base) n).out) (sym (same_out z o x a))
    ∙ sym (freed_own z.plain w (p - o.seat.part.base) n)
    ∙ ap (λ b. own w (run_freed z.plain w (p - b) n).out) (sym x.0)
    ∙ out in
    record {
      cached = cached;
      blocks = blocks;
      uses = sym (ap (uses_by o.uses.uses) blocks ∙ uses_told w o.uses.uses v.uses pages cached);
    }

-- a run that is one lent block of the share is one of its parts
pub one_inside : (o : Inside) (s : ZoneShareState) (p n k : ℕ) → IsWhole o → share_of o ≡ s → IsOneBlock s.seat.part.base s.uses p n k → IsOneBlock o.uses.base o.uses.uses p n k
one_inside o s p n k x is b = subst (λ g. IsOneBlock g o.uses.uses p n k) (sym x.0) (subst (λ (t : ZoneShareState). IsOneBlock t.seat.part.base t.uses p n k) (sym is) b)

-- a run that is one lent block is the seat's, as that block
module _ (o : Inside) (x : IsWhole o) (p n k : ℕ) (b : IsOneBlock o.uses.base o.uses.uses p n k) where
  one_block : IsOneBlock o.seat.part.base o.uses.uses p n k
  one_block = subst (λ g. IsOneBlock g o.uses.uses p n k) x.0 b

  pub one_place : IsIn o.uses.base o.uses.uses p
  one_place = record { from = b.from; below = omega (arith, b.inside, b.size, pow_pos k) }

  one_in : IsIn o.seat.part.base o.uses.uses p
  one_in = subst (λ g. IsIn g o.uses.uses p) x.0 one_place

  pub one_has : has o.seat p k ≡ true
  one_has =
      let w : ℕ = o.seat.worker in
      let t = lent_by k (use_at o.uses.uses (p - o.seat.part.base)) one_block.lent in
      let used : use_in (share_of o) p ≡ Lent k t.0 = sym (in_at o.seat.part.base p o.uses.uses one_in) ∙ t.1 in
      held_at (share_of o) p k x.1 one_in ∙ ap (λ u. is_of w k (held w u)) used ∙ and_from _ _ (eq-eqb k k refl) (eq-eqb w w refl)

  pub one_run : has_run o.seat p n ≡ true
  unfolding part_has_run
  one_run =
      let w : ℕ = o.seat.worker in
      let base : ℕ = o.seat.part.base in
      let blocks : List (Option Holding) = o.seat.part.blocks in
      let pages : length blocks ≡ length o.uses.uses = ap length x.1.blocks ∙ length-map o.uses.uses (held w) in
      let room : k < length blocks = omega (arith, lt_pow k, one_block.size, one_block.inside, pages) in
      let at : is_of w k (holding_at blocks (p - base)) ≡ true = (and_parts _ _ one_has).1 in
      and_from _ _ (and_from _ _ (le-leb base p one_block.from) (le-leb 1 n (omega (arith, one_block.size, pow_pos k))))
      (all-from (books.has_page w o.seat.part) (p - base) n (λ i lo hi.
      let same : head i k ≡ p - base = head_of (head (p - base) k) i k (head_aligned (p - base) k) (omega (arith, one_block.aligned, lo)) (omega (arith, one_block.aligned, one_block.size, hi)) ∙ one_block.aligned in
      (some_below-decides (λ j. is_of w j (holding_at blocks (head i j))) (length blocks)).1 (k, room, ap (λ g. is_of w k (holding_at blocks g)) same ∙ at)))

-- a run that comes back as one block is what it is to the zone once its first page is away
pub one_used : (z : ZoneState) (o : Inside) (v : UsesState) (p n k : ℕ) → IsWhole o → Agrees z o.seat → IsLawful z.plain → o.seat.worker < workers_of z.plain → k < ORDERS → IsOneBlock o.uses.base o.uses.uses p n k →
    v ≡ record o.uses { uses = slice_set o.uses.uses (p - o.uses.base) Away } → IsRunUsed z.plain (Request.FreeRun p n) Reply.Freed o.seat.part.base o.seat.worker o.uses.uses v.uses
one_used z o v p n k x a l known small b gone =
    let w : ℕ = o.seat.worker in
    let base : o.uses.base ≡ z.plain.base = same_base z o x a in
    let y : IsOneBlock z.plain.base o.uses.uses p n k = subst (λ g. IsOneBlock g o.uses.uses p n k) base b in
    let out : own w z.plain.out ≡ map (held w) o.uses.uses = same_out z o x a in
    let may : may_free_run z.plain w p n ≡ true = run_lent z.plain w p n z.plain.base o.uses.uses out l refl (one_lent z.plain.base p n k o.uses.uses small y) in
    let set : v.uses ≡ slice_set o.uses.uses (p - z.plain.base) Away = ap (λ u. u.uses) gone ∙ ap (λ g. slice_set o.uses.uses (p - g) Away) base in
    let back : IsFreeing z.plain w (p - z.plain.base) n (p - z.plain.base + n) (p - z.plain.base + n) o.uses.uses v.uses =
    block_back z.plain w p n (p - z.plain.base) k o.uses.uses v.uses l out known may refl (omega (arith, y.inside, y.size, pow_pos k)) y.lent y.size set in
    freed_used z o v p n x a back.cached back.pages
    (ap (λ g. own w (run_freed z.plain w (p - g) n).out) base ∙ uses_end z.plain w (p - z.plain.base) n (p - z.plain.base + n) (p - z.plain.base + n) o.uses.uses v.uses back refl)
