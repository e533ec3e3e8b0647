-- What is out in a worker's name when it gives back a run is told by what was out in its name alone.
use Rattle.std.proofs.Common.{ℕ, ◌+◌, ◌-◌, ◌^◌, ◌≡◌, ◌==◌, ◌&&◌, refl, sym, ◌∙◌, ap, arith, Bool, true, false, List, [], ◌∷◌, cond, Option, Some, None}
use Rattle.std.specs.Option.{option_map}
use Rattle.std.proofs.lemmas.List.{ext_get_or, length-map}
use Rattle.zp_model.specs.declared.migrate_type.MigrateType.{MigrateType}
use Rattle.zp_model.specs.Block.{head}
use Rattle.zp_model.specs.BlockSet.{first_of, orders_from}
use Rattle.zp_model.specs.Books.{only, own, type_of_page}
use Rattle.zp_model.specs.Area.{Area}
use Rattle.zp_model.specs.Runs.{block_around, block_of, cut, give_run, hand_out_blocks, hand_out_run, kept_before, kept_from, leave_run, meets, run_taken, without_blocks}
use Rattle.zp_model.specs.Zone.{PlainZone, Holding, hand_out, holding_at, is_of}
use Rattle.zp_laws.specs.RunsByBlocks.{FreedRunsTellTheirPart}
use Rattle.zp_laws.proofs.Areas.{largest-leave_run}
use Rattle.zp_laws.proofs.BooksOut.{own-at, own_set}
use Rattle.zp_laws.proofs.KeepingRuns.{left_at, length-left}

-- the zone as worker w knows it: what is out in others' names is left away
abbrev seen : PlainZone → ℕ → PlainZone
seen z w = record z { out = own w z.out }

-- the block around a page is the same
abbrev named : ℕ → ℕ → ℕ → Option Holding → Option (ℕ × Holding)
named w h k o = cond (is_of w k o) (option_map (λ (x : Holding). (h, x)) o) None

of_own : (w h k : ℕ) (o : Option Holding) → named w h k (only w o) ≡ named w h k o
of_own w h k None = refl
of_own w h k (Some x) = go (x.worker == w) refl
  where
    neither : (b : Bool) → (b && false) ≡ false
    neither b = grind arith

    go : (t : Bool) → (x.worker == w) ≡ t → named w h k (only w (Some x)) ≡ named w h k (Some x)
    go true e = rw e (rw e refl)
    go false e = rw (e, neither (x.order == k)) refl

around_own : (z : PlainZone) (w i : ℕ) → block_around (seen z w) w i ≡ block_around z w i
around_own z w i =
    let same : (k : ℕ) → block_of (seen z w) w (head i k) k ≡ block_of z w (head i k) k = λ k.
    ap (named w (head i k) k) (own-at w (head i k) z.out) ∙ of_own w (head i k) k (holding_at z.out (head i k)) in
    λ t. first_of (λ k. same k t) (orders_from z.area.largest 0)

-- so are the blocks that meet a run, of those that are w's
meets_own : (w h n g : ℕ) (o : Option Holding) → only w (cond (meets h n g o) None o) ≡ cond (meets h n g (only w o)) None (only w o)
meets_own w h n g None = refl
meets_own w h n g (Some x) = go (x.worker == w) refl (meets h n g (Some x)) refl
  where
    go : (t : Bool) → (x.worker == w) ≡ t → (m : Bool) → meets h n g (Some x) ≡ m →
        only w (cond (meets h n g (Some x)) None (Some x)) ≡ cond (meets h n g (cond (x.worker == w) (Some x) None)) None (cond (x.worker == w) (Some x) None)
    go true e true m = rw (e, m) refl
    go true e false m = rw (e, m) (rw e refl)
    go false e true m = rw (e, m) refl
    go false e false m = rw (e, m) (rw e refl)

left_own : (z : PlainZone) (w h n : ℕ) → own w (without_blocks z h n).out ≡ (without_blocks (seen z w) h n).out
left_own z w h n =
    ext_get_or None (own w (without_blocks z h n).out) (without_blocks (seen z w) h n).out
    (length-map (without_blocks z h n).out (only w) ∙ length-left z h n ∙ sym (length-left (seen z w) h n ∙ length-map z.out (only w))) (λ g below.
    own-at w g (without_blocks z h n).out
    ∙ ap (only w) (left_at z h n g)
    ∙ meets_own w h n g (holding_at z.out g)
    ∙ sym (left_at (seen z w) h n g ∙ ap (λ (o : Option Holding). cond (meets h n g o) None o) (own-at w g z.out)))

-- and what goes out in w's name is w's
out_own : (w : ℕ) (kind : ℕ → MigrateType) (bs : List (ℕ × ℕ)) (z : PlainZone) → seen (hand_out_blocks z w kind bs) w ≡ hand_out_blocks (seen z w) w kind bs
out_own w kind [] z = refl
out_own w kind (b ∷ bs) z =
    let x : Holding = record { order = b.1; kind = kind b.0; worker = w } in
    out_own w kind bs (hand_out z w b.0 b.1 (kind b.0)) ∙ ap (λ (o : List (Option Holding)). hand_out_blocks (record z { out = o }) w kind bs) (own_set x z.out b.0)

before_own : (z : PlainZone) (w h : ℕ) (o : Option (ℕ × Holding)) → seen (kept_before z w h o) w ≡ kept_before (seen z w) w h o
before_own z w h None = refl
before_own z w h (Some b) = out_own w (λ g. b.1.kind) (cut z.area.largest b.0 (h - b.0)) z

from_own : (z : PlainZone) (w e : ℕ) (o : Option (ℕ × Holding)) → seen (kept_from z w e o) w ≡ kept_from (seen z w) w e o
from_own z w e None = refl
from_own z w e (Some b) = out_own w (λ g. b.1.kind) (cut z.area.largest e (b.0 + 2 ^ b.1.order - e)) z

-- what goes out does not hang on the area
out_beside : (w : ℕ) (kind : ℕ → MigrateType) (bs : List (ℕ × ℕ)) (z : PlainZone) (a : Area) → (hand_out_blocks (record z { area = a }) w kind bs).out ≡ (hand_out_blocks z w kind bs).out
out_beside w kind [] z a = refl
out_beside w kind (b ∷ bs) z a = out_beside w kind bs (hand_out z w b.0 b.1 (kind b.0)) a

pub taken_own : (z : PlainZone) (w h n : ℕ) → own w (run_taken z w h n).out ≡ (hand_out_run (seen z w) w (type_of_page z) h n).out
taken_own z w h n =
    let a : Area = leave_run z.area h n in
    ap (λ m. own w (hand_out_blocks (record z { area = a }) w (type_of_page z) (cut m h n)).out) (largest-leave_run z.area h n)
    ∙ ap (λ (v : PlainZone). v.out) (out_own w (type_of_page z) (cut z.area.largest h n) (record z { area = a }))
    ∙ out_beside w (type_of_page z) (cut z.area.largest h n) (seen z w) a

pub freed_own : FreedRunsTellTheirPart
freed_own z w h n =
    let a : PlainZone = record z { area = give_run z.area h n } in
    let y : PlainZone = without_blocks a h n in
    let first : Option (ℕ × Holding) = block_around z w h in
    let last : Option (ℕ × Holding) = block_around z w (h + n - 1) in
    let left : seen y w ≡ without_blocks (seen a w) h n = ap (λ (o : List (Option Holding)). record y { out = o }) (left_own a w h n) in
    ap (λ (v : PlainZone). v.out) (
    from_own (kept_before y w h first) w (h + n) last
    ∙ ap (λ (v : PlainZone). kept_from v w (h + n) last) (before_own y w h first ∙ ap (λ (v : PlainZone). kept_before v w h first) left)
    ∙ sym (λ i. kept_from (kept_before (without_blocks (seen a w) h n) w h (around_own z w h i)) w (h + n) (around_own z w (h + n - 1) i)))
