-- The opening is lawful: all its pages are free, and none is anywhere else.
use Rattle.std.proofs.Common.{ℕ, ◌≡◌, refl, sym, ◌∙◌, ap, arith, true, List, [], length, replicate, false, Option, None}
use Rattle.std.specs.List.{range_with_len}
use Rattle.std.proofs.lemmas.Option.{none-some}
use Rattle.std.proofs.lemmas.List.{length-replicate, get_or-replicate}
use Rattle.std.proofs.lemmas.List.Elements.{All-nil}
use Rattle.std.proofs.lemmas.List.Folds.{sum_by-replicate}
use Rattle.zp_model.specs.declared.pageblock_type.PageblockType.TheVariants.{Movable}
use Rattle.zp_model.specs.Block.{has, IsBlock}
use Rattle.zp_model.specs.Area.{opening, settle, pageblocks_of}
use Rattle.zp_model.specs.Zone.{Holding, PostedBlock, holding_at, zone_opening}
use Rattle.zp_model.specs.Lawful.{holding_has, times_out, times_posted, IsLawful}
use Rattle.zp_model.proofs.RowLists.{replicated}
use Rattle.zp_laws.proofs.Settling.{opening_lists}
use Rattle.zp_laws.proofs.Counting.{one_if, sums_equal, zeros}
use Rattle.zp_laws.proofs.HandedOut.{count_posted, times-parts}

none-out : (n i : ℕ) → times_out (replicate n None) i ≡ 0
unfolding times_out
none-out n i =
    sums_equal (λ h. one_if (holding_has h i (holding_at (replicate n None) h))) (λ h. 0) (range_with_len 0 (length (replicate n None)))
    (λ h. ap (λ (o : Option Holding). one_if (holding_has h i o)) (replicated n h None))
    ∙ zeros (range_with_len 0 (length (replicate n None)))

none-posted : (n i : ℕ) → times_posted (replicate n []) i ≡ 0
unfolding times_posted
none-posted n i = omega (arith, sum_by-replicate (λ ps. count_posted ps i) n [])

pub free-opening : (m pages : ℕ) → (opening m pages).free ≡ replicate pages true
unfolding opening settle
free-opening m pages = refl

pub largest-opening : (m pages : ℕ) → (opening m pages).largest ≡ m
unfolding opening settle
largest-opening m pages = refl

pub kinds-opening : (m pages : ℕ) → (opening m pages).kinds ≡ replicate (pageblocks_of m pages) Movable
unfolding opening settle
kinds-opening m pages = refl

pub opening_lawful : (m base pages min workers : ℕ) → IsLawful (zone_opening m base pages min workers)
opening_lawful m base pages min workers =
    let n : length (opening m pages).free ≡ pages = ap length (free-opening m pages) ∙ length-replicate pages true in
    record {
      places = length-replicate pages None ∙ sym n;
      kinds = rw (n, largest-opening m pages) (ap length (kinds-opening m pages) ∙ length-replicate (pageblocks_of m pages) Movable);
      out = λ h x e. absurd (none-some x (sym (replicated pages h None) ∙ e));
      posted = λ w. rw (replicated {X = List PostedBlock} workers w []) (All-nil (λ (p : PostedBlock). IsBlock (opening m pages).largest (length (opening m pages).free) p.head p.order));
      once = λ i lt.
          let f : has (opening m pages).free i ≡ true = rw (free-opening m pages) (get_or-replicate pages i true false (omega arith)) in
          times-parts (zone_opening m base pages min workers) i ∙ rw (f, none-out pages i, none-posted workers i) (omega arith);
      lists = opening_lists m pages;
    }
