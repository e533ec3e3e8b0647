use Rattle.std.proofs.Common.{◌-◌, ◌^◌, ◌≡◌, inl, inr, sym, refl, arith}
use Rattle.std.proofs.lemmas.Bool.{cases_eq, false_from_ne_true}
use Rattle.zp_model.specs.Block.{head}
use Rattle.zp_model.specs.BlockSet.{Starts, cover}
use Rattle.zp_model.proofs.Heads.{head_le, head_room, head_self}
use Rattle.zp_model.proofs.LowestRun.{has_pages-from, has_pages-to}
use Rattle.zp_model.proofs.Normal.{run_in_block}
use Rattle.zp_model.proofs.Pages.{In}
use Rattle.zp_area.specs.Blocks.{block_set, removed}
use Rattle.zp_area.proofs.Towards.{largest-beside}
use Rattle.zp_buddy.proofs.PartsTaken.{low_left}
use Rattle.zp_buddy.proofs.TakenTowards.{taken_towards}
use Rattle.zp_buddy.proofs.parts.take_inside.Goals as goal

-- an aligned run that is free lies in one block
pub returns-in_default-clause-when : goal.returns-in_default-clause-when
returns-in_default-clause-when c = sym (false_from_ne_true _ (λ full.
    let a = c.args.area.now in
    let w = run_in_block a.largest (Starts (block_set a)) (In (cover (block_set a))) c.requires.sound.normal c.args.order c.requires.within c.args.at c.requires.aligned
    (has_pages-to (cover (block_set a)) c.args.at (2 ^ c.args.order) full) in
    elim (cases_eq w.0 c.args.order) [
      | inl same ↦
          let own : head c.args.at w.0 ≡ c.args.at = rw same (head_self c.args.at c.args.order c.requires.aligned) in
          c.requires.beside w.0 (rw own at w.2)
      | inr ne ↦ c.in_default.ensures.none w.0 (omega (arith, w.1)) w.2
    ]))

pub returns-clause-when : goal.returns-clause-when
returns-clause-when c =
    let a = c.args.area.now in
    let o = c.in-Some.found in
    sym (has_pages-from (cover (block_set a)) c.args.at (2 ^ c.args.order) (λ i lo hi.
    c.requires.sound.normal.inside (head c.args.at o) o c.in-Some.ensures.some.1 i (omega (arith, head_le c.args.at o)) (omega (arith, head_room c.args.at c.args.order o (omega (arith, c.in-Some.ensures.some.0)) c.requires.aligned))))

pub returns-clause-taken : goal.returns-clause-taken
returns-clause-taken c = λ yes.
    let a = c.args.area.now in
    let o = c.in-Some.found in
    let x = taken_towards a.largest a c.args.at c.args.order o c.pages-pages.ensures.one c.requires.sound c.in-Some.ensures.some.1 c.requires.aligned (omega (arith, c.in-Some.ensures.some.0)) in
    rw c.split_towards.ensures
    (low_left a _ c.args.at c.args.order (2 ^ c.args.order) refl (largest-beside (o - c.args.order) a.largest (removed a.largest a (head c.args.at o) o) c.args.at c.args.order) x.left)
