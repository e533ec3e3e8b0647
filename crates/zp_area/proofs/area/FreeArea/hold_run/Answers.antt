use Rattle.std.proofs.Common.{ℕ, ◌≡◌, ap, length, refl, subst, sym, arith}
use Rattle.zp_area.specs.Blocks.{Blocks}
use Rattle.zp_area.specs.Claims.{IsIndexed}
use Rattle.zp_area.specs.Given.{AreClearPages}
use Rattle.zp_area.specs.KeptSets.{set_of}
use Rattle.zp_area.proofs.Holding.{by_pages, clear_loose}
use Rattle.zp_area.proofs.Indexing.{indexed_noted}
use Rattle.zp_area.proofs.area.FreeArea.hold_run.Goals as goal

pub set_run-requires-clause-run : goal.set_run-requires-clause-run
set_run-requires-clause-run c = omega (arith, c.requires.run, ap (λ (b : Blocks). length b.rows.states) c.self.view_is)

-- the pages are clear in the words of what is kept
clear : (a b : Blocks) (h n : ℕ) → a ≡ b → AreClearPages b.largest b.rows.states b.rows.lists h n → AreClearPages a.largest a.rows.states a.rows.lists h n
clear a b h n e x = subst (λ (q : Blocks). AreClearPages q.largest q.rows.states q.rows.lists h n) (sym e) x

pub set_run-requires-clause-loose : goal.set_run-requires-clause-loose
set_run-requires-clause-loose c p lo hi =
    clear_loose c.self.inside.blocks.largest (set_of c.self.inside.blocks) p c.self.invariant.kept.one (clear (set_of c.self.inside.blocks) c.args.self.now c.args.at c.args.pages c.self.view_is c.requires.clear p lo hi)

pub invariant_of-self : goal.invariant_of-self
invariant_of-self c =
    rw c.set_run.ensures
    (by_pages (λ b. IsIndexed b c.self.inside.blocks.tree c.self.inside.blocks.free_in.items c.self.inside.isolated c.self.inside.noted.claims c.self.inside.noted.stale.marks) c.args.state c.requires.note
    (λ b h x y. indexed_noted b _ _ _ _ _ h c.args.state x y) c.args.pages (set_of c.self.inside.blocks) c.args.at c.self.invariant c.self.invariant.kept.one
    (λ i lo hi. (clear (set_of c.self.inside.blocks) c.args.self.now c.args.at c.args.pages c.self.view_is c.requires.clear i lo hi).0))

pub returns : goal.returns
returns c = rw (← c.self.view_is, c.set_run.ensures) refl
