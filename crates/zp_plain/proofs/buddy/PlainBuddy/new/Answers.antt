use Rattle.std.proofs.Common.{rules, ℕ, ◌≡◌, List, Bool, [], true, length, replicate, ap, sym, subst, ◌∙◌}
use Rattle.std.proofs.lemmas.List.{length-replicate}
use Rattle.zp_model.specs.declared.state.State.TheVariants.{Tail}
use Rattle.zp_model.specs.Area.{Area, opening}
use Rattle.zp_model.specs.Frames.{Frames, IsFramed, restated, with_area}
use Rattle.zp_laws.proofs.Opening.{free-opening, largest-opening}
use Rattle.zp_plain.proofs.Framed.{written}
use Rattle.zp_plain.proofs.SoundAreas.{framed_opening}
use Rattle.zp_plain.proofs.buddy.PlainBuddy.new.Goals as goal

pub restate_all-requires-clause-pages : goal.restate_all-requires-clause-pages
restate_all-requires-clause-pages c =
    let e : c.in_ok-notes.notes.items ≡ replicate c.args.pages Tail = c.in_ok-notes.ensures.items_if_clones_equal (λ y k. search rules) in
    let m : c.marks.result.now ≡ replicate c.args.pages true = c.marks.ensures.marks ∙ ap (λ (a : Area). a.free) c.in_ok-area.ensures ∙ free-opening c.args.largest c.args.pages in
    ap length e ∙ length-replicate c.args.pages Tail ∙ sym (ap length m ∙ length-replicate c.args.pages true)

after : (c : goal.After-restate_all) →
    (let f : Frames = record { area = c.in_ok-area.area; states = c.restate_all.new.notes.items; sides = c.in_ok-sides.sides.items } in f)
    ≡ with_area (record { area = opening c.args.largest c.args.pages; states = replicate c.args.pages Tail; sides = replicate c.args.side [] }) (opening c.args.largest c.args.pages)
after c =
    rw (← c.in_ok-sides.ensures, ← c.in_ok-notes.ensures.items_if_clones_equal (λ y k. search rules)) (written _ _ _ _ _ _ c.in_ok-sides.sides.items c.restate_all.ensures c.marks.ensures.marks (ap (λ (a : Area). a.largest) c.in_ok-area.ensures ∙ largest-opening c.args.largest c.args.pages) c.in_ok-area.ensures)

pub returns : goal.returns
returns c =
    let opened : ℕ → List Bool → Frames = λ m u. record { area = opening c.args.largest c.args.pages; states = restated m u (replicate c.args.pages Tail); sides = replicate c.args.side [] } in
    after c ∙ ap (λ u. opened (opening c.args.largest c.args.pages).largest u) (free-opening c.args.largest c.args.pages) ∙ ap (λ m. opened m (replicate c.args.pages true)) (largest-opening c.args.largest c.args.pages)

pub invariant_of-result : goal.invariant_of-result
invariant_of-result c =
    subst IsFramed (sym (after c)) (framed_opening c.args.largest c.args.pages c.args.side)
