use Rattle.std.proofs.Common.{rules, ℕ, ◌+◌, ◌≡◌, ◌<◌, ◌∙◌, ap, arith, Bool, true, false, cond, length, refl, set, sym}
use Rattle.std.specs.List.{slice_index, slice_index_or}
use Rattle.std.proofs.lemmas.List.{get_or_default}
use Rattle.zp_model.specs.declared.pageblock_type.PageblockType.TheVariants.{Movable}
use Rattle.zp_model.specs.PageblockType.{is_isolate}
use Rattle.zp_area.specs.Available.{isolated_sum}
use Rattle.zp_area.specs.NotedBlocks.{blocks_of}
use Rattle.zp_area.proofs.AvailableBlocks.{available_turned}
use Rattle.zp_area.proofs.IsolatedPages.{sum_typed}
use Rattle.zp_area.proofs.available.tell_type.Goals.{After-is_isolate, After-index-then-isolates, After-index-else-isolates}
use Rattle.zp_area.proofs.available.tell_type.Goals as goal

-- whether the pageblock is isolated now
now : (c : After-is_isolate) → c.is_isolate.result ≡ is_isolate (slice_index_or c.args.blocks.now.kinds.items c.args.pageblock Movable)
now c = c.is_isolate.ensures ∙ ap is_isolate (c.index.ensures ∙ get_or_default c.args.blocks.now.kinds.items c.args.pageblock c.index.result.now Movable c.requires.pageblock)

-- a sum that is s before and z after, where n counts in it before if x and after if y
same_sum : (s z n : ℕ) (x y : Bool) → z + cond x n 0 ≡ s + cond y n 0 → x ≡ y → s ≡ z
same_sum s z n x y e f = grind arith

more_sum : (s z n : ℕ) (x y : Bool) → z + cond x n 0 ≡ s + cond y n 0 → x ≡ false → y ≡ true → s + n ≡ z
more_sum s z n x y e f g = grind arith

less_sum : (s z n : ℕ) (x y : Bool) → z + cond x n 0 ≡ s + cond y n 0 → x ≡ true → y ≡ false → s ≡ z + n
less_sum s z n x y e f g = grind arith

other_false : (x y : Bool) → (x ≡ y → ⊥) → y ≡ true → x ≡ false
other_false true true f e = absurd (f refl)
other_false true false f e = absurd cc
other_false false y f e = refl

other_true : (x y : Bool) → (x ≡ y → ⊥) → y ≡ false → x ≡ true
other_true true y f e = refl
other_true false true f e = absurd cc
other_true false false f e = absurd (f refl)

-- the pageblock becomes isolated, and its number comes to the sum
comes : (c : After-index-then-isolates) → c.args.isolated.now + c.index-then-isolates.result.now ≡ isolated_sum (set c.args.blocks.now.kinds.items c.args.pageblock c.args.kind) c.args.blocks.now.free_in.items
comes c =
    let differs : c.is_isolate.result ≡ c.is_isolate-isolates.result → ⊥ = search rules in
    let is : c.is_isolate-isolates.result ≡ true = search rules in
    let within : c.args.pageblock < length c.args.blocks.now.free_in.items = omega (arith, c.requires.pageblock, c.requires.numbers) in
    let number : c.index-then-isolates.result.now ≡ slice_index c.args.blocks.now.free_in.items c.args.pageblock = c.index-then-isolates.ensures ∙ get_or_default c.args.blocks.now.free_in.items c.args.pageblock c.index-then-isolates.result.now 0 within in
    rw (number, c.requires.apart)
    (more_sum _ _ _ _ _ (sum_typed c.args.blocks.now.kinds.items c.args.blocks.now.free_in.items c.args.pageblock c.args.kind c.requires.pageblock within)
    (sym (now (goal.at.After-index-then-isolates c).After-is_isolate) ∙ other_false _ _ differs is) (sym c.is_isolate-isolates.ensures ∙ is))

-- or it is isolated no more, and its number was part of the sum
goes : (c : After-index-else-isolates) → c.args.isolated.now ≡ isolated_sum (set c.args.blocks.now.kinds.items c.args.pageblock c.args.kind) c.args.blocks.now.free_in.items + c.index-else-isolates.result.now
goes c =
    let differs : c.is_isolate.result ≡ c.is_isolate-isolates.result → ⊥ = search rules in
    let not_now : c.is_isolate-isolates.result ≡ false = search rules in
    let within : c.args.pageblock < length c.args.blocks.now.free_in.items = omega (arith, c.requires.pageblock, c.requires.numbers) in
    let number : c.index-else-isolates.result.now ≡ slice_index c.args.blocks.now.free_in.items c.args.pageblock = c.index-else-isolates.ensures ∙ get_or_default c.args.blocks.now.free_in.items c.args.pageblock c.index-else-isolates.result.now 0 within in
    rw (number, c.requires.apart)
    (less_sum _ _ _ _ _ (sum_typed c.args.blocks.now.kinds.items c.args.blocks.now.free_in.items c.args.pageblock c.args.kind c.requires.pageblock within)
    (sym (now (goal.at.After-index-else-isolates c).After-is_isolate) ∙ other_true _ _ differs not_now) (sym c.is_isolate-isolates.ensures ∙ not_now))

pub overflow_add-isolated : goal.overflow_add-isolated
overflow_add-isolated c = omega (arith, comes (goal.at.overflow_add-isolated c).After-index-then-isolates, c.requires.few)

pub overflow_sub-isolated : goal.overflow_sub-isolated
overflow_sub-isolated c = omega (arith, goes (goal.at.overflow_sub-isolated c).After-index-else-isolates)

pub returns-then-isolates-clause-apart : goal.returns-then-isolates-clause-apart
returns-then-isolates-clause-apart c = comes (goal.at.returns-then-isolates-clause-apart c).After-index-then-isolates

pub returns-else-isolates-clause-apart : goal.returns-else-isolates-clause-apart
returns-else-isolates-clause-apart c = omega (arith, goes (goal.at.returns-else-isolates-clause-apart c).After-index-else-isolates)

pub returns-then-is_isolate-isolates-clause-told : goal.returns-then-is_isolate-isolates-clause-told
returns-then-is_isolate-isolates-clause-told c =
    let same : c.is_isolate.result ≡ c.is_isolate-isolates.result = search rules in
    let told = c.requires.told
    ∙ available_turned c.args.blocks.now.largest c.args.pageblock c.args.blocks.now.kinds.items c.args.kind (blocks_of c.args.blocks.now.lists.states) c.requires.pageblock
    (sym (now (goal.at.returns-then-is_isolate-isolates-clause-told c).After-is_isolate) ∙ same ∙ c.is_isolate-isolates.ensures) in
    λ i. record c.args.blocks.now { tree = told i }

pub returns-then-is_isolate-isolates-clause-apart : goal.returns-then-is_isolate-isolates-clause-apart
returns-then-is_isolate-isolates-clause-apart c =
    let same : c.is_isolate.result ≡ c.is_isolate-isolates.result = search rules in
    c.requires.apart
    ∙ same_sum _ _ _ _ _ (sum_typed c.args.blocks.now.kinds.items c.args.blocks.now.free_in.items c.args.pageblock c.args.kind c.requires.pageblock (omega (arith, c.requires.pageblock, c.requires.numbers)))
    (sym (now (goal.at.returns-then-is_isolate-isolates-clause-apart c).After-is_isolate) ∙ same ∙ c.is_isolate-isolates.ensures)
