use Rattle.std.proofs.Common.{◌-◌, ◌^◌, ◌≡◌, ◌<◌, arith}
use Rattle.std.proofs.lemmas.Nat.{pow_pos}
use Rattle.zp_model.specs.Frames.{given}
use Rattle.zp_model.specs.Rows.{state_at}
use Rattle.zp_model.specs.declared.state.State.TheVariants.{Tail}
use Rattle.zp_area.specs.Blocks.{Blocks}
use Rattle.zp_buddy.specs.Choices.{frames_in}
use Rattle.zp_buddy.proofs.GivingAs.{giving_then, last_clear, last_comes, last_tails}
use Rattle.zp_buddy.proofs.Settled.{length-pages}
use Rattle.zp_buddy.proofs.falling.give_last.Goals.{After-join, After-pages}
use Rattle.zp_buddy.proofs.falling.give_last.Goals as goal

-- a page of the run is left
some : (c : After-pages) → c.args.from < c.take_behind-behind.result.0
some c = omega (arith, c.take_behind-behind.ensures.last.inside, pow_pos c.take_behind-behind.result.1)

-- nothing is noted of the head of the last block
tail : (c : After-pages) → state_at c.take_behind-behind.new.area.rows.states (c.take_behind-behind.result.0 - 2 ^ c.take_behind-behind.result.1) ≡ Tail
tail c =
    let x = c.take_behind-behind.ensures in
    x.tails (c.take_behind-behind.result.0 - 2 ^ c.take_behind-behind.result.1) (omega (arith, x.last.inside)) (omega (arith, x.before))

pub at-requires : goal.at-requires
at-requires c = omega (arith, c.pages.ensures.pages, c.take_behind-behind.ensures.before, c.requires.clear.inside, length-pages c.args.area.now.rows.states, c.requires.sound.pages)

pub join-requires-clause-clear : goal.join-requires-clause-clear
join-requires-clause-clear c =
    let x = c.take_behind-behind.ensures in
    rw (c.at.ensures, c.pages.ensures.pages, x.same.largest)
    (last_clear c.args.area.now.largest c.take_behind-behind.new.area c.args.from c.take_behind-behind.result.0 c.take_behind-behind.result.1 x.same.clear x.last (some (goal.at.join-requires-clause-clear c).After-pages))

pub returns-clause-same : goal.returns-clause-same
returns-clause-same c =
    let m = c.args.area.now.largest in
    let b : Blocks = c.take_behind-behind.new.area in
    let n : Blocks = c.join.new.area in
    let d = c.take_behind-behind.result.0 in
    let k = c.take_behind-behind.result.1 in
    let x = c.take_behind-behind.ensures in
    let before = (goal.at.returns-clause-same c).After-pages in
    let came = rw x.same.largest at c.join.ensures in
    let after : frames_in m n ≡ given (frames_in m b) (d - 2 ^ k) k = rw (c.at.ensures, c.pages.ensures.pages) at came.after in
    rw c.pages.ensures.pages
    (giving_then m c.args.area.now b n c.args.from c.args.end d (d - 2 ^ k) x.same
    (last_comes m b n c.args.from d k x.same.sound (some before) x.same.clear x.last came.largest came.sound came.pages came.kinds (tail before) came.size after))

pub returns-clause-tails : goal.returns-clause-tails
returns-clause-tails c =
    let m = c.args.area.now.largest in
    let b : Blocks = c.take_behind-behind.new.area in
    let n : Blocks = c.join.new.area in
    let d = c.take_behind-behind.result.0 in
    let k = c.take_behind-behind.result.1 in
    let x = c.take_behind-behind.ensures in
    let before = (goal.at.returns-clause-tails c).After-pages in
    let came = rw x.same.largest at c.join.ensures in
    let after : frames_in m n ≡ given (frames_in m b) (d - 2 ^ k) k = rw (c.at.ensures, c.pages.ensures.pages) at came.after in
    rw c.pages.ensures.pages
    (last_tails m b n c.args.from d k x.same.sound (some before) x.same.clear x.last came.largest came.sound came.pages came.kinds (tail before) came.size after
    (λ i lo hi. x.tails i lo (omega (arith, x.before))))
