use Rattle.std.proofs.Common.{◌≡◌, ◌≤◌, take}
use Rattle.zp_drawing.specs.Glyphs.{pages_like}
use Rattle.zp_drawing.proofs.glyphs.pages_like.Given as goal

abbrev pub invariant-pages : goal.invariant-pages
invariant-pages l = record { within : l.pages ≤ l.state-index; counted : l.pages ≡ pages_like l.number (take l.state-index l.states) }
