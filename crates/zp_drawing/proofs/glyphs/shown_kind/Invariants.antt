use Rattle.std.specs.List.{IsFirstMaxByKey}
use Rattle.zp_drawing.specs.Glyphs.{weight_of}
use Rattle.zp_drawing.proofs.glyphs.shown_kind.Given as goal

-- the first of the pages so far that count most
abbrev pub invariant-pages : goal.invariant-pages
invariant-pages l = IsFirstMaxByKey (weight_of l.states) l.states l.place l.best
