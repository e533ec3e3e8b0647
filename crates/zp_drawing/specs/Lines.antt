-- Lines of text.
use Rattle.std.specs.Prelude.{ℕ, List, [], ◌∷◌, ◌++◌}

-- a line of this text, with the line feed at its end
abbrev pub line : List ℕ → List ℕ
line text = text ++ 0x0a ∷ []
