-- Bytes and words of a text.
use Rattle.std.specs.Prelude.{ℕ, ◌≡◌, ◌≢◌, ◌==◌, nat_lt, List, ◌∷◌, ◌++◌, length, filter}
use Rattle.std.specs.List.{AllByRecursion, slice_split}

abbrev pub space : ℕ
space = 32

-- the words of a text: what stands between its spaces, of which there may be several in a row, before the first word and behind the last
unfoldable pub words_of : List ℕ → List (List ℕ)
words_of text = filter (λ word. nat_lt 0 (length word)) (slice_split (λ b. b == space) text)

-- of the places of a text at which this byte stands this is the first
pub record IsFirstPlace (text : List ℕ) (byte place : ℕ) : Type 0 where
  pub front : List ℕ
  pub rest : List ℕ
  pub written : text ≡ front ++ byte ∷ rest
  pub place_is : place ≡ length front
  pub none : AllByRecursion (λ b. b ≢ byte) front
