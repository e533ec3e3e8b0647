-- The text of /proc/buddyinfo: a line for each zone (Linux's frag_show_print: "Node %d, zone %8s " and a "%6lu " for each order).
use Rattle.std.specs.Prelude.{ℕ, ◌≡◌, ◌+◌, ◌-◌, ◌<◌, ◌≤◌, ◌^◌, ◌==◌, nat_lt, List, [], ◌∷◌, ◌++◌, ◌⊎◌, length, map, filter, codes, All, IsTrue, slice_index_or}
use Rattle.std.specs.List.{slice_split}
use Rattle.std.specs.Char.{is_ascii_graphic}
use Rattle.std.specs.Fmt.{decimal}
use Rattle.std.specs.Borrow.{Bor}
use Rattle.zp_buddyinfo.specs.declared.row.BuddyinfoRow.{BuddyinfoRow}
use Rattle.zp_buddyinfo.specs.Figures.{AreFreeBlocks}

abbrev pub space : ℕ
space = 32

abbrev pub line_feed : ℕ
line_feed = 10

-- the bytes of words, wherever they lie
abbrev pub spelled : List (Bor (List ℕ)) → List (List ℕ)
spelled words = map (λ w. w.now) words

-- the words of a line: what stands between its spaces, of which there may be several in a row, before the first word and behind the last
unfoldable pub words_of : List ℕ → List (List ℕ)
words_of line = filter (λ word. nat_lt 0 (length word)) (slice_split (λ b. b == space) line)

-- the lines of a text, the last of which needs no line feed
abbrev pub lines_of : List ℕ → List (List ℕ)
lines_of text = slice_split (λ b. b == line_feed) text

-- what may be a zone's name
abbrev pub IsZoneName : List ℕ → Type 0
IsZoneName name = (0 < length name) × All (λ b. IsTrue (is_ascii_graphic b)) name

-- what may be a zone's line
pub record IsRow (node : ℕ) (zone blocks : List ℕ) : Type 0 where
  pub node_fits : node < 2 ^ 32
  pub zone_named : IsZoneName zone
  pub blocks_fit : AreFreeBlocks blocks

-- the words of a zone's line
abbrev pub row_words : ℕ → List ℕ → List ℕ → List (List ℕ)
row_words node zone blocks = codes "Node" ∷ (decimal node ++ codes ",") ∷ codes "zone" ∷ zone ∷ map decimal blocks

-- a line of no words, or a zone's line
abbrev pub IsGoodLine : List ℕ → Type 0
IsGoodLine line = (words_of line ≡ []) ⊎ ((node : ℕ) × (zone : List ℕ) × (blocks : List ℕ) × IsRow node zone blocks × (words_of line ≡ row_words node zone blocks))

-- the first line of a text that is not good, counted from 1
pub record IsBadLine (text : List ℕ) (n : ℕ) : Type 0 where
  pub counted : 0 < n
  pub inside : n ≤ length (lines_of text)
  pub bad : IsGoodLine (slice_index_or (lines_of text) (n - 1) []) → ⊥
  pub first : (k : ℕ) → k + 1 < n → IsGoodLine (slice_index_or (lines_of text) k [])

-- the rows of a text are those that its lines with words write, in their order
pub record AreRowsOf (text : List ℕ) (rows : List BuddyinfoRow) : Type 0 where
  pub sound : All (λ r. IsRow r.node r.zone.now r.blocks) rows
  pub written : map (λ r. row_words r.node r.zone.now r.blocks) rows ≡ filter (λ words. nat_lt 0 (length words)) (map words_of (lines_of text))
