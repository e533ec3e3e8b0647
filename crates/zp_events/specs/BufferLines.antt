-- What ftrace writes of its buffer (kernel/trace/trace.c), which loses the oldest events where it is too small:
--     # entries-in-buffer/entries-written: 205/4100   #P:2
--     CPU:1 [LOST 123 EVENTS]
use Rattle.std.specs.Prelude.{ℕ, ◌≡◌, ◌<◌, ◌++◌, List, ◌∷◌, drop, codes}
use Rattle.zp_events.specs.Numbers.{IsNumber}

-- the words say how many of the events that were written are kept
pub record AreEntries (words : List (List ℕ)) (kept written : ℕ) : Type 0 where
  pub kept_digits : List ℕ
  pub written_digits : List ℕ
  pub more : List (List ℕ)
  pub are : words ≡ codes "#" ∷ codes "entries-in-buffer/entries-written:" ∷ (kept_digits ++ (codes "/" ++ written_digits)) ∷ more
  pub kept_is : IsNumber 10 kept_digits kept
  pub written_is : IsNumber 10 written_digits written

-- the text begins with a report of so many lost events
pub record BeginsWithLost (text : List ℕ) (n : ℕ) : Type 0 where
  pub digits : List ℕ
  pub rest : List ℕ
  pub written : text ≡ codes "[LOST " ++ (digits ++ (codes " EVENTS]" ++ rest))
  pub number_is : IsNumber 10 digits n

-- such a report stands in the line, and of those that do it is the first
pub record IsLost (line : List ℕ) (n : ℕ) : Type 0 where
  pub place : ℕ
  pub here : BeginsWithLost (drop place line) n
  pub first : (k other : ℕ) → k < place → BeginsWithLost (drop k line) other → ⊥
