-- The names of flags, one after another.
use Rattle.std.proofs.Common.{ℕ, ◌≡◌, ◌≢◌, List, ◌∷◌, ◌++◌, Bool, true, false, ◌||◌, refl, sym, ap, ◌∙◌}
use Rattle.std.specs.List.{All}
use Rattle.zp_events.specs.declared.flags.ZoneNames.{ZoneNames}
use Rattle.zp_events.specs.Flags.{bar, has_name, is_dma, is_dma32, is_both, is_high, is_movable, names_of, with_name}
use Rattle.zp_events.proofs.Cuts.{name_first, name_last}

-- one bit, as it was found so far, and in the rest
abbrev pub IsSoFar : (List ℕ → Bool) → Bool → List ℕ → List ℕ → Type 0
IsSoFar test found rest flags = (found || has_name test rest) ≡ has_name test flags

-- all of them
pub record AreSoFar (names : ZoneNames) (rest flags : List ℕ) : Type 0 where
  pub dma : IsSoFar is_dma names.dma rest flags
  pub dma32 : IsSoFar is_dma32 names.dma32 rest flags
  pub both : IsSoFar is_both names.both rest flags
  pub high : IsSoFar is_high names.high rest flags
  pub movable : IsSoFar is_movable names.movable rest flags

or_assoc : (a b c : Bool) → ((a || b) || c) ≡ (a || (b || c))
or_assoc true b c = refl
or_assoc false b c = refl

one_more : (test : List ℕ → Bool) (found : Bool) (rest name after flags : List ℕ) → rest ≡ name ++ bar ∷ after → All (λ b. b ≢ bar) name →
    IsSoFar test found rest flags → IsSoFar test (found || test name) after flags
one_more test found rest name after flags e h so_far =
    or_assoc found (test name) (has_name test after)
    ∙ ap (λ (b : Bool). found || b) (sym (name_first name after test h) ∙ ap (has_name test) (sym e))
    ∙ so_far

last_one : (test : List ℕ → Bool) (found : Bool) (rest flags : List ℕ) → All (λ b. b ≢ bar) rest → IsSoFar test found rest flags → (found || test rest) ≡ has_name test flags
last_one test found rest flags h so_far = ap (λ (b : Bool). found || b) (sym (name_last rest test h)) ∙ so_far

pub more_so_far : (names : ZoneNames) (rest name after flags : List ℕ) → rest ≡ name ++ bar ∷ after → All (λ b. b ≢ bar) name → AreSoFar names rest flags → AreSoFar (with_name names name) after flags
more_so_far names rest name after flags e h s = record {
  dma = one_more is_dma names.dma rest name after flags e h s.dma;
  dma32 = one_more is_dma32 names.dma32 rest name after flags e h s.dma32;
  both = one_more is_both names.both rest name after flags e h s.both;
  high = one_more is_high names.high rest name after flags e h s.high;
  movable = one_more is_movable names.movable rest name after flags e h s.movable;
}

same_names : (a b : ZoneNames) → a.dma ≡ b.dma → a.dma32 ≡ b.dma32 → a.both ≡ b.both → a.high ≡ b.high → a.movable ≡ b.movable → a ≡ b
same_names a b e f g h i =
    let first : Bool → ZoneNames = λ x. record { dma = x; dma32 = a.dma32; both = a.both; high = a.high; movable = a.movable } in
    let second : Bool → ZoneNames = λ x. record { dma = b.dma; dma32 = x; both = a.both; high = a.high; movable = a.movable } in
    let third : Bool → ZoneNames = λ x. record { dma = b.dma; dma32 = b.dma32; both = x; high = a.high; movable = a.movable } in
    let fourth : Bool → ZoneNames = λ x. record { dma = b.dma; dma32 = b.dma32; both = b.both; high = x; movable = a.movable } in
    let fifth : Bool → ZoneNames = λ x. record { dma = b.dma; dma32 = b.dma32; both = b.both; high = b.high; movable = x } in
    ap first e ∙ ap second f ∙ ap third g ∙ ap fourth h ∙ ap fifth i

pub all_so_far : (names : ZoneNames) (rest flags : List ℕ) → All (λ b. b ≢ bar) rest → AreSoFar names rest flags → with_name names rest ≡ names_of flags
all_so_far names rest flags h s =
    same_names (with_name names rest) (names_of flags)
    (last_one is_dma names.dma rest flags h s.dma) (last_one is_dma32 names.dma32 rest flags h s.dma32) (last_one is_both names.both rest flags h s.both)
    (last_one is_high names.high rest flags h s.high) (last_one is_movable names.movable rest flags h s.movable)
