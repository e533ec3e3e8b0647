-- Pages in a row that a worker got, as so many requests for one page, one after another, would have got them; and pages of a block that stand next to each other.
use Rattle.std.specs.Prelude.{ℕ, suc, zero, ◌+◌, ◌-◌, ◌^◌, ◌≡◌, ◌<◌, true, List, length, bit_xor, slice_index_or}
use Rattle.zp_model.specs.declared.migrate_type.MigrateType.{MigrateType}
use Rattle.zp_model.specs.declared.mark.Mark.{Mark}
use Rattle.zp_model.specs.Lawful.{IsLawful}
use Rattle.zp_model.specs.Mark.{is_above, pages_at_hand}
use Rattle.zp_model.specs.Take.{take_after}
use Rattle.zp_model.specs.Zone.{PlainZone, hand_out}
use Rattle.zp_buddy.specs.Runs.{pages_taken, run_pages}

-- the page at h has gone out to worker w, taken for type t
abbrev pub page_out : PlainZone → ℕ → MigrateType → ℕ → PlainZone
page_out z w t h = hand_out (record z { area = take_after z.area 0 t }) w h 0 t

-- so many pages from h on have gone out, one after another
abbrev pub run_out : PlainZone → ℕ → MigrateType → ℕ → ℕ → PlainZone
run_out z w t h zero = z
run_out z w t h (suc n) = run_out (page_out z w t h) w t (h + 1) n

-- worker w got so many pages from the absolute page p on out of z, which is y now
pub record IsRunGot (z y : PlainZone) (w : ℕ) (t : MigrateType) (m : Mark) (p n : ℕ) : Type 0 where
  pub place : ℕ
  pub at : p ≡ z.base + place
  pub answers : pages_taken z.area t n ≡ run_pages place n
  -- each of them was held to the mark
  pub marked : (i : ℕ) → i < n → is_above z.min (pages_at_hand z - i) 0 m ≡ true
  pub after : y ≡ run_out z w t place n
  pub lawful : IsLawful z

-- the pages begin with those of the block of order k around the place: the d-th of them is that place with the bits of d turned, so that they stand
-- in an order of halves
abbrev pub AreTurned : ℕ → List ℕ → ℕ → ℕ → Type 0
AreTurned base pages place k = (d : ℕ) → d < 2 ^ k → slice_index_or pages d 0 ≡ base + bit_xor place d

-- the pages are those of a run, the highest first
abbrev pub AreFalling : List ℕ → Type 0
AreFalling pages = (d : ℕ) → d < length pages → slice_index_or pages d 0 + d ≡ slice_index_or pages 0 0
