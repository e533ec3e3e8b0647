-- Marks and levels (Gorman, chapter 2; the marks' sizes are this profile's).
use Rattle.std.specs.Prelude.{ℕ, ◌+◌, ◌-◌, ◌/◌, ◌^◌, Bool, true, ltb, if◌then◌else◌}
use Rattle.zp_model.specs.declared.mark.Mark.{Mark}
use Rattle.zp_model.specs.declared.mark.Mark.TheVariants.{Low, Min, Any}
use Rattle.zp_model.specs.declared.mark.Level.{Level}
use Rattle.zp_model.specs.Block.{size}
use Rattle.zp_model.specs.Area.{available}
use Rattle.zp_model.specs.Zone.{PlainZone}

abbrev pub low_mark : ℕ → ℕ
low_mark min = min + min / 4

abbrev pub high_mark : ℕ → ℕ
high_mark min = min + min / 2

-- whether a request of order k may go on at a mark, with so many pages at hand over so small a least mark
abbrev pub is_above : ℕ → ℕ → ℕ → Mark → Bool
is_above min free k Low = ltb (low_mark min + 2 ^ k - 1) free
is_above min free k Min = ltb (min + 2 ^ k - 1) free
is_above min free k Any = true

-- the pages that marks look at: the free ones outside isolated pageblocks
abbrev pub pages_at_hand : PlainZone → ℕ
pages_at_hand z = size (available z.area.largest z.area.kinds z.area.free)

abbrev pub passes : PlainZone → ℕ → Mark → Bool
passes z k m = is_above z.min (pages_at_hand z) k m

-- the highest mark that the pages at hand are above
abbrev pub level_above : ℕ → ℕ → Level
level_above min free =
    if ltb (high_mark min) free
    then Level.High
    else (if ltb (low_mark min) free
    then Level.Low
    else (if ltb min free
    then Level.Min
    else Level.Short))

abbrev pub level_of : PlainZone → Level
level_of z = level_above z.min (pages_at_hand z)
