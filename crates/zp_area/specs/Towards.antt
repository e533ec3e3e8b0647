-- A part of a block that is taken out at whatever place it has there: what the halving towards it leaves (this profile). The largest block has order m.
use Rattle.std.specs.Prelude.{ℕ, suc, zero, ◌+◌, ◌-◌}
use Rattle.zp_model.specs.Block.{head}
use Rattle.zp_model.specs.RunLaws.{half_beside}
use Rattle.zp_area.specs.Blocks.{Blocks, added, removed}

-- with the d halves in which page h does not lie, of the runs around it of orders k + d down to k + 1, in this order
abbrev pub halves_beside : ℕ → Blocks → ℕ → ℕ → ℕ → Blocks
halves_beside m a h k zero = a
halves_beside m a h k (suc d) = halves_beside m (added m a (half_beside h (k + d)) (k + d)) h k d

-- without the block of order o around page h, and with the halves that halving it down to the run of order k around the page leaves: that run is in no block
abbrev pub split_towards : ℕ → Blocks → ℕ → ℕ → ℕ → Blocks
split_towards m a h o k = halves_beside m (removed m a (head h o) o) h k (o - k)
