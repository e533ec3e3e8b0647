-- Info lines of one name, one largest order and the same counts.
use Rattle.std.proofs.Common.{ℕ, ◌≡◌, List}
use Rattle.zp_model.specs.declared.counts.Counts.{Counts}
use Rattle.zp_model.specs.Info.{info_line}

pub info_line-same : (name other : List ℕ) (m n : ℕ) (counts others : Counts) → name ≡ other → m ≡ n → counts ≡ others → info_line name m counts ≡ info_line other n others
info_line-same name other m n counts others same_name same_largest same_counts = λ i. info_line (same_name i) (same_largest i) (same_counts i)
