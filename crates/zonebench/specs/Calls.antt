-- How calls of a zone are counted (this profile).
use Rattle.std.specs.Prelude.{ℕ, ◌/◌, max}
use Rattle.zonebench.specs.declared.workload.Workload.{Workload}
use Rattle.zonebench.specs.declared.workload.Workload.TheVariants.{Pairs, Runs, Churn, Press, Burst, Scattered, Claims}

-- a workload's number for so many calls: pairs and claims are counted by two and four calls, bursts by all pages taken and given back,
-- one burst at least
abbrev pub ops : Workload → ℕ → ℕ → ℕ
ops (Pairs k) pages calls = calls / 2
ops Runs pages calls = calls
ops Churn pages calls = calls
ops Press pages calls = calls
ops Burst pages calls = max (calls / 2 / pages) 1
ops Scattered pages calls = calls / 2
ops Claims pages calls = calls / 4
