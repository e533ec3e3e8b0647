-- What comes of a kernel's page events, counted (this profile).
use Rattle.std.specs.Prelude.{ℕ, ◌+◌, ◌-◌, ◌^◌, Option, None, Some, min, max}
use Rattle.zp_model.specs.declared.migrate_type.MigrateType.{MigrateType}
use Rattle.zp_model.specs.declared.migrate_type.MigrateType.TheVariants.{Unmovable, Reclaimable, Movable}
use Rattle.zp_model.specs.declared.origin.Origin.{Origin}
use Rattle.zp_model.specs.declared.origin.Origin.TheVariants.{Own, Claimed, Borrowed}
use Rattle.zp_model.specs.declared.refused.Refused.TheVariants.{BelowMark, NoBlock, NothingPosted, NotLent}
use Rattle.zp_kernel.specs.declared.event_counts.EventCounts.{EventCounts}
use Rattle.zp_kernel.specs.declared.event_counts.TypeCounts.{TypeCounts}
use Rattle.zp_kernel.specs.declared.event_counts.Happening.{Happening}
use Rattle.zp_kernel.specs.declared.event_counts.Happening.TheVariants as happened

-- a count stays at the largest number
abbrev pub most : ℕ
most = 2 ^ 64 - 1

abbrev pub with_more : ℕ → ℕ → ℕ
with_more n more = min (n + more) most

abbrev pub one_more : ℕ → ℕ
one_more n = with_more n 1

-- it happened once more to a request for type t
abbrev pub noted_of_type : MigrateType → TypeCounts → TypeCounts
noted_of_type Unmovable c = record c { unmovable = one_more c.unmovable }
noted_of_type Reclaimable c = record c { reclaimable = one_more c.reclaimable }
noted_of_type Movable c = record c { movable = one_more c.movable }

-- it happened once more; a refusal is counted by its number
abbrev pub noted : Happening → EventCounts → EventCounts
noted happened.Given c = record c { given = one_more c.given }
noted (happened.Claimed t) c = record c { claims = noted_of_type t c.claims }
noted (happened.Borrowed t) c = record c { borrows = noted_of_type t c.borrows }
noted (happened.Refused BelowMark) c = record c { below_mark = one_more c.below_mark }
noted (happened.Refused NoBlock) c = record c { no_block = one_more c.no_block }
noted (happened.Refused NothingPosted) c = record c { nothing_posted = one_more c.nothing_posted }
noted (happened.Refused NotLent) c = record c { not_lent = one_more c.not_lent }
noted (happened.Refused r) c = record c { other_refusals = one_more c.other_refusals }
noted happened.TooLarge c = record c { too_large = one_more c.too_large }
noted happened.OtherType c = record c { other_type = one_more c.other_type }
noted happened.Again c = record c { again = one_more c.again }
noted happened.KernelRefused c = record c { kernel_refused = one_more c.kernel_refused }
noted happened.Fallback c = record c { fallbacks = one_more c.fallbacks }
noted happened.Freed c = record c { freed = one_more c.freed }
noted happened.Part c = record c { parts = one_more c.parts }
noted happened.Larger c = record c { larger = one_more c.larger }
noted happened.Unknown c = record c { unknown = one_more c.unknown }
noted happened.Passed c = record c { passed = one_more c.passed }

-- a block that was given for type t came from there; what is of the type's own is not counted, nor what came off a list
abbrev pub origin_noted : Option Origin → MigrateType → EventCounts → EventCounts
origin_noted None t c = c
origin_noted (Some Own) t c = c
origin_noted (Some Claimed) t c = noted (happened.Claimed t) c
origin_noted (Some Borrowed) t c = noted (happened.Borrowed t) c

-- so many pages more are out
abbrev pub pages_out : ℕ → EventCounts → EventCounts
pages_out n c = let now = with_more c.out n in record c { out = now; most_out = max c.most_out now }

-- so many pages came back
abbrev pub pages_back : ℕ → EventCounts → EventCounts
pages_back n c = record c { out = c.out - n }

abbrev pub none_of_types : TypeCounts
none_of_types = record { unmovable = 0; reclaimable = 0; movable = 0 }

-- before the first event
abbrev pub none_counted : EventCounts
none_counted =
    record {
      given = 0;
      claims = none_of_types;
      borrows = none_of_types;
      below_mark = 0;
      no_block = 0;
      nothing_posted = 0;
      not_lent = 0;
      other_refusals = 0;
      too_large = 0;
      other_type = 0;
      again = 0;
      kernel_refused = 0;
      fallbacks = 0;
      freed = 0;
      parts = 0;
      larger = 0;
      unknown = 0;
      passed = 0;
      out = 0;
      most_out = 0;
    }
