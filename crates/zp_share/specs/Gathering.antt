-- Where the pages of a zone are when the shares of all its workers are gathered (this profile).
use Rattle.std.specs.Prelude.{ℕ, ◌+◌, ◌^◌, ◌≡◌, ◌<◌, ◌==◌, Bool, false, List, length, map, cond}
use Rattle.std.specs.List.{range_with_len, sum_by, count_by}
use Rattle.zp_model.specs.Block.{has, in_run, size}
use Rattle.zp_model.specs.Zone.{PlainZone, pages_of, posted_pages, workers_of}
use Rattle.zp_model.specs.Lawful.{times_posted}
use Rattle.zp_zone.specs.NamedZone.{NamedZone}
use Rattle.zp_zone.specs.Seats.{ZoneState}
use Rattle.zp_share.specs.declared.gathering.Totals.{Totals}
use Rattle.zp_share.specs.declared.page_use.PageUse.{PageUse}
use Rattle.zp_share.specs.declared.page_use.PageUse.TheVariants.{Away, Lent, Cached}
use Rattle.zp_share.specs.PageUses.{use_at}
use Rattle.zp_share.specs.PlainShares.{PlainZoneShare, PlainShare, own_at}
use Rattle.zp_share.specs.Commands.{zone_at}
use Rattle.zp_share.specs.ZoneShares.{IsShare, SharesIn}
use Rattle.zp_share.specs.Shares.{ShareState, share_at}

-- the pages on a share's lists
abbrev pub cached_pages : PlainZoneShare → ℕ
cached_pages s = sum_by length s.cached

-- the pages of the lent block that starts at a page, if there is one
abbrev pub lent_size : PageUse → ℕ
lent_size Away = 0
lent_size (Lent k t) = 2 ^ k
lent_size (Cached t) = 0

abbrev pub lent_pages : PlainZoneShare → ℕ
lent_pages s = sum_by lent_size s.uses

-- how many pages of a zone are free, posted, on the lists of its shares, and in their lent blocks
abbrev pub totals_of : PlainZone → List PlainZoneShare → Totals
totals_of z ss = record { free = size z.area.free; posted = posted_pages z; cached = sum_by cached_pages ss; lent = sum_by lent_pages ss }

-- what the shares have of zone i
abbrev pub owns_at : List PlainShare → ℕ → List PlainZoneShare
owns_at ss i = map (λ s. own_at s i) ss

-- the totals of each zone, with what the shares have of it
abbrev pub gathered : List NamedZone → List PlainShare → List Totals
gathered zones ss = map (λ i. totals_of (zone_at zones i).plain (owns_at ss i)) (range_with_len 0 (length zones))

abbrev pub total : Totals → ℕ
total t = t.free + t.posted + t.cached + t.lent

-- the share, with what it has of the zone at this place, agrees with the zone
pub record IsOneOf (z : ZoneState) (place : ℕ) (s : ShareState) : Type 0 where
  pub agrees : SharesIn z (share_at s place)
  pub whole : IsShare (share_at s place)
  pub worker : (share_at s place).seat.worker ≡ s.worker

-- each worker of the zone has exactly one of the shares
abbrev pub IsCrewOf : List ShareState → ZoneState → Type 0
IsCrewOf ss z = (w : ℕ) → w < workers_of z.plain → count_by (λ (s : ShareState). s.worker == w) ss ≡ 1

-- how often page i of the zone stands on the share's lists, and in how many of its lent blocks it lies
abbrev pub times_cached : PlainZoneShare → ℕ → ℕ
times_cached s i = sum_by (λ ps. count_by (λ p. p == s.base + i) ps) s.cached

abbrev pub lent_has : ℕ → ℕ → PageUse → Bool
lent_has h i Away = false
lent_has h i (Lent k t) = in_run h k i
lent_has h i (Cached t) = false

abbrev pub times_lent : PlainZoneShare → ℕ → ℕ
times_lent s i = count_by (λ h. lent_has h i (use_at s.uses h)) (range_with_len 0 (length s.uses))

-- in how many places page i of the zone lies: among the free pages, in posted blocks, on lists, in lent blocks
abbrev pub times_gathered : PlainZone → List PlainZoneShare → ℕ → ℕ
times_gathered z ss i =
    cond (has z.area.free i) 1 0 + times_posted z.posted i + sum_by (λ s. times_cached s i) ss + sum_by (λ s. times_lent s i) ss

-- each page of a zone lies in exactly one place, and so the numbers add up to its pages
pub record AddsUp (z : PlainZone) (ss : List PlainZoneShare) : Type 0 where
  pub once : (i : ℕ) → i < pages_of z → times_gathered z ss i ≡ 1
  pub sum : total (totals_of z ss) ≡ pages_of z
