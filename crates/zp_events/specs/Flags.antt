-- The flags of a request, as Linux's show_gfp_flags writes them: names with a bar between each two. The zone that they allow is that of gfp_zone
-- (include/linux/gfp.h).
use Rattle.std.specs.Prelude.{ℕ, ◌==◌, List, Bool, codes, if◌then◌else◌, ◌||◌, ◌&&◌}
use Rattle.std.specs.List.{slice_split, list_any}
use Rattle.std.specs.Str.{bytes_eq}
use Rattle.zp_events.specs.declared.event.ZoneLimit.{ZoneLimit}
use Rattle.zp_events.specs.declared.event.ZoneLimit.TheVariants.{Dma, Dma32, Normal, Movable}
use Rattle.zp_events.specs.declared.flags.ZoneNames.{ZoneNames}

abbrev pub bar : ℕ
bar = 124

-- whether a name between the bars passes the test
unfoldable pub has_name : (List ℕ → Bool) → List ℕ → Bool
has_name test flags = list_any test (slice_split (λ b. b == bar) flags)

-- the tests of a name: which bits of gfp_zone it stands for
abbrev pub is_dma : List ℕ → Bool
is_dma name = bytes_eq name (codes "GFP_DMA")

abbrev pub is_dma32 : List ℕ → Bool
is_dma32 name = bytes_eq name (codes "GFP_DMA32")

-- both `__GFP_HIGHMEM` and `__GFP_MOVABLE`
abbrev pub is_both : List ℕ → Bool
is_both name = (bytes_eq name (codes "GFP_HIGHUSER_MOVABLE") || bytes_eq name (codes "GFP_TRANSHUGE")) || bytes_eq name (codes "GFP_TRANSHUGE_LIGHT")

-- `__GFP_HIGHMEM` alone
abbrev pub is_high : List ℕ → Bool
is_high name = bytes_eq name (codes "GFP_HIGHUSER") || bytes_eq name (codes "__GFP_HIGHMEM")

abbrev pub is_movable : List ℕ → Bool
is_movable name = bytes_eq name (codes "__GFP_MOVABLE")

-- which of these names the flags have
abbrev pub names_of : List ℕ → ZoneNames
names_of flags = record { dma = has_name is_dma flags; dma32 = has_name is_dma32 flags; both = has_name is_both flags; high = has_name is_high flags; movable = has_name is_movable flags }

-- the names, and one more
abbrev pub with_name : ZoneNames → List ℕ → ZoneNames
with_name n name =
    record { dma = n.dma || is_dma name; dma32 = n.dma32 || is_dma32 name; both = n.both || is_both name; high = n.high || is_high name; movable = n.movable || is_movable name }

-- the highest zone that a request with such names allows
abbrev pub limit_of : ZoneNames → ZoneLimit
limit_of n = if n.dma then Dma else (if n.dma32 then Dma32 else (if n.both || (n.high && n.movable) then Movable else Normal))

-- the highest zone that a request with these flags allows
abbrev pub zone_limit_of : List ℕ → ZoneLimit
zone_limit_of flags = limit_of (names_of flags)
