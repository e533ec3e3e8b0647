-- What lines of Linux's /proc/zoneinfo say of a zone (mm/vmstat.c, zoneinfo_show_print):
--     Node 0, zone    DMA32
--             min      413
--             spanned  61408
--       start_pfn:           4096
use Rattle.std.specs.Prelude.{ℕ, ◌≡◌, ◌++◌, List, [], ◌∷◌, codes}
use Rattle.zp_events.specs.Numbers.{IsNumber, IsSmall}

-- the words say that what stands behind them is of the zone of this name on this node
pub record IsZoneHead (words : List (List ℕ)) (node : ℕ) (name : List ℕ) : Type 0 where
  pub number : List ℕ
  pub written : words ≡ codes "Node" ∷ (number ++ codes ",") ∷ codes "zone" ∷ name ∷ []
  pub node_is : IsSmall number node

-- the words are this label and this number
pub record IsLabelled (words : List (List ℕ)) (label : List ℕ) (n : ℕ) : Type 0 where
  pub number : List ℕ
  pub written : words ≡ label ∷ number ∷ []
  pub number_is : IsNumber 10 number n
