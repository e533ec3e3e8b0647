-- What stands behind a lock: a zone, whose posted blocks are its own, and the shares of it that workers left (this profile).
use Rattle.std.specs.Prelude.{ℕ, zero, suc, ◌≡◌, ◌<◌, ◌≤◌, ◌++◌, ◌∷◌, ◌⊎◌, List, [], All, Option, None, Some, length, map, slice_index}
use Rattle.zp_model.specs.declared.request.Request.{Request}
use Rattle.zp_model.specs.declared.request.Reply.{Reply}
use Rattle.zp_model.specs.declared.migrate_type.MigrateType.{MigrateType}
use Rattle.zp_model.specs.declared.refused.Refused.{Refused}
use Rattle.zp_model.specs.Run.{IsHistory, opening_of, run}
use Rattle.zp_zone.specs.Seats.{ZoneState, SeatState}
use Rattle.zp_share.specs.declared.gathering.Totals.{Totals}
use Rattle.zp_share.specs.Gathering.{AddsUp, IsCrewOf, IsOneOf, owns_at, totals_of}
use Rattle.zp_share.specs.PlainShares.{back}
use Rattle.zp_share.specs.Sections.{IsAsked}
use Rattle.zp_share.specs.Shares.{ShareState, ZoneKey, is_section, key_of, no_key, plain, share_at, with_zone_share}
use Rattle.zp_share.specs.ZoneShares.{cached_of}
use Rattle.zp_counts.specs.CountBoards.{BoardState, CountsPublished}
use Rattle.zp_gate.specs.declared.granted.Granted.{Granted}
use Rattle.zp_gate.specs.Boards.{IsBoardOf, board_after}

pub record GatedState : Type 0 where
  pub zone : ZoneState
  -- the shares that workers left, the first to leave in front
  pub left : List ShareState
  -- what is published of the zone's counts, where it has a board
  pub board : Option CountsPublished

-- what never changes behind a lock: the zone's key, and its board, where it has one
pub record GateKey : Type 0 where
  pub zone : ZoneKey
  pub board : Option BoardState

-- past the end of a row there is nothing
abbrev pub no_gate : GateKey
no_gate = record { zone = no_key; board = None }

-- a seat of the zone with this key
abbrev pub IsSeatBy : ZoneKey → SeatState → Type 0
IsSeatBy k t = (t.tie ≡ k.tie) × (t.part.base ≡ k.base)

-- a share of one zone, the one with this key
abbrev pub IsOneShare : ZoneKey → ShareState → Type 0
IsOneShare k s = (length s.zones ≡ 1) × IsSeatBy k (share_at s 0).seat

-- it is the zone that the key tells of, and what its requests made of it; the shares that were left are of it, and so are the counts on its board
pub record IsBehind (key : GateKey) (y : GatedState) : Type 0 where
  pub known : key_of y.zone ≡ key.zone
  pub left : All (IsOneShare key.zone) y.left
  pub made : run (opening_of y.zone.plain) y.zone.entries ≡ y.zone.plain
  pub board : IsBoardOf key.board y.zone y.board

-- the request for a drain of n pages from the back of a share's list
abbrev pub drain_request : ℕ → MigrateType → ShareState → Request
drain_request n k s = Request.Drain k (back n (cached_of (share_at s 0) k))

-- a share made one section with the zone, and then the zone's counts were published, if it was asked; the rest of the share stays, and the shares that
-- were left
abbrev pub IsSectionOf : Request → Reply → GatedState → GatedState → ShareState → ShareState → Type 0
IsSectionOf r q y z s t = IsAsked r q y.zone z.zone (share_at s 0) (share_at t 0) × (z ≡ record y { zone = z.zone; board = board_after (is_section q) z.zone y.board }) × (t ≡ with_zone_share 0 (share_at t 0) s)

-- so many sections of a share with the zone, one after another: the first n of those that are asked for, each with its reply
abbrev pub AreSections : (ℕ → Request) → (ℕ → Reply) → ℕ → GatedState → GatedState → ShareState → ShareState → Type 0
AreSections asks gives zero y z s t = (z ≡ y) × (t ≡ s)
AreSections asks gives (suc n) y z s t = (m : GatedState) × (u : ShareState) × AreSections asks gives n y m s u × IsSectionOf (asks n) (gives n) m z u t

-- n were granted, and then it ended: all that were asked for were granted; or the next one was made too, and refused
abbrev pub EndsWith : (ℕ → Request) → ℕ → ℕ → Option Refused → GatedState → GatedState → ShareState → ShareState → Type 0
EndsWith asks most n None y z s t = (n ≡ most) × (z ≡ y) × (t ≡ s)
EndsWith asks most n (Some e) y z s t = (n < most) × IsSectionOf (asks n) (Reply.Refused e) y z s t

-- so many requests were asked for, and made one after another, up to the first that was refused
abbrev pub AreSectionsTill : (ℕ → Request) → (ℕ → Reply) → ℕ → Granted → GatedState → GatedState → ShareState → ShareState → Type 0
AreSectionsTill asks gives most g y z s t = (m : GatedState) × (u : ShareState) × AreSections asks gives g.count y m s u × EndsWith asks most g.count g.refused m z u t

-- the same request each time, answered by the pages of an array in their order
abbrev pub each_is : Request → ℕ → Request
each_is r i = r

abbrev pub page_of : List ℕ → ℕ → Reply
page_of ps i = Reply.Page (slice_index ps i)

-- the blocks of two arrays, by their pages and orders, are freed in their order
abbrev pub free_of : List ℕ → List ℕ → ℕ → Request
free_of ps ks i = Request.Free (slice_index ps i) (slice_index ks i)

abbrev pub freed_of : ℕ → Reply
freed_of i = Reply.Freed

-- of an array the first n are written
abbrev pub IsWrittenTo : ℕ → List ℕ → List ℕ → Type 0
IsWrittenTo n before after = (length after ≡ length before) × ((i : ℕ) → n ≤ i → slice_index after i ≡ slice_index before i)

-- a worker left its share; the zone stays
abbrev pub IsLeavingOf : ShareState → GatedState → GatedState → Type 0
IsLeavingOf s y z = z ≡ record y { left = y.left ++ s ∷ [] }

-- many requests of a share, one after another, up to the first that was refused
abbrev pub AreManySections : GatedState → GatedState → Type 0
AreManySections y z =
    (asks : ℕ → Request) × (gives : ℕ → Reply) × (most : ℕ) × (g : Granted) × (s : ShareState) × (t : ShareState) × AreSectionsTill asks gives most g y z s t

-- what one call makes of what stands behind a lock: one section of a share, a share more that was left, nothing, or many sections of a share
abbrev pub IsOneCall : GateKey → GatedState → GatedState → Type 0
IsOneCall key y z =
    ((r : Request) × (q : Reply) × (s : ShareState) × (t : ShareState) × IsSectionOf r q y z s t)
    ⊎ (((s : ShareState) × IsOneShare key.zone s × IsLeavingOf s y z) ⊎ ((z ≡ y) ⊎ AreManySections y z))

-- where the pages of the zone are, each in one place, with the shares of all its workers, which agree with it
pub record IsGatheredIn (y : GatedState) (t : Totals) : Type 0 where
  pub crew : IsCrewOf y.left y.zone
  pub agree : All (IsOneOf y.zone 0) y.left
  pub totals : t ≡ totals_of y.zone.plain (owns_at (map plain y.left) 0)
  pub adds_up : AddsUp y.zone.plain (owns_at (map plain y.left) 0)
  pub history : IsHistory y.zone.plain y.zone.entries
