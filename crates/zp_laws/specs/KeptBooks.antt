-- What a request does to the books: to its worker's part, and to the others'.
use Rattle.std.specs.Prelude.{ℕ, ◌+◌, ◌≡◌, ◌≢◌, length}
use Rattle.zp_model.specs.declared.request.Request.{Request}
use Rattle.zp_model.specs.declared.request.Reply.{Reply}
use Rattle.zp_model.specs.Runs.{may_free_run}
use Rattle.zp_model.specs.Step.{step}
use Rattle.zp_model.specs.Zone.{PlainZone}
use Rattle.zp_model.specs.Run.{IsDefined, is_out}
use Rattle.zp_model.specs.Lawful.{IsLawful}
use Rattle.zp_model.specs.Books.{Books, Part, part, has_block, has_run, entered, noted_in}

-- a request that is defined leaves what is other workers'
abbrev pub RequestsLeaveOthers : Type 0
RequestsLeaveOthers =
    (u w : ℕ) (r : Request) (b : Books) → IsLawful b.plain → IsDefined b.plain w r → u ≢ w → part u (entered w r b) ≡ part u b

-- and what it does to its worker's own part is said by request and reply, and for a run that is allocated by the types of the pageblocks
abbrev pub RepliesTellTheirPart : Type 0
RepliesTellTheirPart =
    (w : ℕ) (r : Request) (b : Books) → IsDefined b.plain w r → part w (entered w r b) ≡ noted_in b.plain w r (step b.plain w r).reply (part w b)

-- a part tells which blocks are out in its worker's name
abbrev pub PartsTellWhatIsOut : Type 0
PartsTellWhatIsOut = (w p k : ℕ) (b : Books) → has_block w (part w b) p k ≡ is_out b.plain w p k

-- and which runs are lent to its worker
abbrev pub PartsTellWhatIsLent : Type 0
PartsTellWhatIsLent = (w p n : ℕ) (b : Books) → IsLawful b.plain → has_run w (part w b) p n ≡ may_free_run b.plain w p n

-- two moments of one part
pub record IsSamePlaces (before after : Part) : Type 0 where
  pub base : after.base ≡ before.base
  pub pages : length after.blocks ≡ length before.blocks

-- no request changes where a part begins, nor of how many pages it tells
abbrev pub PartsKeepTheirPlaces : Type 0
PartsKeepTheirPlaces =
    (w u : ℕ) (r : Request) (b : Books) → IsLawful b.plain → IsDefined b.plain w r → IsSamePlaces (part u b) (part u (entered w r b))

-- a request makes one entry more
abbrev pub RequestsMakeOneEntry : Type 0
RequestsMakeOneEntry = (z : PlainZone) (w : ℕ) (r : Request) (q : Reply) (s : Part) → length (noted_in z w r q s).entries ≡ length s.entries + 1
