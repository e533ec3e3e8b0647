-- The fields of an event are the words behind its name (Linux's include/trace/events/kmem.h, TP_printk):
--     mm_page_alloc: page=%p pfn=0x%lx order=%d migratetype=%d gfp_flags=%s
--     mm_page_free: page=%p pfn=0x%lx order=%d
use Rattle.std.specs.Prelude.{ℕ, ◌≡◌, ◌++◌, List, [], ◌∷◌, Bool, true, false, ◌||◌, codes}
use Rattle.std.specs.Str.{bytes_eq}
use Rattle.zp_events.specs.declared.event.FrameBlock.{FrameBlock}
use Rattle.zp_events.specs.declared.event.PageRequest.{PageRequest}
use Rattle.zp_events.specs.declared.event.Action.{Action}
use Rattle.zp_events.specs.declared.event.Action.TheVariants as action
use Rattle.zp_events.specs.declared.event.EventName.{EventName}
use Rattle.zp_events.specs.declared.event.EventName.TheVariants as name
use Rattle.zp_events.specs.Numbers.{IsSmall, IsFrame}
use Rattle.zp_events.specs.Flags.{zone_limit_of}

-- whether the address of a page is that of none, as the tools write it
unfoldable pub is_no_page : List ℕ → Bool
is_no_page page = ((bytes_eq page (codes "(null)") || bytes_eq page (codes "(nil)")) || bytes_eq page (codes "0x0")) || bytes_eq page (codes "0000000000000000")

-- the words begin with the fields of this block, whose page may be none; behind them stand more
pub record IsPlace (words : List (List ℕ)) (no_page : Bool) (block : FrameBlock) (more : List (List ℕ)) : Type 0 where
  pub page : List ℕ
  pub frame : List ℕ
  pub order : List ℕ
  pub written : words ≡ (codes "page=" ++ page) ∷ (codes "pfn=" ++ frame) ∷ (codes "order=" ++ order) ∷ more
  pub page_is : no_page ≡ is_no_page page
  pub frame_is : IsFrame frame block.frame
  pub order_is : IsSmall order block.order

-- what became of a request for such a block
abbrev pub outcome : Bool → FrameBlock → PageRequest → Action
outcome true block request = action.Refuse block request
outcome false block request = action.Alloc block request

-- the words are those of `mm_page_alloc`, and say this
pub record IsAllocation (words : List (List ℕ)) (said : Action) : Type 0 where
  pub no_page : Bool
  pub block : FrameBlock
  pub request : PageRequest
  pub migrate_type : List ℕ
  pub flags : List ℕ
  pub place : IsPlace words no_page block ((codes "migratetype=" ++ migrate_type) ∷ (codes "gfp_flags=" ++ flags) ∷ [])
  pub type_is : IsSmall migrate_type request.migrate_type
  pub limit_is : request.zone_limit ≡ zone_limit_of flags
  pub said_is : said ≡ outcome no_page block request

-- the words are those of `mm_page_free`, and say this
pub record IsFreeing (words : List (List ℕ)) (said : Action) : Type 0 where
  pub no_page : Bool
  pub block : FrameBlock
  pub place : IsPlace words no_page block []
  pub said_is : said ≡ action.Free block

-- the words are the fields of an event of this name, and say this; of a fallback they may be any
abbrev pub IsAction : EventName → List (List ℕ) → Action → Type 0
IsAction name.Alloc words said = IsAllocation words said
IsAction name.Free words said = IsFreeing words said
IsAction name.Fallback words said = said ≡ action.Fallback
