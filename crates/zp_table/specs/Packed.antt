-- A page's entry as one word, and the entry that a word stands for (this profile's layouts).
use Rattle.std.specs.Prelude.{ℕ, zero, suc, ◌+◌, ◌*◌, ◌^◌, ◌≡◌, ◌<◌, ◌≤◌, IfSome, cond, ltb}
use Rattle.zp_model.specs.declared.constants.TheConstants.{LARGEST_ORDER, MAX_PAGES, MAX_WORKERS, NARROW_PAGES}
use Rattle.zp_model.specs.declared.migrate_type.MigrateType.{MigrateType}
use Rattle.zp_model.specs.declared.migrate_type.MigrateType.TheVariants.{Unmovable, Reclaimable, Movable}
use Rattle.zp_model.specs.declared.state.State.{State}
use Rattle.zp_model.specs.declared.state.State.TheVariants.{Tail, Free, Out, Posted}
use Rattle.zp_model.specs.MigrateType.{type_number}
use Rattle.zp_table.specs.declared.entry.PageEntry.{PageEntry}
use Rattle.zp_table.specs.declared.layout.TheConstants.{WHICH_BITS, ORDER_AT, ORDER_BITS, TYPE_AT, TYPE_BITS, WORKER_AT, WORKER_BITS, STATE_BITS, LINK_BITS, BACK_AT, STATE_AT, FORWARD_AT, NARROW_LINK_BITS, NARROW_STATE_AT, NARROW_FORWARD_AT, NARROW_BACK_AT}
use Rattle.zp_table.specs.Fields.{field}
use Rattle.zp_table.specs.Links.{page_of, number_of}

-- where the fields of an entry begin, how many bits a link has, and the number that stands for no page
pub record Layout : Type 0 where
  pub state_at : ℕ
  pub forward_at : ℕ
  pub back_at : ℕ
  pub link_bits : ℕ
  pub none : ℕ

abbrev pub narrow : Layout
narrow = record { state_at = NARROW_STATE_AT; forward_at = NARROW_FORWARD_AT; back_at = NARROW_BACK_AT; link_bits = NARROW_LINK_BITS; none = NARROW_PAGES }

-- the layout in memory, which has a number for each page that a table can have
abbrev pub wide : Layout
wide = record { state_at = STATE_AT; forward_at = FORWARD_AT; back_at = BACK_AT; link_bits = LINK_BITS; none = MAX_PAGES }

-- the layout in which the words of a table of so many pages are told: the narrow one, where it has numbers for them
abbrev pub told_layout : ℕ → Layout
told_layout pages = cond (ltb NARROW_PAGES pages) wide narrow

-- the bits of a state: which one it is, and what it says, each from its bit on
abbrev pub packed_state : State → ℕ
packed_state Tail = 0
packed_state (Free order) = 1 + order * 2 ^ ORDER_AT
packed_state (Out order t worker) = 2 + order * 2 ^ ORDER_AT + type_number t * 2 ^ TYPE_AT + worker * 2 ^ WORKER_AT
packed_state (Posted order t worker) = 3 + order * 2 ^ ORDER_AT + type_number t * 2 ^ TYPE_AT + worker * 2 ^ WORKER_AT

-- the word of an entry
abbrev pub packed : Layout → PageEntry → ℕ
packed l e = packed_state e.state * 2 ^ l.state_at + number_of l.none e.forward * 2 ^ l.forward_at + number_of l.none e.back * 2 ^ l.back_at

abbrev pub type_of : ℕ → MigrateType
type_of zero = Unmovable
type_of (suc zero) = Reclaimable
type_of (suc (suc n)) = Movable

-- the state of this number, with what it says
abbrev pub state_of : ℕ → ℕ → MigrateType → ℕ → State
state_of zero order t worker = Tail
state_of (suc zero) order t worker = Free order
state_of (suc (suc zero)) order t worker = Out order t worker
state_of (suc (suc (suc n))) order t worker = Posted order t worker

-- the state of these bits
abbrev pub unpacked_state : ℕ → State
unpacked_state bits = state_of (field bits 0 WHICH_BITS) (field bits ORDER_AT ORDER_BITS) (type_of (field bits TYPE_AT TYPE_BITS)) (field bits WORKER_AT WORKER_BITS)

-- the entry of a word
abbrev pub unpacked : Layout → ℕ → PageEntry
unpacked l word = record {
  state = unpacked_state (field word l.state_at STATE_BITS);
  back = page_of l.none (field word l.back_at l.link_bits);
  forward = page_of l.none (field word l.forward_at l.link_bits);
}

-- an order and a worker that a zone can have
abbrev pub StateFits : State → Type 0
StateFits Tail = Unit {0}
StateFits (Free order) = order ≤ LARGEST_ORDER
StateFits (Out order t worker) = (order ≤ LARGEST_ORDER) × (worker < MAX_WORKERS)
StateFits (Posted order t worker) = (order ≤ LARGEST_ORDER) × (worker < MAX_WORKERS)

-- such a state, and links to pages that the layout has numbers for
pub record Fits (l : Layout) (e : PageEntry) : Type 0 where
  pub state : StateFits e.state
  pub back : IfSome e.back (λ page. page < l.none)
  pub forward : IfSome e.forward (λ page. page < l.none)

-- a word that an entry is packed in
abbrev pub IsPacked : Layout → ℕ → Type 0
IsPacked l word = Fits l (unpacked l word) × (packed l (unpacked l word) ≡ word)

-- an entry is packed in one word, which tells the whole of it
abbrev pub UnpackingUndoesPacking : Layout → Type 0
UnpackingUndoesPacking l = (e : PageEntry) → Fits l e → unpacked l (packed l e) ≡ e
