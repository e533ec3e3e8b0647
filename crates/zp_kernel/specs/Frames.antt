-- What each page frame holds (this profile).
use Rattle.std.specs.Prelude.{ℕ, ◌+◌, ◌-◌, ◌%◌, ◌^◌, ◌&&◌, Bool, not, List, [], ◌∷◌, Option, None, Some, cond, ltb, refl}
use Rattle.std.specs.List.{list_all, range_with_len}
use Rattle.std.specs.Option.{is_some}
use Rattle.std.specs.Coded.{Coded, code_by, coded×, coded_ℕ}
use Rattle.std.specs.Ordering.{nat_cmp}
use Rattle.std.specs.FinMap.{FinMap, code, from_entries, get, insert}
use Rattle.zp_model.specs.declared.constants.TheConstants.{LARGEST_ORDER}
use Rattle.zp_model.specs.Runs.{cut}
use Rattle.zp_kernel.specs.declared.held.Held.{Held}
use Rattle.zp_kernel.specs.declared.held.Holder.{Holder}

-- the frames that hold a block: of our zones, that stands for the kernel's block which begins there
abbrev pub Frames : Type 0
Frames = FinMap nat_cmp Held

-- those of a hash map
abbrev pub frames_of : List (ℕ × Held) → Frames
frames_of entries = from_entries entries

abbrev numbers : Coded (ℕ × (ℕ × (ℕ × ℕ)))
numbers = coded× coded_ℕ (coded× coded_ℕ (coded× coded_ℕ coded_ℕ))

-- a block is stored as its numbers
abbrev pub held_code : Coded Held
held_code =
    code_by (ℕ × (ℕ × (ℕ × ℕ))) numbers (λ h. (h.lent.zone, (h.lent.page, (h.lent.order, h.worker))))
    (λ n. record { lent = record { zone = n.0; page = n.1.0; order = n.1.1.0 }; worker = n.1.1.1 }) (λ _. refl)

abbrev pub frames_code : Coded Frames
frames_code = code coded_ℕ held_code

-- the first of the 2^k frames that frame f lies among, where each such run begins at a multiple of its length
abbrev pub run_head : ℕ → ℕ → ℕ
run_head f k = f - f % 2 ^ k

-- the block that a head holds, where it reaches over the frame that stands n behind the head
abbrev pub reaching : ℕ → ℕ → Option Held → Option Holder
reaching head n None = None
reaching head n (Some h) = cond (ltb n (2 ^ h.lent.order)) (Some (record { frame = head; held = h })) None

-- the first that there is
abbrev pub or_else : Option Holder → Option Holder → Option Holder
or_else (Some h) other = Some h
or_else None other = other

-- of the runs of these orders the first one whose head holds a block that reaches over frame f
abbrev pub holder_among : Frames → ℕ → List ℕ → Option Holder
holder_among fs f [] = None
holder_among fs f (k ∷ ks) = or_else (reaching (run_head f k) (f % 2 ^ k) (get fs (run_head f k))) (holder_among fs f ks)

-- the nearest block that begins below frame f, at the head of a run of 2 to 2^10 frames, and reaches over it
unfoldable pub holder_around : Frames → ℕ → Option Holder
holder_around fs f = holder_among fs f (range_with_len 1 LARGEST_ORDER)

-- ---- a block is split

-- the frame, and the page, that stands n behind one; their numbers have 64 and 32 bits
abbrev pub frame_behind : ℕ → ℕ → ℕ
frame_behind f n = (f + n) % 2 ^ 64

abbrev pub page_behind : ℕ → ℕ → ℕ
page_behind p n = (p + n) % 2 ^ 32

-- of the block h a block that begins n pages behind its first one, of order k
abbrev pub piece : Held → ℕ → ℕ → Held
piece h n k = record { lent = record { zone = h.lent.zone; page = page_behind h.lent.page n; order = k }; worker = h.worker }

-- such blocks, each by its beginning and its order, are held by the frames where they begin; the block h is that of frame f
abbrev pub with_pieces : ℕ → Held → List (ℕ × ℕ) → Frames → Frames
with_pieces f h [] fs = fs
with_pieces f h (b ∷ bs) fs = with_pieces f h bs (insert fs (frame_behind f b.0) (piece h b.0 b.1))

-- of the block h its n pages from page i on are held, as the blocks of their cut
abbrev pub with_cut : ℕ → Held → ℕ → ℕ → Frames → Frames
with_cut f h i n fs = with_pieces f h (cut LARGEST_ORDER i n) fs

-- none of the frames where these blocks begin holds one
abbrev pub is_clear : Frames → ℕ → ℕ → ℕ → Bool
is_clear fs f i n = list_all (λ (b : ℕ × ℕ). not (is_some (get fs (frame_behind f b.0)))) (cut LARGEST_ORDER i n)

-- how many pages the block h has behind its first i
abbrev pub pages_behind : Held → ℕ → ℕ
pages_behind h i = 2 ^ h.lent.order - i

-- whether frames can hold what is left of the block h without its n pages from page i on, as frame f does not hold it any more
abbrev pub can_split : Frames → ℕ → Held → ℕ → ℕ → Bool
can_split fs f h i n = is_clear fs f 0 i && is_clear fs f (i + n) (pages_behind h (i + n))

-- and those that hold it
abbrev pub split : Frames → ℕ → Held → ℕ → ℕ → Frames
split fs f h i n = with_cut f h (i + n) (pages_behind h (i + n)) (with_cut f h 0 i fs)
