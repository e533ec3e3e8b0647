-- What the lines of a journal are: words, each two of them parted by one space, and a line feed.
use Rattle.std.specs.Prelude.{ℕ, Bool, true, false, List, [], ◌∷◌, ◌++◌, length, map, codes}
use Rattle.std.specs.List.{flat_map, range_with_len, zip}
use Rattle.std.specs.Fmt.{decimal}
use Rattle.zp_model.specs.Entries.{Entry}
use Rattle.zp_model.specs.declared.request.Request.{Request}
use Rattle.zp_model.specs.declared.request.Request.TheVariants.{Alloc, AllocLow, Free, Post, Collect, Refill, Drain, Isolate, Release, AllocRun, AllocRunAt, FreeRun}
use Rattle.zp_model.specs.declared.request.Reply.{Reply}
use Rattle.zp_model.specs.declared.request.Reply.TheVariants.{Page, Block, Freed, Posted, Pages, Drained, Isolated, Released, Refused}
use Rattle.zp_model.specs.Refused.{refused_number}
use Rattle.zp_trace.specs.Spelling.{joined, kind_word, line_feed, mark_word, space}
use Rattle.zp_text.specs.declared.verdict.Verdict.{Verdict}
use Rattle.zp_text.specs.declared.verdict.Verdict.TheVariants.{Legal, Differs}

-- what was asked
abbrev pub request_words : Request → List (List ℕ)
request_words (Alloc order kind mark) = codes "alloc" ∷ decimal order ∷ kind_word kind ∷ mark_word mark ∷ []
request_words (AllocLow order) = codes "low" ∷ decimal order ∷ []
request_words (Free page order) = codes "free" ∷ decimal page ∷ decimal order ∷ []
request_words (Post page order to) = codes "post" ∷ decimal page ∷ decimal order ∷ decimal to ∷ []
request_words Collect = codes "collect" ∷ []
request_words (Refill kind mark count) = codes "refill" ∷ kind_word kind ∷ decimal count ∷ mark_word mark ∷ []
request_words (Drain kind pages) = codes "drain" ∷ kind_word kind ∷ map decimal pages
request_words (Isolate pageblock) = codes "isolate" ∷ decimal pageblock ∷ []
request_words (Release pageblock kind) = codes "release" ∷ decimal pageblock ∷ kind_word kind ∷ []
request_words (AllocRun pages align mark) = codes "run" ∷ decimal pages ∷ decimal align ∷ mark_word mark ∷ []
request_words (AllocRunAt page pages) = codes "runat" ∷ decimal page ∷ decimal pages ∷ []
request_words (FreeRun page pages) = codes "freerun" ∷ decimal page ∷ decimal pages ∷ []

-- the lowest block was asked for
abbrev pub is_low : Request → Bool
is_low (AllocLow order) = true
is_low (Alloc order kind mark) = false
is_low (Free page order) = false
is_low (Post page order to) = false
is_low Collect = false
is_low (Refill kind mark count) = false
is_low (Drain kind pages) = false
is_low (Isolate pageblock) = false
is_low (Release pageblock kind) = false
is_low (AllocRun pages align mark) = false
is_low (AllocRunAt page pages) = false
is_low (FreeRun page pages) = false

-- what was answered; who asked for the lowest block knows its order
abbrev pub reply_words : Bool → Reply → List (List ℕ)
reply_words low (Page p) = codes "page" ∷ decimal p ∷ []
reply_words true (Block b) = codes "page" ∷ decimal b.page ∷ []
reply_words false (Block b) = codes "block" ∷ decimal b.page ∷ codes "order" ∷ decimal b.order ∷ []
reply_words low Freed = codes "freed" ∷ []
reply_words low Posted = codes "posted" ∷ []
reply_words low (Pages ps) = codes "pages" ∷ map decimal ps
reply_words low Drained = codes "freed" ∷ []
reply_words low Isolated = codes "isolated" ∷ []
reply_words low Released = codes "released" ∷ []
reply_words low (Refused r) = codes "refused" ∷ decimal (refused_number r) ∷ []

-- the line of entry n of the zone of this name
abbrev pub entry_line : List ℕ → ℕ → Entry → List ℕ
entry_line name n e =
    joined (name ∷ decimal n ∷ decimal e.worker ∷ request_words e.request ++ reply_words (is_low e.request) e.reply)
    ++ line_feed ∷ []

-- the lines of all entries, the oldest first, numbered from 1
abbrev pub journal_text : List ℕ → List Entry → List ℕ
journal_text name es = flat_map (λ (p : ℕ × Entry). entry_line name p.0 p.1) (zip (range_with_len 1 (length es)) es)

-- that all N entries are legal, or which one differs
abbrev pub verdict_words : ℕ → Verdict → List (List ℕ)
verdict_words entries Legal = decimal entries ∷ codes "legal" ∷ []
verdict_words entries (Differs n) = codes "differs" ∷ decimal n ∷ []

-- the line of the zone of this name, whose journal has so many entries
abbrev pub verdict_line : List ℕ → ℕ → Verdict → List ℕ
verdict_line name entries v = joined (codes "journal" ∷ name ∷ verdict_words entries v) ++ line_feed ∷ []

-- words with a space before each
abbrev pub spaced : List (List ℕ) → List ℕ
spaced words = flat_map (λ word. space ∷ word) words
