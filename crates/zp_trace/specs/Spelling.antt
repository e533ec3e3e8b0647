-- What the text of each line is: words, each two of them parted by one space, and a line feed.
use Rattle.std.specs.Prelude.{ℕ, ◌<◌, ◌≤◌, List, [], ◌∷◌, ◌++◌, length, map, codes, Option, Some, None}
use Rattle.std.specs.List.{join_with_byte, flat_map, AllByRecursion}
use Rattle.std.specs.Fmt.{decimal}
use Rattle.std.specs.Borrow.{Bor}
use Rattle.zp_model.specs.declared.migrate_type.MigrateType.{MigrateType}
use Rattle.zp_model.specs.declared.migrate_type.MigrateType.TheVariants.{Unmovable, Reclaimable, Movable}
use Rattle.zp_model.specs.declared.mark.Mark.{Mark}
use Rattle.zp_model.specs.declared.mark.Mark.TheVariants as mark
use Rattle.zp_trace.specs.declared.bounds.TheConstants.{MOST_WORDS}
use Rattle.zp_trace.specs.declared.line.ZoneLine.{ZoneLine}
use Rattle.zp_trace.specs.declared.line.Call.{Call}
use Rattle.zp_trace.specs.declared.line.Call.TheVariants.{Info, Alloc, Low, Free, Post, Collect, Drain, Isolate, Release}
use Rattle.zp_trace.specs.declared.trace.Header.{Header}
use Rattle.zp_trace.specs.declared.line.CommandLine.{CommandLine}
use Rattle.zp_trace.specs.Lines.{Line}
use Rattle.zp_trace.specs.Lines as line

abbrev pub space : ℕ
space = 32

abbrev pub line_feed : ℕ
line_feed = 10

-- words with one space between each two
abbrev pub joined : List (List ℕ) → List ℕ
joined words = join_with_byte space words

-- the bytes of words, wherever they lie
abbrev pub spelled : List (Bor (List ℕ)) → List (List ℕ)
spelled words = map (λ w. w.now) words

-- each byte of a word stands above the space and the line feed
abbrev pub IsWord : List ℕ → Type 0
IsWord word = AllByRecursion (λ b. space < b) word

-- what may be the words of a line
abbrev pub AreWords : List (List ℕ) → Type 0
AreWords words = (0 < length words) × (length words ≤ MOST_WORDS) × AllByRecursion IsWord words

-- the word of a largest order, on a line that names one
abbrev pub largest_words : Option ℕ → List (List ℕ)
largest_words None = []
largest_words (Some m) = decimal m ∷ []

abbrev pub zone_words : ZoneLine → List (List ℕ)
zone_words z = codes "zone" ∷ z.name ∷ decimal z.base ∷ decimal z.pages ∷ decimal z.min ∷ largest_words z.largest

abbrev pub workers_words : ℕ → List (List ℕ)
workers_words n = codes "workers" ∷ decimal n ∷ []

abbrev pub lists_words : ℕ → ℕ → List (List ℕ)
lists_words batch high = codes "lists" ∷ decimal batch ∷ decimal high ∷ []

abbrev pub kind_word : MigrateType → List ℕ
kind_word Unmovable = codes "U"
kind_word Reclaimable = codes "R"
kind_word Movable = codes "M"

abbrev pub mark_word : Mark → List ℕ
mark_word mark.Low = codes "low"
mark_word mark.Min = codes "min"
mark_word mark.Any = codes "any"

abbrev pub call_words : Call → List (List ℕ)
call_words Info = codes "info" ∷ []
call_words (Alloc label order kind zone m) =
    codes "alloc" ∷ label ∷ decimal order ∷ kind_word kind ∷ zone ∷ mark_word m ∷ []
call_words (Low label order zone) = codes "low" ∷ label ∷ decimal order ∷ zone ∷ []
call_words (Free label) = codes "free" ∷ label ∷ []
call_words (Post label to) = codes "post" ∷ label ∷ decimal to ∷ []
call_words (Collect label zone) = codes "collect" ∷ label ∷ zone ∷ []
call_words Drain = codes "drain" ∷ []
call_words (Isolate zone pageblock) = codes "isolate" ∷ zone ∷ decimal pageblock ∷ []
call_words (Release zone pageblock kind) = codes "release" ∷ zone ∷ decimal pageblock ∷ kind_word kind ∷ []

abbrev pub command_words : CommandLine → List (List ℕ)
command_words c = decimal c.worker ∷ call_words c.call

abbrev pub line_words : Line → List (List ℕ)
line_words (line.Zone z) = zone_words z
line_words (line.Workers n) = workers_words n
line_words (line.Lists batch high) = lists_words batch high
line_words (line.CommandLine c) = command_words c

abbrev pub line_text : Line → List ℕ
line_text l = joined (line_words l) ++ line_feed ∷ []

abbrev pub text_of : List Line → List ℕ
text_of lines = flat_map line_text lines

-- the lines before the first worker line
abbrev pub header_of : Header → List Line
header_of h = map line.Zone h.zones ++ line.Workers h.workers ∷ line.Lists h.batch h.high ∷ []
