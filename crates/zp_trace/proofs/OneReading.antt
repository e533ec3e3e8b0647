-- A text is read in one way: of the lines that may stand next it begins with one at most, so it writes one trace, or has one bad line.
use Rattle.std.proofs.Common.{ℕ, ◌≡◌, Option, Some, None, IfSome, List, [], ◌∷◌, ◌++◌, get_or, refl, sym, ap, subst, ◌∙◌, arith, append_assoc, ◌⊎◌, inl, inr, length, length-append}
use Rattle.std.specs.Fmt.{decimal}
use Rattle.zp_model.specs.declared.migrate_type.MigrateType.{MigrateType}
use Rattle.zp_model.specs.declared.migrate_type.MigrateType.TheVariants.{Unmovable, Reclaimable, Movable}
use Rattle.zp_model.specs.declared.mark.Mark.{Mark}
use Rattle.zp_model.specs.declared.mark.Mark.TheVariants as mark
use Rattle.zp_model.specs.Bounds.{IsLargest}
use Rattle.zp_trace.specs.declared.line.ZoneLine.{ZoneLine}
use Rattle.zp_trace.specs.declared.line.Call.{Call}
use Rattle.zp_trace.specs.declared.line.Call.TheVariants.{Info, Alloc, Low, Free, Post, Collect, Drain, Isolate, Release}
use Rattle.zp_trace.specs.declared.line.CommandLine.{CommandLine}
use Rattle.zp_trace.specs.declared.trace.Header.{Header}
use Rattle.zp_trace.specs.declared.trace.Trace.{Trace}
use Rattle.zp_trace.specs.Lines.{Line}
use Rattle.zp_trace.specs.Lines as line
use Rattle.zp_trace.specs.Spelling.{line_feed, joined, AreWords, line_words, line_text, largest_words, zone_words, kind_word, mark_word, call_words, command_words, text_of}
use Rattle.zp_trace.specs.Grammar.{IsZoneLine, IsHeader, IsCallOf, IsCommandOf, IsAllowedAfter, IsBeginning, lines_of, IsTraceText, IsBadLine}
use Rattle.zp_trace.proofs.WordLists.{zone_are_words, workers_are_words, lists_are_words, command_are_words, words_are_line}
use Rattle.zp_numbers.proofs.Numbers.{same_number}
use Rattle.zp_trace.proofs.HeaderLines.{header_is}
use Rattle.zp_trace.proofs.CommandLines.{same_trace}
use Rattle.zp_trace.proofs.BadLines.{zones_are_no_trace, workers_are_no_trace}
use Rattle.std.proofs.lemmas.List.{append-nil}

-- words of a largest order, of a zone line and of a call say which they are of
same_largest : (a b : Option ℕ) → IfSome a IsLargest → IfSome b IsLargest → largest_words a ≡ largest_words b → a ≡ b
same_largest None None p q e = refl
same_largest None (Some n) p q e = cc
same_largest (Some m) None p q e = cc
same_largest (Some m) (Some n) p q e = ap (λ (k : ℕ). Some k) (same_number (decimal m) m n (omega (arith, p.1)) (omega (arith, q.1)) refl cc)

pub same_zone : (z w : ZoneLine) → IsZoneLine z → IsZoneLine w → zone_words z ≡ zone_words w → z ≡ w
same_zone z w p q e =
    let name : z.name ≡ w.name = cc in
    let base = same_number (decimal z.base) z.base w.base (omega (arith, p.1.1)) (omega (arith, q.1.1)) refl cc in
    let pages = same_number (decimal z.pages) z.pages w.pages (omega (arith, p.2.1)) (omega (arith, q.2.1)) refl cc in
    let min = same_number (decimal z.min) z.min w.min (omega (arith, p.2.1, p.3)) (omega (arith, q.2.1, q.3)) refl cc in
    let words : largest_words z.largest ≡ largest_words w.largest = cc in
    let largest = same_largest z.largest w.largest p.4 q.4 words in
    λ i. record { name = name i; base = base i; pages = pages i; min = min i; largest = largest i }

-- the types have different first letters
first_letter : (k j : MigrateType) → kind_word k ≡ kind_word j → get_or (kind_word k) 0 0 ≡ get_or (kind_word j) 0 0
first_letter k j e = ap (λ (w : List ℕ). get_or w 0 0) e

same_kind : (k j : MigrateType) → kind_word k ≡ kind_word j → k ≡ j
same_kind Unmovable Unmovable e = refl
same_kind Reclaimable Reclaimable e = refl
same_kind Movable Movable e = refl
same_kind k j e = absurd (omega (arith, first_letter k j e))

-- and so have the marks
first_of_mark : (m n : Mark) → mark_word m ≡ mark_word n → get_or (mark_word m) 0 0 ≡ get_or (mark_word n) 0 0
first_of_mark m n e = ap (λ (w : List ℕ). get_or w 0 0) e

same_mark : (m n : Mark) → mark_word m ≡ mark_word n → m ≡ n
same_mark mark.Low mark.Low e = refl
same_mark mark.Min mark.Min e = refl
same_mark mark.Any mark.Any e = refl
same_mark m n e = absurd (omega (arith, first_of_mark m n e))

-- some calls have as many words, and other keywords
first_byte : (words others : List (List ℕ)) → words ≡ others → get_or (get_or words 0 []) 0 0 ≡ get_or (get_or others 0 []) 0 0
first_byte words others e = ap (λ (ws : List (List ℕ)). get_or (get_or ws 0 []) 0 0) e

same_call : (h : Header) (a b : Call) → IsHeader h → IsCallOf h a → IsCallOf h b → call_words a ≡ call_words b → a ≡ b
same_call h Info Info header p q e = refl
same_call h Info Drain header p q e = absurd (omega (arith, first_byte (call_words Info) (call_words Drain) e))
same_call h (Alloc label order kind zone m) (Alloc lab ord typ name mk) header p q e =
    let same_order = same_number (decimal order) order ord (omega (arith, p.1)) (omega (arith, q.1)) refl cc in
    let same_type = same_kind kind typ cc in
    let marks = same_mark m mk cc in
    cc
same_call h (Low label order zone) (Low lab ord name) header p q e =
    let same_order = same_number (decimal order) order ord (omega (arith, p.1)) (omega (arith, q.1)) refl cc in
    cc
same_call h (Free label) (Free lab) header p q e =
    cc
same_call h (Post label to) (Post lab other) header p q e =
    let same_to = same_number (decimal to) to other (omega (arith, p.1, header.workers.1)) (omega (arith, q.1, header.workers.1)) refl cc in
    cc
same_call h (Post label to) (Collect lab name) header p q e = absurd (omega (arith, first_byte (call_words (Post label to)) (call_words (Collect lab name)) e))
same_call h (Collect label zone) (Post lab other) header p q e = absurd (omega (arith, first_byte (call_words (Collect label zone)) (call_words (Post lab other)) e))
same_call h (Collect label zone) (Collect lab name) header p q e =
    cc
same_call h Drain Info header p q e = absurd (omega (arith, first_byte (call_words Drain) (call_words Info) e))
same_call h Drain Drain header p q e = refl
same_call h (Low label order zone) (Release name number typ) header p q e = absurd (omega (arith, first_byte (call_words (Low label order zone)) (call_words (Release name number typ)) e))
same_call h (Release zone pageblock kind) (Low lab ord name) header p q e = absurd (omega (arith, first_byte (call_words (Release zone pageblock kind)) (call_words (Low lab ord name)) e))
same_call h (Post label to) (Isolate name number) header p q e = absurd (omega (arith, first_byte (call_words (Post label to)) (call_words (Isolate name number)) e))
same_call h (Isolate zone pageblock) (Post lab other) header p q e = absurd (omega (arith, first_byte (call_words (Isolate zone pageblock)) (call_words (Post lab other)) e))
same_call h (Collect label zone) (Isolate name number) header p q e = absurd (omega (arith, first_byte (call_words (Collect label zone)) (call_words (Isolate name number)) e))
same_call h (Isolate zone pageblock) (Collect lab name) header p q e = absurd (omega (arith, first_byte (call_words (Isolate zone pageblock)) (call_words (Collect lab name)) e))
same_call h (Isolate zone pageblock) (Isolate name number) header p q e =
    let same_pageblock = same_number (decimal pageblock) pageblock number (omega (arith, p.1)) (omega (arith, q.1)) refl cc in
    cc
same_call h (Release zone pageblock kind) (Release name number typ) header p q e =
    let same_pageblock = same_number (decimal pageblock) pageblock number (omega (arith, p.1)) (omega (arith, q.1)) refl cc in
    let same_type = same_kind kind typ cc in
    cc
same_call h a b header p q e = cc

pub same_command : (h : Header) (c d : CommandLine) → IsHeader h → IsCommandOf h c → IsCommandOf h d → command_words c ≡ command_words d → c ≡ d
same_command h c d header p q e =
    let worker = same_number (decimal c.worker) c.worker d.worker (omega (arith, p.0, header.workers.1)) (omega (arith, q.0, header.workers.1)) refl cc in
    let rest : call_words c.call ≡ call_words d.call = cc in
    let call = same_call h c.call d.call header p.1 q.1 rest in
    λ i. record { worker = worker i; call = call i }

-- a command that stands after lines stands after a header
header_before : (before : List Line) (t : Trace) → IsBeginning before → before ≡ lines_of t → IsHeader t.header
header_before before t begins e = header_is t.header t.commands (subst IsBeginning e begins)

-- of the lines that may stand next, two have the same words only if they are one
same_line : (before : List Line) (l m : Line) → IsBeginning before → IsAllowedAfter before l → IsAllowedAfter before m → line_words l ≡ line_words m → l ≡ m
same_line before (line.Zone z) (line.Zone w) begins p q e = ap (λ (v : ZoneLine). line.Zone v) (same_zone z w p.2.1 q.2.1 e)
same_line before (line.Zone z) (line.CommandLine d) begins p q e = absurd (zones_are_no_trace p.0 q.0 (sym p.1 ∙ q.1))
same_line before (line.Workers n) (line.Workers m) begins p q e =
    ap (λ (k : ℕ). line.Workers k) (same_number (decimal n) n m (omega (arith, p.3.1)) (omega (arith, q.3.1)) refl cc)
same_line before (line.Workers n) (line.CommandLine d) begins p q e = absurd (zones_are_no_trace p.0 q.0 (sym p.1 ∙ q.1))
same_line before (line.Lists b h) (line.Lists c g) begins p q e =
    let batch = same_number (decimal b) b c (omega (arith, p.3)) (omega (arith, q.3)) refl cc in
    let high = same_number (decimal h) h g (omega (arith, p.3)) (omega (arith, q.3)) refl cc in
    cc
same_line before (line.Lists b h) (line.CommandLine d) begins p q e = absurd (workers_are_no_trace p.0 p.1 q.0 (sym p.2 ∙ q.1))
same_line before (line.CommandLine c) (line.Zone w) begins p q e = absurd (zones_are_no_trace q.0 p.0 (sym q.1 ∙ p.1))
same_line before (line.CommandLine c) (line.Workers m) begins p q e = absurd (zones_are_no_trace q.0 p.0 (sym q.1 ∙ p.1))
same_line before (line.CommandLine c) (line.Lists b h) begins p q e = absurd (workers_are_no_trace q.0 q.1 p.0 (sym q.2 ∙ p.1))
same_line before (line.CommandLine c) (line.CommandLine d) begins p q e =
    let trace = same_trace q.0 p.0 (sym q.1 ∙ p.1) in
    let other = subst (λ (t : Trace). IsCommandOf t.header d) trace q.3.0 in
    ap (λ (f : CommandLine). line.CommandLine f) (same_command p.0.header c d (header_before before p.0 begins p.1) p.3.0 other e)
same_line before l m begins p q e = cc

allowed_are_words : (before : List Line) (l : Line) → IsBeginning before → IsAllowedAfter before l → AreWords (line_words l)
allowed_are_words before (line.Zone z) begins p = zone_are_words z p.2.1
allowed_are_words before (line.Workers n) begins p = workers_are_words n p.3
allowed_are_words before (line.Lists b h) begins p = lists_are_words b h p.3
allowed_are_words before (line.CommandLine c) begins p =
    command_are_words p.0.header c (header_before before p.0 begins p.1) p.3.0

pub next_unique : (before : List Line) (l m : Line) (x y : List ℕ) → IsBeginning before → IsAllowedAfter before l → IsAllowedAfter before m → line_text l ++ x ≡ line_text m ++ y → (l ≡ m) × (x ≡ y)
next_unique before l m x y begins p q e =
    let words = words_are_line (line_words l) (line_words m) x y (allowed_are_words before l begins p) (allowed_are_words before m begins q)
    (sym (append_assoc (joined (line_words l)) (line_feed ∷ []) x) ∙ e ∙ append_assoc (joined (line_words m)) (line_feed ∷ []) y) in
    (same_line before l m begins p q words.0, words.1)

-- one of two runs of lines goes on from the other
abbrev GoesOn : List Line → List Line → List ℕ → List ℕ → Type 0
GoesOn ls ms x y = (rest : List Line) × (ms ≡ ls ++ rest) × (x ≡ text_of rest ++ y)

begins_front : (before : List Line) (l : Line) (ls : List Line) → IsBeginning (before ++ (l ∷ ls)) → IsBeginning before
begins_front before l ls begins k m after e =
    begins k m (after ++ (l ∷ ls)) (ap (λ (ks : List Line). ks ++ (l ∷ ls)) e ∙ append_assoc k (m ∷ after) (l ∷ ls))

compare : (before ls ms : List Line) (x y : List ℕ) → IsBeginning (before ++ ls) → IsBeginning (before ++ ms) → text_of ls ++ x ≡ text_of ms ++ y → GoesOn ls ms x y ⊎ GoesOn ms ls y x
compare before [] ms x y p q e = inl (ms, refl, e)
compare before (l ∷ ls) [] x y p q e = inr (l ∷ ls, refl, sym e)
compare before (l ∷ ls) (m ∷ ms) x y p q e =
    let next = next_unique before l m (text_of ls ++ x) (text_of ms ++ y) (begins_front before l ls p) (p before l ls refl) (q before m ms refl)
    (sym (append_assoc (line_text l) (text_of ls) x) ∙ e ∙ append_assoc (line_text m) (text_of ms) y) in
    let same : l ≡ m = next.0 in
    let r = compare (before ++ (l ∷ [])) ls ms x y (rw append_assoc p) (rw (append_assoc, same) q) next.1 in
    elim r [
      | inl further ↦ (let more : ms ≡ ls ++ further.0 = further.1 in inl (further.0, cc, further.2))
      | inr further ↦ (let more : ls ≡ ms ++ further.0 = further.1 in inr (further.0, cc, further.2))
    ]

-- a line's text is not empty
no_text : (l : Line) (ls : List Line) (x : List ℕ) → [] ≡ text_of (l ∷ ls) ++ x → ⊥
no_text l ls x e =
    let front : [] ≡ joined (line_words l) ++ (line_feed ∷ (text_of ls ++ x)) =
    e ∙ append_assoc (line_text l) (text_of ls) x ∙ append_assoc (joined (line_words l)) (line_feed ∷ []) (text_of ls ++ x)
    in
    omega (arith, ap length front, length-append (joined (line_words l)) (line_feed ∷ (text_of ls ++ x)))

-- what goes on with nothing left is the same
ends : (ls ms : List Line) (x y : List ℕ) → x ≡ [] → GoesOn ls ms x y → (ms ≡ ls) × (y ≡ [])
ends ls ms x y none ([], more, e) = (more ∙ append-nil ls, sym e ∙ none)
ends ls ms x y none (l ∷ rest, more, e) = absurd (no_text l rest y (sym none ∙ e))

nothing : (t : Trace) (u : List Line) (text rest : List ℕ) → text ≡ text_of (lines_of t) → text ≡ text_of u ++ rest → text_of (lines_of t) ++ [] ≡ text_of u ++ rest
nothing t u text rest e f = append-nil (text_of (lines_of t)) ∙ sym e ∙ f

pub one_trace : (text : List ℕ) (t u : Trace) → IsTraceText text t → IsTraceText text u → t ≡ u
one_trace text t u p q =
    let e = nothing t (lines_of u) text [] p.lines (q.lines ∙ sym (append-nil (text_of (lines_of u)))) in
    elim (compare [] (lines_of t) (lines_of u) [] [] p.allowed q.allowed e) [
      | inl further ↦ same_trace t u (sym (ends (lines_of t) (lines_of u) [] [] refl further).0)
      | inr further ↦ same_trace t u (ends (lines_of u) (lines_of t) [] [] refl further).0
    ]

-- lines that go on from those before a bad line begin no rest
goes_on : (before after : List Line) (x y : List ℕ) → IsBeginning after → ((l : Line) (more : List ℕ) → IsAllowedAfter before l → x ≡ line_text l ++ more → ⊥) → GoesOn before after x y → (after ≡ before) × (x ≡ y)
goes_on before after x y begins bad ([], more, e) = (more ∙ append-nil before, e)
goes_on before after x y begins bad (l ∷ rest, more, e) =
    absurd (bad l (text_of rest ++ y) (begins before l rest more) (e ∙ append_assoc (line_text l) (text_of rest) y))

pub no_bad_line : (text : List ℕ) (t : Trace) (n : ℕ) → IsTraceText text t → IsBadLine text n → ⊥
no_bad_line text t n p q =
    let e = nothing t q.before text q.rest p.lines q.parts in
    elim (compare [] (lines_of t) q.before [] q.rest p.allowed q.allowed e) [
      | inl further ↦ (let r = ends (lines_of t) q.before [] q.rest refl further in q.unfinished r.1 t r.0)
      | inr further ↦ (let r = goes_on q.before (lines_of t) q.rest [] p.allowed q.bad further in q.unfinished r.1 t (sym r.0))
    ]

pub one_bad_line : (text : List ℕ) (m n : ℕ) → IsBadLine text m → IsBadLine text n → m ≡ n
one_bad_line text m n p q =
    elim (compare [] p.before q.before p.rest q.rest p.allowed q.allowed (sym p.parts ∙ q.parts)) [
      | inl further ↦ (let r = goes_on p.before q.before p.rest q.rest q.allowed p.bad further in omega (arith, p.number, q.number, ap length r.0))
      | inr further ↦ (let r = goes_on q.before p.before q.rest p.rest p.allowed q.bad further in omega (arith, p.number, q.number, ap length r.0))
    ]
