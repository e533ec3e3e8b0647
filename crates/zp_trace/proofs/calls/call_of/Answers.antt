use Rattle.std.proofs.Common.{List, ℕ, ◌≡◌}
use Rattle.zp_model.specs.declared.migrate_type.MigrateType.{MigrateType}
use Rattle.zp_model.specs.declared.mark.Mark.{Mark}
use Rattle.zp_trace.specs.declared.line.Call.{Call}
use Rattle.zp_trace.specs.declared.line.Call.TheVariants.{Info, Alloc, Low, Free, Post, Collect, Drain, Isolate, Release}
use Rattle.zp_trace.specs.declared.trace.Header.{Header}
use Rattle.zp_trace.specs.Spelling.{spelled, call_words}
use Rattle.zp_trace.specs.Grammar.{IsCallOf}
use Rattle.zp_trace.proofs.WordLists.{none_weaker}
use Rattle.zp_trace.proofs.calls.call_of.Goals as goal

-- words of none of the calls are of no call
no_call : (h : Header) (words : List (List ℕ))
    → (words ≡ call_words Info → ⊥)
    → (words ≡ call_words Drain → ⊥)
    → ((label : List ℕ) (order : ℕ) (kind : MigrateType) (zone : List ℕ) (mark : Mark) → IsCallOf h (Alloc label order kind zone mark) → words ≡ call_words (Alloc label order kind zone mark) → ⊥)
    → ((label : List ℕ) (order : ℕ) (zone : List ℕ) → IsCallOf h (Low label order zone) → words ≡ call_words (Low label order zone) → ⊥)
    → ((label : List ℕ) (to : ℕ) → IsCallOf h (Post label to) → words ≡ call_words (Post label to) → ⊥)
    → ((label zone : List ℕ) → IsCallOf h (Collect label zone) → words ≡ call_words (Collect label zone) → ⊥)
    → ((zone : List ℕ) (pageblock : ℕ) → IsCallOf h (Isolate zone pageblock) → words ≡ call_words (Isolate zone pageblock) → ⊥)
    → ((zone : List ℕ) (pageblock : ℕ) (kind : MigrateType) → IsCallOf h (Release zone pageblock kind) → words ≡ call_words (Release zone pageblock kind) → ⊥)
    → ((header : Header) (label : List ℕ) → IsCallOf header (Free label) → words ≡ call_words (Free label) → ⊥)
    → (call : Call) → IsCallOf h call → words ≡ call_words call → ⊥
no_call h words info drain alloc low post collect isolate release free Info is e = info e
no_call h words info drain alloc low post collect isolate release free (Alloc label order kind zone mark) is e = alloc label order kind zone mark is e
no_call h words info drain alloc low post collect isolate release free (Low label order zone) is e = low label order zone is e
no_call h words info drain alloc low post collect isolate release free (Free label) is e = free h label is e
no_call h words info drain alloc low post collect isolate release free (Post label to) is e = post label to is e
no_call h words info drain alloc low post collect isolate release free (Collect label zone) is e = collect label zone is e
no_call h words info drain alloc low post collect isolate release free Drain is e = drain e
no_call h words info drain alloc low post collect isolate release free (Isolate zone pageblock) is e = isolate zone pageblock is e
no_call h words info drain alloc low post collect isolate release free (Release zone pageblock kind) is e = release zone pageblock kind is e

pub returns-clause-none : goal.returns-clause-none
returns-clause-none c =
    none_weaker c.free_of.result (λ free.
    no_call c.args.header.now (spelled c.args.words.now) (λ e. let yes = c.if-is_info.ensures.1 e in cc) (λ e. let yes = c.if-is_drain.ensures.1 e in cc) c.in_default.ensures.none c.in_default-low_of.ensures.none c.in_default-post_of.ensures.none c.in_default-collect_of.ensures.none c.in_default-isolate_of.ensures.none c.in_default-release_of.ensures.none free)
    c.free_of.ensures.none
