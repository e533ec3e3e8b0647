use Rattle.std.proofs.Common.{ℕ, List, ◌≡◌, ◌≤◌, ◌<◌, ◌-◌, length, take, drop, Some, subst, sym, ap, ◌∙◌, arith}
use Rattle.zp_events.specs.Words.{IsFirstPlace}
use Rattle.zp_events.specs.Reading.{HasNoLineFeed, IsAhead, spot}
use Rattle.zp_events.specs.declared.reading.TheConstants.{LONGEST_LINE}
use Rattle.zp_events.proofs.Looking.{more_read, filled_read, found_line, found_far, none_kept, long_kept, searched_kept, same_kept, rest_ahead}
use Rattle.zp_events.proofs.reading.Lines.peek.Goals as goal

pub returns-in_err-line_within-clause-too_long : goal.returns-in_err-line_within-clause-too_long
returns-in_err-line_within-clause-too_long g c = λ e.
    let i = c.reads.invariant in
    found_far c.reads.self.window c.reads.searched c.in-Some.end i.within i.none
    (subst (λ (b : List ℕ). IsFirstPlace (take (length b - c.reads.searched) (drop c.reads.searched b)) 10 c.in-Some.end) c.bytes.ensures c.in-Some.ensures.some)
    c.in_err-line_within.ensures.err.1

pub returns-in-Some-clause-found : goal.returns-in-Some-clause-found
returns-in-Some-clause-found g c =
    let i = c.reads.invariant in
    let ahead = found_line c.reads.self.window (g.R.Reader.remaining c.reads.self.reader) c.reads.self.passed c.reads.searched c.in-Some.end i.within i.none
    (subst (λ (b : List ℕ). IsFirstPlace (take (length b - c.reads.searched) (drop c.reads.searched b)) 10 c.in-Some.end) c.bytes.ensures c.in-Some.ensures.some)
    c.in_ok-line_within.ensures.ok.1 in
    subst (λ (n : ℕ). IsAhead (spot c.reads.self.window (g.R.Reader.remaining c.reads.self.reader) c.reads.self.passed) (Some n)) (sym c.in_ok-line_within.ensures.ok.0) ahead

pub returns-in_err-searched-clause-too_long : goal.returns-in_err-searched-clause-too_long
returns-in_err-searched-clause-too_long g c = λ e.
    let none = none_kept c.reads.self.window c.reads.searched c.reads.invariant.none
    (subst (λ (b : List ℕ). HasNoLineFeed (take (length b - c.reads.searched) (drop c.reads.searched b))) c.bytes.ensures c.in_default.ensures.none) in
    long_kept c.reads.self.window none (subst (λ (b : List ℕ). LONGEST_LINE < length b) c.bytes-in-reads.ensures c.in_err-searched.ensures.err.1)

pub returns-in_default-fill-clause-no_more : goal.returns-in_default-fill-clause-no_more
returns-in_default-fill-clause-no_more g c = λ e.
    let none = none_kept c.reads.self.window c.reads.searched c.reads.invariant.none
    (subst (λ (b : List ℕ). HasNoLineFeed (take (length b - c.reads.searched) (drop c.reads.searched b))) c.bytes.ensures c.in_default.ensures.none) in
    subst HasNoLineFeed (sym c.in_default-fill.ensures.kept) none

pub returns-then-count-eq0-clause-found : goal.returns-then-count-eq0-clause-found
returns-then-count-eq0-clause-found g c =
    let none = none_kept c.reads.self.window c.reads.searched c.reads.invariant.none
    (subst (λ (b : List ℕ). HasNoLineFeed (take (length b - c.reads.searched) (drop c.reads.searched b))) c.bytes.ensures c.in_default.ensures.none) in
    let same = same_kept c.reads.self.window c.fill.new.self c.in-Ok.count (g.R.Reader.remaining c.reads.self.reader) (g.R.Reader.remaining c.fill.new.reader) c.in-Ok.ensures.filled c.if-count-eq0.true in
    let size : c.in_ok-searched.searched ≡ length c.fill.new.self = omega (arith, ap length same, ap length c.bytes-in-reads.ensures, c.in_ok-searched.ensures.ok.0) in
    let short : c.in_ok-searched.searched ≤ LONGEST_LINE = omega (arith, c.in_ok-searched.ensures.ok.0, c.in_ok-searched.ensures.ok.1) in
    rest_ahead c.fill.new.self (g.R.Reader.remaining c.fill.new.reader) c.reads.self.passed c.in_ok-searched.searched (subst HasNoLineFeed (sym same) none) size short (omega (arith, c.if-searched-eq0.false))
    (c.in-Ok.ensures.filled.end c.if-count-eq0.true)

pub reads-preserved : goal.reads-preserved
reads-preserved g c =
    let i = c.reads.invariant in
    let f = c.in-Ok.ensures.filled in
    let none = none_kept c.reads.self.window c.reads.searched i.none
    (subst (λ (b : List ℕ). HasNoLineFeed (take (length b - c.reads.searched) (drop c.reads.searched b))) c.bytes.ensures c.in_default.ensures.none) in
    let searched = searched_kept c.reads.self.window c.fill.new.self f.read c.in_ok-searched.searched f.behind (c.in_ok-searched.ensures.ok.0 ∙ ap length c.bytes-in-reads.ensures) none in
    record {
      read = more_read _ _ _ i.read
          (filled_read c.reads.self.window c.fill.new.self c.in-Ok.count (g.R.Reader.remaining c.reads.self.reader) (g.R.Reader.remaining c.fill.new.reader) c.reads.self.passed f);
      within = searched.0;
      none = searched.1;
      calm = c.in-Ok.ensures.calm ∙ i.calm;
      ahead = i.ahead;
    }
