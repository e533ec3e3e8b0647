-- What the bytes up to the limit say of the whole text.
use Rattle.std.proofs.Common.{ℕ, ◌≡◌, ◌≤◌, ◌<◌, inl, inr, List, [], ◌++◌, length, take, drop, Option, None, Some, sym, ap, subst, ◌∙◌, append_assoc, arith, length-append}
use Rattle.std.proofs.Math.Seq.{take-append_seam}
use Rattle.std.proofs.lemmas.Bool.{cases_lt}
use Rattle.std.proofs.lemmas.List.{append-nil, take-append-le, take-append-drop, take_all}
use Rattle.zp_trace.specs.declared.trace.Trace.{Trace}
use Rattle.zp_trace.specs.Spelling.{line_text, text_of}
use Rattle.zp_trace.specs.Grammar.{IsTraceText, IsBadLine, lines_of}
use Rattle.zp_replay.specs.declared.input.TheConstants.{INPUT_LIMIT}
use Rattle.zp_replay.specs.Inputs.{IsRead, IsInput}
use Rattle.zp_replay.proofs.ShortLines.{allowed_short, beginning_short}

-- the text of a trace lies within the limit
good_short : (text : List ℕ) (t : Trace) → IsTraceText text t → length text < INPUT_LIMIT
good_short text t is = omega (arith, ap length is.lines, beginning_short (lines_of t) is.allowed)

-- what begins with a line of a trace, and goes on after that, begins with it
front-same : (line rest more after : List ℕ) → length line ≤ length rest → rest ++ more ≡ line ++ after → rest ≡ line ++ drop (length line) rest
front-same line rest more after le e =
    let same : take (length line) rest ≡ line =
    sym (take-append-le (length line) rest more le) ∙ ap (λ (q : List ℕ). take (length line) q) e ∙ take-append_seam line after
    in
    sym (take-append-drop (length line) rest) ∙ ap (λ (q : List ℕ). q ++ drop (length line) rest) same

-- the bad line of a text up to the limit is that of the whole text
bad-longer : (text more : List ℕ) (n : ℕ) → INPUT_LIMIT ≤ length text → IsBadLine text n → IsBadLine (text ++ more) n
bad-longer text more n long is =
    let before = is.before in
    let rest = is.rest in
    let many : 40 < length rest = omega (arith, ap length is.parts, length-append (text_of before) rest, beginning_short before is.allowed) in
    record {
      before = before;
      allowed = is.allowed;
      number = is.number;
      rest = rest ++ more;
      parts = ap (λ (q : List ℕ). q ++ more) is.parts ∙ append_assoc (text_of before) rest more;
      bad = λ l after allowed e.
          let short : length (line_text l) ≤ 40 = allowed_short before l is.allowed allowed in
          is.bad l (drop (length (line_text l)) rest) allowed (front-same (line_text l) rest more after (omega arith) e);
      unfinished = λ empty. absurd (omega (arith, ap length empty, length-append rest more));
    }

-- what was read of a text within the limit
within-limit : (text : List ℕ) → length text ≤ INPUT_LIMIT → take INPUT_LIMIT text ≡ text
within-limit text short = take_all INPUT_LIMIT text short

-- a good text was read whole
pub good-input : (old new : Option (List ℕ)) (text : List ℕ) (t : Trace) → IsRead old new text → IsTraceText text t → IsInput old new text
good-input None new text t read is = record { all = tt; read = tt }
good-input (Some had) None text t read is = absurd read.front
good-input (Some had) (Some rest) text t read is =
    let none : rest ≡ [] = read.end (good_short text t is) in
    record {
      all = read.front ∙ ap (λ (q : List ℕ). text ++ q) none ∙ append-nil text;
      read = read.front ∙ ap (λ (q : List ℕ). q ++ rest) (sym (within-limit text read.within));
    }

-- an input with the bad line of what was read of it
pub record IsBadInput (had left : Option (List ℕ)) (n : ℕ) : Type 0 where
  pub text : List ℕ
  pub input : IsInput had left text
  pub grammar : IsBadLine text n

-- what was read is the front of the input
front-input : (text rest : List ℕ) → length text ≤ INPUT_LIMIT → (length text < INPUT_LIMIT → rest ≡ []) → take INPUT_LIMIT (text ++ rest) ≡ text
front-input text rest within end =
    elim (cases_lt (length text) INPUT_LIMIT) [
      | inl less ↦ ap (λ (q : List ℕ). take INPUT_LIMIT (text ++ q)) (end less) ∙ ap (λ (q : List ℕ). take INPUT_LIMIT q) (append-nil text) ∙ within-limit text within
      | inr full ↦
          let size : INPUT_LIMIT ≡ length text = omega arith in
          ap (λ (n : ℕ). take n (text ++ rest)) size ∙ take-append_seam text rest
    ]

pub bad-input : (old new : Option (List ℕ)) (text : List ℕ) (n : ℕ) → IsRead old new text → IsBadLine text n → IsBadInput old new n
bad-input None new text n read is = record { text = text; input = record { all = tt; read = tt }; grammar = is }
bad-input (Some had) None text n read is = absurd read.front
bad-input (Some had) (Some rest) text n read is = record {
  text = text ++ rest;
  input = record {
    all = read.front;
    read = read.front ∙ ap (λ (q : List ℕ). q ++ rest) (sym (front-input text rest read.within read.end));
  };
  grammar = elim (cases_lt (length text) INPUT_LIMIT) [
    | inl less ↦ subst (λ (q : List ℕ). IsBadLine q n) (sym (append-nil text) ∙ ap (λ (q : List ℕ). text ++ q) (sym (read.end less))) is
    | inr full ↦ bad-longer text rest n full is
  ];
}
