-- What is said of a value that may be missing.
use Rattle.std.proofs.Common.{Option, Some, None, IfSome, IfNone, MatchOption, Bool, true, false, MatchBool, ◌≡◌}

-- what holds of the value
pub of_some : {T : Type 0} (r : Option T) (P : Type 0) (Q : T → Type 0) → MatchOption r P Q → IfSome r Q
of_some None P Q m = tt
of_some (Some x) P Q m = m

-- what holds where there is none
pub of_none : {T : Type 0} (r : Option T) (P : Type 0) (Q : T → Type 0) → MatchOption r P Q → IfNone r P
of_none None P Q m = m
of_none (Some x) P Q m = tt

-- and what follows from it
pub none_weaker : {T : Type 0} (r : Option T) {P Q : Type 0} → (P → Q) → IfNone r P → IfNone r Q
none_weaker None f p = f p
none_weaker (Some x) f p = tt

-- what holds anyway holds where there is none
pub at_none : {T : Type 0} (r : Option T) {P : Type 0} → P → IfNone r P
at_none None p = p
at_none (Some x) p = tt

-- what follows of the value
pub some_weaker : {T : Type 0} (r : Option T) {P Q : T → Type 0} → ((x : T) → P x → Q x) → IfSome r P → IfSome r Q
some_weaker None f p = p
some_weaker (Some x) f p = f x p

true_not : false ≡ true → ⊥
true_not e = cc

false_not : true ≡ false → ⊥
false_not e = cc

-- what holds as a test came out
pub where_true : (b : Bool) (P Q : Type 0) → MatchBool b P Q → b ≡ true → P
where_true true P Q m e = m
where_true false P Q m e = absurd (true_not e)

pub where_false : (b : Bool) (P Q : Type 0) → MatchBool b P Q → b ≡ false → Q
where_false true P Q m e = absurd (false_not e)
where_false false P Q m e = m
