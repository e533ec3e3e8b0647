-- The numbers of the labels that commands bind: one command more, and what a look-up tells.
use Rattle.std.proofs.Common.{ℕ, ◌≡◌, ◌<◌, ◌==◌, ◌&&◌, ◌||◌, ◌↔◌, Bool, true, false, cond, List, [], ◌∷◌, ◌++◌, Any, IsTrue, Option, Some, None, refl, sym, ap, subst, ◌∙◌}
use Rattle.std.specs.Bool.{Decides}
use Rattle.std.specs.BTreeSet.{BTreeSet, Updates, contains}
use Rattle.std.specs.List.{list_any}
use Rattle.std.specs.Ordering.{nat_cmp}
use Rattle.std.specs.Str.{bytes_eq}
use Rattle.std.proofs.lemmas.Bool.Decides.{Decides-and, Decides-eqb, Decides-like}
use Rattle.std.proofs.lemmas.List.Folds.{Any-from_list_any, list_any-append, list_any-from_Any}
use Rattle.std.proofs.lemmas.Slice.Eq.{bytes_eq-Decides}
use Rattle.zp_model.specs.declared.constants.TheConstants.{MAX_WORKERS}
use Rattle.zp_model.specs.Naming.{IsName}
use Rattle.zp_trace.specs.declared.line.CommandLine.{CommandLine}
use Rattle.zp_trace.specs.Grammar.{Binds, bound_label}
use Rattle.zp_trace.specs.LabelKeys.{AreBoundBy, binds, bound_key, is_label}
use Rattle.zp_trace.proofs.DistinctLabels.{bound_key_tells}

-- the test of a command tells whether it binds the label
label_decides : (label : List ℕ) (bound : Option (List ℕ)) → Decides (is_label label bound) (bound ≡ Some label)
label_decides label (Some bound) = Decides-like (bytes_eq bound label) (λ e. ap Some e) (λ e. cc) (bytes_eq-Decides bound label)
label_decides label None = (λ t. absurd cc, λ e. absurd cc)

binds_decides : (worker : ℕ) (label : List ℕ) (c : CommandLine) → Decides (binds worker label c) (Binds worker label c)
binds_decides worker label c =
    Decides-and (c.worker == worker) (is_label label (bound_label c.call)) (Decides-eqb c.worker worker) (label_decides label (bound_label c.call))

any_weaker : (P Q : CommandLine → Type 0) (cs : List CommandLine) → ((c : CommandLine) → P c → Q c) → Any P cs → Any Q cs
any_weaker P Q cs f a = (a.0, a.1, a.2, a.3, f a.1 a.4)

any_decides : (worker : ℕ) (label : List ℕ) (cs : List CommandLine) → Decides (list_any (binds worker label) cs) (Any (Binds worker label) cs)
any_decides worker label cs = (
  λ t. any_weaker (λ c. binds worker label c ≡ true) (Binds worker label) cs (λ c. (binds_decides worker label c).0) (Any-from_list_any (binds worker label) cs t),
  λ a. list_any-from_Any (binds worker label) cs (any_weaker (Binds worker label) (λ c. binds worker label c ≡ true) cs (λ c. (binds_decides worker label c).1) a),
)

-- a label's number is in the set where a command binds the label
pub tells_bound : (cs : List CommandLine) (keys : BTreeSet ℕ) (worker : ℕ) (label : List ℕ) (r : Bool) → worker < MAX_WORKERS → IsName label → AreBoundBy cs keys →
    r ≡ contains nat_cmp keys (bound_key worker label) → IsTrue r ↔ Any (Binds worker label) cs
tells_bound cs keys worker label r small is bound e =
    subst (λ b. Decides b (Any (Binds worker label) cs)) (sym (e ∙ bound worker label small is)) (any_decides worker label cs)

or_last : (t b : Bool) → cond t true b ≡ (b || (t || false))
or_last true true = refl
or_last true false = refl
or_last false true = refl
or_last false false = refl

-- a command more, which binds a label
pub bound_more : (cs : List CommandLine) (c : CommandLine) (label : List ℕ) (old new : BTreeSet ℕ) → c.worker < MAX_WORKERS → IsName label → bound_label c.call ≡ Some label →
    Updates nat_cmp old new (bound_key c.worker label) true → AreBoundBy cs old → AreBoundBy (cs ++ c ∷ []) new
bound_more cs c label old new small is e noted bound worker other below are =
    noted.0 (bound_key worker other)
    ∙ ap (λ t. cond t true (contains nat_cmp old (bound_key worker other))) (bound_key_tells c.worker worker label other small below is are ∙ ap (λ o. (c.worker == worker) && is_label other o) (sym e))
    ∙ ap (cond (binds worker other c) true) (bound worker other below are)
    ∙ or_last (binds worker other c) (list_any (binds worker other) cs)
    ∙ sym (list_any-append (binds worker other) cs (c ∷ []))

and_false : (t : Bool) → (t && false) ≡ false
and_false true = refl
and_false false = refl

or_false : (b : Bool) → b ≡ (b || (false || false))
or_false true = refl
or_false false = refl

-- a command more, which binds none
pub bound_same : (cs : List CommandLine) (c : CommandLine) (keys : BTreeSet ℕ) → bound_label c.call ≡ None → AreBoundBy cs keys → AreBoundBy (cs ++ c ∷ []) keys
bound_same cs c keys e bound worker other below are =
    bound worker other below are
    ∙ or_false (list_any (binds worker other) cs)
    ∙ ap (λ t. list_any (binds worker other) cs || (t || false)) (sym (ap (λ o. (c.worker == worker) && is_label other o) e ∙ and_false (c.worker == worker)))
    ∙ sym (list_any-append (binds worker other) cs (c ∷ []))

-- the same of lists and sets that are equal
pub bound_as : (cs ds : List CommandLine) (keys others : BTreeSet ℕ) → ds ≡ cs → others ≡ keys → AreBoundBy cs keys → AreBoundBy ds others
bound_as cs ds keys others commands same bound =
    subst (λ s. AreBoundBy ds s) (sym same) (subst (λ (es : List CommandLine). AreBoundBy es keys) (sym commands) bound)
