-- What the writes of links leave of each entry, and that they are a push or a removal.
use Rattle.std.proofs.Common.{ℕ, zero, suc, ◌+◌, ◌≡◌, ◌≤◌, ◌<◌, ◌≢◌, inl, inr, refl, sym, ◌∙◌, ap, arith, List, [], ◌∷◌, replicate, length, set, get_or, get_or-set_same, get_or-set_other, length-set, ◌-◌, slice_get, Option, Some, None}
use Rattle.std.proofs.lemmas.Bool.{cases_lt}
use Rattle.std.proofs.lemmas.Option.{slice_get_within}
use Rattle.std.proofs.lemmas.List.{get_or_default, get_or_past, length-replicate, length-map}
use Rattle.zp_model.specs.declared.constants.TheConstants.{MAX_PAGES}
use Rattle.zp_model.specs.declared.state.State.{State}
use Rattle.zp_model.specs.Rows.{Rows, list_at, with_list, with_state, with_run, without_page, IsOn, IsLoose}
use Rattle.zp_model.proofs.RowLists.{replicated}
use Rattle.zp_table.specs.declared.entry.PageEntry.{PageEntry}
use Rattle.zp_table.specs.Entries.{entry_at, blank, with_entry_at, with_links_at, with_state_at, IsUnlinked}
use Rattle.zp_links.specs.declared.ends.Ends.{Ends}
use Rattle.zp_links.specs.Linked.{states_of, back_at, forward_at, end_if, with_back_of, with_forward_of, spelled, ends_at, no_ends, before, At, IsLinked}
use Rattle.zp_links.proofs.Places.{put, any_at, nowhere, before_has}
use Rattle.zp_links.proofs.Splice.{IsSpliced, spelled_is, put_in, taken_out, at_within}

abbrev back_of : PageEntry → Option ℕ
back_of e = e.back

abbrev forward_of : PageEntry → Option ℕ
forward_of e = e.forward

-- a field that a write of one entry leaves
field_kept : {A : Type 0} (f : PageEntry → A) (t : List PageEntry) (p : ℕ) (e : PageEntry) (q : ℕ) → f e ≡ f (entry_at t p) → f (entry_at (set t p e) q) ≡ f (entry_at t q)
field_kept f [] p e q same = refl
field_kept f (d ∷ t) zero e zero same = same
field_kept f (d ∷ t) zero e (suc q) same = refl
field_kept f (d ∷ t) (suc p) e zero same = refl
field_kept f (d ∷ t) (suc p) e (suc q) same = field_kept f t p e q same

states_set : (t : List PageEntry) (p : ℕ) (e : PageEntry) → states_of (set t p e) ≡ set (states_of t) p e.state
states_set [] p e = refl
states_set (d ∷ t) zero e = refl
states_set (d ∷ t) (suc p) e = cc (states_set t p e)

states_kept : (t : List PageEntry) (p : ℕ) (e : PageEntry) → e.state ≡ (entry_at t p).state → states_of (set t p e) ≡ states_of t
states_kept [] p e same = refl
states_kept (d ∷ t) zero e same = cc
states_kept (d ∷ t) (suc p) e same = cc (states_kept t p e same)

states_back : (t : List PageEntry) (o b : Option ℕ) → states_of (with_back_of t o b) ≡ states_of t
states_back t None b = refl
states_back t (Some q) b = states_kept t q _ refl

states_forward : (t : List PageEntry) (o f : Option ℕ) → states_of (with_forward_of t o f) ≡ states_of t
states_forward t None f = refl
states_forward t (Some q) f = states_kept t q _ refl

pub length-back : (t : List PageEntry) (o b : Option ℕ) → length (with_back_of t o b) ≡ length t
length-back t None b = refl
length-back t (Some q) b = length-set t q _

pub length-forward : (t : List PageEntry) (o f : Option ℕ) → length (with_forward_of t o f) ≡ length t
length-forward t None f = refl
length-forward t (Some q) f = length-set t q _

back-forward : (t : List PageEntry) (o b : Option ℕ) (q : ℕ) → forward_at (with_back_of t o b) q ≡ forward_at t q
back-forward t None b q = refl
back-forward t (Some p) b q = field_kept forward_of t p _ q refl

forward-back : (t : List PageEntry) (o f : Option ℕ) (q : ℕ) → back_at (with_forward_of t o f) q ≡ back_at t q
forward-back t None f q = refl
forward-back t (Some p) f q = field_kept back_of t p _ q refl

back_set : (t : List PageEntry) (o b : Option ℕ) (q : ℕ) → o ≡ Some q → q < length t → back_at (with_back_of t o b) q ≡ b
back_set t o b q e l = rw e (ap back_of (get_or-set_same t q _ blank l))

forward_set : (t : List PageEntry) (o f : Option ℕ) (q : ℕ) → o ≡ Some q → q < length t → forward_at (with_forward_of t o f) q ≡ f
forward_set t o f q e l = rw e (ap forward_of (get_or-set_same t q _ blank l))

back_other : (t : List PageEntry) (o b : Option ℕ) (q : ℕ) → (o ≡ Some q → ⊥) → back_at (with_back_of t o b) q ≡ back_at t q
back_other t None b q n = refl
back_other t (Some p) b q n = ap back_of (get_or-set_other t p q _ blank (λ same. n cc))

forward_other : (t : List PageEntry) (o f : Option ℕ) (q : ℕ) → (o ≡ Some q → ⊥) → forward_at (with_forward_of t o f) q ≡ forward_at t q
forward_other t None f q n = refl
forward_other t (Some p) f q n = ap forward_of (get_or-set_other t p q _ blank (λ same. n cc))

-- the entry of a page with its new neighbours and their links to it, and the neighbours as each other's
abbrev pub joined : List PageEntry → ℕ → Option ℕ → Option ℕ → List PageEntry
joined t p b f = with_forward_of (with_back_of (with_links_at t p b f) f (Some p)) b (Some p)

abbrev pub closed : List PageEntry → ℕ → Option ℕ → Option ℕ → List PageEntry
closed t p b f = with_links_at (with_forward_of (with_back_of t f b) b f) p None None

module _ (t : List PageEntry) (p : ℕ) (b f : Option ℕ) (e d : Ends) (here : p < length t) (before : (q : ℕ) → b ≡ Some q → (q ≢ p) × (q < length t)) (after : (q : ℕ) → f ≡ Some q → (q ≢ p) × (q < length t)) where
  joined_is : d.first ≡ end_if b (Some p) e.first → d.last ≡ end_if f (Some p) e.last → IsSpliced p b f b f (Some p) (Some p) t (joined t p b f) e d
  joined_is first last =
      let t1 = with_links_at t p b f in
      let t2 = with_back_of t1 f (Some p) in
      let n1 : length t1 ≡ length t = length-set t p _ in
      let n2 : length t2 ≡ length t1 = length-back t1 f (Some p) in
      record {
        table = length-forward t2 b (Some p) ∙ n2 ∙ n1;
        here = here;
        links = (
          forward-back t2 b (Some p) p ∙ back_other t1 f (Some p) p (λ w. (after p w).0 refl) ∙ ap back_of (get_or-set_same t p _ blank here),
          forward_other t2 b (Some p) p (λ w. (before p w).0 refl) ∙ back-forward t1 f (Some p) p ∙ ap forward_of (get_or-set_same t p _ blank here),
        );
        next = λ q ne w. forward-back t2 b (Some p) q ∙ back_set t1 f (Some p) q w (omega (arith, (after q w).1));
        backs = λ q ne off. forward-back t2 b (Some p) q ∙ back_other t1 f (Some p) q off ∙ ap back_of (get_or-set_other t p q _ blank ne);
        previous = λ q ne w. forward_set t2 b (Some p) q w (omega (arith, (before q w).1));
        forwards = λ q ne off. forward_other t2 b (Some p) q off ∙ back-forward t1 f (Some p) q ∙ ap forward_of (get_or-set_other t p q _ blank ne);
        ends = (first, last);
      }

  closed_is : d.first ≡ end_if b f e.first → d.last ≡ end_if f b e.last → IsSpliced p b f None None f b t (closed t p b f) e d
  closed_is first last =
      let t1 = with_back_of t f b in
      let t2 = with_forward_of t1 b f in
      let n1 : length t1 ≡ length t = length-back t f b in
      let n2 : length t2 ≡ length t1 = length-forward t1 b f in
      let n3 : length (closed t p b f) ≡ length t2 = length-set t2 p _ in
      record {
        table = n3 ∙ n2 ∙ n1;
        here = here;
        links = (ap back_of (get_or-set_same t2 p _ blank (omega arith)), ap forward_of (get_or-set_same t2 p _ blank (omega arith)));
        next = λ q ne w. ap back_of (get_or-set_other t2 p q _ blank ne) ∙ forward-back t1 b f q ∙ back_set t f b q w (after q w).1;
        backs = λ q ne off. ap back_of (get_or-set_other t2 p q _ blank ne) ∙ forward-back t1 b f q ∙ back_other t f b q off;
        previous = λ q ne w. ap forward_of (get_or-set_other t2 p q _ blank ne) ∙ forward_set t1 b f q w (omega (arith, (before q w).1));
        forwards = λ q ne off. ap forward_of (get_or-set_other t2 p q _ blank ne) ∙ forward_other t1 b f q off ∙ back-forward t f b q;
        ends = (first, last);
      }

abbrev pub value : List PageEntry → List Ends → Rows
value t es = record { lists = spelled t es; states = states_of t }

-- a table and ends that spell a row
abbrev pub Spell : List PageEntry → List Ends → Rows → Type 0
Spell t es w = IsLinked t es (spelled t es) × (value t es ≡ w)

spell : (t : List PageEntry) (es : List Ends) (w : Rows) → IsLinked t es w.lists → states_of t ≡ w.states → Spell t es w
spell t es w x e = rw (spelled_is t es w.lists x, e) (x, refl)

-- what the links spell, in the caller's words
pub linked_in : (w : Rows) (t : List PageEntry) (es : List Ends) → value t es ≡ w → IsLinked t es (spelled t es) → IsLinked t es w.lists
linked_in w t es v x = rw (← v) x

pub pages_in : (w : Rows) (t : List PageEntry) (es : List Ends) → value t es ≡ w → length t ≡ length w.states
pages_in w t es v = rw (← v) (sym (length-map t (λ (e : PageEntry). e.state)))

-- the ends that a call reads
pub read_ends : (w : Rows) (t : List PageEntry) (es : List Ends) (r : ℕ) (e : Ends) → value t es ≡ w → IsLinked t es (spelled t es) → r < length w.lists → e ≡ get_or es r e → e ≡ ends_at es r
read_ends w t es r e v x l h = h ∙ get_or_default es r e no_ends (omega (arith, (linked_in w t es v x).rows))

-- what a push leaves: the page goes between b and f, either of which may be missing
pub pushed : (w : Rows) (r i p : ℕ) (t t' : List PageEntry) (es : List Ends) (e d : Ends) (b f : Option ℕ) → value t es ≡ w → IsLinked t es (spelled t es) → r < length w.lists →
    p < length w.states → IsLoose w.lists p → i ≤ length (list_at w.lists r) → b ≡ before (list_at w.lists r) i → f ≡ slice_get (list_at w.lists r) i → e ≡ get_or es r e →
    t' ≡ joined t p b f → d.first ≡ end_if b (Some p) e.first → d.last ≡ end_if f (Some p) e.last → d.len ≡ e.len + 1 → Spell t' (set es r d) (with_list w r (put (list_at w.lists r) i p))
pushed w r i p t t' es e d b f v x l here loose place eb ef read written first last count =
    let y = linked_in w t es v x in
    let none = nowhere w.lists p loose in
    let own = read_ends w t es r e v x l read in
    let xs = list_at w.lists r in
    let other : (k q : ℕ) → slice_get xs k ≡ Some q → (q ≢ p) × (q < length t) = λ k q a. (λ same. none r k (rw same at a), y.inside r k q a) in
    let s = joined_is t p b f e d (omega (arith, pages_in w t es v)) (λ q a. before_has xs i (λ n. (n ≢ p) × (n < length t)) (λ k n _ a. other k n a) q (sym eb ∙ a)) (λ q a. other i q (sym ef ∙ a)) first last in
    spell t' (set es r d) _ (rw (written, eb, ef) (put_in r i p t _ es d w.lists y l place none (rw (eb, ef, own) at s) (rw own at count)))
    (rw written (states_forward (with_back_of (with_links_at t p b f) f (Some p)) b (Some p) ∙ states_back (with_links_at t p b f) f (Some p) ∙ states_kept t p _ refl ∙ ap (λ (z : Rows). z.states) v))

-- what a removal leaves
pub removed_from : (w : Rows) (r p : ℕ) (t t' : List PageEntry) (es : List Ends) (e d : Ends) → value t es ≡ w → IsLinked t es (spelled t es) → IsOn w.lists r p → e ≡ get_or es r e →
    t' ≡ closed t p (back_at t p) (forward_at t p) → d.first ≡ end_if (back_at t p) (forward_at t p) e.first → d.last ≡ end_if (forward_at t p) (back_at t p) e.last → d.len ≡ e.len - 1 →
    Spell t' (set es r d) (with_list w r (without_page p (list_at w.lists r)))
removed_from w r p t t' es e d v x on read written first last count =
    let y = linked_in w t es v x in
    let xs = list_at w.lists r in
    let (i, at) = any_at xs p on in
    let own = read_ends w t es r e v x (at_within w.lists r i p at) read in
    let b = back_at t p in
    let f = forward_at t p in
    let other : (k q : ℕ) → k ≢ i → slice_get xs k ≡ Some q → (q ≢ p) × (q < length t) = λ k q ne a. (λ same. ne (y.apart r k r i p (rw same at a) at).1, y.inside r k q a) in
    let s = closed_is t p b f e d (y.inside r i p at) (λ q a. before_has xs i (λ n. (n ≢ p) × (n < length t)) (λ k n below. other k n (λ same. omega arith)) q (sym (y.first r i p at) ∙ a))
    (λ q a. other (suc i) q (λ same. omega arith) (sym (y.after r i p at) ∙ a)) first last in
    let n : d.len + 1 ≡ (ends_at es r).len = omega (arith, count, ap (λ (z : Ends). z.len) own, y.count r, slice_get_within xs i p at) in
    spell t' (set es r d) _ (rw written (taken_out r i p t (closed t p b f) es d w.lists y at (rw own at s) n))
    (rw written (states_kept (with_forward_of (with_back_of t f b) b f) p _ refl ∙ states_forward (with_back_of t f b) b f ∙ states_back t f b ∙ ap (λ (z : Rows). z.states) v))

-- what another state of a page leaves
pub restated : (w : Rows) (t t' : List PageEntry) (es : List Ends) (p : ℕ) (s : State) → value t es ≡ w → IsLinked t es (spelled t es) → t' ≡ with_state_at t p s → Spell t' es (with_state w p s)
restated w t t' es p s v x e =
    let y = linked_in w t es v x in
    let back : (q : ℕ) → back_at (with_state_at t p s) q ≡ back_at t q = λ q. field_kept back_of t p _ q refl in
    let forward : (q : ℕ) → forward_at (with_state_at t p s) q ≡ forward_at t q = λ q. field_kept forward_of t p _ q refl in
    let n : length (with_state_at t p s) ≡ length t = length-set t p _ in
    spell t' es (with_state w p s) (rw e (record {
      rows = y.rows;
      pages = omega (arith, y.pages, n);
      front = y.front;
      back = y.back;
      count = y.count;
      inside = λ r k q a. omega (arith, y.inside r k q a, n);
      after = λ r k q a. forward q ∙ y.after r k q a;
      first = λ r k q a. back q ∙ y.first r k q a;
      apart = y.apart;
      loose = λ q none. (back q ∙ (y.loose q none).0, forward q ∙ (y.loose q none).1);
    })) (rw (e, states_set t p _) (ap (λ (z : Rows). set z.states p s) v))

-- an entry that is written whole: its state and then its links, or its links and then its state
abbrev pub noted : State → Option ℕ → Option ℕ → PageEntry
noted s b f = record { state = s; back = b; forward = f }

links_last : (t : List PageEntry) (p : ℕ) (s : State) (b f : Option ℕ) → with_entry_at t p (noted s b f) ≡ with_links_at (with_state_at t p s) p b f
links_last [] p s b f = refl
links_last (d ∷ t) zero s b f = refl
links_last (d ∷ t) (suc p) s b f = cc (links_last t p s b f)

state_last : (t : List PageEntry) (p : ℕ) (s : State) (b f : Option ℕ) → with_entry_at t p (noted s b f) ≡ with_state_at (with_links_at t p b f) p s
state_last [] p s b f = refl
state_last (d ∷ t) zero s b f = refl
state_last (d ∷ t) (suc p) s b f = cc (state_last t p s b f)

-- an entry of a page that stands nowhere is written whole: its links are none already
none_left : (t : List PageEntry) (p : ℕ) (s : State) → back_at t p ≡ None → forward_at t p ≡ None → with_entry_at t p (noted s None None) ≡ with_state_at t p s
none_left t p s b f = λ i. set t p (noted s (sym b i) (sym f i))

-- what entries of pages in a row leave that stand nowhere
pub noted_run : (n : ℕ) (w : Rows) (t : List PageEntry) (es : List Ends) (p : ℕ) (s : State) → value t es ≡ w → IsLinked t es (spelled t es) →
    ((q : ℕ) → p ≤ q → q < p + n → IsLoose w.lists q) → Spell (with_run t p n (noted s None None)) es (record w { states = with_run w.states p n s })
noted_run zero w t es p s v x loose = (x, v)
noted_run (suc n) w t es p s v x loose =
    let none = (linked_in w t es v x).loose p (nowhere w.lists p (loose p (omega arith) (omega arith))) in
    let y = restated w t (set t p (noted s None None)) es p s v x (none_left t p s none.0 none.1) in
    noted_run n (with_state w p s) (set t p (noted s None None)) es (p + 1) s y.1 y.0 (λ q lo hi. loose q (omega arith) (omega arith))

-- what a push leaves where the page's entry is written whole
pub pushed_noted : (w : Rows) (r i p : ℕ) (s : State) (t t' : List PageEntry) (es : List Ends) (e d : Ends) (b f : Option ℕ) → value t es ≡ w → IsLinked t es (spelled t es) → r < length w.lists →
    p < length w.states → IsLoose w.lists p → i ≤ length (list_at w.lists r) → b ≡ before (list_at w.lists r) i → f ≡ slice_get (list_at w.lists r) i → e ≡ get_or es r e →
    t' ≡ with_forward_of (with_back_of (with_entry_at t p (noted s b f)) f (Some p)) b (Some p) → d.first ≡ end_if b (Some p) e.first → d.last ≡ end_if f (Some p) e.last → d.len ≡ e.len + 1 →
    Spell t' (set es r d) (with_list (with_state w p s) r (put (list_at w.lists r) i p))
pushed_noted w r i p s t t' es e d b f v x l here loose place eb ef read written first last count =
    let y = restated w t (with_state_at t p s) es p s v x refl in
    pushed (with_state w p s) r i p (with_state_at t p s) t' es e d b f y.1 y.0 l (omega (arith, length-set w.states p s)) loose place eb ef read (rw (links_last t p s b f) at written) first last count

-- what a removal leaves where the page's entry is written whole
pub removed_noted : (w : Rows) (r p : ℕ) (s : State) (t t' : List PageEntry) (es : List Ends) (e d : Ends) → value t es ≡ w → IsLinked t es (spelled t es) → IsOn w.lists r p → e ≡ get_or es r e →
    t' ≡ with_entry_at (with_forward_of (with_back_of t (forward_at t p) (back_at t p)) (back_at t p) (forward_at t p)) p (noted s None None) →
    d.first ≡ end_if (back_at t p) (forward_at t p) e.first → d.last ≡ end_if (forward_at t p) (back_at t p) e.last → d.len ≡ e.len - 1 →
    Spell t' (set es r d) (with_state (with_list w r (without_page p (list_at w.lists r))) p s)
removed_noted w r p s t t' es e d v x on read written first last count =
    let t1 = closed t p (back_at t p) (forward_at t p) in
    let y = removed_from w r p t t1 es e d v x on read refl first last count in
    restated _ t1 t' (set es r d) p s y.1 y.0 (written ∙ state_last _ p s None None)

-- empty lists
pub opened : (t : List PageEntry) (es : List Ends) (n : ℕ) → length t ≤ MAX_PAGES → IsUnlinked t → es ≡ replicate n no_ends → Spell t es (record { lists = replicate n []; states = states_of t })
opened t es n m b e =
    let none : (r : ℕ) → list_at (replicate n []) r ≡ [] = λ r. replicated n r [] in
    let ends : (r : ℕ) → ends_at (replicate n no_ends) r ≡ no_ends = λ r. replicated n r no_ends in
    let no : (r k p : ℕ) → At (replicate n []) r k p → ⊥ = λ r k p f. let bad = rw (none r) at f in cc in
    spell t es _ (rw e (record {
      rows = length-replicate n [] ∙ sym (length-replicate n no_ends);
      pages = m;
      front = λ r. rw (ends r, none r) refl;
      back = λ r. rw (ends r, none r) refl;
      count = λ r. rw (ends r, none r) refl;
      inside = λ r k p f. absurd (no r k p f);
      after = λ r k p f. absurd (no r k p f);
      first = λ r k p f. absurd (no r k p f);
      apart = λ r k r' k' p f g. absurd (no r k p f);
      loose = λ p _. elim (cases_lt p (length t)) [ inl lt ↦ b p lt | inr ge ↦ let s = get_or_past t p blank ge in (ap back_of s, ap forward_of s) ];
    })) refl
