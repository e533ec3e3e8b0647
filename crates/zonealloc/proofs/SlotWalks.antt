-- The walks of a slot, whatever it holds: how an empty one is made, how one takes over a loose box, and how it gives that up. Assumes `Logic`.
use Rattle.zonealloc.proofs.Walking.{◌≡◌, ℕ, List, [], ◌∷◌, ◌++◌, refl, ◌∙◌, subst, lit<, map, sym, ap, true, ◌&&◌, T, Ura, impl, tnil, tcons, dnil, ty_ptr, ty_struct, Body, Callee}
use Rattle.zonealloc.proofs.Walking.{Fn, Way, Sym, Ty, aggregate, assign, copy, field, int, local, place, return, rv_opd, seq, value_local, w64, bare, Val, vptr, vstruct, vcons, vnil, of_list}
use Rattle.zonealloc.proofs.Walking.{has_ty, WT, ent, emp, never, fst∗, SProp, Fml, Lft, ftrue, fsep, Logic, sem, Item, Goal, Seq, Step, step, ‵, ◌$◌, move, drop, fsplit, fjoin, fpick, fpack}
use Rattle.zonealloc.proofs.Walking.{feq_i, feq_l, raw, ◌⊛◌, prop, ◌∵◌, !, qed, by, keep, use0, split, regoal, rewrite, RattleType, Valss, owns, RawPtr, shadow, makes_shadow, plain, types_at}
use Rattle.zonealloc.proofs.Walking.{Option, Some, None, IsSome, lone, Ptr, lies_at, block_ptr, null_ptr, ptr_val, in_a_block, full_share, Keyless, AllSend, IsSend, Quiet, owning_send, part_keyless}
use Rattle.zonealloc.proofs.Walking.{sendable, struct_send, nothing, heard, layout, Laws, Struct, within, exits_of, Owning, fields, row, shape, to, Ghosts, Al, handle_tells, Goes-blank, Good}
use Rattle.zonealloc.proofs.Walking.{box_owns, and_tt, Coded, fact, fact_i, MachineTables, Running, tables, Exit, unchanged, leaving, yes, hidden, under, RawPtr-field, rows, intos, Clauses}
use Rattle.zonealloc.proofs.Walking.{Ended, closing, alive, Meets, Stays, stay_dropped, walk_of, Model, Closed, WpFn, alloc_all, pass_all, free_all, look_at, get, get_in, sets, whole, sub}
use Rattle.zonealloc.proofs.Walking.{agg, stop, fld, lit, of_opd, no_more, and_then, returns, enter, proved_at, leaves, ghosts}
use Rattle.std.proofs.Crossing as heap_crosses
use Rattle.zonealloc.specs.contracts.loose.Loose as loose
use Rattle.std.proofs.alloc.Global.TheLaws as heap_laws
use Rattle.std.specs.contracts.alloc.Global as heap
use Rattle.zonealloc.specs.Slot.{chunk, slot_owns}

abbrev pub both : Val → Val → Val
both v w = vstruct (vcons v (vcons w vnil))

module _ (R Z : RattleType) (L : Laws Z) (g : Ghosts Z.Denot) where
  abbrev pub Loose : RattleType
  Loose = loose.the_row R Z g

  abbrev pub al : Al
  al = record { row = Z; laws = L; g = g; d = impl [] tnil dnil; drops = impl [] tnil dnil }

  pub loose_good : (b o : ℕ) (h : Val) → Good (layout Z) h → T (has_ty (layout Z) h && true) × WT (both (vptr b o) h)
  loose_good b o h fits = (and_tt (has_ty (layout Z) h) fits.0, (tt, (fits.1, tt)))

  module _ {M : Type 1} {𝓤 : Ura M} {𝓛 : Logic 𝓤} {K : Type 0} {Γ : List (Item 𝓤)} {G : Goal 𝓤 𝓛.H} where
    pub loose_out : K → (d : Loose.Denot) (vs : List Val)
        → ((b o : ℕ) (h : Val) → d.at ≡ block_ptr b o → vs ≡ both (vptr b o) h ∷ [] → Good (layout Z) h → Seq K 𝓛 (‵ (box_owns (g.dealloc_token d.alloc) R (block_ptr b o) d.value) ∷ ‵ (Z.own_val d.alloc (h ∷ [])) ∷ Γ) G)
        → Seq K 𝓛 (‵ (Loose.own_val d vs) ∷ Γ) G
    loose_out t d vs k =
        fsplit t $ fpick t (λ vss. fsplit t $ feq_l t (λ ev. fsplit t $ feq_l t (λ ep. fsplit t $ handle_tells al t d.alloc vss.1.0 (λ h ea fits. move t (1 ∷ []) $ drop t $ move t (1 ∷ []) $
        in_a_block t d.at (λ p. box_owns (g.dealloc_token d.alloc) R p d.value) (fst∗ 𝓤 (never 𝓤) (sem 𝓛 (g.dealloc_token d.alloc (bare (lone R.mir)) null_ptr))) (λ b o e. k b o h e
        (subst (λ (p : Ptr). vs ≡ vstruct (of_list (ptr_val p ∷ h ∷ [])) ∷ []) e
        (subst (λ (ws : List Val). vs ≡ vstruct (of_list (ptr_val d.at ∷ (ws ++ []))) ∷ []) ea (subst (λ (ps : List Val). vs ≡ vstruct (of_list (ps ++ (vss.1.0 ++ []))) ∷ []) ep ev))) fits)))))

    pub loose_in : K → (b o : ℕ) (h : Val) (a : Z.Denot) (x : R.Denot)
        → Step K 𝓛 (‵ (Loose.own_val (record { at = block_ptr b o; alloc = a; value = x }) (both (vptr b o) h ∷ [])) ∷ Γ) G (‵ (box_owns (g.dealloc_token a) R (block_ptr b o) x) ∷ ‵ (Z.own_val a (h ∷ [])) ∷ Γ) G
    loose_in t b o h a x = step (λ s. let v : Val = both (vptr b o) h in
        nothing t $ move t (2 ∷ 0 ∷ []) $ fjoin t $ feq_i t (List Val) (vptr b o ∷ []) (vptr b o ∷ []) refl $ fjoin t $ feq_i t (List Val) (v ∷ []) (v ∷ []) refl $ fjoin t $
        fpack t (Valss (RawPtr ∷ Z ∷ [])) (within (shape (loose.the_type R Z g)) (block_ptr b o, (a, tt)) (v ∷ [])) (vptr b o ∷ [], (h ∷ [], tt)) $ fjoin t $ s)

-- a struct by its fields alone: what it owns does not read its name
abbrev pub plainly : List RattleType → RattleType
plainly Rs = Struct (record { name = []; args = []; types = []; fields = Rs })

abbrev pub list_val : Ptr → Val
list_val p0 = vstruct (vcons (ptr_val p0) vnil)

abbrev pub list_own : Ptr → List Val → Fml
list_own p0 = (plainly (RawPtr ∷ [])).own_val (p0, tt)

pub list_told : (p0 : Ptr) (vs : List Val) → shadow (list_own p0 vs) → vs ≡ list_val p0 ∷ []
list_told p0 vs s = s.1.0 ∙ (λ i. vstruct (of_list (s.1.1.0 i ++ [])) ∷ [])

pub list_made : {M : Type 1} {𝓤 : Ura M} (𝓛 : Logic 𝓤) (p0 : Ptr) → ent 𝓤 (emp 𝓤) (sem 𝓛 (list_own p0 (list_val p0 ∷ [])))
list_made 𝓛 p0 = makes_shadow 𝓛 (list_own p0 (list_val p0 ∷ [])) (λ _. (tt, (tt, tt))) ((ptr_val p0 ∷ [], tt), (refl, (refl, tt)))

pub list_typed : (p0 : Ptr) → Good (ty_struct [] (tcons ty_ptr tnil)) (list_val p0)
list_typed (block_ptr b o) = (tt, (tt, tt))
list_typed null_ptr = (tt, (record { fits = lit< tt }, tt))

pub held_in : {X : Type 0} (k : Option X) → IsSome k → X
held_in None i = absurd cc
held_in (Some x) i = x

pub held_is : {X : Type 0} (k : Option X) (i : IsSome k) → Some (held_in k i) ≡ k
unfolding held_in
held_is None i = absurd cc
held_is (Some x) i = refl

abbrev code_of : ℕ → List Ty → Body → Fn
code_of n types body = record { lifetimes = 0; outlives = []; ty_params = []; givens = 0; params = n; locals = map (λ t. local t value_local) types; body = body }

-- a type of slots: its values are a pointer, and what lies there
pub record Kind : Type 2 where
  pub R : RattleType
  pub name : Sym
  pub D : Type 0
  pub at : D → Ptr
  pub value : D → Option R.Denot
  pub make : Ptr → Option R.Denot → D
  pub at_made : (p : Ptr) (v : Option R.Denot) → at (make p v) ≡ p
  pub value_made : (p : Ptr) (v : Option R.Denot) → value (make p v) ≡ v
  pub coded : Coded D
  pub shr_at : D → ℕ → ℕ → Lft → Fml

module _ (K : Kind) where
  open K use {R, D, at, value, make, at_made, value_made}

  abbrev pub owning : Owning
  owning = record {
    name = K.name;
    args = [];
    types = [];
    parts = RawPtr-field ∷ [];
    D = D;
    as_values = λ d. (at d, tt);
    coded = K.coded;
    heap = λ d. slot_owns chunk R (at d) (value d);
    exit = λ k. hidden (under (λ d. intos (RawPtr-field ∷ []) (at d, tt)) (exits_of k (rows (RawPtr-field ∷ []))));
    shr_at = K.shr_at;
  }

  abbrev pub slot : RattleType
  slot = row owning

  -- it may cross threads, as what it holds may
  lies : IsSend R → (p : Ptr) (x : R.Denot) → Keyless (lies_at R full_share p x)
  lies s (block_ptr b o) x = part_keyless R s full_share x b o
  lies s null_ptr x = tt

  keyless : IsSend R → (p : Ptr) (v : Option R.Denot) → Keyless (slot_owns chunk R p v)
  keyless s p None = tt
  keyless s p (Some x) = (lies s p x, heap_crosses.frees.frees (record { memory = record { seal = tt } }) (bare (lone R.mir)) p)

  quiet : {X : Type 0} (to : D → X) (e : Exit X) → Quiet e → Quiet (hidden (under to e))
  quiet to unchanged q = λ x w. tt
  quiet to (leaving L l S s r₀) q = λ d. q (to d)

  pub slot_send : IsSend R → IsSend slot
  slot_send s =
      let all : AllSend (fields owning) = (search sendable, tt) in
      owning_send owning all (λ d. keyless s (at d) (value d)) (λ k. quiet (to owning) (exits_of k (fields owning)) ((struct_send (shape owning) all).leaving k))

  -- what it owns, as it is made
  made : (p : Ptr) (v : Option R.Denot) (vs : List Val) → slot.own_val (make p v) vs ≡ fsep (list_own p vs) (slot_owns chunk R p v)
  made p v vs = λ i. fsep (list_own (at_made p v i) vs) (slot_owns chunk R (at_made p v i) (value_made p v i))

  abbrev empty_code : Fn
  empty_code = code_of 0 (layout slot ∷ []) (seq (assign (place 0 []) (aggregate (int w64 0 ∷ []))) return)

  abbrev Empty : Ended
  Empty = record { signature = record { lifetimes = 0; outlives = []; params = []; result = plain (λ κs. slot) }; kept = tt }

  abbrev held : RattleType
  held = Loose R heap.the_row heap_laws.the_row_laws ghosts

  abbrev copied : ℕ → List Way → ℕ → Body
  copied n way m = assign (place n []) (rv_opd (copy (place m way)))

  abbrev filled_code : Fn
  filled_code = code_of 1 (layout slot ∷ layout held ∷ ty_ptr ∷ ty_ptr ∷ [])
      (seq (copied 2 (field 0 ∷ []) 1) (seq (copied 3 [] 2) (seq (assign (place 0 []) (aggregate (copy (place 3 []) ∷ []))) return)))

  abbrev loosed_code : Fn
  loosed_code = code_of 2 (layout held ∷ layout slot ∷ layout heap.the_row ∷ ty_ptr ∷ ty_ptr ∷ [])
      (seq (copied 3 (field 0 ∷ []) 1) (seq (copied 4 [] 3) (seq (assign (place 0 []) (aggregate (copy (place 4 []) ∷ copy (place 2 []) ∷ []))) return)))

  abbrev Filled : Ended
  Filled = record { signature = record { lifetimes = 0; outlives = []; params = plain (λ κs. held) ∷ []; result = plain (λ κs. slot) }; kept = (yes, tt) }

  abbrev Loosed : Ended
  Loosed = record { signature = record { lifetimes = 0; outlives = []; params = plain (λ κs. slot) ∷ plain (λ κs. heap.the_row) ∷ []; result = plain (λ κs. held) }; kept = (yes, (yes, tt)) }

  module _ {M : Type 1} (𝓤 : Ura M) (𝓛 : Logic 𝓤) (𝓜 : Model 𝓤 𝓛.H) (𝓡 : Running 𝓤 𝓛.H 𝓜) (self : Callee) where
    abbrev 𝓣 : MachineTables 𝓤 𝓛.H 𝓜
    𝓣 = tables 𝓤 𝓛.H 𝓜 𝓡 𝓡.env

    abbrev emptied : Clauses 𝓤 Empty
    emptied κs args = record { ghost = Unit {0}; requires = λ g. emp 𝓤; ensures = λ g s e. fact 𝓤 (value s ≡ None) }

    pub empty_slot : Closed 𝓤 𝓛.H 𝓣.C 𝓣.Λ self empty_code → Meets 𝓛 Empty.signature (𝓣.C self) (closing 𝓛 Empty emptied)
    empty_slot closed =
        let stays : Stays Empty.signature.params Empty.kept = tt in
        proved_at 𝓛 Empty stays emptied 𝓜 𝓡 tt self empty_code closed (λ z are.
        let Post : Val → SProp 𝓤 = (walk_of 𝓛 Empty stays emptied).post z in
        qed 𝓛 ((raw (alive 𝓛 Empty.signature z.0.0 z.0.1) ⊛ ‵ (owns (types_at Empty.signature.params z.0.0) z.0.3 z.0.4)) ∷ ‵ ftrue ∷ []) ∵ move ! (1 ∷ []) $ drop ! $ split ! $ keep ! (0 ∷ []) $
        enter ! 𝓣.C 𝓣.Λ empty_code [] Post $ alloc_all ! (λ l. pass_all ! refl tt $
        sets ! (agg ! (and_then ! (lit ! tt) (no_more !))) refl (list_typed null_ptr) $
        returns ! (look_at ! 0 refl) $ free_all ! refl $
        nothing ! $ use0 𝓛 (‵ (list_own null_ptr (list_val null_ptr ∷ []))) (list_made 𝓛 null_ptr) $ fjoin ! $
        rewrite ! 0 (λ (F : Fml). ‵ F) (sym (made null_ptr None (list_val null_ptr ∷ []))) refl $
        use0 𝓛 (raw (fact 𝓤 (value (make null_ptr None) ≡ None))) (fact_i 𝓤 (value (make null_ptr None) ≡ None) (emp 𝓤) (value_made null_ptr None)) $ nothing ! $ move ! (3 ∷ 0 ∷ 2 ∷ 1 ∷ []) $
        by ! (leaves 𝓛 Empty stays emptied z (list_val null_ptr) (make null_ptr None) tt tt)))

    abbrev filled : Clauses 𝓤 Filled
    filled κs args = record { ghost = Unit {0}; requires = λ g. emp 𝓤; ensures = λ g s e. fact 𝓤 (value s ≡ Some args.0.value) }

    pub filled_slot : Closed 𝓤 𝓛.H 𝓣.C 𝓣.Λ self filled_code → Meets 𝓛 Filled.signature (𝓣.C self) (closing 𝓛 Filled filled)
    filled_slot closed =
        let Z : RattleType = heap.the_row in let LZ = heap_laws.the_row_laws in
        let stays : Stays Filled.signature.params Filled.kept = (stay_dropped (plain (λ κs. held)) yes, tt) in
        proved_at 𝓛 Filled stays filled 𝓜 𝓡 (Goes-blank 𝓛 0 (plain (λ κs. held)) yes (λ κs x f. tt), tt) self filled_code closed (λ z are.
        let Post : Val → SProp 𝓤 = (walk_of 𝓛 Filled stays filled).post z in let v = z.0.3.0 in
        qed 𝓛 ((raw (alive 𝓛 Filled.signature z.0.0 z.0.1) ⊛ ‵ (owns (types_at Filled.signature.params z.0.0) z.0.3 z.0.4)) ∷ ‵ ftrue ∷ []) ∵ move ! (1 ∷ []) $ drop ! $ split ! $ move ! (1 ∷ []) $ fsplit ! $
        loose_out R Z LZ ghosts ! v z.0.4.0 (λ b o h e ws fits.
        let p : Ptr = block_ptr b o in let x = make p (Some v.value) in
        regoal ! (λ (us : List Val). prop (WpFn 𝓤 𝓛.H 𝓣.C 𝓣.Λ filled_code us Post)) (λ i. ws i ++ []) refl $
        enter ! 𝓣.C 𝓣.Λ filled_code (both (vptr b o) h ∷ []) Post $ alloc_all ! (λ l. pass_all ! refl (loose_good R Z LZ ghosts b o h fits, tt) $
        sets ! (of_opd ! (get_in ! (fld ! refl (stop !)) (sub ! 0 refl (whole !)))) refl (tt, tt) $
        sets ! (of_opd ! (get ! refl)) refl (tt, tt) $
        sets ! (agg ! (and_then ! (get ! refl) (no_more !))) refl (list_typed p) $
        returns ! (look_at ! 0 refl) $ free_all ! refl $
        use0 𝓛 (‵ (list_own p (list_val p ∷ []))) (list_made 𝓛 p) $ fjoin ! $
        rewrite ! 0 (λ (F : Fml). ‵ F) (sym (made p (Some v.value) (list_val p ∷ []))) refl $
        use0 𝓛 (raw (fact 𝓤 (value x ≡ Some v.value))) (fact_i 𝓤 (value x ≡ Some v.value) (emp 𝓤) (value_made p (Some v.value))) $ nothing ! $ nothing ! $ fjoin ! $ keep ! (5 ∷ 0 ∷ 2 ∷ 1 ∷ []) $
        by ! (leaves 𝓛 Filled stays filled z (list_val p) x (tt, tt) (tt, tt)))))

    abbrev loosed : Clauses 𝓤 Loosed
    loosed κs args = record { ghost = Unit {0}; requires = λ g. fact 𝓤 (IsSome (value args.0)); ensures = λ g l e. fact 𝓤 (Some l.value ≡ value args.0) }

    pub loosed_slot : Closed 𝓤 𝓛.H 𝓣.C 𝓣.Λ self loosed_code → Meets 𝓛 Loosed.signature (𝓣.C self) (closing 𝓛 Loosed loosed)
    loosed_slot closed =
        let Z : RattleType = heap.the_row in let LZ = heap_laws.the_row_laws in
        let stays : Stays Loosed.signature.params Loosed.kept = (stay_dropped (plain (λ κs. slot)) yes, (stay_dropped (plain (λ κs. Z)) yes, tt)) in
        proved_at 𝓛 Loosed stays loosed 𝓜 𝓡 (Goes-blank 𝓛 0 (plain (λ κs. slot)) yes (λ κs x f. tt), (Goes-blank 𝓛 0 (plain (λ κs. Z)) yes (λ κs x f. tt), tt)) self loosed_code closed (λ z are.
        let Post : Val → SProp 𝓤 = (walk_of 𝓛 Loosed stays loosed).post z in let v = z.0.3.0 in let a = z.0.3.1.0 in let told = list_told (at v) z.0.4.0 are.0.0 in
        qed 𝓛 ((raw (alive 𝓛 Loosed.signature z.0.0 z.0.1) ⊛ ‵ (owns (types_at Loosed.signature.params z.0.0) z.0.3 z.0.4)) ∷ raw (fact 𝓤 (IsSome (value v))) ∷ []) ∵ move ! (1 ∷ []) $ heard ! (IsSome (value v)) (λ some.
        let x : R.Denot = held_in (value v) some in
        split ! $ move ! (1 ∷ []) $ fsplit ! $ fsplit ! $ drop ! $
        rewrite ! 0 (λ (k : Option R.Denot). ‵ (slot_owns chunk R (at v) k)) (sym (held_is (value v) some)) refl $
        in_a_block ! (at v) (λ q. box_owns chunk R q x) (fst∗ 𝓤 (never 𝓤) (sem 𝓛 (chunk (bare (lone R.mir)) null_ptr))) (λ b o e.
        move ! (1 ∷ []) $ fsplit ! $ handle_tells (al R Z LZ ghosts) ! a z.0.4.1.0 (λ h eh fits.
        regoal ! (λ (us : List Val). prop (WpFn 𝓤 𝓛.H 𝓣.C 𝓣.Λ loosed_code us Post)) (λ i. (told ∙ ap (λ (q : Ptr). list_val q ∷ []) e) i ++ (eh i ++ [])) refl $
        enter ! 𝓣.C 𝓣.Λ loosed_code (list_val (block_ptr b o) ∷ h ∷ []) Post $ alloc_all ! (λ l. pass_all ! refl (list_typed (block_ptr b o), (fits, tt)) $
        sets ! (of_opd ! (get_in ! (fld ! refl (stop !)) (sub ! 0 refl (whole !)))) refl (tt, tt) $
        sets ! (of_opd ! (get ! refl)) refl (tt, tt) $
        sets ! (agg ! (and_then ! (get ! refl) (and_then ! (get ! refl) (no_more !)))) refl (loose_good R Z LZ ghosts b o h fits) $
        returns ! (look_at ! 0 refl) $ free_all ! refl $
        move ! (2 ∷ 0 ∷ []) $ loose_in R Z LZ ghosts ! b o h a x $
        use0 𝓛 (raw (fact 𝓤 (Some x ≡ value v))) (fact_i 𝓤 (Some x ≡ value v) (emp 𝓤) (held_is (value v) some)) $ nothing ! $ nothing ! $ fjoin ! $ nothing ! $ fjoin ! $ keep ! (4 ∷ 0 ∷ 2 ∷ 1 ∷ []) $
        by ! (leaves 𝓛 Loosed stays loosed z (both (vptr b o) h) (record { at = block_ptr b o; alloc = a; value = x }) (tt, (tt, tt)) (tt, (tt, tt))))))))
