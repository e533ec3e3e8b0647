-- Each step on a board's row keeps its rule.
use Rattle.std.proofs.Common.{◌≡◌, ◌≢◌, ℕ, zero, suc, ◌+◌, ◌-◌, ◌*◌, ◌%◌, ◌<◌, ◌≤◌, List, [], ◌∷◌, ◌++◌, length, set, get_or, true, false, true≢false, refl, sym, ap, ◌∙◌, subst, ⊎_elim, arith, length-append, length-set, get_or-set_other}
use Rattle.std.specs.Prelude.{slice_index}
use Rattle.std.proofs.lemmas.List.{set-get_or}
use Rattle.std.proofs.lemmas.Grind.{get_or-set_at}
use mathlib.Core.Option.{none, some, some-ne-none, some-injective}
use mathlib.Core.List.{IsPrefix}
use lib.ListN.{get_elem?}
use Rattle.atomic_table.specs.Table.{Me, step, keeps, Allows, Splits, Joins}
use Rattle.atomic_table.proofs.Lists.{at_set, at_snoc}
use Rattle.zp_board.specs.Boards.{entry_at}
use Rattle.zp_board.proofs.Words.{each_more, prefix_get, prefix_length, prefix_more, prefix_self, word_written}
use Rattle.zp_ring.specs.declared.ring_row.RingView.{RingView}
use Rattle.zp_ring.specs.Rings.{blank, both_of, emptied, newcomer, reading, storing, word_at, Fetches, Finds, Heads, IsTurning, Lies, Looks, Opens, Posts, Sits, Writes}
use Rattle.zp_ring.proofs.Words.{apart, heads_more, inside_row, turn}

off : false ≡ true → ⊥
off e = true≢false (sym e)

module _ (W S : ℕ) where
  abbrev Each : Posts → List RingView → Type 0
  Each b views = (by : ℕ) (v : RingView) → get_elem? views by ≡ some v → Sits W S b by v

  each_set : (b : Posts) (views : List RingView) (id : ℕ) (w : RingView) → ((j : ℕ) (u : RingView) → j ≢ id → get_elem? views j ≡ some u → Sits W S b j u) → Sits W S b id w → Each b (set views id w)
  each_set b views id w others mine j u e =
      ⊎_elim
      (λ (x : (j ≡ id) × (w ≡ u)). subst (λ (y : ℕ × RingView). Sits W S b y.0 y.1) (λ i. (sym x.0 i, x.1 i)) mine)
      (λ (x : (j ≢ id) × (get_elem? views j ≡ some u)). others j u x.0 x.1)
      (at_set views id j w u e)

  -- a new seat that does not store sits anywhere
  each_end : (b : Posts) (views : List RingView) (w : RingView) → Each b views → ((j : ℕ) → Sits W S b j w) → Each b (views ++ w ∷ [])
  each_end b views w old new j u e =
      ⊎_elim
      (λ was. old j u was)
      (λ (x : w ≡ u). subst (Sits W S b j) x (new j))
      (at_snoc views w u j e)

  abbrev nothing : Posts
  nothing = record { storer = 0; entries = []; next = [] }

  pub begins : (words : List ℕ) → length words ≡ W * S + 1 → slice_index words 0 ≡ 0 → IsTurning W S (record { words = words; homes = []; views = blank ∷ [] })
  begins words len first = (
    nothing,
    record {
      size_is = len;
      short = omega arith;
      wide = λ n lt. absurd (omega arith);
      place = first;
      entries = λ n k lt near inside. absurd (omega arith);
      next = λ k lt. absurd (omega arith);
    },
    one,
  )
    where
      one : (by : ℕ) (v : RingView) → get_elem? (blank ∷ []) by ≡ some v → Sits W S nothing by v
      one zero v e = subst (Sits W S nothing 0) (some-injective _ _ e) (record { stores = λ _. (refl, refl, refl); reads = λ h. absurd (off h) })
      one (suc by) v e = absurd (some-ne-none v (sym e))

  -- a seat that does not store gives all that it knows to a new one
  pub empties : (id : ℕ) (v : RingView) → v.stores ≡ false → Splits (IsTurning W S) id v (emptied v) v
  empties id v sv s tied at =
      let b : Posts = tied.0 in
      let mine : Sits W S b id v = tied.2 id v at in (
        b,
        tied.1,
        each_end b (set s.views id (emptied v)) v
            (each_set b s.views id (emptied v) (λ j u ne e. tied.2 j u e) (record { stores = λ h. absurd (off h); reads = λ h. absurd (off h) }))
            (λ j. record { stores = λ h. absurd (off (sym sv ∙ h)); reads = mine.reads }),
      )

  -- what was seen is cut off
  pub parts : (id : ℕ) (v : RingView) → Splits (IsTurning W S) id v (storing v) (reading v)
  parts id v s tied at =
      let b : Posts = tied.0 in
      let mine : Sits W S b id v = tied.2 id v at in (
        b,
        tied.1,
        each_end b (set s.views id (storing v)) (reading v)
            (each_set b s.views id (storing v) (λ j u ne e. tied.2 j u e) (record { stores = mine.stores; reads = λ h. absurd (off h) }))
            (λ j. record { stores = λ h. absurd (off h); reads = mine.reads }),
      )

  -- a reader is cut off
  pub comes : (id : ℕ) (v : RingView) → v.stores ≡ true → 0 < length v.entries → Splits (IsTurning W S) id v v (newcomer v)
  comes id v sv some_ s tied at =
      let b : Posts = tied.0 in
      let mine : Sits W S b id v = tied.2 id v at in
      let known : (id ≡ b.storer) × (v.entries ≡ b.entries) × (v.next ≡ b.next) = mine.stores sv in (
        b,
        tied.1,
        each_end b (set s.views id v) (newcomer v)
            (each_set b s.views id v (λ j u ne e. tied.2 j u e) mine)
            (λ j. record {
              stores = λ h. absurd (off h);
              reads = λ h. (subst (IsPrefix v.entries) known.1 (prefix_self v.entries), omega (arith, some_), λ near k lt. absurd (omega arith));
            }),
      )

  -- the seat that stores takes in what a reader has seen
  pub joins : (id : ℕ) (v : RingView) (other : ℕ) (w : RingView) → v.stores ≡ true → Joins (IsTurning W S) id v other w (both_of v w) (emptied blank)
  joins id v other w sv s tied at apart_ there =
      let b : Posts = tied.0 in
      let mine : Sits W S b id v = tied.2 id v at in
      let theirs : Sits W S b other w = tied.2 other w (⊎_elim
      (λ (t : (other ≡ id) × (both_of v w ≡ w)). absurd (apart_ t.0))
      (λ (t : (other ≢ id) × (get_elem? s.views other ≡ some w)). t.1)
      (at_set s.views id other (both_of v w) w there)) in (
        b,
        tied.1,
        each_set b (set s.views id (both_of v w)) other (emptied blank)
            (λ j u ne e. each_set b s.views id (both_of v w) (λ i y _ e'. tied.2 i y e') (record { stores = mine.stores; reads = theirs.reads }) j u e)
            (record { stores = λ h. absurd (off h); reads = λ h. absurd (off h) }),
      )

  -- one word of the next entry is written. What lies in its slot is of an entry that S or more have followed, the next one with them
  pub writes : (slots id : ℕ) (me : Me (Unit {0}) RingView) (i x : ℕ) → 0 < S → me.0.stores ≡ true → i ≡ word_at W S (length me.0.entries) (length me.0.next) → length me.0.next < W
      → Allows (IsTurning W S) slots id me i (λ _. x) (λ _. Writes (step slots i x 0 none) me x)
  writes slots id me i x some_ sv is room s tied len at small =
      let v : RingView = me.0 in
      let b : Posts = tied.0 in
      let lies : Lies W S b s.words = tied.1 in
      let mine : Sits W S b id v = tied.2 id v at in
      let known : (id ≡ b.storer) × (v.entries ≡ b.entries) × (v.next ≡ b.next) = mine.stores sv in
      let here : i ≡ word_at W S (length b.entries) (length b.next) = is ∙ (λ j. word_at W S (length (known.1 j)) (length (known.2 j))) in
      let less : length b.next < W = subst (λ l. length l < W) known.2 room in
      let b' : Posts = record { storer = b.storer; entries = b.entries; next = b.next ++ x ∷ [] } in
      let longer : length (b.next ++ x ∷ []) ≡ length b.next + 1 = length-append b.next (x ∷ []) in
      let wide : length s.words ≡ W * S + 1 = lies.size_is in
      let inside : word_at W S (length b.entries) (length b.next) < W * S + 1 = inside_row W S _ _ some_ less in
      let within : i < length s.words = omega (arith, here, inside, wide) in
      let w : RingView = record v { next = v.next ++ x ∷ [] } in (
        w,
        keeps,
        tt,
        (
          b',
          record {
            size_is = length-set s.words i x ∙ lies.size_is;
            short = omega (arith, less, longer);
            wide = lies.wide;
            place = get_or-set_other s.words i 0 x 0 (λ e. omega (arith, here, e)) ∙ lies.place;
            entries = λ n k lt near lt_k. let other : word_at W S n k ≢ word_at W S (length b.entries) (length b.next) = apart W S n _ k _ (turn S n (length b.entries) lt near) lt_k less in
                get_or-set_other s.words i (word_at W S n k) x 0 (λ e. other (omega (arith, here, e))) ∙ lies.entries n k lt near lt_k;
            next = λ k lt. word_written s.words b.next (W * (length b.entries % S) + 1) i x k here within (omega (arith, lt, longer)) lies.next;
          },
          each_set b' s.views id w
              (λ j u ne e. let f : Sits W S b j u = tied.2 j u e in record {
                stores = λ h. absurd (ne ((f.stores h).0 ∙ sym known.0));
                reads = f.reads;
              })
              (record { stores = λ h. (known.0, known.1, ap (λ l. l ++ x ∷ []) known.2); reads = mine.reads }),
        ),
        refl,
      )

  -- what a reader knows still holds when one more is published
  reads_more : (b : Posts) (v : RingView) (e : List ℕ) → IsPrefix v.seen b.entries × (v.from < length v.seen) × (length b.entries < v.from + S → Heads v.got (entry_at b.entries v.from))
      → IsPrefix v.seen (b.entries ++ e ∷ []) × (v.from < length v.seen) × (length (b.entries ++ e ∷ []) < v.from + S → Heads v.got (entry_at (b.entries ++ e ∷ []) v.from))
  reads_more b v e r =
      let longer : length (b.entries ++ e ∷ []) ≡ length b.entries + 1 = length-append b.entries (e ∷ []) in
      let least : length v.seen ≤ length b.entries = prefix_length v.seen b.entries r.0 in
      let same : entry_at (b.entries ++ e ∷ []) v.from ≡ entry_at b.entries v.from = prefix_get b.entries (b.entries ++ e ∷ []) v.from (e ∷ [], refl) (omega (arith, least, r.1)) in (
        prefix_more v.seen b.entries e r.0,
        r.1,
        λ near. subst (Heads v.got) (sym same) (r.2 (omega (arith, near, longer))),
      )

  -- the next entry is published
  pub opens : (slots id : ℕ) (me : Me (Unit {0}) RingView) (x : ℕ) → me.0.stores ≡ true → x ≡ length me.0.entries → length me.0.next ≡ W
      → Allows (IsTurning W S) slots id me 0 (λ _. x) (λ _. Opens (step slots 0 x 0 none) me x)
  opens slots id me x sv is whole s tied len at small =
      let v : RingView = me.0 in
      let b : Posts = tied.0 in
      let lies : Lies W S b s.words = tied.1 in
      let mine : Sits W S b id v = tied.2 id v at in
      let known : (id ≡ b.storer) × (v.entries ≡ b.entries) × (v.next ≡ b.next) = mine.stores sv in
      let all : List (List ℕ) = b.entries ++ b.next ∷ [] in
      let b' : Posts = record { storer = b.storer; entries = all; next = [] } in
      let longer : length all ≡ length b.entries + 1 = length-append b.entries (b.next ∷ []) in
      let wide : length s.words ≡ W * S + 1 = lies.size_is in
      let full : length b.next ≡ W = sym (ap length known.2) ∙ whole in
      let number : x ≡ length b.entries = is ∙ ap length known.1 in
      let w : RingView = record v { entries = v.entries ++ v.next ∷ []; next = [] } in (
        w,
        keeps,
        tt,
        (
          b',
          record {
            size_is = length-set s.words 0 x ∙ lies.size_is;
            short = omega arith;
            wide = each_more (λ n e. length e ≡ W) b.entries b.next lies.wide full;
            place = get_or-set_at s.words 0 0 x 0 refl (omega (arith, wide)) ∙ number ∙ (omega (arith, longer));
            entries = λ n k lt near inside. get_or-set_other s.words 0 (word_at W S n k) x 0 (λ e. omega arith)
                ∙ each_more (λ m e. length all < m + S → get_or s.words (word_at W S m k) 0 ≡ get_or e k 0) b.entries b.next
                (λ m l close. lies.entries m k l (omega (arith, close, longer)) inside)
                (λ close. lies.next k (omega (arith, inside, full))) n lt near;
            next = λ k lt. absurd (omega arith);
          },
          each_set b' s.views id w
              (λ j u ne e. let f : Sits W S b j u = tied.2 j u e in record {
                stores = λ h. absurd (ne ((f.stores h).0 ∙ sym known.0));
                reads = λ h. reads_more b u b.next (f.reads h);
              })
              (record {
                stores = λ h. (known.0, (λ j. known.1 j ++ known.2 j ∷ []), refl);
                reads = λ h. reads_more b v b.next (mine.reads h);
              }),
        ),
        refl,
      )

  -- the place is looked at
  pub looks : (slots id : ℕ) (me : Me (Unit {0}) RingView) → me.0.reads ≡ true
      → Allows (IsTurning W S) slots id me 0 (λ n. n) (λ n. Looks W S (step slots 0 0 0 none) me n)
  looks slots id me rd s tied len at small =
      let v : RingView = me.0 in
      let b : Posts = tied.0 in
      let lies : Lies W S b s.words = tied.1 in
      let mine : Sits W S b id v = tied.2 id v at in
      let r : IsPrefix v.seen b.entries × (v.from < length v.seen) × (length b.entries < v.from + S → Heads v.got (entry_at b.entries v.from)) = mine.reads rd in
      let n : ℕ = slice_index s.words 0 in
      let w : RingView = record v { seen = b.entries; from = n; got = []; looks = v.looks ++ n ∷ [] } in
      let least : length v.seen ≤ length b.entries = prefix_length v.seen b.entries r.0 in
      let place : n ≡ length b.entries - 1 = lies.place in
      let many : length b.entries ≡ n + 1 = omega (arith, place, least, r.1) in (
        w,
        keeps,
        tt,
        (
          b,
          subst (Lies W S b) (sym (set-get_or s.words 0 0)) lies,
          each_set b s.views id w (λ j u ne e. tied.2 j u e) (record { stores = mine.stores; reads = λ h. (prefix_self b.entries, omega (arith, many), λ near k lt. absurd (omega arith)) }),
        ),
        (refl, r.0, many, lies.wide, λ near. r.2 (omega (arith, many, near)), λ sv. sym (mine.stores sv).1),
      )

  -- a word of the entry that is looked for is fetched
  pub fetches : (slots id : ℕ) (me : Me (Unit {0}) RingView) (i : ℕ) → me.0.reads ≡ true → i ≡ word_at W S me.0.from (length me.0.got) → length me.0.got < W
      → Allows (IsTurning W S) slots id me i (λ n. n) (λ n. Fetches (step slots i 0 0 none) me n)
  fetches slots id me i rd is inside s tied len at small =
      let v : RingView = me.0 in
      let b : Posts = tied.0 in
      let lies : Lies W S b s.words = tied.1 in
      let mine : Sits W S b id v = tied.2 id v at in
      let r : IsPrefix v.seen b.entries × (v.from < length v.seen) × (length b.entries < v.from + S → Heads v.got (entry_at b.entries v.from)) = mine.reads rd in
      let n : ℕ = slice_index s.words i in
      let w : RingView = record v { got = v.got ++ n ∷ [] } in
      let least : length v.seen ≤ length b.entries = prefix_length v.seen b.entries r.0 in (
        w,
        keeps,
        tt,
        (
          b,
          subst (Lies W S b) (sym (set-get_or s.words i 0)) lies,
          each_set b s.views id w (λ j u ne e. tied.2 j u e) (record {
            stores = mine.stores;
            reads = λ h. (
              r.0,
              r.1,
              λ near. heads_more v.got (entry_at b.entries v.from) n (r.2 near)
                  (ap (λ j. get_or s.words j 0) is ∙ lies.entries v.from (length v.got) (omega (arith, least, r.1)) near inside),
            );
          }),
        ),
        refl,
      )

  -- a word of an entry that lies in the row is found by the seat that stores
  pub finds : (slots id : ℕ) (me : Me (Unit {0}) RingView) (i : ℕ) → me.0.stores ≡ true
      → Allows (IsTurning W S) slots id me i (λ n. n) (λ n. Finds W S (step slots i 0 0 none) me n)
  finds slots id me i sv s tied len at small =
      let v : RingView = me.0 in
      let b : Posts = tied.0 in
      let lies : Lies W S b s.words = tied.1 in
      let mine : Sits W S b id v = tied.2 id v at in
      let known : (id ≡ b.storer) × (v.entries ≡ b.entries) × (v.next ≡ b.next) = mine.stores sv in (
        v,
        keeps,
        tt,
        (
          b,
          subst (Lies W S b) (sym (set-get_or s.words i 0)) lies,
          each_set b s.views id v (λ j u ne e. tied.2 j u e) mine,
        ),
        (
          refl,
          λ n k is lt near inside. ap (λ j. get_or s.words j 0) is
              ∙ lies.entries n k (subst (λ l. n < length l) known.1 lt) (subst (λ l. length l < n + S) known.1 near) inside
              ∙ ap (λ l. get_or (entry_at l n) k 0) (sym known.1),
        ),
      )
