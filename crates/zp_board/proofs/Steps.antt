-- Each step on a board's row keeps its rule.
use Rattle.std.proofs.Common.{◌≡◌, ◌≢◌, ℕ, zero, suc, ◌+◌, ◌*◌, ◌<◌, List, [], ◌∷◌, ◌++◌, length, set, get_or, true, false, true≢false, refl, sym, ap, ◌∙◌, inl, inr, arith, length-append, length-set, get_or-set_other}
use native.Mathlib.Nat.{mul-zero}
use Rattle.std.specs.Prelude.{slice_index}
use Rattle.std.proofs.lemmas.List.{set-get_or}
use Rattle.std.proofs.lemmas.Grind.{get_or-set_at}
use mathlib.Core.Option.{none, some, some-ne-none, some-injective}
use mathlib.Core.List.{IsPrefix}
use lib.ListN.{get_elem?}
use Rattle.atomic_table.specs.Table.{Me, step, keeps, Allows, Splits, Joins}
use Rattle.atomic_table.proofs.Lists.{at_set, at_snoc}
use Rattle.zp_board.specs.declared.word_row.BoardView.{BoardView}
use Rattle.zp_board.specs.Boards.{blank, both_of, emptied, newcomer, reading, storing, word_at, Fetches, IsBoarded, Lies, Looks, Opens, Posts, Sits, Writes}
use Rattle.zp_board.proofs.Words.{each_more, earlier, more_words, prefix_get, prefix_length, prefix_more, prefix_self, word_written}

off : false ≡ true → ⊥
off e = true≢false (sym e)

module _ (W size : ℕ) where
  abbrev Each : Posts → List BoardView → Type 0
  Each b views = (by : ℕ) (v : BoardView) → get_elem? views by ≡ some v → Sits size b by v

  each_set : (b : Posts) (views : List BoardView) (id : ℕ) (w : BoardView) → ((j : ℕ) (u : BoardView) → j ≢ id → get_elem? views j ≡ some u → Sits size b j u) → Sits size b id w → Each b (set views id w)
  each_set b views id w others mine j u e = elim (at_set views id j w u e) [ inl x ↦ rw (x.0, ← x.1) mine | inr x ↦ others j u x.0 x.1 ]

  -- a new seat that does not store sits anywhere
  each_end : (b : Posts) (views : List BoardView) (w : BoardView) → Each b views → ((j : ℕ) → Sits size b j w) → Each b (views ++ w ∷ [])
  each_end b views w old new j u e = elim (at_snoc views w u j e) [ inl was ↦ old j u was | inr x ↦ rw (← x) (new j) ]

  pub begins : (words : List ℕ) → length words ≡ size → 0 < size → slice_index words 0 ≡ 0 → IsBoarded W size (record { words = words; homes = []; views = blank size ∷ [] })
  begins words len pos first = (
    record { storer = 0; entries = []; next = [] },
    record {
      size_is = len;
      room = omega (arith, pos, mul-zero W);
      wide = λ n lt. absurd (omega arith);
      place = first;
      entries = λ n k lt inside. absurd (omega arith);
      next = λ k lt. absurd (omega arith);
    },
    one,
  )
    where
      one : (by : ℕ) (v : BoardView) → get_elem? (blank size ∷ []) by ≡ some v → Sits size (record { storer = 0; entries = []; next = [] }) by v
      one zero v e = rw (← some-injective _ _ e) (record { stores = λ _. (refl, refl, refl, refl); reads = λ h. absurd (off h) })
      one (suc by) v e = absurd (some-ne-none v (sym e))

  -- a seat gives some of what it knows to a new one that does not store
  cuts : (id : ℕ) (v w u : BoardView) → ((b : Posts) → Sits size b id v → Sits size b id w) → u.stores ≡ false → ((b : Posts) → Sits size b id v → u.reads ≡ true → IsPrefix u.seen b.entries × (u.size ≡ size)) →
      Splits (IsBoarded W size) id v w u
  cuts id v w u left su reads s tied at =
      let b : Posts = tied.0 in
      let mine : Sits size b id v = tied.2 id v at in (
        b,
        tied.1,
        each_end b (set s.views id w) u (each_set b s.views id w (λ j y ne e. tied.2 j y e) (left b mine)) (λ j. record { stores = λ h. absurd (off (sym su ∙ h)); reads = reads b mine }),
      )

  -- a seat that does not store gives all that it knows to a new one
  pub empties : (id : ℕ) (v : BoardView) → v.stores ≡ false → Splits (IsBoarded W size) id v (emptied v) v
  empties id v sv = cuts id v (emptied v) v (λ b mine. record { stores = λ h. absurd (off h); reads = λ h. absurd (off h) }) sv (λ b mine. mine.reads)

  -- what was seen is cut off
  pub parts : (id : ℕ) (v : BoardView) → Splits (IsBoarded W size) id v (storing v) (reading v)
  parts id v = cuts id v (storing v) (reading v) (λ b mine. record { stores = mine.stores; reads = λ h. absurd (off h) }) refl (λ b mine. mine.reads)

  -- a reader is cut off
  pub comes : (id : ℕ) (v : BoardView) → v.stores ≡ true → Splits (IsBoarded W size) id v v (newcomer v)
  comes id v sv = cuts id v v (newcomer v) (λ b mine. mine) refl (λ b mine h. (rw (← (mine.stores sv).1) (prefix_self v.entries), (mine.stores sv).3))

  -- the seat that stores takes in what a reader has seen
  pub joins : (id : ℕ) (v : BoardView) (other : ℕ) (w : BoardView) → v.stores ≡ true → Joins (IsBoarded W size) id v other w (both_of v w) (emptied (blank 0))
  joins id v other w sv s tied at apart there =
      let b : Posts = tied.0 in
      let mine : Sits size b id v = tied.2 id v at in
      let was : get_elem? s.views other ≡ some w = elim (at_set s.views id other (both_of v w) w there) [ inl t ↦ absurd (apart t.0) | inr t ↦ t.1 ] in (
        b,
        tied.1,
        each_set b (set s.views id (both_of v w)) other (emptied (blank 0))
            (λ j u ne e. each_set b s.views id (both_of v w) (λ i y _ e'. tied.2 i y e') (record { stores = mine.stores; reads = λ h. (((tied.2 other w was).reads h).0, (mine.stores sv).3) }) j u e)
            (record { stores = λ h. absurd (off h); reads = λ h. absurd (off h) }),
      )

  -- one word of the next entry is written
  pub writes : (slots id : ℕ) (me : Me (Unit {0}) BoardView) (i x : ℕ) → me.0.stores ≡ true → i ≡ word_at W (length me.0.entries) (length me.0.next) → i < size
      → Allows (IsBoarded W size) slots id me i (λ _. x) (λ _. Writes (step slots i x 0 none) me x)
  writes slots id me i x sv is room s tied len at small =
      let v : BoardView = me.0 in
      let b : Posts = tied.0 in
      let lies : Lies W size b s.words = tied.1 in
      let mine : Sits size b id v = tied.2 id v at in
      let known = mine.stores sv in
      let here : i ≡ word_at W (length b.entries) (length b.next) = is ∙ (λ j. word_at W (length (known.1 j)) (length (known.2 j))) in
      let b' : Posts = record { storer = b.storer; entries = b.entries; next = b.next ++ x ∷ [] } in
      let longer : length (b.next ++ x ∷ []) ≡ length b.next + 1 = length-append b.next (x ∷ []) in
      let w : BoardView = record v { next = v.next ++ x ∷ [] } in (
        w,
        keeps,
        tt,
        (
          b',
          record {
            size_is = length-set s.words i x ∙ lies.size_is;
            room = omega arith;
            wide = lies.wide;
            place = get_or-set_other s.words i 0 x 0 (λ e. omega arith) ∙ lies.place;
            entries = λ n k lt inside. get_or-set_other s.words i (word_at W n k) x 0 (λ e. omega (arith, earlier W n k (length b.entries) lt inside)) ∙ lies.entries n k lt inside;
            next = λ k lt. word_written s.words b.next (W * length b.entries + 1) i x k (omega arith) (omega arith) (omega arith) lies.next;
          },
          each_set b' s.views id w
              (λ j u ne e. let f = tied.2 j u e in record { stores = λ h. absurd (ne ((f.stores h).0 ∙ sym known.0)); reads = f.reads })
              (record { stores = λ h. (known.0, known.1, ap (λ l. l ++ x ∷ []) known.2, known.3); reads = mine.reads }),
        ),
        refl,
      )

  -- the next entry is published
  pub opens : (slots id : ℕ) (me : Me (Unit {0}) BoardView) (x : ℕ) → me.0.stores ≡ true → x ≡ length me.0.entries → length me.0.next ≡ W
      → Allows (IsBoarded W size) slots id me 0 (λ _. x) (λ _. Opens (step slots 0 x 0 none) me x)
  opens slots id me x sv is whole s tied len at small =
      let v : BoardView = me.0 in
      let b : Posts = tied.0 in
      let lies : Lies W size b s.words = tied.1 in
      let mine : Sits size b id v = tied.2 id v at in
      let known = mine.stores sv in
      let all : List (List ℕ) = b.entries ++ b.next ∷ [] in
      let b' : Posts = record { storer = b.storer; entries = all; next = [] } in
      let longer : length all ≡ length b.entries + 1 = length-append b.entries (b.next ∷ []) in
      let full : length b.next ≡ W = sym (ap length known.2) ∙ whole in
      let number : x ≡ length b.entries = is ∙ ap length known.1 in
      let more : W * length all ≡ W * length b.entries + W = ap (λ n. W * n) longer ∙ sym (more_words W (length b.entries)) in
      let w : BoardView = record v { entries = v.entries ++ v.next ∷ []; next = [] } in (
        w,
        keeps,
        tt,
        (
          b',
          record {
            size_is = length-set s.words 0 x ∙ lies.size_is;
            room = omega arith;
            wide = each_more (λ n e. length e ≡ W) b.entries b.next lies.wide full;
            place = get_or-set_at s.words 0 0 x 0 refl (omega arith) ∙ number ∙ (omega arith);
            entries = λ n k lt inside. get_or-set_other s.words 0 (word_at W n k) x 0 (λ e. omega arith)
                ∙ each_more (λ m e. get_or s.words (word_at W m k) 0 ≡ get_or e k 0) b.entries b.next (λ m l. lies.entries m k l inside) (lies.next k (omega arith)) n lt;
            next = λ k lt. absurd (omega arith);
          },
          each_set b' s.views id w
              (λ j u ne e. let f = tied.2 j u e in record { stores = λ h. absurd (ne ((f.stores h).0 ∙ sym known.0)); reads = λ h. (prefix_more u.seen b.entries b.next (f.reads h).0, (f.reads h).1) })
              (record { stores = λ h. (known.0, (λ j. known.1 j ++ known.2 j ∷ []), refl, known.3); reads = λ h. (prefix_more v.seen b.entries b.next (mine.reads h).0, (mine.reads h).1) }),
        ),
        refl,
      )

  -- the place is looked at
  pub looks : (slots id : ℕ) (me : Me (Unit {0}) BoardView) → me.0.reads ≡ true → 0 < length me.0.seen
      → Allows (IsBoarded W size) slots id me 0 (λ n. n) (λ n. Looks W (step slots 0 0 0 none) me n)
  looks slots id me rd some_ s tied len at small =
      let v : BoardView = me.0 in
      let b : Posts = tied.0 in
      let lies : Lies W size b s.words = tied.1 in
      let mine : Sits size b id v = tied.2 id v at in
      let pre = (mine.reads rd).0 in
      let big = (mine.reads rd).1 in
      let w : BoardView = record v { seen = b.entries; looks = v.looks ++ slice_index s.words 0 ∷ [] } in (
        w,
        keeps,
        tt,
        (b, rw (set-get_or s.words 0 0) lies, each_set b s.views id w (λ j u ne e. tied.2 j u e) (record { stores = mine.stores; reads = λ h. (prefix_self b.entries, big) })),
        (refl, pre, omega (arith, prefix_length v.seen b.entries pre, lies.place), omega (arith, lies.room, big), lies.wide, λ sv. sym (mine.stores sv).1),
      )

  -- a word of what was seen is fetched
  pub fetches : (slots id : ℕ) (me : Me (Unit {0}) BoardView) (i : ℕ) → me.0.reads ≡ true
      → Allows (IsBoarded W size) slots id me i (λ n. n) (λ n. Fetches W (step slots i 0 0 none) me n)
  fetches slots id me i rd s tied len at small =
      let v : BoardView = me.0 in
      let b : Posts = tied.0 in
      let lies : Lies W size b s.words = tied.1 in
      let mine : Sits size b id v = tied.2 id v at in
      let pre = (mine.reads rd).0 in (
        v,
        keeps,
        tt,
        (b, rw (set-get_or s.words i 0) lies, each_set b s.views id v (λ j u ne e. tied.2 j u e) mine),
        (
          refl,
          λ n k is lt inside. ap (λ j. get_or s.words j 0) is
              ∙ lies.entries n k (omega (arith, lt, prefix_length v.seen b.entries pre)) inside
              ∙ ap (λ e. get_or e k 0) (prefix_get v.seen b.entries n pre lt),
        ),
      )
