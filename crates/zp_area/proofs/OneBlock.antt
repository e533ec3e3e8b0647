-- A set of blocks with one block more or one block less: its blocks and its pages.
use Rattle.std.proofs.Common.{ℕ, ◌+◌, ◌^◌, ◌≡◌, ◌≢◌, ◌≤◌, ◌<◌, ◌⊎◌, inl, inr, refl, sym, ◌∙◌, arith, List, length, get_or-set_same, get_or-set_other, length-set, Option, None, Some}
use Rattle.std.proofs.Math.Bool.{or-true}
use Rattle.std.proofs.lemmas.Nat.{pow_pos}
use Rattle.std.proofs.lemmas.Bool.{cases_eq, and_parts, and_from, or_cases, not-true, both_ways, false_from_ne_true}
use Rattle.zp_model.specs.Block.{IsBlock, head, in_run, with_run, without}
use Rattle.zp_model.specs.BlockSet.{Starts, cover}
use Rattle.zp_model.proofs.Heads.{head_le, lt_head, head_of, lt_pow}
use Rattle.zp_model.proofs.Pages.{In, in_run-to}
use Rattle.zp_model.proofs.Covers.{cover-to, cover-from, length-cover, length-with, length-without, same_pages}
use Rattle.zp_tree.specs.Blocks.{IsBlockSet, with_block, without_block}
use Rattle.zp_laws.proofs.Counting.{in_run-yes, has-with_any, has-without_any}
use Rattle.zp_tree.proofs.Apart.{clear-starts}

-- a block of a set that has page i
pub record IsAround (s : List (Option ℕ)) (i h k : ℕ) : Type 0 where
  pub starts : Starts s h k
  pub from : h ≤ i
  pub to : i < h + 2 ^ k

pub covered_around : (s : List (Option ℕ)) (i : ℕ) → In (cover s) i → (h : ℕ) × (k : ℕ) × IsAround s i h k
covered_around s i e =
    let c = cover-to s i e in
    (head i c.0, c.0, record { starts = c.1; from = head_le i c.0; to = lt_head i c.0 })

pub around_covered : (m : ℕ) (s : List (Option ℕ)) (i h k : ℕ) → IsBlockSet m s → IsAround s i h k → In (cover s) i
around_covered m s i h k x y =
    let b : IsBlock m (length s) h k = x.block h k y.starts in
    cover-from s i k (omega arith) (omega (arith, lt_pow k)) (rw (head_of h i k b.aligned y.from y.to) y.starts)

-- two blocks of a set that have page i are one
pub around_same : (m : ℕ) (s : List (Option ℕ)) (i h k g j : ℕ) → IsBlockSet m s → IsAround s i h k → IsAround s i g j → h ≡ g
around_same m s i h k g j x y z = x.apart h k g j i y.starts z.starts (in_run-yes h k i y.from y.to) (in_run-yes g j i z.from z.to)

pub one_at : (s : List (Option ℕ)) (h k j : ℕ) → Starts s h k → Starts s h j → j ≡ k
one_at s h k j a b = cc

pub head_below : (m n h k : ℕ) → IsBlock m n h k → h < n
head_below m n h k b = omega (arith, b.inside, pow_pos k)

-- (h, k) is a block of the zone of which no page is in the set
pub record IsNew (m : ℕ) (s : List (Option ℕ)) (h k : ℕ) : Type 0 where
  pub block : IsBlock m (length s) h k
  pub clear : (i : ℕ) → h ≤ i → i < h + 2 ^ k → In (cover s) i → ⊥

-- no block of the set starts at the head of a new one
pub new_none : (m : ℕ) (s : List (Option ℕ)) (h k : ℕ) → IsBlockSet m s → IsNew m s h k → (j : ℕ) → Starts s h j → ⊥
new_none m s h k x n j st =
    n.clear h (omega arith) (omega (arith, pow_pos k)) (around_covered m s h h j x (record { starts = st; from = omega arith; to = omega (arith, pow_pos j) }))

-- the blocks with one more
pub with-starts : (s : List (Option ℕ)) (h k g j : ℕ) → h < length s → Starts (with_block s h k) g j → ((g ≡ h) × (j ≡ k)) ⊎ ((g ≢ h) × Starts s g j)
with-starts s h k g j lt st =
    elim (cases_eq g h) [
      | inl e ↦ let now = get_or-set_same s h (Some k) None lt in inl (e, cc)
      | inr ne ↦ inr (ne, sym (get_or-set_other s h g (Some k) None ne) ∙ st)
    ]

pub with-here : (s : List (Option ℕ)) (h k : ℕ) → h < length s → Starts (with_block s h k) h k
with-here s h k lt = get_or-set_same s h (Some k) None lt

pub with-there : (s : List (Option ℕ)) (h k g j : ℕ) → g ≢ h → Starts s g j → Starts (with_block s h k) g j
with-there s h k g j ne st = get_or-set_other s h g (Some k) None ne ∙ st

pub without-there : (s : List (Option ℕ)) (h g j : ℕ) → g ≢ h → Starts s g j → Starts (without_block s h) g j
without-there s h g j ne st = get_or-set_other s h g None None ne ∙ st

-- the set with a new block
module _ (m : ℕ) (s : List (Option ℕ)) (h k : ℕ) (x : IsBlockSet m s) (n : IsNew m s h k) where
  -- no other block has a page of it
  met : (i g j f r : ℕ) → g ≤ i → i < g + 2 ^ j → g ≡ h → j ≡ k → IsAround s i f r → ⊥
  met i g j f r lo hi e d y = n.clear i (omega arith) (rw (e, d) at hi) (around_covered m s i f r x y)

  pub with-set : IsBlockSet m (with_block s h k)
  with-set =
      let lt : h < length s = head_below m (length s) h k n.block in
      record {
        block = rw (length-set s h (Some k)) (λ g j st. elim (with-starts s h k g j lt st) [ inl e ↦ rw (e.0, e.1) n.block | inr old ↦ x.block g j old.1 ]);
        apart = λ g j f r i st su u v.
            let p = in_run-to g j i u in
            let q = in_run-to f r i v in
            elim (with-starts s h k g j lt st) [
              | inl e ↦ elim (with-starts s h k f r lt su) [
                | inl d ↦ e.0 ∙ sym d.0
                | inr old ↦ absurd (met i g j f r p.0 p.1 e.0 e.1 (record { starts = old.1; from = q.0; to = q.1 }))
              ]
              | inr old ↦ elim (with-starts s h k f r lt su) [
                | inl d ↦ absurd (met i f r g j q.0 q.1 d.0 d.1 (record { starts = old.1; from = p.0; to = p.1 }))
                | inr older ↦ x.apart g j f r i old.1 older.1 u v
              ]
            ];
      }

  -- its pages
  pub cover-with : cover (with_block s h k) ≡ with_run (cover s) h k
  cover-with =
      let t : List (Option ℕ) = with_block s h k in
      let lt : h < length s = head_below m (length s) h k n.block in
      let room : h + 2 ^ k ≤ length (cover s) = omega (arith, n.block.inside, length-cover s) in
      same_pages (cover t) (with_run (cover s) h k) (length-cover t ∙ length-set s h (Some k) ∙ sym (length-with (cover s) h k ∙ length-cover s))
      (λ i e.
      let w = covered_around t i e in
      has-with_any (cover s) h k i room ∙ elim (with-starts s h k w.0 w.1 lt w.2.starts) [
        | inl d ↦ rw (in_run-yes h k i (omega (arith, w.2.from)) (rw (d.0, d.1) at w.2.to)) (or-true _)
        | inr old ↦ rw (around_covered m s i w.0 w.1 x (record { starts = old.1; from = w.2.from; to = w.2.to })) refl
      ])
      (λ i e. elim (or_cases _ _ (sym (has-with_any (cover s) h k i room) ∙ e)) [
        | inl old ↦
            let w = covered_around s i old in
            around_covered m t i w.0 w.1 with-set
            (record { starts = with-there s h k w.0 w.1 (λ same. new_none m s h k x n w.1 (rw same at w.2.starts)) w.2.starts; from = w.2.from; to = w.2.to })
        | inr run ↦ let p = in_run-to h k i run in around_covered m t i h k with-set (record { starts = with-here s h k lt; from = p.0; to = p.1 })
      ])

-- the set without one of its blocks
module _ (m : ℕ) (s : List (Option ℕ)) (h k : ℕ) (x : IsBlockSet m s) (here : Starts s h k) where
  pub without-set : IsBlockSet m (without_block s h)
  without-set =
      let lt : h < length s = head_below m (length s) h k (x.block h k here) in
      record {
        block = rw (length-set s h None) (λ g j st. x.block g j (clear-starts s h g j lt st).1);
        apart = λ g j f r i st su u v. x.apart g j f r i (clear-starts s h g j lt st).1 (clear-starts s h f r lt su).1 u v;
      }

  pub cover-without : cover (without_block s h) ≡ without (cover s) h k
  cover-without =
      let t : List (Option ℕ) = without_block s h in
      let lt : h < length s = head_below m (length s) h k (x.block h k here) in
      same_pages (cover t) (without (cover s) h k) (length-cover t ∙ length-set s h None ∙ sym (length-without (cover s) h k ∙ length-cover s))
      (λ i e.
      let w = covered_around t i e in
      let old = clear-starts s h w.0 w.1 lt w.2.starts in
      let was : IsAround s i w.0 w.1 = record { starts = old.1; from = w.2.from; to = w.2.to } in
      has-without_any (cover s) h k i ∙ and_from _ _ (around_covered m s i w.0 w.1 x was) (rw (false_from_ne_true (in_run h k i) (λ run.
      let p = in_run-to h k i run in
      old.0 (around_same m s i w.0 w.1 h k x was (record { starts = here; from = p.0; to = p.1 })))) refl))
      (λ i e.
      let p = and_parts _ _ (sym (has-without_any (cover s) h k i) ∙ e) in
      let w = covered_around s i p.0 in
      around_covered m t i w.0 w.1 without-set (record {
        starts = without-there s h w.0 w.1 (λ same.
            let order : w.1 ≡ k = one_at s h k w.1 here (rw same at w.2.starts) in
            both_ways (in_run h k i) (not-true (in_run h k i) p.1) (in_run-yes h k i (omega (arith, w.2.from)) (rw (same, order) at w.2.to))) w.2.starts;
        from = w.2.from;
        to = w.2.to;
      }))
