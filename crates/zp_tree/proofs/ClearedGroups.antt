-- The words and the tree after the blocks of a group were cleared.
use Rattle.std.proofs.Common.{ℕ, ◌+◌, ◌-◌, ◌*◌, ◌/◌, ◌%◌, ◌≡◌, ◌≢◌, ◌<◌, inl, inr, refl, sym, ◌∙◌, ap, arith, cond, List, length, get_or, slice_index, slice_set, Option, None}
use Rattle.std.specs.Int.{bit_at}
use Rattle.std.proofs.lemmas.Bool.{cases_eq, cases_lt, eq-eqb, ne_eqb}
use Rattle.std.proofs.lemmas.List.{length-set, get_or-set_same, get_or-set_other, get_or_past}
use Rattle.std.proofs.lemmas.List.FromFn.{get_or-map-range_with_len, length-map-range_with_len}
use Rattle.std.proofs.lemmas.Nat.Bits.{bit_at-zero}
use Rattle.zp_model.specs.BlockSet.{Starts}
use Rattle.zp_tree.specs.declared.constants.TheConstants.{PLACES, WORD_LEVELS, GROUP_PAGES}
use Rattle.zp_tree.specs.Blocks.{IsBlockSet, is_in_group, without_group}
use Rattle.zp_tree.specs.Marks.{AreEmptied, IsGroupCleared, IsInGroups, IsWords}
use Rattle.zp_tree.specs.Spelled.{IsRankIn, IsTreeOf}
use Rattle.zp_tree.specs.Words.{node}
use Rattle.zp_tree.proofs.MarkedSets.{IsMarkedBy}
use Rattle.zp_tree.proofs.Places.{low_mark, high_mark}
use Rattle.zp_tree.proofs.Ranked.{IsChangedIn, ranks_set}
use Rattle.zp_tree.proofs.TreeSteps.{another}

-- one word more is emptied
pub emptied_next : (ws vs : List ℕ) (a n w : ℕ) → AreEmptied ws vs a n → a + n < length ws → w ≡ 0 → AreEmptied ws (slice_set vs (a + n) w) a (n + 1)
emptied_next ws vs a n w x lt e = record {
  size = length-set vs (a + n) w ∙ x.size;
  here = λ r lo hi. elim (cases_eq r (a + n)) [
    | inl same ↦ rw same (get_or-set_same vs (a + n) w 0 (omega (arith, lt, x.size)) ∙ e)
    | inr ne ↦ get_or-set_other vs (a + n) r w 0 ne ∙ x.here r lo (omega arith)
  ];
  others = λ r out. get_or-set_other vs (a + n) r w 0 (λ same. out (omega arith) (omega arith)) ∙ x.others r (λ lo hi. out lo (omega arith));
}

pub emptied_none : (ws : List ℕ) (a : ℕ) → AreEmptied ws ws a 0
emptied_none ws a = record { size = refl; here = λ r lo hi. absurd (omega arith); others = λ r out. refl }

-- the words of a group
pub group_cleared : (ls hs ms : List ℕ) (g w : ℕ) → IsWords ls hs → g < length hs → AreEmptied ls ms (PLACES * g) PLACES → w ≡ 0 → IsGroupCleared ls hs ms (slice_set hs g w) g
group_cleared ls hs ms g w x lt m e =
    let gs = slice_set hs g w in
    let size : length gs ≡ length hs = length-set hs g w in
    record {
      words = record {
        size = omega (arith, m.size, x.size, size);
        whole = λ r within. elim (cases_lt r (PLACES * g)) [
          | inl below ↦ ap (λ v. bit_at v 1) (m.others r (λ lo hi. omega arith)) ∙ x.whole r (omega (arith, within, m.size))
          | inr from ↦ elim (cases_lt r (PLACES * g + PLACES)) [
            | inl in_it ↦ ap (λ v. bit_at v 1) (m.here r from in_it) ∙ bit_at-zero 1
            | inr past ↦ ap (λ v. bit_at v 1) (m.others r (λ lo hi. omega arith)) ∙ x.whole r (omega (arith, within, m.size))
          ]
        ];
      };
      size = size;
      here = λ i k in_groups at. elim (cases_lt k WORD_LEVELS) [
        | inl low ↦ low_mark ms gs i k low ∙ ap (λ v. bit_at v (node (i % PLACES) k)) (m.here (i / PLACES) (omega (arith, at)) (omega (arith, at))) ∙ bit_at-zero (node (i % PLACES) k)
        | inr high ↦
            high_mark ms gs i k high
            ∙ ap (λ v. bit_at v (node (i / PLACES % PLACES) (k - WORD_LEVELS))) (ap (λ q. slice_index gs q) at ∙ get_or-set_same hs g w 0 lt ∙ e)
            ∙ bit_at-zero (node (i / PLACES % PLACES) (k - WORD_LEVELS))
      ];
      others = λ i k in_groups ne. elim (cases_lt k WORD_LEVELS) [
        | inl low ↦
            low_mark ms gs i k low
            ∙ ap (λ v. bit_at v (node (i % PLACES) k)) (m.others (i / PLACES) (λ lo hi. ne (omega (arith, lo, hi))))
            ∙ sym (low_mark ls hs i k low)
        | inr high ↦
            high_mark ms gs i k high
            ∙ ap (λ v. bit_at v (node (i / PLACES % PLACES) (k - WORD_LEVELS))) (get_or-set_other hs g (i / GROUP_PAGES) w 0 ne)
            ∙ sym (high_mark ls hs i k high)
      ];
    }

-- the blocks of the set without a group are those of the other groups
pub group-length : (s : List (Option ℕ)) (g : ℕ) → length (without_group s g) ≡ length s
group-length s g = length-map-range_with_len (λ i. cond (is_in_group g i) None (get_or s i None)) 0 (length s)

pub group-at : (s : List (Option ℕ)) (g i : ℕ) → i / GROUP_PAGES ≢ g → get_or (without_group s g) i None ≡ get_or s i None
group-at s g i ne = elim (cases_lt i (length s)) [
  | inl lt ↦ get_or-map-range_with_len (λ i. cond (is_in_group g i) None (get_or s i None)) 0 (length s) i i None lt (omega arith) ∙ rw (ne_eqb (i / GROUP_PAGES) g ne) refl
  | inr ge ↦ get_or_past (without_group s g) i None (omega (arith, ge, group-length s g)) ∙ sym (get_or_past s i None ge)
]

pub group-gone : (s : List (Option ℕ)) (g i : ℕ) → i / GROUP_PAGES ≡ g → get_or (without_group s g) i None ≡ None
group-gone s g i e = elim (cases_lt i (length s)) [
  | inl lt ↦ get_or-map-range_with_len (λ i. cond (is_in_group g i) None (get_or s i None)) 0 (length s) i i None lt (omega arith) ∙ rw (eq-eqb (i / GROUP_PAGES) g e) refl
  | inr ge ↦ get_or_past (without_group s g) i None (omega (arith, ge, group-length s g))
]

group-starts : (s : List (Option ℕ)) (g i k : ℕ) → Starts (without_group s g) i k → (i / GROUP_PAGES ≢ g) × Starts s i k
group-starts s g i k st = elim (cases_eq (i / GROUP_PAGES) g) [
  | inl e ↦ let d = group-gone s g i e in absurd cc
  | inr ne ↦ (ne, sym (group-at s g i ne) ∙ st)
]

group_block_set : (m : ℕ) (s : List (Option ℕ)) (g : ℕ) → IsBlockSet m s → IsBlockSet m (without_group s g)
group_block_set m s g x = record {
  block = λ h k st. rw (group-length s g) (x.block h k (group-starts s g h k st).1);
  apart = λ h k f j i y z u v. x.apart h k f j i (group-starts s g h k y).1 (group-starts s g f j z).1 u v;
}

marked_group : (ls hs ms gs : List ℕ) (s : List (Option ℕ)) (g : ℕ) → IsMarkedBy ls hs s → IsGroupCleared ls hs ms gs g → IsMarkedBy ms gs (without_group s g)
marked_group ls hs ms gs s g x r i k y =
    let z : IsInGroups hs i k = rw (← r.size) y in
    elim (cases_eq (i / GROUP_PAGES) g) [
      | inl e ↦ (λ one. absurd (omega (arith, one, r.here i k z e)), λ st. absurd ((group-starts s g i k st).0 e))
      | inr ne ↦ (λ one. group-at s g i ne ∙ (x i k z).0 (sym (r.others i k z ne) ∙ one), λ st. r.others i k z ne ∙ (x i k z).1 (group-starts s g i k st).1)
    ]

changed_group : (m : ℕ) (s : List (Option ℕ)) (g : ℕ) → IsBlockSet m s → IsChangedIn s (without_group s g) g m
changed_group m s g x = record {
  others = λ i ne. group-at s g i ne;
  larger = λ i o more. (λ st. (group-starts s g i o st).1, λ st. absurd (omega (arith, more, (x.block i o st).order)));
}

pub group_tree : (m pages : ℕ) (ls hs rs ms gs ts : List ℕ) (x : ℕ) (s : List (Option ℕ)) (g : ℕ) → IsTreeOf m pages ls hs rs x s → g < length rs → IsGroupCleared ls hs ms gs g → ts ≡ slice_set rs g 0 →
    IsTreeOf m pages ms gs ts x (without_group s g)
group_tree m pages ls hs rs ms gs ts x s g t room r e =
    let none : IsRankIn (without_group s g) g 0 = record { most = λ i k at st. absurd ((group-starts s g i k st).0 at); some = λ k f. absurd (omega arith) } in
    rw e (another m pages ls hs rs ms gs (slice_set rs g 0) x x s (without_group s g) t r.words r.size (length-set rs g 0) (group-length s g) (group_block_set m s g t.set) (marked_group ls hs ms gs s g t.marked r) t.stale
    (ranks_set rs s (without_group s g) g m x 0 t.ranked (changed_group m s g t.set) room (inl none)))
