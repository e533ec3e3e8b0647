-- A status tree after a block was split towards a page.
use Rattle.std.proofs.Common.{ℕ, ◌+◌, ◌-◌, ◌/◌, ◌≡◌, ◌≢◌, ◌≤◌, ◌<◌, ◌⊎◌, inl, inr, subst, sym, ◌∙◌, ap, arith, List, length, get_or, slice_index, Option, None, Some}
use Rattle.std.proofs.lemmas.Bool.{cases_eq}
use Rattle.std.proofs.lemmas.List.{length-set, get_or-set_same, get_or-set_other}
use Rattle.std.proofs.lemmas.Option.{same_Some}
use Rattle.std.proofs.lemmas.Nat.{pow_pos}
use Rattle.zp_model.specs.Block.{head}
use Rattle.zp_model.specs.BlockSet.{Starts}
use Rattle.zp_tree.specs.declared.constants.TheConstants.{GROUP_ORDER, GROUP_PAGES, WORD_LEVELS}
use Rattle.zp_tree.specs.Blocks.{IsBlockSet, buddy, without_block, split_towards_set}
use Rattle.zp_tree.specs.Marks.{mark, HasLarge, IsInGroups, IsLowered, IsRankBound, IsSplitTowards}
use Rattle.zp_tree.specs.Spelled.{IsTreeOf}
use Rattle.zp_tree.proofs.BlockSets.{same_page}
use Rattle.zp_tree.proofs.BuddyPlaces.{buddy_around, head_around}
use Rattle.zp_tree.proofs.GroupBlocks.{is_high}
use Rattle.zp_tree.proofs.JoinedSets.{buddy_or_not}
use Rattle.zp_tree.proofs.MarkedSets.{IsMarkedBy}
use Rattle.zp_tree.proofs.Ranked.{IsInside, IsChangedIn}
use Rattle.zp_tree.proofs.TowardsSets.{buddies_differ, buddy_inside, beside_at, beside_other, towards_block_set, towards_length}
use Rattle.zp_tree.proofs.TreeSteps.{IsLeft, left, lowered_tree}

-- a block of a set that is split towards page p
pub record IsSplitting (m : ℕ) (s : List (Option ℕ)) (p f t : ℕ) : Type 0 where
  pub set : IsBlockSet m s
  pub block : Starts s (head p f) f
  pub down : t ≤ f

-- the set after that: at each buddy's page stands the buddy, where the block itself may have been and no other; at the block's page none does
-- where no buddy is, and the other pages keep what they had
pub record IsHalvedTowards (s r : List (Option ℕ)) (p f t : ℕ) : Type 0 where
  pub half : (j : ℕ) → t ≤ j → j < f → Starts r (buddy p j) j
  pub was : (i j o : ℕ) → t ≤ j → j < f → i ≡ buddy p j → Starts s i o → (i ≡ head p f) × (o ≡ f)
  pub gone : (i : ℕ) → ((j : ℕ) → t ≤ j → j < f → i ≢ buddy p j) → i ≡ head p f → get_or r i None ≡ None
  pub other : (i : ℕ) → ((j : ℕ) → t ≤ j → j < f → i ≢ buddy p j) → i ≢ head p f → get_or r i None ≡ get_or s i None
  pub which : (i : ℕ) → ((j : ℕ) × (t ≤ j) × (j < f) × (i ≡ buddy p j)) ⊎ ((j : ℕ) → t ≤ j → j < f → i ≢ buddy p j)

pub halved : (m : ℕ) (s : List (Option ℕ)) (p f t : ℕ) → IsSplitting m s p f t → IsHalvedTowards s (split_towards_set s p f t) p f t
halved m s p f t x =
    let h = head p f in
    let d = f - t in
    let down = x.down in
    let e : t + d ≡ f = omega arith in
    let c = without_block s h in
    let n = length-set s h None in
    let b = x.set.block h f x.block in
    let wide : ((i : ℕ) → ((j : ℕ) → t ≤ j → j < f → i ≢ buddy p j) → get_or (split_towards_set s p f t) i None ≡ get_or c i None) = λ i ne. beside_other c p t d i (λ j lo hi. ne j lo (omega (arith, e))) in
    record {
      half = λ j lo hi. beside_at c p t d j lo (omega (arith, e)) (omega (arith, buddy_inside p f j hi, b.inside, n));
      was = λ i j o lo hi at st.
          let w = buddy_inside p f j hi in
          let same : h ≡ i = same_page m s h f i o i x.set x.block st (omega (arith, w, at)) (omega (arith, w, at)) (omega arith) (omega (arith, pow_pos o)) in
          (sym same, sym (same_Some f o (sym x.block ∙ ap (λ g. get_or s g None) same ∙ st)));
      gone = λ i ne at. wide i ne ∙ ap (λ g. get_or c g None) at ∙ get_or-set_same s h None None (omega (arith, b.inside, pow_pos f));
      other = λ i ne apart. wide i ne ∙ get_or-set_other s h i None None apart;
      which = λ i. elim (buddy_or_not p t d i) [ inl w ↦ inl (w.0, w.1, omega (arith, w.2, e), w.3) | inr none ↦ inr (λ j lo hi. none j lo (omega (arith, e))) ];
    }

-- the bits after a block was split
marked_towards : (m : ℕ) (ls hs ms gs : List ℕ) (s : List (Option ℕ)) (p f t : ℕ) → IsMarkedBy ls hs s → IsSplitTowards ls hs ms gs p f t → IsSplitting m s p f t → IsMarkedBy ms gs (split_towards_set s p f t)
marked_towards m ls hs ms gs s p f t x r y i j in_gs =
    let z : IsInGroups hs i j = rw (← r.size) in_gs in
    let a = halved m s p f t y in
    let h = head p f in
    let c = split_towards_set s p f t in
    -- a bit that is set is not the block's
    let not_it : mark ms gs i j ≡ 1 → i ≡ h → j ≡ f → ⊥ = λ one e same. let zero : mark ms gs i j ≡ 0 = rw (e, same) r.here in omega (arith, zero, one) in
    elim (a.which i) [
      | inl w ↦
          let l = w.0 in
          let new : Starts c i l = rw w.3 (a.half l w.1 w.2) in
          elim (cases_eq j l) [
            | inl same ↦ (λ _. rw same new, λ _. rw (same, w.3) (r.buddies l w.1 w.2))
            | inr ne ↦ (
              λ one. absurd (
                  let not_buddy : i ≡ buddy p j → t ≤ j → j < f → ⊥ = λ e _ _. buddies_differ p j l ne (sym e ∙ w.3) in
                  let old = (x i j z).0 (sym (r.others i j z (not_it one) not_buddy) ∙ one) in
                  let was = a.was i l j w.1 w.2 w.3 old in
                  not_it one was.0 was.1),
              λ v. absurd (ne (sym (same_Some l j (sym new ∙ v)))),
            )
          ]
      | inr none ↦
          let not_buddy : i ≡ buddy p j → t ≤ j → j < f → ⊥ = λ e lo hi. none j lo hi e in
          elim (cases_eq i h) [
            | inl e ↦
                let new = a.gone i none e in (
                  λ one. absurd (
                      let old = (x i j z).0 (sym (r.others i j z (not_it one) not_buddy) ∙ one) in
                      not_it one e (sym (same_Some f j (sym y.block ∙ ap (λ g. get_or s g None) (sym e) ∙ old)))),
                  λ v. absurd (let g : None ≡ Some j = sym new ∙ v in cc),
                )
            | inr ne ↦
                let o = r.others i j z (λ e _. ne e) not_buddy in
                let g = a.other i none ne in
                (λ one. g ∙ (x i j z).0 (sym o ∙ one), λ v. o ∙ (x i j z).1 (sym g ∙ v))
          ]
    ]

-- the halves lie in the block's group, and are smaller
changed_towards : (m : ℕ) (s : List (Option ℕ)) (p f t : ℕ) → m ≤ GROUP_ORDER → IsSplitting m s p f t → IsChangedIn s (split_towards_set s p f t) (head p f / GROUP_PAGES) f
changed_towards m s p f t few y =
    let h = head p f in
    let a = halved m s p f t y in
    let b = y.set.block h f y.block in
    let group : h / GROUP_PAGES ≡ p / GROUP_PAGES = head_around p f GROUP_ORDER (omega (arith, b.order)) in
    record {
      others = λ i ne. elim (a.which i) [
        | inl w ↦ absurd (ne (ap (λ n. n / GROUP_PAGES) w.3 ∙ buddy_around p w.0 GROUP_ORDER (omega (arith, w.2, b.order)) ∙ sym group))
        | inr none ↦ a.other i none (λ e. ne (ap (λ n. n / GROUP_PAGES) e))
      ];
      larger = λ i o more. elim (a.which i) [
        | inl w ↦ (
          λ v. absurd (let e = same_Some w.0 o (sym (a.half w.0 w.1 w.2) ∙ rw w.3 at v) in omega (arith, e, w.2, more)),
          λ v. absurd (omega (arith, (a.was i w.0 o w.1 w.2 w.3 v).1, more)),
        )
        | inr none ↦ elim (cases_eq i h) [
          | inl e ↦ (
            λ v. absurd (let g : None ≡ Some o = sym (a.gone i none e) ∙ v in cc),
            λ v. absurd (let g = same_Some f o (sym y.block ∙ rw e at v) in omega (arith, g, more)),
          )
          | inr ne ↦ (λ v. sym (a.other i none ne) ∙ v, λ v. a.other i none ne ∙ v)
        ]
      ];
    }

-- the blocks lie in the groups still
towards_inside : (m pages : ℕ) (ls hs rs gs : List ℕ) (v : ℕ) (s : List (Option ℕ)) (p f t : ℕ) → IsTreeOf m pages ls hs rs v s → IsSplitting m s p f t → length gs ≡ length hs → IsInside gs (split_towards_set s p f t)
towards_inside m pages ls hs rs gs v s p f t x y size i o st =
    let b = (towards_block_set m s p f t y.set y.block y.down).block i o st in
    record { order = omega (arith, b.order, x.orders); aligned = b.aligned; inside = omega (arith, b.inside, towards_length s p f t, x.room, x.pages_of, size) }

-- the page's group is the block's
block_group : (m pages : ℕ) (ls hs rs : List ℕ) (v : ℕ) (s : List (Option ℕ)) (p f t : ℕ) → IsTreeOf m pages ls hs rs v s → IsSplitting m s p f t → head p f / GROUP_PAGES ≡ p / GROUP_PAGES
block_group m pages ls hs rs v s p f t x y = head_around p f GROUP_ORDER (omega (arith, (y.set.block (head p f) f y.block).order, x.orders))

-- which is one of the zone
pub group_towards : (m pages : ℕ) (ls hs rs ms gs : List ℕ) (v : ℕ) (s : List (Option ℕ)) (p f t : ℕ) → IsTreeOf m pages ls hs rs v s → IsSplitting m s p f t → IsSplitTowards ls hs ms gs p f t → p / GROUP_PAGES < length gs
group_towards m pages ls hs rs ms gs v s p f t x y r =
    omega (arith, block_group m pages ls hs rs v s p f t x y, (y.set.block (head p f) f y.block).inside, pow_pos f, x.room, x.pages_of, r.size)

pub towards_left : (m pages : ℕ) (ls hs rs ms gs : List ℕ) (v : ℕ) (s : List (Option ℕ)) (p f t : ℕ) → IsTreeOf m pages ls hs rs v s → IsSplitting m s p f t → IsSplitTowards ls hs ms gs p f t → IsLeft ms gs rs v p
towards_left m pages ls hs rs ms gs v s p f t x y r =
    let h = head p f in
    let l = left m pages ls hs rs ms gs v s (split_towards_set s p f t) h f x y.block (marked_towards m ls hs ms gs s p f t x.marked r y) (towards_inside m pages ls hs rs gs v s p f t x y r.size) (changed_towards m s p f t x.orders y) in
    let group = block_group m pages ls hs rs v s p f t x y in
    let P : ℕ → Type 0 = λ g. IsRankBound ms gs g (slice_index rs g) in
    record { down = subst P group l.down; near = λ ne. l.near (λ e. ne (e ∙ group)) }

pub towards_tree : (m pages : ℕ) (ls hs rs ms gs ts : List ℕ) (v w : ℕ) (s : List (Option ℕ)) (p f t : ℕ) → IsTreeOf m pages ls hs rs v s → IsSplitting m s p f t → IsSplitTowards ls hs ms gs p f t → IsLowered ms gs rs ts v w (p / GROUP_PAGES) f →
    IsTreeOf m pages ms gs ts w (split_towards_set s p f t)
towards_tree m pages ls hs rs ms gs ts v w s p f t x y r l =
    let P : ℕ → Type 0 = λ g. IsLowered ms gs rs ts v w g f in
    lowered_tree m pages ls hs rs ms gs ts v w s (split_towards_set s p f t) (head p f) f x y.block r.words r.size (towards_length s p f t) (towards_block_set m s p f t y.set y.block y.down) (marked_towards m ls hs ms gs s p f t x.marked r y)
    (towards_inside m pages ls hs rs gs v s p f t x y r.size) (changed_towards m s p f t x.orders y) (subst P (sym (block_group m pages ls hs rs v s p f t x y)) l)

-- the half of order t is left in the high word
pub towards_large : (m pages : ℕ) (ls hs rs ms gs : List ℕ) (v : ℕ) (s : List (Option ℕ)) (p f t : ℕ) → IsTreeOf m pages ls hs rs v s → IsSplitting m s p f t → t < f → WORD_LEVELS ≤ t → IsSplitTowards ls hs ms gs p f t → HasLarge gs (p / GROUP_PAGES)
towards_large m pages ls hs rs ms gs v s p f t x y lt high r =
    let half = (halved m s p f t y).half t (omega arith) lt in
    let inside = towards_inside m pages ls hs rs gs v s p f t x y r.size (buddy p t) t half in
    (buddy p t, t, is_high ms gs (buddy p t) t (record { inside = inside; bit = r.buddies t (omega arith) lt }) high, buddy_around p t GROUP_ORDER (omega (arith, (y.set.block (head p f) f y.block).order, x.orders)))
