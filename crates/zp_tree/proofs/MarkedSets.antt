-- The bits of a zone's words are those of a block set, before and after a change.
use Rattle.std.proofs.Common.{ℕ, suc, zero, ◌+◌, ◌-◌, ◌^◌, ◌≡◌, ◌≢◌, ◌≤◌, ◌<◌, ◌↔◌, ◌⊎◌, inl, inr, sym, ◌∙◌, ap, arith, List, length, get_or, Option, Some, None}
use Rattle.std.proofs.lemmas.Bool.{cases_eq, cases_lt}
use Rattle.std.proofs.lemmas.List.{length-set, get_or-set_same, get_or-set_other}
use Rattle.std.proofs.lemmas.Option.{same_Some}
use Rattle.std.proofs.lemmas.Nat.{pow_pos, pow_below}
use Rattle.zp_model.specs.BlockSet.{Starts}
use Rattle.zp_model.specs.Block.{head}
use Rattle.zp_tree.specs.Blocks.{buddy, with_block, without_block, without_buddies, split_set, joined_set}
use Rattle.zp_tree.specs.Marks.{mark, IsInGroups, IsRemarked, IsSplitUp, IsJoinedUp}
use Rattle.zp_tree.proofs.ChangedSets.{halves_other, halves_at}
use Rattle.zp_tree.proofs.JoinedSets.{IsJoining, freed}

abbrev pub IsMarkedBy : List ℕ → List ℕ → List (Option ℕ) → Type 0
IsMarkedBy ls hs s = (i k : ℕ) → IsInGroups hs i k → (mark ls hs i k ≡ 1) ↔ Starts s i k

pub marked_set : (ls hs ms gs : List ℕ) (s : List (Option ℕ)) (p k : ℕ) → IsMarkedBy ls hs s → IsRemarked ls hs ms gs p k 1 → p < length s → ((j : ℕ) → Starts s p j → ⊥) → IsMarkedBy ms gs (with_block s p k)
marked_set ls hs ms gs s p k x r lt none i j y =
    let z : IsInGroups hs i j = rw (← r.size) y in
    let new : get_or (with_block s p k) p None ≡ Some k = get_or-set_same s p (Some k) None lt in
    elim (cases_eq i p) [
      | inl e ↦ elim (cases_eq j k) [
        | inl f ↦ (λ _. rw (e, f) new, λ _. rw (e, f) r.here)
        | inr ne ↦ (
          λ one. absurd (let old = (x i j z).0 (sym (r.others i j z (λ _ f. ne f)) ∙ one) in none j (rw e at old)),
          λ st. absurd (ne (sym (same_Some k j (sym new ∙ rw e at st)))),
        )
      ]
      | inr ne ↦
          let o = r.others i j z (λ e _. ne e) in
          let g = get_or-set_other s p i (Some k) None ne in
          (λ one. g ∙ (x i j z).0 (sym o ∙ one), λ st. o ∙ (x i j z).1 (sym g ∙ st))
    ]

pub marked_clear : (ls hs ms gs : List ℕ) (s : List (Option ℕ)) (p k : ℕ) → IsMarkedBy ls hs s → IsRemarked ls hs ms gs p k 0 → p < length s → Starts s p k → IsMarkedBy ms gs (without_block s p)
marked_clear ls hs ms gs s p k x r lt st i j y =
    let z : IsInGroups hs i j = rw (← r.size) y in
    let new : get_or (without_block s p) p None ≡ None = get_or-set_same s p None None lt in
    let gone : (o : ℕ) → Starts (without_block s p) p o → ⊥ = λ o w. let d : None ≡ Some o = sym new ∙ w in cc in
    elim (cases_eq i p) [
      | inl e ↦ (
        λ one. absurd (elim (cases_eq j k) [
          | inl f ↦ let zero : mark ms gs i j ≡ 0 = rw (e, f) r.here in omega (arith, zero, one)
          | inr ne ↦ let old = (x i j z).0 (sym (r.others i j z (λ _ f. ne f)) ∙ one) in ne (sym (same_Some k j (sym st ∙ rw e at old)))
        ]),
        λ w. absurd (gone j (rw e at w)),
      )
      | inr ne ↦
          let o = r.others i j z (λ e _. ne e) in
          let g = get_or-set_other s p i None None ne in
          (λ one. g ∙ (x i j z).0 (sym o ∙ one), λ w. o ∙ (x i j z).1 (sym g ∙ w))
    ]

-- whether a page is the start of one of some high halves
pub half_or_not : (h t d i : ℕ) → ((j : ℕ) × (t ≤ j) × (j < t + d) × (i ≡ h + 2 ^ j)) ⊎ ((j : ℕ) → t ≤ j → j < t + d → i ≢ h + 2 ^ j)
half_or_not h t zero i = inr (λ j lo hi _. omega arith)
half_or_not h t (suc d) i = elim (cases_eq i (h + 2 ^ (t + d))) [
  | inl e ↦ inl (t + d, omega arith, omega arith, e)
  | inr ne ↦ elim (half_or_not h t d i) [
    | inl w ↦ inl (w.0, w.1, omega (arith, w.2), w.3)
    | inr none ↦ inr (λ j lo hi. elim (cases_eq j (t + d)) [ inl same ↦ λ e. ne (e ∙ ap (λ n. h + 2 ^ n) same) | inr other ↦ none j lo (omega arith) ])
  ]
]

pub marked_split : (ls hs ms gs : List ℕ) (s : List (Option ℕ)) (p f t : ℕ) → IsMarkedBy ls hs s → IsSplitUp ls hs ms gs p f t → p + 2 ^ f ≤ length s → t ≤ f → Starts s p f → ((j o : ℕ) → t ≤ j → j < f → Starts s (p + 2 ^ j) o → ⊥) →
    IsMarkedBy ms gs (split_set s p f t)
marked_split ls hs ms gs s p f t x r room le st free i j y =
    let z : IsInGroups hs i j = rw (← r.size) y in
    let pos = pow_pos f in
    let d = f - t in
    let whole : t + d ≡ f = omega arith in
    let c = without_block s p in
    let n = length-set s p None in
    elim (half_or_not p t d i) [
      | inl w ↦
          let l = w.0 in
          let lf : l < f = omega (arith, w.2) in
          let new : Starts (split_set s p f t) i l = rw w.3 (halves_at c p t d l w.1 w.2 (omega (arith, n, room, pow_below l f lf))) in
          elim (cases_eq j l) [
            | inl same ↦ (λ _. rw same new, λ _. rw (same, w.3) (r.halves l w.1 lf))
            | inr ne ↦ (
              λ one. absurd (
                  let not_it : i ≡ p → j ≡ f → ⊥ = λ e _. omega (arith, e, w.3, pow_pos l) in
                  let not_half : i ≡ p + 2 ^ j → t ≤ j → j < f → ⊥ = λ e lo hi. ne (pow_same j l (omega (arith, e, w.3))) in
                  let old = (x i j z).0 (sym (r.others i j z not_it not_half) ∙ one) in free l j w.1 lf (rw w.3 at old)),
              λ v. absurd (ne (sym (same_Some l j (sym new ∙ v)))),
            )
          ]
      | inr none ↦
          let other = halves_other c p t d i none in
          let not_half : i ≡ p + 2 ^ j → t ≤ j → j < f → ⊥ = λ e lo hi. none j lo (omega (arith, whole)) e in
          elim (cases_eq i p) [
            | inl e ↦
                let new : get_or (split_set s p f t) i None ≡ None = other ∙ rw e (get_or-set_same s p None None (omega (arith, room, pos))) in (
                  λ one. absurd (elim (cases_eq j f) [
                    | inl same ↦ let zero : mark ms gs i j ≡ 0 = rw (e, same) r.here in omega (arith, zero, one)
                    | inr ne ↦ let old = (x i j z).0 (sym (r.others i j z (λ _ g. ne g) not_half) ∙ one) in ne (sym (same_Some f j (sym st ∙ rw e at old)))
                  ]),
                  λ v. absurd (let g : None ≡ Some j = sym new ∙ v in cc),
                )
            | inr ne ↦
                let o = r.others i j z (λ e _. ne e) not_half in
                let g = other ∙ get_or-set_other s p i None None ne in
                (λ one. g ∙ (x i j z).0 (sym o ∙ one), λ v. o ∙ (x i j z).1 (sym g ∙ v))
          ]
    ]
  where
    pow_same : (j l : ℕ) → 2 ^ j ≡ 2 ^ l → j ≡ l
    pow_same j l e = elim (cases_eq j l) [
      | inl same ↦ same
      | inr ne ↦ absurd (elim (cases_lt j l) [ inl lt ↦ omega (arith, e, pow_below j l lt) | inr ge ↦ omega (arith, e, pow_below l j (omega arith)) ])
    ]

pub marked_joined : (m : ℕ) (ls hs ms gs : List ℕ) (s : List (Option ℕ)) (p f t : ℕ) → IsMarkedBy ls hs s → IsJoinedUp ls hs ms gs p f t → IsJoining m s p f t → IsMarkedBy ms gs (joined_set s p f t)
marked_joined m ls hs ms gs s p f t x r w i j y =
    let z : IsInGroups hs i j = rw (← r.size) y in
    let a = freed m s p f t w in
    let h = head p t in
    let c = without_buddies s p f (t - f) in
    let lt : h < length c = omega (arith, a.block.inside, pow_pos t) in
    let here : get_or (joined_set s p f t) h None ≡ Some t = get_or-set_same c h (Some t) None lt in
    let buddy_order : (l : ℕ) → f ≤ l → l < t → i ≡ buddy p l → Starts s i j → j ≡ l = λ l lo hi e st. sym (same_Some l j (sym (w.buddies l lo hi) ∙ rw e at st)) in
    -- a bit that is set and neither of the block nor of a buddy is of a block of the set that was there
    let old : (i ≡ h → j ≡ t → ⊥) → (i ≡ buddy p j → f ≤ j → j < t → ⊥) → mark ms gs i j ≡ 1 → Starts s i j = λ nh nb one. (x i j z).0 (sym (r.others i j z nh nb) ∙ one) in
    elim (cases_eq i h) [
      | inl e ↦ elim (cases_eq j t) [
        | inl same ↦ (λ _. rw (e, same) here, λ _. rw (e, same) r.here)
        | inr ne ↦ (
          λ one. absurd (
              let free : i ≡ buddy p j → f ≤ j → j < t → ⊥ = λ b lo hi. let zero : mark ms gs i j ≡ 0 = ap (λ n. mark ms gs n j) b ∙ r.buddies j lo hi in omega (arith, zero, one) in
              let st = old (λ _ same. ne same) free one in
              elim (a.which i) [
                | inl b ↦ let same = buddy_order b.0 b.1 b.2 b.3 st in free (b.3 ∙ ap (λ n. buddy p n) (sym same)) (omega (arith, same, b.1)) (omega (arith, same, b.2))
                | inr none ↦ let kept : Starts c i j = a.other i none ∙ st in a.none j (rw e at kept)
              ]),
          λ st. absurd (ne (sym (same_Some t j (sym here ∙ rw e at st)))),
        )
      ]
      | inr nh ↦
          let rest : get_or (joined_set s p f t) i None ≡ get_or c i None = get_or-set_other c h i (Some t) None nh in
          elim (a.which i) [
            | inl b ↦ (
              λ one. absurd (
                  let free : i ≡ buddy p j → f ≤ j → j < t → ⊥ = λ b lo hi. let zero : mark ms gs i j ≡ 0 = ap (λ n. mark ms gs n j) b ∙ r.buddies j lo hi in omega (arith, zero, one) in
                  let st = old (λ e _. nh e) free one in
                  let same = buddy_order b.0 b.1 b.2 b.3 st in
                  free (b.3 ∙ ap (λ n. buddy p n) (sym same)) (omega (arith, same, b.1)) (omega (arith, same, b.2))),
              λ st. absurd (let gone : get_or c i None ≡ None = rw b.3 (a.gone b.0 b.1 b.2) in let d : None ≡ Some j = sym gone ∙ sym rest ∙ st in cc),
            )
            | inr none ↦
                let g = rest ∙ a.other i none in
                let o = r.others i j z (λ e _. nh e) (λ e lo hi. none j lo hi e) in
                (λ one. g ∙ (x i j z).0 (sym o ∙ one), λ st. o ∙ (x i j z).1 (sym g ∙ st))
          ]
    ]
