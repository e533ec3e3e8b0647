-- An aligned run that is taken at whatever place out of the free block in which it lies: that block leaves whole, and the halves beside the run come back, the largest first.
use Rattle.std.proofs.Common.{ℕ, suc, zero, ◌+◌, ◌-◌, ◌%◌, ◌^◌, ◌≡◌, ◌≢◌, ◌≤◌, ◌<◌, ◌⊎◌, inl, inr, refl, sym, ◌∙◌, ap, arith, true, List, length, get_or-set_same, get_or-set_other}
use Rattle.std.proofs.lemmas.Nat.{pow_pos}
use Rattle.std.proofs.lemmas.Bool.{cases_eq, false≢true}
use Rattle.std.proofs.lemmas.List.{set-set}
use Rattle.zp_model.specs.declared.state.State.{State}
use Rattle.zp_model.specs.declared.state.State.TheVariants.{Tail, Free}
use Rattle.zp_model.specs.Block.{head, is_max, IsBuddy}
use Rattle.zp_model.specs.BlockSet.{Starts, cover}
use Rattle.zp_model.specs.Area.{Area}
use Rattle.zp_model.specs.Frames.{Frames, IsClear, restated}
use Rattle.zp_model.specs.Rows.{state_at}
use Rattle.zp_model.specs.RunLaws.{give_halves, half_beside}
use Rattle.zp_model.specs.Take.{give, leave}
use Rattle.zp_model.proofs.Halving.{beside_buddy, left_by_halving}
use Rattle.zp_model.proofs.Heads.{two, head_aligned, head_head, head_le, head_room}
use Rattle.zp_model.proofs.MaximalBlocks.{max-unique}
use Rattle.zp_area.specs.Blocks.{Blocks, block_set, added, noted, removed}
use Rattle.zp_area.specs.Chains.{IsJoinable}
use Rattle.zp_area.specs.OneSet.{IsOneSet}
use Rattle.zp_area.specs.Towards.{halves_beside, split_towards}
use Rattle.zp_area.proofs.Adding.{IsComing}
use Rattle.zp_area.proofs.Growing.{buddy_unique}
use Rattle.zp_area.proofs.NotedBlocks.{starts-from, starts-to}
use Rattle.zp_area.proofs.Towards.{buddy_coming, other_coming, towards_begins}
use Rattle.zp_buddy.specs.Choices.{area_in, frames_in}
use Rattle.zp_buddy.specs.Sound.{IsSound}
use Rattle.zp_buddy.proofs.Framed.{clear_is}
use Rattle.zp_buddy.proofs.JoinBlocks.{IsGiven, back_noted, given_joined, joining_none}
use Rattle.zp_buddy.proofs.Runs.{sound_listed}
use Rattle.zp_buddy.proofs.Settled.{IsRestated, restated_all, restated_same, start_in, starts_block}
use Rattle.zp_buddy.proofs.SplitBlocks.{IsLeft}
use Rattle.zp_buddy.proofs.TakenWhole.{left_whole}

-- the half beside comes back: nothing joins it, as no page of the other half is free
module _ (m : ℕ) (b : Blocks) (h j : ℕ) (x : IsSound m b.rows.states b.kinds b.rows.lists) (y : IsComing m b (head h (j + 1)) (j + 1)) where
  buddies : IsBuddy (head h j) j (half_beside h j) (head h (j + 1))
  buddies = beside_buddy h j

  alone : (e f : ℕ) → IsJoinable m (noted b (half_beside h j) Tail) (half_beside h j) j e f → ⊥
  alone e f q =
      let w : IsBuddy (head h j) j (half_beside h j) (head h (j + 1)) = buddies in
      let other : IsBuddy (half_beside h j) j (head h j) (head h (j + 1)) = record { double = w.double; halves = elim w.halves [ inl p ↦ inr (p.0, p.1) | inr p ↦ inl (p.0, p.1) ] } in
      let same : e ≡ head h j = buddy_unique (half_beside h j) j e f (head h j) (head h (j + 1)) q.buddy other in
      let ne : e ≢ half_beside h j = λ s. omega (arith, pow_pos j) in
      let was : state_at b.rows.states e ≡ Free j = sym (get_or-set_other b.rows.states (half_beside h j) e Tail Tail ne) ∙ q.free in
      false≢true (sym (y.clear e (omega arith) (omega (arith, two j, pow_pos j))).0 ∙ start_in m b x e j (starts-from b.rows.states e j was))

  half_given : IsGiven m (half_beside h j) j b (added m b (half_beside h j) j)
  half_given =
      let c : ℕ = half_beside h j in
      let z : IsComing m b c j = buddy_coming (head h j) j c (head h (j + 1)) buddies y in
      let clear : IsClear (frames_in m b) c j = (clear_is m b c j).1 (z.block, z.clear) in
      let same : added m (noted b c Tail) c j ≡ added m b c j =
      ap (λ (s : List State). let v : Blocks = record (added m b c j) { rows = record (added m b c j).rows { states = s } } in v) (set-set b.rows.states c Tail (Free j)) in
      given_joined zero m c j c j b (noted b c Tail) (added m b c j) x clear (joining_none m c j (noted b c Tail) (back_noted m c j b x clear)) (sym same, alone)

-- n is a with these free pages and lists, and nothing else is noted of a page outside the block of order o around page h
record IsHalved (m : ℕ) (a : Blocks) (h o : ℕ) (r : Area) (n : Blocks) : Type 0 where
  sound : IsSound m n.rows.states n.kinds n.rows.lists
  pages : length n.rows.states ≡ length a.rows.states
  kinds : n.kinds ≡ a.kinds
  area : area_in m n ≡ r
  sides : (frames_in m n).sides ≡ (frames_in m a).sides
  restates : (g : ℕ) → IsRestated (state_at a.rows.states g) (state_at n.rows.states g)
  outside : (g : ℕ) → (g < head h o) ⊎ (head h o + 2 ^ o ≤ g) → state_at n.rows.states g ≡ state_at a.rows.states g

-- a half beside it lies in the block
beside_inside : (h j o : ℕ) → j < o → (head h o ≤ half_beside h j) × (half_beside h j < head h o + 2 ^ o)
beside_inside h j o lt =
    let d : ℕ = head h (j + 1) in
    let up : head d o ≡ head h o = head_head h (j + 1) o (omega arith) in
    let room : d + 2 ^ (j + 1) ≤ head d o + 2 ^ o = head_room d (j + 1) o (omega arith) (head_aligned h (j + 1)) in
    elim (beside_buddy h j).halves [
      | inl w ↦ (omega (arith, w.0, w.1, up, head_le d o), omega (arith, w.0, w.1, up, room, two j, pow_pos j))
      | inr w ↦ (omega (arith, w.0, w.1, up, head_le d o), omega (arith, w.0, w.1, up, room, two j, pow_pos j))
    ]

halved_more : (m : ℕ) (a b : Blocks) (r : Area) (h j o : ℕ) → j < o → IsHalved m a h o r b → IsComing m b (head h (j + 1)) (j + 1) →
    IsHalved m a h o (give r (half_beside h j) j) (added m b (half_beside h j) j)
halved_more m a b r h j o lt x y =
    let c : ℕ = half_beside h j in
    let g : IsGiven m c j b (added m b c j) = half_given m b h j x.sound y in
    let z : IsComing m b c j = buddy_coming (head h j) j c (head h (j + 1)) (beside_buddy h j) y in
    record {
      sound = g.sound;
      pages = g.pages ∙ x.pages;
      kinds = g.kinds ∙ x.kinds;
      area = ap (λ (f : Frames). f.area) g.after ∙ ap (λ (q : Area). give q c j) x.area;
      sides = ap (λ (f : Frames). f.sides) g.after ∙ x.sides;
      restates = λ i. elim (cases_eq i c) [
        | inl same ↦ rw (same, get_or-set_same b.rows.states c (Free j) Tail (omega (arith, z.block.inside, pow_pos j))) refl
        | inr ne ↦ rw (get_or-set_other b.rows.states c i (Free j) Tail ne) (x.restates i)
      ];
      outside = λ i out.
          let within = beside_inside h j o lt in
          get_or-set_other b.rows.states c i (Free j) Tail (λ same. elim out [ inl low ↦ omega (arith, same, within.0) | inr high ↦ omega (arith, same, within.1) ]) ∙ x.outside i out;
    }

halved_all : (d m : ℕ) (a b : Blocks) (r : Area) (h k o : ℕ) → k + d ≤ o → IsHalved m a h o r b → IsComing m b (head h (k + d)) (k + d) →
    IsHalved m a h o (give_halves r h k d) (halves_beside m b h k d)
halved_all zero m a b r h k o le x y = x
halved_all (suc d) m a b r h k o le x y =
    let up : k + suc d ≡ k + d + 1 = omega arith in
    let z : IsComing m b (head h (k + d + 1)) (k + d + 1) = rw up at y in
    halved_all d m a (added m b (half_beside h (k + d)) (k + d)) (give r (half_beside h (k + d)) (k + d)) h k o (omega arith) (halved_more m a b r h (k + d) o (omega arith) x z)
    (other_coming (head h (k + d)) (k + d) (half_beside h (k + d)) (head h (k + d + 1)) (beside_buddy h (k + d)) z)

-- the aligned run of order k at page h has left a, which is n then, out of the block of order o around it: nothing else is noted of a page outside that
pub record IsTakenTowards (m : ℕ) (a : Blocks) (h k o : ℕ) (n : Blocks) : Type 0 where
  pub left : IsLeft m h k a n
  pub restates : (i : ℕ) → IsRestated (state_at a.rows.states i) (state_at n.rows.states i)
  pub outside : (i : ℕ) → (i < head h o) ⊎ (head h o + 2 ^ o ≤ i) → state_at n.rows.states i ≡ state_at a.rows.states i

pub taken_towards : (m : ℕ) (a : Blocks) (h k o : ℕ) → IsOneSet m a → IsSound m a.rows.states a.kinds a.rows.lists → Starts (block_set a) (head h o) o → h % 2 ^ k ≡ 0 → k ≤ o →
    IsTakenTowards m a h k o (split_towards m a h o k)
taken_towards m a h k o one x st al le =
    let g : ℕ = head h o in
    let b : Blocks = removed m a g o in
    let n : Blocks = split_towards m a h o k in
    let r : Area = leave (area_in m a) g o in
    let first : IsLeft m g o a b = left_whole m a g o x st in
    let below : g < length a.rows.states = omega (arith, (starts_block m a g o x st).inside, pow_pos o) in
    let begun : IsHalved m a h o r b = record {
      sound = first.sound;
      pages = first.pages;
      kinds = first.kinds;
      area = ap (λ (f : Frames). f.area) first.after;
      sides = ap (λ (f : Frames). f.sides) first.after;
      restates = λ i. elim (cases_eq i g) [
        | inl same ↦ rw (same, get_or-set_same a.rows.states g Tail Tail below, starts-to a.rows.states g o st) refl
        | inr ne ↦ rw (get_or-set_other a.rows.states g i Tail Tail ne) (restated_same _)
      ];
      outside = λ i out. get_or-set_other a.rows.states g i Tail Tail (λ same. elim out [ inl low ↦ omega (arith, same) | inr high ↦ omega (arith, same, pow_pos o) ]);
    } in
    let e : k + (o - k) ≡ o = omega arith in
    let coming : IsComing m b (head h (k + (o - k))) (k + (o - k)) = rw e (towards_begins m a h o k one st le).coming in
    let all : IsHalved m a h o (give_halves r h k (o - k)) n = halved_all (o - k) m a b r h k o (omega arith) begun coming in
    let top : is_max m (cover (block_set a)) g o ≡ true = (max-unique m (Starts (block_set a)) (cover (block_set a)) x.normal g o).0 st in
    let area : area_in m n ≡ leave (area_in m a) h k = all.area ∙ left_by_halving (area_in m a) h k o (sound_listed m a x) top al le in
    let states : n.rows.states ≡ restated (leave (area_in m a) h k).largest (leave (area_in m a) h k).free a.rows.states =
    restated_all m a.rows.states n.rows.states all.sound.normal all.pages all.restates ∙ ap (λ (q : Area). restated q.largest q.free a.rows.states) area in
    let sides : (frames_in m n).sides ≡ (frames_in m a).sides = all.sides in
    record {
      left = record {
        sound = all.sound;
        pages = all.pages;
        kinds = all.kinds;
        after = λ i. record { area = area i; states = states i; sides = sides i };
      };
      restates = all.restates;
      outside = all.outside;
    }
