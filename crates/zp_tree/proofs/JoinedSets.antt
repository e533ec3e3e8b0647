-- A block set after a run was joined with its buddies.
use Rattle.std.proofs.Common.{ℕ, suc, zero, ◌+◌, ◌-◌, ◌%◌, ◌^◌, ◌≡◌, ◌≢◌, ◌≤◌, ◌<◌, ◌⊎◌, inl, inr, refl, subst, sym, ◌∙◌, ap, arith, List, length, get_or, Option, None}
use Rattle.std.proofs.lemmas.Bool.{cases_eq, cases_lt}
use Rattle.std.proofs.lemmas.List.{length-set, get_or-set_same, get_or-set_other}
use Rattle.std.proofs.lemmas.Option.{same_Some}
use Rattle.std.proofs.lemmas.Nat.{pow_pos}
use Rattle.zp_model.specs.Block.{IsBlock, head}
use Rattle.zp_model.specs.BlockSet.{Starts}
use Rattle.zp_model.proofs.Heads.{two, head_self}
use Rattle.zp_tree.specs.Blocks.{IsBlockSet, IsApart, HasBuddies, buddy, without_block, without_buddies, joined_set}
use Rattle.zp_tree.proofs.Apart.{clear_apart, clear_still_apart}
use Rattle.zp_tree.proofs.ChangedSets.{none_in, set_block_set, clear_block_set}
use Rattle.zp_tree.proofs.BuddyPlaces.{sides}

pub buddies_length : (s : List (Option ℕ)) (h k d : ℕ) → length (without_buddies s h k d) ≡ length s
buddies_length s h k zero = refl
buddies_length s h k (suc d) = length-set (without_buddies s h k d) (buddy h (k + d)) None ∙ buddies_length s h k d

-- what stands at another page after the buddies went
pub buddies_other : (s : List (Option ℕ)) (h k d i : ℕ) → ((j : ℕ) → k ≤ j → j < k + d → i ≢ buddy h j) → get_or (without_buddies s h k d) i None ≡ get_or s i None
buddies_other s h k zero i ne = refl
buddies_other s h k (suc d) i ne = get_or-set_other (without_buddies s h k d) (buddy h (k + d)) i None None (ne (k + d) (omega arith) (omega arith)) ∙ buddies_other s h k d i (λ j lo hi. ne j lo (omega arith))

-- whether a page is the start of one of the buddies
pub buddy_or_not : (h k d i : ℕ) → ((j : ℕ) × (k ≤ j) × (j < k + d) × (i ≡ buddy h j)) ⊎ ((j : ℕ) → k ≤ j → j < k + d → i ≢ buddy h j)
buddy_or_not h k zero i = inr (λ j lo hi _. omega arith)
buddy_or_not h k (suc d) i = elim (cases_eq i (buddy h (k + d))) [
  | inl e ↦ inl (k + d, omega arith, omega arith, e)
  | inr ne ↦ elim (buddy_or_not h k d i) [
    | inl w ↦ inl (w.0, w.1, omega (arith, w.2), w.3)
    | inr none ↦ inr (λ j lo hi. elim (cases_eq j (k + d)) [ inl same ↦ λ e. ne (e ∙ ap (λ n. buddy h n) same) | inr other ↦ none j lo (omega arith) ])
  ]
]

-- no two of them start at one page
pub next_buddy : (s : List (Option ℕ)) (h k d : ℕ) → HasBuddies s h k (k + suc d) → Starts (without_buddies s h k d) (buddy h (k + d)) (k + d)
next_buddy s h k d has =
    let here = has (k + d) (omega arith) (omega arith) in
    buddies_other s h k d (buddy h (k + d)) (λ j lo hi e. let there = has j lo (omega arith) in let same = same_Some (k + d) j (sym here ∙ rw (← e) at there) in omega (arith, same, hi)) ∙ here

pub fewer_buddies : (s : List (Option ℕ)) (h k d : ℕ) → HasBuddies s h k (k + suc d) → HasBuddies s h k (k + d)
fewer_buddies s h k d has j lo hi = has j lo (omega arith)

-- the set without them is one
pub buddies_block_set : (m : ℕ) (s : List (Option ℕ)) (h k d : ℕ) → IsBlockSet m s → HasBuddies s h k (k + d) → IsBlockSet m (without_buddies s h k d)
buddies_block_set m s h k zero x has = x
buddies_block_set m s h k (suc d) x has =
    clear_block_set m (without_buddies s h k d) (buddy h (k + d)) (k + d) (buddies_block_set m s h k d x (fewer_buddies s h k d has)) (next_buddy s h k d has)

-- and in it the run around them all is in no block
pub buddies_apart : (m : ℕ) (s : List (Option ℕ)) (h k d : ℕ) → IsBlockSet m s → h % 2 ^ k ≡ 0 → IsApart s h k → HasBuddies s h k (k + d) → IsApart (without_buddies s h k d) (head h (k + d)) (k + d)
buddies_apart m s h k zero x al a has =
    let e : k ≡ k + 0 = omega arith in
    let P : ℕ → Type 0 = λ n. IsApart s (head h n) n in
    let Q : ℕ → Type 0 = λ g. IsApart s g k in
    subst P e (subst Q (sym (head_self h k al)) a)
buddies_apart m s h k (suc d) x al a has = λ i lo hi.
    let c = without_buddies s h k d in
    let o = k + d in
    let y = buddies_block_set m s h k d x (fewer_buddies s h k d has) in
    let st = next_buddy s h k d has in
    let up : k + suc d ≡ o + 1 = omega arith in
    let first : head h (o + 1) ≤ i = rw up at lo in
    let last : i < head h (o + 1) + 2 ^ (o + 1) = rw up at hi in
    let width = two o in
    let own = clear_still_apart m c (buddy h o) o (head h o) o (y.block (buddy h o) o st) (buddies_apart m s h k d x al a (fewer_buddies s h k d has)) in
    let other = clear_apart m c (buddy h o) o y st in
    elim (cases_lt i (head h (o + 1) + 2 ^ o)) [
      | inl low ↦ elim (sides h o) [
        | inl left ↦ own i (omega (arith, left)) (omega (arith, left))
        | inr right ↦ other i (omega (arith, right)) (omega (arith, right))
      ]
      | inr high ↦ elim (sides h o) [
        | inl left ↦ other i (omega (arith, left)) (omega (arith, left, width))
        | inr right ↦ own i (omega (arith, right)) (omega (arith, right, width))
      ]
    ]

-- a run that is joined with its buddies to a block of the zone
pub record IsJoining (m : ℕ) (s : List (Option ℕ)) (h k o : ℕ) : Type 0 where
  pub set : IsBlockSet m s
  pub block : IsBlock m (length s) (head h o) o
  pub up : k ≤ o
  pub aligned : h % 2 ^ k ≡ 0
  pub apart : IsApart s h k
  pub buddies : HasBuddies s h k o

-- the set without the buddies, on the way to the joined one
pub record IsFreed (m : ℕ) (s c : List (Option ℕ)) (h k o : ℕ) : Type 0 where
  pub size : length c ≡ length s
  pub set : IsBlockSet m c
  pub block : IsBlock m (length c) (head h o) o
  pub apart : IsApart c (head h o) o
  pub none : (j : ℕ) → Starts c (head h o) j → ⊥
  pub gone : (j : ℕ) → k ≤ j → j < o → get_or c (buddy h j) None ≡ None
  pub other : (i : ℕ) → ((j : ℕ) → k ≤ j → j < o → i ≢ buddy h j) → get_or c i None ≡ get_or s i None
  pub which : (i : ℕ) → ((j : ℕ) × (k ≤ j) × (j < o) × (i ≡ buddy h j)) ⊎ ((j : ℕ) → k ≤ j → j < o → i ≢ buddy h j)

-- where a buddy stood, none does
pub buddies_gone : (s : List (Option ℕ)) (h k d j : ℕ) → HasBuddies s h k (k + d) → k ≤ j → j < k + d → buddy h j < length s → get_or (without_buddies s h k d) (buddy h j) None ≡ None
buddies_gone s h k zero j has lo hi room = absurd (omega arith)
buddies_gone s h k (suc d) j has lo hi room =
    let c = without_buddies s h k d in
    let b = buddy h (k + d) in
    elim (cases_eq j (k + d)) [
      | inl same ↦
          let here : get_or (without_block c b) b None ≡ None = get_or-set_same c b None None (let e : buddy h j ≡ b = ap (λ n. buddy h n) same in omega (arith, room, e, buddies_length s h k d)) in
          ap (λ n. get_or (without_block c b) (buddy h n) None) same ∙ here
      | inr ne ↦
          let apart : buddy h j ≢ b = λ e. let y = has j lo (omega arith) in let z = has (k + d) (omega arith) (omega arith) in let same = same_Some (k + d) j (sym z ∙ rw e at y) in ne (sym same) in
          get_or-set_other c b (buddy h j) None None apart ∙ buddies_gone s h k d j (fewer_buddies s h k d has) lo (omega arith) room
    ]

pub freed : (m : ℕ) (s : List (Option ℕ)) (h k o : ℕ) → IsJoining m s h k o → IsFreed m s (without_buddies s h k (o - k)) h k o
freed m s h k o x =
    let d = o - k in
    let up = x.up in
    let e : k + d ≡ o = omega arith in
    let has : HasBuddies s h k (k + d) = rw e x.buddies in
    let c = without_buddies s h k d in
    let n = buddies_length s h k d in
    let set = buddies_block_set m s h k d x.set has in
    let apart : IsApart c (head h o) o = let a = buddies_apart m s h k d x.set x.aligned x.apart has in rw e at a in
    let pos = pow_pos o in
    record {
      size = n;
      set = set;
      block = rw n x.block;
      apart = apart;
      none = λ j st. none_in m c (head h o) o (head h o) j (head h o) set apart st (omega arith) (omega arith) (omega arith) (omega (arith, pow_pos j));
      gone = λ j lo hi. buddies_gone s h k d j has lo (omega arith) (let b = x.set.block (buddy h j) j (x.buddies j lo hi) in omega (arith, b.inside, pow_pos j));
      other = λ i ne. buddies_other s h k d i (λ j lo hi. ne j lo (omega arith));
      which = λ i. elim (buddy_or_not h k d i) [ inl w ↦ inl (w.0, w.1, omega (arith, w.2, e), w.3) | inr none ↦ inr (λ j lo hi. none j lo (omega (arith, e))) ];
    }

pub joined_block_set : (m : ℕ) (s : List (Option ℕ)) (h k o : ℕ) → IsJoining m s h k o → IsBlockSet m (joined_set s h k o)
joined_block_set m s h k o x = let f = freed m s h k o x in set_block_set m (without_buddies s h k (o - k)) (head h o) o f.set f.block f.apart
