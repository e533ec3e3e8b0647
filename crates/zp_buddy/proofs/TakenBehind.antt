-- A block that comes back with a free buddy behind it: where the buddy leaves first, the double of the block comes back in its place.
use Rattle.std.proofs.Common.{ℕ, ◌+◌, ◌-◌, ◌/◌, ◌%◌, ◌^◌, ◌≡◌, ◌≤◌, ◌<◌, inl, inr, sym, ◌∙◌, ap, arith, Bool, List, length}
use Rattle.std.proofs.lemmas.Bool.{and_parts, and_from, both_ways, cases_lt}
use Rattle.std.proofs.lemmas.Nat.{pow_pos}
use Rattle.zp_model.specs.PageblockType.{pageblock_types}
use Rattle.zp_model.specs.Block.{head, with_run, without}
use Rattle.zp_model.specs.Rows.{list_at, stands_in}
use Rattle.zp_model.specs.Area.{Area, belongs, settle}
use Rattle.zp_model.specs.Take.{give, leave}
use Rattle.zp_model.specs.Lawful.{IsListedArea}
use Rattle.zp_model.proofs.Covers.{has_below, length-with, length-without, same_pages, with-decides, without-decides}
use Rattle.zp_model.proofs.Heads.{two, head_aligned, head_head, head_le, head_of, head_room, lt_head}
use Rattle.zp_model.proofs.Maximal.{Max, maximal-apart}
use Rattle.zp_model.proofs.Normal.{Filled}
use Rattle.zp_model.proofs.Pages.{In, is_max-to, is_max-from}
use Rattle.zp_model.proofs.RunGiven.{settle_through}
use Rattle.zp_model.proofs.RunParts.{smaller_max}
use Rattle.zp_buddy.proofs.GiveRuns.{settled_through}

-- the maximal block of order k behind the run of order k at h leaves the pages f, and the run of order k + 1 at h comes
module _ (m : ℕ) (f : List Bool) (h k : ℕ) (lt : k < m) (double : h % 2 ^ (k + 1) ≡ 0) (top : Max m f (h + 2 ^ k) k) where
  abbrev pub behind : ℕ
  behind = h + 2 ^ k

  abbrev pub fewer : List Bool
  fewer = without f behind k

  abbrev pub more : List Bool
  more = with_run f h k

  full : Filled (In f) behind k
  full = (is_max-to m f behind k top).inside

  inside : behind + 2 ^ k ≤ length f
  inside = omega (arith, has_below f (behind + 2 ^ k - 1) (full (behind + 2 ^ k - 1) (omega (arith, pow_pos k)) (omega (arith, pow_pos k))), pow_pos k)

  -- what is in the sets
  fewer-to : (i : ℕ) → In fewer i → In f i × (behind ≤ i → i < behind + 2 ^ k → ⊥)
  fewer-to i e = (without-decides f behind k i (omega (arith, has_below fewer i e, length-without f behind k))).0 e

  fewer-from : (i : ℕ) → In f i → (behind ≤ i → i < behind + 2 ^ k → ⊥) → In fewer i
  fewer-from i e out = (without-decides f behind k i (has_below f i e)).1 (e, out)

  more-old : (i : ℕ) → In f i → In more i
  more-old i e = (with-decides f h k i (has_below f i e)).1 (inl e)

  more-new : (i : ℕ) → h ≤ i → i < h + 2 ^ k → In more i
  more-new i lo hi = (with-decides f h k i (omega (arith, inside))).1 (inr (lo, hi))

  both_full : Filled (In more) h (k + 1)
  both_full i lo hi = elim (cases_lt i behind) [ inl low ↦ more-new i lo low | inr high ↦ more-old i (full i high (omega (arith, two k))) ]

  -- the double comes to what is left as the run does to what was there
  pub double_comes : with_run fewer h (k + 1) ≡ more
  double_comes =
      let len : length (with_run fewer h (k + 1)) ≡ length f = length-with fewer h (k + 1) ∙ length-without f behind k in
      same_pages (with_run fewer h (k + 1)) more (len ∙ sym (length-with f h k))
      (λ i e. elim ((with-decides fewer h (k + 1) i (omega (arith, has_below (with_run fewer h (k + 1)) i e, length-with fewer h (k + 1)))).0 e) [
        | inl old ↦ more-old i (fewer-to i old).0
        | inr new ↦ both_full i new.0 new.1
      ])
      (λ i e.
      let below : i < length fewer = omega (arith, has_below more i e, length-with f h k, length-without f behind k) in
      (with-decides fewer h (k + 1) i below).1 (elim (cases_lt i h) [
        | inl low ↦ elim ((with-decides f h k i (omega (arith, below, length-without f behind k))).0 e) [
          | inl old ↦ inl (fewer-from i old (λ p q. omega arith))
          | inr new ↦ absurd (omega (arith, new.0))
        ]
        | inr from ↦ elim (cases_lt i (h + 2 ^ (k + 1))) [
          | inl near ↦ inr (from, near)
          | inr far ↦ elim ((with-decides f h k i (omega (arith, below, length-without f behind k))).0 e) [
            | inl old ↦ inl (fewer-from i old (λ p q. omega (arith, two k)))
            | inr new ↦ absurd (omega (arith, new.1, two k, pow_pos k))
          ]
        ]
      ]))

  -- a block that was maximal, and is so at last, is so in between
  stays : (g j : ℕ) → Max m f g j → Max m more g j → Max m fewer g j
  stays g j p q =
      let z = is_max-to m f g j p in
      let around : head behind (k + 1) ≡ h = head_of h behind (k + 1) double (omega arith) (omega (arith, two k, pow_pos k)) in
      smaller_max m fewer f g j (λ i e. (fewer-to i e).0) (λ i lo hi. fewer-from i (z.inside i lo hi) (λ a b.
      let same = maximal-apart m (In f) g j behind k i z (is_max-to m f behind k top) lo hi a b in
      let last : Max m more behind k = rw (same.0, same.1) at q in
      (is_max-to m more behind k last).alone lt (rw around both_full))) p

  -- one that is maximal in between was so
  none_new : (g j : ℕ) → Max m fewer g j → Max m f g j
  none_new g j p =
      let z = is_max-to m fewer g j p in
      let d : ℕ = head g (j + 1) in
      let around : head behind (k + 1) ≡ h = head_of h behind (k + 1) double (omega arith) (omega (arith, two k, pow_pos k)) in
      let al : behind % 2 ^ k ≡ 0 = (is_max-to m f behind k top).aligned in
      is_max-from m f g j (record {
        order = z.order;
        aligned = z.aligned;
        inside = λ i lo hi. (fewer-to i (z.inside i lo hi)).0;
        alone = λ below filled. z.alone below (λ i lo hi. fewer-from i (filled i lo hi) (λ a b.
            let here : head i (j + 1) ≡ d = head_of d i (j + 1) (head_aligned g (j + 1)) lo hi in
            let there : head i k ≡ behind = head_of behind i k al a b in
            elim (cases_lt k (j + 1)) [
              | inl small ↦
                  let up : head h (j + 1) ≡ d =
                  ap (λ n. head n (j + 1)) (sym around ∙ ap (λ n. head n (k + 1)) (sym there) ∙ head_head i k (k + 1) (omega arith)) ∙ head_head i (k + 1) (j + 1) (omega arith) ∙ here in
                  (is_max-to m f behind k top).alone lt (λ n s t. filled n (omega (arith, head_le h (j + 1), up, around)) (omega (arith, head_room h (k + 1) (j + 1) (omega arith) double, up, around)))
              | inr large ↦
                  let up : head d k ≡ behind = ap (λ n. head n k) (sym here) ∙ head_head i (j + 1) k large ∙ there in
                  (fewer-to g (z.inside g (omega arith) (omega (arith, pow_pos j)))).1
                  (omega (arith, head_le d k, up, head_le g (j + 1)))
                  (omega (arith, head_room d (j + 1) k large (head_aligned g (j + 1)), up, lt_head g (j + 1)))
            ]));
      })

-- so it is with the lists, too
pub give_double : (a : Area) (h k : ℕ) → IsListedArea a → k < a.largest → h % 2 ^ (k + 1) ≡ 0 → Max a.largest a.free (h + 2 ^ k) k → give (leave a (h + 2 ^ k) k) h (k + 1) ≡ give a h k
unfolding give leave settle belongs
give_double a h k l lt double top =
    let m : ℕ = a.largest in
    let f : List Bool = a.free in
    let u : List Bool = without f (h + 2 ^ k) k in
    let v : List Bool = with_run f h k in
    ap (λ w. settle (record (settle (record a { free = u })) { free = w })) (double_comes m f h k lt double top)
    ∙ settle_through a u v (λ r below. settled_through m u v a.kinds r (list_at a.lists r) (length-without f (h + 2 ^ k) k ∙ sym (length-with f h k))
    (λ g on e.
    let p = and_parts _ _ (sym (l.held r g below) ∙ on) in
    let q = and_parts _ _ e in
    and_from _ _ (stays m f h k lt double top g (r / pageblock_types) p.0 q.0) q.1)
    (λ g e off q.
    let p = and_parts _ _ e in
    both_ways (stands_in g (list_at a.lists r)) off (l.held r g below ∙ and_from _ _ (none_new m f h k lt double top g (r / pageblock_types) p.0) p.1)))

-- the heads of what is left are heads of what was there
pub left_heads : (a : Area) (h k : ℕ) → k < a.largest → h % 2 ^ (k + 1) ≡ 0 → Max a.largest a.free (h + 2 ^ k) k → (g j : ℕ) → Max a.largest (leave a (h + 2 ^ k) k).free g j → Max a.largest a.free g j
unfolding leave settle
left_heads a h k lt double top = none_new a.largest a.free h k lt double top
