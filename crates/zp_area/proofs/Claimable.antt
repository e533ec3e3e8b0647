-- The largest order by which a pageblock of another type may be claimed, from the fronts of two orders' lists and from what is noted.
use Rattle.std.proofs.Common.{ℕ, ◌+◌, ◌-◌, ◌*◌, ◌/◌, ◌^◌, ◌≡◌, ◌≢◌, ◌≤◌, ◌<◌, ◌⊎◌, inl, inr, refl, sym, ◌∙◌, ap, arith, leb, ltb, ◌&&◌, Bool, true, false, List, [], ◌∷◌, take, get_or, get_or-take, length-take-le, Option, Some, None}
use Rattle.std.specs.List.{slice_index_or}
use Rattle.std.specs.Option.{is_some}
use Rattle.std.proofs.Math.Pow.{pow_mono}
use Rattle.std.proofs.lemmas.Bool.{cases_lt, cases_Bool, and_parts, le-leb, lt-ltb, false≢true}
use Rattle.std.proofs.lemmas.List.{get_or_past}
use Rattle.zp_model.specs.declared.migrate_type.MigrateType.{MigrateType}
use Rattle.zp_model.specs.declared.migrate_type.MigrateType.TheVariants.{Unmovable, Reclaimable, Movable}
use Rattle.zp_model.specs.declared.pageblock_type.PageblockType.{PageblockType}
use Rattle.zp_model.specs.declared.pageblock_type.PageblockType.TheVariants as of
use Rattle.zp_model.specs.PageblockType.{is_isolate, migrate_type, pageblock_type}
use Rattle.zp_model.specs.Area.{is_isolated, kind_at, list_number, lists_count, pageblock_pages, size_in}
use Rattle.zp_model.specs.BlockSet.{Starts, cover, largest_in}
use Rattle.zp_model.specs.MigrateType.{foreign}
use Rattle.zp_model.specs.Rows.{IsOn, front, list_at, stands_in}
use Rattle.zp_model.proofs.Settles.{stands_first}
use Rattle.zp_model.proofs.TypeNumbers.{list_number_below}
use Rattle.zp_laws.proofs.Choosing.{asked-not_isolate}
use Rattle.zp_claims.specs.declared.claim.Claim.{Claim}
use Rattle.zp_claims.specs.Noted.{IsBeside, IsLargestBeside, noted_at}
use Rattle.zp_area.specs.Blocks.{Blocks, block_set, free_list_of}
use Rattle.zp_area.specs.Available.{choosable}
use Rattle.zp_area.proofs.AvailableBlocks.{available-from, available-to, available_set}
use Rattle.zp_area.proofs.Indexing.{size_open}
use Rattle.zp_model.specs.Choose.{claim_pages}
use Rattle.zp_area.specs.Claims.{IsInClaimable, IsLargestClaimable, IsOtherType, claim_of, is_half_free, scattered}
use Rattle.zp_area.specs.OneSet.{IsKept, IsOneSet}
use Rattle.zp_area.proofs.LargestInside.{pageblock_held, pageblock_most}
use Rattle.zp_area.proofs.Listing.{listed_starts}
use Rattle.zp_area.proofs.Removing.{kept_removed}
use Rattle.zp_area.proofs.Splitting.{block_on}

-- a block of order o lies in a pageblock of another type than t
abbrev pub HasBeside : ℕ → Blocks → MigrateType → ℕ → Type 0
HasBeside m a t o = (h : ℕ) × Starts (block_set a) h o × IsOtherType t (kind_at m a.kinds h)

-- the fronts of the lists of an order tell it
module _ (m : ℕ) (a : Blocks) (x : IsOneSet m a) where
  -- the list of an order and a type, which there is up to order m
  pub list_within : (o : ℕ) (t : PageblockType) → o ≤ m → free_list_of m a o t ≡ list_at a.rows.lists (list_number o t)
  list_within o t le = get_or-take (lists_count m) a.rows.lists (list_number o t) [] (list_number_below m o t le)

  pub list_past : (o : ℕ) (t : PageblockType) → m < o → free_list_of m a o t ≡ []
  list_past o t lt =
      get_or_past (take (lists_count m) a.rows.lists) (list_number o t) [] (omega (arith, length-take-le (lists_count m) a.rows.lists x.table))

  front_held : (o : ℕ) (t : PageblockType) → is_some (front (free_list_of m a o t)) ≡ true → (h : ℕ) × Starts (block_set a) h o × (kind_at m a.kinds h ≡ t)
  front_held o t e = elim (cases_lt m o) [
    | inl past ↦ absurd (false≢true (ap (λ xs. is_some (front xs)) (sym (list_past o t past)) ∙ e))
    | inr within ↦ go (free_list_of m a o t) refl e within
  ]
    where
      go : (xs : List ℕ) → free_list_of m a o t ≡ xs → is_some (front xs) ≡ true → o ≤ m → (h : ℕ) × Starts (block_set a) h o × (kind_at m a.kinds h ≡ t)
      go [] e on le = absurd (false≢true on)
      go (h ∷ xs) e on le =
          let here : IsOn a.rows.lists (list_number o t) h = rw (sym (list_within o t le) ∙ e) (stands_first h xs) in
          let w = listed_starts m a h o t x le here in
          (h, w.0, w.1)

  front_from : (o h : ℕ) (t : PageblockType) → Starts (block_set a) h o → kind_at m a.kinds h ≡ t → is_some (front (free_list_of m a o t)) ≡ true
  front_from o h t st e =
      let le : o ≤ m = (x.blocks.block h o st).order in
      let on : IsOn a.rows.lists (list_number o t) h = rw (← e) (block_on m a h o x st) in
      ap (λ xs. is_some (front xs)) (list_within o t le) ∙ go (list_at a.rows.lists (list_number o t)) on
    where
      go : (xs : List ℕ) → stands_in h xs ≡ true → is_some (front xs) ≡ true
      go [] on = absurd (false≢true on)
      go (g ∷ xs) on = refl

  fronts_held : (o : ℕ) (t f : MigrateType) → f ≢ t → is_some (front (free_list_of m a o (pageblock_type f))) ≡ true → HasBeside m a t o
  fronts_held o t f ne e = let w = front_held o (pageblock_type f) e in (w.0, w.1, (f, w.2, ne))

-- a type is the first or the second that is foreign to another one
foreign_one : (t : MigrateType) → get_or (foreign t) 0 Unmovable ≢ t
foreign_one Unmovable e = cc
foreign_one Reclaimable e = cc
foreign_one Movable e = cc

foreign_other : (t : MigrateType) → get_or (foreign t) 1 Unmovable ≢ t
foreign_other Unmovable e = cc
foreign_other Reclaimable e = cc
foreign_other Movable e = cc

foreign_cases : (t s : MigrateType) → s ≢ t → (s ≡ get_or (foreign t) 0 Unmovable) ⊎ (s ≡ get_or (foreign t) 1 Unmovable)
foreign_cases Unmovable Unmovable ne = absurd (ne refl)
foreign_cases Unmovable Reclaimable ne = inl refl
foreign_cases Unmovable Movable ne = inr refl
foreign_cases Reclaimable Unmovable ne = inl refl
foreign_cases Reclaimable Reclaimable ne = absurd (ne refl)
foreign_cases Reclaimable Movable ne = inr refl
foreign_cases Movable Unmovable ne = inr refl
foreign_cases Movable Reclaimable ne = inl refl
foreign_cases Movable Movable ne = absurd (ne refl)

-- the front of the list of an order and of the type at a place of some types
abbrev pub fronts_of : ℕ → Blocks → ℕ → List MigrateType → ℕ → Option ℕ
fronts_of m a o ts n = front (free_list_of m a o (pageblock_type (get_or ts n Unmovable)))

-- so the fronts of the two lists of an order that are of other types tell whether a block of the order lies beside a type
module _ (m : ℕ) (a : Blocks) (x : IsOneSet m a) (o : ℕ) (t : MigrateType) where
  pub beside_one : is_some (fronts_of m a o (foreign t) 0) ≡ true → HasBeside m a t o
  beside_one e = fronts_held m a x o t (get_or (foreign t) 0 Unmovable) (foreign_one t) e

  pub beside_other : is_some (fronts_of m a o (foreign t) 1) ≡ true → HasBeside m a t o
  beside_other e = fronts_held m a x o t (get_or (foreign t) 1 Unmovable) (foreign_other t) e

  pub beside_cases : HasBeside m a t o → (is_some (fronts_of m a o (foreign t) 0) ≡ true) ⊎ (is_some (fronts_of m a o (foreign t) 1) ≡ true)
  beside_cases w =
      let other = w.2 in
      elim (foreign_cases t other.0 other.2) [
        | inl e ↦ inl (front_from m a x o w.0 (pageblock_type (get_or (foreign t) 0 Unmovable)) w.1 (other.1 ∙ ap pageblock_type e))
        | inr e ↦ inr (front_from m a x o w.0 (pageblock_type (get_or (foreign t) 1 Unmovable)) w.1 (other.1 ∙ ap pageblock_type e))
      ]

-- a pageblock of another migrate type is not isolated
other_open : (t : MigrateType) (s : PageblockType) → IsOtherType t s → is_isolate s ≡ false
other_open t s w = ap is_isolate w.1 ∙ asked-not_isolate w.0

-- its migrate type, and its type from that
migrate_type-of : (f : MigrateType) → migrate_type (pageblock_type f) ≡ Some f
migrate_type-of Unmovable = refl
migrate_type-of Reclaimable = refl
migrate_type-of Movable = refl

type-from : (s : PageblockType) (f : MigrateType) → migrate_type s ≡ Some f → s ≡ pageblock_type f
type-from of.Unmovable f e = grind arith
type-from of.Reclaimable f e = grind arith
type-from of.Movable f e = grind arith
type-from of.Isolate f e = absurd cc

-- what is noted is not nothing where half of the pages are free and the largest block has less
scattered-to : (m : ℕ) (enough : Bool) (t : Option MigrateType) (o : Option ℕ) (c : Claim) → scattered m enough t o ≡ Some c → (enough ≡ true) × (o ≡ Some c.order) × (t ≡ Some c.kind)
scattered-to m enough None o c e = absurd cc
scattered-to m enough (Some t) None c e = absurd cc
scattered-to m enough (Some t) (Some o) c e = elim (cases_Bool (enough && ltb (o + 1) m)) [
  | inl is ↦ let f : Some (record { kind = t; order = o }) ≡ Some c = sym (rw is refl) ∙ e in ((and_parts _ _ is).0, cc, cc)
  | inr off ↦ let f : None ≡ Some c = sym (rw off refl) ∙ e in absurd cc
]

scattered-from : (m : ℕ) (enough : Bool) (t : Option MigrateType) (f : MigrateType) (o : Option ℕ) (k : ℕ) → enough ≡ true → t ≡ Some f → o ≡ Some k → k + 1 < m → scattered m enough t o ≡ Some (record { kind = f; order = k })
scattered-from m enough t f o k e et eo lt = rw (et, eo, e, lt-ltb (k + 1) m lt) refl

module _ (m : ℕ) (a : Blocks) (free_in : List ℕ) (x : IsKept m a free_in) (t : MigrateType) where
  -- a block of half of a pageblock or more makes that half free
  half_free : (h k : ℕ) → Starts (block_set a) h k → m ≤ k + 1 → is_half_free m a h ≡ true
  half_free h k st le =
      let fits : 2 ^ (m - 1) ≤ 2 ^ k = pow_mono (omega arith) in
      le-leb _ _ (omega (arith, (kept_removed m a h k x.one st free_in x).most, x.each.each (h / pageblock_pages m)))

  order_le : (h j : ℕ) → IsInClaimable m a t h j → j ≤ m
  order_le h j y = (x.one.blocks.block h j y.starts).order

  claimable_beside : (o : ℕ) → m ≤ o + 1 → HasBeside m a t o → (h : ℕ) × IsInClaimable m a t h o
  claimable_beside o le w = (w.0, record { starts = w.1; other = w.2; enough = half_free w.0 o w.1 le })

  -- n is the order of a whole pageblock
  pub whole_claimable : (n : ℕ) → n ≡ m → HasBeside m a t n → IsLargestClaimable m a t (Some n)
  whole_claimable n e w = (claimable_beside n (omega arith) w, λ h j y. omega (arith, order_le h j y))

  below_whole : (n : ℕ) → n ≡ m → (HasBeside m a t n → ⊥) → (h j : ℕ) → IsInClaimable m a t h j → j < m
  below_whole n e none h j y = elim (cases_lt j m) [
    | inl lt ↦ lt
    | inr ge ↦ let same : j ≡ n = omega (arith, order_le h j y) in absurd (none (h, y.starts ∙ ap (λ n. Some n) same, y.other))
  ]

  pub half_claimable : (n o : ℕ) → n ≡ m → o + 1 ≡ m → (HasBeside m a t n → ⊥) → HasBeside m a t o → IsLargestClaimable m a t (Some o)
  half_claimable n o e half none w = (claimable_beside o (omega arith) w, λ h j y. omega (arith, below_whole n e none h j y))

  module _ (n o : ℕ) (whole : n ≡ m) (half : o + 1 ≡ m) (whole_none : HasBeside m a t n → ⊥) (half_none : HasBeside m a t o → ⊥) (claims : List (Option Claim)) (each : (b : ℕ) → noted_at claims b ≡ claim_of m (choosable m a) a.kinds b) where
    -- a pageblock that is noted may be claimed
    noted-claimable : (b k : ℕ) → IsBeside claims t b k → (h : ℕ) × IsInClaimable m a t h k
    noted-claimable b k y =
        let w = scattered-to m _ _ _ (record { kind = y.kind; order = k }) (sym (each b) ∙ y.noted) in
        let block = pageblock_held m (choosable m a) b (Some k) (sym w.1) in
        let old = available-to m a.kinds (block_set a) block.0 k block.1 in
        let typed : kind_at m a.kinds block.0 ≡ pageblock_type y.kind = ap (λ q. slice_index_or a.kinds q of.Movable) block.2 ∙ type-from _ y.kind w.2 in
        let shown : is_isolate (slice_index_or a.kinds b of.Movable) ≡ false = ap (λ q. is_isolate (slice_index_or a.kinds q of.Movable)) (sym block.2) ∙ old.1 in (
          block.0,
          record { starts = old.0; other = (y.kind, typed, y.other); enough = rw (block.2, ← size_open m a b x.one shown) w.0 },
        )

    -- and one that may be claimed is noted
    claimable-noted : (h j : ℕ) → IsInClaimable m a t h j → (k : ℕ) × IsBeside claims t (h / pageblock_pages m) k × (j ≤ k)
    claimable-noted h j y =
        let b : ℕ = h / pageblock_pages m in
        let z : List (Option ℕ) = choosable m a in
        let shown : is_isolated m a.kinds h ≡ false = other_open t (kind_at m a.kinds h) y.other in
        let most = pageblock_most m z b (largest_in z (b * pageblock_pages m) m) (available_set m a.kinds (block_set a) x.one.blocks) refl h j (available-from m a.kinds (block_set a) h j y.starts shown) refl in
        let held = pageblock_held m z b (Some most.0) (sym most.1) in
        let old = available-to m a.kinds (block_set a) held.0 most.0 held.1 in
        let same_type : kind_at m a.kinds held.0 ≡ kind_at m a.kinds h = ap (λ q. slice_index_or a.kinds q of.Movable) held.2 in
        let other : IsOtherType t (kind_at m a.kinds held.0) = (y.other.0, same_type ∙ y.other.1, y.other.2) in
        let less : most.0 < o = elim (cases_lt most.0 o) [
          | inl lt ↦ lt
          | inr ge ↦
              let top : most.0 ≤ m = (x.one.blocks.block held.0 most.0 old.0).order in
              elim (cases_lt o most.0) [
                | inl above ↦ let same : most.0 ≡ n = omega arith in absurd (whole_none (held.0, old.0 ∙ ap (λ n. Some n) same, other))
                | inr within ↦ let same : most.0 ≡ o = omega arith in absurd (half_none (held.0, old.0 ∙ ap (λ n. Some n) same, other))
              ]
        ] in
        let enough : leb (claim_pages m) (size_in m (cover z) (h / pageblock_pages m)) ≡ true = rw (size_open m a b x.one shown) y.enough in
        let typed : migrate_type (kind_at m a.kinds h) ≡ Some y.other.0 = ap migrate_type y.other.1 ∙ migrate_type-of y.other.0 in
        (most.0, record { kind = y.other.0; noted = each b ∙ scattered-from m _ _ y.other.0 _ most.0 enough typed most.1 (omega arith); other = y.other.2 }, most.2)

    pub noted_claimable : (r : Option ℕ) → IsLargestBeside claims t r → IsLargestClaimable m a t r
    noted_claimable None none = λ h j y. let w = claimable-noted h j y in none (h / pageblock_pages m) w.0 w.1
    noted_claimable (Some k) y = (
      noted-claimable y.0.0 k y.0.1,
      λ h j c. let w = claimable-noted h j c in omega (arith, w.2, y.1 (h / pageblock_pages m) w.0 w.1),
    )
