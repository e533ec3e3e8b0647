-- The texts of the tables, which are written part by part.
use Rattle.std.proofs.Common.{ℕ, ◌≡◌, ◌<◌, ◌≤◌, ◌+◌, List, [], ◌∷◌, ◌++◌, length, take, take_all, get_or, arith, sym, ap, ◌∙◌, subst, append_assoc, Option, Result, OnOk, codes}
use Rattle.std.specs.List.{concat, flat_map, range_with_len}
use Rattle.std.specs.Io.KnownBytes.{Appends}
use Rattle.std.specs.Fmt.{decimal}
use Rattle.std.proofs.KnownBytes.{Appends-trans}
use Rattle.std.proofs.lemmas.List.FromFn.{length-range_with_len, get_or-range_with_len}
use Rattle.std.proofs.lemmas.List.{take_more, append-nil, flat_map_more}
use Rattle.zp_model.specs.declared.constants.TheConstants.{NAME_PLACES}
use Rattle.zp_model.specs.declared.pageblock_type.PageblockType.{PageblockType}
use Rattle.zp_model.specs.Info.{number_field, right_aligned}
use Rattle.zp_drawing.specs.declared.type_tables.TypeCounts.{TypeCounts}
use Rattle.zp_drawing.specs.TypeTables.{free_head, free_line, free_lines, free_of, free_title, order_line, pageblocks_head, pageblocks_line, pageblocks_of, pageblocks_title, pages_line, table_types, type_field, type_name, type_tables}

concat-push : (parts : List (List ℕ)) (x : List ℕ) → concat (parts ++ x ∷ []) ≡ concat parts ++ x
concat-push [] x = append-nil x
concat-push (p ∷ parts) x = ap (λ (q : List ℕ). p ++ q) (concat-push parts x) ∙ sym (append_assoc p (concat parts) x)

-- these parts were written, one after another
pub record Wrote (old new : Option (List ℕ)) (parts : List (List ℕ)) : Type 0 where
  pub text : Appends old new (concat parts)

pub told_as : (a b : Option (List ℕ)) (x y : List ℕ) → x ≡ y → Appends a b x → Appends a b y
told_as a b x y same h = let P : List ℕ → Type 0 = λ bytes. Appends a b bytes in subst P same h

pub told_ok : {U E : Type 0} (r : Result U E) (a b : Option (List ℕ)) (x y : List ℕ) → x ≡ y → OnOk r (Appends a b x) → OnOk r (Appends a b y)
told_ok r a b x y same h = let P : List ℕ → Type 0 = λ bytes. OnOk r (Appends a b bytes) in subst P same h

pub first : (a b : Option (List ℕ)) (x : List ℕ) → Appends a b x → Wrote a b (x ∷ [])
first a b x h = record { text = told_as a b _ _ (sym (append-nil x)) h }

pub then : (a b c : Option (List ℕ)) (parts : List (List ℕ)) (x : List ℕ) → Wrote a b parts → Appends b c x → Wrote a c (parts ++ x ∷ [])
then a b c parts x so_far h = record { text = told_as a c _ _ (sym (concat-push parts x)) (Appends-trans a b c _ _ so_far.text h) }

-- one item more, after the texts of those before it
pub item_more : {X : Type 0} (f : X → List ℕ) (xs : List X) (i : ℕ) (d : X) (a b c : Option (List ℕ)) → i < length xs →
    Appends a b (flat_map f (take i xs)) → Appends b c (f (get_or xs i d))
    → Appends a c (flat_map f (take (i + 1) xs))
item_more f xs i d a b c lt so_far h =
    told_as a c _ _ (flat_map_more f [] (take i xs) (get_or xs i d) ∙ ap (λ ys. flat_map f ys) (sym (take_more xs i d lt))) (Appends-trans a b c _ _ so_far h)

-- all items
pub all_items : {X : Type 0} (f : X → List ℕ) (xs : List X) (i : ℕ) (a b : Option (List ℕ)) → length xs ≤ i →
    Appends a b (flat_map f (take i xs)) → Appends a b (flat_map f xs)
all_items f xs i a b far h = told_as a b _ _ (ap (λ ys. flat_map f ys) (take_all i xs far)) h

-- the number of one order more
pub order_more : (n i m : ℕ) (a b c : Option (List ℕ)) → i < n → m ≡ i → Appends a b (flat_map number_field (take i (range_with_len 0 n))) →
    Appends b c (number_field m)
    → Appends a c (flat_map number_field (take (i + 1) (range_with_len 0 n)))
order_more n i m a b c lt same so_far h =
    let here : m ≡ get_or (range_with_len 0 n) i 0 = same ∙ sym (get_or-range_with_len 0 n i 0 lt ∙ omega arith) in
    item_more number_field (range_with_len 0 n) i 0 a b c (omega (arith, length-range_with_len 0 n)) so_far (told_as b c _ _ (ap number_field here) h)

-- the numbers of all orders
pub all_orders : (n i : ℕ) (a b : Option (List ℕ)) → n ≤ i → Appends a b (flat_map number_field (take i (range_with_len 0 n))) →
    Appends a b (flat_map number_field (range_with_len 0 n))
all_orders n i a b far h = all_items number_field (range_with_len 0 n) i a b (omega (arith, far, length-range_with_len 0 n)) h

-- the line of a zone and a type in the first table
pub free_line_written : (largest : ℕ) (z : TypeCounts) (t : PageblockType) (a b c d e f g : Option (List ℕ)) →
    Appends a b (codes "Node    0, zone ") → Appends b c (right_aligned NAME_PLACES z.name) → Appends c d (codes ", type ") →
    Appends d e (type_field (type_name t)) → Appends e f (flat_map number_field (take (largest + 1) (free_of z t))) →
    Appends f g (codes "\n") → Appends a g (free_line largest z t)
unfolding free_line
free_line_written largest z t a b c d e f g e1 e2 e3 e4 e5 e6 =
    (then _ _ _ _ _ (then _ _ _ _ _ (then _ _ _ _ _ (then _ _ _ _ _ (then _ _ _ _ _ (first _ _ _ e1) e2) e3) e4) e5) e6).text

-- the lines of a zone in the first table
pub all_lines : (largest : ℕ) (z : TypeCounts) (i : ℕ) (a b : Option (List ℕ)) → 4 ≤ i →
    Appends a b (flat_map (free_line largest z) (take i table_types)) → Appends a b (free_lines largest z)
unfolding free_lines
all_lines largest z i a b far h = all_items (free_line largest z) table_types i a b far h

-- the line of a zone in the second table
pub pageblocks_line_written : (z : TypeCounts) (a b c d e f : Option (List ℕ)) →
    Appends a b (codes "Node 0, zone ") → Appends b c (right_aligned NAME_PLACES z.name) → Appends c d (codes " ") →
    Appends d e (flat_map (λ t. type_field (decimal (pageblocks_of z t))) table_types) → Appends e f (codes "\n") →
    Appends a f (pageblocks_line z)
unfolding pageblocks_line
pageblocks_line_written z a b c d e f e1 e2 e3 e4 e5 =
    (then _ _ _ _ _ (then _ _ _ _ _ (then _ _ _ _ _ (then _ _ _ _ _ (first _ _ _ e1) e2) e3) e4) e5).text

-- the heads
pub free_head_written : (largest : ℕ) (a b c d : Option (List ℕ)) →
    Appends a b free_title → Appends b c (flat_map number_field (range_with_len 0 (largest + 1))) → Appends c d (codes "\n") →
    Appends a d (free_head largest)
unfolding free_head
free_head_written largest a b c d e1 e2 e3 = (then _ _ _ _ _ (then _ _ _ _ _ (first _ _ _ e1) e2) e3).text

pub pageblocks_head_written : (a b c d : Option (List ℕ)) →
    Appends a b pageblocks_title → Appends b c (flat_map (λ t. type_field (type_name t)) table_types) → Appends c d (codes "\n") →
    Appends a d pageblocks_head
unfolding pageblocks_head
pageblocks_head_written a b c d e1 e2 e3 = (then _ _ _ _ _ (then _ _ _ _ _ (first _ _ _ e1) e2) e3).text

-- both tables
pub tables_written : (largest : ℕ) (zones : List TypeCounts) (a b c d e f g : Option (List ℕ)) →
    Appends a b (order_line largest) → Appends b c (pages_line largest) → Appends c d (free_head largest) →
    Appends d e (flat_map (free_lines largest) zones) → Appends e f pageblocks_head → Appends f g (flat_map pageblocks_line zones) →
    Appends a g (type_tables largest zones)
tables_written largest zones a b c d e f g e1 e2 e3 e4 e5 e6 =
    (then _ _ _ _ _ (then _ _ _ _ _ (then _ _ _ _ _ (then _ _ _ _ _ (then _ _ _ _ _ (first _ _ _ e1) e2) e3) e4) e5) e6).text
