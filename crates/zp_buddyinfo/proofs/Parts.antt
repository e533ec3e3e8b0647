-- Texts that are appended part by part.
use Rattle.std.proofs.Common.{ℕ, ◌≡◌, ◌<◌, ◌+◌, List, [], ◌∷◌, ◌++◌, length, take, get_or, sym, ap, ◌∙◌, arith, append_assoc}
use Rattle.std.specs.Borrow.{Bor}
use Rattle.std.specs.List.{concat, flat_map}
use Rattle.std.proofs.lemmas.List.{take_more, length-map, get_or-map, append-nil, flat_map_more}
use Rattle.zp_buddyinfo.specs.Rows.{spelled}

concat-push : (parts : List (List ℕ)) (x : List ℕ) → concat (parts ++ x ∷ []) ≡ concat parts ++ x
concat-push [] x = append-nil x
concat-push (p ∷ parts) x = ap (λ (q : List ℕ). p ++ q) (concat-push parts x) ∙ sym (append_assoc p (concat parts) x)

-- a text has become another one by appending these parts
pub record Appends (a b : List ℕ) (parts : List (List ℕ)) : Type 0 where
  pub text : b ≡ a ++ concat parts

-- the first part
pub first : (a b x : List ℕ) → b ≡ a ++ x → Appends a b (x ∷ [])
first a b x is = record { text = is ∙ ap (λ (q : List ℕ). a ++ q) (sym (append-nil x)) }

more : (a b c x : List ℕ) (parts : List (List ℕ)) → b ≡ a ++ concat parts → c ≡ b ++ x → c ≡ a ++ concat (parts ++ x ∷ [])
more a b c x parts so_far is =
    is ∙ ap (λ (q : List ℕ). q ++ x) so_far ∙ append_assoc a (concat parts) x ∙ ap (λ (q : List ℕ). a ++ q) (sym (concat-push parts x))

-- after the parts so far, one part more
pub then : (a b c x : List ℕ) (parts : List (List ℕ)) → Appends a b parts → c ≡ b ++ x → Appends a c (parts ++ x ∷ [])
then a b c x parts so_far is = record { text = more a b c x parts so_far.text is }

-- one part more of those that lie somewhere
pub part_more : (a b c : List ℕ) (parts : List (Bor (List ℕ))) (d : Bor (List ℕ)) (i : ℕ) → i < length parts → b ≡ a ++ concat (take i (spelled parts)) → c ≡ b ++ (get_or parts i d).now →
    c ≡ a ++ concat (take (i + 1) (spelled parts))
part_more a b c parts d i lt so_far is =
    more a b c (get_or parts i d).now (take i (spelled parts)) so_far is
    ∙ ap (λ (ps : List (List ℕ)). a ++ concat ps)
    (ap (λ (p : List ℕ). take i (spelled parts) ++ p ∷ []) (sym (get_or-map (λ (w : Bor (List ℕ)). w.now) parts i d [] lt))
    ∙ sym (take_more (spelled parts) i [] (omega (arith, length-map parts (λ (w : Bor (List ℕ)). w.now)))))

-- one item more, after the texts of those before it
pub item_more : {X : Type 0} (f : X → List ℕ) (xs : List X) (i : ℕ) (d : X) (a b c : List ℕ) → i < length xs → b ≡ a ++ flat_map f (take i xs) → c ≡ b ++ f (get_or xs i d) → c ≡ a ++ flat_map f (take (i + 1) xs)
item_more f xs i d a b c lt so_far is =
    is ∙ ap (λ (q : List ℕ). q ++ f (get_or xs i d)) so_far ∙ flat_map_more f a (take i xs) (get_or xs i d) ∙ ap (λ ys. a ++ flat_map f ys) (sym (take_more xs i d lt))
