-- The texts of a list's items, appended one after another.
use Rattle.std.proofs.Common.{ℕ, ◌+◌, ◌≡◌, ◌<◌, List, ◌++◌, length, take, get_or, ap, ◌∙◌, append_assoc}
use Rattle.std.specs.List.{flat_map}
use Rattle.zp_streams.proofs.Written.{item_more}

-- one item more
pub appended_item : {X : Type 0} (f : X → List ℕ) (xs : List X) (i : ℕ) (x : X) (start g h : List ℕ) → i < length xs → x ≡ get_or xs i x →
    g ≡ start ++ flat_map f (take i xs) → h ≡ g ++ f x → h ≡ start ++ flat_map f (take (i + 1) xs)
appended_item f xs i x start g h lt is before more =
    more
    ∙ ap (λ q. q ++ f x) before
    ∙ append_assoc start (flat_map f (take i xs)) (f x)
    ∙ ap (λ q. start ++ q) (item_more f xs i x lt is)
