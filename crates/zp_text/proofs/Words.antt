-- Words one after another.
use Rattle.std.proofs.Common.{ℕ, ◌≡◌, List, [], ◌∷◌, ◌++◌, sym, ap, ◌∙◌, append_assoc}
use Rattle.std.proofs.lemmas.List.{append-nil}
use Rattle.std.proofs.lemmas.List.Concat.{flat_map-append}
use Rattle.zp_trace.specs.Spelling.{joined, line_feed, space}
use Rattle.zp_text.specs.JournalText.{spaced}

-- words that are joined are the first one, and each other one with a space before it
pub joined_spaced : (word : List ℕ) (words : List (List ℕ)) → joined (word ∷ words) ≡ word ++ spaced words
joined_spaced word [] = sym (append-nil word)
joined_spaced word (next ∷ words) = ap (λ q. word ++ space ∷ q) (joined_spaced next words)

pub spaced-append : (xs ys : List (List ℕ)) → spaced (xs ++ ys) ≡ spaced xs ++ spaced ys
spaced-append xs ys = flat_map-append (λ word. space ∷ word) xs ys

-- a line that was appended part by part
pub line_is : (start name number worker : List ℕ) (request reply : List (List ℕ)) (a b c d e f : List ℕ) → a ≡ start ++ name → b ≡ a ++ space ∷ number → c ≡ b ++ space ∷ worker →
    d ≡ c ++ spaced request → e ≡ d ++ spaced reply → f ≡ e ++ line_feed ∷ [] → f ≡ start ++ (joined (name ∷ number ∷ worker ∷ request ++ reply) ++ line_feed ∷ [])
line_is start name number worker request reply a b c d e f first second third fourth fifth sixth =
    let ends : e ≡ a ++ ((space ∷ number) ++ ((space ∷ worker) ++ (spaced request ++ spaced reply))) =
    fifth
    ∙ ap (λ q. q ++ spaced reply) (fourth ∙ ap (λ q. q ++ spaced request) (third ∙ ap (λ q. q ++ space ∷ worker) second))
    ∙ append_assoc ((a ++ space ∷ number) ++ space ∷ worker) (spaced request) (spaced reply)
    ∙ append_assoc (a ++ space ∷ number) (space ∷ worker) (spaced request ++ spaced reply)
    ∙ append_assoc a (space ∷ number) ((space ∷ worker) ++ (spaced request ++ spaced reply)) in
    let words : spaced (number ∷ worker ∷ request ++ reply) ≡ (space ∷ number) ++ ((space ∷ worker) ++ (spaced request ++ spaced reply)) =
    ap (λ q. (space ∷ number) ++ ((space ∷ worker) ++ q)) (spaced-append request reply) in
    let line : e ≡ start ++ joined (name ∷ number ∷ worker ∷ request ++ reply) =
    ends
    ∙ ap (λ q. q ++ ((space ∷ number) ++ ((space ∷ worker) ++ (spaced request ++ spaced reply)))) first
    ∙ append_assoc start name ((space ∷ number) ++ ((space ∷ worker) ++ (spaced request ++ spaced reply)))
    ∙ ap (λ q. start ++ (name ++ q)) (sym words)
    ∙ ap (λ q. start ++ q) (sym (joined_spaced name (number ∷ worker ∷ request ++ reply))) in
    sixth
    ∙ ap (λ q. q ++ line_feed ∷ []) line
    ∙ append_assoc start (joined (name ∷ number ∷ worker ∷ request ++ reply)) (line_feed ∷ [])
