use Rattle.std.proofs.Common.{rules, ℕ, ◌≡◌, ◌<◌, ◌+◌, ◌++◌, List, [], ◌∷◌, length, take, arith, ap, sym, ◌∙◌, append_assoc, get_or}
use Rattle.std.specs.List.{flat_map}
use Rattle.std.proofs.lemmas.Grind.{flat_map-append}
use Rattle.std.proofs.lemmas.List.{take_all, take_more, append-nil}
use Rattle.zp_model.specs.Info.{number_field}
use Rattle.zp_info.proofs.info.push_counts.Goals as goal

one_field : (n : ℕ) → flat_map number_field (n ∷ []) ≡ number_field n
one_field n = append-nil (number_field n)

-- one more number of the line
field_more : (start now next counts : List ℕ) (i : ℕ) → i < length counts → now ≡ start ++ flat_map number_field (take i counts) →
    next ≡ now ++ number_field (get_or counts i 0) → next ≡ start ++ flat_map number_field (take (i + 1) counts)
field_more start now next counts i lt e f =
    f
    ∙ ap (λ q. q ++ number_field (get_or counts i 0)) e
    ∙ append_assoc start (flat_map number_field (take i counts)) (number_field (get_or counts i 0))
    ∙ ap (λ q. start ++ q)
    (sym (ap (λ q. flat_map number_field q) (take_more counts i 0 lt) ∙ flat_map-append number_field (take i counts) (get_or counts i 0 ∷ []) ∙ ap (λ q. flat_map number_field (take i counts) ++ q) (one_field (get_or counts i 0))))

pub numbers-preserved : goal.numbers-preserved
numbers-preserved g c =
    let i = c.numbers.invariant in
    let eleven : length c.args.counts.now.by_order ≡ 11 = search rules in
    record {
      bytes = field_more _ _ _ _ _ (omega arith) i.bytes c.push_field.ensures.bytes;
      len = omega (arith, i.len, c.push_field.ensures.len);
    }

-- a line that was appended part by part
parts : (start head name numbers a b c d e : List ℕ) → a ≡ start ++ head → b ≡ a ++ name → c ≡ b ++ 32 ∷ [] → d ≡ c ++ numbers → e ≡ d ++ 10 ∷ [] →
    e ≡ start ++ (head ++ (name ++ (32 ∷ (numbers ++ 10 ∷ []))))
parts start head name numbers a b c d e first second third fourth fifth =
    fifth
    ∙ ap (λ q. q ++ 10 ∷ []) (fourth ∙ ap (λ q. q ++ numbers) (third ∙ ap (λ q. q ++ 32 ∷ []) (second ∙ ap (λ q. q ++ name) first)))
    ∙ simp append_assoc

pub returns-clause-bytes : goal.returns-clause-bytes
returns-clause-bytes g c =
    let numbers : c.numbers.text ≡ c.push-2.new.self ++ flat_map number_field (take (c.args.largest + 1) c.args.counts.now.by_order) =
    c.numbers.invariant.bytes
    ∙ ap (λ (xs : List ℕ). c.push-2.new.self ++ flat_map number_field xs) (take_all _ _ (omega (arith, c.numbers-test.false)) ∙ ap (λ n. take (n + 1) c.args.counts.now.by_order) (c.index.ensures.same ∙ c.order.ensures)) in
    parts _ _ _ _ _ _ _ _ _ c.push.ensures.bytes c.push_name.ensures.bytes c.push-2.ensures.bytes numbers c.push-3.ensures.bytes
