-- Why no crew is made.
use Rattle.std.proofs.Common.{ℕ, ◌≡◌, ◌<◌, ◌+◌, ◌++◌, ◌∷◌, ◌⊎◌, inl, inr, List, [], All, refl, sym, ◌∙◌, ap, subst, arith, length, take, get_or}
use Rattle.std.proofs.lemmas.List.{take_more}
use Rattle.std.proofs.lemmas.List.Elements.{All-push}
use Rattle.zp_model.specs.declared.refused.Refused.{Refused}
use Rattle.zp_model.specs.declared.refused.Refused.TheVariants.{BadName, BadBase, BadPages, BadMark, BadWorkers, Memory}
use Rattle.zp_zone.specs.declared.config.TheConstants.{WIDE}
use Rattle.zp_zone.specs.Making.{Wanted, IsRefusedWithin, IsWideGood, IsWideWhy}
use Rattle.zp_crew.specs.Opening.{CanBeMade, IsWhyNone, PlainConfig, no_config, wanted_of}

-- one config more of which a zone can be made
pub good_more : (n : ℕ) (configs : List PlainConfig) (i : ℕ) (c : PlainConfig) → i < length configs → c ≡ get_or configs i c → All (CanBeMade n) (take i configs) → CanBeMade n c →
    All (CanBeMade n) (take (i + 1) configs)
good_more n configs i c lt is before can =
    subst (λ l. All (CanBeMade n) l) (sym (take_more configs i c lt ∙ ap (λ y. take i configs ++ y ∷ []) (sym is))) (All-push (CanBeMade n) (take i configs) c before can)

-- a zone is refused for want of memory, or for what is wrong
wrong : (w : Wanted) (r : Refused) → IsWideWhy w r → (r ≡ Memory) ⊎ IsRefusedWithin WIDE w r
wrong w Memory h = inl refl
wrong w r h = inr h

-- the config at place i is the first of which no zone can be made
pub why_none : (n : ℕ) (configs : List PlainConfig) (i : ℕ) (c : PlainConfig) (r : Refused) → i < length configs → c ≡ get_or configs i no_config → All (CanBeMade n) (take i configs) →
    IsWideWhy (wanted_of n c) r → IsWhyNone n configs r
why_none n configs i c r lt is before why =
    elim (wrong (wanted_of n c) r why) [
      | inl none ↦ inl none
      | inr bad ↦ inr (record { place = i; there = lt; before = before; why = subst (λ x. IsRefusedWithin WIDE (wanted_of n x) r) is bad })
    ]

-- nothing is wrong where a zone can be made
right : (w : Wanted) (r : Refused) → IsWideGood w → IsRefusedWithin WIDE w r → r ≡ Memory
right w BadName good bad = absurd (bad good.name)
right w BadBase good bad = absurd (bad.1 good.base)
right w BadPages good bad = absurd (bad.2 good.pages)
right w BadMark good bad = absurd (omega (arith, bad.3, good.mark))
right w BadWorkers good bad = absurd (bad.4 good.workers)
right w r good bad = absurd bad

-- where a zone can be made of each config, memory is wanting
pub memory_wants : (n : ℕ) (configs : List PlainConfig) (r : Refused) → All (CanBeMade n) configs → IsWhyNone n configs r → r ≡ Memory
memory_wants n configs r all why =
    elim why [
      | inl none ↦ none
      | inr first ↦ right (wanted_of n (get_or configs first.place no_config)) r (all first.place no_config first.there) first.why
    ]
