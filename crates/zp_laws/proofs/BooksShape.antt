-- A request keeps the base of the books, and the number of places in each part.
use Rattle.std.proofs.Common.{ℕ, ◌≡◌, ◌<◌, sym, ◌∙◌, true, List, length, Option}
use Rattle.std.proofs.lemmas.List.{length-map}
use Rattle.zp_model.specs.declared.request.Request.{Request}
use Rattle.zp_model.specs.Zone.{Holding, workers_of}
use Rattle.zp_model.specs.Step.{step}
use Rattle.zp_model.specs.Run.{may_ask}
use Rattle.zp_model.specs.Lawful.{IsLawful}
use Rattle.zp_model.specs.Books.{Books, only, own, part, entered}
use Rattle.zp_laws.specs.KeptBooks.{IsSamePlaces}
use Rattle.zp_laws.proofs.Sameness.{step-same}
use Rattle.zp_laws.proofs.Steps.{step_lawful}

pub entered-base : (w : ℕ) (r : Request) (b : Books) → (entered w r b).plain.base ≡ b.plain.base
entered-base w r b = (step-same b.plain w r).base

pub length-own : (u : ℕ) (out : List (Option Holding)) → length (own u out) ≡ length out
length-own u out = length-map out (only u)

pub entered-pages : (w u : ℕ) (r : Request) (b : Books) → IsLawful b.plain → w < workers_of b.plain → may_ask b.plain w r ≡ true →
    length (part u (entered w r b)).blocks ≡ length (part u b).blocks
entered-pages w u r b l lt e =
    length-own u (step b.plain w r).zone.out
    ∙ (step_lawful b.plain w r l lt e).places
    ∙ (step-same b.plain w r).pages
    ∙ sym l.places
    ∙ sym (length-own u b.plain.out)

pub places_kept : (w u : ℕ) (r : Request) (b : Books) → IsLawful b.plain → w < workers_of b.plain → may_ask b.plain w r ≡ true → IsSamePlaces (part u b) (part u (entered w r b))
places_kept w u r b l lt e = record { base = entered-base w r b; pages = entered-pages w u r b l lt e }
