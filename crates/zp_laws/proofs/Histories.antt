-- A zone's history goes on with the entry of each request, from the empty one of its opening.
use Rattle.std.proofs.Common.{ℕ, ◌≡◌, refl, ◌∙◌, ap, true, List, [], ◌∷◌, ◌++◌, length}
use Rattle.std.proofs.lemmas.List.{length-replicate}
use Rattle.zp_model.specs.Entries.{Entry}
use Rattle.zp_model.specs.declared.request.Request.{Request}
use Rattle.zp_model.specs.Zone.{PlainZone, zone_opening, pages_of, workers_of}
use Rattle.zp_model.specs.Step.{step}
use Rattle.zp_model.specs.Run.{IsDefined, IsLegalEntry, IsLegal, IsHistory, run, opening_of}
use Rattle.zp_model.specs.Books.{entry_of}
use Rattle.zp_laws.specs.FreePages.{IsSameZone}
use Rattle.zp_laws.proofs.Opening.{free-opening, largest-opening}
use Rattle.zp_laws.proofs.Sameness.{step-same}

-- a list of entries that is legal stays so with a legal entry at its end
pub legal_more : (z : PlainZone) (es : List Entry) (e : Entry) → IsLegal z es → IsLegalEntry (run z es) e → IsLegal z (es ++ e ∷ [])
legal_more z [] e l d = (d, tt)
legal_more z (x ∷ es) e l d = (l.0, legal_more (step z x.worker x.request).zone es e l.1 d)

pub run_more : (z : PlainZone) (es : List Entry) (e : Entry) → run z (es ++ e ∷ []) ≡ (step (run z es) e.worker e.request).zone
run_more z [] e = refl
run_more z (x ∷ es) e = run_more (step z x.worker x.request).zone es e

pub opening-same : (x y : PlainZone) → IsSameZone x y → opening_of y ≡ opening_of x
opening-same x y s = λ i. zone_opening (s.largest i) (s.base i) (s.pages i) (s.min i) (s.workers i)

pub opening-step : (z : PlainZone) (w : ℕ) (r : Request) → opening_of (step z w r).zone ≡ opening_of z
opening-step z w r = opening-same z (step z w r).zone (step-same z w r)

-- an opening is its own opening
pub opening-opening : (m base pages min workers : ℕ) → opening_of (zone_opening m base pages min workers) ≡ zone_opening m base pages min workers
opening-opening m base pages min workers =
    let z : PlainZone = zone_opening m base pages min workers in
    let l : z.area.largest ≡ m = largest-opening m pages in
    let n : pages_of z ≡ pages = ap length (free-opening m pages) ∙ length-replicate pages true in
    let k : workers_of z ≡ workers = length-replicate workers [] in
    λ i. zone_opening (l i) base (n i) min (k i)

pub opening_history : (m base pages min workers : ℕ) → IsHistory (zone_opening m base pages min workers) []
opening_history m base pages min workers = record { legal = tt; run = opening-opening m base pages min workers }

pub history_more : (z : PlainZone) (es : List Entry) (w : ℕ) (r : Request) → IsHistory z es → IsDefined z w r →
    IsHistory (step z w r).zone (es ++ entry_of z w r ∷ [])
history_more z es w r h d =
    let e : Entry = entry_of z w r in
    record {
      legal = rw (opening-step z w r) (legal_more (opening_of z) es e h.legal (rw h.run (d, refl)));
      run = rw (opening-step z w r) (run_more (opening_of z) es e ∙ ap (λ x. (step x w r).zone) h.run);
    }
