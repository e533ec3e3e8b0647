-- The fields of an event, word by word.
use Rattle.std.proofs.Common.{ℕ, ◌≡◌, List, [], ◌∷◌, ◌++◌, Bool, codes, subst}
use Rattle.zp_events.specs.declared.event.FrameBlock.{FrameBlock}
use Rattle.zp_events.specs.declared.event.Action.{Action}
use Rattle.zp_events.specs.Numbers.{IsFrame}
use Rattle.zp_events.specs.Fields.{IsPlace, IsAllocation, IsFreeing}
use Rattle.zp_events.proofs.Actions.{same_place}

-- words whose first begins with this label, and none that do
abbrev pub NoField : List ℕ → List (List ℕ) → Type 0
NoField label words = (value : List ℕ) (more : List (List ℕ)) → words ≡ (label ++ value) ∷ more → ⊥

abbrev pub NoPlace : List (List ℕ) → Type 0
NoPlace words = (no_page : Bool) (block : FrameBlock) (more : List (List ℕ)) → IsPlace words no_page block more → ⊥

pub no_frame : (words w v : List (List ℕ)) (page frame : List ℕ) → words ≡ (codes "page=" ++ page) ∷ w → w ≡ (codes "pfn=" ++ frame) ∷ v → ((n : ℕ) → IsFrame frame n → ⊥) → NoPlace words
no_frame words w v page frame e f none p b more x =
    let written = x.written in
    let same : x.frame ≡ frame = cc in
    none b.frame (subst (λ word. IsFrame word b.frame) same x.frame_is)

abbrev pub NoAllocation : List (List ℕ) → Type 0
NoAllocation words = (said : Action) → IsAllocation words said → ⊥

pub no_place : (words : List (List ℕ)) → NoPlace words → NoAllocation words
no_place words none said x = none x.no_page x.block ((codes "migratetype=" ++ x.migrate_type) ∷ (codes "gfp_flags=" ++ x.flags) ∷ []) x.place

-- what stands behind the block
behind_place : (words w : List (List ℕ)) (p : Bool) (b : FrameBlock) (said : Action) → IsPlace words p b w → (x : IsAllocation words said) → w ≡ (codes "migratetype=" ++ x.migrate_type) ∷ (codes "gfp_flags=" ++ x.flags) ∷ []
behind_place words w p b said place x =
    (same_place words p x.no_page b x.block w ((codes "migratetype=" ++ x.migrate_type) ∷ (codes "gfp_flags=" ++ x.flags) ∷ []) place x.place).2

pub no_type_field : (words w : List (List ℕ)) (p : Bool) (b : FrameBlock) → IsPlace words p b w → NoField (codes "migratetype=") w → NoAllocation words
no_type_field words w p b place none said x = none x.migrate_type ((codes "gfp_flags=" ++ x.flags) ∷ []) (behind_place words w p b said place x)

pub no_flags_field : (words w v : List (List ℕ)) (p : Bool) (b : FrameBlock) (kind : List ℕ) → IsPlace words p b w → w ≡ (codes "migratetype=" ++ kind) ∷ v → NoField (codes "gfp_flags=") v → NoAllocation words
no_flags_field words w v p b kind place e none said x =
    let behind = behind_place words w p b said place x in
    let rest : v ≡ (codes "gfp_flags=" ++ x.flags) ∷ [] = cc in
    none x.flags [] rest

abbrev pub NoFreeing : List (List ℕ) → Type 0
NoFreeing words = (said : Action) → IsFreeing words said → ⊥

pub no_place_no_freeing : (words : List (List ℕ)) → NoPlace words → NoFreeing words
no_place_no_freeing words none said x = none x.no_page x.block [] x.place
