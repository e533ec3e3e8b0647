-- The fields of an event say one thing at most.
use Rattle.std.proofs.Common.{ℕ, ◌≡◌, inl, inr, List, [], ◌∷◌, ◌++◌, Bool, codes, sym, ap, subst, ◌∙◌, arith}
use Rattle.std.specs.Str.Parse.{AllDigits}
use Rattle.std.proofs.lemmas.Str.Parse.{digit_from_value}
use Rattle.zp_events.specs.declared.event.FrameBlock.{FrameBlock}
use Rattle.zp_events.specs.declared.event.PageRequest.{PageRequest}
use Rattle.zp_events.specs.declared.event.ZoneLimit.{ZoneLimit}
use Rattle.zp_events.specs.declared.event.Action.{Action}
use Rattle.zp_events.specs.declared.event.EventName.{EventName}
use Rattle.zp_events.specs.declared.event.EventName.TheVariants.{Alloc, Free, Fallback}
use Rattle.zp_events.specs.Numbers.{IsNumber, IsSmall, IsFrame}
use Rattle.zp_events.specs.Flags.{zone_limit_of}
use Rattle.zp_events.specs.Fields.{is_no_page, IsPlace, outcome, IsAllocation, IsFreeing, IsAction}
use Rattle.zp_events.proofs.Heads.{same_small}

pub same_number : (base : ℕ) (word : List ℕ) (m n : ℕ) → IsNumber base word m → IsNumber base word n → m ≡ n
same_number base word m n a b = a.value ∙ sym b.value

-- what stands behind `0x` is no decimal number
pub not_decimal : (digits : List ℕ) → AllDigits 10 (codes "0x" ++ digits) → ⊥
not_decimal digits h = omega (arith, (digit_from_value 120 h.1.0).1)

pub same_frame : (word : List ℕ) (m n : ℕ) → IsFrame word m → IsFrame word n → m ≡ n
same_frame word m n (inl a) (inl b) =
    let digits : a.0 ≡ b.0 = cc (a.1, b.1) in
    same_number 16 b.0 m n (subst (λ d. IsNumber 16 d m) digits a.2) b.2
same_frame word m n (inl a) (inr b) = absurd (not_decimal a.0 (subst (AllDigits 10) a.1 b.digits))
same_frame word m n (inr a) (inl b) = absurd (not_decimal b.0 (subst (AllDigits 10) b.1 a.digits))
same_frame word m n (inr a) (inr b) = same_number 10 word m n a b

same_block : (a b : FrameBlock) → a.frame ≡ b.frame → a.order ≡ b.order → a ≡ b
same_block a b e f =
    let from : ℕ → FrameBlock = λ n. record { frame = n; order = a.order } in
    let to : ℕ → FrameBlock = λ n. record { frame = b.frame; order = n } in
    ap from e ∙ ap to f

same_request : (a b : PageRequest) → a.migrate_type ≡ b.migrate_type → a.zone_limit ≡ b.zone_limit → a ≡ b
same_request a b e f =
    let from : ℕ → PageRequest = λ n. record { migrate_type = n; zone_limit = a.zone_limit } in
    let to : ZoneLimit → PageRequest = λ z. record { migrate_type = b.migrate_type; zone_limit = z } in
    ap from e ∙ ap to f

pub same_place : (words : List (List ℕ)) (p q : Bool) (a b : FrameBlock) (m n : List (List ℕ)) → IsPlace words p a m → IsPlace words q b n → (p ≡ q) × (a ≡ b) × (m ≡ n)
same_place words p q a b m n x y =
    let both = sym x.written ∙ y.written in
    let page : x.page ≡ y.page = cc in
    let frame : x.frame ≡ y.frame = cc in
    let order : x.order ≡ y.order = cc in
    let rest : m ≡ n = cc in (
      x.page_is ∙ ap is_no_page page ∙ sym y.page_is,
      same_block a b (same_frame y.frame a.frame b.frame (subst (λ w. IsFrame w a.frame) frame x.frame_is) y.frame_is)
          (same_small y.order a.order b.order (subst (λ w. IsSmall w a.order) order x.order_is) y.order_is),
      rest,
    )

pub same_allocation : (words : List (List ℕ)) (a b : Action) → IsAllocation words a → IsAllocation words b → a ≡ b
same_allocation words a b x y =
    let place = same_place words x.no_page y.no_page x.block y.block _ _ x.place y.place in
    let rest : (codes "migratetype=" ++ x.migrate_type) ∷ (codes "gfp_flags=" ++ x.flags) ∷ [] ≡ (codes "migratetype=" ++ y.migrate_type) ∷ (codes "gfp_flags=" ++ y.flags) ∷ [] = place.2 in
    let migrate_type : x.migrate_type ≡ y.migrate_type = cc in
    let flags : x.flags ≡ y.flags = cc in
    let request = same_request x.request y.request
    (same_small y.migrate_type x.request.migrate_type y.request.migrate_type (subst (λ w. IsSmall w x.request.migrate_type) migrate_type x.type_is) y.type_is)
    (x.limit_is ∙ ap zone_limit_of flags ∙ sym y.limit_is) in
    let page = place.0 in
    let block = place.1 in
    x.said_is ∙ ap (λ (p : Bool). outcome p x.block x.request) page ∙ ap (λ (b : FrameBlock). outcome y.no_page b x.request) block ∙ ap (outcome y.no_page y.block) request ∙ sym y.said_is

pub same_freeing : (words : List (List ℕ)) (a b : Action) → IsFreeing words a → IsFreeing words b → a ≡ b
same_freeing words a b x y =
    let place = same_place words x.no_page y.no_page x.block y.block [] [] x.place y.place in
    let block = place.1 in
    let said = x.said_is in
    let other = y.said_is in
    cc

pub same_action : (name : EventName) (words : List (List ℕ)) (a b : Action) → IsAction name words a → IsAction name words b → a ≡ b
same_action Alloc words a b x y = same_allocation words a b x y
same_action Free words a b x y = same_freeing words a b x y
same_action Fallback words a b x y = x ∙ sym y
