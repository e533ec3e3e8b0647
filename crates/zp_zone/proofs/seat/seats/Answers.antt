use Rattle.std.proofs.Common.{◌≡◌, ℕ, ◌+◌, [], ◌∷◌, ◌++◌, arith, ap, sym, ◌∙◌, length}
use Rattle.std.proofs.lemmas.List.FromFn.{map-range_with_len_more}
use Rattle.zp_model.specs.Books.{Books, Part, part}
use Rattle.zp_laws.proofs.BooksShape.{length-own}
use Rattle.zp_tie.specs.Ties.{Kept, Held}
use Rattle.zp_zone.specs.Seats.{SeatState}
use Rattle.zp_zone.proofs.seat.seats.Goals as goal

pub invariant_of-push_reserved : goal.invariant_of-push_reserved
invariant_of-push_reserved c =
    let k = c.crew.invariant.keeper in
    let t = c.deal-token.ensures.token in
    let mine : c.deal-token.result.mine ≡ part c.crew.number c.args.keeper.now.whole = ap (λ (x : Held Part). x.mine) t ∙ (λ i. part (k i).dealt (k i).whole) in (
      ap (λ (x : Held Part). x.worker) t ∙ ap (λ (x : Kept Books). x.dealt) k ∙ sym c.in-Some.ensures.some,
      c.requires.base ∙ sym (ap (λ (x : Part). x.base) mine),
      c.requires.pages ∙ sym (ap (λ (x : Part). length x.blocks) mine ∙ length-own c.crew.number c.args.keeper.now.whole.plain.out),
    )

pub crew-preserved : goal.crew-preserved
crew-preserved c =
    let f : ℕ → SeatState = λ w. let s : SeatState = record { tie = c.args.keeper.now.tie; worker = w; part = part w c.args.keeper.now.whole } in s in
    let k = c.crew.invariant.keeper in
    let t = c.deal-token.ensures.token in
    let tie : c.deal-token.result.tie ≡ c.args.keeper.now.tie = ap (λ (x : Held Part). x.tie) t ∙ ap (λ (x : Kept Books). x.tie) k in
    let mine : c.deal-token.result.mine ≡ part c.crew.number c.args.keeper.now.whole = ap (λ (x : Held Part). x.mine) t ∙ (λ i. part (k i).dealt (k i).whole) in
    record {
      seats =
          c.push_reserved.ensures.items
          ∙ (λ i. c.crew.invariant.seats i ++ (let s : SeatState = record { tie = tie i; worker = c.in-Some.ensures.some i; part = mine i } in s) ∷ [])
          ∙ sym (map-range_with_len_more f 0 c.crew.number c.crew.number (omega arith));
      keeper = c.deal-token.ensures.keeper ∙ ap (λ (x : Kept Books). let y : Kept Books = record x { dealt = x.dealt + 1 } in y) k;
      count = omega (arith, c.push_reserved.ensures.len, c.crew.invariant.count);
      room = c.push_reserved.ensures.capacity ∙ c.crew.invariant.room;
    }
