use Rattle.std.proofs.Common.{ℕ, ◌+◌, ◌≡◌, ◌∙◌, List, [], ◌∷◌, ◌++◌, length, map, ap, sym, arith, lit<}
use Rattle.std.specs.Prelude.{Option}
use Rattle.std.specs.List.{range_with_len}
use Rattle.std.proofs.lemmas.List.FromFn.{length-map-range_with_len, map-range_with_len_more}
use Rattle.zp_model.specs.declared.origin.Origin.{Origin}
use Rattle.zp_share.specs.Crews.{CrewState}
use Rattle.zp_kernel.specs.Crews.{origin_of}
use Rattle.zp_kernel.proofs.kernel_zones.KernelZones.origins.Goals as goal

pub push-requires : goal.push-requires
push-requires c =
    let f : ℕ → Option Origin = origin_of c.args.worker c.args.order c.args.kind c.args.self.now in
    let many : length c.loop-place.origins.items ≡ c.loop-place.place = ap length c.loop-place.invariant.origins ∙ length-map-range_with_len f 0 c.loop-place.place in
    (lit< tt, omega (arith, many, c.loop-place-test.true, c.places-place-end.ensures.few))

-- what one zone more says
one_more : (f : ℕ → Option Origin) (n : ℕ) (xs : List (Option Origin)) (x : Option Origin) → xs ≡ map f (range_with_len 0 n) → x ≡ f n → xs ++ x ∷ [] ≡ map f (range_with_len 0 (n + 1))
one_more f n xs x e is = ap (λ l. l ++ x ∷ []) e ∙ ap (λ y. map f (range_with_len 0 n) ++ y ∷ []) is ∙ sym (map-range_with_len_more f 0 n n (omega arith))

pub loop-place-preserved : goal.loop-place-preserved
loop-place-preserved c =
    let was = c.loop-place.invariant in
    let f : ℕ → Option Origin = origin_of c.args.worker c.args.order c.args.kind c.args.self.now in
    record {
      same = c.origin.ensures.same ∙ was.same;
      origins =
          c.push.ensures.items
          ∙ one_more f c.loop-place.place c.loop-place.origins.items c.origin.result was.origins
          (c.origin.ensures.answer ∙ ap (λ (y : CrewState). origin_of c.args.worker c.args.order c.args.kind y c.loop-place.place) was.same);
    }
