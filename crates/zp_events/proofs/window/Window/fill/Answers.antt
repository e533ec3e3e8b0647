use Rattle.std.proofs.Common.{ℕ, List, ◌≡◌, ◌≤◌, ◌-◌, ◌<◌, length, take, drop, sym, ◌∙◌, ap, arith, length-take-le}
use Rattle.std.specs.Vec.{with_items}
use Rattle.std.proofs.lemmas.List.{with_items_is}
use Rattle.zp_events.proofs.Filling.{IsLent, more_between, piece_size, front_kept, room_behind, size_between}
use Rattle.zp_events.proofs.window.Window.fill.Goals as goal

pub returns-clause-filled : goal.returns-clause-filled
returns-clause-filled g c =
    let front = c.to_front.new.bytes in
    let bytes = with_items c.self.inside.bytes front in
    let kept = c.self.inside.end - c.self.inside.start in
    let f = c.in_ok-count.ensures.given in
    let some : c.in_ok-count.count ≤ length c.read.new.buffer = omega (arith, f.within, c.read.auto.buffer) in
    let size : length front ≡ c.self.inside.bytes.len = c.to_front.auto.bytes ∙ c.deref_mut.ensures.len in
    let is_front : bytes.items ≡ front = with_items_is c.self.inside.bytes front size in
    let whole : length c.deref_mut-2.result.now ≡ 69632 = omega (arith, c.deref_mut-2.ensures.len, c.deref_mut.ensures.len, ap length c.deref_mut.ensures.value, c.self.invariant.2) in
    let lent : IsLent bytes 0 kept c.deref_mut-2.result.now c.read.new.buffer = record {
      same = c.deref_mut-2.ensures.value;
      size = c.deref_mut-2.ensures.len;
      ordered = omega arith;
      within = omega (arith, c.self.invariant.1);
      piece_size = c.read.auto.buffer ∙ piece_size kept c.deref_mut-2.result.now;
    } in
    let view : take (kept - 0) (drop 0 bytes.items) ≡ c.args.self.now =
    front_kept kept front bytes.items c.args.self.now is_front (c.to_front.ensures ∙ ap (λ (b : List ℕ). take kept (drop c.self.inside.start b)) c.deref_mut.ensures.value ∙ c.self.view_is) in
    let room : kept < length c.deref_mut-2.result.now =
    omega (arith, c.requires, size_between c.self.inside.start c.self.inside.end c.self.inside.bytes.items c.args.self.now (omega (arith, c.self.invariant.1, c.self.invariant.2)) c.self.view_is) in
    record {
      read = take c.in_ok-count.count c.read.new.buffer;
      front = f.read;
      behind = more_between bytes 0 kept c.in_ok-count.count c.deref_mut-2.result.now c.read.new.buffer c.args.self.now lent some view;
      count = sym (length-take-le c.in_ok-count.count c.read.new.buffer some);
      end = λ none. f.end (room_behind kept c.deref_mut-2.result.now room) none;
    }
