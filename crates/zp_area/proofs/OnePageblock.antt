-- What changes a set of blocks in one pageblock only.
use Rattle.std.proofs.Common.{ℕ, zero, suc, ◌+◌, ◌-◌, ◌/◌, ◌%◌, ◌^◌, ◌≡◌, ◌≢◌, ◌≤◌, refl, sym, ◌∙◌, ap, arith, List, set, get_or, get_or-set_other, length-set, Option, None}
use Rattle.std.proofs.lemmas.Nat.{pow_pos}
use Rattle.std.proofs.lemmas.List.{map-set}
use Rattle.zp_model.specs.declared.pageblock_type.PageblockType.{PageblockType}
use Rattle.zp_model.specs.declared.pageblock_type.PageblockType.TheVariants.{Movable}
use Rattle.zp_model.specs.declared.state.State.{State}
use Rattle.zp_model.specs.declared.state.State.TheVariants.{Free, Tail}
use Rattle.zp_model.specs.Area.{pageblock_pages}
use Rattle.zp_model.specs.BlockSet.{Starts}
use Rattle.zp_model.proofs.Heads.{two, aligned_down, number_around}
use Rattle.zp_area.specs.NotedBlocks.{blocks_of, free_order}
use Rattle.zp_area.specs.Blocks.{Blocks, block_set, added, removed}
use Rattle.zp_area.specs.Chains.{IsJoinable, IsJoinedUp, halves_added, split_off}
use Rattle.zp_area.specs.OneSet.{IsOneSet}
use Rattle.zp_area.specs.Retyped.{retyped}
use Rattle.zp_area.proofs.Scattered.{IsChangedIn}

pub changed_not : (m b : ℕ) (a : Blocks) → IsChangedIn m b a a
changed_not m b a = record { typed = refl; kinds = λ c ne. refl; heads = λ h ne. refl }

pub changed_again : (m b : ℕ) (a y z : Blocks) → IsChangedIn m b a y → IsChangedIn m b y z → IsChangedIn m b a z
changed_again m b a y z p q = record {
  typed = q.typed ∙ p.typed;
  kinds = λ c ne. q.kinds c ne ∙ p.kinds c ne;
  heads = λ h ne. q.heads h ne ∙ p.heads h ne;
}

-- another state of one page
head_other : (s : List State) (h g : ℕ) (p : State) → g ≢ h → get_or (blocks_of (set s h p)) g None ≡ get_or (blocks_of s) g None
head_other s h g p ne = ap (λ (o : List (Option ℕ)). get_or o g None) (map-set free_order s h p) ∙ get_or-set_other (blocks_of s) h g (free_order p) None ne

pub changed_added : (m b : ℕ) (a : Blocks) (h k : ℕ) → h / pageblock_pages m ≡ b → IsChangedIn m b a (added m a h k)
changed_added m b a h k e = record {
  typed = refl;
  kinds = λ c ne. refl;
  heads = λ g ne. head_other a.rows.states h g (Free k) (λ same. ne (ap (λ q. q / pageblock_pages m) same ∙ e));
}

pub changed_removed : (m b : ℕ) (a : Blocks) (h k : ℕ) → h / pageblock_pages m ≡ b → IsChangedIn m b a (removed m a h k)
changed_removed m b a h k e = record {
  typed = refl;
  kinds = λ c ne. refl;
  heads = λ g ne. head_other a.rows.states h g Tail (λ same. ne (ap (λ q. q / pageblock_pages m) same ∙ e));
}

-- the high halves of a block lie in its pageblock
changed_halves : (d m : ℕ) (a : Blocks) (h k : ℕ) → k + d ≤ m → h % 2 ^ (k + d) ≡ 0 → IsChangedIn m (h / pageblock_pages m) a (halves_added m a h k d)
changed_halves zero m a h k le al = changed_not m (h / pageblock_pages m) a
changed_halves (suc d) m a h k le al =
    let up : k + suc d ≡ k + d + 1 = omega arith in
    let aligned : h % 2 ^ (k + d + 1) ≡ 0 = rw (← up) al in
    let half : (h + 2 ^ (k + d)) / pageblock_pages m ≡ h / pageblock_pages m =
    number_around h (h + 2 ^ (k + d)) (k + d + 1) m (omega arith) aligned (omega arith) (omega (arith, two (k + d), pow_pos (k + d))) in
    changed_again m (h / pageblock_pages m) a (added m a (h + 2 ^ (k + d)) (k + d)) (halves_added m a h k (suc d))
    (changed_added m (h / pageblock_pages m) a (h + 2 ^ (k + d)) (k + d) half)
    (changed_halves d m (added m a (h + 2 ^ (k + d)) (k + d)) h k (omega arith) (aligned_down (k + d) (k + d + 1) h (omega arith) aligned))

pub changed_split : (m b : ℕ) (a : Blocks) (h o k : ℕ) → IsOneSet m a → Starts (block_set a) h o → k ≤ o → h / pageblock_pages m ≡ b → IsChangedIn m b a (split_off m a h o k)
changed_split m b a h o k x st le e =
    let block = x.blocks.block h o st in
    let same : k + (o - k) ≡ o = omega arith in
    rw (← e) (changed_again m (h / pageblock_pages m) a (removed m a h o) (split_off m a h o k) (changed_removed m (h / pageblock_pages m) a h o refl)
    (changed_halves (o - k) m (removed m a h o) h k (omega (arith, block.order)) (rw same block.aligned)))

-- so do its buddies, and what it grows to
pub changed_joined : (i m b : ℕ) (a : Blocks) (h k : ℕ) (n : Blocks) → h / pageblock_pages m ≡ b → IsJoinedUp i m a h k n → IsChangedIn m b a n
changed_joined zero m b a h k n e w = rw w.0 (changed_added m b a h k e)
changed_joined (suc i) m b a h k n e w =
    let c : ℕ = w.0 in
    let d : ℕ = w.1 in
    let y : IsJoinable m a h k w.0 w.1 = w.2 in
    let q = y.buddy.halves in
    let double : h / pageblock_pages m ≡ w.1 / pageblock_pages m = number_around w.1 h (k + 1) m (omega (arith, y.order)) y.buddy.double (omega (arith, two k)) (omega (arith, two k, pow_pos k)) in
    let buddy : w.0 / pageblock_pages m ≡ w.1 / pageblock_pages m = number_around w.1 w.0 (k + 1) m (omega (arith, y.order)) y.buddy.double (omega (arith, two k)) (omega (arith, two k, pow_pos k)) in
    changed_again m b a (removed m a c k) n (changed_removed m b a c k (buddy ∙ sym double ∙ e)) (changed_joined i m b (removed m a c k) d (k + 1) n (sym double ∙ e) w.3)

pub changed_retyped : (m : ℕ) (a : Blocks) (b : ℕ) (t : PageblockType) → IsChangedIn m b a (retyped m a b t)
changed_retyped m a b t = record {
  typed = length-set a.kinds b t;
  kinds = λ c ne. get_or-set_other a.kinds b c t Movable ne;
  heads = λ h ne. refl;
}
