-- What a sound area says in the frames that callers see: what is noted as free, how many blocks of an order there are, which blocks are clear.
use Rattle.std.proofs.Common.{ℕ, suc, ◌+◌, ◌≡◌, ◌≤◌, ◌↔◌, ◌∙◌, refl, sym, ap, arith, Bool, List, [], ◌∷◌, length, get_or, Option, None}
use Rattle.std.specs.List.{range_with_len, count_by}
use Rattle.std.proofs.lemmas.Bool.{false_from_ne_true}
use Rattle.std.proofs.lemmas.List.{get_or-drop}
use Rattle.std.proofs.lemmas.List.Sums.{sum_by-cons}
use Rattle.zp_model.specs.Block.{is_max, IsBlock}
use Rattle.zp_model.specs.BlockSet.{Starts, cover, is_order}
use Rattle.zp_model.specs.Frames.{IsClear, IsFramed}
use Rattle.zp_model.specs.Info.{blocks_of_order}
use Rattle.zp_model.specs.Area.{lists_count}
use Rattle.zp_model.proofs.Covers.{length-cover}
use Rattle.zp_model.proofs.MaximalBlocks.{max-unique}
use Rattle.zp_laws.proofs.Counting.{one_if}
use Rattle.zp_area.specs.Blocks.{Blocks, block_set, count_of}
use Rattle.zp_area.specs.Given.{AreClearPages, IsClearRun}
use Rattle.zp_area.proofs.NotedBlocks.{starts-to, starts-from}
use Rattle.zp_buddy.specs.Choices.{frames_in}
use Rattle.zp_buddy.specs.Held.{IsHeld}
use Rattle.zp_buddy.specs.Runs.{AreClear}
use Rattle.zp_buddy.specs.Sound.{IsSound}
use Rattle.zp_buddy.proofs.Claiming.{starts_maximal}
use Rattle.zp_buddy.proofs.Settled.{length-pages}

-- the frames note as free what is free
pub held_framed : (m : ℕ) (a : Blocks) (free : ℕ) → IsHeld m a free → IsFramed (frames_in m a)
held_framed m a free x = record {
  pages = length-pages a.rows.states;
  typed = x.typed;
  noted = λ g k.
      let u = max-unique m (Starts (block_set a)) (cover (block_set a)) x.sound.normal g k in
      (λ f. u.0 (starts-from a.rows.states g k f), λ f. starts-to a.rows.states g k (u.1 f));
  beside = λ r p on. false_from_ne_true _ (x.sound.aside (lists_count m + r) p (omega arith) (rw (get_or-drop (lists_count m) a.rows.lists r []) at on));
}

-- how many blocks of an order there are
pub count_maximal : (m : ℕ) (a : Blocks) (k : ℕ) → IsSound m a.rows.states a.kinds a.rows.lists → count_of (block_set a) k ≡ blocks_of_order m (cover (block_set a)) k
unfolding blocks_of_order
count_maximal m a k x =
    counts_at (block_set a) (λ h. is_max m (cover (block_set a)) h k) 0 (λ h. starts_maximal m a k h x ∙ ap (λ q. is_max m (cover (block_set a)) q k) (let z : h ≡ 0 + h = omega arith in z))
    ∙ ap (λ n. count_by (λ h. is_max m (cover (block_set a)) h k) (range_with_len 0 n)) (sym (length-cover (block_set a)))
  where
    counts_at : (s : List (Option ℕ)) (p : ℕ → Bool) (a : ℕ) → ((i : ℕ) → is_order k (get_or s i None) ≡ p (a + i)) → count_of s k ≡ count_by p (range_with_len a (length s))
    counts_at [] p a e = refl
    counts_at (o ∷ s) p a e =
        let here : is_order k o ≡ p a = e 0 ∙ ap p (let z : a + 0 ≡ a = omega arith in z) in
        let rest : count_of s k ≡ count_by p (range_with_len (a + 1) (length s)) =
        counts_at s p (a + 1) (λ i. e (suc i) ∙ ap p (let z : a + suc i ≡ a + 1 + i = omega arith in z)) in
        omega (arith, sum_by-cons (λ q. one_if (is_order k q)) o s, sum_by-cons (λ q. one_if (p q)) a (range_with_len (a + 1) (length s)), ap one_if here)

-- which blocks are clear
pub clear_is : (m : ℕ) (a : Blocks) (h k : ℕ) → IsClear (frames_in m a) h k ↔ (IsBlock m (length a.rows.states) h k × IsClearRun m a.rows.states a.rows.lists h k)
clear_is m a h k = (
  λ x. (rw (length-pages a.rows.states) at x.block, λ i p q. (x.free i p q, λ r. x.aside r i p q)),
  λ y. record { block = rw (length-pages a.rows.states) y.0; free = λ i p q. (y.1 i p q).0; aside = λ r i p q. (y.1 i p q).1 r },
)

-- and which pages in a row
pub are_clear_is : (m : ℕ) (a : Blocks) (h n : ℕ) → AreClear (frames_in m a) h n → (h + n ≤ length a.rows.states) × AreClearPages m a.rows.states a.rows.lists h n
are_clear_is m a h n x = (rw (length-pages a.rows.states) at x.inside, λ i p q. (x.free i p q, λ r. x.aside r i p q))
