-- What a reader saw by a reading is fresh.
use Rattle.std.proofs.Common.{ℕ, ◌≡◌, ◌≤◌, ◌+◌, List, [], ◌∷◌, ◌++◌, length, map, true, true≢false, refl, sym, ap, ◌∙◌, subst, ⊎_elim, inl, inr, arith, length-append}
use Rattle.std.proofs.lemmas.List.{length-map}
use mathlib.Core.List.{IsPrefix}
use Rattle.zp_board.specs.Boards.{WordReaderState}
use Rattle.zp_ring.specs.Rings.{RingReaderState, IsFresh, WasMet, WerePassed}
use Rattle.zp_model.specs.declared.counts.Counts.{Counts}
use Rattle.zp_counts.specs.CountBoards.{CountTie, CountsSeen, IsFreshRead}
use Rattle.zp_counts.specs.Kinds.{seen_counts, turning_tie, wide_tie}
use Rattle.zp_counts.specs.Packing.{packed_in, paired_in}
use Rattle.zp_counts.specs.declared.kinds.ReaderKind.TheVariants.{Fixed, Turning, Wide}
use Rattle.zp_counts.specs.declared.kinds.TheConstants.{SLOTS}

fixed_fresh : (old new : WordReaderState) (place : ℕ) → IsPrefix old.seen new.seen → new.looks ≡ old.looks ++ place ∷ [] → place + 1 ≡ length new.seen → IsFreshRead (seen_counts (Fixed old)) (seen_counts (Fixed new))
fixed_fresh old new place p looked found =
    let many = length-map new.seen paired_in in
    record {
      grown = omega (arith, sym (ap length p.1) ∙ length-append old.seen p.0);
      within = omega (arith, many);
      fixed = λ _. record {
        place = place;
        looked = looked;
        found = many ∙ sym found;
        known = sym many;
      };
      turning = λ h. absurd (true≢false (sym h));
    }

-- what a reader of a board that turns has seen, where its words stand for counts so
abbrev turned_counts : (List ℕ → Counts) → CountTie → RingReaderState → CountsSeen
turned_counts counts_of tie r = record { tie = tie; seen = map counts_of r.seen; known = r.known; looks = r.looks }

turning_fresh : (counts_of : List ℕ → Counts) (t u : CountTie) (old new : RingReaderState) → t.turns ≡ true → IsFresh SLOTS old new → old.known ≤ new.known → length new.seen ≤ new.known
    → IsFreshRead (turned_counts counts_of t old) (turned_counts counts_of u new)
turning_fresh counts_of t u old new turns f grown within =
    let many = length-map new.seen counts_of in
    record {
      grown = grown;
      within = omega (arith, within, many);
      fixed = λ h. absurd (true≢false (sym turns ∙ h));
      turning = λ _. record {
        places = f.places;
        looked = f.looked;
        order = f.order;
        fresh = ⊎_elim
            (λ (met : WasMet SLOTS f.places old.known (length new.seen) new.known). inl (subst (λ n. WasMet SLOTS f.places old.known n new.known) (sym many) met))
            (λ (passed : (new.seen ≡ old.seen) × WerePassed SLOTS f.places). inr (ap (map counts_of) passed.0, passed.1))
            f.fresh;
      };
    }

-- by a reader of a board that does not turn
pub fixed_read : (old new : WordReaderState) (place : ℕ) {before after : CountsSeen} → before ≡ seen_counts (Fixed old) → after ≡ seen_counts (Fixed new) → IsPrefix old.seen new.seen → new.looks ≡ old.looks ++ place ∷ []
    → place + 1 ≡ length new.seen → IsFreshRead before after
fixed_read old new place is_before is_after p looked found = rw (is_before, is_after) (fixed_fresh old new place p looked found)

-- by a reader of one that turns, with packed words, and with words for any counts
pub turning_read : (old new : RingReaderState) {before after : CountsSeen} → before ≡ seen_counts (Turning old) → after ≡ seen_counts (Turning new) → IsFresh SLOTS old new → old.known ≤ new.known → length new.seen ≤ new.known
    → IsFreshRead before after
turning_read old new is_before is_after f grown within = rw (is_before, is_after) (turning_fresh packed_in (turning_tie old.tie) (turning_tie new.tie) old new refl f grown within)

pub wide_read : (old new : RingReaderState) {before after : CountsSeen} → before ≡ seen_counts (Wide old) → after ≡ seen_counts (Wide new) → IsFresh SLOTS old new → old.known ≤ new.known → length new.seen ≤ new.known
    → IsFreshRead before after
wide_read old new is_before is_after f grown within = rw (is_before, is_after) (turning_fresh paired_in (wide_tie old.tie) (wide_tie new.tie) old new refl f grown within)
