-- What is noted of the pageblocks, when one of them is looked at.
use Rattle.std.proofs.Common.{ℕ, ◌≡◌, ◌<◌, inl, inr, sym, ◌∙◌, arith, Bool, true, false, List, length, get_or, set, get_or-set_same, get_or-set_other, length-set, Option}
use Rattle.std.proofs.lemmas.Bool.{cases_eq, false≢true}
use Rattle.zp_model.specs.declared.pageblock_type.PageblockType.{PageblockType}
use Rattle.zp_claims.specs.declared.claim.Claim.{Claim}
use Rattle.zp_area.specs.Claims.{IsClaimed, IsClaimedBut, claim_of}

module _ (m : ℕ) (s : List (Option ℕ)) (kinds : List PageblockType) (claims : List (Option Claim)) (marks : List Bool) where
  -- a pageblock that was marked is noted anew
  pub claimed_looked : (b : ℕ) → IsClaimed m s kinds claims marks → b < length claims → IsClaimed m s kinds (set claims b (claim_of m s kinds b)) (set marks b false)
  claimed_looked b x lt = record {
    blocks = length-set claims b (claim_of m s kinds b) ∙ x.blocks;
    marked = length-set marks b false ∙ x.marked;
    each = λ c fresh. elim (cases_eq c b) [
      | inl same ↦ rw same (get_or-set_same claims b (claim_of m s kinds b) _ lt)
      | inr ne ↦ get_or-set_other claims b c (claim_of m s kinds b) _ ne ∙ x.each c (sym (get_or-set_other marks b c false false ne) ∙ fresh)
    ];
  }

  -- pageblock p, which has changed, is marked, and another one is noted anew for it
  pub claimed_marked : (p b : ℕ) → IsClaimedBut p m s kinds claims marks → b < length claims → p < length marks →
      IsClaimed m s kinds (set claims b (claim_of m s kinds b)) (set (set marks b false) p true)
  claimed_marked p b x lt le = record {
    blocks = length-set claims b (claim_of m s kinds b) ∙ x.blocks;
    marked = length-set (set marks b false) p true ∙ length-set marks b false ∙ x.marked;
    each = λ c fresh. elim (cases_eq c p) [
      | inl same ↦ absurd (false≢true (sym (rw same at fresh) ∙ get_or-set_same (set marks b false) p true false (omega (arith, length-set marks b false))))
      | inr ne ↦
          let still : get_or (set marks b false) c false ≡ false = sym (get_or-set_other (set marks b false) p c true false ne) ∙ fresh in
          elim (cases_eq c b) [
            | inl same ↦ rw same (get_or-set_same claims b (claim_of m s kinds b) _ lt)
            | inr other ↦ get_or-set_other claims b c (claim_of m s kinds b) _ other ∙ x.each c ne (sym (get_or-set_other marks b c false false other) ∙ still)
          ]
    ];
  }
