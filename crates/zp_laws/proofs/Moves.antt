-- Which pages a change of the free ones moves: a run that leaves or comes, none, and one change after another.
use Rattle.std.proofs.Common.{ℕ, ◌+◌, ◌-◌, ◌^◌, ◌≡◌, ◌≤◌, sym, ◌∙◌, arith, Bool, true, false, not, ◌&&◌, ◌||◌, leb}
use Rattle.std.proofs.lemmas.Bool.{and_parts, and_from, leb-true, le-leb, false≢true}
use Rattle.zp_model.specs.Block.{has, in_run, without, with_run}
use Rattle.zp_model.specs.Zone.{PlainZone, pages_of}
use Rattle.zp_model.specs.Runs.{is_within, with_pages, without_pages}
use Rattle.zp_model.proofs.Normal.{Filled}
use Rattle.zp_model.proofs.Pages.{In, in_run-to}
use Rattle.zp_model.proofs.RunParts.{with_block, within-from, within-to, without_block}
use Rattle.zp_laws.specs.FreePages.{is_free, IsMove}
use Rattle.zp_laws.proofs.Counting.{same_tests, has-left_any, has-given_any}

-- no page
abbrev pub none : ℕ → Bool
none p = false

-- a run in absolute pages
pub run-absolute : (b h n p : ℕ) → is_within (b + h) n p ≡ (leb b p && is_within h n (p - b))
run-absolute b h n p =
    same_tests (is_within (b + h) n p) (leb b p && is_within h n (p - b))
    (λ e. let r = within-to (b + h) n p e in and_from _ _ (le-leb b p (omega (arith, r.0))) (within-from h n (p - b) (omega (arith, r.0)) (omega (arith, r.0, r.1))))
    (λ e.
    let a = and_parts (leb b p) (is_within h n (p - b)) e in
    let r = within-to h n (p - b) a.1 in
    let le : b ≤ p = leb-true b p a.0 in
    within-from (b + h) n p (omega (arith, r.0)) (omega (arith, r.1)))

-- a move, with the pages that go and come told in other words
pub move_by : (y z : PlainZone) (g f c d : ℕ → Bool) → IsMove y z g c → ((p : ℕ) → f p ≡ g p) → ((p : ℕ) → d p ≡ c p) → IsMove y z f d
move_by y z g f c d m e s = record {
  went = λ p q. m.went p (sym (e p) ∙ q);
  came = λ p q. m.came p (sym (s p) ∙ q);
  each = λ p. m.each p ∙ sym (rw (e p, s p));
}

pub move_none : (y z : PlainZone) → z.base ≡ y.base → z.area.free ≡ y.area.free → IsMove y z none none
move_none y z b f = record {
  went = λ p e. absurd (false≢true e);
  came = λ p e. absurd (false≢true e);
  each = λ p. rw (b, f) (parts (is_free y p));
}
  where
    parts : (b : Bool) → b ≡ ((b && not false) || false)
    parts b = grind arith

-- the pages of a run of free ones leave
pub move_out_run : (y z : PlainZone) (h n : ℕ) → z.base ≡ y.base → z.area.free ≡ without_pages y.area.free h n → ((i : ℕ) → is_within h n i ≡ true → In y.area.free i) →
    IsMove y z (is_within (y.base + h) n) none
move_out_run y z h n b f full = record {
  went = λ p e.
      let a = and_parts (leb y.base p) (is_within h n (p - y.base)) (sym (run-absolute y.base h n p) ∙ e) in
      and_from _ _ a.0 (full (p - y.base) a.1);
  came = λ p e. absurd (false≢true e);
  each = λ p.
      rw (b, f, has-left_any y.area.free h n (p - y.base), run-absolute y.base h n p)
      (parts (leb y.base p) (has y.area.free (p - y.base)) (is_within h n (p - y.base)));
}
  where
    parts : (l f r : Bool) → (l && (f && not r)) ≡ (((l && f) && not (l && r)) || false)
    parts l f r = grind arith

pub move_out : (y z : PlainZone) (h k : ℕ) → z.base ≡ y.base → z.area.free ≡ without y.area.free h k → Filled (In y.area.free) h k → IsMove y z (in_run (y.base + h) k) none
move_out y z h k b f full = move_out_run y z h (2 ^ k) b (f ∙ without_block y.area.free h k) (λ i e. let r = in_run-to h k i e in full i r.0 r.1)

-- the pages of a run come, of which none was free
pub move_back_run : (y z : PlainZone) (h n : ℕ) → z.base ≡ y.base → z.area.free ≡ with_pages y.area.free h n → h + n ≤ pages_of y →
    ((i : ℕ) → is_within h n i ≡ true → has y.area.free i ≡ false) → IsMove y z none (is_within (y.base + h) n)
move_back_run y z h n b f le clear = record {
  went = λ p e. absurd (false≢true e);
  came = λ p e.
      let a = and_parts (leb y.base p) (is_within h n (p - y.base)) (sym (run-absolute y.base h n p) ∙ e) in
      rw (a.0, clear (p - y.base) a.1);
  each = λ p.
      rw (b, f, has-given_any y.area.free h n (p - y.base) le, run-absolute y.base h n p)
      (parts (leb y.base p) (has y.area.free (p - y.base)) (is_within h n (p - y.base)));
}
  where
    parts : (l f r : Bool) → (l && (f || r)) ≡ (((l && f) && not false) || (l && r))
    parts l f r = grind arith

pub move_back : (y z : PlainZone) (h k : ℕ) → z.base ≡ y.base → z.area.free ≡ with_run y.area.free h k → h + 2 ^ k ≤ pages_of y →
    ((i : ℕ) → in_run h k i ≡ true → has y.area.free i ≡ false) → IsMove y z none (in_run (y.base + h) k)
move_back y z h k b f le clear = move_back_run y z h (2 ^ k) b (f ∙ with_block y.area.free h k) le clear

-- pages leave, and others leave after them
pub move_out_out : (x y z : PlainZone) (g f : ℕ → Bool) → IsMove x y g none → IsMove y z f none → IsMove x z (λ p. g p || f p) none
move_out_out x y z g f a b = record {
  went = λ p e. both (is_free x p) (is_free y p) (g p) (f p) (a.went p) (b.went p) (a.each p) e;
  came = λ p e. absurd (false≢true e);
  each = λ p. b.each p ∙ rw (a.each p) (parts (is_free x p) (g p) (f p));
}
  where
    both : (u y v w : Bool) → (v ≡ true → u ≡ true) → (w ≡ true → y ≡ true) → y ≡ ((u && not v) || false) → (v || w) ≡ true → u ≡ true
    both u y v w m n s e = grind arith

    parts : (u v w : Bool) → ((((u && not v) || false) && not w) || false) ≡ ((u && not (v || w)) || false)
    parts u v w = grind arith

-- pages come, and others come after them
pub move_back_back : (x y z : PlainZone) (c d : ℕ → Bool) → IsMove x y none c → IsMove y z none d → IsMove x z none (λ p. c p || d p)
move_back_back x y z c d a b = record {
  went = λ p e. absurd (false≢true e);
  came = λ p e. both (is_free x p) (is_free y p) (c p) (d p) (a.came p) (b.came p) (a.each p) e;
  each = λ p. b.each p ∙ rw (a.each p) (parts (is_free x p) (c p) (d p));
}
  where
    both : (u y v w : Bool) → (v ≡ true → u ≡ false) → (w ≡ true → y ≡ false) → y ≡ ((u && not false) || v) → (v || w) ≡ true → u ≡ false
    both u y v w m n s e = grind arith

    parts : (u v w : Bool) → ((((u && not false) || v) && not false) || w) ≡ ((u && not false) || (v || w))
    parts u v w = grind arith
