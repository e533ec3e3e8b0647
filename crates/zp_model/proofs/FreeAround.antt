-- The free block around a page: of the aligned heads around it, of the orders from 0 to the largest, one alone heads a free block of its order.
use Rattle.std.proofs.Common.{ℕ, ◌≡◌, ◌≤◌, sym}
use Rattle.zp_model.specs.declared.state.State.TheVariants.{Free}
use Rattle.zp_model.specs.Block.{head}
use Rattle.zp_model.specs.Frames.{Frames, IsFramed}
use Rattle.zp_model.specs.Rows.{state_at}
use Rattle.zp_model.proofs.Heads.{head_le, lt_head}
use Rattle.zp_model.proofs.Maximal.{Max, max-normal}
use Rattle.zp_model.proofs.Normal.{IsNormal}
use Rattle.zp_model.proofs.Pages.{In}

-- o is the only order of a block of S around page i, and m at most
pub record IsAroundAt (m : ℕ) (S : ℕ → ℕ → Type 0) (i o : ℕ) : Type 0 where
  pub order : o ≤ m
  pub starts : S (head i o) o
  pub only : (j : ℕ) → S (head i j) j → j ≡ o

module _ (m : ℕ) (S : ℕ → ℕ → Type 0) (U : ℕ → Type 0) (z : IsNormal m S U) (i : ℕ) where
  -- two blocks around a page are one
  pub around_same : (o j : ℕ) → S (head i o) o → S (head i j) j → j ≡ o
  around_same o j s t = sym (z.apart (head i o) o (head i j) j i s t (head_le i o) (lt_head i o) (head_le i j) (lt_head i j)).1

  -- a page of the set has one
  pub around_one : U i → (o : ℕ) × IsAroundAt m S i o
  around_one e = let c = z.covers i e in (c.0, record { order = z.order (head i c.0) c.0 c.1; starts = c.1; only = λ j t. around_same c.0 j c.1 t })

  -- and no other page has any: so a page at which none of the orders does is not in the set
  pub around_in : (j : ℕ) → S (head i j) j → U i
  around_in j s = z.inside (head i j) j s i (head_le i j) (lt_head i j)

-- a free page, by what is noted of the heads around it
module _ (f : Frames) (x : IsFramed f) (i : ℕ) where
  abbrev pub NotedFree : ℕ → ℕ → Type 0
  NotedFree h k = state_at f.states h ≡ Free k

  pub noted_around : In f.area.free i → (o : ℕ) × IsAroundAt f.area.largest NotedFree i o
  noted_around e =
      let c = around_one f.area.largest (Max f.area.largest f.area.free) (In f.area.free) (max-normal f.area.largest f.area.free) i e in
      (c.0, record { order = c.1.order; starts = (x.noted (head i c.0) c.0).1 c.1.starts; only = λ j t. c.1.only j ((x.noted (head i j) j).0 t) })

  pub noted_in : (j : ℕ) → NotedFree (head i j) j → In f.area.free i
  noted_in j t = around_in f.area.largest (Max f.area.largest f.area.free) (In f.area.free) (max-normal f.area.largest f.area.free) i j ((x.noted (head i j) j).0 t)
