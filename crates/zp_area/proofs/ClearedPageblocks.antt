-- A pageblock that is a group of the tree, and is isolated from now on: what the tree has without the group.
use Rattle.std.proofs.Common.{ℕ, ◌/◌, ◌≡◌, ◌<◌, inl, inr, refl, sym, ◌∙◌, ap, true, cond, List, length, get_or, set, get_or-set_same, get_or-set_other, Option, None}
use Rattle.std.specs.List.{slice_index_or}
use Rattle.std.proofs.lemmas.Bool.{cases_eq}
use Rattle.std.proofs.lemmas.List.{ext_get_or}
use Rattle.zp_model.specs.declared.pageblock_type.PageblockType.{PageblockType}
use Rattle.zp_model.specs.declared.pageblock_type.PageblockType.TheVariants.{Movable}
use Rattle.zp_model.specs.PageblockType.{is_isolate}
use Rattle.zp_model.specs.Area.{available_blocks, is_isolated, pageblock_pages}
use Rattle.zp_tree.specs.declared.constants.TheConstants.{GROUP_PAGES}
use Rattle.zp_tree.specs.Blocks.{without_group}
use Rattle.zp_tree.proofs.ClearedGroups.{group-at, group-gone, group-length}
use Rattle.zp_area.proofs.AvailableBlocks.{available-at, available-length}

module _ (m b : ℕ) (t : PageblockType) (kinds : List PageblockType) (s : List (Option ℕ)) (whole : pageblock_pages m ≡ GROUP_PAGES) (lt : b < length kinds) (is : is_isolate t ≡ true) where
  -- a page of the group, and one of another
  in_group : (i : ℕ) → i / GROUP_PAGES ≡ b → is_isolated m (set kinds b t) i ≡ true
  in_group i e = ap (λ n. is_isolate (slice_index_or (set kinds b t) (i / n) Movable)) whole ∙ ap (λ q. is_isolate (slice_index_or (set kinds b t) q Movable)) e ∙ ap is_isolate (get_or-set_same kinds b t Movable lt) ∙ is

  elsewhere : (i : ℕ) → (i / GROUP_PAGES ≡ b → ⊥) → is_isolated m (set kinds b t) i ≡ is_isolated m kinds i
  elsewhere i ne = ap is_isolate (get_or-set_other kinds b (i / pageblock_pages m) t Movable (λ e. ne (ap (λ n. i / n) (sym whole) ∙ e)))

  pub cleared_pageblock : without_group (available_blocks m kinds s) b ≡ available_blocks m (set kinds b t) s
  cleared_pageblock =
      ext_get_or None (without_group (available_blocks m kinds s) b) (available_blocks m (set kinds b t) s) (group-length (available_blocks m kinds s) b ∙ available-length m kinds s ∙ sym (available-length m (set kinds b t) s))
      (λ i _. elim (cases_eq (i / GROUP_PAGES) b) [
        | inl e ↦ group-gone (available_blocks m kinds s) b i e ∙ sym (available-at m (set kinds b t) s i ∙ rw (in_group i e) refl)
        | inr ne ↦ group-at (available_blocks m kinds s) b i ne ∙ available-at m kinds s i ∙ sym (available-at m (set kinds b t) s i ∙ ap (λ x. cond x None (get_or s i None)) (elsewhere i ne))
      ])
