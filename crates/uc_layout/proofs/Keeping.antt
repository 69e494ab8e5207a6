-- Cells that keep what is not written, one after another.
use Rattle.std.proofs.Common.{◌≡◌, ℕ, ◌+◌, ◌<◌, ◌≤◌, List, [], ◌∷◌, map, length, drop, get_or, Some, None, sym, subst}
use Rattle.std.specs.Prelude.{slice_get}
use Rattle.std.proofs.lemmas.List.{drop_all}
use Rattle.uc_values.specs.declared.value.Value.{Value}
use Rattle.uc_meaning.specs.Cells.{Cell as CellMeant}
use Rattle.uc_meaning.specs.Steps.{CellPart, AllKeep, Keeps}
use Rattle.uc_meaning.proofs.Lists.{drop_at, drop_past, drop_turn}
use Rattle.uc_layout.specs.declared.instances_cell.Cell.{Cell}
use Rattle.uc_layout.specs.Instances.{cell_meant}
use Rattle.uc_layout.specs.Kept.{cell_like}

module _ (written : List CellPart) (cells : List Cell) (old new : List Value) (k : ℕ) where
  -- what the cells that are left keep is what all keep
  abbrev pub Rest : Type 0
  Rest = AllKeep written k (map cell_meant (drop k cells)) (drop k old) (drop k new)

  abbrev pub All : Type 0
  All = AllKeep written 0 (map cell_meant cells) old new

  pub record LeftSo : Type 0 where
    pub rest : Rest → All
    pub all : All → Rest

pub left_start : (written : List CellPart) (cells : List Cell) (old new : List Value) → LeftSo written cells old new 0
left_start written cells old new = record { rest = λ h. h; all = λ h. h }

no_old : (written : List CellPart) (k : ℕ) (cs : List CellMeant) (ws : List Value) → AllKeep written k cs [] ws
unfolding AllKeep
no_old written k [] ws = tt
no_old written k (c ∷ cs) ws = tt

no_new : (written : List CellPart) (k : ℕ) (cs : List CellMeant) (vs : List Value) → AllKeep written k cs vs []
unfolding AllKeep
no_new written k [] vs = tt
no_new written k (c ∷ cs) [] = tt
no_new written k (c ∷ cs) (v ∷ vs) = tt

no_cells : (written : List CellPart) (k : ℕ) (vs ws : List Value) → AllKeep written k [] vs ws
unfolding AllKeep
no_cells written k vs ws = tt

module _ (written : List CellPart) (cells : List Cell) (old new : List Value) (k : ℕ) (so : LeftSo written cells old new k) where
  pub old_past : None ≡ slice_get old k → All written cells old new k
  old_past none = so.rest (subst (λ vs. AllKeep written k (map cell_meant (drop k cells)) vs (drop k new)) (sym (drop_past old k (sym none))) (no_old written k (map cell_meant (drop k cells)) (drop k new)))

  pub new_past : None ≡ slice_get new k → All written cells old new k
  new_past none = so.rest (subst (λ ws. AllKeep written k (map cell_meant (drop k cells)) (drop k old) ws) (sym (drop_past new k (sym none))) (no_new written k (map cell_meant (drop k cells)) (drop k old)))

  pub cells_past : length cells ≤ k → All written cells old new k
  cells_past past = so.rest (subst (λ cs. AllKeep written k (map cell_meant cs) (drop k old) (drop k new)) (sym (drop_all k cells past)) (no_cells written k (drop k old) (drop k new)))

  module _ (c : Cell) (within : k < length cells) (is : c ≡ get_or cells k c) (v w : Value) (before : Some v ≡ slice_get old k) (after : Some w ≡ slice_get new k) where
    abbrev pub Here : Type 0
    Here = Keeps (cell_like c.kind c.ty) k written v w

    abbrev Later : Type 0
    Later = AllKeep written (k + 1) (map cell_meant (drop (k + 1) cells)) (drop (k + 1) old) (drop (k + 1) new)

    split : Rest written cells old new k ≡ (Keeps (cell_meant c) k written v w × Later)
    unfolding AllKeep
    split = λ i. AllKeep written k (map cell_meant (drop_turn cells k c within is i)) (drop_at old k v (sym before) i) (drop_at new k w (sym after) i)

    to_cell : Here → Keeps (cell_meant c) k written v w
    to_cell keeps = record { kept = keeps.kept }

    from_cell : Keeps (cell_meant c) k written v w → Here
    from_cell keeps = record { kept = keeps.kept }

    pub left_more : Here → LeftSo written cells old new (k + 1)
    left_more keeps = record {
      rest = λ later. so.rest (subst (λ (P : Type 0). P) (sym split) (to_cell keeps, later));
      all = λ every. (subst (λ (P : Type 0). P) split (so.all every)).1;
    }

    pub keeps_here : All written cells old new k → Here
    keeps_here every = from_cell (subst (λ (P : Type 0). P) split (so.all every)).0
