-- What an arranged block has to do with all orders of the statements of the block, and of its slices.
use Rattle.std.specs.Prelude.{◌≡◌, ℕ, true, List}
use Rattle.uc_syntax.specs.declared.statement.Stmt.{Stmt}
use Rattle.uc_flat_expressions.specs.declared.typed.Meant.{Meant}
use Rattle.uc_flat_order.specs.Arranged.{is_once, block_arranged, IsTakenFrom}

-- An arranged block has the statements of the block, or its slices. Where some order of either writes no part of a cell on a way after it was written there, or read in the new state, the arranged block writes none so; and a block that writes none so is arranged as it stands.
pub record OrderLaw : Type 0 where
  pub same : (names : List Meant) (n : ℕ) (code : List Stmt) → IsTakenFrom (block_arranged names n code) code
  pub enough : (names : List Meant) (n : ℕ) (code other : List Stmt) → IsTakenFrom other code → is_once names n other ≡ true → is_once names n (block_arranged names n code) ≡ true
  pub stays : (names : List Meant) (n : ℕ) (code : List Stmt) → is_once names n code ≡ true → block_arranged names n code ≡ code
