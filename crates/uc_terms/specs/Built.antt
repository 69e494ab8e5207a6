-- What a table keeps where it is built term by term.
use Rattle.std.specs.Prelude.{◌≡◌, ℕ, ◌<◌, ◌≤◌, List, length}
use Rattle.uc_ops.specs.declared.node.Node.{Node}
use Rattle.uc_ops.specs.Typing.{type_at}

-- the terms that were there are there, with their types
pub record Keeps (old new : List Node) : Type 0 where
  pub longer : length old ≤ length new
  pub types : (p : ℕ) → p < length old → type_at new p ≡ type_at old p
