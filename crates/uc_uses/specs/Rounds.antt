-- The flags of nodes.
use Rattle.std.specs.Prelude.{ℕ, Bool, List, slice_index_or}
use Rattle.std.specs.List.{list_any}

-- one of some nodes has its flag; a number past the flags has this one
abbrev pub any_flag : List Bool → Bool → List ℕ → Bool
any_flag flags past nodes = list_any (λ n. slice_index_or flags n past) nodes
