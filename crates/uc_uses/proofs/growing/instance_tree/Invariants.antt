use Rattle.std.proofs.Common.{◌≡◌, ℕ, Some}
use Rattle.std.specs.Prelude.{slice_get}
use Rattle.uc_meaning.specs.Lookup.{System}
use Rattle.uc_order_rules.specs.Roots.{rooted}
use Rattle.uc_uses.specs.Modules.{KnowsModules}
use Rattle.uc_uses.proofs.Grown.{GrownTo}
use Rattle.uc_uses.proofs.growing.instance_tree.Given as goal

abbrev pub invariant-loop-node : goal.invariant-loop-node
invariant-loop-node l = (s : System) (k : ℕ) → KnowsModules s.modules l.modules → slice_get s.modules k ≡ Some l.root → GrownTo (rooted s k) l.tree l.node
