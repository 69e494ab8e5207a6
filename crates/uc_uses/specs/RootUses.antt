-- The uses below a root, with their graph.
use Rattle.std.specs.Prelude.{◌≡◌, Some}
use Rattle.uc_syntax.specs.declared.declaration.Module.{Module}
use Rattle.uc_meaning.specs.Lookup.{System, main_module}
use Rattle.uc_uses.specs.Trees.{IsTree}
use Rattle.uc_uses.specs.Tables.{KnowsUses}
use Rattle.uc_uses.specs.Resolving.{all_source_uses}
use Rattle.uc_uses.specs.declared.root.RootUses.{RootUses}

pub record IsRootUses (system : System) (m : Module) (r : RootUses) : Type 0 where
  pub main : main_module system ≡ Some m
  pub tree : IsTree system r.tree
  pub table : KnowsUses r.tree r.table
  pub graph : r.graph.uses ≡ all_source_uses r.tree r.table
