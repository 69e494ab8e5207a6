-- The uses of a root by their numbers.
use Rattle.std.specs.Prelude.{◌≡◌, ◌↔◌, ℕ, ◌<◌, List, [], length, is_some, Option, Some, None}
use Rattle.std.specs.Option.{option_and_then}
use Rattle.uc_syntax.specs.declared.declaration.Module.{Module}
use Rattle.uc_meaning.specs.Lookup.{System, main_module}
use Rattle.uc_graph.specs.Order.{needs}
use Rattle.uc_graph.specs.Cycles.{LiesOnCycle}
use Rattle.uc_order_rules.specs.Roots.{NameAt, is_bound_input}
use Rattle.uc_order_rules.specs.Uses.{Used, UsedDefine, UsedProcedure, UsedInput, has_way, uses_of}
use Rattle.uc_uses.specs.Ways.{Leads}
use Rattle.uc_uses.specs.declared.tree.InstanceTree.{InstanceTree}
use Rattle.uc_uses.specs.Trees.{IsTree, node_at}
use Rattle.uc_uses.specs.declared.uses.UseKind.{UseKind}
use Rattle.uc_uses.specs.declared.uses.UseKind.TheVariants.{Define, Procedure, Input}
use Rattle.uc_uses.specs.declared.table.UseTable.{UseTable}
use Rattle.uc_uses.specs.Tables.{KnowsUses, number, use_name}
use Rattle.uc_uses.specs.Resolving.{all_source_uses}

-- the number of a name at a path
abbrev pub numbered : InstanceTree → UseTable → UseKind → NameAt → Option ℕ
numbered t u kind n = option_and_then (λ k. number u (use_name kind k n.name)) (node_at t n.path)

abbrev pub number_of : InstanceTree → UseTable → Used → Option ℕ
number_of t u (UsedDefine n) = numbered t u Define n
number_of t u (UsedProcedure n) = numbered t u Procedure n
number_of t u (UsedInput n) = numbered t u Input n

-- Bound inputs have numbers, and so has each define and procedure that uses something. From a number the graph leads on as uses do.
pub record FollowsUses (system : System) (t : InstanceTree) (u : UseTable) (graph : List (List ℕ)) : Type 0 where
  pub inputs : (n : NameAt) → is_some (number_of t u (UsedInput n)) ≡ is_bound_input system n
  pub defines : (n : NameAt) → number_of t u (UsedDefine n) ≡ None → uses_of system (UsedDefine n) ≡ []
  pub procedures : (n : NameAt) → number_of t u (UsedProcedure n) ≡ None → uses_of system (UsedProcedure n) ≡ []
  pub owners : (i : ℕ) → i < length graph → (v : Used) × (number_of t u v ≡ Some i)
  pub within : (v : Used) (i : ℕ) → number_of t u v ≡ Some i → i < length graph
  pub ways : (n : ℕ) (v : Used) (i : ℕ) → number_of t u v ≡ Some i → has_way n (needs graph) i ≡ has_way n (uses_of system) v
  pub cycles : (v : Used) (i : ℕ) → number_of t u v ≡ Some i → LiesOnCycle graph i ↔ Leads system v v

abbrev pub GraphsFollowUses : Type 0
GraphsFollowUses =
    (system : System) (m : Module) (t : InstanceTree) (u : UseTable) → main_module system ≡ Some m → IsTree system t → KnowsUses t u → FollowsUses system t u (all_source_uses t u)
