-- The nodes of paths.
use Rattle.std.proofs.Common.{◌≡◌, ℕ, List, [], ◌∷◌, ◌++◌, Option, Some, None, refl, ap, sym, ◌∙◌}
use Rattle.std.specs.Option.{option_and_then, option_map}
use Rattle.uc_syntax.specs.declared.declaration.Module.{Module}
use Rattle.uc_meaning.specs.Lookup.{System, main_module}
use Rattle.uc_uses.specs.declared.tree.Node.{Node}
use Rattle.uc_uses.specs.declared.tree.InstanceTree.{InstanceTree}
use Rattle.uc_uses.specs.Trees.{IsTree, code_at, instance_at, joined, node_at, node_from}
use Rattle.uc_uses.specs.PathLaw.{NodesHavePaths}
use Rattle.uc_uses.proofs.Paths.{trees_have_paths}
use Rattle.uc_step_cycles.proofs.Positions.{split_path}
use Rattle.uc_step_cycles.proofs.Lists.{none_some, some_same}

joined_some : (o : Option (Option ℕ)) (j : ℕ) → joined o ≡ Some j → o ≡ Some (Some j)
joined_some None j h = none_some j h
joined_some (Some o) j h = ap (λ q. Some q) h

module _ (system : System) (t : InstanceTree) (root : Module) (is_root : main_module system ≡ Some root) (tree : IsTree system t) where
  pub paths : NodesHavePaths system t
  paths = trees_have_paths system t root is_root tree

  upper_by : (q : List ℕ) (i j : ℕ) (o : Option ℕ) → node_at t q ≡ o → option_and_then (λ k. joined (instance_at t k i)) o ≡ Some j → (k : ℕ) × (node_at t q ≡ Some k) × (instance_at t k i ≡ Some (Some j))
  upper_by q i j None is h = none_some j h
  upper_by q i j (Some k) is h = (k, is, joined_some (instance_at t k i) j h)

  -- the node above one
  pub upper : (q : List ℕ) (i j : ℕ) → node_at t (q ++ i ∷ []) ≡ Some j → (k : ℕ) × (node_at t q ≡ Some k) × (instance_at t k i ≡ Some (Some j))
  upper q i j h = upper_by q i j (node_at t q) refl (sym (paths.last q i) ∙ h)

  code_above : (k i j : ℕ) → instance_at t k i ≡ Some (Some j) → (m : Module) × (code_at t j ≡ Some m)
  code_above k i j leads = let a = tree.above k i j leads in (a.0.code.now, ap (option_map (λ (z : Node). z.code.now)) a.1)

  root_code : (j : ℕ) → node_at t [] ≡ Some j → (m : Module) × (code_at t j ≡ Some m)
  unfolding node_from
  root_code j at = (root, ap (code_at t) (sym (some_same 0 j at)) ∙ tree.root ∙ is_root)

  -- the module of a node that a path leads to
  pub node_code : (path : List ℕ) (j : ℕ) → node_at t path ≡ Some j → (m : Module) × (code_at t j ≡ Some m)
  node_code path j at =
      split_path path
      (λ none. root_code j (ap (node_at t) (sym none) ∙ at))
      (λ q i is. let k = upper q i j (ap (node_at t) (sym is) ∙ at) in code_above k.0 i j k.2)
