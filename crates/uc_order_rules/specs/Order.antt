-- All faults of order and size of a design that keeps the static rules.
use Rattle.std.specs.Prelude.{◌≡◌, ℕ, zero, suc, Bool, true, false, ◌||◌, ◌&&◌, not, if◌then◌else◌, List, [], ◌∷◌, ◌++◌, length, nat_lt, Option, Some, None}
use Rattle.std.specs.List.{flat_map, list_any}
use Rattle.uc_lexer.specs.declared.place.Place.{Place}
use Rattle.uc_syntax.specs.declared.declaration.Module.{Module}
use Rattle.uc_meaning.specs.Lookup.{System, main_module}
use Rattle.uc_meaning.specs.Cells.{as_list, cells_of}
use Rattle.uc_rules.specs.declared.fault.Fault.{Fault}
use Rattle.uc_rules.specs.declared.rule.Rule.TheVariants.{TooLarge}
use Rattle.uc_rules.specs.Faults.{breaks_where, IsFirst}
use Rattle.uc_order_rules.specs.Roots.{rooted}
use Rattle.uc_order_rules.specs.Uses.{use_cycles, has_long_chain}
use Rattle.uc_order_rules.specs.Writes.{twice_assigned, is_empty}
use Rattle.uc_order_rules.specs.Stepped.{stepped_twice}
use Rattle.uc_order_rules.specs.Dependence.{cyclic_steps}
use Rattle.uc_order_rules.specs.Sizes.{label_faults, turn_faults, has_deep_chain, has_deep_module, has_many_instances, most_cells, is_too_large}

-- a module with the design of which it is the root
abbrev pub Root : Type 0
Root = System × Module

unfoldable pub roots_from : System → ℕ → List Module → List Root
roots_from system k [] = []
roots_from system k (m ∷ ms) = (rooted system k, m) ∷ roots_from system (suc k) ms

abbrev pub roots : System → List Root
roots system = roots_from system 0 system.modules

-- No chain of instances from the root down has more than 32 modules, the root counted, and no more than 65,535 instances stand below it. Only
-- such roots are judged by the rules that follow uses from instance to instance. A root in use that passes one of these limits makes main pass
-- it too; of one that isn't in use nothing is ever made.
abbrev pub is_judged : Root → Bool
is_judged r = not (has_deep_chain r.0 r.1 || has_many_instances r.0)

-- cycles of uses and calls
abbrev pub cycles_in : Root → List Fault
cycles_in r = if is_judged r then use_cycles r.0 else []

abbrev pub cycles : System → List Fault
cycles system = flat_map cycles_in (roots system)

-- loops that are too long, and enums that are too large, by themselves
abbrev pub loop_faults : System → List Fault
loop_faults system = flat_map turn_faults system.modules

abbrev pub enum_faults : System → List Fault
enum_faults system = flat_map label_faults system.modules

abbrev pub size_faults : System → List Fault
size_faults system = loop_faults system ++ enum_faults system

-- cells that depend on themselves
abbrev pub dependence_in : Root → List Fault
dependence_in r = if is_judged r then cyclic_steps r.0 else []

-- What a module writes or steps twice. No path of instances is followed there, so it is the same for every root.
abbrev pub twice_faults : System → Module → List Fault
twice_faults system m = twice_assigned system m ++ stepped_twice m

-- all faults of steps
abbrev pub step_faults : System → List Fault
step_faults system = flat_map (twice_faults system) system.modules ++ flat_map dependence_in (roots system)

-- a chain of uses and calls that is too long
abbrev pub has_long_uses : Root → Bool
has_long_uses r = is_judged r && has_long_chain r.0

-- a chain of instances is too long, or there are too many instances or cells
abbrev pub has_large_tree : System → Bool
has_large_tree system = has_deep_module system || (has_many_instances system || nat_lt most_cells (length (cells_of system)))

-- the limits on the whole, at the place of main, where cycles are in order or not, and where loops are too
abbrev pub whole_faults_if : System → Bool → Bool → List Fault
whole_faults_if system acyclic bounded =
    flat_map (λ m. breaks_where (has_large_tree system || ((acyclic && list_any has_long_uses (roots system)) || (bounded && is_too_large system))) TooLarge m.place) (as_list (main_module system))

-- How long chains of instances are, and how many instances and cells there are, rests on nothing that is judged here. Chains of uses rest on cycles, and what main
-- expands to on cycles and loops: they are judged where none of these is at fault.
abbrev pub whole_faults : System → List Fault
whole_faults system = whole_faults_if system (is_empty (cycles system)) (is_empty (cycles system) && is_empty (loop_faults system))

-- All faults, in no order.
unfoldable pub order_faults : System → List Fault
order_faults system = cycles system ++ (step_faults system ++ (size_faults system ++ whole_faults system))

-- No rule is broken.
abbrev pub KeepsOrder : System → Type 0
KeepsOrder system = order_faults system ≡ []

-- A fault of the first place and, there, of the least number.
abbrev pub IsFirstOrderFault : System → Fault → Type 0
IsFirstOrderFault system f = IsFirst f (order_faults system)
