-- The cells that a define or a bound input names itself, and those that it reads through its uses.
use Rattle.std.specs.Prelude.{◌≡◌, ◌⊎◌, ◌↔◌, ℕ, true, if◌then◌else◌, List, [], length, Option, Some, None}
use Rattle.std.specs.List.{flat_map}
use Rattle.std.specs.Option.{option_and_then}
use Rattle.uc_syntax.specs.declared.expression.Expr.{Expr}
use Rattle.uc_meaning.specs.Lookup.{System, Defined, module_at, define_of}
use Rattle.uc_meaning.specs.Cells.{as_list}
use Rattle.uc_meaning.specs.Expressions.{binding_of}
use Rattle.uc_meaning.specs.Code.{written_cell}
use Rattle.uc_rules.specs.Cycles.{leads_to}
use Rattle.uc_declared_types.specs.AliasLaw.{IsAmong}
use Rattle.uc_order_rules.specs.Roots.{NameAt, name_at, led, is_bound_input}
use Rattle.uc_order_rules.specs.Mentions.{Mention, Reads, Applies, ReadsOld, mentions}
use Rattle.uc_order_rules.specs.Uses.{Used, UsedDefine, UsedProcedure, UsedInput, all_uses, same_use, uses_of}
use Rattle.uc_order_rules.specs.Reads.{cells_read, name_reads}

-- a name that is a cell itself
abbrev pub named_cell : System → NameAt → List ℕ
named_cell system n = if is_bound_input system n then [] else as_list (written_cell system n.path n.name)

abbrev pub mentioned_cells : System → List ℕ → Mention → List ℕ
mentioned_cells system path (Reads x primed ys) = named_cell system (led system path x ys)
mentioned_cells system path (Applies f) = []
mentioned_cells system path (ReadsOld x) = named_cell system (name_at path x)

-- the cells that an expression names itself
abbrev pub cells_named : System → List ℕ → Expr → List ℕ
cells_named system path e = flat_map (mentioned_cells system path) (mentions e)

abbrev pub named_in_body : System → List ℕ → Option Defined → List ℕ
named_in_body system path None = []
named_in_body system path (Some d) = cells_named system path d.body

abbrev pub named_in_binding : System → Option (List ℕ × Expr) → List ℕ
named_in_binding system None = []
named_in_binding system (Some b) = cells_named system b.0 b.1

-- the cells that a define or a bound input names itself
abbrev pub own_cells : System → Used → List ℕ
own_cells system (UsedDefine n) = named_in_body system n.path (option_and_then (λ m. define_of m n.name) (module_at system n.path))
own_cells system (UsedInput n) = named_in_binding system (binding_of system n.path n.name)
own_cells system (UsedProcedure n) = []

-- some way of uses leads from one use to another one
abbrev pub UseLeads : System → Used → Used → Type 0
UseLeads system u v = (k : ℕ) × (leads_to k (uses_of system) (same_use v) u ≡ true)

-- where some way of uses leads from a bound input, one leads of no more steps than there are uses
abbrev pub UsesEnd : System → Type 0
UsesEnd system = (n : NameAt) (v : Used) → is_bound_input system n ≡ true → UseLeads system (UsedInput n) v → leads_to (length (all_uses system)) (uses_of system) (same_use v) (UsedInput n) ≡ true

-- a use that is this one or that ways lead to, and that names a cell
abbrev pub ReadsByUses : System → Used → ℕ → Type 0
ReadsByUses system u y = (v : Used) × ((u ≡ v) ⊎ UseLeads system u v) × IsAmong y (own_cells system v)

abbrev pub InputsReadUses : Type 0
InputsReadUses = (system : System) → UsesEnd system → (n : NameAt) → is_bound_input system n ≡ true → (y : ℕ) → IsAmong y (name_reads system (cells_read system) n) ↔ ReadsByUses system (UsedInput n) y
