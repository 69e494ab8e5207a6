-- Uses and calls: a define uses what its body reads, a bound input what its expression reads, a procedure what it calls and reads.
use Rattle.std.specs.Prelude.{ℕ, zero, suc, Bool, true, false, ◌&&◌, nat_eq, if◌then◌else◌, List, [], ◌∷◌, ◌++◌, map, length, Option, Some, None}
use Rattle.std.specs.List.{flat_map, list_any}
use Rattle.std.specs.Option.{is_some, option_and_then}
use Rattle.uc_lexer.specs.declared.place.Place.{Place}
use Rattle.uc_syntax.specs.declared.expression.Expr.{Expr}
use Rattle.uc_syntax.specs.declared.declaration.Binding.{Binding}
use Rattle.uc_syntax.specs.declared.declaration.Clause.{Clause}
use Rattle.uc_syntax.specs.declared.declaration.Clause.TheVariants.{Requires, Ensures, Modifies}
use Rattle.uc_syntax.specs.declared.declaration.Procedure.{Procedure as ProcedureParts}
use Rattle.uc_syntax.specs.declared.declaration.Decl.{Decl}
use Rattle.uc_syntax.specs.declared.declaration.Decl.TheVariants.{Define, Procedure, Instance}
use Rattle.uc_syntax.specs.declared.declaration.Module.{Module}
use Rattle.uc_meaning.specs.Lookup.{System, Defined, module_at, define_of, procedure_of}
use Rattle.uc_meaning.specs.Cells.{same_path, InstanceAt, longest_chain}
use Rattle.uc_meaning.specs.Expressions.{binding_of}
use Rattle.uc_rules.specs.declared.fault.Fault.{Fault}
use Rattle.uc_rules.specs.declared.rule.Rule.TheVariants.{Cycle}
use Rattle.uc_rules.specs.Faults.{breaks_where}
use Rattle.uc_rules.specs.Cycles.{leads_to}
use Rattle.uc_order_rules.specs.Roots.{NameAt, name_at, led, is_bound_input, instances_in}
use Rattle.uc_order_rules.specs.Mentions.{Mention, Reads, Applies, ReadsOld, mentions, expressions_in, calls_in}

-- A define, a procedure or a bound input of the module at a path. Each instance has its own.
pub data Used : Type 0 where
  UsedDefine : NameAt → Used
  UsedProcedure : NameAt → Used
  UsedInput : NameAt → Used

abbrev pub same_name_at : NameAt → NameAt → Bool
same_name_at a b = same_path a.path b.path && nat_eq a.name b.name

abbrev pub same_use : Used → Used → Bool
same_use (UsedDefine a) (UsedDefine b) = same_name_at a b
same_use (UsedProcedure a) (UsedProcedure b) = same_name_at a b
same_use (UsedInput a) (UsedInput b) = same_name_at a b
same_use a b = false

-- a name that is read: where it is a bound input, the expression that is bound to it is used
abbrev pub name_uses : System → NameAt → List Used
name_uses system n = if is_bound_input system n then UsedInput n ∷ [] else []

abbrev pub define_uses : List ℕ → ℕ → Option Defined → List Used
define_uses path f (Some d) = UsedDefine (name_at path f) ∷ []
define_uses path f None = []

abbrev pub mention_uses : System → List ℕ → Mention → List Used
mention_uses system path (Reads x primed ys) = name_uses system (led system path x ys)
mention_uses system path (Applies f) = define_uses path f (option_and_then (λ m. define_of m f) (module_at system path))
mention_uses system path (ReadsOld x) = name_uses system (name_at path x)

-- what an expression uses in the module at a path
abbrev pub expression_uses : System → List ℕ → Expr → List Used
expression_uses system path e = flat_map (mention_uses system path) (mentions e)

abbrev pub clause_expressions : Clause → List Expr
clause_expressions (Requires place e) = e ∷ []
clause_expressions (Ensures place e) = e ∷ []
clause_expressions (Modifies place is) = []

-- what a procedure uses: those that its body calls, and what its clauses and the expressions of its body use
abbrev pub procedure_uses : System → List ℕ → Option ProcedureParts → List Used
procedure_uses system path None = []
procedure_uses system path (Some p) =
    map (λ q. UsedProcedure (name_at path q)) (flat_map calls_in p.body)
    ++ flat_map (expression_uses system path) (flat_map clause_expressions p.clauses ++ flat_map expressions_in p.body)

abbrev pub body_uses : System → List ℕ → Option Defined → List Used
body_uses system path None = []
body_uses system path (Some d) = expression_uses system path d.body

abbrev pub binding_uses : System → Option (List ℕ × Expr) → List Used
binding_uses system None = []
binding_uses system (Some b) = expression_uses system b.0 b.1

-- what one use uses in turn
abbrev pub uses_of : System → Used → List Used
uses_of system (UsedDefine n) = body_uses system n.path (option_and_then (λ m. define_of m n.name) (module_at system n.path))
uses_of system (UsedProcedure n) = procedure_uses system n.path (option_and_then (λ m. procedure_of m n.name) (module_at system n.path))
uses_of system (UsedInput n) = binding_uses system (binding_of system n.path n.name)

-- The defines, procedures and bound inputs below the root, with their places: the word of a define or procedure, the name of a binding.
pub record UsePlace : Type 0 where
  pub used : Used
  pub place : Place

abbrev pub binding_places : System → List ℕ → Binding → List UsePlace
binding_places system path b =
    if is_bound_input system (name_at path b.identifier.name) then record { used = UsedInput (name_at path b.identifier.name); place = b.identifier.place } ∷ [] else []

abbrev pub uses_in : System → InstanceAt → Decl → List UsePlace
uses_in system here (Define place i ps type body) = record { used = UsedDefine (name_at here.path i.name); place = place } ∷ []
uses_in system here (Procedure place p) = record { used = UsedProcedure (name_at here.path p.identifier.name); place = place } ∷ []
uses_in system here (Instance place i n bindings) = flat_map (binding_places system (here.path ++ i.name ∷ [])) bindings
uses_in system here other = []

unfoldable pub all_uses : System → List UsePlace
all_uses system = flat_map (λ here. flat_map (uses_in system here) here.code.decls) (instances_in system)

-- a use on a cycle: some way of uses and calls leads from it to itself
abbrev pub on_use_cycle : System → Used → Bool
on_use_cycle system u = leads_to (length (all_uses system)) (uses_of system) (same_use u) u

-- each define, procedure and bound input on a cycle is a fault; the first of them is the one that is answered
abbrev pub use_cycles : System → List Fault
use_cycles system = flat_map (λ u. breaks_where (on_use_cycle system u.used) Cycle u.place) (all_uses system)

-- whether a way of so many steps begins at x
unfoldable pub has_way : {A : Type 0} → ℕ → (A → List A) → A → Bool
has_way zero steps x = true
has_way (suc n) steps x = list_any (has_way n steps) (steps x)

-- a chain of uses and calls has more than 32 defines, procedures and bound inputs
abbrev pub has_long_chain : System → Bool
has_long_chain system = list_any (λ u. has_way longest_chain (uses_of system) u.used) (all_uses system)
