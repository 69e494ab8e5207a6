-- The formulas of a design that a trace is asked.
use Rattle.std.specs.Prelude.{ℕ, List, Option, Some, None}
use Rattle.uc_syntax.specs.declared.expression.Expr.{Expr}
use Rattle.uc_syntax.specs.declared.declaration.Decl.{Decl}
use Rattle.uc_meaning.specs.declared.scope.Scope.{Scope}
use Rattle.uc_meaning.specs.declared.scope.State.{State}
use Rattle.uc_meaning.specs.declared.scope.Interp.{Interp}
use Rattle.uc_meaning.specs.Lookup.{System, some_if, axiom_in, invariant_in, hyperinvariant_in, hyperaxiom_in}
use Rattle.uc_meaning.specs.Cells.{InstanceAt, instances}
use Rattle.uc_meaning.specs.Expressions.{is_true}
use Rattle.uc_meaning.specs.Overflow.{met}
use Rattle.uc_meaning.specs.Steps.{scope_of}
use Rattle.uc_meaning.specs.Runs.{of_arity, no_state, copies_scope}
use Rattle.uc_executions.specs.declared.kind.FormulaKind.{FormulaKind}
use Rattle.uc_executions.specs.declared.kind.FormulaKind.TheVariants.{Axiom, Invariant, Hyperinvariant, Hyperaxiom}
use Rattle.uc_executions.specs.declared.seen.Seen.{Seen}
use Rattle.uc_executions.specs.Asked.{Asked, nothing_asked, ask_each}

-- a hyper formula, where it is of n copies
abbrev pub of_copies : ℕ → Option (ℕ × Expr) → Option Expr
of_copies n None = None
of_copies n (Some h) = some_if (of_arity n h) h.1

-- the formula of a kind that a declaration states
abbrev pub formula_in : FormulaKind → Decl → Option Expr
formula_in Axiom d = axiom_in d
formula_in Invariant d = invariant_in d
formula_in (Hyperinvariant n) d = of_copies n (hyperinvariant_in d)
formula_in (Hyperaxiom n) d = of_copies n (hyperaxiom_in d)

-- where formulas of the instance at a path are read
abbrev pub scope_seen : Seen → List ℕ → Scope
scope_seen s path = record (scope_of s.interp.now path s.state.now) { copies = s.copies.now }

-- whether a formula is true
abbrev pub truth_asked : System → Scope → Expr → Asked
truth_asked system s e = record { holds = is_true system s e; met = met system s e }

abbrev pub truth_if : System → Scope → Option Expr → Asked
truth_if system s None = nothing_asked
truth_if system s (Some e) = truth_asked system s e

abbrev pub formula_asked : System → FormulaKind → Scope → Decl → Asked
formula_asked system kind s d = truth_if system s (formula_in kind d)

-- whether all formulas of a kind of an instance, and of several, are true
abbrev pub formulas_at : System → FormulaKind → (List ℕ → Scope) → InstanceAt → Asked
formulas_at system kind seen here = ask_each (formula_asked system kind (seen here.path)) here.code.decls

abbrev pub formulas_asked : System → FormulaKind → (List ℕ → Scope) → List InstanceAt → Asked
formulas_asked system kind seen instances = ask_each (formulas_at system kind seen) instances

-- whether all axioms are true under an interpretation, all invariants in a state, and all hyper formulas of n copies of states
abbrev pub axioms_asked : System → Interp → Asked
axioms_asked system i = formulas_asked system Axiom (λ path. scope_of i path no_state) (instances system)

abbrev pub invariants_asked : System → Interp → State → Asked
invariants_asked system i s = formulas_asked system Invariant (λ path. scope_of i path s) (instances system)

abbrev pub hyperinvariants_asked : System → Interp → ℕ → List State → Asked
hyperinvariants_asked system i n states = formulas_asked system (Hyperinvariant n) (λ path. copies_scope i path states) (instances system)

abbrev pub hyperaxioms_asked : System → Interp → ℕ → List State → Asked
hyperaxioms_asked system i n states = formulas_asked system (Hyperaxiom n) (λ path. copies_scope i path states) (instances system)
