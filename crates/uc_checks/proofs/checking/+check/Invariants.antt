use Rattle.std.proofs.Common.{◌≡◌, ◌+◌, ◌*◌, drop}
use Rattle.std.specs.List.{flat_map}
use Rattle.uc_meaning.specs.Lookup.{next_in}
use Rattle.uc_operators.specs.Overflows.{first_wide}
use Rattle.uc_readings.specs.Scopes.{scope_in}
use Rattle.uc_checks.specs.Watches.{watched}
use Rattle.uc_runs.proofs.Sizes.{size, sizes, arms_size}
use Rattle.uc_runs.proofs.Levels.{levels}
use Rattle.uc_checks.specs.Levels.{check_at, check_met_at, turns_at, turns_met_at}
use Rattle.uc_checks.proofs.Blocks.{blocks, decl_size, decls_size}
use Rattle.uc_checks.proofs.checking.+check.Given as goal

abbrev pub decreases-check_each : goal.decreases-check_each
decreases-check_each l = levels l.below (blocks l.layout.now) + (4 * sizes l.code.now + 1)

abbrev pub decreases-check_one : goal.decreases-check_one
decreases-check_one l = levels l.below (blocks l.layout.now) + 4 * size l.statement.now

abbrev pub decreases-check_taken : goal.decreases-check_taken
decreases-check_taken l = levels l.below (blocks l.layout.now) + (4 * arms_size l.arms.now l.otherwise.now + 2)

abbrev pub decreases-check_turns : goal.decreases-check_turns
decreases-check_turns l = levels l.below (blocks l.layout.now) + (4 * sizes l.block.now + 3)

abbrev pub decreases-check_turn : goal.decreases-check_turn
decreases-check_turn l = levels l.below (blocks l.layout.now) + (4 * sizes l.block.now + 2)

abbrev pub decreases-check_instance : goal.decreases-check_instance
decreases-check_instance l = levels l.below (blocks l.layout.now) + 2

abbrev pub decreases-check_decls : goal.decreases-check_decls
decreases-check_decls l = levels l.below (blocks l.layout.now) + (4 * decls_size l.decls.now + 3)

abbrev pub decreases-check_decl : goal.decreases-check_decl
decreases-check_decl l = levels l.below (blocks l.layout.now) + (4 * decl_size l.decl.now + 2)

abbrev pub invariant-check_each-loop-statement : goal.invariant-check_each-loop-statement
invariant-check_each-loop-statement l = record {
  value : check_at l.below l.layout (drop l.statement-index l.code) (watched (scope_in l.scope) l.choices l.here) ≡ check_at l.below l.layout l.code (watched (scope_in l.scope) l.choices l.fn.seen);
  wide : first_wide (check_met_at l.below l.layout (drop l.statement-index l.code) (watched (scope_in l.scope) l.choices l.here)) ≡ first_wide (check_met_at l.below l.layout l.code (watched (scope_in l.scope) l.choices l.fn.seen));
}

abbrev pub invariant-check_turns-loop-value : goal.invariant-check_turns-loop-value
invariant-check_turns-loop-value l = record {
  value : turns_at l.below l.layout l.variable l.ty l.block (drop l.value-index l.values) (watched (scope_in l.scope) l.choices l.here) ≡ turns_at l.below l.layout l.variable l.ty l.block l.values (watched (scope_in l.scope) l.choices l.fn.seen);
  wide : first_wide (turns_met_at l.below l.layout l.variable l.ty l.block (drop l.value-index l.values) (watched (scope_in l.scope) l.choices l.here)) ≡ first_wide (turns_met_at l.below l.layout l.variable l.ty l.block l.values (watched (scope_in l.scope) l.choices l.fn.seen));
}

abbrev pub invariant-check_decls-loop-decl : goal.invariant-check_decls-loop-decl
invariant-check_decls-loop-decl l = record {
  value : check_at l.below l.layout (flat_map next_in (drop l.decl-index l.decls)) (watched (scope_in l.scope) l.choices l.here) ≡ check_at l.below l.layout (flat_map next_in l.decls) (watched (scope_in l.scope) l.choices l.fn.seen);
  wide : first_wide (check_met_at l.below l.layout (flat_map next_in (drop l.decl-index l.decls)) (watched (scope_in l.scope) l.choices l.here)) ≡ first_wide (check_met_at l.below l.layout (flat_map next_in l.decls) (watched (scope_in l.scope) l.choices l.fn.seen));
}
