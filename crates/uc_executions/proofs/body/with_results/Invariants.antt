use Rattle.std.proofs.Common.{◌≡◌, Some}
use Rattle.uc_syntax.specs.declared.declaration.Module.{Module}
use Rattle.uc_meaning.specs.Lookup.{module_at}
use Rattle.uc_executions.proofs.Declaring.{DeclaredTo}
use Rattle.uc_executions.proofs.body.with_results.Given as goal

abbrev pub invariant-loop-parameter : goal.invariant-loop-parameter
invariant-loop-parameter l = (m : Module) → module_at l.layout l.fn.run.scope.path ≡ Some m → DeclaredTo l.layout m l.choices l.results l.fn.run l.here l.parameter-index
