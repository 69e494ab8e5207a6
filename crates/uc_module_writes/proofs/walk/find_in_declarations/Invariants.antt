use Rattle.uc_meaning.specs.Lookup.{next_in}
use Rattle.uc_module_writes.specs.Found.{FindsSteps, Steps, stretches}
use Rattle.uc_module_writes.proofs.Going.{OnFrom}
use Rattle.uc_module_writes.proofs.walk.find_in_declarations.Given as goal

abbrev pub invariant-loop-declaration : goal.invariant-loop-declaration
invariant-loop-declaration l = (steps : Steps) → FindsSteps l.table steps → OnFrom l.table.names.now (λ d. stretches l.effects steps (next_in d)) l.declarations l.fn.all l.declaration-index l.all
