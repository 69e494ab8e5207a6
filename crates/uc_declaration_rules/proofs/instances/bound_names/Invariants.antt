use Rattle.std.proofs.Common.{take}
use Rattle.uc_declaration_rules.specs.Judging.{KnowsBindings}
use Rattle.uc_declaration_rules.proofs.instances.bound_names.Given as goal

abbrev pub invariant-loop-binding : goal.invariant-loop-binding
invariant-loop-binding l = KnowsBindings (take l.binding-index l.bindings) l.known
