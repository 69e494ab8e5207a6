use Rattle.std.proofs.Common.{◌≡◌, drop}
use Rattle.uc_meaning.specs.Lookup.{first_some, some_if, is_named}
use Rattle.uc_lookup.proofs.declarations.bound_to.Given as goal

abbrev pub invariant-loop-binding : goal.invariant-loop-binding
invariant-loop-binding l = first_some (λ b. some_if (is_named l.name b.identifier) b.expression) (drop l.binding-index l.bindings) ≡ first_some (λ b. some_if (is_named l.name b.identifier) b.expression) l.bindings
