use Rattle.std.proofs.Common.{◌≡◌, drop}
use Rattle.std.specs.List.{list_all}
use Rattle.uc_rules.specs.Declarations.{inputs_in}
use Rattle.uc_declaration_rules.specs.Judging.{are_known}
use Rattle.uc_declaration_rules.proofs.instances.are_bound.Given as goal

abbrev pub invariant-loop-declaration : goal.invariant-loop-declaration
invariant-loop-declaration l = list_all (λ d. are_known l.known (inputs_in d)) (drop l.declaration-index l.declarations) ≡ list_all (λ d. are_known l.known (inputs_in d)) l.declarations
