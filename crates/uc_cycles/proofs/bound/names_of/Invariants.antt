use Rattle.std.proofs.Common.{◌≡◌, ℕ, take}
use Rattle.std.specs.Prelude.{nat_eq}
use Rattle.std.specs.List.{list_any}
use Rattle.uc_rules.specs.Names.{names_one_of}
use Rattle.uc_cycles.proofs.bound.names_of.Given as goal

abbrev pub invariant-loop-parameter : goal.invariant-loop-parameter
invariant-loop-parameter l = (x : ℕ) → names_one_of l.names x ≡ list_any (λ p. nat_eq x p.identifier.name) (take l.parameter-index l.parameters)
