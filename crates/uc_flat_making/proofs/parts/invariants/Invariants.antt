use Rattle.std.proofs.Common.{◌≡◌, ◌++◌, drop}
use Rattle.std.specs.Option.{option_map}
use Rattle.uc_flat_design.specs.Design.{invariant_in, formulas_from}
use Rattle.uc_flat_making.proofs.parts.invariants.Given as goal

abbrev pub invariant-loop-k : goal.invariant-loop-k
invariant-loop-k l = formulas_from (invariant_in l.names) 0 l.decls ≡ option_map (λ xs. l.all ++ xs) (formulas_from (invariant_in l.names) l.k (drop l.k l.decls))
