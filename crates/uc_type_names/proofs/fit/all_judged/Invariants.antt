use Rattle.std.proofs.Common.{◌≡◌, drop}
use Rattle.uc_rules.specs.Rows.{all_judged}
use Rattle.uc_type_names.proofs.fit.all_judged.Given as goal

abbrev pub invariant-loop-ty : goal.invariant-loop-ty
invariant-loop-ty l = all_judged (drop l.ty-index l.types) ≡ all_judged l.types
