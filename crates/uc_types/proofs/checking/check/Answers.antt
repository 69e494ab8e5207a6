use Rattle.std.proofs.Common.{Some, ap, sym, ◌∙◌}
use Rattle.uc_types.specs.Typed.{Typed}
use Rattle.uc_types.proofs.checking.check.Goals as goal

pub of-requires : goal.of-requires
of-requires c = record { name = c.args.main.now; is_main = c.in_ok-number.ensures.main; keeps = c.in_ok-number.ensures.kept }

pub returns-clause-main : goal.returns-clause-main
returns-clause-main c = c.in_ok-number.ensures.main ∙ ap (λ (t : Typed). Some t.main) (sym c.of.ensures)

pub returns-clause-kept : goal.returns-clause-kept
returns-clause-kept c = λ ok. c.in_ok-number.ensures.kept
