use Rattle.std.proofs.Common.{◌≡◌, sym, ap, ◌∙◌, subst, drop}
use Rattle.std.specs.Bool.{IsTrue}
use Rattle.uc_values.specs.Values.{fits}
use Rattle.uc_values.proofs.Fitting.{zero-fits}
use Rattle.uc_solver.proofs.Reading.{decoded_some, decoded_other}
use Rattle.uc_solver.proofs.codes.decoded.Goals as goal

pub returns-then-fits-clause-decoded : goal.returns-then-fits-clause-decoded
returns-then-fits-clause-decoded c = decoded_some c.args.ty.now c.args.codes.now (drop c.read.new.next c.args.codes.now) c.in_ok-value.value c.in_ok-value.ensures

pub returns-clause-fits : goal.returns-clause-fits
returns-clause-fits c = subst (λ v. IsTrue (fits c.args.ty.now v)) (sym c.in_ok-other.ensures) (zero-fits c.args.ty.now c.requires)

pub returns-clause-decoded : goal.returns-clause-decoded
returns-clause-decoded c =
    decoded_other c.args.ty.now c.args.codes.now (drop c.read.new.next c.args.codes.now) c.in_ok-value.value c.in_ok-other.other c.in_ok-value.ensures (sym c.fits.ensures ∙ c.if-fits.false)
