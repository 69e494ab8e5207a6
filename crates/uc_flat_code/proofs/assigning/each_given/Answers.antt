use Rattle.std.proofs.Common.{List, sym, subst, Err}
use Rattle.std.proofs.lemmas.Result.{err_from_is_err_and}
use Rattle.uc_flat.specs.declared.statement.Statement.{Statement}
use Rattle.uc_flat_expressions.specs.Answers.{IsAnswer}
use Rattle.uc_flat_code.specs.Code.{in_order}
use Rattle.uc_flat_code.specs.Init.{each_given}
use Rattle.uc_flat_code.proofs.Targets.{given_err, given_step, given_end}
use Rattle.uc_flat_code.proofs.assigning.each_given.Goals as goal

pub returns-in_err-more : goal.returns-in_err-more
returns-in_err-more c =
    let total = in_order (each_given c.args.names.now c.args.first c.args.targets.now c.args.values.now) in
    let p = err_from_is_err_and c.from_residual.result c.from_residual.ensures.1 in
    let own = given_err c.args.names.now c.args.first c.args.targets.now c.args.values.now c.loop-k.all total c.loop-k.k c.index-targets-k.result c.index-values-k.result c.in_err-more.field-0.0 c.loop-k-test.true c.loop-k.invariant.0 c.index-targets-k.is c.index-values-k.is
    c.loop-k.invariant.1 c.in_err-more.ensures in
    subst (IsAnswer {A = List Statement} total) (sym p.1) (subst (λ e. IsAnswer {A = List Statement} total (Err e)) (sym p.2) own)

pub loop-k-preserved : goal.loop-k-preserved
loop-k-preserved c = (
  c.loop-k.invariant.0,
  given_step c.args.names.now c.args.first c.args.targets.now c.args.values.now c.loop-k.all c.in_ok-more.more c.append.new.self _ c.loop-k.k c.index-targets-k.result c.index-values-k.result c.loop-k-test.true c.loop-k.invariant.0 c.index-targets-k.is c.index-values-k.is
      c.loop-k.invariant.1 c.in_ok-more.ensures c.in_ok-append.ensures,
)

pub returns : goal.returns
returns c = given_end c.args.names.now c.args.first c.args.targets.now c.args.values.now c.loop-k.all _ c.loop-k.k c.loop-k-test.false c.loop-k.invariant.0 c.loop-k.invariant.1
