use Rattle.std.proofs.Common.{◌≡◌, List, sym, subst, Some, None, Err}
use Rattle.std.specs.Prelude.{if◌then◌else◌}
use Rattle.std.specs.Option.{option_and_then}
use Rattle.std.proofs.lemmas.Result.{err_from_is_err_and}
use Rattle.uc_flat.specs.declared.statement.Statement.{Statement}
use Rattle.uc_flat_expressions.specs.Answers.{IsAnswer}
use Rattle.uc_flat_expressions.specs.Expressions.{flat_of}
use Rattle.uc_flat_code.specs.Code.{assigned, spares, assign_of}
use Rattle.uc_flat_code.proofs.FlatCodeAssigning.{target_err, source_err, target_step, targets_done}
use Rattle.uc_flat_code.proofs.simple.assign.Goals as goal

pub returns-in_err-written : goal.returns-in_err-written
returns-in_err-written c =
    let names = c.args.names.now in
    let targets = c.args.targets.now in
    let sources = c.args.sources.now in
    let p = err_from_is_err_and c.from_residual.result c.from_residual.ensures.1 in
    let own = target_err names c.args.writing targets sources c.loop-k.before c.loop-k.all c.loop-k.k c.index-targets-k.result c.in_err-written.field-0.0 c.loop-k-test.true c.loop-k.invariant.0 c.index-targets-k.is c.loop-k.invariant.1
    c.in_err-written.ensures in
    subst (IsAnswer {A = List Statement} (assign_of names c.args.writing targets sources)) (sym p.1) (subst (λ e. IsAnswer {A = List Statement} (assign_of names c.args.writing targets sources) (Err e)) (sym p.2) own)

pub returns-in_err-more : goal.returns-in_err-more
returns-in_err-more c =
    let names = c.args.names.now in
    let targets = c.args.targets.now in
    let sources = c.args.sources.now in
    let t = c.index-targets-k.result in
    let e = c.index-sources-k.result in
    let at = c.in_ok-written.written in
    let err = c.in_err-more.field-0.0 in
    let p = err_from_is_err_and c.from_residual-in_err-more.result c.from_residual-in_err-more.ensures.1 in
    let first = subst (λ ps. IsAnswer {A = List Statement} (option_and_then (λ x. if spares c.as_slice.result.now x.expression then assigned at ps x else None) (flat_of names e)) (Err err)) c.as_slice-parts.ensures c.in_err-more.ensures in
    let made = subst (λ b. IsAnswer {A = List Statement} (option_and_then (λ x. if spares b x.expression then assigned at t.parts x else None) (flat_of names e)) (Err err)) c.as_slice.ensures first in
    let own = source_err names c.args.writing targets sources c.loop-k.before c.loop-k.all c.loop-k.k t e at err c.loop-k-test.true c.loop-k.invariant.0 c.index-targets-k.is c.index-sources-k.is c.loop-k.invariant.1 c.in_ok-written.ensures
    made in
    subst (IsAnswer {A = List Statement} (assign_of names c.args.writing targets sources)) (sym p.1) (subst (λ x. IsAnswer {A = List Statement} (assign_of names c.args.writing targets sources) (Err x)) (sym p.2) own)

pub loop-k-preserved : goal.loop-k-preserved
loop-k-preserved c =
    let names = c.args.names.now in
    let targets = c.args.targets.now in
    let sources = c.args.sources.now in
    let t = c.index-targets-k.result in
    let e = c.index-sources-k.result in
    let at = c.in_ok-written.written in
    let first = subst (λ ps. option_and_then (λ x. if spares c.as_slice.result.now x.expression then assigned at ps x else None) (flat_of names e) ≡ Some c.in_ok-more.more) c.as_slice-parts.ensures c.in_ok-more.ensures in
    let made = subst (λ b. option_and_then (λ x. if spares b x.expression then assigned at t.parts x else None) (flat_of names e) ≡ Some c.in_ok-more.more) c.as_slice.ensures first in (
      c.loop-k.invariant.0,
      target_step names c.args.writing targets sources c.loop-k.before c.push.new.self c.loop-k.all c.in_ok-more.more c.append.new.self c.loop-k.k t e at c.loop-k-test.true c.loop-k.invariant.0 c.index-targets-k.is c.index-sources-k.is c.loop-k.invariant.1
          c.in_ok-written.ensures made c.in_ok-append.ensures c.in_ok-push.ensures.ok,
    )

pub returns : goal.returns
returns c =
    targets_done c.args.names.now c.args.writing c.args.targets.now c.args.sources.now c.loop-k.before c.loop-k.all c.loop-k.k c.loop-k-test.false c.loop-k.invariant.0 c.loop-k.invariant.1
