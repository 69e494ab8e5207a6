use Rattle.std.proofs.Common.{sym, subst}
use Rattle.uc_ops.specs.Typing.{Suits}
use Rattle.uc_simplify.specs.Simplified.{Rebuilds}
use Rattle.std.specs.Prelude.{IfOk}
use Rattle.uc_simplify.proofs.Compared.{types_same, call_earlier}
use Rattle.uc_simplify.proofs.Standing.{Grows-trans}
use Rattle.uc_simplify.proofs.rebuild.on_integers.Goals as goal

pub build-requires-clause-suits : goal.build-requires-clause-suits
build-requires-clause-suits c =
    rw c.in_ok-copy_op-in-None.ensures (subst (Suits c.args.op.now) (sym (types_same c.args.terms.now c.normal.new.terms c.args.parts.now c.normal.ensures.grown c.requires.there)) c.requires.suits)

pub returns-in_ok-copy_op-in-None-clause-rebuilt : goal.returns-in_ok-copy_op-in-None-clause-rebuilt
returns-in_ok-copy_op-in-None-clause-rebuilt c =
    let made = subst (λ op. IfOk c.build.result (λ r. Rebuilds c.build.new.terms r c.normal.new.terms op c.args.parts.now)) c.in_ok-copy_op-in-None.ensures c.build.ensures.rebuilt in
    call_earlier c.args.terms.now c.normal.new.terms c.build.new.terms c.args.op.now c.args.parts.now c.build.result c.len-count.ensures.well c.normal.ensures.grown c.requires.there made

pub returns-in_ok-copy_op-in-None-clause-grown : goal.returns-in_ok-copy_op-in-None-clause-grown
returns-in_ok-copy_op-in-None-clause-grown c = Grows-trans _ _ _ c.normal.ensures.grown c.build.ensures.grown
