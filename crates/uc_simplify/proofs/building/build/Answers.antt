use Rattle.std.proofs.Common.{sym, subst}
use Rattle.uc_terms.specs.Tables.{WellTyped}
use Rattle.uc_terms.proofs.Sharing.{made-within, made-type}
use Rattle.uc_simplify_steps.proofs.Features.{brings-made}
use Rattle.uc_simplify.proofs.building.build.Goals as goal

pub returns-in_err-made-clause-well : goal.returns-in_err-made-clause-well
returns-in_err-made-clause-well c = subst WellTyped (sym c.in_err-made.ensures.err) c.len-before.ensures.well

pub returns-clause-rebuilt : goal.returns-clause-rebuilt
returns-clause-rebuilt c =
    let a = c.in_ok-made.ensures.ok in
    record {
      there = made-within c.args.terms.now c.mk.new.self c.in_ok-made.made c.args.op c.args.parts.now a;
      same = c.in_ok-made.ensures.value;
      ty = made-type c.args.terms.now c.mk.new.self c.in_ok-made.made c.args.op c.args.parts.now a;
      features = λ f. brings-made c.args.terms.now c.mk.new.self c.in_ok-made.made c.args.op c.args.parts.now f c.len-before.ensures.well a c.requires.there;
    }
