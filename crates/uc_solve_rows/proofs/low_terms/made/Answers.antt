use Rattle.uc_terms.proofs.Sharing.{made-type, made-keeps, made-length}
use Rattle.uc_solve_rows.proofs.Lowness.{made-low, kept-low, parts-there}
use Rattle.uc_solve_rows.proofs.low_terms.made.Goals as goal

pub mk-requires-clause-there : goal.mk-requires-clause-there
mk-requires-clause-there c = parts-there c.args.terms.now c.args.parts.now c.requires.parts

pub returns-clause-low : goal.returns-clause-low
returns-clause-low c =
    made-low c.args.terms.now c.mk.new.self c.in_ok-t.t c.args.op c.args.parts.now c.nodes-well_typed.ensures.well c.in_ok-t.ensures.ok c.requires.parts c.requires.bits

pub returns-clause-ty : goal.returns-clause-ty
returns-clause-ty c = made-type c.args.terms.now c.mk.new.self c.in_ok-t.t c.args.op c.args.parts.now c.in_ok-t.ensures.ok

pub returns-clause-keeps : goal.returns-clause-keeps
returns-clause-keeps c =
    let a = c.in_ok-t.ensures.ok in
    record {
      longer = made-length c.args.terms.now c.mk.new.self c.in_ok-t.t c.args.op c.args.parts.now a;
      types = made-keeps c.args.terms.now c.mk.new.self c.in_ok-t.t c.args.op c.args.parts.now a;
    }

pub returns-clause-kept : goal.returns-clause-kept
returns-clause-kept c = kept-low c.args.terms.now c.mk.new.self c.in_ok-t.t c.args.op c.args.parts.now c.nodes-well_typed.ensures.well c.in_ok-t.ensures.ok
