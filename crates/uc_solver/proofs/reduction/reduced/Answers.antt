use Rattle.std.proofs.Common.{◌≡◌, ◌∙◌, sym, ap}
use Rattle.uc_solver.proofs.Finiteness.{simple_finite}
use Rattle.uc_solver.proofs.Reducing.{simple, reduces, grown_well, grows_both}
use Rattle.uc_solver.proofs.reduction.reduced.Goals as goal

pub lower-requires-clause-finite : goal.lower-requires-clause-finite
lower-requires-clause-finite c =
    let first = grown_well c.args.terms.now c.simplify.new.terms c.in_ok-simple.ensures.grown c.len-simple_shared.ensures.well in
    simple_finite c.args.terms.now c.simplify.new.terms c.args.goal c.in_ok-simple.simple
    (simple c.args.terms.now c.simplify.new.terms c.args.goal c.in_ok-simple.simple c.len-shared.ensures.well c.requires.there c.requires.finite first c.in_ok-simple.ensures.there c.in_ok-simple.ensures.features)

pub returns-clause-reduced : goal.returns-clause-reduced
returns-clause-reduced c =
    let first = grown_well c.args.terms.now c.simplify.new.terms c.in_ok-simple.ensures.grown c.len-simple_shared.ensures.well in
    reduces c.args.terms.now c.simplify.new.terms c.lower.new.terms c.args.goal c.in_ok-simple.simple c.in_ok-lowered.lowered.goal c.in_ok-lowered.lowered.map.pairs
    (record {
      well = c.len-shared.ensures.well;
      two = c.len-simple_shared.ensures.shared;
      last_two = c.len-lowered_shared.ensures.shared;
      there = c.requires.there;
      even = c.requires.even;
      finite = c.requires.finite;
      first = first;
      r_there = c.in_ok-simple.ensures.there;
      same = c.in_ok-simple.ensures.same;
      features = c.in_ok-simple.ensures.features;
      second = c.in_ok-lowered.ensures.grown;
      corresponds = c.in_ok-lowered.ensures.corresponds;
      is_map = c.in_ok-lowered.ensures.map;
      u_even = c.in_ok-lowered.ensures.even;
      lowered = c.in_ok-lowered.ensures.lowered;
      no_more_bits = c.in_ok-lowered.ensures.bits;
    })

pub returns-clause-grown : goal.returns-clause-grown
returns-clause-grown c = grows_both c.args.terms.now c.simplify.new.terms c.lower.new.terms c.in_ok-simple.ensures.grown c.in_ok-lowered.ensures.grown
