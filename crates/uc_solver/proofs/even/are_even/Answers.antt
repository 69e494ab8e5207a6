use Rattle.std.proofs.Common.{◌≡◌, ◌∙◌, sym, ap, rules, arith, refl, true, false, nat_eq}
use Rattle.std.specs.HashMap.{get}
use Rattle.uc_solver.proofs.Nodes.{decides_no, decides_yes}
use Rattle.uc_solver.proofs.Signatures.{first_step, first_fails, all_even, earlier_of}
use Rattle.uc_solver.proofs.even.are_even.Goals as goal

pub fits_first-requires-clause-earlier : goal.fits_first-requires-clause-earlier
fits_first-requires-clause-earlier c = earlier_of c.args.kind c.args.terms.now c.args.marks.now c.loop-place.place (get nat_eq c.loop-place.first) c.loop-place.invariant

pub returns-then-not-branch : goal.returns-then-not-branch
returns-then-not-branch c =
    let fails : c.in_ok-fits_first.field-0 ≡ false = search rules in
    decides_no (first_fails c.args.kind c.args.terms.now c.args.marks.now c.loop-place.place _ c.in_ok-fits_first.field-0 (get nat_eq c.loop-place.first) (get nat_eq c.fits_first.new.first) (omega arith) refl fails c.in_ok-fits_first.ensures c.loop-place.invariant)

pub loop-place-preserved : goal.loop-place-preserved
loop-place-preserved c =
    let holds : c.in_ok-fits_first.field-0 ≡ true = search rules in
    first_step c.args.kind c.args.terms.now c.args.marks.now c.loop-place.place _ c.in_ok-fits_first.field-0 (get nat_eq c.loop-place.first) (get nat_eq c.fits_first.new.first) refl holds c.in_ok-fits_first.ensures c.loop-place.invariant

pub returns : goal.returns
returns c = decides_yes (all_even c.args.kind c.args.terms.now c.args.marks.now c.loop-place.place (get nat_eq c.loop-place.first) (omega arith) c.loop-place.invariant)
