use Rattle.std.proofs.Common.{◌≡◌, ◌<◌, ◌≤◌, refl, sym, ap, ◌∙◌, subst, arith, length, slice_get, Some}
use Rattle.uc_solver.specs.Inputs.{IsTermBit}
use Rattle.uc_solver.proofs.Setting.{atom_within, set_next, item_of}
use Rattle.uc_solver.proofs.inputs.words.Goals as goal

pub set-requires : goal.set-requires
set-requires c =
    let at = item_of c.args.atoms.now c.loop-place.place c.index-atoms-place.result c.index-atoms-place.is c.loop-place-test.true in
    atom_within c.args.terms.now (length c.loop-place.words.items) c.index-atoms-place.result c.nodes-well_typed.ensures.well c.loop-place.invariant.long (at.1 (IsTermBit c.args.terms.now) c.requires.bits)

pub loop-place-preserved : goal.loop-place-preserved
loop-place-preserved c =
    let at = item_of c.args.atoms.now c.loop-place.place c.index-atoms-place.result c.index-atoms-place.is c.loop-place-test.true in
    set_next c.args.terms.now c.args.atoms.now c.args.inputs.now c.loop-place.place c.index-atoms-place.result _ c.loop-place.words.items c.set.new.words.items c.requires.different (at.1 (IsTermBit c.args.terms.now) c.requires.bits) at.0
    refl c.set.ensures c.loop-place.invariant
