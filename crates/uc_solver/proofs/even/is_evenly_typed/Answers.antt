use Rattle.std.proofs.Common.{◌≡◌, sym, ◌∙◌, subst, rules, true, false, [], ◌∷◌, length}
use Rattle.std.specs.Bool.{Decides}
use Rattle.std.proofs.lemmas.Bool.{false≢true}
use Rattle.uc_terms.specs.Subterms.{AreSubterms}
use Rattle.uc_solver.specs.declared.signature.Kind.TheVariants.{Symbols, Functions}
use Rattle.uc_solver.specs.Signatures.{AreEven}
use Rattle.uc_solver.proofs.Nodes.{decides_no, decides_too}
use Rattle.uc_solver.proofs.Joined.{both_even, symbols_even, functions_even}
use Rattle.uc_solver.proofs.even.is_evenly_typed.Goals as goal

pub returns-then-not-branch : goal.returns-then-not-branch
returns-then-not-branch c =
    let nodes = c.args.terms.now in
    let below = subst (AreSubterms nodes (c.args.t ∷ [])) (sym c.as_slice.ensures.value) c.in_ok-marks.ensures in
    let d : Decides c.in_ok-are_even.field-0 (AreEven Symbols nodes c.as_slice.result.now (length c.as_slice.result.now)) = c.in_ok-are_even.ensures in
    decides_no (λ e. false≢true (sym c.if-not-branch.true ∙ d.1 (symbols_even nodes c.args.t c.as_slice.result.now c.nodes-well_typed.ensures.well below e)))

pub returns : goal.returns
returns c =
    let nodes = c.args.terms.now in
    let marks = c.as_slice.result.now in
    let below = subst (AreSubterms nodes (c.args.t ∷ [])) (sym c.as_slice.ensures.value) c.in_ok-marks.ensures in
    let d : Decides c.in_ok-are_even.field-0 (AreEven Symbols nodes marks (length marks)) = c.in_ok-are_even.ensures in
    let holds : c.in_ok-are_even.field-0 ≡ true = search rules in
    let again : c.as_slice-2.result.now ≡ marks = c.as_slice-2.ensures.value ∙ sym c.as_slice.ensures.value in
    let f : Decides c.in_ok-functions.functions (AreEven Functions nodes marks (length marks)) = subst (λ ms. Decides c.in_ok-functions.functions (AreEven Functions nodes ms (length ms))) again c.in_ok-functions.ensures in
    decides_too c.in_ok-functions.functions f (both_even nodes c.args.t marks c.nodes-well_typed.ensures.well below (d.0 holds)) (functions_even nodes c.args.t marks c.nodes-well_typed.ensures.well below)
