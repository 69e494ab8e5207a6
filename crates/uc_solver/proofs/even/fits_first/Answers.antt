use Rattle.std.proofs.Common.{◌≡◌, ◌∙◌, sym, ap, subst, rules, arith, Some, None, true, nat_eq}
use Rattle.std.specs.HashMap.{get}
use Rattle.uc_solver.specs.Signatures.{number_at, IsStep}
use Rattle.uc_solver.proofs.Signatures.{again_step, new_step}
use Rattle.uc_solver.proofs.Joined.{number_node}
use Rattle.uc_solver.proofs.even.fits_first.Goals as goal

pub have_one_signature-requires-clause-first : goal.have_one_signature-requires-clause-first
have_one_signature-requires-clause-first c =
    let known : get nat_eq c.args.first.now c.in-Some.number ≡ Some c.in-Some-known.other = search rules in
    let before = (c.requires.earlier c.in-Some.number c.in-Some-known.other known).below in
    omega (arith, before, c.term_at-here.ensures)

pub returns-in-Some-known : goal.returns-in-Some-known
returns-in-Some-known c =
    let known : get nat_eq c.args.first.now c.in-Some.number ≡ Some c.in-Some-known.other = search rules in
    let marked : c.args.marked ≡ true = search rules in
    let named : number_at c.args.kind c.args.terms.now c.args.place ≡ Some c.in-Some.number = number_node c.args.kind c.args.terms.now c.args.place c.node.result.now c.node.ensures.node ∙ sym c.number_in.ensures ∙ c.in-Some.is in
    again_step c.args.kind c.args.terms.now c.args.marked c.args.place c.term_at-here.result (get nat_eq c.args.first.now) c.have_one_signature.result c.in-Some.number c.in-Some-known.other marked named known c.term_at-here.ensures c.have_one_signature.ensures

pub returns-in_ok-insert-in-None : goal.returns-in_ok-insert-in-None
returns-in_ok-insert-in-None c =
    let known : get nat_eq c.args.first.now c.in-Some.number ≡ None = search rules in
    let marked : c.args.marked ≡ true = search rules in
    let named : number_at c.args.kind c.args.terms.now c.args.place ≡ Some c.in-Some.number = number_node c.args.kind c.args.terms.now c.args.place c.node.result.now c.node.ensures.node ∙ sym c.number_in.ensures ∙ c.in-Some.is in
    new_step c.args.kind c.args.terms.now c.args.marked c.args.place c.args.first.now c.insert.new.self c.in-Some.number marked named known (c.in_ok-insert-in-None.ensures.updates.1 ∙ ap Some c.term_at-here.ensures) c.in_ok-insert-in-None.ensures.updates.2
