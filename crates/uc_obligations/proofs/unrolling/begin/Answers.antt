use Rattle.std.proofs.Common.{ap, ◌∙◌, ◌++◌, ◌∷◌, []}
use Rattle.uc_symstep.proofs.Grown.{grows_on}
use Rattle.uc_obligations.proofs.Unrollings.{begun_is}
use Rattle.uc_obligations.proofs.Knowing.{begun_known}
use Rattle.uc_obligations.proofs.unrolling.begin.Goals as goal

pub returns-clause-ok : goal.returns-clause-ok
returns-clause-ok c =
    let one = c.in_ok-push.ensures.ok ∙ ap (λ ss. ss ++ c.in_ok-state-2.state ∷ []) c.new-states.ensures in
    begun_is c.args.f.now c.args.start _ _ _ _ _ _ _ _ _ _ _ _ c.in_ok-assumed.ensures.ok c.in_ok-axioms.ensures.ok c.len-first.ensures c.in_ok-state.ensures.ok c.in_ok-state-2.ensures.ok one
    (begun_known c.args.f.now c.args.start _ _ _ _ _ _ _ _ c.in_ok-state.state c.in_ok-state-2.state _ c.in_ok-axioms.ensures.grown c.in_ok-state.ensures.grown c.in_ok-state-2.ensures.grown c.len-first.ensures
    c.in_ok-assumed.ensures.known c.in_ok-axioms.ensures.known c.in_ok-state.ensures.known c.in_ok-state-2.ensures.known one)

pub returns-clause-grown : goal.returns-clause-grown
returns-clause-grown c = grows_on _ _ _ (grows_on _ _ _ (grows_on _ _ _ c.in_ok-assumed.ensures.grown c.in_ok-axioms.ensures.grown) c.in_ok-state.ensures.grown) c.in_ok-state-2.ensures.grown
