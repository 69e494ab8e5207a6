use Rattle.std.proofs.Common.{◌∷◌, [], ◌++◌, ap, ◌∙◌, sym, subst}
use Rattle.uc_syntax.proofs.Added.{AddedUpTo, added_begin, added_end, added_more}
use Rattle.uc_module_writes.specs.Places.{places_in}
use Rattle.uc_module_writes.proofs.Placed.{flat_one}
use Rattle.uc_module_writes.proofs.graph.instance_graph.Goals as goal

pub loop-module-init : goal.loop-module-init
loop-module-init c = subst (λ g. AddedUpTo (λ m. places_in c.args.places.now m.decls ∷ []) c.args.modules.now [] 0 g) (sym c.new-graph.ensures) (added_begin (λ m. places_in c.args.places.now m.decls ∷ []) c.args.modules.now [])

pub loop-module-preserved : goal.loop-module-preserved
loop-module-preserved c =
    added_more (λ m. places_in c.args.places.now m.decls ∷ []) c.args.modules.now [] _ _ _ c.module-item.result c.loop-module.invariant c.loop-module-test.true c.module-item.is
    (c.in_ok-push.ensures.ok ∙ ap (λ ns. c.loop-module.graph ++ ns ∷ []) (c.in_ok-nodes.ensures ∙ ap (places_in c.args.places.now) c.as_slice.ensures))

pub returns : goal.returns
returns c = added_end (λ m. places_in c.args.places.now m.decls ∷ []) c.args.modules.now [] _ _ c.loop-module.invariant c.loop-module-test.false ∙ flat_one (λ m. places_in c.args.places.now m.decls) c.args.modules.now
