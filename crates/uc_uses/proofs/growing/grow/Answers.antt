use Rattle.std.proofs.Common.{take, refl, ap, ◌∙◌, ◌++◌, ◌∷◌, []}
use Rattle.uc_uses.proofs.Adding.{adds_all, adds_more, adds_none}
use Rattle.uc_uses.proofs.growing.grow.Goals as goal

pub loop-declaration-init : goal.loop-declaration-init
loop-declaration-init c = record { same = refl; adds = adds_none c.args.modules.now c.args.node c.args.tree.now.nodes c.args.tree.now.nodes c.new-found.result refl c.new-found.ensures }

pub loop-declaration-preserved : goal.loop-declaration-preserved
loop-declaration-preserved c = record {
  same = c.loop-declaration.invariant.same;
  adds = adds_more c.args.modules.now c.args.node c.args.tree.now.nodes c.args.declarations.now c.loop-declaration.declaration-index c.declaration-item.result c.declaration-item.result c.add_declared.new.found c.add_declared.new.nodes
      c.loop-declaration-test.true c.declaration-item.is
      (c.in_ok-add_declared.ensures c.args.tree.now.nodes (take c.loop-declaration.declaration-index c.args.declarations.now) c.loop-declaration.invariant.adds);
}

pub returns : goal.returns
returns c = record {
  found = c.loop-declaration.found;
  instances = c.in_ok-push.ensures.ok ∙ ap (λ is. is ++ c.loop-declaration.found ∷ []) c.loop-declaration.invariant.same;
  adds = adds_all c.args.modules.now c.args.node c.args.tree.now.nodes c.args.declarations.now c.loop-declaration.declaration-index c.loop-declaration.found c.loop-declaration.tree.nodes c.loop-declaration-test.false c.loop-declaration.invariant.adds;
}
