use Rattle.std.proofs.Common.{refl, ap, ◌∙◌, ◌++◌, ◌∷◌, []}
use Rattle.uc_uses.proofs.Rows.{calls_more, calls_none}
use Rattle.uc_uses.proofs.resolving.Found.add_calls.Goals as goal

pub loop-name-init : goal.loop-name-init
loop-name-init c = record { uses = calls_none c.args.table.now c.args.node c.args.self.now.uses; names = refl }

pub loop-name-preserved : goal.loop-name-preserved
loop-name-preserved c = record {
  uses = calls_more c.args.table.now c.args.node c.args.names.now c.args.self.now.uses c.loop-name.self.uses c.push.new.self c.loop-name.name-index c.loop-name-test.true c.loop-name.invariant.uses
      (c.in_ok-push.ensures.ok ∙ ap (λ n. c.loop-name.self.uses ++ n ∷ []) c.called-number.ensures);
  names = c.loop-name.invariant.names;
}
