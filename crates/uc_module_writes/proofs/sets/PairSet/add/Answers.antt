use Rattle.std.proofs.Common.{◌∷◌, [], ◌++◌, ap, ◌∙◌}
use Rattle.std.specs.List.{list_any}
use Rattle.uc_module_writes.proofs.Growing.{pair_added}
use Rattle.uc_module_writes.proofs.sets.PairSet.add.Goals as goal

pub returns : goal.returns
returns c =
    λ test.
    pair_added (c.args.earlier, c.args.later) c.self.inside.pairs.keys _ c.in_ok-insert.ensures.keys test
    ∙ ap (λ ps. list_any test (ps ++ (c.args.earlier, c.args.later) ∷ [])) c.self.view_is
