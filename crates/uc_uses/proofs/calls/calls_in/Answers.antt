use Rattle.std.proofs.Common.{ap, ◌∙◌, ◌++◌}
use Rattle.std.specs.List.{flat_map}
use Rattle.uc_order_rules.specs.Mentions.{calls_in}
use Rattle.uc_uses.proofs.calls.calls_in.Goals as goal

pub returns : goal.returns
returns c = c.in_ok-add_block.ensures ∙ ap (λ xs. xs ++ flat_map calls_in c.args.code.now) c.new-found.ensures
