use Rattle.std.proofs.Common.{◌∙◌, ap}
use Rattle.std.specs.List.{flat_map}
use Rattle.uc_flat_order.specs.declared.wanted.Wanted.TheVariants.{Only}
use Rattle.uc_flat_order.specs.Slices.{kept}
use Rattle.uc_flat_order.proofs.Kept.{sliced_end}
use Rattle.uc_flat_order.proofs.slices.sliced.Goals as goal

pub returns : goal.returns
returns c =
    sliced_end c.args.statement.now c.args.names c.in_ok-all.all c.in_ok-last.last c.append.new.self (c.in_ok-all.ensures ∙ ap (flat_map (λ x. kept (Only x) c.args.statement.now)) c.as_slice.ensures) c.in_ok-last.ensures c.in_ok-append.ensures
