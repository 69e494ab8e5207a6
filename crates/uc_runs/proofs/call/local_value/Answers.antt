use Rattle.std.proofs.Common.{◌∙◌, ap}
use Rattle.uc_meaning.specs.Expressions.{local_of}
use Rattle.uc_evaluator.proofs.Told.{gives_as}
use Rattle.uc_runs.proofs.RunFormsCalls.{local_says, local_there}
use Rattle.uc_runs.proofs.call.local_value.Goals as goal

pub unreachable-requires : goal.unreachable-requires
unreachable-requires c = local_there c.args.scope.now c.args.name c.requires (c.in-None.ensures ∙ ap (λ s. local_of s c.args.name) c.of.ensures)

pub returns : goal.returns
returns c =
    gives_as (λ v. v) _ _ c.copy.result
    (local_says c.args.layout.now c.args.scope.now c.args.name c.in-Some.local.now (c.in-Some.ensures ∙ ap (λ s. local_of s c.args.name) c.of.ensures))
    c.copy.ensures
