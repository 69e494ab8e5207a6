use Rattle.std.proofs.Common.{◌++◌, ap, sym, ◌∙◌}
use Rattle.uc_cycles.specs.Numbers.{instance_name, listed, name_places}
use Rattle.uc_cycles.proofs.Steps.{names_nothing, names_one, no_instance}
use Rattle.uc_cycles.proofs.instances.add_instance.Goals as goal

pub returns-in_ok-add_place-in-Instance : goal.returns-in_ok-add_place-in-Instance
returns-in_ok-add_place-in-Instance c =
    c.in_ok-add_place-in-Instance.ensures ∙ ap (λ o. c.args.needs.now ++ listed o) c.get.ensures ∙ ap (λ ns. c.args.needs.now ++ ns) (sym (names_one c.args.numbers.now c.in-Instance.target.name))
    ∙ ap (λ d. c.args.needs.now ++ name_places c.args.numbers.now (instance_name d)) (sym c.in-Instance.is)

pub returns-in_default : goal.returns-in_default
returns-in_default c =
    names_nothing c.args.numbers.now c.args.needs.now ∙ ap (λ xs. c.args.needs.now ++ name_places c.args.numbers.now xs) (sym (no_instance c.args.declaration.now (λ place i n b e. c.in_default.not-Instance place i n b e)))
