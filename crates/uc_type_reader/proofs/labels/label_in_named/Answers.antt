use Rattle.std.proofs.Common.{ap, ◌∙◌}
use Rattle.uc_meaning.specs.Lookup.{first_some, module_named}
use Rattle.uc_type_reader.specs.Reading.{label_in_module}
use Rattle.uc_type_reader.proofs.labels.label_in_named.Goals as goal

pub returns-in-None : goal.returns-in-None
unfolding first_some
returns-in-None c = ap (label_in_module c.args.tables.now c.args.name) (c.in-None.ensures ∙ ap (λ q. module_named q c.args.owner) c.system.ensures)
