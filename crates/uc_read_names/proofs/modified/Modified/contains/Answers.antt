use Rattle.std.proofs.Common.{ap, ◌∙◌}
use Rattle.uc_rules.specs.Names.{names_one_of}
use Rattle.uc_read_names.proofs.Listed.{names_same}
use Rattle.uc_read_names.proofs.modified.Modified.contains.Goals as goal

pub returns : goal.returns
returns c = c.contains.ensures ∙ names_same c.self.inside.names c.self.inside.known c.self.invariant c.args.name ∙ ap (λ xs. names_one_of xs c.args.name) c.self.view_is
