use Rattle.std.proofs.Common.{ap, ◌∙◌}
use Rattle.std.specs.Option.{is_some}
use Rattle.uc_read_names.proofs.Listed.{copied_some, found_named}
use Rattle.uc_read_names.proofs.locals.Locals.has.Goals as goal

pub returns : goal.returns
returns c = c.is_some.ensures ∙ copied_some c.named.result ∙ ap is_some c.named.ensures ∙ found_named c.args.name c.args.self.now
