use Rattle.std.proofs.Common.{ap, ◌∙◌}
use Rattle.uc_meaning.specs.Lookup.{System}
use Rattle.uc_type_reader.specs.Places.{declaration_count}
use Rattle.uc_type_reader.proofs.tables.Tables.declarations.Goals as goal

pub returns : goal.returns
returns c = c.self.invariant.declarations_counted ∙ ap (λ (s : System). declaration_count s.modules) c.self.view_is
