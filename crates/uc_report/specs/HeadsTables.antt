-- What the tables hold that a report's text is made with.
use Rattle.std.specs.Prelude.{◌≡◌, map}
use Rattle.uc_meaning.specs.Lines.{commands_of}
use Rattle.uc_report.specs.declared.heads_tables.HeadTables.{HeadTables}
use Rattle.uc_meaning.specs.Lookup.{System}
use Rattle.uc_report.specs.Named.{named_places}
use Rattle.uc_report.specs.HeadsText.{command_text}

-- the texts of all commands of main in order, and the names in the code of all modules
pub record AreHeadTables (d : System) (tables : HeadTables) : Type 0 where
  pub words : map (λ w. w.now) tables.words.items ≡ map (command_text d) (commands_of d)
  pub named : tables.named.items ≡ named_places d
