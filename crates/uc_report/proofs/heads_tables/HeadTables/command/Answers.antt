use Rattle.std.proofs.Common.{ap, ◌∙◌}
use Rattle.std.specs.Prelude.{slice_get}
use Rattle.uc_report.specs.Described.{described}
use Rattle.uc_report.proofs.WordLemmas.{word_there, word_missing}
use Rattle.uc_report.proofs.heads_tables.HeadTables.command.Goals as goal

pub returns-in-Some : goal.returns-in-Some
returns-in-Some c =
    word_there (described c.args.d.now) c.args.self.now c.requires c.args.command c.in-Some.word.now (c.in-Some.ensures ∙ ap (λ ws. slice_get ws c.args.command) c.as_slice.ensures.value)

pub returns-in-None : goal.returns-in-None
returns-in-None c =
    word_missing (described c.args.d.now) c.args.self.now c.requires c.args.command (c.in-None.ensures ∙ ap (λ ws. slice_get ws c.args.command) c.as_slice.ensures.value)
