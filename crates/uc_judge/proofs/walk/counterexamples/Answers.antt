use Rattle.std.proofs.Common.{◌∙◌, ap}
use Rattle.uc_report.specs.Prints.{failed_where}
use Rattle.uc_judge.specs.Prints.{is_wanted}
use Rattle.uc_judge.proofs.Printed.{counterexamples_are}
use Rattle.uc_judge.proofs.walk.counterexamples.Goals as goal

pub returns : goal.returns
returns c =
    counterexamples_are c.args.d.now c.args.commands.now c.args.lines.now c.args.checked.first c.args.checked.end c.args.name c.args.paths.now c.declarations.result.now c.in_ok-lines.lines c.in_ok-paths.paths
    c.keeps.ensures c.requires.are c.requires.own c.declarations.ensures (c.in_ok-lines.ensures ∙ ap (λ w. failed_where (is_wanted w) c.args.lines.now) c.wanted_by-wanted.ensures) c.in_ok-paths.ensures
