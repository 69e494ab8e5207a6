use Rattle.std.proofs.Common.{◌≡◌, ◌++◌, map}
use Rattle.uc_judge.specs.Lines.{line_as}
use Rattle.uc_judge.proofs.lines.lines_as.Given as goal

abbrev pub invariant-loop-line : goal.invariant-loop-line
invariant-loop-line l = l.all ++ map (line_as l.f l.command l.moment l.budget) l.line-iterator.rest.items ≡ map (line_as l.f l.command l.moment l.budget) l.fn.lines
