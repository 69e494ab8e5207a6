use Rattle.std.proofs.Common.{◌≡◌, drop}
use Rattle.uc_report.specs.Named.{name_in}
use Rattle.uc_report.proofs.heads_tables.find_name.Given as goal

abbrev pub invariant-loop-stands : goal.invariant-loop-stands
invariant-loop-stands l = name_in (drop l.stands-index l.named) l.place ≡ name_in l.named l.place
