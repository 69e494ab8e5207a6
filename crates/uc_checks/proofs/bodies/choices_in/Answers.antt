use Rattle.std.proofs.Common.{length, sym, arith}
use Rattle.std.proofs.lemmas.List.{drop_all}
use Rattle.uc_checks.proofs.bodies.choices_in.Goals as goal

pub returns-else-count-all : goal.returns-else-count-all
returns-else-count-all c = sym (drop_all (length c.args.procedure.now.parameters) c.args.all.now (omega arith))
