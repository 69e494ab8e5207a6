use Rattle.std.proofs.Common.{List, subst}
use Rattle.uc_log.specs.declared.entry.Entry.{Entry}
use Rattle.uc_log.specs.Entries.{Accepts}
use Rattle.uc_log.proofs.Refutation.{accepted_refutes}
use Rattle.uc_log.proofs.checker.check.Goals as goal

pub returns-clause-refuted : goal.returns-clause-refuted
returns-clause-refuted c = λ t. accepted_refutes c.args.terms.now c.args.p.now c.args.log.now c.check_entries.ensures.kept (subst (λ (es : List Entry). Accepts c.args.terms.now c.args.p.now es) c.entries.ensures (c.check_entries.ensures.exact.0 t))
