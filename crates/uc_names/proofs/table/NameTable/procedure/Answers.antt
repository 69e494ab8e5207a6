use Rattle.std.specs.Borrow.{Bor}
use Rattle.uc_syntax.specs.declared.declaration.Procedure.{Procedure as ProcedureParts}
use Rattle.uc_rules.specs.Names.{as_procedure}
use Rattle.uc_names.proofs.FirstEntries.{first_gives}
use Rattle.uc_names.proofs.table.NameTable.procedure.Goals as goal

pub returns : goal.returns
returns c = λ ms es held. first_gives (λ (p : Bor ProcedureParts). p.now) as_procedure _ es c.args.name _ held.procedures c.get.ensures
