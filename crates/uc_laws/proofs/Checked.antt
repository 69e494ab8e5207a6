-- Inductions among all lines.
use Rattle.std.proofs.Common.{ℕ, Option, Some, None, length}
use Rattle.std.specs.List.{All}
use Rattle.uc_syntax.specs.declared.declaration.WrittenRun.TheVariants.{Induction}
use Rattle.uc_meaning.specs.Lookup.{System}
use Rattle.uc_meaning.specs.Lines.{induction_lines, lines_of, IsValid}
use Rattle.uc_laws.specs.Laws.{depth_of, CheckedInductionLaw}
use Rattle.uc_laws.proofs.Commands.{command_holds}
use Rattle.uc_laws.proofs.Induction.{induction_holds}

as_lines : (system : System) (command : ℕ) (depth : Option ℕ) → All (IsValid system) (lines_of system command (Induction depth)) → All (IsValid system) (induction_lines system command (depth_of depth))
as_lines system command None valid = valid
as_lines system command (Some k) valid = valid

pub checked_induction_holds : CheckedInductionLaw
checked_induction_holds system place name depth before after apart positive are is valid =
    induction_holds system (length before) (depth_of depth) apart positive
    (as_lines system (length before) depth (command_holds system place name (Induction depth) before after are is valid))
