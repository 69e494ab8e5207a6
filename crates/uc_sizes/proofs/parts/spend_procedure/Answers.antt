use Rattle.std.proofs.Common.{[], refl}
use Rattle.std.specs.List.{flat_map}
use Rattle.uc_order_rules.specs.Uses.{clause_expressions}
use Rattle.uc_order_rules.specs.Sizes.{code_size}
use Rattle.uc_lookup.specs.Parts.{system_in}
use Rattle.uc_sizes.proofs.Spending.{memory_out, spends_none, spends_stop, spends_two, stop_out}
use Rattle.uc_sizes.specs.Expanding.{expression_sizes}
use Rattle.uc_sizes.proofs.Expanding.{no_procedure, procedure_is}
use Rattle.uc_sizes.proofs.parts.spend_procedure.Goals as goal

pub returns-in_err-spend_clauses-in-Procedure : goal.returns-in_err-spend_clauses-in-Procedure
returns-in_err-spend_clauses-in-Procedure c =
    stop_out _ _ _ _ _ c.from_residual.ensures.1
    (spends_stop _ _ _ _ (expression_sizes (system_in c.args.system.now) [] (flat_map clause_expressions c.as_slice.result.now)) (code_size (system_in c.args.system.now) [] c.in-Procedure.procedure.body) _ c.in_err-spend_clauses-in-Procedure.ensures
    (procedure_is (system_in c.args.system.now) c.args.declaration.now _ c.in-Procedure.procedure _ _ c.in-Procedure.is c.as_slice.ensures refl))

pub returns-in_ok-spend_clauses-in-Procedure : goal.returns-in_ok-spend_clauses-in-Procedure
returns-in_ok-spend_clauses-in-Procedure c =
    spends_two _ _ _ _ _ _ _ _ c.in_ok-spend_clauses-in-Procedure.ensures c.spend_code.ensures (procedure_is (system_in c.args.system.now) c.args.declaration.now _ c.in-Procedure.procedure _ _ c.in-Procedure.is c.as_slice.ensures c.as_slice-in-Procedure.ensures)

pub returns-in_default : goal.returns-in_default
returns-in_default c = spends_none _ _ (no_procedure (system_in c.args.system.now) c.args.declaration.now c.in_default.not-Procedure)
