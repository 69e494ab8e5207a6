use Rattle.std.proofs.Common.{ap, ◌∙◌, sym}
use Rattle.std.specs.Prelude.{slice_get}
use Rattle.uc_meaning.specs.Lookup.{main_module}
use Rattle.uc_meaning.specs.Lines.{main_declarations, procedure_numbered}
use Rattle.uc_checks.proofs.Told.{none_decided}
use Rattle.uc_checks.proofs.Executed.{main_decls, no_main, no_main_told, no_procedure, no_procedure_told, no_ends, no_ends_told, body_value, body_told}
use Rattle.uc_checks.proofs.bodies.fails_body.Goals as goal

pub returns-in_default-clause-value : goal.returns-in_default-clause-value
returns-in_default-clause-value c = none_decided (no_main c.args.layout.now c.args.line.now c.args.interp.now c.args.copies.now (main_module c.args.layout.now) (procedure_numbered (slice_get (main_declarations c.args.layout.now) c.args.number)) (c.in_default.ensures ∙ ap main_module c.system.ensures))

pub returns-in_default-clause-wide : goal.returns-in_default-clause-wide
returns-in_default-clause-wide c = no_main_told c.args.layout.now c.args.line.now c.args.interp.now c.args.copies.now (main_module c.args.layout.now) (procedure_numbered (slice_get (main_declarations c.args.layout.now) c.args.number)) (c.in_default.ensures ∙ ap main_module c.system.ensures)

pub returns-in_default-procedure_at-clause-value : goal.returns-in_default-procedure_at-clause-value
returns-in_default-procedure_at-clause-value c = none_decided (no_procedure c.args.layout.now c.args.line.now c.args.interp.now c.args.copies.now (main_module c.args.layout.now) (procedure_numbered (slice_get (main_declarations c.args.layout.now) c.args.number)) c.in-Some.code.now (c.in-Some.ensures ∙ ap main_module c.system.ensures) (c.in_default-procedure_at.ensures ∙ ap (λ ds. procedure_numbered (slice_get ds c.args.number)) (main_decls c.args.layout.now c.in-Some.code.now (c.in-Some.ensures ∙ ap main_module c.system.ensures))))

pub returns-in_default-procedure_at-clause-wide : goal.returns-in_default-procedure_at-clause-wide
returns-in_default-procedure_at-clause-wide c = no_procedure_told c.args.layout.now c.args.line.now c.args.interp.now c.args.copies.now (main_module c.args.layout.now) (procedure_numbered (slice_get (main_declarations c.args.layout.now) c.args.number)) c.in-Some.code.now (c.in-Some.ensures ∙ ap main_module c.system.ensures) (c.in_default-procedure_at.ensures ∙ ap (λ ds. procedure_numbered (slice_get ds c.args.number)) (main_decls c.args.layout.now c.in-Some.code.now (c.in-Some.ensures ∙ ap main_module c.system.ensures)))

pub returns-in_default-ends_of-clause-value : goal.returns-in_default-ends_of-clause-value
returns-in_default-ends_of-clause-value c = none_decided (no_ends c.args.layout.now c.args.line.now c.args.interp.now c.args.copies.now (main_module c.args.layout.now) (procedure_numbered (slice_get (main_declarations c.args.layout.now) c.args.number)) c.in-Some.code.now c.in-Some-procedure_at.procedure.now (c.in-Some.ensures ∙ ap main_module c.system.ensures) (c.in-Some-procedure_at.ensures ∙ ap (λ ds. procedure_numbered (slice_get ds c.args.number)) (main_decls c.args.layout.now c.in-Some.code.now (c.in-Some.ensures ∙ ap main_module c.system.ensures))) c.in_default-ends_of.ensures)

pub returns-in_default-ends_of-clause-wide : goal.returns-in_default-ends_of-clause-wide
returns-in_default-ends_of-clause-wide c = no_ends_told c.args.layout.now c.args.line.now c.args.interp.now c.args.copies.now (main_module c.args.layout.now) (procedure_numbered (slice_get (main_declarations c.args.layout.now) c.args.number)) c.in-Some.code.now c.in-Some-procedure_at.procedure.now (c.in-Some.ensures ∙ ap main_module c.system.ensures) (c.in-Some-procedure_at.ensures ∙ ap (λ ds. procedure_numbered (slice_get ds c.args.number)) (main_decls c.args.layout.now c.in-Some.code.now (c.in-Some.ensures ∙ ap main_module c.system.ensures))) c.in_default-ends_of.ensures

pub body_fails-requires : goal.body_fails-requires
body_fails-requires c = sym (c.in-Some.ensures ∙ ap main_module c.system.ensures)

pub returns-clause-value : goal.returns-clause-value
returns-clause-value c = body_value c.args.layout.now c.args.line.now c.args.interp.now c.args.copies.now (main_module c.args.layout.now) (procedure_numbered (slice_get (main_declarations c.args.layout.now) c.args.number)) c.in-Some.code.now c.in-Some-procedure_at.procedure.now (c.in-Some.ensures ∙ ap main_module c.system.ensures) (c.in-Some-procedure_at.ensures ∙ ap (λ ds. procedure_numbered (slice_get ds c.args.number)) (main_decls c.args.layout.now c.in-Some.code.now (c.in-Some.ensures ∙ ap main_module c.system.ensures))) c.in-Some-ends_of.ends.first.now c.in-Some-ends_of.ends.last.now c.in-Some-ends_of.ensures c.body_fails.result c.body_fails.ensures.value

pub returns-clause-wide : goal.returns-clause-wide
returns-clause-wide c = body_told c.args.layout.now c.args.line.now c.args.interp.now c.args.copies.now (main_module c.args.layout.now) (procedure_numbered (slice_get (main_declarations c.args.layout.now) c.args.number)) c.in-Some.code.now c.in-Some-procedure_at.procedure.now (c.in-Some.ensures ∙ ap main_module c.system.ensures) (c.in-Some-procedure_at.ensures ∙ ap (λ ds. procedure_numbered (slice_get ds c.args.number)) (main_decls c.args.layout.now c.in-Some.code.now (c.in-Some.ensures ∙ ap main_module c.system.ensures))) c.in-Some-ends_of.ends.first.now c.in-Some-ends_of.ends.last.now c.in-Some-ends_of.ensures c.body_fails.result c.body_fails.ensures.wide
