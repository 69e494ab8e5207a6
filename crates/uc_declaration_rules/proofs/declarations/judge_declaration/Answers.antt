use Rattle.std.proofs.Common.{true, ap, ◌∙◌}
use Rattle.uc_rules.specs.Declarations.{control_faults, define_faults, function_faults, instance_faults}
use Rattle.uc_rules.specs.Expressions.{Context, condition_faults}
use Rattle.uc_rules.specs.Faults.{first_of}
use Rattle.uc_rules.specs.Statements.{code_faults}
use Rattle.uc_statement_rules.proofs.Noted.{noted_none}
use Rattle.uc_declaration_rules.proofs.Forms.{form_found, on_ok}
use Rattle.uc_declaration_rules.proofs.declarations.judge_declaration.Goals as goal

pub returns-in-OpaqueType : goal.returns-in-OpaqueType
returns-in-OpaqueType c = form_found c.args.home.now.system c.args.home.now.home c.args.declaration.now _ c.args.first.now c.args.first.now c.in-OpaqueType.is (noted_none c.args.first.now)

pub returns-in-TypeAlias : goal.returns-in-TypeAlias
returns-in-TypeAlias c =
    on_ok c.note_written.result
    (form_found c.args.home.now.system c.args.home.now.home c.args.declaration.now _ c.args.first.now c.note_written.new.first c.in-TypeAlias.is)
    c.note_written.ensures

pub returns-in-TypeImport : goal.returns-in-TypeImport
returns-in-TypeImport c =
    form_found c.args.home.now.system c.args.home.now.home c.args.declaration.now _ c.args.first.now c.note_import.new.first c.in-TypeImport.is
    (c.note_import.ensures)

pub returns-in-Variables : goal.returns-in-Variables
returns-in-Variables c =
    on_ok c.note_written-in-Variables.result
    (form_found c.args.home.now.system c.args.home.now.home c.args.declaration.now _ c.args.first.now c.note_written-in-Variables.new.first c.in-Variables.is)
    c.note_written-in-Variables.ensures

pub returns-in-Function : goal.returns-in-Function
returns-in-Function c =
    on_ok c.judge_function.result
    (λ noted. form_found c.args.home.now.system c.args.home.now.home c.args.declaration.now _ c.args.first.now c.judge_function.new.first c.in-Function.is
    (noted ∙ ap (λ ps. first_of c.args.first.now (function_faults c.args.home.now.system c.args.home.now.home ps c.in-Function.ty)) c.as_slice.ensures))
    c.judge_function.ensures

pub returns-in-Define : goal.returns-in-Define
returns-in-Define c =
    on_ok c.judge_define.result
    (λ noted. form_found c.args.home.now.system c.args.home.now.home c.args.declaration.now _ c.args.first.now c.judge_define.new.first c.in-Define.is
    (noted ∙ ap (λ ps. first_of c.args.first.now (define_faults c.args.home.now.system c.args.home.now.home c.in-Define.place ps c.in-Define.ty c.in-Define.body)) c.as_slice-in-Define.ensures))
    c.judge_define.ensures

pub returns-in-Procedure : goal.returns-in-Procedure
returns-in-Procedure c =
    on_ok c.judge_procedure.result
    (form_found c.args.home.now.system c.args.home.now.home c.args.declaration.now _ c.args.first.now c.judge_procedure.new.first c.in-Procedure.is)
    c.judge_procedure.ensures

pub returns-in-Instance : goal.returns-in-Instance
returns-in-Instance c =
    on_ok c.judge_instance.result
    (λ noted. form_found c.args.home.now.system c.args.home.now.home c.args.declaration.now _ c.args.first.now c.judge_instance.new.first c.in-Instance.is
    (noted ∙ ap (λ bs. first_of c.args.first.now (instance_faults c.args.home.now.system c.args.home.now.home c.in-Instance.identifier c.in-Instance.module_name bs)) c.as_slice-bindings.ensures))
    c.judge_instance.ensures

pub returns-in-Init : goal.returns-in-Init
returns-in-Init c =
    on_ok c.judge_body.result
    (λ noted. form_found c.args.home.now.system c.args.home.now.home c.args.declaration.now _ c.args.first.now c.judge_body.new.first c.in-Init.is
    (noted ∙ (λ i. first_of c.args.first.now (code_faults (c.as_slice-in-Init.ensures i) (c.scope.ensures i)))))
    c.judge_body.ensures

pub returns-in-Next : goal.returns-in-Next
returns-in-Next c =
    on_ok c.judge_body-in-Next.result
    (λ noted. form_found c.args.home.now.system c.args.home.now.home c.args.declaration.now _ c.args.first.now c.judge_body-in-Next.new.first c.in-Next.is
    (noted ∙ (λ i. first_of c.args.first.now (code_faults (c.as_slice-in-Next.ensures i) ((c.in_next.ensures ∙ ap (λ (q : Context). record q { in_next = true }) c.scope-in-Next.ensures) i)))))
    c.judge_body-in-Next.ensures

pub returns-in-Invariant : goal.returns-in-Invariant
returns-in-Invariant c =
    on_ok c.judge_formula.result
    (λ noted. form_found c.args.home.now.system c.args.home.now.home c.args.declaration.now _ c.args.first.now c.judge_formula.new.first c.in-Invariant.is
    (noted ∙ ap (λ (q : Context). first_of c.args.first.now (condition_faults q c.in-Invariant.formula)) c.scope-in-Invariant.ensures))
    c.judge_formula.ensures

pub returns-in-Axiom : goal.returns-in-Axiom
returns-in-Axiom c =
    on_ok c.judge_formula-in-Axiom.result
    (λ noted. form_found c.args.home.now.system c.args.home.now.home c.args.declaration.now _ c.args.first.now c.judge_formula-in-Axiom.new.first c.in-Axiom.is
    (noted ∙ ap (λ (q : Context). first_of c.args.first.now (condition_faults q c.in-Axiom.formula)) (c.in_axiom.ensures ∙ ap (λ (q : Context). record q { in_axiom = true }) c.scope-in-Axiom.ensures)))
    c.judge_formula-in-Axiom.ensures

pub returns-in-Hyperinvariant : goal.returns-in-Hyperinvariant
returns-in-Hyperinvariant c =
    on_ok c.judge_hyper.result
    (form_found c.args.home.now.system c.args.home.now.home c.args.declaration.now _ c.args.first.now c.judge_hyper.new.first c.in-Hyperinvariant.is)
    c.judge_hyper.ensures

pub returns-in-Hyperaxiom : goal.returns-in-Hyperaxiom
returns-in-Hyperaxiom c =
    on_ok c.judge_hyper-in-Hyperaxiom.result
    (form_found c.args.home.now.system c.args.home.now.home c.args.declaration.now _ c.args.first.now c.judge_hyper-in-Hyperaxiom.new.first c.in-Hyperaxiom.is)
    c.judge_hyper-in-Hyperaxiom.ensures

pub returns-in-Control : goal.returns-in-Control
returns-in-Control c =
    on_ok c.judge_control.result
    (λ noted. form_found c.args.home.now.system c.args.home.now.home c.args.declaration.now _ c.args.first.now c.judge_control.new.first c.in-Control.is
    (noted ∙ ap (λ cs. first_of c.args.first.now (control_faults c.args.home.now.system c.args.home.now.home cs)) c.as_slice-in-Control.ensures))
    c.judge_control.ensures
