use Rattle.std.proofs.Common.{[], ◌∷◌, refl, ap}
use Rattle.uc_rules.specs.Names.{SenseDefine, SenseFunction, SenseInstance, enters}
use Rattle.uc_names.specs.Senses.{module_in}
use Rattle.uc_names.proofs.Forms.{own_alias, own_by, own_opaque}
use Rattle.uc_names.proofs.entries.own_entry.Goals as goal

pub returns-in-OpaqueType : goal.returns-in-OpaqueType
returns-in-OpaqueType c = λ s there. own_opaque s c.args.declared c.args.declaration.now _ _ there c.in-OpaqueType.is

pub returns-in-TypeAlias : goal.returns-in-TypeAlias
returns-in-TypeAlias c = λ s there. own_alias s c.args.declared c.args.declaration.now _ _ _ there c.in-TypeAlias.is

pub returns-in-Function : goal.returns-in-Function
returns-in-Function c = λ s there. own_by s (module_in s.modules c.args.declared.home) _ _ _ c.in-Function.is (ap (λ ps. enters c.in-Function.identifier (SenseFunction (record { parameters = ps; type = c.in-Function.ty })) ∷ []) c.as_slice-parameters.ensures)

pub returns-in-Define : goal.returns-in-Define
returns-in-Define c = λ s there. own_by s (module_in s.modules c.args.declared.home) _ _ _ c.in-Define.is (ap (λ ps. enters c.in-Define.identifier (SenseDefine (record { parameters = ps; type = c.in-Define.ty; body = c.in-Define.body })) ∷ []) c.as_slice-parameters-in-Define.ensures)

pub returns-in-Procedure : goal.returns-in-Procedure
returns-in-Procedure c = λ s there. own_by s (module_in s.modules c.args.declared.home) _ _ _ c.in-Procedure.is refl

pub returns-in-Instance : goal.returns-in-Instance
returns-in-Instance c = λ s there. own_by s (module_in s.modules c.args.declared.home) _ _ _ c.in-Instance.is (ap (λ bs. enters c.in-Instance.identifier (SenseInstance (record { name = c.in-Instance.identifier.name; module_name = c.in-Instance.other.name; bindings = bs })) ∷ []) c.as_slice-bindings.ensures)

pub returns-in-Invariant : goal.returns-in-Invariant
returns-in-Invariant c = λ s there. own_by s (module_in s.modules c.args.declared.home) _ _ _ c.in-Invariant.is (c.formula_entry.ensures s.modules)

pub returns-in-Axiom : goal.returns-in-Axiom
returns-in-Axiom c = λ s there. own_by s (module_in s.modules c.args.declared.home) _ _ _ c.in-Axiom.is (c.formula_entry-in-Axiom.ensures s.modules)

pub returns-in-Hyperinvariant : goal.returns-in-Hyperinvariant
returns-in-Hyperinvariant c = λ s there. own_by s (module_in s.modules c.args.declared.home) _ _ _ c.in-Hyperinvariant.is (c.formula_entry-in-Hyperinvariant.ensures s.modules)

pub returns-in-Hyperaxiom : goal.returns-in-Hyperaxiom
returns-in-Hyperaxiom c = λ s there. own_by s (module_in s.modules c.args.declared.home) _ _ _ c.in-Hyperaxiom.is (c.formula_entry-in-Hyperaxiom.ensures s.modules)

pub returns-in-TypeImport : goal.returns-in-TypeImport
returns-in-TypeImport c = λ s there. own_by s (module_in s.modules c.args.declared.home) _ _ _ c.in-TypeImport.is refl

pub returns-in-Variables : goal.returns-in-Variables
returns-in-Variables c = λ s there. own_by s (module_in s.modules c.args.declared.home) _ _ _ c.in-Variables.is refl

pub returns-in-Init : goal.returns-in-Init
returns-in-Init c = λ s there. own_by s (module_in s.modules c.args.declared.home) _ _ _ c.in-Init.is refl

pub returns-in-Next : goal.returns-in-Next
returns-in-Next c = λ s there. own_by s (module_in s.modules c.args.declared.home) _ _ _ c.in-Next.is refl

pub returns-in-Control : goal.returns-in-Control
returns-in-Control c = λ s there. own_by s (module_in s.modules c.args.declared.home) _ _ _ c.in-Control.is refl
