-- What the parts of a design that are given by reference stand for in the definitions of the meaning.
use Rattle.std.specs.Prelude.{ℕ, nat_eq, List, take, Option, Some, None}
use Rattle.std.specs.Option.{option_and_then}
use Rattle.uc_syntax.specs.declared.type_expression.TypeExpr.{TypeExpr}
use Rattle.uc_syntax.specs.declared.expression.Expr.{Expr}
use Rattle.uc_syntax.specs.declared.declaration.VariableKind.{VariableKind}
use Rattle.uc_syntax.specs.declared.declaration.Decl.{Decl}
use Rattle.uc_meaning.specs.Lookup.{System, InstanceParts as InstanceMeant, Defined as DefineMeant, Signature as FunctionMeant, some_if, instance_in, instance_of, bound_to, module_at}
use Rattle.uc_lookup.specs.declared.system.SystemRef.{SystemRef}
use Rattle.uc_lookup.specs.declared.system.Bound.{Bound}
use Rattle.uc_lookup.specs.declared.declarations.Variable.{Variable}
use Rattle.uc_lookup.specs.declared.declarations.Defined.{Defined}
use Rattle.uc_lookup.specs.declared.declarations.Signature.{Signature}
use Rattle.uc_lookup.specs.declared.instances.InstanceParts.{InstanceParts}

-- the design that is looked at
abbrev pub system_in : SystemRef → System
system_in s = record { names = s.names.now; files = s.files.now; modules = s.modules.now; main = s.main }

abbrev pub variable_parts : Variable → VariableKind × TypeExpr
variable_parts v = (v.kind, v.ty.now)

abbrev pub defined_parts : Defined → DefineMeant
defined_parts d = record { parameters = d.parameters.now; type = d.ty.now; body = d.body.now }

abbrev pub signature_parts : Signature → FunctionMeant
signature_parts f = record { parameters = f.parameters.now; type = f.ty.now }

abbrev pub instance_parts : InstanceParts → InstanceMeant
instance_parts i = record { name = i.name; module_name = i.module_name; bindings = i.bindings.now }

-- an instance of the name
abbrev pub if_named : ℕ → Option InstanceMeant → Option InstanceMeant
if_named x None = None
if_named x (Some i) = some_if (nat_eq i.name x) i

abbrev pub instance_named : ℕ → Decl → Option InstanceMeant
instance_named x d = if_named x (instance_in d)

-- a binding with the path of the parent, the start of the instance's path
abbrev pub bound_parts : List ℕ → Bound → List ℕ × Expr
bound_parts path b = (take b.depth path, b.expression.now)

-- what a parent binds to a name of an instance
abbrev pub bound_below : System → List ℕ → ℕ → ℕ → Option Expr
bound_below system parent i x = option_and_then (λ p. bound_to p x) (option_and_then (λ m. instance_of m i) (module_at system parent))
