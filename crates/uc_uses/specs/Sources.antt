-- The texts of the uses of a node.
use Rattle.std.specs.Prelude.{ℕ, Bool, true, false, nat_eq, if◌then◌else◌, List, Option, Some, None}
use Rattle.std.specs.Option.{option_map}
use Rattle.indexmap.specs.IndexMap.{get}
use Rattle.uc_syntax.specs.declared.expression.Expr.{Expr}
use Rattle.uc_syntax.specs.declared.declaration.Binding.{Binding}
use Rattle.uc_syntax.specs.declared.declaration.Procedure.{Procedure as ProcedureParts}
use Rattle.uc_syntax.specs.declared.declaration.Decl.{Decl}
use Rattle.uc_meaning.specs.Lookup.{define_in, first_some, is_named, procedure_in, some_if, variable_of}
use Rattle.uc_order_rules.specs.Roots.{is_input}
use Rattle.uc_names.specs.declared.firsts.Firsts.{Firsts}
use Rattle.uc_uses.specs.declared.tree.Step.{Step}
use Rattle.uc_uses.specs.declared.tree.Node.{Node}
use Rattle.uc_uses.specs.declared.uses.UseKind.{UseKind}
use Rattle.uc_uses.specs.declared.uses.UseKind.TheVariants.{Define, Procedure, Input}
use Rattle.uc_uses.specs.declared.uses.Source.{Source}
use Rattle.uc_uses.specs.declared.uses.Source.TheVariants.{Expression, Procedure as ProcedureSource}
use Rattle.uc_uses.specs.declared.uses.Entry.{Entry}

-- the text of a use, with the node in which it is read
pub data SourceMeant : Type 0 where
  OfExpression : ℕ → Expr → SourceMeant
  OfProcedure : ℕ → ProcedureParts → SourceMeant

abbrev pub source_meant : Source → SourceMeant
source_meant (Expression k e) = OfExpression k e.now
source_meant (ProcedureSource k p) = OfProcedure k p.now

abbrev pub said_by : Option Entry → ℕ → Option SourceMeant
said_by None x = None
said_by (Some e) x = some_if (nat_eq e.name x) (source_meant e.source)

-- what a declaration says of a define or a procedure of a name
abbrev pub said_in : UseKind → ℕ → ℕ → Decl → Option SourceMeant
said_in Define k x d = option_map (λ q. OfExpression k q.body) (define_in x d)
said_in Procedure k x d = option_map (OfProcedure k) (procedure_in x d)
said_in Input k x d = None

unfoldable pub declared_source : UseKind → ℕ → List Decl → ℕ → Option SourceMeant
declared_source kind k ds x = first_some (said_in kind k x) ds

-- what a binding says of an input of a name, by the table of inputs
abbrev pub if_input : Option Bool → Option SourceMeant → Option SourceMeant
if_input None o = None
if_input (Some true) o = o
if_input (Some false) o = None

abbrev pub said_bound : Firsts Bool → ℕ → ℕ → Binding → Option SourceMeant
said_bound inputs above x b = if_input (get nat_eq inputs.things b.identifier.name) (some_if (is_named x b.identifier) (OfExpression above b.expression))

unfoldable pub bound_source : Firsts Bool → ℕ → List Binding → ℕ → Option SourceMeant
bound_source inputs above bs x = first_some (said_bound inputs above x) bs

-- the expression that is bound to an input of a node
abbrev pub bound_below : Node → ℕ → Option Step → Option SourceMeant
bound_below n x None = None
bound_below n x (Some s) =
    if is_input (variable_of n.code.now x) then option_map (OfExpression s.node) (first_some (λ b. some_if (is_named x b.identifier) b.expression) n.bindings.now) else None

abbrev pub input_source : Node → ℕ → Option SourceMeant
input_source n x = bound_below n x n.above

-- the text of a use of a node
abbrev pub source_in : UseKind → ℕ → Node → ℕ → Option SourceMeant
source_in Define k n x = declared_source Define k n.code.now.decls x
source_in Procedure k n x = declared_source Procedure k n.code.now.decls x
source_in Input k n x = input_source n x
