-- Parts of the forms of declarations that have functions of their own.
use Rattle.std.specs.Prelude.{ℕ, List, [], ◌∷◌, Option, ◌⊎◌}
use Rattle.std.proofs.Common.{inl, inr}
use Rattle.uc_forms.specs.Form.{declares, deep, either, both, made, word, one_of, after, before, ◌<|>◌}
use Rattle.uc_grammar.specs.Code.{code_of}
use Rattle.uc_grammar.specs.declared.word.Kind.{Kind}
use Rattle.uc_grammar.specs.declared.word.Word.{Word}
use Rattle.uc_grammar.specs.declared.word.Kind.TheVariants.{Colon, Semicolon, Assign, Dot, Star, KwVar, KwInput, KwOutput, KwConst, KwFunction, KwDefine, KwProcedure, KwReturns, KwRequires, KwEnsures, KwModifies, KwInstance, KwInit, KwNext, KwInvariant, KwAxiom, KwHyperinvariant, KwHyperaxiom, KwControl}
use Rattle.uc_grammar.specs.Syntax.{F, id, new_id, listed, optional, ty, expr, statements, labelled, params, results, binds, bind_value, hyper_number, control_braces, procedure, variable_kind, hyper_of}
use Rattle.uc_lexer.specs.declared.place.Place.{Place}
use Rattle.uc_syntax.specs.declared.place.Identifier.{Identifier}
use Rattle.uc_syntax.specs.declared.type_expression.Parameter.{Parameter}
use Rattle.uc_syntax.specs.declared.type_expression.TypeExpr.{TypeExpr}
use Rattle.uc_syntax.specs.declared.declaration.Binding.{Binding}
use Rattle.uc_syntax.specs.declared.declaration.Decl.{Decl}
use Rattle.uc_syntax.specs.declared.declaration.Decl.TheVariants as decls_

-- the kinds of words that begin a clause
abbrev pub clause_codes : List ℕ
clause_codes = code_of KwRequires ∷ code_of KwEnsures ∷ code_of KwModifies ∷ []

abbrev pub returned : F (Option (List (Parameter TypeExpr)))
returned = optional (after KwReturns (deep results))

-- a type of the module's own, behind the keyword
abbrev pub own_type : F (Identifier × (Word ⊎ TypeExpr))
own_type = both new_id (either (word Semicolon) (after Assign (before ty Semicolon)))

abbrev pub own_type_of : Place → Identifier × (Word ⊎ TypeExpr) → Decl
own_type_of p y = elim y.1 [ inl w ↦ decls_.OpaqueType p y.0 | inr t ↦ decls_.TypeAlias p y.0 t ]

-- the types of another module, behind the keyword
abbrev pub imported_types : F Identifier
imported_types = after Star (after Assign (before (before (before id Dot) Star) Semicolon))

-- the other kinds of words that begin a declaration of variables
abbrev pub variable_kinds : List Kind
variable_kinds = KwInput ∷ KwOutput ∷ KwConst ∷ []

abbrev pub variables : F Decl
variables = made (λ x. decls_.Variables x.0.place (variable_kind x.0.kind) x.1.0 x.1.1) (both (one_of KwVar variable_kinds) (both (listed new_id) (after Colon (before ty Semicolon))))

abbrev pub function : F Decl
function = made (λ x. decls_.Function x.0.place x.1.0 x.1.1.0 x.1.1.1) (both (word KwFunction) (both new_id (both (deep params) (after Colon (before ty Semicolon)))))

abbrev pub define : F Decl
define = made (λ x. decls_.Define x.0.place x.1.0 x.1.1.0 x.1.1.1.0 x.1.1.1.1) (both (word KwDefine) (both new_id (both (deep params) (after Colon (both ty (after Assign (before expr Semicolon)))))))

abbrev pub procedure_declaration : F Decl
procedure_declaration = made (λ x. decls_.Procedure x.0.place x.1) (both (word KwProcedure) procedure)

abbrev pub bind : F Binding
bind = made (λ x. record { identifier = x.0; expression = x.1 }) (both id (after Colon (deep bind_value)))

abbrev pub instance : F Decl
instance = made (λ x. decls_.Instance x.0.place x.1.0 x.1.1.0 x.1.1.1) (both (word KwInstance) (both new_id (after Colon (both id (before (deep binds) Semicolon)))))

abbrev pub init : F Decl
init = made (λ x. decls_.Init x.0.place x.1) (both (word KwInit) statements)

abbrev pub next : F Decl
next = made (λ x. decls_.Next x.0.place x.1) (both (word KwNext) statements)

abbrev pub invariant : F Decl
invariant = made (λ x. decls_.Invariant x.0.place x.1.0 x.1.1) (both (word KwInvariant) (both new_id (after Colon (before expr Semicolon))))

abbrev pub axiom_declaration : F Decl
axiom_declaration = made (λ x. decls_.Axiom x.0.place x.1.0 x.1.1) (both (word KwAxiom) (labelled declares (before expr Semicolon)))

abbrev pub hyper : F Decl
hyper = made hyper_of (both (one_of KwHyperinvariant (KwHyperaxiom ∷ [])) (both (deep hyper_number) (both new_id (after Colon (before expr Semicolon)))))

abbrev pub control : F Decl
control = made (λ x. decls_.Control x.0.place x.1) (both (word KwControl) (deep control_braces))

-- the alternatives from that of invariants on
abbrev pub property : F Decl
property = invariant <|> axiom_declaration <|> hyper <|> control

-- the alternatives from that of procedures on
abbrev pub behavior : F Decl
behavior = procedure_declaration <|> instance <|> init <|> next <|> property
