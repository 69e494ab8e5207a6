-- Lists of mentions that pass a test, and parts of a tree that mention only such.
use Rattle.std.proofs.Common.{◌≡◌, Bool, true, List, [], ◌∷◌, ◌++◌, Option, Some, None, refl, ap, ◌∙◌}
use Rattle.std.specs.List.{flat_map, list_all}
use Rattle.std.proofs.lemmas.Bool.{and_from}
use Rattle.uc_lexer.specs.declared.place.Place.{Place}
use Rattle.uc_syntax.specs.declared.place.Identifier.{Identifier}
use Rattle.uc_syntax.specs.declared.type_expression.Parameter.{Parameter}
use Rattle.uc_syntax.specs.declared.type_expression.TypeExpr.{TypeExpr}
use Rattle.uc_syntax.specs.declared.expression.Selection.{Selection}
use Rattle.uc_syntax.specs.declared.expression.Expr.{Expr}
use Rattle.uc_syntax.specs.declared.statement.TargetPart.{TargetPart}
use Rattle.uc_syntax.specs.declared.statement.Target.{Target}
use Rattle.uc_syntax.specs.declared.statement.RangeBound.{RangeBound}
use Rattle.uc_syntax.specs.declared.statement.Arm.{Arm}
use Rattle.uc_syntax.specs.declared.statement.Stmt.{Stmt}
use Rattle.uc_syntax.specs.declared.declaration.Clause.{Clause}
use Rattle.uc_syntax.specs.declared.declaration.Procedure.{Procedure}
use Rattle.uc_syntax.specs.declared.declaration.Binding.{Binding}
use Rattle.uc_syntax.specs.declared.declaration.WrittenRun.{WrittenRun}
use Rattle.uc_syntax.specs.declared.declaration.Command.{Command}
use Rattle.uc_syntax.specs.declared.declaration.Decl.{Decl}
use Rattle.uc_syntax.specs.declared.declaration.Module.{Module}
use Rattle.uc_syntax.specs.Mentions.{Mention, OfFile, at_places, identifier_mentions, identifiers_mention, if_written, parameters_mention, type_mentions, selection_by, expr_mentions, part_mentions, target_mentions, bound_mentions, choice_by, stmt_mentions, clause_mentions, procedure_mentions, binding_mentions, run_mentions, command_mentions, decl_mentions, module_mentions, modules_mention}
use Rattle.uc_syntax.proofs.Mentions.{all_append}
use Rattle.uc_grammar.specs.Syntax.{Nested, Value, enum_braces, record_braces, array, arguments, in_name, parens, brackets, sign_operand, if_expression, target_index, block, typed_name, range_bounds, negative_bound, call_targets, in_number, maybe_number, paths, control_braces, params, results, binds, bind_value, hyper_number, module_braces}
use Rattle.uc_words.proofs.Yields.{Each, no_more, one_more, OnSome, Passes, IdPasses}

-- all mentions pass the test
pub record PassAll (test : Mention → Bool) (mentions : List Mention) : Type 0 where
  pub all : list_all test mentions ≡ true

-- ---- the parts of a tree

module _ (test : Mention → Bool) where
  abbrev pub PlacePasses : Place → Type 0
  PlacePasses p = Passes test (OfFile p.file)

  abbrev pub TypePasses : TypeExpr → Type 0
  TypePasses t = PassAll test (type_mentions t)

  abbrev pub ParameterPasses : Parameter TypeExpr → Type 0
  ParameterPasses p = IdPasses test p.identifier × TypePasses p.ty

  abbrev pub ExprPasses : Expr → Type 0
  ExprPasses e = PassAll test (expr_mentions e)

  abbrev pub PlacedPasses : Place × Expr → Type 0
  PlacedPasses p = PlacePasses p.0 × ExprPasses p.1

  abbrev pub SelectionPasses : Selection Expr → Type 0
  SelectionPasses s = PassAll test (selection_by expr_mentions s)

  abbrev pub PartPasses : TargetPart → Type 0
  PartPasses p = PassAll test (part_mentions p)

  abbrev pub TargetPasses : Target → Type 0
  TargetPasses t = PlacePasses t.place × PassAll test (target_mentions t)

  abbrev pub BoundPasses : RangeBound → Type 0
  BoundPasses b = PassAll test (bound_mentions b)

  abbrev pub StmtPasses : Stmt → Type 0
  StmtPasses s = PassAll test (stmt_mentions s)

  abbrev pub ArmPasses : Arm Stmt → Type 0
  ArmPasses a = ExprPasses a.condition × Each StmtPasses a.body

  abbrev pub ClausePasses : Clause → Type 0
  ClausePasses c = PassAll test (clause_mentions c)

  abbrev pub ProcedurePasses : Procedure → Type 0
  ProcedurePasses p = PassAll test (procedure_mentions p)

  abbrev pub BindingPasses : Binding → Type 0
  BindingPasses b = PassAll test (binding_mentions b)

  abbrev pub RunPasses : WrittenRun → Type 0
  RunPasses r = PassAll test (run_mentions r)

  abbrev pub PathsPasses : Option (List (List Identifier)) → Type 0
  PathsPasses ps = OnSome (Each (Each (IdPasses test))) ps

  abbrev pub CommandPasses : Command → Type 0
  CommandPasses c = PassAll test (command_mentions c)

  abbrev pub DeclPasses : Decl → Type 0
  DeclPasses d = PassAll test (decl_mentions d)

  abbrev pub ModulePasses : Module → Type 0
  ModulePasses m = PassAll test (module_mentions m)

  -- what holds of the value of each nested form
  abbrev pub NestedPasses : (n : Nested) → Value n → Type 0
  NestedPasses enum_braces = Each (IdPasses test)
  NestedPasses record_braces = Each ParameterPasses
  NestedPasses array = TypePasses
  NestedPasses arguments = Each ExprPasses
  NestedPasses in_name = IdPasses test
  NestedPasses parens = PlacedPasses
  NestedPasses brackets = SelectionPasses
  NestedPasses sign_operand = PlacedPasses
  NestedPasses if_expression = PlacedPasses
  NestedPasses target_index = PartPasses
  NestedPasses block = λ b. PlacePasses b.0 × Each StmtPasses b.1
  NestedPasses typed_name = ParameterPasses
  NestedPasses range_bounds = λ r. BoundPasses r.0 × BoundPasses r.1
  NestedPasses negative_bound = BoundPasses
  NestedPasses call_targets = Each TargetPasses
  NestedPasses in_number = λ n. Unit {0}
  NestedPasses maybe_number = λ n. Unit {0}
  NestedPasses paths = Each (Each (IdPasses test))
  NestedPasses control_braces = Each CommandPasses
  NestedPasses params = Each ParameterPasses
  NestedPasses results = Each ParameterPasses
  NestedPasses binds = Each BindingPasses
  NestedPasses bind_value = ExprPasses
  NestedPasses hyper_number = λ n. Unit {0}
  NestedPasses module_braces = Each DeclPasses

-- ---- lists of mentions

module _ {test : Mention → Bool} where
  pub no_mention : PassAll test []
  no_mention = record { all = refl }

  pub one_then : {m : Mention} {ms : List Mention} → Passes test m → PassAll test ms → PassAll test (m ∷ ms)
  one_then p all = record { all = and_from _ _ p.it all.all }

  pub one_alone : {m : Mention} → Passes test m → PassAll test (m ∷ [])
  one_alone p = one_then p no_mention

  pub id_then : {m k : Mention} {ms : List Mention} → Passes test m × Passes test k → PassAll test ms → PassAll test (m ∷ k ∷ ms)
  id_then i all = one_then i.0 (one_then i.1 all)

  pub id_alone : {m k : Mention} → Passes test m × Passes test k → PassAll test (m ∷ k ∷ [])
  id_alone i = id_then i no_mention

  pub append : {xs ys : List Mention} → PassAll test xs → PassAll test ys → PassAll test (xs ++ ys)
  append {xs} {ys} a b = record { all = all_append test xs ys a.all b.all }

  -- what mentions the same
  pub same : {xs ys : List Mention} → xs ≡ ys → PassAll test ys → PassAll test xs
  same e b = record { all = ap (λ ms. list_all test ms) e ∙ b.all }

  pub of_each : {A : Type 0} {Q : A → Type 0} (f : A → List Mention) → ((x : A) → Q x → PassAll test (f x)) → {xs : List A} → Each Q xs → PassAll test (flat_map f xs)
  of_each f one no_more = no_mention
  of_each f one (one_more {x} q more) = append (one x q) (of_each f one more)

  -- ---- parts of a tree

  pub places : {ps : List Place} → Each (PlacePasses test) ps → PassAll test (at_places ps)
  places no_more = no_mention
  places (one_more q more) = one_then q (places more)

  pub ids : {is : List Identifier} → Each (IdPasses test) is → PassAll test (identifiers_mention is)
  ids each = of_each identifier_mentions (λ i h. id_alone h) each

  pub maybe_id : (o : Option Identifier) → OnSome (IdPasses test) o → PassAll test (if_written identifier_mentions o)
  maybe_id (Some i) h = id_alone h
  maybe_id None h = no_mention

  pub maybe_type : (o : Option TypeExpr) → OnSome (TypePasses test) o → PassAll test (if_written type_mentions o)
  maybe_type (Some t) h = h
  maybe_type None h = no_mention

  pub maybe_paths : (o : Option (List (List Identifier))) → PathsPasses test o → PassAll test (if_written (flat_map identifiers_mention) o)
  maybe_paths (Some ps) h = of_each identifiers_mention (λ i h. ids h) h
  maybe_paths None h = no_mention

  pub parameters : {ps : List (Parameter TypeExpr)} → Each (ParameterPasses test) ps → PassAll test (parameters_mention ps)
  parameters each = of_each (λ p. identifier_mentions p.identifier ++ type_mentions p.ty) (λ p h. id_then h.0 h.1) each

  pub exprs : {es : List Expr} → Each (ExprPasses test) es → PassAll test (flat_map expr_mentions es)
  exprs each = of_each expr_mentions (λ e h. h) each

  pub selections : {ss : List (Selection Expr)} → Each (SelectionPasses test) ss → PassAll test (flat_map (selection_by expr_mentions) ss)
  selections each = of_each (selection_by expr_mentions) (λ s h. h) each

  pub parts : {ps : List TargetPart} → Each (PartPasses test) ps → PassAll test (flat_map part_mentions ps)
  parts each = of_each part_mentions (λ p h. h) each

  pub targets : {ts : List Target} → Each (TargetPasses test) ts → PassAll test (flat_map target_mentions ts)
  targets each = of_each target_mentions (λ t h. h.1) each

  pub stmts : {ss : List Stmt} → Each (StmtPasses test) ss → PassAll test (flat_map stmt_mentions ss)
  stmts each = of_each stmt_mentions (λ s h. h) each

  pub choice : (place : Place) (arms : List (Arm Stmt)) (otherwise : Option (List Stmt)) → PlacePasses test place → Each (ArmPasses test) arms → OnSome (Each (StmtPasses test)) otherwise → PassAll test (choice_by stmt_mentions place arms otherwise)
  choice place arms otherwise p a o = one_then p (append (of_each (λ (a : Arm Stmt). expr_mentions a.condition ++ flat_map stmt_mentions a.body) (λ a h. append h.0 (stmts h.1)) a) (last otherwise o))
    where
      last : (o : Option (List Stmt)) → OnSome (Each (StmtPasses test)) o → PassAll test (if_written (flat_map stmt_mentions) o)
      last (Some b) h = stmts h
      last None h = no_mention

  pub clauses : {cs : List Clause} → Each (ClausePasses test) cs → PassAll test (flat_map clause_mentions cs)
  clauses each = of_each clause_mentions (λ c h. h) each

  pub bindings : {bs : List Binding} → Each (BindingPasses test) bs → PassAll test (flat_map binding_mentions bs)
  bindings each = of_each binding_mentions (λ b h. h) each

  pub commands : {cs : List Command} → Each (CommandPasses test) cs → PassAll test (flat_map command_mentions cs)
  commands each = of_each command_mentions (λ c h. h) each

  pub decls : {ds : List Decl} → Each (DeclPasses test) ds → PassAll test (flat_map decl_mentions ds)
  decls each = of_each decl_mentions (λ d h. h) each

  pub modules : {ms : List Module} → Each (ModulePasses test) ms → PassAll test (modules_mention ms)
  unfolding modules_mention
  modules each = of_each module_mentions (λ m h. h) each
