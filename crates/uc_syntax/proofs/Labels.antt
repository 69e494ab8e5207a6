-- The labels of the enums in each form, in terms of its parts.
use Rattle.std.proofs.Common.{◌≡◌, ℕ, Bool, List, [], ◌∷◌, ◌++◌, map, Option, None, Some, refl, sym, ap, ◌∙◌, append_assoc}
use Rattle.std.specs.List.{flat_map}
use Rattle.std.proofs.lemmas.List.{map-append}
use Rattle.std.proofs.lemmas.Grind.{flat_map-append}
use Rattle.uc_lexer.specs.declared.place.Place.{Place}
use Rattle.uc_syntax.specs.declared.place.Identifier.{Identifier}
use Rattle.uc_syntax.specs.declared.type_expression.Parameter.{Parameter}
use Rattle.uc_syntax.specs.declared.type_expression.TypeExpr.{TypeExpr}
use Rattle.uc_syntax.specs.declared.type_expression.TypeExpr.TheOpen.TypeExpr-F.{Boolean as BooleanForm, Integer as IntegerForm, Bits as BitsForm, Enumeration as EnumerationForm, Record as RecordForm, Array as ArrayForm, Named as NamedForm, OfModule as OfModuleForm}
use Rattle.uc_syntax.specs.declared.type_expression.TypeExpr.TheViews.{roll-TypeExpr, Record, Array}
use Rattle.uc_syntax.specs.declared.type_expression.TypeExpr.TheVariants.{Boolean, Integer, Bits, Enumeration, Named, OfModule}
use Rattle.uc_syntax.specs.declared.type_expression.TypeExpr.TheFolds.{fold-TypeExpr, fold-roll-TypeExpr}
use Rattle.uc_syntax.specs.declared.expression.Expr.{Expr}
use Rattle.uc_syntax.specs.declared.statement.Target.{Target}
use Rattle.uc_syntax.specs.declared.statement.RangeBound.{RangeBound}
use Rattle.uc_syntax.specs.declared.statement.Arm.{Arm}
use Rattle.uc_syntax.specs.declared.statement.Stmt.{Stmt}
use Rattle.uc_syntax.specs.declared.statement.Stmt.TheOpen.Stmt-F.{Local as LocalForm, Skip as SkipForm, Block as BlockForm, Assert as AssertForm, Assume as AssumeForm, Havoc as HavocForm, Assign as AssignForm, If as IfForm, Case as CaseForm, For as ForForm, Call as CallForm, Next as NextForm}
use Rattle.uc_syntax.specs.declared.statement.Stmt.TheViews.{roll-Stmt, Block, If, Case, For}
use Rattle.uc_syntax.specs.declared.statement.Stmt.TheVariants.{Local, Skip, Assert, Assume, Havoc, Assign, Call, Next}
use Rattle.uc_syntax.specs.declared.statement.Stmt.TheFolds.{fold-Stmt, fold-roll-Stmt}
use Rattle.uc_syntax.specs.declared.declaration.VariableKind.{VariableKind}
use Rattle.uc_syntax.specs.declared.declaration.Procedure as procedures
use Rattle.uc_syntax.specs.declared.declaration.Decl.{Decl}
use Rattle.uc_syntax.specs.declared.declaration.Decl.TheVariants.{TypeAlias, Variables, Function, Define, Procedure, Init, Next as NextBlock}
use Rattle.uc_syntax.specs.declared.declaration.Module.{Module}
use Rattle.uc_syntax.specs.WrittenTypes.{Written, enums_form, enums_in, enums_of, enums_of_module, labels_of, types_in, types_in_arms, types_in_block, types_in_form, types_of_module, types_of_parameters}
use Rattle.uc_syntax.specs.Labels.{type_labels, stmt_labels, else_labels, optional_labels, decl_labels, module_labels}
use Rattle.uc_syntax.proofs.Added.{append_nil}

-- a map of a flat map of a map
map_flat : {A B C : Type 0} (g : B → C) (f : A → List B) (xs : List A) → map g (flat_map f xs) ≡ flat_map (λ x. map g (f x)) xs
map_flat g f [] = refl
map_flat g f (x ∷ xs) = map-append g (f x) (flat_map f xs) ∙ ap (λ ys. map g (f x) ++ ys) (map_flat g f xs)

pub flat_map_map : {A B C : Type 0} (g : B → List C) (f : A → B) (xs : List A) → flat_map g (map f xs) ≡ flat_map (λ x. g (f x)) xs
flat_map_map g f [] = refl
flat_map_map g f (x ∷ xs) = ap (λ ys. g (f x) ++ ys) (flat_map_map g f xs)

pub flat_flat : {A B C : Type 0} (g : B → List C) (f : A → List B) (xs : List A) → flat_map g (flat_map f xs) ≡ flat_map (λ x. flat_map g (f x)) xs
flat_flat g f [] = refl
flat_flat g f (x ∷ xs) = flat_map-append g (f x) (flat_map f xs) ∙ ap (λ ys. flat_map g (f x) ++ ys) (flat_flat g f xs)

pub labels_boolean : (place : Place) → type_labels (Boolean place) ≡ []
unfolding type_labels enums_in roll-TypeExpr denote.Hole.Carrier.roll
labels_boolean place = ap (map (λ e. e.labels)) (fold-roll-TypeExpr (List Written) enums_form (BooleanForm place))

pub labels_integer : (place : Place) → type_labels (Integer place) ≡ []
unfolding type_labels enums_in roll-TypeExpr denote.Hole.Carrier.roll
labels_integer place = ap (map (λ e. e.labels)) (fold-roll-TypeExpr (List Written) enums_form (IntegerForm place))

pub labels_bits : (place : Place) (width : ℕ) → type_labels (Bits place width) ≡ []
unfolding type_labels enums_in roll-TypeExpr denote.Hole.Carrier.roll
labels_bits place width = ap (map (λ e. e.labels)) (fold-roll-TypeExpr (List Written) enums_form (BitsForm place width))

pub labels_enumeration : (place : Place) (labels : List Identifier) → type_labels (Enumeration place labels) ≡ map (λ l. l.name) labels ∷ []
unfolding type_labels enums_in roll-TypeExpr denote.Hole.Carrier.roll
labels_enumeration place labels = ap (map (λ e. e.labels)) (fold-roll-TypeExpr (List Written) enums_form (EnumerationForm place labels))

pub labels_record : (place : Place) (fields : List (Parameter TypeExpr)) → type_labels (Record place fields) ≡ flat_map (λ p. type_labels p.ty) fields
unfolding type_labels enums_in roll-TypeExpr denote.Hole.Carrier.roll
labels_record place fields = ap (map (λ e. e.labels)) (fold-roll-TypeExpr (List Written) enums_form (RecordForm place fields))
    ∙ map_flat (λ e. e.labels) (λ p. p.ty) (map _ fields) ∙ flat_map_map (λ p. map (λ e. e.labels) p.ty) _ fields

pub labels_array : (place : Place) (index : TypeExpr) (element : TypeExpr) → type_labels (Array place index element) ≡ type_labels index ++ type_labels element
unfolding type_labels enums_in roll-TypeExpr denote.Hole.Carrier.roll
labels_array place index element = ap (map (λ e. e.labels)) (fold-roll-TypeExpr (List Written) enums_form (ArrayForm place index element))
    ∙ map-append (λ e. e.labels) (enums_in index) (enums_in element)

pub labels_named : (place : Place) (x : ℕ) → type_labels (Named place x) ≡ []
unfolding type_labels enums_in roll-TypeExpr denote.Hole.Carrier.roll
labels_named place x = ap (map (λ e. e.labels)) (fold-roll-TypeExpr (List Written) enums_form (NamedForm place x))

pub labels_of_module : (place : Place) (m : ℕ) (i : Identifier) → type_labels (OfModule place m i) ≡ []
unfolding type_labels enums_in roll-TypeExpr denote.Hole.Carrier.roll
labels_of_module place m i = ap (map (λ e. e.labels)) (fold-roll-TypeExpr (List Written) enums_form (OfModuleForm place m i))

-- the types of a block, statement by statement
abbrev types_by : Stmt → List TypeExpr
types_by = fold-Stmt (List TypeExpr) types_in_form

block_labels : (block : List Stmt) → flat_map type_labels (flat_map (λ ts. ts) (map types_by block)) ≡ flat_map stmt_labels block
unfolding stmt_labels
block_labels block = ap (flat_map type_labels) (flat_map_map (λ ts. ts) types_by block) ∙ flat_flat type_labels types_by block

through_arm : Arm Stmt → Arm (List TypeExpr)
through_arm a = record { condition = a.condition; body = map types_by a.body }

arms_labels : (arms : List (Arm Stmt)) → flat_map type_labels (types_in_arms (map through_arm arms)) ≡ flat_map (λ a. flat_map stmt_labels a.body) arms
unfolding through_arm
arms_labels [] = refl
arms_labels (a ∷ more) =
    flat_map-append type_labels (flat_map (λ ts. ts) (map types_by a.body)) (types_in_arms (map through_arm more))
    ∙ (λ k. block_labels a.body k ++ arms_labels more k)

pub labels_local : (place : Place) (names : List Identifier) (type : TypeExpr) → stmt_labels (Local place names type) ≡ type_labels type
unfolding stmt_labels roll-Stmt denote.Hole.Carrier.roll
labels_local place names type = ap (flat_map type_labels) (fold-roll-Stmt (List TypeExpr) types_in_form (LocalForm place names type)) ∙ append_nil (type_labels type)

pub labels_skip : (place : Place) → stmt_labels (Skip place) ≡ []
unfolding stmt_labels roll-Stmt denote.Hole.Carrier.roll
labels_skip place = ap (flat_map type_labels) (fold-roll-Stmt (List TypeExpr) types_in_form (SkipForm place))

pub labels_block : (place : Place) (block : List Stmt) → stmt_labels (Block place block) ≡ flat_map stmt_labels block
unfolding stmt_labels roll-Stmt denote.Hole.Carrier.roll
labels_block place block = ap (flat_map type_labels) (fold-roll-Stmt (List TypeExpr) types_in_form (BlockForm place block)) ∙ block_labels block

pub labels_assert : (place : Place) (name : Option Identifier) (e : Expr) → stmt_labels (Assert place name e) ≡ []
unfolding stmt_labels roll-Stmt denote.Hole.Carrier.roll
labels_assert place name e = ap (flat_map type_labels) (fold-roll-Stmt (List TypeExpr) types_in_form (AssertForm place name e))

pub labels_assume : (place : Place) (e : Expr) → stmt_labels (Assume place e) ≡ []
unfolding stmt_labels roll-Stmt denote.Hole.Carrier.roll
labels_assume place e = ap (flat_map type_labels) (fold-roll-Stmt (List TypeExpr) types_in_form (AssumeForm place e))

pub labels_havoc : (place : Place) (i : Identifier) (primed : Bool) → stmt_labels (Havoc place i primed) ≡ []
unfolding stmt_labels roll-Stmt denote.Hole.Carrier.roll
labels_havoc place i primed = ap (flat_map type_labels) (fold-roll-Stmt (List TypeExpr) types_in_form (HavocForm place i primed))

pub labels_assign : (place : Place) (targets : List Target) (sources : List Expr) → stmt_labels (Assign place targets sources) ≡ []
unfolding stmt_labels roll-Stmt denote.Hole.Carrier.roll
labels_assign place targets sources = ap (flat_map type_labels) (fold-roll-Stmt (List TypeExpr) types_in_form (AssignForm place targets sources))

pub labels_if : (place : Place) (arms : List (Arm Stmt)) (otherwise : Option (List Stmt)) → stmt_labels (If place arms otherwise) ≡ flat_map (λ a. flat_map stmt_labels a.body) arms ++ else_labels otherwise
unfolding stmt_labels through_arm roll-Stmt denote.Hole.Carrier.roll
labels_if place arms None =
    ap (flat_map type_labels) (fold-roll-Stmt (List TypeExpr) types_in_form (IfForm place arms None))
    ∙ flat_map-append type_labels (types_in_arms (map through_arm arms)) [] ∙ ap (λ ls. ls ++ []) (arms_labels arms)
labels_if place arms (Some block) =
    ap (flat_map type_labels) (fold-roll-Stmt (List TypeExpr) types_in_form (IfForm place arms (Some block)))
    ∙ flat_map-append type_labels (types_in_arms (map through_arm arms)) (flat_map (λ ts. ts) (map types_by block))
    ∙ (λ k. arms_labels arms k ++ block_labels block k)

pub labels_case : (place : Place) (arms : List (Arm Stmt)) (otherwise : Option (List Stmt)) → stmt_labels (Case place arms otherwise) ≡ flat_map (λ a. flat_map stmt_labels a.body) arms ++ else_labels otherwise
unfolding stmt_labels through_arm roll-Stmt denote.Hole.Carrier.roll
labels_case place arms None =
    ap (flat_map type_labels) (fold-roll-Stmt (List TypeExpr) types_in_form (CaseForm place arms None))
    ∙ flat_map-append type_labels (types_in_arms (map through_arm arms)) [] ∙ ap (λ ls. ls ++ []) (arms_labels arms)
labels_case place arms (Some block) =
    ap (flat_map type_labels) (fold-roll-Stmt (List TypeExpr) types_in_form (CaseForm place arms (Some block)))
    ∙ flat_map-append type_labels (types_in_arms (map through_arm arms)) (flat_map (λ ts. ts) (map types_by block))
    ∙ (λ k. arms_labels arms k ++ block_labels block k)

pub labels_for : (place : Place) (i : Identifier) (type : Option TypeExpr) (from : RangeBound) (to : RangeBound) (block : List Stmt) → stmt_labels (For place i type from to block) ≡ optional_labels type ++ flat_map stmt_labels block
unfolding stmt_labels roll-Stmt denote.Hole.Carrier.roll
labels_for place i None from to block =
    ap (flat_map type_labels) (fold-roll-Stmt (List TypeExpr) types_in_form (ForForm place i None from to block)) ∙ block_labels block
labels_for place i (Some type) from to block =
    ap (flat_map type_labels) (fold-roll-Stmt (List TypeExpr) types_in_form (ForForm place i (Some type) from to block))
    ∙ ap (λ ls. type_labels type ++ ls) (block_labels block)

pub labels_call : (place : Place) (targets : List Target) (i : Identifier) (arguments : List Expr) → stmt_labels (Call place targets i arguments) ≡ []
unfolding stmt_labels roll-Stmt denote.Hole.Carrier.roll
labels_call place targets i arguments = ap (flat_map type_labels) (fold-roll-Stmt (List TypeExpr) types_in_form (CallForm place targets i arguments))

pub labels_next : (place : Place) (i : Identifier) → stmt_labels (Next place i) ≡ []
unfolding stmt_labels roll-Stmt denote.Hole.Carrier.roll
labels_next place i = ap (flat_map type_labels) (fold-roll-Stmt (List TypeExpr) types_in_form (NextForm place i))

-- Declarations. The labels of parameters are those of their types, one after another.

parameter_labels : (ps : List (Parameter TypeExpr)) (types : List TypeExpr) →
    flat_map type_labels (types_of_parameters ps ++ types) ≡ flat_map (λ p. type_labels p.ty) ps ++ flat_map type_labels types
parameter_labels ps types = flat_map-append type_labels (types_of_parameters ps) types ∙ ap (λ ls. ls ++ flat_map type_labels types) (flat_map_map type_labels (λ p. p.ty) ps)

blocks_labels : (block : List Stmt) → flat_map type_labels (types_in_block block) ≡ flat_map stmt_labels block
unfolding stmt_labels
blocks_labels block = flat_flat type_labels (fold-Stmt (List TypeExpr) types_in_form) block

pub labels_alias : (place : Place) (i : Identifier) (type : TypeExpr) → decl_labels (TypeAlias place i type) ≡ type_labels type
unfolding decl_labels
labels_alias place i type = append_nil (type_labels type)

pub labels_variables : (place : Place) (kind : VariableKind) (names : List Identifier) (type : TypeExpr) →
    decl_labels (Variables place kind names type) ≡ type_labels type
unfolding decl_labels
labels_variables place kind names type = append_nil (type_labels type)

pub labels_function : (place : Place) (i : Identifier) (ps : List (Parameter TypeExpr)) (type : TypeExpr) →
    decl_labels (Function place i ps type) ≡ flat_map (λ p. type_labels p.ty) ps ++ type_labels type
unfolding decl_labels
labels_function place i ps type = parameter_labels ps (type ∷ []) ∙ ap (λ ls. flat_map (λ p. type_labels p.ty) ps ++ ls) (append_nil (type_labels type))

pub labels_define : (place : Place) (i : Identifier) (ps : List (Parameter TypeExpr)) (type : TypeExpr) (body : Expr) →
    decl_labels (Define place i ps type body) ≡ flat_map (λ p. type_labels p.ty) ps ++ type_labels type
unfolding decl_labels
labels_define place i ps type body = parameter_labels ps (type ∷ []) ∙ ap (λ ls. flat_map (λ p. type_labels p.ty) ps ++ ls) (append_nil (type_labels type))

pub labels_procedure : (place : Place) (p : procedures.Procedure) → decl_labels (Procedure place p) ≡
    flat_map (λ q. type_labels q.ty) p.parameters ++ (flat_map (λ q. type_labels q.ty) p.results ++ flat_map stmt_labels p.body)
unfolding decl_labels
labels_procedure place p =
    parameter_labels p.parameters (types_of_parameters p.results ++ types_in_block p.body)
    ∙ ap (λ ls. flat_map (λ q. type_labels q.ty) p.parameters ++ ls)
    (parameter_labels p.results (types_in_block p.body) ∙ ap (λ ls. flat_map (λ q. type_labels q.ty) p.results ++ ls) (blocks_labels p.body))

pub labels_init : (place : Place) (block : List Stmt) → decl_labels (Init place block) ≡ flat_map stmt_labels block
unfolding decl_labels
labels_init place block = blocks_labels block

pub labels_next_block : (place : Place) (block : List Stmt) → decl_labels (NextBlock place block) ≡ flat_map stmt_labels block
unfolding decl_labels
labels_next_block place block = blocks_labels block

-- a declaration of any other form writes no type
pub labels_none : (d : Decl) → ((place : Place) (i : Identifier) (type : TypeExpr) → d ≡ TypeAlias place i type → ⊥) →
    ((place : Place) (kind : VariableKind) (names : List Identifier) (type : TypeExpr) → d ≡ Variables place kind names type → ⊥) →
    ((place : Place) (i : Identifier) (ps : List (Parameter TypeExpr)) (type : TypeExpr) → d ≡ Function place i ps type → ⊥) →
    ((place : Place) (i : Identifier) (ps : List (Parameter TypeExpr)) (type : TypeExpr) (body : Expr) → d ≡ Define place i ps type body → ⊥) →
    ((place : Place) (p : procedures.Procedure) → d ≡ Procedure place p → ⊥) →
    ((place : Place) (block : List Stmt) → d ≡ Init place block → ⊥) →
    ((place : Place) (block : List Stmt) → d ≡ NextBlock place block → ⊥) → decl_labels d ≡ []
unfolding decl_labels
labels_none (TypeAlias place i type) a v f g p b n = absurd (a place i type refl)
labels_none (Variables place kind names type) a v f g p b n = absurd (v place kind names type refl)
labels_none (Function place i ps type) a v f g p b n = absurd (f place i ps type refl)
labels_none (Define place i ps type body) a v f g p b n = absurd (g place i ps type body refl)
labels_none (Procedure place q) a v f g p b n = absurd (p place q refl)
labels_none (Init place block) a v f g p b n = absurd (b place block refl)
labels_none (NextBlock place block) a v f g p b n = absurd (n place block refl)
labels_none other a v f g p b n = refl

flat_map_same : {A B : Type 0} (f g : A → List B) (xs : List A) → ((x : A) → f x ≡ g x) → flat_map f xs ≡ flat_map g xs
flat_map_same f g xs e = ap (λ h. flat_map h xs) (λ k x. e x k)

module_labels_are : (m : Module) → map (λ e. e.labels) (enums_of_module m) ≡ module_labels m
unfolding module_labels decl_labels type_labels
module_labels_are m = map_flat (λ e. e.labels) enums_in (types_of_module m) ∙ flat_flat (λ t. map (λ e. e.labels) (enums_in t)) types_in m.decls

-- the labels of a design, module by module
pub labels_of_modules : (modules : List Module) → labels_of modules ≡ flat_map module_labels modules
unfolding enums_of
labels_of_modules modules =
    map_flat (λ e. e.labels) enums_of_module modules ∙ flat_map_same (λ m. map (λ e. e.labels) (enums_of_module m)) module_labels modules module_labels_are
