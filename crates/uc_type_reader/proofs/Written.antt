-- What each form of a type, a statement and a declaration writes, in terms of its parts.
use Rattle.std.proofs.Common.{◌≡◌, ℕ, Bool, List, [], ◌∷◌, ◌++◌, map, Option, None, Some, refl, sym, ap, ◌∙◌, append_assoc}
use Rattle.std.specs.List.{flat_map}
use Rattle.std.proofs.lemmas.List.{map-append}
use Rattle.std.proofs.lemmas.Grind.{flat_map-append}
use Rattle.uc_lexer.specs.declared.place.Place.{Place}
use Rattle.uc_syntax.specs.declared.place.Identifier.{Identifier}
use Rattle.uc_syntax.specs.declared.type_expression.Parameter.{Parameter}
use Rattle.uc_syntax.specs.declared.type_expression.TypeExpr.{TypeExpr}
use Rattle.uc_syntax.specs.declared.type_expression.TypeExpr.TheOpen.TypeExpr-F.{Boolean as BooleanForm, Integer as IntegerForm, Bits as BitsForm, Enumeration as EnumerationForm, Record as RecordForm, Array as ArrayForm, Named as NamedForm, OfModule as OfModuleForm}
use Rattle.uc_syntax.specs.declared.type_expression.TypeExpr.TheViews.{roll-TypeExpr, Record, Array}
use Rattle.uc_syntax.specs.declared.type_expression.TypeExpr.TheVariants.{Boolean, Integer, Bits, Enumeration, Named, OfModule}
use Rattle.uc_syntax.specs.declared.type_expression.TypeExpr.TheFolds.{fold-TypeExpr, fold-roll-TypeExpr}
use Rattle.uc_syntax.specs.declared.expression.Expr.{Expr}
use Rattle.uc_syntax.specs.declared.statement.Target.{Target}
use Rattle.uc_syntax.specs.declared.statement.RangeBound.{RangeBound}
use Rattle.uc_syntax.specs.declared.statement.Arm.{Arm}
use Rattle.uc_syntax.specs.declared.statement.Stmt.{Stmt}
use Rattle.uc_syntax.specs.declared.statement.Stmt.TheOpen.Stmt-F.{Local as LocalForm, Skip as SkipForm, Block as BlockForm, Assert as AssertForm, Assume as AssumeForm, Havoc as HavocForm, Assign as AssignForm, If as IfForm, Case as CaseForm, For as ForForm, Call as CallForm, Next as NextForm}
use Rattle.uc_syntax.specs.declared.statement.Stmt.TheViews.{roll-Stmt, Block, If, Case, For}
use Rattle.uc_syntax.specs.declared.statement.Stmt.TheVariants.{Local, Skip, Assert, Assume, Havoc, Assign, Call, Next}
use Rattle.uc_syntax.specs.declared.statement.Stmt.TheFolds.{fold-Stmt, fold-roll-Stmt}
use Rattle.uc_syntax.specs.declared.declaration.VariableKind.{VariableKind}
use Rattle.uc_syntax.specs.declared.declaration.Procedure as procedures
use Rattle.uc_syntax.specs.declared.declaration.Decl.{Decl}
use Rattle.uc_syntax.specs.declared.declaration.Decl.TheVariants.{TypeAlias, Variables, Function, Define, Procedure, Init, Next as NextBlock}
use Rattle.uc_syntax.specs.WrittenTypes.{Written, enums_form, enums_in, types_in, types_in_arms, types_in_block, types_in_form, types_in_option, types_of_parameters}
use Rattle.uc_syntax.proofs.Added.{append_nil}
use Rattle.uc_syntax.proofs.Labels.{flat_map_map, flat_flat}
use Rattle.uc_meaning.specs.Types.{modules_form}
use Rattle.uc_type_reader.specs.declared.mentioned.WrittenEnum.{WrittenEnum}
use Rattle.uc_type_reader.specs.declared.mentioned.Mentioned.{Mentioned}
use Rattle.uc_type_reader.specs.Mentioned.{Gains, enum_written, enums_at, modules_at, types_written, types_in_arm, types_in_else}

-- a type gains its own enums and modules
pub gains_type : (a b : Mentioned) (t y : TypeExpr) (es : List WrittenEnum) (ms : List ℕ) → t ≡ y → enums_at y ≡ es → modules_at y ≡ ms →
    b.enums ≡ a.enums ++ es → b.modules ≡ a.modules ++ ms → Gains a b (t ∷ [])
gains_type a b t y es ms same enums modules first second = record {
  enums = first ∙ ap (λ ys. a.enums ++ ys) (sym (append_nil (enums_at t) ∙ ap enums_at same ∙ enums));
  modules = second ∙ ap (λ ys. a.modules ++ ys) (sym (append_nil (modules_at t) ∙ ap modules_at same ∙ modules));
}

-- a type that has no part gains nothing
pub gains_plain : (a : Mentioned) (t y : TypeExpr) → t ≡ y → enums_at y ≡ [] → modules_at y ≡ [] → Gains a a (t ∷ [])
gains_plain a t y same enums modules = gains_type a a t y [] [] same enums modules (sym (append_nil a.enums)) (sym (append_nil a.modules))

-- a type gains what the types inside gain
pub gains_inside : (a b : Mentioned) (t y : TypeExpr) (ts : List TypeExpr) → t ≡ y → enums_at y ≡ flat_map enums_at ts → modules_at y ≡ flat_map modules_at ts →
    Gains a b ts → Gains a b (t ∷ [])
gains_inside a b t y ts same enums modules inner =
    gains_type a b t y (flat_map enums_at ts) (flat_map modules_at ts) same enums modules inner.enums inner.modules

map_flat : {A B C : Type 0} (g : B → C) (f : A → List B) (xs : List A) → map g (flat_map f xs) ≡ flat_map (λ x. map g (f x)) xs
map_flat g f [] = refl
map_flat g f (x ∷ xs) = map-append g (f x) (flat_map f xs) ∙ ap (λ ys. map g (f x) ++ ys) (map_flat g f xs)

pub enums_boolean : (place : Place) → enums_at (Boolean place) ≡ []
unfolding enums_in roll-TypeExpr denote.Hole.Carrier.roll
enums_boolean place = ap (map enum_written) (fold-roll-TypeExpr (List Written) enums_form (BooleanForm place))

pub enums_integer : (place : Place) → enums_at (Integer place) ≡ []
unfolding enums_in roll-TypeExpr denote.Hole.Carrier.roll
enums_integer place = ap (map enum_written) (fold-roll-TypeExpr (List Written) enums_form (IntegerForm place))

pub enums_bits : (place : Place) (width : ℕ) → enums_at (Bits place width) ≡ []
unfolding enums_in roll-TypeExpr denote.Hole.Carrier.roll
enums_bits place width = ap (map enum_written) (fold-roll-TypeExpr (List Written) enums_form (BitsForm place width))

pub enums_enumeration : (place : Place) (labels : List Identifier) → enums_at (Enumeration place labels) ≡ record { place = place; labels = map (λ l. l.name) labels } ∷ []
unfolding enums_in roll-TypeExpr denote.Hole.Carrier.roll
enums_enumeration place labels = ap (map enum_written) (fold-roll-TypeExpr (List Written) enums_form (EnumerationForm place labels))

pub enums_record : (place : Place) (fields : List (Parameter TypeExpr)) → enums_at (Record place fields) ≡ flat_map enums_at (types_of_parameters fields)
unfolding enums_in roll-TypeExpr denote.Hole.Carrier.roll
enums_record place fields = ap (map enum_written) (fold-roll-TypeExpr (List Written) enums_form (RecordForm place fields))
    ∙ map_flat enum_written (λ p. p.ty) (map _ fields) ∙ flat_map_map (λ p. map enum_written p.ty) _ fields
    ∙ sym (flat_map_map enums_at (λ p. p.ty) fields)

pub enums_array : (place : Place) (index : TypeExpr) (element : TypeExpr) → enums_at (Array place index element) ≡ flat_map enums_at (index ∷ (element ∷ []))
unfolding enums_in roll-TypeExpr denote.Hole.Carrier.roll
enums_array place index element = ap (map enum_written) (fold-roll-TypeExpr (List Written) enums_form (ArrayForm place index element))
    ∙ map-append enum_written (enums_in index) (enums_in element) ∙ ap (λ ys. enums_at index ++ ys) (sym (append_nil (enums_at element)))

pub enums_named : (place : Place) (x : ℕ) → enums_at (Named place x) ≡ []
unfolding enums_in roll-TypeExpr denote.Hole.Carrier.roll
enums_named place x = ap (map enum_written) (fold-roll-TypeExpr (List Written) enums_form (NamedForm place x))

pub enums_of_module : (place : Place) (m : ℕ) (i : Identifier) → enums_at (OfModule place m i) ≡ []
unfolding enums_in roll-TypeExpr denote.Hole.Carrier.roll
enums_of_module place m i = ap (map enum_written) (fold-roll-TypeExpr (List Written) enums_form (OfModuleForm place m i))

pub modules_boolean : (place : Place) → modules_at (Boolean place) ≡ []
unfolding modules_at roll-TypeExpr denote.Hole.Carrier.roll
modules_boolean place = fold-roll-TypeExpr (List ℕ) modules_form (BooleanForm place)

pub modules_integer : (place : Place) → modules_at (Integer place) ≡ []
unfolding modules_at roll-TypeExpr denote.Hole.Carrier.roll
modules_integer place = fold-roll-TypeExpr (List ℕ) modules_form (IntegerForm place)

pub modules_bits : (place : Place) (width : ℕ) → modules_at (Bits place width) ≡ []
unfolding modules_at roll-TypeExpr denote.Hole.Carrier.roll
modules_bits place width = fold-roll-TypeExpr (List ℕ) modules_form (BitsForm place width)

pub modules_enumeration : (place : Place) (labels : List Identifier) → modules_at (Enumeration place labels) ≡ []
unfolding modules_at roll-TypeExpr denote.Hole.Carrier.roll
modules_enumeration place labels = fold-roll-TypeExpr (List ℕ) modules_form (EnumerationForm place labels)

pub modules_record : (place : Place) (fields : List (Parameter TypeExpr)) → modules_at (Record place fields) ≡ flat_map modules_at (types_of_parameters fields)
unfolding modules_at roll-TypeExpr denote.Hole.Carrier.roll
modules_record place fields = fold-roll-TypeExpr (List ℕ) modules_form (RecordForm place fields)
    ∙ flat_map_map (λ p. p.ty) _ fields ∙ sym (flat_map_map modules_at (λ p. p.ty) fields)

pub modules_array : (place : Place) (index : TypeExpr) (element : TypeExpr) → modules_at (Array place index element) ≡ flat_map modules_at (index ∷ (element ∷ []))
unfolding modules_at roll-TypeExpr denote.Hole.Carrier.roll
modules_array place index element = fold-roll-TypeExpr (List ℕ) modules_form (ArrayForm place index element)
    ∙ ap (λ ys. modules_at index ++ ys) (sym (append_nil (modules_at element)))

pub modules_named : (place : Place) (x : ℕ) → modules_at (Named place x) ≡ []
unfolding modules_at roll-TypeExpr denote.Hole.Carrier.roll
modules_named place x = fold-roll-TypeExpr (List ℕ) modules_form (NamedForm place x)

pub modules_of_module : (place : Place) (m : ℕ) (i : Identifier) → modules_at (OfModule place m i) ≡ m ∷ []
unfolding modules_at roll-TypeExpr denote.Hole.Carrier.roll
modules_of_module place m i = fold-roll-TypeExpr (List ℕ) modules_form (OfModuleForm place m i)

-- Statements.

pub types_local : (place : Place) (names : List Identifier) (type : TypeExpr) → types_written (Local place names type) ≡ type ∷ []
unfolding types_written roll-Stmt denote.Hole.Carrier.roll
types_local place names type = fold-roll-Stmt (List TypeExpr) types_in_form (LocalForm place names type)

pub types_skip : (place : Place) → types_written (Skip place) ≡ []
unfolding types_written roll-Stmt denote.Hole.Carrier.roll
types_skip place = fold-roll-Stmt (List TypeExpr) types_in_form (SkipForm place)

block_types : (block : List Stmt) → flat_map (λ ts. ts) (map types_written block) ≡ flat_map types_written block
block_types block = flat_map_map (λ ts. ts) types_written block

through_arm : Arm Stmt → Arm (List TypeExpr)
through_arm a = record { condition = a.condition; body = map types_written a.body }

arms_types : (arms : List (Arm Stmt)) → types_in_arms (map through_arm arms) ≡ flat_map types_in_arm arms
unfolding through_arm
arms_types [] = refl
arms_types (a ∷ more) = (λ k. block_types a.body k ++ arms_types more k)

pub types_block : (place : Place) (block : List Stmt) → types_written (Block place block) ≡ flat_map types_written block
unfolding types_written roll-Stmt denote.Hole.Carrier.roll
types_block place block = fold-roll-Stmt (List TypeExpr) types_in_form (BlockForm place block) ∙ block_types block

pub types_assert : (place : Place) (name : Option Identifier) (e : Expr) → types_written (Assert place name e) ≡ []
unfolding types_written roll-Stmt denote.Hole.Carrier.roll
types_assert place name e = fold-roll-Stmt (List TypeExpr) types_in_form (AssertForm place name e)

pub types_assume : (place : Place) (e : Expr) → types_written (Assume place e) ≡ []
unfolding types_written roll-Stmt denote.Hole.Carrier.roll
types_assume place e = fold-roll-Stmt (List TypeExpr) types_in_form (AssumeForm place e)

pub types_havoc : (place : Place) (i : Identifier) (primed : Bool) → types_written (Havoc place i primed) ≡ []
unfolding types_written roll-Stmt denote.Hole.Carrier.roll
types_havoc place i primed = fold-roll-Stmt (List TypeExpr) types_in_form (HavocForm place i primed)

pub types_assign : (place : Place) (targets : List Target) (sources : List Expr) → types_written (Assign place targets sources) ≡ []
unfolding types_written roll-Stmt denote.Hole.Carrier.roll
types_assign place targets sources = fold-roll-Stmt (List TypeExpr) types_in_form (AssignForm place targets sources)

pub types_if : (place : Place) (arms : List (Arm Stmt)) (otherwise : Option (List Stmt)) → types_written (If place arms otherwise) ≡ flat_map types_in_arm arms ++ types_in_else otherwise
unfolding types_written through_arm roll-Stmt denote.Hole.Carrier.roll
types_if place arms None =
    fold-roll-Stmt (List TypeExpr) types_in_form (IfForm place arms None) ∙ ap (λ ls. ls ++ []) (arms_types arms)
types_if place arms (Some block) =
    fold-roll-Stmt (List TypeExpr) types_in_form (IfForm place arms (Some block)) ∙ (λ k. arms_types arms k ++ block_types block k)

pub types_case : (place : Place) (arms : List (Arm Stmt)) (otherwise : Option (List Stmt)) → types_written (Case place arms otherwise) ≡ flat_map types_in_arm arms ++ types_in_else otherwise
unfolding types_written through_arm roll-Stmt denote.Hole.Carrier.roll
types_case place arms None =
    fold-roll-Stmt (List TypeExpr) types_in_form (CaseForm place arms None) ∙ ap (λ ls. ls ++ []) (arms_types arms)
types_case place arms (Some block) =
    fold-roll-Stmt (List TypeExpr) types_in_form (CaseForm place arms (Some block)) ∙ (λ k. arms_types arms k ++ block_types block k)

pub types_for : (place : Place) (i : Identifier) (type : Option TypeExpr) (from : RangeBound) (to : RangeBound) (block : List Stmt) →
    types_written (For place i type from to block) ≡ types_in_option type ++ flat_map types_written block
unfolding types_written roll-Stmt denote.Hole.Carrier.roll
types_for place i None from to block = fold-roll-Stmt (List TypeExpr) types_in_form (ForForm place i None from to block) ∙ block_types block
types_for place i (Some type) from to block =
    fold-roll-Stmt (List TypeExpr) types_in_form (ForForm place i (Some type) from to block) ∙ ap (λ ls. type ∷ ls) (block_types block)

pub types_call : (place : Place) (targets : List Target) (i : Identifier) (arguments : List Expr) → types_written (Call place targets i arguments) ≡ []
unfolding types_written roll-Stmt denote.Hole.Carrier.roll
types_call place targets i arguments = fold-roll-Stmt (List TypeExpr) types_in_form (CallForm place targets i arguments)

pub types_next : (place : Place) (i : Identifier) → types_written (Next place i) ≡ []
unfolding types_written roll-Stmt denote.Hole.Carrier.roll
types_next place i = fold-roll-Stmt (List TypeExpr) types_in_form (NextForm place i)

-- Declarations.

pub block_of : (block : List Stmt) → types_in_block block ≡ flat_map types_written block
unfolding types_written
block_of block = refl

-- a declaration of any other form writes no type
pub types_none : (d : Decl) → ((place : Place) (i : Identifier) (type : TypeExpr) → d ≡ TypeAlias place i type → ⊥) →
    ((place : Place) (kind : VariableKind) (names : List Identifier) (type : TypeExpr) → d ≡ Variables place kind names type → ⊥) →
    ((place : Place) (i : Identifier) (ps : List (Parameter TypeExpr)) (type : TypeExpr) → d ≡ Function place i ps type → ⊥) →
    ((place : Place) (i : Identifier) (ps : List (Parameter TypeExpr)) (type : TypeExpr) (body : Expr) → d ≡ Define place i ps type body → ⊥) →
    ((place : Place) (p : procedures.Procedure) → d ≡ Procedure place p → ⊥) →
    ((place : Place) (block : List Stmt) → d ≡ Init place block → ⊥) →
    ((place : Place) (block : List Stmt) → d ≡ NextBlock place block → ⊥) → types_in d ≡ []
types_none (TypeAlias place i type) a v f g p b n = absurd (a place i type refl)
types_none (Variables place kind names type) a v f g p b n = absurd (v place kind names type refl)
types_none (Function place i ps type) a v f g p b n = absurd (f place i ps type refl)
types_none (Define place i ps type body) a v f g p b n = absurd (g place i ps type body refl)
types_none (Procedure place q) a v f g p b n = absurd (p place q refl)
types_none (Init place block) a v f g p b n = absurd (b place block refl)
types_none (NextBlock place block) a v f g p b n = absurd (n place block refl)
types_none other a v f g p b n = refl
