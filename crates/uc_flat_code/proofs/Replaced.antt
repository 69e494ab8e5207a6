-- Answers of what a part of a cell is to be, field by field.
use Rattle.std.proofs.Common.{◌≡◌, ℕ, ◌<◌, get_or, List, [], ◌∷◌, ◌++◌, length, refl, sym, ap, ◌∙◌, subst, Option, Some, None, arith}
use Rattle.std.specs.Prelude.{if◌then◌else◌, Result, Err, slice_get}
use Rattle.std.specs.Option.{option_map, option_and_then}
use Rattle.std.proofs.lemmas.Option.{slice_get-get_or}
use Rattle.uc_syntax.specs.declared.statement.TargetPart.{TargetPart}
use Rattle.uc_syntax.specs.declared.statement.TargetPart.TheVariants.{Field as FieldPart, Element as ElementPart}
use Rattle.uc_values.specs.declared.ty.Field.{Field}
use Rattle.uc_values.specs.declared.ty.Ty.{Ty}
use Rattle.uc_ops.specs.Equality.{equal_types}
use Rattle.uc_ops.specs.Typing.{fields_of}
use Rattle.uc_flat.specs.declared.expression.Expression.{Expression}
use Rattle.uc_flat.specs.declared.expression.Expression.TheVariants.{Cell as ReadCell}
use Rattle.uc_flat_expressions.specs.declared.typed.TypedExpression.{TypedExpression}
use Rattle.uc_flat_expressions.specs.declared.typed.FlatError.{FlatError}
use Rattle.uc_flat_expressions.specs.declared.typed.FlatError.TheVariants.{NoMemory, NotBuilt}
use Rattle.uc_flat_expressions.specs.Answers.{IsAnswer}
use Rattle.uc_flat_code.specs.Code.{field_in, with_field, field_place, replaced_in}
use Rattle.uc_flat_code.specs.Walk.{behind, field_name}

pub none_left : (parts : List TargetPart) → length parts ≡ 0 → parts ≡ []
none_left [] h = refl
none_left (p ∷ parts) h = absurd (omega (arith, h))

behind_more : (whole : Expression) (places : List ℕ) (k : ℕ) → behind whole (places ++ k ∷ []) ≡ field_in (behind whole places) k
unfolding behind
behind_more whole [] k = refl
behind_more whole (j ∷ places) k = behind_more (field_in whole j) places k

-- what follows the name of a field
abbrev after_name : Expression → Ty → List TargetPart → TypedExpression → Option ℕ → Option Expression
after_name whole ty rest t None = None
after_name whole ty rest t (Some name) =
    option_and_then (λ k. option_and_then (λ d. option_map (with_field whole ty k) (replaced_in (field_in whole k) d.ty rest t)) (slice_get (fields_of ty) k)) (field_place ty name)

by_name : (whole : Expression) (ty : Ty) (first : TargetPart) (rest : List TargetPart) (t : TypedExpression) → replaced_in whole ty (first ∷ rest) t ≡ after_name whole ty rest t (field_name first)
unfolding replaced_in
by_name whole ty (FieldPart place f) rest t = refl
by_name whole ty (ElementPart place e) rest t = refl

-- what follows the place of a field
abbrev at_place : Expression → Ty → List TargetPart → TypedExpression → ℕ → Option Expression
at_place whole ty rest t k = option_and_then (λ (d : Field Ty). option_map (with_field whole ty k) (replaced_in (field_in whole k) d.ty rest t)) (slice_get (fields_of ty) k)

placed : (whole : Expression) (ty : Ty) (rest : List TargetPart) (t : TypedExpression) (o : Option ℕ) → after_name whole ty rest t o ≡ option_and_then (at_place whole ty rest t) (option_and_then (field_place ty) o)
placed whole ty rest t None = refl
placed whole ty rest t (Some name) = refl

by_place : (whole : Expression) (ty : Ty) (parts : List TargetPart) (first : TargetPart) (rest : List TargetPart) (t : TypedExpression) (o : Option ℕ) → parts ≡ first ∷ rest → option_and_then (field_place ty) (field_name first) ≡ o
    → replaced_in whole ty parts t ≡ option_and_then (at_place whole ty rest t) o
by_place whole ty parts first rest t o is place =
    ap (λ ps. replaced_in whole ty ps t) is ∙ by_name whole ty first rest t ∙ placed whole ty rest t (field_name first) ∙ ap (option_and_then (at_place whole ty rest t)) place

pub whole_answer : (whole : Expression) (ty : Ty) (parts : List TargetPart) (t : TypedExpression) (r : Result Expression FlatError) → parts ≡ [] → IsAnswer (if equal_types ty t.ty then Some t.expression else None) r → IsAnswer (replaced_in whole ty parts t) r
unfolding replaced_in
whole_answer whole ty parts t r is h = subst (λ ps. IsAnswer (replaced_in whole ty ps t) r) (sym is) h

pub no_place : (whole : Expression) (ty : Ty) (parts : List TargetPart) (first : TargetPart) (rest : List TargetPart) (t : TypedExpression) → parts ≡ first ∷ rest → option_and_then (field_place ty) (field_name first) ≡ None
    → replaced_in whole ty parts t ≡ None
no_place whole ty parts first rest t is none = by_place whole ty parts first rest t None is none

-- the field at a place of the fields that are read
pub field_at : (xs ys : List (Field Ty)) (k : ℕ) (d : Field Ty) → xs ≡ ys → k < length ys → d ≡ get_or xs k d → slice_get ys k ≡ Some d
field_at xs ys k d e l is = slice_get-get_or ys k d l ∙ ap Some (sym (is ∙ ap (λ zs. get_or zs k d) e))

inner : (cell : ℕ) (places deeper : List ℕ) (ty : Ty) (parts : List TargetPart) (first : TargetPart) (rest : List TargetPart) (t : TypedExpression) (k : ℕ) (d : Field Ty) → parts ≡ first ∷ rest → option_and_then (field_place ty) (field_name first) ≡ Some k
    → slice_get (fields_of ty) k ≡ Some d → Some (places ++ k ∷ []) ≡ Some deeper
    → replaced_in (behind (ReadCell cell) places) ty parts t ≡ option_map (with_field (behind (ReadCell cell) places) ty k) (replaced_in (behind (ReadCell cell) deeper) d.ty rest t)
inner cell places deeper ty parts first rest t k d is p f e =
    let whole = behind (ReadCell cell) places in
    by_place whole ty parts first rest t (Some k) is p
    ∙ ap (option_and_then (λ (x : Field Ty). option_map (with_field whole ty k) (replaced_in (field_in whole k) x.ty rest t))) f
    ∙ ap (λ w. option_map (with_field whole ty k) (replaced_in w d.ty rest t)) (sym (behind_more (ReadCell cell) places k) ∙ ap (behind (ReadCell cell)) (same (places ++ k ∷ []) deeper e))
  where
    same : (xs ys : List ℕ) → Some xs ≡ Some ys → xs ≡ ys
    same xs ys h = cc

pub inner_err : (cell : ℕ) (places deeper : List ℕ) (ty : Ty) (parts : List TargetPart) (first : TargetPart) (rest : List TargetPart) (t : TypedExpression) (k : ℕ) (d : Field Ty) (err : FlatError) → parts ≡ first ∷ rest → option_and_then (field_place ty) (field_name first) ≡ Some k
    → slice_get (fields_of ty) k ≡ Some d → Some (places ++ k ∷ []) ≡ Some deeper
    → IsAnswer {A = Expression} (replaced_in (behind (ReadCell cell) deeper) d.ty rest t) (Err err) → IsAnswer {A = Expression} (replaced_in (behind (ReadCell cell) places) ty parts t) (Err err)
inner_err cell places deeper ty parts first rest t k d NoMemory is p f e h = tt
inner_err cell places deeper ty parts first rest t k d NotBuilt is p f e h =
    inner cell places deeper ty parts first rest t k d is p f e ∙ ap (option_map (with_field (behind (ReadCell cell) places) ty k)) h

pub outer_answer : (cell : ℕ) (places deeper : List ℕ) (ty : Ty) (parts : List TargetPart) (first : TargetPart) (rest : List TargetPart) (t own : TypedExpression) (k : ℕ) (d : Field Ty) (e : Expression) (r : Result Expression FlatError) → own ≡ t
    → parts ≡ first ∷ rest → option_and_then (field_place ty) (field_name first) ≡ Some k → slice_get (fields_of ty) k ≡ Some d → Some (places ++ k ∷ []) ≡ Some deeper → replaced_in (behind (ReadCell cell) deeper) d.ty rest own ≡ Some e
    → IsAnswer (Some (with_field (behind (ReadCell cell) places) ty k e)) r → IsAnswer (replaced_in (behind (ReadCell cell) places) ty parts t) r
outer_answer cell places deeper ty parts first rest t own k d e r same is p f s h a =
    let whole = behind (ReadCell cell) places in
    subst (λ x. IsAnswer (replaced_in whole ty parts x) r) same (subst (λ o. IsAnswer o r) (sym (inner cell places deeper ty parts first rest own k d is p f s ∙ ap (option_map (with_field whole ty k)) h)) a)
