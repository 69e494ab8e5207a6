-- What further cells of each form of type begin with.
use Rattle.std.specs.Prelude.{ℕ, ◌≡◌, List, [], ◌∷◌, map, Result, Ok, Err, IfOk}
use Rattle.std.proofs.Common.{refl, sym, ap, ◌∙◌, subst}
use Rattle.uc_values.specs.declared.ty.Field.{Field}
use Rattle.uc_values.specs.declared.ty.Ty.{Ty}
use Rattle.uc_values.specs.declared.ty.Ty.TheVariants.{Bool as Boolean, Int as Integer, Bv as Bits, Rec as Record, Enum as Labels, Un as Open, Arr as Array, rolls-Bool, rolls-Int, rolls-Bv, rolls-Rec, rolls-Enum, rolls-Un, rolls-Arr}
use Rattle.uc_values.specs.declared.ty.Ty.TheFolds.{fold-Ty, fold-roll-Ty, ind-Ty, map-Ty}
use Rattle.uc_values.specs.declared.ty.Ty.TheViews.{roll-Ty}
use Rattle.uc_values.specs.declared.ty.Ty.TheOpen.{Ty-F}
use Rattle.uc_values.specs.declared.ty.Ty.TheOpen.Ty-F.{Bool as boolean_type, Int as integer_type, Bv as bits_type, Rec as record_type, Arr as array_type, Enum as enum_type, Un as open_type}
use Rattle.uc_values.specs.Values.{zero_of as zero_value}
use Rattle.uc_ops.specs.declared.op.Op.TheVariants.{Const, MkRec}
use Rattle.uc_flat.specs.declared.expression.Expression.{Expression}
use Rattle.uc_flat.specs.declared.expression.Expression.TheVariants.{Apply}
use Rattle.uc_flat_code.specs.Zero.{Zero, zero_form, zero_of}

abbrev zeroed : Ty → Zero
zeroed ty = fold-Ty Zero zero_form ty

-- the type of a type's zero is the type
abbrev Keeps : Ty → Type 0
Keeps ty = (zeroed ty).ty ≡ ty

abbrev Proved : Type 0
Proved = (ty : Ty) × Keeps ty

abbrev firsts : Field Proved → Field Ty
firsts f = record { name = f.name; ty = f.ty.0 }

reread : (ps : List (Field Proved)) → map (λ (z : Field Zero). record { name = z.name; ty = z.ty.ty }) (map (λ (f : Field Ty). record { name = f.name; ty = zeroed f.ty }) (map firsts ps)) ≡ map firsts ps
reread [] = refl
reread (p ∷ ps) =
    ap (λ t. record { name = p.name; ty = t } ∷ map (λ (z : Field Zero). record { name = z.name; ty = z.ty.ty }) (map (λ (f : Field Ty). record { name = f.name; ty = zeroed f.ty }) (map firsts ps))) p.ty.1
    ∙ ap (λ fs. firsts p ∷ fs) (reread ps)

kept_cases : (y : Ty-F Proved) → Keeps (roll-Ty (map-Ty Proved Ty (λ e. e.0) y))
kept_cases boolean_type = ap (λ z. z.ty) (fold-roll-Ty Zero zero_form boolean_type)
kept_cases integer_type = ap (λ z. z.ty) (fold-roll-Ty Zero zero_form integer_type)
kept_cases (bits_type w) = ap (λ z. z.ty) (fold-roll-Ty Zero zero_form (bits_type w))
kept_cases (enum_type n k) = ap (λ z. z.ty) (fold-roll-Ty Zero zero_form (enum_type n k))
kept_cases (open_type n) = ap (λ z. z.ty) (fold-roll-Ty Zero zero_form (open_type n))
kept_cases (record_type ps) = ap (λ z. z.ty) (fold-roll-Ty Zero zero_form (record_type (map firsts ps))) ∙ ap (λ fs. roll-Ty (record_type fs)) (reread ps)
kept_cases (array_type i e) = ap (λ z. z.ty) (fold-roll-Ty Zero zero_form (array_type i.0 e.0)) ∙ ap (λ t. roll-Ty (array_type t (zeroed e.0).ty)) i.1 ∙ ap (λ t. roll-Ty (array_type i.0 t)) e.1

pub zero_type : (ty : Ty) → (fold-Ty Zero zero_form ty).ty ≡ ty
zero_type = ind-Ty Keeps (λ x y is. subst (λ z. Keeps (roll-Ty z)) is (kept_cases y))

-- ---- what a form of type begins with

abbrev constant_of : Ty → Expression
constant_of ty = Apply (Const ty (zero_value ty)) []

by_constant : {E : Type 0} (ty : Ty) (r : Result Expression E) → zero_of ty ≡ constant_of ty → IfOk r (λ e. e ≡ constant_of ty) → IfOk r (λ e. e ≡ zero_of ty)
by_constant ty (Ok e) is h = h ∙ sym is
by_constant ty (Err x) is h = tt

constant : (y : Ty-F Ty) (form : Ty) → roll-Ty y ≡ form → (fold-Ty Zero zero_form (roll-Ty y)).expression ≡ constant_of (roll-Ty y) → (ty : Ty) → ty ≡ form → zero_of ty ≡ constant_of ty
unfolding zero_of
constant y form rolls is ty e = subst (λ t. (fold-Ty Zero zero_form t).expression ≡ constant_of t) (rolls ∙ sym e) is

pub boolean_zero : {E : Type 0} (ty : Ty) (r : Result Expression E) → ty ≡ Boolean → IfOk r (λ e. e ≡ constant_of ty) → IfOk r (λ e. e ≡ zero_of ty)
boolean_zero ty r e h = by_constant ty r (constant boolean_type Boolean rolls-Bool (ap (λ z. z.expression) (fold-roll-Ty Zero zero_form boolean_type)) ty e) h

pub integer_zero : {E : Type 0} (ty : Ty) (r : Result Expression E) → ty ≡ Integer → IfOk r (λ e. e ≡ constant_of ty) → IfOk r (λ e. e ≡ zero_of ty)
integer_zero ty r e h = by_constant ty r (constant integer_type Integer rolls-Int (ap (λ z. z.expression) (fold-roll-Ty Zero zero_form integer_type)) ty e) h

pub bits_zero : {E : Type 0} (ty : Ty) (w : ℕ) (r : Result Expression E) → ty ≡ Bits w → IfOk r (λ e. e ≡ constant_of ty) → IfOk r (λ e. e ≡ zero_of ty)
bits_zero ty w r e h = by_constant ty r (constant (bits_type w) (Bits w) (rolls-Bv w) (ap (λ z. z.expression) (fold-roll-Ty Zero zero_form (bits_type w))) ty e) h

pub enum_zero : {E : Type 0} (ty : Ty) (n k : ℕ) (r : Result Expression E) → ty ≡ Labels n k → IfOk r (λ e. e ≡ constant_of ty) → IfOk r (λ e. e ≡ zero_of ty)
enum_zero ty n k r e h = by_constant ty r (constant (enum_type n k) (Labels n k) (rolls-Enum n k) (ap (λ z. z.expression) (fold-roll-Ty Zero zero_form (enum_type n k))) ty e) h

pub open_zero : {E : Type 0} (ty : Ty) (n : ℕ) (r : Result Expression E) → ty ≡ Open n → IfOk r (λ e. e ≡ constant_of ty) → IfOk r (λ e. e ≡ zero_of ty)
open_zero ty n r e h = by_constant ty r (constant (open_type n) (Open n) (rolls-Un n) (ap (λ z. z.expression) (fold-roll-Ty Zero zero_form (open_type n))) ty e) h

array_constant : (i e : Ty) → (fold-Ty Zero zero_form (roll-Ty (array_type i e))).expression ≡ constant_of (roll-Ty (array_type i e))
array_constant i e =
    ap (λ z. z.expression) (fold-roll-Ty Zero zero_form (array_type i e))
    ∙ ap (λ t. constant_of (roll-Ty (array_type t (zeroed e).ty))) (zero_type i)
    ∙ ap (λ t. constant_of (roll-Ty (array_type i t))) (zero_type e)

pub array_zero : {E : Type 0} (ty i e : Ty) (r : Result Expression E) → ty ≡ Array i e → IfOk r (λ x. x ≡ constant_of ty) → IfOk r (λ x. x ≡ zero_of ty)
array_zero ty i e r is h = by_constant ty r (constant (array_type i e) (Array i e) (rolls-Arr i e) (array_constant i e) ty is) h

abbrev record_form : List (Field Ty) → Expression
record_form fields = Apply (MkRec (Record fields)) (map (λ (f : Field Ty). zero_of f.ty) fields)

types_again : (fs : List (Field Ty)) → map (λ (z : Field Zero). record { name = z.name; ty = z.ty.ty }) (map (λ (f : Field Ty). record { name = f.name; ty = zeroed f.ty }) fs) ≡ fs
types_again [] = refl
types_again (f ∷ fs) =
    ap (λ t. record { name = f.name; ty = t } ∷ map (λ (z : Field Zero). record { name = z.name; ty = z.ty.ty }) (map (λ (g : Field Ty). record { name = g.name; ty = zeroed g.ty }) fs)) (zero_type f.ty)
    ∙ ap (λ gs. f ∷ gs) (types_again fs)

parts_again : (fs : List (Field Ty)) → map (λ (z : Field Zero). z.ty.expression) (map (λ (f : Field Ty). record { name = f.name; ty = zeroed f.ty }) fs) ≡ map (λ (f : Field Ty). zero_of f.ty) fs
unfolding zero_of
parts_again [] = refl
parts_again (f ∷ fs) = ap (λ es. (zeroed f.ty).expression ∷ es) (parts_again fs)

record_is : (fs : List (Field Ty)) → zero_of (Record fs) ≡ record_form fs
unfolding zero_of
record_is fs =
    ap (λ t. (zeroed t).expression) (sym (rolls-Rec fs))
    ∙ ap (λ z. z.expression) (fold-roll-Ty Zero zero_form (record_type fs))
    ∙ ap (λ gs. Apply (MkRec (roll-Ty (record_type gs))) (map (λ (z : Field Zero). z.ty.expression) (map (λ (f : Field Ty). record { name = f.name; ty = zeroed f.ty }) fs))) (types_again fs)
    ∙ ap (λ t. Apply (MkRec t) (map (λ (z : Field Zero). z.ty.expression) (map (λ (f : Field Ty). record { name = f.name; ty = zeroed f.ty }) fs))) (rolls-Rec fs)
    ∙ ap (λ es. Apply (MkRec (Record fs)) es) (parts_again fs)

pub record_zero : {E : Type 0} (ty : Ty) (fs : List (Field Ty)) (parts : List Expression) (r : Result Expression E) → ty ≡ Record fs → parts ≡ map (λ (f : Field Ty). zero_of f.ty) fs → IfOk r (λ e. e ≡ Apply (MkRec ty) parts) → IfOk r (λ e. e ≡ zero_of ty)
record_zero ty fs parts (Ok e) is p h = h ∙ ap (λ t. Apply (MkRec t) parts) is ∙ ap (λ es. Apply (MkRec (Record fs)) es) p ∙ sym (record_is fs) ∙ ap zero_of (sym is)
record_zero ty fs parts (Err x) is p h = tt
