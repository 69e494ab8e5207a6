-- What an operation says, since its parts say theirs.
use Rattle.std.proofs.Common.{◌≡◌, ℕ, List, [], ◌∷◌, map, Some, refl, sym, ap, ◌∙◌, subst, slice_get}
use Rattle.std.specs.Prelude.{All, IsTrue}
use Rattle.std.specs.List.{AllZip}
use Rattle.std.proofs.lemmas.List.Elements.{All-nil, All-cons}
use Rattle.uc_values.specs.Values.{fits}
use Rattle.uc_values.proofs.Fitting.{Fit}
use Rattle.uc_values.specs.declared.ty.Ty.{Ty}
use Rattle.uc_values.specs.declared.value.Value.{Value}
use Rattle.uc_ops.specs.declared.model.Model.{Model}
use Rattle.uc_ops.specs.declared.op.Op.{Op}
use Rattle.uc_ops.specs.declared.op.Op.TheVariants.{Symbol}
use Rattle.uc_ops.specs.Typing.{Suits, Valid, AllValid, type_of as result_type}
use Rattle.uc_ops.specs.Meaning.{apply}
use Rattle.uc_ops.proofs.Fitting.{apply-fits}
use Rattle.uc_ops.proofs.Typed.{type_of-valid}
use Rattle.uc_flat.specs.Reading.{type_of, value_of}
use Rattle.uc_flat.specs.Fine.{IsTyped, ReadsTyped}
use Rattle.uc_flat.proofs.Forms.{type_apply, value_apply}
use Rattle.uc_flat.proofs.Making.{typed_apply}
use Rattle.uc_flat_expressions.specs.declared.typed.TypedExpression.{TypedExpression}
use Rattle.uc_flat_expressions.specs.Building.{expressions_in, operation}
use Rattle.uc_meaning.specs.Expressions.{Reading, reads}
use Rattle.uc_flat_design.specs.Sayings.{Says}
use Rattle.uc_flat_design.proofs.OnlyReads.{apply_reads}

abbrev pub types_in : List TypedExpression → List Ty
types_in ts = map (λ t. t.ty) ts

abbrev pub values_in : List Reading → List Value
values_in rs = map (λ r. r.value) rs

-- the operation is no constant of the model
abbrev pub IsPlain : Op → Type 0
IsPlain (Symbol k ty) = ⊥
IsPlain other = Unit {0}

-- the operation reads only constants of these types, if any
abbrev pub OpReads : List Ty → Op → Type 0
OpReads constants op = (number : ℕ) (ty : Ty) → op ≡ Symbol number ty → slice_get constants number ≡ Some ty

plain_reads : (constants : List Ty) (op : Op) → IsPlain op → OpReads constants op
plain_reads constants op h number ty e = absurd (subst IsPlain e h)

module _ (constants : List Ty) (m : Model) (types : List Ty) (cells : List Value) where
  abbrev pub Tell : Reading → TypedExpression → Type 0
  Tell r t = Says constants m types cells r t

  abbrev pub AllTell : List Reading → List TypedExpression → Type 0
  AllTell rs ts = AllZip Tell rs ts

  pub says_as : (r q : Reading) (t : TypedExpression) → q ≡ r → Tell r t → Tell q t
  says_as r q t e h = subst (λ x. Tell x t) (sym e) h

  types_are : (rs : List Reading) (ts : List TypedExpression) → AllTell rs ts → map (type_of types) (expressions_in ts) ≡ types_in ts
  types_are [] [] h = refl
  types_are [] (t ∷ ts) h = absurd h
  types_are (r ∷ rs) [] h = absurd h
  types_are (r ∷ rs) (t ∷ ts) h = ap (λ u. u ∷ map (type_of types) (expressions_in ts)) h.0.own ∙ ap (λ us. t.ty ∷ us) (types_are rs ts h.1)

  values_are : (rs : List Reading) (ts : List TypedExpression) → AllTell rs ts → map (value_of m types cells) (expressions_in ts) ≡ values_in rs
  values_are [] [] h = refl
  values_are [] (t ∷ ts) h = absurd h
  values_are (r ∷ rs) [] h = absurd h
  values_are (r ∷ rs) (t ∷ ts) h = ap (λ v. v ∷ map (value_of m types cells) (expressions_in ts)) (sym h.0.value) ∙ ap (λ vs. r.value ∷ vs) (values_are rs ts h.1)

  all_typed : (rs : List Reading) (ts : List TypedExpression) → AllTell rs ts → All (IsTyped types) (expressions_in ts)
  all_typed [] [] h = All-nil (IsTyped types)
  all_typed [] (t ∷ ts) h = absurd h
  all_typed (r ∷ rs) [] h = absurd h
  all_typed (r ∷ rs) (t ∷ ts) h = All-cons (IsTyped types) t.expression (expressions_in ts) h.0.typed (all_typed rs ts h.1)

  all_read : (rs : List Reading) (ts : List TypedExpression) → AllTell rs ts → All (ReadsTyped constants) (expressions_in ts)
  all_read [] [] h = All-nil (ReadsTyped constants)
  all_read [] (t ∷ ts) h = absurd h
  all_read (r ∷ rs) [] h = absurd h
  all_read (r ∷ rs) (t ∷ ts) h = All-cons (ReadsTyped constants) t.expression (expressions_in ts) h.0.reads (all_read rs ts h.1)

  all_valid : (rs : List Reading) (ts : List TypedExpression) → AllTell rs ts → AllValid (types_in ts)
  all_valid [] [] h = All-nil Valid
  all_valid [] (t ∷ ts) h = absurd h
  all_valid (r ∷ rs) [] h = absurd h
  all_valid (r ∷ rs) (t ∷ ts) h = All-cons Valid t.ty (types_in ts) h.0.valid (all_valid rs ts h.1)

  all_fit : (rs : List Reading) (ts : List TypedExpression) → AllTell rs ts → Fit (types_in ts) (values_in rs)
  all_fit [] [] h = tt
  all_fit [] (t ∷ ts) h = absurd h
  all_fit (r ∷ rs) [] h = absurd h
  all_fit (r ∷ rs) (t ∷ ts) h = (h.0.fit, all_fit rs ts h.1)

  -- an operation says its value on what its parts say
  pub reading_says : (op : Op) (ty : Ty) (rs : List Reading) (ts : List TypedExpression) → AllTell rs ts → Suits op (types_in ts) → result_type op (types_in ts) ≡ ty → OpReads constants op
      → Tell (reads ty (apply m op (types_in ts) (values_in rs))) (operation op ty ts)
  reading_says op ty rs ts a s is own =
      let es = expressions_in ts in
      let same = types_are rs ts a in
      record {
        typed = typed_apply types op es (subst (Suits op) (sym same) s) (all_typed rs ts a);
        reads = apply_reads (λ number ty. slice_get constants number ≡ Some ty) op es own (all_read rs ts a);
        own = type_apply types op es ∙ ap (result_type op) same ∙ is;
        valid = subst Valid is (type_of-valid op (types_in ts) s (all_valid rs ts a));
        type = refl;
        value = sym (value_apply m types cells op es ∙ ap (λ us. apply m op us (map (value_of m types cells) es)) same ∙ ap (apply m op (types_in ts)) (values_are rs ts a));
        fit = subst (λ y. IsTrue (fits y (apply m op (types_in ts) (values_in rs)))) is (apply-fits m op (types_in ts) (values_in rs) s (all_valid rs ts a) (all_fit rs ts a));
        literal = tt;
      }

  -- the same of one that is no constant
  pub operation_says : (op : Op) (ty : Ty) (rs : List Reading) (ts : List TypedExpression) → AllTell rs ts → Suits op (types_in ts) → result_type op (types_in ts) ≡ ty → IsPlain op
      → Tell (reads ty (apply m op (types_in ts) (values_in rs))) (operation op ty ts)
  operation_says op ty rs ts a s is plain = reading_says op ty rs ts a s is (plain_reads constants op plain)
