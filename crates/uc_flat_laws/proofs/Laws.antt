-- The laws of code that stands for code of a design.
use Rattle.std.proofs.Common.{◌≡◌, ℕ, ◌+◌, ◌<◌, List, refl, sym, ap, ◌∙◌, subst, Option, Some, None, slice_get, arith, ◌++◌}
use Rattle.std.specs.Prelude.{Bool as Truth, true}
use Rattle.std.proofs.lemmas.Option.{none-some, same_Some, slice_get_within, get_or_from_slice_get}
use Rattle.std.proofs.lemmas.List.Elements.{All-contains}
use Rattle.uc_syntax.specs.declared.expression.Expr.{Expr}
use Rattle.uc_values.specs.declared.ty.Ty.{Ty}
use Rattle.uc_ops.specs.Typing.{Valid, AllValid, type_or}
use Rattle.uc_flat.specs.Fine.{IsTest}
use Rattle.uc_flat.specs.declared.expression.Expression.TheVariants.{Cell as ReadCell}
use Rattle.uc_flat.proofs.Forms.{type_cell}
use Rattle.uc_flat.proofs.Making.{Alone, fine_alone, AloneReads, reads_alone, typed_cell}
use Rattle.uc_flat_design.proofs.OnlyReads.{cell_reads}
use Rattle.uc_flat_expressions.specs.declared.typed.TypedExpression.{TypedExpression}
use Rattle.uc_flat_expressions.specs.declared.typed.Meant.{Meant}
use Rattle.uc_flat_expressions.specs.declared.typed.Meant.TheVariants.{Cell}
use Rattle.uc_flat_expressions.specs.Expressions.{flat_of}
use Rattle.uc_flat_expressions.specs.Types.{is_boolean}
use Rattle.uc_flat_code.specs.declared.writing.Writing.{Writing}
use Rattle.uc_flat_code.specs.declared.writing.Written.{Written}
use Rattle.uc_flat_code.specs.Code.{may_write, may_havoc, written_as, written, havocked}
use Rattle.uc_flat_laws.specs.Fits.{ExpressionsFit, AreWritten, ExpressionsReadBelow, ExpressionsReadTyped, FitsLaw, ReadsLaw, TypedLaw, StepLaw}
use Rattle.uc_flat_laws.proofs.Conditions.{boolean_is}
use Rattle.uc_flat_laws.proofs.Fielded.{IsPart, replaced_part, replaced_reads}
use Rattle.uc_flat_laws.proofs.Typing.{AloneTyped, typed_alone}
use Rattle.uc_flat_laws.proofs.Suiting.{Suited, if_some, code_gives}
use Rattle.uc_flat.proofs.Extending.{slice_get-back}

meant_typed : (names : List Meant) (w : Writing) (types : List Ty) → AreWritten names w types → (x : ℕ) (o : Option Meant) → slice_get names x ≡ o → (k : Written) → written_as w.shift o ≡ Some k
    → slice_get types k.cell ≡ Some k.ty
meant_typed names w types cells x None is k h = absurd (none-some k h)
meant_typed names w types cells x (Some (Cell old new ty)) is k h =
    let made : Written = record { cell = old + w.shift; ty = ty } in
    subst (λ (j : Written). slice_get types j.cell ≡ Some j.ty) (same_Some made k h) (cells x old new ty is)
meant_typed names w types cells x (Some other) is k h = absurd (none-some k h)

-- the cell that is written for a name has its type
written_typed : (names : List Meant) (w : Writing) (types : List Ty) → AreWritten names w types → (x : ℕ) (primed : Truth) (k : Written) → written names w x primed ≡ Some k → slice_get types k.cell ≡ Some k.ty
written_typed names w types cells x primed k h =
    let c = if_some (may_write w.primed primed) (written_as w.shift (slice_get names x)) k h in
    meant_typed names w types cells x (slice_get names x) refl k c.1

havocked_typed : (names : List Meant) (w : Writing) (types : List Ty) → AreWritten names w types → (x : ℕ) (primed : Truth) (k : Written) → havocked names w x primed ≡ Some k → slice_get types k.cell ≡ Some k.ty
havocked_typed names w types cells x primed k h =
    let c = if_some (may_havoc w.primed primed) (written_as w.shift (slice_get names x)) k h in
    meant_typed names w types cells x (slice_get names x) refl k c.1

-- the cell of a number
pub cell_part : (types : List Ty) (k : ℕ) (ty : Ty) → slice_get types k ≡ Some ty → IsPart types ty (ReadCell k)
cell_part types k ty h = record { typed = typed_cell types k (slice_get_within types k ty h); type = type_cell types k ∙ ap type_or h }

test_of : (names : List Meant) (types : List Ty) → ExpressionsFit names types → (t : TypedExpression) (e : Expr) → flat_of names e ≡ Some t → is_boolean t.ty ≡ true → IsTest types t.expression
test_of names types fit t e is b = record { typed = (fit e t is).0; boolean = (fit e t is).1 ∙ boolean_is t.ty b }

listed_valid : (types : List Ty) → AllValid types → (k : ℕ) (ty : Ty) → slice_get types k ≡ Some ty → Valid ty
listed_valid types all k ty h = All-contains Valid types ty all (k, slice_get_within types k ty h, get_or_from_slice_get types k ty ty h)

-- each single statement fits
pub fits_suited : (names : List Meant) (w : Writing) (types : List Ty) → ExpressionsFit names types → AreWritten names w types → AllValid types → Suited names w (Alone types)
fits_suited names w types fit cells valid = record {
  assumed = λ e t is b. test_of names types fit t e is b;
  decided = λ e t xs ys is b. test_of names types fit t e is b;
  anything = λ x primed k is.
      let at = havocked_typed names w types cells x primed k is in
      (k.ty, at, listed_valid types valid k.cell k.ty at);
  given = λ x primed k parts e t z is that made.
      let at = written_typed names w types cells x primed k is in
      let source : IsPart types t.ty t.expression = record { typed = (fit e t that).0; type = (fit e t that).1 } in
      let a = replaced_part types parts (ReadCell k.cell) z k.ty t (cell_part types k.cell k.ty at) (listed_valid types valid k.cell k.ty at) source made in
      (a.typed, at ∙ ap Some (sym a.type));
}

-- each single statement reads constants that there are
pub reads_suited : (names : List Meant) (w : Writing) (n : ℕ) → ExpressionsReadBelow names n → Suited names w (AloneReads n)
reads_suited names w n reads = record {
  assumed = λ e t is b. reads e t is;
  decided = λ e t xs ys is b. reads e t is;
  anything = λ x primed k is. tt;
  given = λ x primed k parts e t z is that made. replaced_reads (λ j ty. j < n) parts (ReadCell k.cell) z k.ty t (cell_reads (λ j ty. j < n) k.cell) (reads e t that) made;
}

-- and at their types
pub typed_suited : (names : List Meant) (w : Writing) (constants : List Ty) → ExpressionsReadTyped names constants → Suited names w (AloneTyped constants)
typed_suited names w constants reads = record {
  assumed = λ e t is b. reads e t is;
  decided = λ e t xs ys is b. reads e t is;
  anything = λ x primed k is. tt;
  given = λ x primed k parts e t z is that made.
      replaced_reads (λ j ty. slice_get constants j ≡ Some ty) parts (ReadCell k.cell) z k.ty t (cell_reads (λ j ty. slice_get constants j ≡ Some ty) k.cell) (reads e t that) made;
}

pub fits_hold : FitsLaw
fits_hold names w types code flat fit cells valid is = fine_alone types flat (code_gives names w (Alone types) (fits_suited names w types fit cells valid) code flat is).at

pub reads_hold : ReadsLaw
reads_hold names w n code flat reads is = reads_alone n flat (code_gives names w (AloneReads n) (reads_suited names w n reads) code flat is).at

pub typed_hold : TypedLaw
typed_hold names w constants code flat reads is = typed_alone constants flat (code_gives names w (AloneTyped constants) (typed_suited names w constants reads) code flat is)

pub step_holds : StepLaw
step_holds names types cells x k new ty is = ap (slice_get (types ++ types)) (omega arith) ∙ slice_get-back types types k ∙ cells x k new ty is
