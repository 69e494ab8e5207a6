-- The design is sound.
use Rattle.std.proofs.Common.{◌≡◌, List, [], ◌∷◌, Some, refl, sym, ap, ◌∙◌, subst, arith}
use Rattle.std.specs.Prelude.{All, false}
use Rattle.std.proofs.lemmas.List.Elements.{All-cons}
use Rattle.uc_values.specs.declared.ty.Ty.{Ty}
use Rattle.uc_values.specs.declared.ty.Ty.TheVariants.{Bool}
use Rattle.uc_values.specs.declared.value.Value.TheVariants.{Bool as Truth}
use Rattle.uc_values.proofs.Shapes.{valid-Bool}
use Rattle.uc_values.proofs.Fitting.{Truth-fits}
use Rattle.uc_ops.specs.declared.op.Op.TheVariants.{Const, Not, Eq, Symbol}
use Rattle.uc_ops.specs.Typing.{Valid}
use Rattle.uc_flat.specs.declared.expression.Expression.TheVariants.{Cell, Apply}
use Rattle.uc_flat.specs.declared.flat.Flat.{Flat}
use Rattle.uc_flat.specs.Reading.{type_of}
use Rattle.uc_flat.specs.Fine.{IsTyped, IsTest, AreFine, ReadsBelow}
use Rattle.uc_flat.specs.Flats.{wider_types, repeated, IsFormula, IsSound}
use Rattle.uc_flat.proofs.Forms.{type_cell, type_apply}
use Rattle.uc_flat.proofs.Making.{typed_cell, typed_apply, reads_cell, reads_apply, fine_assign, reads_assign}
use Rattle.uc_flat_lines_rows.specs.Toggles.{low, enabled, turned, is_low, gives, stays_low, toggle}

pub none : {A : Type 0} (P : A → Type 0) → All P []
none P k d l = absurd (omega (arith, l))

pub one : {A : Type 0} (P : A → Type 0) (x : A) → P x → All P (x ∷ [])
one P x h = All-cons P x [] h (none P)

pub two : {A : Type 0} (P : A → Type 0) (x y : A) → P x → P y → All P (x ∷ y ∷ [])
two P x y h g = All-cons P x (y ∷ []) h (one P y g)

abbrev both : List Ty
both = Bool ∷ Bool ∷ []

low_typed : (types : List Ty) → IsTyped types low
low_typed types = typed_apply types (Const Bool (Truth false)) [] (refl, valid-Bool, refl, Truth-fits false) (none (IsTyped types))

enabled_type : (types : List Ty) → type_of types enabled ≡ Bool
enabled_type types = type_apply types (Symbol 0 Bool) []

enabled_typed : (types : List Ty) → IsTyped types enabled
enabled_typed types = typed_apply types (Symbol 0 Bool) [] (refl, valid-Bool) (none (IsTyped types))

same_typed : IsTyped both (Apply Eq (Cell 0 ∷ enabled ∷ []))
same_typed =
    typed_apply both Eq (Cell 0 ∷ enabled ∷ []) (Bool, ap (λ t. t ∷ type_of both enabled ∷ []) (type_cell both 0) ∙ ap (λ t. Bool ∷ t ∷ []) (enabled_type both))
    (two (IsTyped both) (Cell 0) enabled (typed_cell both 0 (omega arith)) (enabled_typed both))

turned_typed : IsTyped both turned
turned_typed = typed_apply both Not (Apply Eq (Cell 0 ∷ enabled ∷ []) ∷ []) (ap (λ t. t ∷ []) (type_apply both Eq (Cell 0 ∷ enabled ∷ []))) (one (IsTyped both) (Apply Eq (Cell 0 ∷ enabled ∷ [])) same_typed)

low_reads : ReadsBelow 1 low
low_reads = reads_apply 1 (Const Bool (Truth false)) [] (λ k ty i. cc) (none (ReadsBelow 1))

enabled_reads : ReadsBelow 1 enabled
enabled_reads = reads_apply 1 (Symbol 0 Bool) [] (λ k ty i. let e : 0 ≡ k = cc in omega (arith, e)) (none (ReadsBelow 1))

same_reads : ReadsBelow 1 (Apply Eq (Cell 0 ∷ enabled ∷ []))
same_reads = reads_apply 1 Eq (Cell 0 ∷ enabled ∷ []) (λ k ty i. cc) (two (ReadsBelow 1) (Cell 0) enabled (reads_cell 1 0) enabled_reads)

turned_reads : ReadsBelow 1 turned
turned_reads = reads_apply 1 Not (Apply Eq (Cell 0 ∷ enabled ∷ []) ∷ []) (λ k ty i. cc) (one (ReadsBelow 1) (Apply Eq (Cell 0 ∷ enabled ∷ [])) same_reads)

low_test : IsTest (repeated 1 (Bool ∷ [])) is_low
unfolding repeated
low_test = record {
  typed = typed_apply (Bool ∷ []) Not (Cell 0 ∷ []) (ap (λ t. t ∷ []) (type_cell (Bool ∷ []) 0)) (one (IsTyped (Bool ∷ [])) (Cell 0) (typed_cell (Bool ∷ []) 0 (omega arith)));
  boolean = type_apply (Bool ∷ []) Not (Cell 0 ∷ []);
}

is_low_reads : ReadsBelow 1 is_low
is_low_reads = reads_apply 1 Not (Cell 0 ∷ []) (λ k ty i. cc) (one (ReadsBelow 1) (Cell 0) (reads_cell 1 0))

-- the types of the cells of the init code
wide_types : wider_types (Bool ∷ []) (low ∷ []) ≡ Bool ∷ Bool ∷ []
wide_types = ap (λ t. Bool ∷ t ∷ []) (type_apply (Bool ∷ []) (Const Bool (Truth false)) [])

toggle_sound : IsSound toggle
toggle_sound = record {
  valid = one Valid Bool valid-Bool;
  further = one (IsTyped (Bool ∷ [])) low (low_typed (Bool ∷ []));
  further_reads = one (ReadsBelow 1) low low_reads;
  init = subst (λ types. AreFine types (gives 0 (Cell 1))) (sym wide_types) (fine_assign (Bool ∷ Bool ∷ []) 0 (Cell 1) (typed_cell (Bool ∷ Bool ∷ []) 1 (omega arith)) (ap Some (sym (type_cell (Bool ∷ Bool ∷ []) 1))));
  init_reads = reads_assign 1 0 (Cell 1) (reads_cell 1 1);
  step = fine_assign both 1 turned turned_typed (ap Some (sym (type_apply both Not (Apply Eq (Cell 0 ∷ enabled ∷ []) ∷ []))));
  step_reads = reads_assign 1 1 turned turned_reads;
  formulas = one (IsFormula toggle) stays_low (record { test = low_test; reads = is_low_reads });
  axioms = omega arith;
  no_copy = none (λ x. x.copies ≡ 0);
}

pub sound_as : (f : Flat) → f ≡ toggle → IsSound f
sound_as f i = subst IsSound (sym i) toggle_sound
