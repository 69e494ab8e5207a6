-- What operations on one or two words of one width say.
use Rattle.std.proofs.Common.{◌≡◌, ℕ, true, false, ◌||◌, List, [], ◌∷◌, refl, sym, ap, ◌∙◌, subst}
use Rattle.std.specs.Prelude.{IsTrue}
use Rattle.uc_values.specs.Values.{fits, truth_of, same_truth}
use Rattle.uc_values.specs.Sameness.{Sameness, same}
use Rattle.uc_values.proofs.Fitting.{IsBits, IsBits-fits, IsBoolean, IsBoolean-fits}
use Rattle.uc_values.proofs.Agreement.{sameness-Bool}
use Rattle.uc_values.specs.declared.ty.Ty.{Ty}
use Rattle.uc_values.specs.declared.ty.Ty.TheVariants.{Bool, Bv}
use Rattle.uc_values.specs.declared.value.Value.{Value}
use Rattle.uc_values.specs.declared.value.Value.TheVariants.{Bool as truth, Bv as word}
use Rattle.uc_ops.specs.declared.model.Model.{Model}
use Rattle.uc_ops.specs.declared.op.Op.{Op}
use Rattle.uc_ops.specs.Typing.{Suits, Pair_of_bits, type_of as result_type}
use Rattle.uc_ops.specs.Meaning.{apply}
use Rattle.uc_flat_expressions.specs.declared.typed.TypedExpression.{TypedExpression}
use Rattle.uc_flat_expressions.specs.Building.{operation}
use Rattle.uc_meaning.specs.Operators.{holds}
use Rattle.uc_meaning.specs.Expressions.{Reading, reads}
use Rattle.uc_flat_design.specs.Sayings.{Says}
use Rattle.uc_flat_design.proofs.Saying.{IsPlain, says_as, operation_says}

pub holds_is : (v : Value) → truth_of v ≡ holds v
holds_is (truth b) = refl
holds_is other = refl

pub last_holds : (v : Value) → (truth_of v || false) ≡ holds v
last_holds (truth true) = refl
last_holds (truth false) = refl
last_holds other = refl

-- truth values are the same where their truths are
pub same_booleans : (v w : Value) → IsTrue (fits Bool v) → IsTrue (fits Bool w) → same Bool v w ≡ same_truth (holds v) (holds w)
same_booleans v w f g =
    let x = IsBoolean-fits v f in
    let y = IsBoolean-fits w g in
    ap (λ u. same Bool u w) x.is
    ∙ ap (same Bool (truth x.truth)) y.is
    ∙ ap (λ (s : Sameness). s.same (truth x.truth) (truth y.truth)) sameness-Bool
    ∙ sym (ap (λ u. same_truth (holds u) (holds w)) x.is ∙ ap (λ u. same_truth x.truth (holds u)) y.is)

module _ (constants : List Ty) (m : Model) (types : List Ty) (cells : List Value) where
  -- what is read of bits is a word
  pub word_told : (r : Reading) (a : TypedExpression) (w : ℕ) → Says constants m types cells r a → a.ty ≡ Bv w → IsBits w r.value
  word_told r a w h e = IsBits-fits w r.value (subst (λ u. IsTrue (fits u r.value)) e h.fit)

  pub truth_told : (r : Reading) (a : TypedExpression) → Says constants m types cells r a → a.ty ≡ Bool → IsBoolean r.value
  truth_told r a h e = IsBoolean-fits r.value (subst (λ u. IsTrue (fits u r.value)) e h.fit)

  pub one_says : (op : Op) (ty : Ty) (g : Value → Value) (r : Reading) (a : TypedExpression) (w : ℕ) → Says constants m types cells r a → a.ty ≡ Bv w
      → Suits op (a.ty ∷ []) → result_type op (a.ty ∷ []) ≡ ty → IsPlain op → ((us : List Ty) (x : ℕ) → apply m op us (word w x ∷ []) ≡ g (word w x))
      → Says constants m types cells (reads ty (g r.value)) (operation op ty (a ∷ []))
  one_says op ty g r a w h e suits is plain same =
      let x = word_told r a w h e in
      let us = a.ty ∷ [] in
      says_as constants m types cells (reads ty (apply m op us (r.value ∷ []))) (reads ty (g r.value)) (operation op ty (a ∷ []))
      (ap (reads ty) (ap g x.is ∙ sym (same us x.number) ∙ sym (ap (λ v. apply m op us (v ∷ [])) x.is)))
      (operation_says constants m types cells op ty (r ∷ []) (a ∷ []) (h, tt) suits is plain)

  pub pair_says : (op : Op) (ty : Ty) (g : Value → Value → Value) (r q : Reading) (a b : TypedExpression) (w : ℕ) → Says constants m types cells r a → Says constants m types cells q b → a.ty ≡ Bv w → b.ty ≡ Bv w
      → ((us : List Ty) → Pair_of_bits us → Suits op us) → result_type op (a.ty ∷ b.ty ∷ []) ≡ ty → IsPlain op → ((us : List Ty) (x y : ℕ) → apply m op us (word w x ∷ word w y ∷ []) ≡ g (word w x) (word w y))
      → Says constants m types cells (reads ty (g r.value q.value)) (operation op ty (a ∷ b ∷ []))
  pair_says op ty g r q a b w h k e f suits is plain same =
      let x = word_told r a w h e in
      let y = word_told q b w k f in
      let us = a.ty ∷ b.ty ∷ [] in
      says_as constants m types cells (reads ty (apply m op us (r.value ∷ q.value ∷ []))) (reads ty (g r.value q.value)) (operation op ty (a ∷ b ∷ []))
      (ap (reads ty) (
      ap (λ v. g v q.value) x.is
      ∙ ap (g (word w x.number)) y.is
      ∙ sym (same us x.number y.number)
      ∙ sym (ap (λ v. apply m op us (v ∷ q.value ∷ [])) x.is ∙ ap (λ v. apply m op us (word w x.number ∷ v ∷ [])) y.is)))
      (operation_says constants m types cells op ty (r ∷ q ∷ []) (a ∷ b ∷ []) (h, (k, tt)) (suits us (w, ap (λ u. u ∷ b.ty ∷ []) e ∙ ap (λ u. Bv w ∷ u ∷ []) f)) is plain)
