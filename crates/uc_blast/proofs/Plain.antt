-- Constants.
use Rattle.std.specs.Prelude.{◌≡◌, ℕ, Bool as Truth, true, IsTrue, List, [], ◌∷◌}
use Rattle.std.proofs.Common.{refl, sym, ap, ◌∙◌, arith, subst}
use Rattle.std.proofs.lemmas.Bool.{false≢true}
use Rattle.std.proofs.lemmas.List.Elements.{All-cons, All-nil}
use Rattle.uc_values.specs.Values.{fits}
use Rattle.uc_values.proofs.Fitting.{IsBoolean-fits, IsBits-fits}
use Rattle.uc_values.specs.declared.ty.Ty.{Ty}
use Rattle.uc_values.specs.declared.ty.Ty.TheVariants.{Bool, Bv}
use Rattle.uc_values.specs.declared.value.Value.{Value}
use Rattle.uc_values.specs.declared.value.Value.TheVariants.{Bool as truth, Bv as bits}
use Rattle.uc_ops.specs.declared.op.Op.{Op}
use Rattle.uc_ops.specs.declared.op.Op.TheVariants.{Const}
use Rattle.uc_ops.specs.Typing.{Suits, Valid}
use Rattle.uc_ops.proofs.Typed.{Bv-small}
use Rattle.uc_circuit.specs.declared.signal.Signal.{Signal}
use Rattle.uc_circuit.specs.declared.signal.Signal.TheVariants.{Constant}
use Rattle.uc_circuit.specs.Signals.{Below}
use Rattle.uc_circuit.specs.Building.{Building, size}
use Rattle.uc_circuit.specs.Meanings.{AreConstant}
use Rattle.uc_circuit.proofs.Growing.{all_below-more}
use Rattle.uc_blast.specs.Words.{is_bits, worth, IsWord, Gives}
use Rattle.uc_blast.specs.Operations.{IsComputed}
use Rattle.uc_blast.specs.Constants.{IsPlain, plain_type, StandsForValue}

pub truth-stands : (b : Truth) (r : List Signal) → r ≡ Constant b ∷ [] → StandsForValue (truth b) r
truth-stands b r e =
    subst (StandsForValue (truth b)) (sym e)
    (record { is_word = record { below = All-cons (Below 0) (Constant b) [] tt (All-nil (Below 0)); long = refl }; stands = λ v. refl })

pub bits-stand : (w n : ℕ) (r : List Signal) → AreConstant w n r → StandsForValue (bits w n) r
bits-stand w n r a = record { is_word = record { below = a.below; long = a.long }; stands = λ v. ap (bits w) (sym (a.value v)) }

-- what is known of a constant
pub record PlainConstant (ty : Ty) (value : Value) : Type 0 where
  pub plain : IsPlain value
  pub typed : ty ≡ plain_type value

plain-constant : (ty : Ty) (value : Value) → is_bits ty ≡ true → Valid ty → IsTrue (fits ty value) → PlainConstant ty value
plain-constant Bool value is valid h =
    let b = IsBoolean-fits value h in
    subst (PlainConstant Bool) (sym b.is) (record { plain = tt; typed = refl })
plain-constant (Bv w) value is valid h =
    let b = IsBits-fits w value h in
    subst (PlainConstant (Bv w)) (sym b.is) (record { plain = (Bv-small w valid, b.small); typed = refl })
plain-constant _ value is valid h = absurd (false≢true is)

pub constant-known : (op : Op) (ty : Ty) (value : Value) (types : List Ty) → op ≡ Const ty value → IsComputed op types → Suits op types → PlainConstant ty value
constant-known op ty value types e is s =
    let computed : IsComputed (Const ty value) types = subst (λ (o : Op). IsComputed o types) e is in
    let suits : Suits (Const ty value) types = subst (λ (o : Op). Suits o types) e s in
    plain-constant ty value computed suits.1 suits.3

pub constant-gives : (b : Building) (op : Op) (ty : Ty) (value : Value) (types : List Ty) (words : List (List Signal)) (r : List Signal) → op ≡ Const ty value
    → PlainConstant ty value → StandsForValue value r → Gives b op types words r
constant-gives b op ty value types words r e p s =
    subst (λ (o : Op). Gives b o types words r) (sym e)
    (record {
      is_word = subst (λ t. IsWord (size b) t r) (sym p.typed) (record { below = all_below-more 0 (size b) (omega arith) r s.is_word.below; long = s.is_word.long });
      value = λ v o m. s.stands v ∙ ap (λ t. worth v t r) (sym p.typed);
    })
