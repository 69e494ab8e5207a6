-- What an operation gives on words.
use Rattle.std.specs.Prelude.{◌≡◌, ℕ, List, [], ◌∷◌, length}
use Rattle.std.proofs.Common.{refl, sym, ap, ◌∙◌, subst}
use Rattle.std.proofs.lemmas.List.Elements.{All-cons, All-nil}
use Rattle.uc_values.specs.declared.ty.Ty.{Ty}
use Rattle.uc_values.specs.declared.ty.Ty.TheVariants.{Bool, Bv}
use Rattle.uc_values.specs.declared.value.Value.TheVariants.{Bool as truth, Bv as bits}
use Rattle.uc_ops.specs.declared.model.Model.{Model}
use Rattle.uc_ops.specs.declared.op.Op.{Op}
use Rattle.uc_ops.specs.declared.op.Op.TheVariants.{BvAdd, BvSub, BvMul, BvNeg, BvAnd, BvOr, BvXor, BvNot, Extract, ZeroExt, SignExt, Shl, Lshr, Ashr, Slt, Sle, Ult, Ule}
use Rattle.uc_ops.specs.Typing.{type_of, part_type}
use Rattle.uc_ops.specs.Meaning.{apply}
use Rattle.uc_circuit.specs.declared.signal.Signal.{Signal}
use Rattle.uc_circuit.specs.Signals.{number, Below}
use Rattle.uc_circuit.specs.Building.{Building, size}
use Rattle.uc_circuit.specs.Meanings.{Means, Amounts}
use Rattle.uc_blast.specs.Words.{worth, IsWord, Gives}
use Rattle.uc_blast.specs.Operations.{IsPair, pair_number, IsOrder, order_truth, IsSingle, single_width, single_number}
use Rattle.uc_blast.proofs.Ready.{TwoWords, OneWord}

pair-apply : (op : Op) → IsPair op → (m : Model) (types : List Ty) (w a b : ℕ) → apply m op types (bits w a ∷ bits w b ∷ []) ≡ bits w (pair_number op w a b)
pair-apply BvAdd is m types w a b = refl
pair-apply BvSub is m types w a b = refl
pair-apply BvMul is m types w a b = refl
pair-apply BvAnd is m types w a b = refl
pair-apply BvOr is m types w a b = refl
pair-apply BvXor is m types w a b = refl
pair-apply Shl is m types w a b = refl
pair-apply Lshr is m types w a b = refl
pair-apply Ashr is m types w a b = refl
pair-apply _ is m types w a b = absurd is

pair-type : (op : Op) → IsPair op → (types : List Ty) → type_of op types ≡ part_type types 0
pair-type BvAdd is types = refl
pair-type BvSub is types = refl
pair-type BvMul is types = refl
pair-type BvAnd is types = refl
pair-type BvOr is types = refl
pair-type BvXor is types = refl
pair-type Shl is types = refl
pair-type Lshr is types = refl
pair-type Ashr is types = refl
pair-type _ is types = absurd is

pair-here : (b : Building) (op : Op) → IsPair op → (x y r : List Signal) → Amounts b (length x) (λ v. pair_number op (length x) (number v x) (number v y)) r
    → Gives b op (Bv (length x) ∷ Bv (length x) ∷ []) (x ∷ y ∷ []) r
pair-here b op is x y r a =
    let types = Bv (length x) ∷ Bv (length x) ∷ [] in
    let e : type_of op types ≡ Bv (length x) = pair-type op is types in record {
      is_word = subst (λ ty. IsWord (size b) ty r) (sym e) (record { below = a.below; long = a.long });
      value = λ v o m.
          pair-apply op is m types (length x) (number v x) (number v y)
          ∙ ap (bits (length x)) (sym (a.value v o)) ∙ sym (ap (λ ty. worth v ty r) e);
    }

pub pair-gives : (n : ℕ) (b : Building) (op : Op) → IsPair op → (types : List Ty) (words : List (List Signal)) (x y r : List Signal) → TwoWords n types words x y
    → Amounts b (length x) (λ v. pair_number op (length x) (number v x) (number v y)) r → Gives b op types words r
pair-gives n b op is types words x y r t a =
    subst (λ ts. Gives b op ts words r) (sym t.types_are)
    (subst (λ ws. Gives b op (Bv (length x) ∷ Bv (length x) ∷ []) ws r) (sym t.words_are) (pair-here b op is x y r a))

order-apply : (op : Op) → IsOrder op → (m : Model) (types : List Ty) (w a b : ℕ) → apply m op types (bits w a ∷ bits w b ∷ []) ≡ truth (order_truth op w a b)
order-apply Slt is m types w a b = refl
order-apply Sle is m types w a b = refl
order-apply Ult is m types w a b = refl
order-apply Ule is m types w a b = refl
order-apply _ is m types w a b = absurd is

order-type : (op : Op) → IsOrder op → (types : List Ty) → type_of op types ≡ Bool
order-type Slt is types = refl
order-type Sle is types = refl
order-type Ult is types = refl
order-type Ule is types = refl
order-type _ is types = absurd is

order-here : (b : Building) (op : Op) → IsOrder op → (x y : List Signal) (s : Signal) → Means b (λ v. order_truth op (length x) (number v x) (number v y)) s
    → Gives b op (Bv (length x) ∷ Bv (length x) ∷ []) (x ∷ y ∷ []) (s ∷ [])
order-here b op is x y s a =
    let types = Bv (length x) ∷ Bv (length x) ∷ [] in
    let e : type_of op types ≡ Bool = order-type op is types in record {
      is_word = subst (λ ty. IsWord (size b) ty (s ∷ [])) (sym e) (record { below = All-cons (Below (size b)) s [] a.below (All-nil (Below (size b))); long = refl });
      value = λ v o m.
          order-apply op is m types (length x) (number v x) (number v y)
          ∙ ap truth (sym (a.value v o)) ∙ sym (ap (λ ty. worth v ty (s ∷ [])) e);
    }

pub order-gives : (n : ℕ) (b : Building) (op : Op) → IsOrder op → (types : List Ty) (words : List (List Signal)) (x y r : List Signal) (s : Signal) → TwoWords n types words x y
    → Means b (λ v. order_truth op (length x) (number v x) (number v y)) s → r ≡ s ∷ [] → Gives b op types words r
order-gives n b op is types words x y r s t a e =
    subst (Gives b op types words) (sym e)
    (subst (λ ts. Gives b op ts words (s ∷ [])) (sym t.types_are)
    (subst (λ ws. Gives b op (Bv (length x) ∷ Bv (length x) ∷ []) ws (s ∷ [])) (sym t.words_are) (order-here b op is x y s a)))

single-apply : (op : Op) → IsSingle op → (m : Model) (types : List Ty) (w a : ℕ) → apply m op types (bits w a ∷ []) ≡ bits (single_width op w) (single_number op w a)
single-apply BvNeg is m types w a = refl
single-apply BvNot is m types w a = refl
single-apply (Extract high low) is m types w a = refl
single-apply (ZeroExt more) is m types w a = refl
single-apply (SignExt more) is m types w a = refl
single-apply _ is m types w a = absurd is

single-type : (op : Op) → IsSingle op → (w : ℕ) → type_of op (Bv w ∷ []) ≡ Bv (single_width op w)
single-type BvNeg is w = refl
single-type BvNot is w = refl
single-type (Extract high low) is w = refl
single-type (ZeroExt more) is w = refl
single-type (SignExt more) is w = refl
single-type _ is w = absurd is

single-here : (b : Building) (op : Op) → IsSingle op → (x r : List Signal) → Amounts b (single_width op (length x)) (λ v. single_number op (length x) (number v x)) r
    → Gives b op (Bv (length x) ∷ []) (x ∷ []) r
single-here b op is x r a =
    let types = Bv (length x) ∷ [] in
    let e : type_of op types ≡ Bv (single_width op (length x)) = single-type op is (length x) in record {
      is_word = subst (λ ty. IsWord (size b) ty r) (sym e) (record { below = a.below; long = a.long });
      value = λ v o m.
          single-apply op is m types (length x) (number v x)
          ∙ ap (bits (single_width op (length x))) (sym (a.value v o)) ∙ sym (ap (λ ty. worth v ty r) e);
    }

pub single-gives : (n : ℕ) (b : Building) (op : Op) → IsSingle op → (types : List Ty) (words : List (List Signal)) (x r : List Signal) → OneWord n op types words x
    → Amounts b (single_width op (length x)) (λ v. single_number op (length x) (number v x)) r → Gives b op types words r
single-gives n b op is types words x r t a =
    subst (λ ts. Gives b op ts words r) (sym t.types_are)
    (subst (λ ws. Gives b op (Bv (length x) ∷ []) ws r) (sym t.words_are) (single-here b op is x r a))
