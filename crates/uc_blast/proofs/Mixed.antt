-- Operations on words of several types.
use Rattle.std.specs.Prelude.{◌≡◌, ℕ, ◌+◌, ◌<◌, Bool as Truth, true, false, ◌&&◌, cond, nat_eq, List, [], ◌∷◌, length}
use Rattle.std.proofs.Common.{refl, sym, ap, ◌∙◌, arith, subst, get_or}
use Rattle.std.proofs.lemmas.Bool.{false≢true}
use Rattle.std.proofs.lemmas.Bool.Decides.{nat_tests}
use Rattle.std.proofs.lemmas.List.Elements.{All-cons, All-nil}
use Rattle.uc_values.specs.Operators.{concatenated}
use Rattle.uc_values.specs.Values.{same_truth}
use Rattle.uc_values.specs.Sameness.{same}
use Rattle.uc_values.proofs.Agreement.{sameness-Bool, sameness-Bv}
use Rattle.uc_values.specs.declared.ty.Ty.{Ty}
use Rattle.uc_values.specs.declared.ty.Ty.TheVariants.{Bool, Bv}
use Rattle.uc_values.specs.declared.value.Value.TheVariants.{Bool as truth, Bv as bits}
use Rattle.uc_ops.specs.declared.op.Op.TheVariants.{Not, Eq, Ite, Concat}
use Rattle.uc_circuit.specs.declared.signal.Signal.{Signal}
use Rattle.uc_circuit.specs.declared.signal.Signal.TheVariants.{Constant}
use Rattle.uc_circuit.specs.Signals.{signal_value, turned, number, bit, Below}
use Rattle.uc_circuit.specs.Building.{Building, size}
use Rattle.uc_circuit.specs.Meanings.{Means, Amounts}
use Rattle.uc_circuit.proofs.Choices.{turned-value, turned-below}
use Rattle.uc_blast.specs.Words.{is_bits, bit_width, first, worth, IsWord, AreWords, Gives}

pub record Words1 (n : ℕ) (s : Ty) (words : List (List Signal)) (x : List Signal) : Type 0 where
  pub words_are : words ≡ x ∷ []
  pub x_word : IsWord n s x

pub words-1 : (n : ℕ) (s : Ty) (types : List Ty) (words : List (List Signal)) (x : List Signal) → types ≡ s ∷ [] → x ≡ get_or words 0 [] → AreWords n types words → Words1 n s words x
words-1 n s types words x e ex a = by-1 words ex (subst (λ ts. AreWords n ts words) e a)
  where
    by-1 : (ws : List (List Signal)) → x ≡ get_or ws 0 [] → AreWords n (s ∷ []) ws → Words1 n s ws x
    by-1 [] ex a = absurd a
    by-1 (p ∷ q ∷ rest) ex a = absurd a.1
    by-1 (p ∷ []) ex a = record { words_are = (λ i. sym ex i ∷ []); x_word = subst (IsWord n s) (sym ex) a.0 }

pub record Words2 (n : ℕ) (s t : Ty) (words : List (List Signal)) (x y : List Signal) : Type 0 where
  pub words_are : words ≡ x ∷ y ∷ []
  pub x_word : IsWord n s x
  pub y_word : IsWord n t y

pub words-2 : (n : ℕ) (s t : Ty) (types : List Ty) (words : List (List Signal)) (x y : List Signal) → types ≡ s ∷ t ∷ [] → x ≡ get_or words 0 [] → y ≡ get_or words 1 [] → AreWords n types words → Words2 n s t words x y
words-2 n s t types words x y e ex ey a = by-2 words ex ey (subst (λ ts. AreWords n ts words) e a)
  where
    by-2 : (ws : List (List Signal)) → x ≡ get_or ws 0 [] → y ≡ get_or ws 1 [] → AreWords n (s ∷ t ∷ []) ws → Words2 n s t ws x y
    by-2 [] ex ey a = absurd a
    by-2 (p ∷ []) ex ey a = absurd a.1
    by-2 (p ∷ q ∷ r ∷ rest) ex ey a = absurd a.1.1
    by-2 (p ∷ q ∷ []) ex ey a = record { words_are = (λ i. sym ex i ∷ sym ey i ∷ []); x_word = subst (IsWord n s) (sym ex) a.0; y_word = subst (IsWord n t) (sym ey) a.1.0 }

pub record Words3 (n : ℕ) (s t u : Ty) (words : List (List Signal)) (x y z : List Signal) : Type 0 where
  pub words_are : words ≡ x ∷ y ∷ z ∷ []
  pub x_word : IsWord n s x
  pub y_word : IsWord n t y
  pub z_word : IsWord n u z

pub words-3 : (n : ℕ) (s t u : Ty) (types : List Ty) (words : List (List Signal)) (x y z : List Signal) → types ≡ s ∷ t ∷ u ∷ []
    → x ≡ get_or words 0 [] → y ≡ get_or words 1 [] → z ≡ get_or words 2 [] → AreWords n types words → Words3 n s t u words x y z
words-3 n s t u types words x y z e ex ey ez a = by-3 words ex ey ez (subst (λ ts. AreWords n ts words) e a)
  where
    by-3 : (ws : List (List Signal)) → x ≡ get_or ws 0 [] → y ≡ get_or ws 1 [] → z ≡ get_or ws 2 [] → AreWords n (s ∷ t ∷ u ∷ []) ws → Words3 n s t u ws x y z
    by-3 [] ex ey ez a = absurd a
    by-3 (p ∷ []) ex ey ez a = absurd a.1
    by-3 (p ∷ q ∷ []) ex ey ez a = absurd a.1.1
    by-3 (p ∷ q ∷ r ∷ o ∷ rest) ex ey ez a = absurd a.1.1.1
    by-3 (p ∷ q ∷ r ∷ []) ex ey ez a = record {
      words_are = (λ i. sym ex i ∷ sym ey i ∷ sym ez i ∷ []);
      x_word = subst (IsWord n s) (sym ex) a.0;
      y_word = subst (IsWord n t) (sym ey) a.1.0;
      z_word = subst (IsWord n u) (sym ez) a.1.1.0;
    }

concat-here : (b : Building) (x y r : List Signal) → Amounts b (length x + length y) (λ v. concatenated (length y) (number v x) (number v y)) r
    → Gives b Concat (Bv (length x) ∷ Bv (length y) ∷ []) (x ∷ y ∷ []) r
concat-here b x y r a = record {
  is_word = record { below = a.below; long = a.long };
  value = λ v o m. ap (bits (length x + length y)) (sym (a.value v o));
}

pub concat-gives : (n high low : ℕ) (b : Building) (types : List Ty) (words : List (List Signal)) (x y r : List Signal) → types ≡ Bv high ∷ Bv low ∷ [] → Words2 n (Bv high) (Bv low) words x y
    → Amounts b (length x + length y) (λ v. concatenated (length y) (number v x) (number v y)) r → Gives b Concat types words r
concat-gives n high low b types words x y r e w a =
    let ts : types ≡ Bv (length x) ∷ Bv (length y) ∷ [] = e ∙ (λ i. Bv (sym w.x_word.long i) ∷ Bv (sym w.y_word.long i) ∷ []) in
    subst (λ t. Gives b Concat t words r) (sym ts) (subst (λ ws. Gives b Concat (Bv (length x) ∷ Bv (length y) ∷ []) ws r) (sym w.words_are) (concat-here b x y r a))

-- the signal of a boolean
pub truth-below : (n : ℕ) (s : Ty) (x : List Signal) → IsWord n s x → 0 < bit_width s → Below n (get_or x 0 (Constant false))
truth-below n s x w h = w.below 0 (Constant false) (omega (arith, w.long))

not-here : (b : Building) (x : List Signal) (s : Signal) → IsWord (size b) Bool x → s ≡ turned (get_or x 0 (Constant false)) → Gives b Not (Bool ∷ []) (x ∷ []) (s ∷ [])
not-here b x s w e = record {
  is_word = record {
    below = All-cons (Below (size b)) s [] (subst (Below (size b)) (sym e) (turned-below (size b) (get_or x 0 (Constant false)) (truth-below (size b) Bool x w (omega arith)))) (All-nil (Below (size b)));
    long = refl;
  };
  value = λ v o m. ap truth (sym (ap (signal_value v) e ∙ turned-value v (get_or x 0 (Constant false))));
}

pub not-gives : (b : Building) (types : List Ty) (words : List (List Signal)) (x r : List Signal) (s : Signal) → types ≡ Bool ∷ [] → Words1 (size b) Bool words x
    → s ≡ turned (get_or x 0 (Constant false)) → r ≡ s ∷ [] → Gives b Not types words r
not-gives b types words x r s e w es er =
    subst (Gives b Not types words) (sym er)
    (subst (λ t. Gives b Not t words (s ∷ [])) (sym e) (subst (λ ws. Gives b Not (Bool ∷ []) ws (s ∷ [])) (sym w.words_are) (not-here b x s w.x_word es)))

-- words of one bit
one-bit : (v : ℕ → Truth) (x : List Signal) → length x ≡ 1 → number v x ≡ bit (first v x)
one-bit v [] e = absurd (omega arith)
one-bit v (s ∷ t ∷ rest) e = absurd (omega arith)
one-bit v (s ∷ []) e = omega arith

same-bits : (a b : Truth) → nat_eq (bit a) (bit b) ≡ same_truth a b
same-bits true true = refl
same-bits true false = refl
same-bits false true = refl
same-bits false false = refl

itself : (w : ℕ) → nat_eq w w ≡ true
itself w = grind (arith, nat_tests)

same-here : (ty : Ty) → is_bits ty ≡ true → (v : ℕ → Truth) (x y : List Signal) → length x ≡ bit_width ty → length y ≡ bit_width ty
    → same ty (worth v ty x) (worth v ty y) ≡ nat_eq (number v x) (number v y)
same-here Bool is v x y lx ly =
    ap (λ s. s.same (truth (first v x)) (truth (first v y))) sameness-Bool
    ∙ sym (ap (λ k. nat_eq k (number v y)) (one-bit v x lx) ∙ ap (λ k. nat_eq (bit (first v x)) k) (one-bit v y ly) ∙ same-bits (first v x) (first v y))
same-here (Bv w) is v x y lx ly =
    ap (λ s. s.same (bits w (number v x)) (bits w (number v y))) (sameness-Bv w)
    ∙ ap (λ b. b && nat_eq (number v x) (number v y)) (itself w)
same-here _ is v x y lx ly = absurd (false≢true is)

pub equal-gives : (n : ℕ) (b : Building) (ty : Ty) (types : List Ty) (words : List (List Signal)) (x y r : List Signal) (s : Signal) → types ≡ ty ∷ ty ∷ [] → is_bits ty ≡ true
    → Words2 n ty ty words x y → Means b (λ v. nat_eq (number v x) (number v y)) s → r ≡ s ∷ [] → Gives b Eq types words r
equal-gives n b ty types words x y r s e is w m er =
    subst (Gives b Eq types words) (sym er)
    (subst (λ t. Gives b Eq t words (s ∷ [])) (sym e) (subst (λ ws. Gives b Eq (ty ∷ ty ∷ []) ws (s ∷ [])) (sym w.words_are)
    (record {
      is_word = record { below = All-cons (Below (size b)) s [] m.below (All-nil (Below (size b))); long = refl };
      value = λ v o k. ap truth (same-here ty is v x y w.x_word.long w.y_word.long ∙ sym (m.value v o));
    })))

bit-same : (a b : Truth) → bit a ≡ bit b → a ≡ b
bit-same true true e = refl
bit-same false false e = refl
bit-same true false e = absurd (omega arith)
bit-same false true e = absurd (omega arith)

bit-choice : (c a b : Truth) → cond c (bit a) (bit b) ≡ bit (cond c a b)
bit-choice true a b = refl
bit-choice false a b = refl

choice-truth : (c a b : Truth) → cond c (truth a) (truth b) ≡ truth (cond c a b)
choice-truth true a b = refl
choice-truth false a b = refl

choice-bits : (c : Truth) (w m n : ℕ) → cond c (bits w m) (bits w n) ≡ bits w (cond c m n)
choice-bits true w m n = refl
choice-bits false w m n = refl

choice-here : (ty : Ty) → is_bits ty ≡ true → (v : ℕ → Truth) (c : Truth) (x y r : List Signal) → length x ≡ bit_width ty → length y ≡ bit_width ty → length r ≡ bit_width ty
    → number v r ≡ cond c (number v x) (number v y) → cond c (worth v ty x) (worth v ty y) ≡ worth v ty r
choice-here Bool is v c x y r lx ly lr e =
    choice-truth c (first v x) (first v y)
    ∙ ap truth (bit-same (cond c (first v x) (first v y)) (first v r)
    (sym (bit-choice c (first v x) (first v y)) ∙ ap (λ k. cond c k (bit (first v y))) (sym (one-bit v x lx)) ∙ ap (λ k. cond c (number v x) k) (sym (one-bit v y ly)) ∙ sym e ∙ one-bit v r lr))
choice-here (Bv w) is v c x y r lx ly lr e = choice-bits c w (number v x) (number v y) ∙ ap (bits w) (sym e)
choice-here _ is v c x y r lx ly lr e = absurd (false≢true is)

pub choice-gives : (n : ℕ) (b : Building) (ty : Ty) (types : List Ty) (words : List (List Signal)) (x y z r : List Signal) → types ≡ Bool ∷ ty ∷ ty ∷ [] → is_bits ty ≡ true
    → Words3 n Bool ty ty words x y z → Amounts b (length y) (λ v. cond (first v x) (number v y) (number v z)) r → Gives b Ite types words r
choice-gives n b ty types words x y z r e is w a =
    subst (λ t. Gives b Ite t words r) (sym e) (subst (λ ws. Gives b Ite (Bool ∷ ty ∷ ty ∷ []) ws r) (sym w.words_are)
    (record {
      is_word = record { below = a.below; long = a.long ∙ w.y_word.long };
      value = λ v o k. choice-here ty is v (first v x) y z r w.y_word.long w.z_word.long (a.long ∙ w.y_word.long) (a.value v o);
    }))
