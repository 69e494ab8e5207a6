-- The values of a scalar type, numbered from 0.
use Rattle.std.specs.Prelude.{ℕ, zero, suc, ℤ, pos, negsuc, ◌+◌, ◌^◌, ◌<◌, ◌≡◌, Bool, true, false, ◌&&◌, nat_eq, IsTrue, Option, Some, None}
use Rattle.std.specs.Ordering.{int_eq}
use Rattle.std.proofs.Common.{refl, sym, ap, ◌∙◌, subst, arith}
use Rattle.std.proofs.lemmas.Bool.Decides.{nat_tests, Decides-int_eq}
use Rattle.uc_values.specs.Types.{is_scalar}
use Rattle.uc_values.specs.Values.{fits, same_scalar, same_truth, truth_of, number_of, bits_of, label_of, member_of}
use Rattle.uc_values.specs.Sameness.{Sameness, sameness}
use Rattle.uc_values.proofs.Shapes.{scalar-Rec, scalar-Arr}
use Rattle.uc_values.proofs.Fitting.{IsBoolean-fits, IsInteger-fits, IsBits-fits, IsLabel-fits, IsMember-fits, Truth-fits, Int-fits, fits-IsBits, fits-IsLabel, fits-Un}
use Rattle.uc_values.proofs.Agreement.{sameness-Bool, sameness-Int, sameness-Bv, sameness-Enum, sameness-Un}
use Rattle.uc_values.specs.declared.ty.Ty.{Ty}
use Rattle.uc_values.specs.declared.ty.Ty.TheVariants.{Bool as Boolean, Int as Integer, Bv as Bits, Enum as Label, Un as Open, rolls-Bool, rolls-Int, rolls-Bv, rolls-Rec, rolls-Enum, rolls-Un, rolls-Arr}
use Rattle.uc_values.specs.declared.ty.Ty.TheViews.{out-Ty, roll-Ty, the_lemmas}
use Rattle.uc_values.specs.declared.ty.Ty.TheOpen.{Ty-F}
use Rattle.uc_values.specs.declared.ty.Ty.TheOpen.Ty-F.{Bool as boolean_type, Int as integer_type, Bv as bits_type, Rec as record_type, Arr as array_type, Enum as enum_type, Un as open_type}
use Rattle.uc_values.specs.declared.value.Value.{Value}
use Rattle.uc_values.specs.declared.value.Value.TheVariants.{Bool as Truth, Int, Bv, Enum, Un}
use Rattle.std.proofs.Common.{rules}

-- a number below the count, where there is one
abbrev pub Within : Option ℕ → ℕ → Type 0
Within None n = Unit {0}
Within (Some c) n = n < c

-- The values that fit a type have numbers, which tell them apart, and each number within the count is that of a value.
pub record Numbered (ty : Ty) : Type 0 where
  pub number : Value → ℕ
  pub member : ℕ → Value
  pub within : (v : Value) → IsTrue (fits ty v) → Within (sameness ty).count (number v)
  pub fitting : (n : ℕ) → Within (sameness ty).count n → IsTrue (fits ty (member n))
  pub back : (n : ℕ) → Within (sameness ty).count n → number (member n) ≡ n
  pub same : (v w : Value) → IsTrue (fits ty v) → IsTrue (fits ty w) → same_scalar v w ≡ nat_eq (number v) (number w)

eq_refl : (n : ℕ) → nat_eq n n ≡ true
eq_refl n = grind (arith, nat_tests)

-- a count that is known decides what is within
counted : (ty : Ty) (o : Option ℕ) (n : ℕ) → (sameness ty).count ≡ o → Within o n → Within (sameness ty).count n
counted ty o n e h = subst (λ x. Within x n) (sym e) h

uncounted : (ty : Ty) (o : Option ℕ) (n : ℕ) → (sameness ty).count ≡ o → Within (sameness ty).count n → Within o n
uncounted ty o n e h = subst (λ x. Within x n) e h

abbrev truth_number : Bool → ℕ
truth_number true = 1
truth_number false = 0

count-Bool : (sameness Boolean).count ≡ Some 2
count-Bool = ap (λ (s : Sameness). s.count) sameness-Bool

truth_small : (b : Bool) → truth_number b < 2
truth_small true = omega arith
truth_small false = omega arith

truth_back : (n : ℕ) → n < 2 → truth_number (nat_eq n 1) ≡ n
truth_back zero h = refl
truth_back (suc zero) h = refl
truth_back (suc (suc n)) h = absurd (omega arith)

truths_same : (a b : Bool) → same_truth a b ≡ nat_eq (truth_number a) (truth_number b)
truths_same true true = refl
truths_same true false = refl
truths_same false true = refl
truths_same false false = refl

numbered-Bool : Numbered Boolean
numbered-Bool = record {
  number = λ v. truth_number (truth_of v);
  member = λ n. Truth (nat_eq n 1);
  within = λ v h. counted Boolean (Some 2) (truth_number (truth_of v)) count-Bool (truth_small (truth_of v));
  fitting = λ n h. Truth-fits (nat_eq n 1);
  back = λ n h. truth_back n (uncounted Boolean (Some 2) n count-Bool h);
  same = λ v w f g.
      let a = IsBoolean-fits v f in
      let b = IsBoolean-fits w g in
      subst (λ x. same_scalar x w ≡ nat_eq (truth_number (truth_of x)) (truth_number (truth_of w))) (sym a.is)
      (subst (λ y. same_scalar (Truth a.truth) y ≡ nat_eq (truth_number a.truth) (truth_number (truth_of y))) (sym b.is) (truths_same a.truth b.truth));
}

-- whole numbers in turn from 0 outwards
abbrev fold_number : ℤ → ℕ
fold_number (pos n) = n + n
fold_number (negsuc n) = n + n + 1

abbrev next_number : ℤ → ℤ
next_number (pos n) = negsuc n
next_number (negsuc n) = pos (n + 1)

abbrev unfold_number : ℕ → ℤ
unfold_number zero = pos 0
unfold_number (suc n) = next_number (unfold_number n)

next_folds : (z : ℤ) → fold_number (next_number z) ≡ suc (fold_number z)
next_folds (pos n) = omega arith
next_folds (negsuc n) = omega arith

number_back : (n : ℕ) → fold_number (unfold_number n) ≡ n
number_back zero = refl
number_back (suc n) = next_folds (unfold_number n) ∙ ap suc (number_back n)

fold_apart : (a b : ℤ) → fold_number a ≡ fold_number b → a ≡ b
fold_apart (pos a) (pos b) h = ap pos (omega (arith, h))
fold_apart (pos a) (negsuc b) h = absurd (omega (arith, h))
fold_apart (negsuc a) (pos b) h = absurd (omega (arith, h))
fold_apart (negsuc a) (negsuc b) h = ap negsuc (omega (arith, h))

both_tell : (x y : Bool) → (x ≡ true → y ≡ true) → (y ≡ true → x ≡ true) → x ≡ y
both_tell true y f g = sym (f refl)
both_tell false true f g = g refl
both_tell false false f g = refl

nat_true : (a b : ℕ) → nat_eq a b ≡ true → a ≡ b
nat_true a b h = grind (arith, nat_tests)

numbers_same : (a b : ℤ) → int_eq a b ≡ nat_eq (fold_number a) (fold_number b)
numbers_same a b =
    both_tell (int_eq a b) (nat_eq (fold_number a) (fold_number b))
    (λ e. ap (λ z. nat_eq (fold_number z) (fold_number b)) ((Decides-int_eq a b).0 e) ∙ eq_refl (fold_number b))
    (λ e. (Decides-int_eq a b).1 (fold_apart a b (nat_true (fold_number a) (fold_number b) e)))

count-Int : (sameness Integer).count ≡ None
count-Int = ap (λ (s : Sameness). s.count) sameness-Int

numbered-Int : Numbered Integer
numbered-Int = record {
  number = λ v. fold_number (number_of v);
  member = λ n. Int (unfold_number n);
  within = λ v h. counted Integer None (fold_number (number_of v)) count-Int tt;
  fitting = λ n h. Int-fits (unfold_number n);
  back = λ n h. number_back n;
  same = λ v w f g.
      let a = IsInteger-fits v f in
      let b = IsInteger-fits w g in
      subst (λ x. same_scalar x w ≡ nat_eq (fold_number (number_of x)) (fold_number (number_of w))) (sym a.is)
      (subst (λ y. same_scalar (Int a.number) y ≡ nat_eq (fold_number a.number) (fold_number (number_of y))) (sym b.is) (numbers_same a.number b.number));
}

second_decides : (n a b : ℕ) → (nat_eq n n && nat_eq a b) ≡ nat_eq a b
second_decides n a b = ap (λ x. x && nat_eq a b) (eq_refl n)

count-Bv : (width : ℕ) → (sameness (Bits width)).count ≡ Some (2 ^ width)
count-Bv width = ap (λ (s : Sameness). s.count) (sameness-Bv width)

numbered-Bv : (width : ℕ) → Numbered (Bits width)
numbered-Bv width = record {
  number = λ v. bits_of v;
  member = λ n. Bv width n;
  within = λ v h.
      let b = IsBits-fits width v h in
      counted (Bits width) (Some (2 ^ width)) (bits_of v) (count-Bv width) (subst (λ x. bits_of x < 2 ^ width) (sym b.is) b.small);
  fitting = λ n h. fits-IsBits width n (uncounted (Bits width) (Some (2 ^ width)) n (count-Bv width) h);
  back = λ n h. refl;
  same = λ v w f g.
      let a = IsBits-fits width v f in
      let b = IsBits-fits width w g in
      subst (λ x. same_scalar x w ≡ nat_eq (bits_of x) (bits_of w)) (sym a.is)
      (subst (λ y. same_scalar (Bv width a.number) y ≡ nat_eq a.number (bits_of y)) (sym b.is) (second_decides width a.number b.number));
}

count-Enum : (e k : ℕ) → (sameness (Label e k)).count ≡ Some k
count-Enum e k = ap (λ (s : Sameness). s.count) (sameness-Enum e k)

numbered-Enum : (e k : ℕ) → Numbered (Label e k)
numbered-Enum e k = record {
  number = λ v. label_of v;
  member = λ n. Enum e n;
  within = λ v h.
      let b = IsLabel-fits e k v h in
      counted (Label e k) (Some k) (label_of v) (count-Enum e k) (subst (λ x. label_of x < k) (sym b.is) b.small);
  fitting = λ n h. fits-IsLabel e k n (uncounted (Label e k) (Some k) n (count-Enum e k) h);
  back = λ n h. refl;
  same = λ v w f g.
      let a = IsLabel-fits e k v f in
      let b = IsLabel-fits e k w g in
      subst (λ x. same_scalar x w ≡ nat_eq (label_of x) (label_of w)) (sym a.is)
      (subst (λ y. same_scalar (Enum e a.label) y ≡ nat_eq a.label (label_of y)) (sym b.is) (second_decides e a.label b.label));
}

count-Un : (t : ℕ) → (sameness (Open t)).count ≡ None
count-Un t = ap (λ (s : Sameness). s.count) (sameness-Un t)

numbered-Un : (t : ℕ) → Numbered (Open t)
numbered-Un t = record {
  number = λ v. member_of v;
  member = λ n. Un t n;
  within = λ v h. counted (Open t) None (member_of v) (count-Un t) tt;
  fitting = λ n h. fits-Un t n;
  back = λ n h. refl;
  same = λ v w f g.
      let a = IsMember-fits t v f in
      let b = IsMember-fits t w g in
      subst (λ x. same_scalar x w ≡ nat_eq (member_of x) (member_of w)) (sym a.is)
      (subst (λ y. same_scalar (Un t a.place) y ≡ nat_eq a.place (member_of y)) (sym b.is) (second_decides t a.place b.place));
}

differ : true ≡ false → ⊥
differ h = cc

numbered_form : (x : Ty-F Ty) → is_scalar (roll-Ty x) ≡ true → Numbered (roll-Ty x)
numbered_form boolean_type h = subst Numbered (sym rolls-Bool) numbered-Bool
numbered_form integer_type h = subst Numbered (sym rolls-Int) numbered-Int
numbered_form (bits_type width) h = subst Numbered (sym (rolls-Bv width)) (numbered-Bv width)
numbered_form (enum_type e k) h = subst Numbered (sym (rolls-Enum e k)) (numbered-Enum e k)
numbered_form (open_type t) h = subst Numbered (sym (rolls-Un t)) (numbered-Un t)
numbered_form (record_type fs) h = absurd (differ (sym h ∙ ap is_scalar (rolls-Rec fs) ∙ scalar-Rec fs))
numbered_form (array_type i e) h = absurd (differ (sym h ∙ ap is_scalar (rolls-Arr i e) ∙ scalar-Arr i e))

rolled : (ty : Ty) → roll-Ty (out-Ty ty) ≡ ty
rolled ty = search (rules, the_lemmas)

-- each scalar type numbers its values
pub numbered : (ty : Ty) → IsTrue (is_scalar ty) → Numbered ty
numbered ty h = subst Numbered (rolled ty) (numbered_form (out-Ty ty) (ap is_scalar (rolled ty) ∙ h))
