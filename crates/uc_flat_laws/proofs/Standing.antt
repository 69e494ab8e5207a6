-- Where each statement that stands in code has a property of its own, as code is put together.
use Rattle.std.proofs.Common.{◌≡◌, ℕ, zero, suc, List, [], ◌∷◌, ◌++◌, rules, sym, ap, ◌∙◌, subst, arith, ◌⊎◌, inl, inr}
use Rattle.std.specs.Prelude.{Bool as Truth, Contains}
use Rattle.uc_flat.specs.declared.expression.Expression.{Expression}
use Rattle.uc_flat.specs.declared.statement.Statement.{Statement}
use Rattle.uc_flat.specs.declared.statement.Statement.TheOpen.{Statement-F}
use Rattle.uc_flat.specs.declared.statement.Statement.TheOpen.Statement-F.{Assign as AssignForm, Havoc as HavocForm, Assume as AssumeForm, If as IfForm}
use Rattle.uc_flat.specs.declared.statement.Statement.TheViews.{roll-Statement, out-Statement, the_lemmas}
use Rattle.uc_flat.specs.declared.statement.Statement.TheVariants.{Assign, Havoc, Assume, If, rolls-Assign, rolls-Havoc, rolls-Assume, rolls-If}
use Rattle.uc_flat.specs.Fine.{IsInside, outermost, in_first, in_second}
use Rattle.uc_flat.proofs.Inside.{contains_one, contains_later}

pub out_statement : (y : Statement-F Statement) → out-Statement (roll-Statement y) ≡ y
out_statement y = search (rules, the_lemmas)

pub out_assign : (k : ℕ) (e : Expression) → out-Statement (Assign k e) ≡ AssignForm k e
out_assign k e = ap out-Statement (sym (rolls-Assign k e)) ∙ out_statement (AssignForm k e)

out_havoc : (k : ℕ) (listed : Truth) → out-Statement (Havoc k listed) ≡ HavocForm k listed
out_havoc k listed = ap out-Statement (sym (rolls-Havoc k listed)) ∙ out_statement (HavocForm k listed)

pub out_assume : (e : Expression) → out-Statement (Assume e) ≡ AssumeForm e
out_assume e = ap out-Statement (sym (rolls-Assume e)) ∙ out_statement (AssumeForm e)

pub out_if : (e : Expression) (xs ys : List Statement) → out-Statement (If e xs ys) ≡ IfForm e xs ys
out_if e xs ys = ap out-Statement (sym (rolls-If e xs ys)) ∙ out_statement (IfForm e xs ys)

-- ---- what stands in code

none_contained : (s : Statement) → Contains [] s → ⊥
none_contained s c = absurd (omega (arith, c.1))

none_inside : (s : Statement) → IsInside [] s → ⊥
none_inside s (outermost x c) = none_contained s c
none_inside s (in_first e xs ys x d c) = none_inside (If e xs ys) d
none_inside s (in_second e xs ys x d c) = none_inside (If e xs ys) d

contains_either : (xs ys : List Statement) (s : Statement) → Contains (xs ++ ys) s → Contains xs s ⊎ Contains ys s
contains_either [] ys s c = inr c
contains_either (x ∷ xs) ys s (zero, l, e) = inl (zero, omega arith, e)
contains_either (x ∷ xs) ys s (suc k, l, e) = elim (contains_either xs ys s (k, omega (arith, l), e)) [ inl d ↦ inl (contains_later x s xs d) | inr d ↦ inr d ]

inside_either : (xs ys : List Statement) (s : Statement) → IsInside (xs ++ ys) s → IsInside xs s ⊎ IsInside ys s
inside_either xs ys s (outermost x c) = elim (contains_either xs ys s c) [ inl d ↦ inl (outermost s d) | inr d ↦ inr (outermost s d) ]
inside_either xs ys s (in_first e us vs x d c) = elim (inside_either xs ys (If e us vs) d) [ inl i ↦ inl (in_first e us vs s i c) | inr i ↦ inr (in_first e us vs s i c) ]
inside_either xs ys s (in_second e us vs x d c) = elim (inside_either xs ys (If e us vs) d) [ inl i ↦ inl (in_second e us vs s i c) | inr i ↦ inr (in_second e us vs s i c) ]

-- in a statement without statements inside it stands nothing else
inside_plain : (x : Statement) → ((e : Expression) (xs ys : List Statement) → x ≡ If e xs ys → ⊥) → (s : Statement) → IsInside (x ∷ []) s → x ≡ s
inside_plain x plain s (outermost y c) = contains_one x s c
inside_plain x plain s (in_first e xs ys y d c) = absurd (plain e xs ys (inside_plain x plain (If e xs ys) d))
inside_plain x plain s (in_second e xs ys y d c) = absurd (plain e xs ys (inside_plain x plain (If e xs ys) d))

if_is : (e f : Expression) (xs ys us vs : List Statement) → If e xs ys ≡ If f us vs → (xs ≡ us) × (ys ≡ vs)
if_is e f xs ys us vs h =
    let g : IfForm e xs ys ≡ IfForm f us vs = sym (out_if e xs ys) ∙ ap out-Statement h ∙ out_if f us vs in
    ((let a : xs ≡ us = cc in a), (let b : ys ≡ vs = cc in b))

abbrev InIf : Expression → List Statement → List Statement → Statement → Type 0
InIf e xs ys s = (If e xs ys ≡ s) ⊎ (IsInside xs s ⊎ IsInside ys s)

inside_if : (e : Expression) (xs ys : List Statement) (s : Statement) → IsInside (If e xs ys ∷ []) s → InIf e xs ys s
inside_if e xs ys s (outermost y c) = inl (contains_one (If e xs ys) s c)
inside_if e xs ys s (in_first f us vs y d c) =
    elim (inside_if e xs ys (If f us vs) d) [
      | inl h ↦ inr (inl (outermost s (subst (λ zs. Contains zs s) (sym (if_is e f xs ys us vs h).0) c)))
      | inr h ↦ elim h [ inl i ↦ inr (inl (in_first f us vs s i c)) | inr i ↦ inr (inr (in_first f us vs s i c)) ]
    ]
inside_if e xs ys s (in_second f us vs y d c) =
    elim (inside_if e xs ys (If f us vs) d) [
      | inl h ↦ inr (inr (outermost s (subst (λ zs. Contains zs s) (sym (if_is e f xs ys us vs h).1) c)))
      | inr h ↦ elim h [ inl i ↦ inr (inl (in_second f us vs s i c)) | inr i ↦ inr (inr (in_second f us vs s i c)) ]
    ]

-- ---- a property of each statement that stands in code

pub record Everywhere (A : Statement-F Statement → Type 0) (code : List Statement) : Type 0 where
  pub at : (s : Statement) → IsInside code s → A (out-Statement s)

module _ (A : Statement-F Statement → Type 0) where
  pub nowhere : Everywhere A []
  nowhere = record { at = λ s d. absurd (none_inside s d) }

  pub both : (xs ys : List Statement) → Everywhere A xs → Everywhere A ys → Everywhere A (xs ++ ys)
  both xs ys a b = record { at = λ s d. elim (inside_either xs ys s d) [ inl i ↦ a.at s i | inr i ↦ b.at s i ] }

  plain : (x : Statement) → ((e : Expression) (xs ys : List Statement) → x ≡ If e xs ys → ⊥) → A (out-Statement x) → Everywhere A (x ∷ [])
  plain x p a = record { at = λ s d. subst (λ y. A (out-Statement y)) (inside_plain x p s d) a }

  pub one_assign : (k : ℕ) (e : Expression) → A (AssignForm k e) → Everywhere A (Assign k e ∷ [])
  one_assign k e a =
      plain (Assign k e) (λ f xs ys h. let g : AssignForm k e ≡ IfForm f xs ys = sym (out_assign k e) ∙ ap out-Statement h ∙ out_if f xs ys in cc)
      (subst A (sym (out_assign k e)) a)

  pub one_havoc : (k : ℕ) (listed : Truth) → A (HavocForm k listed) → Everywhere A (Havoc k listed ∷ [])
  one_havoc k listed a =
      plain (Havoc k listed) (λ f xs ys h. let g : HavocForm k listed ≡ IfForm f xs ys = sym (out_havoc k listed) ∙ ap out-Statement h ∙ out_if f xs ys in cc)
      (subst A (sym (out_havoc k listed)) a)

  pub one_assume : (e : Expression) → A (AssumeForm e) → Everywhere A (Assume e ∷ [])
  one_assume e a =
      plain (Assume e) (λ f xs ys h. let g : AssumeForm e ≡ IfForm f xs ys = sym (out_assume e) ∙ ap out-Statement h ∙ out_if f xs ys in cc)
      (subst A (sym (out_assume e)) a)

  pub one_if : (e : Expression) (xs ys : List Statement) → A (IfForm e xs ys) → Everywhere A xs → Everywhere A ys → Everywhere A (If e xs ys ∷ [])
  one_if e xs ys a b c = record {
    at = λ s d. elim (inside_if e xs ys s d) [
      | inl h ↦ subst (λ y. A (out-Statement y)) h (subst A (sym (out_if e xs ys)) a)
      | inr h ↦ elim h [ inl i ↦ b.at s i | inr i ↦ c.at s i ]
    ];
  }
