-- What holds of each formula that a declaration gives holds of all formulas of declarations.
use Rattle.std.proofs.Common.{◌≡◌, ℕ, suc, ◌+◌, List, [], ◌∷◌, ◌++◌, Some, Option, true, refl, ap, ◌∙◌, subst, slice_get, arith}
use Rattle.std.specs.Prelude.{All}
use Rattle.std.specs.Option.{option_map}
use Rattle.std.proofs.lemmas.List.Elements.{All-nil, All-cons, All-append}
use Rattle.uc_lexer.specs.declared.place.Place.{Place}
use Rattle.uc_syntax.specs.declared.place.Identifier.{Identifier}
use Rattle.uc_syntax.specs.declared.expression.Expr.{Expr}
use Rattle.uc_syntax.specs.declared.declaration.Decl.{Decl}
use Rattle.uc_syntax.specs.declared.declaration.Decl.TheVariants.{Invariant, Axiom}
use Rattle.uc_flat.specs.declared.flat.Formula.{Formula}
use Rattle.uc_flat_expressions.specs.declared.typed.TypedExpression.{TypedExpression}
use Rattle.uc_flat_expressions.specs.declared.typed.Meant.{Meant}
use Rattle.uc_flat_expressions.specs.Types.{is_boolean}
use Rattle.uc_flat_expressions.specs.Expressions.{flat_of}
use Rattle.uc_flat_design.specs.Design.{Reader, condition_of, invariant_in, axiom_in, formulas_from}
use Rattle.uc_flat_design.proofs.FlatInitLawOptions.{then_some, map_some, if_some, some_same}

pub all_read : (P : Formula → Type 0) (read : Reader) (from : ℕ) (decls : List Decl) → ((n : ℕ) (d : Decl) (xs : List Formula) → slice_get decls n ≡ Some d → read (from + n) d ≡ Some xs → All P xs)
    → (fs : List Formula) → formulas_from read from decls ≡ Some fs → All P fs
unfolding formulas_from
all_read P read from [] each fs h = subst (All P) (some_same [] fs h) (All-nil P)
all_read P read from (d ∷ decls) each fs h =
    let s = then_some (λ xs. option_map (λ ys. xs ++ ys) (formulas_from read (from + 1) decls)) (read from d) fs h in
    let t = map_some (λ ys. s.0 ++ ys) (formulas_from read (from + 1) decls) fs s.2 in
    let here : from + 0 ≡ from = omega arith in
    subst (All P) t.2
    (All-append P s.0 t.0 (each 0 d s.0 refl (ap (λ k. read k d) here ∙ s.1))
    (all_read P read (from + 1) decls (λ n e xs at g. let next : from + suc n ≡ from + 1 + n = omega arith in each (suc n) e xs at (ap (λ k. read k e) next ∙ g)) t.0 t.1))

-- the formula of a declaration by its number
abbrev pub formula_of : ℕ → ℕ → TypedExpression → Formula
formula_of copies n t = record { path = []; decl = n; copies = copies; condition = t.expression }

one_condition : (P : Formula → Type 0) (copies n : ℕ) (t : TypedExpression) (xs : List Formula) → condition_of copies n t ≡ Some xs → (is_boolean t.ty ≡ true → P (formula_of copies n t)) → All P xs
one_condition P copies n t xs h give =
    let b = if_some (is_boolean t.ty) (Some (formula_of copies n t ∷ [])) xs h in
    subst (All P) (some_same (formula_of copies n t ∷ []) xs b.1) (All-cons P (formula_of copies n t) [] (give b.0) (All-nil P))

module _ (P : Formula → Type 0) (names : List Meant) (decls : List Decl) where
  abbrev FromInvariants : Type 0
  FromInvariants = (n : ℕ) (place : Place) (i : Identifier) (e : Expr) (t : TypedExpression) → slice_get decls n ≡ Some (Invariant place i e) → flat_of names e ≡ Some t → is_boolean t.ty ≡ true → P (formula_of 1 n t)

  each_invariant : FromInvariants → (n k : ℕ) (d : Decl) (xs : List Formula) → k ≡ n → slice_get decls n ≡ Some d → invariant_in names k d ≡ Some xs → All P xs
  each_invariant give n k (Invariant place i e) xs same at h =
      let s = then_some (condition_of 1 k) (flat_of names e) xs h in
      one_condition P 1 k s.0 xs s.2 (λ b. subst (λ j. P (formula_of 1 j s.0)) (back same) (give n place i e s.0 at s.1 b))
    where
      back : k ≡ n → n ≡ k
      back e = omega (arith, e)
  each_invariant give n k other xs same at h = subst (All P) (some_same [] xs h) (All-nil P)

  pub invariants_read : FromInvariants → (fs : List Formula) → formulas_from (invariant_in names) 0 decls ≡ Some fs → All P fs
  invariants_read give fs h = all_read P (invariant_in names) 0 decls (λ n d xs at g. each_invariant give n (0 + n) d xs (omega arith) at g) fs h

  abbrev FromAxioms : Type 0
  FromAxioms = (n : ℕ) (place : Place) (name : Option Identifier) (e : Expr) (t : TypedExpression) → slice_get decls n ≡ Some (Axiom place name e) → flat_of names e ≡ Some t → is_boolean t.ty ≡ true → P (formula_of 0 n t)

  each_axiom : FromAxioms → (n k : ℕ) (d : Decl) (xs : List Formula) → k ≡ n → slice_get decls n ≡ Some d → axiom_in names k d ≡ Some xs → All P xs
  each_axiom give n k (Axiom place name e) xs same at h =
      let s = then_some (condition_of 0 k) (flat_of names e) xs h in
      one_condition P 0 k s.0 xs s.2 (λ b. subst (λ j. P (formula_of 0 j s.0)) (back same) (give n place name e s.0 at s.1 b))
    where
      back : k ≡ n → n ≡ k
      back e = omega (arith, e)
  each_axiom give n k other xs same at h = subst (All P) (some_same [] xs h) (All-nil P)

  pub axioms_read : FromAxioms → (fs : List Formula) → formulas_from (axiom_in names) 0 decls ≡ Some fs → All P fs
  axioms_read give fs h = all_read P (axiom_in names) 0 decls (λ n d xs at g. each_axiom give n (0 + n) d xs (omega arith) at g) fs h
