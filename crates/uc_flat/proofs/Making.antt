-- Expressions and code that are fine since their parts are.
use Rattle.std.proofs.Common.{◌≡◌, ℕ, ◌<◌, List, [], ◌∷◌, length, map, Some, rules, refl, sym, ap, ◌∙◌, subst, slice_get, ◌⊎◌, inl, inr}
use Rattle.std.specs.Prelude.{All, Contains}
use Rattle.std.proofs.lemmas.List.Elements.{All-contains}
use Rattle.uc_values.specs.declared.ty.Ty.{Ty}
use Rattle.uc_ops.specs.declared.op.Op.{Op}
use Rattle.uc_ops.specs.declared.op.Op.TheVariants.{Symbol}
use Rattle.uc_ops.specs.Typing.{Suits, Valid}
use Rattle.uc_flat.specs.declared.expression.Expression.{Expression}
use Rattle.uc_flat.specs.declared.expression.Expression.TheOpen.{Expression-F}
use Rattle.uc_flat.specs.declared.expression.Expression.TheOpen.Expression-F.{Cell as CellForm, Apply as ApplyForm}
use Rattle.uc_flat.specs.declared.expression.Expression.TheViews.{roll-Expression, out-Expression, the_lemmas as expression_lemmas}
use Rattle.uc_flat.specs.declared.expression.Expression.TheVariants.{Cell, Apply, rolls-Cell, rolls-Apply}
use Rattle.uc_flat.specs.declared.statement.Statement.{Statement}
use Rattle.uc_flat.specs.declared.statement.Statement.TheOpen.{Statement-F}
use Rattle.uc_flat.specs.declared.statement.Statement.TheOpen.Statement-F.{Assign as AssignForm, Havoc as HavocForm, Assume as AssumeForm, Assert as AssertForm, If as IfForm}
use Rattle.uc_flat.specs.declared.statement.Statement.TheViews.{roll-Statement, out-Statement, the_lemmas as statement_lemmas}
use Rattle.uc_flat.specs.declared.statement.Statement.TheVariants.{Assign, Havoc, Assume, Assert, If, rolls-Assign, rolls-Havoc, rolls-Assume, rolls-Assert, rolls-If}
use Rattle.uc_flat.specs.Reading.{type_of}
use Rattle.uc_flat.specs.Fine.{IsWithin, itself, deeper, IsTyped, IsTest, IsInside, outermost, in_first, in_second, AreFine, ReadsBelow, CodeReadsBelow}
use Rattle.uc_flat.proofs.Inside.{contains_one}

out_expression : (y : Expression-F Expression) → out-Expression (roll-Expression y) ≡ y
out_expression y = search (rules, expression_lemmas)

out_cell : (k : ℕ) → out-Expression (Cell k) ≡ CellForm k
out_cell k = ap out-Expression (sym (rolls-Cell k)) ∙ out_expression (CellForm k)

out_apply : (op : Op) (parts : List Expression) → out-Expression (Apply op parts) ≡ ApplyForm op parts
out_apply op parts = ap out-Expression (sym (rolls-Apply op parts)) ∙ out_expression (ApplyForm op parts)

cell_not_apply : (k : ℕ) (op : Op) (parts : List Expression) → Cell k ≡ Apply op parts → ⊥
cell_not_apply k op parts h = let e : CellForm k ≡ ApplyForm op parts = sym (out_cell k) ∙ ap out-Expression h ∙ out_apply op parts in cc

cell_is : (j k : ℕ) → Cell j ≡ Cell k → j ≡ k
cell_is j k h = let e : CellForm j ≡ CellForm k = sym (out_cell j) ∙ ap out-Expression h ∙ out_cell k in cc

apply_is : (op o : Op) (parts ps : List Expression) → Apply op parts ≡ Apply o ps → (op ≡ o) × (parts ≡ ps)
apply_is op o parts ps h =
    let e : ApplyForm op parts ≡ ApplyForm o ps = sym (out_apply op parts) ∙ ap out-Expression h ∙ out_apply o ps in
    ((let f : op ≡ o = cc in f), (let g : parts ≡ ps = cc in g))

-- what stands inside a cell, and inside an operation
within_cell : (k : ℕ) (x : Expression) → IsWithin (Cell k) x → x ≡ Cell k
within_cell k x itself = refl
within_cell k x (deeper op parts y d c) = absurd (cell_not_apply k op parts (sym (within_cell k (Apply op parts) d)))

record InPart (parts : List Expression) (x : Expression) : Type 0 where
  pub part : Expression
  pub listed : Contains parts part
  pub within : IsWithin part x

within_apply : (op : Op) (parts : List Expression) (x : Expression) → IsWithin (Apply op parts) x → (x ≡ Apply op parts) ⊎ InPart parts x
within_apply op parts x itself = inl refl
within_apply op parts x (deeper o ps y d c) =
    elim (within_apply op parts (Apply o ps) d) [
      | inl e ↦ inr (record { part = x; listed = subst (λ qs. Contains qs x) (apply_is o op ps parts e).1 c; within = itself })
      | inr r ↦ inr (record { part = r.part; listed = r.listed; within = deeper o ps x r.within c })
    ]

pub typed_cell : (types : List Ty) (k : ℕ) → k < length types → IsTyped types (Cell k)
typed_cell types k h = record {
  cells = λ j d. subst (λ n. n < length types) (sym (cell_is j k (within_cell k (Cell j) d))) h;
  parts = λ op ps d. absurd (cell_not_apply k op ps (sym (within_cell k (Apply op ps) d)));
}

pub typed_apply : (types : List Ty) (op : Op) (parts : List Expression) → Suits op (map (type_of types) parts) → All (IsTyped types) parts → IsTyped types (Apply op parts)
typed_apply types op parts s h = record {
  cells = λ k d. elim (within_apply op parts (Cell k) d) [ inl e ↦ absurd (cell_not_apply k op parts e) | inr r ↦ (All-contains (IsTyped types) parts r.part h r.listed).cells k r.within ];
  parts = λ o ps d. elim (within_apply op parts (Apply o ps) d) [
    | inl e ↦ let i = apply_is op o parts ps (sym e) in subst (λ p. Suits p (map (type_of types) ps)) i.0 (subst (λ qs. Suits op (map (type_of types) qs)) i.1 s)
    | inr r ↦ (All-contains (IsTyped types) parts r.part h r.listed).parts o ps r.within
  ];
}

pub reads_cell : (n k : ℕ) → ReadsBelow n (Cell k)
reads_cell n k j ty ps d = absurd (cell_not_apply k (Symbol j ty) ps (sym (within_cell k (Apply (Symbol j ty) ps) d)))

pub reads_apply : (n : ℕ) (op : Op) (parts : List Expression) → ((k : ℕ) (ty : Ty) → op ≡ Symbol k ty → k < n) → All (ReadsBelow n) parts → ReadsBelow n (Apply op parts)
reads_apply n op parts f h k ty ps d =
    elim (within_apply op parts (Apply (Symbol k ty) ps) d) [
      | inl e ↦ f k ty (sym (apply_is (Symbol k ty) op ps parts e).0)
      | inr r ↦ All-contains (ReadsBelow n) parts r.part h r.listed k ty ps r.within
    ]

out_statement : (y : Statement-F Statement) → out-Statement (roll-Statement y) ≡ y
out_statement y = search (rules, statement_lemmas)

rolled : (x : Statement) → roll-Statement (out-Statement x) ≡ x
rolled x = search (rules, statement_lemmas)

out_if : (e : Expression) (xs ys : List Statement) → out-Statement (If e xs ys) ≡ IfForm e xs ys
out_if e xs ys = ap out-Statement (sym (rolls-If e xs ys)) ∙ out_statement (IfForm e xs ys)

-- a statement by itself, apart from those inside it
abbrev pub Alone : List Ty → Statement-F Statement → Type 0
Alone types (AssignForm k e) = IsTyped types e × (slice_get types k ≡ Some (type_of types e))
Alone types (HavocForm k listed) = (ty : Ty) × (slice_get types k ≡ Some ty) × Valid ty
Alone types (AssumeForm e) = IsTest types e
Alone types (AssertForm site e) = IsTest types e
Alone types (IfForm e xs ys) = IsTest types e

abbrev pub AloneReads : ℕ → Statement-F Statement → Type 0
AloneReads n (AssignForm k e) = ReadsBelow n e
AloneReads n (HavocForm k listed) = Unit {0}
AloneReads n (AssumeForm e) = ReadsBelow n e
AloneReads n (AssertForm site e) = ReadsBelow n e
AloneReads n (IfForm e xs ys) = ReadsBelow n e

-- code is fine where each statement in it is
pub fine_alone : (types : List Ty) (code : List Statement) → ((x : Statement) → IsInside code x → Alone types (out-Statement x)) → AreFine types code
fine_alone types code h = record {
  assigns = λ k e d. subst (Alone types) (ap out-Statement (sym (rolls-Assign k e)) ∙ out_statement (AssignForm k e)) (h (Assign k e) d);
  havocs = λ k l d. subst (Alone types) (ap out-Statement (sym (rolls-Havoc k l)) ∙ out_statement (HavocForm k l)) (h (Havoc k l) d);
  assumes = λ e d. subst (Alone types) (ap out-Statement (sym (rolls-Assume e)) ∙ out_statement (AssumeForm e)) (h (Assume e) d);
  asserts = λ n e d. subst (Alone types) (ap out-Statement (sym (rolls-Assert n e)) ∙ out_statement (AssertForm n e)) (h (Assert n e) d);
  decides = λ e xs ys d. subst (Alone types) (out_if e xs ys) (h (If e xs ys) d);
}

pub reads_alone : (n : ℕ) (code : List Statement) → ((x : Statement) → IsInside code x → AloneReads n (out-Statement x)) → CodeReadsBelow n code
reads_alone n code h = record {
  assigns = λ k e d. subst (AloneReads n) (ap out-Statement (sym (rolls-Assign k e)) ∙ out_statement (AssignForm k e)) (h (Assign k e) d);
  assumes = λ e d. subst (AloneReads n) (ap out-Statement (sym (rolls-Assume e)) ∙ out_statement (AssumeForm e)) (h (Assume e) d);
  asserts = λ s e d. subst (AloneReads n) (ap out-Statement (sym (rolls-Assert s e)) ∙ out_statement (AssertForm s e)) (h (Assert s e) d);
  decides = λ e xs ys d. subst (AloneReads n) (out_if e xs ys) (h (If e xs ys) d);
}

-- in one assignment stands nothing else
pub inside_assign : (k : ℕ) (e : Expression) (x : Statement) → IsInside (Assign k e ∷ []) x → x ≡ Assign k e
inside_assign k e x (outermost y c) = sym (contains_one (Assign k e) x c)
inside_assign k e x (in_first f xs ys y d c) = absurd (assign_not_if k e f xs ys (sym (inside_assign k e (If f xs ys) d)))
  where
    assign_not_if : (i : ℕ) (g : Expression) (h : Expression) (ps qs : List Statement) → Assign i g ≡ If h ps qs → ⊥
    assign_not_if i g h ps qs j = let e' : AssignForm i g ≡ IfForm h ps qs = sym (ap out-Statement (sym (rolls-Assign i g)) ∙ out_statement (AssignForm i g)) ∙ ap out-Statement j ∙ out_if h ps qs in cc
inside_assign k e x (in_second f xs ys y d c) = absurd (assign_not_if k e f xs ys (sym (inside_assign k e (If f xs ys) d)))
  where
    assign_not_if : (i : ℕ) (g : Expression) (h : Expression) (ps qs : List Statement) → Assign i g ≡ If h ps qs → ⊥
    assign_not_if i g h ps qs j = let e' : AssignForm i g ≡ IfForm h ps qs = sym (ap out-Statement (sym (rolls-Assign i g)) ∙ out_statement (AssignForm i g)) ∙ ap out-Statement j ∙ out_if h ps qs in cc

-- one assignment
pub fine_assign : (types : List Ty) (k : ℕ) (e : Expression) → IsTyped types e → slice_get types k ≡ Some (type_of types e) → AreFine types (Assign k e ∷ [])
fine_assign types k e t s = fine_alone types (Assign k e ∷ []) (λ x d.
    subst (λ y. Alone types (out-Statement y)) (sym (inside_assign k e x d)) (subst (Alone types) (sym (ap out-Statement (sym (rolls-Assign k e)) ∙ out_statement (AssignForm k e))) (t, s)))

pub reads_assign : (n k : ℕ) (e : Expression) → ReadsBelow n e → CodeReadsBelow n (Assign k e ∷ [])
reads_assign n k e h = reads_alone n (Assign k e ∷ []) (λ x d.
    subst (λ y. AloneReads n (out-Statement y)) (sym (inside_assign k e x d)) (subst (AloneReads n) (sym (ap out-Statement (sym (rolls-Assign k e)) ∙ out_statement (AssignForm k e))) h))
