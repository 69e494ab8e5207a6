-- The design reads its constant at its type, which is a valid one.
use Rattle.std.proofs.Common.{◌≡◌, ℕ, List, [], ◌∷◌, Some, rules, refl, sym, ap, ◌∙◌, subst, slice_get, ◌⊎◌, inl, inr}
use Rattle.std.specs.Prelude.{All, Contains, false}
use Rattle.std.proofs.lemmas.List.Elements.{All-contains}
use Rattle.uc_values.specs.declared.ty.Ty.{Ty}
use Rattle.uc_values.specs.declared.ty.Ty.TheVariants.{Bool}
use Rattle.uc_values.specs.declared.value.Value.TheVariants.{Bool as Truth}
use Rattle.uc_values.proofs.Shapes.{valid-Bool}
use Rattle.uc_ops.specs.declared.op.Op.{Op}
use Rattle.uc_ops.specs.declared.op.Op.TheVariants.{Const, Not, Eq, Symbol}
use Rattle.uc_ops.specs.Typing.{Valid, AllValid}
use Rattle.uc_flat.specs.declared.expression.Expression.{Expression}
use Rattle.uc_flat.specs.declared.expression.Expression.TheOpen.{Expression-F}
use Rattle.uc_flat.specs.declared.expression.Expression.TheOpen.Expression-F.{Cell as CellForm, Apply as ApplyForm}
use Rattle.uc_flat.specs.declared.expression.Expression.TheViews.{roll-Expression, out-Expression, the_lemmas as expression_lemmas}
use Rattle.uc_flat.specs.declared.expression.Expression.TheVariants.{Cell, Apply, rolls-Cell, rolls-Apply}
use Rattle.uc_flat.specs.declared.statement.Statement.{Statement}
use Rattle.uc_flat.specs.declared.statement.Statement.TheOpen.{Statement-F}
use Rattle.uc_flat.specs.declared.statement.Statement.TheOpen.Statement-F.{Assign as AssignForm, Havoc as HavocForm, Assume as AssumeForm, Assert as AssertForm, If as IfForm}
use Rattle.uc_flat.specs.declared.statement.Statement.TheViews.{roll-Statement, out-Statement, the_lemmas as statement_lemmas}
use Rattle.uc_flat.specs.declared.statement.Statement.TheVariants.{Assign, Assume, Assert, If, rolls-Assign, rolls-Assume, rolls-Assert, rolls-If}
use Rattle.uc_flat.specs.declared.flat.Flat.{Flat}
use Rattle.uc_flat.specs.declared.flat.Formula.{Formula}
use Rattle.uc_flat.specs.Fine.{IsWithin, itself, deeper, IsInside, ReadsTyped}
use Rattle.uc_flat.proofs.Making.{inside_assign}
use Rattle.uc_symstep.specs.Known.{CodeReadsTyped, ReadsOwnTypes}
use Rattle.uc_flat.specs.Traces.{constant_types}
use Rattle.uc_flat_lines_rows.specs.Toggles.{low, enabled, turned, is_low, gives, stays_low, toggle}
use Rattle.uc_flat_lines_rows.proofs.Sound.{none, one, two}

abbrev own : List Ty
own = Bool ∷ []

out_expression : (y : Expression-F Expression) → out-Expression (roll-Expression y) ≡ y
out_expression y = search (rules, expression_lemmas)

out_cell : (k : ℕ) → out-Expression (Cell k) ≡ CellForm k
out_cell k = ap out-Expression (sym (rolls-Cell k)) ∙ out_expression (CellForm k)

out_apply : (op : Op) (parts : List Expression) → out-Expression (Apply op parts) ≡ ApplyForm op parts
out_apply op parts = ap out-Expression (sym (rolls-Apply op parts)) ∙ out_expression (ApplyForm op parts)

cell_not_apply : (k : ℕ) (op : Op) (parts : List Expression) → Cell k ≡ Apply op parts → ⊥
cell_not_apply k op parts h = let e : CellForm k ≡ ApplyForm op parts = sym (out_cell k) ∙ ap out-Expression h ∙ out_apply op parts in cc

apply_is : (op o : Op) (parts ps : List Expression) → Apply op parts ≡ Apply o ps → (op ≡ o) × (parts ≡ ps)
apply_is op o parts ps h =
    let e : ApplyForm op parts ≡ ApplyForm o ps = sym (out_apply op parts) ∙ ap out-Expression h ∙ out_apply o ps in
    ((let f : op ≡ o = cc in f), (let g : parts ≡ ps = cc in g))

-- what stands inside a cell, and inside an operation
within_cell : (k : ℕ) (x : Expression) → IsWithin (Cell k) x → x ≡ Cell k
within_cell k x itself = refl
within_cell k x (deeper op parts y d c) = absurd (cell_not_apply k op parts (sym (within_cell k (Apply op parts) d)))

record InPart (parts : List Expression) (x : Expression) : Type 0 where
  part : Expression
  listed : Contains parts part
  within : IsWithin part x

within_apply : (op : Op) (parts : List Expression) (x : Expression) → IsWithin (Apply op parts) x → (x ≡ Apply op parts) ⊎ InPart parts x
within_apply op parts x itself = inl refl
within_apply op parts x (deeper o ps y d c) =
    elim (within_apply op parts (Apply o ps) d) [
      | inl e ↦ inr (record { part = x; listed = subst (λ qs. Contains qs x) (apply_is o op ps parts e).1 c; within = itself })
      | inr r ↦ inr (record { part = r.part; listed = r.listed; within = deeper o ps x r.within c })
    ]

reads_cell : (k : ℕ) → ReadsTyped own (Cell k)
reads_cell k number ty parts d = absurd (cell_not_apply k (Symbol number ty) parts (sym (within_cell k (Apply (Symbol number ty) parts) d)))

reads_apply : (op : Op) (parts : List Expression) → ((number : ℕ) (ty : Ty) → op ≡ Symbol number ty → slice_get own number ≡ Some ty) → All (ReadsTyped own) parts → ReadsTyped own (Apply op parts)
reads_apply op parts f h number ty ps d =
    elim (within_apply op parts (Apply (Symbol number ty) ps) d) [
      | inl e ↦ f number ty (sym (apply_is (Symbol number ty) op ps parts e).0)
      | inr r ↦ All-contains (ReadsTyped own) parts r.part h r.listed number ty ps r.within
    ]

low_reads : ReadsTyped own low
low_reads = reads_apply (Const Bool (Truth false)) [] (λ k ty i. cc) (none (ReadsTyped own))

symbol_is : (number : ℕ) (ty : Ty) → Symbol 0 Bool ≡ Symbol number ty → slice_get own number ≡ Some ty
symbol_is number ty i = let n : 0 ≡ number = cc in let t : Bool ≡ ty = cc in subst (λ k. slice_get own k ≡ Some ty) n (ap Some t)

turned_reads : ReadsTyped own turned
turned_reads =
    reads_apply Not (Apply Eq (Cell 0 ∷ enabled ∷ []) ∷ []) (λ k ty i. cc)
    (one (ReadsTyped own) (Apply Eq (Cell 0 ∷ enabled ∷ []))
    (reads_apply Eq (Cell 0 ∷ enabled ∷ []) (λ k ty i. cc) (two (ReadsTyped own) (Cell 0) enabled (reads_cell 0) (reads_apply (Symbol 0 Bool) [] symbol_is (none (ReadsTyped own))))))

is_low_reads : ReadsTyped own is_low
is_low_reads = reads_apply Not (Cell 0 ∷ []) (λ k ty i. cc) (one (ReadsTyped own) (Cell 0) (reads_cell 0))

-- one assignment
out_statement : (y : Statement-F Statement) → out-Statement (roll-Statement y) ≡ y
out_statement y = search (rules, statement_lemmas)

abbrev AloneTyped : Statement-F Statement → Type 0
AloneTyped (AssignForm k e) = ReadsTyped own e
AloneTyped (HavocForm k listed) = Unit {0}
AloneTyped (AssumeForm e) = ReadsTyped own e
AloneTyped (AssertForm site e) = ReadsTyped own e
AloneTyped (IfForm e xs ys) = ReadsTyped own e

gives_alone : (k : ℕ) (e : Expression) → ReadsTyped own e → (x : Statement) → IsInside (gives k e) x → AloneTyped (out-Statement x)
gives_alone k e h x d =
    subst (λ y. AloneTyped (out-Statement y)) (sym (inside_assign k e x d)) (subst AloneTyped (sym (ap out-Statement (sym (rolls-Assign k e)) ∙ out_statement (AssignForm k e))) h)

gives_reads : (k : ℕ) (e : Expression) → ReadsTyped own e → CodeReadsTyped own (gives k e)
gives_reads k e h = record {
  assigns = λ j x d. subst AloneTyped (ap out-Statement (sym (rolls-Assign j x)) ∙ out_statement (AssignForm j x)) (gives_alone k e h (Assign j x) d);
  assumes = λ x d. subst AloneTyped (ap out-Statement (sym (rolls-Assume x)) ∙ out_statement (AssumeForm x)) (gives_alone k e h (Assume x) d);
  asserts = λ s x d. subst AloneTyped (ap out-Statement (sym (rolls-Assert s x)) ∙ out_statement (AssertForm s x)) (gives_alone k e h (Assert s x) d);
  decides = λ x xs ys d. subst AloneTyped (ap out-Statement (sym (rolls-If x xs ys)) ∙ out_statement (IfForm x xs ys)) (gives_alone k e h (If x xs ys) d);
}

toggle_own : ReadsOwnTypes toggle
toggle_own = record {
  further = one (ReadsTyped own) low low_reads;
  init = gives_reads 0 (Cell 1) (reads_cell 1);
  step = gives_reads 1 turned turned_reads;
  formulas = one (λ (x : Formula). ReadsTyped own x.condition) stays_low is_low_reads;
}

pub own_as : (f : Flat) → f ≡ toggle → ReadsOwnTypes f
own_as f i = subst ReadsOwnTypes (sym i) toggle_own

pub valid_as : (f : Flat) → f ≡ toggle → AllValid (constant_types f)
valid_as f i = subst (λ (g : Flat). AllValid (constant_types g)) (sym i) (one Valid Bool valid-Bool)
