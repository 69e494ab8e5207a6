-- What is read inside an operation: where it reads constants of a kind, and its parts do, all of it does.
use Rattle.std.proofs.Common.{◌≡◌, ℕ, List, rules, refl, sym, ap, ◌∙◌, subst, ◌⊎◌, inl, inr}
use Rattle.std.specs.Prelude.{All, Contains}
use Rattle.std.proofs.lemmas.List.Elements.{All-contains}
use Rattle.uc_values.specs.declared.ty.Ty.{Ty}
use Rattle.uc_ops.specs.declared.op.Op.{Op}
use Rattle.uc_ops.specs.declared.op.Op.TheVariants.{Symbol}
use Rattle.uc_flat.specs.declared.expression.Expression.{Expression}
use Rattle.uc_flat.specs.declared.expression.Expression.TheOpen.{Expression-F}
use Rattle.uc_flat.specs.declared.expression.Expression.TheOpen.Expression-F.{Cell as CellForm, Apply as ApplyForm}
use Rattle.uc_flat.specs.declared.expression.Expression.TheViews.{roll-Expression, out-Expression, the_lemmas as expression_lemmas}
use Rattle.uc_flat.specs.declared.expression.Expression.TheVariants.{Cell, Apply, rolls-Cell, rolls-Apply}
use Rattle.uc_flat.specs.Fine.{IsWithin, itself, deeper}

out_expression : (y : Expression-F Expression) → out-Expression (roll-Expression y) ≡ y
out_expression y = search (rules, expression_lemmas)

out_cell : (k : ℕ) → out-Expression (Cell k) ≡ CellForm k
out_cell k = ap out-Expression (sym (rolls-Cell k)) ∙ out_expression (CellForm k)

out_apply : (op : Op) (parts : List Expression) → out-Expression (Apply op parts) ≡ ApplyForm op parts
out_apply op parts = ap out-Expression (sym (rolls-Apply op parts)) ∙ out_expression (ApplyForm op parts)

cell_not_apply : (k : ℕ) (op : Op) (parts : List Expression) → Cell k ≡ Apply op parts → ⊥
cell_not_apply k op parts h = let e : CellForm k ≡ ApplyForm op parts = sym (out_cell k) ∙ ap out-Expression h ∙ out_apply op parts in cc

apply_is : (op o : Op) (parts ps : List Expression) → Apply op parts ≡ Apply o ps → (op ≡ o) × (parts ≡ ps)
apply_is op o parts ps h =
    let e : ApplyForm op parts ≡ ApplyForm o ps = sym (out_apply op parts) ∙ ap out-Expression h ∙ out_apply o ps in
    ((let f : op ≡ o = cc in f), (let g : parts ≡ ps = cc in g))

record InPart (parts : List Expression) (x : Expression) : Type 0 where
  pub part : Expression
  pub listed : Contains parts part
  pub within : IsWithin part x

within_apply : (op : Op) (parts : List Expression) (x : Expression) → IsWithin (Apply op parts) x → (x ≡ Apply op parts) ⊎ InPart parts x
within_apply op parts x itself = inl refl
within_apply op parts x (deeper o ps y d c) =
    elim (within_apply op parts (Apply o ps) d) [
      | inl e ↦ inr (record { part = x; listed = subst (λ qs. Contains qs x) (apply_is o op ps parts e).1 c; within = itself })
      | inr r ↦ inr (record { part = r.part; listed = r.listed; within = deeper o ps x r.within c })
    ]

within_cell : (k : ℕ) (x : Expression) → IsWithin (Cell k) x → x ≡ Cell k
within_cell k x itself = refl
within_cell k x (deeper op parts y d c) = absurd (cell_not_apply k op parts (sym (within_cell k (Apply op parts) d)))

module _ (A : ℕ → Ty → Type 0) where
  -- each constant that is read is of the kind
  abbrev pub ReadsOnly : Expression → Type 0
  ReadsOnly e = (number : ℕ) (ty : Ty) (parts : List Expression) → IsWithin e (Apply (Symbol number ty) parts) → A number ty

  pub cell_reads : (k : ℕ) → ReadsOnly (Cell k)
  cell_reads k number ty ps d = absurd (cell_not_apply k (Symbol number ty) ps (sym (within_cell k (Apply (Symbol number ty) ps) d)))

  pub apply_reads : (op : Op) (parts : List Expression) → ((number : ℕ) (ty : Ty) → op ≡ Symbol number ty → A number ty) → All ReadsOnly parts → ReadsOnly (Apply op parts)
  apply_reads op parts f h number ty ps d =
      elim (within_apply op parts (Apply (Symbol number ty) ps) d) [
        | inl e ↦ f number ty (sym (apply_is (Symbol number ty) op ps parts e).0)
        | inr r ↦ All-contains ReadsOnly parts r.part h r.listed number ty ps r.within
      ]
