-- A term without functions has the same value under models that give its symbols the same values, so that a goal that no fitting model makes true is true under no model.
use Rattle.std.specs.Prelude.{◌≡◌, ℕ, ◌+◌, ◌<◌, ◌≤◌, true, List, length, slice_get, Option, Some, Contains, zero, suc, Result, Ok, Err, IfOk, IfErr}
use Rattle.std.specs.Option.{option_map}
use Rattle.std.proofs.Common.{refl, sym, ap, ◌∙◌, subst, arith}
use Rattle.std.proofs.lemmas.List.Elements.{All-contains, All-contains_itself}
use Rattle.uc_values.specs.declared.ty.Ty.{Ty}
use Rattle.uc_values.specs.declared.value.Value.{Value}
use Rattle.uc_values.specs.Values.{truth_of}
use Rattle.uc_ops.specs.declared.model.Model.{Model}
use Rattle.uc_ops.specs.declared.op.Op.{Op}
use Rattle.uc_ops.specs.declared.op.Op.TheVariants.{Symbol, Const, Not, And, Or, Eq, Ite, Add, Scale, Le, BvAdd, BvSub, BvMul, BvNeg, BvAnd, BvOr, BvXor, BvNot, Concat, Extract, ZeroExt, SignExt, Shl, Lshr, Ashr, Slt, Sle, Ult, Ule, App, Select, Store, Diff, MkRec, GetField}
use Rattle.uc_ops.specs.declared.node.Node.{Node}
use Rattle.uc_ops.specs.Typing.{types_at}
use Rattle.uc_ops.specs.Meaning.{apply}
use Rattle.uc_ops.proofs.Lists.{at_place, same_map}
use Rattle.uc_terms.specs.Tables.{WellTyped, NoTwoEqual, parts_at, parts_in}
use Rattle.uc_terms.specs.Values.{value, values_at}
use Rattle.uc_terms.specs.Subterms.{IsSubterm, itself, deeper, EvenlyTyped}
use Rattle.uc_terms.specs.Laws.{IsModelOf, KeepsValues}
use Rattle.uc_terms.proofs.Values.{value-node}
use Rattle.uc_lower.specs.Made.{Grows}
use Rattle.uc_lower.specs.Lowering.{IsSymbol, IsFiniteTerm}
use Rattle.uc_lower.proofs.Growing.{kept_value, was_subterm, had_op, parts_before}
use Rattle.uc_solver.specs.Symbols.{AppliesNone}
use Rattle.uc_solver.proofs.Setting.{subterm_there}
use Rattle.uc_solver.proofs.Fitted.{fitted}
use Rattle.uc_symstep.specs.Stands.{holds}
use Rattle.uc_simplify.specs.Simplified.{Grows as GoesOn}
use Rattle.uc_log.specs.Problems.{Question}
use Rattle.uc_solver.specs.declared.answer.Answer.{Answer}
use Rattle.uc_solver.specs.declared.answer.Answer.TheVariants.{Model as Found, Refuted}
use Rattle.uc_solver.specs.declared.answer.SolveError.{SolveError}
use Rattle.uc_solver.specs.declared.answer.SolveError.TheVariants.{NoMemory, Budget}
use Rattle.uc_solver.specs.Answers.{IsRight, IsCause}
use Rattle.uc_flat_lines.specs.Deciding.{IsSolution, IsSpentFor, solution_of, IsOpenedIn}

data IsKind (op : Op) : Type 0 where
  symbol : (number : ℕ) (ty : Ty) → op ≡ Symbol number ty → IsKind op
  function : (number : ℕ) (ty : Ty) → op ≡ App number ty → IsKind op
  plain : ((number : ℕ) (ty : Ty) → op ≡ Symbol number ty → ⊥) → ((number : ℕ) (ty : Ty) → op ≡ App number ty → ⊥) → IsKind op

kind_of : (op : Op) → IsKind op
kind_of (Symbol number ty) = symbol number ty refl
kind_of (App number ty) = function number ty refl
kind_of other = plain (λ number ty e. cc) (λ number ty e. cc)

apply_alike : (m n : Model) (op : Op) (types : List Ty) (values : List Value) → ((number : ℕ) (ty : Ty) → op ≡ Symbol number ty → ⊥) → ((number : ℕ) (ty : Ty) → op ≡ App number ty → ⊥)
    → apply m op types values ≡ apply n op types values
apply_alike m n (Symbol k ty) types values h g = absurd (h k ty refl)
apply_alike m n (App k ty) types values h g = absurd (g k ty refl)
apply_alike m n (Const ty v) types values h g = refl
apply_alike m n Not types values h g = refl
apply_alike m n And types values h g = refl
apply_alike m n Or types values h g = refl
apply_alike m n Eq types values h g = refl
apply_alike m n Ite types values h g = refl
apply_alike m n Add types values h g = refl
apply_alike m n (Scale f) types values h g = refl
apply_alike m n Le types values h g = refl
apply_alike m n BvAdd types values h g = refl
apply_alike m n BvSub types values h g = refl
apply_alike m n BvMul types values h g = refl
apply_alike m n BvNeg types values h g = refl
apply_alike m n BvAnd types values h g = refl
apply_alike m n BvOr types values h g = refl
apply_alike m n BvXor types values h g = refl
apply_alike m n BvNot types values h g = refl
apply_alike m n Concat types values h g = refl
apply_alike m n (Extract high low) types values h g = refl
apply_alike m n (ZeroExt x) types values h g = refl
apply_alike m n (SignExt x) types values h g = refl
apply_alike m n Shl types values h g = refl
apply_alike m n Lshr types values h g = refl
apply_alike m n Ashr types values h g = refl
apply_alike m n Slt types values h g = refl
apply_alike m n Sle types values h g = refl
apply_alike m n Ult types values h g = refl
apply_alike m n Ule types values h g = refl
apply_alike m n Select types values h g = refl
apply_alike m n Store types values h g = refl
apply_alike m n Diff types values h g = refl
apply_alike m n (MkRec t) types values h g = refl
apply_alike m n (GetField p) types values h g = refl

parts_is : (nodes : List Node) (t : ℕ) (node : Node) → slice_get nodes t ≡ Some node → parts_at nodes t ≡ node.parts
unfolding parts_at
parts_is nodes t node at = ap parts_in at

module _ (m n : Model) (nodes : List Node) (goal : ℕ) (w : WellTyped nodes) (there : goal < length nodes) (none : AppliesNone nodes goal) (same : (k : ℕ) → IsSubterm nodes goal k → IsSymbol nodes k → value n nodes k ≡ value m nodes k) where
  alike_within : (bound t : ℕ) → t < bound → IsSubterm nodes goal t → value n nodes t ≡ value m nodes t
  alike_within zero t l s = absurd (omega (arith, l))
  alike_within (suc bound) t l s =
      let inside = subterm_there nodes goal t w there s in
      let node = at_place nodes t inside in
      let listed : parts_at nodes t ≡ node.0.parts = parts_is nodes t node.0 node.1 in
      let each : (p : ℕ) → Contains node.0.parts p → value n nodes p ≡ value m nodes p = λ p c.
      let d = subst (λ ps. Contains ps p) (sym listed) c in
      let before : p < t = All-contains (λ q. q < t) (parts_at nodes t) p (parts_before nodes t w inside) d in
      alike_within bound p (omega (arith, l, before)) (deeper t p s d) in
      let parts : values_at n nodes node.0.parts ≡ values_at m nodes node.0.parts = same_map (value n nodes) (value m nodes) (Contains node.0.parts) node.0.parts each (All-contains_itself node.0.parts) in
      elim (kind_of node.0.op) [
        | symbol number ty e ↦ same t s (record { number = number; ty = ty; has = ap (option_map (λ (x : Node). x.op)) node.1 ∙ ap Some e })
        | function number ty e ↦ absurd (none t number ty s (ap (option_map (λ (x : Node). x.op)) node.1 ∙ ap Some e))
        | plain a b ↦
            value-node n nodes t node.0 w node.1
            ∙ apply_alike n m node.0.op (types_at nodes node.0.parts) (values_at n nodes node.0.parts) a b
            ∙ ap (apply m node.0.op (types_at nodes node.0.parts)) parts
            ∙ sym (value-node m nodes t node.0 w node.1)
      ]

  alike : value n nodes goal ≡ value m nodes goal
  alike = alike_within (goal + 1) goal (omega arith) itself

pub no_model : (old new : List Node) (goal : ℕ) → WellTyped old → NoTwoEqual old → WellTyped new → goal < length old → EvenlyTyped old goal → IsFiniteTerm old goal → GoesOn old new
    → ((m : Model) → IsModelOf m new goal → ⊥) → (m : Model) → holds m old goal ≡ true → ⊥
no_model old new goal w two w' there even finite on never m h =
    let g : Grows old new = record { more = on.more; is = on.is; well = w' } in
    let f = fitted m old goal (record { well = w; two = two; there = there; even = even; none = finite.no_function }) in
    let v = alike m f.model old goal w there finite.no_function f.same in
    never f.model (record {
      fits = record {
        symbols = λ k number ty s has.
            let a = was_subterm old new goal w g there k s in
            f.fits.symbols k number ty a.below (had_op old new k (Symbol number ty) g a.there has);
        functions = λ k number ty s has.
            let a = was_subterm old new goal w g there k s in
            absurd (finite.no_function k number ty a.below (had_op old new k (App number ty) g a.there has));
      };
      holds = ap truth_of (kept_value f.model old new goal g there ∙ v) ∙ h;
    })

-- from what the solver answers
pub solution_is : (old new : List Node) (goal : ℕ) (opened : Option Question) (r : Result Answer SolveError) → WellTyped old → NoTwoEqual old → WellTyped new → goal < length old → EvenlyTyped old goal
    → IsFiniteTerm old goal → GoesOn old new → KeepsValues old new → IfOk r (IsRight new goal opened) → IfOk (solution_of r) (IsSolution old goal)
solution_is old new goal opened (Ok (Found m)) w two w' there even finite on keeps h = ap truth_of (sym (keeps m goal there)) ∙ h.holds
solution_is old new goal opened (Ok (Refuted log)) w two w' there even finite on keeps h = no_model old new goal w two w' there even finite on h.no_model
solution_is old new goal opened (Err Budget) w two w' there even finite on keeps h = tt
solution_is old new goal opened (Err NoMemory) w two w' there even finite on keeps h = tt

pub spent_is : (nodes : List Node) (goal : ℕ) (opened : Option Question) (here budget before after : ℕ) (r : Result Answer SolveError) → before ≤ after → IfErr r (IsCause nodes goal opened here budget before after)
    → IfErr (solution_of r) (IsSpentFor budget before after)
spent_is nodes goal opened here budget before after (Ok (Found m)) l h = tt
spent_is nodes goal opened here budget before after (Ok (Refuted log)) l h = tt
spent_is nodes goal opened here budget before after (Err Budget) l h = h.rose
spent_is nodes goal opened here budget before after (Err NoMemory) l h = l

pub opened_is : (nodes : List Node) (goal : ℕ) (opened : Option Question) (here budget before after : ℕ) (r : Result Answer SolveError) → IfErr r (IsCause nodes goal opened here budget before after)
    → IfErr (solution_of r) (IsOpenedIn nodes goal opened here budget)
opened_is nodes goal opened here budget before after (Ok (Found m)) h = tt
opened_is nodes goal opened here budget before after (Ok (Refuted log)) h = tt
opened_is nodes goal opened here budget before after (Err Budget) h = (h.stands, h.all)
opened_is nodes goal opened here budget before after (Err NoMemory) h = tt
