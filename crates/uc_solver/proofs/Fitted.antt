-- For each model one that fits a term and gives its symbols the same values.
use Rattle.std.specs.Prelude.{◌≡◌, ◌≢◌, ℕ, ◌+◌, ◌<◌, ◌≤◌, IsTrue, List, [], ◌∷◌, ◌++◌, length, get_or, slice_get, Some, All, Contains, zero, suc}
use Rattle.std.specs.Option.{option_map}
use Rattle.std.proofs.Common.{refl, sym, ap, ◌∙◌, subst, arith, inl, inr, ◌⊎◌}
use Rattle.std.proofs.lemmas.Bool.Decides.{eqb_tells, leb_tells}
use Rattle.std.proofs.lemmas.List.Elements.{All-contains, Contains-append_left, Contains-append_right, Contains-append_cases}
use Rattle.uc_values.specs.Values.{fits}
use Rattle.uc_values.specs.declared.ty.Ty.{Ty}
use Rattle.uc_values.specs.declared.value.Value.{Value}
use Rattle.uc_ops.specs.declared.model.Model.{Model}
use Rattle.uc_ops.specs.declared.op.Op.{Op}
use Rattle.uc_ops.specs.declared.op.Op.TheVariants.{Symbol}
use Rattle.uc_ops.specs.declared.node.Node.{Node}
use Rattle.uc_ops.specs.Typing.{type_at}
use Rattle.uc_ops.proofs.Lists.{at_place}
use Rattle.uc_terms.specs.Tables.{HasOp, WellTyped, NoTwoEqual, parts_at}
use Rattle.uc_terms.specs.Values.{value}
use Rattle.uc_terms.specs.Subterms.{IsSubterm, itself, deeper, EvenlyTyped, FitsTerm}
use Rattle.uc_terms.proofs.Fitting.{value-fits}
use Rattle.uc_lower.specs.Lowering.{IsSymbol}
use Rattle.uc_lower.proofs.Growing.{one_op, split_subterm, parts_before}
use Rattle.uc_lower.proofs.Models.{put, put_here, put_other}
use Rattle.uc_lower.proofs.Inner.{node_facts}
use Rattle.uc_lower.proofs.Symboling.{symbol_value}
use Rattle.uc_solver.specs.Symbols.{AppliesNone}
use Rattle.uc_solver.proofs.Giving.{symbols_apart}
use Rattle.uc_solver.proofs.Setting.{subterm_there}

item_at : (u x i : ℕ) → i < 1 → get_or (u ∷ []) i x ≡ x → x ≡ u
item_at u x zero l e = sym e
item_at u x (suc i) l e = absurd (omega (arith, l))

-- a subterm of a part is one of the term
pub below_part : (nodes : List Node) (t p k : ℕ) → Contains (parts_at nodes t) p → IsSubterm nodes p k → IsSubterm nodes t k
below_part nodes t p k c itself = deeper t p itself c
below_part nodes t p k c (deeper j q s d) = deeper j q (below_part nodes t p j c s) d

record OnePart (nodes : List Node) (ps : List ℕ) (k : ℕ) : Type 0 where
  part : ℕ
  listed : Contains ps part
  below : IsSubterm nodes part k

abbrev NoPart : List Node → List ℕ → ℕ → Type 0
NoPart nodes ps k = (p : ℕ) → Contains ps p → IsSubterm nodes p k → ⊥

abbrev Decided : List Node → ℕ → ℕ → Type 0
Decided nodes t k = IsSubterm nodes t k ⊎ (IsSubterm nodes t k → ⊥)

one_part : (nodes : List Node) (ps : List ℕ) (k : ℕ) → ((p : ℕ) → Contains ps p → Decided nodes p k) → OnePart nodes ps k ⊎ NoPart nodes ps k
one_part nodes [] k d = inr (λ p c s. absurd (omega (arith, c.1)))
one_part nodes (q ∷ ps) k d =
    elim (d q (0, omega arith, refl)) [
      | inl s ↦ inl (record { part = q; listed = (0, omega arith, refl); below = s })
      | inr n ↦ elim (one_part nodes ps k (λ p c. d p (Contains-append_right (q ∷ []) ps p c))) [
        | inl x ↦ inl (record { part = x.part; listed = Contains-append_right (q ∷ []) ps x.part x.listed; below = x.below })
        | inr m ↦ inr (λ p c s. elim (Contains-append_cases (q ∷ []) ps p c) [
          | inl y ↦ n (subst (λ i. IsSubterm nodes i k) (item_at q p y.0 y.1 y.2) s)
          | inr y ↦ m p y s
        ])
      ]
    ]

-- whether a term is a subterm of another
decided : (nodes : List Node) → WellTyped nodes → (bound t k : ℕ) → t < bound → t < length nodes → Decided nodes t k
decided nodes w zero t k l h = absurd (omega (arith, l))
decided nodes w (suc bound) t k l h =
    let smaller : (p : ℕ) → Contains (parts_at nodes t) p → p < t = λ p c. All-contains (λ q. q < t) (parts_at nodes t) p (parts_before nodes t w h) c in
    elim (eqb_tells t k) [
      | inl x ↦ inl (subst (IsSubterm nodes t) x.1 itself)
      | inr x ↦ elim (one_part nodes (parts_at nodes t) k (λ p c. decided nodes w bound p k (omega (arith, smaller p c, l)) (omega (arith, smaller p c, h)))) [
        | inl y ↦ inl (below_part nodes t y.part k y.listed y.below)
        | inr n ↦ inr (λ s. elim (split_subterm nodes t k s) [
          | inl e ↦ x.1 (sym e)
          | inr y ↦ n y.part y.listed y.below
        ])
      ]
    ]

pub below_or_not : (nodes : List Node) (t k : ℕ) → WellTyped nodes → t < length nodes → Decided nodes t k
below_or_not nodes t k w h = decided nodes w (t + 1) t k (omega arith) h

symbol_or_not : (op : Op) → ((number : ℕ) × (ty : Ty) × (op ≡ Symbol number ty)) ⊎ ((number : ℕ) (ty : Ty) → op ≡ Symbol number ty → ⊥)
symbol_or_not (Symbol number ty) = inl (number, ty, refl)
symbol_or_not other = inr (λ number ty e. cc)

-- values for the symbols of the term before a place
record FittedTo (m : Model) (nodes : List Node) (t place : ℕ) : Type 0 where
  symbols : List Value
  at : (k number : ℕ) (ty : Ty) → k < place → IsSubterm nodes t k → HasOp nodes k (Symbol number ty) → slice_get symbols number ≡ Some (value m nodes k)

-- what is known of the table and the term
pub record Evenly (nodes : List Node) (t : ℕ) : Type 0 where
  pub well : WellTyped nodes
  pub two : NoTwoEqual nodes
  pub there : t < length nodes
  pub even : EvenlyTyped nodes t
  pub none : AppliesNone nodes t

fitted_to : (m : Model) (nodes : List Node) (t : ℕ) → Evenly nodes t → (place : ℕ) → place ≤ length nodes → FittedTo m nodes t place
fitted_to m nodes t e zero l = record { symbols = []; at = λ k number ty b. absurd (omega (arith, b)) }
fitted_to m nodes t e (suc p) l =
    let r = fitted_to m nodes t e p (omega (arith, l)) in
    let inside : p < length nodes = omega (arith, l) in
    let node = at_place nodes p inside in
    let op_of : (op : Op) → HasOp nodes p op → node.0.op ≡ op = λ op has. let f : Some node.0.op ≡ Some op = sym (ap (option_map (λ n. n.op)) node.1) ∙ has in cc in
    let last : (k : ℕ) → k < suc p → (k < p) ⊎ (k ≡ p) = λ k b. elim (leb_tells (suc k) p) [ inl x ↦ inl x.1 | inr x ↦ inr (omega (arith, b, x.1)) ] in
    elim (below_or_not nodes t p e.well e.there) [
      | inr n ↦ record {
        symbols = r.symbols;
        at = λ k number ty b s has. elim (last k b) [
          | inl x ↦ r.at k number ty x s has
          | inr x ↦ absurd (n (subst (IsSubterm nodes t) x s))
        ];
      }
      | inl below ↦ elim (symbol_or_not node.0.op) [
        | inr other ↦ record {
          symbols = r.symbols;
          at = λ k number ty b s has. elim (last k b) [
            | inl x ↦ r.at k number ty x s has
            | inr x ↦ absurd (other number ty (op_of (Symbol number ty) (subst (λ i. HasOp nodes i (Symbol number ty)) x has)))
          ];
        }
        | inl y ↦
            let own : HasOp nodes p (Symbol y.0 y.1) = ap (option_map (λ n. n.op)) node.1 ∙ ap Some y.2 in
            let v = value m nodes p in
            record {
              symbols = put r.symbols y.0 v;
              at = λ k number ty b s has. elim (last k b) [
                | inl x ↦
                    let differ : number ≢ y.0 = λ z. absurd (omega (arith, x, symbols_apart nodes t k p number y.0 ty y.1 e.well e.two e.even s below (omega (arith, x, inside)) inside has own z)) in
                    put_other r.symbols y.0 number v (value m nodes k) differ (r.at k number ty x s has)
                | inr x ↦
                    let z : Symbol number ty ≡ Symbol y.0 y.1 = one_op nodes p (Symbol number ty) (Symbol y.0 y.1) (subst (λ i. HasOp nodes i (Symbol number ty)) x has) own in
                    let en : number ≡ y.0 = cc in
                    subst (λ i. slice_get (put r.symbols y.0 v) i ≡ Some (value m nodes k)) (sym en) (put_here r.symbols y.0 v ∙ ap (λ i. Some (value m nodes i)) (sym x))
              ];
            }
      ]
    ]

-- a model that fits the term, with the same values of its symbols
pub record Fitted (m : Model) (nodes : List Node) (t : ℕ) : Type 0 where
  pub model : Model
  pub fits : FitsTerm model nodes t
  pub same : (k : ℕ) → IsSubterm nodes t k → IsSymbol nodes k → value model nodes k ≡ value m nodes k

pub fitted : (m : Model) (nodes : List Node) (t : ℕ) → Evenly nodes t → Fitted m nodes t
fitted m nodes t e =
    let r = fitted_to m nodes t e (length nodes) (omega arith) in
    let inside : (k : ℕ) → IsSubterm nodes t k → k < length nodes = λ k s. subterm_there nodes t k e.well e.there s in
    let fit : (k number : ℕ) (ty : Ty) → IsSubterm nodes t k → HasOp nodes k (Symbol number ty) → IsTrue (fits ty (value m nodes k)) = λ k number ty s has.
    subst (λ y. IsTrue (fits y (value m nodes k))) (node_facts nodes k (Symbol number ty) e.well (inside k s) has).typed (value-fits m nodes k e.well (inside k s)) in
    let model : Model = record { symbols = r.symbols; tables = [] } in
    record {
      model = model;
      fits = record {
        symbols = λ k number ty s has. (value m nodes k, r.at k number ty (inside k s) s has, fit k number ty s has);
        functions = λ k number ty s has. absurd (e.none k number ty s has);
      };
      same = λ k s y. symbol_value model nodes k y.number y.ty (value m nodes k) e.well (inside k s) y.has (r.at k y.number y.ty (inside k s) s y.has) (fit k y.number y.ty s y.has);
    }
