-- What the walk gives at its end: models of the term and of its goal go over into each other.
use Rattle.std.specs.Prelude.{◌≡◌, ◌≢◌, ℕ, ◌<◌, ◌≤◌, Bool as Flag, true, false, ◌&&◌, IsTrue, List, [], ◌∷◌, ◌++◌, map, length, get_or, slice_get, slice_index_or, Some, All, Contains, zero, suc}
use Rattle.std.specs.List.{AllZip, list_all}
use Rattle.std.specs.Option.{option_map}
use Rattle.std.proofs.Common.{refl, sym, ap, ◌∙◌, subst, arith, append-nil, inl, inr, ◌⊎◌}
use Rattle.std.proofs.lemmas.List.{map-append, get_or_default}
use Rattle.std.proofs.lemmas.Bool.{false≢true}
use Rattle.std.proofs.lemmas.Bool.Decides.{leb_tells}
use Rattle.std.proofs.lemmas.List.Elements.{All-append, All-cons, All-nil, All-head, All-tail, All-weaker, All-contains}
use Rattle.std.proofs.lemmas.List.Folds.{list_all-append}
use Rattle.std.specs.Prelude.{nat_eq}
use Rattle.std.proofs.Math.Bool.{and-true}
use Rattle.uc_values.specs.Values.{fits, truth_of}
use Rattle.uc_values.proofs.Shapes.{and_true}
use Rattle.uc_values.proofs.Fitting.{Fit}
use Rattle.uc_values.specs.declared.ty.Ty.{Ty}
use Rattle.uc_values.specs.declared.ty.Ty.TheVariants.{Bool}
use Rattle.uc_values.specs.declared.value.Value.{Value}
use Rattle.uc_values.specs.declared.value.Value.TheVariants.{Bool as Truth}
use Rattle.uc_ops.specs.declared.model.Model.{Model}
use Rattle.uc_ops.specs.declared.op.Op.{Op}
use Rattle.uc_ops.specs.declared.op.Op.TheVariants.{Symbol}
use Rattle.uc_ops.specs.declared.node.Node.{Node}
use Rattle.uc_ops.specs.Typing.{type_at, types_at}
use Rattle.uc_ops.proofs.Lists.{at_place}
use Rattle.uc_terms.specs.Tables.{HasOp, WellTyped, NoTwoEqual, parts_at}
use Rattle.uc_terms.specs.Values.{value, values_at}
use Rattle.uc_terms.specs.Subterms.{IsSubterm, itself, EvenlyTyped, Marked, AreSubterms, FitsTerm}
use Rattle.uc_terms.specs.Laws.{IsModelOf}
use Rattle.uc_terms.proofs.Grown.{parts-node}
use Rattle.uc_terms.proofs.Walk.{marked_within}
use Rattle.uc_terms.proofs.Fitting.{value-fits, all_fit}
use Rattle.uc_lower.specs.Fields.{leaves, low_type, low_types, coded, all_coded}
use Rattle.uc_lower.specs.Ranges.{InRange, IsCode}
use Rattle.uc_lower.specs.Made.{Grows, Within, IsLowered, HasBits}
use Rattle.uc_lower.specs.Steps.{lows, IsConjunction}
use Rattle.uc_lower.specs.Symbols.{Hold}
use Rattle.uc_lower.specs.Lowering.{Pair, seconds, IsSymbol, IsFiniteTerm, Agree, Partner, CorrespondBy, IsPairOf, IsMapOf, IsLoweredTerm}
use Rattle.uc_lower.specs.Walk.{IsGoal}
use Rattle.uc_lower.proofs.Leaves.{one_finite, low-Bool, coded-Bool}
use Rattle.uc_lower.proofs.Codes.{are_codes, decoded}
use Rattle.uc_lower.proofs.Growing.{grows_not, longer, kept_type, kept_types, kept_values, kept_op, had_op, one_op, boolean_value}
use Rattle.uc_lower.proofs.Building.{no_types, no_items, All-front}
use Rattle.uc_lower.proofs.Inner.{node_facts}
use Rattle.uc_lower.proofs.Marking.{below_of, marked_of}
use Rattle.uc_lower.proofs.Models.{put, put_here, put_other}
use Rattle.uc_lower.specs.Bits.{IsSymbolBelow, HasNoMoreBits}
use Rattle.uc_lower.proofs.Bits.{bits_kept, fewer_bits}
use Rattle.uc_lower.proofs.Walking.{IsPlace, AgreeTo, Found, IsPair, AreBounded, Walked, symbol_on, symbol_back, seconds_within, coded_kept}
use Rattle.uc_lower.proofs.Symboling.{symbol_value}
use Rattle.uc_lower.proofs.Chosen.{condition_length, one_condition}

-- two symbols of the term have two numbers
leaf_parts : (nodes : List Node) (j number : ℕ) (ty : Ty) → WellTyped nodes → j < length nodes → HasOp nodes j (Symbol number ty) → parts_at nodes j ≡ []
leaf_parts nodes j number ty w l h = no_types nodes (parts_at nodes j) (node_facts nodes j (Symbol number ty) w l h).suits.0

node_op : (nodes : List Node) (j : ℕ) (node : Node) (op : Op) → slice_get nodes j ≡ Some node → HasOp nodes j op → node.op ≡ op
node_op nodes j node op e h = let f : Some node.op ≡ Some op = sym (ap (option_map (λ n. n.op)) e) ∙ h in cc

symbols_apart : (nodes : List Node) (t j k a b : ℕ) (r s : Ty) → WellTyped nodes → NoTwoEqual nodes → EvenlyTyped nodes t → IsSubterm nodes t j → IsSubterm nodes t k → j < length nodes → k < length nodes
    → HasOp nodes j (Symbol a r) → HasOp nodes k (Symbol b s) → a ≡ b → j ≡ k
symbols_apart nodes t j k a b r s w two even sj sk lj lk hj hk e =
    let hk2 : HasOp nodes k (Symbol a s) = subst (λ i. HasOp nodes k (Symbol i s)) (sym e) hk in
    let same : r ≡ s = even.symbols j k a r s sj sk hj hk2 in
    let m = at_place nodes j lj in
    let n = at_place nodes k lk in
    let ops : m.0.op ≡ n.0.op = node_op nodes j m.0 (Symbol a r) m.1 hj ∙ ap (Symbol a) same ∙ sym (node_op nodes k n.0 (Symbol a s) n.1 hk2) in
    let parts : m.0.parts ≡ n.0.parts = sym (parts-node nodes j m.0 m.1) ∙ leaf_parts nodes j a r w lj hj ∙ sym (leaf_parts nodes k b s w lk hk) ∙ parts-node nodes k n.0 n.1 in
    two j k m.0 n.0 m.1 n.1 ops parts

-- values of the fields that stand for a value
code_zip : (tys : List Ty) (ws : List Value) → Fit (map low_type tys) ws → AllZip InRange tys ws → AllZip IsCode tys ws
code_zip [] [] f r = tt
code_zip [] (w ∷ ws) f r = absurd f
code_zip (ty ∷ tys) [] f r = absurd f
code_zip (ty ∷ tys) (w ∷ ws) f r = (record { fits = f.0; range = r.0 }, code_zip tys ws f.1 r.1)

range_zip : (tys : List Ty) (ws : List Value) → AllZip IsCode tys ws → AllZip InRange tys ws
range_zip [] [] h = tt
range_zip [] (w ∷ ws) h = absurd h
range_zip (ty ∷ tys) [] h = absurd h
range_zip (ty ∷ tys) (w ∷ ws) h = (h.0.range, range_zip tys ws h.1)

coded_ranges : (ty : Ty) (v : Value) → HasBits ty → IsTrue (fits ty v) → AllZip InRange (leaves ty) (coded ty v)
coded_ranges ty v b f =
    let c = are_codes (ty ∷ []) (v ∷ []) (one_finite ty b) (f, tt) in
    range_zip (leaves ty) (coded ty v) (subst (λ ls. AllZip IsCode ls (coded ty v)) (append-nil (leaves ty)) (subst (AllZip IsCode (leaves ty ++ [])) (append-nil (coded ty v)) c))

record OneDecoded (ty : Ty) (ws : List Value) : Type 0 where
  value : Value
  fit : IsTrue (fits ty value)
  codes : coded ty value ≡ ws

only_value : (ty : Ty) (ws vs : List Value) → Fit (ty ∷ []) vs → all_coded (ty ∷ []) vs ≡ ws → OneDecoded ty ws
only_value ty ws [] f e = absurd f
only_value ty ws (v ∷ []) f e = record { value = v; fit = f.0; codes = sym (append-nil (coded ty v)) ∙ e }
only_value ty ws (v ∷ w ∷ vs) f e = absurd f.1

one_decoded : (ty : Ty) (ws : List Value) → HasBits ty → Fit (low_types ty) ws → AllZip InRange (leaves ty) ws → OneDecoded ty ws
one_decoded ty ws b f r =
    let d = decoded (ty ∷ []) ws (one_finite ty b) (subst (λ ls. AllZip IsCode ls ws) (sym (append-nil (leaves ty))) (code_zip (leaves ty) ws f r)) in
    only_value ty ws d.values d.fit d.codes

-- the values of terms fit their types
all_values_fit : (n : Model) (nodes : List Node) (us : List ℕ) → WellTyped nodes → Within nodes us → Fit (types_at nodes us) (values_at n nodes us)
all_values_fit n nodes us w b = all_fit n nodes (length nodes) us (λ t l. value-fits n nodes t w l) b

symbol_or_not : (op : Op) → ((number : ℕ) × (ty : Ty) × (op ≡ Symbol number ty)) ⊎ ((number : ℕ) (ty : Ty) → op ≡ Symbol number ty → ⊥)
symbol_or_not (Symbol number ty) = inl (number, ty, refl)
symbol_or_not other = inr (λ number ty e. cc)

marked_or_not : (b : Flag) → (b ≡ true) ⊎ (b ≡ false)
marked_or_not true = inl refl
marked_or_not false = inr refl

-- a value for a symbol, from the values of what stands for it
record RebuiltAt (n : Model) (now : List Node) (us : List ℕ) (symbols : List Value) (number : ℕ) (ty : Ty) : Type 0 where
  value : Value
  is : slice_get symbols number ≡ Some value
  fit : IsTrue (fits ty value)
  codes : coded ty value ≡ values_at n now us

record Rebuilt (n : Model) (nodes now : List Node) (marks : List Flag) (lowered : List (List ℕ)) (place : ℕ) : Type 0 where
  symbols : List Value
  at : (j number : ℕ) (ty : Ty) → j < place → Marked marks j → HasOp nodes j (Symbol number ty) → RebuiltAt n now (lows lowered j) symbols number ty

-- what is known where the walk is over
pub record Ended (nodes : List Node) (t : ℕ) (marks : List Flag) (fresh : ℕ) (now : List Node) (lowered : List (List ℕ)) (pairs : List Pair) (conditions : List ℕ) (next : ℕ) : Type 0 where
  pub walked : Walked nodes t marks fresh now lowered pairs conditions next (length marks)
  pub well : WellTyped nodes
  pub two : NoTwoEqual nodes
  pub there : t < length nodes
  pub boolean : type_at nodes t ≡ Bool
  pub even : EvenlyTyped nodes t
  pub finite : IsFiniteTerm nodes t
  pub below : AreSubterms nodes (t ∷ []) marks

in_nodes : (nodes : List Node) (marks : List Flag) (roots : List ℕ) → AreSubterms nodes roots marks → (j : ℕ) → j < length marks → j < length nodes
in_nodes nodes marks roots a j l = omega (arith, l, a.within)

rebuilt : (nodes : List Node) (t : ℕ) (marks : List Flag) (fresh : ℕ) (now : List Node) (lowered : List (List ℕ)) (pairs : List Pair) (conditions : List ℕ) (next : ℕ) (n : Model) → Ended nodes t marks fresh now lowered pairs conditions next → Hold n now conditions
    → (place : ℕ) → place ≤ length marks → Rebuilt n nodes now marks lowered place
rebuilt nodes t marks fresh now lowered pairs conditions next n e h zero l = record { symbols = []; at = λ j number ty b. absurd (omega (arith, b)) }
rebuilt nodes t marks fresh now lowered pairs conditions next n e h (suc p) l =
    let r = rebuilt nodes t marks fresh now lowered pairs conditions next n e h p (omega (arith, l)) in
    let w = e.walked in
    let inside : p < length nodes = omega (arith, l, e.below.within) in
    let in_now : p < length now = omega (arith, inside, longer nodes now w.grown) in
    let node = at_place nodes p inside in
    let last : (j : ℕ) → j < suc p → (j < p) ⊎ (j ≡ p) = λ j b. elim (leb_tells (suc j) p) [ inl x ↦ inl x.1 | inr x ↦ inr (omega (arith, b, x.1)) ] in
    elim (marked_or_not (slice_index_or marks p false)) [
      | inr unmarked ↦ record {
        symbols = r.symbols;
        at = λ j number ty b mk has. elim (last j b) [
          | inl x ↦ r.at j number ty x mk has
          | inr x ↦ absurd (false≢true (sym unmarked ∙ subst (Marked marks) x mk))
        ];
      }
      | inl marked ↦ elim (symbol_or_not node.0.op) [
        | inr other ↦ record {
          symbols = r.symbols;
          at = λ j number ty b mk has. elim (last j b) [
            | inl x ↦ r.at j number ty x mk has
            | inr x ↦ absurd (other number ty (node_op nodes p node.0 (Symbol number ty) node.1 (subst (λ i. HasOp nodes i (Symbol number ty)) x has)))
          ];
        }
        | inl s ↦
            let own : HasOp nodes p (Symbol s.0 s.1) = ap (option_map (λ x. x.op)) node.1 ∙ ap Some s.2 in
            let below = below_of nodes t marks e.below p marked in
            let typed : type_at nodes p ≡ s.1 = (node_facts nodes p (Symbol s.0 s.1) e.well inside own).typed in
            let bits : HasBits s.1 = subst HasBits typed (e.finite.bits p below) in
            let us = lows lowered p in
            let low = w.low p (omega (arith, l)) marked in
            let new_type : type_at now p ≡ s.1 = kept_type nodes now p w.grown inside ∙ typed in
            let fit : Fit (low_types s.1) (values_at n now us) = subst (λ ts. Fit ts (values_at n now us)) (low.types ∙ ap low_types new_type) (all_values_fit n now us w.grown.well low.within) in
            let symbol : IsSymbol now p = record { number = s.0; ty = s.1; has = kept_op nodes now p (Symbol s.0 s.1) w.grown inside own } in
            let ranges : AllZip InRange (leaves s.1) (values_at n now us) = subst (λ ty. AllZip InRange (leaves ty) (values_at n now us)) new_type (w.bounded n h p (omega (arith, l)) marked symbol) in
            let d = one_decoded s.1 (values_at n now us) bits fit ranges in
            record {
              symbols = put r.symbols s.0 d.value;
              at = λ j number ty b mk has. elim (last j b) [
                | inl x ↦
                    let q = r.at j number ty x mk has in
                    let differ : number ≢ s.0 = λ z. absurd (omega (arith, x, symbols_apart nodes t j p number s.0 ty s.1 e.well e.two e.even (below_of nodes t marks e.below j mk) below (omega (arith, x, inside)) inside has own z)) in
                    record { value = q.value; is = put_other r.symbols s.0 number d.value q.value differ q.is; fit = q.fit; codes = q.codes }
                | inr x ↦
                    let has_p : HasOp nodes p (Symbol number ty) = subst (λ i. HasOp nodes i (Symbol number ty)) x has in
                    let z : Symbol number ty ≡ Symbol s.0 s.1 = one_op nodes p (Symbol number ty) (Symbol s.0 s.1) has_p own in
                    let en : number ≡ s.0 = cc in
                    let et : ty ≡ s.1 = cc in
                    record {
                      value = d.value;
                      is = subst (λ i. slice_get (put r.symbols s.0 d.value) i ≡ Some d.value) (sym en) (put_here r.symbols s.0 d.value);
                      fit = subst (λ y. IsTrue (fits y d.value)) (sym et) d.fit;
                      codes = ap (λ y. coded y d.value) et ∙ d.codes ∙ ap (λ i. values_at n now (lows lowered i)) (sym x);
                    }
              ];
            }
      ]
    ]

-- agreement by the map and agreement at every place of the walk are one
pub agree_to : (nodes : List Node) (t : ℕ) (marks : List Flag) (fresh : ℕ) (now new : List Node) (lowered : List (List ℕ)) (pairs : List Pair) (conditions : List ℕ) (next : ℕ) (m n : Model)
    → Ended nodes t marks fresh now lowered pairs conditions next → Grows now new → Agree m n nodes t new pairs → AgreeTo m n now marks lowered (length marks)
agree_to nodes t marks fresh now new lowered pairs conditions next m n e g a j l mk s =
    let w = e.walked in
    let inside = in_nodes nodes marks (t ∷ []) e.below j l in
    let b = below_of nodes t marks e.below j mk in
    let low = w.low j l mk in
    sym (kept_values n now new (lows lowered j) g low.within) ∙ ap (values_at n new) (sym (w.listed j l mk s)) ∙ a j b (symbol_back nodes now j w.grown inside s) ∙ sym (coded_kept m nodes now j w.grown inside)

pub agree_from : (nodes : List Node) (t : ℕ) (marks : List Flag) (fresh : ℕ) (now new : List Node) (lowered : List (List ℕ)) (pairs : List Pair) (conditions : List ℕ) (next : ℕ) (m n : Model)
    → Ended nodes t marks fresh now lowered pairs conditions next → Grows now new → AgreeTo m n now marks lowered (length marks) → Agree m n nodes t new pairs
agree_from nodes t marks fresh now new lowered pairs conditions next m n e g a k b s =
    let w = e.walked in
    let mk = marked_of nodes t marks e.below k b in
    let l = marked_within marks k mk in
    let inside = in_nodes nodes marks (t ∷ []) e.below k l in
    let s2 = symbol_on nodes now k w.grown inside s in
    let low = w.low k l mk in
    ap (values_at n new) (w.listed k l mk s2) ∙ kept_values n now new (lows lowered k) g low.within ∙ a k l mk s2 ∙ coded_kept m nodes now k w.grown inside

-- what stands for the term itself is one boolean term
pub record RootLow (now : List Node) (lowered : List (List ℕ)) (t g : ℕ) : Type 0 where
  pub is : lows lowered t ≡ g ∷ []
  pub there : g < length now
  pub boolean : type_at now g ≡ Bool

root_types : (nodes : List Node) (t : ℕ) (marks : List Flag) (fresh : ℕ) (now : List Node) (lowered : List (List ℕ)) (pairs : List Pair) (conditions : List ℕ) (next : ℕ) → Ended nodes t marks fresh now lowered pairs conditions next
    → types_at now (lows lowered t) ≡ Bool ∷ []
root_types nodes t marks fresh now lowered pairs conditions next e =
    let w = e.walked in
    let mk = marked_of nodes t marks e.below t itself in
    (w.low t (marked_within marks t mk) mk).types ∙ ap low_types (kept_type nodes now t w.grown e.there ∙ e.boolean) ∙ low-Bool

pub root_some : (nodes : List Node) (t : ℕ) (marks : List Flag) (fresh : ℕ) (now : List Node) (lowered : List (List ℕ)) (pairs : List Pair) (conditions : List ℕ) (next : ℕ) → Ended nodes t marks fresh now lowered pairs conditions next
    → length (lows lowered t) ≡ 1
root_some nodes t marks fresh now lowered pairs conditions next e = condition_length now (lows lowered t) (root_types nodes t marks fresh now lowered pairs conditions next e)

pub root_low : (nodes : List Node) (t : ℕ) (marks : List Flag) (fresh : ℕ) (now : List Node) (lowered : List (List ℕ)) (pairs : List Pair) (conditions : List ℕ) (next g : ℕ) → Ended nodes t marks fresh now lowered pairs conditions next
    → g ≡ get_or (lows lowered t) 0 g → RootLow now lowered t g
root_low nodes t marks fresh now lowered pairs conditions next g e h =
    let w = e.walked in
    let mk = marked_of nodes t marks e.below t itself in
    let low = w.low t (marked_within marks t mk) mk in
    let one = one_condition now (lows lowered t) g low.within (root_types nodes t marks fresh now lowered pairs conditions next e) h in
    record { is = one.is; there = one.there; boolean = one.boolean }

holds_all : (n : Model) (now : List Node) (cs : List ℕ) → Hold n now cs → list_all truth_of (values_at n now cs) ≡ true
holds_all n now [] h = refl
holds_all n now (c ∷ cs) h =
    let P : ℕ → Type 0 = λ x. truth_of (value n now x) ≡ true in
    ap (λ b. b && list_all truth_of (values_at n now cs)) (All-head P c cs h) ∙ holds_all n now cs (All-tail P c cs h)

all_hold : (n : Model) (now : List Node) (cs : List ℕ) → list_all truth_of (values_at n now cs) ≡ true → Hold n now cs
all_hold n now [] h = All-nil (λ x. truth_of (value n now x) ≡ true)
all_hold n now (c ∷ cs) h = let b = and_true h in All-cons (λ x. truth_of (value n now x) ≡ true) c cs b.0 (all_hold n now cs b.1)

goal_value : (n : Model) (now new : List Node) (cs : List ℕ) (g u : ℕ) → IsGoal now new cs g u → Hold n now cs → value n new u ≡ Truth (truth_of (value n now g))
goal_value n now new cs g u k h =
    k.value n ∙ ap Truth (ap (list_all truth_of) (map-append (value n now) cs (g ∷ [])) ∙ list_all-append truth_of (values_at n now cs) (value n now g ∷ [])
    ∙ ap (λ b. b && (truth_of (value n now g) && true)) (holds_all n now cs h) ∙ and-true (truth_of (value n now g)))

goal_holds : (n : Model) (now new : List Node) (cs : List ℕ) (g u : ℕ) → IsGoal now new cs g u → truth_of (value n new u) ≡ true → Hold n now cs
goal_holds n now new cs g u k h =
    let whole : list_all truth_of (values_at n now (cs ++ g ∷ [])) ≡ true = sym (ap truth_of (k.value n)) ∙ h in
    All-front (λ x. truth_of (value n now x) ≡ true) cs (g ∷ []) (all_hold n now (cs ++ g ∷ []) whole)

root_value : (nodes : List Node) (t : ℕ) (marks : List Flag) (fresh : ℕ) (now : List Node) (lowered : List (List ℕ)) (pairs : List Pair) (conditions : List ℕ) (next g : ℕ) (m n : Model)
    → Ended nodes t marks fresh now lowered pairs conditions next → RootLow now lowered t g → AgreeTo m n now marks lowered (length marks) → value n now g ≡ value m nodes t
root_value nodes t marks fresh now lowered pairs conditions next g m n e r a =
    let w = e.walked in
    let mk = marked_of nodes t marks e.below t itself in
    let v = value m nodes t in
    let all : value n now g ∷ [] ≡ v ∷ [] =
    ap (values_at n now) (sym r.is) ∙ w.means m n a t (marked_within marks t mk) mk ∙ coded_kept m nodes now t w.grown e.there ∙ ap (λ ty. coded ty v) e.boolean ∙ coded-Bool v in
    cc

bounded_by : (nodes : List Node) (t : ℕ) (marks : List Flag) (fresh : ℕ) (now : List Node) (lowered : List (List ℕ)) (pairs : List Pair) (conditions : List ℕ) (next : ℕ) (m n : Model)
    → Ended nodes t marks fresh now lowered pairs conditions next → AgreeTo m n now marks lowered (length marks) → AreBounded n now marks lowered (length marks)
bounded_by nodes t marks fresh now lowered pairs conditions next m n e a j l mk s =
    let w = e.walked in
    let inside = in_nodes nodes marks (t ∷ []) e.below j l in
    let in_now : j < length now = omega (arith, inside, longer nodes now w.grown) in
    let bits : HasBits (type_at now j) = subst HasBits (sym (kept_type nodes now j w.grown inside)) (e.finite.bits j (below_of nodes t marks e.below j mk)) in
    subst (AllZip InRange (leaves (type_at now j))) (sym (a j l mk s)) (coded_ranges (type_at now j) (value m now j) bits (value-fits m now j w.grown.well in_now))

same_value : (nodes : List Node) (t : ℕ) (marks : List Flag) (fresh : ℕ) (now new : List Node) (lowered : List (List ℕ)) (pairs : List Pair) (conditions : List ℕ) (next g u : ℕ) (m n : Model)
    → Ended nodes t marks fresh now lowered pairs conditions next → RootLow now lowered t g → IsGoal now new conditions g u → AgreeTo m n now marks lowered (length marks) → value n new u ≡ value m nodes t
same_value nodes t marks fresh now new lowered pairs conditions next g u m n e r k a =
    let hold = e.walked.met n (bounded_by nodes t marks fresh now lowered pairs conditions next m n e a) in
    goal_value n now new conditions g u k hold ∙ ap (λ v. Truth (truth_of v)) (root_value nodes t marks fresh now lowered pairs conditions next g m n e r a) ∙ sym (boolean_value m nodes t e.well e.there e.boolean)

goal_lowered : (nodes : List Node) (t : ℕ) (marks : List Flag) (fresh : ℕ) (now new : List Node) (lowered : List (List ℕ)) (pairs : List Pair) (conditions : List ℕ) (next g u : ℕ)
    → Ended nodes t marks fresh now lowered pairs conditions next → RootLow now lowered t g → IsGoal now new conditions g u → IsLowered (seconds pairs) new u
goal_lowered nodes t marks fresh now new lowered pairs conditions next g u e r k =
    let w = e.walked in
    let mk = marked_of nodes t marks e.below t itself in
    let root : All (IsLowered (seconds pairs) now) (g ∷ []) = subst (All (IsLowered (seconds pairs) now)) r.is (w.stays t (marked_within marks t mk) mk) in
    All-head (IsLowered (seconds pairs) new) u [] (k.lowered (seconds pairs) (All-append (IsLowered (seconds pairs) now) conditions (g ∷ []) w.conditions_low root))

there_fits : (nodes : List Node) (t : ℕ) (marks : List Flag) (fresh : ℕ) (now new : List Node) (lowered : List (List ℕ)) (pairs : List Pair) (conditions : List ℕ) (next g u : ℕ) (m n : Model)
    → Ended nodes t marks fresh now lowered pairs conditions next → RootLow now lowered t g → IsGoal now new conditions g u → Found m n fresh now marks lowered pairs (length marks) → FitsTerm n new u
there_fits nodes t marks fresh now new lowered pairs conditions next g u m n e r k f =
    let low = goal_lowered nodes t marks fresh now new lowered pairs conditions next g u e r k in
    record {
      symbols = λ j number ty s has.
          let c = (low j s).listed number ty has in
          let q = f.fit j number ty c (had_op now new j (Symbol number ty) k.grown (seconds_within marks next now (length marks) pairs e.walked.mapped j c) has) in
          (q.value, q.is, q.fit);
      functions = λ j number ty s has. absurd ((low j s).no_function number ty has);
    }

there_goes : (nodes : List Node) (t : ℕ) (marks : List Flag) (fresh : ℕ) (now new : List Node) (lowered : List (List ℕ)) (pairs : List Pair) (conditions : List ℕ) (next g u : ℕ)
    → Ended nodes t marks fresh now lowered pairs conditions next → RootLow now lowered t g → IsGoal now new conditions g u → (m : Model) → IsModelOf m nodes t → (n : Model) × Partner m n nodes t new u pairs
there_goes nodes t marks fresh now new lowered pairs conditions next g u e r k m h =
    let f = e.walked.there m h.fits in
    let same = same_value nodes t marks fresh now new lowered pairs conditions next g u m f.0 e r k f.1.agrees in (
      f.0,
      record {
        agrees = agree_from nodes t marks fresh now new lowered pairs conditions next m f.0 e k.grown f.1.agrees;
        old_model = h;
        new_model = record { fits = there_fits nodes t marks fresh now new lowered pairs conditions next g u m f.0 e r k f.1; holds = ap truth_of same ∙ h.holds };
      },
    )

back_goes : (nodes : List Node) (t : ℕ) (marks : List Flag) (fresh : ℕ) (now new : List Node) (lowered : List (List ℕ)) (pairs : List Pair) (conditions : List ℕ) (next g u : ℕ)
    → Ended nodes t marks fresh now lowered pairs conditions next → RootLow now lowered t g → IsGoal now new conditions g u → (n : Model) → IsModelOf n new u → (m : Model) × Partner m n nodes t new u pairs
back_goes nodes t marks fresh now new lowered pairs conditions next g u e r k n h =
    let w = e.walked in
    let hold = goal_holds n now new conditions g u k h.holds in
    let b = rebuilt nodes t marks fresh now lowered pairs conditions next n e hold (length marks) (omega arith) in
    let m : Model = record { symbols = b.symbols; tables = [] } in
    let agrees : AgreeTo m n now marks lowered (length marks) = λ j l mk s.
    let inside = in_nodes nodes marks (t ∷ []) e.below j l in
    let has = had_op nodes now j (Symbol s.number s.ty) w.grown inside s.has in
    let q = b.at j s.number s.ty l mk has in
    let own : value m nodes j ≡ q.value = symbol_value m nodes j s.number s.ty q.value e.well inside has q.is q.fit in
    let typed : type_at nodes j ≡ s.ty = (node_facts nodes j (Symbol s.number s.ty) e.well inside has).typed in
    sym q.codes ∙ ap (coded s.ty) (sym own) ∙ ap (λ ty. coded ty (value m nodes j)) (sym typed) ∙ sym (coded_kept m nodes now j w.grown inside) in
    let fits_all : FitsTerm m nodes t = record {
      symbols = λ j number ty s has.
          let mk = marked_of nodes t marks e.below j s in
          let q = b.at j number ty (marked_within marks j mk) mk has in
          (q.value, q.is, q.fit);
      functions = λ j number ty s has. absurd (e.finite.no_function j number ty s has);
    } in
    let same = same_value nodes t marks fresh now new lowered pairs conditions next g u m n e r k agrees in (
      m,
      record {
        agrees = agree_from nodes t marks fresh now new lowered pairs conditions next m n e k.grown agrees;
        old_model = record { fits = fits_all; holds = ap truth_of (sym same) ∙ h.holds };
        new_model = h;
      },
    )

pub corresponds : (nodes : List Node) (t : ℕ) (marks : List Flag) (fresh : ℕ) (now new : List Node) (lowered : List (List ℕ)) (pairs : List Pair) (conditions : List ℕ) (next g u : ℕ)
    → Ended nodes t marks fresh now lowered pairs conditions next → RootLow now lowered t g → IsGoal now new conditions g u → CorrespondBy nodes t new u pairs
corresponds nodes t marks fresh now new lowered pairs conditions next g u e r k = record {
  there = there_goes nodes t marks fresh now new lowered pairs conditions next g u e r k;
  back = back_goes nodes t marks fresh now new lowered pairs conditions next g u e r k;
  same = λ m n a. same_value nodes t marks fresh now new lowered pairs conditions next g u m n e r k (agree_to nodes t marks fresh now new lowered pairs conditions next m n e k.grown a);
}

pub mapped : (nodes : List Node) (t : ℕ) (marks : List Flag) (fresh : ℕ) (now new : List Node) (lowered : List (List ℕ)) (pairs : List Pair) (conditions : List ℕ) (next g u : ℕ)
    → Ended nodes t marks fresh now lowered pairs conditions next → RootLow now lowered t g → IsGoal now new conditions g u → IsMapOf nodes t new u pairs
mapped nodes t marks fresh now new lowered pairs conditions next g u e r k =
    let w = e.walked in
    record {
      complete = λ j b s.
          let mk = marked_of nodes t marks e.below j b in
          let l = marked_within marks j mk in
          let inside = in_nodes nodes marks (t ∷ []) e.below j l in
          let low = w.low j l mk in
          ap (types_at new) (w.listed j l mk (symbol_on nodes now j w.grown inside s)) ∙ kept_types now new (lows lowered j) k.grown low.within ∙ low.types ∙ ap low_types (kept_type nodes now j w.grown inside);
      only = All-weaker (IsPair marks next now (length marks)) (IsPairOf nodes t new) (λ p q. record {
        below = below_of nodes t marks e.below p.0 q.marked;
        first = symbol_back nodes now p.0 w.grown (in_nodes nodes marks (t ∷ []) e.below p.0 q.before) q.first;
        second = symbol_on now new p.1 k.grown q.there q.second;
      }) pairs w.mapped;
      listed = λ j s y. (goal_lowered nodes t marks fresh now new lowered pairs conditions next g u e r k j s).listed y.number y.ty y.has;
    }

pub lowered_term : (nodes : List Node) (t : ℕ) (marks : List Flag) (fresh : ℕ) (now new : List Node) (lowered : List (List ℕ)) (pairs : List Pair) (conditions : List ℕ) (next g u : ℕ)
    → Ended nodes t marks fresh now lowered pairs conditions next → RootLow now lowered t g → IsGoal now new conditions g u → IsLoweredTerm new u
lowered_term nodes t marks fresh now new lowered pairs conditions next g u e r k =
    let low = goal_lowered nodes t marks fresh now new lowered pairs conditions next g u e r k in
    record { there = k.there; boolean = k.ty; types = λ j s. (low j s).typed; no_function = λ j number ty s. (low j s).no_function number ty }

pub evenly : (nodes : List Node) (t : ℕ) (marks : List Flag) (fresh : ℕ) (now new : List Node) (lowered : List (List ℕ)) (pairs : List Pair) (conditions : List ℕ) (next g u : ℕ)
    → Ended nodes t marks fresh now lowered pairs conditions next → RootLow now lowered t g → IsGoal now new conditions g u → EvenlyTyped new u
evenly nodes t marks fresh now new lowered pairs conditions next g u e r k =
    let low = goal_lowered nodes t marks fresh now new lowered pairs conditions next g u e r k in
    let w = e.walked in
    let inside : (j : ℕ) → Contains (seconds pairs) j → j < length now = λ j c. seconds_within marks next now (length marks) pairs w.mapped j c in
    record {
      symbols = λ i j number a b si sj hi hj.
          let ci = (low i si).listed number a hi in
          let cj = (low j sj).listed number b hj in
          w.even i j number a b ci cj (had_op now new i (Symbol number a) k.grown (inside i ci) hi) (had_op now new j (Symbol number b) k.grown (inside j cj) hj);
      functions = λ i j number a b si sj hi hj. absurd ((low i si).no_function number a hi);
    }

-- the goal where there are no conditions, and where there are some
pub goal_alone : (now : List Node) (conditions : List ℕ) (g : ℕ) → WellTyped now → g < length now → type_at now g ≡ Bool → conditions ≡ [] → IsGoal now now conditions g g
goal_alone now conditions g w l b e = subst (λ cs. IsGoal now now cs g g) (sym e) (record {
  grown = grows_not now w;
  there = l;
  ty = b;
  value = λ n. boolean_value n now g w l b ∙ ap Truth (sym (and-true (truth_of (value n now g))));
  lowered = λ symbols h. h;
})

pub goal_of : (now new : List Node) (conditions tests : List ℕ) (g u : ℕ) → Grows now new → tests ≡ conditions ++ g ∷ [] → IsConjunction now new tests u → IsGoal now new conditions g u
goal_of now new conditions tests g u grown e c =
    let k = subst (λ ts. IsConjunction now new ts u) e c in
    record { grown = grown; there = k.there; ty = k.ty; value = k.value; lowered = k.lowered }

pub ended : (nodes : List Node) (t : ℕ) (marks : List Flag) (fresh : ℕ) (now : List Node) (lowered : List (List ℕ)) (pairs : List Pair) (conditions : List ℕ) (next place : ℕ)
    → Walked nodes t marks fresh now lowered pairs conditions next place → place ≡ length marks → WellTyped nodes → NoTwoEqual nodes → t < length nodes → type_at nodes t ≡ Bool → EvenlyTyped nodes t → IsFiniteTerm nodes t → AreSubterms nodes (t ∷ []) marks
    → Ended nodes t marks fresh now lowered pairs conditions next
ended nodes t marks fresh now lowered pairs conditions next place w e well two there boolean even finite below = record {
  walked = subst (Walked nodes t marks fresh now lowered pairs conditions next) e w;
  well = well;
  two = two;
  there = there;
  boolean = boolean;
  even = even;
  finite = finite;
  below = below;
}

pub no_vec_items : (xs : List ℕ) (b : Flag) (n : ℕ) → n ≡ length xs → b ≡ nat_eq n 0 → b ≡ true → xs ≡ []
no_vec_items xs b n e h g = no_items xs b (h ∙ ap (λ k. nat_eq k 0) e) g

pub no_more_bits : (nodes : List Node) (t : ℕ) (marks : List Flag) (fresh : ℕ) (now new : List Node) (lowered : List (List ℕ)) (pairs : List Pair) (conditions : List ℕ) (next g u : ℕ)
    → Ended nodes t marks fresh now lowered pairs conditions next → RootLow now lowered t g → IsGoal now new conditions g u → HasNoMoreBits nodes t new u
no_more_bits nodes t marks fresh now new lowered pairs conditions next g u e r k us ts a h c =
    let w = e.walked in
    let low = goal_lowered nodes t marks fresh now new lowered pairs conditions next g u e r k in
    let q = w.weight in
    let in_seconds : (x : ℕ) → Contains us x → Contains (seconds pairs) x = λ x d.
    let y = All-contains (IsSymbolBelow new u) us x h d in
    (low x y.below).listed y.symbol.number y.symbol.ty y.symbol.has in
    let in_ts : (x : ℕ) → Contains q.places x → Contains ts x = λ x d.
    let y = All-contains (IsPlace marks now (length marks)) q.places x q.each d in
    c x (record { below = below_of nodes t marks e.below x y.marked; symbol = symbol_back nodes now x w.grown (in_nodes nodes marks (t ∷ []) e.below x y.before) y.symbol }) in
    let places_in : Within nodes q.places = All-weaker (IsPlace marks now (length marks)) (λ j. j < length nodes) (λ j y. in_nodes nodes marks (t ∷ []) e.below j y.before) q.places q.each in
    let seconds_in : Within now (seconds pairs) = λ i d l. seconds_within marks next now (length marks) pairs w.mapped (get_or (seconds pairs) i d) (i, l, get_or_default (seconds pairs) i (get_or (seconds pairs) i d) d l) in
    omega (arith, fewer_bits new us (seconds pairs) a in_seconds, bits_kept now new (seconds pairs) k.grown seconds_in, q.same, bits_kept nodes now q.places w.grown places_in, fewer_bits nodes q.places ts q.apart in_ts)
