-- Tables that go on from one another, simplified terms, and the terms of axioms and goals.
use Rattle.std.proofs.Common.{◌≡◌, ℕ, ◌+◌, ◌<◌, ◌≤◌, List, [], ◌∷◌, length, map, take, Some, refl, sym, ap, ◌∙◌, subst, arith, get_or, slice_get, slice_index, append-nil}
use Rattle.std.specs.Prelude.{All, not, ◌&&◌, zero, suc}
use Rattle.std.specs.List.{list_all, flat_map}
use Rattle.std.proofs.lemmas.List.{length-take-le}
use Rattle.std.proofs.lemmas.List.Elements.{All-head, All-tail, All-cons, All-nil}
use Rattle.std.proofs.lemmas.Option.{get_or_from_slice_get}
use Rattle.uc_ops.proofs.Lists.{at_place}
use Rattle.uc_symstep.proofs.Runs.{axiom_more, two_there, refuted_is}
use Rattle.uc_values.specs.declared.ty.Ty.{Ty}
use Rattle.uc_values.specs.declared.ty.Ty.TheVariants.{Bool}
use Rattle.uc_values.specs.declared.value.Value.{Value}
use Rattle.uc_values.specs.declared.value.Value.TheVariants.{Bool as Boolean}
use Rattle.uc_values.specs.Values.{truth_of}
use Rattle.uc_ops.specs.declared.model.Model.{Model}
use Rattle.uc_ops.specs.declared.node.Node.{Node}
use Rattle.uc_ops.specs.Typing.{type_at}
use Rattle.uc_terms.specs.Values.{value}
use Rattle.uc_simplify.specs.Simplified.{Grows as GoesOn}
use Rattle.uc_simplify.specs.Walking.{AllAnswered}
use Rattle.uc_flat.specs.declared.flat.Flat.{Flat}
use Rattle.uc_flat.specs.declared.flat.Formula.{Formula}
use Rattle.uc_flat.specs.Flats.{cell_types, IsSound}
use Rattle.uc_flat.specs.Unrolled.{formula_in, holds_in}
use Rattle.uc_symstep.specs.declared.state.SymState.{SymState}
use Rattle.uc_symstep.specs.Growing.{Grows, IsTerm, AreTerms}
use Rattle.uc_symstep.specs.Stands.{holds, IsTruth}
use Rattle.uc_symstep.specs.Unrolled.{IsSeen}
use Rattle.uc_symstep.proofs.Grown.{grows_not, grows_on, grows_length, grows_value, grows_type, grows_values, grows_types, all_grow}
use Rattle.uc_symstep.proofs.States.{same_drawn, truth_grows, choices_keep, sites_keep, choices_grow, sites_grow}
use Rattle.uc_obligations.specs.Unrolling.{IsSimpler}

pub goes_on : (old new : List Node) → GoesOn old new → Grows old new
goes_on old new g = record { more = g.more; is = g.is }

-- what simplified terms stand for
pub answer_is : (old new : List Node) (answers : List ℕ) (t : ℕ) → AllAnswered old new answers (length old) → t < length old → IsTerm old new (slice_index answers t) (type_at old t) (λ m. value m old t)
answer_is old new answers t a l =
    let s = a.each t l in
    record { grown = record { more = a.grown.more; is = a.grown.is }; there = s.there; typed = s.ty; means = λ m. s.same m }

abbrev pub Same : List Node → List Node → List ℕ → List ℕ → Type 0
Same old now ts us = AreTerms old now us (map (type_at old) ts) (λ m. map (value m old) ts)

pub all_answers : (old new : List Node) (answers ts : List ℕ) → AllAnswered old new answers (length old) → All (λ t. t < length old) ts → Same old new ts (map (slice_index answers) ts)
all_answers old new answers [] a h = record { grown = record { more = a.grown.more; is = a.grown.is }; there = All-nil (λ t. t < length new); typed = refl; means = λ m. refl }
all_answers old new answers (t ∷ ts) a h =
    let one = answer_is old new answers t a (All-head (λ t. t < length old) t ts h) in
    let rest = all_answers old new answers ts a (All-tail (λ t. t < length old) t ts h) in
    record {
      grown = one.grown;
      there = All-cons (λ t. t < length new) (slice_index answers t) (map (slice_index answers) ts) one.there rest.there;
      typed = λ i. one.typed i ∷ rest.typed i;
      means = λ m i. one.means m i ∷ rest.means m i;
    }

pub same_cells : (old new : List Node) (answers ts own us : List ℕ) → AllAnswered old new answers (length old) → All (λ t. t < length old) ts → own ≡ ts → us ≡ map (slice_index answers) own → Same old new own us
same_cells old new answers ts own us a h i e =
    let within : All (λ t. t < length old) own = subst (All (λ t. t < length old)) (sym i) h in
    subst (Same old new own) (sym e) (all_answers old new answers own a within)

-- the answer of the path condition, in the new table
pub path_answer : (old new : List Node) (answers : List ℕ) (t r : ℕ) → AllAnswered old new answers (length old) → t < length old → r ≡ slice_index answers t → IsTerm new new r (type_at new t) (λ m. value m new t)
path_answer old new answers t r a l e =
    let b = answer_is old new answers t a l in
    record {
      grown = grows_not new new refl;
      there = subst (λ k. k < length new) (sym e) b.there;
      typed = ap (type_at new) e ∙ b.typed ∙ sym (grows_type old new b.grown t l);
      means = λ m. ap (value m new) e ∙ b.means m ∙ sym (grows_value old new b.grown m t l);
    }

pub cells_there : (old : List Node) (types : List Ty) (s : SymState) (own : List ℕ) → IsSeen old types s → own ≡ s.cells → All (λ t. t < length old) own
cells_there old types s own h i = subst (All (λ t. t < length old)) (sym i) h.cells.there

pub path_there : (old mid : List Node) (types : List Ty) (s : SymState) → IsSeen old types s → Grows old mid → s.path < length mid
path_there old mid types s h g = omega (arith, h.path.there, grows_length old mid g)

-- a state over simplified terms
pub simpler_state : (old mid new : List Node) (types : List Ty) (s : SymState) (own cells : List ℕ) (path : ℕ) → IsSeen old types s → own ≡ s.cells → Same old mid own cells
    → IsTerm mid new path (type_at mid s.path) (λ m. value m mid s.path)
    → IsSimpler old new types s (record { cells = cells; path = path; sites = s.sites; choices = s.choices })
simpler_state old mid new types s own cells path h i a b =
    let grown = grows_on old mid new a.grown b.grown in
    record {
      grown = grown;
      state = record {
        cells = record {
          there = all_grow mid new b.grown cells a.there;
          typed = grows_types mid new b.grown cells a.there ∙ a.typed ∙ ap (map (type_at old)) i ∙ h.cells.typed;
        };
        path = record { there = b.there; typed = b.typed ∙ (truth_grows old mid s.path a.grown h.path).typed };
        choices = choices_grow old new s.choices grown h.choices;
        sites = sites_grow old new s.sites grown h.sites;
      };
      same = λ m n.
          same_drawn _ _ _ _ _ _ _ _ _ _ n (grows_values mid new b.grown m cells a.there ∙ a.means m ∙ ap (map (value m old)) i)
          (ap truth_of (b.means m ∙ grows_value old mid a.grown m s.path h.path.there)) refl
          (choices_keep old new grown m s.choices h.choices) (sites_keep old new grown m s.sites h.sites);
    }

-- the cells of one state
pub one_state : (s : SymState) → flat_map (λ (x : SymState). x.cells) (s ∷ []) ≡ s.cells
one_state s = append-nil s.cells

pub formula_one : (old new : List Node) (f : Flat) (x : Formula) (s : SymState) (states : List SymState) (t : ℕ) → states ≡ s ∷ []
    → IsTerm old new t Bool (λ m. formula_in f x m (map (value m old) (flat_map (λ y. y.cells) states))) → IsTerm old new t Bool (λ m. formula_in f x m (map (value m old) s.cells))
formula_one old new f x s states t i a = record {
  grown = a.grown;
  there = a.there;
  typed = a.typed;
  means = λ m. a.means m ∙ ap (λ ts. formula_in f x m (map (value m old) ts)) (ap (flat_map (λ (y : SymState). y.cells)) i ∙ one_state s);
}

pub truth_is : (old new : List Node) (t : ℕ) (v : Model → Value) → IsTerm old new t Bool v → IsTruth new t
truth_is old new t v a = record { there = a.there; typed = a.typed }

-- axioms
get_or-take : (xs : List Formula) (n j : ℕ) (d : Formula) → j < n → get_or (take n xs) j d ≡ get_or xs j d
get_or-take [] zero j d h = refl
get_or-take [] (suc n) j d h = refl
get_or-take (y ∷ xs) zero j d h = absurd (omega (arith, h))
get_or-take (y ∷ xs) (suc n) zero d h = refl
get_or-take (y ∷ xs) (suc n) (suc j) d h = get_or-take xs n j d (omega (arith, h))

pub axiom_alone : (f : Flat) (k : ℕ) → IsSound f → k < f.axioms → (x : Formula) → slice_get f.formulas k ≡ Some x → x.copies ≡ 0
axiom_alone f k s l x at =
    ap (λ (y : Formula). y.copies) (sym (get_or_from_slice_get f.formulas k x x at) ∙ sym (get_or-take f.formulas f.axioms k x l)) ∙ s.no_copy k x (omega (arith, l, length-take-le f.axioms f.formulas s.axioms))

pub axiom_at : (f : Flat) (k : ℕ) → IsSound f → k < f.axioms → (x : Formula) × (slice_get f.formulas k ≡ Some x)
axiom_at f k s l = at_place f.formulas k (omega (arith, l, s.axioms))

abbrev pub OfFormula : Flat → ℕ → List Node → List Node → ℕ → List ℕ → Type 0
OfFormula f k old new t cells = (x : Formula) → slice_get f.formulas k ≡ Some x → IsTerm old new t Bool (λ m. formula_in f x m (map (value m old) cells))

pub axiom_ready : (f : Flat) (k : ℕ) (old now mid : List Node) (all one : ℕ) (v : Model → Value) (cells : List ℕ) → IsSound f → k < f.axioms → IsTerm old now all Bool v → OfFormula f k now mid one cells
    → ((all < length mid) × (one < length mid)) × ((type_at mid all ≡ Bool) × (type_at mid one ≡ Bool))
axiom_ready f k old now mid all one v cells s l a b = let x = axiom_at f k s l in two_there old now mid all one v (λ m. formula_in f x.0 m (map (value m now) cells)) a (b x.0 x.1)

abbrev pub AxiomsTo : Flat → ℕ → List Node → List Node → ℕ → Type 0
AxiomsTo f k old now t = IsTerm old now t Bool (λ m. Boolean (list_all (λ x. holds_in f x m []) (take k f.formulas)))

pub axiom_next : (f : Flat) (k : ℕ) (old now mid new : List Node) (all one t : ℕ) (cells : List ℕ) → IsSound f → k < f.axioms → cells ≡ [] → AxiomsTo f k old now all → OfFormula f k now mid one cells
    → IsTerm mid new t Bool (λ m. Boolean (truth_of (value m mid all) && truth_of (value m mid one))) → AxiomsTo f (k + 1) old new t
axiom_next f k old now mid new all one t cells s l i a b c =
    let x = axiom_at f k s l in
    axiom_more old now mid new f k all one t x.0 cells (omega (arith, l, s.axioms)) (sym (get_or_from_slice_get f.formulas k x.0 x.0 x.1)) i a (b x.0 x.1) c

pub axioms_end : (f : Flat) (k : ℕ) (old now : List Node) (t : ℕ) → k ≤ f.axioms → f.axioms ≤ k → AxiomsTo f k old now t → AxiomsTo f f.axioms old now t
axioms_end f k old now t l h a = let e : k ≡ f.axioms = omega (arith, l, h) in subst (λ n. AxiomsTo f n old now t) e a

-- goals
pub seen_one : (nodes : List Node) (types : List Ty) (s : SymState) (states : List SymState) → states ≡ s ∷ [] → IsSeen nodes types s → All (IsSeen nodes types) states
seen_one nodes types s states i h = subst (All (IsSeen nodes types)) (sym i) (All-cons (IsSeen nodes types) s [] h (All-nil (IsSeen nodes types)))

pub copies_one : (f : Flat) (k : ℕ) (s : SymState) (states : List SymState) → ((x : Formula) → slice_get f.formulas k ≡ Some x → x.copies ≡ 1) → states ≡ s ∷ [] → (x : Formula) → slice_get f.formulas k ≡ Some x → x.copies ≡ length states
copies_one f k s states h i x at = h x at ∙ sym (ap length i)

abbrev pub all_cells : List SymState → List ℕ
all_cells states = flat_map (λ s. s.cells) states

pub formula_ready : (f : Flat) (k : ℕ) (old new : List Node) (t : ℕ) (cells : List ℕ) → k < length f.formulas → OfFormula f k old new t cells → IsTruth new t
formula_ready f k old new t cells l a = let x = at_place f.formulas k l in let b = a x.0 x.1 in record { there = b.there; typed = b.typed }

pub refuted_as : (old a b c d new : List Node) (f : Flat) (k axioms assumed truth fails unmet broken all : ℕ) (s : SymState) (states : List SymState) → IsTruth old axioms → IsTruth old assumed → IsSeen old (cell_types f) s → states ≡ s ∷ []
    → OfFormula f k old a truth (all_cells states)
    → IsTerm a b fails Bool (λ m. Boolean (not (truth_of (value m a truth))))
    → IsTerm b c unmet Bool (λ m. Boolean (truth_of (value m b assumed) && truth_of (value m b fails)))
    → IsTerm c d broken Bool (λ m. Boolean (truth_of (value m c s.path) && truth_of (value m c unmet)))
    → IsTerm d new all Bool (λ m. Boolean (truth_of (value m d axioms) && truth_of (value m d broken)))
    → (x : Formula) → slice_get f.formulas k ≡ Some x → IsTerm old new all Bool (λ m. Boolean (holds m old axioms && (holds m old s.path && (holds m old assumed && not (holds_in f x m (map (value m old) s.cells))))))
refuted_as old a b c d new f k axioms assumed truth fails unmet broken all s states h z g i p q o r t x at =
    refuted_is old a b c d new f x axioms assumed truth fails unmet broken all s s.cells h z g refl (formula_one old a f x s states truth i (p x at)) q o r t

-- each answer is at its number
pub answers_within : (old new : List Node) (answers ts own : List ℕ) → AllAnswered old new answers (length old) → All (λ t. t < length old) ts → own ≡ ts → All (λ t. t < length answers) own
answers_within old new answers ts own a h i = subst (All (λ t. t < length answers)) (sym i) (λ k d l. omega (arith, h k d l, a.size))
