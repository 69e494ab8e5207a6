-- Designs on terms: formulas, axioms, and the states of a run.
use Rattle.std.proofs.Common.{◌≡◌, ℕ, ◌+◌, ◌<◌, List, [], ◌∷◌, ◌++◌, length, map, take, Option, Some, refl, sym, ap, ◌∙◌, subst, arith, slice_get, zero, suc, get_or, length-append, append-nil, append_assoc, add-one, inl, inr}
use Rattle.std.specs.Prelude.{All, Bool as Truth, true, false, not, ◌&&◌}
use Rattle.std.specs.List.{list_all, flat_map}
use Rattle.std.proofs.lemmas.List.{take_more, map-append}
use Rattle.std.proofs.lemmas.List.Elements.{All-head, All-tail, All-append}
use Rattle.std.proofs.lemmas.Option.{slice_get-get_or}
use Rattle.uc_values.specs.declared.ty.Ty.{Ty}
use Rattle.uc_values.specs.declared.ty.Ty.TheVariants.{Bool}
use Rattle.uc_values.specs.declared.value.Value.{Value}
use Rattle.uc_values.specs.declared.value.Value.TheVariants.{Bool as Boolean}
use Rattle.uc_values.specs.Values.{truth_of}
use Rattle.uc_ops.specs.declared.model.Model.{Model}
use Rattle.uc_ops.specs.declared.node.Node.{Node}
use Rattle.uc_ops.specs.Typing.{AllValid, type_at}
use Rattle.uc_terms.specs.Values.{value}
use Rattle.uc_terms.specs.Tables.{WellTyped}
use Rattle.uc_terms.proofs.Grown.{slice_get-push}
use Rattle.uc_flat.specs.declared.flat.Flat.{Flat}
use Rattle.uc_flat.specs.declared.flat.Formula.{Formula}
use Rattle.uc_flat.specs.declared.expression.Expression.{Expression}
use Rattle.uc_flat.specs.Flats.{cell_types, wider_types, init_types, repeated, IsSound, IsFormula}
use Rattle.uc_flat.specs.Fine.{IsTyped, AreFine}
use Rattle.uc_flat.specs.Reading.{type_of, value_of}
use Rattle.uc_flat.specs.Drawn.{Drawn, drawn}
use Rattle.uc_symstep.specs.declared.state.SymState.{SymState}
use Rattle.uc_symstep.specs.Growing.{Grows, IsTerm, AreCells}
use Rattle.uc_symstep.specs.Stands.{holds, choice_in, IsTruth, IsChoice}
use Rattle.uc_flat.specs.declared.statement.Statement.{Statement}
use Rattle.uc_flat.specs.Unrolled.{started, doubled, later, stepped, seen, initial, after_step, free_values, formula_in, holds_in}
use Rattle.uc_flat_copies.specs.declared.trace.Start.{Start}
use Rattle.uc_flat_copies.specs.Places.{loose, begins_at, reached_from}
use Rattle.uc_symstep.specs.declared.state.Choice.{Choice}
use Rattle.uc_symstep.specs.declared.state.Symbolic.{Symbolic}
use Rattle.uc_symstep.specs.Unrolled.{shows, Begins, IsSeen, StartsAs, StepsAs}
use Rattle.uc_symstep.specs.Designs.{ShowsAt, AreStates, Unrolls, IsInitialWhereTaken, HasEachInitial, IsStepWhereTaken, HasEachStep}
use Rattle.uc_flat.specs.Laws.{AgreeBelow}
use Rattle.uc_flat.specs.Executions.{IsInitial, IsStep, IsAt}
use Rattle.uc_flat.proofs.Executing.{initial_is, initial_found, step_is, step_found}
use Rattle.uc_symstep.proofs.Grown.{grows_on, grows_value, grows_type, grows_values, grows_length, cells_grow}
use Rattle.uc_symstep.specs.Known.{KnowsState}
use Rattle.uc_symstep.proofs.Models.{agree_below, same_value, same_values}
use Rattle.uc_symstep.proofs.Formulas.{Meaning}
use Rattle.uc_symstep.proofs.States.{same_drawn, same_all, truth_grows, choices_grow, sites_grow, choices_keep, sites_keep}

-- what is read of a list through a slice of it
pub read_through : {A : Type 0} (xs ys : List A) (k : ℕ) (x : A) → xs ≡ ys → x ≡ get_or xs k x → x ≡ get_or ys k x
read_through xs ys k x i j = j ∙ ap (λ zs. get_or zs k x) i

pub truth_later : (old now new : List Node) (t : ℕ) (f : Model → Value) → IsTerm old now t Bool f → Grows now new → IsTruth new t
truth_later old now new t f a g = truth_grows now new t g (record { there = a.there; typed = a.typed })

-- the formula at a place
pub formula_at : (f : Flat) (k : ℕ) (x : Formula) → IsSound f → k < length f.formulas → x ≡ get_or f.formulas k x → IsFormula f x
formula_at f k x s l i = subst (IsFormula f) (sym i) (s.formulas k x l)

pub formula_get : (f : Flat) (k : ℕ) (x : Formula) → k < length f.formulas → x ≡ get_or f.formulas k x → slice_get f.formulas k ≡ Some x
formula_get f k x l i = slice_get-get_or f.formulas k x l ∙ ap Some (sym i)

same_some : (o : Option Formula) (x y : Formula) → o ≡ Some x → o ≡ Some y → x ≡ y
same_some o x y h g = let e : Some x ≡ Some y = sym h ∙ g in cc

-- what is asked of one formula is asked of the one at the place
pub formula_is : (f : Flat) (k : ℕ) (x y : Formula) → k < length f.formulas → x ≡ get_or f.formulas k x → slice_get f.formulas k ≡ Some y → x ≡ y
formula_is f k x y l i h = same_some (slice_get f.formulas k) x y (formula_get f k x l i) h

-- the term of a condition, with the types at hand
pub formula_typed : (old new : List Node) (f : Flat) (types all : List Ty) (x : Formula) (cells : List ℕ) (t : ℕ) → IsFormula f x → types ≡ cell_types f → all ≡ repeated x.copies types
    → IsTerm old new t (type_of all x.condition) (Meaning old all cells x.condition) → IsTerm old new t Bool (λ m. formula_in f x m (map (value m old) cells))
formula_typed old new f types all x cells t h i j a =
    let e : all ≡ repeated x.copies (cell_types f) = j ∙ ap (repeated x.copies) i in
    record {
      grown = a.grown;
      there = a.there;
      typed = a.typed ∙ ap (λ ts. type_of ts x.condition) e ∙ h.test.boolean;
      means = λ m. a.means m ∙ ap (λ ts. value_of m ts (map (value m old) cells) x.condition) e;
    }

pub types_through : (nodes : List Node) (f : Flat) (types all : List Ty) (x : Formula) (cells : List ℕ) → types ≡ cell_types f → all ≡ repeated x.copies types
    → AreCells nodes (repeated x.copies (cell_types f)) cells → AreCells nodes all cells
types_through nodes f types all x cells i j a = subst (λ ts. AreCells nodes ts cells) (sym (j ∙ ap (repeated x.copies) i)) a

-- the cells of several states
cells_of_all : (nodes : List Node) (types : List Ty) (states : List SymState) → All (IsSeen nodes types) states → AreCells nodes (repeated (length states) types) (flat_map (λ s. s.cells) states)
unfolding repeated
cells_of_all nodes types [] h = record { there = λ k d l. absurd (omega (arith, l)); typed = refl }
cells_of_all nodes types (s ∷ ss) h =
    let one = All-head (IsSeen nodes types) s ss h in
    let rest = cells_of_all nodes types ss (All-tail (IsSeen nodes types) s ss h) in
    record {
      there = All-append (λ t. t < length nodes) s.cells (flat_map (λ x. x.cells) ss) one.cells.there rest.there;
      typed = map-append (type_at nodes) s.cells (flat_map (λ x. x.cells) ss) ∙ ap (λ ts. ts ++ map (type_at nodes) (flat_map (λ x. x.cells) ss)) one.cells.typed ∙ ap (λ ts. types ++ ts) rest.typed;
    }

pub cells_of_copies : (nodes : List Node) (types : List Ty) (states : List SymState) (cells : List ℕ) (n : ℕ) → All (IsSeen nodes types) states → cells ≡ flat_map (λ s. s.cells) states → n ≡ length states
    → AreCells nodes (repeated n types) cells
cells_of_copies nodes types states cells n h i j = subst (λ ts. AreCells nodes (repeated n types) ts) (sym i) (subst (λ k. AreCells nodes (repeated k types) (flat_map (λ s. s.cells) states)) (sym j) (cells_of_all nodes types states h))

pub formula_result : (old new : List Node) (f : Flat) (k : ℕ) (x : Formula) (cells own : List ℕ) (t : ℕ) → k < length f.formulas → x ≡ get_or f.formulas k x → own ≡ cells
    → IsTerm old new t Bool (λ m. formula_in f x m (map (value m old) own)) → (y : Formula) → slice_get f.formulas k ≡ Some y → IsTerm old new t Bool (λ m. formula_in f y m (map (value m old) cells))
formula_result old new f k x cells own t l i j a y h =
    let e = formula_is f k x y l i h in
    subst (λ z. IsTerm old new t Bool (λ m. formula_in f z m (map (value m old) cells))) e (subst (λ ts. IsTerm old new t Bool (λ m. formula_in f x m (map (value m old) ts))) j a)

flat_map-push : {A B : Type 0} (g : A → List B) (xs : List A) (x : A) → flat_map g (xs ++ x ∷ []) ≡ flat_map g xs ++ g x
flat_map-push g [] x = append-nil (g x)
flat_map-push g (y ∷ xs) x = ap (λ ys. g y ++ ys) (flat_map-push g xs x) ∙ sym (append_assoc (g y) (flat_map g xs) (g x))

pub cells_more : (states : List SymState) (k : ℕ) (s : SymState) (cells more copy : List ℕ) → cells ≡ flat_map (λ x. x.cells) (take k states) → k < length states → s ≡ get_or states k s → copy ≡ s.cells → more ≡ cells ++ copy
    → more ≡ flat_map (λ x. x.cells) (take (k + 1) states)
cells_more states k s cells more copy h l i j e =
    e ∙ ap (λ c. cells ++ c) j ∙ ap (λ c. c ++ s.cells) h ∙ sym (flat_map-push (λ (x : SymState). x.cells) (take k states) s)
    ∙ ap (flat_map (λ (x : SymState). x.cells)) (sym (take_more states k s l ∙ ap (λ y. take k states ++ y ∷ []) (sym i)))

-- axioms
abbrev true_formula : Flat → Model → Formula → Truth
true_formula f m x = holds_in f x m []

list_all-push : {A : Type 0} (p : A → Truth) (xs : List A) (x : A) → list_all p (xs ++ x ∷ []) ≡ (list_all p xs && p x)
list_all-push p [] x = and_true_right (p x)
  where
    and_true_right : (b : Truth) → (b && true) ≡ b
    and_true_right true = refl
    and_true_right false = refl
list_all-push p (y ∷ xs) x = ap (λ b. p y && b) (list_all-push p xs x) ∙ and_assoc (p y) (list_all p xs) (p x)
  where
    and_assoc : (a b c : Truth) → (a && (b && c)) ≡ ((a && b) && c)
    and_assoc true b c = refl
    and_assoc false b c = refl

pub axiom_more : (old now mid new : List Node) (f : Flat) (k all one t : ℕ) (x : Formula) (cells : List ℕ) → k < length f.formulas → x ≡ get_or f.formulas k x → cells ≡ []
    → IsTerm old now all Bool (λ m. Boolean (list_all (true_formula f m) (take k f.formulas)))
    → IsTerm now mid one Bool (λ m. formula_in f x m (map (value m now) cells))
    → IsTerm mid new t Bool (λ m. Boolean (truth_of (value m mid all) && truth_of (value m mid one)))
    → IsTerm old new t Bool (λ m. Boolean (list_all (true_formula f m) (take (k + 1) f.formulas)))
axiom_more old now mid new f k all one t x cells l i j a b c = record {
  grown = grows_on old now new a.grown (grows_on now mid new b.grown c.grown);
  there = c.there;
  typed = c.typed;
  means = λ m.
      let front : take (k + 1) f.formulas ≡ take k f.formulas ++ x ∷ [] = take_more f.formulas k x l ∙ ap (λ y. take k f.formulas ++ y ∷ []) (sym i) in
      c.means m
      ∙ ap (λ v. Boolean (truth_of v && truth_of (value m mid one))) (grows_value now mid b.grown m all a.there ∙ a.means m)
      ∙ ap (λ v. Boolean (list_all (true_formula f m) (take k f.formulas) && truth_of v)) (b.means m ∙ ap (λ ts. formula_in f x m (map (value m now) ts)) j)
      ∙ ap Boolean (sym (ap (list_all (true_formula f m)) front ∙ list_all-push (true_formula f m) (take k f.formulas) x));
}

pub two_there : (old now mid : List Node) (all one : ℕ) (f g : Model → Value) → IsTerm old now all Bool f → IsTerm now mid one Bool g → ((all < length mid) × (one < length mid)) × ((type_at mid all ≡ Bool) × (type_at mid one ≡ Bool))
two_there old now mid all one f g a b = ((omega (arith, a.there, grows_length now mid b.grown), b.there), (grows_type now mid b.grown all a.there ∙ a.typed, b.typed))

-- states between steps stay what they are when the table grows
pub seen_grows : (old new : List Node) (types : List Ty) (s : SymState) → Grows old new → IsSeen old types s → IsSeen new types s
seen_grows old new types s g h = record { cells = cells_grow old new types s.cells g h.cells; path = truth_grows old new s.path g h.path; choices = choices_grow old new s.choices g h.choices; sites = sites_grow old new s.sites g h.sites }

pub shows_grows : (old new : List Node) (types : List Ty) (s : SymState) (n : ℕ) → Grows old new → IsSeen old types s → (m : Model) → shows m new s n ≡ shows m old s n
shows_grows old new types s n g h m =
    same_drawn _ _ _ _ _ _ _ _ _ _ n (grows_values old new g m s.cells h.cells.there) (ap truth_of (grows_value old new g m s.path h.path.there)) refl
    (choices_keep old new g m s.choices h.choices) (sites_keep old new g m s.sites h.sites)

pub states_grow : (old new : List Node) (f : Flat) (start : Start) (first n : ℕ) (states : List SymState) → Grows old new → AreStates f start first old n states → AreStates f start first new n states
states_grow old new f start first n states g a = record {
  count = a.count;
  each = λ k s h.
      let b = a.each k s h in
      record {
        state = seen_grows old new (cell_types f) s g b.state;
        same = λ m.
            let r = shows_grows old new (cell_types f) s 0 g b.state m in
            let q = b.same m in
            record {
              cells = ap (λ (d : Drawn). d.cells) r ∙ q.cells;
              goes = ap (λ (d : Drawn). d.goes) r ∙ q.goes;
              taken = q.taken;
              chosen = ap (λ (d : Drawn). d.chosen) r ∙ q.chosen;
              sites = ap (λ (d : Drawn). d.sites) r ∙ q.sites;
            };
      };
}

-- a state with a number of the next symbol, without it
without_number : (f : Flat) (nodes : List Node) (place : Model → Drawn) (s : SymState) (n : ℕ) → IsSeen nodes (cell_types f) s → ((m : Model) → shows m nodes s n ≡ place m) → ShowsAt f nodes place s
without_number f nodes place s n h e = record {
  state = h;
  same = λ m. record {
    cells = ap (λ (d : Drawn). d.cells) (e m);
    goes = ap (λ (d : Drawn). d.goes) (e m);
    taken = ap (λ (d : Drawn). d.taken) (e m);
    chosen = ap (λ (d : Drawn). d.chosen) (e m);
    sites = ap (λ (d : Drawn). d.sites) (e m);
  };
}

some_state : (s t : SymState) → Some s ≡ Some t → s ≡ t
some_state s t h = cc

one_state : (s t : SymState) (k : ℕ) → slice_get (s ∷ []) k ≡ Some t → (k ≡ 0) × (s ≡ t)
one_state s t zero h = (refl, some_state s t h)
one_state s t (suc k) h = cc

-- the init code and the step's code of a design
pub starts_in : (old new : List Node) (f : Flat) (types : List Ty) (further : List Expression) (xs : List Statement) (k n : ℕ) (s : SymState) → types ≡ cell_types f → further ≡ f.further → xs ≡ f.init
    → StartsAs old new types (λ m. started m types further xs k) s n → StartsAs old new (cell_types f) (initial f k) s n
starts_in old new f types further xs k n s i w j a =
    subst (λ ys. StartsAs old new (cell_types f) (λ m. started m (cell_types f) f.further ys k) s n) j
    (subst (λ es. StartsAs old new (cell_types f) (λ m. started m (cell_types f) es xs k) s n) w (subst (λ ts. StartsAs old new ts (λ m. started m ts further xs k) s n) i a))

pub steps_in : (old new : List Node) (f : Flat) (types : List Ty) (xs : List Statement) (k n : ℕ) (s t : SymState) → types ≡ cell_types f → xs ≡ f.step → StepsAs old new types (λ m. stepped m types xs) s k t n
    → StepsAs old new (cell_types f) (after_step f) s k t n
steps_in old new f types xs k n s t i j a =
    subst (λ ys. StepsAs old new (cell_types f) (λ m. stepped m (cell_types f) ys) s k t n) j (subst (λ ts. StepsAs old new ts (λ m. stepped m ts xs) s k t n) i a)

pub init_fine : (f : Flat) (types : List Ty) (further : List Expression) (xs : List Statement) → types ≡ cell_types f → further ≡ f.further → xs ≡ f.init → IsSound f → AreFine (wider_types types further) xs
init_fine f types further xs i w j s =
    subst (λ ts. AreFine (wider_types ts further) xs) (sym i) (subst (λ es. AreFine (wider_types (cell_types f) es) xs) (sym w) (subst (AreFine (init_types f)) (sym j) s.init))

pub further_typed : (f : Flat) (types : List Ty) (further : List Expression) → types ≡ cell_types f → further ≡ f.further → IsSound f → All (IsTyped types) further
further_typed f types further i w s = subst (λ ts. All (IsTyped ts) further) (sym i) (subst (All (IsTyped (cell_types f))) (sym w) s.further)

pub step_fine : (f : Flat) (types two : List Ty) (xs : List Statement) → types ≡ cell_types f → two ≡ types ++ types → xs ≡ f.step → IsSound f → AreFine two xs
step_fine f types two xs i k j s = subst (λ ts. AreFine ts xs) (sym (k ∙ ap (λ ts. ts ++ ts) i)) (subst (AreFine (cell_types f ++ cell_types f)) (sym j) s.step)

pub types_valid : (f : Flat) (types : List Ty) → types ≡ cell_types f → IsSound f → AllValid types
types_valid f types i s = subst AllValid (sym i) s.valid

pub seen_in : (nodes : List Node) (f : Flat) (types : List Ty) (s : SymState) → types ≡ cell_types f → IsSeen nodes (cell_types f) s → IsSeen nodes types s
seen_in nodes f types s i h = subst (λ ts. IsSeen nodes ts s) (sym i) h

-- any state: the cells of the state before all init code, without its choices
pub any_state : (old new : List Node) (f : Flat) (types : List Ty) (n : ℕ) (first : Symbolic) (choices : List Choice) → types ≡ cell_types f → Begins old new types n first → choices ≡ []
    → StartsAs old new (cell_types f) (loose f n) (record { cells = first.cells; path = first.path; sites = first.sites; choices = choices }) first.next
any_state old new f types n first choices i b c = record {
  grown = b.grown;
  state = record {
    cells = subst (λ ts. AreCells new ts first.cells) i b.state.cells;
    path = b.state.path;
    choices = subst (All (IsChoice new)) (sym c) (λ k d l. absurd (omega (arith, l)));
    sites = b.state.sites;
  };
  same = λ m.
      let q = b.same m in
      same_all _ _ _ _ _ _ _ _ _ _ _ _
      (ap (λ (d : Drawn). d.cells) q ∙ ap (λ ts. free_values m.symbols ts n) i) (ap (λ (d : Drawn). d.goes) q) refl (ap (flat_map (choice_in m new)) c) (ap (λ (d : Drawn). d.sites) q)
      (ap (λ (d : Drawn). d.next) q ∙ ap (λ ts. n + length ts) i);
}

pub unrolls_first : (f : Flat) (start : Start) (first : ℕ) (old new : List Node) (s : SymState) (n : ℕ) (states : List SymState)
    → StartsAs old new (cell_types f) (begins_at f start first) s n → states ≡ s ∷ [] → Unrolls f start first old new 0 states n
unfolding seen
unrolls_first f start first old new s n states a j =
    let here : (m : Model) → shows m new s n ≡ reached_from f start first m 0 = λ m. a.same m in
    let one = without_number f new (λ m. reached_from f start first m 0) s n a.state here in
    record {
      grown = a.grown;
      states = record {
        count = ap length j;
        each = λ k t h.
            let p = one_state s t k (ap (λ ss. slice_get ss k) (sym j) ∙ h) in
            subst (λ q. ShowsAt f new (λ m. reached_from f start first m q) t) (sym p.0) (subst (ShowsAt f new (λ m. reached_from f start first m 0)) p.1 one);
      };
      last = λ t h m. let p = one_state s t 0 (ap (λ ss. slice_get ss 0) (sym j) ∙ h) in ap (λ x. shows m new x n) (sym p.1) ∙ here m;
    }

last_get : {A : Type 0} (xs : List A) (x : A) (n : ℕ) → length xs ≡ n + 1 → slice_get (xs ++ x ∷ []) (n + 1) ≡ Some x
last_get xs x n h = ap (slice_get (xs ++ x ∷ [])) (sym h) ∙ at_end xs x
  where
    at_end : {B : Type 0} (ys : List B) (y : B) → slice_get (ys ++ y ∷ []) (length ys) ≡ Some y
    at_end [] y = refl
    at_end (z ∷ ys) y = at_end ys y

pub unrolls_more : (f : Flat) (start : Start) (first : ℕ) (old now new : List Node) (turn number after : ℕ) (states more run : List SymState) (s t : SymState)
    → Unrolls f start first old now turn states number
    → run ≡ states → s ≡ get_or run turn s → StepsAs now new (cell_types f) (after_step f) s number t after → more ≡ states ++ t ∷ []
    → Unrolls f start first old new (turn + 1) more after
unfolding seen
unrolls_more f start first old now new turn number after states more run s t u q j a k =
    let grown = grows_on old now new u.grown a.grown in
    let own : slice_get states turn ≡ Some s = slice_get-get_or states turn s (omega (arith, u.states.count)) ∙ ap Some (sym (j ∙ ap (λ ss. get_or ss turn s) q)) in
    let here : (m : Model) → shows m new t after ≡ reached_from f start first m (turn + 1) = λ m.
    a.same m ∙ ap (after_step f m) (u.last s own m) ∙ ap (reached_from f start first m) (sym (add-one turn)) in
    let one = without_number f new (λ m. reached_from f start first m (turn + 1)) t after a.state here in
    let rest = states_grow now new f start first turn states a.grown u.states in
    record {
      grown = grown;
      states = record {
        count = omega (arith, ap length k, length-append states (t ∷ []), u.states.count);
        each = λ p x h.
            elim (slice_get-push states t x p (ap (λ ss. slice_get ss p) (sym k) ∙ h)) [
              | inl r ↦ rest.each p x r.1
              | inr r ↦
                  let at : p ≡ turn + 1 = omega (arith, r.0, u.states.count) in
                  subst (λ y. ShowsAt f new (λ m. reached_from f start first m y) x) (sym at) (subst (ShowsAt f new (λ m. reached_from f start first m (turn + 1))) r.1 one)
            ];
      };
      last = λ x h m.
          let is : t ≡ x = some_state t x (sym (last_get states t turn u.states.count) ∙ ap (λ ss. slice_get ss (turn + 1)) (sym k) ∙ h) in
          ap (λ y. shows m new y after) (sym is) ∙ here m;
    }

-- the last state, by its place
pub last_state : (f : Flat) (start : Start) (first : ℕ) (old now : List Node) (n number : ℕ) (states run : List SymState) (s : SymState) → Unrolls f start first old now n states number → run ≡ states → s ≡ get_or run n s → slice_get states n ≡ Some s
last_state f start first old now n number states run s u q j = slice_get-get_or states n s (omega (arith, u.states.count)) ∙ ap Some (sym (j ∙ ap (λ ss. get_or ss n s) q))

pub both_there : (old a b : List Node) (path fails : ℕ) (v : Model → Value) → IsTruth old path → Grows old a → IsTerm a b fails Bool v → ((path < length b) × (fails < length b)) × ((type_at b path ≡ Bool) × (type_at b fails ≡ Bool))
both_there old a b path fails v p g q =
    let h = truth_grows old b path (grows_on old a b g q.grown) p in
    ((h.there, q.there), (h.typed, q.typed))

pub refuted_is : (old a b c d new : List Node) (f : Flat) (x : Formula) (axioms assumed truth fails unmet broken all : ℕ) (s : SymState) (cells : List ℕ)
    → IsTruth old axioms → IsTruth old assumed → IsSeen old (cell_types f) s → cells ≡ s.cells
    → IsTerm old a truth Bool (λ m. formula_in f x m (map (value m old) cells))
    → IsTerm a b fails Bool (λ m. Boolean (not (truth_of (value m a truth))))
    → IsTerm b c unmet Bool (λ m. Boolean (truth_of (value m b assumed) && truth_of (value m b fails)))
    → IsTerm c d broken Bool (λ m. Boolean (truth_of (value m c s.path) && truth_of (value m c unmet)))
    → IsTerm d new all Bool (λ m. Boolean (truth_of (value m d axioms) && truth_of (value m d broken)))
    → IsTerm old new all Bool (λ m. Boolean (holds m old axioms && (holds m old s.path && (holds m old assumed && not (holds_in f x m (map (value m old) s.cells))))))
refuted_is old a b c d new f x axioms assumed truth fails unmet broken all s cells h z g i p q o r t =
    let ob = grows_on old a b p.grown q.grown in
    let oc = grows_on old b c ob o.grown in
    let od = grows_on old c d oc r.grown in
    record {
      grown = grows_on old d new od t.grown;
      there = t.there;
      typed = t.typed;
      means = λ m.
          t.means m
          ∙ ap (λ v. Boolean (truth_of v && truth_of (value m d broken))) (grows_value old d od m axioms h.there)
          ∙ ap (λ v. Boolean (holds m old axioms && truth_of v)) (r.means m)
          ∙ ap (λ v. Boolean (holds m old axioms && (truth_of v && truth_of (value m c unmet)))) (grows_value old c oc m s.path g.path.there)
          ∙ ap (λ v. Boolean (holds m old axioms && (holds m old s.path && truth_of v))) (o.means m)
          ∙ ap (λ v. Boolean (holds m old axioms && (holds m old s.path && (truth_of v && truth_of (value m b fails))))) (grows_value old b ob m assumed z.there)
          ∙ ap (λ v. Boolean (holds m old axioms && (holds m old s.path && (holds m old assumed && truth_of v)))) (q.means m)
          ∙ ap (λ v. Boolean (holds m old axioms && (holds m old s.path && (holds m old assumed && not (truth_of v))))) (p.means m ∙ ap (λ ts. formula_in f x m (map (value m old) ts)) i);
    }

pub goal_ready : (a b : List Node) (f : Flat) (start : Start) (first n number : ℕ) (states run : List SymState) (s : SymState) → Unrolls f start first a b n states number → run ≡ states → s ≡ get_or run n s → IsSeen b (cell_types f) s
goal_ready a b f start first n number states run s u q j = (u.states.each n s (last_state f start first a b n number states run s u q j)).state

pub formula_fine : (f : Flat) (types all : List Ty) (x : Formula) → IsFormula f x → types ≡ cell_types f → all ≡ repeated x.copies types → IsTyped all x.condition
formula_fine f types all x h i j = subst (λ ts. IsTyped ts x.condition) (sym (j ∙ ap (repeated x.copies) i)) h.test.typed

pub init_taken : (old new : List Node) (f : Flat) (k n : ℕ) (s : SymState) → IsSound f → StartsAs old new (cell_types f) (initial f k) s n → IsInitialWhereTaken f new s
init_taken old new f k n s h a m p =
    subst (λ (d : Drawn). IsInitial f m d.cells d.chosen d.sites) (sym (a.same m)) (initial_is f m k h (ap (λ (d : Drawn). d.goes) (sym (a.same m)) ∙ p))

at_place_as : (r d : Drawn) (cells choices : List Value) (sites : List ℕ) → r ≡ d → IsAt d cells choices sites → IsAt r cells choices sites
at_place_as r d cells choices sites e a = subst (λ x. IsAt x cells choices sites) (sym e) a

-- the number of the next free value does not matter
other_number : (m : Model) (nodes : List Node) (s : SymState) (n : ℕ) (cells choices : List Value) (sites : List ℕ) → IsAt (shows m nodes s n) cells choices sites → IsAt (shows m nodes s 0) cells choices sites
other_number m nodes s n cells choices sites a = record { goes = a.goes; cells = a.cells; chosen = a.chosen; sites = a.sites }

pub init_each : (old new : List Node) (f : Flat) (k n : ℕ) (s : SymState) → IsSound f → StartsAs old new (cell_types f) (initial f k) s n → HasEachInitial f k new s
init_each old new f k n s h a m cells choices sites c l i =
    let w = initial_found f m k cells choices sites h c l i in
    record { model = w.model; agrees = w.agrees; at = other_number w.model new s n cells choices sites (at_place_as _ _ cells choices sites (a.same w.model) w.at) }

pub step_taken : (old new : List Node) (f : Flat) (k n : ℕ) (pre s : SymState) → IsSound f → StepsAs old new (cell_types f) (after_step f) pre k s n → IsStepWhereTaken f old pre new s
step_taken old new f k n pre s h a m p =
    subst (λ (d : Drawn). IsStep f m (map (value m old) pre.cells) d.cells d.chosen d.sites) (sym (a.same m)) (step_is f m (shows m old pre k) h (ap (λ (d : Drawn). d.goes) (sym (a.same m)) ∙ p))

-- what a known state stands for is the same under models that agree below the number of the next symbol
shown_same : (supply : List Ty) (old : List Node) (m n : Model) (pre : SymState) (k : ℕ) → WellTyped old → KnowsState supply old pre k → AgreeBelow k m n
    → doubled (shows n old pre k) ≡ doubled (shows m old pre k)
shown_same supply old m n pre k w p a =
    let agree = agree_below supply m n (subst (λ x. AgreeBelow x m n) p.next a) in
    let goes = same_value supply old m n w (sym a.tables) agree pre.path p.path in
    let cells = same_values supply old m n w (sym a.tables) agree pre.cells p.cells in
    ap (λ v. record { cells = map (value n old) pre.cells ++ map (value n old) pre.cells; goes = truth_of v; taken = true; chosen = []; sites = []; next = k }) goes
    ∙ ap (λ vs. record { cells = vs ++ vs; goes = holds m old pre.path; taken = true; chosen = []; sites = []; next = k }) cells

after_same : (f : Flat) (n : Model) (r s : Drawn) → doubled r ≡ doubled s → after_step f n r ≡ after_step f n s
unfolding stepped
after_same f n r s e = ap (λ d. later (length (cell_types f)) (drawn n (cell_types f ++ cell_types f) n.symbols f.step d)) e

pub step_each : (old new : List Node) (f : Flat) (k n : ℕ) (pre s : SymState) → IsSound f → WellTyped old → StepsAs old new (cell_types f) (after_step f) pre k s n → HasEachStep f k old pre new s
step_each old new f k n pre s h w a supply m cells choices sites p c l g i =
    let found = step_found f m (shows m old pre k) cells choices sites h c l g i in
    let same = after_same f found.model _ _ (shown_same supply old m found.model pre k w p found.agrees) in
    record { model = found.model; agrees = found.agrees; at = other_number found.model new s n cells choices sites (at_place_as _ _ cells choices sites (a.same found.model ∙ same) found.at) }
