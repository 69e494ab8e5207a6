-- Initial states on terms, steps one after another, and formulas after them.
use Rattle.std.proofs.Common.{◌≡◌, ℕ, ◌+◌, ◌<◌, ◌≤◌, List, [], ◌∷◌, ◌++◌, length, map, drop, take, refl, sym, ap, ◌∙◌, subst, arith, length-append, get_or, le_refl}
use Rattle.std.specs.Prelude.{All, true}
use Rattle.std.specs.List.{flat_map}
use Rattle.std.proofs.lemmas.List.{drop-map, take-map, take-append-le, map-append, length-map, take_more, take_all, length-take-le}
use Rattle.std.proofs.Math.Seq.{drop-append_seam}
use Rattle.std.proofs.lemmas.List.Elements.{All-take, All-drop, All-append, All-push}
use Rattle.uc_values.specs.declared.ty.Ty.{Ty}
use Rattle.uc_values.specs.declared.ty.Ty.TheVariants.{Bool}
use Rattle.uc_values.specs.declared.value.Value.{Value}
use Rattle.uc_values.specs.declared.value.Value.TheVariants.{Bool as Boolean}
use Rattle.uc_values.specs.Values.{truth_of}
use Rattle.uc_ops.specs.declared.model.Model.{Model}
use Rattle.uc_ops.specs.declared.node.Node.{Node}
use Rattle.uc_ops.specs.Typing.{type_at, Valid, AllValid}
use Rattle.uc_terms.specs.Values.{value}
use Rattle.uc_flat.specs.declared.expression.Expression.{Expression}
use Rattle.uc_flat.specs.declared.statement.Statement.{Statement}
use Rattle.uc_flat.specs.Reading.{type_of}
use Rattle.uc_flat.specs.Fine.{AreFine}
use Rattle.uc_flat.specs.Flats.{wider_types}
use Rattle.uc_flat.specs.Drawn.{Drawn, drawn, free, listed_if}
use Rattle.uc_symstep.specs.declared.state.Choice.{Choice}
use Rattle.uc_symstep.specs.declared.state.Hit.{Hit}
use Rattle.uc_symstep.specs.declared.state.Symbolic.{Symbolic}
use Rattle.uc_symstep.specs.declared.state.SymState.{SymState}
use Rattle.uc_symstep.specs.Growing.{Grows, IsTerm, AreCells}
use Rattle.uc_symstep.specs.Stands.{stands, holds, choice_in, hit_in, IsTruth, IsChoice, IsHit, IsState, Follows, IsSymbol}
use Rattle.uc_flat.specs.Unrolled.{free_values, begun, wider, started, doubled, stepped}
use Rattle.uc_symstep.specs.Unrolled.{Begins, BeginsWide, Doubles, shows, StartsAs, StepsAs}
use Rattle.uc_flat.proofs.Choosing.{code_chooses}
use Rattle.uc_symstep.proofs.Grown.{grows_on, grows_value, grows_type, grows_values, grows_types, grows_length, all_grow, cells_grow}
use Rattle.uc_symstep.proofs.States.{make, same_drawn, same_all, truth_grows, flat_map_push, choices_grow, choices_keep}

two_cells : (nodes : List Node) (types : List Ty) (cells : List ℕ) → AreCells nodes types cells → AreCells nodes (types ++ types) (cells ++ cells)
two_cells nodes types cells a = record {
  there = All-append (λ t. t < length nodes) cells cells a.there a.there;
  typed = map-append (type_at nodes) cells cells ∙ ap (λ ts. ts ++ map (type_at nodes) cells) a.typed ∙ ap (λ ts. types ++ ts) a.typed;
}

pub doubles : (old new : List Node) (types two : List Ty) (own twice copy : List ℕ) (path next taken : ℕ) (choices : List Choice) (sites : List Hit)
    → AreCells old types own → IsTruth old path → two ≡ types ++ types → IsTerm old new taken Bool (λ m. Boolean true) → copy ≡ own → twice ≡ own ++ copy → choices ≡ [] → sites ≡ []
    → Doubles old new two own path next (record { cells = twice; path = path; taken = taken; choices = choices; sites = sites; next = next })
doubles old new types two own twice copy path next taken choices sites h p i a j k l o =
    let e : twice ≡ own ++ own = k ∙ ap (λ xs. own ++ xs) j in
    let g = cells_grow old new types own a.grown h in
    record {
      grown = a.grown;
      state = record {
        cells = subst (λ ts. AreCells new ts twice) (sym i) (subst (AreCells new (types ++ types)) (sym e) (two_cells new types own g));
        path = truth_grows old new path a.grown p;
        taken = record { there = a.there; typed = a.typed };
        choices = subst (All (IsChoice new)) (sym l) (λ x d q. absurd (omega (arith, q)));
        sites = subst (All (IsHit new)) (sym o) (λ x d q. absurd (omega (arith, q)));
      };
      same = λ m.
          let r = grows_values old new a.grown m own h.there in
          same_drawn _ _ _ _ _ _ _ _ _ _ next
          (ap (map (value m new)) e ∙ map-append (value m new) own own ∙ ap (λ vs. vs ++ vs) r)
          (ap truth_of (grows_value old new a.grown m path p.there)) (ap truth_of (a.means m)) (ap (flat_map (choice_in m new)) l) (ap (flat_map (hit_in m new)) o);
    }

pub long_enough : (nodes : List Node) (types two : List Ty) (cells : List ℕ) → AreCells nodes two cells → two ≡ types ++ types → length types ≤ length cells
long_enough nodes types two cells a i = omega (arith, length-map cells (type_at nodes), ap length a.typed, ap length i, length-append types types)

half_cells : (nodes : List Node) (types two : List Ty) (cells : List ℕ) → AreCells nodes two cells → two ≡ types ++ types → AreCells nodes types (drop (length types) cells)
half_cells nodes types two cells a i = record {
  there = All-drop (λ t. t < length nodes) (length types) cells a.there;
  typed = sym (drop-map (type_at nodes) (length types) cells) ∙ ap (drop (length types)) (a.typed ∙ i) ∙ drop-append_seam types types;
}

-- what a state between steps is, in the list of old and new cells, where the code has run
pub steps_as : (old mid new : List Node) (types two : List Ty) (step : List Statement) (pre : SymState) (k : ℕ) (d r : Symbolic) (own xs cells : List ℕ)
    → two ≡ types ++ types → own ≡ pre.cells → Doubles old mid two own pre.path k d → Follows mid new two (λ m. drawn m two m.symbols step) d r → xs ≡ r.cells → cells ≡ drop (length types) xs
    → StepsAs old new types (λ m. stepped m types step) pre k (record { cells = cells; path = r.path; sites = r.sites; choices = r.choices }) r.next
unfolding stepped
steps_as old mid new types two step pre k d r own xs cells i e f g x c' =
    let c : cells ≡ drop (length types) r.cells = c' ∙ ap (drop (length types)) x in
    record {
      grown = grows_on old mid new f.grown g.grown;
      state = record { cells = subst (AreCells new types) (sym c) (half_cells new types two r.cells g.state.cells i); path = g.state.path; choices = g.state.choices; sites = g.state.sites };
      same = λ m.
          let begin : stands m mid d ≡ doubled (shows m old pre k) = f.same m ∙ ap (λ ys. make (map (value m old) ys ++ map (value m old) ys) (holds m old pre.path) true [] [] k) e in
          let ran : stands m new r ≡ drawn m (types ++ types) m.symbols step (doubled (shows m old pre k)) = g.same m ∙ ap (drawn m two m.symbols step) begin ∙ ap (λ ts. drawn m ts m.symbols step (doubled (shows m old pre k))) i in
          let on : (drawn m (types ++ types) m.symbols step (doubled (shows m old pre k))).taken ≡ true = (code_chooses m (types ++ types) m.symbols step).keeps (doubled (shows m old pre k)) in
          same_all _ _ _ _ _ _ _ _ _ _ _ _
          (ap (map (value m new)) c ∙ sym (drop-map (value m new) (length types) r.cells) ∙ ap (λ (x : Drawn). drop (length types) x.cells) ran)
          (ap (λ (x : Drawn). x.goes) ran) (sym on) (ap (λ (x : Drawn). x.chosen) ran) (ap (λ (x : Drawn). x.sites) ran) (ap (λ (x : Drawn). x.next) ran);
    }

pub begins_wide : (old mid new : List Node) (types : List Ty) (further : List Expression) (n : ℕ) (d t : Symbolic) → Begins old mid types n d → Follows mid new (wider_types types further) (λ m. wider m types further) d t
    → BeginsWide old new types further n t
begins_wide old mid new types further n d t f g = record {
  grown = grows_on old mid new f.grown g.grown;
  state = g.state;
  same = λ m. g.same m ∙ ap (wider m types further) (f.same m);
}

-- the types of the terms of the cells
pub wide_is : (nodes : List Node) (types wide ts : List Ty) (further : List Expression) (cells own : List ℕ) → AreCells nodes (wider_types types further) cells → own ≡ cells → ts ≡ map (type_at nodes) own → wide ≡ ts → wide ≡ wider_types types further
wide_is nodes types wide ts further cells own a o t w = w ∙ t ∙ ap (map (type_at nodes)) o ∙ a.typed

pub wide_state : (nodes : List Node) (types wide ts : List Ty) (further : List Expression) (own : List ℕ) (d : Symbolic) → IsState nodes (wider_types types further) d → own ≡ d.cells → ts ≡ map (type_at nodes) own → wide ≡ ts → IsState nodes wide d
wide_state nodes types wide ts further own d h o t w = subst (λ us. IsState nodes us d) (sym (wide_is nodes types wide ts further d.cells own h.cells o t w)) h

pub wide_fine : (nodes : List Node) (types wide ts : List Ty) (further : List Expression) (own : List ℕ) (d : Symbolic) (init : List Statement) → IsState nodes (wider_types types further) d → own ≡ d.cells → ts ≡ map (type_at nodes) own → wide ≡ ts
    → AreFine (wider_types types further) init → AreFine wide init
wide_fine nodes types wide ts further own d init h o t w fine = subst (λ us. AreFine us init) (sym (wide_is nodes types wide ts further d.cells own h.cells o t w)) fine

pub own_there : (nodes : List Node) (types : List Ty) (own cells : List ℕ) → AreCells nodes types cells → own ≡ cells → All (λ t. t < length nodes) own
own_there nodes types own cells a o = subst (All (λ t. t < length nodes)) (sym o) a.there

take-seam : {A : Type 0} (xs ys : List A) → take (length xs) (xs ++ ys) ≡ xs
take-seam xs ys = take-append-le (length xs) xs ys (le_refl (length xs)) ∙ take_all (length xs) xs (le_refl (length xs))

pub long_front : (nodes : List Node) (types wide : List Ty) (further : List Expression) (cells xs : List ℕ) → AreCells nodes wide cells → wide ≡ wider_types types further → xs ≡ cells → length types ≤ length xs
long_front nodes types wide further cells xs a i x = omega (arith, length-map cells (type_at nodes), ap length a.typed, ap length i, length-append types (map (type_of types) further), ap length x)

front_cells : (nodes : List Node) (types wide : List Ty) (further : List Expression) (cells : List ℕ) → AreCells nodes wide cells → wide ≡ wider_types types further → AreCells nodes types (take (length types) cells)
front_cells nodes types wide further cells a i = record {
  there = All-take (λ t. t < length nodes) (length types) cells a.there;
  typed = sym (take-map (type_at nodes) (length types) cells) ∙ ap (take (length types)) (a.typed ∙ i) ∙ take-seam types (map (type_of types) further);
}

-- the cells of the state, where the init code has run with further cells
pub starts_as : (old mid new : List Node) (types wide : List Ty) (further : List Expression) (init : List Statement) (n : ℕ) (d r : Symbolic) (xs cells : List ℕ)
    → wide ≡ wider_types types further → BeginsWide old mid types further n d → Follows mid new wide (λ m. drawn m wide m.symbols init) d r → xs ≡ r.cells → cells ≡ take (length types) xs
    → StartsAs old new types (λ m. started m types further init n) (record { cells = cells; path = r.path; sites = r.sites; choices = r.choices }) r.next
unfolding started
starts_as old mid new types wide further init n d r xs cells i f g x c' =
    let c : cells ≡ take (length types) r.cells = c' ∙ ap (take (length types)) x in
    let all = wider_types types further in
    record {
      grown = grows_on old mid new f.grown g.grown;
      state = record { cells = subst (AreCells new types) (sym c) (front_cells new types wide further r.cells g.state.cells i); path = g.state.path; choices = g.state.choices; sites = g.state.sites };
      same = λ m.
          let start = wider m types further (begun m.symbols types n) in
          let ran : stands m new r ≡ drawn m all m.symbols init start = g.same m ∙ ap (drawn m wide m.symbols init) (f.same m) ∙ ap (λ ts. drawn m ts m.symbols init start) i in
          let on : (drawn m all m.symbols init start).taken ≡ true = (code_chooses m all m.symbols init).keeps start in
          same_all _ _ _ _ _ _ _ _ _ _ _ _
          (ap (map (value m new)) c ∙ sym (take-map (value m new) (length types) r.cells) ∙ ap (λ (x : Drawn). take (length types) x.cells) ran)
          (ap (λ (x : Drawn). x.goes) ran) (sym on) (ap (λ (x : Drawn). x.chosen) ran) (ap (λ (x : Drawn). x.sites) ran) (ap (λ (x : Drawn). x.next) ran);
    }

free_values-push : (frees : List Value) (types : List Ty) (ty : Ty) (n : ℕ) → free_values frees (types ++ ty ∷ []) n ≡ free_values frees types n ++ free frees ty (n + length types) ∷ []
unfolding free_values
free_values-push frees [] ty n = ap (λ k. free frees ty k ∷ []) (omega arith)
free_values-push frees (t ∷ types) ty n =
    ap (λ vs. free frees t n ∷ vs) (free_values-push frees types ty (n + 1))
    ∙ ap (λ k. free frees t n ∷ free_values frees types (n + 1) ++ free frees ty k ∷ []) (omega arith)

-- the cells so far
pub record Beginning (old now : List Node) (types : List Ty) (n always : ℕ) (own : List ℕ) (listed : List Choice) (count k : ℕ) : Type 0 where
  pub grown : Grows old now
  pub truth : IsTerm old now always Bool (λ m. Boolean true)
  pub there : All (λ t. t < length now) own
  pub typed : map (type_at now) own ≡ take k types
  pub values : (m : Model) → map (value m now) own ≡ free_values m.symbols (take k types) n
  pub choices : All (IsChoice now) listed
  pub chosen : (m : Model) → flat_map (choice_in m now) listed ≡ free_values m.symbols (take k types) n
  pub number : count ≡ n + k

term_grows : (old now new : List Node) (t : ℕ) (ty : Ty) (f : Model → Value) → Grows now new → IsTerm old now t ty f → IsTerm old new t ty f
term_grows old now new t ty f g a = record {
  grown = grows_on old now new a.grown g;
  there = omega (arith, a.there, grows_length now new g);
  typed = grows_type now new g t a.there ∙ a.typed;
  means = λ m. grows_value now new g m t a.there ∙ a.means m;
}

begun_nothing : (old now : List Node) (types : List Ty) (n truth : ℕ) → IsTerm old now truth Bool (λ m. Boolean true) → Beginning old now types n truth [] [] n 0
unfolding free_values
begun_nothing old now types n truth a = record {
  grown = a.grown;
  truth = a;
  there = λ k d l. absurd (omega (arith, l));
  typed = refl;
  values = λ m. refl;
  choices = λ k d l. absurd (omega (arith, l));
  chosen = λ m. refl;
  number = omega arith;
}

pub begun_none : (old now : List Node) (types : List Ty) (n truth : ℕ) (cells : List ℕ) (choices : List Choice) → IsTerm old now truth Bool (λ m. Boolean true) → cells ≡ [] → choices ≡ []
    → Beginning old now types n truth cells choices n 0
begun_none old now types n truth cells choices a i j =
    subst (λ xs. Beginning old now types n truth xs choices n 0) (sym i) (subst (λ cs. Beginning old now types n truth [] cs n 0) (sym j) (begun_nothing old now types n truth a))

pub begun_more : (old now new : List Node) (types : List Ty) (n truth : ℕ) (cells more : List ℕ) (choices others : List Choice) (number after k t : ℕ) (ty : Ty)
    → Beginning old now types n truth cells choices number k → IsSymbol now new t ty number
    → k < length types → ty ≡ get_or types k ty → more ≡ cells ++ t ∷ [] → others ≡ choices ++ (record { term = t; taken = truth }) ∷ [] → after ≡ number + 1
    → Beginning old new types n truth more others after (k + 1)
begun_more old now new types n truth cells more choices others number after k t ty b s l i j c a =
    let g = s.grown in
    let choice : Choice = record { term = t; taken = truth } in
    let h = term_grows old now new truth Bool (λ m. Boolean true) g b.truth in
    let front : take (k + 1) types ≡ take k types ++ ty ∷ [] = take_more types k ty l ∙ ap (λ y. take k types ++ y ∷ []) (sym i) in
    let count : n + length (take k types) ≡ number = omega (arith, b.number, ap length b.typed, length-map cells (type_at now), length-take-le k types (omega (arith, l))) in
    let next : (m : Model) → free_values m.symbols (take k types) n ++ value m new t ∷ [] ≡ free_values m.symbols (take (k + 1) types) n = λ m.
    ap (λ v. free_values m.symbols (take k types) n ++ v ∷ []) (s.means m ∙ ap (free m.symbols ty) (sym count))
    ∙ sym (ap (λ ts. free_values m.symbols ts n) front ∙ free_values-push m.symbols (take k types) ty n) in
    record {
      grown = grows_on old now new b.grown g;
      truth = h;
      there = subst (All (λ u. u < length new)) (sym j) (All-push (λ u. u < length new) cells t (all_grow now new g cells b.there) s.there);
      typed =
          ap (map (type_at new)) j ∙ map-append (type_at new) cells (t ∷ [])
          ∙ ap (λ ts. ts ++ type_at new t ∷ []) (grows_types now new g cells b.there ∙ b.typed)
          ∙ ap (λ u. take k types ++ u ∷ []) s.typed
          ∙ sym front;
      values = λ m.
          ap (map (value m new)) j ∙ map-append (value m new) cells (t ∷ [])
          ∙ ap (λ vs. vs ++ value m new t ∷ []) (grows_values now new g m cells b.there ∙ b.values m)
          ∙ next m;
      choices = subst (All (IsChoice new)) (sym c) (All-push (IsChoice new) choices choice (choices_grow now new choices g b.choices) (record { term = s.there; taken = h.there }));
      chosen = λ m.
          ap (flat_map (choice_in m new)) c ∙ flat_map_push (choice_in m new) choices choice
          ∙ ap (λ v. flat_map (choice_in m new) choices ++ listed_if (truth_of v) (value m new t)) (h.means m)
          ∙ ap (λ vs. vs ++ value m new t ∷ []) (choices_keep now new g m choices b.choices ∙ b.chosen m)
          ∙ next m;
      number = omega (arith, a, b.number);
    }

pub begun_end : (old now : List Node) (types : List Ty) (n truth : ℕ) (cells : List ℕ) (choices : List Choice) (number k : ℕ) (sites : List Hit)
    → Beginning old now types n truth cells choices number k → k ≡ length types → sites ≡ []
    → Begins old now types n (record { cells = cells; path = truth; taken = truth; choices = choices; sites = sites; next = number })
begun_end old now types n truth cells choices number k sites b e s =
    let all : take k types ≡ types = take_all k types (omega (arith, e)) in
    let true_ : IsTruth now truth = record { there = b.truth.there; typed = b.truth.typed } in
    record {
      grown = b.grown;
      state = record {
        cells = record { there = b.there; typed = b.typed ∙ all };
        path = true_;
        taken = true_;
        choices = b.choices;
        sites = subst (All (IsHit now)) (sym s) (λ p d q. absurd (omega (arith, q)));
      };
      same = λ m.
          ap (λ x. make (map (value m now) cells) (truth_of (value m now truth)) (truth_of (value m now truth)) (flat_map (choice_in m now) choices) (flat_map (hit_in m now) sites) x) (b.number ∙ ap (λ x. n + x) e)
          ∙ same_drawn _ _ _ _ _ _ _ _ _ _ (n + length types)
          (b.values m ∙ ap (λ ts. free_values m.symbols ts n) all) (ap truth_of (b.truth.means m)) (ap truth_of (b.truth.means m))
          (b.chosen m ∙ ap (λ ts. free_values m.symbols ts n) all) (ap (flat_map (hit_in m now)) s);
    }

pub valid_item : (types : List Ty) (k : ℕ) (ty : Ty) → k < length types → ty ≡ get_or types k ty → AllValid types → Valid ty
valid_item types k ty l i h = subst Valid (sym i) (h k ty l)
