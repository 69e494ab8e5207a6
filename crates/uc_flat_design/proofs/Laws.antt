-- A design and its design over cells have the same initial states and steps, and their formulas say the same.
use Rattle.std.proofs.Common.{◌≡◌, ℕ, zero, suc, List, [], ◌∷◌, ◌++◌, map, length, take, drop, refl, sym, ap, ◌∙◌, subst, true, Option, Some, None, arith, append-nil}
use Rattle.std.specs.Prelude.{slice_get}
use Rattle.std.specs.List.{flat_map, list_all}
use Rattle.std.proofs.lemmas.List.{length-map}
use Rattle.uc_syntax.specs.declared.declaration.Module.{Module}
use Rattle.uc_values.specs.declared.ty.Ty.{Ty}
use Rattle.uc_values.specs.declared.value.Value.{Value}
use Rattle.uc_meaning.specs.declared.scope.Interp.{Interp}
use Rattle.uc_meaning.specs.declared.scope.Site.{Site}
use Rattle.uc_meaning.specs.declared.scope.State.{State}
use Rattle.uc_meaning.specs.Lookup.{System, main_module, init_of, next_of}
use Rattle.uc_meaning.specs.Cells.{Cell, ConstantParts, constants_of, longest_chain, as_list, instances_below, main_instance, cells_of, IsState, FitAll as FitTypes}
use Rattle.uc_meaning.specs.Code.{Running, Ending, Goes, Stopped, Unfit, then_run, run_each, run_by, bodies, run, in_scope}
use Rattle.uc_meaning.specs.Expressions.{at_path}
use Rattle.uc_meaning.specs.Steps.{IsInitial, IsStep, init_from, init, state_of, check_by, check_through, watched_first, main_next}
use Rattle.uc_ops.specs.declared.model.Model.{Model}
use Rattle.uc_flat.specs.declared.flat.Flat.{Flat}
use Rattle.uc_flat.specs.declared.flat.Constant.{Constant as FlatConstant}
use Rattle.uc_flat.specs.declared.statement.Statement.{Statement}
use Rattle.uc_flat.specs.Flats.{cell_types, wider_types, init_types}
use Rattle.uc_flat.specs.Unrolled.{widened}
use Rattle.uc_flat.specs.Running.{Placed, run_all}
use Rattle.uc_flat.specs.Executions.{FitAll, IsInitial as IsInitialOver, IsStep as IsStepOver}
use Rattle.uc_flat_design.specs.Names.{StandsAlone, names_over_cells, types_of, constant_types, flat_constant}
use Rattle.uc_flat_design.specs.Constants.{SharesConstants}
use Rattle.uc_flat_design.proofs.Cells.{stands_alone}
use Rattle.uc_flat_code.specs.CellTypes.{cell_type_of}
use Rattle.uc_flat_design.specs.FlatInitLawLaw.{running, placed, AreAt, EndAlike}
use Rattle.uc_flat_design.proofs.Walk.{init_code_means}
use Rattle.uc_flat_design.specs.Next.{primed_behind, step_code, IsAsked, IsReached, IsNextCode}
use Rattle.uc_flat_design.proofs.Stepping.{found_holds, asks_holds, fits_hold}
use Rattle.uc_flat_design.specs.Design.{flat_cell, next_names, next_arranged, IsFlatOf}
use Rattle.uc_flat_design.specs.Laws.{IsInitialThere, IsInitialHere, InitialLaw, IsStepThere, IsStepHere, StepLaw}
use Rattle.uc_flat_design.proofs.Tables.{fit_cells, fit_types, all_plain, all_valid, no_instances}
use Rattle.uc_flat_design.proofs.NextTable.{next_table}
use Rattle.uc_flat_design.proofs.InitPlain.{code_plain}
use Rattle.uc_flat_order.specs.Arranged.{IsTakenFrom}
use Rattle.uc_flat_order.specs.GuardedLaws.{is_plain}
use Rattle.uc_flat_order.proofs.PlainCode.{plain_if_taken}
use Rattle.uc_flat_order.proofs.Pairs.{block_taken}

some_same : {A : Type 0} (x y : A) → Some x ≡ Some y → x ≡ y
some_same x y h = cc

none_some : {A : Type 0} (y : A) → None ≡ Some y → ⊥
none_some y h = cc

pub main_is : (system : System) (code : Module) (f : Flat) → IsFlatOf system code f → main_module system ≡ Some code
main_is system code f d = ap (λ k. slice_get system.modules k) d.first ∙ ap (λ ms. slice_get ms 0) d.only

pub alone_of : (system : System) (code : Module) (f : Flat) → IsFlatOf system code f → StandsAlone system code
alone_of system code f d = stands_alone system code d.only d.first (no_instances code.decls d.declarations)

types_are : (cells : List Cell) → map (λ c. c.ty) (map flat_cell cells) ≡ map (λ (c : Cell). c.type) cells
types_are [] = refl
types_are (c ∷ cells) = ap (λ ts. c.type ∷ ts) (types_are cells)

pub flat_types : (system : System) (code : Module) (f : Flat) → IsFlatOf system code f → cell_types f ≡ types_of system
flat_types system code f d = ap cell_types d.is ∙ types_are (cells_of system)

-- the further cells and the init code are those of the init block
pub flat_further : (system : System) (code : Module) (f : Flat) (d : IsFlatOf system code f) → f.further ≡ d.init.further
flat_further system code f d = ap (λ (g : Flat). g.further) d.is

pub flat_init_types : (system : System) (code : Module) (f : Flat) (d : IsFlatOf system code f) → init_types f ≡ wider_types (types_of system) d.init.further
flat_init_types system code f d = ap (wider_types (cell_types f)) (flat_further system code f d) ∙ ap (λ ts. wider_types ts d.init.further) (flat_types system code f d)

flat_widened : (system : System) (code : Module) (f : Flat) (d : IsFlatOf system code f) (m : Model) (cells : List Value) → widened m (cell_types f) f.further cells ≡ widened m (types_of system) d.init.further cells
flat_widened system code f d m cells = ap (λ es. widened m (cell_types f) es cells) (flat_further system code f d) ∙ ap (λ ts. widened m ts d.init.further cells) (flat_types system code f d)

constants_are : (parts : List ConstantParts) → map (λ (c : FlatConstant). c.ty) (map flat_constant parts) ≡ map (λ (c : ConstantParts). c.type) parts
constants_are [] = refl
constants_are (c ∷ parts) = ap (λ ts. c.type ∷ ts) (constants_are parts)

pub flat_constant_types : (system : System) (code : Module) (f : Flat) → IsFlatOf system code f → map (λ c. c.ty) f.constants ≡ constant_types system
flat_constant_types system code f d = ap (λ (g : Flat). map (λ c. c.ty) g.constants) d.is ∙ constants_are (constants_of system)

-- all init code is the init block of main
init_is : (system : System) (code : Module) (f : Flat) → IsFlatOf system code f → (i : Interp) (cells left : List Value) → init system (running i cells left) ≡ run_by system (bodies system) (init_of code) (running i cells left)
unfolding init init_from run_each
init_is system code f d i cells left =
    ap (λ o. run_each (map (λ m. init_from longest_chain system (main_instance m)) (as_list o)) (running i cells left)) (main_is system code f d)
    ∙ ended (init_from longest_chain system (main_instance code) (running i cells left))
    ∙ ap (λ is. then_run (run_each (map (init_from 31 system) is) (running i cells left)) (λ r'. run system (init_of code) (in_scope r' (at_path r'.scope [])))) (below_none system code f d)
  where
    ended : (e : Ending) → then_run e (run_each []) ≡ e
    ended (Goes r) = refl
    ended Stopped = refl
    ended (Unfit rest) = refl

    below_none : (system : System) (code : Module) (f : Flat) → IsFlatOf system code f → instances_below system (main_instance code) ≡ []
    below_none system code f d = ap (flat_map _) (alone_of system code f d).alone

-- the blocks have no assert, loop, call or step of an instance inside
pub init_plain : (system : System) (code : Module) (f : Flat) → IsFlatOf system code f → list_all is_plain (init_of code) ≡ true
init_plain system code f d = code_plain (cell_type_of system code) (names_over_cells system code) (length (cells_of system)) (init_of code) d.init d.init_is

pub next_plain : (system : System) (code : Module) (f : Flat) → IsFlatOf system code f → list_all is_plain (next_of code) ≡ true
next_plain system code f d =
    plain_if_taken (next_names system code) (primed_behind (length (cells_of system))) (next_arranged system code) (next_of code) d.next (block_taken (next_names system code) (length (cells_of system)) (next_of code)) d.next_is

-- an ending over cells from one of the design, and the other way round
from_ending : (types : List Ty) (others : List Value) (e : Ending) (o : Option Placed) (r : Running) → EndAlike types others e o → e ≡ Goes r → (p : Placed) × (o ≡ Some p) × AreAt types others r p
from_ending types others (Goes q) (Some p) r h e = (p, refl, subst (λ z. AreAt types others z p) (goes_same q r e) h)
  where
    goes_same : (a b : Running) → Goes a ≡ Goes b → a ≡ b
    goes_same a b g = cc
from_ending types others (Goes q) None r h e = absurd h
from_ending types others Stopped o r h e = absurd (cc)
from_ending types others (Unfit rest) o r h e = absurd (cc)

to_ending : (types : List Ty) (others : List Value) (e : Ending) (o : Option Placed) (p : Placed) → EndAlike types others e o → o ≡ Some p → (r : Running) × (e ≡ Goes r) × AreAt types others r p
to_ending types others (Goes r) (Some q) p h e = (r, refl, subst (AreAt types others r) (some_same q p e) h)
to_ending types others (Goes r) None p h e = absurd h
to_ending types others Stopped (Some q) p h e = absurd h
to_ending types others Stopped None p h e = absurd (none_some p e)
to_ending types others (Unfit rest) (Some q) p h e = absurd h
to_ending types others (Unfit rest) None p h e = absurd (none_some p e)

fit_length : (types : List Ty) (values : List Value) → FitAll types values → length values ≡ length types
unfolding FitAll
fit_length [] [] h = refl
fit_length [] (v ∷ values) h = absurd h
fit_length (ty ∷ types) [] h = absurd h
fit_length (ty ∷ types) (v ∷ values) h = omega (arith, fit_length types values h.1)

take_front : (xs ys : List Value) (n : ℕ) → n ≡ length xs → take n (xs ++ ys) ≡ xs
take_front [] ys n h = ap (λ k. take k ys) h
take_front (x ∷ xs) ys zero h = absurd (omega (arith, h))
take_front (x ∷ xs) ys (suc n) h = ap (λ zs. x ∷ zs) (take_front xs ys n (omega (arith, h)))

drop_front : (xs ys : List Value) (n : ℕ) → n ≡ length xs → drop n (xs ++ ys) ≡ ys
drop_front [] ys n h = ap (λ k. drop k ys) h
drop_front (x ∷ xs) ys zero h = absurd (omega (arith, h))
drop_front (x ∷ xs) ys (suc n) h = drop_front xs ys n (omega (arith, h))

whole : (xs : List Value) (n : ℕ) → xs ≡ take n xs ++ drop n xs
whole [] zero = refl
whole [] (suc n) = refl
whole (x ∷ xs) zero = refl
whole (x ∷ xs) (suc n) = ap (λ ys. x ∷ ys) (whole xs n)

module _ (system : System) (code : Module) (f : Flat) (i : Interp) (m : Model) (d : IsFlatOf system code f) (shared : SharesConstants system i m) where
  abbrev wide : List Ty
  wide = wider_types (types_of system) d.init.further

  -- the cells before all init code
  abbrev start : List Value → List Value
  start cells = widened m (types_of system) d.init.further cells

  abbrev alike : (others cells left : List Value) → FitAll (types_of system) cells → EndAlike (types_of system) others (run_by system (bodies system) (init_of code) (running i cells left)) (run_all m wide d.init.code (placed others (start cells) left))
  alike others cells left fit =
      init_code_means system code i m (bodies system) (init_of code) d.init others cells left (alone_of system code f d) shared (all_valid (constant_types system) d.constants) (all_valid (types_of system) d.types) d.init_is fit

  -- the init code over the cells of the design and its further cells
  same_init : (others cells left : List Value) → run_all m (init_types f) f.init (placed others (widened m (cell_types f) f.further cells) left) ≡ run_all m wide d.init.code (placed others (start cells) left)
  same_init others cells left =
      ap (λ cs. run_all m (init_types f) f.init (placed others cs left)) (flat_widened system code f d m cells)
      ∙ ap (λ ts. run_all m ts f.init (placed others (start cells) left)) (flat_init_types system code f d)
      ∙ ap (λ (g : Flat). run_all m wide g.init (placed others (start cells) left)) d.is

  count : length (cell_types f) ≡ length (types_of system)
  count = ap length (flat_types system code f d)

  initial_there : (s : State) (choices : List Value) (sites : List Site) → IsInitial system i s choices sites → IsInitialThere f m s choices sites
  initial_there s choices sites h =
      let n = length (cells_of system) in
      let first = take n choices in
      let left = drop n choices in
      let fit = fit_cells (types_of system) first h.begins in
      let e = sym (init_is system code f d i first left) ∙ h.ends in
      let a = from_ending (types_of system) [] (run_by system (bodies system) (init_of code) (running i first left)) (run_all m wide d.init.code (placed [] (start first) left)) h.end (alike [] first left fit) e in
      let p = a.0 in
      let at = a.2 in
      let same : s ≡ state_of (take (length (types_of system)) p.cells) = sym h.reaches ∙ at.state in
      let none : p.left ≡ [] = sym at.left ∙ h.uses_all in
      let end : p ≡ placed [] p.cells [] = λ j. record { cells = p.cells; left = none j; others = at.untaken j; sites = at.none j } in
      record {
        no_sites = sym h.lists ∙ at.no_sites;
        initial = record {
          firsts = first;
          rest = left;
          others = [];
          last = p.cells;
          begins = subst (λ ts. FitAll ts first) (sym (flat_types system code f d)) fit;
          all = whole choices n;
          ends = same_init [] first left ∙ a.1 ∙ ap Some end;
          reaches = ap (λ k. take k p.cells) count ∙ sym (ap (λ (q : State). q.cells) same);
        };
      }

  initial_here : (cells choices : List Value) (sites : List ℕ) → IsInitialOver f m cells choices sites → IsInitialHere system i cells choices sites
  initial_here cells choices sites h =
      let n = length (cells_of system) in
      let fit : FitAll (types_of system) h.firsts = subst (λ ts. FitAll ts h.firsts) (flat_types system code f d) h.begins in
      let even : n ≡ length h.firsts = omega (arith, fit_length (types_of system) h.firsts fit, length-map (cells_of system) (λ (c : Cell). c.type)) in
      let e = sym (same_init h.others h.firsts h.rest) ∙ h.ends in
      let end : Placed = record { cells = h.last; left = []; others = []; sites = sites } in
      let a = to_ending (types_of system) h.others (run_by system (bodies system) (init_of code) (running i h.firsts h.rest)) (run_all m wide d.init.code (placed h.others (start h.firsts) h.rest)) end (alike h.others h.firsts h.rest fit) e in
      let at = a.2 in
      let first : take n choices ≡ h.firsts = ap (take n) h.all ∙ take_front h.firsts h.rest n even in
      let left : drop n choices ≡ h.rest = ap (drop n) h.all ∙ drop_front h.firsts h.rest n even in
      let same : take (length (types_of system)) h.last ≡ cells = ap (λ k. take k h.last) (sym count) ∙ h.reaches in
      record {
        no_sites = at.none;
        fits = fit_types (types_of system) cells (subst (FitAll (types_of system)) same at.fit);
        initial = record {
          begins = subst (FitTypes (types_of system)) (sym first) (fit_types (types_of system) h.firsts fit);
          end = a.0;
          ends = ap (λ xs. init system (running i xs (drop n choices))) first ∙ ap (λ xs. init system (running i h.firsts xs)) left ∙ init_is system code f d i h.firsts h.rest ∙ a.1;
          reaches = at.state ∙ ap state_of same;
          uses_all = at.left;
          lists = at.no_sites;
        };
      }

  -- ---- steps

  next_code : IsNextCode system m (next_names system code) i (cells_of system) (next_arranged system code) d.next
  next_code = record { table = next_table system code (alone_of system code f d) m d.types d.constants i shared; plain = all_plain (types_of system) d.types; is = d.next_is }

  same_statements : IsTakenFrom (next_arranged system code) (next_of code)
  same_statements = block_taken (next_names system code) (length (cells_of system)) (next_of code)

  pub next_is : main_next system ≡ next_of code
  next_is = ap (λ o. flat_map next_of (as_list o)) (main_is system code f d) ∙ append-nil (next_of code)

  abbrev Reaches : List Ty → List Statement → List Value → List Value → List Value → List ℕ → Type 0
  Reaches types steps old new choices sites = IsReached m types steps old new choices sites

  to_reached : (old new choices : List Value) (sites : List ℕ) → IsStepOver f m old new choices sites → IsReached m (types_of system) (step_code (cells_of system) d.next) old new choices sites
  to_reached old new choices sites h =
      subst (λ ts. IsReached m ts (step_code (cells_of system) d.next) old new choices sites) (flat_types system code f d)
      (subst (λ (g : Flat). IsReached m (cell_types f) g.step old new choices sites) d.is (record { others = h.others; last = h.last; ends = h.ends; reaches = h.reaches }))

  from_reached : (old new choices : List Value) (sites : List ℕ) → IsReached m (types_of system) (step_code (cells_of system) d.next) old new choices sites → IsStepOver f m old new choices sites
  from_reached old new choices sites h =
      let r = subst (λ (g : Flat). IsReached m (cell_types f) g.step old new choices sites) (sym d.is) (subst (λ ts. IsReached m ts (step_code (cells_of system) d.next) old new choices sites) (sym (flat_types system code f d)) h) in
      record { others = r.others; last = r.last; ends = r.ends; reaches = r.reaches }

  step_there : (old new : State) (choices : List Value) (sites : List Site) → IsState system old → IsState system new → IsStep system i old new choices sites → IsStepThere f m old new choices sites
  step_there old new choices sites fit_old fit_new h =
      let asked : IsAsked system (check_through longest_chain system) i (cells_of system) (next_of code) old.cells new.cells choices sites = record {
        seen = h.seen;
        holds = ap (λ c. check_by system (check_through longest_chain system) c (watched_first i old new choices)) (sym next_is) ∙ h.holds;
        uses_all = h.uses_all;
        lists = h.lists;
        keeps = h.keeps;
      } in
      let found = found_holds system (check_through longest_chain system) i m (next_names system code) (cells_of system) (next_of code) (next_arranged system code) d.next old.cells new.cells choices sites d.after same_statements next_code d.once
      (fit_cells (types_of system) old.cells fit_old) (fit_cells (types_of system) new.cells fit_new) asked in
      record { no_choices = found.no_choices; no_sites = found.no_sites; step = from_reached old.cells new.cells [] [] found.reached }

  step_here : (old new choices : List Value) (sites : List ℕ) → IsState system (state_of old) → IsStepOver f m old new choices sites → IsStepHere system i old new choices sites
  step_here old new choices sites fit_old h =
      let reached = to_reached old new choices sites h in
      let fit = fit_cells (types_of system) old fit_old in
      let fit_new = fits_hold system (check_through longest_chain system) i m (next_names system code) (cells_of system) (next_arranged system code) d.next old new choices sites next_code fit reached in
      let found = asks_holds system (check_through longest_chain system) i m (next_names system code) (cells_of system) (next_of code) (next_arranged system code) d.next old new choices sites d.after same_statements next_code d.once fit fit_new reached in
      record {
        no_choices = found.no_choices;
        no_sites = found.no_sites;
        fits = fit_types (types_of system) new fit_new;
        step = record {
          seen = found.asked.seen;
          holds = ap (λ c. check_by system (check_through longest_chain system) c (watched_first i (state_of old) (state_of new) [])) next_is ∙ found.asked.holds;
          uses_all = found.asked.uses_all;
          lists = found.asked.lists;
          keeps = found.asked.keeps;
        };
      }

pub initial_holds : InitialLaw
initial_holds = record {
  there = λ system code f i m s choices sites d shared h. initial_there system code f i m d shared s choices sites h;
  here = λ system code f i m cells choices sites d shared h. initial_here system code f i m d shared cells choices sites h;
}

pub step_holds : StepLaw
step_holds = record {
  there = λ system code f i m old new choices sites d shared fit_old fit_new h. step_there system code f i m d shared old new choices sites fit_old fit_new h;
  here = λ system code f i m old new choices sites d shared fit_old h. step_here system code f i m d shared old new choices sites fit_old h;
}
