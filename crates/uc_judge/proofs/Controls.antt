-- The commands of the one control block.
use Rattle.std.proofs.Common.{◌≡◌, ℕ, zero, suc, ◌+◌, ◌<◌, ◌≤◌, Bool, true, false, not, ◌&&◌, ◌||◌, List, [], ◌∷◌, ◌++◌, drop, length, get_or, refl, sym, ap, ◌∙◌, arith}
use Rattle.std.specs.Prelude.{nat_le, slice_get}
use Rattle.std.specs.List.{list_all, list_any, flat_map}
use Rattle.std.proofs.lemmas.List.{append-nil}
use Rattle.std.proofs.lemmas.Bool.Decides.{nat_tests}
use Rattle.uc_lexer.specs.declared.place.Place.{Place}
use Rattle.uc_syntax.specs.declared.declaration.Command.{Command}
use Rattle.uc_syntax.specs.declared.declaration.Decl.{Decl}
use Rattle.uc_syntax.specs.declared.declaration.Decl.TheVariants.{Control}
use Rattle.uc_syntax.specs.declared.declaration.Module.{Module}
use Rattle.uc_values.proofs.Shapes.{and_true}
use Rattle.uc_meaning.specs.Lookup.{System}
use Rattle.uc_meaning.specs.Lines.{commands_in, main_declarations}
use Rattle.uc_meaning.specs.Cells.{as_list}
use Rattle.uc_meaning.specs.Fragment.{at_most_one, at_most_one_after, is_control, most_steps}
use Rattle.uc_runnable.specs.Commands.{runs}
use Rattle.uc_runnable.specs.Plain.{is_plain_decl, is_plain}
use Rattle.uc_runnable.specs.Runnable.{IsRunnable}
use Rattle.uc_meaning.proofs.Lists.{drop_turn}

or_parts : (a b : Bool) → (a || b) ≡ false → (a ≡ false) × (b ≡ false)
or_parts true b h = cc
or_parts false b h = (refl, h)

no_control : (d : Decl) → is_control d ≡ false → commands_in d ≡ []
no_control (Control place commands) h = cc
no_control other h = refl

none_of : (ds : List Decl) → list_any is_control ds ≡ false → flat_map commands_in ds ≡ []
none_of [] h = refl
none_of (d ∷ ds) h = let p = or_parts (is_control d) (list_any is_control ds) h in ap (λ ys. ys ++ flat_map commands_in ds) (no_control d p.0) ∙ none_of ds p.1

not_true : (b : Bool) → not b ≡ true → b ≡ false
not_true true h = cc
not_true false h = refl

after_one : (d : Decl) (ds : List Decl) → at_most_one is_control (d ∷ ds) ≡ true → is_control d ≡ true → list_any is_control ds ≡ false
unfolding at_most_one
after_one d ds h e = by_test (is_control d) h e
  where
    by_test : (b : Bool) → at_most_one_after b (at_most_one is_control ds) (list_any is_control ds) ≡ true → b ≡ true → list_any is_control ds ≡ false
    by_test true h e = not_true (list_any is_control ds) h
    by_test false h e = cc

after_none : (d : Decl) (ds : List Decl) → at_most_one is_control (d ∷ ds) ≡ true → is_control d ≡ false → at_most_one is_control ds ≡ true
unfolding at_most_one
after_none d ds h e = by_test (is_control d) h e
  where
    by_test : (b : Bool) → at_most_one_after b (at_most_one is_control ds) (list_any is_control ds) ≡ true → b ≡ false → at_most_one is_control ds ≡ true
    by_test true h e = cc
    by_test false h e = h

-- before turn k of a walk over declarations no control block was met
pub record NoneBefore (ds : List Decl) (k : ℕ) : Type 0 where
  pub rest : flat_map commands_in (drop k ds) ≡ flat_map commands_in ds
  pub most : at_most_one is_control (drop k ds) ≡ true

pub control_found : (ds : List Decl) (k : ℕ) (d : Decl) (place : Place) (commands : List Command) → NoneBefore ds k → k < length ds → d ≡ get_or ds k d → d ≡ Control place commands → commands ≡ flat_map commands_in ds
control_found ds k d place commands before within is form =
    let turn : drop k ds ≡ Control place commands ∷ drop (k + 1) ds = drop_turn ds k d within is ∙ ap (λ x. x ∷ drop (k + 1) ds) form in
    let one : at_most_one is_control (Control place commands ∷ drop (k + 1) ds) ≡ true = ap (at_most_one is_control) (sym turn) ∙ before.most in
    sym (append-nil commands)
    ∙ ap (λ ys. commands ++ ys) (sym (none_of (drop (k + 1) ds) (after_one (Control place commands) (drop (k + 1) ds) one refl)))
    ∙ sym (ap (flat_map commands_in) turn) ∙ before.rest

pub control_more : (ds : List Decl) (k : ℕ) (d : Decl) → NoneBefore ds k → k < length ds → d ≡ get_or ds k d → ((place : Place) (commands : List Command) → d ≡ Control place commands → ⊥) → NoneBefore ds (k + 1)
control_more ds k d before within is never =
    let turn : drop k ds ≡ d ∷ drop (k + 1) ds = drop_turn ds k d within is in
    let none : is_control d ≡ false = kind d never in
    record {
      rest = sym (ap (λ ys. ys ++ flat_map commands_in (drop (k + 1) ds)) (no_control d none)) ∙ sym (ap (flat_map commands_in) turn) ∙ before.rest;
      most = after_none d (drop (k + 1) ds) (ap (at_most_one is_control) (sym turn) ∙ before.most) none;
    }
  where
    kind : (e : Decl) → ((place : Place) (commands : List Command) → e ≡ Control place commands → ⊥) → is_control e ≡ false
    kind (Control place commands) never = absurd (never place commands refl)
    kind other never = refl

-- ---- the premises, for a design that runs today

pub only_declarations : (system : System) (code : Module) → system.modules ≡ code ∷ [] → system.main ≡ 0 → main_declarations system ≡ code.decls
only_declarations system code only first =
    ap (λ ms. flat_map (λ m. m.decls) (as_list (slice_get ms system.main))) only
    ∙ ap (λ k. flat_map (λ m. m.decls) (as_list (slice_get (code ∷ []) k))) first
    ∙ append-nil code.decls

rest_true : (a b : Bool) → (a && b) ≡ true → b ≡ true
rest_true true b h = h
rest_true false b h = cc

-- all commands of the one control block run
runs_in : (ds : List Decl) → list_all is_plain_decl ds ≡ true → at_most_one is_control ds ≡ true → list_all runs (flat_map commands_in ds) ≡ true
runs_in [] h one = refl
runs_in (Control place commands ∷ ds) h one =
    ap (list_all runs) (ap (λ ys. commands ++ ys) (none_of ds (after_one (Control place commands) ds one refl)) ∙ append-nil commands) ∙ (and_true h).0
runs_in (other ∷ ds) h one = runs_in ds (rest_true (is_plain_decl other) (list_all is_plain_decl ds) h) (after_none other ds one refl)

plain_parts : (m : Module) → is_plain m ≡ true → (list_all is_plain_decl m.decls ≡ true) × (at_most_one is_control m.decls ≡ true)
plain_parts m h = and_true h

pub one_control : (system : System) → IsRunnable system → (ds : List Decl) → ds ≡ main_declarations system → at_most_one is_control ds ≡ true
one_control system r ds e =
    let is : ds ≡ r.over.code.decls = e ∙ only_declarations system r.over.code r.over.is_flat.only r.over.is_flat.first in
    ap (at_most_one is_control) is ∙ (plain_parts r.over.code r.over.plain).1

pub all_run : (system : System) → IsRunnable system → (ds : List Decl) (commands : List Command) → ds ≡ main_declarations system → commands ≡ flat_map commands_in ds → list_all runs commands ≡ true
all_run system r ds commands e are =
    let is : ds ≡ r.over.code.decls = e ∙ only_declarations system r.over.code r.over.is_flat.only r.over.is_flat.first in
    let plain = plain_parts r.over.code r.over.plain in
    ap (list_all runs) (are ∙ ap (flat_map commands_in) is) ∙ runs_in r.over.code.decls plain.0 plain.1

-- ---- one of them

pub run_there : (cs : List Command) (k : ℕ) (c : Command) → list_all runs cs ≡ true → k < length cs → c ≡ get_or cs k c → runs c ≡ true
run_there [] k c h within at = absurd (omega (arith, within))
run_there (x ∷ cs) zero c h within at = ap runs at ∙ (and_true h).0
run_there (x ∷ cs) (suc k) c h within at = run_there cs k c (and_true h).1 (omega (arith, within)) at

-- the depth of an unrolling that runs
pub few_steps : (n : ℕ) → nat_le n most_steps ≡ true → n ≤ most_steps
few_steps n h = grind (arith, nat_tests)
