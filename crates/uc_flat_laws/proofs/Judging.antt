-- The lines of a design are those of its formulas over cells.
use Rattle.std.proofs.Common.{◌≡◌, ℕ, zero, suc, ◌+◌, List, [], ◌∷◌, ◌++◌, map, refl, sym, ap, ◌∙◌, subst, true, Option, Some, None, append-nil, cond, Bool}
use Rattle.std.specs.Prelude.{nat_eq, All, ◌&&◌}
use Rattle.std.specs.Option.{option_map}
use Rattle.std.specs.List.{flat_map, filter, filter_map, list_all, cons_option}
use Rattle.std.proofs.lemmas.List.Elements.{All-head, All-tail}
use Rattle.uc_lexer.specs.declared.place.Place.{Place}
use Rattle.uc_syntax.specs.declared.statement.Arm.{Arm}
use Rattle.uc_syntax.specs.declared.statement.Stmt.{Stmt}
use Rattle.uc_syntax.specs.declared.statement.Stmt.TheOpen.{Stmt-F}
use Rattle.uc_syntax.specs.declared.statement.Stmt.TheOpen.Stmt-F.{Local as Declare, Skip, Block, Assert, Assume, Havoc, Assign, If, Case, For, Call, Next}
use Rattle.uc_syntax.specs.declared.statement.Stmt.TheViews.{roll-Stmt}
use Rattle.uc_syntax.specs.declared.statement.Stmt.TheFolds.{fold-Stmt, map-Stmt, fold-roll-Stmt, ind-Stmt}
use Rattle.uc_syntax.specs.declared.declaration.Decl.{Decl}
use Rattle.uc_syntax.specs.declared.declaration.Decl.TheVariants.{Invariant, Hyperinvariant}
use Rattle.uc_syntax.specs.declared.declaration.Module.{Module}
use Rattle.uc_values.proofs.Shapes.{and_true}
use Rattle.uc_meaning.specs.declared.scope.Site.{Site}
use Rattle.uc_meaning.specs.declared.line.What.TheVariants.{Formula as OfFormula}
use Rattle.uc_meaning.specs.Lookup.{System, init_of, next_of}
use Rattle.uc_meaning.specs.Cells.{as_list}
use Rattle.uc_meaning.specs.Code.{else_block}
use Rattle.uc_meaning.specs.Lines.{Sites, Judged, all_sites, arm_sites, else_sites, sites_form, sites_by, sites_through, sites_in, in_order as sites_in_order, init_sites, step_sites, sites_after, numbered, invariant_judged, hyperinvariant_judged, judged_by, all_judged}
use Rattle.uc_flat.specs.declared.flat.Flat.{Flat}
use Rattle.uc_flat.specs.declared.flat.Formula.{Formula}
use Rattle.uc_flat_expressions.specs.declared.typed.Meant.{Meant}
use Rattle.uc_flat_expressions.specs.Types.{is_boolean}
use Rattle.uc_flat_expressions.specs.Expressions.{flat_of}
use Rattle.uc_flat_design.specs.Names.{names_over_cells, names_of_constants}
use Rattle.uc_flat_design.proofs.Cells.{alone_instances}
use Rattle.uc_flat_design.proofs.FlatInitLawOptions.{then_some, map_some, if_some, some_same}
use Rattle.uc_flat_design.proofs.Forms.{arms_in, else_in}
use Rattle.uc_flat_design.specs.Design.{is_built, condition_of, invariant_in, axiom_in, formulas_from, IsFlatOf}
use Rattle.uc_flat_design.proofs.Formulas.{formula_of, axioms_read, invariants_read}
use Rattle.uc_flat_design.proofs.Laws.{main_is, alone_of, init_plain, next_plain}
use Rattle.uc_flat_laws.specs.FlatRefutationsLaws.{singles_of, LinesLaw}
use Rattle.uc_flat_order.specs.GuardedLaws.{all_true, plain_form, is_plain}

-- ---- no sites

module _ (system : System) (inside : List Stmt → Sites) where
  abbrev Quiet : Sites → Bool → Type 0
  Quiet s b = b ≡ true → (path : List ℕ) → s path ≡ []

  abbrev AllQuiet : List Sites → List Bool → Type 0
  AllQuiet [] [] = Unit {0}
  AllQuiet (s ∷ ss) (b ∷ bs) = Quiet s b × AllQuiet ss bs
  AllQuiet [] (b ∷ bs) = ⊥
  AllQuiet (s ∷ ss) [] = ⊥

  abbrev ArmsQuiet : List (Arm Sites) → List (Arm Bool) → Type 0
  ArmsQuiet [] [] = Unit {0}
  ArmsQuiet (a ∷ arms) (b ∷ forms) = AllQuiet a.body b.body × ArmsQuiet arms forms
  ArmsQuiet [] (b ∷ forms) = ⊥
  ArmsQuiet (a ∷ arms) [] = ⊥

  abbrev ElseQuiet : Option (List Sites) → Option (List Bool) → Type 0
  ElseQuiet None None = Unit {0}
  ElseQuiet (Some ss) (Some bs) = AllQuiet ss bs
  ElseQuiet None (Some bs) = ⊥
  ElseQuiet (Some ss) None = ⊥

  both_empty : (a b : List Site) → a ≡ [] → b ≡ [] → a ++ b ≡ []
  both_empty a b h g = ap (λ x. x ++ b) h ∙ g

  all_quiet : (ss : List Sites) (bs : List Bool) → AllQuiet ss bs → Quiet (all_sites ss) (all_true bs)
  all_quiet [] [] h e path = refl
  all_quiet [] (b ∷ bs) h e path = absurd h
  all_quiet (s ∷ ss) [] h e path = absurd h
  all_quiet (s ∷ ss) (b ∷ bs) h e path =
      let x = and_true e in
      both_empty (s path) (all_sites ss path) (h.0 x.0 path) (all_quiet ss bs h.1 x.1 path)

  arms_quiet : (arms : List (Arm Sites)) (forms : List (Arm Bool)) → ArmsQuiet arms forms → list_all (λ a. all_true a.body) forms ≡ true → (path : List ℕ) → arm_sites arms path ≡ []
  arms_quiet [] [] h e path = refl
  arms_quiet [] (b ∷ forms) h e path = absurd h
  arms_quiet (a ∷ arms) [] h e path = absurd h
  arms_quiet (a ∷ arms) (b ∷ forms) h e path =
      let x = and_true e in
      both_empty (all_sites a.body path) (arm_sites arms path) (all_quiet a.body b.body h.0 x.0 path) (arms_quiet arms forms h.1 x.1 path)

  else_quiet : (otherwise : Option (List Sites)) (o : Option (List Bool)) → ElseQuiet otherwise o → all_true (else_block o) ≡ true → (path : List ℕ) → else_sites otherwise path ≡ []
  else_quiet None None h e path = refl
  else_quiet (Some ss) (Some bs) h e path = all_quiet ss bs h e path
  else_quiet None (Some bs) h e path = absurd h
  else_quiet (Some ss) None h e path = absurd h

  if_quiet : (arms : List (Arm Sites)) (forms : List (Arm Bool)) (otherwise : Option (List Sites)) (o : Option (List Bool)) → ArmsQuiet arms forms → ElseQuiet otherwise o
      → Quiet (λ path. arm_sites arms path ++ else_sites otherwise path) (list_all (λ a. all_true a.body) forms && all_true (else_block o))
  if_quiet arms forms otherwise o h g e path =
      let x = and_true e in
      both_empty (arm_sites arms path) (else_sites otherwise path) (arms_quiet arms forms h x.0 path) (else_quiet otherwise o g x.1 path)

  module _ {A D : Type 0} (d : D → A) (f : A → Bool) (g : A → Sites) (alike : (e : D) → Quiet (g (d e)) (f (d e))) where
    list_quiet : (es : List D) → AllQuiet (map g (map d es)) (map f (map d es))
    list_quiet [] = tt
    list_quiet (e ∷ es) = (alike e, list_quiet es)

    abbrev left : Stmt-F D → Stmt-F Bool
    left y = map-Stmt A Bool f (map-Stmt D A d y)

    abbrev right : Stmt-F D → Stmt-F Sites
    right y = map-Stmt A Sites g (map-Stmt D A d y)

    if_layer : (place : Place) (arms : List (Arm D)) (o : Option (List D)) → ArmsQuiet (arms_in (right (If place arms o))) (arms_in (left (If place arms o))) × ElseQuiet (else_in (right (If place arms o))) (else_in (left (If place arms o)))
    if_layer place [] None = (tt, tt)
    if_layer place [] (Some es) = (tt, list_quiet es)
    if_layer place (a ∷ arms) o = ((list_quiet a.body, (if_layer place arms o).0), (if_layer place arms o).1)

    case_layer : (place : Place) (arms : List (Arm D)) (o : Option (List D)) → ArmsQuiet (arms_in (right (Case place arms o))) (arms_in (left (Case place arms o))) × ElseQuiet (else_in (right (Case place arms o))) (else_in (left (Case place arms o)))
    case_layer place [] None = (tt, tt)
    case_layer place [] (Some es) = (tt, list_quiet es)
    case_layer place (a ∷ arms) o = ((list_quiet a.body, (case_layer place arms o).0), (case_layer place arms o).1)

    layer : (y : Stmt-F D) → Quiet (sites_form system inside (right y)) (plain_form (left y))
    layer (Declare place ids type) e path = refl
    layer (Skip place) e path = refl
    layer (Block place block) e path = all_quiet _ _ (list_quiet block) e path
    layer (Assert place label x) e path = absurd (cc)
    layer (Assume place x) e path = refl
    layer (Havoc place x primed) e path = refl
    layer (Assign place targets sources) e path = refl
    layer (If place arms o) e path = if_quiet _ _ _ _ (if_layer place arms o).0 (if_layer place arms o).1 e path
    layer (Case place arms o) e path = if_quiet _ _ _ _ (case_layer place arms o).0 (case_layer place arms o).1 e path
    layer (For place x type from to block) e path = absurd (cc)
    layer (Call place targets callee arguments) e path = absurd (cc)
    layer (Next place x) e path = absurd (cc)

  statement_quiet : (s : Stmt) → Quiet (fold-Stmt Sites (sites_form system inside) s) (is_plain s)
  unfolding is_plain
  statement_quiet =
      ind-Stmt (λ s. Quiet (fold-Stmt Sites (sites_form system inside) s) (fold-Stmt Bool plain_form s))
      (λ x y is.
      let F = fold-Stmt Bool plain_form in
      let G = fold-Stmt Sites (sites_form system inside) in
      let way = layer (λ e. e.0) F G (λ e. e.1) y in
      let way' = subst (λ z. Quiet (sites_form system inside (map-Stmt Stmt Sites G z)) (plain_form (map-Stmt Stmt Bool F z))) is way in
      let left' = subst (Quiet (sites_form system inside (map-Stmt Stmt Sites G x))) (sym (fold-roll-Stmt Bool plain_form x)) way' in
      subst (λ X. Quiet X (F (roll-Stmt x))) (sym (fold-roll-Stmt Sites (sites_form system inside) x)) left')

  code_quiet : (code : List Stmt) → list_all is_plain code ≡ true → (path : List ℕ) → sites_by system inside code path ≡ []
  unfolding sites_by
  code_quiet [] e path = refl
  code_quiet (s ∷ code) e path =
      let x = and_true e in
      both_empty (fold-Stmt Sites (sites_form system inside) s path) (sites_by system inside code path) (statement_quiet s x.0 path) (code_quiet code x.1 path)

no_sites : (system : System) (code : List Stmt) → list_all is_plain code ≡ true → sites_in system code [] ≡ []
unfolding sites_in sites_through
no_sites system code e = code_quiet system (sites_through 65 system) code e []

init_none : (system : System) (code : Module) (f : Flat) → IsFlatOf system code f → init_sites system ≡ []
unfolding init_sites sites_in_order
init_none system code f d =
    ap (λ is. sites_in_order system (flat_map (λ i. sites_in system (init_of i.code) i.path) is)) (alone_instances system code (alone_of system code f d))
    ∙ ap (λ ss. sites_in_order system (ss ++ [])) (no_sites system (init_of code) (init_plain system code f d))

step_none : (system : System) (code : Module) (f : Flat) → IsFlatOf system code f → step_sites system ≡ []
unfolding step_sites sites_in_order
step_none system code f d =
    ap (λ c. sites_in_order system (sites_in system c [])) (ap (λ o. flat_map next_of (as_list o)) (main_is system code f d) ∙ append-nil (next_of code))
    ∙ ap (sites_in_order system) (no_sites system (next_of code) (next_plain system code f d))

none_after : (system : System) (code : Module) (f : Flat) (steps : ℕ) → IsFlatOf system code f → sites_after system steps ≡ []
none_after system code f zero d = init_none system code f d
none_after system code f (suc steps) d = step_none system code f d

-- ---- formulas

no_hyper : (d : Decl) (k : ℕ) → is_built d ≡ true → hyperinvariant_judged [] (k, d) ≡ None
no_hyper (Hyperinvariant place arity name e) k h = absurd (cc)
no_hyper other k h = refl

no_hypers : (decls : List Decl) (k : ℕ) → list_all is_built decls ≡ true → filter_map (hyperinvariant_judged []) (numbered k decls) ≡ []
unfolding numbered
no_hypers [] k h = refl
no_hypers (d ∷ decls) k h = ap (λ o. cons_option o (filter_map (hyperinvariant_judged []) (numbered (k + 1) decls))) (no_hyper d k (and_true h).0) ∙ no_hypers decls (k + 1) (and_true h).1

-- what a declaration judges
abbrev judged : Formula → Judged
judged x = (OfFormula [] x.decl, 1)

one_judged : (names : List Meant) (k : ℕ) (d : Decl) (xs : List Formula) (rest : List Judged) → invariant_in names k d ≡ Some xs → cons_option (invariant_judged [] (k, d)) rest ≡ map judged xs ++ rest
one_judged names k (Invariant place name e) xs rest h =
    let s = then_some (condition_of 1 k) (flat_of names e) xs h in
    let x = formula_of 1 k s.0 in
    let t = if_some (is_boolean s.0.ty) (Some (x ∷ [])) xs s.2 in
    ap (λ ys. map judged ys ++ rest) (some_same (x ∷ []) xs t.1)
one_judged names k other xs rest h = ap (λ ys. map judged ys ++ rest) (some_same [] xs h)

append_judged : (xs ys : List Formula) → map judged (xs ++ ys) ≡ map judged xs ++ map judged ys
append_judged [] ys = refl
append_judged (x ∷ xs) ys = ap (λ zs. judged x ∷ zs) (append_judged xs ys)

formulas_judged : (names : List Meant) (k : ℕ) (decls : List Decl) (fs : List Formula) → formulas_from (invariant_in names) k decls ≡ Some fs → filter_map (invariant_judged []) (numbered k decls) ≡ map judged fs
unfolding numbered formulas_from
formulas_judged names k [] fs h = ap (map judged) (some_same [] fs h)
formulas_judged names k (d ∷ decls) fs h =
    let s = then_some (λ xs. option_map (λ ys. xs ++ ys) (formulas_from (invariant_in names) (k + 1) decls)) (invariant_in names k d) fs h in
    let t = map_some (λ ys. s.0 ++ ys) (formulas_from (invariant_in names) (k + 1) decls) fs s.2 in
    one_judged names k d s.0 (filter_map (invariant_judged []) (numbered (k + 1) decls)) s.1
    ∙ ap (λ zs. map judged s.0 ++ zs) (formulas_judged names (k + 1) decls t.0 t.1)
    ∙ sym (append_judged s.0 t.0)
    ∙ ap (map judged) t.2

-- ---- the formulas of one copy

abbrev Copied : ℕ → Formula → Type 0
Copied n x = x.copies ≡ n

pub axioms_copied : (names : List Meant) (decls : List Decl) (fs : List Formula) → formulas_from (axiom_in names) 0 decls ≡ Some fs → All (Copied 0) fs
axioms_copied names decls fs h = axioms_read (Copied 0) names decls (λ n place name e t at flat b. refl) fs h

pub invariants_copied : (names : List Meant) (decls : List Decl) (fs : List Formula) → formulas_from (invariant_in names) 0 decls ≡ Some fs → All (Copied 1) fs
invariants_copied names decls fs h = invariants_read (Copied 1) names decls (λ n place i e t at flat b. refl) fs h

abbrev singles : List Formula → List Formula
singles fs = filter (λ x. nat_eq x.copies 1) fs

no_single : (fs rest : List Formula) → All (Copied 0) fs → singles (fs ++ rest) ≡ singles rest
no_single [] rest h = refl
no_single (x ∷ fs) rest h =
    ap (λ n. cond (nat_eq n 1) (x ∷ singles (fs ++ rest)) (singles (fs ++ rest))) (All-head (Copied 0) x fs h) ∙ no_single fs rest (All-tail (Copied 0) x fs h)

all_singles : (fs : List Formula) → All (Copied 1) fs → singles fs ≡ fs
all_singles [] h = refl
all_singles (x ∷ fs) h =
    ap (λ n. cond (nat_eq n 1) (x ∷ singles fs) (singles fs)) (All-head (Copied 1) x fs h) ∙ ap (λ xs. x ∷ xs) (all_singles fs (All-tail (Copied 1) x fs h))

-- they are those of the invariants
pub singles_are : (system : System) (code : Module) (f : Flat) (d : IsFlatOf system code f) → singles_of f ≡ d.formulas
singles_are system code f d =
    ap singles_of d.is
    ∙ no_single d.axioms d.formulas (axioms_copied (names_of_constants system code) code.decls d.axioms d.axioms_are)
    ∙ all_singles d.formulas (invariants_copied (names_over_cells system code) code.decls d.formulas d.formulas_are)

pub lines_hold : LinesLaw
unfolding all_judged
lines_hold system code f steps d =
    let is = alone_instances system code (alone_of system code f d) in
    let invariants = ap (flat_map (λ i. filter_map (invariant_judged i.path) (numbered 0 i.code.decls))) is ∙ append-nil (filter_map (invariant_judged []) (numbered 0 code.decls)) ∙ formulas_judged (names_over_cells system code) 0 code.decls d.formulas d.formulas_are in
    let hypers = ap (flat_map (λ i. filter_map (hyperinvariant_judged i.path) (numbered 0 i.code.decls))) is ∙ append-nil (filter_map (hyperinvariant_judged []) (numbered 0 code.decls)) ∙ no_hypers code.decls 0 d.declarations in
    ap (all_judged system) (none_after system code f steps d)
    ∙ ap (λ xs. xs ++ judged_by hyperinvariant_judged system) invariants
    ∙ ap (λ xs. map judged d.formulas ++ xs) hypers
    ∙ append-nil (map judged d.formulas)
    ∙ ap (map judged) (sym (singles_are system code f d))
