-- Lines of an unrolling ask for no more than what holds.
use Rattle.std.proofs.Common.{◌≡◌, List, [], ◌∷◌, ◌++◌, map, Option, Some, None, refl, ap, ◌∙◌, sym, subst, ◌⊎◌, inl, inr, ℕ, zero, suc, ◌+◌, ◌≤◌, ◌<◌, length, Bool, true, false, arith}
use Rattle.std.specs.Prelude.{slice_get}
use Rattle.std.specs.Option.{option_map}
use Rattle.std.specs.List.{filter_map, cons_option, All}
use Rattle.std.proofs.lemmas.List.Elements.{All-head}
use Rattle.uc_syntax.specs.declared.expression.Expr.{Expr}
use Rattle.uc_syntax.specs.declared.declaration.Decl.{Decl}
use Rattle.uc_meaning.specs.declared.scope.Interp.{Interp}
use Rattle.uc_meaning.specs.declared.scope.Site.{Site}
use Rattle.uc_meaning.specs.declared.line.At.{At}
use Rattle.uc_meaning.specs.declared.line.At.TheVariants.{Exactly}
use Rattle.uc_meaning.specs.declared.line.What.TheVariants.{Formula, AtSite}
use Rattle.uc_meaning.specs.declared.line.Line.{Line}
use Rattle.uc_meaning.specs.Lookup.{System, module_at, invariant_in, hyperinvariant_in}
use Rattle.uc_meaning.specs.Cells.{InstanceAt, instances}
use Rattle.uc_meaning.specs.Expressions.{is_true}
use Rattle.uc_meaning.specs.Steps.{scope_of}
use Rattle.uc_meaning.specs.Runs.{Position, IsAdmitted, IsRun, IsRunListing, last_state, lists_site, position_at, states_at, copies_scope, AreInStep}
use Rattle.uc_meaning.specs.Lines.{Judged, numbered, invariant_judged, hyperinvariant_judged, judged_by, all_judged, lines_at, lines_from, sites_after, InvariantsIn, IsFalseAt, FailsAt, formula_in, formula_of, IsValid}
use Rattle.uc_laws.specs.Laws.{AreFound, invariants_of, hyperinvariants_of, HoldsUpTo, UnrollNeeds}
use Rattle.uc_laws.proofs.Among.{Among, among_split}
use Rattle.uc_laws.proofs.Judges.{all_among, among_all, among_filter_map, formula_of_invariant, formula_of_hyper, formula_found, line_for}
use Rattle.uc_laws.proofs.Paths.{among_some, found_holds}
use Rattle.uc_laws.proofs.Segments.{last_at}

not_both : (b : Bool) → b ≡ true → b ≡ false → ⊥
not_both b p q = absurd (cc)

kept_by : {X Y : Type 0} (h : X → Option Y) (y : Y) (x : X) (xs : List X) (o : Option Y) → h x ≡ o → Among y (cons_option o (filter_map h xs)) →
    (Among y (filter_map h xs) → (z : X) × Among z xs × (h z ≡ Some y)) → (z : X) × Among z (x ∷ xs) × (h z ≡ Some y)
kept_by h y x xs None e in' rest = let r = rest in' in (r.0, inr r.1, r.2)
kept_by h y x xs (Some w) e (inl is) rest = (x, inl refl, e ∙ ap Some (sym is))
kept_by h y x xs (Some w) e (inr in') rest = let r = rest in' in (r.0, inr r.1, r.2)

kept_from : {X Y : Type 0} (h : X → Option Y) (y : Y) (xs : List X) → Among y (filter_map h xs) → (z : X) × Among z xs × (h z ≡ Some y)
kept_from h y [] in' = elim in' [ ]
kept_from h y (x ∷ xs) in' = kept_by h y x xs (h x) refl in' (kept_from h y xs)

pub mapped_from : {A B : Type 0} (f : A → B) (b : B) (xs : List A) → Among b (map f xs) → (a : A) × Among a xs × (b ≡ f a)
mapped_from f b [] h = elim h [ ]
mapped_from f b (x ∷ xs) (inl e) = (x, inl refl, e)
mapped_from f b (x ∷ xs) (inr h) = let r = mapped_from f b xs h in (r.0, inr r.1, r.2)

-- a number and its declaration
placed : (k : ℕ) (ds : List Decl) (x : ℕ × Decl) → Among x (numbered k ds) → (p : ℕ) × (x.0 ≡ k + p) × (slice_get ds p ≡ Some x.1) × Among x.1 ds
unfolding numbered
placed k [] x h = elim h [ ]
placed k (d ∷ ds) x (inl e) = (0, ap (λ y. y.0) e ∙ omega arith, ap (λ y. Some y.1) (sym e), inl (ap (λ y. y.1) e))
placed k (d ∷ ds) x (inr h) = let r = placed (k + 1) ds x h in (suc r.0, r.1 ∙ omega arith, r.2, inr r.3)

mapped_some : {A B : Type 0} (f : A → B) (b : B) (o : Option A) → option_map f o ≡ Some b → (a : A) × (o ≡ Some a) × (b ≡ f a)
mapped_some f b None e = absurd (cc)
mapped_some f b (Some a) e = (a, refl, cc)

-- what is judged is a site, an invariant or a hyperinvariant
abbrev IsInvariant : System → Judged → Type 0
IsInvariant system j = (here : InstanceAt) × (e : Expr) × (n : ℕ) × Among here (instances system) × Among e (invariants_of here.code) × (j ≡ (Formula here.path n, 1)) × (formula_of system here.path n ≡ Some (false, e))

abbrev IsHyper : System → Judged → Type 0
IsHyper system j = (here : InstanceAt) × (h : ℕ × Expr) × (n : ℕ) × Among here (instances system) × Among h (hyperinvariants_of here.code) × (j ≡ (Formula here.path n, h.0)) × (formula_of system here.path n ≡ Some (true, h.1))

-- the formula of a numbered declaration
numbered_formula : (system : System) (here : InstanceAt) (x : ℕ × Decl) (p : ℕ) (f : Bool × Expr) → AreFound system → Among here (instances system) → x.0 ≡ 0 + p → slice_get here.code.decls p ≡ Some x.1 →
    formula_in x.1 ≡ Some f → formula_of system here.path x.0 ≡ Some f
numbered_formula system here x p f are has number gets is =
    formula_found system here x.0 x.1 (all_among (λ i. module_at system i.path ≡ Some i.code) (instances system) here are has) (ap (slice_get here.code.decls) (number ∙ omega arith) ∙ gets) ∙ is

invariant_from : (system : System) (j : Judged) → AreFound system → Among j (judged_by invariant_judged system) → IsInvariant system j
invariant_from system j are h =
    let (here, has, inside) = among_some (λ i. filter_map (invariant_judged i.path) (numbered 0 i.code.decls)) j (instances system) h in
    let (x, at, judged) = kept_from (invariant_judged here.path) j (numbered 0 here.code.decls) inside in
    let (p, number, gets, in') = placed 0 here.code.decls x at in
    let (e, has_e, is) = mapped_some (λ e. (Formula here.path x.0, 1)) j (invariant_in x.1) judged in
    (here, e, x.0, has, among_filter_map invariant_in x.1 e here.code.decls in' has_e, is, numbered_formula system here x p (false, e) are has number gets (formula_of_invariant x.1 e has_e))

hyper_from : (system : System) (j : Judged) → AreFound system → Among j (judged_by hyperinvariant_judged system) → IsHyper system j
hyper_from system j are h =
    let (here, has, inside) = among_some (λ i. filter_map (hyperinvariant_judged i.path) (numbered 0 i.code.decls)) j (instances system) h in
    let (x, at, judged) = kept_from (hyperinvariant_judged here.path) j (numbered 0 here.code.decls) inside in
    let (p, number, gets, in') = placed 0 here.code.decls x at in
    let (e, has_e, is) = mapped_some (λ e. (Formula here.path x.0, e.0)) j (hyperinvariant_in x.1) judged in
    (here, e, x.0, has, among_filter_map hyperinvariant_in x.1 e here.code.decls in' has_e, is, numbered_formula system here x p (true, e.1) are has number gets (formula_of_hyper x.1 e has_e))

either_way : {A B C : Type 0} → (A → C) → (B → C) → A ⊎ B → C
either_way f g (inl a) = f a
either_way f g (inr b) = g b

by_kind : (system : System) (sites : List Site) (j : Judged) (C : Type 0) → AreFound system → ((site : Site) → j ≡ (AtSite site, 1) → C) → (IsInvariant system j → C) → (IsHyper system j → C) →
    Among j (all_judged system sites) → C
unfolding all_judged
by_kind system sites j C are f g h in' =
    either_way (λ k. let r = mapped_from (λ site. (AtSite site, 1)) j sites k in f r.0 r.2)
    (λ k. either_way (λ x. g (invariant_from system j are x)) (λ x. h (hyper_from system j are x)) (among_split j (judged_by invariant_judged system) (judged_by hyperinvariant_judged system) k))
    (among_split j (map (λ site. (AtSite site, 1)) sites) (judged_by invariant_judged system ++ judged_by hyperinvariant_judged system) in')

-- the only copy
lone : {X : Type 0} (xs : List X) → length xs ≡ 1 → (x : X) × (xs ≡ x ∷ [])
lone [] e = absurd (omega arith)
lone (x ∷ []) e = (x, refl)
lone (x ∷ (y ∷ xs)) e = absurd (omega arith)

line_from : (system : System) (command : ℕ) (moment : ℕ → At) (k n : ℕ) (l : Line) → Among l (lines_from system command moment k n) →
    (t : ℕ) × (j : Judged) × (t < k + n) × Among j (all_judged system (sites_after system t)) × (l ≡ line_for command (moment t) j)
unfolding lines_from
line_from system command moment k zero l h = elim h [ ]
line_from system command moment k (suc n) l h =
    either_way
    (λ x. let r = mapped_from (line_for command (moment k)) l (all_judged system (sites_after system k)) x in (k, r.0, omega arith, r.1, r.2))
    (λ x. let r = line_from system command moment (k + 1) n l x in (r.0, r.1, omega arith, r.3, r.4))
    (among_split l (lines_at command (moment k) (all_judged system (sites_after system k))) (lines_from system command moment (k + 1) n) h)

one_fails : (system : System) (bound steps : ℕ) → HoldsUpTo system bound → steps ≤ bound → (i : Interp) (copies : List (List Position)) → IsAdmitted system i → AreInStep system i 1 steps copies →
    (run : List Position) × (copies ≡ run ∷ []) × IsRun system i run × (length run ≡ steps + 1)
one_fails system bound steps holds less i copies adm is =
    let (run, e) = lone copies is.copied.number in
    (run, e, All-head (IsRun system i) run [] (subst (All (IsRun system i)) e is.runs), All-head (λ r. length r ≡ steps + 1) run [] (subst (All (λ r. length r ≡ steps + 1)) e is.copied.even))

site_valid : (system : System) (bound steps : ℕ) → HoldsUpTo system bound → steps ≤ bound → (i : Interp) (copies : List (List Position)) → IsAdmitted system i → (site : Site) → AreInStep system i 1 steps copies →
    FailsAt system i copies steps (IsRunListing system i) (AtSite site) → ⊥
site_valid system bound steps holds less i copies adm site is fails =
    let (run, e, run_is, size) = one_fails system bound steps holds less i copies adm is in
    let (listed, run_lists, lists) = All-head (λ r. (l : List Site) × IsRunListing system i r l × (lists_site l site ≡ true)) run [] (subst (All (λ r. (l : List Site) × IsRunListing system i r l × (lists_site l site ≡ true))) e fails) in
    not_both (lists_site listed site) lists (holds.sites i run listed site adm run_lists (omega arith))

invariant_valid : (system : System) (bound steps : ℕ) → HoldsUpTo system bound → steps ≤ bound → (i : Interp) (copies : List (List Position)) → IsAdmitted system i → (here : InstanceAt) (e : Expr) → Among here (instances system) → Among e (invariants_of here.code) →
    AreInStep system i 1 steps copies → IsFalseAt system i here.path copies steps (Some (false, e)) → ⊥
invariant_valid system bound steps holds less i copies adm here e in' has is fails =
    let (run, one, run_is, size) = one_fails system bound steps holds less i copies adm is in
    let bad = All-head (λ r. is_true system (scope_of i here.path (position_at steps r).0) e ≡ false) run [] (subst (All (λ r. is_true system (scope_of i here.path (position_at steps r).0) e ≡ false)) one fails) in
    let good = all_among (λ x. is_true system (scope_of i here.path (last_state run)) x ≡ true) (invariants_of here.code) e (all_among (InvariantsIn system i (last_state run)) (instances system) here (holds.invariants i run adm run_is (omega arith)) in') has in
    not_both (is_true system (scope_of i here.path (position_at steps run).0) e) (subst (λ s. is_true system (scope_of i here.path s) e ≡ true) (last_at run steps (omega arith)) good) bad

hyper_valid : (system : System) (bound steps : ℕ) → HoldsUpTo system bound → steps ≤ bound → (i : Interp) (copies : List (List Position)) → IsAdmitted system i → (here : InstanceAt) (h : ℕ × Expr) → Among here (instances system) → Among h (hyperinvariants_of here.code) →
    AreInStep system i h.0 steps copies → IsFalseAt system i here.path copies steps (Some (true, h.1)) → ⊥
hyper_valid system bound steps holds less i copies adm here h in' has is fails =
    not_both (is_true system (copies_scope i here.path (states_at steps copies)) h.1)
    (all_among (λ x. x.0 ≡ h.0 → is_true system (copies_scope i here.path (states_at steps copies)) x.1 ≡ true) (hyperinvariants_of here.code) h
    (all_among (λ here'. All (λ x. x.0 ≡ h.0 → is_true system (copies_scope i here'.path (states_at steps copies)) x.1 ≡ true) (hyperinvariants_of here'.code)) (instances system) here (holds.hyperinvariants i h.0 steps copies adm is less) in') has refl) fails

never : (system : System) (bound steps : ℕ) → AreFound system → HoldsUpTo system bound → steps ≤ bound → (j : Judged) → Among j (all_judged system (sites_after system steps)) →
    (i : Interp) (copies : List (List Position)) → IsAdmitted system i → AreInStep system i j.1 steps copies → FailsAt system i copies steps (IsRunListing system i) j.0 → ⊥
never system bound steps are holds less j in' i copies adm is fails =
    by_kind system (sites_after system steps) j ⊥ are
    (λ site e. site_valid system bound steps holds less i copies adm site (subst (λ x. AreInStep system i x.1 steps copies) e is) (subst (λ x. FailsAt system i copies steps (IsRunListing system i) x.0) e fails))
    (λ (here, e, n, at, has, same, found). invariant_valid system bound steps holds less i copies adm here e at has (subst (λ x. AreInStep system i x.1 steps copies) same is)
    (subst (IsFalseAt system i here.path copies steps) found (subst (λ x. FailsAt system i copies steps (IsRunListing system i) x.0) same fails)))
    (λ (here, h, n, at, has, same, found). hyper_valid system bound steps holds less i copies adm here h at has (subst (λ x. AreInStep system i x.1 steps copies) same is)
    (subst (IsFalseAt system i here.path copies steps) found (subst (λ x. FailsAt system i copies steps (IsRunListing system i) x.0) same fails)))
    in'

pub unroll_needs_hold : UnrollNeeds
unroll_needs_hold system command bound apart holds =
    among_all (IsValid system) (lines_from system command Exactly 0 (bound + 1)) (λ l in'.
    let (t, j, low, at, is) = line_from system command Exactly 0 (bound + 1) l in' in
    subst (IsValid system) (sym is) (λ trace r. never system bound t (found_holds system apart) holds (omega arith) j at trace.interp trace.copies r.admitted r.fails.runs r.fails.fails))
