-- What is judged, and the lines that judge it.
use Rattle.std.proofs.Common.{◌≡◌, List, [], ◌∷◌, map, Option, Some, None, refl, ap, ◌∙◌, sym, subst, inl, inr, ℕ, zero, suc, ◌+◌, ◌≤◌, ◌<◌, Bool, true, false, arith}
use Rattle.std.specs.Prelude.{slice_get}
use Rattle.std.specs.Option.{option_map, option_and_then}
use Rattle.std.specs.List.{filter_map, cons_option, All}
use Rattle.std.proofs.lemmas.List.Elements.{All-head, All-tail, All-nil, All-cons}
use Rattle.std.proofs.lemmas.Bool.{cases_eq}
use Rattle.uc_syntax.specs.declared.expression.Expr.{Expr}
use Rattle.uc_syntax.specs.declared.declaration.Decl.{Decl}
use Rattle.uc_syntax.specs.declared.declaration.Decl.TheVariants.{Invariant, Hyperinvariant}
use Rattle.uc_meaning.specs.declared.scope.Site.{Site}
use Rattle.uc_meaning.specs.declared.line.At.{At}
use Rattle.uc_meaning.specs.declared.line.What.TheVariants.{Formula, AtSite}
use Rattle.uc_meaning.specs.declared.line.Line.{Line}
use Rattle.uc_meaning.specs.Lookup.{System, module_at, invariant_in, hyperinvariant_in}
use Rattle.uc_meaning.specs.Cells.{InstanceAt, instances}
use Rattle.uc_meaning.specs.Lines.{Judged, numbered, invariant_judged, hyperinvariant_judged, judged_by, all_judged, lines_at, lines_from, sites_after, formula_in, formula_of}
use Rattle.uc_laws.specs.Laws.{AreFound, invariants_of, hyperinvariants_of}
use Rattle.uc_laws.proofs.Among.{Among, among_left, among_right, among_map, among_flat_map}

pub all_among : {X : Type 0} (P : X → Type 0) (xs : List X) (x : X) → All P xs → Among x xs → P x
all_among P [] x all h = elim h [ ]
all_among P (y ∷ ys) x all (inl e) = subst P (sym e) (All-head P y ys all)
all_among P (y ∷ ys) x all (inr h) = all_among P ys x (All-tail P y ys all) h

pub among_all : {X : Type 0} (P : X → Type 0) (xs : List X) → ((x : X) → Among x xs → P x) → All P xs
among_all P [] each = All-nil P
among_all P (y ∷ ys) each = All-cons P y ys (each y (inl refl)) (among_all P ys (λ x h. each x (inr h)))

more_kept : {Y : Type 0} (y : Y) (ys : List Y) (o : Option Y) → Among y ys → Among y (cons_option o ys)
more_kept y ys None h = h
more_kept y ys (Some z) h = inr h

first_kept : {Y : Type 0} (y : Y) (ys : List Y) (o : Option Y) → o ≡ Some y → Among y (cons_option o ys)
first_kept y ys None e = absurd (cc)
first_kept y ys (Some z) e = inl (cc)

pub among_filter_map : {X Y : Type 0} (h : X → Option Y) (x : X) (y : Y) (xs : List X) → Among x xs → h x ≡ Some y → Among y (filter_map h xs)
among_filter_map h x y [] in' e = elim in' [ ]
among_filter_map h x y (z ∷ xs) (inl is) e = first_kept y (filter_map h xs) (h z) (subst (λ w. h w ≡ Some y) is e)
among_filter_map h x y (z ∷ xs) (inr in') e = more_kept y (filter_map h xs) (h z) (among_filter_map h x y xs in' e)

-- A declaration with its number.
pub record Found {Y : Type 0} (h : Decl → Option Y) (y : Y) (k : ℕ) (ds : List Decl) : Type 0 where
  pub place : ℕ
  pub declaration : Decl
  pub has : h declaration ≡ Some y
  pub number : Among (k + place, declaration) (numbered k ds)
  pub gets : slice_get ds place ≡ Some declaration

found_first : {Y : Type 0} (h : Decl → Option Y) (y : Y) (k : ℕ) (d : Decl) (ds : List Decl) → h d ≡ Some y → Found h y k (d ∷ ds)
unfolding numbered
found_first h y k d ds e = record { place = 0; declaration = d; has = e; number = inl (ap (λ n. (n, d)) (omega arith)); gets = refl }

found_more : {Y : Type 0} (h : Decl → Option Y) (y : Y) (k : ℕ) (d : Decl) (ds : List Decl) → Found h y (k + 1) ds → Found h y k (d ∷ ds)
unfolding numbered
found_more h y k d ds f = record {
  place = suc f.place;
  declaration = f.declaration;
  has = f.has;
  number = inr (subst (λ n. Among (n, f.declaration) (numbered (k + 1) ds)) (omega arith) f.number);
  gets = f.gets;
}

found_by : {Y : Type 0} (h : Decl → Option Y) (y : Y) (k : ℕ) (d : Decl) (ds : List Decl) → (Among y (filter_map h ds) → Found h y (k + 1) ds) →
    (o : Option Y) → h d ≡ o → Among y (cons_option o (filter_map h ds)) → Found h y k (d ∷ ds)
found_by h y k d ds rest None e in' = found_more h y k d ds (rest in')
found_by h y k d ds rest (Some z) e (inl is) = found_first h y k d ds (e ∙ ap Some (sym is))
found_by h y k d ds rest (Some z) e (inr in') = found_more h y k d ds (rest in')

pub found : {Y : Type 0} (h : Decl → Option Y) (y : Y) (k : ℕ) (ds : List Decl) → Among y (filter_map h ds) → Found h y k ds
found h y k [] in' = elim in' [ ]
found h y k (d ∷ ds) in' = found_by h y k d ds (found h y (k + 1) ds) (h d) refl in'

pub formula_of_invariant : (d : Decl) (e : Expr) → invariant_in d ≡ Some e → formula_in d ≡ Some (false, e)
formula_of_invariant (Invariant place name formula) e is = ap (option_map (λ x. (false, x))) is
formula_of_invariant other e is = absurd (cc)

pub formula_of_hyper : (d : Decl) (h : ℕ × Expr) → hyperinvariant_in d ≡ Some h → formula_in d ≡ Some (true, h.1)
formula_of_hyper (Hyperinvariant place n name formula) h is = ap (option_map (λ x. (true, x.1))) is
formula_of_hyper other h is = absurd (cc)

pub formula_found : (system : System) (here : InstanceAt) (n : ℕ) (d : Decl) → module_at system here.path ≡ Some here.code → slice_get here.code.decls n ≡ Some d → formula_of system here.path n ≡ formula_in d
formula_found system here n d at gets =
    ap (λ m. option_and_then formula_in (option_and_then (λ m'. slice_get m'.decls n) m)) at
    ∙ ap (option_and_then formula_in) gets

-- A formula of an instance among what is judged.
pub record Judges (system : System) (sites : List Site) (here : InstanceAt) (arity : ℕ) (formula : Bool × Expr) : Type 0 where
  pub number : ℕ
  pub among : Among (Formula here.path number, arity) (all_judged system sites)
  pub is : formula_of system here.path number ≡ Some formula

pub invariant_judges : (system : System) (sites : List Site) (here : InstanceAt) (e : Expr) → AreFound system → Among here (instances system) → Among e (invariants_of here.code) →
    Judges system sites here 1 (false, e)
unfolding all_judged
invariant_judges system sites here e are in' has =
    let f = found invariant_in e 0 here.code.decls has in
    let own = filter_map (invariant_judged here.path) (numbered 0 here.code.decls) in
    record {
      number = 0 + f.place;
      among = among_right (Formula here.path (0 + f.place), 1) (map (λ site. (AtSite site, 1)) sites) _
          (among_left (Formula here.path (0 + f.place), 1) (judged_by invariant_judged system) (judged_by hyperinvariant_judged system)
          (among_flat_map (λ i. filter_map (invariant_judged i.path) (numbered 0 i.code.decls)) (Formula here.path (0 + f.place), 1) here (instances system) in'
          (among_filter_map (invariant_judged here.path) (0 + f.place, f.declaration) (Formula here.path (0 + f.place), 1) (numbered 0 here.code.decls) f.number
          (ap (option_map (λ x. (Formula here.path (0 + f.place), 1))) f.has))));
      is = formula_found system here (0 + f.place) f.declaration (all_among (λ i. module_at system i.path ≡ Some i.code) (instances system) here are in') (subst (λ n. slice_get here.code.decls n ≡ Some f.declaration) (omega arith) f.gets)
          ∙ formula_of_invariant f.declaration e f.has;
    }

pub hyper_judges : (system : System) (sites : List Site) (here : InstanceAt) (h : ℕ × Expr) → AreFound system → Among here (instances system) → Among h (hyperinvariants_of here.code) →
    Judges system sites here h.0 (true, h.1)
unfolding all_judged
hyper_judges system sites here h are in' has =
    let f = found hyperinvariant_in h 0 here.code.decls has in
    record {
      number = 0 + f.place;
      among = among_right (Formula here.path (0 + f.place), h.0) (map (λ site. (AtSite site, 1)) sites) _
          (among_right (Formula here.path (0 + f.place), h.0) (judged_by invariant_judged system) (judged_by hyperinvariant_judged system)
          (among_flat_map (λ i. filter_map (hyperinvariant_judged i.path) (numbered 0 i.code.decls)) (Formula here.path (0 + f.place), h.0) here (instances system) in'
          (among_filter_map (hyperinvariant_judged here.path) (0 + f.place, f.declaration) (Formula here.path (0 + f.place), h.0) (numbered 0 here.code.decls) f.number
          (ap (option_map (λ x. (Formula here.path (0 + f.place), x.0))) f.has))));
      is = formula_found system here (0 + f.place) f.declaration (all_among (λ i. module_at system i.path ≡ Some i.code) (instances system) here are in') (subst (λ n. slice_get here.code.decls n ≡ Some f.declaration) (omega arith) f.gets)
          ∙ formula_of_hyper f.declaration h f.has;
    }

pub site_judged : (system : System) (sites : List Site) (site : Site) → Among site sites → Among (AtSite site, 1) (all_judged system sites)
unfolding all_judged
site_judged system sites site in' = among_left (AtSite site, 1) (map (λ s. (AtSite s, 1)) sites) _ (among_map (λ s. (AtSite s, 1)) site sites in')

abbrev pub line_for : ℕ → At → Judged → Line
line_for command moment j = record { command = command; at = moment; what = j.0; arity = j.1 }

pub line_among : (command : ℕ) (moment : At) (j : Judged) (all : List Judged) → Among j all → Among (line_for command moment j) (lines_at command moment all)
line_among command moment j all in' = among_map (line_for command moment) j all in'

pub line_after : (system : System) (command : ℕ) (moment : ℕ → At) (n k t : ℕ) (j : Judged) → k ≤ t → t < k + n → Among j (all_judged system (sites_after system t)) →
    Among (line_for command (moment t) j) (lines_from system command moment k n)
unfolding lines_from
line_after system command moment zero k t j low high in' = absurd (omega arith)
line_after system command moment (suc n) k t j low high in' = elim (cases_eq k t) [
  | inl e ↦ among_left (line_for command (moment t) j) (lines_at command (moment k) (all_judged system (sites_after system k))) (lines_from system command moment (k + 1) n)
      (subst (λ z. Among (line_for command (moment t) j) (lines_at command (moment z) (all_judged system (sites_after system z)))) (sym e) (line_among command (moment t) j (all_judged system (sites_after system t)) in'))
  | inr e ↦ among_right (line_for command (moment t) j) (lines_at command (moment k) (all_judged system (sites_after system k))) (lines_from system command moment (k + 1) n)
      (line_after system command moment n (k + 1) t j (omega arith) (omega arith) in')
]
