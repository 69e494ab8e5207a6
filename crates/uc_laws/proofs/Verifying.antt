-- The law of procedures.
use Rattle.std.proofs.Common.{◌≡◌, List, [], ◌∷◌, ◌++◌, map, Option, Some, None, refl, ap, ◌∙◌, sym, subst, ◌⊎◌, inl, inr, ℕ, suc, ◌+◌, Bool, true, false, arith, append-nil}
use Rattle.std.specs.Prelude.{◌&&◌, ◌||◌, if◌then◌else◌, nat_eq, slice_get}
use Rattle.std.specs.Option.{option_map}
use Rattle.std.specs.List.{flat_map, filter_map, cons_option, list_any, All}
use Rattle.std.proofs.lemmas.Bool.{eq-eqb}
use Rattle.uc_syntax.specs.declared.expression.Expr.{Expr}
use Rattle.uc_syntax.specs.declared.declaration.Decl.{Decl}
use Rattle.uc_syntax.specs.declared.declaration.Decl.TheVariants.{Procedure}
use Rattle.uc_syntax.specs.declared.declaration.Procedure.{Procedure as ProcedureParts}
use Rattle.uc_syntax.specs.declared.declaration.Module.{Module}
use Rattle.uc_values.specs.declared.value.Value.{Value}
use Rattle.uc_meaning.specs.declared.scope.Interp.{Interp}
use Rattle.uc_meaning.specs.declared.scope.State.{State}
use Rattle.uc_meaning.specs.declared.scope.Site.{Site}
use Rattle.uc_meaning.specs.declared.line.At.TheVariants.{Body}
use Rattle.uc_meaning.specs.declared.line.What.TheVariants.{AtSite, Ensures}
use Rattle.uc_meaning.specs.Lookup.{System, or_else, first_some, some_if, main_module, procedure_in, same_place}
use Rattle.uc_meaning.specs.Cells.{same_path, as_list}
use Rattle.uc_meaning.specs.Expressions.{is_true, bind}
use Rattle.uc_meaning.specs.Code.{Running, declare, names_with_types, run, same_site}
use Rattle.uc_meaning.specs.Steps.{scope_of}
use Rattle.uc_meaning.specs.Runs.{Position, IsAdmitted, IsExecution, IsCorrect, ensures_of, exit_scope, lists_site}
use Rattle.uc_meaning.specs.Lines.{Judged, numbered, sites_in, body_sites, ensures_from, procedure_named, first_of_list, verify_lines, main_declarations, procedure_numbered, FailsBody, FailsBodyOf, BodyFails, EnsuresFails, lines_at, IsValid}
use Rattle.uc_laws.specs.Laws.{VerifyLaw}
use Rattle.uc_laws.proofs.Among.{Among, among_left, among_right, among_map}
use Rattle.uc_laws.proofs.Grows.{Within, within_then, stays_at}
use Rattle.uc_laws.proofs.Calls.{declare_stays}
use Rattle.uc_laws.proofs.CheckForms.{code_lists}
use Rattle.uc_laws.proofs.Sites.{order_keeps}
use Rattle.uc_laws.proofs.Judges.{all_among, among_all, line_for, line_among}

-- A procedure with the number of its declaration.
pub record Numbered (x k : ℕ) (ds : List Decl) (p : ProcedureParts) : Type 0 where
  pub number : ℕ
  pub first : first_of_list (filter_map (procedure_named x) (numbered k ds)) ≡ Some (k + number, p)
  pub gets : procedure_numbered (slice_get ds number) ≡ Some p

named_if : (b : Bool) (n : ℕ) (p : ProcedureParts) → (let o : Option (ℕ × ProcedureParts) = if b then Some (n, p) else None in o) ≡ option_map (λ q. (n, q)) (some_if b p)
named_if true n p = refl
named_if false n p = refl

named_is : (x n : ℕ) (d : Decl) → procedure_named x (n, d) ≡ option_map (λ q. (n, q)) (procedure_in x d)
named_is x n (Procedure place p) = named_if (nat_eq p.identifier.name x) n p
named_is x n other = refl

some_if_is : {B : Type 0} (b : Bool) (y z : B) → some_if b y ≡ Some z → Some y ≡ Some z
some_if_is true y z e = e
some_if_is false y z e = absurd (cc)

numbered_is : (x : ℕ) (d : Decl) (p : ProcedureParts) → procedure_in x d ≡ Some p → procedure_numbered (Some d) ≡ Some p
numbered_is x (Procedure place q) p e = some_if_is (nat_eq q.identifier.name x) q p e
numbered_is x other p e = absurd (cc)

first_cons : {A : Type 0} (o : Option A) (a : A) (as' : List A) → o ≡ Some a → first_of_list (cons_option o as') ≡ Some a
first_cons None a as' e = absurd (cc)
first_cons (Some b) a as' e = e

rest_cons : {A : Type 0} (o : Option A) (as' : List A) → o ≡ None → first_of_list (cons_option o as') ≡ first_of_list as'
rest_cons None as' e = refl
rest_cons (Some b) as' e = absurd (cc)

number_by : (x k : ℕ) (d : Decl) (ds : List Decl) (p : ProcedureParts) → (first_some (procedure_in x) ds ≡ Some p → Numbered x (k + 1) ds p) →
    (o : Option ProcedureParts) → procedure_in x d ≡ o → or_else o (first_some (procedure_in x) ds) ≡ Some p → Numbered x k (d ∷ ds) p
unfolding numbered
number_by x k d ds p rest None e is =
    let r = rest is in
    record {
      number = suc r.number;
      first = rest_cons (procedure_named x (k, d)) (filter_map (procedure_named x) (numbered (k + 1) ds)) (named_is x k d ∙ ap (option_map (λ q. (k, q))) e) ∙ r.first ∙ ap (λ n. Some (n, p)) (omega arith);
      gets = r.gets;
    }
number_by x k d ds p rest (Some q) e is = record {
  number = 0;
  first = first_cons (procedure_named x (k, d)) (k + 0, p) (filter_map (procedure_named x) (numbered (k + 1) ds)) (named_is x k d ∙ ap (option_map (λ q. (k, q))) (e ∙ is) ∙ ap (λ n. Some (n, p)) (omega arith));
  gets = numbered_is x d p (e ∙ is);
}

pub numbers : (x k : ℕ) (ds : List Decl) (p : ProcedureParts) → first_some (procedure_in x) ds ≡ Some p → Numbered x k ds p
unfolding first_some
numbers x k [] p e = absurd (cc)
numbers x k (d ∷ ds) p e = number_by x k d ds p (numbers x (k + 1) ds p) (procedure_in x d) refl e

-- An `ensures` with its number.
record EnsuresAt (k : ℕ) (es : List Expr) (e : Expr) : Type 0 where
  pub number : ℕ
  judged : Among (Ensures (k + number), 1) (ensures_from k es)
  pub gets : slice_get es number ≡ Some e

ensures_at : (k : ℕ) (es : List Expr) (e : Expr) → Among e es → EnsuresAt k es e
unfolding ensures_from
ensures_at k [] e in' = elim in' [ ]
ensures_at k (x ∷ es) e (inl is) = record { number = 0; judged = inl (ap (λ n. (Ensures n, 1)) (omega arith)); gets = ap Some (sym is) }
ensures_at k (x ∷ es) e (inr in') =
    let r = ensures_at (k + 1) es e in' in
    record { number = suc r.number; judged = inr (subst (λ n. Among (Ensures n, 1) (ensures_from (k + 1) es)) (omega arith) r.judged); gets = r.gets }

path_itself : (p : List ℕ) → same_path p p ≡ true
unfolding same_path
path_itself [] = refl
path_itself (i ∷ p) = ap (λ b. b && same_path p p) (eq-eqb i i refl) ∙ path_itself p

site_itself : (s : Site) → same_site s s ≡ true
site_itself s =
    ap (λ b. b && (same_place s.place s.place && nat_eq s.requires_ s.requires_)) (path_itself s.path)
    ∙ ap (λ b. (b && (nat_eq s.place.line s.place.line && nat_eq s.place.col s.place.col)) && nat_eq s.requires_ s.requires_) (eq-eqb s.place.file s.place.file refl)
    ∙ ap (λ b. (b && nat_eq s.place.col s.place.col) && nat_eq s.requires_ s.requires_) (eq-eqb s.place.line s.place.line refl)
    ∙ ap (λ b. b && nat_eq s.requires_ s.requires_) (eq-eqb s.place.col s.place.col refl)
    ∙ eq-eqb s.requires_ s.requires_ refl

no_left : {A : Type 0} → ⊥ ⊎ A → A
no_left (inl h) = elim h [ ]
no_left (inr a) = a

-- what a body lists is among its sites
body_lists : (system : System) (i : Interp) (m : Module) (p : ProcedureParts) (entry : State) (arguments choices : List Value) (end : Running) → IsExecution system i m p entry arguments choices end →
    (s : Site) → Among s end.sites → Among s (body_sites system p)
unfolding body_sites
body_lists system i m p entry arguments choices end x s in' =
    let begin : Running = record { scope = record (scope_of i [] entry) { locals = bind system m p.parameters arguments [] }; sites = []; left = choices } in
    let all = sites_in system p.body [] in
    let w = within_then [] [] all (declare system m (names_with_types p.results) begin) (run system p.body)
    (declare_stays system m (names_with_types p.results) (λ q. all) begin)
    (λ r e. stays_at (sites_in system p.body) (run system p.body) (code_lists system p.body) r [] e) in
    let g = subst (Within [] [] all) x.ends w in
    order_keeps system s all (no_left (g.listed s in'))

unless_false : (b : Bool) → (b ≡ false → ⊥) → b ≡ true
unless_false true h = refl
unless_false false h = absurd (h refl)

empty_unless : (sites : List Site) → ((s : Site) → Among s sites → lists_site sites s ≡ true → ⊥) → sites ≡ []
empty_unless [] h = refl
empty_unless (s ∷ sites) h = absurd (h s (inl refl) (ap (λ b. b || list_any (same_site s) sites) (site_itself s)))

-- nothing that a procedure's lines judge fails
abbrev NoneFails : System → Module → ProcedureParts → Type 0
NoneFails system m p =
    (j : Judged) → Among j (ensures_from 1 (ensures_of p) ++ map (λ site. (AtSite site, 1)) (body_sites system p)) →
    (i : Interp) (entry : State) (arguments choices : List Value) (end : Running) → IsAdmitted system i → IsExecution system i m p entry arguments choices end → BodyFails system p entry end j.0 → ⊥

none_fails : (system : System) (command d : ℕ) (m : Module) (p : ProcedureParts) → main_module system ≡ Some m → procedure_numbered (slice_get (main_declarations system) d) ≡ Some p →
    All (IsValid system) (verify_lines system command (Some (d, p))) → NoneFails system m p
none_fails system command d m p main gets valid j in' i entry arguments choices end adm x fails =
    let all = ensures_from 1 (ensures_of p) ++ map (λ site. (AtSite site, 1)) (body_sites system p) in
    let line = line_for command (Body d) j in
    let copies : List (List Position) = ((entry, []) ∷ ((end.scope.before, arguments ++ choices) ∷ [])) ∷ [] in
    let bad : FailsBody system line i m p (entry, []) (end.scope.before, arguments ++ choices) = record {
      no_choices = refl;
      arguments = arguments;
      choices = choices;
      joined = refl;
      end = end;
      executes = x;
      exits = refl;
      fails = fails;
    } in
    let of' : FailsBodyOf system line i (main_module system) (procedure_numbered (slice_get (main_declarations system) d)) copies =
    subst (λ o. FailsBodyOf system line i o (procedure_numbered (slice_get (main_declarations system) d)) copies) (sym main)
    (subst (λ o. FailsBodyOf system line i (Some m) o copies) (sym gets) bad) in
    all_among (IsValid system) (lines_at command (Body d) all) line valid (line_among command (Body d) j all in') (record { interp = i; copies = copies }) (record { admitted = adm; fails = of' })

correct : (system : System) (m : Module) (p : ProcedureParts) → NoneFails system m p → IsCorrect system m p
correct system m p none i entry arguments choices end adm x = (
  among_all (λ e. is_true system (exit_scope entry end) e ≡ true) (ensures_of p) (λ e has.
      let r = ensures_at 1 (ensures_of p) e has in
      unless_false (is_true system (exit_scope entry end) e) (λ false'.
      none (Ensures (1 + r.number), 1) (among_left (Ensures (1 + r.number), 1) (ensures_from 1 (ensures_of p)) (map (λ site. (AtSite site, 1)) (body_sites system p)) r.judged) i entry arguments choices end adm x
      (subst (EnsuresFails system entry end) (sym (ap (slice_get (ensures_of p)) (omega arith) ∙ r.gets)) false'))),
  empty_unless end.sites (λ s in' lists.
      none (AtSite s, 1) (among_right (AtSite s, 1) (ensures_from 1 (ensures_of p)) (map (λ site. (AtSite site, 1)) (body_sites system p))
      (among_map (λ site. (AtSite site, 1)) s (body_sites system p) (body_lists system i m p entry arguments choices end x s in')))
      i entry arguments choices end adm x lists),
)

pub declarations_are : (system : System) (m : Module) → main_module system ≡ Some m → main_declarations system ≡ m.decls
declarations_are system m main = ap (λ o. flat_map (λ n. n.decls) (as_list o)) main ∙ append-nil m.decls

pub verify_holds : VerifyLaw
verify_holds system command name m p main is valid =
    let ds = declarations_are system m main in
    let n = numbers name.name 0 (main_declarations system) p (ap (first_some (procedure_in name.name)) ds ∙ is) in
    let valid' = subst (λ o. All (IsValid system) (verify_lines system command o)) n.first valid in
    correct system m p (none_fails system command (0 + n.number) m p main (ap (λ k. procedure_numbered (slice_get (main_declarations system) k)) (omega arith) ∙ n.gets) valid')
