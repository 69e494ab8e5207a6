-- What is found of a whole, by what is found of its parts.
use Rattle.std.proofs.Common.{◌≡◌, ℕ, true, false, List, [], ◌∷◌, ◌++◌, Option, Some, refl, ap, ◌∙◌, subst}
use Rattle.std.specs.List.{filter_map, flat_map}
use Rattle.uc_lexer.specs.declared.place.Place.{Place}
use Rattle.uc_syntax.specs.declared.place.Identifier.{Identifier}
use Rattle.uc_syntax.specs.declared.type_expression.Parameter.{Parameter}
use Rattle.uc_syntax.specs.declared.type_expression.TypeExpr.{TypeExpr}
use Rattle.uc_syntax.specs.declared.expression.Expr.{Expr}
use Rattle.uc_syntax.specs.declared.statement.Stmt.{Stmt}
use Rattle.uc_syntax.specs.declared.declaration.Clause.{Clause}
use Rattle.uc_syntax.specs.declared.declaration.Clause.TheVariants.{Requires, Ensures, Modifies}
use Rattle.uc_syntax.specs.declared.declaration.Procedure.{Procedure}
use Rattle.uc_values.specs.declared.ty.Ty.{Ty}
use Rattle.uc_rules.specs.declared.fault.Fault.{Fault}
use Rattle.uc_rules.specs.declared.outcome.Outcome.{Outcome}
use Rattle.uc_rules.specs.declared.known.Role.TheVariants.{Parameter as ParameterRole, Result as ResultRole}
use Rattle.uc_rules.specs.Declarations.{clause_faults, define_faults, function_faults, identifiers_of, in_body, in_define, in_ensures_of, in_module, in_requires, parameters_found, procedure_faults}
use Rattle.uc_rules.specs.Faults.{first_of}
use Rattle.uc_rules.specs.Names.{is_name_of, repeated_in_list}
use Rattle.uc_rules.specs.Outcomes.{faults_in}
use Rattle.uc_rules.specs.Rows.{same_outcome}
use Rattle.uc_rules.specs.Expressions.{Context, judged}
use Rattle.uc_rules.specs.Statements.{code_faults, modifies_in, modifies_written}
use Rattle.uc_rules.specs.Types.{parameter_faults, scalar_faults, type_faults, type_found, type_of}
use Rattle.uc_expression_rules.specs.Judging.{Judges}
use Rattle.uc_statement_rules.specs.Judging.{JudgesBlock, name_written}
use Rattle.uc_statement_rules.proofs.Declaring.{repeated_same}
use Rattle.uc_statement_rules.proofs.Noted.{noted_both}
use Rattle.uc_declaration_rules.specs.Procedures.{Asks, NotesKnown, NotesParameters, asked_faults, known_faults, parameters_noted, results_found}
use Rattle.uc_declaration_rules.proofs.Becoming.{same_names}

-- parameters that become known outside all scopes
pub asks_of : (h : Context) (p : Procedure) (s0 s1 : Context) (ps : List (Parameter TypeExpr)) (old new : Option Fault) → s0 ≡ in_module h.system h.home → ps ≡ p.parameters →
    NotesParameters s0 ParameterRole ps old new s1 → Asks h p old new s1
asks_of h p s0 s1 ps old new s0-is ps-is held =
    subst (λ qs. NotesParameters (in_module h.system h.home) ParameterRole qs old new s1) ps-is (subst (λ c. NotesParameters c ParameterRole ps old new s1) s0-is held)

results_noted : (h : Context) (p : Procedure) → parameters_noted (in_requires h.system h.home p) p.results ≡ results_found h p
results_noted h p =
    ap (λ fs. fs ++ parameter_faults h.system h.home p.results)
    (repeated_same (is_name_of h.system h.home) _ _ (identifiers_of p.results) (same_names h.system h.home ParameterRole p.parameters))

pub known_of : (h : Context) (p : Procedure) (s1 s2 s3 : Context) (rs : List (Parameter TypeExpr)) (before unnoted old new : Option Fault) → Asks h p before unnoted s1 → rs ≡ p.results →
    NotesParameters s1 ResultRole rs old new s2 → s3 ≡ record s2 { in_ensures = true } → NotesKnown h p old new s3
known_of h p s1 s2 s3 rs before unnoted old new asked rs-is held s3-is =
    let moved = subst (λ qs. NotesParameters (in_requires h.system h.home p) ResultRole qs old new s2) rs-is (subst (λ c. NotesParameters c ResultRole rs old new s2) asked.scope held) in record {
      noted = moved.noted ∙ ap (first_of old) (results_noted h p);
      scope = s3-is ∙ ap (λ (q : Context). record q { in_ensures = true }) moved.scope;
    }

-- the faults of a clause, by its scopes
clause_is : (h : Context) (p : Procedure) (q : Clause) → asked_faults (in_requires h.system h.home p) (in_ensures_of h.system h.home p) q ≡ clause_faults h.system h.home p q
clause_is h p (Requires place e) = refl
clause_is h p (Ensures place e) = refl
clause_is h p (Modifies place is) = refl

clauses_are : (h : Context) (p : Procedure) (qs : List Clause) →
    flat_map (asked_faults (in_requires h.system h.home p) (in_ensures_of h.system h.home p)) qs ≡ flat_map (clause_faults h.system h.home p) qs
clauses_are h p [] = refl
clauses_are h p (q ∷ qs) = (λ k. clause_is h p q k ++ clauses_are h p qs k)

pub clauses_of_parts : (asked known : Context) (qs : List Clause) (is is' : List Identifier) (old m1 new : Option Fault) → is ≡ flat_map modifies_in qs → is' ≡ is → m1 ≡ first_of old (repeated_in_list is') →
    new ≡ first_of m1 (flat_map (asked_faults asked known) qs) → new ≡ first_of old (repeated_in_list (flat_map modifies_in qs) ++ flat_map (asked_faults asked known) qs)
clauses_of_parts asked known qs is is' old m1 new is-is same repeated clauses =
    noted_both old m1 new (repeated_in_list (flat_map modifies_in qs)) (flat_map (asked_faults asked known) qs) (repeated ∙ ap (λ ys. first_of old (repeated_in_list ys)) (same ∙ is-is)) clauses

pub known_of_parts : (asked known body : Context) (p : Procedure) (qs : List Clause) (xs : List ℕ) (block : List Stmt) (old m1 new : Option Fault) → qs ≡ p.clauses →
    m1 ≡ first_of old (repeated_in_list (flat_map modifies_in qs) ++ flat_map (asked_faults asked known) qs) → xs ≡ filter_map (name_written asked) (flat_map modifies_in qs) →
    body ≡ record known { in_ensures = false; modifies = Some xs } → block ≡ p.body → new ≡ first_of m1 (code_faults block body) → new ≡ first_of old (known_faults asked known p)
known_of_parts asked known body p qs xs block old m1 new qs-is found xs-is body-is block-is rest =
    let at : body ≡ record known { in_ensures = false; modifies = Some (filter_map (name_written asked) (modifies_written p)) } =
    body-is ∙ (λ k. record known { in_ensures = false; modifies = Some ((xs-is ∙ ap (λ rs. filter_map (name_written asked) (flat_map modifies_in rs)) qs-is) k) }) in
    noted_both old m1 new (repeated_in_list (modifies_written p) ++ flat_map (asked_faults asked known) p.clauses) (code_faults p.body (record known { in_ensures = false; modifies = Some (filter_map (name_written asked) (modifies_written p)) }))
    (found ∙ ap (λ rs. first_of old (repeated_in_list (flat_map modifies_in rs) ++ flat_map (asked_faults asked known) rs)) qs-is)
    (rest ∙ (λ k. first_of m1 (code_faults (block-is k) (at k))))

known_are : (h : Context) (p : Procedure) → known_faults (in_requires h.system h.home p) (in_ensures_of h.system h.home p) p
    ≡ (repeated_in_list (modifies_written p) ++ flat_map (clause_faults h.system h.home p) p.clauses) ++ code_faults p.body (in_body h.system h.home p)
known_are h p = ap (λ fs. (repeated_in_list (modifies_written p) ++ fs) ++ code_faults p.body (in_body h.system h.home p)) (clauses_are h p p.clauses)

pub procedure_of_known : (h asked known : Context) (p : Procedure) (old m1 m2 new : Option Fault) → Asks h p old m1 asked → NotesKnown h p m1 m2 known →
    new ≡ first_of m2 (known_faults asked known p) → new ≡ first_of old (procedure_faults h.system h.home p)
procedure_of_known h asked known p old m1 m2 new first second rest =
    noted_both old m2 new (parameters_found h.system h.home p.parameters ++ results_found h p) ((repeated_in_list (modifies_written p) ++ flat_map (clause_faults h.system h.home p) p.clauses) ++ code_faults p.body (in_body h.system h.home p))
    (noted_both old m1 m2 (parameters_found h.system h.home p.parameters) (results_found h p) first.noted second.noted)
    (rest ∙ (λ k. first_of m2 (known_faults (first.scope k) (second.scope k) p)) ∙ ap (first_of m2) (known_are h p))

-- the parameters and the type of a function or a define
head_of_parts : (h s0 s1 : Context) (ps : List (Parameter TypeExpr)) (type : TypeExpr) (old m1 m2 : Option Fault) → s0 ≡ in_module h.system h.home → NotesParameters s0 ParameterRole ps old m1 s1 →
    m2 ≡ first_of m1 (type_faults s1.system s1.home type) → m2 ≡ first_of old (parameters_found h.system h.home ps ++ type_faults h.system h.home type)
head_of_parts h s0 s1 ps type old m1 m2 s0-is held found =
    let moved = subst (λ c. NotesParameters c ParameterRole ps old m1 s1) s0-is held in
    noted_both old m1 m2 (parameters_found h.system h.home ps) (type_faults h.system h.home type) moved.noted (found ∙ ap (λ (q : Context). first_of m1 (type_faults q.system q.home type)) moved.scope)

pub function_of_parts : (h s0 s1 : Context) (ps : List (Parameter TypeExpr)) (type : TypeExpr) (place : Place) (t : Option Ty) (old m1 m2 m3 new : Option Fault) → s0 ≡ in_module h.system h.home → NotesParameters s0 ParameterRole ps old m1 s1 →
    t ≡ type_of s1.system s1.home type → m2 ≡ first_of m1 (type_faults s1.system s1.home type) → m3 ≡ first_of m2 (flat_map (λ p. scalar_faults p.identifier.place (type_of s1.system s1.home p.ty)) ps) →
    place ≡ (type_found h.system h.home type).place → new ≡ first_of m3 (scalar_faults place t) → new ≡ first_of old (function_faults h.system h.home ps type)
function_of_parts h s0 s1 ps type place t old m1 m2 m3 new s0-is held t-is second third place-is last =
    let moved = subst (λ c. NotesParameters c ParameterRole ps old m1 s1) s0-is held in
    let scalars = flat_map (λ (p : Parameter TypeExpr). scalar_faults p.identifier.place (type_of h.system h.home p.ty)) ps in
    noted_both old m2 new (parameters_found h.system h.home ps ++ type_faults h.system h.home type) (scalars ++ scalar_faults (type_found h.system h.home type).place (type_of h.system h.home type))
    (head_of_parts h s0 s1 ps type old m1 m2 s0-is held second)
    (noted_both m2 m3 new scalars (scalar_faults (type_found h.system h.home type).place (type_of h.system h.home type))
    (third ∙ ap (λ (q : Context). first_of m2 (flat_map (λ (p : Parameter TypeExpr). scalar_faults p.identifier.place (type_of q.system q.home p.ty)) ps)) moved.scope)
    (last ∙ (λ k. first_of m3 (scalar_faults (place-is k) ((t-is ∙ ap (λ (q : Context). type_of q.system q.home type) moved.scope) k)))))

pub define_of_parts : (h s0 s1 : Context) (place : Place) (ps : List (Parameter TypeExpr)) (type : TypeExpr) (e : Expr) (t u : Option Ty) (o : Outcome) (old m1 m2 m3 new : Option Fault) → s0 ≡ in_module h.system h.home → NotesParameters s0 ParameterRole ps old m1 s1 →
    t ≡ type_of s1.system s1.home type → m2 ≡ first_of m1 (type_faults s1.system s1.home type) → Judges s1 e m2 m3 u → o ≡ same_outcome u t → new ≡ first_of m3 (faults_in place o) →
    new ≡ first_of old (define_faults h.system h.home place ps type e)
define_of_parts h s0 s1 place ps type e t u o old m1 m2 m3 new s0-is held t-is second body o-is last =
    let moved = subst (λ c. NotesParameters c ParameterRole ps old m1 s1) s0-is held in
    let inside = subst (λ c. Judges c e m2 m3 u) moved.scope body in
    let j = judged e (in_define h.system h.home ps) in
    noted_both old m2 new (parameters_found h.system h.home ps ++ type_faults h.system h.home type) (j.faults ++ faults_in place (same_outcome j.type (type_of h.system h.home type)))
    (head_of_parts h s0 s1 ps type old m1 m2 s0-is held second)
    (noted_both m2 m3 new j.faults (faults_in place (same_outcome j.type (type_of h.system h.home type))) inside.found
    (last ∙ ap (λ q. first_of m3 (faults_in place q)) (o-is ∙ (λ k. same_outcome (inside.type k) ((t-is ∙ ap (λ (q : Context). type_of q.system q.home type) moved.scope) k)))))
