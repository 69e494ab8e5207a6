-- Lines of a procedure ask for no more than that it is correct.
use Rattle.std.proofs.Common.{◌≡◌, List, [], ◌∷◌, Option, Some, None, refl, ap, ◌∙◌, sym, subst, inl, inr, ℕ, zero, suc, ◌+◌, ◌-◌, true, arith}
use Rattle.std.specs.Prelude.{slice_get}
use Rattle.std.specs.List.{All}
use Rattle.uc_syntax.specs.declared.expression.Expr.{Expr}
use Rattle.uc_syntax.specs.declared.declaration.Procedure.{Procedure as ProcedureParts}
use Rattle.uc_syntax.specs.declared.declaration.Module.{Module}
use Rattle.uc_meaning.specs.declared.scope.Interp.{Interp}
use Rattle.uc_meaning.specs.declared.scope.State.{State}
use Rattle.uc_meaning.specs.declared.line.At.TheVariants.{Body}
use Rattle.uc_meaning.specs.declared.line.What.{What}
use Rattle.uc_meaning.specs.declared.line.What.TheVariants.{Formula, AtSite, Ensures}
use Rattle.uc_meaning.specs.declared.line.Line.{Line}
use Rattle.uc_meaning.specs.Lookup.{System, first_some, main_module, procedure_in}
use Rattle.uc_meaning.specs.Expressions.{is_true}
use Rattle.uc_meaning.specs.Code.{Running}
use Rattle.uc_meaning.specs.Runs.{Position, IsAdmitted, IsCorrect, ensures_of, exit_scope, lists_site}
use Rattle.uc_meaning.specs.Lines.{Judged, verify_lines, main_declarations, procedure_numbered, FailsBodyOf, BodyFails, EnsuresFails, lines_at, IsValid}
use Rattle.uc_laws.specs.Laws.{VerifyNeeds}
use Rattle.uc_laws.proofs.Among.{Among}
use Rattle.uc_laws.proofs.Judges.{all_among, among_all, line_for}
use Rattle.uc_laws.proofs.Needs.{mapped_from}
use Rattle.uc_laws.proofs.Verifying.{numbers, declarations_are}

got : {A : Type 0} (xs : List A) (k : ℕ) (x : A) → slice_get xs k ≡ Some x → Among x xs
got [] k x e = absurd (cc)
got (y ∷ xs) zero x e = inl (cc)
got (y ∷ xs) (suc k) x e = inr (got xs k x e)

no_ensures : (system : System) (entry : State) (end : Running) (es : List Expr) (k : ℕ) → All (λ e. is_true system (exit_scope entry end) e ≡ true) es → (o : Option Expr) → slice_get es k ≡ o → EnsuresFails system entry end o → ⊥
no_ensures system entry end es k all None e f = f
no_ensures system entry end es k all (Some x) e f =
    let good = all_among (λ y. is_true system (exit_scope entry end) y ≡ true) es x all (got es k x e) in absurd (cc)

no_failure : (system : System) (p : ProcedureParts) (entry : State) (end : Running) (s : What) → All (λ e. is_true system (exit_scope entry end) e ≡ true) (ensures_of p) → end.sites ≡ [] → BodyFails system p entry end s → ⊥
no_failure system p entry end (Ensures n) all none f = no_ensures system entry end (ensures_of p) (n - 1) all (slice_get (ensures_of p) (n - 1)) refl f
no_failure system p entry end (AtSite site) all none f = let g = ap (λ sites. lists_site sites site) none in absurd (cc)
no_failure system p entry end (Formula path n) all none f = f

no_trace : (system : System) (line : Line) (i : Interp) (m : Module) (p : ProcedureParts) → IsCorrect system m p → IsAdmitted system i → (copies : List (List Position)) → FailsBodyOf system line i (Some m) (Some p) copies → ⊥
no_trace system line i m p correct adm ((entry ∷ (exit ∷ [])) ∷ []) f =
    let r = correct i entry.0 f.arguments f.choices f.end adm f.executes in
    no_failure system p entry.0 f.end line.what r.0 r.1 f.fails
no_trace system line i m p correct adm other f = f

body_valid : (system : System) (command d : ℕ) (m : Module) (p : ProcedureParts) (j : Judged) → main_module system ≡ Some m → procedure_numbered (slice_get (main_declarations system) d) ≡ Some p → IsCorrect system m p →
    IsValid system (line_for command (Body d) j)
body_valid system command d m p j main gets correct trace r =
    let line = line_for command (Body d) j in
    no_trace system line trace.interp m p correct r.admitted trace.copies
    (subst (λ o. FailsBodyOf system line trace.interp (Some m) o trace.copies) gets
    (subst (λ o. FailsBodyOf system line trace.interp o (procedure_numbered (slice_get (main_declarations system) d)) trace.copies) main r.fails))

all_valid : (system : System) (command d : ℕ) (m : Module) (p : ProcedureParts) → main_module system ≡ Some m → procedure_numbered (slice_get (main_declarations system) d) ≡ Some p → IsCorrect system m p →
    (js : List Judged) → All (IsValid system) (lines_at command (Body d) js)
all_valid system command d m p main gets correct js =
    among_all (IsValid system) (lines_at command (Body d) js) (λ l h.
    let r = mapped_from (line_for command (Body d)) l js h in
    subst (IsValid system) (sym r.2) (body_valid system command d m p r.0 main gets correct))

pub verify_needs_hold : VerifyNeeds
verify_needs_hold system command name m p main is correct =
    let ds = declarations_are system m main in
    let n = numbers name.name 0 (main_declarations system) p (ap (first_some (procedure_in name.name)) ds ∙ is) in
    subst (λ o. All (IsValid system) (verify_lines system command o)) (sym n.first)
    (all_valid system command (0 + n.number) m p main (ap (λ k. procedure_numbered (slice_get (main_declarations system) k)) (omega arith) ∙ n.gets) correct _)
