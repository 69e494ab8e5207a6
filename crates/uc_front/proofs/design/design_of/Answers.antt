use Rattle.std.proofs.Common.{◌≡◌, map, slice_get, Some, refl, sym, ap, ◌∙◌, subst, rules}
use Rattle.uc_rules.specs.Declarations.{KeepsRules}
use Rattle.uc_report.specs.ControlRules.{KeepsControl}
use Rattle.uc_meaning.specs.Lookup.{System, system_of}
use Rattle.uc_front.specs.Sources.{words_of}
use Rattle.uc_front.specs.Denotes.{names_of, AreSpelled, main_in, main_name, IsDesignOf, IsKept}
use Rattle.uc_front.specs.Errors.{IsControlFault, IsStopped, IsTextError}
use Rattle.uc_front.specs.Refused.{IsUnbuilt}
use Rattle.uc_front.proofs.Refusing.{by_rules, by_control, by_running}
use Rattle.uc_front.proofs.design.design_of.Goals as goal

pub returns-clause-denotes : goal.returns-clause-denotes
returns-clause-denotes c =
    let names : c.in_ok-design.design.names ≡ names_of (words_of c.args.files.now) c.args.sources.now = c.in_ok-design.ensures.names in
    let files : map (slice_get c.in_ok-design.design.names) c.in_ok-design.design.files ≡ map (λ f. Some f) (words_of c.args.files.now) = c.in_ok-design.ensures.files in
    let modules : AreSpelled c.in_ok-design.design.names c.args.sources.now c.in_ok-design.design.modules = c.in_ok-design.ensures.modules in
    let main : main_in c.in_ok-design.design.names c.in_ok-design.design.modules ≡ Some c.in-Ok.main = search rules in
    let same = c.in_ok-runnable.ensures.same ∙ ap (λ d. system_of d c.in-Ok.main) (c.in_ok-kept.ensures.same ∙ c.in_ok-ordered.ensures.same) in
    subst (IsDesignOf (words_of c.args.files.now) c.args.sources.now) (sym same) (record { names_are = names; files_are = files; modules_are = modules; main_is = main })

pub returns-clause-kept : goal.returns-clause-kept
returns-clause-kept c =
    let same = c.in_ok-runnable.ensures.same ∙ ap (λ d. system_of d c.in-Ok.main) (c.in_ok-kept.ensures.same ∙ c.in_ok-ordered.ensures.same) in
    let controlled : KeepsControl (system_of c.in_ok-design.design c.in-Ok.main) = subst (λ d. KeepsControl (system_of d c.in-Ok.main)) c.in_ok-ordered.ensures.same (c.in_ok-kept.ensures.kept refl) in
    let keeps : IsKept (system_of c.in_ok-design.design c.in-Ok.main) = (subst (λ d. KeepsRules d main_name) c.in_ok-design.ensures.whole (c.in_ok-ordered.ensures.typed refl), c.in_ok-ordered.ensures.ordered refl, controlled) in
    subst IsKept (sym same) keeps

pub returns-in_err-ordered-clause-refused : goal.returns-in_err-ordered-clause-refused
returns-in_err-ordered-clause-refused c =
    let names : c.in_ok-design.design.names ≡ names_of (words_of c.args.files.now) c.args.sources.now = c.in_ok-design.ensures.names in
    let files : map (slice_get c.in_ok-design.design.names) c.in_ok-design.design.files ≡ map (λ f. Some f) (words_of c.args.files.now) = c.in_ok-design.ensures.files in
    let modules : AreSpelled c.in_ok-design.design.names c.args.sources.now c.in_ok-design.design.modules = c.in_ok-design.ensures.modules in
    let main : main_in c.in_ok-design.design.names c.in_ok-design.design.modules ≡ Some c.in-Ok.main = search rules in
    let told : IsTextError (IsUnbuilt (words_of c.args.files.now) c.args.sources.now) c.in_err-ordered.field-0.0 =
    by_rules (words_of c.args.files.now) c.args.sources.now c.in_ok-design.design c.in-Ok.main c.in_err-ordered.field-0.0 (record { names_are = names; files_are = files; modules_are = modules; main_is = main })
    c.in_ok-design.ensures.whole c.in_err-ordered.ensures.refused
    in
    search (rules, told)

pub returns-in_err-kept-clause-refused : goal.returns-in_err-kept-clause-refused
returns-in_err-kept-clause-refused c =
    let system : System = system_of c.in_ok-design.design c.in-Ok.main in
    let names : c.in_ok-design.design.names ≡ names_of (words_of c.args.files.now) c.args.sources.now = c.in_ok-design.ensures.names in
    let files : map (slice_get c.in_ok-design.design.names) c.in_ok-design.design.files ≡ map (λ f. Some f) (words_of c.args.files.now) = c.in_ok-design.ensures.files in
    let modules : AreSpelled c.in_ok-design.design.names c.args.sources.now c.in_ok-design.design.modules = c.in_ok-design.ensures.modules in
    let main : main_in c.in_ok-design.design.names c.in_ok-design.design.modules ≡ Some c.in-Ok.main = search rules in
    let denoted : IsDesignOf (words_of c.args.files.now) c.args.sources.now system = record { names_are = names; files_are = files; modules_are = modules; main_is = main } in
    let typed : KeepsRules c.in_ok-design.design main_name = c.in_ok-ordered.ensures.typed refl in
    let broken : IsTextError (IsControlFault system) c.in_err-kept.field-0.0 =
    subst (λ d. IsTextError (IsControlFault (system_of d c.in-Ok.main)) c.in_err-kept.field-0.0) c.in_ok-ordered.ensures.same c.in_err-kept.ensures.refused in
    let told : IsTextError (IsUnbuilt (words_of c.args.files.now) c.args.sources.now) c.in_err-kept.field-0.0 =
    by_control (words_of c.args.files.now) c.args.sources.now system c.in_err-kept.field-0.0 denoted (subst (λ d. KeepsRules d main_name) c.in_ok-design.ensures.whole typed) (c.in_ok-ordered.ensures.ordered refl) broken in
    search (rules, told)

pub returns-in_err-runnable-clause-refused : goal.returns-in_err-runnable-clause-refused
returns-in_err-runnable-clause-refused c =
    let system : System = system_of c.in_ok-design.design c.in-Ok.main in
    let names : c.in_ok-design.design.names ≡ names_of (words_of c.args.files.now) c.args.sources.now = c.in_ok-design.ensures.names in
    let files : map (slice_get c.in_ok-design.design.names) c.in_ok-design.design.files ≡ map (λ f. Some f) (words_of c.args.files.now) = c.in_ok-design.ensures.files in
    let modules : AreSpelled c.in_ok-design.design.names c.args.sources.now c.in_ok-design.design.modules = c.in_ok-design.ensures.modules in
    let main : main_in c.in_ok-design.design.names c.in_ok-design.design.modules ≡ Some c.in-Ok.main = search rules in
    let denoted : IsDesignOf (words_of c.args.files.now) c.args.sources.now system = record { names_are = names; files_are = files; modules_are = modules; main_is = main } in
    let controlled : KeepsControl system = subst (λ d. KeepsControl (system_of d c.in-Ok.main)) c.in_ok-ordered.ensures.same (c.in_ok-kept.ensures.kept refl) in
    let keeps : IsKept system = (subst (λ d. KeepsRules d main_name) c.in_ok-design.ensures.whole (c.in_ok-ordered.ensures.typed refl), c.in_ok-ordered.ensures.ordered refl, controlled) in
    let stopped : IsTextError (IsStopped system) c.in_err-runnable.field-0.0 =
    subst (λ d. IsTextError (IsStopped (system_of d c.in-Ok.main)) c.in_err-runnable.field-0.0) (c.in_ok-kept.ensures.same ∙ c.in_ok-ordered.ensures.same) c.in_err-runnable.ensures.refused in
    let told : IsTextError (IsUnbuilt (words_of c.args.files.now) c.args.sources.now) c.in_err-runnable.field-0.0 =
    by_running (words_of c.args.files.now) c.args.sources.now system c.in_err-runnable.field-0.0 denoted keeps stopped in
    search (rules, told)
