-- How runs on files end.
use Rattle.std.proofs.Common.{◌≡◌, ◌⊎◌, inl, inr, ℕ, zero, suc, ◌<◌, ◌≤◌, Bool, true, false, List, [], ◌∷◌, length, get_or, slice_get, Option, Some, refl, sym, ap, subst, ◌∙◌, arith}
use Rattle.std.specs.Prelude.{if◌then◌else◌, ◌||◌, ◌&&◌, ◌++◌, nat_le, option_map, None}
use Rattle.std.specs.List.{list_any, list_all, All}
use Rattle.std.proofs.lemmas.Bool.Decides.{nat_tests}
use Rattle.std.proofs.lemmas.Option.{slice_get_within, get_or_from_slice_get, slice_get-map}
use Rattle.uc_io.specs.Faults.{Rose}
use Rattle.uc_syntax.specs.declared.declaration.Command.{Command}
use Rattle.uc_syntax.specs.declared.declaration.Command.TheVariants.{Run}
use Rattle.uc_syntax.specs.declared.declaration.WrittenRun.TheVariants.{Induction}
use Rattle.uc_values.proofs.Shapes.{and_true}
use Rattle.uc_meaning.specs.declared.line.Line.{Line}
use Rattle.uc_meaning.specs.declared.line.Trace.{Trace}
use Rattle.uc_meaning.specs.Lookup.{System}
use Rattle.uc_meaning.specs.Lines.{main_declarations, commands_of, all_lines, Refutes}
use Rattle.uc_laws.specs.Laws.{depth_of}
use Rattle.uc_report.specs.declared.report.Report.{Report}
use Rattle.uc_report.specs.declared.report.Verdict.{Verdict}
use Rattle.uc_report.specs.declared.report.Verdict.TheVariants.{Passed, Failed, Undef}
use Rattle.uc_report.specs.declared.report.LineResult.{LineResult}
use Rattle.uc_report.specs.Reports.{status, is_passed, is_failed, is_undecided}
use Rattle.uc_report.specs.Verdicts.{IsRightVerdict}
use Rattle.uc_judge.specs.Reports.{IsReport}
use Rattle.uc_runnable.specs.Commands.{is_judged, runs}
use Rattle.uc_runnable.specs.Runnable.{IsRunnable}
use Rattle.uc_judge.proofs.Controls.{all_run}
use Rattle.uc_front.specs.Denotes.{IsAccepted}
use Rattle.uclid.specs.declared.answer.Session.{Session}
use Rattle.uclid.specs.declared.answer.Answer.{Answer}
use Rattle.uclid.specs.declared.answer.Answer.TheVariants.{Usage, Refused, Reported}
use Rattle.uclid.specs.declared.top.Outcome.{Outcome}
use Rattle.uclid.specs.Answers.{is_form, line_budget, IsFilesAnswer, IsAnswerFor, IsAnswer, status_of}
use Rattle.uclid.specs.Runs.{TextsSeen, SinkSeen, IsWritten, EndsBy, EndsEarly, Ends}
use Rattle.uclid_laws.specs.Laws.{AllPassed, AcceptedRuns, RefusedRuns, UnrollingsHold, InductionsHold, CleanRun, FailedRun}
use Rattle.uclid_laws.proofs.Designs.{one_design, never_both}
use Rattle.uclid_laws.proofs.Refusals.{one_refusal}
use Rattle.uclid_laws.proofs.Apart.{running_apart}
use Rattle.uclid_laws.proofs.Passed.{passed_induction, passed_unroll}

-- ---- answers to files

told_answer : (files : List (List ℕ)) (texts : TextsSeen) (a : Answer) → texts.tells ≡ true → IsAnswer texts.tells files texts.held a → IsAnswer true files texts.held a
told_answer files texts a told right = subst (λ t. IsAnswer t files texts.held a) told right

files_answer : (files : List (List ℕ)) (texts : TextsSeen) (a : Answer) → is_form files ≡ true → texts.tells ≡ true → IsAnswer texts.tells files texts.held a → IsFilesAnswer true files texts.held a
files_answer files texts a form told right = subst (λ b. IsAnswerFor b true files texts.held a) form (told_answer files texts a told right)

-- a report that is answered is right
reported_right : (files : List (List ℕ)) (held : List ℕ → Option (List ℕ)) (s : Session) → IsFilesAnswer true files held (Reported s) → IsReport s.design line_budget s.report
reported_right files held s right = right.0

-- and its design is the one that is accepted
reported_accepted : (files : List (List ℕ)) (held : List ℕ → Option (List ℕ)) (s : Session) → IsFilesAnswer true files held (Reported s) → IsAccepted held files s.design
reported_accepted files held s right = (right.3 refl, right.1, right.2)

-- ---- how runs end

pub accepted_runs : AcceptedRuns
accepted_runs files texts system sink o form told accepted (inr early) = inr early
accepted_runs files texts system sink o form told accepted (inl e) = by e.0 e.1 (files_answer files texts e.0 form told e.1.right)
  where
    Done : Type 0
    Done = ((s : Session) × (s.design ≡ system) × IsReport system line_budget s.report × EndsBy texts files sink o (Reported s)) ⊎ EndsEarly texts sink o

    by : (a : Answer) → EndsBy texts files sink o a → IsFilesAnswer true files texts.held a → Done
    by Usage ends right = absurd right
    by (Refused r) ends right = absurd (never_both texts.held files system r accepted (right refl))
    by (Reported s) ends right =
        let same = one_design texts.held files s.design system (reported_accepted files texts.held s right).0 accepted.0 in
        inl (s, same, subst (λ d. IsReport d line_budget s.report) same (reported_right files texts.held s right), ends)

pub refused_runs : RefusedRuns
refused_runs files texts refusal sink o form told refused (inr early) = inr early
refused_runs files texts refusal sink o form told refused (inl e) = by e.0 e.1 (files_answer files texts e.0 form told e.1.right)
  where
    Done : Type 0
    Done = EndsBy texts files sink o (Refused refusal) ⊎ EndsEarly texts sink o

    by : (a : Answer) → EndsBy texts files sink o a → IsFilesAnswer true files texts.held a → Done
    by Usage ends right = absurd right
    by (Refused r) ends right =
        let same = one_refusal texts.held files r refusal (right refl) refused in
        inl (subst (λ x. EndsBy texts files sink o (Refused x)) same ends)
    by (Reported s) ends right = absurd (never_both texts.held files s.design refusal (reported_accepted files texts.held s right) refused)

-- ---- statuses of reports

usage_or_files : (form : Bool) (files : List (List ℕ)) (held : List ℕ → Option (List ℕ)) (a : Answer) → IsAnswerFor form true files held a → (a ≡ Usage) ⊎ IsFilesAnswer true files held a
usage_or_files true files held a right = inr right
usage_or_files false files held a right = inl right

-- A right report is answered, and the status is its own.
record Reports (files : List (List ℕ)) (held : List ℕ → Option (List ℕ)) (o : Outcome) : Type 0 where
  session : Session
  right : IsFilesAnswer true files held (Reported session)
  status : status session.report ≡ o.status

-- so it is where the status is at most 2
reports : (files : List (List ℕ)) (texts : TextsSeen) (sink : SinkSeen) (o : Outcome) → texts.tells ≡ true → Ends texts files sink o → o.status ≤ 2 → Reports files texts.held o
reports files texts sink o told (inr early) small = by early.status
  where
    by : ((o.status ≡ 5) × Rose texts.faults texts.faults_after) ⊎ (o.status ≡ 7) → Reports files texts.held o
    by (inl fault) = let e = fault.0 in absurd (omega (arith, e, small))
    by (inr memory) = absurd (omega (arith, memory, small))
reports files texts sink o told (inl ends) small = written ends.1.written
  where
    by : (a : Answer) → o.status ≡ status_of a → (a ≡ Usage) ⊎ IsFilesAnswer true files texts.held a → Reports files texts.held o
    by Usage e right = absurd (omega (arith, e, small))
    by (Refused r) e right = absurd (omega (arith, e, small))
    by (Reported s) e (inl usage) = absurd (cc usage)
    by (Reported s) e (inr right) = record { session = s; right = right; status = sym e }

    written : IsWritten files ends.0 sink o.status → Reports files texts.held o
    written (inl w) = by ends.0 w.0 (usage_or_files (is_form files) files texts.held ends.0 (told_answer files texts ends.0 told ends.1.right))
    written (inr w) = let e = w.0 in absurd (omega (arith, e, small))

-- ---- status 0

-- a verdict that is none of the others passed
neither_passed : (v : Verdict) → is_failed v ≡ false → is_undecided v ≡ false → is_passed v ≡ true
neither_passed Passed failed undecided = refl
neither_passed (Failed trace) failed undecided = absurd cc
neither_passed (Undef why) failed undecided = absurd cc

or_parts : (a b : Bool) → (a || b) ≡ false → (a ≡ false) × (b ≡ false)
or_parts true b h = absurd cc
or_parts false b h = (refl, h)

-- a test that no element meets is met at no place
none_there : {A : Type 0} (test : A → Bool) (xs : List A) → list_any test xs ≡ false → All (λ x. test x ≡ false) xs
none_there test [] h i d lt = absurd (omega arith)
none_there test (x ∷ xs) h zero d lt = (or_parts (test x) (list_any test xs) h).0
none_there test (x ∷ xs) h (suc i) d lt = let lower : i < length xs = omega arith in none_there test xs (or_parts (test x) (list_any test xs) h).1 i d lower

status_parts : (failed undecided : Bool) (n : ℕ) → n ≡ (if failed then 1 else (if undecided then 2 else 0)) → n ≡ 0 → (failed ≡ false) × (undecided ≡ false)
status_parts true undecided n is e = absurd (omega (arith, is, e))
status_parts false true n is e = absurd (omega (arith, is, e))
status_parts false false n is e = (refl, refl)

-- where the status is 0 all lines passed, whichever command they are of
all_passed : (report : Report) (command : ℕ) → status report ≡ 0 → AllPassed command report
all_passed report command e i d lt same =
    let parts = status_parts (list_any (λ l. is_failed l.verdict) report.lines) (list_any (λ l. is_undecided l.verdict) report.lines) (status report) refl e in
    neither_passed _ (none_there (λ l. is_failed l.verdict) report.lines parts.0 i d lt) (none_there (λ l. is_undecided l.verdict) report.lines parts.1 i d lt)

unrollings_hold : (system : System) (budget : ℕ) (report : Report) → IsRunnable system → IsReport system budget report → status report ≡ 0 → UnrollingsHold system
unrollings_hold system budget report runs is e place name depth before after commands checked =
    passed_unroll system budget report place name depth before after (running_apart system runs) commands checked is (all_passed report (length before) e)

-- the depth of an induction of a design that runs
induction_deep : (depth : Option ℕ) → is_judged (Induction depth) ≡ true → 1 ≤ depth_of depth
induction_deep None h = omega arith
induction_deep (Some k) h = let low : nat_le 1 k ≡ true = (and_true h).0 in grind (arith, nat_tests)

-- what all commands meet, one among them meets
one_runs : (before after : List Command) (c : Command) → list_all runs (before ++ (c ∷ after)) ≡ true → runs c ≡ true
one_runs [] after c h = (and_true h).0
one_runs (b ∷ before) after c h = one_runs before after c (and_true h).1

inductions_hold : (system : System) (budget : ℕ) (report : Report) → IsRunnable system → IsReport system budget report → status report ≡ 0 → InductionsHold system
inductions_hold system budget report can is e place name depth before after commands checked =
    let all : list_all runs (commands_of system) ≡ true = all_run system can (main_declarations system) (commands_of system) refl refl in
    let own : is_judged (Induction depth) ≡ true = one_runs before after (Run place name (Induction depth)) (ap (list_all runs) (sym commands) ∙ all) in
    passed_induction system budget report place name depth before after (running_apart system can) (induction_deep depth own) commands checked is (all_passed report (length before) e)

pub clean_run : CleanRun
clean_run files texts sink o told ends clean =
    let r = reports files texts sink o told ends (omega (arith, clean)) in
    let accepted = reported_accepted files texts.held r.session r.right in
    let right = reported_right files texts.held r.session r.right in
    let status_0 = r.status ∙ clean in (
      r.session.design,
      accepted,
      unrollings_hold r.session.design line_budget r.session.report accepted.2.runnable right status_0,
      inductions_hold r.session.design line_budget r.session.report accepted.2.runnable right status_0,
    )

-- ---- status 1

-- a line that failed, and where it stands
failed_at : (ls : List LineResult) → list_any (λ l. is_failed l.verdict) ls ≡ true → (n : ℕ) × (l : LineResult) × (slice_get ls n ≡ Some l) × (is_failed l.verdict ≡ true)
failed_at [] h = absurd cc
failed_at (x ∷ xs) h = by (is_failed x.verdict) refl h (failed_at xs)
  where
    Found : Type 0
    Found = (n : ℕ) × (l : LineResult) × (slice_get (x ∷ xs) n ≡ Some l) × (is_failed l.verdict ≡ true)

    by : (b : Bool) → is_failed x.verdict ≡ b → (b || list_any (λ l. is_failed l.verdict) xs) ≡ true →
        (list_any (λ l. is_failed l.verdict) xs ≡ true → (n : ℕ) × (l : LineResult) × (slice_get xs n ≡ Some l) × (is_failed l.verdict ≡ true)) → Found
    by true is e more = (0, x, refl, is)
    by false is e more = let rest = more e in (suc rest.0, rest.1, rest.2, rest.3)

trace_of_failed : (system : System) (line : Line) (v : Verdict) → IsRightVerdict system line v → is_failed v ≡ true → (trace : Trace) × Refutes system line trace
trace_of_failed system line Passed right failed = absurd cc
trace_of_failed system line (Failed trace) right failed = (trace, right)
trace_of_failed system line (Undef why) right failed = absurd cc

one_failed : (failed undecided : Bool) (n : ℕ) → n ≡ (if failed then 1 else (if undecided then 2 else 0)) → n ≡ 1 → failed ≡ true
one_failed true undecided n is e = refl
one_failed false true n is e = absurd (omega (arith, is, e))
one_failed false false n is e = absurd (omega (arith, is, e))

refuted : (system : System) (budget : ℕ) (report : Report) → IsReport system budget report → status report ≡ 1 → (n : ℕ) × (line : Line) × (trace : Trace) × (slice_get (all_lines system) n ≡ Some line) × Refutes system line trace
refuted system budget report is e =
    let found = failed_at report.lines (one_failed (list_any (λ l. is_failed l.verdict) report.lines) (list_any (λ l. is_undecided l.verdict) report.lines) (status report) refl e) in
    let within = slice_get_within report.lines found.0 found.1 found.2 in
    let here : get_or report.lines found.0 found.1 ≡ found.1 = get_or_from_slice_get report.lines found.0 found.1 found.1 found.2 in
    let right : IsRightVerdict system found.1.line found.1.verdict = subst (λ l. IsRightVerdict system l.line l.verdict) here (is.verdicts found.0 found.1 within) in
    let trace = trace_of_failed system found.1.line found.1.verdict right found.3 in
    let stands : slice_get (all_lines system) found.0 ≡ Some found.1.line =
    ap (λ ls. slice_get ls found.0) (sym is.lines) ∙ slice_get-map (λ l. l.line) report.lines found.0 ∙ ap (λ o. option_map (λ l. l.line) o) found.2 in
    (found.0, found.1.line, trace.0, stands, trace.1)

pub failed_run : FailedRun
failed_run files texts sink o told ends failed =
    let r = reports files texts sink o told ends (omega (arith, failed)) in
    (r.session.design, reported_accepted files texts.held r.session r.right, refuted r.session.design line_budget r.session.report (reported_right files texts.held r.session r.right) (r.status ∙ failed))
