-- Executions of a procedure of main.
use Rattle.std.proofs.Common.{◌≡◌, ℕ, zero, suc, ◌≤◌, List, [], ◌∷◌, ◌++◌, map, length, take, drop, Option, Some, None, Bool, true, false, refl, ap, ◌∙◌, sym, subst, arith}
use Rattle.std.specs.Prelude.{IsTrue, ◌↔◌, Result, Ok, Err, IfOk}
use Rattle.std.specs.Bool.{Decides}
use Rattle.std.specs.List.{flat_map}
use Rattle.std.proofs.lemmas.List.{append-nil, length-map, length-drop, drop_all}
use Rattle.uc_syntax.specs.declared.declaration.Procedure.{Procedure}
use Rattle.uc_syntax.specs.declared.declaration.Module.{Module}
use Rattle.uc_values.specs.declared.ty.Ty.{Ty}
use Rattle.uc_values.specs.declared.value.Value.{Value}
use Rattle.uc_meaning.specs.declared.overflow.Wide.{Wide}
use Rattle.uc_meaning.specs.declared.scope.Interp.{Interp}
use Rattle.uc_meaning.specs.declared.scope.Scope.{Scope}
use Rattle.uc_meaning.specs.declared.scope.Site.{Site}
use Rattle.uc_meaning.specs.declared.line.Line.{Line}
use Rattle.uc_meaning.specs.declared.line.What.{What}
use Rattle.uc_meaning.specs.declared.code.CodeEnd.{CodeEnd}
use Rattle.uc_meaning.specs.declared.code.CodeEnd.TheVariants.{Ended, Stopped as AnsweredStopped, BadChoice}
use Rattle.uc_meaning.specs.Lookup.{System, main_module}
use Rattle.uc_meaning.specs.Types.{type_of_written}
use Rattle.uc_meaning.specs.Cells.{as_list, FitAll}
use Rattle.uc_meaning.specs.Code.{requires_of, Ending, Goes, Stopped, Unfit, Running}
use Rattle.uc_meaning.specs.Ends.{IsEnd}
use Rattle.uc_meaning.specs.Runs.{Position}
use Rattle.uc_meaning.specs.Lines.{BodyFails, FailsBody, FailsBodyOf, main_declarations}
use Rattle.uc_operators.specs.declared.error.EvalError.{EvalError}
use Rattle.uc_executions.specs.Asked.{ask_each}
use Rattle.uc_executions.specs.Formulas.{truth_asked}
use Rattle.uc_executions.specs.Executions.{entry_at, body_ending, body_met}
use Rattle.uc_checks.specs.declared.bodies.Execution.{Execution}
use Rattle.uc_checks.specs.Tellings.{Telling, Of, Followed, Where, Tells}
use Rattle.uc_checks.specs.Refutations.{IsEntry, RequiredAt, EndsIn, ExitTells, BodyTells, BodyOfTells, arguments_at, choices_at}
use Rattle.uc_checks.specs.Bodies.{two_of, ended, FailsAtExit}
use Rattle.uc_checks.proofs.Told.{none_decided, same_decided, told_here, told_stop, told_next, where_none, where_told, where_err}

pub none_left : {A : Type 0} (xs : List A) (b : Bool) → (IsTrue b ↔ (xs ≡ [])) → b ≡ true → xs ≡ []
none_left xs b same is = same.0 is

-- ---- what is meant

pub main_decls : (system : System) (m : Module) → Some m ≡ main_module system → m.decls ≡ main_declarations system
main_decls system m is = sym (append-nil m.decls) ∙ ap (λ o. flat_map (λ (n : Module). n.decls) (as_list o)) is

same_some : {A : Type 0} (p q : A) → Some p ≡ Some q → p ≡ q
same_some p q same = cc

pub two_is : (copies : List (List Position)) (e x : Position) → Some (e, x) ≡ two_of copies → copies ≡ (e ∷ (x ∷ [])) ∷ []
two_is [] e x is = absurd (cc)
two_is ([] ∷ copies) e x is = absurd (cc)
two_is ((a ∷ []) ∷ copies) e x is = absurd (cc)
two_is ((a ∷ (b ∷ [])) ∷ []) e x is = sym (ap (λ (p : Position × Position). (p.0 ∷ (p.1 ∷ [])) ∷ []) (same_some (e, x) (a, b) is))
two_is ((a ∷ (b ∷ [])) ∷ (c ∷ copies)) e x is = absurd (cc)
two_is ((a ∷ (b ∷ (c ∷ ps))) ∷ copies) e x is = absurd (cc)

module _ (system : System) (line : Line) (i : Interp) (m : Module) (p : Procedure) where
  pub not_two : (copies : List (List Position)) → None ≡ two_of copies → FailsBodyOf system line i (Some m) (Some p) copies → ⊥
  not_two [] is h = h
  not_two ([] ∷ copies) is h = h
  not_two ((a ∷ []) ∷ copies) is h = h
  not_two ((a ∷ (b ∷ [])) ∷ []) is h = absurd (cc)
  not_two ((a ∷ (b ∷ [])) ∷ (c ∷ copies)) is h = h
  not_two ((a ∷ (b ∷ (c ∷ ps))) ∷ copies) is h = h

  pub not_two_told : (copies : List (List Position)) → None ≡ two_of copies → BodyOfTells system line.what i (Some m) (Some p) copies None
  not_two_told [] is = refl
  not_two_told ([] ∷ copies) is = refl
  not_two_told ((a ∷ []) ∷ copies) is = refl
  not_two_told ((a ∷ (b ∷ [])) ∷ []) is = absurd (let clash : None ≡ Some (a, b) = is in cc)
  not_two_told ((a ∷ (b ∷ [])) ∷ (c ∷ copies)) is = refl
  not_two_told ((a ∷ (b ∷ (c ∷ ps))) ∷ copies) is = refl

-- ---- the arguments and the choices of the body

fit_take : (ts : List Ty) (vs ws : List Value) → FitAll ts vs → take (length ts) (vs ++ ws) ≡ vs
unfolding FitAll
fit_take [] [] ws h = refl
fit_take [] (v ∷ vs) ws h = absurd h
fit_take (t ∷ ts) [] ws h = absurd h
fit_take (t ∷ ts) (v ∷ vs) ws h = ap (λ ys. v ∷ ys) (fit_take ts vs ws h.1)

fit_drop : (ts : List Ty) (vs ws : List Value) → FitAll ts vs → drop (length ts) (vs ++ ws) ≡ ws
unfolding FitAll
fit_drop [] [] ws h = refl
fit_drop [] (v ∷ vs) ws h = absurd h
fit_drop (t ∷ ts) [] ws h = absurd h
fit_drop (t ∷ ts) (v ∷ vs) ws h = fit_drop ts vs ws h.1

joined_again : {A : Type 0} (n : ℕ) (xs : List A) → xs ≡ take n xs ++ drop n xs
joined_again zero xs = refl
joined_again (suc n) [] = refl
joined_again (suc n) (x ∷ xs) = ap (λ ys. x ∷ ys) (joined_again n xs)

-- ---- what fails at the exit

module _ (system : System) (line : Line) (i : Interp) (m : Module) (p : Procedure) (entry exit : Position) where
  abbrev arguments : List Value
  arguments = arguments_at p exit

  abbrev choices : List Value
  choices = choices_at p exit

  abbrev ending : Ending
  ending = body_ending system m p (entry_at system m i p entry.0 arguments) choices

  abbrev FailsThere : Ending → Type 0
  FailsThere o = FailsAtExit system p entry.0 exit.0 o line.what

  there : (o : Ending) → ending ≡ o → IsEntry system m p entry arguments → RequiredAt system m i p entry.0 arguments → FailsThere o → FailsBody system line i m p entry exit
  there (Goes end) is e required h = record {
    no_choices = e.no_choices;
    arguments = arguments;
    choices = choices;
    joined = joined_again (length p.parameters) exit.1;
    end = end;
    executes = record { state = e.state; fit = e.fit; required = required; ends = is; uses_all = h.0 };
    exits = h.1;
    fails = h.2;
  }
  there Stopped is e required h = absurd h
  there (Unfit left) is e required h = absurd h

  pub fails_there : IsEntry system m p entry arguments → RequiredAt system m i p entry.0 arguments → FailsThere ending → FailsBody system line i m p entry exit
  fails_there e required h = there ending refl e required h

  module _ (h : FailsBody system line i m p entry exit) where
    count : length (map (λ q. type_of_written system m q.ty) p.parameters) ≡ length p.parameters
    count = length-map p.parameters (λ q. type_of_written system m q.ty)

    arguments_are : arguments ≡ h.arguments
    arguments_are =
        ap (λ n. take n exit.1) (sym count) ∙ ap (take (length (map (λ q. type_of_written system m q.ty) p.parameters))) h.joined
        ∙ fit_take (map (λ q. type_of_written system m q.ty) p.parameters) h.arguments h.choices h.executes.fit

    choices_are : choices ≡ h.choices
    choices_are =
        ap (λ n. drop n exit.1) (sym count) ∙ ap (drop (length (map (λ q. type_of_written system m q.ty) p.parameters))) h.joined
        ∙ fit_drop (map (λ q. type_of_written system m q.ty) p.parameters) h.arguments h.choices h.executes.fit

    pub entry_of : IsEntry system m p entry arguments
    entry_of = record { no_choices = h.no_choices; state = h.executes.state; fit = subst (FitAll (map (λ q. type_of_written system m q.ty) p.parameters)) (sym arguments_are) h.executes.fit }

    pub required_of : RequiredAt system m i p entry.0 arguments
    required_of = subst (RequiredAt system m i p entry.0) (sym arguments_are) h.executes.required

    pub there_of : FailsThere ending
    there_of =
        let ends : ending ≡ Goes h.end =
        (λ k. body_ending system m p (entry_at system m i p entry.0 (arguments_are k)) (choices_are k)) ∙ h.executes.ends in
        subst FailsThere (sym ends) (h.executes.uses_all, h.exits, h.fails)

-- the same for arguments and choices that are equal to these
module _ (system : System) (line : Line) (i : Interp) (m : Module) (p : Procedure) (entry exit : Position) (arguments choices : List Value) where
  abbrev EndingHere : Ending
  EndingHere = body_ending system m p (entry_at system m i p entry.0 arguments) choices

  abbrev FailsHere : Type 0
  FailsHere = FailsAtExit system p entry.0 exit.0 EndingHere line.what

  -- what is told of an execution with these arguments and choices
  abbrev pub TellsExit : Telling
  TellsExit = Followed (Of (body_met system m p (entry_at system m i p entry.0 arguments) choices)) (EndsIn exit.0 EndingHere) (ExitTells system p entry.0 EndingHere line.what)

  abbrev pub TellsRequired : Telling
  TellsRequired = Followed (Of (ask_each (truth_asked system (entry_at system m i p entry.0 arguments)) (requires_of p)).met) (RequiredAt system m i p entry.0 arguments) TellsExit

  abbrev pub TellsHere : Telling
  TellsHere = Where (IsEntry system m p entry arguments) TellsRequired

  module _ (as' : arguments ≡ arguments_at p exit) (cs : choices ≡ choices_at p exit) where
    pub body_to : IsEntry system m p entry arguments → RequiredAt system m i p entry.0 arguments → FailsHere → FailsBody system line i m p entry exit
    body_to e required h =
        fails_there system line i m p entry exit (subst (IsEntry system m p entry) as' e) (subst (RequiredAt system m i p entry.0) as' required)
        (subst (λ xs. FailsAtExit system p entry.0 exit.0 (body_ending system m p (entry_at system m i p entry.0 xs) (choices_at p exit)) line.what) as'
        (subst (λ ys. FailsAtExit system p entry.0 exit.0 (body_ending system m p (entry_at system m i p entry.0 arguments) ys) line.what) cs h))

    pub body_entry : FailsBody system line i m p entry exit → IsEntry system m p entry arguments
    body_entry h = subst (IsEntry system m p entry) (sym as') (entry_of system line i m p entry exit h)

    pub body_required : FailsBody system line i m p entry exit → RequiredAt system m i p entry.0 arguments
    body_required h = subst (RequiredAt system m i p entry.0) (sym as') (required_of system line i m p entry exit h)

    pub body_from : FailsBody system line i m p entry exit → FailsHere
    body_from h =
        subst (λ ys. FailsAtExit system p entry.0 exit.0 (body_ending system m p (entry_at system m i p entry.0 arguments) ys) line.what) (sym cs)
        (subst (λ xs. FailsAtExit system p entry.0 exit.0 (body_ending system m p (entry_at system m i p entry.0 xs) (choices_at p exit)) line.what) (sym as')
        (there_of system line i m p entry exit h))

-- what is told depends on the arguments and choices alone
module _ (system : System) (line : Line) (i : Interp) (m : Module) (p : Procedure) (entry exit : Position) (xs ys : List Value) (as' : xs ≡ arguments_at p exit) (cs : ys ≡ choices_at p exit) where
  tells_to : {A : Type 0} (r : Result A EvalError) → Tells (TellsHere system line i m p entry exit xs ys) r → Tells (BodyTells system line.what i m p entry exit) r
  tells_to r told =
      subst (λ zs. Tells (TellsHere system line i m p entry exit zs (choices_at p exit)) r) as'
      (subst (λ zs. Tells (TellsHere system line i m p entry exit xs zs) r) cs told)

  abbrev Met : List Wide
  Met = (ask_each (truth_asked system (entry_at system m i p entry.0 xs)) (requires_of p)).met

  abbrev Required : Type 0
  Required = RequiredAt system m i p entry.0 xs

  abbrev Entered : Type 0
  Entered = IsEntry system m p entry xs

  abbrev AtExit : Telling
  AtExit = TellsExit system line i m p entry exit xs ys

  abbrev Asked : Telling
  Asked = TellsRequired system line i m p entry exit xs ys

  pub entry_stops : (Entered → ⊥) → BodyTells system line.what i m p entry exit None
  entry_stops never = tells_to {A = Bool} (Ok false) (where_none Entered Asked never)

  module _ (entered : Entered) where
    pub requires_told : (e : EvalError) → Tells {A = Bool} (Of Met) (Err e) → Tells {A = Bool} (BodyTells system line.what i m p entry exit) (Err e)
    requires_told e told = tells_to {A = Bool} (Err e) (where_err Bool Bool Entered Asked e entered (told_here (Of Met) Required AtExit Bool Bool e told))

    pub requires_stop : Of Met None → (Required → ⊥) → BodyTells system line.what i m p entry exit None
    requires_stop fine never = tells_to {A = Bool} (Ok false) (where_told {A = Bool} Entered Asked (Ok false) entered (told_stop (Of Met) Required AtExit fine never))

    pub exit_tells : (r : Result Bool EvalError) → Of Met None → Required → Tells AtExit r → Tells (BodyTells system line.what i m p entry exit) r
    exit_tells r fine required told = tells_to r (where_told Entered Asked r entered (told_next (Of Met) Required AtExit r fine required told))

-- ---- the module, the procedure and the two positions

module _ (system : System) (line : Line) (i : Interp) (copies : List (List Position)) where
  pub no_main : (mo : Option Module) (po : Option Procedure) → None ≡ mo → FailsBodyOf system line i mo po copies → ⊥
  no_main mo po is h = let none : FailsBodyOf system line i None po copies = subst (λ o. FailsBodyOf system line i o po copies) (sym is) h in none

  pub no_main_told : (mo : Option Module) (po : Option Procedure) → None ≡ mo → BodyOfTells system line.what i mo po copies None
  no_main_told mo po is = subst (λ o. BodyOfTells system line.what i o po copies None) is refl

  pub no_procedure : (mo : Option Module) (po : Option Procedure) (m : Module) → Some m ≡ mo → None ≡ po → FailsBodyOf system line i mo po copies → ⊥
  no_procedure mo po m some is h =
      let none : FailsBodyOf system line i (Some m) None copies =
      subst (λ o. FailsBodyOf system line i (Some m) o copies) (sym is) (subst (λ o. FailsBodyOf system line i o po copies) (sym some) h) in
      none

  pub no_procedure_told : (mo : Option Module) (po : Option Procedure) (m : Module) → Some m ≡ mo → None ≡ po → BodyOfTells system line.what i mo po copies None
  no_procedure_told mo po m some is =
      subst (λ o. BodyOfTells system line.what i o po copies None) some (subst (λ o. BodyOfTells system line.what i (Some m) o copies None) is refl)

  module _ (mo : Option Module) (po : Option Procedure) (m : Module) (p : Procedure) (some : Some m ≡ mo) (named : Some p ≡ po) where
    pub no_ends : None ≡ two_of copies → FailsBodyOf system line i mo po copies → ⊥
    no_ends is h =
        not_two system line i m p copies is
        (subst (λ o. FailsBodyOf system line i (Some m) o copies) (sym named) (subst (λ o. FailsBodyOf system line i o po copies) (sym some) h))

    pub no_ends_told : None ≡ two_of copies → BodyOfTells system line.what i mo po copies None
    no_ends_told is =
        subst (λ o. BodyOfTells system line.what i o po copies None) some
        (subst (λ o. BodyOfTells system line.what i (Some m) o copies None) named (not_two_told system line i m p copies is))

    module _ (e x : Position) (two : Some (e, x) ≡ two_of copies) where
      pub body_value : {E : Type 0} (r : Result Bool E) → IfOk r (λ b. Decides b (FailsBody system line i m p e x)) → IfOk r (λ b. Decides b (FailsBodyOf system line i mo po copies))
      body_value r h =
          subst (λ o. IfOk r (λ b. Decides b (FailsBodyOf system line i o po copies))) some
          (subst (λ o. IfOk r (λ b. Decides b (FailsBodyOf system line i (Some m) o copies))) named
          (subst (λ cs. IfOk r (λ b. Decides b (FailsBodyOf system line i (Some m) (Some p) cs))) (sym (two_is copies e x two)) h))

      pub body_told : {A : Type 0} (r : Result A EvalError) → Tells (BodyTells system line.what i m p e x) r → Tells (BodyOfTells system line.what i mo po copies) r
      body_told r h =
          subst (λ o. Tells (BodyOfTells system line.what i o po copies) r) some
          (subst (λ o. Tells (BodyOfTells system line.what i (Some m) o copies) r) named
          (subst (λ cs. Tells (BodyOfTells system line.what i (Some m) (Some p) cs) r) (sym (two_is copies e x two)) h))

-- ---- how the program tells the end

drop_none : {A : Type 0} (k : ℕ) (xs : List A) → k ≤ length xs → drop k xs ≡ [] → k ≡ length xs
drop_none k xs within none = let left : length (drop k xs) ≡ 0 = ap length none in omega (arith, within, left, length-drop k xs)

module _ (e : Execution) where
  pub ended_not : (scope : Scope) (violated : List Site) (used : ℕ) → ((used ≡ length e.choices.now) × (scope.before ≡ e.exit.now) → ⊥) →
      (o : Ending) → IsEnd e.choices.now (Ended scope violated used) o → EndsIn e.exit.now o → ⊥
  ended_not scope violated used never (Goes r) is h =
      never (drop_none used e.choices.now is.3 (is.2 ∙ h.0), ap (λ s. s.before) is.0 ∙ h.1)
  ended_not scope violated used never Stopped is h = h
  ended_not scope violated used never (Unfit left) is h = h

  pub other_end : (end : CodeEnd) → ((scope : Scope) (violated : List Site) (used : ℕ) → end ≡ Ended scope violated used → ⊥) → (o : Ending) → IsEnd e.choices.now end o → EndsIn e.exit.now o → ⊥
  other_end (Ended scope violated used) never o is h = never scope violated used refl
  other_end AnsweredStopped never (Goes r) is h = is
  other_end AnsweredStopped never Stopped is h = h
  other_end AnsweredStopped never (Unfit left) is h = h
  other_end (BadChoice n) never (Goes r) is h = is
  other_end (BadChoice n) never Stopped is h = h
  other_end (BadChoice n) never (Unfit left) is h = h

  module _ (system : System) (what : What) where
    pub exits : (o : Ending) → FailsAtExit system e.procedure.now e.entry.now e.exit.now o what → EndsIn e.exit.now o
    exits (Goes r) h = (h.0, h.1)
    exits Stopped h = h
    exits (Unfit left) h = h

    module _ (scope : Scope) (violated : List Site) (used : ℕ) (at : (used ≡ length e.choices.now) × (scope.before ≡ e.exit.now)) where
      same_end : (r : Running) → IsEnd e.choices.now (Ended scope violated used) (Goes r) → ended scope violated ≡ r
      same_end r is =
          let none : [] ≡ r.left = sym (drop_all used e.choices.now (let past : length e.choices.now ≤ used = omega (arith, at.0) in past)) ∙ is.2 in
          (λ k. record { scope = is.0 k; sites = is.1 k; left = none k })

      pub exit_decided : (b : Bool) → Decides b (BodyFails system e.procedure.now e.entry.now (ended scope violated) what) →
          (o : Ending) → IsEnd e.choices.now (Ended scope violated used) o → Decides b (FailsAtExit system e.procedure.now e.entry.now e.exit.now o what)
      exit_decided b decided (Goes r) is =
          same_decided b decided
          (λ h. (
            sym (ap (λ q. q.left) (same_end r is)),
            sym (ap (λ q. q.scope.before) (same_end r is)) ∙ at.1,
            subst (λ q. BodyFails system e.procedure.now e.entry.now q what) (same_end r is) h,
          ))
          (λ h. subst (λ q. BodyFails system e.procedure.now e.entry.now q what) (sym (same_end r is)) h.2)
      exit_decided b decided Stopped is = absurd is
      exit_decided b decided (Unfit left) is = absurd is

      pub exit_told : {A : Type 0} (r : Result A EvalError) → Tells (ExitTells system e.procedure.now e.entry.now (Goes (ended scope violated)) what) r →
          (o : Ending) → IsEnd e.choices.now (Ended scope violated used) o → Tells (Where (EndsIn e.exit.now o) (ExitTells system e.procedure.now e.entry.now o what)) r
      exit_told r told (Goes q) is =
          where_told (EndsIn e.exit.now (Goes q)) (ExitTells system e.procedure.now e.entry.now (Goes q) what) r
          (sym (ap (λ z. z.left) (same_end q is)), sym (ap (λ z. z.scope.before) (same_end q is)) ∙ at.1)
          (subst (λ z. Tells (ExitTells system e.procedure.now e.entry.now (Goes z) what) r) (same_end q is) told)
      exit_told r told Stopped is = absurd is
      exit_told r told (Unfit left) is = absurd is

pub at_ending : {E : Type 0} (system : System) (e : Execution) (what : What) (o : Ending) (r : Result Bool E) (end : CodeEnd) → IsEnd e.choices.now end o →
    IfOk r (λ b. (ending : Ending) → IsEnd e.choices.now end ending → Decides b (FailsAtExit system e.procedure.now e.entry.now e.exit.now ending what)) →
    IfOk r (λ b. Decides b (FailsAtExit system e.procedure.now e.entry.now e.exit.now o what))
at_ending system e what o (Ok b) end is h = h o is
at_ending system e what o (Err error) end is h = h

-- ---- by what the program answered of the code

module _ (e : Execution) (system : System) (what : What) (end : CodeEnd) where
  pub not_ended : (scope : Scope) (violated : List Site) (used : ℕ) → end ≡ Ended scope violated used → ((used ≡ length e.choices.now) × (scope.before ≡ e.exit.now) → ⊥) →
      (o : Ending) → IsEnd e.choices.now end o → Decides false (FailsAtExit system e.procedure.now e.entry.now e.exit.now o what)
  not_ended scope violated used is never o ends =
      none_decided (λ h. ended_not e scope violated used never o (subst (λ z. IsEnd e.choices.now z o) is ends) (exits e system what o h))

  pub not_ended_told : (scope : Scope) (violated : List Site) (used : ℕ) → end ≡ Ended scope violated used → ((used ≡ length e.choices.now) × (scope.before ≡ e.exit.now) → ⊥) →
      (o : Ending) → IsEnd e.choices.now end o → Where (EndsIn e.exit.now o) (ExitTells system e.procedure.now e.entry.now o what) None
  not_ended_told scope violated used is never o ends =
      where_none (EndsIn e.exit.now o) (ExitTells system e.procedure.now e.entry.now o what) (ended_not e scope violated used never o (subst (λ z. IsEnd e.choices.now z o) is ends))

  pub no_end : ((scope : Scope) (violated : List Site) (used : ℕ) → end ≡ Ended scope violated used → ⊥) → (o : Ending) → IsEnd e.choices.now end o → Decides false (FailsAtExit system e.procedure.now e.entry.now e.exit.now o what)
  no_end never o ends = none_decided (λ h. other_end e end never o ends (exits e system what o h))

  pub no_end_told : ((scope : Scope) (violated : List Site) (used : ℕ) → end ≡ Ended scope violated used → ⊥) → (o : Ending) → IsEnd e.choices.now end o → Where (EndsIn e.exit.now o) (ExitTells system e.procedure.now e.entry.now o what) None
  no_end_told never o ends = where_none (EndsIn e.exit.now o) (ExitTells system e.procedure.now e.entry.now o what) (other_end e end never o ends)

  module _ (scope : Scope) (violated : List Site) (used : ℕ) (is : end ≡ Ended scope violated used) (at : (used ≡ length e.choices.now) × (scope.before ≡ e.exit.now)) where
    pub ends_value : {E : Type 0} (r : Result Bool E) → IfOk r (λ b. Decides b (BodyFails system e.procedure.now e.entry.now (ended scope violated) what)) →
        IfOk r (λ b. (o : Ending) → IsEnd e.choices.now end o → Decides b (FailsAtExit system e.procedure.now e.entry.now e.exit.now o what))
    ends_value (Ok b) decided = λ o ends. exit_decided e system what scope violated used at b decided o (subst (λ z. IsEnd e.choices.now z o) is ends)
    ends_value (Err error) decided = decided

    pub ends_told : {A : Type 0} (r : Result A EvalError) → Tells (ExitTells system e.procedure.now e.entry.now (Goes (ended scope violated)) what) r →
        (o : Ending) → IsEnd e.choices.now end o → Tells (Where (EndsIn e.exit.now o) (ExitTells system e.procedure.now e.entry.now o what)) r
    ends_told r told o ends = exit_told e system what scope violated used at r told o (subst (λ z. IsEnd e.choices.now z o) is ends)
