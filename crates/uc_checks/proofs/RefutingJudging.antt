-- All copies of a trace, and what a line judges at their last position.
use Rattle.std.proofs.Common.{◌≡◌, ℕ, ◌+◌, ◌<◌, ◌≤◌, List, [], ◌∷◌, length, drop, get_or, Option, Some, None, Bool, true, false, ◌&&◌, refl, ap, ◌∙◌, sym, subst}
use Rattle.std.specs.Prelude.{Result, Ok, Err, IfOk}
use Rattle.std.specs.Bool.{Decides}
use Rattle.std.specs.List.{All}
use Rattle.std.proofs.lemmas.List.{drop_all, drop_more}
use Rattle.std.proofs.lemmas.List.Elements.{All-nil, All-cons, All-head, All-tail}
use Rattle.uc_meaning.specs.declared.scope.Interp.{Interp}
use Rattle.uc_meaning.specs.declared.scope.State.{State}
use Rattle.uc_meaning.specs.declared.scope.Site.{Site}
use Rattle.uc_meaning.specs.declared.line.Line.{Line}
use Rattle.uc_meaning.specs.declared.line.What.{What}
use Rattle.uc_meaning.specs.declared.line.What.TheVariants.{AtSite, Ensures}
use Rattle.uc_meaning.specs.Lookup.{System}
use Rattle.uc_meaning.specs.Cells.{instances}
use Rattle.uc_meaning.specs.Runs.{Position, position_at, states_at, AreCopies}
use Rattle.uc_meaning.specs.Lines.{InvariantsIn, FailsAt, FailsAfter, FailsInduction}
use Rattle.uc_checks.specs.declared.walk.Beginning.{Beginning}
use Rattle.uc_checks.specs.declared.walk.Beginning.TheVariants.{Initial, Anywhere}
use Rattle.uc_checks.specs.Sites.{site_asked}
use Rattle.uc_checks.specs.Walks.{Lists, ListsAsked}
use Rattle.uc_checks.specs.Answers.{CopyAnswer, CopiesAnswer, WalkAnswer}
use Rattle.uc_checks.specs.Refutations.{AreWalked, InvariantsBefore, HyperinvariantsAt, AgreeAt}
use Rattle.uc_checks.proofs.Told.{none_decided}

and_left : (a b : Bool) → (a && b) ≡ true → a ≡ true
and_left true b is = refl
and_left false b is = is

and_right : (a b : Bool) → (a && b) ≡ true → b ≡ true
and_right true b is = is
and_right false b is = absurd (let clash : false ≡ true = is in cc)

pub answer_at : (beginning : Beginning) (system : System) (i : Interp) (site : Option Site) (run : List Position) (o p : Option Bool) → o ≡ p → CopyAnswer beginning system i site run o → CopyAnswer beginning system i site run p
answer_at beginning system i site run o p same answer = subst (CopyAnswer beginning system i site run) same answer

-- ---- whether each copy lists the site

-- Before turn k it is known whether each copy lists the site.
pub record Listed (beginning : Beginning) (system : System) (i : Interp) (site : Option Site) (copies : List (List Position)) (k : ℕ) (all : Bool) : Type 0 where
  pub lists : all ≡ true → All (ListsAsked beginning system i site) (drop k copies) → All (ListsAsked beginning system i site) copies
  pub given : All (ListsAsked beginning system i site) copies → all ≡ true

module _ (beginning : Beginning) (system : System) (i : Interp) (site : Option Site) (copies : List (List Position)) where
  abbrev Asked : List Position → Type 0
  Asked = ListsAsked beginning system i site

  pub list_begin : Listed beginning system i site copies 0 true
  list_begin = record { lists = λ is h. h; given = λ h. refl }

  module _ (k : ℕ) (all : Bool) (before : Listed beginning system i site copies k all) where
    pub list_end : length copies ≤ k → Decides all (All Asked copies)
    list_end past = (λ is. before.lists is (subst (All Asked) (sym (drop_all k copies past)) (All-nil Asked)), before.given)

    pub list_more : (run d : List Position) (within : k < length copies) (is : run ≡ get_or copies k d) (listed now : Bool) → Decides listed (Asked run) → now ≡ (all && listed) → Listed beginning system i site copies (k + 1) now
    list_more run d within is listed now decided both = record {
      lists = λ yes_all rest.
          let together : (all && listed) ≡ true = sym both ∙ yes_all in
          before.lists (and_left all listed together)
          (subst (All Asked) (sym (drop_more copies k d within ∙ ap (λ y. y ∷ drop (k + 1) copies) (sym is)))
          (All-cons Asked run (drop (k + 1) copies) (decided.0 (and_right all listed together)) rest));
      given = λ h.
          let here : listed ≡ true = decided.1 (subst Asked (sym is) (h k d within)) in
          both ∙ ap (λ a. a && listed) (before.given h) ∙ here;
    }

-- ---- the number of copies and their length

pub copies_decided : (n steps : ℕ) (copies : List (List Position)) → length copies ≡ n → All (λ run. length run ≡ steps + 1) copies → Decides true (AreCopies n steps copies)
copies_decided n steps copies number even = (λ is. record { number = number; even = even }, λ h. refl)

pub walk_at : (beginning : Beginning) (system : System) (i : Interp) (line : Line) (steps : ℕ) (copies : List (List Position)) (o p : Option Bool) → o ≡ p →
    WalkAnswer beginning system i line steps copies o → WalkAnswer beginning system i line steps copies p
walk_at beginning system i line steps copies o p same answer = subst (WalkAnswer beginning system i line steps copies) same answer

pub walk_answer : {E : Type 0} (beginning : Beginning) (system : System) (i : Interp) (line : Line) (steps : ℕ) (copies : List (List Position)) (site : Option Site) → site ≡ site_asked line.what →
    (r : Result (Option Bool) E) → AreCopies line.arity steps copies → IfOk r (CopiesAnswer beginning system i site copies) → IfOk r (WalkAnswer beginning system i line steps copies)
walk_answer beginning system i line steps copies site same (Ok (Some b)) copied h = (copied, (h.0, subst (λ s. Decides b (All (ListsAsked beginning system i s) copies)) same h.1))
walk_answer beginning system i line steps copies site same (Ok None) copied h = λ again all. h all
walk_answer beginning system i line steps copies site same (Err e) copied h = h

pub walked : (beginning : Beginning) (system : System) (line : Line) (steps : ℕ) (i : Interp) (copies : List (List Position)) (listed : Bool) → WalkAnswer beginning system i line steps copies (Some listed) → AreWalked beginning system i line.arity steps copies
walked beginning system line steps i copies listed answer = (answer.0, answer.1.0)

pub not_walked : (beginning : Beginning) (system : System) (line : Line) (steps : ℕ) (i : Interp) (copies : List (List Position)) → WalkAnswer beginning system i line steps copies None → AreWalked beginning system i line.arity steps copies → ⊥
not_walked beginning system line steps i copies none h = none h.0 h.1

-- ---- what a line judges

pub subject_at : (beginning : Beginning) (system : System) (i : Interp) (copies : List (List Position)) (steps : ℕ) (what : What) (site : Site) (listed : Bool) → what ≡ AtSite site →
    Decides listed (All (ListsAsked beginning system i (site_asked what)) copies) → Decides listed (FailsAt system i copies steps (Lists beginning system i) what)
subject_at beginning system i copies steps what site listed is decided =
    subst (λ w. Decides listed (FailsAt system i copies steps (Lists beginning system i) w)) (sym is)
    (subst (λ w. Decides listed (All (ListsAsked beginning system i (site_asked w)) copies)) is decided)

pub no_subject : (beginning : Beginning) (system : System) (i : Interp) (copies : List (List Position)) (steps : ℕ) (what : What) (n : ℕ) → what ≡ Ensures n →
    Decides false (FailsAt system i copies steps (Lists beginning system i) what)
no_subject beginning system i copies steps what n is =
    subst (λ w. Decides false (FailsAt system i copies steps (Lists beginning system i) w)) (sym is) (none_decided (λ h. h))

module _ (system : System) (line : Line) (steps : ℕ) (i : Interp) (copies : List (List Position)) where
  abbrev pub FailsEnd : Beginning → Type 0
  FailsEnd beginning = ((k : ℕ) → k < steps + 1 → AgreeAt system i line.arity copies k) × FailsAt system i copies steps (Lists beginning system i) line.what

  pub no_walk_after : WalkAnswer Initial system i line steps copies None → FailsAfter system line steps i copies → ⊥
  no_walk_after none h = none h.runs.copied h.runs.runs

  pub after_to : (listed : Bool) → WalkAnswer Initial system i line steps copies (Some listed) → FailsEnd Initial → FailsAfter system line steps i copies
  after_to listed walked h = record { runs = record { copied = walked.0; runs = walked.1.0; agree = h.0 }; fails = h.1 }

  pub after_from : FailsAfter system line steps i copies → FailsEnd Initial
  after_from h = (h.runs.agree, h.fails)

  -- positions first, or copies first
  each_state : (P : State → Type 0) (k : ℕ) (runs : List (List Position)) → All (λ run. P (position_at k run).0) runs → All P (states_at k runs)
  each_state P k [] h = All-nil P
  each_state P k (run ∷ runs) h =
      All-cons P (position_at k run).0 (states_at k runs) (All-head (λ r. P (position_at k r).0) run runs h) (each_state P k runs (All-tail (λ r. P (position_at k r).0) run runs h))

  each_run : (P : State → Type 0) (k : ℕ) (runs : List (List Position)) → All P (states_at k runs) → All (λ run. P (position_at k run).0) runs
  each_run P k [] h = All-nil (λ run. P (position_at k run).0)
  each_run P k (run ∷ runs) h =
      All-cons (λ r. P (position_at k r).0) run runs (All-head P (position_at k run).0 (states_at k runs) h) (each_run P k runs (All-tail P (position_at k run).0 (states_at k runs) h))

  abbrev Invariants : State → Type 0
  Invariants s = All (InvariantsIn system i s) (instances system)

  by_positions : All (InvariantsBefore system i steps) copies → (k : ℕ) → k < steps → All Invariants (states_at k copies)
  by_positions all k below = each_state Invariants k copies (λ j d within. all j d within k below)

  by_copies : ((k : ℕ) → k < steps → All Invariants (states_at k copies)) → All (InvariantsBefore system i steps) copies
  by_copies all = λ j d within k below. each_run Invariants k copies (all k below) j d within

  pub no_walk_induction : WalkAnswer Anywhere system i line steps copies None → FailsInduction system line steps i copies → ⊥
  no_walk_induction none h = none h.copied h.linked

  pub no_invariants : (All (InvariantsBefore system i steps) copies → ⊥) → FailsInduction system line steps i copies → ⊥
  no_invariants never h = never (by_copies h.invariants)

  pub no_hyperinvariants : (((k : ℕ) → k < steps → HyperinvariantsAt system i line.arity copies k) → ⊥) → FailsInduction system line steps i copies → ⊥
  no_hyperinvariants never h = never h.hyperinvariants

  pub induction_to : (listed : Bool) → WalkAnswer Anywhere system i line steps copies (Some listed) → All (InvariantsBefore system i steps) copies →
      ((k : ℕ) → k < steps → HyperinvariantsAt system i line.arity copies k) → FailsEnd Anywhere → FailsInduction system line steps i copies
  induction_to listed walked invariants hyperinvariants h = record {
    copied = walked.0;
    linked = walked.1.0;
    invariants = by_positions invariants;
    hyperinvariants = hyperinvariants;
    hyperaxioms = h.0;
    fails = h.1;
  }

  pub induction_from : FailsInduction system line steps i copies → FailsEnd Anywhere
  induction_from h = (h.hyperaxioms, h.fails)
