-- The states of a copy, one after another.
use Rattle.std.proofs.Common.{◌≡◌, ℕ, ◌+◌, ◌<◌, ◌≤◌, List, [], ◌∷◌, length, drop, get_or, Option, Some, None, Bool, inl, refl, ap, ◌∙◌, sym, subst, arith}
use Rattle.std.specs.Prelude.{Result, Ok, Err, IfOk}
use Rattle.std.specs.Option.{option_map}
use Rattle.std.proofs.lemmas.List.{drop_all, drop_more}
use Rattle.uc_values.specs.declared.value.Value.{Value}
use Rattle.uc_meaning.specs.declared.overflow.Wide.{Wide}
use Rattle.uc_meaning.specs.declared.scope.Interp.{Interp}
use Rattle.uc_meaning.specs.declared.scope.State.{State}
use Rattle.uc_meaning.specs.declared.scope.Site.{Site}
use Rattle.uc_meaning.specs.Lookup.{System}
use Rattle.uc_meaning.specs.Cells.{IsState}
use Rattle.uc_meaning.specs.Code.{Goes}
use Rattle.uc_meaning.specs.Steps.{Kept, IsInitial, IsStep}
use Rattle.uc_meaning.specs.Runs.{Position, Continues, IsRunListing}
use Rattle.uc_meaning.specs.Answers.{IsStepAnswer}
use Rattle.uc_operators.specs.declared.error.EvalError.{EvalError}
use Rattle.uc_operators.specs.declared.error.EvalError.TheVariants.{NoMemory, Wide as TooWide}
use Rattle.uc_executions.specs.Starts.{IsStartAnswer}
use Rattle.uc_checks.specs.declared.walk.Beginning.{Beginning}
use Rattle.uc_checks.specs.declared.walk.Beginning.TheVariants.{Initial, Anywhere}
use Rattle.uc_checks.specs.Tellings.{Followed, Tells}
use Rattle.uc_checks.specs.Walks.{Begins, Lists, AreStates, asks_site, HasStep, FirstTells, StepTells, StepsTell, CopyTells}
use Rattle.uc_checks.specs.Answers.{IsAnswer, AreSites, StepsAnswer, CopyAnswer}
use Rattle.uc_checks.proofs.Told.{told_on, told_stop, told_here, told_next}

-- ---- sites are determined

pub step_one : (system : System) (i : Interp) (old new : State) (choices : List Value) (xs ys : List Site) → IsStep system i old new choices xs → IsStep system i old new choices ys → xs ≡ ys
step_one system i old new choices xs ys a b =
    let both : Kept a.seen ≡ Kept b.seen = sym a.holds ∙ b.holds in
    let seen : a.seen ≡ b.seen = cc in
    sym a.lists ∙ ap (λ w. w.sites) seen ∙ b.lists

start_one : (system : System) (i : Interp) (s : State) (choices : List Value) (xs ys : List Site) → IsInitial system i s choices xs → IsInitial system i s choices ys → xs ≡ ys
start_one system i s choices xs ys a b =
    let both : Goes a.end ≡ Goes b.end = sym a.ends ∙ b.ends in
    let end : a.end ≡ b.end = cc in
    sym a.lists ∙ ap (λ r. r.sites) end ∙ b.lists

begin_one : (beginning : Beginning) (system : System) (i : Interp) (p : Position) (xs ys : List Site) → Begins beginning system i p xs → Begins beginning system i p ys → xs ≡ ys
begin_one Initial system i p xs ys a b = start_one system i p.0 p.1 xs ys a b
begin_one Anywhere system i p xs ys a b = a.1 ∙ sym b.1

-- ---- answers

pub start_sites : (system : System) (i : Interp) (p : Position) (r : Result (Option (List Site)) EvalError) → IfOk r (IsStartAnswer system i p.0 p.1) → IfOk r (AreSites (Begins Initial system i p))
start_sites system i p (Ok (Some sites)) is = is
start_sites system i p (Ok None) is = is
start_sites system i p (Err e) is = is

pub step_answers : (system : System) (i : Interp) (s new : State) (choices : List Value) (r : Result (Option (List Site)) EvalError) → IfOk r (IsStepAnswer system i s new choices) → IfOk r (AreSites (IsStep system i s new choices))
step_answers system i s new choices (Ok (Some sites)) is = is
step_answers system i s new choices (Ok None) is = is
step_answers system i s new choices (Err e) is = is

pub answered : (Fits : Type 0) (Has : List Site → Type 0) (site : Option Site) (o : Option (List Site)) (r : Option Bool) → Fits → AreSites Has o → r ≡ option_map (asks_site site) o → IsAnswer (λ sites. Fits × Has sites) site r
answered Fits Has site (Some sites) r fits has is = subst (IsAnswer (λ sites'. Fits × Has sites') site) (sym is) (sites, (fits, has), refl)
answered Fits Has site None r fits none is = subst (IsAnswer (λ sites'. Fits × Has sites') site) (sym is) (λ sites h. none sites h.1)

pub fits_none : (Fits : Type 0) (Has : List Site → Type 0) → (Fits → ⊥) → (sites : List Site) → Fits × Has sites → ⊥
fits_none Fits Has never sites h = never h.0

-- ---- from a state on

module _ (system : System) (i : Interp) where
  continue_on : (s : State) (sites : List Site) (p : Position) (ps : List Position) (listed next : List Site) →
      IsState system p.0 → IsStep system i s p.0 p.1 next → Continues system i p.0 next ps listed → Continues system i s sites (p ∷ ps) listed
  unfolding Continues
  continue_on s sites p ps listed next state step rest = (state, next, step, rest)

  continue_from : (s : State) (sites : List Site) (p : Position) (ps : List Position) (listed : List Site) → Continues system i s sites (p ∷ ps) listed →
      (next : List Site) × IsState system p.0 × IsStep system i s p.0 p.1 next × Continues system i p.0 next ps listed
  unfolding Continues
  continue_from s sites p ps listed h = (h.1, h.0, h.2, h.3)

  continue_end : (s : State) (sites : List Site) → Continues system i s sites [] sites
  unfolding Continues
  continue_end s sites = refl

  continue_ended : (s : State) (sites listed : List Site) → Continues system i s sites [] listed → listed ≡ sites
  unfolding Continues
  continue_ended s sites listed h = h

  pub continue_one : (s : State) (sites : List Site) (ps : List Position) (xs ys : List Site) → Continues system i s sites ps xs → Continues system i s sites ps ys → xs ≡ ys
  continue_one s sites [] xs ys a b = continue_ended s sites xs a ∙ sym (continue_ended s sites ys b)
  continue_one s sites (p ∷ ps) xs ys a b =
      let c = continue_from s sites p ps xs a in
      let d = continue_from s sites p ps ys b in
      let same = step_one system i s p.0 p.1 c.0 d.0 c.2 d.2 in
      continue_one p.0 d.0 ps xs ys (subst (λ zs. Continues system i p.0 zs ps xs) same c.3) d.3

  steps_tell : (s : State) (p : Position) (ps : List Position) (first : Option Wide) →
      Followed (StepTells system i s p) (IsState system p.0 × HasStep system i s p) (StepsTell system i p.0 ps) first → StepsTell system i s (p ∷ ps) first
  unfolding StepsTell
  steps_tell s p ps first h = h

  steps_told : (s : State) → StepsTell system i s [] None
  unfolding StepsTell
  steps_told s = refl

-- Before turn k all positions were steps, and no operation was too wide; the last step before it lists the site or does not.
pub record WalkedTo (system : System) (i : Interp) (site : Option Site) (s : State) (listed : Bool) (ps : List Position) (old : State) (last : Bool) (k : ℕ) : Type 0 where
  pub answers : (o : Option Bool) → ((sites : List Site) → last ≡ asks_site site sites → StepsAnswer system i old sites (drop k ps) site o) →
      (sites : List Site) → listed ≡ asks_site site sites → StepsAnswer system i s sites ps site o
  pub told : (first : Option Wide) → StepsTell system i old (drop k ps) first → StepsTell system i s ps first

module _ (system : System) (i : Interp) (site : Option Site) (s : State) (listed : Bool) (ps : List Position) where
  pub walk_begin : WalkedTo system i site s listed ps s listed 0
  walk_begin = record { answers = λ o h. h; told = λ first h. h }

  module _ (old : State) (last : Bool) (k : ℕ) (before : WalkedTo system i site s listed ps old last k) where
    pub walk_end : length ps ≤ k → (sites : List Site) → listed ≡ asks_site site sites → StepsAnswer system i s sites ps site (Some last)
    walk_end past = before.answers (Some last) (λ sites is. subst (λ qs. StepsAnswer system i old sites qs site (Some last)) (sym (drop_all k ps past)) (sites, continue_end system i old sites, is))

    pub walk_end_told : length ps ≤ k → StepsTell system i s ps None
    walk_end_told past = before.told None (subst (λ qs. StepsTell system i old qs None) (sym (drop_all k ps past)) (steps_told system i old))

    module _ (p d : Position) (within : k < length ps) (is : p ≡ get_or ps k d) where
      turn : drop k ps ≡ p ∷ drop (k + 1) ps
      turn = drop_more ps k d within ∙ ap (λ q. q ∷ drop (k + 1) ps) (sym is)

      at_turn : (first : Option Wide) → Followed (StepTells system i old p) (IsState system p.0 × HasStep system i old p) (StepsTell system i p.0 (drop (k + 1) ps)) first → StepsTell system i s ps first
      at_turn first h = before.told first (subst (λ qs. StepsTell system i old qs first) (sym turn) (steps_tell system i old p (drop (k + 1) ps) first h))

      abbrev Has : List Site → Type 0
      Has sites = IsState system p.0 × IsStep system i old p.0 p.1 sites

      pub walk_no : IsAnswer Has site None → (sites : List Site) → listed ≡ asks_site site sites → StepsAnswer system i s sites ps site None
      walk_no none = before.answers None (λ sites same. subst (λ qs. StepsAnswer system i old sites qs site None) (sym turn)
          (λ end h. let c = continue_from system i old sites p (drop (k + 1) ps) end h in none c.0 (c.1, c.2)))

      pub walk_no_told : StepTells system i old p None → IsAnswer Has site None → StepsTell system i s ps None
      walk_no_told fine none =
          at_turn None (told_stop (StepTells system i old p) (IsState system p.0 × HasStep system i old p) (StepsTell system i p.0 (drop (k + 1) ps)) fine (λ h. none h.1.0 (h.0, h.1.1)))

      pub walk_told : (X Y : Type 0) (e : EvalError) → Tells {A = X} (StepTells system i old p) (Err e) → Tells {A = Y} (StepsTell system i s ps) (Err e)
      walk_told X Y NoMemory told = tt
      walk_told X Y (TooWide w) told = at_turn (Some w) (inl told)

      module _ (next : Bool) (answer : IsAnswer Has site (Some next)) where
        on : (o : Option Bool) (rest : List Position) → StepsAnswer system i p.0 answer.0 rest site o → (sites : List Site) → StepsAnswer system i old sites (p ∷ rest) site o
        on (Some b) rest h sites = (h.0, continue_on system i old sites p rest h.0 answer.0 answer.1.0 answer.1.1 h.1, h.2)
        on None rest h sites = λ end all.
            let c = continue_from system i old sites p rest end all in
            h end (subst (λ zs. Continues system i p.0 zs rest end) (step_one system i old p.0 p.1 c.0 answer.0 c.2 answer.1.1) c.3)

        pub walk_more : StepTells system i old p None → WalkedTo system i site s listed ps p.0 next (k + 1)
        walk_more fine = record {
          answers = λ o rest. before.answers o (λ sites same. subst (λ qs. StepsAnswer system i old sites qs site o) (sym turn) (on o (drop (k + 1) ps) (rest answer.0 answer.2) sites));
          told = λ first rest. at_turn first (told_on (StepTells system i old p) (IsState system p.0 × HasStep system i old p) (StepsTell system i p.0 (drop (k + 1) ps)) first fine (answer.1.0, (answer.0, answer.1.1)) rest);
        }

-- ---- a whole copy

module _ (system : System) (i : Interp) where
  listing_on : (p : Position) (ps : List Position) (listed first : List Site) → IsState system p.0 → IsInitial system i p.0 p.1 first → Continues system i p.0 first ps listed → IsRunListing system i (p ∷ ps) listed
  unfolding IsRunListing
  listing_on p ps listed first state begin rest = (state, first, begin, rest)

  listing_from : (p : Position) (ps : List Position) (listed : List Site) → IsRunListing system i (p ∷ ps) listed →
      (first : List Site) × IsState system p.0 × IsInitial system i p.0 p.1 first × Continues system i p.0 first ps listed
  unfolding IsRunListing
  listing_from p ps listed h = (h.1, h.0, h.2, h.3)

  listing_none : (listed : List Site) → IsRunListing system i [] listed → ⊥
  unfolding IsRunListing
  listing_none listed h = h

  lists_on : (beginning : Beginning) (p : Position) (ps : List Position) (listed first : List Site) → IsState system p.0 → Begins beginning system i p first → Continues system i p.0 first ps listed → Lists beginning system i (p ∷ ps) listed
  lists_on Initial p ps listed first state begin rest = listing_on p ps listed first state begin rest
  lists_on Anywhere p ps listed first state begin rest = (state, begin.0, subst (λ zs. Continues system i p.0 zs ps listed) begin.1 rest)

  lists_from : (beginning : Beginning) (p : Position) (ps : List Position) (listed : List Site) → Lists beginning system i (p ∷ ps) listed →
      (first : List Site) × IsState system p.0 × Begins beginning system i p first × Continues system i p.0 first ps listed
  lists_from Initial p ps listed h = listing_from p ps listed h
  lists_from Anywhere p ps listed h = ([], h.0, (h.1, refl), h.2)

  pub lists_none : (beginning : Beginning) → AreStates beginning system i [] → ⊥
  lists_none Initial h = listing_none h.0 h.1
  lists_none Anywhere h = h.1

module _ (beginning : Beginning) (system : System) (i : Interp) (site : Option Site) (p : Position) (ps : List Position) where
  pub not_begun : ((sites : List Site) → IsState system p.0 × Begins beginning system i p sites → ⊥) → AreStates beginning system i (p ∷ ps) → ⊥
  not_begun none h = let c = lists_from system i beginning p ps h.0 h.1 in none c.0 (c.1, c.2)

  module _ (first : List Site) (state : IsState system p.0) (begin : Begins beginning system i p first) where
    rest_of : (listed : List Site) → Lists beginning system i (p ∷ ps) listed → Continues system i p.0 first ps listed
    rest_of listed h =
        let c = lists_from system i beginning p ps listed h in
        subst (λ zs. Continues system i p.0 zs ps listed) (begin_one beginning system i p c.0 first c.2 begin) c.3

    pub copy_answer : (o : Option Bool) → StepsAnswer system i p.0 first ps site o → CopyAnswer beginning system i site (p ∷ ps) o
    copy_answer (Some b) h = (
      (h.0, lists_on system i beginning p ps h.0 first state begin h.1),
      (
        λ is. (h.0, lists_on system i beginning p ps h.0 first state begin h.1, sym h.2 ∙ is),
        λ other. h.2 ∙ ap (asks_site site) (continue_one system i p.0 first ps h.0 other.0 h.1 (rest_of other.0 other.1)) ∙ other.2,
      ),
    )
    copy_answer None h = λ all. h all.0 (rest_of all.0 all.1)

pub no_positions : (beginning : Beginning) (system : System) (i : Interp) (site : Option Site) (run : List Position) → length run ≡ 0 → CopyAnswer beginning system i site run None
no_positions beginning system i site [] none = lists_none system i beginning
no_positions beginning system i site (p ∷ ps) none = absurd (omega (arith, none))

pub no_positions_told : (beginning : Beginning) (system : System) (i : Interp) (run : List Position) → length run ≡ 0 → CopyTells beginning system i run None
no_positions_told beginning system i [] none = refl
no_positions_told beginning system i (p ∷ ps) none = absurd (omega (arith, none))

module _ (beginning : Beginning) (system : System) (i : Interp) (site : Option Site) (run : List Position) (p : Position) (ps : List Position) (split : run ≡ p ∷ ps) where
  abbrev BeginsHere : List Site → Type 0
  BeginsHere sites = IsState system p.0 × Begins beginning system i p sites

  abbrev Begun : Type 0
  Begun = IsState system p.0 × (sites : List Site) × Begins beginning system i p sites

  pub copy_no : IsAnswer BeginsHere site None → CopyAnswer beginning system i site run None
  copy_no none = subst (λ r. AreStates beginning system i r → ⊥) (sym split) (not_begun beginning system i site p ps none)

  pub copy_no_told : FirstTells beginning system i p None → IsAnswer BeginsHere site None → CopyTells beginning system i run None
  copy_no_told fine none =
      subst (λ r. CopyTells beginning system i r None) (sym split)
      (told_stop (FirstTells beginning system i p) Begun (StepsTell system i p.0 ps) fine (λ h. none h.1 (h.0, h.2)))

  pub copy_told : (A B : Type 0) (e : EvalError) → Tells {A = A} (FirstTells beginning system i p) (Err e) → Tells {A = B} (CopyTells beginning system i run) (Err e)
  copy_told A B e told =
      subst (λ r. Tells {A = B} (CopyTells beginning system i r) (Err e)) (sym split)
      (told_here (FirstTells beginning system i p) Begun (StepsTell system i p.0 ps) A B e told)

  module _ (listed : Bool) (begun : IsAnswer BeginsHere site (Some listed)) where
    pub copy_on : {E : Type 0} (r : Result (Option Bool) E) → IfOk r (λ o. (sites : List Site) → listed ≡ asks_site site sites → StepsAnswer system i p.0 sites ps site o) → IfOk r (CopyAnswer beginning system i site run)
    copy_on (Ok o) h = subst (λ q. CopyAnswer beginning system i site q o) (sym split) (copy_answer beginning system i site p ps begun.0 begun.1.0 begun.1.1 o (h begun.0 begun.2))
    copy_on (Err e) h = h

    pub copy_on_told : {A : Type 0} (r : Result A EvalError) → FirstTells beginning system i p None → Tells (StepsTell system i p.0 ps) r → Tells (CopyTells beginning system i run) r
    copy_on_told r fine told =
        subst (λ q. Tells (CopyTells beginning system i q) r) (sym split)
        (told_next (FirstTells beginning system i p) Begun (StepsTell system i p.0 ps) r fine (begun.1.0, begun.0, begun.1.1) told)
