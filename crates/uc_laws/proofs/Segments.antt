-- Fronts and ends of runs.
use Rattle.std.proofs.Common.{◌≡◌, List, [], ◌∷◌, map, refl, ap, ◌∙◌, sym, subst, ℕ, zero, suc, ◌+◌, ◌≤◌, ◌<◌, length, take, drop, arith}
use Rattle.std.proofs.lemmas.List.{length-take-le, length-drop, length-map, get_or-take, get_or-drop}
use Rattle.std.proofs.lemmas.List.Elements.{All-nil, All-cons, All-map, All-weaker}
use Rattle.uc_meaning.specs.declared.scope.Interp.{Interp}
use Rattle.uc_meaning.specs.declared.scope.State.{State}
use Rattle.uc_meaning.specs.declared.scope.Site.{Site}
use Rattle.uc_meaning.specs.Lookup.{System}
use Rattle.uc_meaning.specs.Cells.{IsState}
use Rattle.uc_meaning.specs.Runs.{Position, Continues, IsRunListing, IsRun, last_state, no_position, position_at, states_at, AreInStep, HyperaxiomsAt}
use Rattle.uc_meaning.specs.Lines.{AreLinked}

continues_front : (system : System) (i : Interp) (k : ℕ) (s : State) (sites : List Site) (ps : List Position) (listed : List Site) → Continues system i s sites ps listed →
    (l : List Site) × Continues system i s sites (take k ps) l
unfolding Continues
continues_front system i zero s sites [] listed h = (sites, refl)
continues_front system i zero s sites (p ∷ ps) listed h = (sites, refl)
continues_front system i (suc k) s sites [] listed h = (sites, refl)
continues_front system i (suc k) s sites (p ∷ ps) listed (is, next, step, rest) =
    let more = continues_front system i k p.0 next ps listed rest in
    (more.0, (is, next, step, more.1))

-- the first k + 1 positions of a run are a run
pub run_front : (system : System) (i : Interp) (k : ℕ) (run : List Position) → IsRun system i run → IsRun system i (take (suc k) run)
unfolding IsRunListing
run_front system i k [] (listed, h) = elim h [ ]
run_front system i k (p ∷ ps) (listed, (is, first, begins, rest)) =
    let more = continues_front system i k p.0 first ps listed rest in
    (more.0, (is, first, begins, more.1))

-- positions that go on from the first, which was reached in some way
abbrev pub GoesOn : System → Interp → List Position → List Site → Type 0
GoesOn system i [] listed = ⊥
GoesOn system i (p ∷ ps) listed = IsState system p.0 × (sites : List Site) × Continues system i p.0 sites ps listed

continues_end : (system : System) (i : Interp) (m : ℕ) (s : State) (sites : List Site) (ps : List Position) (listed : List Site) → Continues system i s sites ps listed → m < length ps →
    GoesOn system i (drop m ps) listed
unfolding Continues
continues_end system i m s sites [] listed h less = absurd (omega arith)
continues_end system i zero s sites (p ∷ ps) listed (is, next, step, rest) less = (is, next, rest)
continues_end system i (suc m) s sites (p ∷ ps) listed (is, next, step, rest) less = continues_end system i m p.0 next ps listed rest (omega arith)

pub run_end : (system : System) (i : Interp) (m : ℕ) (run : List Position) (listed : List Site) → IsRunListing system i run listed → m < length run → GoesOn system i (drop m run) listed
unfolding IsRunListing
run_end system i m [] listed h less = elim h [ ]
run_end system i zero (p ∷ ps) listed (is, first, begins, rest) less = (is, first, rest)
run_end system i (suc m) (p ∷ ps) listed (is, first, begins, rest) less = continues_end system i m p.0 first ps listed rest (omega arith)

-- without choices at the first
abbrev pub cleared : List Position → List Position
cleared [] = []
cleared (p ∷ ps) = (p.0, []) ∷ ps

continues_from : (system : System) (i : Interp) (s : State) (sites sites' : List Site) (ps : List Position) (listed : List Site) → Continues system i s sites ps listed →
    (l : List Site) × Continues system i s sites' ps l
unfolding Continues
continues_from system i s sites sites' [] listed h = (sites', refl)
continues_from system i s sites sites' (p ∷ ps) listed h = (listed, h)

pub linked_cleared : (system : System) (i : Interp) (run : List Position) (listed : List Site) → GoesOn system i run listed → (l : List Site) × AreLinked system i (cleared run) l
linked_cleared system i [] listed h = elim h [ ]
linked_cleared system i (p ∷ ps) listed (is, sites, rest) =
    let more = continues_from system i p.0 sites [] ps listed rest in
    (more.0, (is, refl, more.1))

-- where there is a step, what is listed is that of the last step
pub linked_listing : (system : System) (i : Interp) (run : List Position) (listed : List Site) → GoesOn system i run listed → 1 < length run → AreLinked system i (cleared run) listed
unfolding Continues
linked_listing system i [] listed h less = elim h [ ]
linked_listing system i (p ∷ []) listed h less = absurd (omega arith)
linked_listing system i (p ∷ (q ∷ ps)) listed (is, sites, rest) less = (is, refl, rest)

pub length-cleared : (run : List Position) → length (cleared run) ≡ length run
length-cleared [] = refl
length-cleared (p ∷ ps) = refl

cleared_at : (run : List Position) (k : ℕ) → (position_at k (cleared run)).0 ≡ (position_at k run).0
cleared_at [] k = refl
cleared_at (p ∷ ps) zero = refl
cleared_at (p ∷ ps) (suc k) = refl

-- what is left of a run from position m on
abbrev pub segment : ℕ → List Position → List Position
segment m run = cleared (drop m run)

pub segment_at : (m k : ℕ) (run : List Position) → (position_at k (segment m run)).0 ≡ (position_at (m + k) run).0
segment_at m k run = cleared_at (drop m run) k ∙ ap (λ p. p.0) (get_or-drop m run k no_position)

pub length-segment : (m k : ℕ) (run : List Position) → length run ≡ m + k → length (segment m run) ≡ k
length-segment m k run e = length-cleared (drop m run) ∙ length-drop m run ∙ omega arith

pub segment_states : (m k : ℕ) (copies : List (List Position)) → states_at k (map (segment m) copies) ≡ states_at (m + k) copies
segment_states m k [] = refl
segment_states m k (run ∷ copies) = ap (λ s. s ∷ states_at k (map (segment m) copies)) (segment_at m k run) ∙ ap (λ ss. (position_at (m + k) run).0 ∷ ss) (segment_states m k copies)

pub front_at : (n k : ℕ) (run : List Position) → k < n → position_at k (take n run) ≡ position_at k run
front_at n k run less = get_or-take n run k no_position less

pub front_states : (n k : ℕ) (copies : List (List Position)) → k < n → states_at k (map (take n) copies) ≡ states_at k copies
front_states n k [] less = refl
front_states n k (run ∷ copies) less = ap (λ p. p.0 ∷ states_at k (map (take n) copies)) (front_at n k run less) ∙ ap (λ ss. (position_at k run).0 ∷ ss) (front_states n k copies less)

pub last_at : (run : List Position) (k : ℕ) → length run ≡ suc k → last_state run ≡ (position_at k run).0
unfolding last_state
last_at [] k e = absurd (omega arith)
last_at (p ∷ []) zero e = refl
last_at (p ∷ []) (suc k) e = absurd (omega arith)
last_at (p ∷ (q ∷ ps)) zero e = absurd (omega arith)
last_at (p ∷ (q ∷ ps)) (suc k) e = last_at (q ∷ ps) k (omega arith)

-- a run has a position
pub run_length : (system : System) (i : Interp) (run : List Position) → IsRun system i run → (k : ℕ) × (length run ≡ suc k)
unfolding IsRunListing
run_length system i [] (listed, h) = elim h [ ]
run_length system i (p ∷ ps) h = (length ps, refl)

-- a single run is in step with itself
pub single : (system : System) (i : Interp) (steps : ℕ) (run : List Position) → IsRun system i run → length run ≡ steps + 1 → AreInStep system i 1 steps (run ∷ [])
single system i steps run is e = record {
  copied = record { number = refl; even = All-cons (λ r. length r ≡ steps + 1) run [] e (All-nil (λ r. length r ≡ steps + 1)) };
  runs = All-cons (IsRun system i) run [] is (All-nil (IsRun system i));
  agree = λ k less n d lt m e' lt' of'. absurd (cc);
}

-- the fronts of runs in step are in step
pub in_step_front : (system : System) (i : Interp) (n steps k : ℕ) (copies : List (List Position)) → AreInStep system i n steps copies → k ≤ steps → AreInStep system i n k (map (take (suc k)) copies)
in_step_front system i n steps k copies is less = record {
  copied = record {
    number = length-map copies (take (suc k)) ∙ is.copied.number;
    even = All-map (λ r. length r ≡ k + 1) (take (suc k)) copies (All-weaker (λ r. length r ≡ steps + 1) (λ r. length (take (suc k) r) ≡ k + 1) (λ r e. length-take-le (suc k) r (omega arith) ∙ omega arith) copies is.copied.even);
  };
  runs = All-map (IsRun system i) (take (suc k)) copies (All-weaker (IsRun system i) (λ r. IsRun system i (take (suc k) r)) (λ r h. run_front system i k r h) copies is.runs);
  agree = λ j less'. subst (HyperaxiomsAt system i n) (sym (front_states (suc k) j copies (omega arith))) (is.agree j (omega arith));
}
