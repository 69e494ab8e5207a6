-- The watches stay while other parts of the state change.
use Rattle.std.proofs.Common.{◌≡◌, ℕ, ◌+◌, ◌*◌, ◌<◌, ◌≤◌, Bool, true, false, List, [], ◌∷◌, ◌++◌, length, get_or, take, refl, sym, ◌∙◌, ap, subst, arith}
use Rattle.std.specs.Prelude.{All}
use Rattle.std.proofs.lemmas.List.{take_more, take_all}
use Rattle.uc_log.specs.Refutes.{AllWithin}
use Rattle.uc_rings.specs.Lists.{place_of}
use Rattle.uc_learner.specs.Rewatched.{AreWatchedTo}
use Rattle.uc_circuit.specs.declared.literal.Lit.{Lit}
use Rattle.uc_rings.specs.declared.watches.Watches.{Watches}
use Rattle.uc_rings.specs.Watched.{Linked}
use Rattle.uc_learner.specs.declared.state.State.{State}
use Rattle.uc_learner.specs.Sound.{AreWatched}

-- a state made of such lists is watched
pub watched_made :
    (s : State) (inputs : List Bool) (clauses : List (List Lit)) (w : Watches)
    → s.inputs.items ≡ inputs → s.clauses.items ≡ clauses → s.watches ≡ w → Linked clauses (length inputs) w → AreWatched s
watched_made s inputs clauses w i c e linked =
    subst (λ (q : Watches). Linked s.clauses.items (length s.inputs.items) q) (sym e)
    (subst (λ (k : List (List Lit)). Linked k (length s.inputs.items) w) (sym c)
    (subst (λ (k : List Bool). Linked clauses (length k) w) (sym i) linked))

-- one clause more is watched
pub watched_more :
    (clauses : List (List Lit)) (n : ℕ) (w w' : Watches) (number : ℕ) (slice : List Lit)
    → number < length clauses → slice ≡ get_or clauses number []
    → ((cs : List (List Lit)) (m : ℕ) → Linked cs m w → Linked (cs ++ slice ∷ []) m w')
    → Linked (take number clauses) n w → Linked (take (number + 1) clauses) n w'
watched_more clauses n w w' number slice h is more linked =
    subst (λ (cs : List (List Lit)). Linked cs n w') (ap (λ (c : List Lit). take number clauses ++ c ∷ []) is ∙ sym (take_more clauses number [] h)) (more (take number clauses) n linked)

pub watched_to_end : (clauses : List (List Lit)) (n : ℕ) (w : Watches) (number : ℕ) → length clauses ≤ number → Linked (take number clauses) n w → Linked clauses n w
watched_to_end clauses n w number le linked = subst (λ (cs : List (List Lit)). Linked cs n w) (take_all number clauses le) linked

pub place_below : (l : Lit) (n : ℕ) → l.var < n → place_of l < 2 * n
place_below l n h = by_sign l.neg refl where
  by_sign : (b : Bool) → l.neg ≡ b → place_of l < 2 * n
  by_sign true is = let e : place_of l ≡ 2 * l.var + 1 = cc in omega (arith, e, h)
  by_sign false is = let e : place_of l ≡ 2 * l.var + 0 = cc in omega (arith, e, h)

-- the literals of a clause have lists
pub places_within :
    (clauses cs : List (List Lit)) (n : ℕ) (w : Watches) (number : ℕ) (slice : List Lit)
    → AllWithin n clauses → number < length clauses → slice ≡ get_or clauses number [] → Linked cs n w → All (λ l. place_of l < w.literals) slice
places_within clauses cs n w number slice within h is linked =
    subst (λ (k : List Lit). All (λ l. place_of l < w.literals) k) (sym is)
    (λ k d j. let below : place_of (get_or (get_or clauses number []) k d) < 2 * n = place_below (get_or (get_or clauses number []) k d) n (within number [] h k d j) in omega (arith, below, linked.literals))

-- the first clauses stay watched where others are added
pub front_watched :
    (s after : State) (first : ℕ) → AreWatched s → first ≡ length s.clauses.items
    → take (length s.clauses.items) after.clauses.items ≡ s.clauses.items → after.watches ≡ s.watches → length s.inputs.items ≤ length after.inputs.items
    → AreWatchedTo after first
front_watched s after first watched is front watches wider = record {
  variables = length s.inputs.items;
  fewer = wider;
  linked =
      subst (λ (w : Watches). Linked (take first after.clauses.items) (length s.inputs.items) w) (sym watches)
      (subst (λ (cs : List (List Lit)). Linked cs (length s.inputs.items) s.watches) (sym (ap (λ k. take k after.clauses.items) is ∙ front)) watched);
}
