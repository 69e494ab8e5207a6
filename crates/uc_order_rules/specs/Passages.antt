-- A relation between things that a graph carries: some of its first nodes stand for things, and the nodes behind them stand between.
use Rattle.std.specs.Prelude.{◌≡◌, ◌↔◌, ◌<◌, ◌≤◌, ℕ, zero, suc, true, nat_eq, List, Option, Some}
use Rattle.uc_rules.specs.Cycles.{leads_to}
use Rattle.uc_declared_types.specs.AliasLaw.{IsAmong}
use Rattle.uc_graph.specs.Order.{has, needs}
use Rattle.uc_graph.specs.Cycles.{LiesOnCycle}

-- so many edges after the first one lead from a node to another one, and past none of the first `count` nodes on the way
unfoldable pub IsPassage : List (List ℕ) → ℕ → ℕ → ℕ → ℕ → Type 0
IsPassage graph count zero x y = has (needs graph x) y ≡ true
IsPassage graph count (suc k) x y = (z : ℕ) × IsPassage graph count k x z × (count ≤ z) × (has (needs graph z) y ≡ true)

-- a passage of any length
abbrev pub Passes : List (List ℕ) → ℕ → ℕ → ℕ → Type 0
Passes graph count x y = (k : ℕ) × IsPassage graph count k x y

-- Things have nodes of their own among the first ones, and a passage leads from one's to another one's exactly where a step does.
pub record Carries (graph : List (List ℕ)) (count : ℕ) (node : ℕ → Option ℕ) (steps : ℕ → List ℕ) : Type 0 where
  pub within : (x n : ℕ) → node x ≡ Some n → n < count
  pub alone : (x y n : ℕ) → node x ≡ Some n → node y ≡ Some n → x ≡ y
  pub there : (x y n : ℕ) → node x ≡ Some n → IsAmong y (steps x) → (m : ℕ) × (node y ≡ Some m) × Passes graph count n m
  pub only : (x n m : ℕ) → node x ≡ Some n → m < count → Passes graph count n m → (y : ℕ) × (node y ≡ Some m) × IsAmong y (steps x)

-- Where steps lead from numbers below a bound alone, a thing is led back to itself in so many steps exactly where its node lies on a cycle.
abbrev pub CyclesArePassed : Type 0
CyclesArePassed =
    (graph : List (List ℕ)) (count bound : ℕ) (node : ℕ → Option ℕ) (steps : ℕ → List ℕ) → Carries graph count node steps → ((x y : ℕ) → IsAmong y (steps x) → x < bound) → (x n : ℕ) → node x ≡ Some n →
    (leads_to bound steps (nat_eq x) x ≡ true) ↔ LiesOnCycle graph n
