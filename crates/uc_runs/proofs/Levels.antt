-- How far an execution has to go: for each further call more than all bodies together.
use Rattle.std.proofs.Common.{◌≡◌, ℕ, zero, suc, ◌+◌, ◌-◌, ◌*◌, ◌≤◌, List, [], refl, ap, ◌∙◌, sym, arith}
use Rattle.uc_syntax.specs.declared.statement.Stmt.{Stmt}
use Rattle.uc_meaning.specs.Lookup.{System}
use Rattle.uc_meaning.specs.Code.{Running, Stopped, run_through}
use Rattle.uc_meaning.specs.OverflowsRuns.{run_met_through}
use Rattle.uc_runs.specs.Levels.{run_at, run_met_at}

unfoldable pub levels : ℕ → ℕ → ℕ
levels zero most = 0
levels (suc n) most = levels n most + (4 * most + 8)

-- what is left where a body runs one call below
unfoldable pub left_below : ℕ → ℕ → ℕ → ℕ
left_below zero most size = 0
left_below (suc n) most size = levels n most + (4 * size + 2)

pub below_left : (n most size : ℕ) → (n ≡ 0 → ⊥) → left_below n most size ≡ levels (n - 1) most + (4 * size + 2)
unfolding left_below
below_left zero most size some = absurd (some refl)
below_left (suc n) most size some = let one : suc n - 1 ≡ n = omega arith in ap (λ k. levels k most + (4 * size + 2)) (sym one)

pub left_within : (n most size : ℕ) → size ≤ most → left_below n most size ≤ levels n most
unfolding left_below levels
left_within zero most size within = omega arith
left_within (suc n) most size within = omega (arith, within)

-- a body runs one call below
run_level : (n : ℕ) (system : System) (code : List Stmt) (r : Running) → run_through (suc n) system code r ≡ run_at n system code r
unfolding run_through
run_level n system code r = refl

met_level : (n : ℕ) (system : System) (code : List Stmt) (r : Running) → run_met_through (suc n) system code r ≡ run_met_at n system code r
unfolding run_met_through
met_level n system code r = refl

pub body_runs : (n : ℕ) (system : System) (code : List Stmt) (r : Running) → (n ≡ 0 → ⊥) → run_at (n - 1) system code r ≡ run_through n system code r
body_runs zero system code r some = absurd (some refl)
body_runs (suc n) system code r some = let one : suc n - 1 ≡ n = omega arith in ap (λ k. run_at k system code r) one ∙ sym (run_level n system code r)

pub body_meets : (n : ℕ) (system : System) (code : List Stmt) (r : Running) → (n ≡ 0 → ⊥) → run_met_at (n - 1) system code r ≡ run_met_through n system code r
body_meets zero system code r some = absurd (some refl)
body_meets (suc n) system code r some = let one : suc n - 1 ≡ n = omega arith in ap (λ k. run_met_at k system code r) one ∙ sym (met_level n system code r)

pub no_body : (n : ℕ) (system : System) (code : List Stmt) (r : Running) → n ≡ 0 → run_through n system code r ≡ Stopped
unfolding run_through
no_body n system code r none = ap (λ k. run_through k system code r) none

pub none_met : (n : ℕ) (system : System) (code : List Stmt) (r : Running) → n ≡ 0 → run_met_through n system code r ≡ []
unfolding run_met_through
none_met n system code r none = ap (λ k. run_met_through k system code r) none
