-- What is read one level below, and how far the evaluation has to go.
use Rattle.std.proofs.Common.{◌≡◌, ℕ, zero, suc, ◌+◌, ◌-◌, ◌*◌, ◌<◌, ◌≤◌, Bool, List, [], refl, ap, ◌∙◌, sym, arith}
use Rattle.uc_syntax.specs.declared.expression.Expr.{Expr}
use Rattle.uc_meaning.specs.declared.scope.Scope.{Scope}
use Rattle.uc_meaning.specs.declared.overflow.Wide.{Wide}
use Rattle.uc_meaning.specs.Lookup.{System}
use Rattle.uc_meaning.specs.Expressions.{Reading, reads_nothing, reading, reading_through, longest_way, name}
use Rattle.uc_meaning.specs.Overflow.{met, met_through, name_met}
use Rattle.uc_meaning.specs.Levels.{reading_at, met_at}

reading_level : (n : ℕ) (system : System) (s : Scope) (e : Expr) → reading_through (suc n) system s e ≡ reading_at n system s e
unfolding reading_through
reading_level n system s e = refl

met_level : (n : ℕ) (system : System) (s : Scope) (e : Expr) → met_through (suc n) system s e ≡ met_at n system s e
unfolding met_through
met_level n system s e = refl

-- a body is read one level below
pub body_reading : (n : ℕ) (system : System) (s : Scope) (e : Expr) → (n ≡ 0 → ⊥) → reading_at (n - 1) system s e ≡ reading_through n system s e
body_reading zero system s e some = absurd (some refl)
body_reading (suc n) system s e some = let one : suc n - 1 ≡ n = omega arith in ap (λ k. reading_at k system s e) one ∙ sym (reading_level n system s e)

pub body_met : (n : ℕ) (system : System) (s : Scope) (e : Expr) → (n ≡ 0 → ⊥) → met_at (n - 1) system s e ≡ met_through n system s e
body_met zero system s e some = absurd (some refl)
body_met (suc n) system s e some = let one : suc n - 1 ≡ n = omega arith in ap (λ k. met_at k system s e) one ∙ sym (met_level n system s e)

pub no_reading : (n : ℕ) (system : System) (s : Scope) (e : Expr) → n ≡ 0 → reading_through n system s e ≡ reads_nothing
unfolding reading_through
no_reading n system s e none = ap (λ k. reading_through k system s e) none

pub none_met : (n : ℕ) (system : System) (s : Scope) (e : Expr) → n ≡ 0 → met_through n system s e ≡ []
unfolding met_through
none_met n system s e none = ap (λ k. met_through k system s e) none

-- names whose bindings are read through one level more are those that read bindings as expressions
pub name_above : (system : System) (s : Scope) (x : ℕ) (primed : Bool) → name system (reading_through (longest_way + 1) system) s x primed ≡ name system (reading system) s x primed
name_above system s x primed = ap (λ f. name system f s x primed) (λ k s' e. reading_level longest_way system s' e k)

pub name_met_above : (system : System) (s : Scope) (x : ℕ) (primed : Bool) → name_met system (met_through (longest_way + 1) system) s x primed ≡ name_met system (met system) s x primed
name_met_above system s x primed = ap (λ f. name_met system f s x primed) (λ k s' e. met_level longest_way system s' e k)

-- How far: for each level more than all bodies together.
unfoldable pub levels : ℕ → ℕ → ℕ
levels zero most = 0
levels (suc n) most = levels n most + (8 * most + 16)

-- what is left where an expression is read one level below
unfoldable pub left_below : ℕ → ℕ → ℕ → ℕ
left_below zero most size = 0
left_below (suc n) most size = levels n most + (8 * size + 1)

pub below_left : (n most size : ℕ) → (n ≡ 0 → ⊥) → left_below n most size ≡ levels (n - 1) most + (8 * size + 1)
unfolding left_below
below_left zero most size some = absurd (some refl)
below_left (suc n) most size some = let one : suc n - 1 ≡ n = omega arith in ap (λ k. levels k most + (8 * size + 1)) (sym one)

pub left_within : (n most size : ℕ) → size ≤ most → left_below n most size ≤ levels n most
unfolding left_below levels
left_within zero most size within = omega arith
left_within (suc n) most size within = omega (arith, within)
