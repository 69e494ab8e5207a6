-- The terms that stand for the terms of a table, by number.
use Rattle.std.specs.Prelude.{◌≡◌, ℕ, ◌<◌, List, length, slice_index, All}
use Rattle.uc_ops.specs.declared.node.Node.{Node}
use Rattle.uc_terms.specs.Tables.{parts_at}
use Rattle.uc_terms.specs.Subterms.{Marked}
use Rattle.std.specs.Prelude.{Bool}
use Rattle.uc_simplify.specs.Simplified.{Grows, StandsFor}

-- each part of the term at a place has its number in the list, and what is there stands for the part
abbrev pub PartsAnswered : List Node → List ℕ → ℕ → Type 0
PartsAnswered nodes answers place = All (λ p. (p < length answers) × StandsFor nodes (slice_index answers p) nodes p) (parts_at nodes place)

-- what is at the number of each marked term before a place stands for it
pub record Answered (old new : List Node) (marks : List Bool) (answers : List ℕ) (place : ℕ) : Type 0 where
  pub grown : Grows old new
  pub size : length answers ≡ place
  pub each : (k : ℕ) → k < place → Marked marks k → StandsFor new (slice_index answers k) old k

-- what is at the number of each term before a place stands for it
pub record AllAnswered (old new : List Node) (answers : List ℕ) (place : ℕ) : Type 0 where
  pub grown : Grows old new
  pub size : length answers ≡ place
  pub each : (k : ℕ) → k < place → StandsFor new (slice_index answers k) old k
