-- Marks that are set on the numbers of parts.
use Rattle.std.specs.Prelude.{◌≡◌, ◌⊎◌, ℕ, Bool, List, length, Contains}
use Rattle.uc_terms.specs.Subterms.{Marked}

-- the parts are marked too, and nothing else
pub record MarksMore (old new : List Bool) (parts : List ℕ) : Type 0 where
  pub length : length new ≡ length old
  pub kept : (k : ℕ) → Marked old k → Marked new k
  pub set : (k : ℕ) → Contains parts k → Marked new k
  pub only : (k : ℕ) → Marked new k → Marked old k ⊎ Contains parts k
