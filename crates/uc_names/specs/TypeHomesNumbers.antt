-- The numbers of types without a definition.
use Rattle.std.specs.Prelude.{◌≡◌, ℕ, nat_eq, ◌&&◌, List, Option, unwrap_or}
use Rattle.std.specs.List.{position_from}
use Rattle.indexmap.specs.IndexMap.{get}
use Rattle.uc_meaning.specs.Lookup.{System}
use Rattle.uc_meaning.specs.Types.{opaque_number}
use Rattle.uc_names.specs.declared.numbers.TypeKey.{TypeKey}
use Rattle.uc_names.specs.declared.numbers.OpaqueNumbers.{OpaqueNumbers}
use Rattle.uc_names.specs.contracts.numbers.TypeKeyPartialEq.TheImpl.{eq-value}

abbrev pub key_of : ℕ → ℕ → TypeKey
key_of m x = record { owner = m; name = x }

-- the number that a table has for the names of a module and of a type
abbrev pub number_at : OpaqueNumbers → ℕ → ℕ → Option ℕ
number_at t m x = get eq-value.it t.numbers (key_of m x)

-- a table has for each pair of names the first place in a list that has them
unfoldable pub AreNumbered : OpaqueNumbers → List (ℕ × ℕ) → Type 0
AreNumbered t ps = (m x : ℕ) → number_at t m x ≡ position_from (λ p. nat_eq p.0 m && nat_eq p.1 x) 0 ps

-- The numbers are those of a design.
pub record KnowsOpaques (s : System) (t : OpaqueNumbers) : Type 0 where
  pub numbers_known : (m x : ℕ) → unwrap_or (number_at t m x) 0 ≡ opaque_number s m x
