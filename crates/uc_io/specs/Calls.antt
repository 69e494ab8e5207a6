-- The calls of a source or a sink in memory.
use Rattle.std.specs.Prelude.{ℕ, ◌+◌, ◌-◌, ◌^◌, List, min, Contains}

-- At most so many bytes a call, the numbers of the calls that fail, and the number of the next call. The first has 0, and
-- the last number is that of every later call.
pub record Plan : Type 0 where
  pub piece : ℕ
  pub fails : List ℕ
  pub next : ℕ

-- the next call fails
abbrev pub IsToFail : Plan → Type 0
IsToFail plan = Contains plan.fails plan.next

abbrev pub after_call : Plan → Plan
after_call plan = record plan { next = min (plan.next + 1) (2 ^ 64 - 1) }
