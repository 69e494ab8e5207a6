-- The names that a text declares, counted on as its words are taken.
use Rattle.std.specs.Prelude.{◌≡◌, ℕ, ◌+◌, nat_lt, if◌then◌else◌, List, [], ◌∷◌, Some, None, Result, Ok, Err}
use Rattle.uc_forms.specs.declared.tally.Tally.{Tally}
use Rattle.uc_forms.specs.declared.stop.Stop.{Stop}
use Rattle.uc_forms.specs.declared.stop.Stop.TheVariants as stops
use Rattle.uc_forms.specs.Form.{quiet, declares, restarts}
use Rattle.uc_forms.specs.Spelling.{Stand}

abbrev pub fresh : {W : Type 0} → ℕ → Tally W
fresh limit = record { limit = limit; count = 0; past = None }

-- a declared name more
abbrev pub one_more : {W : Type 0} → Tally W → W → Tally W
one_more n w = elim n.past [
  | None ↦ if nat_lt n.count n.limit then record { limit = n.limit; count = n.count + 1; past = None } else record { limit = n.limit; count = n.count; past = Some w }
  | Some v ↦ n
]

-- the count starts again
abbrev pub anew : {W : Type 0} → Tally W → Tally W
anew n = elim n.past [ None ↦ record { limit = n.limit; count = 0; past = None } | Some v ↦ n ]

-- a word more, as it stands
abbrev pub with_word : {W : Type 0} → Tally W → Stand W → Tally W
with_word n x = elim x.mark [ quiet ↦ n | declares ↦ one_more n x.name | restarts ↦ anew n ]

-- words more, as they stand
abbrev pub counted_on : {W : Type 0} → Tally W → List (Stand W) → Tally W
counted_on n [] = n
counted_on n (x ∷ xs) = counted_on (with_word n x) xs

-- the names were counted so, unless memory ran out
abbrev pub CountsOn : {W Y : Type 0} → Result Y Stop → Tally W → Tally W → Type 0
CountsOn (Ok x) now expected = now ≡ expected
CountsOn (Err stops.Memory) now expected = Unit {0}
CountsOn (Err (stops.At f)) now expected = now ≡ expected
