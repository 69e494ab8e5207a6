use Rattle.std.proofs.Common.{◌≡◌, ℕ, zero, suc, List, [], ◌∷◌, None, Some, refl, sym}
use Rattle.std.specs.Prelude.{slice_get, slice_index_or}
use Rattle.uc_declared_types.proofs.counts.number_at.Goals as goal

past : (ns : List ℕ) (k : ℕ) → None ≡ slice_get ns k → 0 ≡ slice_index_or ns k 0
past [] k h = refl
past (n ∷ ns) zero h = cc
past (n ∷ ns) (suc k) h = past ns k h

pub returns-in-None : goal.returns-in-None
returns-in-None c = past c.args.numbers.now c.args.place c.in-None.ensures.value
