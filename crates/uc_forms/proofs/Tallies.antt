-- Names counted word by word, and the first one past the limit.
use Rattle.std.proofs.Common.{◌≡◌, ℕ, suc, ◌+◌, Bool, true, false, List, [], ◌∷◌, ◌++◌, map, Option, Some, None, Err, refl, arith}
use Rattle.std.specs.Prelude.{nat_lt, if◌then◌else◌}
use Rattle.uc_forms.specs.declared.tally.Tally.{Tally}
use Rattle.uc_forms.specs.declared.stop.Stop.{Stop}
use Rattle.uc_forms.specs.declared.stop.Stop.TheVariants as stops
use Rattle.uc_forms.specs.Form.{Mark, quiet, declares, restarts}
use Rattle.uc_forms.specs.Spelling.{Stand, one_deeper, past_limit}
use Rattle.uc_forms.specs.Tally.{fresh, one_more, anew, with_word, counted_on, CountsOn}

pub counted_append : {W : Type 0} (n : Tally W) (xs ys : List (Stand W)) → counted_on n (xs ++ ys) ≡ counted_on (counted_on n xs) ys
counted_append n [] ys = refl
counted_append n (x ∷ xs) ys = counted_append (with_word n x) xs ys

-- the depth of the words does not count
pub counted_deeper : {W : Type 0} (n : Tally W) (xs : List (Stand W)) → counted_on n (map one_deeper xs) ≡ counted_on n xs
counted_deeper n [] = refl
counted_deeper n (x ∷ xs) = counted_deeper (with_word n x) xs

kept_past : {W : Type 0} (limit count : ℕ) (v : W) (xs : List (Stand W)) → (let n : Tally W = record { limit = limit; count = count; past = Some v } in (counted_on n xs).past ≡ Some v)
kept_past limit count v [] = refl
kept_past {W} limit count v (x ∷ xs) = tested x.mark (kept_past limit count v xs)
  where
    tested : (q : Mark) → (let n : Tally W = record { limit = limit; count = count; past = Some v } in (counted_on n xs).past ≡ Some v) → (let n : Tally W = record { limit = limit; count = count; past = Some v } in (counted_on (elim q [ quiet ↦ n | declares ↦ one_more n x.name | restarts ↦ anew n ]) xs).past ≡ Some v)
    tested quiet h = h
    tested declares h = h
    tested restarts h = h

plus_one : {W : Type 0} (limit count : ℕ) (xs : List (Stand W)) → (let n : Tally W = record { limit = limit; count = suc count; past = None } in (counted_on n xs).past ≡ past_limit limit (suc count) xs)
    → (let n : Tally W = record { limit = limit; count = count + 1; past = None } in (counted_on n xs).past ≡ past_limit limit (suc count) xs)
plus_one limit count xs h = let e : count + 1 ≡ suc count = omega arith in rw e h

counted_from : {W : Type 0} (limit count : ℕ) (xs : List (Stand W)) → (let n : Tally W = record { limit = limit; count = count; past = None } in (counted_on n xs).past ≡ past_limit limit count xs)
counted_from limit count [] = refl
counted_from {W} limit count (x ∷ xs) = tested x.mark (nat_lt count limit) (counted_from limit count xs) (plus_one limit count xs (counted_from limit (suc count) xs)) (counted_from limit 0 xs) (kept_past limit count x.name xs)
  where
    tested : (q : Mark) (b : Bool) → (let n : Tally W = record { limit = limit; count = count; past = None } in (counted_on n xs).past ≡ past_limit limit count xs)
        → (let n : Tally W = record { limit = limit; count = count + 1; past = None } in (counted_on n xs).past ≡ past_limit limit (suc count) xs)
        → (let n : Tally W = record { limit = limit; count = 0; past = None } in (counted_on n xs).past ≡ past_limit limit 0 xs)
        → (let n : Tally W = record { limit = limit; count = count; past = Some x.name } in (counted_on n xs).past ≡ Some x.name)
        → (let n : Tally W = record { limit = limit; count = count; past = None } in let m : Tally W = (if b then record { limit = limit; count = count + 1; past = None } else record { limit = limit; count = count; past = Some x.name }) in let r : Option W = elim q [ quiet ↦ past_limit limit count xs | declares ↦ if b then past_limit limit (suc count) xs else Some x.name | restarts ↦ past_limit limit 0 xs ] in (counted_on (elim q [ quiet ↦ n | declares ↦ m | restarts ↦ record { limit = limit; count = 0; past = None } ]) xs).past ≡ r)
    tested quiet b h i j k = h
    tested declares true h i j k = i
    tested declares false h i j k = k
    tested restarts b h i j k = j

-- the name that the count is left with is the first one past the limit
pub counted_past : {W : Type 0} (limit : ℕ) (xs : List (Stand W)) → (counted_on (fresh limit) xs).past ≡ past_limit limit 0 xs
counted_past limit xs = counted_from limit 0 xs

pub counts_err : {W : Type 0} (Y : Type 0) (e : Stop) (now expected : Tally W) → now ≡ expected → CountsOn {Y = Y} (Err e) now expected
counts_err Y stops.Memory now expected i = tt
counts_err Y (stops.At f) now expected i = i
