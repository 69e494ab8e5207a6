-- What a read leaves of a text.
use Rattle.std.proofs.Common.{◌≡◌, ◌∙◌, ℕ, ◌+◌, ◌≤◌, List, ◌++◌, length, take, drop, Result, Ok, Err, OnErr, ap, sym, arith, length-append, length-take, append_assoc}
use Rattle.std.proofs.lemmas.List.{drop_at}
use Rattle.uc_io.specs.Texts.{Gives, LeavesAllBut}

-- The bytes before the read and those that it gave were taken, and what is left now is left of both.
pub leaves : (before : List ℕ) {left buffer rest : List ℕ} {count : ℕ} (most : ℕ) → Gives left count buffer rest → length before + count ≤ most → LeavesAllBut most (before ++ left) rest
leaves before {buffer = buffer} {count = count} most gives within =
    (before ++ take count buffer, omega (arith, length-append before (take count buffer), length-take count buffer), rw (gives.bytes, append_assoc))

-- where they are as many as may be taken, the rest of both is left
pub cut : (before : List ℕ) {left buffer rest : List ℕ} {count : ℕ} (most : ℕ) → Gives left count buffer rest → length before + count ≡ most → count ≤ length buffer → rest ≡ drop most (before ++ left)
cut before {buffer = buffer} {rest = rest} {count = count} most gives all room =
    sym
    (ap (λ xs. drop most (before ++ xs)) gives.bytes
    ∙ ap (drop most) (sym (append_assoc before (take count buffer) rest))
    ∙ drop_at (before ++ take count buffer) rest most (omega (arith, length-append before (take count buffer), length-take count buffer)))

-- what holds always holds after an error
pub after_error : {T E P : Type 0} (r : Result T E) → P → OnErr r P
after_error (Ok _) p = tt
after_error (Err _) p = p
