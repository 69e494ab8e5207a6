-- Free values that are added at the end: code that came before keeps what it did, and new code reads the new ones.
use Rattle.std.proofs.Common.{◌≡◌, ℕ, ◌+◌, ◌≤◌, List, [], ◌∷◌, ◌++◌, length, refl, sym, ap, ◌∙◌, arith, slice_get, zero, suc, ◌<◌}
use Rattle.uc_values.specs.declared.ty.Ty.{Ty}
use Rattle.uc_values.specs.declared.value.Value.{Value}
use Rattle.uc_ops.specs.declared.model.Model.{Model}
use Rattle.uc_flat.specs.declared.statement.Statement.{Statement}
use Rattle.uc_flat.specs.Drawn.{Drawn, drawn}
use Rattle.uc_flat.specs.Counts.{all_draws}
use Rattle.uc_flat.specs.Laws.{from_zero, SamePlace}
use Rattle.uc_flat.proofs.Locality.{Stretch, code_moves}

pub slice_get-front : {A : Type 0} (xs ys : List A) (k : ℕ) → k < length xs → slice_get (xs ++ ys) k ≡ slice_get xs k
slice_get-front [] ys k h = absurd (omega arith)
slice_get-front (x ∷ xs) ys zero h = refl
slice_get-front (x ∷ xs) ys (suc k) h = slice_get-front xs ys k (omega arith)

pub slice_get-back : {A : Type 0} (xs ys : List A) (k : ℕ) → slice_get (xs ++ ys) (length xs + k) ≡ slice_get ys k
slice_get-back [] ys k = ap (slice_get ys) (omega arith)
slice_get-back (x ∷ xs) ys k =
    let e : length (x ∷ xs) + k ≡ suc (length xs + k) = omega arith in
    ap (slice_get (x ∷ xs ++ ys)) e ∙ slice_get-back xs ys k

-- for each list of free values of its own that code may have, it does so on the symbols so far with those free values after them
pub extended : (m : Model) (types : List Ty) (code : List Statement) (symbols frees : List Value) (r : Drawn) → r.next ≡ length symbols → all_draws code ≤ length frees
    → SamePlace (drawn m types (symbols ++ frees) code r) (drawn m types frees code (from_zero r))
extended m types code symbols frees r e l =
    let z : Stretch = record { model = m; types = types; one = symbols ++ frees; two = frees; a = length symbols; b = 0; high = length frees; agree = λ k h. slice_get-back symbols frees k ∙ ap (slice_get frees) (omega arith) } in
    let n = code_moves z code r (from_zero r) 0 (record { cells = refl; goes = refl; taken = refl; chosen = refl; sites = refl; next = omega (arith, e); next_other = omega arith }) (omega (arith, l)) in
    record { cells = n.cells; goes = n.goes; taken = n.taken; chosen = n.chosen; sites = n.sites }

-- what code did on the symbols so far stays when more are added
pub kept : (m : Model) (types : List Ty) (code : List Statement) (symbols more : List Value) (r : Drawn) → r.next + all_draws code ≤ length symbols
    → drawn m types (symbols ++ more) code r ≡ drawn m types symbols code r
kept m types code symbols more r l =
    let z : Stretch = record { model = m; types = types; one = symbols ++ more; two = symbols; a = r.next; b = r.next; high = all_draws code; agree = λ k h. slice_get-front symbols more (r.next + k) (omega (arith, h, l)) } in
    let n = code_moves z code r r 0 (record { cells = refl; goes = refl; taken = refl; chosen = refl; sites = refl; next = omega arith; next_other = omega arith }) (omega arith) in
    whole (drawn m types (symbols ++ more) code r) (drawn m types symbols code r) n.cells n.goes n.taken n.chosen n.sites (n.next ∙ sym n.next_other)
  where
    whole : (r s : Drawn) → r.cells ≡ s.cells → r.goes ≡ s.goes → r.taken ≡ s.taken → r.chosen ≡ s.chosen → r.sites ≡ s.sites → r.next ≡ s.next → r ≡ s
    whole r s a b c d e f = λ i. record { cells = a i; goes = b i; taken = c i; chosen = d i; sites = e i; next = f i }

-- how many free values code has read
pub next_after : (m : Model) (types : List Ty) (code : List Statement) (symbols : List Value) (r : Drawn) → (drawn m types symbols code r).next ≡ r.next + all_draws code
next_after m types code symbols r =
    let z : Stretch = record { model = m; types = types; one = symbols; two = symbols; a = r.next; b = r.next; high = all_draws code; agree = λ k h. refl } in
    let n = code_moves z code r r 0 (record { cells = refl; goes = refl; taken = refl; chosen = refl; sites = refl; next = omega arith; next_other = omega arith }) (omega arith) in
    n.next ∙ ap (λ i. r.next + i) (omega arith)
