-- The rows of the graph as they are made.
use Rattle.std.proofs.Common.{◌≡◌, ℕ, ◌+◌, ◌<◌, ◌≤◌, List, [], ◌∷◌, ◌++◌, map, length, take, get_or, refl, ap, sym, ◌∙◌, append_assoc}
use Rattle.std.proofs.lemmas.List.{take_all, take_more}
use Rattle.uc_syntax.proofs.Added.{append_nil}
use Rattle.uc_uses.specs.declared.table.UseTable.{UseTable}
use Rattle.uc_uses.specs.Resolving.{call_number, call_numbers}

map_push : {A B : Type 0} (f : A → B) (xs : List A) (x : A) → map f (xs ++ x ∷ []) ≡ map f xs ++ f x ∷ []
map_push f [] x = refl
map_push f (y ∷ xs) x = ap (λ ys. f y ∷ ys) (map_push f xs x)

pub map_more : {A B : Type 0} (f : A → B) (xs : List A) (k : ℕ) (x d : A) (old new : List B) (y : B) → k < length xs → x ≡ get_or xs k d → old ≡ map f (take k xs) → y ≡ f x → new ≡ old ++ y ∷ [] → new ≡ map f (take (k + 1) xs)
map_more f xs k x d old new y within at so_far is pushed =
    pushed
    ∙ ap (λ os. os ++ y ∷ []) so_far
    ∙ ap (λ z. map f (take k xs) ++ z ∷ []) is
    ∙ sym (map_push f (take k xs) x)
    ∙ sym (ap (map f) (take_more xs k d within ∙ ap (λ z. take k xs ++ z ∷ []) (sym at)))

pub map_all : {A B : Type 0} (f : A → B) (xs : List A) (k : ℕ) (ys : List B) → length xs ≤ k → ys ≡ map f (take k xs) → ys ≡ map f xs
map_all f xs k ys past is = is ∙ ap (map f) (take_all k xs past)

-- the procedures that are called, one by one
pub calls_more : (u : UseTable) (k : ℕ) (names before now after : List ℕ) (i : ℕ) → i < length names → now ≡ before ++ call_numbers u k (take i names) → after ≡ now ++ call_number u k (get_or names i 0) ∷ [] → after ≡ before ++ call_numbers u k (take (i + 1) names)
unfolding call_numbers
calls_more u k names before now after i within so_far pushed =
    pushed
    ∙ ap (λ ns. ns ++ call_number u k (get_or names i 0) ∷ []) so_far
    ∙ append_assoc before (map (call_number u k) (take i names)) (call_number u k (get_or names i 0) ∷ [])
    ∙ ap (λ ns. before ++ ns) (sym (ap (map (call_number u k)) (take_more names i 0 within) ∙ map_push (call_number u k) (take i names) (get_or names i 0)))

pub calls_none : (u : UseTable) (k : ℕ) (before : List ℕ) → before ≡ before ++ call_numbers u k []
unfolding call_numbers
calls_none u k before = sym (append_nil before)

pub calls_all : (u : UseTable) (k : ℕ) (names before now : List ℕ) (i : ℕ) → length names ≤ i → now ≡ before ++ call_numbers u k (take i names) → now ≡ before ++ call_numbers u k names
calls_all u k names before now i past is = is ∙ ap (λ ns. before ++ call_numbers u k ns) (take_all i names past)
