-- Lists and the elements that stand at a place.
use Rattle.std.proofs.Common.{◌≡◌, ℕ, zero, suc, ◌+◌, ◌-◌, ◌<◌, ◌≤◌, List, [], ◌∷◌, ◌++◌, length, map, take, drop, slice_get, get_or, Some, refl, sym, ap, ◌∙◌, arith, length-append, Bor}
use Rattle.std.specs.List.{concat}
use Rattle.std.proofs.lemmas.Option.{slice_get-get_or}
use Rattle.uc_front.specs.Sources.{words_of}

pub map_at : {X Y : Type 0} (f : X → Y) (xs : List X) (i : ℕ) (x : X) → slice_get xs i ≡ Some x → slice_get (map f xs) i ≡ Some (f x)
map_at f [] i x e = cc
map_at f (y ∷ ys) zero x e = let same : y ≡ x = cc in ap (λ z. Some (f z)) same
map_at f (y ∷ ys) (suc i) x e = map_at f ys i x e

-- the bytes of a word at its place
pub word_at : (files : List (Bor (List ℕ))) (i : ℕ) (d : Bor (List ℕ)) (bytes : List ℕ) → i < length files → bytes ≡ (get_or files i d).now → slice_get (words_of files) i ≡ Some bytes
word_at files i d bytes within is = map_at (λ w. w.now) files i (get_or files i d) (slice_get-get_or files i d within) ∙ ap (λ b. Some b) (sym is)

-- an element at its place
pub stands : {X : Type 0} (xs : List X) (i : ℕ) (x : X) → i < length xs → x ≡ get_or xs i x → slice_get xs i ≡ Some x
stands xs i x within is = slice_get-get_or xs i x within ∙ ap (λ y. Some y) (sym is)

pub take_next : {X : Type 0} (xs : List X) (i : ℕ) (x : X) → slice_get xs i ≡ Some x → take (i + 1) xs ≡ take i xs ++ x ∷ []
take_next [] i x e = cc
take_next (y ∷ ys) zero x e = let same : y ≡ x = cc in (λ j. same j ∷ [])
take_next (y ∷ ys) (suc i) x e = let n : suc i + 1 ≡ suc (i + 1) = omega arith in ap (λ k. take k (y ∷ ys)) n ∙ ap (λ zs. y ∷ zs) (take_next ys i x e)

pub drop_next : {X : Type 0} (xs : List X) (i : ℕ) (x : X) → slice_get xs i ≡ Some x → drop i xs ≡ x ∷ drop (i + 1) xs
drop_next [] i x e = cc
drop_next (y ∷ ys) zero x e = let same : y ≡ x = cc in (λ j. same j ∷ ys)
drop_next (y ∷ ys) (suc i) x e = let n : suc (i + 1) ≡ suc i + 1 = omega arith in drop_next ys i x e ∙ ap (λ k. x ∷ drop k (y ∷ ys)) n

pub map_take : {X Y : Type 0} (f : X → Y) (i : ℕ) (xs : List X) → map f (take i xs) ≡ take i (map f xs)
map_take f zero xs = refl
map_take f (suc i) [] = refl
map_take f (suc i) (x ∷ xs) = ap (λ ys. f x ∷ ys) (map_take f i xs)

-- the element behind a front
pub behind : {X : Type 0} (xs : List X) (x : X) (ys : List X) → slice_get (xs ++ x ∷ ys) (length xs) ≡ Some x
behind [] x ys = refl
behind (y ∷ xs) x ys = behind xs x ys

pub concat_push : (xs : List (List ℕ)) (x : List ℕ) → length (concat (xs ++ x ∷ [])) ≡ length (concat xs) + length x
concat_push [] x = simp length-append (omega arith)
concat_push (y ∷ ys) x = let rest = concat_push ys x in simp length-append (omega (arith, rest))

-- no text is longer than all together
pub text_within : (xs : List (List ℕ)) (i : ℕ) (x : List ℕ) → slice_get xs i ≡ Some x → length x ≤ length (concat xs)
text_within [] i x e = cc
text_within (y ∷ ys) zero x e = let same : length y ≡ length x = cc in simp length-append (omega (arith, same))
text_within (y ∷ ys) (suc i) x e = let rest = text_within ys i x e in simp length-append (omega (arith, rest))

-- the limit after one more text
pub room_more : (found more : List (List ℕ)) (text : List ℕ) (room n limit : ℕ) → more ≡ found ++ text ∷ [] → n ≡ length text → length text ≤ room → length (concat found) + room ≡ limit →
    length (concat more) + (room - n) ≡ limit
room_more found more text room n limit e count within so_far =
    let all : length (concat more) ≡ length (concat found) + length text = ap (λ ts. length (concat ts)) e ∙ concat_push found text in
    omega (arith, all, count, within, so_far)

pub count_more : {X : Type 0} (xs more : List X) (x : X) (i : ℕ) → more ≡ xs ++ x ∷ [] → length xs ≡ i → length more ≡ i + 1
count_more xs more x i e count = let n : length more ≡ length xs + length (x ∷ []) = ap length e ∙ length-append xs (x ∷ []) in omega (arith, n, count)
