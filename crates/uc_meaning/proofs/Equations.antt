-- Lists whose elements are taken over twice.
use Rattle.std.proofs.Common.{◌≡◌, map, List, [], ◌∷◌, refl, ap}

pub map-map : {A B C : Type 0} (g : B → C) (f : A → B) (xs : List A) → map g (map f xs) ≡ map (λ x. g (f x)) xs
map-map g f [] = refl
map-map g f (x ∷ xs) = ap (λ ys. g (f x) ∷ ys) (map-map g f xs)
