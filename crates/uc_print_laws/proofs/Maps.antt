-- Lists of parts that were changed one by one.
use Rattle.std.proofs.Common.{◌≡◌, List, [], ◌∷◌, map, true, refl, ap}
use Rattle.uc_grammar.specs.declared.word.Kind.{Kind}
use Rattle.uc_print_laws.specs.Printed.{Printed, sign, ◌<+>◌, each, behind, joined, listed, when}

pub map_twice : {A B C : Type 0} (f : A → B) (g : B → C) (xs : List A) → map g (map f xs) ≡ map (λ x. g (f x)) xs
map_twice f g [] = refl
map_twice f g (x ∷ xs) = ap (λ z. g (f x) ∷ z) (map_twice f g xs)

pub each_over : {A B : Type 0} (f : A → B) (show : B → Printed) (xs : List A) → each show (map f xs) ≡ each (λ x. show (f x)) xs
unfolding each
each_over f show [] = refl
each_over f show (x ∷ xs) = ap (λ z. show (f x) <+> z) (each_over f show xs)

pub behind_over : {A B : Type 0} (k : Kind) (f : A → B) (show : B → Printed) (xs : List A) → behind k show (map f xs) ≡ behind k (λ x. show (f x)) xs
unfolding behind
behind_over k f show [] = refl
behind_over k f show (x ∷ xs) = ap (λ z. sign k <+> (show (f x) <+> z)) (behind_over k f show xs)

pub joined_over : {A B : Type 0} (k : Kind) (f : A → B) (show : B → Printed) (xs : List A) → joined k show (map f xs) ≡ joined k (λ x. show (f x)) xs
joined_over k f show [] = refl
joined_over k f show (x ∷ xs) = ap (λ z. show (f x) <+> z) (behind_over k f show xs)

pub listed_over : {A B : Type 0} (f : A → B) (show : B → Printed) (xs : List A) → listed show (map f xs) ≡ listed (λ x. show (f x)) xs
listed_over f show [] = refl
listed_over f show (x ∷ xs) = ap (λ z. when true (show (f x) <+> z)) (behind_over _ f show xs)
