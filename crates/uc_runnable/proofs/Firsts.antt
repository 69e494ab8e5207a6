-- The first answer along a list that is made of another one.
use Rattle.std.proofs.Common.{◌≡◌, List, [], ◌∷◌, Bool, true, false, map, drop, Option, refl, ap}
use Rattle.std.specs.Prelude.{if◌then◌else◌}
use Rattle.std.specs.Option.{option_or}
use Rattle.uc_lexer.specs.declared.place.Place.{Place}
use Rattle.uc_syntax.specs.declared.expression.BitFunction.{BitFunction}
use Rattle.uc_meaning.specs.Lookup.{first_some}
use Rattle.uc_runnable.specs.Outside.{expressions_among, first_of, is_extension}

pub first_map : {X : Type 0} (g : X → Option Place) (xs : List X) → first_of (map g xs) ≡ first_some g xs
unfolding first_some
first_map g [] = refl
first_map g (x ∷ xs) = ap (option_or (g x)) (first_map g xs)

drop_map : {X Y : Type 0} (g : X → Y) (xs : List X) → drop 1 (map g xs) ≡ map g (drop 1 xs)
drop_map g [] = refl
drop_map g (x ∷ xs) = refl

by_test : {X Y : Type 0} (b : Bool) (g : X → Y) (xs : List X) → (if b then drop 1 (map g xs) else map g xs) ≡ map g (if b then drop 1 xs else xs)
by_test true g xs = drop_map g xs
by_test false g xs = refl

pub among_map : {X Y : Type 0} (function : BitFunction) (g : X → Y) (xs : List X) → expressions_among function (map g xs) ≡ map g (expressions_among function xs)
among_map function g xs = by_test (is_extension function) g xs
