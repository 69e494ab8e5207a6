-- Questions that are asked one after another, up to the first that is answered by no.
use Rattle.std.specs.Prelude.{Bool, true, ◌&&◌, if◌then◌else◌, List, [], ◌∷◌, ◌++◌}
use Rattle.uc_meaning.specs.declared.overflow.Wide.{Wide}

-- A question: its answer, and the operations on whole numbers that are met on the way.
pub record Asked : Type 0 where
  pub holds : Bool
  pub met : List Wide

abbrev pub nothing_asked : Asked
nothing_asked = record { holds = true; met = [] }

-- two questions, the second where the first is answered by yes
abbrev pub then_ask : Asked → Asked → Asked
then_ask a b = record { holds = a.holds && b.holds; met = a.met ++ (if a.holds then b.met else []) }

unfoldable pub ask_each : {A : Type 0} → (A → Asked) → List A → Asked
ask_each f [] = nothing_asked
ask_each f (x ∷ xs) = then_ask (f x) (ask_each f xs)
