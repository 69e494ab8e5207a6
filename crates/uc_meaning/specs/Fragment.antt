-- What designs that run keep of their control block.
use Rattle.std.specs.Prelude.{ℕ, Bool, true, false, not, List, [], ◌∷◌}
use Rattle.std.specs.List.{list_any}
use Rattle.uc_syntax.specs.declared.declaration.Decl.{Decl}
use Rattle.uc_syntax.specs.declared.declaration.Decl.TheVariants.{Control}

-- how many steps a run may be unrolled
abbrev pub most_steps : ℕ
most_steps = 1000

abbrev pub is_control : Decl → Bool
is_control (Control place commands) = true
is_control other = false

abbrev pub at_most_one_after : Bool → Bool → Bool → Bool
at_most_one_after true rest more = not more
at_most_one_after false rest more = rest

-- at most one element passes
unfoldable pub at_most_one : {A : Type 0} → (A → Bool) → List A → Bool
at_most_one p [] = true
at_most_one p (x ∷ xs) = at_most_one_after (p x) (at_most_one p xs) (list_any p xs)
