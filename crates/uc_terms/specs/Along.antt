-- What each element of a list gives from those before it, and what each term of a table gives from its parts.
use Rattle.std.specs.Prelude.{ℕ, Bool, false, ◌||◌, List, [], ◌∷◌, ◌++◌, map, slice_index_or}
use Rattle.std.specs.List.{list_any}
use Rattle.uc_ops.specs.declared.node.Node.{Node}

-- what each element gives, in order, after what was given before: step makes it of the element and of all that was given
unfoldable pub along_after : {N A : Type 0} → (N → List A → A) → List A → List N → List A
along_after step given [] = given
along_after step given (n ∷ ns) = along_after step (given ++ step n given ∷ []) ns

-- what each element gives, in order
unfoldable pub along : {N A : Type 0} → (N → List A → A) → List N → List A
along step ns = along_after step [] ns

-- what the numbers of parts give
abbrev pub at_parts : {A : Type 0} → A → List A → List ℕ → List A
at_parts none given parts = map (λ p. slice_index_or given p none) parts

-- What a term of a table gives, where make tells it from the node and from what its parts give: a value, a form or a set of
-- symbols. None stands for what is not in the table.
unfoldable pub told : {A : Type 0} → A → (Node → List A → A) → List Node → ℕ → A
told none make nodes t = slice_index_or (along (λ node given. make node (at_parts none given node.parts)) nodes) t none

-- some subterm passes the test
abbrev pub has : (Node → Bool) → List Node → ℕ → Bool
has test = told false (λ node parts. test node || list_any (λ b. b) parts)
