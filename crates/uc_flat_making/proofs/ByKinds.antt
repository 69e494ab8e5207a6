-- The code of inputs by cells and by their kinds.
use Rattle.std.proofs.Common.{◌≡◌, ℕ, ◌+◌, List, [], ◌∷◌, ◌++◌, map, Some, refl, sym, ap, ◌∙◌, subst}
use Rattle.std.specs.Prelude.{false, if◌then◌else◌, Result}
use Rattle.uc_syntax.specs.declared.declaration.VariableKind.{VariableKind}
use Rattle.uc_meaning.specs.Cells.{Cell}
use Rattle.uc_meaning.specs.Steps.{is_input}
use Rattle.uc_flat.specs.declared.statement.Statement.{Statement}
use Rattle.uc_flat.specs.declared.statement.Statement.TheVariants.{Havoc}
use Rattle.uc_flat_expressions.specs.declared.typed.FlatError.{FlatError}
use Rattle.uc_flat_expressions.specs.Answers.{IsAnswer}
use Rattle.uc_flat_design.specs.Next.{inputs_from}
use Rattle.uc_flat_making.specs.Parts.{inputs_by}

inputs_are : (n : ℕ) (cells : List Cell) → inputs_by n (map (λ (c : Cell). c.kind) cells) ≡ inputs_from n cells
unfolding inputs_by inputs_from
inputs_are n [] = refl
inputs_are n (c ∷ cells) = ap (λ (xs : List Statement). (if is_input c.kind then Havoc n false ∷ [] else []) ++ xs) (inputs_are (n + 1) cells)

pub inputs_answer : (n : ℕ) (kinds : List VariableKind) (r : Result (List Statement) FlatError) → IsAnswer (Some (inputs_by n kinds)) r
    → (cells : List Cell) → map (λ (c : Cell). c.kind) cells ≡ kinds → IsAnswer (Some (inputs_from n cells)) r
inputs_answer n kinds r h cells e = subst (λ xs. IsAnswer (Some xs) r) (ap (inputs_by n) (sym e) ∙ inputs_are n cells) h
