-- Types of booleans and bit-vectors.
use Rattle.std.specs.Prelude.{ℕ, ◌≤◌, [], ◌∷◌, All}
use Rattle.std.proofs.Common.{refl}
use Rattle.std.proofs.lemmas.List.Elements.{All-cons, All-nil}
use Rattle.uc_values.specs.declared.ty.Ty.{Ty}
use Rattle.uc_values.specs.declared.ty.Ty.TheVariants.{Bool, Bv}
use Rattle.uc_values.proofs.Shapes.{valid-Bool}
use Rattle.uc_solve_rows.specs.Low.{IsFine}
use Rattle.uc_solve_rows.proofs.Suiting.{valid_bits}

pub fine_bits : (width : ℕ) → 1 ≤ width → width ≤ 64 → IsFine (Bv width)
fine_bits width l h = (valid_bits width l h, refl)

pub fine_truth : IsFine Bool
fine_truth = (valid-Bool, refl)

fine_one : (a : Ty) → IsFine a → All IsFine (a ∷ [])
fine_one a h = All-cons IsFine a [] h (All-nil IsFine)

fine_two : (a b : Ty) → IsFine a → IsFine b → All IsFine (a ∷ b ∷ [])
fine_two a b h i = All-cons IsFine a (b ∷ []) h (fine_one b i)

fine_three : (a b c : Ty) → IsFine a → IsFine b → IsFine c → All IsFine (a ∷ b ∷ c ∷ [])
fine_three a b c h i j = All-cons IsFine a (b ∷ c ∷ []) h (fine_two b c i j)

pub fine_single : (width : ℕ) → 1 ≤ width → width ≤ 64 → All IsFine (Bv width ∷ [])
fine_single width l h = fine_one (Bv width) (fine_bits width l h)

pub fine_pair : (width other : ℕ) → 1 ≤ width → width ≤ 64 → 1 ≤ other → other ≤ 64 → All IsFine (Bv width ∷ Bv other ∷ [])
fine_pair width other l h m i = fine_two (Bv width) (Bv other) (fine_bits width l h) (fine_bits other m i)

pub fine_choice : (width : ℕ) → 1 ≤ width → width ≤ 64 → All IsFine (Bool ∷ Bv width ∷ Bv width ∷ [])
fine_choice width l h = fine_three Bool (Bv width) (Bv width) fine_truth (fine_bits width l h) (fine_bits width l h)

pub fine_truths : All IsFine (Bool ∷ []) × All IsFine (Bool ∷ Bool ∷ []) × All IsFine (Bool ∷ Bool ∷ Bool ∷ [])
fine_truths = (fine_one Bool fine_truth, fine_two Bool Bool fine_truth fine_truth, fine_three Bool Bool Bool fine_truth fine_truth fine_truth)

pub none_fine : All IsFine []
none_fine = All-nil IsFine
