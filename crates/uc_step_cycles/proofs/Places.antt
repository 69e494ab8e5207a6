-- The numbers of blocks: none lies in two of them.
use Rattle.std.proofs.Common.{◌≡◌, ℕ, zero, suc, ◌+◌, ◌<◌, ◌≤◌, List, [], ◌∷◌, Some, refl, ap, ◌⊎◌, inl, inr, ⊎_elim, arith}
use Rattle.std.specs.Prelude.{slice_get, slice_index_or}
use Rattle.uc_step_cycles.specs.declared.stepped_blocks.Block.{Block}
use Rattle.uc_step_cycles.specs.StepEdgesNumbers.{bases_from, block_size, total_from}
use Rattle.uc_step_cycles.proofs.Lists.{none_some, some_same}

abbrev pub base : ℕ → List Block → ℕ → ℕ
base start bs j = slice_index_or (bases_from start bs) j 0

size_same : (a b : Block) → a ≡ b → block_size a ≡ block_size b
size_same a b e = ap block_size e

pub base_low : (start j : ℕ) (bs : List Block) (b : Block) → slice_get bs j ≡ Some b → start ≤ base start bs j
unfolding bases_from
base_low start zero [] b h = none_some b h
base_low start (suc j) [] b h = none_some b h
base_low start zero (x ∷ bs) b h = omega arith
base_low start (suc j) (x ∷ bs) b h = let l = base_low (start + block_size x) j bs b h in omega (arith, l)

pub total_low : (start : ℕ) (bs : List Block) → start ≤ total_from start bs
unfolding total_from
total_low start [] = omega arith
total_low start (x ∷ bs) = let l = total_low (start + block_size x) bs in omega (arith, l)

pub base_within : (start j : ℕ) (bs : List Block) (b : Block) → slice_get bs j ≡ Some b → base start bs j + block_size b ≤ total_from start bs
unfolding bases_from total_from
base_within start zero [] b h = none_some b h
base_within start (suc j) [] b h = none_some b h
base_within start zero (x ∷ bs) b h = let l = total_low (start + block_size x) bs in let e = size_same x b (some_same x b h) in omega (arith, l, e)
base_within start (suc j) (x ∷ bs) b h = base_within (start + block_size x) j bs b h

apart : (start j l : ℕ) (bs : List Block) (b c : Block) → j < l → slice_get bs j ≡ Some b → slice_get bs l ≡ Some c → base start bs j + block_size b ≤ base start bs l
unfolding bases_from
apart start zero zero [] b c less h g = none_some b h
apart start zero (suc l) [] b c less h g = none_some b h
apart start (suc j) l [] b c less h g = none_some b h
apart start zero zero (x ∷ bs) b c less h g = absurd (omega (arith, less))
apart start zero (suc l) (x ∷ bs) b c less h g = let low = base_low (start + block_size x) l bs c g in let e = size_same x b (some_same x b h) in omega (arith, low, e)
apart start (suc j) zero (x ∷ bs) b c less h g = absurd (omega (arith, less))
apart start (suc j) (suc l) (x ∷ bs) b c less h g = apart (start + block_size x) j l bs b c (omega (arith, less)) h g

sides : (j l : ℕ) → (j < l) ⊎ ((j ≡ l) ⊎ (l < j))
sides zero zero = inr (inl refl)
sides zero (suc l) = inl (omega arith)
sides (suc j) zero = inr (inr (omega arith))
sides (suc j) (suc l) = ⊎_elim (λ a. inl (omega (arith, a))) (λ r. ⊎_elim (λ e. inr (inl (ap suc e))) (λ b. inr (inr (omega (arith, b)))) r) (sides j l)

-- a number of a block is that of no other one
pub one_block : (start j l i k : ℕ) (bs : List Block) (b c : Block) → slice_get bs j ≡ Some b → slice_get bs l ≡ Some c → i < block_size b → k < block_size c → base start bs j + i ≡ base start bs l + k → (j ≡ l) × (i ≡ k)
one_block start j l i k bs b c h g under over e =
    ⊎_elim
    (λ less. let a = apart start j l bs b c less h g in absurd (omega (arith, a, e, under)))
    (λ r.
    ⊎_elim
    (λ same. let s = ap (λ n. base start bs n) same in (same, omega (arith, s, e)))
    (λ more. let a = apart start l j bs c b more g h in absurd (omega (arith, a, e, over)))
    r)
    (sides j l)
