-- The code of statements by their places.
use Rattle.std.proofs.Common.{◌≡◌, ℕ, zero, suc, ◌+◌, ◌-◌, ◌<◌, ◌≤◌, List, [], ◌∷◌, ◌++◌, map, length, take, drop, refl, sym, ap, ◌∙◌, subst, append-nil, Option, Some, None, arith}
use Rattle.std.specs.Prelude.{slice_get, if◌then◌else◌, Result}
use Rattle.std.specs.Option.{option_map, option_and_then, option_to_list}
use Rattle.std.specs.List.{filter_map, cons_option}
use Rattle.uc_syntax.specs.declared.statement.Stmt.{Stmt}
use Rattle.uc_flat.specs.declared.statement.Statement.{Statement}
use Rattle.uc_flat_expressions.specs.declared.typed.Meant.{Meant}
use Rattle.uc_flat_expressions.specs.declared.typed.FlatError.{FlatError}
use Rattle.uc_flat_expressions.specs.Answers.{IsAnswer}
use Rattle.uc_flat_code.specs.declared.writing.Writing.{Writing}
use Rattle.uc_flat_code.specs.Code.{MayBe, in_order, statement_of, code_of}
use Rattle.uc_flat_code.specs.Once.{code_once}
use Rattle.uc_flat_order.specs.Slices.{all_slices}
use Rattle.uc_flat_order.specs.Arranged.{in_turn, code_arranged}
use Rattle.uc_flat_order.specs.Uses.{code_at, IsOrder}
use Rattle.uc_flat_order.proofs.Pairs.{block_whole, block_apart}

pub one_there : (code : List Stmt) (k : ℕ) → k < length code → take (k + 1 - k) (drop k code) ≡ option_to_list (slice_get code k)
one_there code k l = let one : k + 1 - k ≡ 1 = omega arith in ap (λ n. take n (drop k code)) one ∙ at code k l
  where
    at : (xs : List Stmt) (i : ℕ) → i < length xs → take 1 (drop i xs) ≡ option_to_list (slice_get xs i)
    at [] i h = absurd (omega (arith, h))
    at (x ∷ xs) zero h = refl
    at (x ∷ xs) (suc i) h = at xs i (omega (arith, h))

pub none_there : (code : List Stmt) (k : ℕ) → length code ≤ k → [] ≡ option_to_list (slice_get code k)
none_there [] k h = refl
none_there (x ∷ code) zero h = absurd (omega (arith, h))
none_there (x ∷ code) (suc k) h = none_there code k (omega (arith, h))

-- one statement after another
along_is : (names : List Meant) (w : Writing) (code : List Stmt) (order : List ℕ) → in_order (map (code_at names w code) order) ≡ code_of names w (filter_map (slice_get code) order)
along_is names w code [] = refl
along_is names w code (k ∷ order) =
    ap (λ o. option_and_then (λ x. option_map (λ xs. x ++ xs) o) (code_at names w code k)) (along_is names w code order) ∙ by_case (slice_get code k)
  where
    nothing_first : (o : MayBe) → option_map (λ xs. [] ++ xs) o ≡ o
    nothing_first None = refl
    nothing_first (Some xs) = refl

    alone : (o rest : MayBe) → option_and_then (λ x. option_map (λ xs. x ++ xs) rest) (option_and_then (λ x. option_map (λ xs. x ++ xs) (Some [])) o) ≡ option_and_then (λ x. option_map (λ xs. x ++ xs) rest) o
    alone None rest = refl
    alone (Some x) rest = ap (λ y. option_map (λ xs. y ++ xs) rest) (append-nil x)

    by_case : (o : Option Stmt) → option_and_then (λ x. option_map (λ xs. x ++ xs) (code_of names w (filter_map (slice_get code) order))) (code_of names w (option_to_list o)) ≡ code_of names w (cons_option o (filter_map (slice_get code) order))
    by_case None = nothing_first (code_of names w (filter_map (slice_get code) order))
    by_case (Some s) = alone (statement_of names w s) (code_of names w (filter_map (slice_get code) order))

pub along_answer : (names : List Meant) (w : Writing) (code : List Stmt) (order : List ℕ) (r : Result (List Statement) FlatError) → IsOrder names w.shift code (Some order) → IsAnswer (in_order (map (code_at names w code) order)) r → IsAnswer (code_once names w (in_turn names w.shift code)) r
along_answer names w code order r is h =
    subst (λ o. IsAnswer o r)
    (along_is names w code order ∙ ap (λ xs. code_of names w xs) is.0 ∙ sym (ap (λ b. if b then code_of names w (in_turn names w.shift code) else None) is.1)) h

pub none_answer : (names : List Meant) (w : Writing) (code : List Stmt) → IsOrder names w.shift code None → code_once names w (in_turn names w.shift code) ≡ None
none_answer names w code h = ap (λ b. if b then code_of names w (in_turn names w.shift code) else None) h

-- the block as it stands
pub whole_answer : (names : List Meant) (w : Writing) (code : List Stmt) (order : List ℕ) (r : Result (List Statement) FlatError) → IsOrder names w.shift code (Some order) → IsAnswer (in_order (map (code_at names w code) order)) r → IsAnswer (code_arranged names w code) r
whole_answer names w code order r is h = subst (λ xs. IsAnswer (code_once names w xs) r) (sym (block_whole names w.shift code is.1)) (along_answer names w code order r is h)

-- its slices
pub apart_answer : (names : List Meant) (w : Writing) (code : List Stmt) (r : Result (List Statement) FlatError) → IsOrder names w.shift code None → IsAnswer (code_once names w (in_turn names w.shift (all_slices code))) r → IsAnswer (code_arranged names w code) r
apart_answer names w code r is h = subst (λ xs. IsAnswer (code_once names w xs) r) (sym (block_apart names w.shift code is)) h
