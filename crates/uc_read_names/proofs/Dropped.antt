-- Lists from which the last ones are dropped, seen from the last one.
use Rattle.std.proofs.Common.{◌≡◌, ℕ, zero, suc, ◌+◌, List, [], ◌∷◌, ◌++◌, drop, reverse, Option, Some, None, refl, ap, sym, ◌∙◌, arith}
use Rattle.std.specs.Prelude.{MatchOption}
use Rattle.uc_read_names.proofs.Turns.{join_two}

tail_suc : {A : Type 0} (k : ℕ) (ws : List A) (x : A) (rest : List A) → drop k ws ≡ x ∷ rest → drop (suc k) ws ≡ rest
tail_suc zero ws x rest e = ap (drop 1) e
tail_suc (suc k) [] x rest e = cc
tail_suc (suc k) (w ∷ ws) x rest e = tail_suc k ws x rest e

nil_suc : {A : Type 0} (k : ℕ) (ws : List A) → drop k ws ≡ [] → drop (suc k) ws ≡ []
nil_suc zero ws e = ap (drop 1) e
nil_suc (suc k) [] e = refl
nil_suc (suc k) (w ∷ ws) e = nil_suc k ws e

suc_is : (k : ℕ) → suc k ≡ k + 1
suc_is k = omega arith

-- a turn that drops the last one
pub dropped_turn : {A : Type 0} (o : Option A) (xs ys ws : List A) (k : ℕ) → MatchOption o ((xs ≡ []) × (ys ≡ [])) (λ last. xs ≡ ys ++ last ∷ []) → reverse xs ≡ drop k ws → reverse ys ≡ drop (k + 1) ws
dropped_turn None xs ys ws k h e = ap reverse h.1 ∙ sym (nil_suc k ws (sym e ∙ ap reverse h.0)) ∙ ap (λ n. drop n ws) (suc_is k)
dropped_turn (Some last) xs ys ws k h e =
    sym (tail_suc k ws last (reverse ys) (sym e ∙ ap reverse h ∙ join_two ys last)) ∙ ap (λ n. drop n ws) (suc_is k)
