-- Lists of values with some places set.
use Rattle.std.specs.Prelude.{◌≡◌, ◌≢◌, ℕ, ◌+◌, ◌<◌, List, [], ◌∷◌, slice_get, Some, zero, suc}
use Rattle.std.proofs.Common.{refl, arith}
use Rattle.uc_values.specs.Values.{nothing}
use Rattle.uc_values.specs.declared.value.Value.{Value}

-- the list with a value at a place, made longer where it ends before
pub put : List Value → ℕ → Value → List Value
put [] zero v = v ∷ []
put [] (suc k) v = nothing ∷ put [] k v
put (x ∷ xs) zero v = v ∷ xs
put (x ∷ xs) (suc k) v = x ∷ put xs k v

pub put_here : (xs : List Value) (k : ℕ) (v : Value) → slice_get (put xs k v) k ≡ Some v
unfolding put
put_here [] zero v = refl
put_here [] (suc k) v = put_here [] k v
put_here (x ∷ xs) zero v = refl
put_here (x ∷ xs) (suc k) v = put_here xs k v

pub put_other : (xs : List Value) (k j : ℕ) (v w : Value) → j ≢ k → slice_get xs j ≡ Some w → slice_get (put xs k v) j ≡ Some w
unfolding put
put_other [] k j v w n h = cc
put_other (x ∷ xs) zero zero v w n h = absurd (n refl)
put_other (x ∷ xs) zero (suc j) v w n h = h
put_other (x ∷ xs) (suc k) zero v w n h = h
put_other (x ∷ xs) (suc k) (suc j) v w n h = put_other xs k j v w (λ e. n (omega (arith, e))) h

-- the list with values from a place on
pub put_all : List Value → ℕ → List Value → List Value
put_all xs first [] = xs
put_all xs first (w ∷ ws) = put_all (put xs first w) (first + 1) ws

pub put_all-other : (xs : List Value) (first : ℕ) (ws : List Value) (k : ℕ) (v : Value) → k < first → slice_get xs k ≡ Some v → slice_get (put_all xs first ws) k ≡ Some v
unfolding put_all
put_all-other xs first [] k v l h = h
put_all-other xs first (w ∷ ws) k v l h = put_all-other (put xs first w) (first + 1) ws k v (omega (arith, l)) (put_other xs first k w v (λ e. absurd (omega (arith, e, l))) h)

pub put_all-first : (xs : List Value) (first : ℕ) (w : Value) (ws : List Value) → slice_get (put_all xs first (w ∷ ws)) first ≡ Some w
unfolding put_all
put_all-first xs first w ws = put_all-other (put xs first w) (first + 1) ws first w (omega arith) (put_here xs first w)

pub put_all-rest : (xs : List Value) (first : ℕ) (w : Value) (ws : List Value) → put_all xs first (w ∷ ws) ≡ put_all (put xs first w) (first + 1) ws
unfolding put_all
put_all-rest xs first w ws = refl
