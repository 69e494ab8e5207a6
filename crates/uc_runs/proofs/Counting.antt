-- The numbers from a first one on.
use Rattle.std.proofs.Common.{◌≡◌, ℕ, zero, suc, ◌+◌, Bool, true, false, List, [], ◌∷◌, ◌++◌, map, refl, ap, ◌∙◌, sym, arith}
use Rattle.std.specs.Prelude.{ℤ, pos, ◌+ℤ◌, ◌-ℤ◌, ◌<ℤ◌, ◌≤ℤ◌, nat_abs, int_le, if◌then◌else◌}
use Rattle.std.proofs.lemmas.Int.{ints}
use Rattle.uc_syntax.specs.declared.statement.RangeBound.{RangeBound}
use Rattle.uc_values.specs.declared.value.Value.{Value}
use Rattle.uc_meaning.specs.Code.{bound_number, counted_up, numbers_to, turns, turn_value}

next_number : (a : ℤ) (n : ℕ) → (a +ℤ pos 1) +ℤ pos n ≡ a +ℤ pos (suc n)
next_number a n = omega (arith, ints)

counted_last : (n : ℕ) (a : ℤ) → counted_up (suc n) a ≡ counted_up n a ++ (a +ℤ pos n) ∷ []
unfolding counted_up
counted_last zero a = let e : a ≡ a +ℤ pos 0 = omega (arith, ints) in ap (λ k. k ∷ []) e
counted_last (suc n) a = ap (λ ks. a ∷ ks) (counted_last n (a +ℤ pos 1) ∙ ap (λ k. counted_up n (a +ℤ pos 1) ++ k ∷ []) (next_number a n))

map_last : {A B : Type 0} (f : A → B) (xs : List A) (x : A) → map f (xs ++ x ∷ []) ≡ map f xs ++ f x ∷ []
map_last f [] x = refl
map_last f (y ∷ ys) x = ap (λ zs. f y ∷ zs) (map_last f ys x)

pub counted_more : (from : RangeBound) (n : ℕ) (a : ℤ) → map (turn_value from) (counted_up (n + 1) a) ≡ map (turn_value from) (counted_up n a) ++ turn_value from (a +ℤ pos n) ∷ []
counted_more from n a =
    let one : n + 1 ≡ suc n = omega arith in
    ap (λ k. map (turn_value from) (counted_up k a)) one ∙ ap (map (turn_value from)) (counted_last n a) ∙ map_last (turn_value from) (counted_up n a) (a +ℤ pos n)

-- a turn's value that is put behind those before it
pub turn_pushed : (from : RangeBound) (n : ℕ) (a : ℤ) (before after : List Value) (v : Value) → after ≡ before ++ v ∷ [] → v ≡ turn_value from (a +ℤ pos n) → before ≡ map (turn_value from) (counted_up n a) →
    after ≡ map (turn_value from) (counted_up (n + 1) a)
turn_pushed from n a before after v pushed is so_far =
    pushed ∙ (λ i. so_far i ++ is i ∷ []) ∙ sym (counted_more from n a)

not_up : (a b : ℤ) → b <ℤ a → int_le a b ≡ false
not_up a b less = grind (arith, ints)

up : (a b : ℤ) → a ≤ℤ b → int_le a b ≡ true
up a b less = grind (arith, ints)

pub no_numbers : (from to : RangeBound) (a b : ℤ) → a ≡ bound_number from → b ≡ bound_number to → b <ℤ a → [] ≡ turns from to
no_numbers from to a b first last less =
    ap (λ c. map (turn_value from) (if c then counted_up (nat_abs (b -ℤ a) + 1) a else [])) (sym (not_up a b less))
    ∙ (λ i. map (turn_value from) (numbers_to (first i) (last i)))

pub numbers_between : (from to : RangeBound) (a b : ℤ) → a ≡ bound_number from → b ≡ bound_number to → a ≤ℤ b → map (turn_value from) (counted_up (nat_abs (b -ℤ a) + 1) a) ≡ turns from to
numbers_between from to a b first last less =
    ap (λ c. map (turn_value from) (if c then counted_up (nat_abs (b -ℤ a) + 1) a else [])) (sym (up a b less))
    ∙ (λ i. map (turn_value from) (numbers_to (first i) (last i)))
