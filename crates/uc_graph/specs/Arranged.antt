-- Items in an order in which each may go before all that come behind it.
use Rattle.std.specs.Prelude.{◌≡◌, ℕ, zero, suc, Bool, true, ◌&&◌, if◌then◌else◌, List, [], ◌∷◌, ◌++◌, length, Option, Some, None}
use Rattle.std.specs.List.{list_all}

-- The first item that may go before all others, and these others; those that were passed over stand before it.
unfoldable pub first_free : {A : Type 0} → (A → A → Bool) → List A → List A → Option (A × List A)
first_free goes passed [] = None
first_free goes passed (x ∷ xs) = if list_all (goes x) (passed ++ xs) then Some (x, passed ++ xs) else first_free goes (passed ++ x ∷ []) xs

abbrev pub led_by : {A : Type 0} → (List A → List A) → List A → Option (A × List A) → List A
led_by onward xs None = xs
led_by onward xs (Some p) = p.0 ∷ onward p.1

-- so many times the first item that may go before all others that are left
unfoldable pub arranged_in : {A : Type 0} → (A → A → Bool) → ℕ → List A → List A
arranged_in goes zero xs = xs
arranged_in goes (suc n) xs = led_by (arranged_in goes n) xs (first_free goes [] xs)

-- Each time the first item that may go before all others that are left. Where none may, those that are left stay as they are.
abbrev pub arranged : {A : Type 0} → (A → A → Bool) → List A → List A
arranged goes xs = arranged_in goes (length xs) xs

-- each item may go before all behind it
unfoldable pub in_order : {A : Type 0} → (A → A → Bool) → List A → Bool
in_order goes [] = true
in_order goes (x ∷ xs) = list_all (goes x) xs && in_order goes xs

-- The items of the second list in some order: the first is taken out of it, and the others are what is left, in some order.
unfoldable pub IsReordered : {A : Type 0} → List A → List A → Type 0
IsReordered [] ys = ys ≡ []
IsReordered {A} (x ∷ xs) ys = (front : List A) × (behind : List A) × (ys ≡ front ++ x ∷ behind) × IsReordered xs (front ++ behind)
