-- The values of parts by their places.
use Rattle.std.proofs.Common.{◌≡◌, ℕ, ℤ, pos, ◌+ℤ◌, ◌+◌, ◌<◌, ◌≤◌, zero, suc, Bool, true, false, ◌&&◌, ◌||◌, List, [], ◌∷◌, ◌++◌, length, map, drop, get_or, slice_get, Option, All, Contains, sym, ap, ◌∙◌, subst, unwrap_or, refl, arith, append_assoc, add-one, drop-cons, append-nil, length-append}
use Rattle.std.proofs.Math.Seq.{get_or-append_seam}
use Rattle.std.proofs.lemmas.List.{drop_all, length-map, get_or-map}
use Rattle.uc_values.specs.Values.{number_of}
use Rattle.std.specs.List.{list_all, list_any}
use Rattle.std.proofs.Math.Bool.{and-false, or-true}
use Rattle.std.proofs.lemmas.Int.{ints}
use Rattle.std.proofs.lemmas.List.Elements.{All-nil, All-push}
use Rattle.uc_linear.specs.Exact.{IsNarrow}
use Rattle.uc_linear.specs.declared.exact.Wide.{Wide}
use Rattle.uc_linear.specs.declared.exact.WideOp.TheVariants.{Add as Sum}
use Rattle.uc_ops.specs.Met.{met_sums, IsNarrowResult}
use Rattle.std.specs.Option.{option_map}
use Rattle.std.proofs.lemmas.Option.{slice_get-map, unwrap_or-slice_get}
use Rattle.uc_values.specs.declared.value.Value.{Value}
use Rattle.uc_values.specs.Values.{nothing}
use Rattle.uc_ops.specs.Meaning.{part, total}

pub part_by_option : (given : List Value) (parts : List ℕ) (place : ℕ) (o : Option ℕ) → slice_get parts place ≡ o → part (map (part given) parts) place ≡ unwrap_or (option_map (part given) o) nothing
part_by_option given parts place o h =
    sym (unwrap_or-slice_get (map (part given) parts) place nothing) ∙ ap (λ x. unwrap_or x nothing) (slice_get-map (part given) parts place ∙ ap (option_map (part given)) h)

-- every value passes
pub list_all-true : (f : Value → Bool) (xs : List Value) → ((k : ℕ) → k < length xs → f (part xs k) ≡ true) → list_all f xs ≡ true
list_all-true f [] h = refl
list_all-true f (x ∷ xs) h =
    ap (λ b. b && list_all f xs) (h 0 (omega arith)) ∙ list_all-true f xs (λ k l. h (suc k) (omega (arith, l)))

-- some value does not pass
pub list_all-false : (f : Value → Bool) (xs : List Value) (k : ℕ) → k < length xs → f (part xs k) ≡ false → list_all f xs ≡ false
list_all-false f [] k l h = absurd (omega arith)
list_all-false f (x ∷ xs) zero l h = ap (λ b. b && list_all f xs) h
list_all-false f (x ∷ xs) (suc k) l h =
    let e = list_all-false f xs k (omega arith) h in
    ap (λ b. f x && b) e ∙ and-false (f x)

pub list_any-false : (f : Value → Bool) (xs : List Value) → ((k : ℕ) → k < length xs → f (part xs k) ≡ false) → list_any f xs ≡ false
list_any-false f [] h = refl
list_any-false f (x ∷ xs) h =
    ap (λ b. b || list_any f xs) (h 0 (omega arith)) ∙ list_any-false f xs (λ k l. h (suc k) (omega (arith, l)))

pub list_any-true : (f : Value → Bool) (xs : List Value) (k : ℕ) → k < length xs → f (part xs k) ≡ true → list_any f xs ≡ true
list_any-true f [] k l h = absurd (omega arith)
list_any-true f (x ∷ xs) zero l h = ap (λ b. b || list_any f xs) h
list_any-true f (x ∷ xs) (suc k) l h =
    let e = list_any-true f xs k (omega arith) h in
    ap (λ b. f x || b) e ∙ or-true (f x)

-- the numbers before place k were summed up to sum, and each sum was narrow
pub record Summing (zs : List ℤ) (k : ℕ) (sum : ℤ) : Type 0 where
  pub before : List Wide
  pub narrow : All IsNarrowResult before
  pub met : met_sums (pos 0) zs ≡ before ++ met_sums sum (drop k zs)
  pub whole : sum +ℤ total (drop k zs) ≡ total zs

pub Summing-start : (zs : List ℤ) → Summing zs 0 (pos 0)
Summing-start zs = record { before = []; narrow = All-nil IsNarrowResult; met = refl; whole = omega (arith, ints) }

drop_split : (zs : List ℤ) (k : ℕ) → k < length zs → drop k zs ≡ get_or zs k (pos 0) ∷ drop (k + 1) zs
drop_split zs k h = rw (add-one, drop-cons zs k (pos 0))

pub Summing-more : (zs : List ℤ) (k : ℕ) (sum z next : ℤ) → k < length zs → z ≡ get_or zs k (pos 0) → next ≡ sum +ℤ z → IsNarrow (sum +ℤ z) → Summing zs k sum → Summing zs (k + 1) next
Summing-more zs k sum z next l e n w s =
    let d : drop k zs ≡ z ∷ drop (k + 1) zs = drop_split zs k l ∙ ap (λ x. x ∷ drop (k + 1) zs) (sym e) in
    let this : Wide = record { op = Sum; a = sum; b = z } in
    rw n (record {
      before = s.before ++ this ∷ [];
      narrow = All-push IsNarrowResult s.before this s.narrow w;
      met = s.met ∙ ap (λ xs. s.before ++ met_sums sum xs) d ∙ sym (append_assoc s.before (this ∷ []) (met_sums (sum +ℤ z) (drop (k + 1) zs)));
      whole = omega (arith, ints, ap total d, s.whole);
    })

pub Summing-met : (zs : List ℤ) (k : ℕ) (sum z : ℤ) → k < length zs → z ≡ get_or zs k (pos 0) → Summing zs k sum → Contains (met_sums (pos 0) zs) (record { op = Sum; a = sum; b = z })
Summing-met zs k sum z l e s =
    let d : drop k zs ≡ z ∷ drop (k + 1) zs = drop_split zs k l ∙ ap (λ x. x ∷ drop (k + 1) zs) (sym e) in
    subst (λ ws. Contains ws (record { op = Sum; a = sum; b = z })) (sym (s.met ∙ ap (λ xs. s.before ++ met_sums sum xs) d))
    (length s.before, omega (arith, length-append s.before ((record { op = Sum; a = sum; b = z }) ∷ met_sums (sum +ℤ z) (drop (k + 1) zs))), get_or-append_seam s.before (record { op = Sum; a = sum; b = z }) (met_sums (sum +ℤ z) (drop (k + 1) zs)) (record { op = Sum; a = sum; b = z }))

pub Summing-narrow : (zs : List ℤ) (k : ℕ) (sum : ℤ) → length zs ≤ k → Summing zs k sum → All IsNarrowResult (met_sums (pos 0) zs)
Summing-narrow zs k sum l s =
    let e : met_sums (pos 0) zs ≡ s.before = s.met ∙ ap (λ xs. s.before ++ met_sums sum xs) (drop_all k zs l) ∙ append-nil s.before in
    subst (All IsNarrowResult) (sym e) s.narrow

pub Summing-end : (zs : List ℤ) (k : ℕ) (sum : ℤ) → length zs ≤ k → Summing zs k sum → sum ≡ total zs
Summing-end zs k sum l s = omega (arith, ints, s.whole, ap total (drop_all k zs l))

-- the number of a part, among the numbers of all
pub number_at : (given : List Value) (parts : List ℕ) (k : ℕ) (z : ℤ) → k < length parts → z ≡ number_of (part (map (part given) parts) k)
    → (k < length (map number_of (map (part given) parts))) × (z ≡ get_or (map number_of (map (part given) parts)) k (pos 0))
number_at given parts k z h e =
    let values = map (part given) parts in
    let inner : k < length values = omega (arith, h, length-map parts (part given)) in
    (omega (arith, inner, length-map values number_of), e ∙ sym (get_or-map number_of values k nothing (pos 0) inner))
