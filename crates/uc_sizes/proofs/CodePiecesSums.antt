-- Pieces that are added part by part.
use Rattle.std.proofs.Common.{◌≡◌, ℕ, ◌+◌, ◌*◌, ◌<◌, ◌≤◌, List, [], ◌∷◌, ◌++◌, length, take, map, get_or, refl, ap, ◌∙◌, sym, arith}
use Rattle.std.specs.Prelude.{Result, Ok, Err, OnOk, min}
use Rattle.std.proofs.lemmas.List.{take_all}
use Rattle.uc_rules.proofs.Lists.{take_turn}
use Rattle.uc_order_rules.specs.Sizes.{total}
use Rattle.uc_sizes.specs.declared.pieces.Piece.{Piece}
use Rattle.uc_sizes.specs.declared.pieces.Repeated.{Repeated}
use Rattle.uc_sizes.specs.Pieces.{Adds, Setting, cut, piece_amount, repeated_amount, weight}
use Rattle.uc_sizes.proofs.Cut.{cut_sum, repeated}

pub total_push : {X : Type 0} (f : X → ℕ) (xs : List X) (x : X) → total (map f (xs ++ x ∷ [])) ≡ total (map f xs) + f x
total_push f [] x = omega arith
total_push f (y ∷ ys) x = let e = total_push f ys x in omega (arith, e)

spread : (t a b f : ℕ) → f ≡ a + b → t * f ≡ t * a + t * b
spread t a b f is = ap (λ n. t * n) is ∙ split t a b
  where
    split : (x y z : ℕ) → x * (y + z) ≡ x * y + x * z
    split x y z = omega arith

-- one after another, in numbers
joined : (old mid new a b f : ℕ) → cut mid ≡ cut (old + a) → cut new ≡ cut (mid + b) → f ≡ a + b → cut new ≡ cut (old + f)
joined old mid new a b f first second is = omega (arith, first, second, is)

pub piece_added : (old new : List Repeated) (t : ℕ) (p : Piece) (r : Repeated) → new ≡ old ++ r ∷ [] → r.times ≡ t → r.piece ≡ p → Adds old new t (λ c. piece_amount c p)
unfolding Adds
piece_added old new t p r is often what c =
    ap cut (ap (weight c) is ∙ total_push (repeated_amount c) old r ∙ (λ k. weight c old + often k * piece_amount c (what k)))

pub adds_two : (old mid new : List Repeated) (t : ℕ) (a b f : Setting → ℕ) → Adds old mid t a → Adds mid new t b → ((c : Setting) → f c ≡ a c + b c) → Adds old new t f
unfolding Adds
adds_two old mid new t a b f first second is c =
    joined (weight c old) (weight c mid) (weight c new) (t * a c) (t * b c) (t * f c) (first c) (second c) (spread t (a c) (b c) (f c) (is c))

pub adds_same : (old new : List Repeated) (t : ℕ) (a f : Setting → ℕ) → Adds old new t a → ((c : Setting) → f c ≡ a c) → Adds old new t f
unfolding Adds
adds_same old new t a f adds is c = adds c ∙ ap (λ n. cut (weight c old + t * n)) (sym (is c))

pub adds_none : (old : List Repeated) (t : ℕ) (f : Setting → ℕ) → ((c : Setting) → f c ≡ 0) → Adds old old t f
unfolding Adds
adds_none old t f is c = ap cut (nothing (weight c old) t ∙ ap (λ n. weight c old + t * n) (sym (is c)))
  where
    nothing : (w u : ℕ) → w ≡ w + u * 0
    nothing w u = omega arith

pub adds_shown : (old new shown : List Repeated) (t : ℕ) (a f : Setting → ℕ) → new ≡ shown → Adds old shown t a → ((c : Setting) → f c ≡ a c) → Adds old new t f
unfolding Adds
adds_shown old new shown t a f same adds is c = ap (λ ps. cut (weight c ps)) same ∙ adds c ∙ ap (λ n. cut (weight c old + t * n)) (sym (is c))

-- the first k of some were added
pub record SummedUpTo {X : Type 0} (f : Setting → X → ℕ) (xs : List X) (old : List Repeated) (t k : ℕ) (now : List Repeated) : Type 0 where
  pub is : Adds old now t (λ c. total (map (f c) (take k xs)))

pub summed_begin : {X : Type 0} (f : Setting → X → ℕ) (xs : List X) (old : List Repeated) (t : ℕ) → SummedUpTo f xs old t 0 old
summed_begin f xs old t = record { is = adds_none old t (λ c. total (map (f c) (take 0 xs))) (λ c. refl) }

pub summed_more : {X : Type 0} (f : Setting → X → ℕ) (xs : List X) (old now after : List Repeated) (t k : ℕ) (x d : X) → SummedUpTo f xs old t k now → k < length xs → x ≡ get_or xs k d →
    Adds now after t (λ c. f c x) → SummedUpTo f xs old t (k + 1) after
summed_more f xs old now after t k x d held within at adds = record {
  is = adds_two old now after t (λ c. total (map (f c) (take k xs))) (λ c. f c x) (λ c. total (map (f c) (take (k + 1) xs))) held.is adds
      (λ c. ap (λ ys. total (map (f c) ys)) (take_turn xs k x d within at) ∙ total_push (f c) (take k xs) x);
}

pub summed_end : {X : Type 0} (f : Setting → X → ℕ) (xs : List X) (old now : List Repeated) (t k : ℕ) → SummedUpTo f xs old t k now → length xs ≤ k → Adds old now t (λ c. total (map (f c) xs))
summed_end f xs old now t k held past =
    adds_same old now t (λ c. total (map (f c) (take k xs))) (λ c. total (map (f c) xs)) held.is (λ c. sym (ap (λ ys. total (map (f c) ys)) (take_all k xs past)))

module _ {A E : Type 0} where
  pub ends_same : (r : Result A E) (old new : List Repeated) (t : ℕ) (a f : Setting → ℕ) → OnOk r (Adds old new t a) → ((c : Setting) → f c ≡ a c) → OnOk r (Adds old new t f)
  ends_same (Ok x) old new t a f adds is = adds_same old new t a f adds is
  ends_same (Err e) old new t a f adds is = tt

  pub ends_two : (r : Result A E) (old mid new : List Repeated) (t : ℕ) (a b f : Setting → ℕ) → Adds old mid t a → OnOk r (Adds mid new t b) → ((c : Setting) → f c ≡ a c + b c) → OnOk r (Adds old new t f)
  ends_two (Ok x) old mid new t a b f first second is = adds_two old mid new t a b f first second is
  ends_two (Err e) old mid new t a b f first second is = tt

  pub ends_three : (r : Result A E) (old one two new : List Repeated) (t : ℕ) (a b d f : Setting → ℕ) → Adds old one t a → Adds one two t b → OnOk r (Adds two new t d) → ((c : Setting) → f c ≡ a c + (b c + d c)) →
      OnOk r (Adds old new t f)
  ends_three r old one two new t a b d f first second third is = ends_two r old one new t a (λ c. b c + d c) f first (ends_two r one two new t b d (λ c. b c + d c) second third (λ c. refl)) is

  pub ends_four : (r : Result A E) (old one two three new : List Repeated) (t : ℕ) (a b d e f : Setting → ℕ) → Adds old one t a → Adds one two t b → Adds two three t d → OnOk r (Adds three new t e) →
      ((c : Setting) → f c ≡ a c + (b c + (d c + e c))) → OnOk r (Adds old new t f)
  ends_four r old one two three new t a b d e f first second third fourth is =
      ends_two r old one new t a (λ c. b c + (d c + e c)) f first (ends_three r one two three new t b d e (λ c. b c + (d c + e c)) second third fourth (λ c. refl)) is

  -- a part that is run through so many times as often
  pub ends_turned : (r : Result A E) (old mid new : List Repeated) (t l t' : ℕ) (a b f : Setting → ℕ) → Adds old mid t a → OnOk r (Adds mid new t' b) → t' ≡ cut (t * l) → ((c : Setting) → f c ≡ a c + l * b c) → OnOk r (Adds old new t f)
  unfolding Adds
  ends_turned (Ok x) old mid new t l t' a b f first second often is =
      adds_two old mid new t a (λ c. l * b c) f first (λ c. second c ∙ cut_sum (weight c mid) (t' * b c) (t * (l * b c)) (repeated t l t' (b c) often)) is
  ends_turned (Err e) old mid new t l t' a b f first second often is = tt
