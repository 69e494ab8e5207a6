-- What is gathered of types, step by step.
use Rattle.std.proofs.Common.{◌≡◌, ℕ, ◌+◌, ◌<◌, ◌≤◌, List, [], ◌∷◌, ◌++◌, map, length, take, get_or, refl, sym, ap, ◌∙◌, subst, append_assoc}
use Rattle.std.specs.Prelude.{Result, Ok, Err, OnOk}
use Rattle.std.specs.List.{flat_map}
use Rattle.std.proofs.lemmas.List.{take_more, take_all}
use Rattle.std.proofs.lemmas.Grind.{flat_map-append}
use Rattle.uc_lexer.specs.declared.place.Place.{Place}
use Rattle.uc_syntax.specs.declared.place.Identifier.{Identifier}
use Rattle.uc_syntax.specs.declared.type_expression.TypeExpr.{TypeExpr}
use Rattle.uc_syntax.proofs.Added.{append_nil}
use Rattle.uc_type_reader.specs.declared.mentioned.Mentioned.{Mentioned}
use Rattle.uc_type_reader.specs.Mentioned.{Gains, enums_at, modules_at}

pub gains_same : (a : Mentioned) → Gains a a []
gains_same a = record { enums = sym (append_nil a.enums); modules = sym (append_nil a.modules) }

pub gains_join : (a b c : Mentioned) (ts us : List TypeExpr) → Gains a b ts → Gains b c us → Gains a c (ts ++ us)
gains_join a b c ts us first second = record {
  enums = second.enums ∙ ap (λ ys. ys ++ flat_map enums_at us) first.enums ∙ append_assoc a.enums (flat_map enums_at ts) (flat_map enums_at us)
      ∙ ap (λ ys. a.enums ++ ys) (sym (flat_map-append enums_at ts us));
  modules = second.modules ∙ ap (λ ys. ys ++ flat_map modules_at us) first.modules ∙ append_assoc a.modules (flat_map modules_at ts) (flat_map modules_at us)
      ∙ ap (λ ys. a.modules ++ ys) (sym (flat_map-append modules_at ts us));
}

-- what is gained of the first i parts
pub record GainedUpTo {X : Type 0} (f : X → List TypeExpr) (xs : List X) (before : Mentioned) (i : ℕ) (now : Mentioned) : Type 0 where
  pub gained : Gains before now (flat_map f (take i xs))

pub gains_begin : {X : Type 0} (f : X → List TypeExpr) (xs : List X) (before : Mentioned) → GainedUpTo f xs before 0 before
gains_begin f xs before = record { gained = gains_same before }

one_more : {X : Type 0} (f : X → List TypeExpr) (xs : List X) (i : ℕ) (x : X) → i < length xs → x ≡ get_or xs i x →
    flat_map f (take (i + 1) xs) ≡ flat_map f (take i xs) ++ f x
one_more f xs i x within is =
    ap (flat_map f) (take_more xs i x within) ∙ flat_map-append f (take i xs) (get_or xs i x ∷ [])
    ∙ ap (λ y. flat_map f (take i xs) ++ y) (append_nil (f (get_or xs i x)) ∙ ap f (sym is))

pub gains_more : {X : Type 0} (f : X → List TypeExpr) (xs : List X) (before now after : Mentioned) (i : ℕ) (x : X) → GainedUpTo f xs before i now →
    i < length xs → x ≡ get_or xs i x → Gains now after (f x) → GainedUpTo f xs before (i + 1) after
gains_more f xs before now after i x so_far within is next = record {
  gained = subst (Gains before after) (sym (one_more f xs i x within is)) (gains_join before now after (flat_map f (take i xs)) (f x) so_far.gained next);
}

pub gains_end : {X : Type 0} (f : X → List TypeExpr) (xs : List X) (before now : Mentioned) (i : ℕ) → GainedUpTo f xs before i now → length xs ≤ i →
    Gains before now (flat_map f xs)
gains_end f xs before now i so_far past = subst (λ ys. Gains before now (flat_map f ys)) (take_all i xs past) so_far.gained

singles : {X : Type 0} (f : X → TypeExpr) (xs : List X) → flat_map (λ x. f x ∷ []) xs ≡ map f xs
singles f [] = refl
singles f (x ∷ xs) = ap (λ ys. f x ∷ ys) (singles f xs)

pub gains_singles : {X : Type 0} (f : X → TypeExpr) (xs : List X) (before now : Mentioned) (i : ℕ) → GainedUpTo (λ x. f x ∷ []) xs before i now → length xs ≤ i →
    Gains before now (map f xs)
gains_singles f xs before now i so_far past = subst (Gains before now) (singles f xs) (gains_end (λ x. f x ∷ []) xs before now i so_far past)

-- What a part gains, where it is read by its form: `f y` is known, and the part is y.
module _ {X : Type 0} (f : X → List TypeExpr) (x y : X) (same : x ≡ y) where
  pub gains_nothing : (a : Mentioned) → f y ≡ [] → Gains a a (f x)
  gains_nothing a e = subst (Gains a a) (sym (ap f same ∙ e)) (gains_same a)

  pub gains_one : (a b : Mentioned) (ts : List TypeExpr) → f y ≡ ts → Gains a b ts → Gains a b (f x)
  gains_one a b ts e first = subst (Gains a b) (sym (ap f same ∙ e)) first

  pub gains_two : (a b c : Mentioned) (ts us : List TypeExpr) → f y ≡ ts ++ us → Gains a b ts → Gains b c us → Gains a c (f x)
  gains_two a b c ts us e first second = subst (Gains a c) (sym (ap f same ∙ e)) (gains_join a b c ts us first second)

  pub gains_three : (a b c d : Mentioned) (ts us vs : List TypeExpr) → f y ≡ ts ++ (us ++ vs) → Gains a b ts → Gains b c us → Gains c d vs → Gains a d (f x)
  gains_three a b c d ts us vs e first second third = gains_two a b d ts (us ++ vs) e first (gains_join b c d us vs second third)

-- what a call says of its success, and what follows from it
pub on_ok : {A E : Type 0} {P Q : Type 0} (r : Result A E) → (P → Q) → OnOk r P → OnOk r Q
on_ok (Ok a) more held = more held
on_ok (Err e) more held = held
