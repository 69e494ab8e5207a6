-- What is printed of trees that words spell, put together.
use Rattle.std.specs.Prelude.{◌&&◌, nat_le, if◌then◌else◌}
use Rattle.std.proofs.Common.{◌≡◌, ℕ, suc, ◌≤◌, Bool, true, false, List, [], ◌∷◌, ◌++◌, refl, sym, subst, arith}
use Rattle.std.proofs.lemmas.Bool.{le-leb, leb-true}
use Rattle.uc_grammar.specs.declared.word.Kind.{Kind}
use Rattle.uc_grammar.specs.declared.word.Kind.TheVariants.{LeftParen, RightParen}
use Rattle.uc_print_laws.specs.Piece.{Piece, fixed}
use Rattle.uc_print_laws.specs.Printed.{Printed, none, piece, ◌<+>◌, nested, when, each, behind, in_parens}
use Rattle.uc_print_laws.specs.Expressions.{Leveled, at}
use Rattle.uc_print_laws.specs.Kept.{AreAll}

-- the grammar has such a tree, it nests no deeper, and P holds of the words
pub record Good (P : Piece → Type 0) (levels : ℕ) (x : Printed) : Type 0 where
  pub nodes : x.is_shaped ≡ true
  pub depth : x.depth ≤ levels
  pub words : AreAll P x.words

-- Q holds of each
abbrev pub Each : {A : Type 0} → (A → Type 0) → List A → Type 0
Each Q [] = Unit {0}
Each Q (x ∷ xs) = Q x × Each Q xs

pub and_both : (a b : Bool) → a ≡ true → b ≡ true → (a && b) ≡ true
and_both true b i j = j
and_both false b i j = i

pub and_left : (a b : Bool) → (a && b) ≡ true → a ≡ true
and_left true b e = refl
and_left false b e = e

pub and_right : (a b : Bool) → (a && b) ≡ true → b ≡ true
and_right true b e = e
and_right false b e = absurd cc

all_both : (P : Piece → Type 0) (ps qs : List Piece) → AreAll P ps → AreAll P qs → AreAll P (ps ++ qs)
all_both P [] qs a b = b
all_both P (p ∷ ps) qs a b = (a.0, all_both P ps qs a.1 b)

all_left : (P : Piece → Type 0) (ps qs : List Piece) → AreAll P (ps ++ qs) → AreAll P ps
all_left P [] qs a = tt
all_left P (p ∷ ps) qs a = (a.0, all_left P ps qs a.1)

pub good_is : {P : Piece → Type 0} {m : ℕ} {x y : Printed} → x ≡ y → Good P m y → Good P m x
good_is {P} {m} e g = subst (Good P m) (sym e) g

pub g_none : {P : Piece → Type 0} {m : ℕ} → Good P m none
g_none = record { nodes = refl; depth = omega arith; words = tt }

pub g_piece : {P : Piece → Type 0} {m : ℕ} {p : Piece} → P p → Good P m (piece p)
g_piece h = record { nodes = refl; depth = omega arith; words = (h, tt) }

pub g_both : {P : Piece → Type 0} {m : ℕ} {x y : Printed} → Good P m x → Good P m y → Good P m (x <+> y)
g_both {P} {m} {x} {y} a b = record {
  nodes = and_both x.is_shaped y.is_shaped a.nodes b.nodes;
  depth = (let i = a.depth in let j = b.depth in omega arith);
  words = all_both P x.words y.words a.words b.words;
}

pub g_nested : {P : Piece → Type 0} {m : ℕ} {x : Printed} → Good P m x → Good P (suc m) (nested x)
g_nested a = record { nodes = a.nodes; depth = (let i = a.depth in omega arith); words = a.words }

pub g_when : {P : Piece → Type 0} {m : ℕ} {x : Printed} (b : Bool) → b ≡ true → Good P m x → Good P m (when b x)
g_when {x = x} b e a = record { nodes = and_both b x.is_shaped e a.nodes; depth = a.depth; words = a.words }

pub g_in_parens : {P : Piece → Type 0} {m : ℕ} {x : Printed} → P (fixed LeftParen) → P (fixed RightParen) → Good P m x → Good P (suc m) (in_parens x)
g_in_parens l r a = g_nested (g_both (g_piece l) (g_both a (g_piece r)))

-- ---- several

module _ {P : Piece → Type 0} {m : ℕ} {C : Type 0} (show : C → Printed) where
  pub g_each : (cs : List C) → Each (λ c. Good P m (show c)) cs → Good P m (each show cs)
  unfolding each
  g_each [] a = g_none
  g_each (c ∷ cs) a = g_both a.0 (g_each cs a.1)

  pub g_behind : (k : Kind) (cs : List C) → Each (λ c. P (fixed k) × Good P m (show c)) cs → Good P m (behind k show cs)
  unfolding behind
  g_behind k [] a = g_none
  g_behind k (c ∷ cs) a = g_both (g_piece a.0.0) (g_both a.0.1 (g_behind k cs a.1))

-- ---- heights

pub g_at : {P : Piece → Type 0} {m : ℕ} (k : ℕ) (x : Leveled) → x.height ≤ k → Good P m x.bare → Good P m (at k x)
g_at {P} {m} k x h a = let e : nat_le x.height k ≡ true = le-leb x.height k h in subst (λ (b : Bool). Good P m (if b then x.bare else in_parens x.bare)) (sym e) a

-- what stands in parentheses
pub g_inside : {P : Piece → Type 0} {m : ℕ} (x : Printed) → Good P m (in_parens x) → Good P m x
g_inside {P} x a = record {
  nodes = and_left x.is_shaped true a.nodes;
  depth = (let i = a.depth in omega arith);
  words = all_left P x.words (fixed RightParen ∷ []) a.words.1;
}

pub g_whole : {P : Piece → Type 0} {m : ℕ} (k : ℕ) (x : Leveled) → Good P m (at k x) → Good P m x.bare
g_whole {P} {m} k x = by (nat_le x.height k)
  where
    by : (b : Bool) → Good P m (if b then x.bare else in_parens x.bare) → Good P m x.bare
    by true a = a
    by false a = g_inside x.bare a

-- in parentheses everywhere
pub g_grouped : {P : Piece → Type 0} {m : ℕ} (k : ℕ) (x : Leveled) → Good P m (in_parens x.bare) → Good P m (at k x)
g_grouped {P} {m} k x a = by (nat_le x.height k)
  where
    by : (b : Bool) → Good P m (if b then x.bare else in_parens x.bare)
    by true = g_inside x.bare a
    by false = a

-- where looser ones may stand too
pub g_looser : {P : Piece → Type 0} {m : ℕ} (j k : ℕ) (x : Leveled) → j ≤ k → Good P m (at j x) → Good P m (at k x)
g_looser {P} {m} j k x h a = by (nat_le x.height j) refl a
  where
    by : (b : Bool) → nat_le x.height j ≡ b → Good P m (if b then x.bare else in_parens x.bare) → Good P m (at k x)
    by true e g = g_at k x (let i : x.height ≤ j = leb-true x.height j e in omega arith) g
    by false e g = g_grouped k x g
