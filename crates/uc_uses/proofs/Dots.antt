-- The names behind dots, one after another.
use Rattle.std.proofs.Common.{◌≡◌, ℕ, ◌+◌, ◌<◌, ◌≤◌, List, [], ◌∷◌, ◌++◌, length, drop, get_or, Option, Some, None, refl, ap, ◌∙◌, sym, append_assoc}
use Rattle.std.proofs.lemmas.List.{drop_all}
use Rattle.uc_syntax.specs.declared.expression.Expr.{Expr}
use Rattle.uc_syntax.specs.declared.expression.Selection.{Selection}
use Rattle.uc_syntax.specs.declared.expression.Selection.TheVariants.{Field, Copy, Element, Update, Extract}
use Rattle.uc_syntax.proofs.Added.{append_nil}
use Rattle.uc_rules.proofs.Lists.{drop_turn}
use Rattle.uc_order_rules.specs.Mentions.{dotted}
use Rattle.uc_uses.specs.Meant.{field_of}

-- Before turn k, the names of the rest are still to come.
pub record DotsFrom (ss : List (Selection Expr)) (k : ℕ) (names : List ℕ) : Type 0 where
  pub rest : names ++ dotted (drop k ss) ≡ dotted ss

pub dots_begin : (ss : List (Selection Expr)) (none : List ℕ) → none ≡ [] → DotsFrom ss 0 none
dots_begin ss none is = record { rest = ap (λ xs. xs ++ dotted ss) is }

on_field : (s : Selection Expr) (ss : List (Selection Expr)) (x : ℕ) → field_of s ≡ Some x → dotted (s ∷ ss) ≡ x ∷ dotted ss
unfolding dotted
on_field (Field p i) ss x h = ap (λ o. name_or o i.name ∷ dotted ss) h
  where
    name_or : Option ℕ → ℕ → ℕ
    name_or (Some y) d = y
    name_or None d = d
on_field (Copy p n) ss x h = absurd cc
on_field (Element p e) ss x h = absurd cc
on_field (Update p e v) ss x h = absurd cc
on_field (Extract p a b) ss x h = absurd cc

on_other : (s : Selection Expr) (ss : List (Selection Expr)) → field_of s ≡ None → dotted (s ∷ ss) ≡ []
unfolding dotted
on_other (Field p i) ss h = absurd cc
on_other (Copy p n) ss h = refl
on_other (Element p e) ss h = refl
on_other (Update p e v) ss h = refl
on_other (Extract p a b) ss h = refl

pub dots_more : (ss : List (Selection Expr)) (k : ℕ) (names names' : List ℕ) (s d : Selection Expr) (o : Option ℕ) (x : ℕ) → DotsFrom ss k names → k < length ss → s ≡ get_or ss k d → o ≡ field_of s → o ≡ Some x → names' ≡ names ++ x ∷ [] →
    DotsFrom ss (k + 1) names'
dots_more ss k names names' s d o x held within at o-is some is = record {
  rest = ap (λ xs. xs ++ dotted (drop (k + 1) ss)) is ∙ append_assoc names (x ∷ []) (dotted (drop (k + 1) ss))
      ∙ ap (λ xs. names ++ xs) (sym (ap dotted (drop_turn ss k s d within at) ∙ on_field s (drop (k + 1) ss) x (sym o-is ∙ some)))
      ∙ held.rest;
}

pub dots_stop : (ss : List (Selection Expr)) (k : ℕ) (names : List ℕ) (s d : Selection Expr) (o : Option ℕ) → DotsFrom ss k names → k < length ss → s ≡ get_or ss k d → o ≡ field_of s → o ≡ None → names ≡ dotted ss
dots_stop ss k names s d o held within at o-is none =
    sym (append_nil names) ∙ ap (λ xs. names ++ xs) (sym (ap dotted (drop_turn ss k s d within at) ∙ on_other s (drop (k + 1) ss) (sym o-is ∙ none))) ∙ held.rest

pub dots_end : (ss : List (Selection Expr)) (k : ℕ) (names : List ℕ) → DotsFrom ss k names → length ss ≤ k → names ≡ dotted ss
unfolding dotted
dots_end ss k names held past = sym (append_nil names) ∙ ap (λ xs. names ++ xs) (sym (ap dotted (drop_all k ss past))) ∙ held.rest
