-- Labels of assertions and axioms spell the same as they are written.
use Rattle.std.proofs.Common.{◌≡◌, List, [], ◌∷◌, ◌++◌, Option, Some, None, refl, sym, ap, subst, ◌∙◌, inl, inr}
use Rattle.uc_forms.specs.Form.{Mark, quiet, declares, word, any, before, both, made}
use Rattle.uc_forms.specs.Spelling.{Language, Standing, SpellWith, stands_with}
use Rattle.uc_syntax.specs.declared.place.Identifier.{Identifier}
use Rattle.uc_syntax.specs.declared.expression.Expr.{Expr}
use Rattle.uc_syntax.specs.declared.statement.Stmt.TheVariants as statements_
use Rattle.uc_syntax.specs.declared.declaration.Decl.TheVariants as declarations
use Rattle.uc_grammar.specs.declared.word.Word.{Word}
use Rattle.uc_grammar.specs.declared.word.Kind.TheVariants.{Name, Colon, Semicolon, KwAssert, KwAxiom}
use Rattle.uc_grammar.specs.Syntax.{words, Nested, Value, F, known, identifier, optional, expr, labelled}
use Rattle.uc_grammar.specs.Same.{StandAlike}
use Rattle.uc_grammar.proofs.Spelled.{Like, code_is, is_code}

-- a name that does this
abbrev name_that : Mark → F Identifier
name_that q = made identifier (any q (Name 0) known)

abbrev claim : F Expr
claim = before expr Semicolon

abbrev written_label : Mark → F (Option Identifier × Expr)
written_label q = both (optional (before (name_that q) Colon)) claim

module _ (L : Language words Nested Value) (inner : Standing words Nested Value L) where
  moved_like : {A B : Type 0} (f : F A) (g : F B) (us : List Word) (b : B) (s : SpellWith L g us b) (ws : List Word) (x y : A) → x ≡ y → (t : SpellWith L f ws x) × StandAlike (stands_with L inner g us b s) (stands_with L inner f ws x t)
      → (t : SpellWith L f ws y) × StandAlike (stands_with L inner g us b s) (stands_with L inner f ws y t)
  moved_like f g us b s ws x y e t = subst (λ z. (t : SpellWith L f ws z) × StandAlike (stands_with L inner g us b s) (stands_with L inner f ws z t)) e t

  -- the words of a label and a colon
  label_words : (w v : Word) (front back f1 b1 ws : List Word) → ws ≡ front ++ back → front ≡ f1 ++ b1 → f1 ≡ w ∷ [] → b1 ≡ v ∷ [] → ws ≡ w ∷ v ∷ back
  label_words w v front back f1 b1 ws i j p r = i ∙ ap (λ us. us ++ back) (j ∙ (ap (λ us. us ++ b1) p ∙ ap (λ us. w ∷ us) r))

  to_label_quiet : Like L inner (written_label quiet) (labelled quiet claim)
  to_label_quiet ws x (front, back, i, (inl n, d, (z, c, (f1, b1, j, (w, q, (p, m)), (r, k)))), s) =
      ((inl (w, x.1), ap (λ o. (o, x.1)) (d ∙ ap Some (c ∙ q)), (z.1, back, label_words w z.1 front back f1 b1 ws i j p r, m, code_is _ _ k, s)), (refl, refl))
  to_label_quiet ws x (front, back, i, (inr u, d, e), s) =
      moved_like (labelled quiet claim) (written_label quiet) ws x (front, back, i, (inr u, d, e), s) ws (None, x.1) x (ap (λ o. (o, x.1)) (sym d))
      (subst (λ us. (t : SpellWith L (labelled quiet claim) us (None, x.1)) × StandAlike (stands_with L inner claim back x.1 s) (stands_with L inner (labelled quiet claim) us (None, x.1) t)) (sym (i ∙ ap (λ us. us ++ back) e)) ((inr x.1, refl, s), (refl, refl)))

  of_label_quiet : Like L inner (labelled quiet claim) (written_label quiet)
  of_label_quiet ws x (inl (w, b), e, (v, rest, p, m, c, s)) =
      moved_like (written_label quiet) (labelled quiet claim) ws x (inl (w, b), e, (v, rest, p, m, c, s)) ws (Some (identifier w), b) x (sym e)
      ((w ∷ v ∷ [], rest, p, (inl (identifier w), refl, ((identifier w, v), refl, (w ∷ [], v ∷ [], refl, (w, refl, (refl, m)), (refl, is_code _ _ c)))), s), (refl, refl))
  of_label_quiet ws x (inr b, e, s) = moved_like (written_label quiet) (labelled quiet claim) ws x (inr b, e, s) ws (None, b) x (sym e) (([], ws, refl, (inr tt, refl, refl), s), (refl, refl))

  to_label_declares : Like L inner (written_label declares) (labelled declares claim)
  to_label_declares ws x (front, back, i, (inl n, d, (z, c, (f1, b1, j, (w, q, (p, m)), (r, k)))), s) =
      ((inl (w, x.1), ap (λ o. (o, x.1)) (d ∙ ap Some (c ∙ q)), (z.1, back, label_words w z.1 front back f1 b1 ws i j p r, m, code_is _ _ k, s)), (refl, refl))
  to_label_declares ws x (front, back, i, (inr u, d, e), s) =
      moved_like (labelled declares claim) (written_label declares) ws x (front, back, i, (inr u, d, e), s) ws (None, x.1) x (ap (λ o. (o, x.1)) (sym d))
      (subst (λ us. (t : SpellWith L (labelled declares claim) us (None, x.1)) × StandAlike (stands_with L inner claim back x.1 s) (stands_with L inner (labelled declares claim) us (None, x.1) t)) (sym (i ∙ ap (λ us. us ++ back) e)) ((inr x.1, refl, s), (refl, refl)))

  of_label_declares : Like L inner (labelled declares claim) (written_label declares)
  of_label_declares ws x (inl (w, b), e, (v, rest, p, m, c, s)) =
      moved_like (written_label declares) (labelled declares claim) ws x (inl (w, b), e, (v, rest, p, m, c, s)) ws (Some (identifier w), b) x (sym e)
      ((w ∷ v ∷ [], rest, p, (inl (identifier w), refl, ((identifier w, v), refl, (w ∷ [], v ∷ [], refl, (w, refl, (refl, m)), (refl, is_code _ _ c)))), s), (refl, refl))
  of_label_declares ws x (inr b, e, s) = moved_like (written_label declares) (labelled declares claim) ws x (inr b, e, s) ws (None, b) x (sym e) (([], ws, refl, (inr tt, refl, refl), s), (refl, refl))

  pub to_assert : Like L inner (made (λ x. statements_.Assert x.0.place x.1.0 x.1.1) (both (word KwAssert) (written_label quiet))) (made (λ x. statements_.Assert x.0.place x.1.0 x.1.1) (both (word KwAssert) (labelled quiet claim)))
  to_assert ws a (x, e, (front, back, i, k, s)) = let t = to_label_quiet back x.1 s in ((x, e, (front, back, i, k, t.0)), (ap (λ ds. 0 ∷ ds) t.1.0, t.1.1))

  pub of_assert : Like L inner (made (λ x. statements_.Assert x.0.place x.1.0 x.1.1) (both (word KwAssert) (labelled quiet claim))) (made (λ x. statements_.Assert x.0.place x.1.0 x.1.1) (both (word KwAssert) (written_label quiet)))
  of_assert ws a (x, e, (front, back, i, k, s)) = let t = of_label_quiet back x.1 s in ((x, e, (front, back, i, k, t.0)), (ap (λ ds. 0 ∷ ds) t.1.0, t.1.1))

  pub to_axiom : Like L inner (made (λ x. declarations.Axiom x.0.place x.1.0 x.1.1) (both (word KwAxiom) (written_label declares))) (made (λ x. declarations.Axiom x.0.place x.1.0 x.1.1) (both (word KwAxiom) (labelled declares claim)))
  to_axiom ws a (x, e, (front, back, i, k, s)) = let t = to_label_declares back x.1 s in ((x, e, (front, back, i, k, t.0)), (ap (λ ds. 0 ∷ ds) t.1.0, t.1.1))

  pub of_axiom : Like L inner (made (λ x. declarations.Axiom x.0.place x.1.0 x.1.1) (both (word KwAxiom) (labelled declares claim))) (made (λ x. declarations.Axiom x.0.place x.1.0 x.1.1) (both (word KwAxiom) (written_label declares)))
  of_axiom ws a (x, e, (front, back, i, k, s)) = let t = of_label_declares back x.1 s in ((x, e, (front, back, i, k, t.0)), (ap (λ ds. 0 ∷ ds) t.1.0, t.1.1))
