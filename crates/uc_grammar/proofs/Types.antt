-- Types and type declarations spell the same as they are written.
use Rattle.std.proofs.Common.{refl, ap, ◌∙◌, inl, inr}
use Rattle.uc_forms.specs.Form.{after}
use Rattle.uc_forms.specs.Spelling.{Language, Standing}
use Rattle.uc_syntax.specs.declared.declaration.Decl.TheVariants as declarations
use Rattle.uc_grammar.specs.declared.word.Kind.TheVariants.{Dot}
use Rattle.uc_grammar.specs.Syntax.{words, Nested, Value, ty, type_declaration, named_type, a_name, id}
use Rattle.uc_grammar.specs.Same.{SpellTheSame}
use Rattle.uc_grammar.specs.Written.{written_ty, written_type_declaration}
use Rattle.uc_grammar.proofs.Regroup.{Into, maybe_more, of_maybe_more}
use Rattle.uc_grammar.proofs.Spelled.{both_ways}

module _ (L : Language words Nested Value) (inner : Standing words Nested Value L) where
  to_ty : Into L inner written_ty ty
  unfolding ty written_ty
  to_ty ws a (inl x, e0, s) = ((inl x, e0, s), refl)
  to_ty ws a (inr y0, e0, (inl x, e1, s)) = ((inr y0, e0, (inl x, e1, s)), refl)
  to_ty ws a (inr y0, e0, (inr y1, e1, (inl x, e2, s))) = ((inr y0, e0, (inr y1, e1, (inl x, e2, s))), refl)
  to_ty ws a (inr y0, e0, (inr y1, e1, (inr y2, e2, (inl x, e3, s)))) = ((inr y0, e0, (inr y1, e1, (inr y2, e2, (inl x, e3, s)))), refl)
  to_ty ws a (inr y0, e0, (inr y1, e1, (inr y2, e2, (inr y3, e3, (inl x, e4, s))))) = ((inr y0, e0, (inr y1, e1, (inr y2, e2, (inr y3, e3, (inl x, e4, s))))), refl)
  to_ty ws a (inr y0, e0, (inr y1, e1, (inr y2, e2, (inr y3, e3, (inr y4, e4, (inl x, e5, s)))))) = ((inr y0, e0, (inr y1, e1, (inr y2, e2, (inr y3, e3, (inr y4, e4, (inl x, e5, s)))))), refl)
  to_ty ws a (inr y0, e0, (inr y1, e1, (inr y2, e2, (inr y3, e3, (inr y4, e4, (inr y5, e5, s)))))) = let t = maybe_more L inner named_type a_name (after Dot id) ws y5 s in ((inr y0, e0, (inr y1, e1, (inr y2, e2, (inr y3, e3, (inr y4, e4, (inr y5, e5, t.0)))))), t.1)

  of_ty : Into L inner ty written_ty
  unfolding ty written_ty
  of_ty ws a (inl x, e0, s) = ((inl x, e0, s), refl)
  of_ty ws a (inr y0, e0, (inl x, e1, s)) = ((inr y0, e0, (inl x, e1, s)), refl)
  of_ty ws a (inr y0, e0, (inr y1, e1, (inl x, e2, s))) = ((inr y0, e0, (inr y1, e1, (inl x, e2, s))), refl)
  of_ty ws a (inr y0, e0, (inr y1, e1, (inr y2, e2, (inl x, e3, s)))) = ((inr y0, e0, (inr y1, e1, (inr y2, e2, (inl x, e3, s)))), refl)
  of_ty ws a (inr y0, e0, (inr y1, e1, (inr y2, e2, (inr y3, e3, (inl x, e4, s))))) = ((inr y0, e0, (inr y1, e1, (inr y2, e2, (inr y3, e3, (inl x, e4, s))))), refl)
  of_ty ws a (inr y0, e0, (inr y1, e1, (inr y2, e2, (inr y3, e3, (inr y4, e4, (inl x, e5, s)))))) = ((inr y0, e0, (inr y1, e1, (inr y2, e2, (inr y3, e3, (inr y4, e4, (inl x, e5, s)))))), refl)
  of_ty ws a (inr y0, e0, (inr y1, e1, (inr y2, e2, (inr y3, e3, (inr y4, e4, (inr y5, e5, s)))))) = let t = of_maybe_more L inner named_type a_name (after Dot id) ws y5 s in ((inr y0, e0, (inr y1, e1, (inr y2, e2, (inr y3, e3, (inr y4, e4, (inr y5, e5, t.0)))))), t.1)

  pub to_type_declaration : Into L inner written_type_declaration type_declaration
  unfolding type_declaration written_type_declaration
  to_type_declaration ws a (inl y, e, (x, q, (front, back, i, k, (z, p, s)))) = (((x.0, inl (z.0, inl z.1)), e ∙ (q ∙ ap (λ n. declarations.OpaqueType x.0.place n) p), (front, back, i, k, s)), refl)
  to_type_declaration ws a (inr y, e, (inl y1, e1, (x, q, s))) = (((x.0, inl (x.1.0, inr x.1.1)), e ∙ (e1 ∙ q), s), refl)
  to_type_declaration ws a (inr y, e, (inr y1, e1, (x, q, s))) = (((x.0, inr x.1), e ∙ (e1 ∙ q), s), refl)

  pub of_type_declaration : Into L inner type_declaration written_type_declaration
  unfolding type_declaration written_type_declaration
  of_type_declaration ws a ((w, inl (n, inl z)), e, (front, back, i, k, s)) = ((inl a, refl, ((w, n), e, (front, back, i, k, ((n, z), refl, s)))), refl)
  of_type_declaration ws a ((w, inl (n, inr t)), e, s) = ((inr a, refl, (inl a, refl, ((w, (n, t)), e, s))), refl)
  of_type_declaration ws a ((w, inr n), e, s) = ((inr a, refl, (inr a, refl, ((w, n), e, s))), refl)

pub same_ty : SpellTheSame written_ty ty
same_ty = both_ways written_ty ty to_ty of_ty

pub same_type_declaration : SpellTheSame written_type_declaration type_declaration
same_type_declaration = both_ways written_type_declaration type_declaration to_type_declaration of_type_declaration
