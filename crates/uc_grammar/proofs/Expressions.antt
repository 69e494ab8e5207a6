-- Primaries, selections and `if` expressions spell the same as they are written.
use Rattle.std.proofs.Common.{[], ◌∷◌, ◌++◌, Some, None, map, refl, sym, ap, ◌∙◌, append_assoc, inl, inr}
use Rattle.uc_forms.specs.Form.{word, before, many}
use Rattle.uc_forms.specs.Spelling.{Language, Standing, SpellWith, stands_with}
use Rattle.uc_syntax.specs.declared.expression.Selection.TheVariants as selections
use Rattle.uc_syntax.specs.declared.expression.Primary.TheVariants as primaries
use Rattle.uc_syntax.specs.declared.expression.Expr.TheViews as expressions
use Rattle.uc_grammar.specs.declared.word.Kind.TheVariants.{Number, RightBracket}
use Rattle.uc_grammar.specs.Code.{name_in}
use Rattle.uc_grammar.specs.Syntax.{words, Nested, Value, head, has, primary, selection, brackets, if_expression, rule, branch, equivalence}
use Rattle.uc_grammar.specs.Same.{counted, SpellTheSame}
use Rattle.uc_grammar.specs.Written.{written_primary, written_selection, written_brackets, Arms, arms, written_arms, node_of, written_if}
use Rattle.uc_grammar.proofs.Regroup.{Into, moved, moved_words, many_more}
use Rattle.uc_grammar.proofs.Spelled.{Like, both_ways, both_like, code_is, is_code}

module _ (L : Language words Nested Value) (inner : Standing words Nested Value L) where
  to_primary : Into L inner written_primary primary
  unfolding primary written_primary
  to_primary ws a (inl x, e0, s) = ((inl x, e0, s), refl)
  to_primary ws a (inr y0, e0, (inl x, e1, s)) = ((inr y0, e0, (inl x, e1, s)), refl)
  to_primary ws a (inr y0, e0, (inr y1, e1, (inl x, e2, s))) = ((inr y0, e0, (inr y1, e1, (inl x, e2, s))), refl)
  to_primary ws a (inr y0, e0, (inr y1, e1, (inr y2, e2, (inl x, e3, s)))) = ((inr y0, e0, (inr y1, e1, (inr y2, e2, (inl x, e3, s)))), refl)
  to_primary ws a (inr y0, e0, (inr y1, e1, (inr y2, e2, (inr y3, e3, (inl x, e4, s))))) = ((inr y0, e0, (inr y1, e1, (inr y2, e2, (inr y3, e3, (inl x, e4, s))))), refl)
  to_primary ws a (inr y0, e0, (inr y1, e1, (inr y2, e2, (inr y3, e3, (inr y4, e4, (inl x, e5, s)))))) = ((inr y0, e0, (inr y1, e1, (inr y2, e2, (inr y3, e3, (inr y4, e4, (inl x, e5, s)))))), refl)
  to_primary ws a (inr y0, e0, (inr y1, e1, (inr y2, e2, (inr y3, e3, (inr y4, e4, (inr y5, e5, (inl y, e, ((w, o), q, (front, back, i, s, (inl x, p, t)))))))))) = ((inr y0, e0, (inr y1, e1, (inr y2, e2, (inr y3, e3, (inr y4, e4, (inr y5, e5, ((w, inl x), e ∙ (q ∙ ap (λ z. head w.place (primaries.Name (name_in w.kind) (has z))) p), (front, back, i, s, t)))))))), refl)
  to_primary ws a (inr y0, e0, (inr y1, e1, (inr y2, e2, (inr y3, e3, (inr y4, e4, (inr y5, e5, (inl y, e, ((w, o), q, (front, back, i, s, (inr u, p, t)))))))))) = ((inr y0, e0, (inr y1, e1, (inr y2, e2, (inr y3, e3, (inr y4, e4, (inr y5, e5, ((w, inr (inr u)), e ∙ (q ∙ ap (λ z. head w.place (primaries.Name (name_in w.kind) (has z))) p), (front, back, i, s, t)))))))), refl)
  to_primary ws a (inr y0, e0, (inr y1, e1, (inr y2, e2, (inr y3, e3, (inr y4, e4, (inr y5, e5, (inr y, e, ((w, es), q, s)))))))) = ((inr y0, e0, (inr y1, e1, (inr y2, e2, (inr y3, e3, (inr y4, e4, (inr y5, e5, ((w, inr (inl es)), e ∙ q, s))))))), refl)

  of_primary : Into L inner primary written_primary
  unfolding primary written_primary
  of_primary ws a (inl x, e0, s) = ((inl x, e0, s), refl)
  of_primary ws a (inr y0, e0, (inl x, e1, s)) = ((inr y0, e0, (inl x, e1, s)), refl)
  of_primary ws a (inr y0, e0, (inr y1, e1, (inl x, e2, s))) = ((inr y0, e0, (inr y1, e1, (inl x, e2, s))), refl)
  of_primary ws a (inr y0, e0, (inr y1, e1, (inr y2, e2, (inl x, e3, s)))) = ((inr y0, e0, (inr y1, e1, (inr y2, e2, (inl x, e3, s)))), refl)
  of_primary ws a (inr y0, e0, (inr y1, e1, (inr y2, e2, (inr y3, e3, (inl x, e4, s))))) = ((inr y0, e0, (inr y1, e1, (inr y2, e2, (inr y3, e3, (inl x, e4, s))))), refl)
  of_primary ws a (inr y0, e0, (inr y1, e1, (inr y2, e2, (inr y3, e3, (inr y4, e4, (inl x, e5, s)))))) = ((inr y0, e0, (inr y1, e1, (inr y2, e2, (inr y3, e3, (inr y4, e4, (inl x, e5, s)))))), refl)
  of_primary ws a (inr y0, e0, (inr y1, e1, (inr y2, e2, (inr y3, e3, (inr y4, e4, (inr y5, e5, ((w, inl x), e, (front, back, i, s, t)))))))) = ((inr y0, e0, (inr y1, e1, (inr y2, e2, (inr y3, e3, (inr y4, e4, (inr y5, e5, (inl y5, refl, ((w, Some x), e, (front, back, i, s, (inl x, refl, t)))))))))), refl)
  of_primary ws a (inr y0, e0, (inr y1, e1, (inr y2, e2, (inr y3, e3, (inr y4, e4, (inr y5, e5, ((w, inr (inl es)), e, s))))))) = ((inr y0, e0, (inr y1, e1, (inr y2, e2, (inr y3, e3, (inr y4, e4, (inr y5, e5, (inr y5, refl, ((w, es), e, s)))))))), refl)
  of_primary ws a (inr y0, e0, (inr y1, e1, (inr y2, e2, (inr y3, e3, (inr y4, e4, (inr y5, e5, ((w, inr (inr u)), e, (front, back, i, s, t)))))))) = ((inr y0, e0, (inr y1, e1, (inr y2, e2, (inr y3, e3, (inr y4, e4, (inr y5, e5, (inl y5, refl, ((w, None), e, (front, back, i, s, (inr u, refl, t)))))))))), refl)

  to_selection : Into L inner written_selection selection
  unfolding selection written_selection
  to_selection ws a (inl y, e, (x, q, s)) = ((inl a, refl, ((x.0, inl x.1), e ∙ q, s)), refl)
  to_selection ws a (inr y, e, (inl y1, e1, (x, q, s))) = ((inl a, refl, ((x.0, inr x.1), e ∙ (e1 ∙ q), s)), refl)
  to_selection ws a (inr y, e, (inr y1, e1, s)) = ((inr y1, e ∙ e1, s), refl)

  of_selection : Into L inner selection written_selection
  unfolding selection written_selection
  of_selection ws a (inl y, e, ((d, inl n), q, s)) = ((inl a, refl, ((d, n), e ∙ q, s)), refl)
  of_selection ws a (inl y, e, ((d, inr w), q, s)) = ((inr a, refl, (inl a, refl, ((d, w), e ∙ q, s))), refl)
  of_selection ws a (inr y, e, s) = ((inr a, refl, (inr y, e, s)), refl)

  -- A colon behind a number tells the bits from an index.
  to_brackets : Like L inner written_brackets (rule brackets)
  unfolding written_brackets
  to_brackets ws a (inl y, e, (x, q, (front, back, i, k, (z, p, s)))) = (((x.0, inr (z.0, inl z.1)), e ∙ (q ∙ ap (λ n. selections.Element x.0.place n) p), (front, back, i, k, s)), (refl, refl))
  to_brackets ws a (inr y, e, (inl y1, e1, (x, q, s))) = (((x.0, inr (x.1.0, inr x.1.1)), e ∙ (e1 ∙ q), s), (refl, refl))
  to_brackets ws a (inr y, e, (inr y1, e1, (x, q, (front, back, i, k, (f1, b1, i1, (p1, m1), (z, c, (f2, b2, i2, (p2, m2), s))))))) =
      let t = moved {T = words} L inner (before (word (Number 0)) RightBracket) b2 z.1 x.1.1 (sym c) s in (
        ((x.0, inl (x.1.0, x.1.1)), e ∙ (e1 ∙ q), (front, back, i, k, (z.0, b2, i1 ∙ (ap (λ us. us ++ b1) p1 ∙ ap (λ us. x.1.0 ∷ us) (i2 ∙ ap (λ us. us ++ b2) p2)), m1, code_is _ _ m2, t.0))),
        (ap (λ zs. 0 ∷ 0 ∷ 0 ∷ map (λ v. v.depth) zs) t.1, ap counted t.1),
      )

  of_brackets : Like L inner (rule brackets) written_brackets
  unfolding written_brackets
  of_brackets ws a ((l, inl (n, v)), e, (front, back, i, k, (w, rest, p, m, c, s))) = ((inr a, refl, (inr a, refl, ((l, (n, v)), e, (front, back, i, k, (n ∷ [], w ∷ rest, p, (refl, m), ((w, v), refl, (w ∷ [], rest, refl, (refl, is_code _ _ c), s))))))), (refl, refl))
  of_brackets ws a ((l, inr (x, inl r)), e, (front, back, i, k, s)) = ((inl a, refl, ((l, x), e, (front, back, i, k, ((x, r), refl, s)))), (refl, refl))
  of_brackets ws a ((l, inr (x, inr y)), e, s) = ((inr a, refl, (inl a, refl, ((l, (x, y)), e, s))), (refl, refl))

  to_arms : Into L inner (written_arms arms) arms
  unfolding written_arms arms
  to_arms ws a ((b, p), e, (front, back, i, sb, (inl y, q, (x, d, (f1, b1, i1, s1, (f2, b2, i2, sm, se)))))) =
      let t = many_more L inner branch (f1 ++ f2) f1 f2 x.0 x.1.0 refl s1 sm in (
        ((b, (x.0 ∷ x.1.0, x.1.1)), e ∙ ap (λ z. (b ∷ z.0, z.1)) (q ∙ d), (front, back, i, sb, (f1 ++ f2, b2, i1 ∙ (ap (λ us. f1 ++ us) i2 ∙ sym (append_assoc f1 f2 b2)), t.0, se))),
        ap (λ zs. stands_with L inner branch front b sb ++ zs) (sym (append_assoc (stands_with L inner branch f1 x.0 s1) (stands_with L inner (many branch) f2 x.1.0 sm) (stands_with L inner equivalence b2 x.1.1 se)) ∙ ap (λ zs. zs ++ stands_with L inner equivalence b2 x.1.1 se) t.1),
      )
  to_arms ws a ((b, p), e, (front, back, i, sb, (inr y, q, (x, d, s)))) = (((b, ([], x)), e ∙ ap (λ z. (b ∷ z.0, z.1)) (q ∙ d), (front, back, i, sb, ([], back, refl, (([], None), refl, refl), s))), refl)

  of_arms : Into L inner arms (written_arms arms)
  unfolding written_arms arms
  of_arms ws a ((b, (bs, y)), e, (front, back, i, sb, (f1, b1, i1, (([], None), ez, c), se))) =
      let t = moved_words L inner equivalence b1 back y (sym (i1 ∙ ap (λ us. us ++ b1) c)) se in
      (((b, ([], y)), e ∙ ap (λ zs. (b ∷ zs, y)) ez, (front, back, i, sb, (inr ([], y), refl, (y, refl, t.0)))), ap (λ zs. stands_with L inner branch front b sb ++ zs) t.1)
  of_arms ws a ((b, (bs, y)), e, (front, back, i, sb, (f1, b1, i1, (([], Some z), ez, c), se))) = absurd z
  of_arms ws a ((b, (bs, y)), e, (front, back, i, sb, (f1, b1, i1, ((b' ∷ bs', o), ez, (f2, b2, i2, (b'', eb, s2), c)), se))) =
      let t = moved L inner branch f2 b'' b' (ap (elim [ inl z ↦ z | inr z ↦ absurd z ]) (sym eb)) s2 in
      let r : SpellWith L (many branch) b2 bs' = ((bs', o), refl, c) in (
        ((b, (b' ∷ bs', y)), e ∙ ap (λ zs. (b ∷ zs, y)) ez, (front, back, i, sb, (inl (b' ∷ bs', y), refl, ((b', (bs', y)), refl, (f2, b2 ++ b1, i1 ∙ (ap (λ us. us ++ b1) i2 ∙ append_assoc f2 b2 b1), t.0, (b2, b1, refl, r, se)))))),
        ap (λ zs. stands_with L inner branch front b sb ++ zs) (append_assoc (stands_with L inner branch f2 b'' s2) (stands_with L inner (many branch) b2 bs' r) (stands_with L inner equivalence b1 y se) ∙ ap (λ zs. zs ++ (stands_with L inner (many branch) b2 bs' r ++ stands_with L inner equivalence b1 y se)) t.1),
      )

  to_if : Into L inner written_if (rule if_expression)
  unfolding written_if arms
  to_if ws a (x, e, ((b, (bs, y)), d, s)) = (((b, (bs, y)), e ∙ ap node_of d, s), refl)

  of_if : Into L inner (rule if_expression) written_if
  unfolding written_if arms
  of_if ws a ((b, (bs, y)), e, s) = (((b ∷ bs, y), e, ((b, (bs, y)), refl, s)), refl)

pub same_primary : SpellTheSame written_primary primary
same_primary = both_ways written_primary primary to_primary of_primary

pub same_selection : SpellTheSame written_selection selection
same_selection = both_ways written_selection selection to_selection of_selection

pub same_brackets : SpellTheSame written_brackets (rule brackets)
same_brackets = both_like written_brackets (rule brackets) to_brackets of_brackets

pub same_arms : SpellTheSame (written_arms arms) arms
same_arms = both_ways (written_arms arms) arms to_arms of_arms

pub same_if : SpellTheSame written_if (rule if_expression)
same_if = both_ways written_if (rule if_expression) to_if of_if
