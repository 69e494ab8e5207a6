-- Statements spell the same as they are written.
use Rattle.std.proofs.Common.{◌≡◌, List, [], ◌∷◌, ◌++◌, Option, Some, None, refl, sym, ap, ◌∙◌, ◌⊎◌, inl, inr}
use Rattle.uc_forms.specs.Form.{word, after, both, either, many, made, until, chain}
use Rattle.uc_forms.specs.Spelling.{Language, Standing}
use Rattle.uc_syntax.specs.declared.statement.Stmt.{Stmt}
use Rattle.uc_syntax.specs.declared.statement.Stmt.TheViews as statement_views
use Rattle.uc_syntax.specs.declared.statement.Arm.{Arm}
use Rattle.uc_grammar.specs.declared.word.Word.{Word}
use Rattle.uc_grammar.specs.declared.word.Kind.TheVariants.{Colon, KwIf, KwElse, KwCase, KwDefault, KwEsac}
use Rattle.uc_grammar.specs.Syntax.{words, Nested, Value, F, expr, arm, statements, default_block, if_statement, case_statement, statement, optional}
use Rattle.uc_grammar.specs.Same.{SpellTheSame}
use Rattle.uc_grammar.specs.Written.{written_if_statement, written_case_statement, written_statement}
use Rattle.uc_grammar.proofs.Regroup.{Maps, Into, moved, behind, made_map, chain_of_many, many_of_chain, until_of_many, many_of_until}
use Rattle.uc_grammar.proofs.Spelled.{Like, alike, both_ways, both_like}
use Rattle.uc_grammar.proofs.Labels.{to_assert, of_assert}

-- ---- `if`

abbrev written_elses : F (List (Arm Stmt) × Option (List Stmt))
written_elses = both (many (after KwElse (after KwIf arm))) (optional (after KwElse statements))

abbrev elses : F (List (Arm Stmt) × Option (List Stmt))
elses = chain (after KwElse (either (after KwIf arm) statements))

abbrev if_of : Word × (Arm Stmt × (List (Arm Stmt) × Option (List Stmt))) → Stmt
if_of x = statement_views.If x.0.place (x.1.0 ∷ x.1.1.0) x.1.1.1

-- ---- `case`

abbrev case_arm : F (Arm Stmt)
case_arm = made (λ x. record { condition = x.0; body = x.1 }) (both expr (after Colon statements))

abbrev default_arm : F (List Stmt)
default_arm = after KwDefault (after Colon statements)

abbrev written_end : F (Option (List Stmt) × Word)
written_end = both (optional default_arm) (word KwEsac)

abbrev end : F ((List Stmt × Word) ⊎ Word)
end = either (both default_arm (word KwEsac)) (word KwEsac)

abbrev to_end : Option (List Stmt) × Word → (List Stmt × Word) ⊎ Word
to_end x = elim x.0 [ Some b ↦ inl (b, x.1) | None ↦ inr x.1 ]

abbrev of_end : (List Stmt × Word) ⊎ Word → Option (List Stmt) × Word
of_end (inl x) = (Some x.0, x.1)
of_end (inr w) = (None, w)

abbrev written_case_of : Word × (List (Arm Stmt) × (Option (List Stmt) × Word)) → Stmt
written_case_of x = statement_views.Case x.0.place x.1.0 x.1.1.0

abbrev case_of : Word × (List (Arm Stmt) × ((List Stmt × Word) ⊎ Word)) → Stmt
case_of x = statement_views.Case x.0.place x.1.0 (default_block x.1.1)

same_default : (o : Option (List Stmt)) (w : Word) → o ≡ default_block (to_end (o, w))
same_default (Some b) w = refl
same_default None w = refl

default_same : (x : (List Stmt × Word) ⊎ Word) → default_block x ≡ (of_end x).0
default_same (inl x) = refl
default_same (inr w) = refl

module _ (L : Language words Nested Value) (inner : Standing words Nested Value L) where
  to_if_statement : Into L inner written_if_statement if_statement
  unfolding if_statement written_if_statement
  to_if_statement = made_map {T = words} L inner (λ x. x) if_of if_of (both (word KwIf) (both arm written_elses)) (both (word KwIf) (both arm elses)) (λ a. refl)
      (behind {T = words} L inner (λ x. x) (word KwIf) (both arm written_elses) (both arm elses) (behind {T = words} L inner (λ x. x) arm written_elses elses (chain_of_many {T = words} L inner KwElse (after KwIf arm) statements)))

  of_if_statement : Into L inner if_statement written_if_statement
  unfolding if_statement written_if_statement
  of_if_statement = made_map {T = words} L inner (λ x. x) if_of if_of (both (word KwIf) (both arm elses)) (both (word KwIf) (both arm written_elses)) (λ a. refl)
      (behind {T = words} L inner (λ x. x) (word KwIf) (both arm elses) (both arm written_elses) (behind {T = words} L inner (λ x. x) arm elses written_elses (many_of_chain {T = words} L inner KwElse (after KwIf arm) statements)))

  into_end : Maps {T = words} L inner to_end written_end end
  into_end ws (o, w) (front, back, i, (inl b, e, s), sw) = moved {T = words} L inner end ws (inl (b, w)) (to_end (o, w)) (ap (λ z. to_end (z, w)) (sym e)) (front, back, i, s, sw)
  into_end ws (o, w) (front, back, i, (inr u, e, s), sw) = moved {T = words} L inner end ws (inr w) (to_end (o, w)) (ap (λ z. to_end (z, w)) (sym e)) (i ∙ (ap (λ us. us ++ back) s ∙ sw.0), sw.1)

  out_of_end : Maps {T = words} L inner of_end end written_end
  out_of_end ws (inl (b, w)) (front, back, i, s, sw) = ((front, back, i, (inl b, refl, s), sw), refl)
  out_of_end ws (inr w) sw = (([], ws, refl, (inr tt, refl, refl), sw), refl)

  to_arms : Maps {T = words} L inner (λ (x : List (Arm Stmt) × (Option (List Stmt) × Word)). (x.0, to_end x.1)) (both (many case_arm) written_end) (until case_arm end)
  to_arms ws x s =
      let t = behind {T = words} L inner to_end (many case_arm) written_end end into_end ws x s in
      let u = until_of_many {T = words} L inner case_arm end ws (x.0, to_end x.1) t.0 in
      (u.0, t.1 ∙ u.1)

  of_arms : Maps {T = words} L inner (λ (x : List (Arm Stmt) × ((List Stmt × Word) ⊎ Word)). (x.0, of_end x.1)) (until case_arm end) (both (many case_arm) written_end)
  of_arms ws x s =
      let t = many_of_until {T = words} L inner case_arm end ws x s in
      let u = behind {T = words} L inner of_end (many case_arm) end written_end out_of_end ws x t.0 in
      (u.0, t.1 ∙ u.1)

  to_case_statement : Into L inner written_case_statement case_statement
  unfolding case_statement written_case_statement
  to_case_statement = made_map {T = words} L inner (λ x. (x.0, (x.1.0, to_end x.1.1))) written_case_of case_of (both (word KwCase) (both (many case_arm) written_end)) (both (word KwCase) (until case_arm end))
      (λ a. ap (λ o. statement_views.Case a.0.place a.1.0 o) (same_default a.1.1.0 a.1.1.1))
      (behind {T = words} L inner (λ x. (x.0, to_end x.1)) (word KwCase) (both (many case_arm) written_end) (until case_arm end) to_arms)

  of_case_statement : Into L inner case_statement written_case_statement
  unfolding case_statement written_case_statement
  of_case_statement = made_map {T = words} L inner (λ x. (x.0, (x.1.0, of_end x.1.1))) case_of written_case_of (both (word KwCase) (until case_arm end)) (both (word KwCase) (both (many case_arm) written_end))
      (λ a. ap (λ o. statement_views.Case a.0.place a.1.0 o) (default_same a.1.1))
      (behind {T = words} L inner (λ x. (x.0, of_end x.1)) (word KwCase) (until case_arm end) (both (many case_arm) written_end) of_arms)

  to_statement : Like L inner written_statement statement
  unfolding statement written_statement
  to_statement ws a (inl x, e0, s) = ((inl x, e0, s), (refl, refl))
  to_statement ws a (inr y0, e0, (inl x, e1, s)) = ((inr y0, e0, (inl x, e1, s)), (refl, refl))
  to_statement ws a (inr y0, e0, (inr y1, e1, (inl x, e2, s))) = ((inr y0, e0, (inr y1, e1, (inl x, e2, s))), (refl, refl))
  to_statement ws a (inr y0, e0, (inr y1, e1, (inr y2, e2, (inl x, e3, s)))) = let t = to_assert L inner ws x s in ((inr y0, e0, (inr y1, e1, (inr y2, e2, (inl x, e3, t.0)))), t.1)
  to_statement ws a (inr y0, e0, (inr y1, e1, (inr y2, e2, (inr y3, e3, (inl x, e4, s))))) = ((inr y0, e0, (inr y1, e1, (inr y2, e2, (inr y3, e3, (inl x, e4, s))))), (refl, refl))
  to_statement ws a (inr y0, e0, (inr y1, e1, (inr y2, e2, (inr y3, e3, (inr y4, e4, (inl x, e5, s)))))) = ((inr y0, e0, (inr y1, e1, (inr y2, e2, (inr y3, e3, (inr y4, e4, (inl x, e5, s)))))), (refl, refl))
  to_statement ws a (inr y0, e0, (inr y1, e1, (inr y2, e2, (inr y3, e3, (inr y4, e4, (inr y5, e5, (inl x, e6, s))))))) = let t = to_if_statement ws x s in ((inr y0, e0, (inr y1, e1, (inr y2, e2, (inr y3, e3, (inr y4, e4, (inr y5, e5, (inl x, e6, t.0))))))), alike _ _ t.1)
  to_statement ws a (inr y0, e0, (inr y1, e1, (inr y2, e2, (inr y3, e3, (inr y4, e4, (inr y5, e5, (inr y6, e6, (inl x, e7, s)))))))) = let t = to_case_statement ws x s in ((inr y0, e0, (inr y1, e1, (inr y2, e2, (inr y3, e3, (inr y4, e4, (inr y5, e5, (inr y6, e6, (inl x, e7, t.0)))))))), alike _ _ t.1)
  to_statement ws a (inr y0, e0, (inr y1, e1, (inr y2, e2, (inr y3, e3, (inr y4, e4, (inr y5, e5, (inr y6, e6, (inr y7, e7, (inl x, e8, s))))))))) = ((inr y0, e0, (inr y1, e1, (inr y2, e2, (inr y3, e3, (inr y4, e4, (inr y5, e5, (inr y6, e6, (inr y7, e7, (inl x, e8, s))))))))), (refl, refl))
  to_statement ws a (inr y0, e0, (inr y1, e1, (inr y2, e2, (inr y3, e3, (inr y4, e4, (inr y5, e5, (inr y6, e6, (inr y7, e7, (inr y8, e8, (inl x, e9, s)))))))))) = ((inr y0, e0, (inr y1, e1, (inr y2, e2, (inr y3, e3, (inr y4, e4, (inr y5, e5, (inr y6, e6, (inr y7, e7, (inr y8, e8, (inl x, e9, s)))))))))), (refl, refl))
  to_statement ws a (inr y0, e0, (inr y1, e1, (inr y2, e2, (inr y3, e3, (inr y4, e4, (inr y5, e5, (inr y6, e6, (inr y7, e7, (inr y8, e8, (inr y9, e9, (inl x, e10, s))))))))))) = ((inr y0, e0, (inr y1, e1, (inr y2, e2, (inr y3, e3, (inr y4, e4, (inr y5, e5, (inr y6, e6, (inr y7, e7, (inr y8, e8, (inr y9, e9, (inl x, e10, s))))))))))), (refl, refl))
  to_statement ws a (inr y0, e0, (inr y1, e1, (inr y2, e2, (inr y3, e3, (inr y4, e4, (inr y5, e5, (inr y6, e6, (inr y7, e7, (inr y8, e8, (inr y9, e9, (inr y10, e10, s))))))))))) = ((inr y0, e0, (inr y1, e1, (inr y2, e2, (inr y3, e3, (inr y4, e4, (inr y5, e5, (inr y6, e6, (inr y7, e7, (inr y8, e8, (inr y9, e9, (inr y10, e10, s))))))))))), (refl, refl))

  of_statement : Like L inner statement written_statement
  unfolding statement written_statement
  of_statement ws a (inl x, e0, s) = ((inl x, e0, s), (refl, refl))
  of_statement ws a (inr y0, e0, (inl x, e1, s)) = ((inr y0, e0, (inl x, e1, s)), (refl, refl))
  of_statement ws a (inr y0, e0, (inr y1, e1, (inl x, e2, s))) = ((inr y0, e0, (inr y1, e1, (inl x, e2, s))), (refl, refl))
  of_statement ws a (inr y0, e0, (inr y1, e1, (inr y2, e2, (inl x, e3, s)))) = let t = of_assert L inner ws x s in ((inr y0, e0, (inr y1, e1, (inr y2, e2, (inl x, e3, t.0)))), t.1)
  of_statement ws a (inr y0, e0, (inr y1, e1, (inr y2, e2, (inr y3, e3, (inl x, e4, s))))) = ((inr y0, e0, (inr y1, e1, (inr y2, e2, (inr y3, e3, (inl x, e4, s))))), (refl, refl))
  of_statement ws a (inr y0, e0, (inr y1, e1, (inr y2, e2, (inr y3, e3, (inr y4, e4, (inl x, e5, s)))))) = ((inr y0, e0, (inr y1, e1, (inr y2, e2, (inr y3, e3, (inr y4, e4, (inl x, e5, s)))))), (refl, refl))
  of_statement ws a (inr y0, e0, (inr y1, e1, (inr y2, e2, (inr y3, e3, (inr y4, e4, (inr y5, e5, (inl x, e6, s))))))) = let t = of_if_statement ws x s in ((inr y0, e0, (inr y1, e1, (inr y2, e2, (inr y3, e3, (inr y4, e4, (inr y5, e5, (inl x, e6, t.0))))))), alike _ _ t.1)
  of_statement ws a (inr y0, e0, (inr y1, e1, (inr y2, e2, (inr y3, e3, (inr y4, e4, (inr y5, e5, (inr y6, e6, (inl x, e7, s)))))))) = let t = of_case_statement ws x s in ((inr y0, e0, (inr y1, e1, (inr y2, e2, (inr y3, e3, (inr y4, e4, (inr y5, e5, (inr y6, e6, (inl x, e7, t.0)))))))), alike _ _ t.1)
  of_statement ws a (inr y0, e0, (inr y1, e1, (inr y2, e2, (inr y3, e3, (inr y4, e4, (inr y5, e5, (inr y6, e6, (inr y7, e7, (inl x, e8, s))))))))) = ((inr y0, e0, (inr y1, e1, (inr y2, e2, (inr y3, e3, (inr y4, e4, (inr y5, e5, (inr y6, e6, (inr y7, e7, (inl x, e8, s))))))))), (refl, refl))
  of_statement ws a (inr y0, e0, (inr y1, e1, (inr y2, e2, (inr y3, e3, (inr y4, e4, (inr y5, e5, (inr y6, e6, (inr y7, e7, (inr y8, e8, (inl x, e9, s)))))))))) = ((inr y0, e0, (inr y1, e1, (inr y2, e2, (inr y3, e3, (inr y4, e4, (inr y5, e5, (inr y6, e6, (inr y7, e7, (inr y8, e8, (inl x, e9, s)))))))))), (refl, refl))
  of_statement ws a (inr y0, e0, (inr y1, e1, (inr y2, e2, (inr y3, e3, (inr y4, e4, (inr y5, e5, (inr y6, e6, (inr y7, e7, (inr y8, e8, (inr y9, e9, (inl x, e10, s))))))))))) = ((inr y0, e0, (inr y1, e1, (inr y2, e2, (inr y3, e3, (inr y4, e4, (inr y5, e5, (inr y6, e6, (inr y7, e7, (inr y8, e8, (inr y9, e9, (inl x, e10, s))))))))))), (refl, refl))
  of_statement ws a (inr y0, e0, (inr y1, e1, (inr y2, e2, (inr y3, e3, (inr y4, e4, (inr y5, e5, (inr y6, e6, (inr y7, e7, (inr y8, e8, (inr y9, e9, (inr y10, e10, s))))))))))) = ((inr y0, e0, (inr y1, e1, (inr y2, e2, (inr y3, e3, (inr y4, e4, (inr y5, e5, (inr y6, e6, (inr y7, e7, (inr y8, e8, (inr y9, e9, (inr y10, e10, s))))))))))), (refl, refl))

pub same_if_statement : SpellTheSame written_if_statement if_statement
same_if_statement = both_ways written_if_statement if_statement to_if_statement of_if_statement

pub same_case_statement : SpellTheSame written_case_statement case_statement
same_case_statement = both_ways written_case_statement case_statement to_case_statement of_case_statement

pub same_statement : SpellTheSame written_statement statement
same_statement = both_like written_statement statement to_statement of_statement
