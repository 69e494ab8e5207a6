-- Declarations spell the same as they are written.
use Rattle.std.proofs.Common.{refl, inl, inr}
use Rattle.uc_forms.specs.Spelling.{Language, Standing}
use Rattle.uc_grammar.specs.Syntax.{words, Nested, Value, declaration}
use Rattle.uc_grammar.specs.Same.{SpellTheSame}
use Rattle.uc_grammar.specs.Written.{written_declaration}
use Rattle.uc_grammar.proofs.Spelled.{Like, alike, both_like}
use Rattle.uc_grammar.proofs.Types.{to_type_declaration, of_type_declaration}
use Rattle.uc_grammar.proofs.Labels.{to_axiom, of_axiom}

module _ (L : Language words Nested Value) (inner : Standing words Nested Value L) where
  to_declaration : Like L inner written_declaration declaration
  unfolding declaration written_declaration
  to_declaration ws a (inl x, e0, s) = let t = to_type_declaration L inner ws x s in ((inl x, e0, t.0), alike _ _ t.1)
  to_declaration ws a (inr y0, e0, (inl x, e1, s)) = ((inr y0, e0, (inl x, e1, s)), (refl, refl))
  to_declaration ws a (inr y0, e0, (inr y1, e1, (inl x, e2, s))) = ((inr y0, e0, (inr y1, e1, (inl x, e2, s))), (refl, refl))
  to_declaration ws a (inr y0, e0, (inr y1, e1, (inr y2, e2, (inl x, e3, s)))) = ((inr y0, e0, (inr y1, e1, (inr y2, e2, (inl x, e3, s)))), (refl, refl))
  to_declaration ws a (inr y0, e0, (inr y1, e1, (inr y2, e2, (inr y3, e3, (inl x, e4, s))))) = ((inr y0, e0, (inr y1, e1, (inr y2, e2, (inr y3, e3, (inl x, e4, s))))), (refl, refl))
  to_declaration ws a (inr y0, e0, (inr y1, e1, (inr y2, e2, (inr y3, e3, (inr y4, e4, (inl x, e5, s)))))) = ((inr y0, e0, (inr y1, e1, (inr y2, e2, (inr y3, e3, (inr y4, e4, (inl x, e5, s)))))), (refl, refl))
  to_declaration ws a (inr y0, e0, (inr y1, e1, (inr y2, e2, (inr y3, e3, (inr y4, e4, (inr y5, e5, (inl x, e6, s))))))) = ((inr y0, e0, (inr y1, e1, (inr y2, e2, (inr y3, e3, (inr y4, e4, (inr y5, e5, (inl x, e6, s))))))), (refl, refl))
  to_declaration ws a (inr y0, e0, (inr y1, e1, (inr y2, e2, (inr y3, e3, (inr y4, e4, (inr y5, e5, (inr y6, e6, (inl x, e7, s)))))))) = ((inr y0, e0, (inr y1, e1, (inr y2, e2, (inr y3, e3, (inr y4, e4, (inr y5, e5, (inr y6, e6, (inl x, e7, s)))))))), (refl, refl))
  to_declaration ws a (inr y0, e0, (inr y1, e1, (inr y2, e2, (inr y3, e3, (inr y4, e4, (inr y5, e5, (inr y6, e6, (inr y7, e7, (inl x, e8, s))))))))) = ((inr y0, e0, (inr y1, e1, (inr y2, e2, (inr y3, e3, (inr y4, e4, (inr y5, e5, (inr y6, e6, (inr y7, e7, (inl x, e8, s))))))))), (refl, refl))
  to_declaration ws a (inr y0, e0, (inr y1, e1, (inr y2, e2, (inr y3, e3, (inr y4, e4, (inr y5, e5, (inr y6, e6, (inr y7, e7, (inr y8, e8, (inl x, e9, s)))))))))) = let t = to_axiom L inner ws x s in ((inr y0, e0, (inr y1, e1, (inr y2, e2, (inr y3, e3, (inr y4, e4, (inr y5, e5, (inr y6, e6, (inr y7, e7, (inr y8, e8, (inl x, e9, t.0)))))))))), t.1)
  to_declaration ws a (inr y0, e0, (inr y1, e1, (inr y2, e2, (inr y3, e3, (inr y4, e4, (inr y5, e5, (inr y6, e6, (inr y7, e7, (inr y8, e8, (inr y9, e9, (inl x, e10, s))))))))))) = ((inr y0, e0, (inr y1, e1, (inr y2, e2, (inr y3, e3, (inr y4, e4, (inr y5, e5, (inr y6, e6, (inr y7, e7, (inr y8, e8, (inr y9, e9, (inl x, e10, s))))))))))), (refl, refl))
  to_declaration ws a (inr y0, e0, (inr y1, e1, (inr y2, e2, (inr y3, e3, (inr y4, e4, (inr y5, e5, (inr y6, e6, (inr y7, e7, (inr y8, e8, (inr y9, e9, (inr y10, e10, s))))))))))) = ((inr y0, e0, (inr y1, e1, (inr y2, e2, (inr y3, e3, (inr y4, e4, (inr y5, e5, (inr y6, e6, (inr y7, e7, (inr y8, e8, (inr y9, e9, (inr y10, e10, s))))))))))), (refl, refl))

  of_declaration : Like L inner declaration written_declaration
  unfolding declaration written_declaration
  of_declaration ws a (inl x, e0, s) = let t = of_type_declaration L inner ws x s in ((inl x, e0, t.0), alike _ _ t.1)
  of_declaration ws a (inr y0, e0, (inl x, e1, s)) = ((inr y0, e0, (inl x, e1, s)), (refl, refl))
  of_declaration ws a (inr y0, e0, (inr y1, e1, (inl x, e2, s))) = ((inr y0, e0, (inr y1, e1, (inl x, e2, s))), (refl, refl))
  of_declaration ws a (inr y0, e0, (inr y1, e1, (inr y2, e2, (inl x, e3, s)))) = ((inr y0, e0, (inr y1, e1, (inr y2, e2, (inl x, e3, s)))), (refl, refl))
  of_declaration ws a (inr y0, e0, (inr y1, e1, (inr y2, e2, (inr y3, e3, (inl x, e4, s))))) = ((inr y0, e0, (inr y1, e1, (inr y2, e2, (inr y3, e3, (inl x, e4, s))))), (refl, refl))
  of_declaration ws a (inr y0, e0, (inr y1, e1, (inr y2, e2, (inr y3, e3, (inr y4, e4, (inl x, e5, s)))))) = ((inr y0, e0, (inr y1, e1, (inr y2, e2, (inr y3, e3, (inr y4, e4, (inl x, e5, s)))))), (refl, refl))
  of_declaration ws a (inr y0, e0, (inr y1, e1, (inr y2, e2, (inr y3, e3, (inr y4, e4, (inr y5, e5, (inl x, e6, s))))))) = ((inr y0, e0, (inr y1, e1, (inr y2, e2, (inr y3, e3, (inr y4, e4, (inr y5, e5, (inl x, e6, s))))))), (refl, refl))
  of_declaration ws a (inr y0, e0, (inr y1, e1, (inr y2, e2, (inr y3, e3, (inr y4, e4, (inr y5, e5, (inr y6, e6, (inl x, e7, s)))))))) = ((inr y0, e0, (inr y1, e1, (inr y2, e2, (inr y3, e3, (inr y4, e4, (inr y5, e5, (inr y6, e6, (inl x, e7, s)))))))), (refl, refl))
  of_declaration ws a (inr y0, e0, (inr y1, e1, (inr y2, e2, (inr y3, e3, (inr y4, e4, (inr y5, e5, (inr y6, e6, (inr y7, e7, (inl x, e8, s))))))))) = ((inr y0, e0, (inr y1, e1, (inr y2, e2, (inr y3, e3, (inr y4, e4, (inr y5, e5, (inr y6, e6, (inr y7, e7, (inl x, e8, s))))))))), (refl, refl))
  of_declaration ws a (inr y0, e0, (inr y1, e1, (inr y2, e2, (inr y3, e3, (inr y4, e4, (inr y5, e5, (inr y6, e6, (inr y7, e7, (inr y8, e8, (inl x, e9, s)))))))))) = let t = of_axiom L inner ws x s in ((inr y0, e0, (inr y1, e1, (inr y2, e2, (inr y3, e3, (inr y4, e4, (inr y5, e5, (inr y6, e6, (inr y7, e7, (inr y8, e8, (inl x, e9, t.0)))))))))), t.1)
  of_declaration ws a (inr y0, e0, (inr y1, e1, (inr y2, e2, (inr y3, e3, (inr y4, e4, (inr y5, e5, (inr y6, e6, (inr y7, e7, (inr y8, e8, (inr y9, e9, (inl x, e10, s))))))))))) = ((inr y0, e0, (inr y1, e1, (inr y2, e2, (inr y3, e3, (inr y4, e4, (inr y5, e5, (inr y6, e6, (inr y7, e7, (inr y8, e8, (inr y9, e9, (inl x, e10, s))))))))))), (refl, refl))
  of_declaration ws a (inr y0, e0, (inr y1, e1, (inr y2, e2, (inr y3, e3, (inr y4, e4, (inr y5, e5, (inr y6, e6, (inr y7, e7, (inr y8, e8, (inr y9, e9, (inr y10, e10, s))))))))))) = ((inr y0, e0, (inr y1, e1, (inr y2, e2, (inr y3, e3, (inr y4, e4, (inr y5, e5, (inr y6, e6, (inr y7, e7, (inr y8, e8, (inr y9, e9, (inr y10, e10, s))))))))))), (refl, refl))

pub same_declaration : SpellTheSame written_declaration declaration
same_declaration = both_like written_declaration declaration to_declaration of_declaration
