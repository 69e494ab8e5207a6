-- Commands spell the same as they are written.
use Rattle.std.proofs.Common.{◌≡◌, ℕ, Bool, true, false, List, [], ◌∷◌, ◌++◌, Option, Some, None, refl, sym, ap, ◌∙◌, append_assoc, ◌⊎◌, inl, inr}
use Rattle.std.specs.Prelude.{◌==◌, ◌||◌}
use Rattle.uc_forms.specs.Form.{quiet, before, after, member}
use Rattle.uc_forms.proofs.Opening.{member_left, member_right}
use Rattle.uc_forms.specs.Spelling.{Language, Standing, SpellWith, stand, stands_with}
use Rattle.uc_lexer.specs.declared.place.Place.{Place}
use Rattle.uc_syntax.specs.declared.place.Identifier.{Identifier}
use Rattle.uc_syntax.specs.declared.declaration.WrittenRun.{WrittenRun}
use Rattle.uc_syntax.specs.declared.declaration.WrittenRun.TheVariants as runs
use Rattle.uc_syntax.specs.declared.declaration.Command.{Command}
use Rattle.uc_syntax.specs.declared.declaration.Command.TheVariants as commands
use Rattle.uc_grammar.specs.declared.word.Word.{Word}
use Rattle.uc_grammar.specs.declared.word.Kind.TheVariants.{Assign, Dot, Semicolon}
use Rattle.uc_grammar.specs.Syntax.{words, Nested, Value, F, flat, identifier, run, counterexample, command}
use Rattle.uc_grammar.specs.Same.{SpellTheSame}
use Rattle.uc_grammar.specs.Written.{first_place, written_command}
use Rattle.uc_grammar.proofs.Regroup.{Into, moved, moved_words}
use Rattle.uc_grammar.proofs.Spelled.{both_ways}

-- ---- which of the names a word is

abbrev all_names : List ℕ
all_names = 0 ∷ 1 ∷ 2 ∷ 3 ∷ 4 ∷ 5 ∷ 6 ∷ 7 ∷ 8 ∷ []

abbrev plain_names : List ℕ
plain_names = 0 ∷ 1 ∷ 2 ∷ []

-- a name that begins a command of its own, or another
abbrev IsOneOf : ℕ → Type 0
IsOneOf c = (member c (3 ∷ []) ≡ true) ⊎ ((member c (4 ∷ []) ≡ true) ⊎ ((member c (5 ∷ []) ≡ true) ⊎ ((member c (6 ∷ []) ≡ true) ⊎ ((member c (7 ∷ []) ≡ true) ⊎ ((member c (8 ∷ []) ≡ true) ⊎ (member c plain_names ≡ true))))))

which : (c : ℕ) → member c all_names ≡ true → IsOneOf c
which c m = tested (c == 0) (c == 1) (c == 2) (c == 3) (c == 4) (c == 5) (c == 6) (c == 7) (c == 8) m
  where
    tested : (b0 b1 b2 b3 b4 b5 b6 b7 b8 : Bool) → (b0 || (b1 || (b2 || (b3 || (b4 || (b5 || (b6 || (b7 || (b8 || false))))))))) ≡ true
        → ((b3 || false) ≡ true) ⊎ (((b4 || false) ≡ true) ⊎ (((b5 || false) ≡ true) ⊎ (((b6 || false) ≡ true) ⊎ (((b7 || false) ≡ true) ⊎ (((b8 || false) ≡ true) ⊎ ((b0 || (b1 || (b2 || false))) ≡ true))))))
    tested true b1 b2 b3 b4 b5 b6 b7 b8 h = inr (inr (inr (inr (inr (inr refl)))))
    tested false true b2 b3 b4 b5 b6 b7 b8 h = inr (inr (inr (inr (inr (inr refl)))))
    tested false false true b3 b4 b5 b6 b7 b8 h = inr (inr (inr (inr (inr (inr refl)))))
    tested false false false true b4 b5 b6 b7 b8 h = inl refl
    tested false false false false true b5 b6 b7 b8 h = inr (inl refl)
    tested false false false false false true b6 b7 b8 h = inr (inr (inl refl))
    tested false false false false false false true b7 b8 h = inr (inr (inr (inl refl)))
    tested false false false false false false false true b8 h = inr (inr (inr (inr (inl refl))))
    tested false false false false false false false false true h = inr (inr (inr (inr (inr (inl refl)))))
    tested false false false false false false false false false h = absurd cc

-- a name among so many before and after is a name
among : (c k : ℕ) (front back : List ℕ) → member c (k ∷ []) ≡ true → member c (front ++ k ∷ back) ≡ true
among c k front back m = member_right words c front (k ∷ back) (member_left words c (k ∷ []) back m)

abbrev Cex : Type 0
Cex = Option (List (List Identifier))

abbrev run_of : Word → Place × WrittenRun → Command
run_of w r = commands.Run w.place (Some (identifier w)) r.1

abbrev cex_of : Word → Cex → Command
cex_of w ps = commands.PrintCounterexamples w.place (Some (identifier w)) ps

abbrev run_end : F (Place × WrittenRun)
run_end = after Assign (before run Semicolon)

abbrev cex_end : F Cex
cex_end = after Dot counterexample

module _ (L : Language words Nested Value) (inner : Standing words Nested Value L) where
  -- ---- what is written, by the grammar

  named_run : (ws : List Word) (w : Word) (f1 rest : List Word) (i : ws ≡ f1 ++ rest) (p : f1 ≡ w ∷ []) (r : Place × WrittenRun) (s : SpellWith L run_end rest r) → IsOneOf (words.kind w)
      → (t : SpellWith L command ws (run_of w r)) × (stand quiet w ∷ stands_with L inner run_end rest r s ≡ stands_with L inner command ws (run_of w r) t)
  unfolding command
  named_run ws w f1 rest i p r s (inl m) = ((inl (run_of w r), refl, ((w, inl r), refl, (f1, rest, i, (p, m), s))), refl)
  named_run ws w f1 rest i p r s (inr (inl m)) = ((inr (run_of w r), refl, (inl (run_of w r), refl, ((w, inl r), refl, (f1, rest, i, (p, m), s)))), refl)
  named_run ws w f1 rest i p r s (inr (inr (inl m))) = ((inr (run_of w r), refl, (inr (run_of w r), refl, (inl (run_of w r), refl, ((w, inl r), refl, (f1, rest, i, (p, m), s))))), refl)
  named_run ws w f1 rest i p r s (inr (inr (inr (inl m)))) = ((inr (run_of w r), refl, (inr (run_of w r), refl, (inr (run_of w r), refl, (inl (run_of w r), refl, ((w, inl r), refl, (f1, rest, i, (p, m), s)))))), refl)
  named_run ws w f1 rest i p r s (inr (inr (inr (inr (inl m))))) = ((inr (run_of w r), refl, (inr (run_of w r), refl, (inr (run_of w r), refl, (inr (run_of w r), refl, (inl (run_of w r), refl, ((w, inl r), refl, (f1, rest, i, (p, m), s))))))), refl)
  named_run ws w f1 rest i p r s (inr (inr (inr (inr (inr (inl m)))))) = ((inr (run_of w r), refl, (inr (run_of w r), refl, (inr (run_of w r), refl, (inr (run_of w r), refl, (inr (run_of w r), refl, (inl (run_of w r), refl, ((w, inl r), refl, (f1, rest, i, (p, m), s)))))))), refl)
  named_run ws w f1 rest i p r s (inr (inr (inr (inr (inr (inr m)))))) = ((inr (run_of w r), refl, (inr (run_of w r), refl, (inr (run_of w r), refl, (inr (run_of w r), refl, (inr (run_of w r), refl, (inr (run_of w r), refl, ((w, inl r), refl, (f1, rest, i, (p, m), s)))))))), refl)

  named_cex : (ws : List Word) (w : Word) (f1 rest : List Word) (i : ws ≡ f1 ++ rest) (p : f1 ≡ w ∷ []) (ps : Cex) (s : SpellWith L cex_end rest ps) → IsOneOf (words.kind w)
      → (t : SpellWith L command ws (cex_of w ps)) × (stand quiet w ∷ stands_with L inner cex_end rest ps s ≡ stands_with L inner command ws (cex_of w ps) t)
  unfolding command
  named_cex ws w f1 rest i p ps s (inl m) = ((inl (cex_of w ps), refl, ((w, inr (inl ps)), refl, (f1, rest, i, (p, m), s))), refl)
  named_cex ws w f1 rest i p ps s (inr (inl m)) = ((inr (cex_of w ps), refl, (inl (cex_of w ps), refl, ((w, inr (inl ps)), refl, (f1, rest, i, (p, m), s)))), refl)
  named_cex ws w f1 rest i p ps s (inr (inr (inl m))) = ((inr (cex_of w ps), refl, (inr (cex_of w ps), refl, (inl (cex_of w ps), refl, ((w, inr (inl ps)), refl, (f1, rest, i, (p, m), s))))), refl)
  named_cex ws w f1 rest i p ps s (inr (inr (inr (inl m)))) = ((inr (cex_of w ps), refl, (inr (cex_of w ps), refl, (inr (cex_of w ps), refl, (inl (cex_of w ps), refl, ((w, inr (inl ps)), refl, (f1, rest, i, (p, m), s)))))), refl)
  named_cex ws w f1 rest i p ps s (inr (inr (inr (inr (inl m))))) = ((inr (cex_of w ps), refl, (inr (cex_of w ps), refl, (inr (cex_of w ps), refl, (inr (cex_of w ps), refl, (inl (cex_of w ps), refl, ((w, inr (inl ps)), refl, (f1, rest, i, (p, m), s))))))), refl)
  named_cex ws w f1 rest i p ps s (inr (inr (inr (inr (inr (inl m)))))) = ((inr (cex_of w ps), refl, (inr (cex_of w ps), refl, (inr (cex_of w ps), refl, (inr (cex_of w ps), refl, (inr (cex_of w ps), refl, (inl (cex_of w ps), refl, ((w, inr (inl ps)), refl, (f1, rest, i, (p, m), s)))))))), refl)
  named_cex ws w f1 rest i p ps s (inr (inr (inr (inr (inr (inr m)))))) = ((inr (cex_of w ps), refl, (inr (cex_of w ps), refl, (inr (cex_of w ps), refl, (inr (cex_of w ps), refl, (inr (cex_of w ps), refl, (inr (cex_of w ps), refl, ((w, inr ps), refl, (f1, rest, i, (p, m), s)))))))), refl)

  -- a run without a name
  bare_run : (ws : List Word) (r : Place × WrittenRun) (s : SpellWith L (before run Semicolon) ws r) → (t : SpellWith L command ws (commands.Run r.0 None r.1)) × (stands_with L inner (before run Semicolon) ws r s ≡ stands_with L inner command ws (commands.Run r.0 None r.1) t)
  unfolding command run
  bare_run ws r ((r1, z), c, (f2, b2, j, (inl r2, e2, ((w, n), e3, (f3, b3, j3, sw, sn))), sz)) =
      let v : Command = commands.Run w.place None (runs.Unroll n) in
      moved {T = words} L inner command ws v (commands.Run r.0 None r.1) (ap (λ q. commands.Run q.0 None q.1) (sym (c ∙ (e2 ∙ e3))))
      (inl v, refl, ((w, inr (inr (λ u. commands.Run u.place None (runs.Unroll n)))), refl, (f3, b3 ++ b2, j ∙ (ap (λ us. us ++ b2) j3 ∙ append_assoc f3 b3 b2), sw, (n, refl, ((n, z), refl, (b3, b2, refl, sn, sz))))))
  bare_run ws r ((r1, z), c, (f2, b2, j, (inr r2, e2, (inl r3, e3, ((w, o), e4, (f3, b3, j3, sw, so)))), sz)) =
      let v : Command = commands.Run w.place None (runs.Induction (flat o)) in
      moved {T = words} L inner command ws v (commands.Run r.0 None r.1) (ap (λ q. commands.Run q.0 None q.1) (sym (c ∙ (e2 ∙ (e3 ∙ e4)))))
      (inr v, refl, (inl v, refl, ((w, inr (inr (λ u. commands.Run u.place None (runs.Induction (flat o))))), refl, (f3, b3 ++ b2, j ∙ (ap (λ us. us ++ b2) j3 ∙ append_assoc f3 b3 b2), sw, (o, refl, ((o, z), refl, (b3, b2, refl, so, sz)))))))
  bare_run ws r ((r1, z), c, (f2, b2, j, (inr r2, e2, (inr r3, e3, ((w, n), e4, (f3, b3, j3, sw, sn)))), sz)) =
      let v : Command = commands.Run w.place None (runs.Verify n) in
      moved {T = words} L inner command ws v (commands.Run r.0 None r.1) (ap (λ q. commands.Run q.0 None q.1) (sym (c ∙ (e2 ∙ (e3 ∙ e4)))))
      (inr v, refl, (inr v, refl, (inl v, refl, ((w, inr (inr (λ u. commands.Run u.place None (runs.Verify n)))), refl, (f3, b3 ++ b2, j ∙ (ap (λ us. us ++ b2) j3 ∙ append_assoc f3 b3 b2), sw, (n, refl, ((n, z), refl, (b3, b2, refl, sn, sz))))))))

  -- the words of a name, a sign and the rest
  shifted : (ws front back f1 b1 : List Word) → ws ≡ front ++ back → front ≡ f1 ++ b1 → ws ≡ f1 ++ (b1 ++ back)
  shifted ws front back f1 b1 i j = i ∙ (ap (λ us. us ++ back) j ∙ append_assoc f1 b1 back)

  to_command : Into L inner written_command command
  unfolding command written_command counterexample
  to_command ws a (inl y, e, ((o, r), q, (front, back, i, (inl n, d, ((n1, z), c, (f1, b1, j, (w, g, (p, m)), sz))), s))) =
      let t = named_run ws w f1 (b1 ++ back) (shifted ws front back f1 b1 i j) p r ((z, r), refl, (b1, back, refl, sz, s)) (which (words.kind w) m) in
      let u = moved {T = words} L inner command ws (run_of w r) a (sym (e ∙ (q ∙ ap (λ x. commands.Run (first_place x r.0) x r.1) (d ∙ ap Some (c ∙ g))))) t.0 in
      (u.0, t.1 ∙ u.1)
  to_command ws a (inl y, e, ((o, r), q, (front, back, i, (inr x, d, z), s))) =
      let h = moved_words {T = words} L inner (before run Semicolon) back ws r (sym (i ∙ ap (λ us. us ++ back) z)) s in
      let t = bare_run ws r h.0 in
      let u = moved {T = words} L inner command ws (commands.Run r.0 None r.1) a (sym (e ∙ (q ∙ ap (λ x. commands.Run (first_place x r.0) x r.1) d))) t.0 in
      (u.0, h.1 ∙ (t.1 ∙ u.1))
  to_command ws a (inr y, e, (inl y1, e1, (w, q, ((w1, z), c, (f1, b1, j, sw, sz))))) =
      ((inr a, refl, (inr a, refl, (inr a, refl, (inl a, refl, ((w1, inr (inr (λ u. commands.Check u.place))), e ∙ (e1 ∙ (q ∙ ap (λ (x : Word). commands.Check x.place) c)), (f1, b1, j, sw, (z, refl, sz))))))), refl)
  to_command ws a (inr y, e, (inr y1, e1, (inl y2, e2, (w, q, ((w1, z), c, (f1, b1, j, sw, sz)))))) =
      ((inr a, refl, (inr a, refl, (inr a, refl, (inr a, refl, (inl a, refl, ((w1, inr (inr (λ u. commands.PrintResults u.place))), e ∙ (e1 ∙ (e2 ∙ (q ∙ ap (λ (x : Word). commands.PrintResults x.place) c))), (f1, b1, j, sw, (z, refl, sz)))))))), refl)
  to_command ws a (inr y, e, (inr y1, e1, (inr y2, e2, ((o, (w, ps)), q, (front, back, i, (inl n, d, ((n1, z), c, (f1, b1, j, (v, g, (p, m)), sz))), s))))) =
      let t = named_cex ws v f1 (b1 ++ back) (shifted ws front back f1 b1 i j) p ps ((z, ps), refl, (b1, back, refl, sz, ((w, ps), refl, s))) (which (words.kind v) m) in
      let u = moved {T = words} L inner command ws (cex_of v ps) a (sym (e ∙ (e1 ∙ (e2 ∙ (q ∙ ap (λ x. commands.PrintCounterexamples (first_place x w.place) x ps) (d ∙ ap Some (c ∙ g))))))) t.0 in
      (u.0, t.1 ∙ u.1)
  to_command ws a (inr y, e, (inr y1, e1, (inr y2, e2, ((o, (w, ps)), q, (front, back, i, (inr x, d, z), (f1, b1, j, sw, s)))))) =
      ((inr a, refl, (inr a, refl, (inr a, refl, (inr a, refl, (inr a, refl, (inl a, refl, ((w, inr (inr (λ u. commands.PrintCounterexamples u.place None ps))), e ∙ (e1 ∙ (e2 ∙ (q ∙ ap (λ x. commands.PrintCounterexamples (first_place x w.place) x ps) d))), (f1, b1, i ∙ (ap (λ us. us ++ back) z ∙ j), sw, (ps, refl, s))))))))), refl)

  -- ---- what the grammar has, as it is written

  of_named_run : (ws : List Word) (a : Command) (w : Word) (f1 rest : List Word) (i : ws ≡ f1 ++ rest) (p : f1 ≡ w ∷ []) (r : Place × WrittenRun) (s : SpellWith L run_end rest r) → member (words.kind w) all_names ≡ true → a ≡ run_of w r
      → (t : SpellWith L written_command ws a) × (stand quiet w ∷ stands_with L inner run_end rest r s ≡ stands_with L inner written_command ws a t)
  unfolding written_command
  of_named_run ws a w f1 rest i p r ((z, r1), c, (b1, back, j, sz, s)) m e =
      ((inl a, refl, ((Some (identifier w), r1), e ∙ ap (λ (x : Place × WrittenRun). run_of w x) c, (f1 ++ b1, back, i ∙ (ap (λ us. f1 ++ us) j ∙ sym (append_assoc f1 b1 back)), (inl (identifier w), refl, ((identifier w, z), refl, (f1, b1, refl, (w, refl, (p, m)), sz))), s))), refl)

  of_named_cex : (ws : List Word) (a : Command) (w : Word) (f1 rest : List Word) (i : ws ≡ f1 ++ rest) (p : f1 ≡ w ∷ []) (ps : Cex) (s : SpellWith L cex_end rest ps) → member (words.kind w) all_names ≡ true → a ≡ cex_of w ps
      → (t : SpellWith L written_command ws a) × (stand quiet w ∷ stands_with L inner cex_end rest ps s ≡ stands_with L inner written_command ws a t)
  unfolding written_command counterexample
  of_named_cex ws a w f1 rest i p ps ((z, p1), c, (b1, back, j, sz, ((v, p2), d, s))) m e =
      ((inr a, refl, (inr a, refl, (inr a, refl, ((Some (identifier w), (v, p2)), e ∙ ap (λ (x : Cex). cex_of w x) (c ∙ d), (f1 ++ b1, back, i ∙ (ap (λ us. f1 ++ us) j ∙ sym (append_assoc f1 b1 back)), (inl (identifier w), refl, ((identifier w, z), refl, (f1, b1, refl, (w, refl, (p, m)), sz))), s))))), refl)

  of_bare_run : (ws : List Word) (a : Command) (r : Place × WrittenRun) (s : SpellWith L (before run Semicolon) ws r) → a ≡ commands.Run r.0 None r.1
      → (t : SpellWith L written_command ws a) × (stands_with L inner (before run Semicolon) ws r s ≡ stands_with L inner written_command ws a t)
  unfolding written_command
  of_bare_run ws a r s e = ((inl a, refl, ((None, r), e, ([], ws, refl, (inr tt, refl, refl), s))), refl)

  of_command : Into L inner command written_command
  unfolding command written_command run
  of_command ws a (inl y, e, ((w, inl r), q, (f1, rest, i, (p, m), s))) = of_named_run ws a w f1 rest i p r s (among (words.kind w) 3 (0 ∷ 1 ∷ 2 ∷ []) (4 ∷ 5 ∷ 6 ∷ 7 ∷ 8 ∷ []) m) (e ∙ (q))
  of_command ws a (inl y, e, ((w, inr (inl ps)), q, (f1, rest, i, (p, m), s))) = of_named_cex ws a w f1 rest i p ps s (among (words.kind w) 3 (0 ∷ 1 ∷ 2 ∷ []) (4 ∷ 5 ∷ 6 ∷ 7 ∷ 8 ∷ []) m) (e ∙ (q))
  of_command ws a (inl y, e, ((w, inr (inr own)), q, (f1, rest, i, (p, m), (n, d, ((n1, z), c, (b1, b2, j, sn, sz)))))) =
      of_bare_run ws a (w.place, runs.Unroll n1) (((w.place, runs.Unroll n1), z), refl, (f1 ++ b1, b2, i ∙ (ap (λ us. f1 ++ us) j ∙ sym (append_assoc f1 b1 b2)), (inl (w.place, runs.Unroll n1), refl, ((w, n1), refl, (f1, b1, refl, (p, m), sn))), sz)) (e ∙ (q ∙ (ap (λ (k : Word → Command). k w) d ∙ ap (λ n. commands.Run w.place None (runs.Unroll n)) c)))
  of_command ws a (inr y0, e0, (inl y, e, ((w, inl r), q, (f1, rest, i, (p, m), s)))) = of_named_run ws a w f1 rest i p r s (among (words.kind w) 4 (0 ∷ 1 ∷ 2 ∷ 3 ∷ []) (5 ∷ 6 ∷ 7 ∷ 8 ∷ []) m) (e0 ∙ (e ∙ (q)))
  of_command ws a (inr y0, e0, (inl y, e, ((w, inr (inl ps)), q, (f1, rest, i, (p, m), s)))) = of_named_cex ws a w f1 rest i p ps s (among (words.kind w) 4 (0 ∷ 1 ∷ 2 ∷ 3 ∷ []) (5 ∷ 6 ∷ 7 ∷ 8 ∷ []) m) (e0 ∙ (e ∙ (q)))
  of_command ws a (inr y0, e0, (inl y, e, ((w, inr (inr own)), q, (f1, rest, i, (p, m), (n, d, ((n1, z), c, (b1, b2, j, sn, sz))))))) =
      of_bare_run ws a (w.place, runs.Induction (flat n1)) (((w.place, runs.Induction (flat n1)), z), refl, (f1 ++ b1, b2, i ∙ (ap (λ us. f1 ++ us) j ∙ sym (append_assoc f1 b1 b2)), (inr (w.place, runs.Induction (flat n1)), refl, (inl (w.place, runs.Induction (flat n1)), refl, ((w, n1), refl, (f1, b1, refl, (p, m), sn)))), sz)) (e0 ∙ (e ∙ (q ∙ (ap (λ (k : Word → Command). k w) d ∙ ap (λ n. commands.Run w.place None (runs.Induction (flat n))) c))))
  of_command ws a (inr y0, e0, (inr y1, e1, (inl y, e, ((w, inl r), q, (f1, rest, i, (p, m), s))))) = of_named_run ws a w f1 rest i p r s (among (words.kind w) 5 (0 ∷ 1 ∷ 2 ∷ 3 ∷ 4 ∷ []) (6 ∷ 7 ∷ 8 ∷ []) m) (e0 ∙ (e1 ∙ (e ∙ (q))))
  of_command ws a (inr y0, e0, (inr y1, e1, (inl y, e, ((w, inr (inl ps)), q, (f1, rest, i, (p, m), s))))) = of_named_cex ws a w f1 rest i p ps s (among (words.kind w) 5 (0 ∷ 1 ∷ 2 ∷ 3 ∷ 4 ∷ []) (6 ∷ 7 ∷ 8 ∷ []) m) (e0 ∙ (e1 ∙ (e ∙ (q))))
  of_command ws a (inr y0, e0, (inr y1, e1, (inl y, e, ((w, inr (inr own)), q, (f1, rest, i, (p, m), (n, d, ((n1, z), c, (b1, b2, j, sn, sz)))))))) =
      of_bare_run ws a (w.place, runs.Verify n1) (((w.place, runs.Verify n1), z), refl, (f1 ++ b1, b2, i ∙ (ap (λ us. f1 ++ us) j ∙ sym (append_assoc f1 b1 b2)), (inr (w.place, runs.Verify n1), refl, (inr (w.place, runs.Verify n1), refl, ((w, n1), refl, (f1, b1, refl, (p, m), sn)))), sz)) (e0 ∙ (e1 ∙ (e ∙ (q ∙ (ap (λ (k : Word → Command). k w) d ∙ ap (λ n. commands.Run w.place None (runs.Verify n)) c)))))
  of_command ws a (inr y0, e0, (inr y1, e1, (inr y2, e2, (inl y, e, ((w, inl r), q, (f1, rest, i, (p, m), s)))))) = of_named_run ws a w f1 rest i p r s (among (words.kind w) 6 (0 ∷ 1 ∷ 2 ∷ 3 ∷ 4 ∷ 5 ∷ []) (7 ∷ 8 ∷ []) m) (e0 ∙ (e1 ∙ (e2 ∙ (e ∙ (q)))))
  of_command ws a (inr y0, e0, (inr y1, e1, (inr y2, e2, (inl y, e, ((w, inr (inl ps)), q, (f1, rest, i, (p, m), s)))))) = of_named_cex ws a w f1 rest i p ps s (among (words.kind w) 6 (0 ∷ 1 ∷ 2 ∷ 3 ∷ 4 ∷ 5 ∷ []) (7 ∷ 8 ∷ []) m) (e0 ∙ (e1 ∙ (e2 ∙ (e ∙ (q)))))
  of_command ws a (inr y0, e0, (inr y1, e1, (inr y2, e2, (inl y, e, ((w, inr (inr own)), q, (f1, rest, i, (p, m), (z, d, sz))))))) = ((inr a, refl, (inl a, refl, (w, e0 ∙ (e1 ∙ (e2 ∙ (e ∙ (q ∙ ap (λ (k : Word → Command). k w) d)))), ((w, z), refl, (f1, rest, i, (p, m), sz))))), refl)
  of_command ws a (inr y0, e0, (inr y1, e1, (inr y2, e2, (inr y3, e3, (inl y, e, ((w, inl r), q, (f1, rest, i, (p, m), s))))))) = of_named_run ws a w f1 rest i p r s (among (words.kind w) 7 (0 ∷ 1 ∷ 2 ∷ 3 ∷ 4 ∷ 5 ∷ 6 ∷ []) (8 ∷ []) m) (e0 ∙ (e1 ∙ (e2 ∙ (e3 ∙ (e ∙ (q))))))
  of_command ws a (inr y0, e0, (inr y1, e1, (inr y2, e2, (inr y3, e3, (inl y, e, ((w, inr (inl ps)), q, (f1, rest, i, (p, m), s))))))) = of_named_cex ws a w f1 rest i p ps s (among (words.kind w) 7 (0 ∷ 1 ∷ 2 ∷ 3 ∷ 4 ∷ 5 ∷ 6 ∷ []) (8 ∷ []) m) (e0 ∙ (e1 ∙ (e2 ∙ (e3 ∙ (e ∙ (q))))))
  of_command ws a (inr y0, e0, (inr y1, e1, (inr y2, e2, (inr y3, e3, (inl y, e, ((w, inr (inr own)), q, (f1, rest, i, (p, m), (z, d, sz)))))))) = ((inr a, refl, (inr a, refl, (inl a, refl, (w, e0 ∙ (e1 ∙ (e2 ∙ (e3 ∙ (e ∙ (q ∙ ap (λ (k : Word → Command). k w) d))))), ((w, z), refl, (f1, rest, i, (p, m), sz)))))), refl)
  of_command ws a (inr y0, e0, (inr y1, e1, (inr y2, e2, (inr y3, e3, (inr y4, e4, (inl y, e, ((w, inl r), q, (f1, rest, i, (p, m), s)))))))) = of_named_run ws a w f1 rest i p r s (among (words.kind w) 8 (0 ∷ 1 ∷ 2 ∷ 3 ∷ 4 ∷ 5 ∷ 6 ∷ 7 ∷ []) ([]) m) (e0 ∙ (e1 ∙ (e2 ∙ (e3 ∙ (e4 ∙ (e ∙ (q)))))))
  of_command ws a (inr y0, e0, (inr y1, e1, (inr y2, e2, (inr y3, e3, (inr y4, e4, (inl y, e, ((w, inr (inl ps)), q, (f1, rest, i, (p, m), s)))))))) = of_named_cex ws a w f1 rest i p ps s (among (words.kind w) 8 (0 ∷ 1 ∷ 2 ∷ 3 ∷ 4 ∷ 5 ∷ 6 ∷ 7 ∷ []) ([]) m) (e0 ∙ (e1 ∙ (e2 ∙ (e3 ∙ (e4 ∙ (e ∙ (q)))))))
  of_command ws a (inr y0, e0, (inr y1, e1, (inr y2, e2, (inr y3, e3, (inr y4, e4, (inl y, e, ((w, inr (inr own)), q, (f1, rest, i, (p, m), (ps, d, s))))))))) = ((inr a, refl, (inr a, refl, (inr a, refl, ((None, (w, ps)), e0 ∙ (e1 ∙ (e2 ∙ (e3 ∙ (e4 ∙ (e ∙ (q ∙ ap (λ (k : Word → Command). k w) d)))))), ([], ws, refl, (inr tt, refl, refl), (f1, rest, i, (p, m), s)))))), refl)
  of_command ws a (inr y0, e0, (inr y1, e1, (inr y2, e2, (inr y3, e3, (inr y4, e4, (inr y5, e5, ((w, inl r), q, (f1, rest, i, (p, m), s)))))))) = of_named_run ws a w f1 rest i p r s (member_left words (words.kind w) plain_names (3 ∷ 4 ∷ 5 ∷ 6 ∷ 7 ∷ 8 ∷ []) m) (e0 ∙ (e1 ∙ (e2 ∙ (e3 ∙ (e4 ∙ (e5 ∙ (q)))))))
  of_command ws a (inr y0, e0, (inr y1, e1, (inr y2, e2, (inr y3, e3, (inr y4, e4, (inr y5, e5, ((w, inr ps), q, (f1, rest, i, (p, m), s)))))))) = of_named_cex ws a w f1 rest i p ps s (member_left words (words.kind w) plain_names (3 ∷ 4 ∷ 5 ∷ 6 ∷ 7 ∷ 8 ∷ []) m) (e0 ∙ (e1 ∙ (e2 ∙ (e3 ∙ (e4 ∙ (e5 ∙ (q)))))))

pub same_command : SpellTheSame written_command command
same_command = both_ways written_command command to_command of_command
