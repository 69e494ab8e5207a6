-- A form that declares no name leaves the count as it is.
use Rattle.std.proofs.Common.{◌≡◌, ℕ, zero, suc, Bool, true, false, List, [], ◌∷◌, ◌++◌, length, map, Ok, Err, refl, ap, ◌∙◌, ◌⊎◌, inl, inr}
use Rattle.std.specs.Prelude.{if◌then◌else◌}
use Rattle.std.proofs.lemmas.Bool.{and_parts}
use Rattle.uc_forms.specs.declared.tally.Tally.{Tally}
use Rattle.uc_forms.specs.Alphabet.{Alphabet}
use Rattle.uc_forms.specs.Form.{Mark, quiet, declares, restarts, Form, any, nothing, both, either, chain, until, made, ahead, deep, Rules, member, codes_of}
use Rattle.uc_forms.specs.Spelling.{Stand, stand, one_deeper}
use Rattle.uc_forms.specs.Reading.{Outcome, is_at, is_at_two, first, read_with, read_at, note_word, then_note, note_turn, note_chain, note_until, note_two, note_with, note_at, noted}
use Rattle.uc_forms.specs.Plain.{is_quiet, is_silent}
use Rattle.uc_forms.specs.Tally.{with_word, counted_on}

abbrev AllQuiet : {W : Type 0} → List (Stand W) → Type 0
AllQuiet [] = Unit {0}
AllQuiet (x ∷ xs) = (is_quiet x.mark ≡ true) × AllQuiet xs

quiet_both : {W : Type 0} (xs ys : List (Stand W)) → AllQuiet xs → AllQuiet ys → AllQuiet (xs ++ ys)
quiet_both [] ys h k = k
quiet_both (x ∷ xs) ys h k = (h.0, quiet_both xs ys h.1 k)

quiet_deeper : {W : Type 0} (xs : List (Stand W)) → AllQuiet xs → AllQuiet (map one_deeper xs)
quiet_deeper [] h = tt
quiet_deeper (x ∷ xs) h = (h.0, quiet_deeper xs h.1)

quiet_if : {W : Type 0} (b : Bool) (xs ys : List (Stand W)) → AllQuiet xs → AllQuiet ys → AllQuiet (if b then xs else ys)
quiet_if true xs ys h k = h
quiet_if false xs ys h k = k

quiet_then : {W A : Type 0} (r : Outcome W A) (note : A → List W → List (Stand W)) → ((a : A) (rest : List W) → AllQuiet (note a rest)) → AllQuiet (then_note r note)
quiet_then (Ok x) note h = h x.0 x.1
quiet_then (Err e) note h = tt

quiet_two : {W : Type 0} (q : Mark) (note : List W → List (Stand W)) → is_quiet q ≡ true → ((ws : List W) → AllQuiet (note ws)) → (ws : List W) → AllQuiet (note_two q note ws)
quiet_two q note e h [] = tt
quiet_two q note e h (v ∷ []) = tt
quiet_two q note e h (v ∷ w ∷ ws) = (refl, (e, h ws))

quiet_turn : {W A B : Type 0} (x : A ⊎ B) (more : List (Stand W)) → AllQuiet more → AllQuiet (note_turn x more)
quiet_turn (inl a) more h = h
quiet_turn (inr b) more h = tt

module _ (T : Alphabet) where
  quiet_word : (q : Mark) (j : T.Kind) (js : List T.Kind) → is_quiet q ≡ true → (ws : List T.Word) → AllQuiet (note_word T q j js ws)
  quiet_word q j js e [] = tt
  quiet_word q j js e (w ∷ ws) = quiet_if (member (T.kind w) (codes_of T j js)) (stand q w ∷ []) [] (e, tt) tt

  quiet_chain : {A B : Type 0} (cs : List ℕ) (item : List T.Word → Outcome T.Word (A ⊎ B)) (note : List T.Word → List (Stand T.Word)) → ((ws : List T.Word) → AllQuiet (note ws)) → (n : ℕ) (ws : List T.Word) → AllQuiet (note_chain T cs item note n ws)
  unfolding note_chain
  quiet_chain cs item note h zero ws = tt
  quiet_chain cs item note h (suc n) ws = quiet_if (is_at T cs ws) _ [] (quiet_both (note ws) _ (h ws) (quiet_then (item ws) (λ x rest. note_turn x (note_chain T cs item note n rest)) (λ x rest. quiet_turn x _ (quiet_chain cs item note h n rest)))) tt

  quiet_until : {A : Type 0} (cs : List ℕ) (item : List T.Word → Outcome T.Word A) (note last : List T.Word → List (Stand T.Word)) → ((ws : List T.Word) → AllQuiet (note ws)) → ((ws : List T.Word) → AllQuiet (last ws)) → (n : ℕ) (ws : List T.Word) → AllQuiet (note_until T cs item note last n ws)
  unfolding note_until
  quiet_until cs item note last h g zero ws = g ws
  quiet_until cs item note last h g (suc n) ws = quiet_if (is_at T cs ws) _ _ (g ws) (quiet_both (note ws) _ (h ws) (quiet_then (item ws) (λ a rest. note_until T cs item note last n rest) (λ a rest. quiet_until cs item note last h g n rest)))

  quiet_form : {N : Type 0} {V : N → Type 0} (opens : N → List ℕ) (deeper : (n : N) → List T.Word → Outcome T.Word (V n)) (inner : (n : N) → List T.Word → List (Stand T.Word)) (table : N → Bool) → ((n : N) → table n ≡ true → (ws : List T.Word) → AllQuiet (inner n ws))
      → {A : Type 0} (f : Form T N V A) → is_silent table f ≡ true → (ws : List T.Word) → AllQuiet (note_with opens deeper inner f ws)
  quiet_form opens deeper inner table h (any q j js) s ws = quiet_word q j js s ws
  quiet_form opens deeper inner table h nothing s ws = tt
  quiet_form opens deeper inner table h (both f g) s ws =
      let p = and_parts (is_silent table f) (is_silent table g) s in
      quiet_both (note_with opens deeper inner f ws) _ (quiet_form opens deeper inner table h f p.0 ws) (quiet_then (read_with opens deeper f ws) (λ a rest. note_with opens deeper inner g rest) (λ a rest. quiet_form opens deeper inner table h g p.1 rest))
  quiet_form opens deeper inner table h (either f g) s ws = let p = and_parts (is_silent table f) (is_silent table g) s in quiet_if (is_at T (first opens f) ws) _ _ (quiet_form opens deeper inner table h f p.0 ws) (quiet_form opens deeper inner table h g p.1 ws)
  quiet_form opens deeper inner table h (chain f) s ws = quiet_chain (first opens f) (read_with opens deeper f) (note_with opens deeper inner f) (quiet_form opens deeper inner table h f s) (length ws) ws
  quiet_form opens deeper inner table h (until f g) s ws =
      let p = and_parts (is_silent table f) (is_silent table g) s in
      quiet_until (first opens g) (read_with opens deeper f) (note_with opens deeper inner f) (note_with opens deeper inner g) (quiet_form opens deeper inner table h f p.0) (quiet_form opens deeper inner table h g p.1) (suc (length ws)) ws
  quiet_form opens deeper inner table h (made m f) s ws = quiet_form opens deeper inner table h f s ws
  quiet_form opens deeper inner table h (ahead q j js k f g) s ws =
      let p = and_parts (is_quiet q) _ s in
      let r = and_parts (is_silent table f) (is_silent table g) p.1 in
      quiet_if (is_at_two T j js k ws) _ _ (quiet_two q (note_with opens deeper inner f) p.0 (quiet_form opens deeper inner table h f r.0) ws) (quiet_form opens deeper inner table h g r.1 ws)
  quiet_form opens deeper inner table h (deep n) s ws = quiet_deeper (inner n ws) (h n s ws)

with_quiet : {W : Type 0} (t : Tally W) (q : Mark) (w : W) (d : ℕ) → is_quiet q ≡ true → (let x : Stand W = record { mark = q; name = w; depth = d } in with_word t x ≡ t)
with_quiet t quiet w d e = refl
with_quiet t declares w d e = absurd cc
with_quiet t restarts w d e = absurd cc

counted_quiet : {W : Type 0} (t : Tally W) (xs : List (Stand W)) → AllQuiet xs → counted_on t xs ≡ t
counted_quiet t [] h = refl
counted_quiet {W} t (x ∷ xs) h = ap (λ (u : Tally W). counted_on u xs) (with_quiet t x.mark x.name x.depth h.0) ∙ counted_quiet t xs h.1

module _ {T : Alphabet} {N : Type 0} {V : N → Type 0} (rule : Rules T N V) (opens : N → List ℕ) (table : N → Bool) (rules_silent : (n : N) → table n ≡ true → is_silent table (rule n) ≡ true) where
  at_quiet : (levels : ℕ) (n : N) → table n ≡ true → (ws : List T.Word) → AllQuiet (note_at rule opens levels n ws)
  unfolding note_at
  at_quiet zero n e ws = tt
  at_quiet (suc m) n e ws = quiet_form T opens (read_at rule opens m) (note_at rule opens m) table (at_quiet m) (rule n) (rules_silent n e) ws

  pub silent : (levels : ℕ) {A : Type 0} (f : Form T N V A) → is_silent table f ≡ true → (t : Tally T.Word) (ws : List T.Word) → counted_on t (noted rule opens levels f ws) ≡ t
  silent levels f s t ws = counted_quiet t (noted rule opens levels f ws) (quiet_form T opens (read_at rule opens levels) (note_at rule opens levels) table (at_quiet levels) f s ws)
