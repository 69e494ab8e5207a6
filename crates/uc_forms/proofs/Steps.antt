-- How the words of each shape of form are counted.
use Rattle.std.proofs.Common.{◌≡◌, ℕ, Bool, true, false, List, [], ◌∷◌, Ok, Err, refl, sym, ap, subst, ◌∙◌}
use Rattle.std.specs.Prelude.{if◌then◌else◌}
use Rattle.std.proofs.lemmas.Bool.{and_parts}
use Rattle.uc_forms.specs.declared.fault.Fault.{Fault}
use Rattle.uc_forms.specs.declared.fault.Fault.TheVariants.{Syntax}
use Rattle.uc_forms.specs.declared.tally.Tally.{Tally}
use Rattle.uc_forms.specs.Alphabet.{Alphabet}
use Rattle.uc_forms.specs.Form.{Mark, quiet, declares, restarts, Form, both, either, ahead, deep, Rules, after, before, word, member, codes_of}
use Rattle.uc_forms.specs.Spelling.{stand}
use Rattle.uc_forms.specs.Reading.{Outcome, is_at, is_at_two, read_any, read_word, read, first, note_word, note_two, note_at, noted}
use Rattle.uc_forms.specs.Tally.{one_more, anew, with_word, counted_on}
use Rattle.uc_forms.proofs.Tallies.{counted_append, counted_deeper}

module _ (T : Alphabet) where
  abbrev first_or : T.Word → Outcome T.Word T.Word → T.Word
  first_or v (Ok x) = x.0
  first_or v (Err e) = v

  abbrev rest_of : Outcome T.Word T.Word → List T.Word
  rest_of (Ok x) = x.1
  rest_of (Err e) = e.1

  abbrev gives : T.Word → List T.Word → Outcome T.Word T.Word
  gives w ws = Ok (w, ws)

  abbrev stops : List T.Word → Outcome T.Word T.Word
  stops ws = Err (Syntax, ws)

  -- a word that is taken
  pub word_noted : (q : Mark) (j : T.Kind) (js : List T.Kind) (ws : List T.Word) (w : T.Word) (rest : List T.Word) → read_any T j js ws ≡ Ok (w, rest) → note_word T q j js ws ≡ stand q w ∷ []
  word_noted q j js [] w rest e = absurd cc
  word_noted q j js (v ∷ ws) w rest e = tested (member (T.kind v) (codes_of T j js)) e
    where
      tested : (b : Bool) → (if b then gives v ws else stops (v ∷ ws)) ≡ gives w rest → (if b then stand q v ∷ [] else []) ≡ stand q w ∷ []
      tested true i = ap (λ (z : Outcome T.Word T.Word). stand q (first_or w z) ∷ []) i
      tested false i = absurd cc

  pub none_noted : (q : Mark) (j : T.Kind) (js : List T.Kind) (ws : List T.Word) (f : Fault × List T.Word) → read_any T j js ws ≡ Err f → note_word T q j js ws ≡ []
  none_noted q j js [] f e = refl
  none_noted q j js (v ∷ ws) f e = tested (member (T.kind v) (codes_of T j js)) e
    where
      tested : (b : Bool) → (if b then gives v ws else stops (v ∷ ws)) ≡ Err f → (if b then stand q v ∷ [] else []) ≡ []
      tested true i = absurd cc
      tested false i = refl

  pub quiet_word : (n : Tally T.Word) (j : T.Kind) (js : List T.Kind) (ws : List T.Word) → counted_on n (note_word T quiet j js ws) ≡ n
  quiet_word n j js [] = refl
  quiet_word n j js (v ∷ ws) = tested (member (T.kind v) (codes_of T j js))
    where
      tested : (b : Bool) → counted_on n (if b then stand quiet v ∷ [] else []) ≡ n
      tested true = refl
      tested false = refl

  module _ {N : Type 0} {V : N → Type 0} (rule : Rules T N V) (opens : N → List ℕ) (levels : ℕ) (n : Tally T.Word) where
    -- a declared name, and a word where the count starts again
    pub declared_counts : (j : T.Kind) (js : List T.Kind) (ws : List T.Word) (w : T.Word) (rest : List T.Word) → read_any T j js ws ≡ Ok (w, rest) → counted_on n (note_word T declares j js ws) ≡ one_more n w
    declared_counts j js ws w rest e = ap (λ xs. counted_on n xs) (word_noted declares j js ws w rest e)

    pub restart_counts : (k : T.Kind) (ws : List T.Word) (w : T.Word) (rest : List T.Word) → read_word T k ws ≡ Ok (w, rest) → counted_on n (note_word T restarts k [] ws) ≡ anew n
    restart_counts k ws w rest e = ap (λ xs. counted_on n xs) (word_noted restarts k [] ws w rest e)

    pub none_counts : (q : Mark) (j : T.Kind) (js : List T.Kind) (ws : List T.Word) (f : Fault × List T.Word) → read_any T j js ws ≡ Err f → counted_on n (note_word T q j js ws) ≡ n
    none_counts q j js ws f e = ap (λ xs. counted_on n xs) (none_noted q j js ws f e)

    -- one after the other: the first part was read, or stopped
    pub both_counts : {A B : Type 0} (f : Form T N V A) (g : Form T N V B) (ws : List T.Word) (a : A) (mid : List T.Word) → read rule opens levels f ws ≡ Ok (a, mid) → counted_on n (noted rule opens levels (both f g) ws) ≡ counted_on (counted_on n (noted rule opens levels f ws)) (noted rule opens levels g mid)
    both_counts f g ws a mid e = rw e (counted_append n (noted rule opens levels f ws) (noted rule opens levels g mid))

    pub both_stops : {A B : Type 0} (f : Form T N V A) (g : Form T N V B) (ws : List T.Word) (d : Fault × List T.Word) → read rule opens levels f ws ≡ Err d → counted_on n (noted rule opens levels (both f g) ws) ≡ counted_on n (noted rule opens levels f ws)
    both_stops f g ws d e = rw e (counted_append n (noted rule opens levels f ws) [])

    -- behind a word
    pub after_counts : {A : Type 0} (k : T.Kind) (f : Form T N V A) (ws : List T.Word) (w : T.Word) (mid : List T.Word) → read_word T k ws ≡ Ok (w, mid) → counted_on n (noted rule opens levels (after k f) ws) ≡ counted_on n (noted rule opens levels f mid)
    after_counts k f ws w mid e = rw (e, word_noted quiet k [] ws w mid e) refl

    pub after_stops : {A : Type 0} (k : T.Kind) (f : Form T N V A) (ws : List T.Word) (d : Fault × List T.Word) → read_word T k ws ≡ Err d → counted_on n (noted rule opens levels (after k f) ws) ≡ n
    after_stops k f ws d e = rw (e, none_noted quiet k [] ws d e) refl

    -- before a word
    pub before_counts : {A : Type 0} (f : Form T N V A) (k : T.Kind) (ws : List T.Word) → counted_on n (noted rule opens levels (before f k) ws) ≡ counted_on n (noted rule opens levels f ws)
    before_counts {A} f k ws = by_read (read rule opens levels f ws) refl
      where
        by_read : (r : Outcome T.Word A) → read rule opens levels f ws ≡ r → counted_on n (noted rule opens levels (before f k) ws) ≡ counted_on n (noted rule opens levels f ws)
        by_read (Ok x) e = both_counts f (word k) ws x.0 x.1 e ∙ quiet_word (counted_on n (noted rule opens levels f ws)) k [] x.1
        by_read (Err d) e = both_stops f (word k) ws d e

    -- one or the other
    pub first_counts : {A B : Type 0} (f : Form T N V A) (g : Form T N V B) (ws : List T.Word) → is_at T (first opens f) ws ≡ true → counted_on n (noted rule opens levels (either f g) ws) ≡ counted_on n (noted rule opens levels f ws)
    first_counts f g ws t = rw t refl

    pub second_counts : {A B : Type 0} (f : Form T N V A) (g : Form T N V B) (ws : List T.Word) → is_at T (first opens f) ws ≡ false → counted_on n (noted rule opens levels (either f g) ws) ≡ counted_on n (noted rule opens levels g ws)
    second_counts f g ws t = rw t refl

    -- where two words are looked at
    pub ahead_counts : {A B : Type 0} (q : Mark) (j : T.Kind) (js : List T.Kind) (k : T.Kind) (f : Form T N V A) (g : Form T N V B) (ws mid : List T.Word) (v w : T.Word) (rest : List T.Word) → is_at_two T j js k ws ≡ true → read_any T j js ws ≡ Ok (v, mid) → read_word T k mid ≡ Ok (w, rest)
        → counted_on n (noted rule opens levels (ahead q j js k f g) ws) ≡ counted_on (with_word n (stand q v)) (noted rule opens levels f rest)
    ahead_counts q j js k f g [] mid v w rest t d e = absurd cc
    ahead_counts q j js k f g (x ∷ us) mid v w rest t d e =
        let p = and_parts (member (T.kind x) (codes_of T j js)) (is_at T (T.code k ∷ []) us) t in
        let z : gives x us ≡ gives v mid = (let y : read_any T j js (x ∷ us) ≡ gives v mid = d in rw p.0 at y) in
        let same : x ≡ v = ap (λ (o : Outcome T.Word T.Word). first_or v o) z in
        let left : us ≡ mid = ap (λ (o : Outcome T.Word T.Word). rest_of o) z in
        rw t (two_noted us x (subst (λ (ys : List T.Word). read_word T k ys ≡ Ok (w, rest)) (sym left) e) ∙ ap (λ (u : T.Word). counted_on (with_word n (stand q u)) (noted rule opens levels f rest)) same)
      where
        two_noted : (us : List T.Word) (x : T.Word) → read_word T k us ≡ Ok (w, rest) → counted_on n (note_two q (noted rule opens levels f) (x ∷ us)) ≡ counted_on (with_word n (stand q x)) (noted rule opens levels f rest)
        two_noted [] x i = absurd cc
        two_noted (y ∷ us) x i = ap (λ (ys : List T.Word). counted_on (with_word n (stand q x)) (noted rule opens levels f ys)) (by_test (member (T.kind y) (T.code k ∷ [])) i)
          where
            by_test : (b : Bool) → (if b then gives y us else stops (y ∷ us)) ≡ gives w rest → us ≡ rest
            by_test true i = ap (λ (o : Outcome T.Word T.Word). rest_of o) i
            by_test false i = absurd cc

    pub not_ahead_counts : {A B : Type 0} (q : Mark) (j : T.Kind) (js : List T.Kind) (k : T.Kind) (f : Form T N V A) (g : Form T N V B) (ws : List T.Word) → is_at_two T j js k ws ≡ false → counted_on n (noted rule opens levels (ahead q j js k f g) ws) ≡ counted_on n (noted rule opens levels g ws)
    not_ahead_counts q j js k f g ws t = rw t refl

    -- a nested form
    pub deep_counts : (m : N) (ws : List T.Word) → counted_on n (noted rule opens levels (deep m) ws) ≡ counted_on n (note_at rule opens levels m ws)
    deep_counts m ws = counted_deeper n (note_at rule opens levels m ws)
