-- A printed text spells what was printed, and is read as this.
use Rattle.std.specs.Prelude.{nat_lt, if◌then◌else◌}
use Rattle.std.proofs.Common.{None, Some, ◌≡◌, ℕ, zero, suc, ◌≤◌, Bool, true, false, ◌||◌, List, [], ◌∷◌, ◌++◌, length, take, refl, sym, ap, ◌∙◌, subst, append_assoc, arith, true≢false, inl, inr}
use Rattle.std.proofs.lemmas.Bool.{cases_lt}
use Rattle.uc_forms.specs.Answer.{Answer, spelled, wrong, too_deep, too_many, IsAnswer}
use Rattle.uc_forms.specs.Law.{OneValue, StandAlike, LevelsBoundDepths}
use Rattle.uc_forms.specs.Form.{Mark, quiet, declares, restarts}
use Rattle.uc_forms.specs.Spelling.{Stand, Spells, stands, is_past, is_deeper, past_limit}
use Rattle.uc_syntax.specs.Numbering.{AreDistinct}
use Rattle.uc_syntax.specs.declared.declaration.Module.{Module}
use Rattle.uc_grammar.specs.declared.word.Word.{Word}
use Rattle.uc_grammar.specs.Language.{grammar}
use Rattle.uc_words.specs.Words.{with_tokens}
use Rattle.uc_print_laws.specs.Piece.{Shown}
use Rattle.uc_print_laws.specs.Declarations.{modules_words, erased_modules}
use Rattle.uc_print_laws.specs.PrintedLaw.{ModulesAreSpelled}
use Rattle.uc_print_laws.specs.Text.{design_text}
use Rattle.uc_print_laws.specs.Names.{HaveFewNames}
use Rattle.uc_print_laws.specs.NameCountsLaw.{NamesAreCounted, NamesWithoutPlaces}
use Rattle.uc_print_laws.specs.Spelled.{IsShaped}
use Rattle.uc_print_laws.specs.Law.{SpellsAgain, IsReadBack}
use Rattle.uc_print_laws.proofs.Distinct.{tokens_distinct}
use Rattle.uc_print_laws.proofs.Lexed.{text_lexed}
use Rattle.uc_print_laws.proofs.Worded.{text_shows, keep_tokens, have_words}

pub text_spelled : ModulesAreSpelled → (names : List (List ℕ)) (modules : List Module) (file : ℕ) → AreDistinct names → IsShaped names modules → SpellsAgain names file (design_text names modules) modules
text_spelled law names modules file distinct h =
    let text : List ℕ = design_text names modules in
    let l = text_lexed names modules file h.spelled in
    let after : List (List ℕ) = with_tokens names text l.0 in
    let w = have_words names text l.0 in
    let shown = text_shows names after modules file w.0 h.spelled (tokens_distinct names text l.0 distinct) (keep_tokens names text l.0) (record { tokens = l.0; are_tokens = l.1; are_words = w.1 }) in
    let again = (law modules).spells h.nodes (modules_words modules).depth (omega arith) w.0 shown in
    record { tokens = l.0; are_tokens = l.1; words = w.0; are_words = w.1; depth = (modules_words modules).depth; again = again.0; spelled = again.1; same = again.2 }

-- ---- how deep words lie

or_right : (a b : Bool) → b ≡ true → (a || b) ≡ true
or_right true b h = refl
or_right false b h = h

-- where some of the first words lie too deep, some of all do
deeper_front : (levels n : ℕ) (xs : List (Stand Word)) → is_deeper levels (take n xs) ≡ true → is_deeper levels xs ≡ true
deeper_front levels zero xs h = absurd (true≢false (sym h))
deeper_front levels (suc n) [] h = h
deeper_front levels (suc n) (x ∷ xs) h = by (deeper_front levels n xs) (is_past levels x.depth) refl
  where
    by : (is_deeper levels (take n xs) ≡ true → is_deeper levels xs ≡ true) → (b : Bool) → is_past levels x.depth ≡ b → is_deeper levels (x ∷ xs) ≡ true
    by more true e = ap (λ (b : Bool). b || is_deeper levels xs) e
    by more false e = or_right (is_past levels x.depth) (is_deeper levels xs) (more (sym (ap (λ (b : Bool). b || is_deeper levels (take n xs)) e) ∙ h))

-- ---- how many names are declared

abbrev placed : Mark → Word → ℕ → Stand Word
placed q w d = record { mark = q; name = w; depth = d }

front_step : (limit c : ℕ) (q : Mark) (w : Word) (d : ℕ) (xs ys : List (Stand Word)) → ((k : ℕ) → past_limit limit k xs ≡ None → past_limit limit k ys ≡ None) → past_limit limit c (placed q w d ∷ xs) ≡ None → past_limit limit c (placed q w d ∷ ys) ≡ None
front_step limit c quiet w d xs ys more e = more c e
front_step limit c declares w d xs ys more e = by (nat_lt c limit) e
  where
    by : (b : Bool) → (if b then past_limit limit (suc c) xs else Some w) ≡ None → (if b then past_limit limit (suc c) ys else Some w) ≡ None
    by true e = more (suc c) e
    by false e = e
front_step limit c restarts w d xs ys more e = more 0 e

-- where no name is past the limit, none is among the first words
few_front : (limit c n : ℕ) (xs : List (Stand Word)) → past_limit limit c xs ≡ None → past_limit limit c (take n xs) ≡ None
few_front limit c zero xs e = refl
few_front limit c (suc n) [] e = e
few_front limit c (suc n) (x ∷ xs) e = front_step limit c x.mark x.name x.depth xs (take n xs) (λ k f. few_front limit k n xs f) e

-- ---- the answer

module _ (one : OneValue grammar) (alike : StandAlike grammar) (bound : LevelsBoundDepths grammar) (law : ModulesAreSpelled) (counted : NamesAreCounted) (aside : NamesWithoutPlaces) (levels limit : ℕ) (modules : List Module) (words : List Word) (nodes : (modules_words modules).is_shaped ≡ true) (shown : Shown (modules_words modules).words words) where
  at_depth : (m : ℕ) → (modules_words modules).depth ≤ m → (again : List Module) × Spells grammar.rule m grammar.text words again × (erased_modules again ≡ erased_modules modules)
  at_depth m h = (law modules).spells nodes m h words shown

  not_too_deep : (front rest : List Word) (w : Word) → words ≡ front ++ w ∷ rest → (modules_words modules).depth ≤ levels
      → (more : List Word) (k : ℕ) (b : List Module) (t : Spells grammar.rule k grammar.text ((front ++ w ∷ []) ++ more) b) → is_deeper levels (take (length (front ++ w ∷ [])) (stands grammar.rule k grammar.text ((front ++ w ∷ []) ++ more) b t)) ≡ true → ⊥
  not_too_deep front rest w e h more k b t deep =
      let a = at_depth levels h in
      let all : words ≡ (front ++ w ∷ []) ++ rest = e ∙ sym (append_assoc front (w ∷ []) rest) in
      let s : Spells grammar.rule levels grammar.text ((front ++ w ∷ []) ++ rest) a.0 = subst (λ (ws : List Word). Spells grammar.rule levels grammar.text ws a.0) all a.1 in
      let same = alike (front ++ w ∷ []) more rest k levels b a.0 t s in
      let here = deeper_front levels (length (front ++ w ∷ [])) (stands grammar.rule levels grammar.text ((front ++ w ∷ []) ++ rest) a.0 s) (sym (ap (is_deeper levels) same) ∙ deep) in
      true≢false (sym here ∙ bound levels ((front ++ w ∷ []) ++ rest) a.0 s)

  not_too_many : (front rest : List Word) (w : Word) (x : Word) → words ≡ front ++ w ∷ rest → HaveFewNames limit modules
      → (more : List Word) (k : ℕ) (b : List Module) (t : Spells grammar.rule k grammar.text ((front ++ w ∷ []) ++ more) b) → past_limit limit 0 (take (length (front ++ w ∷ [])) (stands grammar.rule k grammar.text ((front ++ w ∷ []) ++ more) b t)) ≡ Some x → ⊥
  not_too_many front rest w x e few more k b t past =
      let m : ℕ = (modules_words modules).depth in
      let a = at_depth m (omega arith) in
      let all : words ≡ (front ++ w ∷ []) ++ rest = e ∙ sym (append_assoc front (w ∷ []) rest) in
      let s : Spells grammar.rule m grammar.text ((front ++ w ∷ []) ++ rest) a.0 = subst (λ (ws : List Word). Spells grammar.rule m grammar.text ws a.0) all a.1 in
      let same = alike (front ++ w ∷ []) more rest k m b a.0 t s in
      let none = few_front limit 0 (length (front ++ w ∷ [])) (stands grammar.rule m grammar.text ((front ++ w ∷ []) ++ rest) a.0 s) ((counted limit m ((front ++ w ∷ []) ++ rest) a.0 s).few (aside limit a.0 modules a.2 few)) in
      let z : Some x ≡ None = sym past ∙ ap (past_limit limit 0) same ∙ none in
      absurd cc

  pub read_back : (r : Answer Word (List Module)) → IsAnswer grammar levels limit words r → IsReadBack levels limit modules r
  read_back (spelled again) i =
      let a = at_depth (modules_words modules).depth (omega arith) in
      ap erased_modules (one words i.0 (modules_words modules).depth again a.0 i.1 a.1) ∙ a.2
  read_back (wrong []) i = let a = at_depth (modules_words modules).depth (omega arith) in i.1 (modules_words modules).depth a.0 a.1
  read_back (wrong (w ∷ rest)) i =
      let a = at_depth (modules_words modules).depth (omega arith) in
      let all : words ≡ (i.0 ++ w ∷ []) ++ rest = i.1 ∙ sym (append_assoc i.0 (w ∷ []) rest) in
      i.3 (rest, (modules_words modules).depth, a.0, subst (λ (ws : List Word). Spells grammar.rule (modules_words modules).depth grammar.text ws a.0) all a.1)
  read_back (too_deep []) i = absurd i
  read_back (too_deep (w ∷ rest)) i = elim (cases_lt levels (modules_words modules).depth) [
    | inl deep ↦ deep
    | inr h ↦ (let b = i.3 in absurd (not_too_deep i.0 rest w i.1 h b.0 b.1 b.2 b.3 b.4))
  ]
  read_back (too_many x) i = λ few. (let b = i.5 in not_too_many i.0 i.2 i.1 x i.3 few b.0 b.1 b.2 b.3 b.4.1)
