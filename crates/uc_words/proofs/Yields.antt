-- What holds of each value that words spell in a form, where all that the words mention passes a test: one step for each shape of form.
use Rattle.std.proofs.Common.{◌≡◌, ℕ, Bool, true, nat_lt, List, [], ◌∷◌, ◌++◌, map, Option, Some, None, refl, sym, subst, ◌∙◌, ◌⊎◌, inl, inr}
use Rattle.std.specs.Prelude.{◌==◌}
use Rattle.std.specs.List.{list_all}
use Rattle.std.proofs.lemmas.List.Folds.{list_all-append}
use Rattle.std.proofs.lemmas.Bool.{and_parts, and_from, or_cases, eqb-true}
use Rattle.uc_forms.specs.Form.{Mark, quiet, declares, any, nothing, both, either, chain, until, made, ahead, after, before, many, joined_by, goes_on_with, merged, member, codes_of, ◌<|>◌}
use Rattle.uc_forms.specs.Spelling.{Language, SpellWith, SpellChain, SpellUntil}
use Rattle.uc_grammar.specs.declared.word.Word.{Word}
use Rattle.uc_grammar.specs.declared.word.Kind.{Kind}
use Rattle.uc_grammar.specs.declared.word.Kind.TheVariants.{Name, OnBits, Range, Unroll, Induction, Verify, Check, PrintResults, PrintCex}
use Rattle.uc_grammar.specs.Code.{code_of, name_in}
use Rattle.uc_syntax.specs.declared.place.Identifier.{Identifier}
use Rattle.uc_grammar.specs.Syntax.{words, Nested, Value, F, known, a_name, id, new_id, optional, labelled, label_of, enclosed}
use Rattle.uc_syntax.specs.Mentions.{Mention, OfName, OfFile}
use Rattle.uc_words.specs.Mentions.{kind_mentions, word_mentions}

-- ---- tests

front_true : {A : Type 0} (p : A → Bool) (xs ys : List A) → list_all p (xs ++ ys) ≡ true → list_all p xs ≡ true
front_true p xs ys h = (and_parts _ _ (sym (list_all-append p xs ys) ∙ h)).0

back_true : {A : Type 0} (p : A → Bool) (xs ys : List A) → list_all p (xs ++ ys) ≡ true → list_all p ys ≡ true
back_true p xs ys h = (and_parts (list_all p xs) _ (sym (list_all-append p xs ys) ∙ h)).1

-- ---- properties of lists, options and sums

-- it holds of each element
pub data Each {A : Type 0} (Q : A → Type 0) : List A → Type 0 where
  no_more : Each Q []
  one_more : {x : A} {xs : List A} → Q x → Each Q xs → Each Q (x ∷ xs)

-- it holds of the images, where it holds so of the elements
pub each_map : {A B : Type 0} {Q : B → Type 0} (f : A → B) → {xs : List A} → Each (λ x. Q (f x)) xs → Each Q (map f xs)
each_map f no_more = no_more
each_map f (one_more q more) = one_more q (each_map f more)

-- the one holds on the left, and the other on the right
abbrev pub OnEither : {A B : Type 0} → (A → Type 0) → (B → Type 0) → A ⊎ B → Type 0
OnEither Q R (inl a) = Q a
OnEither Q R (inr b) = R b

-- it holds of what is there
abbrev pub OnSome : {A : Type 0} → (A → Type 0) → Option A → Type 0
OnSome Q (Some a) = Q a
OnSome Q None = Unit {0}

-- ---- words

-- the mention passes the test
pub record Passes (test : Mention → Bool) (mention : Mention) : Type 0 where
  pub it : test mention ≡ true

-- the file of a word
abbrev pub FilePasses : (Mention → Bool) → Word → Type 0
FilePasses test w = Passes test (OfFile w.place.file)

-- the file and the name of a word
abbrev pub NamePasses : (Mention → Bool) → Word → Type 0
NamePasses test w = Passes test (OfFile w.place.file) × Passes test (OfName (name_in w.kind))

-- the file and the name of an identifier
abbrev pub IdPasses : (Mention → Bool) → Identifier → Type 0
IdPasses test i = Passes test (OfFile i.place.file) × Passes test (OfName i.name)

-- all that the word mentions passes
abbrev pub word_passes : (Mention → Bool) → Word → Bool
word_passes test w = list_all test (word_mentions w)

abbrev pub WordsPass : (Mention → Bool) → List Word → Type 0
WordsPass test ws = list_all (word_passes test) ws ≡ true

abbrev is_name_code : ℕ → Bool
is_name_code c = nat_lt c 9

of_member : (p : ℕ → Bool) (c : ℕ) (cs : List ℕ) → list_all p cs ≡ true → member c cs ≡ true → p c ≡ true
of_member p c [] all found = absurd cc
of_member p c (d ∷ ds) all found = elim (or_cases (c == d) (member c ds) found) [
  | inl e ↦ subst (λ (b : ℕ). p b ≡ true) (sym (eqb-true c d e)) (and_parts (p d) (list_all p ds) all).0
  | inr e ↦ of_member p c ds (and_parts (p d) (list_all p ds) all).1 e
]

-- a word of a name mentions its number
name_passes : (test : Mention → Bool) (k : Kind) → is_name_code (code_of k) ≡ true → list_all test (kind_mentions k) ≡ true → test (OfName (name_in k)) ≡ true
name_passes test (Name n) is h = (and_parts (test (OfName n)) true h).0
name_passes test (OnBits f n) is h = (and_parts (test (OfName n)) true h).0
name_passes test (Range n) is h = (and_parts (test (OfName n)) true h).0
name_passes test (Unroll n) is h = (and_parts (test (OfName n)) true h).0
name_passes test (Induction n) is h = (and_parts (test (OfName n)) true h).0
name_passes test (Verify n) is h = (and_parts (test (OfName n)) true h).0
name_passes test (Check n) is h = (and_parts (test (OfName n)) true h).0
name_passes test (PrintResults n) is h = (and_parts (test (OfName n)) true h).0
name_passes test (PrintCex n) is h = (and_parts (test (OfName n)) true h).0
name_passes test k is h = absurd cc

-- ---- forms

-- what holds of each value that such words spell
pub record Yields (test : Mention → Bool) (L : Language words Nested Value) {A : Type 0} (f : F A) (Q : A → Type 0) : Type 0 where
  pub of_words : (ws : List Word) (a : A) → WordsPass test ws → SpellWith L f ws a → Q a

one_passes : (test : Mention → Bool) (ws : List Word) (w : Word) → ws ≡ w ∷ [] → WordsPass test ws → word_passes test w ≡ true
one_passes test ws w e h = (and_parts (word_passes test w) true (subst (λ (us : List Word). WordsPass test us) e h)).0

module _ {test : Mention → Bool} {L : Language words Nested Value} where
  -- the place of a word
  pub a_word : {q : Mark} {j : Kind} {js : List Kind} → Yields test L (any q j js) (FilePasses test)
  a_word = record { of_words = λ ws w h s. record { it = (and_parts (test (OfFile w.place.file)) _ (one_passes test ws w s.0 h)).0 } }

  -- one after the other
  pub and_then : {A B : Type 0} {f : F A} {g : F B} {Q : A → Type 0} {R : B → Type 0} → Yields test L f Q → Yields test L g R → Yields test L (both f g) (λ x. Q x.0 × R x.1)
  and_then p q = record {
    of_words = λ ws x h s.
        let k = subst (λ (us : List Word). WordsPass test us) s.2 h in
        (p.of_words s.0 x.0 (front_true (word_passes test) s.0 s.1 k) s.3, q.of_words s.1 x.1 (back_true (word_passes test) s.0 s.1 k) s.4);
  }

  pub no_word : Yields test L nothing (λ u. Unit {0})
  no_word = record { of_words = λ ws u h s. tt }

  -- one or the other
  pub one_way : {A B : Type 0} {f : F A} {g : F B} {Q : A → Type 0} {R : B → Type 0} → Yields test L f Q → Yields test L g R → Yields test L (either f g) (OnEither Q R)
  one_way {A} {B} {f} {g} {Q} {R} p q = record { of_words = there }
    where
      there : (ws : List Word) (x : A ⊎ B) → WordsPass test ws → SpellWith L (either f g) ws x → OnEither Q R x
      there ws (inl a) h s = p.of_words ws a h s
      there ws (inr b) h s = q.of_words ws b h s

  -- a value made of the parts
  pub makes : {A B : Type 0} {k : A → B} {f : F A} {Q : A → Type 0} {R : B → Type 0} → Yields test L f Q → ((a : A) → Q a → R (k a)) → Yields test L (made k f) R
  makes {R = R} p then = record { of_words = λ ws b h s. subst R (sym s.1) (then s.0 (p.of_words ws s.0 h s.2)) }

  -- any number, and then maybe one
  pub turns : {A B : Type 0} {f : F (A ⊎ B)} {Q : A ⊎ B → Type 0} → Yields test L f Q → Yields test L (chain f) (λ x. Each (λ a. Q (inl a)) x.0 × OnSome (λ b. Q (inr b)) x.1)
  turns {A} {B} {f} {Q} p = record { of_words = λ ws x h s. there ws x.0 x.1 h s }
    where
      there : (ws : List Word) (xs : List A) (o : Option B) → WordsPass test ws → SpellChain (SpellWith L f) ws xs o → Each (λ a. Q (inl a)) xs × OnSome (λ b. Q (inr b)) o
      there ws [] None h s = (no_more, tt)
      there ws [] (Some b) h s = (no_more, p.of_words ws (inr b) h s)
      there ws (x ∷ xs) o h s =
          let k = subst (λ (us : List Word). WordsPass test us) s.2 h in
          let rest = there s.1 xs o (back_true (word_passes test) s.0 s.1 k) s.4 in
          (one_more (p.of_words s.0 (inl x) (front_true (word_passes test) s.0 s.1 k) s.3) rest.0, rest.1)

  -- any number, and then one
  pub up_to : {A B : Type 0} {f : F A} {g : F B} {Q : A → Type 0} {R : B → Type 0} → Yields test L f Q → Yields test L g R → Yields test L (until f g) (λ x. Each Q x.0 × R x.1)
  up_to {A} {B} {f} {g} {Q} {R} p q = record { of_words = λ ws x h s. there ws x.0 x.1 h s }
    where
      there : (ws : List Word) (xs : List A) (b : B) → WordsPass test ws → SpellUntil (SpellWith L f) (SpellWith L g) ws xs b → Each Q xs × R b
      there ws [] b h s = (no_more, q.of_words ws b h s)
      there ws (x ∷ xs) b h s =
          let k = subst (λ (us : List Word). WordsPass test us) s.2 h in
          let rest = there s.1 xs b (back_true (word_passes test) s.0 s.1 k) s.4 in
          (one_more (p.of_words s.0 x (front_true (word_passes test) s.0 s.1 k) s.3) rest.0, rest.1)

  -- a label that the second word tells
  pub looks_ahead : {A B : Type 0} {q : Mark} {j : Kind} {js : List Kind} {c : Kind} {f : F A} {g : F B} {W : Word → Type 0} {Q : A → Type 0} {R : B → Type 0} → Yields test L (any quiet j js) W → Yields test L f Q → Yields test L g R → Yields test L (ahead q j js c f g) (OnEither (λ a. W a.0 × Q a.1) R)
  looks_ahead {A} {B} {q} {j} {js} {c} {f} {g} {W} {Q} {R} first p other = record { of_words = there }
    where
      there : (ws : List Word) (x : (Word × A) ⊎ B) → WordsPass test ws → SpellWith L (ahead q j js c f g) ws x → OnEither (λ a. W a.0 × Q a.1) R x
      there ws (inr b) h s = other.of_words ws b h s
      there ws (inl a) h s =
          let k : WordsPass test (a.0 ∷ s.0 ∷ s.1) = subst (λ (us : List Word). WordsPass test us) s.2 h in
          let head = and_parts (word_passes test a.0) (list_all (word_passes test) (s.0 ∷ s.1)) k in
          let rest = and_parts (word_passes test s.0) (list_all (word_passes test) s.1) head.1 in
          (first.of_words (a.0 ∷ []) a.0 (and_from (word_passes test a.0) true head.0 refl) (refl, s.3), p.of_words s.1 a.1 rest.1 s.5)

  -- ---- forms made of forms

  infixr 20 ◌<or>◌
  pub ◌<or>◌ : {A : Type 0} {f g : F A} {Q : A → Type 0} → Yields test L f Q → Yields test L g Q → Yields test L (f <|> g) Q
  ◌<or>◌ {A} {Q = Q} p q = makes (one_way p q) there
    where
      there : (x : A ⊎ A) → OnEither Q Q x → Q (merged x)
      there (inl a) h = h
      there (inr a) h = h

  pub behind : {A : Type 0} {k : Kind} {f : F A} {Q : A → Type 0} → Yields test L f Q → Yields test L (after k f) Q
  behind p = makes (and_then a_word p) (λ x h. h.1)

  pub in_front : {A : Type 0} {k : Kind} {f : F A} {Q : A → Type 0} → Yields test L f Q → Yields test L (before f k) Q
  in_front p = makes (and_then p a_word) (λ x h. h.0)

  pub any_number : {A : Type 0} {f : F A} {Q : A → Type 0} → Yields test L f Q → Yields test L (many f) (Each Q)
  any_number {A} {f} {Q} p = makes (turns ongoing) (λ x h. h.0)
    where
      ongoing : Yields test L (made (goes_on_with {A = A}) f) (OnEither Q (λ b. Unit {0}))
      ongoing = makes p (λ a h. h)

  pub joined : {A : Type 0} {k : Kind} {f : F A} {Q : A → Type 0} → Yields test L f Q → Yields test L (joined_by k f) (Each Q)
  joined p = makes (and_then p (any_number (behind p))) (λ x h. one_more h.0 h.1)

  pub once_or_not : {A : Type 0} {f : F A} {Q : A → Type 0} → Yields test L f Q → Yields test L (optional f) (OnSome Q)
  once_or_not {A} {f} {Q} p = makes (one_way p no_word) there
    where
      there : (x : A ⊎ Unit {0}) → OnEither Q (λ u. Unit {0}) x → OnSome Q (elim x [ inl a ↦ Some a | inr u ↦ None ])
      there (inl a) h = h
      there (inr u) h = tt

  pub in_parens : {A : Type 0} {f : F (List A)} {Q : A → Type 0} → Yields test L f (Each Q) → Yields test L (enclosed f) (Each Q)
  in_parens {A} {f} {Q} p = behind (makes (one_way a_word (in_front p)) there)
    where
      there : (x : Word ⊎ List A) → OnEither (FilePasses test) (Each Q) x → Each Q (elim x [ inl w ↦ [] | inr xs ↦ xs ])
      there (inl w) h = no_more
      there (inr xs) h = h

  -- ---- names

  -- a word of kinds that are names
  pub a_name_of : (q : Mark) (j : Kind) (js : List Kind) → list_all is_name_code (codes_of words j js) ≡ true → Yields test L (any q j js) (NamePasses test)
  a_name_of q j js only = record {
    of_words = λ ws w h s.
        let parts = and_parts (test (OfFile w.place.file)) (list_all test (kind_mentions w.kind)) (one_passes test ws w s.0 h) in
        (record { it = parts.0 }, record { it = name_passes test w.kind (of_member is_name_code (code_of w.kind) (codes_of words j js) only s.1) parts.1 });
  }

  pub a_named_word : Yields test L a_name (NamePasses test)
  a_named_word = a_name_of quiet (Name 0) known refl

  pub an_id : Yields test L id (IdPasses test)
  an_id = makes a_named_word (λ w h. h)

  pub a_new_id : Yields test L new_id (IdPasses test)
  a_new_id = makes (a_name_of declares (Name 0) known refl) (λ w h. h)

  pub maybe_labelled : {A : Type 0} {q : Mark} {f : F A} {Q : A → Type 0} → Yields test L f Q → Yields test L (labelled q f) (λ x. OnSome (IdPasses test) x.0 × Q x.1)
  maybe_labelled {A} {Q = Q} p = makes (looks_ahead a_named_word p p) there
    where
      there : (x : (Word × A) ⊎ A) → OnEither (λ a. NamePasses test a.0 × Q a.1) Q x → OnSome (IdPasses test) (label_of x).0 × Q (label_of x).1
      there (inl a) h = h
      there (inr a) h = (tt, h)
