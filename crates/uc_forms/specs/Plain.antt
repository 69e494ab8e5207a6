-- The grammars that one word of lookahead is enough for, and two at `ahead`: a test that computes.
use Rattle.std.specs.Prelude.{◌≡◌, ℕ, Bool, true, false, not, ◌||◌, ◌&&◌, if◌then◌else◌, List, [], ◌∷◌, ◌++◌}
use Rattle.uc_forms.specs.Alphabet.{Alphabet}
use Rattle.uc_forms.specs.Form.{Mark, quiet, declares, restarts, Form, any, nothing, both, either, chain, until, made, ahead, deep, Rules, member, codes_of}
use Rattle.uc_forms.specs.Reading.{skips, first}

-- it may be spelled by one word
abbrev pub is_single : {T : Alphabet} {N : Type 0} {V : N → Type 0} {A : Type 0} → Form T N V A → Bool
is_single (any q j js) = true
is_single nothing = false
is_single (both f g) = (is_single f && skips g) || (skips f && is_single g)
is_single (either f g) = is_single f || is_single g
is_single (chain f) = is_single f
is_single (until f g) = is_single f || is_single g
is_single (made h f) = is_single f
is_single (ahead q j js k f g) = is_single g
is_single (deep n) = true

-- the kinds of word that may go on with what was spelled
abbrev pub goes_on : {T : Alphabet} {N : Type 0} {V : N → Type 0} → (N → List ℕ) → (N → List ℕ) → {A : Type 0} → Form T N V A → List ℕ
goes_on opens goes (any q j js) = []
goes_on opens goes nothing = []
goes_on opens goes (both f g) = goes_on opens goes g ++ (if skips g then goes_on opens goes f else [])
goes_on opens goes (either f g) = goes_on opens goes f ++ (goes_on opens goes g ++ (if skips g then first opens f else []))
goes_on opens goes (chain f) = first opens f ++ goes_on opens goes f
goes_on opens goes (until f g) = goes_on opens goes g
goes_on opens goes (made h f) = goes_on opens goes f
goes_on {T} opens goes (ahead q j js k f g) = (if is_single g then T.code k ∷ [] else []) ++ (goes_on opens goes f ++ goes_on opens goes g)
goes_on opens goes (deep n) = goes n

-- the kinds of word that it may begin with, where that word is then taken
abbrev pub firm : {T : Alphabet} {N : Type 0} {V : N → Type 0} {A : Type 0} → Form T N V A → List ℕ
firm {T} (any q j js) = codes_of T j js
firm nothing = []
firm (both f g) = firm f
firm (either f g) = firm f ++ firm g
firm (chain f) = []
firm (until f g) = []
firm (made h f) = firm f
firm (ahead q j js k f g) = firm g
firm (deep n) = []

abbrev pub is_quiet : Mark → Bool
is_quiet quiet = true
is_quiet declares = false
is_quiet restarts = false

-- those of them that are marked there
abbrev pub loud : {T : Alphabet} {N : Type 0} {V : N → Type 0} {A : Type 0} → Form T N V A → List ℕ
loud {T} (any q j js) = if is_quiet q then [] else codes_of T j js
loud nothing = []
loud (both f g) = loud f
loud (either f g) = loud f ++ loud g
loud (chain f) = []
loud (until f g) = []
loud (made h f) = loud f
loud (ahead q j js k f g) = loud g
loud (deep n) = []

-- the kinds of word that stand in it outside of nested forms, or begin one
abbrev pub inside : {T : Alphabet} {N : Type 0} {V : N → Type 0} → (N → List ℕ) → {A : Type 0} → Form T N V A → List ℕ
inside {T} opens (any q j js) = codes_of T j js
inside opens nothing = []
inside opens (both f g) = inside opens f ++ inside opens g
inside opens (either f g) = inside opens f ++ inside opens g
inside opens (chain f) = inside opens f
inside opens (until f g) = inside opens f ++ inside opens g
inside opens (made h f) = inside opens f
inside {T} opens (ahead q j js k f g) = codes_of T j js ++ (T.code k ∷ (inside opens f ++ inside opens g))
inside opens (deep n) = opens n

-- the kinds of word that begin a nested form in it
abbrev pub nests : {T : Alphabet} {N : Type 0} {V : N → Type 0} → (N → List ℕ) → {A : Type 0} → Form T N V A → List ℕ
nests opens (any q j js) = []
nests opens nothing = []
nests opens (both f g) = nests opens f ++ nests opens g
nests opens (either f g) = nests opens f ++ nests opens g
nests opens (chain f) = nests opens f
nests opens (until f g) = nests opens f ++ nests opens g
nests opens (made h f) = nests opens f
nests opens (ahead q j js k f g) = nests opens f ++ nests opens g
nests opens (deep n) = opens n

-- no code is in both lists
abbrev pub apart : List ℕ → List ℕ → Bool
apart [] ds = true
apart (c ∷ cs) ds = not (member c ds) && apart cs ds

-- each code of the first list is in the second
abbrev pub within : List ℕ → List ℕ → Bool
within [] ds = true
within (c ∷ cs) ds = member c ds && within cs ds

-- at each place of the form the next word tells what to do, and at `ahead` the next two
abbrev pub is_plain : {T : Alphabet} {N : Type 0} {V : N → Type 0} → (N → List ℕ) → (N → List ℕ) → {A : Type 0} → Form T N V A → Bool
is_plain opens goes (any q j js) = true
is_plain opens goes nothing = true
is_plain opens goes (both f g) = is_plain opens goes f && (is_plain opens goes g && apart (goes_on opens goes f) (first opens g))
is_plain opens goes (either f g) = is_plain opens goes f && (is_plain opens goes g && (not (skips f) && apart (first opens f) (first opens g)))
is_plain opens goes (chain f) = is_plain opens goes f && (not (skips f) && apart (goes_on opens goes f) (first opens f))
is_plain opens goes (until f g) = is_plain opens goes f && (is_plain opens goes g && (not (skips f) && (not (skips g) && (apart (first opens g) (first opens f) && (apart (goes_on opens goes f) (first opens f) && apart (goes_on opens goes f) (first opens g))))))
is_plain opens goes (made h f) = is_plain opens goes f
is_plain {T} opens goes (ahead q j js k f g) = is_plain opens goes f && (is_plain opens goes g && (not (skips g) && (within (codes_of T j js) (firm g) && (not (member (T.code k) (inside opens g)) && (apart (nests opens g) (codes_of T j js) && apart (loud g) (codes_of T j js))))))
is_plain opens goes (deep n) = true

-- it has a spelling with no nested form
abbrev pub is_ready : {T : Alphabet} {N : Type 0} {V : N → Type 0} {A : Type 0} → Form T N V A → Bool
is_ready (any q j js) = true
is_ready nothing = true
is_ready (both f g) = is_ready f && is_ready g
is_ready (either f g) = is_ready f || is_ready g
is_ready (chain f) = true
is_ready (until f g) = is_ready g
is_ready (made h f) = is_ready f
is_ready (ahead q j js k f g) = is_ready g
is_ready (deep n) = false

-- it begins with a word, and with no nested form
abbrev pub is_direct : {T : Alphabet} {N : Type 0} {V : N → Type 0} {A : Type 0} → Form T N V A → Bool
is_direct (any q j js) = true
is_direct nothing = true
is_direct (both f g) = is_direct f && (if skips f then is_direct g else true)
is_direct (either f g) = is_direct f && is_direct g
is_direct (chain f) = is_direct f
is_direct (until f g) = is_direct f && is_direct g
is_direct (made h f) = is_direct f
is_direct (ahead q j js k f g) = is_direct g
is_direct (deep n) = false

-- Two tables go with the rules: opens has the kinds that a nested form begins with, and goes those that may go on with it.
-- The tables are right, and each rule is plain, has words, has a spelling with no nested form, and begins with none.
pub record IsPlain {T : Alphabet} {N : Type 0} {V : N → Type 0} (rule : Rules T N V) (opens goes : N → List ℕ) : Type 0 where
  pub plain : (n : N) → is_plain opens goes (rule n) ≡ true
  pub first_is : (n : N) → first opens (rule n) ≡ opens n
  pub has_words : (n : N) → skips (rule n) ≡ false
  pub stays : (n : N) → within (goes_on opens goes (rule n)) (goes n) ≡ true
  pub ready : (n : N) → is_ready (rule n) ≡ true
  pub direct : (n : N) → is_direct (rule n) ≡ true

-- ---- forms that declare no name

-- No word of it is marked, where none is in the nested forms that the table names.
abbrev pub is_silent : {T : Alphabet} {N : Type 0} {V : N → Type 0} → (N → Bool) → {A : Type 0} → Form T N V A → Bool
is_silent table (any q j js) = is_quiet q
is_silent table nothing = true
is_silent table (both f g) = is_silent table f && is_silent table g
is_silent table (either f g) = is_silent table f && is_silent table g
is_silent table (chain f) = is_silent table f
is_silent table (until f g) = is_silent table f && is_silent table g
is_silent table (made h f) = is_silent table f
is_silent table (ahead q j js k f g) = is_quiet q && (is_silent table f && is_silent table g)
is_silent table (deep n) = table n
