-- Words that show given pieces, and the codes of their kinds.
use Rattle.std.proofs.Common.{◌≡◌, ℕ, true, List, [], ◌∷◌, ◌++◌, refl, ap, ◌∙◌}
use Rattle.uc_forms.specs.Form.{member, codes_of}
use Rattle.uc_grammar.specs.declared.word.Word.{Word}
use Rattle.uc_grammar.specs.declared.word.Kind.{Kind}
use Rattle.uc_grammar.specs.declared.word.Kind.TheVariants.{Name, OnBits, Range, Unroll, Induction, Verify, Check, PrintResults, PrintCex}
use Rattle.uc_grammar.specs.Code.{code_of}
use Rattle.uc_grammar.specs.Syntax.{words, known}
use Rattle.uc_print_laws.specs.Piece.{Piece, fixed, is_name, numbered, Shows, Shown}

pub numbered_code : (k : Kind) (m : ℕ) → code_of (numbered k m) ≡ code_of k
numbered_code (OnBits f n) m = refl
numbered_code (Range n) m = refl
numbered_code (Unroll n) m = refl
numbered_code (Induction n) m = refl
numbered_code (Verify n) m = refl
numbered_code (Check n) m = refl
numbered_code (PrintResults n) m = refl
numbered_code (PrintCex n) m = refl
numbered_code _ m = refl

pub fixed_code : (j k : Kind) → Shows (fixed j) k → code_of k ≡ code_of j
fixed_code j k s = ap code_of s.1 ∙ numbered_code j s.0

-- the codes of names
abbrev pub name_codes : List ℕ
name_codes = codes_of words (Name 0) known

pub name_code : (k : Kind) → is_name k ≡ true → member (code_of k) name_codes ≡ true
name_code (Name n) e = refl
name_code (OnBits f n) e = refl
name_code (Range n) e = refl
name_code (Unroll n) e = refl
name_code (Induction n) e = refl
name_code (Verify n) e = refl
name_code (Check n) e = refl
name_code (PrintResults n) e = refl
name_code (PrintCex n) e = refl
name_code _ e = absurd cc

-- ---- words one by one

pub split : (ps qs : List Piece) (ws : List Word) → Shown (ps ++ qs) ws → (front back : List Word) × (ws ≡ front ++ back) × Shown ps front × Shown qs back
split [] qs ws s = ([], ws, refl, tt, s)
split (p ∷ ps) qs [] s = absurd s
split (p ∷ ps) qs (w ∷ ws) s = let r = split ps qs ws s.1 in (w ∷ r.0, r.1, ap (λ z. w ∷ z) r.2, (s.0, r.3), r.4)

pub no_words : (ws : List Word) → Shown [] ws → ws ≡ []
no_words [] s = refl
no_words (w ∷ ws) s = absurd s

pub one_word : (p : Piece) (ws : List Word) → Shown (p ∷ []) ws → (w : Word) × (ws ≡ w ∷ []) × Shows p w.kind
one_word p [] s = absurd s
one_word p (w ∷ ws) s = (w, ap (λ z. w ∷ z) (no_words ws s.1), s.0)
