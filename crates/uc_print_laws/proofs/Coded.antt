-- The kinds of words by their codes, and what each may be printed as.
use Rattle.std.specs.Prelude.{◌||◌, ◌==◌}
use Rattle.std.proofs.Common.{◌≡◌, ℕ, Bool, true, false, List, [], ◌∷◌, slice_get, Some, refl, sym, ap, ◌∙◌}
use Rattle.std.proofs.lemmas.Bool.{eqb-true, false≢true}
use Rattle.uc_forms.specs.Form.{member, codes_of}
use Rattle.uc_grammar.specs.declared.word.Kind.{Kind}
use Rattle.uc_grammar.specs.declared.word.Kind.TheVariants as kinds
use Rattle.uc_grammar.specs.Code.{code_of, name_in, value_in, width_in}
use Rattle.uc_grammar.specs.Syntax.{words, known}
use Rattle.uc_syntax.specs.declared.expression.BitFunction.TheVariants.{ZeroExtend}
use Rattle.uc_print_laws.specs.Piece.{name, fixed, is_name, numbered}
use Rattle.uc_print_laws.specs.Kept.{is_own, Reprints}

-- each kind at its code, with zeros for its numbers
abbrev all_kinds : List Kind
all_kinds =
    kinds.Name 0 ∷ kinds.OnBits ZeroExtend 0 ∷ kinds.Range 0 ∷ kinds.Unroll 0 ∷ kinds.Induction 0 ∷ kinds.Verify 0 ∷ kinds.Check 0 ∷ kinds.PrintResults 0 ∷ kinds.PrintCex 0 ∷ kinds.Number 0 ∷ kinds.BvType 0 ∷ kinds.BvLit 0 0 ∷ kinds.LeftParen ∷ kinds.RightParen ∷ kinds.LeftBrace ∷ kinds.RightBrace ∷ kinds.LeftBracket ∷ kinds.RightBracket ∷ kinds.Comma ∷ kinds.Semicolon ∷ kinds.Colon ∷ kinds.Dot ∷ kinds.Prime ∷ kinds.Assign ∷ kinds.Equal ∷ kinds.NotEqual ∷ kinds.Iff ∷ kinds.Implies ∷ kinds.And ∷ kinds.Or ∷ kinds.Not ∷ kinds.Less ∷ kinds.LessEqual ∷ kinds.Greater ∷ kinds.GreaterEqual ∷ kinds.LessUnsigned ∷ kinds.LessEqualUnsigned ∷ kinds.GreaterUnsigned ∷ kinds.GreaterEqualUnsigned ∷ kinds.Plus ∷ kinds.Minus ∷ kinds.Star ∷ kinds.Concat ∷ kinds.Ampersand ∷ kinds.Bar ∷ kinds.Caret ∷ kinds.Tilde ∷ kinds.Arrow ∷ kinds.KwModule ∷ kinds.KwType ∷ kinds.KwVar ∷ kinds.KwInput ∷ kinds.KwOutput ∷ kinds.KwConst ∷ kinds.KwFunction ∷ kinds.KwDefine ∷ kinds.KwProcedure ∷ kinds.KwReturns ∷ kinds.KwRequires ∷ kinds.KwEnsures ∷ kinds.KwModifies ∷ kinds.KwInstance ∷ kinds.KwInit ∷ kinds.KwNext ∷ kinds.KwInvariant ∷ kinds.KwAxiom ∷ kinds.KwHyperinvariant ∷ kinds.KwHyperaxiom ∷ kinds.KwControl ∷ kinds.KwBoolean ∷ kinds.KwInteger ∷ kinds.KwEnum ∷ kinds.KwRecord ∷ kinds.KwIf ∷ kinds.KwElse ∷ kinds.KwThen ∷ kinds.KwCase ∷ kinds.KwDefault ∷ kinds.KwEsac ∷ kinds.KwFor ∷ kinds.KwIn ∷ kinds.KwCall ∷ kinds.KwSkip ∷ kinds.KwAssert ∷ kinds.KwAssume ∷ kinds.KwHavoc ∷ kinds.KwOld ∷ kinds.KwTrue ∷ kinds.KwFalse ∷ kinds.KwForall ∷ kinds.KwExists ∷ kinds.KwWhile ∷ []

abbrev pub plainly : Kind → Kind
plainly (kinds.Name n) = kinds.Name 0
plainly (kinds.OnBits f n) = kinds.OnBits ZeroExtend 0
plainly (kinds.Range n) = kinds.Range 0
plainly (kinds.Unroll n) = kinds.Unroll 0
plainly (kinds.Induction n) = kinds.Induction 0
plainly (kinds.Verify n) = kinds.Verify 0
plainly (kinds.Check n) = kinds.Check 0
plainly (kinds.PrintResults n) = kinds.PrintResults 0
plainly (kinds.PrintCex n) = kinds.PrintCex 0
plainly (kinds.Number n) = kinds.Number 0
plainly (kinds.BvType n) = kinds.BvType 0
plainly (kinds.BvLit n w) = kinds.BvLit 0 0
plainly k = k

-- a word that its code does not tell, but for the number of a known name
abbrev pub is_open : Kind → Bool
is_open (kinds.Name n) = true
is_open (kinds.OnBits f n) = true
is_open (kinds.Number n) = true
is_open (kinds.BvType n) = true
is_open (kinds.BvLit n w) = true
is_open _ = false

at_code : (k : Kind) → slice_get all_kinds (code_of k) ≡ Some (plainly k)
at_code (kinds.Name n) = refl
at_code _ = refl

numbered_again : (k : Kind) → is_open (plainly k) ≡ false → k ≡ numbered (plainly k) (name_in k)
numbered_again (kinds.Name n) e = absurd (false≢true (sym e))
numbered_again (kinds.OnBits f n) e = absurd (false≢true (sym e))
numbered_again (kinds.Number n) e = absurd (false≢true (sym e))
numbered_again (kinds.BvType n) e = absurd (false≢true (sym e))
numbered_again (kinds.BvLit n w) e = absurd (false≢true (sym e))
numbered_again _ e = refl

-- the kind is told by its code
abbrev pub IsTold : Kind → Type 0
IsTold j = (plainly j ≡ j) × (is_open j ≡ false) × (is_own j ≡ false)

same_plainly : (j k : Kind) → code_of k ≡ code_of j → plainly k ≡ plainly j
same_plainly j k e = let both : Some (plainly k) ≡ Some (plainly j) = sym (at_code k) ∙ ap (slice_get all_kinds) e ∙ at_code j in cc

pub told : (j k : Kind) → IsTold j → code_of k ≡ code_of j → Reprints (fixed j) k
told j k t e =
    let same : plainly k ≡ j = same_plainly j k e ∙ t.0 in
    (t.2, (name_in k, numbered_again k (ap is_open same ∙ t.1) ∙ ap (λ (z : Kind). numbered z (name_in k)) same))

pub one_code : (c d : ℕ) → member c (d ∷ []) ≡ true → c ≡ d
one_code c d e = by (c == d) refl e
  where
    by : (b : Bool) → (c == d) ≡ b → (b || false) ≡ true → c ≡ d
    by true i h = eqb-true c d i
    by false i h = absurd (false≢true h)

-- ---- numbers

pub a_number : (k : Kind) → member (code_of k) (codes_of words (kinds.Number 0) []) ≡ true → Reprints (fixed (kinds.Number (value_in k))) k
a_number (kinds.Number n) e = (refl, (0, refl))
a_number _ e = absurd cc

pub a_type_of_bits : (k : Kind) → member (code_of k) (codes_of words (kinds.BvType 0) []) ≡ true → Reprints (fixed (kinds.BvType (width_in k))) k
a_type_of_bits (kinds.BvType n) e = (refl, (0, refl))
a_type_of_bits _ e = absurd cc

pub a_literal : (k : Kind) → member (code_of k) (codes_of words (kinds.BvLit 0 0) []) ≡ true → Reprints (fixed (kinds.BvLit (value_in k) (width_in k))) k
a_literal (kinds.BvLit n w) e = (refl, (0, refl))
a_literal _ e = absurd cc

-- ---- names

pub is_a_name : (k : Kind) → member (code_of k) (codes_of words (kinds.Name 0) known) ≡ true → is_name k ≡ true
is_a_name (kinds.Name n) e = refl
is_a_name (kinds.OnBits f n) e = refl
is_a_name (kinds.Range n) e = refl
is_a_name (kinds.Unroll n) e = refl
is_a_name (kinds.Induction n) e = refl
is_a_name (kinds.Verify n) e = refl
is_a_name (kinds.Check n) e = refl
is_a_name (kinds.PrintResults n) e = refl
is_a_name (kinds.PrintCex n) e = refl
is_a_name _ e = absurd cc

pub a_name_is : (k : Kind) → is_name k ≡ true → Reprints (name (name_in k)) k
a_name_is k e = (e, refl)

name_plainly : (k : Kind) → is_name (plainly k) ≡ is_name k
name_plainly (kinds.Name n) = refl
name_plainly _ = refl

-- a name is told by its code
pub named_by_code : (j k : Kind) → is_name j ≡ true → code_of k ≡ code_of j → is_name k ≡ true
named_by_code j k h e = sym (name_plainly k) ∙ ap is_name (same_plainly j k e) ∙ name_plainly j ∙ h
