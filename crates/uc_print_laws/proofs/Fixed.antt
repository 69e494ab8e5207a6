-- Each word has a token that its bytes spell.
use Rattle.std.specs.Prelude.{codes, decimal, unwrap_or, ◌⊎◌}
use Rattle.std.proofs.Common.{◌≡◌, ℕ, ◌^◌, ◌<◌, Bool, true, false, List, [], ◌∷◌, ◌++◌, Some, refl, sym, ap, ◌∙◌, subst, arith, inl, inr}
use Rattle.std.proofs.lemmas.Bool.{false≢true}
use Rattle.uc_lexer.specs.declared.token.TokenKind.{TokenKind}
use Rattle.uc_lexer.specs.declared.token.TokenKind.TheVariants as token
use Rattle.uc_lexer.specs.Bytes.{value_of}
use Rattle.uc_lexer.specs.Table.{Entry, keywords, signs, IsAmong}
use Rattle.uc_lexer.specs.Spelling.{Spells, keyword, bv_type, number, bv_literal, sign, IsWithinLimits}
use Rattle.uc_lexer.specs.Reading.{lookup}
use Rattle.uc_lexer.proofs.Tables.{lookup-some}
use Rattle.uc_lexer.proofs.Spellings.{word_longest}
use Rattle.uc_grammar.specs.declared.word.Kind.{Kind}
use Rattle.uc_grammar.specs.declared.word.Kind.TheVariants as kinds
use Rattle.uc_syntax.specs.declared.expression.BitFunction.{BitFunction}
use Rattle.uc_syntax.specs.declared.expression.BitFunction.TheVariants.{ZeroExtend, SignExtend, ShiftLeft, ShiftRight, ShiftRightSigned}
use Rattle.uc_words.specs.Fixed.{fixed_kind}
use Rattle.uc_print_laws.specs.Piece.{Piece, name, applied, fixed}
use Rattle.uc_print_laws.specs.Text.{found, name_text, function_text, kind_text, spelling}
use Rattle.uc_print_laws.specs.Spelled.{IsSpelledName, IsSpelledWord, HasSpelling}
use Rattle.uc_print_laws.specs.Law.{IsKindOf}
use Rattle.uc_print_laws.proofs.Numerals.{decimal_spells}

abbrev table : List Entry
table = keywords ++ signs

-- neither a name nor a number
abbrev is_plain : Kind → Bool
is_plain (kinds.Name n) = false
is_plain (kinds.OnBits f n) = false
is_plain (kinds.Range n) = false
is_plain (kinds.Unroll n) = false
is_plain (kinds.Induction n) = false
is_plain (kinds.Verify n) = false
is_plain (kinds.Check n) = false
is_plain (kinds.PrintResults n) = false
is_plain (kinds.PrintCex n) = false
is_plain (kinds.Number n) = false
is_plain (kinds.BvType n) = false
is_plain (kinds.BvLit n w) = false
is_plain _ = true

abbrev plain_token : Kind → TokenKind
plain_token k = unwrap_or (lookup table (kind_text k)) token.Name

-- a plain word's text is in the tables, with the token of the same name
abbrev IsInTable : Kind → Type 0
IsInTable k = (lookup table (kind_text k) ≡ Some (plain_token k)) × (fixed_kind (plain_token k) ≡ Some k)

in_table : (k : Kind) → is_plain k ≡ true → IsInTable k
in_table (kinds.Name n) e = absurd (false≢true e)
in_table (kinds.OnBits f n) e = absurd (false≢true e)
in_table (kinds.Range n) e = absurd (false≢true e)
in_table (kinds.Unroll n) e = absurd (false≢true e)
in_table (kinds.Induction n) e = absurd (false≢true e)
in_table (kinds.Verify n) e = absurd (false≢true e)
in_table (kinds.Check n) e = absurd (false≢true e)
in_table (kinds.PrintResults n) e = absurd (false≢true e)
in_table (kinds.PrintCex n) e = absurd (false≢true e)
in_table (kinds.Number n) e = absurd (false≢true e)
in_table (kinds.BvType n) e = absurd (false≢true e)
in_table (kinds.BvLit n w) e = absurd (false≢true e)
in_table _ e = (refl, refl)

among_either : (es fs : List Entry) (bytes : List ℕ) (kind : TokenKind) → IsAmong (es ++ fs) bytes kind → IsAmong es bytes kind ⊎ IsAmong fs bytes kind
among_either [] fs bytes kind a = inr a
among_either (e ∷ es) fs bytes kind (inl a) = inl (inl a)
among_either (e ∷ es) fs bytes kind (inr a) = elim (among_either es fs bytes kind a) [ inl b ↦ inl (inr b) | inr b ↦ inr b ]

plain_spells : (k : Kind) → IsInTable k → Spells (kind_text k) (plain_token k)
plain_spells k i = elim (among_either keywords signs (kind_text k) (plain_token k) (lookup-some table (kind_text k) (plain_token k) i.0)) [ inl a ↦ keyword a | inr a ↦ sign a ]

function_spells : (f : BitFunction) → Spells (function_text f) token.Name
function_spells ZeroExtend = (word_longest (codes "bv_zero_extend") refl).stands.0
function_spells SignExtend = (word_longest (codes "bv_sign_extend") refl).stands.0
function_spells ShiftLeft = (word_longest (codes "bv_left_shift") refl).stands.0
function_spells ShiftRight = (word_longest (codes "bv_l_right_shift") refl).stands.0
function_spells ShiftRightSigned = (word_longest (codes "bv_a_right_shift") refl).stands.0

abbrev HasToken : List (List ℕ) → Piece → Type 0
HasToken names p = (kind : TokenKind) × Spells (spelling names p) kind × IsWithinLimits kind × IsKindOf p kind

plain_within : (k : Kind) → is_plain k ≡ true → IsWithinLimits (plain_token k)
plain_within (kinds.Name n) e = absurd (false≢true e)
plain_within (kinds.OnBits f n) e = absurd (false≢true e)
plain_within (kinds.Range n) e = absurd (false≢true e)
plain_within (kinds.Unroll n) e = absurd (false≢true e)
plain_within (kinds.Induction n) e = absurd (false≢true e)
plain_within (kinds.Verify n) e = absurd (false≢true e)
plain_within (kinds.Check n) e = absurd (false≢true e)
plain_within (kinds.PrintResults n) e = absurd (false≢true e)
plain_within (kinds.PrintCex n) e = absurd (false≢true e)
plain_within (kinds.Number n) e = absurd (false≢true e)
plain_within (kinds.BvType n) e = absurd (false≢true e)
plain_within (kinds.BvLit n w) e = absurd (false≢true e)
plain_within _ e = tt

abbrev HasFixedToken : Kind → Type 0
HasFixedToken k = (kind : TokenKind) × Spells (kind_text k) kind × IsWithinLimits kind × IsKindOf (fixed k) kind

number_token : (n : ℕ) → n < 2 ^ 128 → HasFixedToken (kinds.Number n)
number_token n h = let d = decimal_spells n h in (token.Number n, number d.0 (ap token.Number (sym d.1)), h, refl)

type_token : (w : ℕ) → w < 2 ^ 32 → HasFixedToken (kinds.BvType w)
type_token w h = let d = decimal_spells w (omega arith) in (token.BvType w, bv_type (decimal w) refl d.0 (ap token.BvType (sym d.1)), h, refl)

literal_token : (v w : ℕ) → v < 2 ^ 128 → w < 2 ^ 32 → HasFixedToken (kinds.BvLit v w)
literal_token v w h i =
    let d = decimal_spells v h in
    let e = decimal_spells w (omega arith) in
    (token.BvLit v w, bv_literal (decimal v) (decimal w) refl d.0 e.0 (ap (λ (x : ℕ). token.BvLit x w) (sym d.1) ∙ ap (λ (x : ℕ). token.BvLit (value_of (decimal v)) x) (sym e.1)), (h, i), refl)

fixed_token : (k : Kind) → IsSpelledWord k → HasFixedToken k
fixed_token (kinds.Name n) h = absurd h
fixed_token (kinds.OnBits f n) h = (token.Name, function_spells f, tt, refl)
fixed_token (kinds.Range n) h = (token.Name, (word_longest (codes "range") refl).stands.0, tt, refl)
fixed_token (kinds.Unroll n) h = (token.Name, (word_longest (codes "unroll") refl).stands.0, tt, refl)
fixed_token (kinds.Induction n) h = (token.Name, (word_longest (codes "induction") refl).stands.0, tt, refl)
fixed_token (kinds.Verify n) h = (token.Name, (word_longest (codes "verify") refl).stands.0, tt, refl)
fixed_token (kinds.Check n) h = (token.Name, (word_longest (codes "check") refl).stands.0, tt, refl)
fixed_token (kinds.PrintResults n) h = (token.Name, (word_longest (codes "print_results") refl).stands.0, tt, refl)
fixed_token (kinds.PrintCex n) h = (token.Name, (word_longest (codes "print_cex") refl).stands.0, tt, refl)
fixed_token (kinds.Number n) h = number_token n h
fixed_token (kinds.BvType w) h = type_token w h
fixed_token (kinds.BvLit v w) h = literal_token v w h.0 h.1
fixed_token k h = (plain_token k, plain_spells k (in_table k refl), plain_within k refl, (in_table k refl).1)

name_token : (names : List (List ℕ)) (n : ℕ) → IsSpelledName names n → Spells (name_text names n) token.Name
name_token names n h =
    let same : h.text ≡ name_text names n = sym (ap found h.stands) in
    subst (λ (t : List ℕ). Spells t token.Name) same h.spelled

pub has_token : (names : List (List ℕ)) (p : Piece) → HasSpelling names p → HasToken names p
has_token names (name n) h = (token.Name, name_token names n h, tt, refl)
has_token names (applied n) h = (token.Name, name_token names n h.is_name, tt, refl)
has_token names (fixed k) h = fixed_token k h
