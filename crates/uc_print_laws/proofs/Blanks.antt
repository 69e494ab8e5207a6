-- A spelling with a blank behind it is the token that stands there.
use Rattle.std.specs.Prelude.{codes}
use Rattle.std.proofs.Common.{◌≡◌, ℕ, ◌≤◌, Bool, true, not, List, [], ◌∷◌, ◌++◌, length, refl, sym, ap, ◌∙◌, subst, arith}
use Rattle.std.proofs.lemmas.Bool.{false≢true}
use Rattle.std.proofs.lemmas.Bool.Decides.{nat_tests}
use Rattle.uc_lexer.specs.declared.token.TokenKind.{TokenKind}
use Rattle.uc_lexer.specs.declared.token.TokenKind.TheVariants.{Number, LessUnsigned, LessEqualUnsigned, GreaterUnsigned, GreaterEqualUnsigned}
use Rattle.uc_lexer.specs.Bytes.{is_blank, is_digit, is_word, AreAll}
use Rattle.uc_lexer.specs.Gap.{Skips, here, blank}
use Rattle.uc_lexer.specs.Table.{signs, IsAmong}
use Rattle.uc_lexer.specs.Spelling.{Spells, name, keyword, bv_type, number, bv_literal, sign, MayEnd, IsWithinLimits, RunsOn, IsToken}
use Rattle.uc_lexer.proofs.Fronts.{AreAll-weaker, AreAll-append}
use Rattle.uc_lexer.proofs.Classes.{letter_word, digit_word}
use Rattle.uc_lexer.proofs.Tables.{all_bytes, each-among, AreAll-from, keyword_word}

abbrev is_dark : ℕ → Bool
is_dark c = not (is_blank c)

word_dark : (c : ℕ) → is_word c ≡ true → is_dark c ≡ true
word_dark c h = grind (arith, nat_tests)

digit_dark : (c : ℕ) → is_digit c ≡ true → is_dark c ≡ true
digit_dark c h = word_dark c (digit_word c h)

sign_dark : (bytes : List ℕ) (kind : TokenKind) → IsAmong signs bytes kind → AreAll is_dark bytes
sign_dark bytes kind a = AreAll-from is_dark bytes (each-among (λ e. all_bytes is_dark e.0) signs bytes kind refl a)

-- no spelling has a blank in it
spelled_dark : (bytes : List ℕ) (kind : TokenKind) → Spells bytes kind → AreAll is_dark bytes
spelled_dark bytes kind (name w k v e) = AreAll-weaker is_word is_dark bytes word_dark w.1
spelled_dark bytes kind (keyword a) = AreAll-weaker is_word is_dark bytes word_dark (keyword_word bytes kind a)
spelled_dark bytes kind (bv_type digits e d k) = subst (λ (t : List ℕ). AreAll is_dark t) (sym e) (refl, (refl, AreAll-weaker is_digit is_dark digits digit_dark d.1))
spelled_dark bytes kind (number d e) = AreAll-weaker is_digit is_dark bytes digit_dark d.1
spelled_dark bytes kind (bv_literal v w e dv dw k) =
    subst (λ (t : List ℕ). AreAll is_dark t) (sym e)
    (AreAll-append is_dark v (codes "bv" ++ w) (AreAll-weaker is_digit is_dark v digit_dark dv.1) (refl, (refl, AreAll-weaker is_digit is_dark w digit_dark dw.1)))
spelled_dark bytes kind (sign a) = sign_dark bytes kind a

dark_blank : (c : ℕ) → is_blank c ≡ true → is_dark c ≡ true → ⊥
dark_blank c b d = false≢true (sym (ap not b) ∙ d)

-- what has no blank in it does not go past one
no_longer : (other others bytes rest : List ℕ) (c : ℕ) → other ++ others ≡ bytes ++ c ∷ rest → AreAll is_dark other → is_blank c ≡ true → length other ≤ length bytes
no_longer [] others bytes rest c e a b = omega arith
no_longer (x ∷ xs) others [] rest c e a b =
    let same : x ≡ c = cc in
    absurd (dark_blank c b (subst (λ (y : ℕ). is_dark y ≡ true) same a.0))
no_longer (x ∷ xs) others (y ∷ ys) rest c e a b =
    let tail : xs ++ others ≡ ys ++ c ∷ rest = cc in
    let shorter : length xs ≤ length ys = no_longer xs others ys rest c tail a.1 b in
    omega arith

no_word : (c : ℕ) → is_blank c ≡ true → is_word c ≡ true → ⊥
no_word c b w = dark_blank c b (word_dark c w)

may_end : (kind : TokenKind) (c : ℕ) (rest : List ℕ) → is_blank c ≡ true → MayEnd kind (c ∷ rest)
may_end LessUnsigned c rest b = no_word c b
may_end LessEqualUnsigned c rest b = no_word c b
may_end GreaterUnsigned c rest b = no_word c b
may_end GreaterEqualUnsigned c rest b = no_word c b
may_end _ c rest b = tt

runs_out : (kind : TokenKind) (c : ℕ) (rest : List ℕ) → is_blank c ≡ true → RunsOn kind (c ∷ rest) → ⊥
runs_out (Number v) c rest b r = no_word c b (letter_word c r)
runs_out _ c rest b r = r

pub is_token : (bytes rest : List ℕ) (c : ℕ) (kind : TokenKind) → Spells bytes kind → IsWithinLimits kind → is_blank c ≡ true → IsToken bytes (c ∷ rest) kind
is_token bytes rest c kind s w b = record {
  longest = record {
    stands = (s, may_end kind c rest b);
    longest = λ other others k e t. no_longer other others bytes rest c e (spelled_dark other k t.0) b;
  };
  within = w;
  ends = runs_out kind c rest b;
}

-- blanks are skipped
pub skips : (blanks rest : List ℕ) → AreAll is_blank blanks → Skips (blanks ++ rest) rest
skips [] rest a = here
skips (c ∷ cs) rest a = blank a.0 (skips cs rest a.1)
