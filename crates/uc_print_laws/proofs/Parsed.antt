-- What the words of a text spell has spellings under their names.
use Rattle.std.specs.Prelude.{if◌then◌else◌}
use Rattle.std.specs.Str.{bytes_eq}
use Rattle.std.proofs.lemmas.Slice.Eq.{bytes_eq-Decides}
use Rattle.uc_syntax.specs.Numbering.{has_text, AreDistinct}
use Rattle.uc_syntax.proofs.Numbering.{keep_same}
use Rattle.uc_print_laws.specs.Names.{HaveFewNames}
use Rattle.uc_print_laws.specs.NameCountsLaw.{NamesAreCounted}
use Rattle.std.proofs.Common.{◌≡◌, inl, inr, ℕ, ◌≤◌, Bool, true, false, not, List, [], ◌∷◌, slice_get, Option, Some, None, refl, sym, ap, ◌∙◌, subst, arith}
use Rattle.std.proofs.lemmas.Bool.{false≢true}
use Rattle.uc_forms.specs.Answer.{Answer, IsAnswer}
use Rattle.uc_forms.specs.Answer as answers
use Rattle.uc_forms.specs.Law.{DepthsBoundLevels}
use Rattle.uc_forms.specs.Spelling.{Spells as SpellsModules}
use Rattle.uc_lexer.specs.declared.token.Token.{Token}
use Rattle.uc_lexer.specs.declared.token.TokenKind.{TokenKind}
use Rattle.uc_lexer.specs.declared.token.TokenKind.TheVariants as token
use Rattle.uc_lexer.specs.declared.fault.LexFault.{LexFault}
use Rattle.uc_lexer.specs.Spelling.{Spells, IsWithinLimits}
use Rattle.uc_lexer.specs.Text.{Reads, ends, fails, goes_on}
use Rattle.uc_syntax.specs.declared.declaration.Module.{Module}
use Rattle.uc_grammar.specs.declared.word.Word.{Word}
use Rattle.uc_grammar.specs.declared.word.Kind.{Kind}
use Rattle.uc_grammar.specs.declared.word.Kind.TheVariants as kinds
use Rattle.uc_grammar.specs.Code.{name_in}
use Rattle.uc_grammar.specs.Language.{grammar}
use Rattle.uc_words.specs.Fixed.{fixed_kind}
use Rattle.uc_words.specs.Known.{Entry, known_names, kind_in}
use Rattle.uc_words.specs.Words.{bytes_of, IsKind, AreWords, IsText}
use Rattle.uc_print_laws.specs.Piece.{Piece, name, applied, fixed, is_name, is_on_bits, numbered}
use Rattle.uc_print_laws.specs.Declarations.{modules_words}
use Rattle.uc_print_laws.specs.Text.{found, name_text, kind_text, design_text}
use Rattle.uc_print_laws.specs.Kept.{is_own, Reprints, IsAmong, AreAll}
use Rattle.uc_print_laws.specs.ShapedLaw.{SpelledIsShaped}
use Rattle.uc_print_laws.specs.Spelled.{IsSpelledName, IsSpelledWord, HasSpelling, HaveSpellings, IsShaped, IsNumbered, AreNumbered}
use Rattle.uc_print_laws.specs.Law.{TextIsReadBack, ParsedIsShaped, IsReadBack, IsSpelledAgain}
use Rattle.uc_print_laws.proofs.Numbered.{number_has_text}
use Rattle.uc_print_laws.proofs.Worded.{name_kind}

-- ---- tokens

abbrev IsSpelledToken : List ℕ → Token → Type 0
IsSpelledToken text t = Spells (bytes_of text t) t.kind × IsWithinLimits t.kind

abbrev AreSpelledTokens : List ℕ → List Token → Type 0
AreSpelledTokens text [] = Unit {0}
AreSpelledTokens text (t ∷ ts) = IsSpelledToken text t × AreSpelledTokens text ts

reads_spelled : (file : ℕ) (text : List ℕ) (offset : ℕ) (tokens : List Token) (fault : Option LexFault) → Reads file text offset tokens fault → AreSpelledTokens text tokens
reads_spelled file text offset [] fault (ends gap) = tt
reads_spelled file text offset [] fault (fails f) = tt
reads_spelled file text offset (t ∷ ts) fault (goes_on next more) = ((next.spelled.longest.stands.0, next.spelled.within), reads_spelled file text t.end ts fault more)

-- ---- kinds

abbrev is_no_name : Option Kind → Bool
is_no_name None = true
is_no_name (Some k) = not (is_name k)

fixed_no_name : (t : TokenKind) → is_no_name (fixed_kind t) ≡ true
fixed_no_name token.Name = refl
fixed_no_name _ = refl

a_name_token : (t : TokenKind) → fixed_kind t ≡ None → t ≡ token.Name
a_name_token token.Name e = refl
a_name_token _ e = absurd cc

abbrev IsWithin : Option Kind → Type 0
IsWithin None = Unit {0}
IsWithin (Some k) = IsSpelledWord k

fixed_within : (t : TokenKind) → IsWithinLimits t → IsWithin (fixed_kind t)
fixed_within (token.BvType w) h = h
fixed_within (token.Number v) h = h
fixed_within (token.BvLit v w) h = h
fixed_within _ h = tt

known_spelled : (k : Kind) → is_name k ≡ true → is_own k ≡ false → IsSpelledWord k
known_spelled (kinds.Name n) i o = absurd (false≢true (sym o))
known_spelled (kinds.OnBits f n) i o = tt
known_spelled (kinds.Range n) i o = tt
known_spelled (kinds.Unroll n) i o = tt
known_spelled (kinds.Induction n) i o = tt
known_spelled (kinds.Verify n) i o = tt
known_spelled (kinds.Check n) i o = tt
known_spelled (kinds.PrintResults n) i o = tt
known_spelled (kinds.PrintCex n) i o = tt
known_spelled _ i o = absurd (false≢true i)

own_numbered : (j : Kind) (m : ℕ) → is_own (numbered j m) ≡ is_own j
own_numbered (kinds.Name n) m = refl
own_numbered _ m = refl

without_number : (j : Kind) (m : ℕ) → is_own j ≡ false → IsSpelledWord (numbered j m) → IsSpelledWord j
without_number (kinds.Name n) m o h = absurd (false≢true (sym o))
without_number _ m o h = h

-- ---- words

module _ (names : List (List ℕ)) (text : List ℕ) (t : Token) (k : Kind) (spelled : IsSpelledToken text t) where
  abbrev Case : Option Kind → Type 0
  Case o = fixed_kind t.kind ≡ o → IsKind names (bytes_of text t) o k → (p : Piece) → Reprints p k → HasSpelling names p

  -- a word that is no name
  no_name : (j : Kind) → Case (Some j)
  no_name j e i p r = by p r
    where
      not_named : is_name k ≡ true → ⊥
      not_named n = false≢true (sym (ap not n) ∙ ap (λ (z : Kind). not (is_name z)) i ∙ sym (ap is_no_name e) ∙ fixed_no_name t.kind)

      within : IsSpelledWord k
      within = subst IsSpelledWord (sym i) (subst IsWithin e (fixed_within t.kind spelled.1))

      by : (p : Piece) → Reprints p k → HasSpelling names p
      by (name n) r = absurd (not_named r.0)
      by (applied n) r = absurd (not_named r.0)
      by (fixed l) r = without_number l r.1.0 r.0 (subst IsSpelledWord r.1.1 within)

  a_name : Case None
  a_name e i p r = by p r
    where
      bytes : List ℕ
      bytes = bytes_of text t

      number_is : name_in k ≡ i.number
      number_is = ap name_in i.kind_is ∙ (name_kind (bytes_of text t) i.number).1

      its_name : (n : ℕ) → name_in k ≡ n → IsSpelledName names n
      its_name n h = record {
        text = bytes_of text t;
        stands = subst (λ (x : ℕ). slice_get names x ≡ Some (bytes_of text t)) (sym number_is ∙ h) i.stands;
        spelled = subst (λ (x : TokenKind). Spells (bytes_of text t) x) (a_name_token t.kind e) spelled.0;
      }

      own : (n : ℕ) → name_in k ≡ n → kind_in known_names (name_text names n) n ≡ k
      own n h =
          let s = its_name n h in
          ap (λ (x : List ℕ). kind_in known_names x n) (ap found s.stands) ∙ ap (kind_in known_names (bytes_of text t)) (sym h ∙ number_is) ∙ sym i.kind_is

      named : is_name k ≡ true
      named = ap is_name i.kind_is ∙ (name_kind (bytes_of text t) i.number).0

      by : (p : Piece) → Reprints p k → HasSpelling names p
      by (name n) r = its_name n r.1
      by (applied n) r = record { is_name = its_name n r.1; is_own = ap is_on_bits (own n r.1) ∙ r.2 }
      by (fixed l) r = without_number l r.1.0 r.0 (subst IsSpelledWord r.1.1 (known_spelled k named (ap is_own r.1.1 ∙ own_numbered l r.1.0 ∙ r.0)))

  case : (o : Option Kind) → Case o
  case None = a_name
  case (Some j) = no_name j

among_spelled : (names : List (List ℕ)) (text : List ℕ) (tokens : List Token) (words : List Word) → AreSpelledTokens text tokens → AreWords names text tokens words → (p : Piece) → IsAmong words p → HasSpelling names p
among_spelled names text [] [] s are p i = absurd i
among_spelled names text [] (w ∷ ws) s are p i = absurd are
among_spelled names text (t ∷ ts) [] s are p i = absurd i
among_spelled names text (t ∷ ts) (w ∷ ws) s are p (inl r) = case names text t w.kind s.0 (fixed_kind t.kind) refl are.0.kind p r
among_spelled names text (t ∷ ts) (w ∷ ws) s are p (inr i) = among_spelled names text ts ws s.1 are.1 p i

all_spelled : (names : List (List ℕ)) (P : Piece → Type 0) (ps : List Piece) → ((p : Piece) → P p → HasSpelling names p) → AreAll P ps → HaveSpellings names ps
all_spelled names P [] h a = tt
all_spelled names P (p ∷ ps) h a = (h p a.0, all_spelled names P ps h a.1)

-- ---- names that the grammar knows

-- the text of each entry is that of its word
abbrev AreTexts : ℕ → List Entry → Type 0
AreTexts n [] = Unit {0}
AreTexts n (e ∷ es) = (kind_text (e.1 n) ≡ e.0) × AreTexts n es

known_text : (es : List Entry) (text : List ℕ) (n : ℕ) → AreTexts n es → is_own (kind_in es text n) ≡ false → kind_text (kind_in es text n) ≡ text
known_text [] text n all o = absurd (false≢true (sym o))
known_text (e ∷ es) text n all o = by (known_text es text n all.1) (bytes_eq text e.0) refl o
  where
    by : (is_own (kind_in es text n) ≡ false → kind_text (kind_in es text n) ≡ text) → (b : Bool) → bytes_eq text e.0 ≡ b → is_own (if b then e.1 n else kind_in es text n) ≡ false → kind_text (if b then e.1 n else kind_in es text n) ≡ text
    by more true i o = all.0 ∙ sym ((bytes_eq-Decides text e.0).0 i)
    by more false i o = more o

texts : (n : ℕ) → AreTexts n known_names
texts n = (refl, (refl, (refl, (refl, (refl, (refl, (refl, (refl, (refl, (refl, (refl, (refl, tt))))))))))))

text_numbered : (j : Kind) (m : ℕ) → kind_text (numbered j m) ≡ kind_text j
text_numbered (kinds.Name n) m = refl
text_numbered _ m = refl

name_numbered : (j : Kind) (m : ℕ) → is_name (numbered j m) ≡ is_name j
name_numbered (kinds.Name n) m = refl
name_numbered _ m = refl

-- ---- words one by one

among_numbered : (names : List (List ℕ)) (text : List ℕ) (tokens : List Token) (words : List Word) → AreWords names text tokens words → (p : Piece) → IsAmong words p → IsNumbered names p
among_numbered names text [] [] are p i = absurd i
among_numbered names text [] (w ∷ ws) are p i = absurd are
among_numbered names text (t ∷ ts) [] are p i = absurd i
among_numbered names text (t ∷ ts) (w ∷ ws) are (name n) (inl r) = tt
among_numbered names text (t ∷ ts) (w ∷ ws) are (applied n) (inl r) = tt
among_numbered names text (t ∷ ts) (w ∷ ws) are (fixed l) (inl r) = λ n. by (fixed_kind t.kind) refl are.0.kind n
  where
    by : (o : Option Kind) → fixed_kind t.kind ≡ o → IsKind names (bytes_of text t) o w.kind → is_name l ≡ true → has_text names (kind_text l) ≡ true
    by (Some j) e i n =
        let named : is_name w.kind ≡ true = ap is_name r.1.1 ∙ name_numbered l r.1.0 ∙ n in
        absurd (false≢true (sym (ap not named) ∙ ap (λ (z : Kind). not (is_name z)) i ∙ sym (ap is_no_name e) ∙ fixed_no_name t.kind))
    by None e i n =
        let own : is_own (kind_in known_names (bytes_of text t) i.number) ≡ false = ap is_own (sym i.kind_is ∙ r.1.1) ∙ own_numbered l r.1.0 ∙ r.0 in
        let same : kind_text l ≡ bytes_of text t = sym (text_numbered l r.1.0) ∙ ap kind_text (sym r.1.1 ∙ i.kind_is) ∙ known_text known_names (bytes_of text t) i.number (texts i.number) own in
        ap (has_text names) same ∙ number_has_text names i.number (bytes_of text t) i.stands
among_numbered names text (t ∷ ts) (w ∷ ws) are p (inr i) = among_numbered names text ts ws are.1 p i

all_numbered : (names : List (List ℕ)) (P : Piece → Type 0) (ps : List Piece) → ((p : Piece) → P p → IsNumbered names p) → AreAll P ps → AreNumbered names ps
all_numbered names P [] h a = tt
all_numbered names P (p ∷ ps) h a = (h p a.0, all_numbered names P ps h a.1)

pub parsed_shaped : SpelledIsShaped → (names : List (List ℕ)) (file : ℕ) (text : List ℕ) (words : List Word) (levels : ℕ) (modules : List Module) → IsText names file text words
    → SpellsModules grammar.rule levels grammar.text words modules → IsShaped names modules × ((modules_words modules).depth ≤ levels) × AreNumbered names (modules_words modules).words
parsed_shaped law names file text words levels modules is s =
    let kept = law levels words modules s in
    let spelled = reads_spelled file text 0 is.tokens None is.are_tokens in
    (record { spelled = all_spelled names (IsAmong words) (modules_words modules).words (among_spelled names text is.tokens words spelled is.are_words) kept.among; nodes = kept.nodes }, kept.depth, all_numbered names (IsAmong words) (modules_words modules).words (among_numbered names text is.tokens words is.are_words) kept.among)

-- ---- printed and read again

pub printed_back : TextIsReadBack → ParsedIsShaped → DepthsBoundLevels grammar → NamesAreCounted → (levels limit : ℕ) (names : List (List ℕ)) (file : ℕ) (text : List ℕ) (words : List Word) (modules : List Module) → AreDistinct names → IsText names file text words → IsAnswer grammar levels limit words (answers.spelled modules)
    → (other : ℕ) (printed : List Word) (answer : Answer Word (List Module)) → IsText names other (design_text names modules) printed → IsAnswer grammar levels limit printed answer → IsSpelledAgain modules answer
printed_back back shaped bound counted levels limit names file text words modules distinct is i other printed answer again j =
    by answer (back levels limit names names modules other printed answer h.0 distinct (keep_same names) again j)
  where
    h : IsShaped names modules × ((modules_words modules).depth ≤ levels) × AreNumbered names (modules_words modules).words
    h = shaped names file text words levels modules is (bound levels i.0 words modules i.1 i.2.0)

    few : HaveFewNames limit modules
    few = (counted limit i.0 words modules i.1).within i.2.1

    by : (r : Answer Word (List Module)) → IsReadBack levels limit modules r → IsSpelledAgain modules r
    by (answers.spelled ms) b = b
    by (answers.wrong rest) b = b
    by (answers.too_deep rest) b = (let d = h.1 in omega arith)
    by (answers.too_many x) b = b few
