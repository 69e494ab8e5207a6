-- The tokens of a text, taken one by one.
use Rattle.std.proofs.Common.{◌≡◌, ℕ, List, [], ◌∷◌, ◌++◌, drop, Option, Some, None, Ok, Err, sym, ap, ◌∙◌, subst}
use Rattle.std.proofs.lemmas.List.{append_assoc, append-nil}
use Rattle.uc_lexer.specs.declared.token.Token.{Token}
use Rattle.uc_lexer.specs.declared.fault.LexFault.{LexFault}
use Rattle.uc_lexer.specs.Text.{Progress, IsNext, IsNextToken, IsNextFault, passed, Reads, ends, fails, goes_on, Tokens, FirstFault}
use Rattle.uc_lexer.specs.Gap.{Skips}

-- whatever the rest of the text reads as, the text reads as the tokens so far and that
pub record SoFar (file : ℕ) (text : List ℕ) (p : Progress) (found : List Token) : Type 0 where
  pub file_is : p.file ≡ file
  pub text_is : p.text ≡ text
  pub reads : (more : List Token) (fault : Option LexFault) → Reads file text p.offset more fault → Reads file text 0 (found ++ more) fault

pub none_yet : (file : ℕ) (text : List ℕ) (p : Progress) (found : List Token) → p ≡ record { file = file; text = text; offset = 0 } → found ≡ [] → SoFar file text p found
none_yet file text p found e f = record {
  file_is = ap (λ (q : Progress). q.file) e;
  text_is = ap (λ (q : Progress). q.text) e;
  reads = λ more fault r.
      subst (λ (ts : List Token). Reads file text 0 (ts ++ more) fault) (sym f) (subst (λ (q : Progress). Reads file text q.offset more fault) e r);
}

pub one_more : (file : ℕ) (text : List ℕ) (p q : Progress) (found more_found : List Token) (token : Token) → IsNext p (Ok (Some token)) → q ≡ passed p (Ok (Some token)) → more_found ≡ found ++ token ∷ [] → SoFar file text p found → SoFar file text q more_found
one_more file text p q found more_found token next e f h =
    let here : IsNextToken file text p.offset token = subst (λ (t : List ℕ). IsNextToken file t p.offset token) h.text_is (subst (λ (n : ℕ). IsNextToken n p.text p.offset token) h.file_is next) in
    record {
      file_is = ap (λ (x : Progress). x.file) e ∙ h.file_is;
      text_is = ap (λ (x : Progress). x.text) e ∙ h.text_is;
      reads = λ more fault r.
          let behind : Reads file text token.end more fault = subst (λ (x : Progress). Reads file text x.offset more fault) e r in
          let all = h.reads (token ∷ more) fault (goes_on here behind) in
          let same : found ++ (token ∷ more) ≡ more_found ++ more = sym (append_assoc found (token ∷ []) more) ∙ ap (λ (ts : List Token). ts ++ more) (sym f) in
          subst (λ (ts : List Token). Reads file text 0 ts fault) same all;
    }

pub no_more : (file : ℕ) (text : List ℕ) (p : Progress) (found : List Token) → IsNext p (Ok None) → SoFar file text p found → Tokens file text found
no_more file text p found next h =
    let gap : Skips (drop p.offset text) [] = subst (λ (t : List ℕ). Skips (drop p.offset t) []) h.text_is next in
    subst (λ (ts : List Token). Reads file text 0 ts None) (append-nil found) (h.reads [] None (ends gap))

pub first_fault : (file : ℕ) (text : List ℕ) (p : Progress) (found : List Token) (fault : LexFault) → IsNext p (Err fault) → SoFar file text p found → FirstFault file text fault
first_fault file text p found fault next h =
    let here : IsNextFault file text p.offset fault = subst (λ (t : List ℕ). IsNextFault file t p.offset fault) h.text_is (subst (λ (n : ℕ). IsNextFault n p.text p.offset fault) h.file_is next) in
    (found ++ [], h.reads [] (Some fault) (fails here))
