use Rattle.std.proofs.Common.{◌≡◌, [], ◌∷◌, ◌++◌, length, subst, sym, ap, ◌∙◌, arith, rules}
use Rattle.uc_lexer.specs.Text.{Tokens, IsLexError}
use Rattle.uc_front.specs.declared.lexing.Source.{Source}
use Rattle.uc_front.specs.Refused.{IsUnlexed}
use Rattle.uc_front.specs.Errors.{IsTextError}
use Rattle.uc_front.specs.Sources.{AreLexed, texts_of}
use Rattle.uc_front.proofs.Lists.{text_within}
use Rattle.uc_front.proofs.Texts.{text_at, texts_more, lexed_more, lexed_refused}
use Rattle.uc_front.proofs.lexing.lex.Goals as goal

pub tokens-requires : goal.tokens-requires
tokens-requires c =
    let left : c.loop-text.text-iterator.rest.items ≡ c.in-Some.text ∷ c.next.new.self.rest.items = search rules in
    let texts : texts_of c.loop-text.sources ++ c.in-Some.text ∷ c.next.new.self.rest.items ≡ c.args.texts = ap (λ ts. texts_of c.loop-text.sources ++ ts) (sym left) ∙ c.loop-text.invariant.texts in
    let at = text_at c.loop-text.sources c.in-Some.text c.next.new.self.rest.items c.args.texts texts in
    omega (arith, text_within c.args.texts (length c.loop-text.sources) c.in-Some.text at, c.requires.within, ap length c.as_slice.ensures)

pub returns-in-Err-clause-refused : goal.returns-in-Err-clause-refused
returns-in-Err-clause-refused c =
    let left : c.loop-text.text-iterator.rest.items ≡ c.in-Some.text ∷ c.next.new.self.rest.items = search rules in
    let texts : texts_of c.loop-text.sources ++ c.in-Some.text ∷ c.next.new.self.rest.items ≡ c.args.texts = ap (λ ts. texts_of c.loop-text.sources ++ ts) (sym left) ∙ c.loop-text.invariant.texts in
    let fault : IsLexError (length c.loop-text.sources) c.in-Some.text c.in-Err.error =
    subst (λ t. IsLexError (length c.loop-text.sources) t c.in-Err.error) c.as_slice.ensures (subst (λ n. IsLexError n c.as_slice.result.now c.in-Err.error) c.len.ensures c.in-Err.ensures.fault) in
    subst (λ e. IsTextError (IsUnlexed c.args.texts) e) (sym c.lexical.ensures)
    (lexed_refused c.loop-text.sources c.in-Some.text c.next.new.self.rest.items c.args.texts c.in-Err.error texts c.loop-text.invariant.lexed fault)

pub loop-text-preserved : goal.loop-text-preserved
loop-text-preserved c =
    let left : c.loop-text.text-iterator.rest.items ≡ c.in-Some.text ∷ c.next.new.self.rest.items = search rules in
    let texts : texts_of c.loop-text.sources ++ c.in-Some.text ∷ c.next.new.self.rest.items ≡ c.args.texts = ap (λ ts. texts_of c.loop-text.sources ++ ts) (sym left) ∙ c.loop-text.invariant.texts in
    let s : Source = record { text = c.in-Some.text; tokens = c.from_vec-tokens.result } in
    let pushed : c.push.new.self ≡ c.loop-text.sources ++ s ∷ [] = c.in_ok-push.ensures.ok in
    let tokens : Tokens (length c.loop-text.sources) c.in-Some.text c.from_vec-tokens.result =
    subst (λ ts. Tokens (length c.loop-text.sources) c.in-Some.text ts) (sym c.from_vec-tokens.ensures)
    (subst (λ t. Tokens (length c.loop-text.sources) t c.in-Ok.tokens.items) c.as_slice.ensures (subst (λ n. Tokens n c.as_slice.result.now c.in-Ok.tokens.items) c.len.ensures c.in-Ok.ensures.tokens)) in
    record {
      texts = subst (λ xs. texts_of xs ++ c.next.new.self.rest.items ≡ c.args.texts) (sym pushed) (texts_more c.loop-text.sources s c.next.new.self.rest.items c.args.texts texts);
      lexed = subst (AreLexed 0) (sym pushed) (lexed_more c.loop-text.sources s c.loop-text.invariant.lexed tokens);
    }
