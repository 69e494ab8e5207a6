-- Reading a level goes on from the level below, and changes nothing where the next word is none of its operators.
use Rattle.std.proofs.Common.{◌≡◌, ℕ, zero, suc, ◌<◌, ◌≤◌, ◌==◌, Bool, true, false, List, [], ◌∷◌, Ok, Err, refl, sym, ap, subst, ◌∙◌, arith}
use Rattle.std.proofs.lemmas.Bool.{eqb-true, eqb-false}
use Rattle.uc_forms.specs.Counted.{State, Outcome, turned, paired}
use Rattle.uc_forms.specs.CountedGives.{StopsAt}
use Rattle.uc_forms.specs.declared.fault.Fault.{Fault}
use Rattle.uc_forms.specs.declared.stop.Stop.{Stop}
use Rattle.uc_forms.specs.declared.stop.Stop.TheVariants as stops
use Rattle.uc_forms.specs.Form.{member}
use Rattle.uc_forms.specs.Reading.{is_at}
use Rattle.uc_grammar.specs.Code.{code_of}
use Rattle.uc_grammar.specs.declared.word.Word.{Word}
use Rattle.uc_grammar.specs.declared.word.Kind.{Kind}
use Rattle.uc_grammar.specs.declared.word.Kind.TheVariants as kinds
use Rattle.uc_grammar.specs.Syntax.{words, F, Placed, product, chain_of, sum_of, sum_sign}
use Rattle.uc_parse_expressions.specs.Chains.{chain_form, form_of, operand_form, sign_of, node_of}
use Rattle.uc_parse_expressions.specs.Levels.{height, below, signs, level_of, level_here, onward}
use Rattle.uc_parse_expressions.specs.Signs.{minus, sum_codes, order_codes}
use Rattle.uc_parse_expressions.proofs.Chains.{chain_is, sum_is, fold_alone, chain_folds, sum_folds}
use Rattle.uc_parse_expressions.proofs.Compared.{compared_is, compared_alone}
use Rattle.uc_parse_expressions.specs.declared.chain.Chain.{Chain}
use Rattle.uc_parse_expressions.specs.declared.chain.Chain.TheVariants.{Product, Concat, BitAnd, BitXor, BitOr, And, Or, Implies, Iff}
use Rattle.uc_parse_expressions.specs.declared.level.Level.{Level}
use Rattle.uc_parse_expressions.specs.declared.level.Level.TheVariants as level_kinds
use Rattle.uc_parse_expressions.specs.Reading.{form}
use Rattle.uc_syntax.specs.declared.expression.Expr.TheViews as exprs

-- ---- the order of levels

abbrev at_height : ℕ → List Level → Level
at_height n [] = level_kinds.Unary
at_height zero (l ∷ ls) = l
at_height (suc n) (l ∷ ls) = at_height n ls

abbrev in_order : List Level
in_order = level_kinds.Unary ∷ level_kinds.Chain Product ∷ level_kinds.Sum ∷ level_kinds.Chain Concat ∷ level_kinds.Chain BitAnd ∷ level_kinds.Chain BitXor ∷ level_kinds.Chain BitOr ∷ level_kinds.Comparison ∷ level_kinds.Chain And ∷ level_kinds.Chain Or ∷ level_kinds.Chain Implies ∷ level_kinds.Chain Iff ∷ []

chain_at : (c : Chain) → at_height (height (level_kinds.Chain c)) in_order ≡ level_kinds.Chain c
chain_at = elim [ Product ↦ refl | Concat ↦ refl | BitAnd ↦ refl | BitXor ↦ refl | BitOr ↦ refl | And ↦ refl | Or ↦ refl | Implies ↦ refl | Iff ↦ refl ]

has_height : (l : Level) → at_height (height l) in_order ≡ l
has_height level_kinds.Unary = refl
has_height level_kinds.Sum = refl
has_height level_kinds.Comparison = refl
has_height (level_kinds.Chain c) = chain_at c

same_level : (l m : Level) → height l ≡ height m → l ≡ m
same_level l m e = sym (has_height l) ∙ ap (λ n. at_height n in_order) e ∙ has_height m

chain_below : (c : Chain) → height (level_kinds.Chain c) ≡ suc (height (below (level_kinds.Chain c)))
chain_below = elim [ Product ↦ refl | Concat ↦ refl | BitAnd ↦ refl | BitXor ↦ refl | BitOr ↦ refl | And ↦ refl | Or ↦ refl | Implies ↦ refl | Iff ↦ refl ]

pub one_below : (l : Level) → 0 < height l → height l ≡ suc (height (below l))
one_below level_kinds.Unary h = absurd (omega arith)
one_below level_kinds.Sum h = refl
one_below level_kinds.Comparison h = refl
one_below (level_kinds.Chain c) h = chain_below c

-- ---- the operator that comes next tells its level

star_tells : (k : Kind) → member (code_of k) (signs (level_kinds.Chain Product)) ≡ (height (level_of k) == 1)
star_tells kinds.Star = refl
star_tells _ = refl

sum_tells : (k : Kind) → member (code_of k) sum_codes ≡ (height (level_of k) == 2)
sum_tells kinds.Star = refl
sum_tells _ = refl

concat_tells : (k : Kind) → member (code_of k) (signs (level_kinds.Chain Concat)) ≡ (height (level_of k) == 3)
concat_tells kinds.Star = refl
concat_tells _ = refl

bit_and_tells : (k : Kind) → member (code_of k) (signs (level_kinds.Chain BitAnd)) ≡ (height (level_of k) == 4)
bit_and_tells kinds.Star = refl
bit_and_tells _ = refl

bit_xor_tells : (k : Kind) → member (code_of k) (signs (level_kinds.Chain BitXor)) ≡ (height (level_of k) == 5)
bit_xor_tells kinds.Star = refl
bit_xor_tells _ = refl

bit_or_tells : (k : Kind) → member (code_of k) (signs (level_kinds.Chain BitOr)) ≡ (height (level_of k) == 6)
bit_or_tells kinds.Star = refl
bit_or_tells _ = refl

order_tells : (k : Kind) → member (code_of k) order_codes ≡ (height (level_of k) == 7)
order_tells kinds.Star = refl
order_tells _ = refl

and_tells : (k : Kind) → member (code_of k) (signs (level_kinds.Chain And)) ≡ (height (level_of k) == 8)
and_tells kinds.Star = refl
and_tells _ = refl

or_tells : (k : Kind) → member (code_of k) (signs (level_kinds.Chain Or)) ≡ (height (level_of k) == 9)
or_tells kinds.Star = refl
or_tells _ = refl

implies_tells : (k : Kind) → member (code_of k) (signs (level_kinds.Chain Implies)) ≡ (height (level_of k) == 10)
implies_tells kinds.Star = refl
implies_tells _ = refl

iff_tells : (k : Kind) → member (code_of k) (signs (level_kinds.Chain Iff)) ≡ (height (level_of k) == 11)
iff_tells kinds.Star = refl
iff_tells _ = refl

sign_tells : (l : Level) (k : Kind) → 0 < height l → member (code_of k) (signs l) ≡ (height (level_of k) == height l)
sign_tells level_kinds.Unary k h = absurd (omega arith)
sign_tells level_kinds.Sum k h = sum_tells k
sign_tells level_kinds.Comparison k h = order_tells k
sign_tells (level_kinds.Chain Product) k h = star_tells k
sign_tells (level_kinds.Chain Concat) k h = concat_tells k
sign_tells (level_kinds.Chain BitAnd) k h = bit_and_tells k
sign_tells (level_kinds.Chain BitXor) k h = bit_xor_tells k
sign_tells (level_kinds.Chain BitOr) k h = bit_or_tells k
sign_tells (level_kinds.Chain And) k h = and_tells k
sign_tells (level_kinds.Chain Or) k h = or_tells k
sign_tells (level_kinds.Chain Implies) k h = implies_tells k
sign_tells (level_kinds.Chain Iff) k h = iff_tells k

differ : (m n : ℕ) → (m ≡ n → ⊥) → (m == n) ≡ false
differ m n h = tested (m == n) refl
  where
    tested : (b : Bool) → (m == n) ≡ b → (m == n) ≡ false
    tested true e = absurd (h (eqb-true m n e))
    tested false e = e

-- no operator of a level comes next unless it is the level of what comes next
no_sign : (l : Level) (ws : List Word) → 0 < height l → (height (level_here ws) ≡ height l → ⊥) → is_at words (signs l) ws ≡ false
no_sign l [] h n = refl
no_sign l (w ∷ ws) h n = sign_tells l w.kind h ∙ differ (height (level_of w.kind)) (height l) n

-- ---- from level to level

-- a level is what it gives from what the level below gives
pub climbed : (levels : ℕ) (l : Level) (s : State Word) → 0 < height l → form levels (form_of l) s ≡ onward levels l (form levels (form_of (below l)) s)
climbed levels level_kinds.Unary s h = absurd (omega arith)
climbed levels level_kinds.Sum s h = ap (λ (f : F Placed). form levels f s) sum_is
climbed levels level_kinds.Comparison s h = ap (λ (f : F Placed). form levels f s) compared_is
climbed levels (level_kinds.Chain c) s h = ap (λ (f : F Placed). form levels f s) (chain_is c)

alone : (levels : ℕ) (l : Level) (p : Placed) (s : State Word) → is_at words (signs l) s.0 ≡ false → onward levels l (Ok (p, s)) ≡ Ok (p, s)
alone levels level_kinds.Unary p s t = refl
alone levels level_kinds.Sum p s t = fold_alone sum_sign exprs.Sum sum_of sum_folds levels product kinds.Plus minus p s t
alone levels level_kinds.Comparison p s t = compared_alone levels p s t
alone levels (level_kinds.Chain c) p s t = fold_alone (λ (w : Word). w.place) (node_of c) (chain_of (node_of c)) (chain_folds (node_of c)) levels (operand_form c) (sign_of c) [] p s t

stopped : (levels : ℕ) (l : Level) (d : Fault × State Word) → onward levels l (Err d) ≡ Err d
stopped levels level_kinds.Unary d = refl
stopped levels level_kinds.Sum d = refl
stopped levels level_kinds.Comparison d = refl
stopped levels (level_kinds.Chain c) d = refl

-- no operator of the levels from above one height up to another comes next
abbrev pub Between : List Word → ℕ → ℕ → Type 0
Between ws low high = low < height (level_here ws) → height (level_here ws) ≤ high → ⊥

-- what was read at a level is what a looser level reads, where no operator between comes next
pub raised : (levels n : ℕ) (top l : Level) (p : Placed) (s mid : State Word) → height top ≡ n → height l ≤ n → Between mid.0 (height l) n → form levels (form_of l) s ≡ Ok (p, mid) → form levels (form_of top) s ≡ Ok (p, mid)
raised levels zero top l p s mid t h k e = subst (λ (m : Level). form levels (form_of m) s ≡ Ok (p, mid)) (same_level l top (omega arith)) e
raised levels (suc n) top l p s mid t h k e = tested (height l == suc n) refl (λ a b c. raised levels n (below top) l p s mid a b c e)
  where
    tested : (b : Bool) → (height l == suc n) ≡ b → (height (below top) ≡ n → height l ≤ n → Between mid.0 (height l) n → form levels (form_of (below top)) s ≡ Ok (p, mid)) → form levels (form_of top) s ≡ Ok (p, mid)
    tested true i ih = subst (λ (m : Level). form levels (form_of m) s ≡ Ok (p, mid)) (same_level l top (eqb-true (height l) (suc n) i ∙ sym t)) e
    tested false i ih =
        let down = one_below top (omega arith) in
        let apart : height l ≡ suc n → ⊥ = eqb-false (height l) (suc n) i in
        let less : height l ≤ n = omega arith in
        climbed levels top s (omega arith)
        ∙ ap (λ r. onward levels top r) (ih (omega arith) less (λ a b. k a (omega arith)))
        ∙ alone levels top p mid (no_sign top mid.0 (omega arith) (λ same. k (omega arith) (omega arith)))

-- a fault at a level is one at a looser level
failed : (levels n : ℕ) (top l : Level) (d : Fault × State Word) (s : State Word) → height top ≡ n → height l ≤ n → form levels (form_of l) s ≡ Err d → form levels (form_of top) s ≡ Err d
failed levels zero top l d s t h e = subst (λ (m : Level). form levels (form_of m) s ≡ Err d) (same_level l top (omega arith)) e
failed levels (suc n) top l d s t h e = tested (height l == suc n) refl (λ a b. failed levels n (below top) l d s a b e)
  where
    tested : (b : Bool) → (height l == suc n) ≡ b → (height (below top) ≡ n → height l ≤ n → form levels (form_of (below top)) s ≡ Err d) → form levels (form_of top) s ≡ Err d
    tested true i ih = subst (λ (m : Level). form levels (form_of m) s ≡ Err d) (same_level l top (eqb-true (height l) (suc n) i ∙ sym t)) e
    tested false i ih =
        let down = one_below top (omega arith) in
        let apart : height l ≡ suc n → ⊥ = eqb-false (height l) (suc n) i in
        let less : height l ≤ n = omega arith in
        climbed levels top s (omega arith)
        ∙ ap (λ r. onward levels top r) (ih (omega arith) less)
        ∙ stopped levels top d

pub fails_above : (e : Stop) (levels : ℕ) (top l : Level) (s rest : State Word) → height l ≤ height top → StopsAt e rest (form levels (form_of l) s) → StopsAt e rest (form levels (form_of top) s)
fails_above stops.Memory levels top l s rest h g = tt
fails_above (stops.At d) levels top l s rest h g = failed levels (height top) top l (d, rest) s refl h g

-- ---- one turn: the rest of the level of the operator that comes next

turn : (levels : ℕ) (next reached : Level) (p : Placed) (s mid : State Word) → next ≡ level_here mid.0 → height reached < height next → form levels (form_of reached) s ≡ Ok (p, mid)
    → form levels (form_of next) s ≡ onward levels next (Ok (p, mid))
turn levels next reached p s mid same h e =
    let down = one_below next (omega arith) in
    let told : height next ≡ height (level_here mid.0) = ap (λ l. height l) same in
    climbed levels next s (omega arith)
    ∙ ap (λ r. onward levels next r) (raised levels (height (below next)) (below next) reached p s mid refl (omega arith) (λ a b. omega arith) e)

pub turned_on : (levels : ℕ) (next reached : Level) (p q : Placed) (s mid rest : State Word) → next ≡ level_here mid.0 → height reached < height next → form levels (form_of reached) s ≡ Ok (p, mid)
    → onward levels next (Ok (p, mid)) ≡ Ok (q, rest) → form levels (form_of next) s ≡ Ok (q, rest)
turned_on levels next reached p q s mid rest same h e g = turn levels next reached p s mid same h e ∙ g

pub turn_fails : (e : Stop) (levels : ℕ) (top next reached : Level) (p : Placed) (s mid rest : State Word) → next ≡ level_here mid.0 → height reached < height next → height next ≤ height top → form levels (form_of reached) s ≡ Ok (p, mid)
    → StopsAt e rest (onward levels next (Ok (p, mid))) → StopsAt e rest (form levels (form_of top) s)
turn_fails e levels top next reached p s mid rest same h k read g =
    fails_above e levels top next s rest k (subst (λ (r : Outcome Word Placed). StopsAt e rest r) (sym (turn levels next reached p s mid same h read)) g)

-- no operator up to the level comes next
pub turns_end : (levels : ℕ) (top next reached : Level) (p : Placed) (s mid : State Word) → next ≡ level_here mid.0 → height reached ≤ height top → (height reached < height next → height next ≤ height top → ⊥) → form levels (form_of reached) s ≡ Ok (p, mid)
    → form levels (form_of top) s ≡ Ok (p, mid)
turns_end levels top next reached p s mid same h k e =
    let told : height next ≡ height (level_here mid.0) = ap (λ l. height l) same in
    raised levels (height top) top reached p s mid refl h (λ a b. k (omega arith) (omega arith)) e
