-- Chains, and what the loops over their operands keep.
use Rattle.std.proofs.Common.{◌≡◌, ℕ, true, false, List, [], ◌∷◌, ◌++◌, Ok, Err, refl, sym, ap, ◌∙◌, append_assoc, map}
use Rattle.std.proofs.lemmas.List.{append-nil}
use Rattle.uc_forms.specs.Counted.{State, Outcome, turned, paired, turns, with_front}
use Rattle.uc_forms.specs.CountedGives.{StopsAt}
use Rattle.uc_forms.proofs.Advances.{Advances}
use Rattle.uc_forms.proofs.CountedTurns.{goes_on, is_done, loop_fails, begins}
use Rattle.uc_forms.specs.declared.fault.Fault.{Fault}
use Rattle.uc_forms.specs.declared.stop.Stop.{Stop}
use Rattle.uc_forms.specs.declared.stop.Stop.TheVariants as stops
use Rattle.uc_forms.specs.Reading.{is_at}
use Rattle.uc_grammar.specs.declared.word.Word.{Word}
use Rattle.uc_forms.specs.Form.{both, made, many, one_of, codes_of}
use Rattle.uc_grammar.specs.declared.word.Kind.{Kind}
use Rattle.uc_grammar.specs.declared.word.Kind.TheVariants.{Plus}
use Rattle.uc_grammar.specs.Syntax.{words, F, Placed, level, chain_of, sum_of, sum_sign, product, summed, concatenated, bit_and, bit_xor, bit_or, conjunction, disjunction, implication, equivalence}
use Rattle.uc_lexer.specs.declared.place.Place.{Place}
use Rattle.uc_parse_expressions.specs.Chains.{gathered, chain_form, operand_form, sign_of, node_of}
use Rattle.uc_parse_expressions.specs.Signs.{minus}
use Rattle.uc_parse_expressions.specs.declared.chain.Chain.{Chain}
use Rattle.uc_parse_expressions.specs.declared.chain.Chain.TheVariants.{Product, Concat, BitAnd, BitXor, BitOr, And, Or, Implies, Iff}
use Rattle.uc_parse_expressions.specs.Reading.{form}
use Rattle.uc_parse_expressions.proofs.Here.{takes}
use Rattle.uc_syntax.specs.declared.expression.Expr.{Expr}
use Rattle.uc_syntax.specs.declared.expression.Expr.TheViews as exprs

abbrev Item : Type 0
Item = State Word → Outcome Word (Word × Placed)

turns_stop : (codes : List ℕ) (item : Item) (s : State Word) → is_at words codes s.0 ≡ false → turns words codes item s ≡ Ok ([], s)
turns_stop codes item s t = sym (begins words codes item s) ∙ is_done words codes item [] s (with_front [] (turns words codes item s)) t refl

turns_more : (codes : List ℕ) (item : Item) → Advances words item → (s : State Word) (x : Word × Placed) (rest : State Word) → is_at words codes s.0 ≡ true → item s ≡ Ok (x, rest) → turns words codes item s ≡ turned (λ xs. x ∷ xs) (turns words codes item rest)
turns_more codes item h s x rest t e = sym (goes_on words codes item [] s x rest (with_front [] (turns words codes item s)) h t e refl ∙ begins words codes item s)

turns_fail : (codes : List ℕ) (item : Item) (s : State Word) (d : Fault × State Word) → is_at words codes s.0 ≡ true → item s ≡ Err d → turns words codes item s ≡ Err d
turns_fail codes item s d t e = sym (begins words codes item s) ∙ loop_fails words (stops.At d.0) codes item [] s d.1 (with_front [] (turns words codes item s)) t e refl

-- one more operand
gathered_more : {M : Type 0} (mark : Word → M) (es : List Expr) (ms : List M) (x : Word × Placed) (r : Outcome Word (List (Word × Placed)))
    → turned (gathered mark es ms) (turned (λ xs. x ∷ xs) r) ≡ turned (gathered mark (es ++ x.1.1 ∷ []) (ms ++ mark x.0 ∷ [])) r
gathered_more mark es ms x (Ok y) =
    ap (λ (zs : List Expr). Ok ((zs, ms ++ mark x.0 ∷ map (λ z. mark z.0) y.0), y.1)) (sym (append_assoc es (x.1.1 ∷ []) (map (λ z. z.1.1) y.0)))
    ∙ ap (λ (zs : List _). Ok (((es ++ x.1.1 ∷ []) ++ map (λ z. z.1.1) y.0, zs), y.1)) (sym (append_assoc ms (mark x.0 ∷ []) (map (λ z. mark z.0) y.0)))
gathered_more mark es ms x (Err f) = refl

pub gathers_on : {M : Type 0} (mark : Word → M) (codes : List ℕ) (item : Item) (es : List Expr) (ms : List M) (s : State Word) (x : Word × Placed) (rest : State Word) (total : Outcome Word (List Expr × List M))
    → Advances words item → is_at words codes s.0 ≡ true → item s ≡ Ok (x, rest)
    → turned (gathered mark es ms) (turns words codes item s) ≡ total → turned (gathered mark (es ++ x.1.1 ∷ []) (ms ++ mark x.0 ∷ [])) (turns words codes item rest) ≡ total
gathers_on mark codes item es ms s x rest total h t e so_far =
    sym (ap (λ r. turned (gathered mark es ms) r) (turns_more codes item h s x rest t e) ∙ gathered_more mark es ms x (turns words codes item rest)) ∙ so_far

gather_stop : {M : Type 0} (mark : Word → M) (codes : List ℕ) (item : Item) (es : List Expr) (ms : List M) (s : State Word) (f : Fault × State Word) (total : Outcome Word (List Expr × List M))
    → is_at words codes s.0 ≡ true → item s ≡ Err f → turned (gathered mark es ms) (turns words codes item s) ≡ total → total ≡ Err f
gather_stop mark codes item es ms s f total t e so_far = sym so_far ∙ ap (λ r. turned (gathered mark es ms) r) (turns_fail codes item s f t e)

pub gather_fails : {M : Type 0} (mark : Word → M) (e : Stop) (codes : List ℕ) (item : Item) (es : List Expr) (ms : List M) (s rest : State Word) (total : Outcome Word (List Expr × List M))
    → is_at words codes s.0 ≡ true → StopsAt e rest (item s) → turned (gathered mark es ms) (turns words codes item s) ≡ total → StopsAt e rest total
gather_fails mark stops.Memory codes item es ms s rest total t g so_far = tt
gather_fails mark (stops.At f) codes item es ms s rest total t g so_far = gather_stop mark codes item es ms s (f, rest) total t g so_far

pub gather_done : {M : Type 0} (mark : Word → M) (codes : List ℕ) (item : Item) (es : List Expr) (ms : List M) (s : State Word) (total : Outcome Word (List Expr × List M))
    → is_at words codes s.0 ≡ false → turned (gathered mark es ms) (turns words codes item s) ≡ total → total ≡ Ok ((es, ms), s)
gather_done mark codes item es ms s total t so_far =
    sym so_far
    ∙ ap (λ r. turned (gathered mark es ms) r) (turns_stop codes item s t)
    ∙ ap (λ (zs : List Expr). Ok ((zs, ms ++ []), s)) (append-nil es)
    ∙ ap (λ (zs : List _). Ok ((es, zs), s)) (append-nil ms)

-- ---- the value of a chain

some : (codes : List ℕ) (item : Item) → Advances words item → (s : State Word) (xs : List (Word × Placed)) (rest : State Word) → is_at words codes s.0 ≡ true → turns words codes item s ≡ Ok (xs, rest) → (x : Word × Placed) × (more : List (Word × Placed)) × (xs ≡ x ∷ more)
some codes item h s xs rest t e = by_item (item s) refl
  where
    list_in : Outcome Word (List (Word × Placed)) → List (Word × Placed)
    list_in (Ok y) = y.0
    list_in (Err f) = []

    headed : (x : Word × Placed) (r : Outcome Word (List (Word × Placed))) → turned (λ ys. x ∷ ys) r ≡ Ok (xs, rest) → (z : Word × Placed) × (more : List (Word × Placed)) × (xs ≡ z ∷ more)
    headed x (Ok y) i = (x, y.0, sym (ap (λ r. list_in r) i))
    headed x (Err f) i = absurd cc

    by_item : (r : Outcome Word (Word × Placed)) → item s ≡ r → (z : Word × Placed) × (more : List (Word × Placed)) × (xs ≡ z ∷ more)
    by_item (Ok x) i = headed x.0 (turns words codes item x.1) (sym (turns_more codes item h s x.0 x.1 t i) ∙ e)
    by_item (Err f) i = absurd (let z : Err f ≡ Ok (xs, rest) = sym (turns_fail codes item s f t i) ∙ e in cc z)

module _ {M : Type 0} (mark : Word → M) (node : Place → List Expr → List M → Expr) (fold : Placed × List (Word × Placed) → Placed) where
  -- without an operator it is its operand, and else a node
  abbrev pub IsFold : Type 0
  IsFold = ((p : Placed) → fold (p, []) ≡ p) × ((p : Placed) (x : Word × Placed) (more : List (Word × Placed)) → fold (p, x ∷ more) ≡ (p.0, node p.0 (p.1 ∷ map (λ z. z.1.1) (x ∷ more)) (map (λ z. mark z.0) (x ∷ more))))

  folded : IsFold → (p : Placed) (es : List Expr) (ms : List M) (rest : State Word) (r : Outcome Word (List (Word × Placed))) → ((xs : List (Word × Placed)) (end : State Word) → r ≡ Ok (xs, end) → (x : Word × Placed) × (more : List (Word × Placed)) × (xs ≡ x ∷ more))
      → turned (gathered mark (p.1 ∷ []) []) r ≡ Ok ((es, ms), rest) → turned fold (turned (λ xs. (p, xs)) r) ≡ Ok ((p.0, node p.0 es ms), rest)
  folded h p es ms rest (Ok y) k i =
      let s = k y.0 y.1 refl in
      let own : fold (p, y.0) ≡ (p.0, node p.0 ((p.1 ∷ []) ++ map (λ z. z.1.1) y.0) ([] ++ map (λ z. mark z.0) y.0)) = rw s.2 (h.1 p s.0 s.1) in
      ap (λ (q : Placed). Ok (q, y.1)) own ∙ ap (λ (z : Outcome Word (List Expr × List M)). turned (λ (q : List Expr × List M). (p.0, node p.0 q.0 q.1)) z) i
  folded h p es ms rest (Err f) k i = absurd cc

  -- what a chain gives, of which the first operand was read
  abbrev pub rest_of : (levels : ℕ) (f : F Placed) (j : Kind) (js : List Kind) → Outcome Word Placed → Outcome Word Placed
  rest_of levels f j js r = turned fold (paired r (form levels (many (both (one_of j js) f))))

  opened : (levels : ℕ) (f : F Placed) (j : Kind) (js : List Kind) (p : Placed) (s : State Word)
      → rest_of levels f j js (Ok (p, s)) ≡ turned fold (turned (λ xs. (p, xs)) (turns words (codes_of words j js) (form levels (both (one_of j js) f)) s))
  opened levels f j js p s = ap (λ (codes : List ℕ). turned fold (turned (λ xs. (p, xs)) (turns words codes (form levels (both (one_of j js) f)) s))) (append-nil (codes_of words j js))

  pub fold_more : IsFold → (levels : ℕ) (f : F Placed) (j : Kind) (js : List Kind) (p : Placed) (s : State Word) (es : List Expr) (ms : List M) (rest : State Word)
      → is_at words (codes_of words j js) s.0 ≡ true → turned (gathered mark (p.1 ∷ []) []) (turns words (codes_of words j js) (form levels (both (one_of j js) f)) s) ≡ Ok ((es, ms), rest)
      → rest_of levels f j js (Ok (p, s)) ≡ Ok ((p.0, node p.0 es ms), rest)
  fold_more h levels f j js p s es ms rest t i =
      opened levels f j js p s
      ∙ folded h p es ms rest (turns words (codes_of words j js) (form levels (both (one_of j js) f)) s) (λ xs end k. some (codes_of words j js) (form levels (both (one_of j js) f)) (takes levels (both (one_of j js) f) refl) s xs end t k) i

  pub fold_alone : IsFold → (levels : ℕ) (f : F Placed) (j : Kind) (js : List Kind) (p : Placed) (s : State Word)
      → is_at words (codes_of words j js) s.0 ≡ false → rest_of levels f j js (Ok (p, s)) ≡ Ok (p, s)
  fold_alone h levels f j js p s t =
      opened levels f j js p s
      ∙ ap (λ (r : Outcome Word (List (Word × Placed))). turned fold (turned (λ xs. (p, xs)) r)) (turns_stop (codes_of words j js) (form levels (both (one_of j js) f)) s t)
      ∙ ap (λ (q : Placed). Ok (q, s)) (h.0 p)

  turns_stopped : (es : List Expr) (ms : List M) (d : Fault × State Word) (r : Outcome Word (List (Word × Placed))) → turned (gathered mark es ms) r ≡ Err d → r ≡ Err d
  turns_stopped es ms d (Ok y) i = absurd cc
  turns_stopped es ms d (Err f) i = ap (λ (z : Outcome Word (List Expr × List M)). fault_in z) i
    where
      fault_in : Outcome Word (List Expr × List M) → Outcome Word (List (Word × Placed))
      fault_in (Ok y) = Err f
      fault_in (Err g) = Err g

  pub more_fail : (e : Stop) (levels : ℕ) (f : F Placed) (j : Kind) (js : List Kind) (p : Placed) (s rest : State Word) (es : List Expr) (ms : List M)
      → StopsAt e rest (turned (gathered mark es ms) (turns words (codes_of words j js) (form levels (both (one_of j js) f)) s)) → StopsAt e rest (rest_of levels f j js (Ok (p, s)))
  more_fail stops.Memory levels f j js p s rest es ms g = tt
  more_fail (stops.At d) levels f j js p s rest es ms g =
      opened levels f j js p s
      ∙ ap (λ (r : Outcome Word (List (Word × Placed))). turned fold (turned (λ xs. (p, xs)) r)) (turns_stopped es ms (d, rest) (turns words (codes_of words j js) (form levels (both (one_of j js) f)) s) g)

-- ---- the levels

pub chain_is : (c : Chain) → chain_form c ≡ level (node_of c) (sign_of c) (operand_form c)
unfolding product concatenated bit_and bit_xor bit_or conjunction disjunction implication equivalence
chain_is = elim [ Product ↦ refl | Concat ↦ refl | BitAnd ↦ refl | BitXor ↦ refl | BitOr ↦ refl | And ↦ refl | Or ↦ refl | Implies ↦ refl | Iff ↦ refl ]

pub chain_folds : (node : Place → List Expr → List Place → Expr) → IsFold (λ (w : Word). w.place) node (chain_of node)
chain_folds node = (λ p. refl, λ p x more. refl)

pub sum_is : summed ≡ made sum_of (both product (many (both (one_of Plus minus) product)))
unfolding summed
sum_is = refl

pub sum_folds : IsFold sum_sign exprs.Sum sum_of
sum_folds = (λ p. refl, λ p x more. refl)

-- ---- an operator with its operand

pub pair_is : (levels : ℕ) (f : F Word) (g : F Placed) (w : Word) (p : Placed) (s mid rest : State Word) → form levels f s ≡ Ok (w, mid) → form levels g mid ≡ Ok (p, rest) → form levels (both f g) s ≡ Ok ((w, p), rest)
pair_is levels f g w p s mid rest e d = rw (e, d) refl

pub pair_fails : (e : Stop) (levels : ℕ) (f : F Word) (g : F Placed) (w : Word) (s mid rest : State Word) → form levels f s ≡ Ok (w, mid) → StopsAt e rest (form levels g mid) → StopsAt e rest (form levels (both f g) s)
pair_fails stops.Memory levels f g w s mid rest h k = tt
pair_fails (stops.At d) levels f g w s mid rest h k = rw (h, k) refl
