-- Lines of one copy: the copy is the model itself, so the line is refuted in it where the model refutes it.
use Rattle.std.proofs.Common.{◌≡◌, ℕ, ◌+◌, ◌*◌, ◌≤◌, List, [], ◌∷◌, ◌++◌, length, take, drop, refl, sym, ap, ◌∙◌, subst, arith, zero, suc, append-nil, All}
use Rattle.std.specs.Prelude.{Bool as Truth, true, false, ◌&&◌, not, nat_eq, if◌then◌else◌}
use Rattle.std.specs.List.{list_all, flat_map}
use Rattle.std.proofs.lemmas.List.Elements.{All-nil, All-filter}
use Rattle.uc_values.specs.declared.value.Value.{Value}
use Rattle.uc_ops.specs.declared.model.Model.{Model}
use Rattle.uc_flat.specs.declared.flat.Flat.{Flat}
use Rattle.uc_flat.specs.declared.flat.Formula.{Formula}
use Rattle.uc_flat.specs.Flats.{IsSound, IsFormula}
use Rattle.uc_flat.specs.Unrolled.{holds_in, axioms_hold}
use Rattle.uc_flat.specs.declared.trace.FlatPosition.{FlatPosition}
use Rattle.uc_flat.specs.Traces.{HasConstants}
use Rattle.uc_flat_copies.specs.declared.trace.FlatCopies.{FlatCopies}
use Rattle.uc_flat_copies.specs.declared.trace.Start.{Start}
use Rattle.uc_flat_copies.specs.declared.trace.Start.TheVariants.{Initially, Anywhere}
use Rattle.uc_flat_copies.specs.Traces.{asks, ask_all, RefutesCopies}
use Rattle.uc_flat_copies.specs.Places.{read_by, place, reads_up_to, read_from, copies_of, cells_of, all_below, is_refuted_in, is_refuted_by}
use Rattle.uc_flat_copies.specs.Laws.{IsLineOf, ArePlaces, AllPlaces, none, one}
use Rattle.uc_flat_copies.specs.Lines.{is_supposed, before_of, line_over, supposed_below, is_refuted_at}
use Rattle.uc_flat_copies.proofs.Finding.{found}
use Rattle.uc_flat_copies.proofs.Running.{refutes}

taken_back : (n : ℕ) (xs : List Value) → take n xs ++ drop n xs ≡ xs
taken_back zero [] = refl
taken_back zero (x ∷ xs) = refl
taken_back (suc n) [] = refl
taken_back (suc n) (x ∷ xs) = ap (λ ys. x ∷ ys) (taken_back n xs)

none_further : (n width : ℕ) → n + 0 * width ≡ n
none_further n width = omega arith

-- a copy that reads from no symbol further on reads what the model has
read_itself : (n width : ℕ) (m : Model) → read_by n (0 * width) m ≡ m
read_itself n width m =
    ap (λ k. record { symbols = take n m.symbols ++ drop k m.symbols; tables = m.tables }) (none_further n width)
    ∙ ap (λ xs. record { symbols = xs; tables = m.tables }) (taken_back n m.symbols)

one_copy : (f : Flat) (width : ℕ) (m : Model) → copies_of f width 1 m ≡ m ∷ []
unfolding read_from
one_copy f width m = ap (λ n. n ∷ []) (read_itself (length f.constants) width m)

and_true_right : (b : Truth) → (b && true) ≡ b
and_true_right true = refl
and_true_right false = refl

-- a formula is asked of the one copy, whatever number of copies it speaks of
pub asks_one : (f : Flat) (m : Model) (cells : List Value) (x : Formula) → asks f m (cells ∷ []) x ≡ holds_in f x m cells
asks_one f m cells x = by_test (nat_eq x.copies 1)
  where
    by_test : (b : Truth) → (if b then list_all (holds_in f x m) (cells ∷ []) else holds_in f x m (flat_map (λ vs. vs) (cells ∷ []))) ≡ holds_in f x m cells
    by_test true = and_true_right (holds_in f x m cells)
    by_test false = ap (holds_in f x m) (append-nil cells)

pub ask_all_one : (f : Flat) (m : Model) (cells : List Value) (xs : List Formula) → ask_all f m (cells ∷ []) xs ≡ list_all (λ x. holds_in f x m cells) xs
ask_all_one f m cells [] = refl
ask_all_one f m cells (x ∷ xs) = λ i. asks_one f m cells x i && ask_all_one f m cells xs i

below_same : (n : ℕ) (a b : ℕ → Truth) → ((k : ℕ) → a k ≡ b k) → all_below n a ≡ all_below n b
unfolding all_below
below_same zero a b h = refl
below_same (suc n) a b h = λ i. below_same n a b h i && h n i

below_true : (n : ℕ) → all_below n (λ k. true) ≡ true
unfolding all_below
below_true zero = refl
below_true (suc n) = ap (λ b. b && true) (below_true n)

-- a line of one copy, in the copy that is the model
pub alone : (f : Flat) (start : Start) (n : ℕ) (x : Formula) (m : Model) → x.copies ≡ 1 → is_refuted_in f (line_over f start n x) m (m ∷ []) ≡ is_refuted_at f start n x m
alone f start n x m c =
    let here : ℕ → List Value = λ k. (place f start m k).cells in
    let goes = (place f start m n).goes in
    let assumed : all_below n (λ k. ask_all f m (here k ∷ []) (before_of f start x.copies)) ≡ supposed_below f start m n =
    below_same n (λ k. ask_all f m (here k ∷ []) (before_of f start x.copies)) (λ k. list_all (λ y. holds_in f y m (here k)) (before_of f start x.copies)) (λ k. ask_all_one f m (here k) (before_of f start x.copies))
    ∙ ap (λ j. all_below n (λ k. list_all (λ y. holds_in f y m (here k)) (before_of f start j))) c in
    let last : not (asks f m (here n ∷ []) x) ≡ not (holds_in f x m (here n)) = ap not (asks_one f m (here n) x) in
    let throughout : all_below (n + 1) (λ k. ask_all f m (here k ∷ []) []) ≡ true = below_true (n + 1) in
    ap (λ b. axioms_hold f m && (b && (all_below n (λ k. ask_all f m (here k ∷ []) (before_of f start x.copies)) && (all_below (n + 1) (λ k. ask_all f m (here k ∷ []) []) && not (asks f m (here n ∷ []) x))))) (and_true_right goes)
    ∙ ap (λ b. axioms_hold f m && (goes && (b && (all_below (n + 1) (λ k. ask_all f m (here k ∷ []) []) && not (asks f m (here n ∷ []) x))))) assumed
    ∙ ap (λ b. axioms_hold f m && (goes && (supposed_below f start m n && (b && not (asks f m (here n ∷ []) x))))) throughout
    ∙ ap (λ b. axioms_hold f m && (goes && (supposed_below f start m n && b))) last

by_alone : (f : Flat) (start : Start) (width n : ℕ) (x : Formula) (m : Model) → x.copies ≡ 1 → is_refuted_by f (line_over f start n x) width m ≡ is_refuted_at f start n x m
by_alone f start width n x m c =
    ap (λ k. is_refuted_in f (line_over f start n x) m (copies_of f width k m)) c
    ∙ ap (is_refuted_in f (line_over f start n x) m) (one_copy f width m) ∙ alone f start n x m c

before_fine : (f : Flat) (start : Start) (n : ℕ) → IsSound f → All (IsFormula f) (before_of f start n)
before_fine f Initially n s = All-nil (IsFormula f)
before_fine f Anywhere n s = All-filter (is_supposed n) (IsFormula f) f.formulas s.formulas

line_fine : (f : Flat) (start : Start) (n : ℕ) (x : Formula) → IsSound f → IsFormula f x → IsLineOf f (line_over f start n x)
line_fine f start n x s h = record { before = before_fine f start x.copies s; throughout = All-nil (IsFormula f); subject = h }

-- for a trace of one copy that refutes the line there is a model that does
pub found_alone : (f : Flat) (start : Start) (n : ℕ) (x : Formula) (t : FlatCopies) → IsSound f → IsFormula f x → x.copies ≡ 1 → RefutesCopies f (line_over f start n x) t
    → (m : Model) × (is_refuted_at f start n x m ≡ true)
found_alone f start n x t s h c r =
    let width = reads_up_to f start n in
    let w = found f (line_over f start n x) width t s (line_fine f start n x s h) (omega arith) r in
    (w.0, sym (by_alone f start width n x w.0 c) ∙ w.1)

-- where a model refutes the line, the trace of its places does
pub refutes_alone : (f : Flat) (start : Start) (n : ℕ) (x : Formula) (m : Model) (constants : List Value) (ps : List FlatPosition) → IsSound f → x.copies ≡ 1 → HasConstants f constants m
    → ArePlaces f start n m ps → is_refuted_at f start n x m ≡ true → RefutesCopies f (line_over f start n x) (record { constants = constants; copies = ps ∷ [] })
refutes_alone f start n x m constants ps s c h a r =
    let copies : copies_of f 0 x.copies m ≡ m ∷ [] = ap (λ k. copies_of f 0 k m) c ∙ one_copy f 0 m in
    refutes f (line_over f start n x) 0 m (record { constants = constants; copies = ps ∷ [] }) s h
    (subst (λ ms. AllPlaces f start n ms (ps ∷ [])) (sym copies) (one m ps [] [] a none)) (by_alone f start 0 n x m c ∙ r)
