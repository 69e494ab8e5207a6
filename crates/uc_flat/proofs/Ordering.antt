-- Statements in order give just what the constraint and the frame rule allow.
use Rattle.std.proofs.Common.{◌≡◌, ℕ, ◌<◌, List, [], ◌∷◌, length, Option, Some, None, refl, sym, ap, ◌∙◌, arith, suc, inl, inr, get_or-set_same, get_or-set_other, length-set, slice_set}
use Rattle.std.specs.Prelude.{Bool, true, false, ◌&&◌, ◌||◌, nat_eq, if◌then◌else◌}
use Rattle.std.specs.List.{list_all}
use Rattle.std.proofs.lemmas.Bool.Decides.{nat_tests, eqb_tells}
use Rattle.uc_values.specs.declared.value.Value.{Value}
use Rattle.uc_values.specs.Values.{truth_of, same_truth}
use Rattle.uc_values.specs.Values.{nothing}
use Rattle.uc_ops.specs.Meaning.{part}
use Rattle.uc_flat.specs.declared.expression.Expression.{Expression}
use Rattle.uc_values.specs.declared.ty.Ty.{Ty}
use Rattle.uc_ops.specs.declared.model.Model.{Model}
use Rattle.uc_flat.specs.Reading.{value_of}
use Rattle.uc_flat.specs.Order.{Reader, given, Guard, Guarded, meets, is_taken, source_value, after, taken_in_order, AskAll, is_written, Allows, is_target, GuardsIgnore, SourceIgnores, Apart, AreOrdered}

-- two lists of cells agree but for what the statements write
abbrev Agree : List Guarded → List Value → List Value → Type 0
Agree gs v w = (k : ℕ) → is_target gs k ≡ false → part v k ≡ part w k

same_met : (reads : Reader) (gs : List Guarded) (cs : List Guard) (v w : List Value) → GuardsIgnore reads gs cs → Agree gs v w → list_all (meets reads v) cs ≡ list_all (meets reads w) cs
unfolding GuardsIgnore
same_met reads gs [] v w i a = refl
same_met reads gs (c ∷ cs) v w i a =
    ap (λ x. same_truth (truth_of x) c.wanted && list_all (meets reads v) cs) (i.0 v w a) ∙ ap (λ b. meets reads w c && b) (same_met reads gs cs v w i.1 a)

same_source : (reads : Reader) (gs : List Guarded) (s : Option Expression) (free : Value) (v w : List Value) → SourceIgnores reads gs s → Agree gs v w → source_value reads v free s ≡ source_value reads w free s
same_source reads gs None free v w i a = refl
same_source reads gs (Some e) free v w i a = i v w a

or_left : (a b : Bool) → (a || b) ≡ false → a ≡ false
or_left true b h = cc
or_left false b h = refl

or_right : (a b : Bool) → (a || b) ≡ false → b ≡ false
or_right true b h = cc
or_right false b h = h

other_cell : (i k : ℕ) → nat_eq i k ≡ false → i ≡ k → ⊥
other_cell i k h e = grind (arith, nat_tests)

after_cases : (b : Bool) (cells : List Value) (i k : ℕ) (x : Value) → nat_eq i k ≡ false → part (if b then slice_set cells i x else cells) k ≡ part cells k
after_cases true cells i k x h = get_or-set_other cells i k x nothing (λ e. other_cell i k h (sym e))
after_cases false cells i k x h = refl

after_length : (b : Bool) (cells : List Value) (i : ℕ) (x : Value) → length (if b then slice_set cells i x else cells) ≡ length cells
after_length true cells i x = length-set cells i x
after_length false cells i x = refl

-- what is no target stays
order_keeps : (reads : Reader) (frees : List Value) (gs : List Guarded) (cells : List Value) → Agree gs (taken_in_order reads frees gs cells) cells
unfolding taken_in_order is_target
order_keeps reads [] gs cells k h = refl
order_keeps reads (x ∷ xs) [] cells k h = refl
order_keeps reads (x ∷ xs) (g ∷ gs) cells k h =
    order_keeps reads xs gs (after reads x g cells) k (or_right _ _ h) ∙ after_cases (is_taken reads cells g) cells g.cell k (source_value reads cells x g.source) (or_left _ _ h)

order_length : (reads : Reader) (frees : List Value) (gs : List Guarded) (cells : List Value) → length (taken_in_order reads frees gs cells) ≡ length cells
unfolding taken_in_order
order_length reads [] gs cells = refl
order_length reads (x ∷ xs) [] cells = refl
order_length reads (x ∷ xs) (g ∷ gs) cells = order_length reads xs gs (after reads x g cells) ∙ after_length (is_taken reads cells g) cells g.cell (source_value reads cells x g.source)

-- what is no target is not written
not_written : (reads : Reader) (cells : List Value) (gs : List Guarded) (k : ℕ) → is_target gs k ≡ false → is_written reads cells gs k ≡ false
unfolding is_target is_written
not_written reads cells [] k h = refl
not_written reads cells (g ∷ gs) k h =
    ap (λ b. (is_taken reads cells g && b) || is_written reads cells gs k) (or_left _ _ h) ∙ ap (λ b. (is_taken reads cells g && false) || b) (not_written reads cells gs k (or_right _ _ h)) ∙ none (is_taken reads cells g)
  where
    none : (b : Bool) → ((b && false) || false) ≡ false
    none true = refl
    none false = refl

written_not : (b c d : Bool) → b ≡ false → d ≡ false → ((b && c) || d) ≡ false
written_not b c d h i = ap (λ x. (x && c) || d) h ∙ i

written_other : (b c d : Bool) → c ≡ false → d ≡ false → ((b && c) || d) ≡ false
written_other true c d h i = ap (λ x. x || d) h ∙ i
written_other false c d h i = i

-- a statement that is taken and stands apart from the others keeps its cell from them
apart_keeps : (reads : Reader) (cells : List Value) (g : Guarded) (gs : List Guarded) → Apart reads g gs → is_taken reads cells g ≡ true → is_written reads cells gs g.cell ≡ false
unfolding Apart is_written
apart_keeps reads cells g [] a t = refl
apart_keeps reads cells g (h ∷ hs) a t = elim (eqb_tells h.cell g.cell) [
  | inl e ↦ written_not (is_taken reads cells h) (nat_eq h.cell g.cell) (is_written reads cells hs g.cell) (not_taken (is_taken reads cells h) (a.0 cells (sym e.1) t)) (apart_keeps reads cells g hs a.1 t)
  | inr e ↦ written_other (is_taken reads cells h) (nat_eq h.cell g.cell) (is_written reads cells hs g.cell) (grind (arith, nat_tests)) (apart_keeps reads cells g hs a.1 t)
]
  where
    not_taken : (b : Bool) → (b ≡ true → ⊥) → b ≡ false
    not_taken true h = absurd (h refl)
    not_taken false h = refl

when_taken : (b : Bool) (cells : List Value) (i : ℕ) (x : Value) → b ≡ true → (if b then slice_set cells i x else cells) ≡ slice_set cells i x
when_taken b cells i x h = ap (λ c. if c then slice_set cells i x else cells) h

when_not_taken : (b : Bool) (cells : List Value) (i : ℕ) (x : Value) → b ≡ false → (if b then slice_set cells i x else cells) ≡ cells
when_not_taken b cells i x h = ap (λ c. if c then slice_set cells i x else cells) h

kept_by_one : (b : Bool) (cells : List Value) (i k : ℕ) (x : Value) → (b && nat_eq i k) ≡ false → part (if b then slice_set cells i x else cells) k ≡ part cells k
kept_by_one true cells i k x h = after_cases true cells i k x h
kept_by_one false cells i k x h = refl

-- what the statements give in order is allowed
pub order_allows : (reads : Reader) (n : ℕ) (frees : List Value) (gs : List Guarded) (v : List Value) → length frees ≡ length gs → n ≡ length v → AreOrdered reads n gs → Allows reads gs v (taken_in_order reads frees gs v)
unfolding taken_in_order AreOrdered AskAll is_written
order_allows reads n [] [] v l m o = record { lengths = refl; asks = tt; keeps = λ k h. refl }
order_allows reads n [] (g ∷ gs) v l m o = absurd (omega (arith, l))
order_allows reads n (x ∷ xs) [] v l m o = absurd (omega (arith, l))
order_allows reads n (x ∷ xs) (g ∷ gs) v l m o =
    let v1 = after reads x g v in
    let w = taken_in_order reads xs gs v1 in
    let one : length v1 ≡ length v = after_length (is_taken reads v g) v g.cell (source_value reads v x g.source) in
    let rest = order_allows reads n xs gs v1 (omega (arith, l)) (m ∙ sym one) o.4 in
    let agree : Agree (g ∷ gs) v w = λ k h. sym (order_keeps reads (x ∷ xs) (g ∷ gs) v k h) in
    let met : is_taken reads v g ≡ is_taken reads w g = same_met reads (g ∷ gs) g.guards v w o.1 agree in
    let whole : length w ≡ length v = order_length reads xs gs v1 ∙ one in
    record {
      lengths = whole;
      asks = (
        λ t e s.
            rest.keeps g.cell (apart_keeps reads w g gs o.3 t)
            ∙ ap (λ cs. part cs g.cell) (when_taken (is_taken reads v g) v g.cell (source_value reads v x g.source) (met ∙ t))
            ∙ get_or-set_same v g.cell (source_value reads v x g.source) nothing (omega (arith, o.0, m))
            ∙ same_source reads (g ∷ gs) g.source x v w o.2 agree
            ∙ ap (source_value reads w x) s,
        rest.asks,
      );
      keeps = λ k h.
          rest.keeps k (or_right _ _ h) ∙ kept_by_one (is_taken reads v g) v g.cell k (source_value reads v x g.source) (ap (λ b. b && nat_eq g.cell k) met ∙ or_left _ _ h);
    }

same_cells : (v w : List Value) → length v ≡ length w → ((k : ℕ) → part v k ≡ part w k) → v ≡ w
same_cells [] [] l h = refl
same_cells [] (y ∷ ys) l h = absurd (omega (arith, l))
same_cells (x ∷ xs) [] l h = absurd (omega (arith, l))
same_cells (x ∷ xs) (y ∷ ys) l h = ap (λ z. z ∷ xs) (h 0) ∙ ap (λ zs. y ∷ zs) (same_cells xs ys (omega (arith, l)) (λ k. h (suc k)))

set_kept : (v w : List Value) (i k : ℕ) (x : Value) → i < length v → x ≡ part w i → (nat_eq i k ≡ false → part w k ≡ part v k) → part w k ≡ part (slice_set v i x) k
set_kept v w i k x l e h = elim (eqb_tells i k) [
  | inl p ↦ ap (part w) (sym p.1) ∙ sym e ∙ sym (get_or-set_same v i x nothing l) ∙ ap (part (slice_set v i x)) p.1
  | inr p ↦ let n : nat_eq i k ≡ false = grind (arith, nat_tests) in h n ∙ sym (after_cases true v i k x n)
]

one_kept : (b : Bool) (v w : List Value) (i k : ℕ) (x : Value) → i < length v → (b ≡ true → x ≡ part w i) → ((b && nat_eq i k) ≡ false → part w k ≡ part v k)
    → part w k ≡ part (if b then slice_set v i x else v) k
one_kept true v w i k x l e h = set_kept v w i k x l (e refl) h
one_kept false v w i k x l e h = h refl

source_given : (reads : Reader) (v w : List Value) (gs : List Guarded) (i : ℕ) (s : Option Expression) → SourceIgnores reads gs s → Agree gs v w → ((e : Expression) → s ≡ Some e → part w i ≡ reads w e) → source_value reads v (part w i) s ≡ part w i
source_given reads v w gs i None g a h = refl
source_given reads v w gs i (Some e) g a h = g v w a ∙ sym (h e refl)

-- what is allowed is given by the statements in order, with its own values as the free ones
pub allows_order : (reads : Reader) (n : ℕ) (gs : List Guarded) (v w : List Value) → n ≡ length v → AreOrdered reads n gs → Allows reads gs v w → taken_in_order reads (given w gs) gs v ≡ w
unfolding taken_in_order AreOrdered AskAll is_written
allows_order reads n [] v w m o a = same_cells v w (sym a.lengths) (λ k. sym (a.keeps k refl))
allows_order reads n (g ∷ gs) v w m o a =
    let v1 = after reads (part w g.cell) g v in
    let one : length v1 ≡ length v = after_length (is_taken reads v g) v g.cell (source_value reads v (part w g.cell) g.source) in
    let agree : Agree (g ∷ gs) v w = λ k h. sym (a.keeps k (not_written reads w (g ∷ gs) k h)) in
    let met : is_taken reads v g ≡ is_taken reads w g = same_met reads (g ∷ gs) g.guards v w o.1 agree in
    let next : Allows reads gs v1 w = record {
      lengths = a.lengths ∙ sym one;
      asks = a.asks.1;
      keeps = λ k h.
          one_kept (is_taken reads v g) v w g.cell k (source_value reads v (part w g.cell) g.source) (omega (arith, o.0, m))
          (λ t. source_given reads v w (g ∷ gs) g.cell g.source o.2 agree (λ e s. a.asks.0 (sym met ∙ t) e s))
          (λ n. a.keeps k (ap (λ b. b || is_written reads w gs k) (ap (λ b. b && nat_eq g.cell k) (sym met) ∙ n) ∙ h));
    } in
    allows_order reads n gs v1 w (m ∙ sym one) o.4 next

pub order_allowed : (m : Model) (types : List Ty) (frees : List Value) (gs : List Guarded) (old : List Value) → length frees ≡ length gs → AreOrdered (value_of m types) (length old) gs
    → Allows (value_of m types) gs old (taken_in_order (value_of m types) frees gs old)
order_allowed m types frees gs old l o = order_allows (value_of m types) (length old) frees gs old l refl o

pub allowed_order : (m : Model) (types : List Ty) (gs : List Guarded) (old new : List Value) → AreOrdered (value_of m types) (length old) gs → Allows (value_of m types) gs old new
    → taken_in_order (value_of m types) (given new gs) gs old ≡ new
allowed_order m types gs old new o a = allows_order (value_of m types) (length old) gs old new refl o a
