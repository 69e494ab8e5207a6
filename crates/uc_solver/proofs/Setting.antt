-- Bits that are set one after another, and the values of terms with these bits.
use Rattle.std.specs.Prelude.{◌≡◌, ◌≢◌, ℕ, ◌+◌, ◌<◌, ◌≤◌, ◌%◌, ◌/◌, ◌^◌, Bool as Truth, true, false, IsTrue, nat_eq, max, List, [], ◌∷◌, ◌++◌, length, replicate, get_or, slice_get, slice_set, slice_index_or, Option, None, Some, All, AllPairs, bit_or, zero, suc}
use Rattle.std.specs.Int.{bit_at}
use Rattle.std.specs.List.{AllZip}
use Rattle.std.specs.Option.{option_map}
use Rattle.std.proofs.Math.Pow.{pow-lt}
use Rattle.std.proofs.Math.ListN.{get_or-append}
use Rattle.std.proofs.Math.Seq.{get_or-append_seam}
use Rattle.std.proofs.lemmas.Nat.{mod_below}
use Rattle.std.proofs.Common.{pow_pos, refl, sym, ap, ◌∙◌, subst, arith, inl, inr, ◌⊎◌, get_or-set_same, get_or-set_other, length-set}
use Rattle.std.proofs.lemmas.List.{length-replicate}
use Rattle.std.proofs.lemmas.Nat.{or_lt}
use Rattle.std.proofs.lemmas.Nat.Bits.{bit_at-zero, bit_at_lowest, bit_at_or, bit_at-pow_same, bit_at-pow_other}
use Rattle.std.proofs.lemmas.Option.{get_or_from_slice_get, slice_get-get_or}
use Rattle.std.proofs.lemmas.Bool.Decides.{eqb_tells, leb_tells}
use Rattle.std.proofs.lemmas.List.Elements.{All-weaker}
use Rattle.std.proofs.lemmas.Bool.{false≢true}
use Rattle.uc_values.specs.Values.{fits, nothing}
use Rattle.uc_values.proofs.Fitting.{Truth-fits, fits-IsBits}
use Rattle.uc_values.specs.declared.ty.Ty.{Ty}
use Rattle.uc_values.specs.declared.ty.Ty.TheVariants.{Bool, Bv}
use Rattle.uc_values.specs.declared.value.Value.{Value}
use Rattle.uc_ops.specs.declared.model.Model.{Model}
use Rattle.uc_ops.specs.declared.op.Op.{Op}
use Rattle.uc_ops.specs.declared.op.Op.TheVariants.{Symbol, App}
use Rattle.uc_ops.specs.declared.node.Node.{Node}
use Rattle.uc_ops.specs.Typing.{Valid, type_at}
use Rattle.uc_ops.specs.Meaning.{part}
use Rattle.uc_ops.proofs.Typed.{Bv-small}
use Rattle.uc_ops.proofs.Lists.{at_place, slice_get-within}
use Rattle.uc_terms.specs.Tables.{WellTyped, HasOp}
use Rattle.uc_terms.specs.Values.{value}
use Rattle.uc_terms.specs.Subterms.{IsSubterm}
use Rattle.uc_terms.proofs.Grown.{type-valid}
use Rattle.uc_log.specs.declared.atom.Atom.{Atom}
use Rattle.uc_log.specs.declared.atom.Atom.TheVariants.{Free, Bit, Le, Eq}
use Rattle.uc_log.specs.Atoms.{Agrees, bit_of}
use Rattle.uc_lower.specs.Made.{IsLowType, truth, bits}
use Rattle.uc_lower.specs.Lowering.{IsSymbol, IsLoweredTerm}
use Rattle.uc_lower.proofs.Growing.{grows_not, was_subterm}
use Rattle.uc_blast.specs.Words.{bit_width}
use Rattle.uc_blast.specs.Blasting.{is_atomic, atomic_in, IsOpaque, IsOpaqueBit, AreDifferent}
use Rattle.uc_solver.specs.Symbols.{AppliesNone, FitSymbols, HasValues}
use Rattle.uc_solver.specs.Inputs.{bits_value, word_at, IsTermBit, IsWithin, with_bit, one_if, AreSet, AreBitValues}

-- the numbers of subterms are those of terms
pub subterm_there : (nodes : List Node) (t k : ℕ) → WellTyped nodes → t < length nodes → IsSubterm nodes t k → k < length nodes
subterm_there nodes t k w l s = (was_subterm nodes nodes t w (grows_not nodes w) l k s).there

-- widths have at most 64 bits
valid_width : (ty : Ty) → Valid ty → bit_width ty ≤ 64
valid_width Bool v = omega arith
valid_width (Bv w) v = Bv-small w v
valid_width other v = omega arith

zero_word : (n k : ℕ) → word_at (replicate n 0) k ≡ 0
zero_word zero k = refl
zero_word (suc n) zero = refl
zero_word (suc n) (suc k) = zero_word n k

pub none_set : (nodes : List Node) (atoms : List Atom) (inputs : List Truth) (n : ℕ) (words : List ℕ) → n ≡ length nodes → words ≡ replicate n 0 → AreSet nodes atoms inputs 0 words
none_set nodes atoms inputs n words e h = subst (AreSet nodes atoms inputs 0) (sym h) (record {
  long = length-replicate n 0 ∙ e;
  set = λ i k j l. absurd (omega (arith, l));
  clear = λ i k j l g. ap (λ w. bit_at w j) (zero_word n k) ∙ bit_at-zero j;
  small = λ k. omega (arith, zero_word n k, pow_pos (bit_width (type_at nodes k)));
})

-- the parts of a list with one more
pub part_before : (xs : List Value) (v : Value) (k : ℕ) → k < length xs → part (xs ++ v ∷ []) k ≡ part xs k
part_before xs v k l = get_or-append xs (v ∷ []) nothing k l

pub part_last : (xs : List Value) (v : Value) → part (xs ++ v ∷ []) (length xs) ≡ v
part_last xs v = get_or-append_seam xs v [] nothing

-- an atom of the term is a bit of a term that is there
pub term_bit : (nodes : List Node) (t : ℕ) → WellTyped nodes → t < length nodes → (a : Atom) → IsOpaqueBit nodes t a → IsTermBit nodes a
term_bit nodes t w l (Bit k j) h = (subterm_there nodes t k w l h.0.below, h.1)
term_bit nodes t w l Free h = absurd h
term_bit nodes t w l (Le f) h = absurd h
term_bit nodes t w l (Eq a b) h = absurd h

pub term_bits : (nodes : List Node) (t : ℕ) (atoms : List Atom) → WellTyped nodes → t < length nodes → All (IsOpaqueBit nodes t) atoms → All (IsTermBit nodes) atoms
term_bits nodes t atoms w l h = All-weaker (IsOpaqueBit nodes t) (IsTermBit nodes) (term_bit nodes t w l) atoms h

pub atom_within : (nodes : List Node) (n : ℕ) (a : Atom) → WellTyped nodes → n ≡ length nodes → IsTermBit nodes a → IsWithin n a
atom_within nodes n (Bit k j) w e h = (omega (arith, h.0, e), omega (arith, h.1, valid_width (type_at nodes k) (type-valid nodes k w h.0)))
atom_within nodes n Free w e h = absurd h
atom_within nodes n (Le f) w e h = absurd h
atom_within nodes n (Eq a b) w e h = absurd h

-- two places of a list of different atoms
apart : (atoms : List Atom) (i h k j : ℕ) → AreDifferent atoms → i ≢ h → slice_get atoms i ≡ Some (Bit k j) → slice_get atoms h ≡ Some (Bit k j) → ⊥
apart atoms i h k j d n e g =
    let d0 : Atom = Bit k j in
    let li = slice_get-within atoms i d0 e in
    let lh = slice_get-within atoms h d0 g in
    let ei = get_or_from_slice_get atoms i d0 d0 e in
    let eh = get_or_from_slice_get atoms h d0 d0 g in
    elim (leb_tells (suc i) h) [
      | inl x ↦ d i h d0 x.1 lh (ei ∙ sym eh)
      | inr x ↦ d h i d0 (omega (arith, x.1, n)) li (eh ∙ sym ei)
    ]

-- a bit that is set, and the others
set_here : (n j : ℕ) → bit_at (bit_or n (2 ^ j)) j ≡ 1
set_here n j =
    let small : bit_at n j < 2 = mod_below (n / 2 ^ j) 2 (omega arith) in
    bit_at_or n (2 ^ j) j ∙ ap (max (bit_at n j)) (bit_at-pow_same j) ∙ omega (arith, small)

set_there : (n j i : ℕ) → i ≢ j → bit_at (bit_or n (2 ^ j)) i ≡ bit_at n i
set_there n j i d = bit_at_or n (2 ^ j) i ∙ ap (max (bit_at n i)) (bit_at-pow_other j i d) ∙ omega arith

-- the words after the bit of an atom is set
record Written (old new : List ℕ) (k j : ℕ) (b : Truth) : Type 0 where
  long : length new ≡ length old
  here : bit_at (word_at old k) j ≡ 0 → bit_at (word_at new k) j ≡ one_if b
  other_bit : (i : ℕ) → i ≢ j → bit_at (word_at new k) i ≡ bit_at (word_at old k) i
  other_word : (i : ℕ) → i ≢ k → word_at new i ≡ word_at old i
  small : (w : ℕ) → j < w → word_at old k < 2 ^ w → word_at new k < 2 ^ w

written : (old : List ℕ) (k j : ℕ) (b : Truth) → k < length old → Written old (with_bit old (Bit k j) b) k j b
written old k j false l = record { long = refl; here = λ z. z; other_bit = λ i n. refl; other_word = λ i n. refl; small = λ w h s. s }
written old k j true l =
    let n = bit_or (word_at old k) (2 ^ j) in
    let same : word_at (slice_set old k n) k ≡ n = get_or-set_same old k n 0 l in
    record {
      long = length-set old k n;
      here = λ z. ap (λ x. bit_at x j) same ∙ set_here (word_at old k) j;
      other_bit = λ i d. ap (λ x. bit_at x i) same ∙ set_there (word_at old k) j i d;
      other_word = λ i d. get_or-set_other old k i n 0 d;
      small = λ w h s. subst (λ x. x < 2 ^ w) (sym same) (or_lt w (word_at old k) (2 ^ j) s (pow-lt h));
    }

-- the bit of an atom that is another one stays
kept_bit : (old new : List ℕ) (k j i h : ℕ) (b : Truth) → Written old new k j b → (i ≡ k → h ≡ j → ⊥) → bit_at (word_at new i) h ≡ bit_at (word_at old i) h
kept_bit old new k j i h b w n =
    elim (eqb_tells i k) [
      | inl x ↦
          let e = x.1 in
          ap (λ y. bit_at (word_at new y) h) e ∙ w.other_bit h (λ z. n e z) ∙ ap (λ y. bit_at (word_at old y) h) (sym e)
      | inr x ↦ ap (λ y. bit_at y h) (w.other_word i x.1)
    ]

set_step : (nodes : List Node) (atoms : List Atom) (inputs : List Truth) (count k j : ℕ) (old new : List ℕ) → AreDifferent atoms → slice_get atoms count ≡ Some (Bit k j) → j < bit_width (type_at nodes k)
    → Written old new k j (slice_index_or inputs count false) → AreSet nodes atoms inputs count old → AreSet nodes atoms inputs (count + 1) new
set_step nodes atoms inputs count k j old new d at low w s =
    let b = slice_index_or inputs count false in
    let other : (i x y : ℕ) → i ≢ count → slice_get atoms i ≡ Some (Bit x y) → bit_at (word_at new x) y ≡ bit_at (word_at old x) y = λ i x y n e.
    kept_bit old new k j x y b w (λ ex ey. apart atoms i count k j d n (e ∙ ap (λ z. Some (Bit z y)) ex ∙ ap (λ z. Some (Bit k z)) ey) at) in
    record {
      long = w.long ∙ s.long;
      set = λ i x y l e. elim (leb_tells (suc i) count) [
        | inl z ↦ other i x y (λ q. absurd (omega (arith, q, z.1))) e ∙ s.set i x y z.1 e
        | inr z ↦
            let here : i ≡ count = omega (arith, l, z.1) in
            let same : Some (Bit x y) ≡ Some (Bit k j) = sym e ∙ ap (slice_get atoms) here ∙ at in
            let ex : x ≡ k = cc in
            let ey : y ≡ j = cc in
            ap (λ q. bit_at (word_at new q) y) ex ∙ ap (bit_at (word_at new k)) ey ∙ w.here (s.clear count k j (omega arith) at) ∙ ap (λ q. one_if (slice_index_or inputs q false)) (sym here)
      ];
      clear = λ i x y l e. other i x y (λ q. absurd (omega (arith, q, l))) e ∙ s.clear i x y (omega (arith, l)) e;
      small = λ i. elim (eqb_tells i k) [
        | inl z ↦ subst (λ q. word_at new q < 2 ^ bit_width (type_at nodes q)) (sym z.1) (w.small (bit_width (type_at nodes k)) low (s.small k))
        | inr z ↦ subst (λ q. q < 2 ^ bit_width (type_at nodes i)) (sym (w.other_word i z.1)) (s.small i)
      ];
    }

-- one atom more
pub set_next : (nodes : List Node) (atoms : List Atom) (inputs : List Truth) (count : ℕ) (a : Atom) (b : Truth) (old new : List ℕ) → AreDifferent atoms → IsTermBit nodes a
    → slice_get atoms count ≡ Some a → b ≡ slice_index_or inputs count false → new ≡ with_bit old a b → AreSet nodes atoms inputs count old → AreSet nodes atoms inputs (count + 1) new
set_next nodes atoms inputs count (Bit k j) b old new d o at e is s =
    let inside : k < length old = omega (arith, o.0, s.long) in
    set_step nodes atoms inputs count k j old new d at o.1 (subst (λ xs. Written old xs k j (slice_index_or inputs count false)) (sym (is ∙ ap (with_bit old (Bit k j)) e)) (written old k j (slice_index_or inputs count false) inside)) s
set_next nodes atoms inputs count Free b old new d o at e is s = absurd o
set_next nodes atoms inputs count (Le f) b old new d o at e is s = absurd o
set_next nodes atoms inputs count (Eq x y) b old new d o at e is s = absurd o

-- the values of symbols fit
bits_fit : (ty : Ty) (n : ℕ) → IsLowType ty → n < 2 ^ bit_width ty → IsTrue (fits ty (bits_value ty n))
bits_fit ty n truth l = Truth-fits (nat_eq (n % 2) 1)
bits_fit ty n (bits w) l = fits-IsBits w n l

pub symbols_fit : (nodes : List Node) (t : ℕ) (atoms : List Atom) (inputs : List Truth) (count : ℕ) (words : List ℕ) (values : List Value) → WellTyped nodes → IsLoweredTerm nodes t
    → AreSet nodes atoms inputs count words → AreBitValues nodes words values → FitSymbols nodes t values
symbols_fit nodes t atoms inputs count words values w low s v k b y =
    let inside = subterm_there nodes t k w low.there b in
    subst (λ x. IsTrue (fits (type_at nodes k) x)) (sym (v.same k inside)) (bits_fit (type_at nodes k) (word_at words k) (low.types k b) (s.small k))

-- an opaque term is a symbol, where no function is applied
atomic_op : (op : Op) → is_atomic op ≡ true → ((number : ℕ) × (ty : Ty) × (op ≡ Symbol number ty)) ⊎ ((number : ℕ) × (ty : Ty) × (op ≡ App number ty))
atomic_op (Symbol number ty) h = inl (number, ty, refl)
atomic_op (App number ty) h = inr (number, ty, refl)
atomic_op other h = absurd (false≢true h)

pub opaque_symbol : (nodes : List Node) (t k : ℕ) → AppliesNone nodes t → k < length nodes → IsOpaque nodes t k → IsSymbol nodes k
opaque_symbol nodes t k none l o =
    let r = at_place nodes k l in
    let h : is_atomic r.0.op ≡ true = sym (ap atomic_in r.1) ∙ o.atomic in
    let has : (op : Op) → r.0.op ≡ op → HasOp nodes k op = λ op e. ap (option_map (λ n. n.op)) r.1 ∙ ap Some e in
    elim (atomic_op r.0.op h) [
      | inl x ↦ record { number = x.0; ty = x.1; has = has (Symbol x.0 x.1) x.2 }
      | inr x ↦ absurd (none k x.0 x.1 o.below (has (App x.0 x.1) x.2))
    ]

is_one : (b : Truth) → nat_eq (one_if b) 1 ≡ b
is_one true = refl
is_one false = refl

-- a bit of the value that is made of bits
value_bit : (ty : Ty) (n j : ℕ) (b : Truth) → j < bit_width ty → bit_at n j ≡ one_if b → b ≡ bit_of (bits_value ty n) j
value_bit Bool n j b l h =
    let zero_bit : j ≡ 0 = omega (arith, l) in
    sym (is_one b) ∙ ap (λ x. nat_eq x 1) (sym h ∙ ap (bit_at n) zero_bit ∙ bit_at_lowest n)
value_bit (Bv w) n j b l h = sym (is_one b) ∙ ap (λ x. nat_eq x 1) (sym h)
value_bit other n j b l h = absurd (omega (arith, l))

atom_agrees : (m : Model) (nodes : List Node) (t : ℕ) (atoms : List Atom) (inputs : List Truth) (words : List ℕ) (values : List Value) → WellTyped nodes → IsLoweredTerm nodes t → AreSet nodes atoms inputs (length atoms) words
    → AreBitValues nodes words values → HasValues m nodes t values → (i : ℕ) (a : Atom) → slice_get atoms i ≡ Some a → IsOpaqueBit nodes t a → Agrees m nodes a (slice_index_or inputs i false)
atom_agrees m nodes t atoms inputs words values w low s v g i (Bit k j) e o =
    let inside = subterm_there nodes t k w low.there o.0.below in
    let is : value m nodes k ≡ bits_value (type_at nodes k) (word_at words k) = g.same k o.0.below (opaque_symbol nodes t k low.no_function inside o.0) ∙ v.same k inside in
    value_bit (type_at nodes k) (word_at words k) j (slice_index_or inputs i false) o.1 (s.set i k j (slice_get-within atoms i (Bit k j) e) e) ∙ ap (λ x. bit_of x j) (sym is)
atom_agrees m nodes t atoms inputs words values w low s v g i Free e o = absurd o
atom_agrees m nodes t atoms inputs words values w low s v g i (Le f) e o = absurd o
atom_agrees m nodes t atoms inputs words values w low s v g i (Eq x y) e o = absurd o

zip_by : {A B : Type 0} (P : A → B → Type 0) (xs : List A) (ys : List B) (d : B) → length xs ≡ length ys → ((i : ℕ) (a : A) → slice_get xs i ≡ Some a → P a (slice_index_or ys i d)) → AllZip P xs ys
zip_by P [] [] d l h = tt
zip_by P [] (y ∷ ys) d l h = absurd (omega (arith, l))
zip_by P (x ∷ xs) [] d l h = absurd (omega (arith, l))
zip_by P (x ∷ xs) (y ∷ ys) d l h = (h 0 x refl, zip_by P xs ys d (omega (arith, l)) (λ i a e. h (suc i) a e))

all_at : {A : Type 0} (P : A → Type 0) (xs : List A) (i : ℕ) (x : A) → All P xs → slice_get xs i ≡ Some x → P x
all_at P xs i x h e = subst P (get_or_from_slice_get xs i x x e) (h i x (slice_get-within xs i x e))

-- under a model that has the values of the bits each atom has the value of its input
pub inputs_agree : (m : Model) (nodes : List Node) (t : ℕ) (atoms : List Atom) (inputs : List Truth) (words : List ℕ) (values : List Value) → WellTyped nodes → IsLoweredTerm nodes t → All (IsOpaqueBit nodes t) atoms
    → length atoms ≡ length inputs → AreSet nodes atoms inputs (length atoms) words → AreBitValues nodes words values → HasValues m nodes t values → AllZip (Agrees m nodes) atoms inputs
inputs_agree m nodes t atoms inputs words values w low o l s v g =
    zip_by (Agrees m nodes) atoms inputs false l (λ i a e. atom_agrees m nodes t atoms inputs words values w low s v g i a e (all_at (IsOpaqueBit nodes t) atoms i a o e))

-- one value more
pub values_next : (nodes : List Node) (words : List ℕ) (place : ℕ) (old new : List Value) (v : Value) → length old ≡ place → new ≡ old ++ v ∷ [] → v ≡ bits_value (type_at nodes place) (word_at words place)
    → ((k : ℕ) → k < place → part old k ≡ bits_value (type_at nodes k) (word_at words k)) → (k : ℕ) → k < place + 1 → part new k ≡ bits_value (type_at nodes k) (word_at words k)
values_next nodes words place old new v l n e h k b =
    elim (leb_tells (suc k) place) [
      | inl x ↦ ap (λ xs. part xs k) n ∙ part_before old v k (omega (arith, x.1, l)) ∙ h k x.1
      | inr x ↦
          let here : k ≡ place = omega (arith, b, x.1) in
          ap (λ xs. part xs k) n ∙ ap (part (old ++ v ∷ [])) (here ∙ sym l) ∙ part_last old v ∙ e ∙ ap (λ y. bits_value (type_at nodes y) (word_at words y)) (sym here)
    ]

-- an item of a list, and what is known of all items
pub item_of : {A : Type 0} (xs : List A) (i : ℕ) (x : A) → x ≡ get_or xs i x → i < length xs → (slice_get xs i ≡ Some x) × ((P : A → Type 0) → All P xs → P x)
item_of xs i x e l = (slice_get-get_or xs i x l ∙ ap (λ y. Some y) (sym e), λ P h. subst P (sym e) (h i x l))

pub set_all : (nodes : List Node) (atoms : List Atom) (inputs : List Truth) (count : ℕ) (words : List ℕ) → count ≡ length atoms → AreSet nodes atoms inputs count words → AreSet nodes atoms inputs (length atoms) words
set_all nodes atoms inputs count words e h = subst (λ n. AreSet nodes atoms inputs n words) e h
