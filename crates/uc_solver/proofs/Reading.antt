-- Values that are read from the values of what stands for them.
use Rattle.std.specs.Prelude.{◌≡◌, ◌≢◌, ℕ, ◌+◌, ◌<◌, ◌≤◌, ◌&&◌, nat_eq, nat_lt, Bool as Truth, true, false, cond, IsTrue, List, [], ◌∷◌, ◌++◌, map, length, take, drop, get_or, slice_get, slice_set, slice_index_or, Option, None, Some, All, zero, suc}
use Rattle.std.specs.List.{AllZip}
use Rattle.std.specs.Option.{option_map, option_copied}
use Rattle.std.proofs.Common.{refl, sym, ap, ◌∙◌, subst, arith, inl, inr, append_assoc, append-nil, get_or-set_same, get_or-set_other, length-set}
use Rattle.std.proofs.Math.ListN.{get_or-append}
use Rattle.std.proofs.lemmas.List.{map-append, take_more, take_all}
use Rattle.std.proofs.lemmas.List.Elements.{All-nil, All-cons, All-head, All-tail}
use Rattle.std.proofs.lemmas.Bool.{false≢true}
use Rattle.std.proofs.lemmas.Bool.Decides.{nat_tests, eqb_tells, leb_tells}
use Rattle.uc_values.specs.Values.{fits, zero_of, label_of, parts_of, nothing}
use Rattle.uc_values.specs.Types.{field_types}
use Rattle.uc_values.specs.Sizes.{label_bits, bit_count, total_bits, both_bits, counts}
use Rattle.uc_values.proofs.Widths.{bits-Rec, bits-Int, bits-Un, bits-Arr}
use Rattle.uc_values.proofs.Fitting.{IsRecord-fits, IsLabel-fits, parts-Rec, zero-fits}
use Rattle.uc_values.specs.declared.ty.Field.{Field}
use Rattle.uc_values.specs.declared.ty.Ty.{Ty}
use Rattle.uc_values.specs.declared.ty.Ty.TheVariants.{Bool, Int, Bv, Enum, Un, Rec, Arr}
use Rattle.uc_values.specs.declared.value.Value.{Value}
use Rattle.uc_values.specs.declared.value.Value.TheVariants.{Bv as Bits, Enum as Label, Rec as Record}
use Rattle.uc_ops.specs.declared.model.Model.{Model}
use Rattle.uc_ops.specs.declared.node.Node.{Node}
use Rattle.uc_ops.specs.declared.op.Op.TheVariants.{Symbol}
use Rattle.uc_ops.specs.Typing.{Valid, type_at}
use Rattle.uc_ops.specs.Meaning.{part, fitting}
use Rattle.uc_terms.specs.Tables.{HasOp, WellTyped}
use Rattle.uc_terms.specs.Values.{value, values_at}
use Rattle.uc_lower.specs.Fields.{coded, all_coded}
use Rattle.uc_lower.specs.Made.{HasBits}
use Rattle.uc_lower.specs.Lowering.{Pair, IsSymbol, stand_ins}
use Rattle.uc_lower.proofs.Leaves.{coded-Bool, coded-Bv, coded-Enum, coded-Rec}
use Rattle.uc_lower.proofs.Inner.{node_facts}
use Rattle.uc_solver.specs.Codes.{AllFit, Takes, Reads, ReadsAll, IsDecoded, IsReadFrom, label_read, IsSymbolPair, AreCodes, AreRead, GoesBack}
use Rattle.uc_terms.specs.Subterms.{IsSubterm}
use Rattle.uc_solver.specs.Symbols.{FitSymbols, HasValues}
use Rattle.uc_solver.proofs.Setting.{part_before, part_last, subterm_there}

-- the next item of a list
pub takes_some : (codes : List Value) (n m : ℕ) (v : Value) → slice_get codes n ≡ Some v → m ≡ n + 1 → Takes (drop n codes) v (drop m codes)
takes_some [] n m v h e w rest g = cc
takes_some (x ∷ codes) zero m v h e w rest g =
    let one : m ≡ suc zero = omega (arith, e) in
    let first : v ≡ w = cc in
    let others : codes ≡ rest = cc in
    (first, ap (λ k. drop k (x ∷ codes)) one ∙ others)
takes_some (x ∷ codes) (suc n) m v h e w rest g =
    let next : m ≡ suc (n + 1) = omega (arith, e) in
    let r = takes_some codes n (n + 1) v h refl w rest g in
    (r.0, ap (λ k. drop k (x ∷ codes)) next ∙ r.1)

pub takes_none : (codes : List Value) (n : ℕ) (v : Value) (after : List Value) → slice_get codes n ≡ None → Takes (drop n codes) v after
takes_none [] zero v after h w rest g = cc
takes_none [] (suc n) v after h w rest g = cc
takes_none (x ∷ codes) zero v after h w rest g = cc
takes_none (x ∷ codes) (suc n) v after h w rest g = takes_none codes n v after h w rest g

-- a boolean, a bit-vector and a label are read from one value
pub reads_Bool : (ty : Ty) (before after : List Value) (v : Value) → ty ≡ Bool → Takes before v after → Reads ty before v after
reads_Bool ty before after v is t = subst (λ y. Reads y before v after) (sym is) (λ w rest b f e. t w rest (e ∙ ap (λ xs. xs ++ rest) (coded-Bool w)))

pub reads_Bv : (ty : Ty) (width : ℕ) (before after : List Value) (v : Value) → ty ≡ Bv width → Takes before v after → Reads ty before v after
reads_Bv ty width before after v is t = subst (λ y. Reads y before v after) (sym is) (λ w rest b f e. t w rest (e ∙ ap (λ xs. xs ++ rest) (coded-Bv width w)))

label_back : (n k l : ℕ) → l < k → label_read n k (Bits (label_bits k) l) ≡ Label n l
label_back n k l h =
    let t : nat_lt l k ≡ true = grind (arith, nat_tests) in
    ap (λ b. cond b (Label n l) (Label n 0)) t

pub reads_Enum : (ty : Ty) (n k : ℕ) (before after : List Value) (code v : Value) → ty ≡ Enum n k → v ≡ label_read n k code → Takes before code after → Reads ty before v after
reads_Enum ty n k before after code v is made t =
    subst (λ y. Reads y before v after) (sym is) (λ w rest b f e.
    let r = t (Bits (label_bits k) (label_of w)) rest (e ∙ ap (λ xs. xs ++ rest) (coded-Enum n k w)) in
    let l = IsLabel-fits n k w f in
    let own : label_of w ≡ l.label = ap label_of l.is in
    (made ∙ ap (label_read n k) r.0 ∙ ap (λ x. label_read n k (Bits (label_bits k) x)) own ∙ label_back n k l.label l.small ∙ sym l.is, r.1))

both_have : (a b : Option ℕ) (n : ℕ) → both_bits a b ≡ Some n → (i : ℕ) × (a ≡ Some i) × (j : ℕ) × (b ≡ Some j)
both_have None b n h = cc
both_have (Some i) None n h = cc
both_have (Some i) (Some j) n h = (i, refl, j, refl)

fields_have : (fs : List (Field Ty)) (n : ℕ) → total_bits (counts fs) ≡ Some n → All HasBits (field_types fs)
fields_have [] n h = All-nil HasBits
fields_have (f ∷ fs) n h =
    let r = both_have (bit_count f.ty) (total_bits (counts fs)) n h in
    All-cons HasBits f.ty (field_types fs) (r.0, r.1) (fields_have fs r.2 r.3)

-- the fields of a record with a number of bits have one
pub record_bits : (fs : List (Field Ty)) → HasBits (Rec fs) → All HasBits (field_types fs)
record_bits fs h = fields_have fs h.0 (sym (bits-Rec fs) ∙ h.1)

pub reads_Rec : (ty : Ty) (fs gs : List (Field Ty)) (before after vs : List Value) → ty ≡ Rec fs → gs ≡ fs → ReadsAll (field_types gs) before vs after → Reads ty before (Record vs) after
reads_Rec ty fs gs before after vs is same t =
    subst (λ y. Reads y before (Record vs) after) (sym is) (λ w rest b f e.
    let p = IsRecord-fits fs w f in
    let parts : parts_of w ≡ p.parts = ap parts_of p.is ∙ parts-Rec p.parts in
    let all : ReadsAll (field_types fs) before vs after = subst (λ xs. ReadsAll (field_types xs) before vs after) same t in
    let r = all p.parts rest (record_bits fs b) p.fit (e ∙ ap (λ xs. xs ++ rest) (coded-Rec fs w ∙ ap (all_coded (field_types fs)) parts)) in
    (ap Record r.0 ∙ sym p.is, r.1))

-- other types have no number of bits
pub reads_Int : (ty : Ty) (before after : List Value) (v : Value) → ty ≡ Int → Reads ty before v after
reads_Int ty before after v is = subst (λ y. Reads y before v after) (sym is) (λ w rest b f e. let n = sym bits-Int ∙ b.1 in cc)

pub reads_Un : (ty : Ty) (n : ℕ) (before after : List Value) (v : Value) → ty ≡ Un n → Reads ty before v after
reads_Un ty n before after v is = subst (λ y. Reads y before v after) (sym is) (λ w rest b f e. let m = sym (bits-Un n) ∙ b.1 in cc)

pub reads_Arr : (ty i x : Ty) (before after : List Value) (v : Value) → ty ≡ Arr i x → Reads ty before v after
reads_Arr ty i x before after v is = subst (λ y. Reads y before v after) (sym is) (λ w rest b f e. let m = sym (bits-Arr i x) ∙ b.1 in cc)

-- values of several types, one after another
pub reads_none : (before vs : List Value) → vs ≡ [] → ReadsAll [] before vs before
reads_none before vs is [] rest b f e = (is, e)
reads_none before vs is (w ∷ ws) rest b f e = absurd f

record SplitLast (tys : List Ty) (ty : Ty) (ws : List Value) : Type 0 where
  front : List Value
  last : Value
  is : ws ≡ front ++ last ∷ []
  fit : AllFit tys front
  fits_last : IsTrue (fits ty last)
  codes : all_coded (tys ++ ty ∷ []) ws ≡ all_coded tys front ++ coded ty last

split_last : (tys : List Ty) (ty : Ty) (ws : List Value) → AllFit (tys ++ ty ∷ []) ws → SplitLast tys ty ws
split_last [] ty [] f = absurd f
split_last [] ty (w ∷ []) f = record { front = []; last = w; is = refl; fit = tt; fits_last = f.0; codes = append-nil (coded ty w) }
split_last [] ty (w ∷ x ∷ ws) f = absurd f.1
split_last (t ∷ tys) ty [] f = absurd f
split_last (t ∷ tys) ty (w ∷ ws) f =
    let r = split_last tys ty ws f.1 in
    record {
      front = w ∷ r.front;
      last = r.last;
      is = ap (λ xs. w ∷ xs) r.is;
      fit = (f.0, r.fit);
      fits_last = r.fits_last;
      codes = ap (λ xs. coded t w ++ xs) r.codes ∙ sym (append_assoc (coded t w) (all_coded tys r.front) (coded ty r.last));
    }

all_front : (tys : List Ty) (ty : Ty) → All HasBits (tys ++ ty ∷ []) → All HasBits tys × HasBits ty
all_front [] ty h = (All-nil HasBits, All-head HasBits ty [] h)
all_front (t ∷ tys) ty h =
    let r = all_front tys ty (All-tail HasBits t (tys ++ ty ∷ []) h) in
    (All-cons HasBits t tys (All-head HasBits t (tys ++ ty ∷ []) h) r.0, r.1)

reads_more : (tys : List Ty) (ty : Ty) (before mid after vs : List Value) (v : Value) → ReadsAll tys before vs mid → Reads ty mid v after → ReadsAll (tys ++ ty ∷ []) before (vs ++ v ∷ []) after
reads_more tys ty before mid after vs v h g ws rest b f e =
    let s = split_last tys ty ws f in
    let bits = all_front tys ty b in
    let first = h s.front (coded ty s.last ++ rest) bits.0 s.fit (e ∙ ap (λ xs. xs ++ rest) s.codes ∙ append_assoc (all_coded tys s.front) (coded ty s.last) rest) in
    let second = g s.last rest bits.1 s.fits_last first.1 in
    (ap (λ xs. xs ++ v ∷ []) first.0 ∙ ap (λ x. s.front ++ x ∷ []) second.0 ∙ sym s.is, second.1)

pub fields_next : (fs : List (Field Ty)) (i : ℕ) (f : Field Ty) (before mid after vs new : List Value) (v : Value) → f ≡ get_or fs i f → i < length fs → new ≡ vs ++ v ∷ [] → ReadsAll (field_types (take i fs)) before vs mid → Reads f.ty mid v after
    → ReadsAll (field_types (take (i + 1) fs)) before new after
fields_next fs i f before mid after vs new v e l n h g =
    let types : field_types (take (i + 1) fs) ≡ field_types (take i fs) ++ f.ty ∷ [] = ap field_types (take_more fs i f l ∙ ap (λ x. take i fs ++ x ∷ []) (sym e)) ∙ map-append (λ (x : Field Ty). x.ty) (take i fs) (f ∷ []) in
    subst (λ tys. ReadsAll tys before new after) (sym types) (subst (λ xs. ReadsAll (field_types (take i fs) ++ f.ty ∷ []) before xs after) (sym n) (reads_more (field_types (take i fs)) f.ty before mid after vs v h g))

pub fields_all : (fs : List (Field Ty)) (i : ℕ) (before after vs : List Value) → length fs ≤ i → ReadsAll (field_types (take i fs)) before vs after → ReadsAll (field_types fs) before vs after
fields_all fs i before after vs l h = subst (λ xs. ReadsAll (field_types xs) before vs after) (take_all i fs l) h

-- the value that was read, where it fits, and another one where it does not
pub decoded_some : (ty : Ty) (codes after : List Value) (v : Value) → Reads ty codes v after → IsDecoded ty codes v
decoded_some ty codes after v h w b f e = (h w [] b f (e ∙ sym (append-nil (coded ty w)))).0

pub decoded_other : (ty : Ty) (codes after : List Value) (v other : Value) → Reads ty codes v after → fits ty v ≡ false → IsDecoded ty codes other
decoded_other ty codes after v other h n w b f e = absurd (false≢true (sym n ∙ ap (fits ty) (decoded_some ty codes after v h w b f e) ∙ f))

-- what stands for a term by one pair more
stand_more : (p : Pair) (xs ys : List ℕ) (b : Truth) → cond b (p.1 ∷ xs ++ ys) (xs ++ ys) ≡ cond b (p.1 ∷ xs) xs ++ ys
stand_more p xs ys true = refl
stand_more p xs ys false = refl

stand_append : (ps qs : List Pair) (k : ℕ) → stand_ins (ps ++ qs) k ≡ stand_ins ps k ++ stand_ins qs k
stand_append [] qs k = refl
stand_append (p ∷ ps) qs k = ap (λ x. cond (nat_eq p.0 k) (p.1 ∷ x) x) (stand_append ps qs k) ∙ stand_more p (stand_ins ps k) (stand_ins qs k) (nat_eq p.0 k)

stand_next : (pairs : List Pair) (i : ℕ) (p : Pair) (k : ℕ) → p ≡ get_or pairs i p → i < length pairs → stand_ins (take (i + 1) pairs) k ≡ stand_ins (take i pairs) k ++ stand_ins (p ∷ []) k
stand_next pairs i p k e l = ap (λ ps. stand_ins ps k) (take_more pairs i p l ∙ ap (λ x. take i pairs ++ x ∷ []) (sym e)) ∙ stand_append (take i pairs) (p ∷ []) k

pub codes_none : (n : Model) (nodes : List Node) (pairs : List Pair) (codes : List (List Value)) → length codes ≡ length nodes → ((k : ℕ) → slice_index_or codes k [] ≡ []) → AreCodes n nodes (take 0 pairs) codes
codes_none n nodes pairs codes l h = record { long = l; each = λ k b. h k }

pub codes_next : (n : Model) (nodes : List Node) (pairs : List Pair) (old new : List (List Value)) (i : ℕ) (p : Pair) (v : Value) (own : List Value) → p ≡ get_or pairs i p → i < length pairs → p.0 < length nodes → v ≡ value n nodes p.1
    → own ≡ slice_index_or old p.0 [] ++ v ∷ [] → new ≡ slice_set old p.0 own → AreCodes n nodes (take i pairs) old → AreCodes n nodes (take (i + 1) pairs) new
codes_next n nodes pairs old new i p v own e l inside is o s h =
    let within : p.0 < length old = omega (arith, inside, h.long) in
    record {
      long = ap length s ∙ length-set old p.0 own ∙ h.long;
      each = λ k b. elim (eqb_tells p.0 k) [
        | inl x ↦
            let here : slice_index_or new k [] ≡ own = ap (λ xs. slice_index_or xs k []) s ∙ ap (λ j. slice_index_or (slice_set old p.0 own) j []) (sym x.1) ∙ get_or-set_same old p.0 own [] within in
            let more : stand_ins (p ∷ []) k ≡ p.1 ∷ [] = ap (λ t. cond t (p.1 ∷ []) []) x.0 in
            here ∙ o ∙ ap (λ j. slice_index_or old j [] ++ v ∷ []) x.1 ∙ ap (λ xs. xs ++ v ∷ []) (h.each k b) ∙ ap (λ y. values_at n nodes (stand_ins (take i pairs) k) ++ y ∷ []) is
            ∙ sym (ap (values_at n nodes) (stand_next pairs i p k e l ∙ ap (λ xs. stand_ins (take i pairs) k ++ xs) more) ∙ map-append (value n nodes) (stand_ins (take i pairs) k) (p.1 ∷ []))
        | inr x ↦
            let there : slice_index_or new k [] ≡ slice_index_or old k [] = ap (λ xs. slice_index_or xs k []) s ∙ get_or-set_other old p.0 k own [] (λ z. x.1 (sym z)) in
            let more : stand_ins (p ∷ []) k ≡ [] = ap (λ t. cond t (p.1 ∷ []) []) x.0 in
            there ∙ h.each k b ∙ sym (ap (values_at n nodes) (stand_next pairs i p k e l ∙ ap (λ xs. stand_ins (take i pairs) k ++ xs) more ∙ append-nil (stand_ins (take i pairs) k)))
      ];
    }

pub codes_all : (n : Model) (nodes : List Node) (pairs : List Pair) (i : ℕ) (codes : List (List Value)) → length pairs ≤ i → AreCodes n nodes (take i pairs) codes → AreCodes n nodes pairs codes
codes_all n nodes pairs i codes l h = subst (λ ps. AreCodes n nodes ps codes) (take_all i pairs l) h

-- the value of a symbol
pub symbol_reads : (n : Model) (nodes : List Node) (t number : ℕ) (ty : Ty) → WellTyped nodes → t < length nodes → HasOp nodes t (Symbol number ty) → value n nodes t ≡ fitting ty (slice_get n.symbols number)
symbol_reads n nodes t number ty w l h = (node_facts nodes t (Symbol number ty) w l h).value n

-- one value more
pub read_next : (nodes : List Node) (codes : List (List Value)) (place : ℕ) (old new : List Value) (v : Value) → length old ≡ place → new ≡ old ++ v ∷ []
    → (IsSymbol nodes place → IsReadFrom (type_at nodes place) (slice_index_or codes place []) v) → ((k : ℕ) → k < place → IsSymbol nodes k → IsReadFrom (type_at nodes k) (slice_index_or codes k []) (part old k))
    → (k : ℕ) → k < place + 1 → IsSymbol nodes k → IsReadFrom (type_at nodes k) (slice_index_or codes k []) (part new k)
read_next nodes codes place old new v l a own h k b s =
    elim (leb_tells (suc k) place) [
      | inl x ↦ subst (IsReadFrom (type_at nodes k) (slice_index_or codes k [])) (sym (ap (λ xs. part xs k) a ∙ part_before old v k (omega (arith, x.1, l)))) (h k x.1 s)
      | inr x ↦
          let here : k ≡ place = omega (arith, b, x.1) in
          let is : part new k ≡ v = ap (λ xs. part xs k) a ∙ ap (part (old ++ v ∷ [])) (here ∙ sym l) ∙ part_last old v in
          subst (IsReadFrom (type_at nodes k) (slice_index_or codes k [])) (sym is) (subst (λ j. IsReadFrom (type_at nodes j) (slice_index_or codes j []) v) (sym here) (own (subst (IsSymbol nodes) here s)))
    ]

-- what is read from the values of what stands for the symbols
pub read_fits : (nodes : List Node) (t : ℕ) (codes : List (List Value)) (values : List Value) → WellTyped nodes → t < length nodes → AreRead nodes codes values → FitSymbols nodes t values
read_fits nodes t codes values w l r k s y = (r.each k (subterm_there nodes t k w l s) y).fits

pub goes_back : (m n : Model) (nodes : List Node) (t : ℕ) (pairs : List Pair) (codes : List (List Value)) (values : List Value) → WellTyped nodes → t < length nodes → AreCodes n nodes pairs codes → AreRead nodes codes values
    → HasValues m nodes t values → GoesBack m n nodes t pairs
goes_back m n nodes t pairs codes values w l c r h = record {
  fits = h.fits;
  decoded = λ k s y.
      let inside = subterm_there nodes t k w l s in
      let read = subst (λ xs. IsReadFrom (type_at nodes k) xs (part values k)) (c.each k inside) (r.each k inside y) in
      subst (IsDecoded (type_at nodes k) (values_at n nodes (stand_ins pairs k))) (sym (h.same k s y)) read.decoded;
}
