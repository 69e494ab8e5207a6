-- What stands for the values of types of finitely many values: it fits, and every such value comes of one.
use Rattle.std.specs.Prelude.{ℕ, ◌<◌, ◌&&◌, ◌≡◌, IsTrue, nat_eq, List, [], ◌∷◌, ◌++◌, length}
use Rattle.std.specs.List.{AllZip}
use Rattle.std.proofs.Common.{refl, sym, ap, ◌∙◌, arith}
use Rattle.std.proofs.lemmas.List.{length-map}
use Rattle.std.proofs.Math.Bool.{and_assoc}
use Rattle.std.proofs.lemmas.Bool.Decides.{nat_tests}
use Rattle.uc_values.specs.Values.{fits, label_of, bits_of, parts_of}
use Rattle.uc_values.specs.Types.{field_types}
use Rattle.uc_values.specs.Sizes.{label_bits}
use Rattle.uc_values.specs.Sameness.{same, same_parts, sames, Sameness}
use Rattle.uc_values.proofs.Fitting.{Fit, IsBits-fits, fits-IsBits, IsRecord-fits, fits-IsRecord, IsLabel-fits, fits-IsLabel, parts-Rec}
use Rattle.uc_values.proofs.Widths.{label_bits-least}
use Rattle.uc_values.proofs.Agreement.{same-Rec, sameness-Enum, sameness-Bv}
use Rattle.uc_values.specs.declared.ty.Field.{Field}
use Rattle.uc_values.specs.declared.ty.Ty.{Ty}
use Rattle.uc_values.specs.declared.ty.Ty.TheVariants.{Bool, Bv, Enum, Rec}
use Rattle.uc_values.specs.declared.value.Value.{Value}
use Rattle.uc_values.specs.declared.value.Value.TheVariants.{Bv as Bits, Enum as Label, Rec as Record}
use Rattle.uc_lower.specs.Fields.{low_type, all_leaves, all_low, all_coded, all_same}
use Rattle.uc_lower.specs.Ranges.{IsCode, AreCodes}
use Rattle.uc_lower.proofs.Leaves.{AllFinite, none, boolean, word, label, fields, low-all, low-Bool, low-Bv, low-Enum, low-Rec, leaves-Bool, leaves-Bv, leaves-Enum, leaves-Rec, coded-Bool, coded-Bv, coded-Enum, coded-Rec}

pub zip_append : {A B : Type 0} (P : A → B → Type 0) (ls bs : List A) (xs ys : List B) → AllZip P ls xs → AllZip P bs ys → AllZip P (ls ++ bs) (xs ++ ys)
zip_append P [] bs [] ys h g = g
zip_append P [] bs (x ∷ xs) ys h g = absurd h
zip_append P (a ∷ ls) bs [] ys h g = absurd h
zip_append P (a ∷ ls) bs (x ∷ xs) ys h g = (h.0, zip_append P ls bs xs ys h.1 g)

pub record Splits {A B : Type 0} (P : A → B → Type 0) (ls bs : List A) (zs : List B) : Type 0 where
  pub front : List B
  pub back : List B
  pub is : zs ≡ front ++ back
  pub first : AllZip P ls front
  pub second : AllZip P bs back

pub zip_split : {A B : Type 0} (P : A → B → Type 0) (ls bs : List A) (zs : List B) → AllZip P (ls ++ bs) zs → Splits P ls bs zs
zip_split P [] bs zs h = record { front = []; back = zs; is = refl; first = tt; second = h }
zip_split P (a ∷ ls) bs [] h = absurd h
zip_split P (a ∷ ls) bs (z ∷ zs) h =
    let r = zip_split P ls bs zs h.1 in
    record { front = z ∷ r.front; back = r.back; is = ap (λ xs. z ∷ xs) r.is; first = (h.0, r.first); second = r.second }

pub zip_length : {A B : Type 0} (P : A → B → Type 0) (ls : List A) (xs : List B) → AllZip P ls xs → length ls ≡ length xs
zip_length P [] [] h = refl
zip_length P [] (x ∷ xs) h = absurd h
zip_length P (a ∷ ls) [] h = absurd h
zip_length P (a ∷ ls) (x ∷ xs) h = omega (arith, zip_length P ls xs h.1)

-- the only item of a list
pub record IsOnly {A B : Type 0} (P : A → B → Type 0) (a : A) (xs : List B) : Type 0 where
  pub item : B
  pub is : xs ≡ item ∷ []
  pub holds : P a item

pub only : {A B : Type 0} (P : A → B → Type 0) (a : A) (xs : List B) → AllZip P (a ∷ []) xs → IsOnly P a xs
only P a [] h = absurd h
only P a (x ∷ []) h = record { item = x; is = refl; holds = h.0 }
only P a (x ∷ y ∷ xs) h = absurd h.1

label_code : (n k : ℕ) (v : Value) → IsTrue (fits (Enum n k) v) → IsCode (Enum n k) (Bits (label_bits k) (label_of v))
label_code n k v h =
    let r = IsLabel-fits n k v h in
    let small : label_of v < k = omega (arith, ap label_of r.is, r.small) in
    record { fits = fits-IsBits (label_bits k) (label_of v) (omega (arith, small, (label_bits-least k).enough)); range = small }

-- what stands for a value that fits stands for a value of its fields
pub are_codes : (tys : List Ty) (vs : List Value) → AllFinite tys → Fit tys vs → AreCodes (all_leaves tys) (all_coded tys vs)
are_codes tys [] none h = tt
are_codes tys (v ∷ vs) none h = absurd h
are_codes tys [] (boolean rest r) h = absurd h
are_codes tys (v ∷ vs) (boolean rest r) h = rw (leaves-Bool, coded-Bool v) (record { fits = h.0; range = tt }, are_codes rest vs r h.1)
are_codes tys [] (word width rest r) h = absurd h
are_codes tys (v ∷ vs) (word width rest r) h = rw (leaves-Bv width, coded-Bv width v) (record { fits = h.0; range = tt }, are_codes rest vs r h.1)
are_codes tys [] (label n k rest r) h = absurd h
are_codes tys (v ∷ vs) (label n k rest r) h = rw (leaves-Enum n k, coded-Enum n k v) (label_code n k v h.0, are_codes rest vs r h.1)
are_codes tys [] (fields fs rest f r) h = absurd h
are_codes tys (v ∷ vs) (fields fs rest f r) h =
    let p = IsRecord-fits fs v h.0 in
    let same : parts_of v ≡ p.parts = ap parts_of p.is ∙ parts-Rec p.parts in
    rw (leaves-Rec fs, coded-Rec fs v, same)
    (zip_append IsCode (all_leaves (field_types fs)) (all_leaves rest) (all_coded (field_types fs) p.parts) (all_coded rest vs) (are_codes (field_types fs) p.parts f p.fit) (are_codes rest vs r h.1))

-- values that fit, which stand as these
pub record Decoded (tys : List Ty) (ws : List Value) : Type 0 where
  pub values : List Value
  pub fit : Fit tys values
  pub codes : all_coded tys values ≡ ws

-- every value that stands for a value of the fields comes of one
pub decoded : (tys : List Ty) (ws : List Value) → AllFinite tys → AreCodes (all_leaves tys) ws → Decoded tys ws
decoded tys [] none h = record { values = []; fit = tt; codes = refl }
decoded tys (w ∷ ws) none h = absurd h
decoded tys ws (boolean rest r) h =
    let s = zip_split IsCode (Bool ∷ []) (all_leaves rest) ws (rw leaves-Bool at h) in
    let d = decoded rest s.back r s.second in
    let one = only IsCode Bool s.front s.first in
    record {
      values = one.item ∷ d.values;
      fit = (one.holds.fits, d.fit);
      codes = rw (coded-Bool one.item) (ap (λ xs. one.item ∷ xs) d.codes ∙ ap (λ xs. xs ++ s.back) (sym one.is) ∙ sym s.is);
    }
decoded tys ws (word width rest r) h =
    let s = zip_split IsCode (Bv width ∷ []) (all_leaves rest) ws (rw (leaves-Bv width) at h) in
    let d = decoded rest s.back r s.second in
    let one = only IsCode (Bv width) s.front s.first in
    record {
      values = one.item ∷ d.values;
      fit = (one.holds.fits, d.fit);
      codes = rw (coded-Bv width one.item) (ap (λ xs. one.item ∷ xs) d.codes ∙ ap (λ xs. xs ++ s.back) (sym one.is) ∙ sym s.is);
    }
decoded tys ws (label n k rest r) h =
    let s = zip_split IsCode (Enum n k ∷ []) (all_leaves rest) ws (rw (leaves-Enum n k) at h) in
    let d = decoded rest s.back r s.second in
    let one = only IsCode (Enum n k) s.front s.first in
    let b = IsBits-fits (label_bits k) one.item one.holds.fits in
    let small : b.number < k = omega (arith, ap bits_of b.is, one.holds.range) in
    record {
      values = Label n b.number ∷ d.values;
      fit = (fits-IsLabel n k b.number small, d.fit);
      codes = rw (coded-Enum n k (Label n b.number)) (ap (λ xs. Bits (label_bits k) b.number ∷ xs) d.codes ∙ ap (λ w. w ∷ s.back) (sym b.is) ∙ ap (λ xs. xs ++ s.back) (sym one.is) ∙ sym s.is);
    }
decoded tys ws (fields fs rest f r) h =
    let s = zip_split IsCode (all_leaves (field_types fs)) (all_leaves rest) ws (rw (leaves-Rec fs) at h) in
    let d = decoded rest s.back r s.second in
    let e = decoded (field_types fs) s.front f s.first in
    record {
      values = Record e.values ∷ d.values;
      fit = (fits-IsRecord fs e.values e.fit, d.fit);
      codes = rw (coded-Rec fs (Record e.values), parts-Rec e.values) (ap (λ xs. xs ++ all_coded rest d.values) e.codes ∙ ap (λ xs. s.front ++ xs) d.codes ∙ sym s.is);
    }

-- sameness, field by field
pub same_append : (tys rest : List Ty) (vs ws xs ys : List Value) → length tys ≡ length vs → length tys ≡ length ws → all_same (tys ++ rest) (vs ++ xs) (ws ++ ys) ≡ (all_same tys vs ws && all_same rest xs ys)
same_append [] rest [] [] xs ys h g = refl
same_append [] rest (v ∷ vs) ws xs ys h g = absurd (omega (arith, h))
same_append [] rest [] (w ∷ ws) xs ys h g = absurd (omega (arith, g))
same_append (ty ∷ tys) rest [] ws xs ys h g = absurd (omega (arith, h))
same_append (ty ∷ tys) rest (v ∷ vs) [] xs ys h g = absurd (omega (arith, g))
same_append (ty ∷ tys) rest (v ∷ vs) (w ∷ ws) xs ys h g =
    ap (λ b. same ty v w && b) (same_append tys rest vs ws xs ys (omega (arith, h)) (omega (arith, g))) ∙ sym (and_assoc (same ty v w) (all_same tys vs ws) (all_same rest xs ys))

same_fields : (fs : List (Field Ty)) (vs ws : List Value) → same_parts (sames fs) vs ws ≡ all_same (field_types fs) vs ws
same_fields [] vs ws = refl
same_fields (f ∷ fs) [] ws = refl
same_fields (f ∷ fs) (v ∷ vs) [] = refl
same_fields (f ∷ fs) (v ∷ vs) (w ∷ ws) = ap (λ b. same f.ty v w && b) (same_fields fs vs ws)

pub low_length : (tys : List Ty) → length (all_low tys) ≡ length (all_leaves tys)
low_length tys = ap length (sym (low-all tys)) ∙ length-map (all_leaves tys) low_type

code_length : (tys : List Ty) (vs : List Value) → AllFinite tys → Fit tys vs → length (all_low tys) ≡ length (all_coded tys vs)
code_length tys vs f h = low_length tys ∙ zip_length IsCode (all_leaves tys) (all_coded tys vs) (are_codes tys vs f h)

label_same : (n k : ℕ) (v w : Value) → IsTrue (fits (Enum n k) v) → IsTrue (fits (Enum n k) w) → same (Enum n k) v w ≡ same (Bv (label_bits k)) (Bits (label_bits k) (label_of v)) (Bits (label_bits k) (label_of w))
label_same n k v w h g =
    let a = IsLabel-fits n k v h in
    let b = IsLabel-fits n k w g in
    let left : same (Enum n k) (Label n a.label) (Label n b.label) ≡ (nat_eq n n && nat_eq a.label b.label) = ap (λ (s : Sameness). s.same (Label n a.label) (Label n b.label)) (sameness-Enum n k) in
    let right : same (Bv (label_bits k)) (Bits (label_bits k) a.label) (Bits (label_bits k) b.label) ≡ (nat_eq (label_bits k) (label_bits k) && nat_eq a.label b.label) =
    ap (λ (s : Sameness). s.same (Bits (label_bits k) a.label) (Bits (label_bits k) b.label)) (sameness-Bv (label_bits k)) in
    let one : nat_eq n n ≡ nat_eq (label_bits k) (label_bits k) = grind (arith, nat_tests) in
    rw (a.is, b.is) (left ∙ ap (λ t. t && nat_eq a.label b.label) one ∙ sym right)

-- two values that fit are the same where what stands for them is, field by field
pub coded_same : (tys : List Ty) (vs ws : List Value) → AllFinite tys → Fit tys vs → Fit tys ws → all_same tys vs ws ≡ all_same (all_low tys) (all_coded tys vs) (all_coded tys ws)
coded_same tys [] ws none h g = refl
coded_same tys (v ∷ vs) ws none h g = absurd h
coded_same tys [] ws (boolean rest r) h g = absurd h
coded_same tys (v ∷ vs) [] (boolean rest r) h g = absurd g
coded_same tys (v ∷ vs) (w ∷ ws) (boolean rest r) h g = rw (low-Bool, coded-Bool v, coded-Bool w) (ap (λ b. same Bool v w && b) (coded_same rest vs ws r h.1 g.1))
coded_same tys [] ws (word width rest r) h g = absurd h
coded_same tys (v ∷ vs) [] (word width rest r) h g = absurd g
coded_same tys (v ∷ vs) (w ∷ ws) (word width rest r) h g = rw (low-Bv width, coded-Bv width v, coded-Bv width w) (ap (λ b. same (Bv width) v w && b) (coded_same rest vs ws r h.1 g.1))
coded_same tys [] ws (label n k rest r) h g = absurd h
coded_same tys (v ∷ vs) [] (label n k rest r) h g = absurd g
coded_same tys (v ∷ vs) (w ∷ ws) (label n k rest r) h g =
    rw (low-Enum n k, coded-Enum n k v, coded-Enum n k w)
    (ap (λ b. b && all_same rest vs ws) (label_same n k v w h.0 g.0) ∙ ap (λ b. same (Bv (label_bits k)) (Bits (label_bits k) (label_of v)) (Bits (label_bits k) (label_of w)) && b) (coded_same rest vs ws r h.1 g.1))
coded_same tys [] ws (fields fs rest f r) h g = absurd h
coded_same tys (v ∷ vs) [] (fields fs rest f r) h g = absurd g
coded_same tys (v ∷ vs) (w ∷ ws) (fields fs rest f r) h g =
    let p = IsRecord-fits fs v h.0 in
    let q = IsRecord-fits fs w g.0 in
    let tys = field_types fs in
    let vp : parts_of v ≡ p.parts = ap parts_of p.is ∙ parts-Rec p.parts in
    let wq : parts_of w ≡ q.parts = ap parts_of q.is ∙ parts-Rec q.parts in
    let here : same (Rec fs) v w ≡ all_same (all_low tys) (all_coded tys p.parts) (all_coded tys q.parts) =
    same-Rec fs v w ∙ same_fields fs (parts_of v) (parts_of w) ∙ ap (λ x. all_same tys x (parts_of w)) vp ∙ ap (all_same tys p.parts) wq ∙ coded_same tys p.parts q.parts f p.fit q.fit in
    rw (low-Rec fs, coded-Rec fs v, coded-Rec fs w, vp, wq)
    (ap (λ b. b && all_same rest vs ws) here ∙ ap (λ b. all_same (all_low tys) (all_coded tys p.parts) (all_coded tys q.parts) && b) (coded_same rest vs ws r h.1 g.1)
    ∙ sym (same_append (all_low tys) (all_low rest) (all_coded tys p.parts) (all_coded tys q.parts) (all_coded rest vs) (all_coded rest ws) (code_length tys p.parts f p.fit) (code_length tys q.parts f q.fit)))
