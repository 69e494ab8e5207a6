-- The terms of the fields of a record, one after another.
use Rattle.std.specs.Prelude.{◌≡◌, ℕ, ◌+◌, ◌-◌, ◌<◌, List, [], ◌∷◌, ◌++◌, map, length, take, drop, get_or, slice_get, Option, None, unwrap_or, zero, suc}
use Rattle.std.specs.Option.{option_map}
use Rattle.std.proofs.lemmas.Option.{slice_get-map, unwrap_or-slice_get}
use Rattle.uc_lower.specs.Steps.{lows, part_lows, joined_lows}
use Rattle.std.proofs.Common.{refl, sym, ap, ◌∙◌, arith, length-append, length-drop, append-nil, append_assoc}
use Rattle.std.proofs.lemmas.List.{map-append, take_more, take-map}
use Rattle.std.proofs.Math.Seq.{drop-nil}
use Rattle.uc_values.specs.Types.{field_types}
use Rattle.uc_values.specs.declared.ty.Field.{Field}
use Rattle.uc_values.specs.declared.ty.Ty.{Ty}
use Rattle.uc_values.specs.declared.ty.Ty.TheVariants.{Rec}
use Rattle.uc_ops.specs.Typing.{fields_of, part_type}
use Rattle.uc_ops.proofs.Typed.{fields-Rec}
use Rattle.uc_lower.specs.Fields.{leaves, all_leaves}
use Rattle.uc_lower.proofs.Leaves.{leaves-Rec}

pub all_leaves-append : (xs ys : List Ty) → all_leaves (xs ++ ys) ≡ all_leaves xs ++ all_leaves ys
all_leaves-append [] ys = refl
all_leaves-append (x ∷ xs) ys = ap (λ zs. leaves x ++ zs) (all_leaves-append xs ys) ∙ sym (append_assoc (leaves x) (all_leaves xs) (all_leaves ys))

pub leaves_more : (fs : List (Field Ty)) (i : ℕ) (f : Field Ty) → f ≡ get_or fs i f → i < length fs → all_leaves (field_types (take (i + 1) fs)) ≡ all_leaves (field_types (take i fs)) ++ leaves f.ty
leaves_more fs i f e l =
    ap (λ gs. all_leaves (field_types gs)) (take_more fs i f l ∙ ap (λ g. take i fs ++ g ∷ []) (sym e))
    ∙ ap all_leaves (map-append (λ (g : Field Ty). g.ty) (take i fs) (f ∷ [])) ∙ all_leaves-append (field_types (take i fs)) (f.ty ∷ [])
    ∙ ap (λ xs. all_leaves (field_types (take i fs)) ++ xs) (append-nil (leaves f.ty))

drop_drop : {A : Type 0} (m n : ℕ) (xs : List A) → drop n (drop m xs) ≡ drop (m + n) xs
drop_drop zero n xs = ap (λ k. drop k xs) (omega arith)
drop_drop (suc m) n [] = drop-nil n ∙ sym (drop-nil (suc m + n))
drop_drop (suc m) n (x ∷ xs) = drop_drop m n xs ∙ ap (λ k. drop k (x ∷ xs)) (let e : suc (m + n) ≡ suc m + n = omega arith in e)

pub after_record : (ty : Ty) (fs gs : List (Field Ty)) (rest terms : List ℕ) → ty ≡ Rec fs → gs ≡ fs → rest ≡ drop (length (all_leaves (field_types gs))) terms → rest ≡ drop (length (leaves ty)) terms
after_record ty fs gs rest terms e g h =
    h ∙ ap (λ gs. drop (length (all_leaves (field_types gs))) terms) g ∙ ap (λ ls. drop (length ls) terms) (sym (leaves-Rec fs)) ∙ ap (λ t. drop (length (leaves t)) terms) (sym e)

pub after_more : (fs : List (Field Ty)) (i : ℕ) (f : Field Ty) (rest new terms : List ℕ) → f ≡ get_or fs i f → i < length fs → rest ≡ drop (length (all_leaves (field_types (take i fs)))) terms → new ≡ drop (length (leaves f.ty)) rest
    → new ≡ drop (length (all_leaves (field_types (take (i + 1) fs)))) terms
after_more fs i f rest new terms e l h g =
    let m = length (all_leaves (field_types (take i fs))) in
    let n = length (leaves f.ty) in
    g ∙ ap (drop n) h ∙ drop_drop m n terms ∙ ap (λ k. drop k terms) (sym (ap length (leaves_more fs i f e l) ∙ length-append (all_leaves (field_types (take i fs))) (leaves f.ty)))

pub leaves_record : (ty : Ty) (fs gs : List (Field Ty)) (found : List Ty) → ty ≡ Rec fs → gs ≡ fs → found ≡ all_leaves (field_types gs) → found ≡ leaves ty
leaves_record ty fs gs found e g h = h ∙ ap (λ gs. all_leaves (field_types gs)) g ∙ sym (leaves-Rec fs) ∙ ap leaves (sym e)

take_none : {A : Type 0} (n : ℕ) → take {A = A} n [] ≡ []
take_none zero = refl
take_none (suc n) = refl

take_before : {A : Type 0} (n : ℕ) (xs : List A) → take (length xs - length (drop n xs)) xs ≡ take n xs
take_before zero xs = let e : length xs - length xs ≡ 0 = omega arith in ap (λ k. take k xs) e
take_before {A = A} (suc n) [] = take_none {A = A} (length {A = A} [] - length {A = A} (drop (suc n) []))
take_before (suc n) (x ∷ xs) =
    let e : length (x ∷ xs) - length (drop n xs) ≡ suc (length xs - length (drop n xs)) = omega (arith, length-drop n xs) in
    ap (λ k. take k (x ∷ xs)) e ∙ ap (λ ys. x ∷ ys) (take_before n xs)

field_at : (fs : List (Field Ty)) (k : ℕ) (f : Field Ty) → f ≡ get_or fs k f → k < length fs → part_type (field_types fs) k ≡ f.ty
field_at [] k f e l = absurd (omega arith)
field_at (g ∷ fs) zero f e l = ap (λ (h : Field Ty). h.ty) (sym e)
field_at (g ∷ fs) (suc k) f e l = field_at fs k f e (omega (arith, l))

pub low_field-is : (ty : Ty) (fs gs : List (Field Ty)) (k : ℕ) (f : Field Ty) (rest end terms found : List ℕ) → ty ≡ Rec fs → gs ≡ fs → f ≡ get_or gs k f → k < length gs
    → rest ≡ drop (length (all_leaves (field_types (take k gs)))) terms → end ≡ drop (length (leaves f.ty)) rest → found ≡ take (length rest - length end) rest
    → found ≡ take (length (leaves (part_type (field_types (fields_of ty)) k))) (drop (length (all_leaves (take k (field_types (fields_of ty))))) terms)
low_field-is ty fs gs k f rest end terms found e g h l r d t =
    let own : fields_of ty ≡ gs = ap fields_of e ∙ fields-Rec fs ∙ sym g in
    let one : found ≡ take (length (leaves f.ty)) rest = t ∙ ap (λ x. take (length rest - length x) rest) d ∙ take_before (length (leaves f.ty)) rest in
    let two : rest ≡ drop (length (all_leaves (take k (field_types gs)))) terms = r ∙ ap (λ ts. drop (length (all_leaves ts)) terms) (sym (take-map (λ (x : Field Ty). x.ty) k gs)) in
    rw own (one ∙ ap (λ x. take (length (leaves x)) rest) (sym (field_at gs k f h l)) ∙ ap (take (length (leaves (part_type (field_types gs) k)))) two)

joined_append : (lowered : List (List ℕ)) (xs : List ℕ) (p : ℕ) → joined_lows lowered (xs ++ p ∷ []) ≡ joined_lows lowered xs ++ lows lowered p
joined_append lowered [] p = append-nil (lows lowered p)
joined_append lowered (x ∷ xs) p = ap (λ ys. lows lowered x ++ ys) (joined_append lowered xs p) ∙ sym (append_assoc (lows lowered x) (joined_lows lowered xs) (lows lowered p))

pub joined_more : (lowered : List (List ℕ)) (parts all new low : List ℕ) (i p : ℕ) → p ≡ get_or parts i p → i < length parts → all ≡ joined_lows lowered (take i parts) → low ≡ lows lowered p → new ≡ all ++ low → new ≡ joined_lows lowered (take (i + 1) parts)
joined_more lowered parts all new low i p e l h g n =
    n ∙ ap (λ x. x ++ low) h ∙ ap (λ x. joined_lows lowered (take i parts) ++ x) g ∙ sym (ap (joined_lows lowered) (take_more parts i p l ∙ ap (λ x. take i parts ++ x ∷ []) (sym e)) ∙ joined_append lowered (take i parts) p)

pub low_missing : (lowered : List (List ℕ)) (t : ℕ) (o : Option (List ℕ)) → o ≡ slice_get lowered t → o ≡ None → [] ≡ lows lowered t
low_missing lowered t o h e = sym (sym (unwrap_or-slice_get lowered t []) ∙ ap (λ x. unwrap_or x []) (sym h ∙ e))

pub part_missing : (lowered : List (List ℕ)) (parts : List ℕ) (k : ℕ) (o : Option ℕ) → o ≡ slice_get parts k → o ≡ None → [] ≡ part_lows lowered parts k
part_missing lowered parts k o h e =
    sym (sym (unwrap_or-slice_get (map (lows lowered) parts) k []) ∙ ap (λ x. unwrap_or x []) (slice_get-map (lows lowered) parts k ∙ ap (option_map (lows lowered)) (sym h ∙ e)))
