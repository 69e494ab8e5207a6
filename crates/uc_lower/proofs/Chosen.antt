-- What stands for a choice, a field of a record and a constant.
use Rattle.std.specs.Prelude.{◌≡◌, ℕ, ◌+◌, ◌<◌, ◌≤◌, ◌^◌, Bool as Flag, true, false, cond, IsTrue, List, [], ◌∷◌, ◌++◌, map, length, take, drop, get_or, All, Contains, zero, suc}
use Rattle.std.proofs.Common.{refl, sym, ap, ◌∙◌, subst, arith, length-append, append-nil, inl, inr}
use Rattle.std.proofs.lemmas.List.{length-map, take_all, take-map, drop-map}
use Rattle.std.proofs.lemmas.List.Elements.{All-append, All-cons, All-nil, All-head, All-tail, All-take}
use Rattle.std.proofs.lemmas.Bool.{false≢true}
use Rattle.uc_values.specs.Values.{fits, truth_of, label_of, parts_of, field_of}
use Rattle.uc_values.specs.Types.{field_types}
use Rattle.uc_values.specs.Sizes.{label_bits}
use Rattle.uc_values.proofs.Fitting.{Fit, IsLabel-fits, IsRecord-fits, fits-IsBits, parts-Rec}
use Rattle.uc_values.proofs.Widths.{label_bits-least, bits-Int}
use Rattle.uc_values.specs.declared.ty.Field.{Field}
use Rattle.uc_values.specs.declared.ty.Ty.{Ty}
use Rattle.uc_values.specs.declared.ty.Ty.TheVariants.{Bool, Int, Bv, Enum, Rec}
use Rattle.uc_values.specs.declared.value.Value.{Value}
use Rattle.uc_values.specs.declared.value.Value.TheVariants.{Bv as Bits}
use Rattle.uc_ops.specs.declared.op.Op.TheVariants.{Symbol, Const, Ite, App, GetField}
use Rattle.uc_ops.specs.declared.node.Node.{Node}
use Rattle.uc_ops.specs.Typing.{Suits, is_constant, type_at, types_at, part_type, fields_of}
use Rattle.uc_ops.specs.Meaning.{apply, part}
use Rattle.uc_ops.proofs.Typed.{fields-Rec, Bv-valid}
use Rattle.uc_terms.specs.Tables.{HasOp, WellTyped, parts_at}
use Rattle.uc_terms.specs.Values.{value, values_at}
use Rattle.uc_lower.specs.Fields.{leaves, low_types, coded, all_leaves, all_low, all_coded}
use Rattle.uc_lower.specs.Made.{Grows, Within, IsMade, IsLowType, bits, IsLowNode, IsLowered, HasBits}
use Rattle.uc_lower.specs.Steps.{AreChosen, lows, part_lows, IsLow, Means, IsBitsType, IsReady, IsLowOf}
use Rattle.uc_lower.proofs.Leaves.{AllFinite, none, boolean, word, label, fields, one_finite, low-Bool, low-Enum, low-Rec, coded-Bool, coded-Enum, coded-Rec}
use Rattle.uc_lower.proofs.Codes.{are_codes, zip_length}
use Rattle.uc_lower.specs.Ranges.{IsCode}
use Rattle.uc_lower.proofs.Growing.{kept_type, kept_value, made_lowered, one_op, split_subterm}
use Rattle.uc_lower.proofs.Building.{one_lowered, one_item, no_types, same_lengths}
use Rattle.uc_lower.proofs.Inner.{node_facts, ThreeParts, one_part, three_parts, one_low, one_means}

ite_parts : (nodes : List Node) (t : ℕ) → WellTyped nodes → t < length nodes → HasOp nodes t Ite → (ty : Ty) × ThreeParts nodes (parts_at nodes t) Bool ty ty
ite_parts nodes t w l h = let f = node_facts nodes t Ite w l h in (f.suits.0, three_parts nodes (parts_at nodes t) Bool f.suits.0 f.suits.0 f.suits.1)

-- what stands for the parts of a choice
pub record ChoiceLow (nodes : List Node) (lowered : List (List ℕ)) (t : ℕ) : Type 0 where
  pub condition : Within nodes (part_lows lowered (parts_at nodes t) 0)
  pub boolean : types_at nodes (part_lows lowered (parts_at nodes t) 0) ≡ Bool ∷ []
  pub left : Within nodes (part_lows lowered (parts_at nodes t) 1)
  pub right : Within nodes (part_lows lowered (parts_at nodes t) 2)
  pub one_type : types_at nodes (part_lows lowered (parts_at nodes t) 1) ≡ types_at nodes (part_lows lowered (parts_at nodes t) 2)

pub choice_parts : (nodes : List Node) (lowered : List (List ℕ)) (t : ℕ) → WellTyped nodes → IsReady nodes lowered t Ite → ChoiceLow nodes lowered t
choice_parts nodes lowered t w ready =
    let r = (ite_parts nodes t w ready.there ready.has).1 in
    let P : ℕ → Type 0 = λ p. IsLow nodes p (lows lowered p) in
    let low = subst (All P) r.is ready.low in
    let a = All-head P r.a (r.b ∷ r.c ∷ []) low in
    let rest = All-tail P r.a (r.b ∷ r.c ∷ []) low in
    let b = All-head P r.b (r.c ∷ []) rest in
    let c = All-head P r.c [] (All-tail P r.b (r.c ∷ []) rest) in
    record {
      condition = subst (λ ps. Within nodes (part_lows lowered ps 0)) (sym r.is) a.within;
      boolean = subst (λ ps. types_at nodes (part_lows lowered ps 0) ≡ Bool ∷ []) (sym r.is) (a.types ∙ ap low_types r.type_a ∙ low-Bool);
      left = subst (λ ps. Within nodes (part_lows lowered ps 1)) (sym r.is) b.within;
      right = subst (λ ps. Within nodes (part_lows lowered ps 2)) (sym r.is) c.within;
      one_type = subst (λ ps. types_at nodes (part_lows lowered ps 1) ≡ types_at nodes (part_lows lowered ps 2)) (sym r.is) (b.types ∙ ap low_types (r.type_b ∙ sym r.type_c) ∙ sym c.types);
    }

-- the one term of a condition
pub record OneCondition (nodes : List Node) (us : List ℕ) (x : ℕ) : Type 0 where
  pub is : us ≡ x ∷ []
  pub there : x < length nodes
  pub boolean : type_at nodes x ≡ Bool

pub condition_length : (nodes : List Node) (us : List ℕ) → types_at nodes us ≡ Bool ∷ [] → length us ≡ 1
condition_length nodes us e = sym (length-map us (type_at nodes)) ∙ ap length e

pub one_condition : (nodes : List Node) (us : List ℕ) (x : ℕ) → Within nodes us → types_at nodes us ≡ Bool ∷ [] → x ≡ get_or us 0 x → OneCondition nodes us x
one_condition nodes us x b e h =
    let is = one_item us x (condition_length nodes us e) h in
    let types : type_at nodes x ∷ [] ≡ Bool ∷ [] = ap (types_at nodes) (sym is) ∙ e in
    record { is = is; there = All-head (λ t. t < length nodes) x [] (subst (Within nodes) is b); boolean = (cc) }

cond_coded : (ty : Ty) (b : Flag) (v w : Value) → cond b (coded ty v) (coded ty w) ≡ coded ty (cond b v w)
cond_coded ty true v w = refl
cond_coded ty false v w = refl

pub choice_low : (old new : List Node) (lowered : List (List ℕ)) (t x : ℕ) (us : List ℕ) → WellTyped old → Grows old new → IsReady old lowered t Ite → x ≡ get_or (part_lows lowered (parts_at old t) 0) 0 x
    → AreChosen old new x (part_lows lowered (parts_at old t) 1) (part_lows lowered (parts_at old t) 2) (length (part_lows lowered (parts_at old t) 1)) us → IsLowOf old new lowered t us
choice_low old new lowered t x us w g ready hx made =
    let q = (ite_parts old t w ready.there ready.has).1 in
    let f = node_facts old t Ite w ready.there ready.has in
    let parts = choice_parts old lowered t w ready in
    let one = one_condition old (part_lows lowered (parts_at old t) 0) x parts.condition parts.boolean hx in
    let kept : type_at new t ≡ type_at old t = kept_type old new t g ready.there in
    let own : type_at old t ≡ type_at old q.b = f.typed ∙ ap (λ ps. part_type (types_at old ps) 1) q.is in
    let P : ℕ → Type 0 = λ p. IsLow old p (lows lowered p) in
    let low = subst (All P) q.is ready.low in
    let b = All-head P q.b (q.c ∷ []) (All-tail P q.a (q.b ∷ q.c ∷ []) low) in
    let left = part_lows lowered (parts_at old t) 1 in
    let right = part_lows lowered (parts_at old t) 2 in
    let whole : take (length left) left ≡ left = take_all (length left) left (omega arith) in
    let other : take (length left) right ≡ right = take_all (length left) right (omega (arith, same_lengths old left right parts.one_type)) in
    let is_left : left ≡ lows lowered q.b = ap (λ ps. part_lows lowered ps 1) q.is in
    let is_right : right ≡ lows lowered q.c = ap (λ ps. part_lows lowered ps 2) q.is in
    record {
      low = record {
        within = made.within;
        types = made.types ∙ ap (types_at old) (whole ∙ is_left) ∙ b.types ∙ ap low_types (sym own ∙ sym kept);
      };
      means = λ m n h.
          let M : ℕ → Type 0 = λ p. Means m n old p (lows lowered p) in
          let mean = subst (All M) q.is h in
          let ma = All-head M q.a (q.b ∷ q.c ∷ []) mean in
          let rest = All-tail M q.a (q.b ∷ q.c ∷ []) mean in
          let mb = All-head M q.b (q.c ∷ []) rest in
          let mc = All-head M q.c [] (All-tail M q.b (q.c ∷ []) rest) in
          let ty = type_at old q.b in
          let va = value m old q.a in
          let vb = value m old q.b in
          let vc = value m old q.c in
          let own_x : lows lowered q.a ≡ x ∷ [] = sym (ap (λ ps. part_lows lowered ps 0) q.is) ∙ one.is in
          let first : value n old x ∷ [] ≡ va ∷ [] = ap (values_at n old) (sym own_x) ∙ ma ∙ ap (λ s. coded s va) q.type_a ∙ coded-Bool va in
          let same_x : value n old x ≡ va = cc in
          let flag = truth_of va in
          let right_value : value m old t ≡ cond flag vb vc = f.value m ∙ ap (λ ps. apply m Ite (types_at old ps) (values_at m old ps)) q.is in
          made.values n ∙ ap (λ k. cond (truth_of k) (values_at n old (take (length left) left)) (values_at n old (take (length left) right))) same_x
          ∙ ap (λ k. cond flag (values_at n old k) (values_at n old (take (length left) right))) (whole ∙ is_left) ∙ ap (λ k. cond flag (values_at n old (lows lowered q.b)) (values_at n old k)) (other ∙ is_right)
          ∙ ap (λ k. cond flag k (values_at n old (lows lowered q.c))) mb ∙ ap (cond flag (coded ty vb)) (mc ∙ ap (λ s. coded s vc) (q.type_c ∙ sym q.type_b))
          ∙ cond_coded ty flag vb vc ∙ ap (coded ty) (sym right_value ∙ sym (kept_value m old new t g ready.there)) ∙ ap (λ s. coded s (value m new t)) (sym own ∙ sym kept);
      stays = λ symbols h.
          let Q : ℕ → Type 0 = λ p. All (IsLowered symbols old) (lows lowered p) in
          let all = subst (All Q) q.is h in
          let la = All-head Q q.a (q.b ∷ q.c ∷ []) all in
          let rest = All-tail Q q.a (q.b ∷ q.c ∷ []) all in
          let lb = All-head Q q.b (q.c ∷ []) rest in
          let lc = All-head Q q.c [] (All-tail Q q.b (q.c ∷ []) rest) in
          let own_x : lows lowered q.a ≡ x ∷ [] = sym (ap (λ ps. part_lows lowered ps 0) q.is) ∙ one.is in
          let lx : IsLowered symbols old x = All-head (IsLowered symbols old) x [] (subst (All (IsLowered symbols old)) own_x la) in
          made.lowered symbols (All-cons (IsLowered symbols old) x (left ++ right) lx
          (All-append (IsLowered symbols old) left right (subst (All (IsLowered symbols old)) (sym is_left) lb) (subst (All (IsLowered symbols old)) (sym is_right) lc)));
    }

-- what stands for a field of a record, among what stands for the record
take_front : {A : Type 0} (xs ys : List A) (n : ℕ) → n ≡ length xs → take n (xs ++ ys) ≡ xs
take_front [] ys n e = ap (λ k. take k ys) e
take_front (x ∷ xs) ys zero e = absurd (omega (arith, e))
take_front (x ∷ xs) ys (suc n) e = ap (λ zs. x ∷ zs) (take_front xs ys n (omega (arith, e)))

drop_more : {A : Type 0} (xs ys : List A) (m n : ℕ) → m ≡ length xs → drop (m + n) (xs ++ ys) ≡ drop n ys
drop_more [] ys m n e = ap (λ k. drop k ys) (omega (arith, e))
drop_more (x ∷ xs) ys zero n e = absurd (omega (arith, e))
drop_more (x ∷ xs) ys (suc m) n e = ap (λ k. drop k (x ∷ xs ++ ys)) (let h : suc m + n ≡ suc (m + n) = omega arith in h) ∙ drop_more xs ys m n (omega (arith, e))

low_count : (ty : Ty) → length (leaves ty) ≡ length (low_types ty)
low_count ty = sym (length-map (leaves ty) _)

abbrev field_terms : {A : Type 0} → List Ty → ℕ → List A → List A
field_terms tys k xs = take (length (leaves (part_type tys k))) (drop (length (all_leaves (take k tys))) xs)

field_types_at : (tys : List Ty) (k : ℕ) → k < length tys → field_terms tys k (all_low tys) ≡ low_types (part_type tys k)
field_types_at [] k l = absurd (omega arith)
field_types_at (ty ∷ tys) zero l = take_front (low_types ty) (all_low tys) (length (leaves ty)) (low_count ty)
field_types_at (ty ∷ tys) (suc k) l =
    ap (take (length (leaves (part_type tys k)))) (ap (λ i. drop i (low_types ty ++ all_low tys)) (length-append (leaves ty) (all_leaves (take k tys))) ∙ drop_more (low_types ty) (all_low tys) (length (leaves ty)) (length (all_leaves (take k tys))) (low_count ty))
    ∙ field_types_at tys k (omega arith)

pub code_count : (ty : Ty) (tys : List Ty) (v : Value) → AllFinite (ty ∷ []) → IsTrue (fits ty v) → length (leaves ty) ≡ length (coded ty v)
code_count ty tys v a f =
    let e : length (leaves ty ++ []) ≡ length (coded ty v ++ []) = zip_length IsCode (leaves ty ++ []) (coded ty v ++ []) (are_codes (ty ∷ []) (v ∷ []) a (f, tt)) in
    ap length (sym (append-nil (leaves ty))) ∙ e ∙ ap length (append-nil (coded ty v))

-- the first of finite types is finite, and so are the others
pub record HeadFinite (ty : Ty) (tys : List Ty) : Type 0 where
  pub first : AllFinite (ty ∷ [])
  pub others : AllFinite tys

abbrev SplitFinite : List Ty → Type 0
SplitFinite [] = Unit {0}
SplitFinite (ty ∷ tys) = HeadFinite ty tys

split_finite : (tys : List Ty) → AllFinite tys → SplitFinite tys
split_finite tys none = tt
split_finite tys (boolean rest r) = record { first = boolean [] none; others = r }
split_finite tys (word width rest r) = record { first = word width [] none; others = r }
split_finite tys (label n k rest r) = record { first = label n k [] none; others = r }
split_finite tys (fields fs rest f r) = record { first = fields fs [] f none; others = r }

field_codes_at : (tys : List Ty) (vs : List Value) (k : ℕ) → AllFinite tys → Fit tys vs → k < length tys → field_terms tys k (all_coded tys vs) ≡ coded (part_type tys k) (part vs k)
field_codes_at [] vs k a f l = absurd (omega arith)
field_codes_at (ty ∷ tys) [] k a f l = absurd f
field_codes_at (ty ∷ tys) (v ∷ vs) zero a f l = take_front (coded ty v) (all_coded tys vs) (length (leaves ty)) (code_count ty tys v (split_finite (ty ∷ tys) a).first f.0)
field_codes_at (ty ∷ tys) (v ∷ vs) (suc k) a f l =
    let s = split_finite (ty ∷ tys) a in
    ap (take (length (leaves (part_type tys k)))) (ap (λ i. drop i (coded ty v ++ all_coded tys vs)) (length-append (leaves ty) (all_leaves (take k tys))) ∙ drop_more (coded ty v) (all_coded tys vs) (length (leaves ty)) (length (all_leaves (take k tys))) (code_count ty tys v s.first f.0))
    ∙ field_codes_at tys vs k s.others f.1 (omega arith)

abbrev FieldsOf : List Ty → Type 0
FieldsOf [] = Unit {0}
FieldsOf (ty ∷ tys) = (fs : List (Field Ty)) → ty ≡ Rec fs → AllFinite (field_types fs)

finite_fields : (tys : List Ty) → AllFinite tys → FieldsOf tys
finite_fields tys none = tt
finite_fields tys (boolean rest r) = λ fs e. cc
finite_fields tys (word width rest r) = λ fs e. cc
finite_fields tys (label n k rest r) = λ fs e. cc
finite_fields tys (fields gs rest f r) = λ fs e. let same : gs ≡ fs = sym (fields-Rec gs) ∙ ap fields_of e ∙ fields-Rec fs in subst (λ hs. AllFinite (field_types hs)) same f

All-drop : {A : Type 0} (P : A → Type 0) (n : ℕ) (xs : List A) → All P xs → All P (drop n xs)
All-drop P zero xs h = h
All-drop P (suc n) [] h = h
All-drop P (suc n) (x ∷ xs) h = All-drop P n xs (All-tail P x xs h)

field_map : {A B : Type 0} (f : A → B) (tys : List Ty) (k : ℕ) (xs : List A) → map f (field_terms tys k xs) ≡ field_terms tys k (map f xs)
field_map f tys k xs =
    sym (take-map f (length (leaves (part_type tys k))) (drop (length (all_leaves (take k tys))) xs)) ∙ ap (take (length (leaves (part_type tys k)))) (sym (drop-map f (length (all_leaves (take k tys))) xs))

-- the part of a selection is a record with the field
pub record Selects (nodes : List Node) (t k : ℕ) : Type 0 where
  pub a : ℕ
  pub fs : List (Field Ty)
  pub is : parts_at nodes t ≡ a ∷ []
  pub type_a : type_at nodes a ≡ Rec fs
  pub within : k < length fs

pub selects : (nodes : List Node) (t k : ℕ) → WellTyped nodes → t < length nodes → HasOp nodes t (GetField k) → Selects nodes t k
selects nodes t k w l h =
    let f = node_facts nodes t (GetField k) w l h in
    let r = one_part nodes (parts_at nodes t) (Rec f.suits.0) f.suits.1 in
    record { a = r.a; fs = f.suits.0; is = r.is; type_a = r.type_a; within = f.suits.2 }

pub field_low : (nodes : List Node) (lowered : List (List ℕ)) (t k a : ℕ) (us : List ℕ) → WellTyped nodes → IsReady nodes lowered t (GetField k) → a ≡ get_or (parts_at nodes t) 0 a
    → us ≡ take (length (leaves (part_type (field_types (fields_of (type_at nodes a))) k))) (drop (length (all_leaves (take k (field_types (fields_of (type_at nodes a)))))) (lows lowered a)) → IsLowOf nodes nodes lowered t us
field_low nodes lowered t k a us w ready ha hu =
    let s = selects nodes t k w ready.there ready.has in
    let f = node_facts nodes t (GetField k) w ready.there ready.has in
    let here : a ≡ s.a = ha ∙ ap (λ ps. get_or ps 0 a) s.is in
    let own : fields_of (type_at nodes a) ≡ s.fs = ap (λ x. fields_of (type_at nodes x)) here ∙ ap fields_of s.type_a ∙ fields-Rec s.fs in
    let tys = field_types s.fs in
    let is : us ≡ field_terms tys k (lows lowered s.a) = hu ∙ ap (λ gs. field_terms (field_types gs) k (lows lowered a)) own ∙ ap (λ x. field_terms tys k (lows lowered x)) here in
    let inside : k < length tys = omega (arith, s.within, length-map s.fs (λ (x : Field Ty). x.ty)) in
    let P : ℕ → Type 0 = λ p. IsLow nodes p (lows lowered p) in
    let low = All-head P s.a [] (subst (All P) s.is ready.low) in
    let B : ℕ → Type 0 = λ p. HasBits (type_at nodes p) in
    let bits : HasBits (Rec s.fs) = subst HasBits s.type_a (All-head B s.a [] (subst (All B) s.is ready.bits)) in
    let finite : AllFinite tys = finite_fields (Rec s.fs ∷ []) (one_finite (Rec s.fs) bits) s.fs refl in
    let typed : type_at nodes t ≡ part_type tys k = f.typed ∙ ap (λ ps. part_type (field_types (fields_of (part_type (types_at nodes ps) 0))) k) s.is ∙ ap (λ ty. part_type (field_types (fields_of ty)) k) s.type_a ∙ ap (λ gs. part_type (field_types gs) k) (fields-Rec s.fs) in
    subst (IsLowOf nodes nodes lowered t) (sym is) (record {
      low = record {
        within = All-take (λ x. x < length nodes) (length (leaves (part_type tys k))) (drop (length (all_leaves (take k tys))) (lows lowered s.a)) (All-drop (λ x. x < length nodes) (length (all_leaves (take k tys))) (lows lowered s.a) low.within);
        types = field_map (type_at nodes) tys k (lows lowered s.a) ∙ ap (field_terms tys k) (low.types ∙ ap low_types s.type_a ∙ low-Rec s.fs) ∙ field_types_at tys k inside ∙ ap low_types (sym typed);
      };
      means = λ m n h.
          let M : ℕ → Type 0 = λ p. Means m n nodes p (lows lowered p) in
          let mean = All-head M s.a [] (subst (All M) s.is h) in
          let va = value m nodes s.a in
          let fit : IsTrue (fits (Rec s.fs) va) = subst (λ ty. IsTrue (fits ty va)) s.type_a (subst (λ ps. Fit (types_at nodes ps) (values_at m nodes ps)) s.is (f.fit m)).0 in
          let r = IsRecord-fits s.fs va fit in
          let parts : parts_of va ≡ r.parts = ap parts_of r.is ∙ parts-Rec r.parts in
          let fits_parts : Fit tys (parts_of va) = subst (Fit tys) (sym parts) r.fit in
          let whole : value m nodes t ≡ part (parts_of va) k = f.value m ∙ ap (λ ps. field_of (part (values_at m nodes ps) 0) k) s.is in
          field_map (value n nodes) tys k (lows lowered s.a) ∙ ap (field_terms tys k) (mean ∙ ap (λ ty. coded ty va) s.type_a ∙ coded-Rec s.fs va) ∙ field_codes_at tys (parts_of va) k finite fits_parts inside
          ∙ ap (coded (part_type tys k)) (sym whole) ∙ ap (λ ty. coded ty (value m nodes t)) (sym typed);
      stays = λ symbols h.
          let Q : ℕ → Type 0 = λ p. All (IsLowered symbols nodes) (lows lowered p) in
          let all = All-head Q s.a [] (subst (All Q) s.is h) in
          All-take (IsLowered symbols nodes) (length (leaves (part_type tys k))) (drop (length (all_leaves (take k tys))) (lows lowered s.a)) (All-drop (IsLowered symbols nodes) (length (all_leaves (take k tys))) (lows lowered s.a) all);
    })

-- a constant without labels stands for itself
pub constant_kept : (nodes : List Node) (lowered : List (List ℕ)) (t : ℕ) (ty : Ty) (v : Value) → WellTyped nodes → IsReady nodes lowered t (Const ty v) → IsLowType ty → IsLowOf nodes nodes lowered t (t ∷ [])
constant_kept nodes lowered t ty v w ready y =
    let f = node_facts nodes t (Const ty v) w ready.there ready.has in
    let own : IsLowType (type_at nodes t) = subst IsLowType (sym f.typed) y in
    let leaf : parts_at nodes t ≡ [] = no_types nodes (parts_at nodes t) f.suits.0 in
    record {
      low = one_low nodes t t ready.there own refl;
      means = λ m n h. one_means m n nodes t t own (f.value n ∙ sym (f.value m));
      stays = λ symbols h. one_lowered symbols nodes t (λ k s. elim (split_subterm nodes t k s) [
        | inl x ↦ subst (IsLowNode symbols nodes) (sym x) (record {
          typed = own;
          no_function = λ number s has. let e = one_op nodes t (Const ty v) (App number s) ready.has has in cc;
          listed = λ number s has. let e = one_op nodes t (Const ty v) (Symbol number s) ready.has has in cc;
        })
        | inr x ↦ let c = subst (λ ps. Contains ps x.part) leaf x.listed in absurd (omega (arith, c.1))
      ]);
    }

pub label_suits : (n k w l : ℕ) (v : Value) → w ≡ label_bits k → w ≤ 32 → l ≡ label_of v → IsTrue (fits (Enum n k) v) → Suits (Const (Bv w) (Bits w l)) []
label_suits n k w l v e h g f =
    let r = IsLabel-fits n k v f in
    let least = label_bits-least k in
    let small : l < k = omega (arith, g, ap label_of r.is, r.small) in
    let enough : k ≤ 2 ^ w = subst (λ x. k ≤ 2 ^ x) (sym e) least.enough in
    (refl, Bv-valid w (omega (arith, e, least.some)) (omega (arith, h)), refl, fits-IsBits w l (omega (arith, small, enough)))

-- the bits of a label
pub constant_label : (old new : List Node) (lowered : List (List ℕ)) (t r n k w l : ℕ) (v : Value) → WellTyped old → IsReady old lowered t (Const (Enum n k) v) → w ≡ label_bits k → l ≡ label_of v
    → IsMade old new r (Const (Bv w) (Bits w l)) [] → IsLowOf old new lowered t (r ∷ [])
constant_label old new lowered t r n k w l v wt ready e g made =
    let f = node_facts old t (Const (Enum n k) v) wt ready.there ready.has in
    let kept : type_at new t ≡ Enum n k = kept_type old new t made.grown ready.there ∙ f.typed in
    record {
      low = record {
        within = All-cons (λ x. x < length new) r [] made.there (All-nil (λ x. x < length new));
        types = ap (λ ty. ty ∷ []) (made.ty ∙ ap Bv e) ∙ sym (low-Enum n k) ∙ ap low_types (sym kept);
      };
      means = λ m p h.
          let same : value m new t ≡ v = kept_value m old new t made.grown ready.there ∙ f.value m in
          ap (λ x. x ∷ []) (made.value p ∙ ap (λ x. Bits x l) e ∙ ap (Bits (label_bits k)) (g ∙ ap label_of (sym same))) ∙ sym (coded-Enum n k (value m new t)) ∙ ap (λ ty. coded ty (value m new t)) (sym kept);
      stays = λ symbols h. one_lowered symbols new r (made_lowered symbols old new r (Const (Bv w) (Bits w l)) [] wt made tt (subst IsLowType (sym made.ty) (bits w)) (All-nil (λ p. p < length old)) (All-nil (IsLowered symbols old)));
    }

pub choice_made : (old new : List Node) (lowered : List (List ℕ)) (t x : ℕ) (left right us : List ℕ) → WellTyped old → Grows old new → IsReady old lowered t Ite → x ≡ get_or (part_lows lowered (parts_at old t) 0) 0 x
    → left ≡ part_lows lowered (parts_at old t) 1 → right ≡ part_lows lowered (parts_at old t) 2 → AreChosen old new x left right (length left) us → IsLowOf old new lowered t us
choice_made old new lowered t x left right us w g ready h l r made =
    choice_low old new lowered t x us w g ready h (subst (λ ys. AreChosen old new x (part_lows lowered (parts_at old t) 1) ys (length (part_lows lowered (parts_at old t) 1)) us) r (subst (λ xs. AreChosen old new x xs right (length xs) us) l made))

-- what selecting a field needs
pub record FieldReady (nodes : List Node) (a k : ℕ) : Type 0 where
  pub there : a < length nodes
  pub within : k < length (fields_of (type_at nodes a))

pub field_some : (nodes : List Node) (lowered : List (List ℕ)) (t k : ℕ) (parts : List ℕ) → WellTyped nodes → IsReady nodes lowered t (GetField k) → parts ≡ parts_at nodes t → 0 < length parts
field_some nodes lowered t k parts w ready h = omega (arith, ap length (h ∙ (selects nodes t k w ready.there ready.has).is))

pub field_ready : (nodes : List Node) (lowered : List (List ℕ)) (t k : ℕ) (parts : List ℕ) (a : ℕ) → WellTyped nodes → IsReady nodes lowered t (GetField k) → parts ≡ parts_at nodes t → a ≡ get_or parts 0 a → FieldReady nodes a k
field_ready nodes lowered t k parts a w ready h e =
    let s = selects nodes t k w ready.there ready.has in
    let f = node_facts nodes t (GetField k) w ready.there ready.has in
    let here : a ≡ s.a = e ∙ ap (λ ps. get_or ps 0 a) (h ∙ s.is) in
    record {
      there = subst (λ x. x < length nodes) (sym here) (All-head (λ x. x < length nodes) s.a [] (subst (Within nodes) s.is f.within));
      within = subst (λ gs. k < length gs) (sym (ap (λ x. fields_of (type_at nodes x)) here ∙ ap fields_of s.type_a ∙ fields-Rec s.fs)) s.within;
    }

pub field_made : (nodes : List Node) (lowered : List (List ℕ)) (t k a : ℕ) (ty : Ty) (low parts found us : List ℕ) → WellTyped nodes → IsReady nodes lowered t (GetField k) → parts ≡ parts_at nodes t → a ≡ get_or parts 0 a
    → ty ≡ type_at nodes a → low ≡ lows lowered a → found ≡ take (length (leaves (part_type (field_types (fields_of ty)) k))) (drop (length (all_leaves (take k (field_types (fields_of ty))))) low) → us ≡ found → IsLowOf nodes nodes lowered t us
field_made nodes lowered t k a ty low parts found us w ready h e y l f g =
    field_low nodes lowered t k a us w ready (e ∙ ap (λ ps. get_or ps 0 a) h)
    (g ∙ f ∙ ap (λ s. take (length (leaves (part_type (field_types (fields_of s)) k))) (drop (length (all_leaves (take k (field_types (fields_of s))))) low)) y
    ∙ ap (λ x. take (length (leaves (part_type (field_types (fields_of (type_at nodes a))) k))) (drop (length (all_leaves (take k (field_types (fields_of (type_at nodes a)))))) x)) l)

pub label_ready : (nodes : List Node) (lowered : List (List ℕ)) (t n k w l : ℕ) (v : Value) → WellTyped nodes → IsReady nodes lowered t (Const (Enum n k) v) → w ≡ label_bits k → w ≤ 32 → l ≡ label_of v → Suits (Const (Bv w) (Bits w l)) []
label_ready nodes lowered t n k w l v wt ready e h g = label_suits n k w l v e h g (node_facts nodes t (Const (Enum n k) v) wt ready.there ready.has).suits.3

constant_cases : (ty : Ty) → IsTrue (is_constant ty) → HasBits ty → IsBitsType ty
constant_cases Bool h b = tt
constant_cases (Bv width) h b = tt
constant_cases (Enum n k) h b = tt
constant_cases Int h b = let e = sym bits-Int ∙ b.1 in cc
constant_cases other h b = absurd (false≢true h)

pub constant_bits : (nodes : List Node) (lowered : List (List ℕ)) (t : ℕ) (ty : Ty) (v : Value) → WellTyped nodes → IsReady nodes lowered t (Const ty v) → IsBitsType ty
constant_bits nodes lowered t ty v w ready =
    let f = node_facts nodes t (Const ty v) w ready.there ready.has in
    constant_cases ty f.suits.2 (subst HasBits f.typed ready.own_bits)
