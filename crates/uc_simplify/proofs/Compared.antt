-- Equalities of records that are made, field by field.
use Rattle.std.specs.Prelude.{◌≡◌, ◌≢◌, ◌⊎◌, ℕ, ◌+◌, ◌<◌, ◌≤◌, ◌&&◌, List, [], ◌∷◌, ◌++◌, length, slice_index, All, Contains, Result, Ok, Err, IfOk}
use Rattle.std.specs.List.{list_all}
use Rattle.std.proofs.Common.{refl, sym, ap, ◌∙◌, arith, subst, inl, inr, zero, suc, length-append, get_or}
use Rattle.std.proofs.lemmas.Bool.Decides.{leb_tells}
use Rattle.std.proofs.lemmas.List.{length-map, get_or_default}
use Rattle.std.proofs.lemmas.List.Elements.{All-nil, All-cons, All-head, All-tail, All-contains}
use Rattle.std.proofs.Math.ListN.{get_or-append}
use Rattle.std.proofs.Math.Seq.{get_or-append_seam}
use Rattle.uc_values.specs.Values.{truth_of}
use Rattle.uc_values.specs.Types.{field_types}
use Rattle.uc_values.specs.Sameness.{same, same_parts, sames}
use Rattle.uc_values.specs.declared.ty.Field.{Field}
use Rattle.uc_values.specs.declared.ty.Ty.{Ty}
use Rattle.uc_values.specs.declared.ty.Ty.TheVariants.{Bool as Boolean, Rec as Record}
use Rattle.uc_values.specs.declared.value.Value.TheVariants.{Bool as Holds, Rec}
use Rattle.uc_values.proofs.Fitting.{parts-Rec}
use Rattle.uc_values.proofs.Agreement.{same-Rec}
use Rattle.uc_ops.specs.declared.model.Model.{Model}
use Rattle.uc_ops.specs.declared.op.Op.{Op}
use Rattle.uc_ops.specs.declared.op.Op.TheVariants.{And, Eq as Equal}
use Rattle.uc_ops.specs.declared.node.Node.{Node}
use Rattle.uc_ops.specs.Typing.{Suits, type_of, type_at, types_at, fields_of}
use Rattle.uc_ops.specs.Meaning.{apply}
use Rattle.uc_ops.proofs.Typed.{fields-Rec}
use Rattle.uc_ops.proofs.Lists.{same_map}
use Rattle.uc_terms.specs.Tables.{WellTyped}
use Rattle.uc_terms.specs.Values.{value, values_at}
use Rattle.uc_terms.specs.Subterms.{IsSubterm}
use Rattle.uc_simplify_steps.specs.Features.{Feature, Shows, Brings, OneBrings}
use Rattle.uc_simplify_steps.proofs.Features.{brings-below}
use Rattle.uc_simplify_steps.proofs.Steps.{plain-shows}
use Rattle.uc_simplify.specs.Simplified.{Grows, Rebuilds}
use Rattle.uc_simplify.specs.Records.{IsRecord, AreRecords, AllEqual, none, one, Comparing}
use Rattle.uc_simplify.proofs.Standing.{Grows-none, Grows-trans, Grows-length, value-same, type-same, brings-back}

pub types_same : (a b : List Node) (ts : List ℕ) → Grows a b → All (λ t. t < length a) ts → types_at b ts ≡ types_at a ts
types_same a b ts g h = same_map (type_at b) (type_at a) (λ t. t < length a) ts (λ t l. type-same a b t g l) h

pub values_same : (a b : List Node) (m : Model) (ts : List ℕ) → Grows a b → All (λ t. t < length a) ts → values_at m b ts ≡ values_at m a ts
values_same a b m ts g h = same_map (value m b) (value m a) (λ t. t < length a) ts (λ t l. value-same a b m t g l) h

pub one_back : (a b : List Node) (ts : List ℕ) (f : Feature) → WellTyped a → Grows a b → All (λ t. t < length a) ts → OneBrings b ts f → OneBrings a ts f
one_back a b ts f w g h o =
    record { one = o.one; listed = o.listed; brings = brings-back a b o.one f w g (All-contains (λ t. t < length a) ts o.one h o.listed) o.brings }

-- what stands for an operation still does when its table grows
pub Rebuilds-grows : (old a b : List Node) (r : ℕ) (op : Op) (parts : List ℕ) → WellTyped a → Grows a b → Rebuilds a r old op parts → Rebuilds b r old op parts
Rebuilds-grows old a b r op parts w g s = record {
  there = omega (arith, s.there, Grows-length a b g);
  same = λ m. value-same a b m r g s.there ∙ s.same m;
  ty = type-same a b r g s.there ∙ s.ty;
  features = λ f x. s.features f (brings-back a b r f w g s.there x);
}

-- and what stands for an operation on terms of a table that has grown stands for it on those of the table before
pub Rebuilds-earlier : (a b new : List Node) (r : ℕ) (op : Op) (parts : List ℕ) → WellTyped a → Grows a b → All (λ p. p < length a) parts → Rebuilds new r b op parts → Rebuilds new r a op parts
Rebuilds-earlier a b new r op parts w g h s =
    let types = types_same a b parts g h in
    record {
      there = s.there;
      same = λ m. s.same m ∙ ap (λ ts. apply m op ts (values_at m b parts)) types ∙ ap (apply m op (types_at a parts)) (values_same a b m parts g h);
      ty = s.ty ∙ ap (type_of op) types;
      features = λ f x. elim (s.features f x) [
        | inl i ↦ inl (subst (λ ts. Shows op ts (type_of op ts) f) types i)
        | inr o ↦ inr (one_back a b parts f w g h o)
      ];
    }

-- the same, for the answer of a call
pub call_earlier : {E : Type 0} (a b new : List Node) (op : Op) (parts : List ℕ) (o : Result ℕ E) → WellTyped a → Grows a b → All (λ p. p < length a) parts → IfOk o (λ r. Rebuilds new r b op parts) → IfOk o (λ r. Rebuilds new r a op parts)
call_earlier a b new op parts (Err e) w g h s = tt
call_earlier a b new op parts (Ok r) w g h s = Rebuilds-earlier a b new r op parts w g h s

pub pair_there : (nodes : List Node) (a b : ℕ) → a < length nodes → b < length nodes → All (λ p. p < length nodes) (a ∷ b ∷ [])
pair_there nodes a b h g = All-cons (λ p. p < length nodes) a (b ∷ []) h (All-cons (λ p. p < length nodes) b [] g (All-nil (λ p. p < length nodes)))

pub Comparing-start : (nodes : List Node) (left right : List ℕ) → WellTyped nodes → Comparing nodes nodes [] left right 0
Comparing-start nodes left right w = record { grown = Grows-none nodes; well = w; size = refl; each = λ k l. absurd (omega (arith, l)) }

-- one equality more
pub Comparing-push : (old now new : List Node) (equal after left right : List ℕ) (place r : ℕ) → WellTyped old → WellTyped new → Grows now new → slice_index left place < length old → slice_index right place < length old
    → Rebuilds new r now Equal (slice_index left place ∷ slice_index right place ∷ []) → after ≡ equal ++ r ∷ [] → Comparing old now equal left right place → Comparing old new after left right (place + 1)
Comparing-push old now new equal after left right place r w v g h i s e c = record {
  grown = Grows-trans old now new c.grown g;
  well = v;
  size = omega (arith, ap length e, length-append equal (r ∷ []), c.size);
  each = λ k l. elim (leb_tells (suc k) place) [
    | inl x ↦
        let same : slice_index after k ≡ slice_index equal k = ap (λ xs. slice_index xs k) e ∙ get_or-append equal (r ∷ []) 0 k (omega (arith, x.1, c.size)) in
        subst (λ q. Rebuilds new q old Equal (slice_index left k ∷ slice_index right k ∷ [])) (sym same)
        (Rebuilds-grows old now new (slice_index equal k) Equal (slice_index left k ∷ slice_index right k ∷ []) c.well g (c.each k x.1))
    | inr x ↦
        let here : k ≡ place = omega (arith, l, x.1) in
        let same : slice_index after k ≡ r = ap (λ xs. slice_index xs k) e ∙ ap (slice_index (equal ++ r ∷ [])) (here ∙ sym c.size) ∙ get_or-append_seam equal r [] 0 in
        subst (λ q. Rebuilds new q old Equal (slice_index left k ∷ slice_index right k ∷ [])) (sym same)
        (subst (λ j. Rebuilds new r old Equal (slice_index left j ∷ slice_index right j ∷ [])) (sym here)
        (Rebuilds-earlier old now new r Equal (slice_index left place ∷ slice_index right place ∷ []) w c.grown (pair_there old (slice_index left place) (slice_index right place) h i) s))
  ];
}

all_equal : (new old : List Node) (rs left right : List ℕ) → length rs ≡ length left → length right ≡ length left → ((k : ℕ) → k < length left → Rebuilds new (slice_index rs k) old Equal (slice_index left k ∷ slice_index right k ∷ [])) → AllEqual new old rs left right
all_equal new old [] [] [] h g e = none
all_equal new old (r ∷ rs) (a ∷ left) (b ∷ right) h g e = one r a b rs left right (e 0 (omega arith)) (all_equal new old rs left right (omega (arith, h)) (omega (arith, g)) (λ k l. e (suc k) (omega (arith, l))))
all_equal new old [] (a ∷ left) right h g e = absurd (omega (arith, h))
all_equal new old (r ∷ rs) [] right h g e = absurd (omega (arith, h))
all_equal new old [] [] (b ∷ right) h g e = absurd (omega (arith, g))
all_equal new old (r ∷ rs) (a ∷ left) [] h g e = absurd (omega (arith, g))

pub alike_length : (nodes : List Node) (left right : List ℕ) → types_at nodes left ≡ types_at nodes right → length right ≡ length left
alike_length nodes left right e = sym (length-map right (type_at nodes)) ∙ sym (ap length e) ∙ length-map left (type_at nodes)

pub Comparing-end : (old now : List Node) (equal left right : List ℕ) (place : ℕ) → place ≤ length left → length left ≤ place → types_at old left ≡ types_at old right → Comparing old now equal left right place → AllEqual now old equal left right
Comparing-end old now equal left right place h g e c =
    all_equal now old equal left right (omega (arith, c.size, h, g)) (alike_length old left right e) (λ k l. c.each k (omega (arith, l, g)))

-- terms that stand at one place of two lists whose types are alike have one type
pub type_beside : (nodes : List Node) (left right : List ℕ) (k : ℕ) → k < length left → types_at nodes left ≡ types_at nodes right → type_at nodes (slice_index left k) ≡ type_at nodes (slice_index right k)
type_beside nodes [] right k h e = absurd (omega (arith, h))
type_beside nodes (a ∷ left) [] k h e = absurd (omega (arith, alike_length nodes (a ∷ left) [] e))
type_beside nodes (a ∷ left) (b ∷ right) zero h e = let s : type_at nodes a ≡ type_at nodes b = cc in s
type_beside nodes (a ∷ left) (b ∷ right) (suc k) h e = let s : types_at nodes left ≡ types_at nodes right = cc in type_beside nodes left right k (omega (arith, h)) s

pub pair_read : (left right own : List ℕ) (k a b : ℕ) → k < length left → k < length right → a ≡ get_or left k a → b ≡ get_or right k b → own ≡ a ∷ b ∷ [] → own ≡ slice_index left k ∷ slice_index right k ∷ []
pair_read left right own k a b h g e f o = o ∙ (λ i. (e ∙ get_or_default left k a 0 h) i ∷ (f ∙ get_or_default right k b 0 g) i ∷ [])

pub at_there : (nodes : List Node) (ts : List ℕ) (k : ℕ) → k < length ts → All (λ t. t < length nodes) ts → slice_index ts k < length nodes
at_there nodes ts k h a = a k 0 h

-- the equality of terms that stand side by side suits
pub beside_suits : (old now : List Node) (left right : List ℕ) (k : ℕ) → Grows old now → k < length left → All (λ t. t < length old) left → All (λ t. t < length old) right → types_at old left ≡ types_at old right
    → Suits Equal (types_at now (slice_index left k ∷ slice_index right k ∷ []))
beside_suits old now left right k g h a b e =
    let x = slice_index left k in
    let y = slice_index right k in
    let there = at_there old left k h a in
    let beside = at_there old right k (omega (arith, h, alike_length old left right e)) b in
    let same : type_at now y ≡ type_at now x = type-same old now y g beside ∙ sym (type_beside old left right k h e) ∙ sym (type-same old now x g there) in
    (type_at now x, λ i. type_at now x ∷ same i ∷ [])

-- the types of the fields of two records of one type
fields_alike : (nodes : List Node) (a b : ℕ) (left right : List ℕ) → type_at nodes a ≡ type_at nodes b → IsRecord nodes a left → IsRecord nodes b right → types_at nodes left ≡ types_at nodes right
fields_alike nodes a b left right e x y =
    let own : Record x.applied.suits.0 ≡ Record y.applied.suits.0 = sym x.applied.suits.1 ∙ sym x.applied.ty ∙ e ∙ y.applied.ty ∙ y.applied.suits.1 in
    let fields : x.applied.suits.0 ≡ y.applied.suits.0 = sym (fields-Rec x.applied.suits.0) ∙ ap fields_of own ∙ fields-Rec y.applied.suits.0 in
    x.applied.suits.2 ∙ ap field_types fields ∙ sym y.applied.suits.2

two_alike : (s t u : Ty) → s ∷ t ∷ [] ≡ u ∷ u ∷ [] → s ≡ t
two_alike s t u e = cc

-- two records that are compared, by what is known of their parts
pub record Compared (nodes : List Node) (a b : ℕ) (left right : List ℕ) : Type 0 where
  pub one_type : type_at nodes a ≡ type_at nodes b
  pub alike : types_at nodes left ≡ types_at nodes right

pub compared : (nodes : List Node) (op : Op) (parts left right : List ℕ) → (x : AreRecords nodes op parts left right) → Suits op (types_at nodes parts) → Compared nodes x.a x.b left right
compared nodes op parts left right x s =
    let pair = subst (λ ps. Suits Equal (types_at nodes ps)) x.two (subst (λ o. Suits o (types_at nodes parts)) x.equality s) in
    let same = two_alike (type_at nodes x.a) (type_at nodes x.b) pair.0 pair.1 in
    record { one_type = same; alike = fields_alike nodes x.a x.b left right same x.first x.second }

pub equal_there : (new old : List Node) (rs left right : List ℕ) → AllEqual new old rs left right → All (λ r. r < length new) rs
equal_there new old _ _ _ none = All-nil (λ r. r < length new)
equal_there new old _ _ _ (one r a b rs left right s e) = All-cons (λ r. r < length new) r rs s.there (equal_there new old rs left right e)

equal_types : (new old : List Node) (rs left right : List ℕ) → AllEqual new old rs left right → All (λ t. t ≡ Boolean) (types_at new rs)
equal_types new old _ _ _ none = All-nil (λ t. t ≡ Boolean)
equal_types new old _ _ _ (one r a b rs left right s e) = All-cons (λ t. t ≡ Boolean) (type_at new r) (types_at new rs) s.ty (equal_types new old rs left right e)

equal_some : (new old : List Node) (rs left right : List ℕ) → 0 < length left → AllEqual new old rs left right → types_at new rs ≢ []
equal_some new old _ _ _ h none = absurd (omega (arith, h))
equal_some new old _ _ _ h (one r a b rs left right s e) = λ n. absurd (omega (arith, ap length n))

-- the conjunction of the equalities suits
pub equal_suits : (new old : List Node) (rs left right : List ℕ) → 0 < length left → AllEqual new old rs left right → Suits And (types_at new rs)
equal_suits new old rs left right h e = (equal_some new old rs left right h e, equal_types new old rs left right e)

-- each equality holds exactly where the records are the same part by part
parts_equal : (new old : List Node) (m : Model) (fields : List (Field Ty)) (rs left right : List ℕ) → types_at old left ≡ field_types fields → AllEqual new old rs left right
    → list_all truth_of (values_at m new rs) ≡ same_parts (sames fields) (values_at m old left) (values_at m old right)
parts_equal new old m [] _ _ _ h none = refl
parts_equal new old m (f ∷ fields) _ _ _ h none = absurd (omega (arith, ap length h))
parts_equal new old m [] _ _ _ h (one r a b rs left right s e) = absurd (omega (arith, ap length h))
parts_equal new old m (f ∷ fields) _ _ _ h (one r a b rs left right s e) =
    let first : type_at old a ≡ f.ty = cc in
    let later : types_at old left ≡ field_types fields = cc in
    ap (λ v. truth_of v && list_all truth_of (values_at m new rs)) (s.same m)
    ∙ ap (λ ty. same ty (value m old a) (value m old b) && list_all truth_of (values_at m new rs)) first
    ∙ ap (λ x. same f.ty (value m old a) (value m old b) && x) (parts_equal new old m fields rs left right later e)

part_brings : (old : List Node) (a b x y : ℕ) (f : Feature) → IsSubterm old a x → IsSubterm old b y → OneBrings old (x ∷ y ∷ []) f → OneBrings old (a ∷ b ∷ []) f
part_brings old a b x y f s t o = elim (member o.one o.listed) [
  | inl e ↦ record { one = a; listed = (0, omega arith, refl); brings = brings-below old a x f s (subst (λ k. Brings old k f) e o.brings) }
  | inr e ↦ record { one = b; listed = (1, omega arith, refl); brings = brings-below old b y f t (subst (λ k. Brings old k f) e o.brings) }
]
  where
    member : (k : ℕ) → Contains (x ∷ y ∷ []) k → (k ≡ x) ⊎ (k ≡ y)
    member k (zero, h, e) = inl (sym e)
    member k (suc zero, h, e) = inr (sym e)
    member k (suc (suc j), h, e) = absurd (omega (arith, h))

-- what one of the equalities brings is shown by an equality or brought by one of the records
equal_brings : (new old : List Node) (a b : ℕ) (rs left right : List ℕ) (f : Feature) → All (IsSubterm old a) left → All (IsSubterm old b) right → AllEqual new old rs left right → OneBrings new rs f
    → Shows Equal (types_at old (a ∷ b ∷ [])) Boolean f ⊎ OneBrings old (a ∷ b ∷ []) f
equal_brings new old a b _ _ _ f h g none o = absurd (omega (arith, o.listed.1))
equal_brings new old a b _ _ _ f h g (one r x y rs left right s e) o = elim (head o.one o.listed) [
  | inl q ↦ elim (s.features f (subst (λ k. Brings new k f) q o.brings)) [
    | inl i ↦ inl (plain-shows Equal Equal (types_at old (x ∷ y ∷ [])) (types_at old (a ∷ b ∷ [])) Boolean Boolean f tt refl i)
    | inr p ↦ inr (part_brings old a b x y f (All-head (IsSubterm old a) x left h) (All-head (IsSubterm old b) y right g) p)
  ]
  | inr c ↦ equal_brings new old a b rs left right f (All-tail (IsSubterm old a) x left h) (All-tail (IsSubterm old b) y right g) e (record { one = o.one; listed = c; brings = o.brings })
]
  where
    head : (k : ℕ) → Contains (r ∷ rs) k → (k ≡ r) ⊎ Contains rs k
    head k (zero, l, q) = inl (sym q)
    head k (suc j, l, q) = inr (j, omega (arith, l), q)

-- two records are the same where their parts are
records_same : (old : List Node) (m : Model) (a b : ℕ) (left right : List ℕ) (fields : List (Field Ty)) → type_at old a ≡ Record fields → value m old a ≡ Rec (values_at m old left) → value m old b ≡ Rec (values_at m old right)
    → same_parts (sames fields) (values_at m old left) (values_at m old right) ≡ same (type_at old a) (value m old a) (value m old b)
records_same old m a b left right fields t x y =
    sym ((λ i. same (t i) (x i) (y i)) ∙ same-Rec fields (Rec (values_at m old left)) (Rec (values_at m old right)) ∙ (λ i. same_parts (sames fields) (parts-Rec (values_at m old left) i) (parts-Rec (values_at m old right) i)))

-- the conjunction of the equalities of the parts stands for the equality of the records
pub records_rebuild : (old mid new : List Node) (op : Op) (parts left right rs : List ℕ) (r : ℕ) → Suits op (types_at old parts) → AreRecords old op parts left right → AllEqual mid old rs left right → Rebuilds new r mid And rs → Rebuilds new r old op parts
records_rebuild old mid new op parts left right rs r suits x e s =
    let fields = x.first.applied.suits.0 in
    let own : type_at old x.a ≡ Record fields = x.first.applied.ty ∙ x.first.applied.suits.1 in
    subst (λ o. Rebuilds new r old o parts) (sym x.equality)
    (subst (Rebuilds new r old Equal) (sym x.two) (record {
      there = s.there;
      same = λ m. s.same m ∙ ap Holds (parts_equal mid old m fields rs left right x.first.applied.suits.2 e ∙ records_same old m x.a x.b left right fields own (x.first.applied.same m) (x.second.applied.same m));
      ty = s.ty;
      features = λ f h. elim (s.features f h) [
        | inl i ↦ inl (plain-shows And Equal (types_at mid rs) (types_at old (x.a ∷ x.b ∷ [])) Boolean Boolean f tt refl i)
        | inr o ↦ equal_brings mid old x.a x.b rs left right f x.first.applied.below x.second.applied.below e o
      ];
    }))

-- the same, for the answer of a call
pub call_records : {E : Type 0} (old mid new : List Node) (op : Op) (parts left right rs l r own : List ℕ) (o : Result ℕ E) → Suits op (types_at old parts) → AreRecords old op parts left right → l ≡ left → r ≡ right → own ≡ rs
    → AllEqual mid old rs l r → IfOk o (λ t. Rebuilds new t mid And own) → IfOk o (λ t. Rebuilds new t old op parts)
call_records old mid new op parts left right rs l r own (Err x) suits a e f g c s = tt
call_records old mid new op parts left right rs l r own (Ok t) suits a e f g c s =
    records_rebuild old mid new op parts left right rs t suits a (subst (λ xs. AllEqual mid old rs xs right) e (subst (AllEqual mid old rs l) f c)) (subst (Rebuilds new t mid And) g s)
