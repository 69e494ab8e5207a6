-- The tests of equality decide it.
use Rattle.std.specs.Prelude.{ℕ, Bool, true, false, ◌&&◌, nat_eq, ◌≡◌, ◌≢◌, List, [], ◌∷◌, map, length, Option, Some, None}
use Rattle.std.specs.Bool.{Decides, one_answer}
use Rattle.std.specs.Cmp.{IsEquivalence}
use Rattle.std.specs.Cmp.Lexicographic.{pointwise, bytes_decides}
use Rattle.std.proofs.Common.{rules, refl, sym, ap, ◌∙◌, subst, arith}
use Rattle.std.proofs.lemmas.Bool.{eqb-true, eq-eqb}
use Rattle.std.proofs.lemmas.Bool.Decides.{Decides-int_eq}
use Rattle.std.proofs.Math.Bool.{and-false}
use Rattle.uc_values.proofs.Shapes.{and_true}
use Rattle.uc_values.specs.declared.ty.Field.{Field}
use Rattle.uc_values.specs.declared.ty.Ty.{Ty}
use Rattle.uc_values.specs.declared.ty.Ty.TheFolds.{fold-roll-Ty, ind-Ty, map-Ty}
use Rattle.uc_values.specs.declared.ty.Ty.TheViews.{out-Ty, roll-Ty, the_lemmas}
use Rattle.uc_values.specs.declared.ty.Ty.TheOpen.{Ty-F}
use Rattle.uc_values.specs.declared.ty.Ty.TheOpen.Ty-F.{Bool as boolean_type, Int as integer_type, Bv as bits_type, Rec as record_type, Arr as array_type, Enum as enum_type, Un as open_type}
use Rattle.uc_ops.specs.declared.equality.Code.{Code}
use Rattle.uc_ops.specs.declared.node.Node.{Node}
use Rattle.uc_ops.specs.Equality.{TypeTest, equal_fields, equal_form, equal_types, type_tests, equal_held, equal_codes, equal_nodes, op_code, held_type, key_input, hash_input}

abbrev step : Ty-F TypeTest → TypeTest
step s t = equal_form s (out-Ty t)

rolled : (t : Ty) → roll-Ty (out-Ty t) ≡ t
rolled t = search (rules, the_lemmas)

both : {a b : Bool} → a ≡ true → b ≡ true → (a && b) ≡ true
both {b = b} h g = ap (λ x. x && b) h ∙ g

-- the test of a type by the outermost form of the other
opened : (y : Ty-F Ty) (t : Ty) → equal_types (roll-Ty y) t ≡ equal_form (map-Ty Ty TypeTest equal_types y) (out-Ty t)
opened y t = ap (λ f. f t) (fold-roll-Ty TypeTest step y)

-- the test of a type passes that type alone
record Same (s : Ty) : Type 0 where
  is : (t : Ty) → equal_types s t ≡ true → s ≡ t
  itself : equal_types s s ≡ true

-- the same, with the test by the outermost form
made : (y : Ty-F Ty) → ((x : Ty-F Ty) → equal_form (map-Ty Ty TypeTest equal_types y) x ≡ true → y ≡ x) → equal_form (map-Ty Ty TypeTest equal_types y) y ≡ true → Same (roll-Ty y)
made y h g = record {
  is = λ t e. ap roll-Ty (h (out-Ty t) (sym (opened y t) ∙ e)) ∙ rolled t;
  itself = opened y (roll-Ty y) ∙ ap (equal_form (map-Ty Ty TypeTest equal_types y)) (search (rules, the_lemmas)) ∙ g;
}

abbrev Proved : Type 0
Proved = (ty : Ty) × Same ty

abbrev firsts : Field Proved → Field Ty
firsts f = record { name = f.name; ty = f.ty.0 }

fields_are : (ps : List (Field Proved)) (gs : List (Field Ty)) → equal_fields (type_tests (map firsts ps)) gs ≡ true → map firsts ps ≡ gs
fields_are [] [] h = refl
fields_are [] (g ∷ gs) h = cc
fields_are (p ∷ ps) [] h = cc
fields_are (p ∷ ps) (g ∷ gs) h =
    let a = and_true h in
    let b = and_true a.1 in
    let name = eqb-true p.name g.name a.0 in
    let ty = p.ty.1.is g.ty b.0 in
    let rest = fields_are ps gs b.1 in
    λ i. (record { name = name i; ty = ty i }) ∷ rest i

fields_themselves : (ps : List (Field Proved)) → equal_fields (type_tests (map firsts ps)) (map firsts ps) ≡ true
fields_themselves [] = refl
fields_themselves (p ∷ ps) = both (eq-eqb p.name p.name refl) (both p.ty.1.itself (fields_themselves ps))

bits_are : (w : ℕ) (x : Ty-F Ty) → equal_form (bits_type w) x ≡ true → bits_type w ≡ x
bits_are w (bits_type v) h = ap bits_type (eqb-true w v h)
bits_are w boolean_type h = cc
bits_are w integer_type h = cc
bits_are w (enum_type e k) h = cc
bits_are w (open_type t) h = cc
bits_are w (record_type fs) h = cc
bits_are w (array_type i e) h = cc

booleans_are : (x : Ty-F Ty) → equal_form boolean_type x ≡ true → boolean_type ≡ x
booleans_are boolean_type h = refl
booleans_are (bits_type v) h = cc
booleans_are integer_type h = cc
booleans_are (enum_type e k) h = cc
booleans_are (open_type t) h = cc
booleans_are (record_type fs) h = cc
booleans_are (array_type i e) h = cc

integers_are : (x : Ty-F Ty) → equal_form integer_type x ≡ true → integer_type ≡ x
integers_are integer_type h = refl
integers_are boolean_type h = cc
integers_are (bits_type v) h = cc
integers_are (enum_type e k) h = cc
integers_are (open_type t) h = cc
integers_are (record_type fs) h = cc
integers_are (array_type i e) h = cc

labels_are : (e k : ℕ) (x : Ty-F Ty) → equal_form (enum_type e k) x ≡ true → enum_type e k ≡ x
labels_are e k (enum_type f l) h = let b = and_true h in let p = eqb-true e f b.0 in let q = eqb-true k l b.1 in cc
labels_are e k boolean_type h = cc
labels_are e k integer_type h = cc
labels_are e k (bits_type v) h = cc
labels_are e k (open_type t) h = cc
labels_are e k (record_type fs) h = cc
labels_are e k (array_type i d) h = cc

members_are : (t : ℕ) (x : Ty-F Ty) → equal_form (open_type t) x ≡ true → open_type t ≡ x
members_are t (open_type u) h = ap open_type (eqb-true t u h)
members_are t boolean_type h = cc
members_are t integer_type h = cc
members_are t (bits_type v) h = cc
members_are t (enum_type e k) h = cc
members_are t (record_type fs) h = cc
members_are t (array_type i e) h = cc

records_are : (ps : List (Field Proved)) (x : Ty-F Ty) → equal_form (record_type (type_tests (map firsts ps))) x ≡ true → record_type (map firsts ps) ≡ x
records_are ps (record_type gs) h = ap record_type (fields_are ps gs h)
records_are ps boolean_type h = cc
records_are ps integer_type h = cc
records_are ps (bits_type v) h = cc
records_are ps (enum_type e k) h = cc
records_are ps (open_type t) h = cc
records_are ps (array_type i e) h = cc

arrays_are : (i e : Proved) (x : Ty-F Ty) → equal_form (array_type (equal_types i.0) (equal_types e.0)) x ≡ true → array_type i.0 e.0 ≡ x
arrays_are i e (array_type j f) h = let b = and_true h in let p = i.1.is j b.0 in let q = e.1.is f b.1 in cc
arrays_are i e boolean_type h = cc
arrays_are i e integer_type h = cc
arrays_are i e (bits_type v) h = cc
arrays_are i e (enum_type n k) h = cc
arrays_are i e (open_type t) h = cc
arrays_are i e (record_type fs) h = cc

equal_cases : (y : Ty-F Proved) → Same (roll-Ty (map-Ty Proved Ty (λ e. e.0) y))
equal_cases boolean_type = made boolean_type booleans_are refl
equal_cases integer_type = made integer_type integers_are refl
equal_cases (bits_type w) = made (bits_type w) (bits_are w) (eq-eqb w w refl)
equal_cases (enum_type e k) = made (enum_type e k) (labels_are e k) (both (eq-eqb e e refl) (eq-eqb k k refl))
equal_cases (open_type t) = made (open_type t) (members_are t) (eq-eqb t t refl)
equal_cases (record_type ps) = made (record_type (map firsts ps)) (records_are ps) (fields_themselves ps)
equal_cases (array_type i e) = made (array_type i.0 e.0) (arrays_are i e) (both i.1.itself e.1.itself)

types-same : (s : Ty) → Same s
types-same = ind-Ty Same (λ x y is. subst (λ z. Same (roll-Ty z)) is (equal_cases y))

-- two types are equal exactly where the test says so
pub types-decided : (s t : Ty) → Decides (equal_types s t) (s ≡ t)
types-decided s t = ((types-same s).is t, λ e. subst (λ u. equal_types s u ≡ true) e (types-same s).itself)

held_is : (s t : Option Ty) → equal_held s t ≡ true → s ≡ t
held_is None None h = refl
held_is None (Some t) h = cc
held_is (Some s) None h = cc
held_is (Some s) (Some t) h = ap Some ((types-same s).is t h)

held_itself : (s : Option Ty) → equal_held s s ≡ true
held_itself None = refl
held_itself (Some s) = (types-same s).itself

codes_are : (a b : Code) → equal_codes a b ≡ true → a ≡ b
codes_are a b h =
    let kind = and_true h in
    let first = and_true kind.1 in
    let second = and_true first.1 in
    let p = eqb-true a.kind b.kind kind.0 in
    let q = eqb-true a.first b.first first.0 in
    let r = eqb-true a.second b.second second.0 in
    let s = (Decides-int_eq a.number b.number).0 second.1 in
    λ i. record { kind = p i; first = q i; second = r i; number = s i }

code_itself : (a : Code) → equal_codes a a ≡ true
code_itself a = both (eq-eqb a.kind a.kind refl) (both (eq-eqb a.first a.first refl) (both (eq-eqb a.second a.second refl) ((Decides-int_eq a.number a.number).1 refl)))

-- what tells two nodes apart
abbrev pub Key : Type 0
Key = Code × Option Ty × List ℕ

abbrev pub key : Node → Key
key n = (op_code n.op, held_type n.op, n.parts)

keys_are : (a b : Node) → equal_nodes a b ≡ true → key a ≡ key b
keys_are a b h =
    let code = and_true h in
    let held = and_true code.1 in
    let p = codes_are (op_code a.op) (op_code b.op) code.0 in
    let q = held_is (held_type a.op) (held_type b.op) held.0 in
    let r = (bytes_decides a.parts b.parts).0 held.1 in
    λ i. (p i, q i, r i)

key_itself : (a : Node) → equal_nodes a a ≡ true
key_itself a = both (code_itself (op_code a.op)) (both (held_itself (held_type a.op)) ((bytes_decides a.parts a.parts).1 refl))

abbrev tests_keys : Key → Key → Bool
tests_keys j k = equal_codes j.0 k.0 && (equal_held j.1 k.1 && pointwise nat_eq j.2 k.2)

-- two nodes are equal exactly where they have one key
pub nodes-decided : (a b : Node) → Decides (equal_nodes a b) (key a ≡ key b)
nodes-decided a b = (keys_are a b, λ e. subst (λ k. tests_keys (key a) k ≡ true) e (key_itself a))

-- a test that decides whether two things have one key is an equivalence
equivalence_by : {A K : Type 0} (E : A → A → Bool) (f : A → K) → ((x y : A) → Decides (E x y) (f x ≡ f y)) → IsEquivalence E
equivalence_by E f d = record {
  refl = λ x. (d x x).1 refl;
  symm = λ x y. one_answer (E x y) (E y x) (d x y) (λ h. sym ((d y x).0 h), λ e. (d y x).1 (sym e));
  congr = λ x y z h. one_answer (E x z) (E y z) (d x z) (λ g. (d x y).0 h ∙ (d y z).0 g, λ e. (d y z).1 (sym ((d x y).0 h) ∙ e));
}

pub nodes-equivalence : IsEquivalence equal_nodes
nodes-equivalence = equivalence_by equal_nodes key nodes-decided

-- lists of different lengths are not equal
pub equal_fields-lengths : (fs : List (Field TypeTest)) (gs : List (Field Ty)) → length fs ≢ length gs → equal_fields fs gs ≡ false
equal_fields-lengths [] [] h = absurd (h refl)
equal_fields-lengths [] (g ∷ gs) h = refl
equal_fields-lengths (f ∷ fs) [] h = refl
equal_fields-lengths (f ∷ fs) (g ∷ gs) h =
    let e = equal_fields-lengths fs gs (λ e. h (omega arith)) in
    ap (λ b. nat_eq f.name g.name && (f.ty g.ty && b)) e ∙ ap (λ b. nat_eq f.name g.name && b) (and-false (f.ty g.ty)) ∙ and-false (nat_eq f.name g.name)

-- equal nodes are hashed alike
pub equal-alike : (a b : Node) → equal_nodes a b ≡ true → hash_input a ≡ hash_input b
equal-alike a b h = ap (λ (k : Key). key_input k.0 k.2) (keys_are a b h)
