-- Parts of a record, field by field.
use Rattle.std.proofs.Common.{◌≡◌, ℕ, zero, suc, ◌+◌, ◌<◌, ◌≤◌, Bool, true, false, ◌&&◌, ◌||◌, List, [], ◌∷◌, ◌++◌, map, length, take, get_or, Some, None, refl, ap, ◌∙◌, sym, subst, arith, rules}
use Rattle.std.specs.Prelude.{nat_eq, IsTrue, IfOk, Result, Ok, Err, ◌↔◌, slice_index_or, if◌then◌else◌}
use Rattle.std.specs.List.{list_any, cons_option}
use Rattle.std.proofs.lemmas.List.{take_all, take_more}
use Rattle.std.proofs.lemmas.List.Folds.{list_any-append}
use Rattle.std.proofs.lemmas.Bool.Decides.{nat_tests}
use Rattle.uc_values.specs.declared.ty.Ty.{Ty}
use Rattle.uc_values.specs.declared.ty.Ty.TheOpen.{Ty-F}
use Rattle.uc_values.specs.declared.ty.Ty.TheOpen.Ty-F.{Rec as record_of}
use Rattle.uc_values.specs.declared.ty.Ty.TheVariants.{Bool as boolean_type, Rec as Record, rolls-Rec}
use Rattle.uc_values.specs.declared.ty.Ty.TheViews.{out-Ty, roll-Ty, the_lemmas}
use Rattle.uc_values.specs.declared.ty.Field.{Field}
use Rattle.uc_values.specs.declared.value.Value.{Value}
use Rattle.uc_values.specs.declared.value.Value.TheVariants.{Bool as truth}
use Rattle.uc_values.specs.Values.{parts_of}
use Rattle.uc_values.specs.Sameness.{same}
use Rattle.uc_meaning.specs.Expressions.{fields_of, fields_form, field_number}
use Rattle.uc_syntax.specs.declared.declaration.VariableKind.{VariableKind}
use Rattle.uc_meaning.specs.Steps.{CellPart, is_prefix, is_written, is_input, has_part, same_part, part_reading, Keeps}
use Rattle.uc_layout.specs.Kept.{is_nil, touches, behind, tails, has_field, type_in, part_in, KeepsParts, KeepsField, cell_like, written_in}

-- ---- tests

both : (a b : Bool) → a ≡ true → b ≡ true → a && b ≡ true
both a b p q = ap (λ c. c && b) p ∙ q

first_of : (a b : Bool) → a && b ≡ true → a ≡ true
first_of true b h = refl
first_of false b h = h

second_of : (a b : Bool) → a && b ≡ true → b ≡ true
second_of true b h = h
second_of false b h = cc

no_clash : {P : Type 0} (b : Bool) → b ≡ true → b ≡ false → P
no_clash b held failed = cc

-- ---- written parts

covers : (ws : List (List ℕ)) (fields : List ℕ) → list_any is_nil ws ≡ true → touches ws fields ≡ true
unfolding is_prefix
covers [] fields h = h
covers ([] ∷ ws) fields h = refl
covers ((f ∷ fs) ∷ ws) fields h = by (is_prefix (f ∷ fs) fields || is_prefix fields (f ∷ fs)) (covers ws fields h)
  where
    by : (b : Bool) → touches ws fields ≡ true → b || touches ws fields ≡ true
    by true rest = refl
    by false rest = rest

-- a whole type touches whatever is written in it
all_touched : (w : List ℕ) (ws : List (List ℕ)) → touches (w ∷ ws) [] ≡ true
unfolding is_prefix
all_touched [] ws = refl
all_touched (f ∷ fs) ws = refl

pub none_written : (ws : List (List ℕ)) → touches ws [] ≡ false → ws ≡ []
none_written [] h = refl
none_written (w ∷ ws) h = no_clash (touches (w ∷ ws) []) (all_touched w ws) h

-- a part behind a field touches what is written behind the field
same_names : (f g : ℕ) → nat_eq g f ≡ nat_eq f g
same_names f g = grind (arith, nat_tests)

touch_one : (f g : ℕ) (fs gs : List ℕ) (rest : List (List ℕ)) (more : Bool) → more ≡ touches rest fs →
    (is_prefix (g ∷ gs) (f ∷ fs) || is_prefix (f ∷ fs) (g ∷ gs)) || more ≡ touches (cons_option (behind f (g ∷ gs)) rest) fs
unfolding is_prefix
touch_one f g fs gs rest more is = ap (λ b. ((b && is_prefix gs fs) || (nat_eq f g && is_prefix fs gs)) || more) (same_names f g) ∙ by (nat_eq f g)
  where
    by : (b : Bool) → ((b && is_prefix gs fs) || (b && is_prefix fs gs)) || more ≡ touches (cons_option (if b then Some gs else None) rest) fs
    by true = ap (λ m. (is_prefix gs fs || is_prefix fs gs) || m) is
    by false = is

pub touch_behind : (ws : List (List ℕ)) (f : ℕ) (fs : List ℕ) → list_any is_nil ws ≡ false → touches ws (f ∷ fs) ≡ touches (tails f ws) fs
touch_behind [] f fs h = refl
touch_behind ([] ∷ ws) f fs h = cc
touch_behind ((g ∷ gs) ∷ ws) f fs h = touch_one f g fs gs (tails f ws) (touches ws (f ∷ fs)) (touch_behind ws f fs h)

-- ---- the parts of a type

pub keeps_covered : (t : Ty) (v w : Value) (ws : List (List ℕ)) → list_any is_nil ws ≡ true → KeepsParts t v w ws
keeps_covered t v w ws h = record { kept = λ fields there none. no_clash (touches ws fields) (covers ws fields h) none }

module _ (t : Ty) (v w : Value) (ws : List (List ℕ)) where
  pub keeps_whole : KeepsParts t v w ws → ws ≡ [] → IsTrue (same t v w)
  unfolding has_part part_reading
  keeps_whole keeps none = keeps.kept [] refl (ap (λ xs. touches xs []) none)

  module _ (open_parts : list_any is_nil ws ≡ false) where
    abbrev pub FieldKeeps : ℕ → Type 0
    FieldKeeps f = KeepsField (fields_of t) (parts_of v) (parts_of w) ws f

    pub keeps_field : KeepsParts t v w ws → (f : ℕ) → IsTrue (has_field (fields_of t) f) → FieldKeeps f
    unfolding has_part part_reading
    keeps_field keeps f named = record {
      kept = λ fields there none. keeps.kept (f ∷ fields) (both (has_field (fields_of t) f) _ named there) (touch_behind ws f fields open_parts ∙ none);
    }

    pub keeps_all : (ws ≡ [] → IsTrue (same t v w)) → ((f : ℕ) → IsTrue (has_field (fields_of t) f) → FieldKeeps f) → KeepsParts t v w ws
    unfolding has_part part_reading
    keeps_all whole each = record { kept = by }
      where
        by : (fields : List ℕ) → IsTrue (has_part t fields) → touches ws fields ≡ false → IsTrue (same_part t v w fields)
        by [] there none = whole (none_written ws none)
        by (f ∷ fields) there none = (each f (first_of (has_field (fields_of t) f) _ there)).kept fields (second_of (has_field (fields_of t) f) _ there) (sym (touch_behind ws f fields open_parts) ∙ none)

-- ---- a type that is no record

no_fields_form : (x : Ty-F Ty) → ((fields : List (Field Ty)) → roll-Ty x ≡ Record fields → ⊥) → fields_form x ≡ []
no_fields_form (record_of fields) other = absurd (other fields (rolls-Rec fields))
no_fields_form other' other = refl

pub no_fields : (t : Ty) → ((fields : List (Field Ty)) → t ≡ Record fields → ⊥) → fields_of t ≡ []
no_fields t other = let rolled : roll-Ty (out-Ty t) ≡ t = search (rules, the_lemmas) in no_fields_form (out-Ty t) (λ fields is. other fields (sym rolled ∙ is))

pub record_fields : (t : Ty) (fields : List (Field Ty)) → t ≡ Record fields → fields_of t ≡ fields
record_fields t fields is = ap fields_of is ∙ ap fields_of (sym (rolls-Rec fields)) ∙ search (rules, the_lemmas)

pub no_field : {P : Type 0} (t : Ty) → ((fields : List (Field Ty)) → t ≡ Record fields → ⊥) → (f : ℕ) → IsTrue (has_field (fields_of t) f) → P
no_field t other f there = no_clash (has_field (fields_of t) f) there (let test : List (Field Ty) → Bool = λ fields. has_field fields f in ap test (no_fields t other))

-- what is answered of the fields is what is asked of the type
pub by_fields : {E : Type 0} (t : Ty) (v w : Value) (ws : List (List ℕ)) → list_any is_nil ws ≡ false → (ws ≡ [] → IsTrue (same t v w)) →
    (fields : List (Field Ty)) → fields_of t ≡ fields → (old : List Value) → old ≡ parts_of v → (new : List Value) → new ≡ parts_of w →
    (result : Result Bool E) → IfOk result (λ keeps. IsTrue keeps ↔ ((f : ℕ) → IsTrue (has_field fields f) → KeepsField fields old new ws f)) → IfOk result (λ keeps. IsTrue keeps ↔ KeepsParts t v w ws)
by_fields t v w ws open_parts whole fields are old first new second (Err e) asked = tt
by_fields t v w ws open_parts whole fields are old first new second (Ok keeps) asked =
    let each : IsTrue keeps ↔ ((f : ℕ) → IsTrue (has_field (fields_of t) f) → KeepsField (fields_of t) (parts_of v) (parts_of w) ws f) =
    subst (λ (P : Type 0). P) (λ i. IsTrue keeps ↔ ((f : ℕ) → IsTrue (has_field (sym are i) f) → KeepsField (sym are i) (first i) (second i) ws f)) asked in
    (λ held. keeps_all t v w ws open_parts whole (each.0 held), λ kept. each.1 (keeps_field t v w ws open_parts kept))

-- ---- field by field

module _ (fields : List (Field Ty)) (P : ℕ → Type 0) (k : ℕ) (x : Field Ty) (within : k < length fields) (is : x ≡ get_or fields k x) where
  one_more : (f : ℕ) → has_field (take (k + 1) fields) f ≡ (has_field (take k fields) f || nat_eq x.name f)
  one_more f =
      ap (λ xs. has_field xs f) (take_more fields k x within ∙ ap (λ y. take k fields ++ y ∷ []) (sym is))
      ∙ list_any-append (λ d. nat_eq d.name f) (take k fields) (x ∷ [])
      ∙ ap (λ b. has_field (take k fields) f || b) (either (nat_eq x.name f))
    where
      either : (b : Bool) → b || false ≡ b
      either true = refl
      either false = refl

  pub fields_more : ((f : ℕ) → IsTrue (has_field (take k fields) f) → P f) → P x.name → (f : ℕ) → IsTrue (has_field (take (k + 1) fields) f) → P f
  fields_more before here f there = by (has_field (take k fields) f) (nat_eq x.name f) refl refl (sym (one_more f) ∙ there)
    where
      by : (a b : Bool) → has_field (take k fields) f ≡ a → nat_eq x.name f ≡ b → a || b ≡ true → P f
      by true b first second h = before f first
      by false true first second h = subst P (grind (arith, nat_tests, second)) here
      by false false first second h = cc

among : (fields : List (Field Ty)) (k : ℕ) (x : Field Ty) → k < length fields → has_field fields (get_or fields k x).name ≡ true
among [] k x within = absurd (omega (arith, within))
among (d ∷ fields) zero x within = let same_name : nat_eq d.name d.name ≡ true = grind (arith, nat_tests) in ap (λ b. b || has_field fields d.name) same_name
among (d ∷ fields) (suc k) x within = by (nat_eq d.name (get_or fields k x).name) (among fields k x (omega (arith, within)))
  where
    by : (b : Bool) → has_field fields (get_or fields k x).name ≡ true → b || has_field fields (get_or fields k x).name ≡ true
    by true rest = refl
    by false rest = rest

pub is_field : (fields : List (Field Ty)) (k : ℕ) (x : Field Ty) → k < length fields → x ≡ get_or fields k x → IsTrue (has_field fields x.name)
is_field fields k x within is = let named : Field Ty → Bool = λ y. has_field fields y.name in ap named is ∙ among fields k x within

pub fields_all : (fields : List (Field Ty)) (P : ℕ → Type 0) (k : ℕ) → length fields ≤ k → ((f : ℕ) → IsTrue (has_field (take k fields) f) → P f) → (f : ℕ) → IsTrue (has_field fields f) → P f
fields_all fields P k past before f there = before f (ap (λ xs. has_field xs f) (take_all k fields past) ∙ there)

-- ---- the field of a name

type_at : (fields : List (Field Ty)) (k : ℕ) (x : Field Ty) (t : Ty) → k < length fields → (get_or fields k x).ty ≡ slice_index_or (map (λ d. d.ty) fields) k t
type_at [] k x t within = absurd (omega (arith, within))
type_at (d ∷ fields) zero x t within = refl
type_at (d ∷ fields) (suc k) x t within = type_at fields k x t (omega (arith, within))

module _ (fields : List (Field Ty)) (old new : List Value) (ws : List (List ℕ)) (f place : ℕ) (at_place : place ≡ field_number fields f) (item : Field Ty) (within : place < length fields) (is : item ≡ get_or fields place item)
    (missing : Value) (nothing : missing ≡ truth false) (v w : Value) (first : v ≡ slice_index_or old place missing) (second : w ≡ slice_index_or new place missing) (inside : List (List ℕ)) (left : inside ≡ tails f ws) where
  typed : item.ty ≡ type_in fields f
  typed = let type_of : Field Ty → Ty = λ d. d.ty in ap type_of is ∙ type_at fields place item boolean_type within ∙ ap (λ k. slice_index_or (map (λ d. d.ty) fields) k boolean_type) at_place

  valued : (parts : List Value) (u : Value) → u ≡ slice_index_or parts place missing → u ≡ part_in fields parts f
  valued parts u said = said ∙ (λ i. slice_index_or parts (at_place i) (nothing i))

  same_fact : KeepsParts item.ty v w inside ≡ KeepsField fields old new ws f
  same_fact = λ i. KeepsParts (typed i) (valued old v first i) (valued new w second i) (left i)

  pub to_field : KeepsParts item.ty v w inside → KeepsField fields old new ws f
  to_field keeps = subst (λ (P : Type 0). P) same_fact keeps

  pub from_field : KeepsField fields old new ws f → KeepsParts item.ty v w inside
  from_field keeps = subst (λ (P : Type 0). P) (sym same_fact) keeps

-- ---- a cell

-- what is written of a cell touches what the fields that lead to it touch
pub written_touches : (written : List CellPart) (k : ℕ) (fields : List ℕ) → is_written written k fields ≡ touches (written_in k written) fields
unfolding is_written
written_touches [] k fields = refl
written_touches (p ∷ written) k fields = by (nat_eq p.cell k) (written_touches written k fields)
  where
    related : Bool
    related = is_prefix p.fields fields || is_prefix fields p.fields

    by : (b : Bool) → is_written written k fields ≡ touches (written_in k written) fields → (b && related) || is_written written k fields ≡ touches (cons_option (if b then Some p.fields else None) (written_in k written)) fields
    by true rest = ap (λ m. related || m) rest
    by false rest = rest

module _ (kind : VariableKind) (t : Ty) (k : ℕ) (written : List CellPart) (v w : Value) where
  pub input_keeps : is_input kind ≡ true → Keeps (cell_like kind t) k written v w
  input_keeps is = record { kept = λ fields there other none. no_clash (is_input kind) is other }

  pub to_cell : (ws : List (List ℕ)) → ws ≡ written_in k written → KeepsParts t v w ws → Keeps (cell_like kind t) k written v w
  to_cell ws is keeps = record { kept = λ fields there other none. keeps.kept fields there (ap (λ xs. touches xs fields) is ∙ sym (written_touches written k fields) ∙ none) }

  pub from_cell : is_input kind ≡ false → (ws : List (List ℕ)) → ws ≡ written_in k written → Keeps (cell_like kind t) k written v w → KeepsParts t v w ws
  from_cell other ws is keeps = record { kept = λ fields there none. keeps.kept fields there other (written_touches written k fields ∙ ap (λ xs. touches xs fields) (sym is) ∙ none) }

  pub as_cell : (b : Bool) → is_input kind ≡ false → (ws : List (List ℕ)) → ws ≡ written_in k written → (IsTrue b ↔ KeepsParts t v w ws) → (IsTrue b ↔ Keeps (cell_like kind t) k written v w)
  as_cell b other ws is asked = (λ held. to_cell ws is (asked.0 held), λ keeps. asked.1 (from_cell other ws is keeps))

-- an answer over the parts is one of the cell
pub cell_answer : {E : Type 0} (kind : VariableKind) (t : Ty) (v w : Value) (ws : List (List ℕ)) → is_input kind ≡ false → (result : Result Bool E) → IfOk result (λ b. IsTrue b ↔ KeepsParts t v w ws) →
    IfOk result (λ b. (k : ℕ) (written : List CellPart) → ws ≡ written_in k written → (IsTrue b ↔ Keeps (cell_like kind t) k written v w))
cell_answer kind t v w ws other (Err e) asked = tt
cell_answer kind t v w ws other (Ok b) asked = λ k written is. as_cell kind t k written v w b other ws is asked
