-- What is written for a value by each form of its type.
use Rattle.std.specs.Prelude.{ℕ, ◌≡◌, List, ◌++◌, codes}
use Rattle.std.specs.List.{join_by, flat_map}
use Rattle.std.specs.Fmt.{signed_decimal}
use Rattle.std.proofs.Common.{append_assoc, sym, ap, ◌∙◌}
use Rattle.uc_values.specs.declared.ty.Field.{Field}
use Rattle.uc_values.specs.declared.ty.Ty.{Ty}
use Rattle.uc_values.specs.declared.ty.Ty.TheVariants.{Bool as Boolean, Int as Integer, Bv as Bits, Rec as Record, Enum as Labels, Un as Open, Arr as Array, rolls-Bool, rolls-Int, rolls-Bv, rolls-Rec, rolls-Enum, rolls-Un, rolls-Arr}
use Rattle.uc_values.specs.declared.ty.Ty.TheFolds.{fold-roll-Ty}
use Rattle.uc_values.specs.declared.ty.Ty.TheOpen.Ty-F.{Bool as boolean_type, Int as integer_type, Bv as bits_type, Rec as record_type, Arr as array_type, Enum as enum_type, Un as open_type}
use Rattle.uc_values.specs.declared.value.Value.{Value}
use Rattle.uc_values.specs.Values.{Exception, truth_of, number_of, bits_of, label_of, member_of, parts_of}
use Rattle.uc_meaning.specs.Lookup.{System}
use Rattle.uc_report.specs.Values.{Printer, row_text, truth_text, bits_text, member_text, text_of, label_at, field_texts, record_text, array_text, rows_of, default_of, printers, value_form, value_text}

pub boolean_is : (d : System) (ty : Ty) (v : Value) → ty ≡ Boolean → value_text d ty v ≡ truth_text (truth_of v)
unfolding value_text
boolean_is d ty v e = ap (λ t. value_text d t v) (e ∙ sym rolls-Bool) ∙ ap (λ f. f v) (fold-roll-Ty Printer (value_form d) boolean_type)

pub integer_is : (d : System) (ty : Ty) (v : Value) → ty ≡ Integer → value_text d ty v ≡ signed_decimal (number_of v)
unfolding value_text
integer_is d ty v e = ap (λ t. value_text d t v) (e ∙ sym rolls-Int) ∙ ap (λ f. f v) (fold-roll-Ty Printer (value_form d) integer_type)

pub bits_is : (d : System) (ty : Ty) (v : Value) (width : ℕ) → ty ≡ Bits width → value_text d ty v ≡ bits_text (bits_of v) width
unfolding value_text
bits_is d ty v width e = ap (λ t. value_text d t v) (e ∙ sym (rolls-Bv width)) ∙ ap (λ f. f v) (fold-roll-Ty Printer (value_form d) (bits_type width))

pub enum_is : (d : System) (ty : Ty) (v : Value) (number count : ℕ) → ty ≡ Labels number count → value_text d ty v ≡ text_of d (label_at d number (label_of v))
unfolding value_text
enum_is d ty v number count e = ap (λ t. value_text d t v) (e ∙ sym (rolls-Enum number count)) ∙ ap (λ f. f v) (fold-roll-Ty Printer (value_form d) (enum_type number count))

pub open_is : (d : System) (ty : Ty) (v : Value) (number : ℕ) → ty ≡ Open number → value_text d ty v ≡ member_text d number (member_of v)
unfolding value_text
open_is d ty v number e = ap (λ t. value_text d t v) (e ∙ sym (rolls-Un number)) ∙ ap (λ f. f v) (fold-roll-Ty Printer (value_form d) (open_type number))

pub record_is : (d : System) (ty : Ty) (v : Value) (fs : List (Field Ty)) → ty ≡ Record fs → value_text d ty v ≡ record_text (field_texts d (printers d fs) (parts_of v))
unfolding value_text
record_is d ty v fs e = ap (λ t. value_text d t v) (e ∙ sym (rolls-Rec fs)) ∙ ap (λ f. f v) (fold-roll-Ty Printer (value_form d) (record_type fs))

pub array_is : (d : System) (ty : Ty) (v : Value) (index element : Ty) → ty ≡ Array index element → value_text d ty v ≡ array_text (value_text d index) (value_text d element) (rows_of v) (default_of v)
unfolding value_text
array_is d ty v index element e = ap (λ t. value_text d t v) (e ∙ sym (rolls-Arr index element)) ∙ ap (λ f. f v) (fold-roll-Ty Printer (value_form d) (array_type index element))

-- the fields of a record with their parts
abbrev pub fields_joined : System → List (Field Ty) → List Value → List ℕ
fields_joined d fs vs = join_by (λ text. text) (codes ", ") (field_texts d (printers d fs) vs)

three_parts : (now a b c : List ℕ) → ((now ++ a) ++ b) ++ c ≡ now ++ ((a ++ b) ++ c)
three_parts now a b c = simp append_assoc

-- a record in its braces
pub record_written : (d : System) (ty : Ty) (v : Value) (fs lent : List (Field Ty)) (parts : List Value) (now one two three : List ℕ) →
    ty ≡ Record fs → lent ≡ fs → parts ≡ parts_of v →
    one ≡ now ++ codes "{" → two ≡ one ++ fields_joined d lent parts → three ≡ two ++ codes "}" → three ≡ now ++ value_text d ty v
record_written d ty v fs lent parts now one two three is same own first second third =
    third ∙ ap (λ x. x ++ codes "}") (second ∙ ap (λ x. x ++ fields_joined d lent parts) first)
    ∙ ap (λ gs. ((now ++ codes "{") ++ fields_joined d gs parts) ++ codes "}") same
    ∙ ap (λ ps. ((now ++ codes "{") ++ fields_joined d fs ps) ++ codes "}") own
    ∙ three_parts now (codes "{") (fields_joined d fs (parts_of v)) (codes "}")
    ∙ ap (λ x. now ++ x) (sym (record_is d ty v fs is))

-- the exceptions of an array of these types
abbrev pub rows_text : System → Ty → Ty → List Exception → List ℕ
rows_text d index element rows = flat_map (row_text (value_text d index) (value_text d element)) rows

five_parts : (now a b c e f : List ℕ) → ((((now ++ a) ++ b) ++ c) ++ e) ++ f ≡ now ++ ((((a ++ b) ++ c) ++ e) ++ f)
five_parts now a b c e f = simp append_assoc

-- an array in its brackets
pub array_written : (d : System) (ty : Ty) (v : Value) (index element held : Ty) (rows : List Exception) (default : Value) (now one two three four five : List ℕ) →
    ty ≡ Array index element → held ≡ element → rows ≡ rows_of v → default ≡ default_of v →
    one ≡ now ++ codes "[" → two ≡ one ++ rows_text d index element rows → three ≡ two ++ codes "else " → four ≡ three ++ value_text d held default → five ≡ four ++ codes "]" →
    five ≡ now ++ value_text d ty v
array_written d ty v index element held rows default now one two three four five is same own other first second third fourth fifth =
    fifth ∙ ap (λ x. x ++ codes "]") (fourth ∙ ap (λ x. x ++ value_text d held default) (third ∙ ap (λ x. x ++ codes "else ") (second ∙ ap (λ x. x ++ rows_text d index element rows) first)))
    ∙ ap (λ t. ((((now ++ codes "[") ++ rows_text d index element rows) ++ codes "else ") ++ value_text d t default) ++ codes "]") same
    ∙ ap (λ rs. ((((now ++ codes "[") ++ rows_text d index element rs) ++ codes "else ") ++ value_text d element default) ++ codes "]") own
    ∙ ap (λ w. ((((now ++ codes "[") ++ rows_text d index element (rows_of v)) ++ codes "else ") ++ value_text d element w) ++ codes "]") other
    ∙ five_parts now (codes "[") (rows_text d index element (rows_of v)) (codes "else ") (value_text d element (default_of v)) (codes "]")
    ∙ ap (λ x. now ++ x) (sym (array_is d ty v index element is))
