-- What one way through code gives parts of cells.
use Rattle.std.proofs.Common.{◌≡◌, ℕ, List, [], ◌∷◌, ◌++◌, map, refl, sym, ap, ◌∙◌, true, false, Bool, Option, Some, None, append_assoc, append-nil, arith}
use Rattle.std.specs.Prelude.{◌&&◌, ◌||◌, nat_eq, slice_set}
use Rattle.std.specs.Option.{option_map, option_and_then}
use Rattle.std.proofs.lemmas.List.{map-append}
use Rattle.std.proofs.lemmas.Bool.Decides.{nat_tests}
use Rattle.uc_values.specs.declared.ty.Ty.{Ty}
use Rattle.uc_values.specs.declared.value.Value.{Value}
use Rattle.uc_values.specs.Values.{nothing}
use Rattle.uc_values.specs.Sameness.{same}
use Rattle.uc_meaning.specs.Expressions.{Reading, reads}
use Rattle.uc_meaning.specs.Steps.{CellPart, Watched, Kept, kept_if, writes, part_reading, is_prefix}
use Rattle.uc_ops.specs.Typing.{part_type}
use Rattle.uc_ops.specs.Meaning.{part}
use Rattle.uc_flat.specs.Running.{next_of}
use Rattle.uc_flat_design.proofs.Fields.{placed}
use Rattle.uc_flat_code.specs.declared.once.Part.{Part}
use Rattle.uc_flat_code.specs.Once.{overlaps, touched}

pub true_false : true ≡ false → ⊥
true_false h = cc

pub none_some : {A : Type 0} (y : A) → None ≡ Some y → ⊥
none_some y h = cc

pub same_nat : (n : ℕ) → nat_eq n n ≡ true
same_nat n = grind (arith, nat_tests)

pub nat-eq : (a b : ℕ) → nat_eq a b ≡ true → a ≡ b
nat-eq a b h = grind (arith, nat_tests)

-- The number of a cell and the fields down to a part of it, with the value that the part is given, or none where it may have any.
abbrev pub Effect : Type 0
Effect = ℕ × List ℕ × Option Value

abbrev pub part_of : Effect → Part
part_of x = record { cell = x.0; fields = x.1 }

abbrev pub parts_of : List Effect → List Part
parts_of ms = map (λ (x : Effect). part_of x) ms

abbrev pub parts_in : List Effect → List CellPart
parts_in ms = map (λ (x : Effect). record { cell = x.0; fields = x.1 }) ms

abbrev pub reading_at : List Ty → List Value → ℕ → Reading
reading_at types cells k = reads (part_type types k) (part cells k)

-- the part in cells of these values
abbrev pub part_at : List Ty → List Value → Effect → Reading
part_at types cells x = part_reading (reading_at types cells x.0) x.1

abbrev pub type_of_part : List Ty → Effect → Ty
type_of_part types x = (part_reading (reads (part_type types x.0) nothing) x.1).type

abbrev pub agrees : Reading → Option Value → Bool
agrees r None = true
agrees r (Some v) = same r.type r.value v

-- the new cells have the values that are given
abbrev pub all_agree : List Ty → List Value → List Effect → Bool
all_agree types new [] = true
all_agree types new (x ∷ xs) = agrees (part_at types new x) x.2 && all_agree types new xs

-- the value that is given, or the next free one, and the free values that are left
abbrev pub given_value : Ty → Option Value → List Value → Option (Value × List Value)
given_value ty None others = next_of ty others
given_value ty (Some v) others = Some (v, others)

-- the cells with a value in a part
abbrev pub put : List Ty → List Value → Effect → Value → List Value
put types cells x v = slice_set cells x.0 (placed (reading_at types cells x.0) x.1 v)

-- the cells after a part is given its value, and the free values that are left
abbrev pub performs : List Ty → Effect → List Value → List Value → Option (List Value × List Value)
performs types x cells others = option_map (λ (q : Value × List Value). (put types cells x q.0, q.1)) (given_value (type_of_part types x) x.2 others)

abbrev pub performed : List Ty → List Effect → List Value → List Value → Option (List Value × List Value)
performed types [] cells others = Some (cells, others)
performed types (x ∷ xs) cells others = option_and_then (λ (q : List Value × List Value). performed types xs q.0 q.1) (performs types x cells others)

pub agree_append : (types : List Ty) (new : List Value) (xs ys : List Effect) → all_agree types new (xs ++ ys) ≡ (all_agree types new xs && all_agree types new ys)
agree_append types new [] ys = refl
agree_append types new (x ∷ xs) ys =
    ap (λ b. agrees (part_at types new x) x.2 && b) (agree_append types new xs ys) ∙ grouped (agrees (part_at types new x) x.2) (all_agree types new xs) (all_agree types new ys)
  where
    grouped : (a b c : Bool) → (a && (b && c)) ≡ ((a && b) && c)
    grouped true b c = refl
    grouped false b c = refl

pub performed_append : (types : List Ty) (xs ys : List Effect) (cells others : List Value)
    → performed types (xs ++ ys) cells others ≡ option_and_then (λ (q : List Value × List Value). performed types ys q.0 q.1) (performed types xs cells others)
performed_append types [] ys cells others = refl
performed_append types (x ∷ xs) ys cells others = onward (performed_append types xs ys) (performs types x cells others)
  where
    onward : ((zs vs : List Value) → performed types (xs ++ ys) zs vs ≡ option_and_then (λ (q : List Value × List Value). performed types ys q.0 q.1) (performed types xs zs vs)) → (o : Option (List Value × List Value))
        → option_and_then (λ (q : List Value × List Value). performed types (xs ++ ys) q.0 q.1) o
        ≡ option_and_then (λ (q : List Value × List Value). performed types ys q.0 q.1) (option_and_then (λ (q : List Value × List Value). performed types xs q.0 q.1) o)
    onward rest None = refl
    onward rest (Some q) = rest q.0 q.1

-- ---- constraints

pub writes_none : (w : Watched) → writes [] w ≡ w
writes_none w = ap (λ xs. record w { written = xs }) (append-nil w.written)

pub writes_more : (xs ys : List Effect) (w : Watched) → writes (parts_in ys) (writes (parts_in xs) w) ≡ writes (parts_in (xs ++ ys)) w
writes_more xs ys w =
    ap (λ zs. record w { written = zs }) (append_assoc w.written (parts_in xs) (parts_in ys))
    ∙ ap (λ zs. record w { written = w.written ++ zs }) (sym (map-append (λ (x : Effect). let p : CellPart = record { cell = x.0; fields = x.1 } in p) xs ys))

pub kept_true : (b : Bool) (w seen : Watched) → kept_if b w ≡ Kept seen → (b ≡ true) × (w ≡ seen)
kept_true true w seen h = (refl, cc)
kept_true false w seen h = absurd (cc)

-- ---- parts that are written once

abbrev pub IsSub : List Part → List Part → Type 0
IsSub xs ys = (p : Part) → touched xs p ≡ true → touched ys p ≡ true

-- no part overlaps one that is given a value before it, or was written before
abbrev pub Apart : List Part → List Effect → Type 0
Apart before [] = Unit {0}
Apart before (x ∷ xs) = (touched before (part_of x) ≡ false) × Apart (part_of x ∷ before) xs

either_true : (b c d : Bool) → (c ≡ true → d ≡ true) → (b || c) ≡ true → (b || d) ≡ true
either_true true c d f h = refl
either_true false c d f h = f h

right_true : (b c : Bool) → c ≡ true → (b || c) ≡ true
right_true true c e = refl
right_true false c e = e

not_true : (b c : Bool) → (b ≡ true → c ≡ true) → c ≡ false → b ≡ false
not_true true c f h = absurd (true_false (sym (f refl) ∙ h))
not_true false c f h = refl

-- one part more on both sides
pub sub_more : (x : Part) (xs ys : List Part) → IsSub xs ys → IsSub (x ∷ xs) (x ∷ ys)
unfolding touched
sub_more x xs ys f p h = either_true (overlaps x p) (touched xs p) (touched ys p) (f p) h

orr : (b c d : Bool) → (b ≡ true → d ≡ true) → (c ≡ true → d ≡ true) → (b || c) ≡ true → d ≡ true
orr true c d f g h = f refl
orr false c d f g h = g h

-- what a part overlaps is listed
abbrev pub Holds : List Part → Part → Type 0
Holds ys x = (p : Part) → overlaps x p ≡ true → touched ys p ≡ true

pub sub_first : (x : Part) (xs ys : List Part) → Holds ys x → IsSub xs ys → IsSub (x ∷ xs) ys
unfolding touched
sub_first x xs ys h f p = orr (overlaps x p) (touched xs p) (touched ys p) (h p) (f p)

pub holds_first : (x : Part) (xs ys : List Part) → IsSub (x ∷ xs) ys → Holds ys x
unfolding touched
holds_first x xs ys f p e = f p (ap (λ b. b || touched xs p) e)

pub holds_own : (x : Part) (xs : List Part) → Holds (x ∷ xs) x
unfolding touched
holds_own x xs p e = ap (λ b. b || touched xs p) e

pub holds_later : (x y : Part) (ys : List Part) → Holds ys x → Holds (y ∷ ys) x
unfolding touched
holds_later x y ys h p e = right_true (overlaps y p) (touched ys p) (h p e)

pub sub_rest : (x : Part) (xs ys : List Part) → IsSub (x ∷ xs) ys → IsSub xs ys
unfolding touched
sub_rest x xs ys f p h = f p (right_true (overlaps x p) (touched xs p) h)

pub sub_left : (xs ys : List Part) → IsSub xs (xs ++ ys)
unfolding touched
sub_left [] ys p h = absurd (cc)
sub_left (x ∷ xs) ys p h = either_true (overlaps x p) (touched xs p) (touched (xs ++ ys) p) (sub_left xs ys p) h

pub sub_right : (xs ys : List Part) → IsSub ys (xs ++ ys)
unfolding touched
sub_right [] ys p h = h
sub_right (x ∷ xs) ys p h = right_true (overlaps x p) (touched (xs ++ ys) p) (sub_right xs ys p h)

pub sub_then : (xs ys zs : List Part) → IsSub xs ys → IsSub ys zs → IsSub xs zs
sub_then xs ys zs f g p h = g p (f p h)

pub apart_less : (xs ys : List Part) (ms : List Effect) → IsSub xs ys → Apart ys ms → Apart xs ms
apart_less xs ys [] f h = tt
apart_less xs ys (m ∷ ms) f h = (not_true (touched xs (part_of m)) (touched ys (part_of m)) (f (part_of m)) h.0, apart_less (part_of m ∷ xs) (part_of m ∷ ys) ms (sub_more (part_of m) xs ys f) h.1)

-- one after another
pub apart_append : (before middle : List Part) (ms ns : List Effect) → IsSub before middle → IsSub (parts_of ms) middle → Apart before ms → Apart middle ns → Apart before (ms ++ ns)
apart_append before middle [] ns c g a b = apart_less before middle ns c b
apart_append before middle (m ∷ ms) ns c g a b =
    (a.0, apart_append (part_of m ∷ before) middle ms ns (sub_first (part_of m) before middle (holds_first (part_of m) (parts_of ms) middle g) c) (sub_rest (part_of m) (parts_of ms) middle g) a.1 b)

pub sub_both : (ms ns : List Effect) (ys : List Part) → IsSub (parts_of ms) ys → IsSub (parts_of ns) ys → IsSub (parts_of (ms ++ ns)) ys
sub_both [] ns ys f g = g
sub_both (m ∷ ms) ns ys f g = sub_first (part_of m) (parts_of (ms ++ ns)) ys (holds_first (part_of m) (parts_of ms) ys f) (sub_both ms ns ys (sub_rest (part_of m) (parts_of ms) ys f) g)

nat_flip : (a b : ℕ) → nat_eq a b ≡ nat_eq b a
nat_flip a b = grind (arith, nat_tests)

pub overlaps_flip : (x y : Part) → overlaps x y ≡ overlaps y x
overlaps_flip x y = ap (λ b. b && (is_prefix x.fields y.fields || is_prefix y.fields x.fields)) (nat_flip x.cell y.cell) ∙ ap (λ b. nat_eq y.cell x.cell && b) (or_flip (is_prefix x.fields y.fields) (is_prefix y.fields x.fields))
  where
    or_flip : (a b : Bool) → (a || b) ≡ (b || a)
    or_flip true true = refl
    or_flip true false = refl
    or_flip false true = refl
    or_flip false false = refl

-- a part that was written before is given no value, nor is one that overlaps it
pub apart_not : (before : List Part) (ms : List Effect) (x : Part) → Holds before x → Apart before ms → touched (parts_of ms) x ≡ false
unfolding touched
apart_not before [] x h a = refl
apart_not before (m ∷ ms) x h a =
    neither (overlaps (part_of m) x) (touched (parts_of ms) x) (overlaps_flip (part_of m) x ∙ not_true (overlaps x (part_of m)) (touched before (part_of m)) (h (part_of m)) a.0)
    (apart_not (part_of m ∷ before) ms x (holds_later x (part_of m) before h) a.1)
  where
    neither : (b c : Bool) → b ≡ false → c ≡ false → (b || c) ≡ false
    neither true c e f = absurd (cc)
    neither false c e f = f
