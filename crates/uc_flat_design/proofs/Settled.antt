-- Cells after they are given values, part by part.
use Rattle.std.proofs.Common.{◌≡◌, ◌≢◌, ℕ, ◌+◌, ◌<◌, ◌≤◌, List, [], ◌∷◌, ◌++◌, length, refl, sym, ap, ◌∙◌, subst, true, false, Bool, Option, Some, None, arith, zero, suc}
use Rattle.std.specs.Prelude.{if◌then◌else◌, ◌&&◌, ◌||◌, nat_eq, All}
use Rattle.std.specs.Option.{option_map, option_and_then}
use Rattle.std.proofs.lemmas.List.{get_or-set_same, get_or-set_other, length-set}
use Rattle.std.proofs.lemmas.Bool.Decides.{nat_tests}
use Rattle.std.proofs.lemmas.List.Elements.{All-head, All-tail}
use Rattle.uc_values.specs.declared.ty.Ty.{Ty}
use Rattle.uc_values.specs.declared.value.Value.{Value}
use Rattle.uc_values.specs.Values.{fits, nothing}
use Rattle.uc_values.specs.Sameness.{same}
use Rattle.uc_values.proofs.Shapes.{and_true}
use Rattle.uc_meaning.specs.Cells.{Cell}
use Rattle.uc_meaning.specs.Expressions.{Reading, reads}
use Rattle.uc_meaning.specs.Steps.{AllKeep, is_prefix, is_written, is_input, part_reading, has_part}
use Rattle.uc_ops.specs.Typing.{part_type}
use Rattle.uc_ops.specs.Meaning.{part}
use Rattle.uc_flat.specs.Executions.{FitAll}
use Rattle.uc_values.specs.Same.{has_no_array}
use Rattle.uc_values.proofs.SameValuesSame.{same_holds}
use Rattle.uc_flat_design.proofs.FlatInitLawOptions.{then_some, some_same}
use Rattle.uc_flat_design.proofs.Fields.{placed, placed_same, placed_other, stays_part, part_type_same, IsPath, path_part}
use Rattle.uc_flat_code.specs.declared.once.Part.{Part}
use Rattle.uc_flat_code.specs.Once.{overlaps, touched}
use Rattle.uc_flat_design.specs.Next.{types_in}
use Rattle.uc_flat_design.proofs.Effects.{Effect, part_of, parts_of, parts_in, reading_at, part_at, type_of_part, agrees, all_agree, given_value, put, performs, performed, Apart, apart_not, holds_own, true_false, same_nat, nat-eq}
use Rattle.uc_flat_design.proofs.Parts.{parts_fit}
use Rattle.uc_flat_design.proofs.Equal.{meets, AreGiven, equal_parts}
use Rattle.uc_flat_design.proofs.Leaving.{FitsValue, FineAll, fit_at, one_left, part_type_is, put_fits}

abbrev pub ArePlain : List Ty → Type 0
ArePlain types = All (λ ty. has_no_array ty ≡ true) types

pub plain_at : (types : List Ty) (k : ℕ) → ArePlain types → k < length types → has_no_array (part_type types k) ≡ true
plain_at [] k h l = absurd (omega (arith, l))
plain_at (ty ∷ types) zero h l = All-head (λ t. has_no_array t ≡ true) ty types h
plain_at (ty ∷ types) (suc k) h l = plain_at types k (All-tail (λ t. has_no_array t ≡ true) ty types h) (omega (arith, l))

nat-differ : (a b : ℕ) → nat_eq a b ≡ false → b ≢ a
nat-differ a b h e = true_false (sym (same_nat a) ∙ ap (nat_eq a) (sym e) ∙ h)

differ-nat : (a b : ℕ) → a < b → nat_eq a b ≡ false
differ-nat a b h = grind (arith, nat_tests)

differ-nat-above : (a b : ℕ) → b < a → nat_eq a b ≡ false
differ-nat-above a b h = grind (arith, nat_tests)

pub same_lists : (xs ys : List Value) → length xs ≡ length ys → ((k : ℕ) → k < length xs → part xs k ≡ part ys k) → xs ≡ ys
same_lists [] [] e h = refl
same_lists [] (y ∷ ys) e h = absurd (omega (arith, e))
same_lists (x ∷ xs) [] e h = absurd (omega (arith, e))
same_lists (x ∷ xs) (y ∷ ys) e h = ap (λ z. z ∷ xs) (h 0 (omega arith)) ∙ ap (λ zs. y ∷ zs) (same_lists xs ys (omega (arith, e)) (λ k l. h (suc k) (omega (arith, l))))

-- ---- lists of effects

abbrev pub at_fields : ℕ → List ℕ → Part
at_fields k fields = record { cell = k; fields = fields }

pub touched_append : (xs ys : List Effect) (p : Part) → touched (parts_of (xs ++ ys)) p ≡ (touched (parts_of xs) p || touched (parts_of ys) p)
unfolding touched
touched_append [] ys p = refl
touched_append (x ∷ xs) ys p = ap (λ b. overlaps (part_of x) p || b) (touched_append xs ys p) ∙ grouped (overlaps (part_of x) p) (touched (parts_of xs) p) (touched (parts_of ys) p)
  where
    grouped : (a b c : Bool) → (a || (b || c)) ≡ ((a || b) || c)
    grouped true b c = refl
    grouped false b c = refl

pub neither : (b c : Bool) → (b || c) ≡ false → (b ≡ false) × (c ≡ false)
neither true c h = absurd (cc)
neither false c h = (refl, h)

-- parts that are written
pub written_touched : (ms : List Effect) (k : ℕ) (fields : List ℕ) → is_written (parts_in ms) k fields ≡ touched (parts_of ms) (at_fields k fields)
unfolding is_written touched
written_touched [] k fields = refl
written_touched (x ∷ ms) k fields = ap (λ b. overlaps (part_of x) (at_fields k fields) || b) (written_touched ms k fields)

-- the paths in one cell
pub paths_in : ℕ → List Effect → List (List ℕ)
paths_in k [] = []
paths_in k (x ∷ ms) = if nat_eq x.0 k then x.1 ∷ paths_in k ms else paths_in k ms

pub paths_meet : (k : ℕ) (ms : List Effect) (fields : List ℕ) → meets (paths_in k ms) fields ≡ touched (parts_of ms) (at_fields k fields)
unfolding meets touched paths_in
paths_meet k [] fields = refl
paths_meet k (x ∷ ms) fields = by_test (nat_eq x.0 k) refl (paths_meet k ms fields)
  where
    by_test : (b : Bool) → nat_eq x.0 k ≡ b → meets (paths_in k ms) fields ≡ touched (parts_of ms) (at_fields k fields)
        → meets (if b then x.1 ∷ paths_in k ms else paths_in k ms) fields ≡ ((nat_eq x.0 k && (is_prefix x.1 fields || is_prefix fields x.1)) || touched (parts_of ms) (at_fields k fields))
    by_test true e rest = ap (λ b. (is_prefix x.1 fields || is_prefix fields x.1) || b) rest ∙ ap (λ b. (b && (is_prefix x.1 fields || is_prefix fields x.1)) || touched (parts_of ms) (at_fields k fields)) (sym e)
    by_test false e rest = rest ∙ ap (λ b. (b && (is_prefix x.1 fields || is_prefix fields x.1)) || touched (parts_of ms) (at_fields k fields)) (sym e)

-- ---- inputs

-- an input may have any value
abbrev pub input_effects : ℕ → List Cell → List Effect
input_effects j [] = []
input_effects j (c ∷ cells) = (if is_input c.kind then (j, [], None) ∷ [] else []) ++ input_effects (j + 1) cells

whole_meets : (fields : List ℕ) → (is_prefix [] fields || is_prefix fields []) ≡ true
unfolding is_prefix
whole_meets fields = refl

-- their numbers begin with j
above : (cells : List Cell) (j k : ℕ) (fields : List ℕ) → k < j → touched (parts_of (input_effects j cells)) (at_fields k fields) ≡ false
unfolding touched
above [] j k fields h = refl
above (c ∷ cells) j k fields h = by_kind (is_input c.kind) (above cells (j + 1) k fields (omega (arith, h)))
  where
    by_kind : (b : Bool) → touched (parts_of (input_effects (j + 1) cells)) (at_fields k fields) ≡ false → touched (parts_of ((if b then (j, [], None) ∷ [] else []) ++ input_effects (j + 1) cells)) (at_fields k fields) ≡ false
    by_kind true rest = ap (λ b. (b && (is_prefix [] fields || is_prefix fields [])) || touched (parts_of (input_effects (j + 1) cells)) (at_fields k fields)) (differ-nat-above j k h) ∙ rest
    by_kind false rest = rest

-- the cell of a number that is no input
no_input : (c : Cell) (cells : List Cell) (j : ℕ) (fields : List ℕ) → is_input c.kind ≡ false → touched (parts_of (input_effects j (c ∷ cells))) (at_fields j fields) ≡ false
no_input c cells j fields h = ap (λ b. touched (parts_of ((if b then (j, [], None) ∷ [] else []) ++ input_effects (j + 1) cells)) (at_fields j fields)) h ∙ above cells (j + 1) j fields (omega arith)

is_no_input : (c : Cell) (cells : List Cell) (j : ℕ) (fields : List ℕ) → touched (parts_of (input_effects j (c ∷ cells))) (at_fields j fields) ≡ false → is_input c.kind ≡ false
unfolding touched
is_no_input c cells j fields h = by_kind (is_input c.kind) h
  where
    by_kind : (b : Bool) → touched (parts_of ((if b then (j, [], None) ∷ [] else []) ++ input_effects (j + 1) cells)) (at_fields j fields) ≡ false → b ≡ false
    by_kind false q = refl
    by_kind true q =
        absurd (true_false (sym (ap (λ b. (b && (is_prefix [] fields || is_prefix fields [])) || touched (parts_of (input_effects (j + 1) cells)) (at_fields j fields)) (same_nat j)
        ∙ ap (λ b. b || touched (parts_of (input_effects (j + 1) cells)) (at_fields j fields)) (whole_meets fields)) ∙ q))

later_input : (c : Cell) (cells : List Cell) (j k : ℕ) (fields : List ℕ) → touched (parts_of (input_effects j (c ∷ cells))) (at_fields (j + 1 + k) fields) ≡ touched (parts_of (input_effects (j + 1) cells)) (at_fields (j + 1 + k) fields)
unfolding touched
later_input c cells j k fields = by_kind (is_input c.kind)
  where
    by_kind : (b : Bool) → touched (parts_of ((if b then (j, [], None) ∷ [] else []) ++ input_effects (j + 1) cells)) (at_fields (j + 1 + k) fields) ≡ touched (parts_of (input_effects (j + 1) cells)) (at_fields (j + 1 + k) fields)
    by_kind true = ap (λ b. (b && (is_prefix [] fields || is_prefix fields [])) || touched (parts_of (input_effects (j + 1) cells)) (at_fields (j + 1 + k) fields)) (differ-nat j (j + 1 + k) (omega arith))
    by_kind false = refl

-- ---- from a constraint

-- two cells have the same part
abbrev pub SamePart : Ty → Value → Value → List ℕ → Type 0
SamePart ty v w fields = part_reading (reads ty v) fields ≡ part_reading (reads ty w) fields

-- A part of a cell that is no input, and that is not written, keeps its value.
pub keeps_same : (cells : List Cell) (j k : ℕ) (ms : List Effect) (vs ws : List Value) (fields : List ℕ) → ArePlain (types_in cells) → FitAll (types_in cells) vs → FitAll (types_in cells) ws → AllKeep (parts_in ms) j cells vs ws → k < length cells
    → has_part (part_type (types_in cells) k) fields ≡ true
    → touched (parts_of (input_effects j cells)) (at_fields (j + k) fields) ≡ false → touched (parts_of ms) (at_fields (j + k) fields) ≡ false → SamePart (part_type (types_in cells) k) (part vs k) (part ws k) fields
unfolding FitAll AllKeep
keeps_same [] j k ms vs ws fields p f g h l there a b = absurd (omega (arith, l))
keeps_same (c ∷ cells) j k ms [] ws fields p f g h l there a b = absurd f
keeps_same (c ∷ cells) j k ms (v ∷ vs) [] fields p f g h l there a b = absurd g
keeps_same (c ∷ cells) j zero ms (v ∷ vs) (w ∷ ws) fields p f g h l there a b =
    let here : touched (parts_of (input_effects j (c ∷ cells))) (at_fields j fields) ≡ false = ap (λ n. touched (parts_of (input_effects j (c ∷ cells))) (at_fields n fields)) (zero_more j) ∙ a in
    let own : touched (parts_of ms) (at_fields j fields) ≡ false = ap (λ n. touched (parts_of ms) (at_fields n fields)) (zero_more j) ∙ b in
    let plain = All-head (λ t. has_no_array t ≡ true) c.type (types_in cells) p in
    let r = parts_fit fields (reads c.type v) (record { plain = plain; fit = f.0 }) there in
    let s = parts_fit fields (reads c.type w) (record { plain = plain; fit = g.0 }) there in
    let ty = (part_reading (reads c.type v) fields).type in
    let one = part_type_same fields (reads c.type w) (reads c.type v) refl in
    let kept = h.0.kept fields there (is_no_input c cells j fields here) (written_touched ms j fields ∙ own) in
    let equal = (same_holds ty (part_reading (reads c.type v) fields).value (part_reading (reads c.type w) fields).value r.plain r.fit (ap (λ t. fits t (part_reading (reads c.type w) fields).value) (sym one) ∙ s.fit)).0 kept in
    same_readings (part_reading (reads c.type v) fields) (part_reading (reads c.type w) fields) (sym one) equal
  where
    zero_more : (x : ℕ) → x ≡ x + 0
    zero_more x = omega arith

    same_readings : (r s : Reading) → r.type ≡ s.type → r.value ≡ s.value → r ≡ s
    same_readings r s e q = ap (λ t. reads t r.value) e ∙ ap (reads s.type) q
keeps_same (c ∷ cells) j (suc k) ms (v ∷ vs) (w ∷ ws) fields p f g h l there a b =
    keeps_same cells (j + 1) k ms vs ws fields (All-tail (λ t. has_no_array t ≡ true) c.type (types_in cells) p) f.1 g.1 h.1 (omega (arith, l)) there
    (sym (later_input c cells j k fields) ∙ ap (λ n. touched (parts_of (input_effects j (c ∷ cells))) (at_fields n fields)) (moved j k) ∙ a)
    (ap (λ n. touched (parts_of ms) (at_fields n fields)) (moved j k) ∙ b)
  where
    moved : (x y : ℕ) → x + 1 + y ≡ x + suc y
    moved x y = omega arith

-- ---- to a constraint

-- Parts that are the same where they are in no input and are not written keep their values.
pub keeps_all : (cells : List Cell) (j : ℕ) (ms : List Effect) (vs ws : List Value) → ArePlain (types_in cells) → FitAll (types_in cells) vs
    → ((k : ℕ) (fields : List ℕ) → k < length cells → has_part (part_type (types_in cells) k) fields ≡ true → touched (parts_of (input_effects j cells)) (at_fields (j + k) fields) ≡ false → touched (parts_of ms) (at_fields (j + k) fields) ≡ false
    → SamePart (part_type (types_in cells) k) (part vs k) (part ws k) fields) → AllKeep (parts_in ms) j cells vs ws
unfolding FitAll AllKeep
keeps_all [] j ms vs ws p f h = tt
keeps_all (c ∷ cells) j ms [] ws p f h = tt
keeps_all (c ∷ cells) j ms (v ∷ vs) [] p f h = tt
keeps_all (c ∷ cells) j ms (v ∷ vs) (w ∷ ws) p f h = (
  record {
    kept = λ fields has free unwritten.
        let own : touched (parts_of ms) (at_fields (j + 0) fields) ≡ false = ap (λ n. touched (parts_of ms) (at_fields n fields)) (more_zero j) ∙ sym (written_touched ms j fields) ∙ unwritten in
        let none : touched (parts_of (input_effects j (c ∷ cells))) (at_fields (j + 0) fields) ≡ false = ap (λ n. touched (parts_of (input_effects j (c ∷ cells))) (at_fields n fields)) (more_zero j) ∙ no_input c cells j fields free in
        let equal : SamePart c.type v w fields = h 0 fields (omega arith) has none own in
        let r = parts_fit fields (reads c.type v) (record { plain = All-head (λ t. has_no_array t ≡ true) c.type (types_in cells) p; fit = f.0 }) has in
        let old = part_reading (reads c.type v) fields in
        ap (λ (z : Reading). same old.type old.value z.value) (sym equal) ∙ (same_holds old.type old.value old.value r.plain r.fit r.fit).1 refl;
  },
  keeps_all cells (j + 1) ms vs ws (All-tail (λ t. has_no_array t ≡ true) c.type (types_in cells) p) f.1
      (λ k fields l there a b. h (suc k) fields (omega (arith, l)) there
      (ap (λ n. touched (parts_of (input_effects j (c ∷ cells))) (at_fields n fields)) (moved j k) ∙ later_input c cells j k fields ∙ a)
      (ap (λ n. touched (parts_of ms) (at_fields n fields)) (moved j k) ∙ b)),
)
  where
    more_zero : (x : ℕ) → x + 0 ≡ x
    more_zero x = omega arith

    moved : (x y : ℕ) → x + suc y ≡ x + 1 + y
    moved x y = omega arith

-- ---- one effect

-- the other cells stay
pub put_elsewhere : (types : List Ty) (x : Effect) (cells : List Value) (v : Value) (k : ℕ) → nat_eq x.0 k ≡ false → part (put types cells x v) k ≡ part cells k
put_elsewhere types x cells v k h = get_or-set_other cells x.0 k (placed (reading_at types cells x.0) x.1 v) nothing (nat-differ x.0 k h)

put_here : (types : List Ty) (x : Effect) (cells : List Value) (v : Value) → x.0 < length cells → part (put types cells x v) x.0 ≡ placed (reading_at types cells x.0) x.1 v
put_here types x cells v l = get_or-set_same cells x.0 (placed (reading_at types cells x.0) x.1 v) nothing l

-- a part that the effect does not overlap stays
put_other : (types : List Ty) (x : Effect) (cells : List Value) (v : Value) (k : ℕ) (fields : List ℕ) → length cells ≡ length types → x.0 < length types → IsPath (part_type types x.0) x.1 → FitAll types cells
    → has_part (part_type types k) fields ≡ true → overlaps (part_of x) (at_fields k fields) ≡ false → SamePart (part_type types k) (part (put types cells x v) k) (part cells k) fields
put_other types x cells v k fields even l path fit there free = by_test (nat_eq x.0 k) refl
  where
    by_test : (b : Bool) → nat_eq x.0 k ≡ b → SamePart (part_type types k) (part (put types cells x v) k) (part cells k) fields
    by_test false e = ap (λ z. part_reading (reads (part_type types k) z) fields) (put_elsewhere types x cells v k e)
    by_test true e =
        let is = nat-eq x.0 k e in
        let apart = neither (is_prefix x.1 fields) (is_prefix fields x.1) (sym (ap (λ b. b && (is_prefix x.1 fields || is_prefix fields x.1)) e) ∙ free) in
        subst (λ n. SamePart (part_type types n) (part (put types cells x v) n) (part cells n) fields) is
        (ap (λ z. part_reading (reads (part_type types x.0) z) fields) (put_here types x cells v (omega (arith, l, even)))
        ∙ placed_other x.1 fields (reading_at types cells x.0) v (fit_at types cells x.0 fit l) (path_part (part_type types x.0) x.1 path) (ap (λ n. has_part (part_type types n) fields) is ∙ there) apart.0 apart.1)

-- the part itself
put_own : (types : List Ty) (x : Effect) (cells : List Value) (v : Value) → length cells ≡ length types → x.0 < length types → IsPath (part_type types x.0) x.1 → FitAll types cells → part_at types (put types cells x v) x ≡ reads (type_of_part types x) v
put_own types x cells v even l path fit =
    ap (λ z. part_reading (reads (part_type types x.0) z) x.1) (put_here types x cells v (omega (arith, l, even)))
    ∙ placed_same x.1 (reading_at types cells x.0) v (fit_at types cells x.0 fit l) (path_part (part_type types x.0) x.1 path)
    ∙ ap (λ t. reads t v) (part_type_is types cells x)

put_length : (types : List Ty) (x : Effect) (cells : List Value) (v : Value) → length (put types cells x v) ≡ length cells
put_length types x cells v = length-set cells x.0 (placed (reading_at types cells x.0) x.1 v)

-- ---- cells that are given values which another list has

module _ (types : List Ty) (new : List Value) (fit : FitAll types new) (plain : ArePlain types) where
  abbrev own_value : Effect → Value
  own_value x = (part_at types new x).value

  abbrev free_of : Effect → Option Value → List Value → List Value
  free_of x None vs = own_value x ∷ vs
  free_of x (Some v) vs = vs

  -- the free values of the list
  abbrev pub frees : List Effect → List Value
  frees [] = []
  frees (x ∷ ms) = free_of x x.2 (frees ms)

  abbrev pub settled : List Effect → List Value → List Value
  settled [] xs = xs
  settled (x ∷ ms) xs = settled ms (put types xs x (own_value x))

  own_fits : (x : Effect) → x.0 < length types → IsPath (part_type types x.0) x.1 → fits (type_of_part types x) (own_value x) ≡ true
  own_fits x l path =
      ap (λ t. fits t (own_value x)) (sym (part_type_is types new x))
      ∙ (parts_fit x.1 (reading_at types new x.0) (record { plain = plain_at types x.0 plain l; fit = fit_at types new x.0 fit l }) (path_part (part_type types x.0) x.1 path)).fit

  part_plain : (x : Effect) → x.0 < length types → IsPath (part_type types x.0) x.1 → has_no_array (type_of_part types x) ≡ true
  part_plain x l path =
      ap has_no_array (sym (part_type_is types new x))
      ∙ (parts_fit x.1 (reading_at types new x.0) (record { plain = plain_at types x.0 plain l; fit = fit_at types new x.0 fit l }) (path_part (part_type types x.0) x.1 path)).plain

  one_given : (x : Effect) (o : Option Value) (vs : List Value) → x.0 < length types → IsPath (part_type types x.0) x.1 → FitsValue (type_of_part types x) o → agrees (part_at types new x) o ≡ true
      → given_value (type_of_part types x) o (free_of x o vs) ≡ Some (own_value x, vs)
  one_given x None vs l path f a = ap (λ b. if b then Some (own_value x, vs) else None) (own_fits x l path)
  one_given x (Some v) vs l path f a =
      let ty = type_of_part types x in
      let agreed : same ty (own_value x) v ≡ true = ap (λ t. same t (own_value x) v) (sym (part_type_is types new x)) ∙ a in
      ap (λ y. Some (y, vs)) (sym ((same_holds ty (own_value x) v (part_plain x l path) (own_fits x l path) f).0 agreed))

  pub settles : (ms : List Effect) (xs : List Value) → FineAll types ms → all_agree types new ms ≡ true → performed types ms xs (frees ms) ≡ Some (settled ms xs, [])
  settles [] xs f a = refl
  settles (x ∷ ms) xs f a =
      let b = and_true a in
      ap (option_and_then (λ (q : List Value × List Value). performed types ms q.0 q.1))
      (ap (option_map (λ (q : Value × List Value). (put types xs x q.0, q.1))) (one_given x x.2 (frees ms) f.0 f.1 f.2 b.0))
      ∙ settles ms (put types xs x (own_value x)) f.3 b.1

  pub settled_length : (ms : List Effect) (xs : List Value) → length (settled ms xs) ≡ length xs
  settled_length [] xs = refl
  settled_length (x ∷ ms) xs = settled_length ms (put types xs x (own_value x)) ∙ put_length types x xs (own_value x)

  pub settled_fits : (ms : List Effect) (xs : List Value) → FineAll types ms → FitAll types xs → FitAll types (settled ms xs)
  settled_fits [] xs f g = g
  settled_fits (x ∷ ms) xs f g = settled_fits ms (put types xs x (own_value x)) f.3 (put_fits types x xs (own_value x) f.0 f.1 g (own_fits x f.0 f.1))

  -- a part that is as in the list stays so
  stays : (ms : List Effect) (xs : List Value) (k : ℕ) (fields : List ℕ) → FineAll types ms → FitAll types xs → length xs ≡ length types → k < length types → has_part (part_type types k) fields ≡ true
      → SamePart (part_type types k) (part xs k) (part new k) fields → SamePart (part_type types k) (part (settled ms xs) k) (part new k) fields
  stays [] xs k fields f g even l there h = h
  stays (x ∷ ms) xs k fields f g even l there h =
      stays ms (put types xs x (own_value x)) k fields f.3 (put_fits types x xs (own_value x) f.0 f.1 g (own_fits x f.0 f.1)) (put_length types x xs (own_value x) ∙ even) l there (by_test (nat_eq x.0 k) refl)
    where
      by_test : (b : Bool) → nat_eq x.0 k ≡ b → SamePart (part_type types k) (part (put types xs x (own_value x)) k) (part new k) fields
      by_test false e = ap (λ z. part_reading (reads (part_type types k) z) fields) (put_elsewhere types x xs (own_value x) k e) ∙ h
      by_test true e =
          let is = nat-eq x.0 k e in
          subst (λ n. SamePart (part_type types n) (part (put types xs x (own_value x)) n) (part new n) fields) is
          (ap (λ z. part_reading (reads (part_type types x.0) z) fields) (put_here types x xs (own_value x) (omega (arith, f.0, even)))
          ∙ stays_part fields x.1 (reading_at types xs x.0) (part new x.0) (fit_at types xs x.0 g f.0) (fit_at types new x.0 fit f.0) (ap (λ n. has_part (part_type types n) fields) is ∙ there) (path_part (part_type types x.0) x.1 f.1)
          (subst (λ n. SamePart (part_type types n) (part xs n) (part new n) fields) (sym is) h))

  -- the longest path
  abbrev longest : List Effect → ℕ
  longest [] = 0
  longest (x ∷ ms) = length x.1 + longest ms

  given_more : (a b : ℕ) (t : Ty) (v w : Value) (ps : List (List ℕ)) → a ≤ b → AreGiven a t v w ps → AreGiven b t v w ps
  given_more a b t v w [] l h = tt
  given_more a b t v w (p ∷ ps) l h = (omega (arith, l, h.0), h.1, h.2, given_more a b t v w ps l h.3)

  -- all parts that are given values have those of the list
  pub settled_given : (ms : List Effect) (xs : List Value) (k : ℕ) → FineAll types ms → FitAll types xs → length xs ≡ length types → k < length types
      → AreGiven (longest ms) (part_type types k) (part (settled ms xs) k) (part new k) (paths_in k ms)
  unfolding paths_in
  settled_given [] xs k f g even l = tt
  settled_given (x ∷ ms) xs k f g even l =
      let ys = put types xs x (own_value x) in
      let fine = put_fits types x xs (own_value x) f.0 f.1 g (own_fits x f.0 f.1) in
      let long = put_length types x xs (own_value x) ∙ even in
      let rest = given_more (longest ms) (length x.1 + longest ms) (part_type types k) (part (settled ms ys) k) (part new k) (paths_in k ms) (omega arith) (settled_given ms ys k f.3 fine long l) in
      by_test (nat_eq x.0 k) refl rest
    where
      by_test : (b : Bool) → nat_eq x.0 k ≡ b → AreGiven (length x.1 + longest ms) (part_type types k) (part (settled ms (put types xs x (own_value x))) k) (part new k) (paths_in k ms)
          → AreGiven (length x.1 + longest ms) (part_type types k) (part (settled ms (put types xs x (own_value x))) k) (part new k) (if b then x.1 ∷ paths_in k ms else paths_in k ms)
      by_test false e rest = rest
      by_test true e rest =
          let is = nat-eq x.0 k e in
          let ys = put types xs x (own_value x) in
          let fine = put_fits types x xs (own_value x) f.0 f.1 g (own_fits x f.0 f.1) in
          let long = put_length types x xs (own_value x) ∙ even in
          let path : IsPath (part_type types k) x.1 = subst (λ n. IsPath (part_type types n) x.1) is f.1 in
          let here : SamePart (part_type types k) (part ys k) (part new k) x.1 =
          subst (λ n. SamePart (part_type types n) (part ys n) (part new n) x.1) is (put_own types x xs (own_value x) even f.0 f.1 g ∙ ap (λ t. reads t (own_value x)) (sym (part_type_is types new x))) in
          (omega arith, path, stays ms ys k x.1 f.3 fine long l (path_part (part_type types k) x.1 path) here, rest)

  -- a part that is given no value stays
  pub settled_kept : (ms : List Effect) (xs : List Value) (k : ℕ) (fields : List ℕ) → FineAll types ms → FitAll types xs → length xs ≡ length types → has_part (part_type types k) fields ≡ true
      → touched (parts_of ms) (at_fields k fields) ≡ false → SamePart (part_type types k) (part (settled ms xs) k) (part xs k) fields
  unfolding touched
  settled_kept [] xs k fields f g even there h = refl
  settled_kept (x ∷ ms) xs k fields f g even there h =
      let b = neither (overlaps (part_of x) (at_fields k fields)) (touched (parts_of ms) (at_fields k fields)) h in
      settled_kept ms (put types xs x (own_value x)) k fields f.3 (put_fits types x xs (own_value x) f.0 f.1 g (own_fits x f.0 f.1)) (put_length types x xs (own_value x) ∙ even) there b.1
      ∙ put_other types x xs (own_value x) k fields even f.0 f.1 g there b.0

  -- Where all other parts are the same before, all cells have the values of the list.
  pub settled_new : (ms : List Effect) (xs : List Value) → FineAll types ms → FitAll types xs → length xs ≡ length types → length new ≡ length types
      → ((k : ℕ) (fields : List ℕ) → k < length types → has_part (part_type types k) fields ≡ true → touched (parts_of ms) (at_fields k fields) ≡ false → SamePart (part_type types k) (part xs k) (part new k) fields)
      → settled ms xs ≡ new
  settled_new ms xs f g even even_new h =
      same_lists (settled ms xs) new (settled_length ms xs ∙ even ∙ sym even_new)
      (λ k l.
      let below : k < length types = omega (arith, l, settled_length ms xs, even) in
      equal_parts (longest ms) (part_type types k) (part (settled ms xs) k) (part new k) (paths_in k ms) (fit_at types (settled ms xs) k (settled_fits ms xs f g) below) (fit_at types new k fit below)
      (settled_given ms xs k f g even below)
      (λ q there free.
      let none : touched (parts_of ms) (at_fields k q) ≡ false = sym (paths_meet k ms q) ∙ free in
      settled_kept ms xs k q f g even there none ∙ h k q below there none))

-- ---- cells after they were given values

pub left_length : (types : List Ty) (ms : List Effect) (xs vs : List Value) (q : List Value × List Value) → FineAll types ms → performed types ms xs vs ≡ Some q → length q.0 ≡ length xs
left_length types [] xs vs q f h = ap (λ (p : List Value × List Value). length p.0) (sym (some_same (xs, vs) q h))
left_length types (x ∷ ms) xs vs q f h =
    let s = then_some (λ (p : List Value × List Value). performed types ms p.0 p.1) (performs types x xs vs) q h in
    let z = s.0 in
    let o = one_left types x xs vs z f.2 s.1 in
    left_length types ms z.0 z.1 q f.3 s.2 ∙ ap length o.is ∙ put_length types x xs o.value

pub left_kept : (types : List Ty) (ms : List Effect) (xs vs : List Value) (q : List Value × List Value) (k : ℕ) (fields : List ℕ) → FineAll types ms → FitAll types xs → length xs ≡ length types → has_part (part_type types k) fields ≡ true
    → performed types ms xs vs ≡ Some q → touched (parts_of ms) (at_fields k fields) ≡ false → SamePart (part_type types k) (part q.0 k) (part xs k) fields
unfolding touched
left_kept types [] xs vs q k fields f g even there h free = ap (λ (p : List Value × List Value). part_reading (reads (part_type types k) (part p.0 k)) fields) (sym (some_same (xs, vs) q h))
left_kept types (x ∷ ms) xs vs q k fields f g even there h free =
    let s = then_some (λ (p : List Value × List Value). performed types ms p.0 p.1) (performs types x xs vs) q h in
    let z = s.0 in
    let o = one_left types x xs vs z f.2 s.1 in
    let b = neither (overlaps (part_of x) (at_fields k fields)) (touched (parts_of ms) (at_fields k fields)) free in
    let fine : FitAll types z.0 = subst (FitAll types) (sym o.is) (put_fits types x xs o.value f.0 f.1 g o.fit) in
    left_kept types ms z.0 z.1 q k fields f.3 fine (ap length o.is ∙ put_length types x xs o.value ∙ even) there s.2 b.1
    ∙ ap (λ ys. part_reading (reads (part_type types k) (part ys k)) fields) o.is
    ∙ put_other types x xs o.value k fields even f.0 f.1 g there b.0

agrees_given : (types : List Ty) (r : Reading) (x : Effect) (o : Option Value) (w : Value) → has_no_array (type_of_part types x) ≡ true → FitsValue (type_of_part types x) o → ((u : Value) → o ≡ Some u → u ≡ w) → r ≡ reads (type_of_part types x) w → agrees r o ≡ true
agrees_given types r x None w p f g t = refl
agrees_given types r x (Some u) w p f g t =
    ap (λ (z : Reading). same z.type z.value u) t
    ∙ ap (λ z. same (type_of_part types x) z u) (sym (g u refl)) ∙ (same_holds (type_of_part types x) u u p f f).1 refl

-- where no part is given a value twice, each has the value that it was given
pub left_agrees : (types : List Ty) (before : List Part) (ms : List Effect) (xs vs : List Value) (q : List Value × List Value) → ArePlain types → FineAll types ms → FitAll types xs → Apart before ms → length xs ≡ length types
    → performed types ms xs vs ≡ Some q → all_agree types q.0 ms ≡ true
left_agrees types before [] xs vs q p f g a even h = refl
left_agrees types before (x ∷ ms) xs vs q p f g a even h =
    let s = then_some (λ (z : List Value × List Value). performed types ms z.0 z.1) (performs types x xs vs) q h in
    let z = s.0 in
    let o = one_left types x xs vs z f.2 s.1 in
    let fine : FitAll types z.0 = subst (FitAll types) (sym o.is) (put_fits types x xs o.value f.0 f.1 g o.fit) in
    let long = ap length o.is ∙ put_length types x xs o.value ∙ even in
    let rest = left_agrees types (part_of x ∷ before) ms z.0 z.1 q p f.3 fine a.1 long s.2 in
    let path = path_part (part_type types x.0) x.1 f.1 in
    let there : part_at types q.0 x ≡ reads (type_of_part types x) o.value =
    left_kept types ms z.0 z.1 q x.0 x.1 f.3 fine long path s.2 (apart_not (part_of x ∷ before) ms (part_of x) (holds_own (part_of x) before) a.1)
    ∙ ap (λ ys. part_at types ys x) o.is
    ∙ put_own types x xs o.value even f.0 f.1 g in
    let is_plain = ap has_no_array (sym (part_type_is types xs x)) ∙ (parts_fit x.1 (reading_at types xs x.0) (record { plain = plain_at types x.0 p f.0; fit = fit_at types xs x.0 g f.0 }) path).plain in
    ap (λ b. b && all_agree types q.0 ms) (agrees_given types (part_at types q.0 x) x x.2 o.value is_plain f.2 o.own there) ∙ rest
