-- Tables of names that grow by what each element of a list gives.
use Rattle.std.proofs.Common.{◌≡◌, ℕ, ◌+◌, ◌<◌, ◌≤◌, Bool, true, false, cond, List, [], ◌∷◌, ◌++◌, length, take, get_or, Option, Some, None, refl, sym, ap, ◌∙◌, arith}
use Rattle.std.specs.Prelude.{nat_eq, ◌||◌}
use Rattle.std.specs.Option.{option_map}
use Rattle.std.specs.List.{position_from, list_any}
use Rattle.std.proofs.lemmas.List.{take_more, take_all, length-take-le}
use Rattle.uc_syntax.specs.declared.place.Identifier.{Identifier}
use Rattle.uc_syntax.specs.declared.declaration.Decl.{Decl}
use Rattle.uc_syntax.specs.declared.declaration.Module.{Module}
use Rattle.uc_syntax.specs.WrittenTypes.{enums_of_module}
use Rattle.uc_meaning.specs.Lookup.{System, or_else, first_some, some_if, is_named, names_one, module_named}
use Rattle.uc_meaning.specs.Types.{label_in, label_of}
use Rattle.uc_meaning.proofs.Lists.{position_found, position_past}
use Rattle.uc_rules.specs.Names.{only_if}
use Rattle.uc_type_reader.proofs.Imports.{or_else_none, or_else_or_else, first_append}
use Rattle.uc_type_reader.specs.declared.labels.Label.{Label}
use Rattle.uc_type_reader.specs.declared.mentioned.Mentioned.{Mentioned}
use Rattle.uc_type_reader.specs.declared.mentioned.WrittenEnum.{WrittenEnum}
use Rattle.uc_type_reader.specs.Mentioned.{IsMentioned}
use Rattle.uc_type_reader.specs.Reading.{label_meant, label_at, label_imported, label_in_module, label_in_named}
use Rattle.uc_type_reader.proofs.Brought.{written_label, label_is}
use Rattle.uc_type_reader.proofs.Listed.{mentioned_enums, mentioned_modules}
use Rattle.uc_flat_making.specs.Firsts.{Enters, Gives}
use Rattle.uc_flat_making.specs.Table.{label_among}

first_push : {A B : Type 0} (f : A → Option B) (xs : List A) (y : A) → first_some f (xs ++ y ∷ []) ≡ or_else (first_some f xs) (f y)
unfolding first_some
first_push f xs y = first_append f xs (y ∷ []) ∙ ap (or_else (first_some f xs)) (or_else_none (f y))

first_take : {A B : Type 0} (f : A → Option B) (xs : List A) (i : ℕ) (y d : A) → i < length xs → y ≡ get_or xs i d → first_some f (take (i + 1) xs) ≡ or_else (first_some f (take i xs)) (f y)
first_take f xs i y d l e = ap (first_some f) (take_more xs i d l ∙ ap (λ z. take i xs ++ z ∷ []) (sym e)) ∙ first_push f (take i xs) y

-- ---- behind what was there before

-- each name has what it had before, else what the first i elements give for it
pub record EnteredUpTo {X T B : Type 0} (meant : T → B) (f : ℕ → X → Option B) (xs : List X) (before : ℕ → Option T) (i : ℕ) (now : ℕ → Option T) : Type 0 where
  pub is : (x : ℕ) → option_map meant (now x) ≡ or_else (option_map meant (before x)) (first_some (f x) (take i xs))

pub entered_begin : {X T B : Type 0} (meant : T → B) (f : ℕ → X → Option B) (xs : List X) (before : ℕ → Option T) → EnteredUpTo meant f xs before 0 before
unfolding first_some
entered_begin meant f xs before = record { is = λ x. sym (or_else_none (option_map meant (before x))) }

pub entered_more : {X T B : Type 0} (meant : T → B) (f : ℕ → X → Option B) (xs : List X) (before now after : ℕ → Option T) (i : ℕ) (y d : X) → EnteredUpTo meant f xs before i now
    → i < length xs → y ≡ get_or xs i d → Enters meant (λ x. f x y) now after → EnteredUpTo meant f xs before (i + 1) after
entered_more meant f xs before now after i y d so_far within at e = record {
  is = λ x.
      e x
      ∙ ap (λ o. or_else o (f x y)) (so_far.is x)
      ∙ or_else_or_else (option_map meant (before x)) (first_some (f x) (take i xs)) (f x y)
      ∙ ap (or_else (option_map meant (before x))) (sym (first_take (f x) xs i y d within at));
}

pub entered_end : {X T B : Type 0} (meant : T → B) (f : ℕ → X → Option B) (xs : List X) (before now : ℕ → Option T) (i : ℕ) → EnteredUpTo meant f xs before i now → length xs ≤ i
    → Enters meant (λ x. first_some (f x) xs) before now
entered_end meant f xs before now i so_far past x = so_far.is x ∙ ap (λ ys. or_else (option_map meant (before x)) (first_some (f x) ys)) (take_all i xs past)

-- ---- into an empty table

-- each name has what the first i elements give for it
pub record GivenUpTo {X T B : Type 0} (meant : T → B) (f : ℕ → X → Option B) (xs : List X) (i : ℕ) (now : ℕ → Option T) : Type 0 where
  pub is : (x : ℕ) → option_map meant (now x) ≡ first_some (f x) (take i xs)

pub given_begin : {X T B : Type 0} (meant : T → B) (f : ℕ → X → Option B) (xs : List X) (now : ℕ → Option T) → ((x : ℕ) → now x ≡ None) → GivenUpTo meant f xs 0 now
unfolding first_some
given_begin meant f xs now none = record { is = λ x. ap (option_map meant) (none x) }

pub given_more : {X T B : Type 0} (meant : T → B) (f : ℕ → X → Option B) (xs : List X) (now after : ℕ → Option T) (i : ℕ) (y d : X) → GivenUpTo meant f xs i now
    → i < length xs → y ≡ get_or xs i d → Enters meant (λ x. f x y) now after → GivenUpTo meant f xs (i + 1) after
given_more meant f xs now after i y d so_far within at e = record {
  is = λ x. e x ∙ ap (λ o. or_else o (f x y)) (so_far.is x) ∙ sym (first_take (f x) xs i y d within at);
}

pub given_end : {X T B : Type 0} (meant : T → B) (f : ℕ → X → Option B) (xs : List X) (now : ℕ → Option T) (i : ℕ) → GivenUpTo meant f xs i now → length xs ≤ i → Gives meant (λ x. first_some (f x) xs) now
given_end meant f xs now i so_far past x = so_far.is x ∙ ap (first_some (f x)) (take_all i xs past)

-- ---- one name, and several of one thing

map_or : {T B : Type 0} (g : T → B) (a b : Option T) → option_map g (or_else a b) ≡ or_else (option_map g a) (option_map g b)
map_or g None b = refl
map_or g (Some y) b = refl

map_only : {T B : Type 0} (g : T → B) (b : Bool) (v : T) → option_map g (only_if b (Some v)) ≡ some_if b (g v)
map_only g true v = refl
map_only g false v = refl

pub one_enters : {T B : Type 0} (meant : T → B) (old new : ℕ → Option T) (name : ℕ) (v : T) → ((x : ℕ) → new x ≡ or_else (old x) (only_if (nat_eq name x) (Some v)))
    → Enters meant (λ x. some_if (nat_eq name x) (meant v)) old new
one_enters meant old new name v says x =
    ap (option_map meant) (says x) ∙ map_or meant (old x) (only_if (nat_eq name x) (Some v)) ∙ ap (or_else (option_map meant (old x))) (map_only meant (nat_eq name x) v)

either_one : {B : Type 0} (a b : Bool) (y : B) → or_else (some_if a y) (some_if b y) ≡ some_if (a || b) y
either_one true b y = refl
either_one false b y = refl

some_named : {B : Type 0} (x : ℕ) (names : List Identifier) (y : B) → first_some (λ i. some_if (is_named x i) y) names ≡ some_if (names_one x names) y
unfolding first_some
some_named x [] y = refl
some_named x (i ∷ names) y = ap (or_else (some_if (is_named x i) y)) (some_named x names y) ∙ either_one (is_named x i) (names_one x names) y

-- what is entered for each of some names is entered for all of them
pub named_end : {T B : Type 0} (meant : T → B) (names : List Identifier) (y : B) (before now : ℕ → Option T) (i : ℕ) → EnteredUpTo meant (λ x d. some_if (is_named x d) y) names before i now → length names ≤ i
    → Enters meant (λ x. some_if (names_one x names) y) before now
named_end meant names y before now i so_far past x =
    entered_end meant (λ x d. some_if (is_named x d) y) names before now i so_far past x ∙ ap (or_else (option_map meant (before x))) (some_named x names y)

-- ---- places in a list

placed : (o r : Option ℕ) (b : Bool) (n : ℕ) → ((j : ℕ) → o ≡ Some j → r ≡ Some j) → (o ≡ None → r ≡ cond b (Some n) None) → r ≡ or_else o (only_if b (Some n))
placed (Some j) r b n found past = found j refl
placed None r true n found past = past refl
placed None r false n found past = past refl

position_push : {A : Type 0} (t : A → Bool) (xs : List A) (y : A) → position_from t 0 (xs ++ y ∷ []) ≡ or_else (position_from t 0 xs) (only_if (t y) (Some (length xs)))
position_push t xs y =
    let start : 0 + length xs ≡ length xs = omega arith in
    placed (position_from t 0 xs) (position_from t 0 (xs ++ y ∷ [])) (t y) (length xs) (λ j e. position_found t 0 j xs (y ∷ []) e)
    (λ e. position_past t 0 xs (y ∷ []) e ∙ ap (λ m. position_from t m (y ∷ [])) start)

pub position_take : {A : Type 0} (t : A → Bool) (xs : List A) (i : ℕ) (y d : A) → i < length xs → y ≡ get_or xs i d → position_from t 0 (take (i + 1) xs) ≡ or_else (position_from t 0 (take i xs)) (only_if (t y) (Some i))
position_take t xs i y d l e =
    ap (position_from t 0) (take_more xs i d l ∙ ap (λ z. take i xs ++ z ∷ []) (sym e))
    ∙ position_push t (take i xs) y
    ∙ ap (λ k. or_else (position_from t 0 (take i xs)) (only_if (t y) (Some k))) (length-take-le i xs (omega (arith, l)))

-- a table of the places of names in a list
pub record PlacedUpTo {A : Type 0} (t : ℕ → A → Bool) (xs : List A) (i : ℕ) (now : ℕ → Option ℕ) : Type 0 where
  pub is : (x : ℕ) → now x ≡ position_from (t x) 0 (take i xs)

pub placed_begin : {A : Type 0} (t : ℕ → A → Bool) (xs : List A) (now : ℕ → Option ℕ) → ((x : ℕ) → now x ≡ None) → PlacedUpTo t xs 0 now
placed_begin t xs now none = record { is = none }

pub placed_more : {A : Type 0} (t : ℕ → A → Bool) (xs : List A) (now after : ℕ → Option ℕ) (i : ℕ) (y d : A) → PlacedUpTo t xs i now → i < length xs → y ≡ get_or xs i d
    → ((x : ℕ) → after x ≡ or_else (now x) (only_if (t x y) (Some i))) → PlacedUpTo t xs (i + 1) after
placed_more t xs now after i y d so_far within at e = record { is = λ x. e x ∙ ap (λ o. or_else o (only_if (t x y) (Some i))) (so_far.is x) ∙ sym (position_take (t x) xs i y d within at) }

pub placed_end : {A : Type 0} (t : ℕ → A → Bool) (xs : List A) (now : ℕ → Option ℕ) (i : ℕ) → PlacedUpTo t xs i now → length xs ≤ i → (x : ℕ) → now x ≡ position_from (t x) 0 xs
placed_end t xs now i so_far past x = so_far.is x ∙ ap (position_from (t x) 0) (take_all i xs past)

-- ---- labels of an enum

turned : (a b : ℕ) → nat_eq a b ≡ nat_eq b a
turned a b = grind arith

-- each name has the label that it had before, else its place among the first i names of the enum
pub record LabelledUpTo (e : ℕ) (names : List ℕ) (before : ℕ → Option Label) (i : ℕ) (now : ℕ → Option Label) : Type 0 where
  pub is : (x : ℕ) → option_map label_meant (now x) ≡ or_else (option_map label_meant (before x)) (label_among e (take i names) x)

pub labelled_begin : (e : ℕ) (names : List ℕ) (before : ℕ → Option Label) → LabelledUpTo e names before 0 before
labelled_begin e names before = record { is = λ x. sym (or_else_none (option_map label_meant (before x))) }

label_take : (e : ℕ) (names : List ℕ) (i x name d : ℕ) → i < length names → name ≡ get_or names i d → label_among e (take (i + 1) names) x ≡ or_else (label_among e (take i names) x) (some_if (nat_eq name x) (e, i))
label_take e names i x name d l at =
    ap (option_map (λ k. (e, k))) (position_take (nat_eq x) names i name d l at)
    ∙ map_or (λ k. (e, k)) (position_from (nat_eq x) 0 (take i names)) (only_if (nat_eq x name) (Some i))
    ∙ ap (or_else (label_among e (take i names) x)) (map_only (λ k. (e, k)) (nat_eq x name) i ∙ ap (λ b. some_if b (e, i)) (turned x name))

pub labelled_more : (e : ℕ) (names : List ℕ) (before now after : ℕ → Option Label) (i name d : ℕ) (label : Label) → LabelledUpTo e names before i now → i < length names → name ≡ get_or names i d
    → label_meant label ≡ (e, i) → ((x : ℕ) → after x ≡ or_else (now x) (only_if (nat_eq name x) (Some label))) → LabelledUpTo e names before (i + 1) after
labelled_more e names before now after i name d label so_far within at is says = record {
  is = λ x.
      one_enters label_meant now after name label says x
      ∙ ap (λ o. or_else o (some_if (nat_eq name x) (label_meant label))) (so_far.is x)
      ∙ or_else_or_else (option_map label_meant (before x)) (label_among e (take i names) x) (some_if (nat_eq name x) (label_meant label))
      ∙ ap (λ l. or_else (option_map label_meant (before x)) (or_else (label_among e (take i names) x) (some_if (nat_eq name x) l))) is
      ∙ ap (or_else (option_map label_meant (before x))) (sym (label_take e names i x name d within at));
}

pub labelled_end : (e : ℕ) (names : List ℕ) (before now : ℕ → Option Label) (i : ℕ) → LabelledUpTo e names before i now → length names ≤ i → Enters label_meant (label_among e names) before now
labelled_end e names before now i so_far past x = so_far.is x ∙ ap (λ ys. or_else (option_map label_meant (before x)) (label_among e ys x)) (take_all i names past)

-- ---- labels of modules

pub enters_nothing : {T B : Type 0} (meant : T → B) (gives : ℕ → Option B) (table : ℕ → Option T) → ((x : ℕ) → gives x ≡ None) → Enters meant gives table table
enters_nothing meant gives table none x = sym (ap (or_else (option_map meant (table x))) (none x) ∙ or_else_none (option_map meant (table x)))

pub enters_as : {T B : Type 0} (meant : T → B) (f g : ℕ → Option B) (old new : ℕ → Option T) → ((x : ℕ) → f x ≡ g x) → Enters meant f old new → Enters meant g old new
enters_as meant f g old new same e x = e x ∙ ap (or_else (option_map meant (old x))) (same x)

-- a module that is not there has no labels
pub module_none : (s : System) (owner : ℕ) (table : ℕ → Option Label) → module_named s owner ≡ None → Enters label_meant (λ x. label_in_named s x owner) table table
unfolding first_some
module_none s owner table none = enters_nothing label_meant (λ x. label_in_named s x owner) table (λ x. ap (label_in_module s x) none)

-- what is entered of the gathered enums of a module is entered of its enums
pub own_enters : (s : System) (code : Module) (found : Mentioned) (enums : List WrittenEnum) (old new : ℕ → Option Label) → IsMentioned code found → enums ≡ found.enums
    → Enters label_meant (λ x. first_some (label_at s x) enums) old new → Enters label_meant (λ x. first_some (label_in s x) (enums_of_module code)) old new
own_enters s code found enums old new mentioned same =
    enters_as label_meant (λ x. first_some (label_at s x) enums) (λ x. first_some (label_in s x) (enums_of_module code)) old new
    (λ x. ap (first_some (label_at s x)) same ∙ written_label s x (enums_of_module code) found.enums (mentioned_enums code found mentioned))

pub module_some : (s : System) (owner : ℕ) (code : Module) (old new : ℕ → Option Label) → module_named s owner ≡ Some code
    → Enters label_meant (λ x. first_some (label_in s x) (enums_of_module code)) old new → Enters label_meant (λ x. label_in_named s x owner) old new
module_some s owner code old new is =
    enters_as label_meant (λ x. first_some (label_in s x) (enums_of_module code)) (λ x. label_in_named s x owner) old new (λ x. sym (ap (label_in_module s x) is))

-- the labels of a module's own enums, of the modules that it imports and of those that its types name are all that it has
pub labels_are : (s : System) (code : Module) (found : Mentioned) (enums : List WrittenEnum) (decls : List Decl) (modules : List ℕ) (none own imported named : ℕ → Option Label)
    → ((x : ℕ) → none x ≡ None) → IsMentioned code found → enums ≡ found.enums → decls ≡ code.decls → modules ≡ found.modules
    → Enters label_meant (λ x. first_some (label_at s x) enums) none own → Enters label_meant (λ x. first_some (label_imported s x) decls) own imported
    → Enters label_meant (λ x. first_some (label_in_named s x) modules) imported named → Gives label_meant (label_of s code) named
labels_are s code found enums decls modules none own imported named empty mentioned is_enums is_decls is_modules a b c x =
    let own_labels = a x ∙ ap (λ o. or_else (option_map label_meant o) (first_some (label_at s x) enums)) (empty x)
    ∙ ap (first_some (label_at s x)) is_enums ∙ written_label s x (enums_of_module code) found.enums (mentioned_enums code found mentioned) in
    let imported_labels = b x ∙ ap (λ o. or_else o (first_some (label_imported s x) decls)) own_labels ∙ ap (λ ds. or_else (first_some (label_in s x) (enums_of_module code)) (first_some (label_imported s x) ds)) is_decls in
    c x
    ∙ ap (λ o. or_else o (first_some (label_in_named s x) modules)) imported_labels
    ∙ or_else_or_else (first_some (label_in s x) (enums_of_module code)) (first_some (label_imported s x) code.decls) (first_some (label_in_named s x) modules)
    ∙ ap (λ ms. or_else (first_some (label_in s x) (enums_of_module code)) (or_else (first_some (label_imported s x) code.decls) (first_some (label_in_named s x) ms))) (is_modules ∙ mentioned_modules code found mentioned)
    ∙ sym (label_is s code x)
