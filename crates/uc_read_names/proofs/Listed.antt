-- Names of lists.
use Rattle.std.proofs.Common.{◌≡◌, ℕ, ◌+◌, ◌<◌, ◌≤◌, Bool, true, false, List, [], ◌∷◌, ◌++◌, length, map, take, get_or, Option, Some, None, refl, ap, sym, subst, ◌∙◌, arith, Bor}
use Rattle.std.specs.Prelude.{nat_eq, ◌||◌, if◌then◌else◌, cond, slice_index_or}
use Rattle.std.specs.List.{find, list_any}
use Rattle.std.specs.Option.{is_some, option_copied}
use Rattle.std.specs.Str.{bytes_eq}
use Rattle.std.proofs.lemmas.List.{take_all}
use Rattle.std.proofs.lemmas.List.Folds.{list_any-append}
use Rattle.uc_syntax.specs.declared.declaration.Module.{Module}
use Rattle.uc_meaning.specs.Lookup.{System}
use Rattle.uc_rules.specs.declared.known.Known.{Known}
use Rattle.uc_rules.specs.Names.{bit_functions, is_bit_function, is_entry, is_name_of, names_in, names_one_of}
use Rattle.uc_rules.proofs.Lists.{take_turn}
use Rattle.uc_type_names.specs.NameSets.{with_name}
use Rattle.uc_read_names.specs.Reading.{SameNames}

turned : (x y : ℕ) → nat_eq y x ≡ nat_eq x y
turned x y = grind arith

found_or : {A : Type 0} (b : Bool) (a : A) (o : Option A) → is_some (cond b (Some a) o) ≡ (b || is_some o)
found_or true a o = refl
found_or false a o = refl

-- a name is found where it is one of the names
pub found_named : (x : ℕ) (ks : List Known) → is_some (find (λ k. nat_eq k.name x) ks) ≡ names_one_of (map (λ k. k.name) ks) x
found_named x [] = refl
found_named x (k ∷ ks) =
    found_or (nat_eq k.name x) k (find (λ k. nat_eq k.name x) ks)
    ∙ (λ i. turned x k.name i || found_named x ks i)

pub same_begin : SameNames [] []
unfolding SameNames
same_begin x = refl

one_more : (b c : Bool) → (c ≡ true → b ≡ true) → (b || c) ≡ b
one_more true c h = refl
one_more false true h = sym (h refl)
one_more false false h = refl

only_name : (x y : ℕ) (e : List ℕ) → names_one_of e y ≡ true → names_one_of (y ∷ []) x ≡ true → names_one_of e x ≡ true
only_name x y e there h = let is : x ≡ y = grind (arith, h) in ap (names_one_of e) is ∙ there

-- a name that is in a list adds none to it
with_where : (e : List ℕ) (x y : ℕ) (b : Bool) → names_one_of e y ≡ b → (names_one_of e x || names_one_of (y ∷ []) x) ≡ names_one_of (if b then e else e ++ y ∷ []) x
with_where e x y true there = one_more (names_one_of e x) (names_one_of (y ∷ []) x) (only_name x y e there)
with_where e x y false away = sym (list_any-append (nat_eq x) e (y ∷ []))

same_join : (names others : List ℕ) (y : ℕ) → SameNames names others → SameNames (names ++ y ∷ []) (with_name others y)
unfolding SameNames
same_join names others y h x =
    list_any-append (nat_eq x) names (y ∷ [])
    ∙ ap (λ b. b || names_one_of (y ∷ []) x) (h x)
    ∙ with_where others x y (names_one_of others y) refl

pub same_more : (names others with' : List ℕ) (k y d : ℕ) → SameNames (take k names) others → k < length names → y ≡ get_or names k d → with' ≡ with_name others y → SameNames (take (k + 1) names) with'
same_more names others with' k y d h within is now =
    subst (SameNames (take (k + 1) names)) (sym now) (subst (λ xs. SameNames xs (with_name others y)) (sym (take_turn names k y d within is)) (same_join (take k names) others y h))

pub same_end : (names others : List ℕ) (k : ℕ) → SameNames (take k names) others → length names ≤ k → SameNames names others
same_end names others k h past = subst (λ xs. SameNames xs others) (take_all k names past) h

pub names_same : (names others : List ℕ) → SameNames names others → (x : ℕ) → names_one_of others x ≡ names_one_of names x
unfolding SameNames
names_same names others h x = sym (h x)

pub bit_known : (s : System) (names : List (List ℕ)) (x : ℕ) → names ≡ s.names → list_any (bytes_eq (slice_index_or names x [])) bit_functions ≡ is_bit_function s x
unfolding is_bit_function
bit_known s names x is = ap (λ ns. list_any (bytes_eq (slice_index_or ns x [])) bit_functions) is

pub name_then : (b : Bool) (s : System) (m : Module) (x : ℕ) → b ≡ true → b ≡ is_bit_function s x → b ≡ is_name_of s m x
name_then b s m x there bit = there ∙ ap (λ v. v || list_any (is_entry x) (names_in s m)) (sym there ∙ bit)

pub name_else : (b r : Bool) (s : System) (m : Module) (x : ℕ) → b ≡ false → b ≡ is_bit_function s x → r ≡ list_any (is_entry x) (names_in s m) → r ≡ is_name_of s m x
name_else b r s m x away bit r-is = r-is ∙ ap (λ v. v || list_any (is_entry x) (names_in s m)) (sym away ∙ bit)

pub copied_some : {A : Type 0} (o : Option (Bor A)) → is_some o ≡ is_some (option_copied o)
copied_some None = refl
copied_some (Some x) = refl
