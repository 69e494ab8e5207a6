-- Names of a list in which none is declared again.
use Rattle.std.proofs.Common.{◌≡◌, ℕ, zero, suc, Bool, true, false, List, [], ◌∷◌, ◌++◌, map, Option, Some, None, refl, ap, sym, subst, ◌∙◌, ⊎_elim, append_assoc, arith}
use Rattle.std.specs.Prelude.{nat_eq, ◌||◌, cond, not, slice_get}
use Rattle.std.specs.List.{flat_map, filter_map, find, cons_option}
use Rattle.std.proofs.lemmas.List.Folds.{list_any-append}
use Rattle.uc_lexer.specs.declared.place.Place.{Place}
use Rattle.uc_syntax.specs.WrittenTypes.{types_in}
use Rattle.uc_syntax.specs.declared.declaration.Decl.{Decl}
use Rattle.uc_syntax.specs.declared.declaration.Decl.TheVariants.{Instance}
use Rattle.uc_syntax.specs.declared.declaration.Module.{Module}
use Rattle.uc_meaning.specs.Lookup.{System, InstanceParts, instance_in}
use Rattle.uc_rules.specs.declared.rule.Rule.{Rule}
use Rattle.uc_rules.specs.declared.fault.Fault.{Fault}
use Rattle.uc_rules.specs.declared.rule.Rule.TheVariants.{DuplicateName}
use Rattle.uc_rules.specs.Faults.{breaks_where}
use Rattle.uc_rules.specs.Names.{Entry, Sense, SenseLabel, SenseInstance, same_label, is_taken, is_entry, is_bit_function, repeated_names, repeated_in, names_one_of, names_of, labels_in}
use Rattle.uc_rules.specs.Declarations.{module_identifier}
use Rattle.uc_declared_types.specs.AliasLaw.{IsAmong}

nothing : {A : Type 0} → false ≡ true → A
nothing h = cc

none_some : {A B : Type 0} (x : B) → None ≡ Some x → A
none_some x h = cc

some_same : {A : Type 0} (x y : A) → Some x ≡ Some y → x ≡ y
some_same x y h = cc

pub same : (n : ℕ) → nat_eq n n ≡ true
same n = grind arith

turned : (n m : ℕ) → nat_eq n m ≡ false → nat_eq m n ≡ false
turned n m h = grind (arith, h)

left_false : (b c : Bool) → (b || c) ≡ false → b ≡ false
left_false true c h = h
left_false false c h = refl

right_false : (b c : Bool) → (b || c) ≡ false → c ≡ false
right_false true c h = nothing (sym h)
right_false false c h = h

-- a list of two parts that is empty
pub first_none : {A : Type 0} (xs ys : List A) → xs ++ ys ≡ [] → xs ≡ []
first_none [] ys h = refl
first_none (x ∷ xs) ys h = cc

pub second_none : {A : Type 0} (xs ys : List A) → xs ++ ys ≡ [] → ys ≡ []
second_none [] ys h = h
second_none (x ∷ xs) ys h = cc

pub each_none : {A B : Type 0} (f : A → List B) (x : A) (xs : List A) → IsAmong x xs → flat_map f xs ≡ [] → f x ≡ []
unfolding IsAmong
each_none f x [] among h = absurd among
each_none f x (y ∷ xs) among h = ⊎_elim (λ e. ap f e ∙ first_none (f y) (flat_map f xs) h) (λ r. each_none f x xs r (second_none (f y) (flat_map f xs) h)) among

pub not_broken : (b : Bool) (rule : Rule) (place : Place) → breaks_where b rule place ≡ [] → b ≡ false
not_broken true rule place h = cc
not_broken false rule place h = refl

-- ---- modules

modules_alone : (earlier : List ℕ) (ms : List Module) → repeated_in (λ x. false) earlier (map module_identifier ms) ≡ [] → (j : ℕ) (m : Module) → slice_get ms j ≡ Some m →
    (names_one_of earlier m.name ≡ false) × (find (λ n. nat_eq n.name m.name) ms ≡ Some m)
unfolding repeated_in
modules_alone earlier [] h zero m at = none_some m at
modules_alone earlier [] h (suc j) m at = none_some m at
modules_alone earlier (x ∷ ms) h zero m at =
    let is : x ≡ m = some_same x m at in
    let new : names_one_of earlier x.name ≡ false = not_broken (names_one_of earlier x.name) DuplicateName x.place (first_none (breaks_where (names_one_of earlier x.name) DuplicateName x.place) (repeated_in (λ y. false) (earlier ++ x.name ∷ []) (map module_identifier ms)) h) in (
      ap (λ (n : Module). names_one_of earlier n.name) (sym is) ∙ new,
      ap (λ (n : Module). cond (nat_eq x.name n.name) (Some x) (find (λ k. nat_eq k.name n.name) ms)) (sym is) ∙ ap (λ b. cond b (Some x) (find (λ k. nat_eq k.name x.name) ms)) (same x.name) ∙ ap (λ n. Some n) is,
    )
modules_alone earlier (x ∷ ms) h (suc j) m at =
    let rest = modules_alone (earlier ++ x.name ∷ []) ms (second_none (breaks_where (names_one_of earlier x.name) DuplicateName x.place) (repeated_in (λ y. false) (earlier ++ x.name ∷ []) (map module_identifier ms)) h) j m at in
    let parts : (names_one_of earlier m.name || names_one_of (x.name ∷ []) m.name) ≡ false = sym (list_any-append (nat_eq m.name) earlier (x.name ∷ [])) ∙ rest.0 in
    let other : nat_eq m.name x.name ≡ false = left_false (nat_eq m.name x.name) false (right_false (names_one_of earlier m.name) (names_one_of (x.name ∷ []) m.name) parts) in
    (left_false (names_one_of earlier m.name) (names_one_of (x.name ∷ []) m.name) parts, ap (λ b. cond b (Some x) (find (λ k. nat_eq k.name m.name) ms)) (turned m.name x.name other) ∙ rest.1)

pub module_alone : (ms : List Module) → repeated_in (λ x. false) [] (map module_identifier ms) ≡ [] → (j : ℕ) (m : Module) → slice_get ms j ≡ Some m → find (λ n. nat_eq n.name m.name) ms ≡ Some m
module_alone ms h j m at = (modules_alone [] ms h j m at).1

-- ---- instances

module _ (s : System) (m : Module) where
  abbrev entries : Decl → List Entry
  entries d = names_of s m d ++ flat_map (labels_in s) (types_in d)

  two_parts : (earlier xs ys : List Entry) → repeated_names s earlier (xs ++ ys) ≡ repeated_names s earlier xs ++ repeated_names s (earlier ++ xs) ys
  unfolding repeated_names
  two_parts earlier [] ys = ap (λ es. repeated_names s es ys) (sym (nil earlier))
    where
      nil : {A : Type 0} (as' : List A) → as' ++ [] ≡ as'
      nil [] = refl
      nil (a ∷ as') = ap (λ bs. a ∷ bs) (nil as')
  two_parts earlier (x ∷ xs) ys =
      let first : List Fault = breaks_where (is_bit_function s x.identifier.name || is_taken x (find (is_entry x.identifier.name) earlier)) DuplicateName x.identifier.place in
      ap (λ fs. first ++ fs) (two_parts (earlier ++ x ∷ []) xs ys ∙ ap (λ es. repeated_names s (earlier ++ x ∷ []) xs ++ repeated_names s es ys) (append_assoc earlier (x ∷ []) xs))
      ∙ sym (append_assoc first (repeated_names s (earlier ++ x ∷ []) xs) (repeated_names s (earlier ++ x ∷ xs) ys))

  -- an instance is no label that is brought twice
  free_name : (e : Entry) (p : InstanceParts) (o : Option Entry) → e.sense ≡ SenseInstance p → is_taken e o ≡ false → o ≡ None
  free_name e p None is h = refl
  free_name e p (Some first) is h = nothing (sym h ∙ ap not (ap (same_label first.sense) is ∙ no_label first.sense))
    where
      no_label : (t : Sense) → same_label t (SenseInstance p) ≡ false
      no_label (SenseLabel e k) = refl
      no_label other = refl

  found_none_left : (x : ℕ) (as' bs : List Entry) → find (is_entry x) (as' ++ bs) ≡ None → find (is_entry x) as' ≡ None
  found_none_left x [] bs h = refl
  found_none_left x (a ∷ as') bs h = by (is_entry x a) refl h (found_none_left x as' bs)
    where
      by : (b : Bool) → is_entry x a ≡ b → cond b (Some a) (find (is_entry x) (as' ++ bs)) ≡ None → (find (is_entry x) (as' ++ bs) ≡ None → find (is_entry x) as' ≡ None) → cond b (Some a) (find (is_entry x) as') ≡ None
      by true is h more = cc
      by false is h more = more h

  found_none_right : (x : ℕ) (as' bs : List Entry) → find (is_entry x) (as' ++ bs) ≡ None → find (is_entry x) bs ≡ None
  found_none_right x [] bs h = h
  found_none_right x (a ∷ as') bs h = by (is_entry x a) refl h (found_none_right x as' bs)
    where
      by : (b : Bool) → is_entry x a ≡ b → cond b (Some a) (find (is_entry x) (as' ++ bs)) ≡ None → (find (is_entry x) (as' ++ bs) ≡ None → find (is_entry x) bs ≡ None) → find (is_entry x) bs ≡ None
      by true is h more = cc
      by false is h more = more h

  first_other : (x : ℕ) (e : Entry) (es : List Entry) → find (is_entry x) (e ∷ es) ≡ None → is_entry x e ≡ false
  first_other x e es h = by (is_entry x e) h
    where
      by : (b : Bool) → cond b (Some e) (find (is_entry x) es) ≡ None → b ≡ false
      by true h = cc
      by false h = refl

  abbrev parts_of : List Decl → List InstanceParts
  parts_of ds = filter_map instance_in ds

  abbrev Alone : List Entry → List Decl → InstanceParts → Type 0
  Alone earlier ds i = (find (is_entry i.name) earlier ≡ None) × (find (λ p. nat_eq p.name i.name) (parts_of ds) ≡ Some i)

  -- a declaration before those of which it is known
  alone_more : (earlier : List Entry) (d : Decl) (ds : List Decl) (i : InstanceParts) → Alone (earlier ++ entries d) ds i → Alone earlier (d ∷ ds) i
  alone_more earlier (Instance place x n bs) ds i h =
      let e : Entry = record { identifier = x; sense = SenseInstance (record { name = x.name; module_name = n.name; bindings = bs }) } in
      let other : nat_eq x.name i.name ≡ false = first_other i.name e (flat_map (labels_in s) (types_in (Instance place x n bs))) (found_none_right i.name earlier (entries (Instance place x n bs)) h.0) in (
        found_none_left i.name earlier (entries (Instance place x n bs)) h.0,
        ap (λ b. cond b (Some (record { name = x.name; module_name = n.name; bindings = bs })) (find (λ p. nat_eq p.name i.name) (parts_of ds))) other ∙ h.1,
      )
  alone_more earlier other ds i h = (found_none_left i.name earlier (entries other) h.0, h.1)

  here_alone : (earlier : List Entry) (d : Decl) (ds : List Decl) (i : InstanceParts) → instance_in d ≡ Some i → repeated_names s earlier (entries d) ≡ [] → Alone earlier (d ∷ ds) i
  unfolding repeated_names
  here_alone earlier (Instance place x n bs) ds i is h =
      let p : InstanceParts = record { name = x.name; module_name = n.name; bindings = bs } in
      let e : Entry = record { identifier = x; sense = SenseInstance p } in
      let rest : List Entry = flat_map (labels_in s) (types_in (Instance place x n bs)) in
      let taken : Bool = is_taken e (find (is_entry x.name) earlier) in
      let unbroken : (is_bit_function s x.name || taken) ≡ false =
      not_broken (is_bit_function s x.name || taken) DuplicateName x.place (first_none (breaks_where (is_bit_function s x.name || taken) DuplicateName x.place) (repeated_names s (earlier ++ e ∷ []) rest) h) in
      let none : find (is_entry x.name) earlier ≡ None = free_name e p (find (is_entry x.name) earlier) refl (right_false (is_bit_function s x.name) taken unbroken) in
      let one : p ≡ i = some_same p i is in
      subst (λ j. Alone earlier (Instance place x n bs ∷ ds) j) one (none, ap (λ b. cond b (Some p) (find (λ q. nat_eq q.name x.name) (parts_of ds))) (same x.name))
  here_alone earlier other ds i is h = none_some i is

  instances_alone : (earlier : List Entry) (ds : List Decl) → repeated_names s earlier (flat_map entries ds) ≡ [] → (i : InstanceParts) → IsAmong i (parts_of ds) → Alone earlier ds i
  unfolding IsAmong
  instances_alone earlier [] h i among = absurd among
  instances_alone earlier (d ∷ ds) h i among =
      let split = sym (two_parts earlier (entries d) (flat_map entries ds)) ∙ h in
      by (instance_in d) refl among (first_none (repeated_names s earlier (entries d)) (repeated_names s (earlier ++ entries d) (flat_map entries ds)) split)
      (λ later. alone_more earlier d ds i (instances_alone (earlier ++ entries d) ds (second_none (repeated_names s earlier (entries d)) (repeated_names s (earlier ++ entries d) (flat_map entries ds)) split) i later))
    where
      by : (o : Option InstanceParts) → instance_in d ≡ o → IsAmong i (cons_option o (parts_of ds)) → repeated_names s earlier (entries d) ≡ [] → (IsAmong i (parts_of ds) → Alone earlier (d ∷ ds) i) → Alone earlier (d ∷ ds) i
      by None is among here more = more among
      by (Some p) is among here more = ⊎_elim (λ e. here_alone earlier d ds i (is ∙ ap (λ q. Some q) (sym e)) here) more among

  pub instance_alone : repeated_names s [] (flat_map entries m.decls) ≡ [] → (i : InstanceParts) → IsAmong i (parts_of m.decls) → find (λ p. nat_eq p.name i.name) (parts_of m.decls) ≡ Some i
  instance_alone h i among = (instances_alone [] m.decls h i among).1
