-- No module of a design that keeps the static rules, or runs, declares two instances of one name.
use Rattle.std.proofs.Common.{◌≡◌, ◌⊎◌, inl, inr, ℕ, zero, suc, ◌<◌, Bool, true, false, not, ◌||◌, List, [], ◌∷◌, ◌++◌, length, map, get_or, slice_get, Option, Some, None, refl, sym, ap, subst, ◌∙◌, arith, append-nil, append_assoc}
use Rattle.std.specs.Prelude.{nat_eq, cond, is_some}
use Rattle.std.specs.List.{flat_map, filter_map, find, All}
use Rattle.uc_lexer.specs.declared.place.Place.{Place}
use Rattle.uc_syntax.specs.WrittenTypes.{types_in}
use Rattle.uc_syntax.specs.declared.declaration.Decl.{Decl}
use Rattle.uc_syntax.specs.declared.declaration.Decl.TheVariants.{Instance}
use Rattle.uc_syntax.specs.declared.declaration.Module.{Module}
use Rattle.uc_meaning.specs.Lookup.{System, InstanceParts, instance_in, instances_of, bound_to, main_module, module_named}
use Rattle.uc_meaning.specs.Cells.{InstanceAt, as_list, module_of_instance, instances_below, instances_from, instances, main_instance, longest_chain}
use Rattle.uc_rules.specs.declared.rule.Rule.{Rule}
use Rattle.uc_rules.specs.declared.rule.Rule.TheVariants.{DuplicateName}
use Rattle.uc_rules.specs.Faults.{breaks_where}
use Rattle.uc_rules.specs.Names.{Entry, Sense, SenseLabel, SenseInstance, same_label, is_taken, is_entry, is_bit_function, repeated_names, names_of, names_in, labels_in}
use Rattle.uc_rules.specs.Cycles.{cycle_faults}
use Rattle.uc_rules.specs.Declarations.{declaration_faults, design_faults, main_faults, main_number, module_faults, naming_faults, repeated_block, init_place, next_place, control_place, repeated_modules, system_with}
use Rattle.uc_declared_types.specs.AliasLaw.{IsAmong}
use Rattle.uc_declared_types.proofs.Among.{among_left, among_right, among_back, find_among}
use Rattle.uc_laws.specs.Laws.{AreApart}
use Rattle.uc_flat_design.specs.Names.{StandsAlone}
use Rattle.uc_flat_design.proofs.Cells.{alone_instances}
use Rattle.uc_flat_design.proofs.Laws.{alone_of}
use Rattle.uc_front.specs.Denotes.{main_name, contents_of, IsTyped}
use Rattle.uclid_laws.specs.Laws.{RunningApart, TypedApart}

-- ---- lists

first_none : {A : Type 0} (xs ys : List A) → xs ++ ys ≡ [] → xs ≡ []
first_none [] ys h = refl
first_none (x ∷ xs) ys h = absurd cc

second_none : {A : Type 0} (xs ys : List A) → xs ++ ys ≡ [] → ys ≡ []
second_none [] ys h = h
second_none (x ∷ xs) ys h = absurd cc

each_none : {A B : Type 0} (f : A → List B) (x : A) (xs : List A) → IsAmong x xs → flat_map f xs ≡ [] → f x ≡ []
unfolding IsAmong
each_none f x [] among h = absurd among
each_none f x (y ∷ xs) (inl e) h = ap f e ∙ first_none (f y) (flat_map f xs) h
each_none f x (y ∷ xs) (inr more) h = each_none f x xs more (second_none (f y) (flat_map f xs) h)

among_at : {A : Type 0} (xs : List A) (i : ℕ) (d : A) → i < length xs → IsAmong (get_or xs i d) xs
unfolding IsAmong
among_at [] i d lt = absurd (omega arith)
among_at (x ∷ xs) zero d lt = inl refl
among_at (x ∷ xs) (suc i) d lt = let lower : i < length xs = omega arith in inr (among_at xs i d lower)

got_among : {A : Type 0} (xs : List A) (n : ℕ) (x : A) → slice_get xs n ≡ Some x → IsAmong x xs
unfolding IsAmong
got_among [] n x at = absurd cc
got_among (y ∷ ys) zero x at = inl cc
got_among (y ∷ ys) (suc n) x at = inr (got_among ys n x at)

-- none of a list is met by a test that finds none
none_found : {A : Type 0} (test : A → Bool) (xs : List A) (y : A) → find test xs ≡ None → IsAmong y xs → test y ≡ false
unfolding IsAmong
none_found test [] y h among = absurd among
none_found test (x ∷ xs) y h among = by (test x) refl h among (none_found test xs y)
  where
    by : (b : Bool) → test x ≡ b → cond b (Some x) (find test xs) ≡ None → (y ≡ x) ⊎ IsAmong y xs → (find test xs ≡ None → IsAmong y xs → test y ≡ false) → test y ≡ false
    by true is e among later = absurd cc
    by false is e (inl same) later = ap test same ∙ is
    by false is e (inr more) later = later e more

right_false : (b c : Bool) → (b || c) ≡ false → c ≡ false
right_false true c h = absurd cc
right_false false c h = h

not_broken : (b : Bool) (rule : Rule) (place : Place) → breaks_where b rule place ≡ [] → b ≡ false
not_broken true rule place h = absurd cc
not_broken false rule place h = refl

unequal : (n m : ℕ) → nat_eq n m ≡ false → m ≡ n → ⊥
unequal n m h e = grind (arith, h, e)

-- ---- names

module _ (s : System) (m : Module) where
  abbrev entries : Decl → List Entry
  entries d = names_of s m d ++ flat_map (labels_in s) (types_in d)

  -- what stands behind names keeps the rule behind them
  behind : (earlier xs ys : List Entry) → repeated_names s earlier (xs ++ ys) ≡ [] → repeated_names s (earlier ++ xs) ys ≡ []
  unfolding repeated_names
  behind earlier [] ys h = subst (λ es. repeated_names s es ys ≡ []) (sym (append-nil earlier)) h
  behind earlier (x ∷ xs) ys h =
      subst (λ es. repeated_names s es ys ≡ []) (append_assoc earlier (x ∷ []) xs)
      (behind (earlier ++ x ∷ []) xs ys (second_none (breaks_where (is_bit_function s x.identifier.name || is_taken x (find (is_entry x.identifier.name) earlier)) DuplicateName x.identifier.place) (repeated_names s (earlier ++ x ∷ []) (xs ++ ys)) h))

  -- an instance is no label that is brought twice
  free_name : (e : Entry) (p : InstanceParts) (o : Option Entry) → e.sense ≡ SenseInstance p → is_taken e o ≡ false → o ≡ None
  free_name e p None is h = refl
  free_name e p (Some first) is h = absurd (clash (sym h ∙ ap not (ap (same_label first.sense) is ∙ no_label first.sense)))
    where
      no_label : (t : Sense) → same_label t (SenseInstance p) ≡ false
      no_label (SenseLabel e k) = refl
      no_label other = refl

      clash : false ≡ true → ⊥
      clash e = cc e

  -- no earlier name is that of an instance
  instance_new : (earlier es : List Entry) (e first : Entry) (p : InstanceParts) → repeated_names s earlier es ≡ [] → IsAmong e es → e.sense ≡ SenseInstance p → IsAmong first earlier → is_entry e.identifier.name first ≡ false
  unfolding repeated_names IsAmong
  instance_new earlier [] e first p h among is there = absurd among
  instance_new earlier (x ∷ xs) e first p h (inl same) is there =
      let named : x.sense ≡ SenseInstance p = ap (λ (y : Entry). y.sense) (sym same) ∙ is in
      let taken : Bool = is_taken x (find (is_entry x.identifier.name) earlier) in
      let unbroken : (is_bit_function s x.identifier.name || taken) ≡ false =
      not_broken (is_bit_function s x.identifier.name || taken) DuplicateName x.identifier.place
      (first_none (breaks_where (is_bit_function s x.identifier.name || taken) DuplicateName x.identifier.place) (repeated_names s (earlier ++ x ∷ []) xs) h) in
      let none = free_name x p (find (is_entry x.identifier.name) earlier) named (right_false (is_bit_function s x.identifier.name) taken unbroken) in
      subst (λ (y : Entry). is_entry y.identifier.name first ≡ false) (sym same) (none_found (is_entry x.identifier.name) earlier first none there)
  instance_new earlier (x ∷ xs) e first p h (inr more) is there =
      instance_new (earlier ++ x ∷ []) xs e first p
      (second_none (breaks_where (is_bit_function s x.identifier.name || is_taken x (find (is_entry x.identifier.name) earlier)) DuplicateName x.identifier.place) (repeated_names s (earlier ++ x ∷ []) xs) h)
      more is (among_left first earlier (x ∷ []) there)

  -- The name of an instance, among the names of declarations.
  record Named (ds : List Decl) (j : InstanceParts) : Type 0 where
    entry : Entry
    among : IsAmong entry (flat_map entries ds)
    name : entry.identifier.name ≡ j.name
    sense : entry.sense ≡ SenseInstance j

  more_named : (d : Decl) (ds : List Decl) (j : InstanceParts) → Named ds j → Named (d ∷ ds) j
  more_named d ds j h = record { entry = h.entry; among = among_right h.entry (entries d) (flat_map entries ds) h.among; name = h.name; sense = h.sense }

  named : (ds : List Decl) (j : InstanceParts) → IsAmong j (filter_map instance_in ds) → Named ds j
  unfolding IsAmong
  named [] j among = absurd among
  named (Instance place x n bs ∷ ds) j (inl same) = record {
    entry = record { identifier = x; sense = SenseInstance (record { name = x.name; module_name = n.name; bindings = bs }) };
    among = inl refl;
    name = ap (λ (p : InstanceParts). p.name) (sym same);
    sense = ap (λ p. SenseInstance p) (sym same);
  }
  named (Instance place x n bs ∷ ds) j (inr more) = more_named (Instance place x n bs) ds j (named ds j more)
  named (other ∷ ds) j among = more_named other ds j (named ds j among)

  apart : (earlier : List Entry) (ds : List Decl) → repeated_names s earlier (flat_map entries ds) ≡ [] → AreApart (filter_map instance_in ds)
  unfolding IsAmong
  apart earlier [] h = tt
  apart earlier (Instance place x n bs ∷ ds) h =
      let d : Decl = Instance place x n bs in
      let first : Entry = record { identifier = x; sense = SenseInstance (record { name = x.name; module_name = n.name; bindings = bs }) } in
      let rest = behind earlier (entries d) (flat_map entries ds) h in
      let others : All (λ j. j.name ≡ x.name → ⊥) (filter_map instance_in ds) = λ i e lt same.
      let j : InstanceParts = get_or (filter_map instance_in ds) i e in
      let known : Named ds j = named ds j (among_at (filter_map instance_in ds) i e lt) in
      let new = instance_new (earlier ++ entries d) (flat_map entries ds) known.entry first j rest known.among known.sense (among_right first earlier (entries d) (inl refl)) in
      unequal x.name known.entry.identifier.name new (known.name ∙ same) in
      (others, apart (earlier ++ entries d) ds rest)
  apart earlier (other ∷ ds) h = apart (earlier ++ entries other) ds (behind earlier (entries other) (flat_map entries ds) h)

  pub names_apart : repeated_names s [] (names_in s m) ≡ [] → AreApart (instances_of m)
  unfolding names_in
  names_apart h = apart [] m.decls h

-- ---- modules

-- the names of a module of a design that keeps the rules are not declared again
names_once : (system : System) (m : Module) → IsTyped system → IsAmong m system.modules → repeated_names (system_with (contents_of system) main_name) [] (names_in (system_with (contents_of system) main_name) m) ≡ []
unfolding design_faults
names_once system m kept among =
    let s : System = system_with (contents_of system) main_name in
    let modules = second_none (main_faults (main_number (contents_of system) main_name)) (repeated_modules system.modules ++ flat_map (module_faults s) system.modules) kept in
    let all = each_none (module_faults s) m system.modules among (second_none (repeated_modules system.modules) (flat_map (module_faults s) system.modules) modules) in
    let naming = first_none (naming_faults s m) (cycle_faults s m) (first_none (naming_faults s m ++ cycle_faults s m) (flat_map (declaration_faults s m) m.decls) all) in
    first_none (repeated_names s [] (names_in s m)) (repeated_block init_place m ++ (repeated_block next_place m ++ repeated_block control_place m)) naming

-- ---- instances

of_option : {A : Type 0} (o : Option A) (x : A) → IsAmong x (as_list o) → o ≡ Some x
unfolding IsAmong
of_option None x among = absurd among
of_option (Some y) x (inl e) = ap (λ z. Some z) (sym e)
of_option (Some y) x (inr more) = absurd more

mapped : {A B : Type 0} (f : A → B) (y : B) (xs : List A) → IsAmong y (map f xs) → (x : A) × IsAmong x xs × (y ≡ f x)
unfolding IsAmong
mapped f y [] among = absurd among
mapped f y (x ∷ xs) (inl e) = (x, inl refl, e)
mapped f y (x ∷ xs) (inr more) = let rest = mapped f y xs more in (rest.0, inr rest.1, rest.2)

-- an instance below another one has a module of the design
below_known : (system : System) (here below : InstanceAt) → IsAmong below (instances_below system here) → IsAmong below.code system.modules
below_known system here below among =
    let one = among_back (λ (i : InstanceParts). map (λ m. record { path = here.path ++ i.name ∷ []; code = m; is_bound = λ x. is_some (bound_to i x) }) (module_of_instance system i)) below (instances_of here.code) among in
    let code = mapped (λ m. record { path = here.path ++ one.0.name ∷ []; code = m; is_bound = λ x. is_some (bound_to one.0 x) }) below (module_of_instance system one.0) one.2 in
    let found : module_named system one.0.module_name ≡ Some code.0 = of_option (module_named system one.0.module_name) code.0 code.1 in
    subst (λ n. IsAmong n system.modules) (ap (λ (i : InstanceAt). i.code) (sym code.2)) (find_among (λ n. nat_eq n.name one.0.module_name) system.modules code.0 found)

from_known : (n : ℕ) (system : System) (top here : InstanceAt) → IsAmong top.code system.modules → IsAmong here (instances_from n system top) → IsAmong here.code system.modules
unfolding instances_from IsAmong
from_known zero system top here known among = absurd among
from_known (suc n) system top here known (inl same) = subst (λ (i : InstanceAt). IsAmong i.code system.modules) (sym same) known
from_known (suc n) system top here known (inr more) =
    let one = among_back (instances_from n system) here (instances_below system top) more in
    from_known n system one.0 here (below_known system top one.0 one.1) one.2

instance_known : (system : System) (here : InstanceAt) → IsAmong here (instances system) → IsAmong here.code system.modules
unfolding instances
instance_known system here among =
    let one = among_back (λ m. instances_from longest_chain system (main_instance m)) here (as_list (main_module system)) among in
    let main : main_module system ≡ Some one.0 = of_option (main_module system) one.0 one.1 in
    from_known longest_chain system (main_instance one.0) here (got_among system.modules system.main one.0 main) one.2

pub typed_apart : TypedApart
typed_apart system kept i d lt =
    let here : InstanceAt = get_or (instances system) i d in
    let known = instance_known system here (among_at (instances system) i d lt) in
    names_apart (system_with (contents_of system) main_name) here.code (names_once system here.code kept known)

-- ---- designs that run

-- what holds of an element holds of each element of the list of just that one
only_one : {A : Type 0} (P : A → Type 0) (x : A) → P x → All P (x ∷ [])
only_one P x h zero d lt = h
only_one P x h (suc i) d lt = absurd (omega arith)

-- one has one instance, and its module has none
pub running_apart : RunningApart
running_apart system runs =
    let code = runs.over.code in
    let alone : StandsAlone system code = alone_of system code runs.flat runs.over.is_flat in
    let none : AreApart (instances_of code) = subst AreApart (sym alone.alone) tt in
    subst (All (λ here. AreApart (instances_of here.code))) (sym (alone_instances system code alone)) (only_one (λ here. AreApart (instances_of here.code)) (main_instance code) none)
