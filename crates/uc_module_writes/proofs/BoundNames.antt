-- What instances bind.
use Rattle.std.proofs.Common.{◌≡◌, ℕ, ◌+◌, ◌<◌, ◌≤◌, Bool, true, false, cond, List, [], ◌∷◌, ◌++◌, length, take, get_or, map, Option, Some, None, refl, ap, ◌∙◌, ◌⊎◌, ⊎_elim, inl, inr, sym, subst, arith}
use Rattle.std.specs.Prelude.{◌||◌, nat_eq}
use Rattle.std.specs.List.{cons_option, filter_map, flat_map, list_any}
use Rattle.std.specs.Option.{option_and_then}
use Rattle.std.proofs.lemmas.List.{take_all}
use Rattle.std.proofs.lemmas.List.Folds.{list_any-append}
use Rattle.uc_syntax.specs.declared.declaration.Binding.{Binding}
use Rattle.uc_syntax.specs.declared.declaration.Decl.{Decl}
use Rattle.uc_syntax.specs.declared.declaration.Decl.TheVariants.{Instance}
use Rattle.uc_syntax.specs.declared.declaration.Module.{Module}
use Rattle.uc_syntax.specs.declared.expression.Expr.{Expr}
use Rattle.uc_syntax.specs.declared.expression.Expr.TheViews.{out-Expr}
use Rattle.uc_meaning.specs.Cells.{as_list}
use Rattle.uc_meaning.specs.Code.{name_form}
use Rattle.uc_meaning.specs.Lookup.{InstanceParts, System, first_some, instance_in, instances_of, is_named, or_else, some_if}
use Rattle.uc_rules.specs.Names.{names_one_of}
use Rattle.uc_rules.proofs.Lists.{take_turn}
use Rattle.uc_declared_types.specs.AliasLaw.{IsAmong}
use Rattle.uc_declared_types.proofs.Along.{or_left, or_right}
use Rattle.uc_declared_types.proofs.Among.{among_split}
use Rattle.uc_order_rules.specs.Pairs.{SameThings}
use Rattle.uc_order_rules.proofs.Chosen.{added_once}
use Rattle.uc_module_writes.specs.Bound.{BindsApart, all_bound, bound_by, bound_in, declared_bindings, seen_in}
use Rattle.uc_module_writes.specs.Stepped.{MeetsAmong, MeetsOutside}
use Rattle.uc_module_writes.proofs.Outside.{apart_outside, bound_outside}

equal : (n m : ℕ) → nat_eq n m ≡ true → n ≡ m
equal n m h = grind (arith, h)

same : (n : ℕ) → nat_eq n n ≡ true
same n = grind arith

none_some : {A B : Type 0} (x : B) → None ≡ Some x → A
none_some x h = cc

some_same : {A : Type 0} (x y : A) → Some x ≡ Some y → x ≡ y
some_same x y h = cc

pub name_added : (x : ℕ) (xs now : List ℕ) → now ≡ cond (list_any (nat_eq x) xs) xs (xs ++ x ∷ []) → SameThings now (xs ++ x ∷ [])
name_added = added_once nat_eq equal

-- a name that is bound to a name is one of those that are bound
has_binding : (x y : ℕ) (bs : List Binding) → option_and_then (λ e. name_form (out-Expr e)) (first_some (λ b. some_if (is_named x b.identifier) b.expression) bs) ≡ Some y → list_any (nat_eq x) (map (λ b. b.identifier.name) bs) ≡ true
unfolding first_some
has_binding x y [] h = none_some y h
has_binding x y (b ∷ bs) h = by (nat_eq b.identifier.name x) refl h (has_binding x y bs)
  where
    by : (c : Bool) → nat_eq b.identifier.name x ≡ c →
        option_and_then (λ e. name_form (out-Expr e)) (or_else (some_if c b.expression) (first_some (λ d. some_if (is_named x d.identifier) d.expression) bs)) ≡ Some y →
        (option_and_then (λ e. name_form (out-Expr e)) (first_some (λ d. some_if (is_named x d.identifier) d.expression) bs) ≡ Some y → list_any (nat_eq x) (map (λ d. d.identifier.name) bs) ≡ true) →
        (nat_eq x b.identifier.name || list_any (nat_eq x) (map (λ d. d.identifier.name) bs)) ≡ true
    by true e i rest = let turned : nat_eq x b.identifier.name ≡ true = grind (arith, e) in or_left (nat_eq x b.identifier.name) (list_any (nat_eq x) (map (λ d. d.identifier.name) bs)) turned
    by false e i rest = or_right (nat_eq x b.identifier.name) (list_any (nat_eq x) (map (λ d. d.identifier.name) bs)) (rest i)

any_joined : (test : ℕ → Bool) (xs ys : List ℕ) → (list_any test xs ≡ true) ⊎ (list_any test ys ≡ true) → list_any test (xs ++ ys) ≡ true
any_joined test xs ys h = list_any-append test xs ys ∙ ⊎_elim (λ a. or_left (list_any test xs) (list_any test ys) a) (λ b. or_right (list_any test xs) (list_any test ys) b) h

abbrev binds_of : Option InstanceParts → List ℕ
binds_of None = []
binds_of (Some i) = map (λ b. b.identifier.name) i.bindings

-- what an instance binds is what its declaration binds
bound_as : (d : Decl) → bound_in d ≡ binds_of (instance_in d)
bound_as (Instance place i n bindings) = refl
bound_as other = refl

-- what an instance binds is what some declaration binds
declared_bound : (i : InstanceParts) (test : ℕ → Bool) (ds : List Decl) → IsAmong i (filter_map instance_in ds) → list_any test (map (λ b. b.identifier.name) i.bindings) ≡ true → list_any test (flat_map bound_in ds) ≡ true
unfolding IsAmong
declared_bound i test [] h t = absurd h
declared_bound i test (d ∷ ds) h t = any_joined test (bound_in d) (flat_map bound_in ds) (by (instance_in d) refl h (λ r. declared_bound i test ds r t))
  where
    by : (o : Option InstanceParts) → instance_in d ≡ o → IsAmong i (cons_option o (filter_map instance_in ds)) → (IsAmong i (filter_map instance_in ds) → list_any test (flat_map bound_in ds) ≡ true) →
        (list_any test (bound_in d) ≡ true) ⊎ (list_any test (flat_map bound_in ds) ≡ true)
    by None e k rest = inr (rest k)
    by (Some j) e k rest = ⊎_elim (λ is. inl (ap (list_any test) (bound_as d ∙ ap binds_of e ∙ ap (λ (q : InstanceParts). map (λ b. b.identifier.name) q.bindings) (sym is)) ∙ t)) (λ r. inr (rest r)) k

module_bound : (i : InstanceParts) (test : ℕ → Bool) (ms : List Module) (m : Module) → IsAmong m ms → IsAmong i (instances_of m) → list_any test (map (λ b. b.identifier.name) i.bindings) ≡ true → list_any test (flat_map (λ k. flat_map bound_in k.decls) ms) ≡ true
unfolding IsAmong
module_bound i test [] m among inside t = absurd among
module_bound i test (k ∷ ms) m among inside t =
    any_joined test (flat_map bound_in k.decls) (flat_map (λ n. flat_map bound_in n.decls) ms)
    (⊎_elim (λ e. inl (ap (λ (n : Module). list_any test (flat_map bound_in n.decls)) (sym e) ∙ declared_bound i test m.decls inside t)) (λ r. inr (module_bound i test ms m r inside t)) among)

pub all_bind : (names : List ℕ) (ms : List Module) → SameThings names (all_bound ms) → (m : Module) → IsAmong m ms → MeetsAmong names m
unfolding all_bound
all_bind names ms same m among i inside =
    bound_outside names i (λ x y bound. same (nat_eq x) ∙ module_bound i (nat_eq x) ms m among inside (has_binding x y i.bindings bound))

pub none_bind : (names : List ℕ) (ms : List Module) → names ≡ [] → ((m : Module) → IsAmong m ms → (i : InstanceParts) → IsAmong i (instances_of m) → BindsApart i.bindings) → (m : Module) → IsAmong m ms → MeetsAmong names m
none_bind names ms none apart m among i inside = subst (λ ns. MeetsOutside ns i) (sym none) (apart_outside i (apart m among i inside))

pub binds_as : (system : System) (names : List ℕ) (ms : List Module) → ms ≡ system.modules → ((m : Module) → IsAmong m ms → MeetsAmong names m) → (m : Module) → IsAmong m system.modules → MeetsAmong names m
binds_as system names ms is bind = subst (λ ks. (m : Module) → IsAmong m ks → MeetsAmong names m) is bind

-- Bindings one by one.

or_true : (b : Bool) → (b || true) ≡ true
or_true true = refl
or_true false = refl

abbrev named : ℕ → Binding → Option Expr
named x b = some_if (is_named x b.identifier) b.expression

abbrev form : Expr → Option ℕ
form e = name_form (out-Expr e)

named_push : (x : ℕ) (bs : List Binding) (b : Binding) → first_some (named x) (bs ++ b ∷ []) ≡ or_else (first_some (named x) bs) (named x b)
unfolding first_some
named_push x [] b = last (named x b)
  where
    last : (o : Option Expr) → or_else o None ≡ o
    last None = refl
    last (Some e) = refl
named_push x (c ∷ bs) b = ap (or_else (named x c)) (named_push x bs b) ∙ assoc (named x c) (first_some (named x) bs) (named x b)
  where
    assoc : (o r q : Option Expr) → or_else o (or_else r q) ≡ or_else (or_else o r) q
    assoc None r q = refl
    assoc (Some e) r q = refl

found_in : (x z : ℕ) (bs : List Binding) (b : Binding) → bound_by (bs ++ b ∷ []) x ≡ Some z → (bound_by bs x ≡ Some z) ⊎ ((b.identifier.name ≡ x) × (form b.expression ≡ Some z))
found_in x z bs b h = by (first_some (named x) bs) (nat_eq b.identifier.name x) refl refl (sym (ap (option_and_then form) (named_push x bs b)) ∙ h)
  where
    by : (o : Option Expr) (c : Bool) → first_some (named x) bs ≡ o → nat_eq b.identifier.name x ≡ c → option_and_then form (or_else (first_some (named x) bs) (some_if (nat_eq b.identifier.name x) b.expression)) ≡ Some z →
        (bound_by bs x ≡ Some z) ⊎ ((b.identifier.name ≡ x) × (form b.expression ≡ Some z))
    by (Some e) c is test k = inl (ap (option_and_then form) is ∙ sym (ap (λ o. option_and_then form (or_else o (some_if (nat_eq b.identifier.name x) b.expression))) is) ∙ k)
    by None true is test k = inr (equal b.identifier.name x test, sym (λ j. option_and_then form (or_else (is j) (some_if (test j) b.expression))) ∙ k)
    by None false is test k = none_some z (sym (λ j. option_and_then form (or_else (is j) (some_if (test j) b.expression))) ∙ k)

-- The bindings before place k bind to names of their own, all of which were seen.
pub record ApartTo (bs : List Binding) (k : ℕ) (seen : List ℕ) : Type 0 where
  pub apart : BindsApart (take k bs)
  pub all : (x z : ℕ) → bound_by (take k bs) x ≡ Some z → names_one_of seen z ≡ true

nothing_bound : (bs : List Binding) (x z : ℕ) → bound_by (take 0 bs) x ≡ Some z → None ≡ Some z
unfolding first_some
nothing_bound [] x z h = h
nothing_bound (b ∷ bs) x z h = h

pub apart_begin : (bs : List Binding) (seen : List ℕ) → ApartTo bs 0 seen
apart_begin bs seen = record { apart = λ x y z h k. none_some z (nothing_bound bs x z h); all = λ x z h. none_some z (nothing_bound bs x z h) }

pub apart_more : (bs : List Binding) (k : ℕ) (seen later : List ℕ) (b d : Binding) (o : Option ℕ) → ApartTo bs k seen → k < length bs → b ≡ get_or bs k d → o ≡ form b.expression → seen_in seen o ≡ false → SameThings later (seen ++ as_list o) → ApartTo bs (k + 1) later
apart_more bs k seen later b d o held within at is away grows = record { apart = apart; all = all }
  where
    turn : take (k + 1) bs ≡ take k bs ++ b ∷ []
    turn = take_turn bs k b d within at

    either : (x z : ℕ) → bound_by (take (k + 1) bs) x ≡ Some z → (bound_by (take k bs) x ≡ Some z) ⊎ ((b.identifier.name ≡ x) × (form b.expression ≡ Some z))
    either x z h = found_in x z (take k bs) b (sym (ap (λ cs. bound_by cs x) turn) ∙ h)

    -- what is bound now was not seen
    fresh : (z : ℕ) → form b.expression ≡ Some z → names_one_of seen z ≡ false
    fresh z e = sym (ap (seen_in seen) (is ∙ e)) ∙ away

    clash : {A : Type 0} (x z : ℕ) → bound_by (take k bs) x ≡ Some z → form b.expression ≡ Some z → A
    clash x z h e = let bad : true ≡ false = sym (held.all x z h) ∙ fresh z e in cc

    apart : BindsApart (take (k + 1) bs)
    apart x y z h i =
        ⊎_elim
        (λ l. ⊎_elim (λ m. held.apart x y z l m) (λ r. clash x z l r.1) (either y z i))
        (λ r. ⊎_elim (λ m. clash y z m r.1) (λ q. sym r.0 ∙ q.0) (either y z i))
        (either x z h)

    grown : (z : ℕ) → names_one_of later z ≡ (names_one_of seen z || names_one_of (as_list o) z)
    grown z = grows (nat_eq z) ∙ list_any-append (nat_eq z) seen (as_list o)

    last : (z : ℕ) → form b.expression ≡ Some z → names_one_of (as_list o) z ≡ true
    last z e = ap (λ r. names_one_of (as_list r) z) (is ∙ e) ∙ ap (λ c. c || false) (same z)

    all : (x z : ℕ) → bound_by (take (k + 1) bs) x ≡ Some z → names_one_of later z ≡ true
    all x z h =
        ⊎_elim
        (λ l. grown z ∙ ap (λ c. c || names_one_of (as_list o) z) (held.all x z l))
        (λ r. grown z ∙ ap (λ c. names_one_of seen z || c) (last z r.1) ∙ or_true (names_one_of seen z))
        (either x z h)

pub apart_end : (bs : List Binding) (k : ℕ) (seen : List ℕ) → ApartTo bs k seen → length bs ≤ k → BindsApart bs
apart_end bs k seen held past = subst BindsApart (take_all k bs past) held.apart

-- Instances one by one.

abbrev bindings_as : Option InstanceParts → List Binding
bindings_as None = []
bindings_as (Some i) = i.bindings

declared_are : (d : Decl) → declared_bindings d ≡ bindings_as (instance_in d)
declared_are (Instance place i n bindings) = refl
declared_are other = refl

filter_push : (i : InstanceParts) (ds : List Decl) (d : Decl) → IsAmong i (filter_map instance_in (ds ++ d ∷ [])) → IsAmong i (filter_map instance_in ds) ⊎ (instance_in d ≡ Some i)
unfolding IsAmong
filter_push i [] d h = by (instance_in d) refl h
  where
    by : (o : Option InstanceParts) → instance_in d ≡ o → IsAmong i (cons_option o []) → ⊥ ⊎ (instance_in d ≡ Some i)
    by None e k = inl k
    by (Some j) e k = ⊎_elim (λ is. inr (e ∙ ap (λ q. Some q) (sym is))) (λ n. inl n) k
filter_push i (e ∷ ds) d h = by (instance_in e) h (filter_push i ds d)
  where
    by : (o : Option InstanceParts) → IsAmong i (cons_option o (filter_map instance_in (ds ++ d ∷ []))) → (IsAmong i (filter_map instance_in (ds ++ d ∷ [])) → IsAmong i (filter_map instance_in ds) ⊎ (instance_in d ≡ Some i)) →
        IsAmong i (cons_option o (filter_map instance_in ds)) ⊎ (instance_in d ≡ Some i)
    by None k rest = rest k
    by (Some j) k rest = ⊎_elim (λ is. inl (inl is)) (λ r. ⊎_elim (λ l. inl (inr l)) (λ q. inr q) (rest r)) k

pub record InstancesTo (ds : List Decl) (k : ℕ) : Type 0 where
  pub apart : (i : InstanceParts) → IsAmong i (filter_map instance_in (take k ds)) → BindsApart i.bindings

pub instances_begin : (ds : List Decl) → InstancesTo ds 0
unfolding IsAmong
instances_begin [] = record { apart = λ i h. absurd h }
instances_begin (d ∷ ds) = record { apart = λ i h. absurd h }

pub instances_more : (ds : List Decl) (k : ℕ) (d x : Decl) (bs : List Binding) → InstancesTo ds k → k < length ds → d ≡ get_or ds k x → bs ≡ declared_bindings d → BindsApart bs → InstancesTo ds (k + 1)
instances_more ds k d x bs held within at is apart = record {
  apart = λ i h.
      ⊎_elim (λ l. held.apart i l) (λ e. subst BindsApart (is ∙ declared_are d ∙ ap bindings_as e) apart)
      (filter_push i (take k ds) d (subst (λ es. IsAmong i (filter_map instance_in es)) (take_turn ds k d x within at) h));
}

pub instances_end : (ds : List Decl) (k : ℕ) → InstancesTo ds k → length ds ≤ k → (i : InstanceParts) → IsAmong i (filter_map instance_in ds) → BindsApart i.bindings
instances_end ds k held past i h = held.apart i (subst (λ es. IsAmong i (filter_map instance_in es)) (sym (take_all k ds past)) h)

pub record ModulesTo (ms : List Module) (k : ℕ) : Type 0 where
  pub apart : (m : Module) → IsAmong m (take k ms) → (i : InstanceParts) → IsAmong i (instances_of m) → BindsApart i.bindings

pub modules_begin : (ms : List Module) → ModulesTo ms 0
unfolding IsAmong
modules_begin [] = record { apart = λ m h. absurd h }
modules_begin (m ∷ ms) = record { apart = λ n h. absurd h }

one_among : (m n : Module) → IsAmong n (m ∷ []) → n ≡ m
unfolding IsAmong
one_among m n h = ⊎_elim (λ e. e) (λ r. absurd r) h

pub modules_more : (ms : List Module) (k : ℕ) (m d : Module) (ds : List Decl) → ModulesTo ms k → k < length ms → m ≡ get_or ms k d → ds ≡ m.decls → ((i : InstanceParts) → IsAmong i (filter_map instance_in ds) → BindsApart i.bindings) → ModulesTo ms (k + 1)
modules_more ms k m d ds held within at is apart = record {
  apart = λ n h.
      ⊎_elim (λ l. held.apart n l)
      (λ r. λ i inside. apart i (subst (λ es. IsAmong i (filter_map instance_in es)) (ap (λ (q : Module). q.decls) (one_among m n r) ∙ sym is) inside))
      (among_split n (take k ms) (m ∷ []) (subst (λ ns. IsAmong n ns) (take_turn ms k m d within at) h));
}

pub modules_end : (ms : List Module) (k : ℕ) → ModulesTo ms k → length ms ≤ k → (m : Module) → IsAmong m ms → (i : InstanceParts) → IsAmong i (instances_of m) → BindsApart i.bindings
modules_end ms k held past m h = held.apart m (subst (λ ns. IsAmong m ns) (sym (take_all k ms past)) h)
