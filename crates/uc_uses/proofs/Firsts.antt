-- First answers along a list that grows at its end.
use Rattle.std.proofs.Common.{◌≡◌, ℕ, ◌+◌, ◌<◌, ◌≤◌, Bool, true, false, List, [], ◌∷◌, ◌++◌, length, take, get_or, Option, Some, None, refl, ap, sym, ◌∙◌, arith}
use Rattle.std.specs.Prelude.{nat_eq, ◌||◌, if◌then◌else◌}
use Rattle.std.specs.Option.{option_map}
use Rattle.std.proofs.lemmas.List.{take_all, take_more}
use Rattle.std.proofs.lemmas.List.Folds.{list_any-append}
use Rattle.indexmap.specs.IndexMap.{get}
use Rattle.uc_syntax.specs.declared.place.Identifier.{Identifier}
use Rattle.uc_syntax.specs.declared.type_expression.TypeExpr.{TypeExpr}
use Rattle.uc_syntax.specs.declared.declaration.Binding.{Binding}
use Rattle.uc_syntax.specs.declared.declaration.VariableKind.{VariableKind}
use Rattle.uc_syntax.specs.declared.declaration.Decl.{Decl}
use Rattle.uc_meaning.specs.Lookup.{first_some, is_named, names_one, or_else, some_if, variable_in}
use Rattle.uc_rules.specs.Names.{only_if}
use Rattle.uc_order_rules.specs.Roots.{is_input}
use Rattle.uc_names.specs.declared.firsts.Firsts.{Firsts}
use Rattle.uc_uses.specs.Inputs.{KnowsInputs, input_said}
use Rattle.uc_uses.specs.Sources.{SourceMeant, OfExpression, bound_source, if_input, said_bound}

pub or_none : {B : Type 0} (o : Option B) → or_else o None ≡ o
or_none None = refl
or_none (Some y) = refl

or_or : {B : Type 0} (a b c : Option B) → or_else (or_else a b) c ≡ or_else a (or_else b c)
or_or None b c = refl
or_or (Some y) b c = refl

pub first_push : {A B : Type 0} (f : A → Option B) (xs : List A) (y : A) → first_some f (xs ++ y ∷ []) ≡ or_else (first_some f xs) (f y)
unfolding first_some
first_push f [] y = or_none (f y)
first_push f (x ∷ xs) y = ap (or_else (f x)) (first_push f xs y) ∙ sym (or_or (f x) (first_some f xs) (f y))

pub first_more : {A B : Type 0} (f : A → Option B) (xs : List A) (k : ℕ) (x d : A) → k < length xs → x ≡ get_or xs k d → or_else (first_some f (take k xs)) (f x) ≡ first_some f (take (k + 1) xs)
first_more f xs k x d within at = sym (ap (first_some f) (take_more xs k d within ∙ ap (λ y. take k xs ++ y ∷ []) (sym at)) ∙ first_push f (take k xs) x)

pub first_all : {A B : Type 0} (f : A → Option B) (xs : List A) (k : ℕ) → length xs ≤ k → first_some f (take k xs) ≡ first_some f xs
first_all f xs k past = ap (first_some f) (take_all k xs past)

pub first_none : {A B : Type 0} (f : A → Option B) → first_some f [] ≡ None
unfolding first_some
first_none f = refl

map_or : {T B : Type 0} (g : T → B) (a b : Option T) → option_map g (or_else a b) ≡ or_else (option_map g a) (option_map g b)
map_or g None b = refl
map_or g (Some y) b = refl

pub first_map : {A T B : Type 0} (g : T → B) (f : A → Option T) (xs : List A) → first_some (λ x. option_map g (f x)) xs ≡ option_map g (first_some f xs)
unfolding first_some
first_map g f [] = refl
first_map g f (x ∷ xs) = ap (or_else (option_map g (f x))) (first_map g f xs) ∙ sym (map_or g (f x) (first_some f xs))

-- ---- inputs

pub only_one : (names : List Identifier) (i : Identifier) (x : ℕ) (flag : Bool) (o : Option Bool) →
    or_else (or_else o (only_if (names_one x names) (Some flag))) (only_if (nat_eq i.name x) (Some flag)) ≡ or_else o (only_if (names_one x (names ++ i ∷ [])) (Some flag))
only_one names i x flag o = by o (names_one x names) (nat_eq i.name x) ∙ ap (λ b. or_else o (only_if b (Some flag))) (right (names_one x names) (nat_eq i.name x) ∙ sym (list_any-append (is_named x) names (i ∷ [])))
  where
    right : (b c : Bool) → (b || c) ≡ (b || (c || false))
    right true c = refl
    right false true = refl
    right false false = refl

    by : (o : Option Bool) (b c : Bool) → or_else (or_else o (only_if b (Some flag))) (only_if c (Some flag)) ≡ or_else o (only_if (b || c) (Some flag))
    by None true c = refl
    by None false c = refl
    by (Some y) b c = refl

pub names_more : (names : List Identifier) (k : ℕ) (i d : Identifier) (flag : Bool) (old mid new : ℕ → Option Bool) → k < length names → i ≡ get_or names k d →
    ((x : ℕ) → mid x ≡ or_else (old x) (only_if (names_one x (take k names)) (Some flag))) → ((x : ℕ) → new x ≡ or_else (mid x) (only_if (nat_eq i.name x) (Some flag))) →
    (x : ℕ) → new x ≡ or_else (old x) (only_if (names_one x (take (k + 1) names)) (Some flag))
names_more names k i d flag old mid new within at held says x =
    says x
    ∙ ap (λ o. or_else o (only_if (nat_eq i.name x) (Some flag))) (held x)
    ∙ only_one (take k names) i x flag (old x)
    ∙ ap (λ ns. or_else (old x) (only_if (names_one x ns) (Some flag))) (sym (take_more names k d within ∙ ap (λ y. take k names ++ y ∷ []) (sym at)))

pub names_all : (names : List Identifier) (k : ℕ) (flag : Bool) (old new : ℕ → Option Bool) → length names ≤ k → ((x : ℕ) → new x ≡ or_else (old x) (only_if (names_one x (take k names)) (Some flag))) →
    (x : ℕ) → new x ≡ or_else (old x) (only_if (names_one x names) (Some flag))
names_all names k flag old new past held x = held x ∙ ap (λ ns. or_else (old x) (only_if (names_one x ns) (Some flag))) (take_all k names past)

-- a flag for each name
pub said_flag : (b : Bool) (kind : VariableKind) (type : TypeExpr) (flag : Bool) → flag ≡ is_input (Some (kind, type)) → only_if b (Some flag) ≡ option_map (λ v. is_input (Some v)) (some_if b (kind, type))
said_flag true kind type flag h = ap (λ f. Some f) h
said_flag false kind type flag h = refl

abbrev pub InputsTo : List Decl → ℕ → Firsts Bool → Type 0
InputsTo ds k t = (x : ℕ) → get nat_eq t.things x ≡ first_some (input_said x) (take k ds)

pub inputs_all : (ds : List Decl) (k : ℕ) (t : Firsts Bool) → length ds ≤ k → InputsTo ds k t → KnowsInputs ds t
unfolding KnowsInputs
inputs_all ds k t past held x = held x ∙ first_all (input_said x) ds k past ∙ first_map (λ v. is_input (Some v)) (variable_in x) ds

-- ---- bindings

equal : (n m : ℕ) → nat_eq n m ≡ true → n ≡ m
equal n m h = grind (arith, h)

one_binding : (inputs : Firsts Bool) (above x : ℕ) (b : Binding) → said_bound inputs above x b ≡ if_input (get nat_eq inputs.things x) (some_if (is_named x b.identifier) (OfExpression above b.expression))
one_binding inputs above x b = by (nat_eq b.identifier.name x) refl
  where
    nowhere : (o : Option Bool) → if_input o None ≡ None
    nowhere None = refl
    nowhere (Some true) = refl
    nowhere (Some false) = refl

    by : (c : Bool) → nat_eq b.identifier.name x ≡ c → if_input (get nat_eq inputs.things b.identifier.name) (some_if c (OfExpression above b.expression)) ≡ if_input (get nat_eq inputs.things x) (some_if c (OfExpression above b.expression))
    by true e = ap (λ y. if_input (get nat_eq inputs.things y) (Some (OfExpression above b.expression))) (equal b.identifier.name x e)
    by false e = nowhere (get nat_eq inputs.things b.identifier.name) ∙ sym (nowhere (get nat_eq inputs.things x))

some_map : {A B : Type 0} (g : A → B) (b : Bool) (y : A) → some_if b (g y) ≡ option_map g (some_if b y)
some_map g true y = refl
some_map g false y = refl

if_or : (o : Option Bool) (a b : Option SourceMeant) → or_else (if_input o a) (if_input o b) ≡ if_input o (or_else a b)
if_or None a b = refl
if_or (Some true) a b = refl
if_or (Some false) a b = refl

if_none : (o : Option Bool) → None ≡ if_input o None
if_none None = refl
if_none (Some true) = refl
if_none (Some false) = refl

all_bindings : (inputs : Firsts Bool) (above x : ℕ) (bs : List Binding) →
    first_some (said_bound inputs above x) bs ≡ if_input (get nat_eq inputs.things x) (option_map (OfExpression above) (first_some (λ b. some_if (is_named x b.identifier) b.expression) bs))
unfolding first_some
all_bindings inputs above x [] = if_none (get nat_eq inputs.things x)
all_bindings inputs above x (b ∷ bs) =
    ap (λ o. or_else o (first_some (said_bound inputs above x) bs)) (one_binding inputs above x b ∙ ap (if_input (get nat_eq inputs.things x)) (some_map (OfExpression above) (is_named x b.identifier) b.expression))
    ∙ ap (or_else (if_input (get nat_eq inputs.things x) (option_map (OfExpression above) (some_if (is_named x b.identifier) b.expression)))) (all_bindings inputs above x bs)
    ∙ if_or (get nat_eq inputs.things x) (option_map (OfExpression above) (some_if (is_named x b.identifier) b.expression)) (option_map (OfExpression above) (first_some (λ c. some_if (is_named x c.identifier) c.expression) bs))
    ∙ ap (if_input (get nat_eq inputs.things x)) (sym (map_or (OfExpression above) (some_if (is_named x b.identifier) b.expression) (first_some (λ c. some_if (is_named x c.identifier) c.expression) bs)))

pub bound_is : (ds : List Decl) (inputs : Firsts Bool) → KnowsInputs ds inputs → (above x : ℕ) (bs : List Binding) →
    bound_source inputs above bs x ≡ (if is_input (first_some (variable_in x) ds) then option_map (OfExpression above) (first_some (λ b. some_if (is_named x b.identifier) b.expression) bs) else None)
unfolding bound_source KnowsInputs
bound_is ds inputs knows above x bs = all_bindings inputs above x bs ∙ ap (λ o. if_input o rest) (knows x) ∙ by (first_some (variable_in x) ds)
  where
    rest : Option SourceMeant
    rest = option_map (OfExpression above) (first_some (λ b. some_if (is_named x b.identifier) b.expression) bs)

    flag : (b : Bool) → if_input (Some b) rest ≡ (if b then rest else None)
    flag true = refl
    flag false = refl

    by : (o : Option (VariableKind × TypeExpr)) → if_input (option_map (λ v. is_input (Some v)) o) rest ≡ (if is_input o then rest else None)
    by None = refl
    by (Some v) = flag (is_input (Some v))
