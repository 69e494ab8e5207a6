-- What is found of an instance, by what is found of its parts.
use Rattle.std.proofs.Common.{◌≡◌, ℕ, ◌+◌, ◌<◌, ◌≤◌, Bool, true, false, List, [], ◌∷◌, ◌++◌, length, map, take, get_or, Option, Some, None, refl, ap, ◌∙◌, sym, subst, arith}
use Rattle.std.specs.Prelude.{◌&&◌, ◌||◌, nat_eq, not, if◌then◌else◌}
use Rattle.std.specs.List.{flat_map, list_all, list_any}
use Rattle.std.proofs.lemmas.List.{take_all}
use Rattle.std.proofs.lemmas.List.Folds.{list_all-append, list_any-append}
use Rattle.uc_lexer.specs.declared.place.Place.{Place}
use Rattle.uc_syntax.specs.declared.place.Identifier.{Identifier}
use Rattle.uc_syntax.specs.declared.declaration.Binding.{Binding}
use Rattle.uc_syntax.specs.declared.declaration.Decl.{Decl}
use Rattle.uc_syntax.specs.declared.declaration.VariableKind.TheVariants.{Variable, Input, Output, Constant}
use Rattle.uc_syntax.specs.declared.declaration.Module.{Module}
use Rattle.uc_values.specs.declared.ty.Ty.{Ty}
use Rattle.uc_meaning.specs.Lookup.{System, module_named}
use Rattle.uc_rules.specs.declared.fault.Fault.{Fault}
use Rattle.uc_rules.specs.declared.rule.Rule.TheVariants.{Unbound, UnknownName}
use Rattle.uc_rules.specs.Declarations.{are_bound, binding_faults, bindings_found, in_module, inputs_in, instance_faults, output_named, output_typed, output_valued, value_bound}
use Rattle.uc_rules.specs.Expressions.{Context, judged}
use Rattle.uc_rules.specs.Faults.{breaks, breaks_where, broken, earlier, first_of}
use Rattle.uc_rules.specs.Names.{Valued, ValuedVariable, ValuedLabel, names_one_of, repeated_in_list, value_named}
use Rattle.uc_rules.proofs.Chains.{first_of_append}
use Rattle.uc_rules.proofs.Lists.{take_turn}
use Rattle.uc_rules.proofs.Swaps.{any_order}
use Rattle.uc_type_names.specs.NameSets.{with_name}
use Rattle.uc_rules.specs.Statements.{is_written_value}
use Rattle.uc_expression_rules.specs.Judging.{Judges}
use Rattle.uc_statement_rules.proofs.Noted.{append_nil, noted_both}
use Rattle.uc_declaration_rules.specs.Judging.{KnowsBindings, are_known, bound_faults, bound_where, judged_and_bound, missing_faults, output_faults, value_faults, valued_faults}

module _ (s : System) (m : Module) where
  abbrev home : Context
  home = in_module s m

  value_is : (n : Module) (b : Binding) (o : Option Valued) → value_faults home n b (judged b.expression home).type o ≡ value_bound s m n b.identifier.place (judged b.expression home) o
  value_is n b (Some (ValuedVariable Variable type)) = refl
  value_is n b (Some (ValuedVariable Input type)) = refl
  value_is n b (Some (ValuedVariable Output type)) = refl
  value_is n b (Some (ValuedVariable Constant type)) = refl
  value_is n b (Some (ValuedLabel e)) = refl
  value_is n b None = refl

  bound_is : (n : Module) (b : Binding) → bound_faults home n b (judged b.expression home).type ≡ binding_faults s m n b
  bound_is n b = value_is n b (value_named s n b.identifier.name)

  -- faults of two kinds for each of a list, one kind after the other
  both_kinds : {A : Type 0} (f g : A → List Fault) (o : Option Fault) (xs : List A) → first_of o (flat_map (λ x. f x ++ g x) xs) ≡ first_of (first_of o (flat_map f xs)) (flat_map g xs)
  unfolding first_of
  both_kinds f g o [] = refl
  both_kinds f g o (x ∷ xs) =
      first_of_append o (f x ++ g x) (flat_map (λ x. f x ++ g x) xs)
      ∙ ap (λ p. first_of p (flat_map (λ x. f x ++ g x) xs)) (first_of_append o (f x) (g x))
      ∙ both_kinds f g (first_of (first_of o (f x)) (g x)) xs
      ∙ ap (λ p. first_of p (flat_map g xs)) (any_order (first_of o (f x)) (g x) (flat_map f xs))
      ∙ sym (first_of_append (first_of (first_of o (f x)) (flat_map f xs)) (g x) (flat_map g xs))
      ∙ ap (λ p. first_of p (g x ++ flat_map g xs)) (sym (first_of_append o (f x) (flat_map f xs)))

  abbrev bound_expressions : List Binding → List Fault
  bound_expressions bs = flat_map (λ b. (judged b.expression home).faults) bs

  none_bound : (bs : List Binding) → flat_map (bound_where home None) bs ≡ []
  none_bound [] = refl
  none_bound (b ∷ bs) = none_bound bs

  all_bound : (n : Module) (bs : List Binding) → flat_map (bound_where home (Some n)) bs ≡ flat_map (binding_faults s m n) bs
  all_bound n [] = refl
  all_bound n (b ∷ bs) = (λ k. bound_is n b k ++ all_bound n bs k)

  rest_is : (i k : Identifier) (bs : List Binding) (o : Option Module) (old : Option Fault) →
      first_of (first_of old (flat_map (judged_and_bound home o) bs)) (missing_faults i k bs o) ≡ first_of (first_of old (bound_expressions bs)) (bindings_found s m i k bs o)
  unfolding first_of
  rest_is i k bs None old =
      ap (λ p. first_of p (missing_faults i k bs None)) (both_kinds (λ b. (judged b.expression home).faults) (bound_where home None) old bs ∙ ap (first_of (first_of old (bound_expressions bs))) (none_bound bs))
  rest_is i k bs (Some n) old =
      ap (λ p. first_of p (missing_faults i k bs (Some n))) (both_kinds (λ b. (judged b.expression home).faults) (bound_where home (Some n)) old bs ∙ ap (first_of (first_of old (bound_expressions bs))) (all_bound n bs))
      ∙ sym (first_of_append (first_of old (bound_expressions bs)) (flat_map (binding_faults s m n) bs) (breaks_where (not (are_bound n bs)) Unbound i.place))

  pub instance_of_parts : (i k : Identifier) (bs : List Binding) (c : Context) (o : Option Module) (old m1 m2 new : Option Fault) → c ≡ home → o ≡ module_named s k.name → m1 ≡ first_of old (repeated_in_list (map (λ b. b.identifier) bs)) →
      m2 ≡ first_of m1 (flat_map (judged_and_bound c o) bs) → new ≡ first_of m2 (missing_faults i k bs o) → new ≡ first_of old (instance_faults s m i k bs)
  instance_of_parts i k bs c o old m1 m2 new c-is o-is first second third =
      let names = repeated_in_list (map (λ b. b.identifier) bs) in
      third
      ∙ ap (λ p. first_of p (missing_faults i k bs o)) (second ∙ ap (λ (q : Context). first_of m1 (flat_map (judged_and_bound q o) bs)) c-is)
      ∙ rest_is i k bs o m1
      ∙ ap (λ p. first_of (first_of p (bound_expressions bs)) (bindings_found s m i k bs o)) first
      ∙ ap (λ p. first_of p (bindings_found s m i k bs o)) (sym (first_of_append old names (bound_expressions bs)))
      ∙ sym (first_of_append old (names ++ bound_expressions bs) (bindings_found s m i k bs o))
      ∙ ap (λ q. first_of old ((names ++ bound_expressions bs) ++ bindings_found s m i k bs q)) o-is

-- ---- which inputs are bound

inputs_known : (bs : List Binding) (names : List ℕ) (is : List Identifier) → KnowsBindings bs names → are_known names is ≡ list_all (λ i. list_any (λ b. nat_eq b.identifier.name i.name) bs) is
unfolding KnowsBindings
inputs_known bs names [] h = refl
inputs_known bs names (i ∷ is) h = (λ k. h i.name k && inputs_known bs names is h k)

pub all_known : (bs : List Binding) (names : List ℕ) (ds : List Decl) → KnowsBindings bs names → list_all (λ d. are_known names (inputs_in d)) ds ≡ list_all (λ i. list_any (λ b. nat_eq b.identifier.name i.name) bs) (flat_map inputs_in ds)
all_known bs names [] h = refl
all_known bs names (d ∷ ds) h =
    (λ k. inputs_known bs names (inputs_in d) h k && all_known bs names ds h k)
    ∙ sym (list_all-append (λ i. list_any (λ b. nat_eq b.identifier.name i.name) bs) (inputs_in d) (flat_map inputs_in ds))

pub missing_of_parts : (i k : Identifier) (bs : List Binding) (n : Module) (o : Option Module) (names : List ℕ) (ds : List Decl) (b : Bool) (old new : Option Fault) → Some n ≡ o → KnowsBindings bs names → ds ≡ n.decls →
    b ≡ list_all (λ d. are_known names (inputs_in d)) ds → new ≡ first_of old (breaks_where (not b) Unbound i.place) → new ≡ first_of old (missing_faults i k bs o)
missing_of_parts i k bs n o names ds b old new o-is h ds-is b-is found =
    found ∙ ap (λ q. first_of old (breaks_where (not q) Unbound i.place)) (b-is ∙ all_known bs names ds h ∙ ap (λ xs. list_all (λ i. list_any (λ b. nat_eq b.identifier.name i.name) bs) (flat_map inputs_in xs)) ds-is)
    ∙ ap (λ q. first_of old (missing_faults i k bs q)) o-is

turned : (x y : ℕ) → nat_eq x y ≡ nat_eq y x
turned x y = grind arith

one_more : (b c : Bool) → (c ≡ true → b ≡ true) → (b || c) ≡ b
one_more true c h = refl
one_more false true h = sym (h refl)
one_more false false h = refl

only_name : (x y : ℕ) (e : List ℕ) → names_one_of e y ≡ true → names_one_of (y ∷ []) x ≡ true → names_one_of e x ≡ true
only_name x y e there h = let is : x ≡ y = grind (arith, h) in ap (names_one_of e) is ∙ there

with_where : (e : List ℕ) (x y : ℕ) (b : Bool) → names_one_of e y ≡ b → names_one_of (if b then e else e ++ y ∷ []) x ≡ (names_one_of e x || names_one_of (y ∷ []) x)
with_where e x y true there = sym (one_more (names_one_of e x) (names_one_of (y ∷ []) x) (only_name x y e there))
with_where e x y false away = list_any-append (nat_eq x) e (y ∷ [])

pub bindings_begin : KnowsBindings [] []
unfolding KnowsBindings
bindings_begin x = refl

bindings_join : (bs : List Binding) (b : Binding) (names : List ℕ) → KnowsBindings bs names → KnowsBindings (bs ++ b ∷ []) (with_name names b.identifier.name)
unfolding KnowsBindings
bindings_join bs b names h x =
    with_where names x b.identifier.name (names_one_of names b.identifier.name) refl
    ∙ (λ k. h x k || (turned x b.identifier.name k || false))
    ∙ sym (list_any-append (λ b. nat_eq b.identifier.name x) bs (b ∷ []))

pub bindings_more : (bs : List Binding) (names after : List ℕ) (k : ℕ) (b d : Binding) → KnowsBindings (take k bs) names → k < length bs → b ≡ get_or bs k d → after ≡ with_name names b.identifier.name → KnowsBindings (take (k + 1) bs) after
bindings_more bs names after k b d h within is now =
    subst (KnowsBindings (take (k + 1) bs)) (sym now) (subst (λ xs. KnowsBindings xs (with_name names b.identifier.name)) (sym (take_turn bs k b d within is)) (bindings_join (take k bs) b names h))

pub bindings_end : (bs : List Binding) (names : List ℕ) (k : ℕ) → KnowsBindings (take k bs) names → length bs ≤ k → KnowsBindings bs names
bindings_end bs names k h past = subst (λ xs. KnowsBindings xs names) (take_all k bs past) h

-- ---- bindings

pub binding_alone : (c : Context) (o : Option Module) (b : Binding) (old new : Option Fault) → o ≡ None → new ≡ first_of old (judged b.expression c).faults → new ≡ first_of old (judged_and_bound c o b)
binding_alone c o b old new is found =
    found ∙ ap (first_of old) (sym (append_nil (judged b.expression c).faults)) ∙ ap (λ q. first_of old (judged_and_bound c q b)) (sym is)

pub binding_of_parts : (c : Context) (o : Option Module) (n : Module) (b : Binding) (t : Option Ty) (old mid new : Option Fault) → o ≡ Some n → Judges c b.expression old mid t → new ≡ first_of mid (bound_faults c n b t) → new ≡ first_of old (judged_and_bound c o b)
binding_of_parts c o n b t old mid new is one found =
    noted_both old mid new (judged b.expression c).faults (bound_faults c n b (judged b.expression c).type) one.found (found ∙ ap (λ u. first_of mid (bound_faults c n b u)) one.type)
    ∙ ap (λ q. first_of old (judged_and_bound c q b)) (sym is)

pub unknown_bound : (c : Context) (n : Module) (b : Binding) (t : Option Ty) (o p : Option Valued) (old new : Option Fault) → p ≡ o → new ≡ earlier old (broken UnknownName b.identifier.place) →
    value_faults c n b t p ≡ breaks UnknownName b.identifier.place → new ≡ first_of old (value_faults c n b t o)
unfolding first_of
unknown_bound c n b t o p old new is found at = found ∙ ap (first_of old) (sym at ∙ ap (value_faults c n b t) is)

pub output_alone : (c : Context) (b : Binding) (t u : Option Ty) (x : Option ℕ) (old new : Option Fault) → x ≡ (judged b.expression c).name → x ≡ None → new ≡ first_of old (output_typed b.identifier.place t) → new ≡ first_of old (output_faults c b t u)
output_alone c b t u x old new x-is none-is found = found ∙ ap (λ y. first_of old (output_named c.system c.home b.identifier.place t u y)) (sym none-is ∙ x-is)

pub output_by_name : (c : Context) (b : Binding) (t u : Option Ty) (x : Option ℕ) (y : ℕ) (old new : Option Fault) → x ≡ (judged b.expression c).name → x ≡ Some y →
    new ≡ first_of old (output_valued b.identifier.place t u (value_named c.system c.home y)) → new ≡ first_of old (output_faults c b t u)
output_by_name c b t u x y old new x-is some-is found = found ∙ ap (λ z. first_of old (output_named c.system c.home b.identifier.place t u z)) (sym some-is ∙ x-is)

pub valued_is : (place : Place) (t u : Option Ty) (v : Valued) (o : Option Valued) (b : Bool) (old new : Option Fault) → Some v ≡ o → b ≡ is_written_value o → new ≡ first_of old (valued_faults place b t u) → new ≡ first_of old (output_valued place t u o)
valued_is place t u v o b old new is b-is found =
    found ∙ ap (λ q. first_of old (valued_faults place q t u)) (b-is ∙ ap is_written_value (sym is)) ∙ ap (λ q. first_of old (output_valued place t u q)) is

pub none_valued : (place : Place) (t u : Option Ty) (o : Option Valued) (old new : Option Fault) → None ≡ o → new ≡ first_of old (output_typed place t) → new ≡ first_of old (output_valued place t u o)
none_valued place t u o old new is found = found ∙ ap (λ q. first_of old (output_valued place t u q)) is

pub none_missing : (i k : Identifier) (bs : List Binding) (o : Option Module) (old new : Option Fault) → o ≡ None → new ≡ earlier old (broken UnknownName k.place) → new ≡ first_of old (missing_faults i k bs o)
unfolding first_of
none_missing i k bs o old new is found = found ∙ ap (λ q. first_of old (missing_faults i k bs q)) (sym is)
