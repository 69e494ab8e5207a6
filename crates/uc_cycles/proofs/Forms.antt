-- The types that each form of a written type names.
use Rattle.std.proofs.Common.{◌≡◌, ℕ, List, [], ◌∷◌, ◌++◌, map, refl, ap, sym, ◌∙◌, ◌+◌, ◌<◌, ◌≤◌, length, take, get_or, Option, Some, None}
use Rattle.std.specs.List.{flat_map}
use Rattle.std.proofs.lemmas.List.{append-nil}
use Rattle.uc_lexer.specs.declared.place.Place.{Place}
use Rattle.uc_syntax.specs.declared.place.Identifier.{Identifier}
use Rattle.uc_syntax.specs.declared.type_expression.Parameter.{Parameter}
use Rattle.uc_syntax.specs.declared.type_expression.TypeExpr.{TypeExpr}
use Rattle.uc_syntax.specs.declared.type_expression.TypeExpr.TheOpen.TypeExpr-F.{Boolean as BooleanForm, Integer as IntegerForm, Bits as BitsForm, Enumeration as EnumerationForm, Record as RecordForm, Array as ArrayForm, Named as NamedForm, OfModule as OfModuleForm}
use Rattle.uc_syntax.specs.declared.type_expression.TypeExpr.TheViews.{roll-TypeExpr, Record, Array}
use Rattle.uc_syntax.specs.declared.type_expression.TypeExpr.TheVariants.{Boolean, Integer, Bits, Enumeration, Named, OfModule}
use Rattle.uc_syntax.specs.declared.type_expression.TypeExpr.TheFolds.{fold-roll-TypeExpr}
use Rattle.uc_syntax.specs.declared.declaration.Module.{Module}
use Rattle.uc_meaning.specs.Lookup.{System, module_named}
use Rattle.uc_rules.specs.Names.{type_named}
use Rattle.uc_rules.specs.Cycles.{TypeName, entry_name, mentioned, mentioned_form, name_of_module}
use Rattle.uc_declared_types.proofs.Declared.{each_parameter}
use Rattle.uc_cycles.specs.declared.types.TypeNumbers.{TypeNumbers}
use Rattle.uc_cycles.specs.Numbers.{key_of, listed, type_number, type_places}
use Rattle.uc_cycles.proofs.Lists.{flat_append, flat_all, flat_more, joined}

fields_mapped : (f : TypeExpr → List TypeName) (ps : List (Parameter TypeExpr)) → flat_map (λ p. p.ty) (map (each_parameter f) ps) ≡ flat_map (λ p. f p.ty) ps
fields_mapped f [] = refl
fields_mapped f (p ∷ ps) = ap (λ ns. f p.ty ++ ns) (fields_mapped f ps)

module _ (s : System) (m : Module) where
  pub of_boolean : (place : Place) → mentioned s m (Boolean place) ≡ []
  unfolding mentioned roll-TypeExpr denote.Hole.Carrier.roll
  of_boolean place = fold-roll-TypeExpr (List TypeName) (mentioned_form s m) (BooleanForm place)

  pub of_integer : (place : Place) → mentioned s m (Integer place) ≡ []
  unfolding mentioned roll-TypeExpr denote.Hole.Carrier.roll
  of_integer place = fold-roll-TypeExpr (List TypeName) (mentioned_form s m) (IntegerForm place)

  pub of_bits : (place : Place) (width : ℕ) → mentioned s m (Bits place width) ≡ []
  unfolding mentioned roll-TypeExpr denote.Hole.Carrier.roll
  of_bits place width = fold-roll-TypeExpr (List TypeName) (mentioned_form s m) (BitsForm place width)

  pub of_enumeration : (place : Place) (labels : List Identifier) → mentioned s m (Enumeration place labels) ≡ []
  unfolding mentioned roll-TypeExpr denote.Hole.Carrier.roll
  of_enumeration place labels = fold-roll-TypeExpr (List TypeName) (mentioned_form s m) (EnumerationForm place labels)

  pub of_record : (place : Place) (ps : List (Parameter TypeExpr)) → mentioned s m (Record place ps) ≡ flat_map (λ p. mentioned s m p.ty) ps
  unfolding mentioned roll-TypeExpr denote.Hole.Carrier.roll
  of_record place ps = fold-roll-TypeExpr (List TypeName) (mentioned_form s m) (RecordForm place ps) ∙ fields_mapped (mentioned s m) ps

  pub of_array : (place : Place) (i e : TypeExpr) → mentioned s m (Array place i e) ≡ mentioned s m i ++ mentioned s m e
  unfolding mentioned roll-TypeExpr denote.Hole.Carrier.roll
  of_array place i e = fold-roll-TypeExpr (List TypeName) (mentioned_form s m) (ArrayForm place i e)

  pub of_named : (place : Place) (x : ℕ) → mentioned s m (Named place x) ≡ entry_name x (type_named s m x)
  unfolding mentioned roll-TypeExpr denote.Hole.Carrier.roll
  of_named place x = fold-roll-TypeExpr (List TypeName) (mentioned_form s m) (NamedForm place x)

  pub of_other : (place : Place) (n : ℕ) (i : Identifier) → mentioned s m (OfModule place n i) ≡ name_of_module i.name (module_named s n)
  unfolding mentioned roll-TypeExpr denote.Hole.Carrier.roll
  of_other place n i = fold-roll-TypeExpr (List TypeName) (mentioned_form s m) (OfModuleForm place n i)

-- ---- places of types

pub places_append : (t : TypeNumbers) (ps qs : List TypeName) → type_places t (ps ++ qs) ≡ type_places t ps ++ type_places t qs
unfolding type_places
places_append t ps qs = flat_append (λ p. listed (type_number t (key_of p))) ps qs

pub places_one : (t : TypeNumbers) (p : TypeName) → type_places t (p ∷ []) ≡ listed (type_number t (key_of p))
unfolding type_places
places_one t p = append-nil (listed (type_number t (key_of p)))

pub places_none : (t : TypeNumbers) → [] ≡ type_places t []
unfolding type_places
places_none t = refl

-- nothing is added
pub adds_nothing : (t : TypeNumbers) (needs : List ℕ) (ps : List TypeName) → ps ≡ [] → needs ≡ needs ++ type_places t ps
adds_nothing t needs ps e = sym (ap (λ ns. needs ++ ns) (ap (type_places t) e ∙ sym (places_none t)) ∙ append-nil needs)

pub adds_same : (t : TypeNumbers) (old new : List ℕ) (ps qs : List TypeName) → qs ≡ ps → new ≡ old ++ type_places t ps → new ≡ old ++ type_places t qs
adds_same t old new ps qs e h = h ∙ ap (λ rs. old ++ type_places t rs) (sym e)

pub adds_two : (t : TypeNumbers) (a b c : List ℕ) (ps qs : List TypeName) → b ≡ a ++ type_places t ps → c ≡ b ++ type_places t qs → c ≡ a ++ type_places t (ps ++ qs)
adds_two t a b c ps qs h k = joined a b c (type_places t ps) (type_places t qs) h k ∙ ap (λ ns. a ++ ns) (sym (places_append t ps qs))

pub adds_begin : (t : TypeNumbers) (f : Parameter TypeExpr → List TypeName) (needs : List ℕ) (ps : List (Parameter TypeExpr)) → needs ≡ needs ++ type_places t (flat_map f (take 0 ps))
adds_begin t f needs ps = adds_nothing t needs (flat_map f (take 0 ps)) refl

pub adds_more : (t : TypeNumbers) (f : Parameter TypeExpr → List TypeName) (ps : List (Parameter TypeExpr)) (k : ℕ) (d : Parameter TypeExpr) (a b c : List ℕ) → k < length ps → b ≡ a ++ type_places t (flat_map f (take k ps)) →
    c ≡ b ++ type_places t (f (get_or ps k d)) → c ≡ a ++ type_places t (flat_map f (take (k + 1) ps))
adds_more t f ps k d a b c within h g = adds_same t a c (flat_map f (take k ps) ++ f (get_or ps k d)) (flat_map f (take (k + 1) ps)) (flat_more f ps k d within) (adds_two t a b c (flat_map f (take k ps)) (f (get_or ps k d)) h g)

pub adds_end : (t : TypeNumbers) (f : Parameter TypeExpr → List TypeName) (ps : List (Parameter TypeExpr)) (k : ℕ) (a b : List ℕ) → length ps ≤ k → b ≡ a ++ type_places t (flat_map f (take k ps)) → b ≡ a ++ type_places t (flat_map f ps)
adds_end t f ps k a b past h = adds_same t a b (flat_map f (take k ps)) (flat_map f ps) (sym (flat_all f ps k past)) h
