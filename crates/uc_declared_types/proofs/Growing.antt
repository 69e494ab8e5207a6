-- A type is known through more aliases where it is known through fewer.
use Rattle.std.proofs.Common.{◌≡◌, ℕ, zero, suc, Bool, List, [], ◌∷◌, ◌++◌, Option, Some, None, map, refl, ap, sym, subst, ◌∙◌}
use Rattle.std.specs.List.{flat_map}
use Rattle.uc_lexer.specs.declared.place.Place.{Place}
use Rattle.uc_syntax.specs.declared.place.Identifier.{Identifier}
use Rattle.uc_syntax.specs.declared.type_expression.Parameter.{Parameter}
use Rattle.uc_syntax.specs.declared.type_expression.TypeExpr.{TypeExpr}
use Rattle.uc_syntax.specs.declared.type_expression.TypeExpr.TheOpen.{TypeExpr-F}
use Rattle.uc_syntax.specs.declared.type_expression.TypeExpr.TheOpen.TypeExpr-F.{Boolean, Integer, Bits, Enumeration, Record, Array, Named, OfModule}
use Rattle.uc_syntax.specs.declared.type_expression.TypeExpr.TheViews.{roll-TypeExpr}
use Rattle.uc_syntax.specs.declared.type_expression.TypeExpr.TheFolds.{map-TypeExpr, fold-TypeExpr, fold-roll-TypeExpr, ind-TypeExpr}
use Rattle.uc_syntax.specs.declared.declaration.Module.{Module}
use Rattle.uc_values.specs.declared.ty.Ty.{Ty}
use Rattle.uc_values.specs.declared.ty.Field.{Field}
use Rattle.uc_meaning.specs.Lookup.{System, module_named}
use Rattle.uc_meaning.specs.Types.{TypeEntry, Alias, Opaque}
use Rattle.uc_rules.specs.declared.outcome.Outcome.{Outcome}
use Rattle.uc_rules.specs.Outcomes.{type_in, outcome_of}
use Rattle.uc_rules.specs.Names.{type_named, type_of_module}
use Rattle.uc_rules.specs.Types.{Aliases, TypeFound, array_outcome, entry_outcome, entry_type, found_by, known_fields, of_module, record_outcome, type_form, with_field}
use Rattle.uc_declared_types.specs.AliasLaw.{IsAmong, aliases_of}
use Rattle.uc_declared_types.proofs.Declared.{EntryDeclared, IsDeclared, each_parameter, map_record, module_there, name_declared, of_module_declared}

-- what is known is known to be the same
unfoldable pub Refines : {A : Type 0} → Option A → Option A → Type 0
Refines None p = Unit {0}
Refines (Some x) p = p ≡ Some x

pub refines_same : {A : Type 0} (o p : Option A) → p ≡ o → Refines o p
unfolding Refines
refines_same None p e = tt
refines_same (Some x) p e = e

outcome_refines : (o p : Option Ty) → Refines o p → Refines (type_in (outcome_of o)) (type_in (outcome_of p))
unfolding Refines
outcome_refines None p h = tt
outcome_refines (Some x) p h = ap (λ q. type_in (outcome_of q)) h

array_refines : (i j e f : Option Ty) → Refines i j → Refines e f → Refines (type_in (array_outcome i e)) (type_in (array_outcome j f))
unfolding Refines
array_refines None j e f h k = tt
array_refines (Some i) j None f h k = tt
array_refines (Some i) j (Some e) f h k = refines_same (type_in (array_outcome (Some i) (Some e))) (type_in (array_outcome j f)) (λ n. type_in (array_outcome (h n) (k n)))

field_refines : (name : ℕ) (t u : Option Ty) (r s : Option (List (Field Ty))) → Refines t u → Refines r s → Refines (with_field name t r) (with_field name u s)
unfolding Refines
field_refines name None u r s h k = tt
field_refines name (Some t) u None s h k = tt
field_refines name (Some t) u (Some r) s h k = refines_same (with_field name (Some t) (Some r)) (with_field name u s) (λ n. with_field name (h n) (k n))

record_refines : (r s : Option (List (Field Ty))) → Refines r s → Refines (type_in (record_outcome r)) (type_in (record_outcome s))
unfolding Refines
record_refines None s h = tt
record_refines (Some r) s h = ap (λ q. type_in (record_outcome q)) h

-- Of two readings of aliases, the second knows each alias of the design that the first one knows.
module _ (system : System) (f g : Aliases) (more : (m : Module) (type : TypeExpr) → IsAmong (m, type) (aliases_of system) → Refines (f m type) (g m type)) where
  abbrev by_f : TypeExpr → Module → TypeFound
  by_f t m = found_by system f m t

  abbrev by_g : TypeExpr → Module → TypeFound
  by_g t m = found_by system g m t

  entry_refines : (x : ℕ) (home : Module) (e : TypeEntry) → EntryDeclared system home e → Refines (type_in (entry_type system f x home e)) (type_in (entry_type system g x home e))
  unfolding EntryDeclared
  entry_refines x home (Alias type) h = outcome_refines (f home type) (g home type) (more home type h)
  entry_refines x home Opaque h = refines_same (type_in (entry_type system f x home Opaque)) (type_in (entry_type system g x home Opaque)) refl

  name_refines : (x : ℕ) (o : Option (Module × TypeEntry)) → IsDeclared system o → Refines (type_in (entry_outcome system f x o)) (type_in (entry_outcome system g x o))
  unfolding IsDeclared Refines
  name_refines x None h = tt
  name_refines x (Some p) h = entry_refines x p.0 p.1 h

  other_refines : (place : Place) (i : Identifier) (o : Option Module) → ((n : Module) → o ≡ Some n → IsAmong n system.modules) →
      Refines ((of_module system f place i o).type) ((of_module system g place i o).type)
  unfolding Refines
  other_refines place i None there = tt
  other_refines place i (Some n) there = name_refines i.name (type_of_module n i.name) (of_module_declared system n i.name (there n refl))

  abbrev Grows : TypeExpr → Type 0
  Grows t = (m : Module) → IsAmong m system.modules → Refines ((by_f t m).type) ((by_g t m).type)

  abbrev Child : Type 0
  Child = (t : TypeExpr) × Grows t

  abbrev tree : Child → TypeExpr
  tree c = c.0

  abbrev layer : TypeExpr-F Child → TypeExpr-F TypeExpr
  layer y = map-TypeExpr Child TypeExpr tree y

  abbrev form_f : TypeExpr-F Child → Module → TypeFound
  form_f y = type_form system f (map-TypeExpr TypeExpr (Module → TypeFound) by_f (layer y))

  abbrev form_g : TypeExpr-F Child → Module → TypeFound
  form_g y = type_form system g (map-TypeExpr TypeExpr (Module → TypeFound) by_g (layer y))

  abbrev fields_f : Module → List (Parameter Child) → Option (List (Field Ty))
  fields_f m cs = known_fields (map (λ p. record { identifier = p.identifier; ty = by_f p.ty.0 m }) cs)

  abbrev fields_g : Module → List (Parameter Child) → Option (List (Field Ty))
  fields_g m cs = known_fields (map (λ p. record { identifier = p.identifier; ty = by_g p.ty.0 m }) cs)

  fields_refine : (m : Module) → IsAmong m system.modules → (cs : List (Parameter Child)) → Refines (fields_f m cs) (fields_g m cs)
  unfolding Refines
  fields_refine m there [] = refl
  fields_refine m there (c ∷ cs) = field_refines c.identifier.name ((by_f c.ty.0 m).type) ((by_g c.ty.0 m).type) (fields_f m cs) (fields_g m cs) (c.ty.1 m there) (fields_refine m there cs)

  mapped : (h : TypeExpr → Module → TypeFound) (m : Module) (cs : List (Parameter Child)) →
      map {B = Parameter TypeFound} (λ p. record { identifier = p.identifier; ty = p.ty m }) (map (each_parameter h) (map (each_parameter tree) cs)) ≡ map {B = Parameter TypeFound} (λ p. record { identifier = p.identifier; ty = h p.ty.0 m }) cs
  mapped h m [] = refl
  mapped h m (c ∷ cs) = ap (λ z. record { identifier = c.identifier; ty = h c.ty.0 m } ∷ z) (mapped h m cs)

  record_f : (place : Place) (cs : List (Parameter Child)) (m : Module) → (form_f (Record place cs) m).type ≡ type_in (record_outcome (fields_f m cs))
  record_f place cs m =
      ap (λ z. (type_form system f (map-TypeExpr TypeExpr (Module → TypeFound) by_f z) m).type) (map_record tree place cs)
      ∙ ap (λ z. (type_form system f z m).type) (map_record by_f place (map (each_parameter tree) cs))
      ∙ ap (λ z. type_in (record_outcome (known_fields z))) (mapped by_f m cs)

  record_g : (place : Place) (cs : List (Parameter Child)) (m : Module) → (form_g (Record place cs) m).type ≡ type_in (record_outcome (fields_g m cs))
  record_g place cs m =
      ap (λ z. (type_form system g (map-TypeExpr TypeExpr (Module → TypeFound) by_g z) m).type) (map_record tree place cs)
      ∙ ap (λ z. (type_form system g z m).type) (map_record by_g place (map (each_parameter tree) cs))
      ∙ ap (λ z. type_in (record_outcome (known_fields z))) (mapped by_g m cs)

  at_both : {A : Type 0} (o p q r : Option A) → o ≡ q → p ≡ r → Refines q r → Refines o p
  at_both o p q r i j h = subst (λ z. Refines z p) (sym i) (subst (λ z. Refines q z) (sym j) h)

  layer_refines : (y : TypeExpr-F Child) (m : Module) → IsAmong m system.modules → Refines ((form_f y m).type) ((form_g y m).type)
  layer_refines (Boolean place) m there = refines_same _ _ refl
  layer_refines (Integer place) m there = refines_same _ _ refl
  layer_refines (Bits place width) m there = refines_same _ _ refl
  layer_refines (Enumeration place labels) m there = refines_same _ _ refl
  layer_refines (Record place cs) m there = at_both _ _ _ _ (record_f place cs m) (record_g place cs m) (record_refines (fields_f m cs) (fields_g m cs) (fields_refine m there cs))
  layer_refines (Array place i e) m there =
      array_refines ((by_f i.0 m).type) ((by_g i.0 m).type) ((by_f e.0 m).type) ((by_g e.0 m).type) (i.1 m there) (e.1 m there)
  layer_refines (Named place x) m there = name_refines x (type_named system m x) (name_declared system m x there)
  layer_refines (OfModule place n i) m there = other_refines place i (module_named system n) (module_there system n)

  step : (y : TypeExpr-F Child) → Grows (roll-TypeExpr (layer y))
  unfolding found_by
  step y m there =
      at_both _ _ _ _ (ap (λ (z : Module → TypeFound). (z m).type) (fold-roll-TypeExpr (Module → TypeFound) (type_form system f) (layer y)))
      (ap (λ (z : Module → TypeFound). (z m).type) (fold-roll-TypeExpr (Module → TypeFound) (type_form system g) (layer y))) (layer_refines y m there)

  -- so it knows each type of a module of the design that the first one knows
  pub types_refine : (t : TypeExpr) → Grows t
  types_refine = ind-TypeExpr Grows (λ x y is. subst (λ z. Grows (roll-TypeExpr z)) is (step y))
