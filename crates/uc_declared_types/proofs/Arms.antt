-- What is found of each form, by what the walk finds of its parts.
use Rattle.std.proofs.Common.{◌≡◌, ℕ, ◌+◌, ◌<◌, ◌≤◌, Bool, List, [], ◌∷◌, ◌++◌, length, map, take, get_or, Option, Some, None, refl, ap, sym, subst, ◌∙◌}
use Rattle.std.specs.List.{flat_map}
use Rattle.std.specs.Option.{option_map}
use Rattle.std.proofs.lemmas.List.{take_all, map-append}
use Rattle.std.proofs.lemmas.Grind.{flat_map-append}
use Rattle.uc_lexer.specs.declared.place.Place.{Place}
use Rattle.uc_syntax.specs.declared.place.Identifier.{Identifier}
use Rattle.uc_syntax.specs.declared.type_expression.Parameter.{Parameter}
use Rattle.uc_syntax.specs.declared.type_expression.TypeExpr.{TypeExpr}
use Rattle.uc_syntax.specs.declared.type_expression.TypeExpr.TheViews.{Record, Array}
use Rattle.uc_syntax.specs.declared.declaration.Module.{Module}
use Rattle.uc_syntax.proofs.Added.{append_nil}
use Rattle.uc_values.specs.declared.ty.Ty.{Ty}
use Rattle.uc_values.specs.declared.ty.Field.{Field}
use Rattle.uc_meaning.specs.Lookup.{System, module_named}
use Rattle.uc_rules.specs.declared.fault.Fault.{Fault}
use Rattle.uc_rules.specs.declared.outcome.Outcome.{Outcome}
use Rattle.uc_rules.specs.Faults.{first_of}
use Rattle.uc_rules.specs.Names.{repeated_in_list, type_of_module}
use Rattle.uc_rules.specs.Declarations.{identifiers_of}
use Rattle.uc_rules.specs.Outcomes.{faults_in, type_in}
use Rattle.uc_rules.specs.Types.{Aliases, TypeFound, array_outcome, entry_outcome, finds, found_by, known_fields, of_module, record_outcome}
use Rattle.uc_rules.proofs.Chains.{first_of_append}
use Rattle.uc_rules.proofs.Lists.{take_turn}
use Rattle.uc_names.specs.declared.senses.DeclaredType.{DeclaredType}
use Rattle.uc_names.specs.Senses.{declared_meant, module_in}
use Rattle.uc_declared_types.specs.declared.aliases.AliasTypes.{AliasTypes}
use Rattle.uc_declared_types.specs.Aliases.{Agrees, Related, Same, Side, fields_found, with_field_at_end}
use Rattle.uc_declared_types.proofs.Sides.{array_related, field_at_end, field_related, record_related, related_on, same_related}
use Rattle.uc_declared_types.proofs.Forms.{form_array, form_record}

module _ (s : System) (table : AliasTypes) (m : Module) where
  -- what the walk says of the type of a form, and of its faults
  abbrev pub SaysType : TypeExpr → Option Ty → Type 0
  SaysType ty t = (side : Side) (alias : Aliases) → Agrees side s table alias → Related side t (found_by s alias m ty).type

  abbrev pub SaysFaults : TypeExpr → Option Fault → Option Fault → Type 0
  SaysFaults ty old new = (alias : Aliases) → Agrees Same s table alias → new ≡ first_of old (found_by s alias m ty).faults

  -- a form without parts
  pub plain_type : (ty : TypeExpr) (place : Place) (outcome : Outcome) (t : Option Ty) → ((alias : Aliases) → found_by s alias m ty ≡ finds place [] outcome) → t ≡ type_in outcome → SaysType ty t
  plain_type ty place outcome t form is side alias h = same_related side t _ (is ∙ sym (ap (λ (f : TypeFound). f.type) (form alias)))

  pub plain_faults : (ty : TypeExpr) (place : Place) (outcome : Outcome) (old new : Option Fault) → ((alias : Aliases) → found_by s alias m ty ≡ finds place [] outcome) → new ≡ first_of old (faults_in place outcome) → SaysFaults ty old new
  plain_faults ty place outcome old new form is alias h = is ∙ sym (ap (λ (f : TypeFound). first_of old f.faults) (form alias))

  -- a name
  pub named_type : (ty : TypeExpr) (place : Place) (o : Aliases → Outcome) (t : Option Ty) → ((alias : Aliases) → found_by s alias m ty ≡ finds place [] (o alias)) →
      ((side : Side) (alias : Aliases) → Agrees side s table alias → Related side t (type_in (o alias))) → SaysType ty t
  named_type ty place o t form says side alias h = related_on side t _ t (type_in (o alias)) refl (ap (λ (f : TypeFound). f.type) (form alias)) (says side alias h)

  pub named_faults : (ty : TypeExpr) (place : Place) (o : Aliases → Outcome) (old new : Option Fault) → ((alias : Aliases) → found_by s alias m ty ≡ finds place [] (o alias)) →
      ((alias : Aliases) → new ≡ first_of old (faults_in place (o alias))) → SaysFaults ty old new
  named_faults ty place o old new form says alias h = says alias ∙ sym (ap (λ (f : TypeFound). first_of old f.faults) (form alias))

  -- a record
  abbrev pub SaysFields : List (Parameter TypeExpr) → Option (List (Field Ty)) → Type 0
  SaysFields ps fs = (side : Side) (alias : Aliases) → Agrees side s table alias → Related side fs (fields_found s alias m ps)

  abbrev pub fields_faults : Aliases → List (Parameter TypeExpr) → List Fault
  fields_faults alias ps = flat_map (λ p. (found_by s alias m p.ty).faults) ps

  no_record_fault : (place : Place) (fs : Option (List (Field Ty))) → faults_in place (record_outcome fs) ≡ []
  no_record_fault place None = refl
  no_record_fault place (Some fs) = refl

  pub record_type_arm : (ty : TypeExpr) (place : Place) (ps qs : List (Parameter TypeExpr)) (fs : Option (List (Field Ty))) (t : Option Ty) → ty ≡ Record place ps → qs ≡ ps → SaysFields qs fs → t ≡ type_in (record_outcome fs) → SaysType ty t
  record_type_arm ty place ps qs fs t is same says t-is side alias h =
      related_on side t _ (type_in (record_outcome fs)) (type_in (record_outcome (fields_found s alias m qs))) t-is
      (ap (λ u. (found_by s alias m u).type) (is ∙ ap (λ xs. Record place xs) (sym same)) ∙ ap (λ (f : TypeFound). f.type) (form_record s alias m place qs))
      (record_related side fs (fields_found s alias m qs) (says side alias h))

  pub record_faults_arm : (ty : TypeExpr) (place : Place) (ps qs : List (Parameter TypeExpr)) (old mid new : Option Fault) → ty ≡ Record place ps → qs ≡ ps → mid ≡ first_of old (repeated_in_list (identifiers_of qs)) →
      ((alias : Aliases) → Agrees Same s table alias → new ≡ first_of mid (fields_faults alias qs)) → SaysFaults ty old new
  record_faults_arm ty place ps qs old mid new is same first second alias h =
      let names = repeated_in_list (identifiers_of qs) in
      let inner = names ++ fields_faults alias qs in
      second alias h ∙ ap (λ o. first_of o (fields_faults alias qs)) first ∙ sym (first_of_append old names (fields_faults alias qs))
      ∙ ap (first_of old) (sym (append_nil inner))
      ∙ ap (λ fs. first_of old (inner ++ fs)) (sym (no_record_fault place (fields_found s alias m qs)))
      ∙ sym (ap (λ (f : TypeFound). first_of old f.faults) (form_record s alias m place qs))
      ∙ sym (ap (λ u. first_of old (found_by s alias m u).faults) (is ∙ ap (λ xs. Record place xs) (sym same)))

  -- an array
  pub array_type_arm : (ty : TypeExpr) (place : Place) (i e i' e' : TypeExpr) (x y t : Option Ty) (outcome : Outcome) → ty ≡ Array place i e → i' ≡ i → e' ≡ e → SaysType i' x → SaysType e' y → outcome ≡ array_outcome x y → t ≡ type_in outcome → SaysType ty t
  array_type_arm ty place i e i' e' x y t outcome is i-is e-is first second outcome-is t-is side alias h =
      related_on side t _ (type_in (array_outcome x y)) (type_in (array_outcome (found_by s alias m i').type (found_by s alias m e').type)) (t-is ∙ ap type_in outcome-is)
      (ap (λ u. (found_by s alias m u).type) (is ∙ (λ k. Array place (sym i-is k) (sym e-is k))) ∙ ap (λ (f : TypeFound). f.type) (form_array s alias m place i' e'))
      (array_related side x (found_by s alias m i').type y (found_by s alias m e').type (first side alias h) (second side alias h))

  same_of : (o p : Option Ty) → Related Same o p → o ≡ p
  unfolding Related
  same_of o p h = h

  pub array_faults_arm : (ty : TypeExpr) (place : Place) (i e i' e' : TypeExpr) (x y : Option Ty) (outcome : Outcome) (old m1 m2 new : Option Fault) → ty ≡ Array place i e → i' ≡ i → e' ≡ e → SaysType i' x → SaysType e' y →
      SaysFaults i' old m1 → SaysFaults e' m1 m2 → outcome ≡ array_outcome x y → new ≡ first_of m2 (faults_in place outcome) → SaysFaults ty old new
  array_faults_arm ty place i e i' e' x y outcome old m1 m2 new is i-is e-is first-type second-type first second outcome-is new-is alias h =
      let fi = (found_by s alias m i').faults in
      let fe = (found_by s alias m e').faults in
      let own = faults_in place (array_outcome (found_by s alias m i').type (found_by s alias m e').type) in
      new-is ∙ ap (λ o. first_of m2 (faults_in place o)) (outcome-is ∙ (λ k. array_outcome (same_of x _ (first-type Same alias h) k) (same_of y _ (second-type Same alias h) k)))
      ∙ ap (λ o. first_of o own) (second alias h ∙ ap (λ o. first_of o fe) (first alias h) ∙ sym (first_of_append old fi fe))
      ∙ sym (first_of_append old (fi ++ fe) own)
      ∙ sym (ap (λ (f : TypeFound). first_of old f.faults) (form_array s alias m place i' e'))
      ∙ sym (ap (λ u. first_of old (found_by s alias m u).faults) (is ∙ (λ k. Array place (sym i-is k) (sym e-is k))))

  -- a turn of the loop over fields
  pub record FieldsUpTo (ps : List (Parameter TypeExpr)) (old : Option Fault) (k : ℕ) (fs : Option (List (Field Ty))) (first : Option Fault) : Type 0 where
    pub fields : SaysFields (take k ps) fs
    pub faults : (alias : Aliases) → Agrees Same s table alias → first ≡ first_of old (fields_faults alias (take k ps))

  pub fields_begin : (ps : List (Parameter TypeExpr)) (old : Option Fault) (empty : List (Field Ty)) → empty ≡ [] → FieldsUpTo ps old 0 (Some empty) old
  unfolding first_of
  fields_begin ps old empty is = record { fields = λ side alias h. same_related side (Some empty) (Some []) (ap (λ xs. Some xs) is); faults = λ alias h. refl }

  fields_join : (alias : Aliases) (ps : List (Parameter TypeExpr)) (p : Parameter TypeExpr) →
      fields_found s alias m (ps ++ p ∷ []) ≡ with_field_at_end (fields_found s alias m ps) p.identifier.name (found_by s alias m p.ty).type
  fields_join alias ps p =
      ap known_fields (map-append (λ q. record { identifier = q.identifier; ty = found_by s alias m q.ty }) ps (p ∷ []))
      ∙ field_at_end (map (λ q. record { identifier = q.identifier; ty = found_by s alias m q.ty }) ps) (record { identifier = p.identifier; ty = found_by s alias m p.ty })

  pub fields_more : (ps : List (Parameter TypeExpr)) (old : Option Fault) (k : ℕ) (fs fs' : Option (List (Field Ty))) (first first' : Option Fault) (p d : Parameter TypeExpr) (t : Option Ty) → FieldsUpTo ps old k fs first → k < length ps → p ≡ get_or ps k d →
      SaysType p.ty t → SaysFaults p.ty first first' → fs' ≡ with_field_at_end fs p.identifier.name t → FieldsUpTo ps old (k + 1) fs' first'
  fields_more ps old k fs fs' first first' p d t held within at type found is = record {
    fields = λ side alias h.
        related_on side fs' _ (with_field_at_end fs p.identifier.name t) (with_field_at_end (fields_found s alias m (take k ps)) p.identifier.name (found_by s alias m p.ty).type) is
        (ap (fields_found s alias m) (take_turn ps k p d within at) ∙ fields_join alias (take k ps) p)
        (field_related side fs (fields_found s alias m (take k ps)) p.identifier.name t (found_by s alias m p.ty).type (held.fields side alias h) (type side alias h));
    faults = λ alias h.
        found alias h ∙ ap (λ o. first_of o (found_by s alias m p.ty).faults) (held.faults alias h)
        ∙ sym (first_of_append old (fields_faults alias (take k ps)) (found_by s alias m p.ty).faults)
        ∙ sym (ap (λ xs. first_of old (fields_faults alias xs)) (take_turn ps k p d within at)
        ∙ ap (first_of old) (flat_map-append (λ q. (found_by s alias m q.ty).faults) (take k ps) (p ∷ []) ∙ ap (λ ys. fields_faults alias (take k ps) ++ ys) (append_nil (found_by s alias m p.ty).faults)));
  }

  module _ (ps : List (Parameter TypeExpr)) (old : Option Fault) (k : ℕ) (fs : Option (List (Field Ty))) (first : Option Fault) (held : FieldsUpTo ps old k fs first) (past : length ps ≤ k) where
    pub fields_end : SaysFields ps fs
    fields_end = subst (λ xs. SaysFields xs fs) (take_all k ps past) held.fields

    pub fields_faults_end : (alias : Aliases) → Agrees Same s table alias → first ≡ first_of old (fields_faults alias ps)
    fields_faults_end = subst (λ xs. (alias : Aliases) → Agrees Same s table alias → first ≡ first_of old (fields_faults alias xs)) (take_all k ps past) held.faults
