-- What each form of a written type stands for, in terms of its parts, and what reading it costs.
use Rattle.std.proofs.Common.{◌≡◌, ℕ, zero, suc, ◌+◌, ◌-◌, ◌<◌, ◌≤◌, List, [], ◌∷◌, map, length, get_or, Option, Some, None, refl, ap, ◌∙◌, sym, subst, add-one, arith}
use Rattle.std.specs.Prelude.{Result, IfOk}
use Rattle.uc_lexer.specs.declared.place.Place.{Place}
use Rattle.uc_syntax.specs.declared.place.Identifier.{Identifier}
use Rattle.uc_syntax.specs.declared.type_expression.Parameter.{Parameter}
use Rattle.uc_syntax.specs.declared.type_expression.TypeExpr.{TypeExpr}
use Rattle.uc_syntax.specs.declared.type_expression.TypeExpr.TheOpen.TypeExpr-F.{Boolean as BooleanForm, Integer as IntegerForm, Bits as BitsForm, Enumeration as EnumerationForm, Record as RecordForm, Array as ArrayForm, Named as NamedForm, OfModule as OfModuleForm}
use Rattle.uc_syntax.specs.declared.type_expression.TypeExpr.TheViews.{roll-TypeExpr, Record, Array}
use Rattle.uc_syntax.specs.declared.type_expression.TypeExpr.TheVariants.{Boolean, Integer, Bits, Enumeration, Named, OfModule}
use Rattle.uc_syntax.specs.declared.type_expression.TypeExpr.TheFolds.{fold-roll-TypeExpr}
use Rattle.uc_syntax.specs.declared.declaration.Module.{Module}
use Rattle.uc_values.specs.declared.ty.Ty.{Ty}
use Rattle.uc_values.specs.declared.ty.Ty.TheVariants.{Bool as boolean_type, Int as integer_type, Bv as bits_type, Enum as enum_type, Un as open_type}
use Rattle.uc_values.specs.declared.ty.Ty.TheViews.{Rec as record_type, Arr as array_type}
use Rattle.uc_meaning.specs.Lookup.{System, module_named}
use Rattle.uc_meaning.specs.Types.{Alias, Opaque, type_entry, type_by_entry, type_form, type_by, type_through, type_of_written, type_in_home, home_of_type, enum_number, opaque_number}
use Rattle.uc_meaning.proofs.Equations.{map-map}
use Rattle.uc_type_reader.specs.Places.{declaration_count}
use Rattle.uc_type_reader.specs.Reading.{type_above, field_above, total, cost_form, cost_by, cost_through, cost_above, costs_above, cost_in_home, cost_of_entry}

module _ (n : ℕ) (s : System) (m : Module) where
  pub type_boolean : (place : Place) → type_above n s m (Boolean place) ≡ boolean_type
  unfolding type_by roll-TypeExpr denote.Hole.Carrier.roll
  type_boolean place = ap (λ f. f m) (fold-roll-TypeExpr (Module → Ty) (type_form s (type_through n s)) (BooleanForm place))

  pub type_integer : (place : Place) → type_above n s m (Integer place) ≡ integer_type
  unfolding type_by roll-TypeExpr denote.Hole.Carrier.roll
  type_integer place = ap (λ f. f m) (fold-roll-TypeExpr (Module → Ty) (type_form s (type_through n s)) (IntegerForm place))

  pub type_bits : (place : Place) (width : ℕ) → type_above n s m (Bits place width) ≡ bits_type width
  unfolding type_by roll-TypeExpr denote.Hole.Carrier.roll
  type_bits place width = ap (λ f. f m) (fold-roll-TypeExpr (Module → Ty) (type_form s (type_through n s)) (BitsForm place width))

  pub type_enumeration : (place : Place) (labels : List Identifier) → type_above n s m (Enumeration place labels) ≡ enum_type (enum_number s place) (length labels)
  unfolding type_by roll-TypeExpr denote.Hole.Carrier.roll
  type_enumeration place labels = ap (λ f. f m) (fold-roll-TypeExpr (Module → Ty) (type_form s (type_through n s)) (EnumerationForm place labels))

  pub type_record : (place : Place) (ps : List (Parameter TypeExpr)) → type_above n s m (Record place ps) ≡ record_type (map (field_above n s m) ps)
  unfolding type_by roll-TypeExpr denote.Hole.Carrier.roll
  type_record place ps =
      ap (λ f. f m) (fold-roll-TypeExpr (Module → Ty) (type_form s (type_through n s)) (RecordForm place ps))
      ∙ ap record_type (map-map (λ p. record { name = p.identifier.name; ty = p.ty m }) _ ps)

  pub type_array : (place : Place) (index element : TypeExpr) → type_above n s m (Array place index element) ≡ array_type (type_above n s m index) (type_above n s m element)
  unfolding type_by roll-TypeExpr denote.Hole.Carrier.roll
  type_array place index element = ap (λ f. f m) (fold-roll-TypeExpr (Module → Ty) (type_form s (type_through n s)) (ArrayForm place index element))

  pub type_named : (place : Place) (x : ℕ) → type_above n s m (Named place x) ≡ type_in_home s (type_through n s) (home_of_type s m x) x
  unfolding type_by roll-TypeExpr denote.Hole.Carrier.roll
  type_named place x = ap (λ f. f m) (fold-roll-TypeExpr (Module → Ty) (type_form s (type_through n s)) (NamedForm place x))

  pub type_of_module : (place : Place) (o : ℕ) (i : Identifier) → type_above n s m (OfModule place o i) ≡ type_in_home s (type_through n s) (module_named s o) i.name
  unfolding type_by roll-TypeExpr denote.Hole.Carrier.roll
  type_of_module place o i = ap (λ f. f m) (fold-roll-TypeExpr (Module → Ty) (type_form s (type_through n s)) (OfModuleForm place o i))

  pub cost_record : (place : Place) (ps : List (Parameter TypeExpr)) → cost_above n s m (Record place ps) ≡ 1 + costs_above n s m ps
  unfolding cost_by roll-TypeExpr denote.Hole.Carrier.roll
  cost_record place ps =
      ap (λ f. f m) (fold-roll-TypeExpr (Module → ℕ) (cost_form s (cost_through n s)) (RecordForm place ps))
      ∙ ap (λ ns. 1 + total ns) (map-map (λ p. p.ty m) _ ps)

  pub cost_array : (place : Place) (index element : TypeExpr) → cost_above n s m (Array place index element) ≡ 1 + (cost_above n s m index + cost_above n s m element)
  unfolding cost_by roll-TypeExpr denote.Hole.Carrier.roll
  cost_array place index element = ap (λ f. f m) (fold-roll-TypeExpr (Module → ℕ) (cost_form s (cost_through n s)) (ArrayForm place index element))

  pub cost_named : (place : Place) (x : ℕ) → cost_above n s m (Named place x) ≡ 1 + cost_in_home (cost_through n s) (home_of_type s m x) x
  unfolding cost_by roll-TypeExpr denote.Hole.Carrier.roll
  cost_named place x = ap (λ f. f m) (fold-roll-TypeExpr (Module → ℕ) (cost_form s (cost_through n s)) (NamedForm place x))

  pub cost_of_module : (place : Place) (o : ℕ) (i : Identifier) → cost_above n s m (OfModule place o i) ≡ 1 + cost_in_home (cost_through n s) (module_named s o) i.name
  unfolding cost_by roll-TypeExpr denote.Hole.Carrier.roll
  cost_of_module place o i = ap (λ f. f m) (fold-roll-TypeExpr (Module → ℕ) (cost_form s (cost_through n s)) (OfModuleForm place o i))

  among : (ps : List (Parameter TypeExpr)) (k : ℕ) (d : Parameter TypeExpr) → k < length ps → cost_above n s m (get_or ps k d).ty ≤ costs_above n s m ps
  unfolding total
  among [] k d within = absurd (omega (arith, within))
  among (p ∷ ps) zero d within = omega arith
  among (p ∷ ps) (suc k) d within = omega (arith, among ps k d (omega (arith, within)))

  pub cost_at : (ps : List (Parameter TypeExpr)) (k : ℕ) (p : Parameter TypeExpr) → k < length ps → p ≡ get_or ps k p → cost_above n s m p.ty ≤ costs_above n s m ps
  cost_at ps k p within is = omega (arith, among ps k p within, ap (λ q. cost_above n s m q.ty) is)

type_level : (n : ℕ) (s : System) (m : Module) (t : TypeExpr) → type_through (suc n) s m t ≡ type_above n s m t
unfolding type_through
type_level n s m t = refl

cost_level : (n : ℕ) (s : System) (m : Module) (t : TypeExpr) → cost_through (suc n) s m t ≡ cost_above n s m t
unfolding cost_through
cost_level n s m t = refl

-- an alias is read one level below
pub alias_type : (n : ℕ) (s : System) (m : Module) (t : TypeExpr) → (n ≡ 0 → ⊥) → type_above (n - 1) s m t ≡ type_through n s m t
alias_type zero s m t some = absurd (some refl)
alias_type (suc n) s m t some = let e : suc n - 1 ≡ n = omega arith in ap (λ k. type_above k s m t) e ∙ sym (type_level n s m t)

pub alias_end : (n : ℕ) (s : System) (m : Module) (t : TypeExpr) → n ≡ 0 → boolean_type ≡ type_through n s m t
unfolding type_through
alias_end n s m t none = sym (ap (λ k. type_through k s m t) none)

pub alias_cost : (n : ℕ) (s : System) (m : Module) (t : TypeExpr) → (n ≡ 0 → ⊥) → cost_above (n - 1) s m t ≡ cost_through n s m t
alias_cost zero s m t some = absurd (some refl)
alias_cost (suc n) s m t some = let e : suc n - 1 ≡ n = omega arith in ap (λ k. cost_above k s m t) e ∙ sym (cost_level n s m t)

pub written_type : (s : System) (m : Module) (t : TypeExpr) → type_above (declaration_count s.modules) s m t ≡ type_of_written s m t
unfolding type_of_written
written_type s m t =
    sym (type_level (declaration_count s.modules) s m t) ∙ ap (λ k. type_through k s m t) (sym (add-one (declaration_count s.modules)))

-- the type of a name in its home
module _ (n : ℕ) (s : System) (m : Module) (x : ℕ) (home : Option Module) (is : home ≡ Some m) where
  pub alias_home : (t : TypeExpr) → Some (Alias t) ≡ type_entry m x → type_in_home s (type_through n s) home x ≡ type_through n s m t
  alias_home t some = ap (λ o. type_in_home s (type_through n s) o x) is ∙ ap (type_by_entry s (type_through n s) m x) (sym some)

  pub opaque_home : Some Opaque ≡ type_entry m x → type_in_home s (type_through n s) home x ≡ open_type (opaque_number s m.name x)
  opaque_home some = ap (λ o. type_in_home s (type_through n s) o x) is ∙ ap (type_by_entry s (type_through n s) m x) (sym some)

  pub alias_home_cost : (t : TypeExpr) → Some (Alias t) ≡ type_entry m x → cost_in_home (cost_through n s) home x ≡ cost_through n s m t
  alias_home_cost t some = ap (λ o. cost_in_home (cost_through n s) o x) is ∙ ap (cost_of_entry (cost_through n s) m) (sym some)

pub as_type : {E : Type 0} (q z : Ty) (r : Result Ty E) → q ≡ z → IfOk r (λ t. t ≡ q) → IfOk r (λ t. t ≡ z)
as_type q z r e is = subst (λ y. IfOk r (λ t. t ≡ y)) e is
