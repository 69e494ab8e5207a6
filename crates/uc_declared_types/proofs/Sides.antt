-- What is known of the parts of a type says what is known of the type.
use Rattle.std.proofs.Common.{◌≡◌, ℕ, List, [], ◌∷◌, ◌++◌, Option, Some, None, refl, ap, sym, subst, ◌∙◌}
use Rattle.uc_syntax.specs.declared.type_expression.Parameter.{Parameter}
use Rattle.uc_values.specs.declared.ty.Ty.{Ty}
use Rattle.uc_values.specs.declared.ty.Field.{Field}
use Rattle.uc_rules.specs.Outcomes.{type_in, outcome_of}
use Rattle.uc_rules.specs.Types.{TypeFound, array_outcome, known_fields, record_outcome, with_field}
use Rattle.uc_declared_types.specs.Aliases.{Above, Below, Follows, Related, Same, Side, with_field_at_end}

pub nothing : {A B : Type 0} (y : A) → None ≡ Some y → B
nothing y h = cc

pub same_related : {A : Type 0} (side : Side) (o p : Option A) → o ≡ p → Related side o p
unfolding Related
same_related Below o p e = λ x h. sym e ∙ h
same_related Above o p e = λ x h. e ∙ h
same_related Same o p e = e

pub related_on : {A : Type 0} (side : Side) (o p q r : Option A) → o ≡ q → p ≡ r → Related side q r → Related side o p
related_on side o p q r i j h = subst (λ z. Related side z p) (sym i) (subst (λ z. Related side q z) (sym j) h)

array_follows : (i j e f : Option Ty) → Follows i j → Follows e f → Follows (type_in (array_outcome i e)) (type_in (array_outcome j f))
array_follows None j e f h k = λ x n. nothing x n
array_follows (Some i) j None f h k = λ x n. nothing x n
array_follows (Some i) j (Some e) f h k = λ x n. (λ t. type_in (array_outcome (h i refl t) (k e refl t))) ∙ n

pub array_related : (side : Side) (i j e f : Option Ty) → Related side i j → Related side e f → Related side (type_in (array_outcome i e)) (type_in (array_outcome j f))
unfolding Related
array_related Below i j e f h k = array_follows i j e f h k
array_related Above i j e f h k = array_follows j i f e h k
array_related Same i j e f h k = λ t. type_in (array_outcome (h t) (k t))

record_follows : (r s : Option (List (Field Ty))) → Follows r s → Follows (type_in (record_outcome r)) (type_in (record_outcome s))
record_follows None s h = λ x n. nothing x n
record_follows (Some r) s h = λ x n. ap (λ q. type_in (record_outcome q)) (h r refl) ∙ n

pub record_related : (side : Side) (r s : Option (List (Field Ty))) → Related side r s → Related side (type_in (record_outcome r)) (type_in (record_outcome s))
unfolding Related
record_related Below r s h = record_follows r s h
record_related Above r s h = record_follows s r h
record_related Same r s h = ap (λ q. type_in (record_outcome q)) h

field_follows : (r s : Option (List (Field Ty))) (name : ℕ) (t u : Option Ty) → Follows r s → Follows t u → Follows (with_field_at_end r name t) (with_field_at_end s name u)
field_follows None s name t u h k = λ x n. nothing x n
field_follows (Some r) s name None u h k = λ x n. nothing x n
field_follows (Some r) s name (Some t) u h k = λ x n. (λ i. with_field_at_end (h r refl i) name (k t refl i)) ∙ n

pub field_related : (side : Side) (r s : Option (List (Field Ty))) (name : ℕ) (t u : Option Ty) → Related side r s → Related side t u → Related side (with_field_at_end r name t) (with_field_at_end s name u)
unfolding Related
field_related Below r s name t u h k = field_follows r s name t u h k
field_related Above r s name t u h k = field_follows s r name u t h k
field_related Same r s name t u h k = λ i. with_field_at_end (h i) name (k i)

swapped : (n m : ℕ) (t u : Option Ty) (r : Option (List (Field Ty))) → with_field n t (with_field_at_end r m u) ≡ with_field_at_end (with_field n t r) m u
swapped n m None u r = refl
swapped n m (Some t) u None = refl
swapped n m (Some t) None (Some r) = refl
swapped n m (Some t) (Some u) (Some r) = refl

one_field : (n : ℕ) (t : Option Ty) → with_field n t (Some []) ≡ with_field_at_end (Some []) n t
one_field n None = refl
one_field n (Some t) = refl

-- the fields of a record with one more at the end
pub field_at_end : (ps : List (Parameter TypeFound)) (p : Parameter TypeFound) → known_fields (ps ++ p ∷ []) ≡ with_field_at_end (known_fields ps) p.identifier.name p.ty.type
field_at_end [] p = one_field p.identifier.name p.ty.type
field_at_end (q ∷ ps) p = ap (with_field q.identifier.name q.ty.type) (field_at_end ps p) ∙ swapped q.identifier.name p.identifier.name q.ty.type p.ty.type (known_fields ps)

pub type_again : (o : Option Ty) → type_in (outcome_of o) ≡ o
type_again None = refl
type_again (Some t) = refl
