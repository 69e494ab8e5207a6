-- What a term brings with it: its symbols and functions with their types, and whether it has integers, arrays and `Diff`.
use Rattle.std.specs.Prelude.{◌≡◌, ℕ, Bool, true, false, ◌||◌, IsTrue, List, slice_get, Some, Contains}
use Rattle.std.specs.List.{list_any}
use Rattle.uc_values.specs.declared.ty.Ty.{Ty}
use Rattle.uc_values.specs.declared.ty.Ty.TheFolds.{fold-Ty}
use Rattle.uc_values.specs.declared.ty.Ty.TheViews.{out-Ty}
use Rattle.uc_values.specs.declared.ty.Ty.TheOpen.{Ty-F}
use Rattle.uc_values.specs.declared.ty.Ty.TheOpen.Ty-F.{Int as integer_type, Rec as record_type, Arr as array_type}
use Rattle.uc_ops.specs.declared.op.Op.{Op}
use Rattle.uc_ops.specs.declared.op.Op.TheVariants.{Symbol, App, Diff}
use Rattle.uc_ops.specs.declared.node.Node.{Node}
use Rattle.uc_ops.specs.Typing.{types_at}
use Rattle.uc_terms.specs.Subterms.{IsSubterm}

abbrev pub integer_form : Ty-F Bool → Bool
integer_form integer_type = true
integer_form (record_type fields) = list_any (λ f. f.ty) fields
integer_form (array_type index element) = index || element
integer_form other = false

-- the type is that of the integers, or one of the types inside it is
abbrev pub holds_integer : Ty → Bool
holds_integer = fold-Ty Bool integer_form

abbrev pub array_form : {A : Type 0} → Ty-F A → Bool
array_form (array_type index element) = true
array_form other = false

-- the type is one of arrays
abbrev pub is_array : Ty → Bool
is_array ty = array_form (out-Ty ty)

-- A symbol by its number and its type, a function by its number and the types of its arguments and of its result, a term whose
-- type is or holds an integer, a term of array type, and a `Diff`.
pub data Feature : Type 0 where
  symbol : ℕ → Ty → Feature
  function : ℕ → List Ty → Ty → Feature
  integer : Feature
  array : Feature
  difference : Feature

-- an operation on parts of these types, of this type itself, has the feature
abbrev pub Shows : Op → List Ty → Ty → Feature → Type 0
Shows op types ty (symbol number own) = op ≡ Symbol number own
Shows op types ty (function number arguments own) = (op ≡ App number own) × (types ≡ arguments)
Shows op types ty integer = IsTrue (holds_integer ty)
Shows op types ty array = IsTrue (is_array ty)
Shows op types ty difference = op ≡ Diff

-- the term itself has the feature
pub record Bears (nodes : List Node) (t : ℕ) (f : Feature) : Type 0 where
  pub node : Node
  pub there : slice_get nodes t ≡ Some node
  pub shows : Shows node.op (types_at nodes node.parts) node.ty f

-- a subterm of the term has the feature
pub record Brings (nodes : List Node) (t : ℕ) (f : Feature) : Type 0 where
  pub place : ℕ
  pub below : IsSubterm nodes t place
  pub bears : Bears nodes place f

-- one of the terms brings the feature
pub record OneBrings (nodes : List Node) (ts : List ℕ) (f : Feature) : Type 0 where
  pub one : ℕ
  pub listed : Contains ts one
  pub brings : Brings nodes one f

-- r has no symbol, function, integer, array and no `Diff` that t has not
abbrev pub BringsNoMore : List Node → ℕ → List Node → ℕ → Type 0
BringsNoMore new r old t = (f : Feature) → Brings new r f → Brings old t f
