-- The types that a term gives to the numbers of its symbols and functions.
use Rattle.std.specs.Prelude.{◌≡◌, ◌≢◌, ℕ, ◌<◌, Bool as Truth, true, List, Option, Some, None, slice_get}
use Rattle.std.specs.Bool.{Decides}
use Rattle.uc_values.specs.declared.ty.Ty.{Ty}
use Rattle.uc_ops.specs.declared.op.Op.{Op}
use Rattle.uc_ops.specs.declared.op.Op.TheVariants.{Symbol, App}
use Rattle.uc_ops.specs.declared.node.Node.{Node}
use Rattle.uc_ops.specs.Typing.{type_at, types_at}
use Rattle.uc_terms.specs.Tables.{HasOp, parts_at}
use Rattle.uc_terms.specs.Subterms.{Marked}
use Rattle.uc_solver.specs.declared.signature.Kind.{Kind}
use Rattle.uc_solver.specs.declared.signature.Kind.TheVariants.{Symbols, Functions}

-- the number that an operation has, where it is a symbol or a function, as the kind says
abbrev pub number_in : Kind → Op → Option ℕ
number_in Symbols (Symbol number ty) = Some number
number_in Symbols other = None
number_in Functions (App number ty) = Some number
number_in Functions other = None

abbrev pub node_number : Kind → Option Node → Option ℕ
node_number kind None = None
node_number kind (Some node) = number_in kind node.op

abbrev pub number_at : Kind → List Node → ℕ → Option ℕ
number_at kind nodes k = node_number kind (slice_get nodes k)

-- two terms have one type, and parts of the same types
pub record HaveOneSignature (nodes : List Node) (j k : ℕ) : Type 0 where
  pub result : type_at nodes j ≡ type_at nodes k
  pub arguments : types_at nodes (parts_at nodes j) ≡ types_at nodes (parts_at nodes k)

-- of the terms that are marked below the place, those of one number have one signature
abbrev pub AreEven : Kind → List Node → List Truth → ℕ → Type 0
AreEven kind nodes marks place =
    (j k number : ℕ) → j < place → k < place → Marked marks j → Marked marks k → number_at kind nodes j ≡ Some number → number_at kind nodes k ≡ Some number
    → HaveOneSignature nodes j k

-- a marked term below the place that has the number
pub record IsNamed (kind : Kind) (nodes : List Node) (marks : List Truth) (place number j : ℕ) : Type 0 where
  pub below : j < place
  pub marked : Marked marks j
  pub named : number_at kind nodes j ≡ Some number

-- the map has for each number of a marked term below the place such a term, whose signature all of these have
pub record AreFirst (kind : Kind) (nodes : List Node) (marks : List Truth) (place : ℕ) (first : ℕ → Option ℕ) : Type 0 where
  pub sound : (number j : ℕ) → first number ≡ Some j → IsNamed kind nodes marks place number j
  pub complete : (k number : ℕ) → IsNamed kind nodes marks place number k → (j : ℕ) × (first number ≡ Some j) × HaveOneSignature nodes j k

-- what happens at a place: a number that is new is put into the map, and the signature of another term is compared
pub data IsStep (kind : Kind) (nodes : List Node) (marked : Truth) (place : ℕ) (before after : ℕ → Option ℕ) (fine : Truth) : Type 0 where
  skipped : (marked ≡ true → number_at kind nodes place ≡ None) → ((n : ℕ) → after n ≡ before n) → fine ≡ true → IsStep kind nodes marked place before after fine
  first : (number : ℕ) → marked ≡ true → number_at kind nodes place ≡ Some number → before number ≡ None → after number ≡ Some place → ((n : ℕ) → n ≢ number → after n ≡ before n)
      → fine ≡ true → IsStep kind nodes marked place before after fine
  again : (number j : ℕ) → marked ≡ true → number_at kind nodes place ≡ Some number → before number ≡ Some j → ((n : ℕ) → after n ≡ before n)
      → Decides fine (HaveOneSignature nodes j place) → IsStep kind nodes marked place before after fine

-- a term below the place that has the number
pub record IsEarlier (kind : Kind) (nodes : List Node) (place number j : ℕ) : Type 0 where
  pub below : j < place
  pub named : number_at kind nodes j ≡ Some number

-- the term applies a function
pub record IsApplied (nodes : List Node) (k : ℕ) : Type 0 where
  pub number : ℕ
  pub ty : Ty
  pub has : HasOp nodes k (App number ty)
