-- The bits of a known goal, and what an answer that the budget is spent says of them.
use Rattle.std.specs.Prelude.{◌≡◌, ◌≢◌, ℕ, zero, suc, ◌+◌, ◌<◌, ◌≤◌, ◌^◌, Bool as Truth, true, false, List, [], ◌∷◌, ◌++◌, length, take, slice_get, Some, All, Contains, Result, Ok, Err, IfErr, nat_le}
use Rattle.std.specs.Option.{option_map}
use Rattle.std.proofs.Common.{refl, sym, ap, ◌∙◌, subst, arith, ◌⊎◌, inl, inr}
use Rattle.std.proofs.lemmas.Bool.Decides.{nat_tests}
use Rattle.std.proofs.lemmas.List.{take_more, take_all}
use Rattle.std.proofs.lemmas.Option.{get_or_from_slice_get, slice_get_within}
use Rattle.std.proofs.lemmas.List.Elements.{All-nil, All-cons}
use Rattle.uc_values.specs.Sizes.{bit_count}
use Rattle.uc_values.specs.declared.ty.Ty.{Ty}
use Rattle.uc_ops.specs.declared.op.Op.{Op}
use Rattle.uc_ops.specs.declared.op.Op.TheVariants.{Symbol}
use Rattle.uc_ops.specs.declared.node.Node.{Node}
use Rattle.uc_ops.specs.Typing.{Suits, type_at, type_in, type_of, types_at}
use Rattle.uc_ops.proofs.Lists.{at_place}
use Rattle.uc_terms.specs.Tables.{HasOp, WellTyped, NoTwoEqual}
use Rattle.uc_terms.specs.Subterms.{IsSubterm}
use Rattle.uc_lower.specs.Bits.{bits_or, type_bits, bits_at, IsSymbolBelow}
use Rattle.uc_lower.proofs.Bits.{type_bits-append}
use Rattle.uc_solver.proofs.Setting.{subterm_there}
use Rattle.uc_solver.specs.declared.answer.Answer.{Answer}
use Rattle.uc_solver.specs.declared.answer.Answer.TheVariants.{Model as Found, Refuted}
use Rattle.uc_solver.specs.declared.answer.SolveError.{SolveError}
use Rattle.uc_solver.specs.declared.answer.SolveError.TheVariants.{NoMemory, Budget}
use Rattle.uc_solver.specs.Stands.{HasBitsUpTo}
use Rattle.uc_symstep.specs.Known.{IsKnown}
use Rattle.uc_obligations.proofs.KnownTerms.{op_is, symbol_below}
use Rattle.uc_flat_lines.specs.Deciding.{IsHonestFor, solution_of}
use Rattle.uc_flat_lines.proofs.Below.{Is, same_or_not, is_below}

-- Symbols are one term where their numbers and types are the same.

no_types : (nodes : List Node) (parts : List ℕ) → types_at nodes parts ≡ [] → parts ≡ []
no_types nodes [] h = refl
no_types nodes (p ∷ ps) h = cc

abbrev SymbolNode : List Node → ℕ → ℕ → Ty → Type 0
SymbolNode nodes k number ty = (node : Node) × (slice_get nodes k ≡ Some node) × (node.op ≡ Symbol number ty) × (node.parts ≡ [])

symbol_node : (nodes : List Node) (k number : ℕ) (ty : Ty) → WellTyped nodes → k < length nodes → HasOp nodes k (Symbol number ty) → SymbolNode nodes k number ty
symbol_node nodes k number ty w l has =
    let r = at_place nodes k l in
    let op : r.0.op ≡ Symbol number ty = op_is nodes k r.0 (Symbol number ty) r.1 has in
    (r.0, r.1, op, no_types nodes r.0.parts (subst (λ o. Suits o (types_at nodes r.0.parts)) op (w k r.0 r.1).suits).0)

one_symbol : (nodes : List Node) (j k number : ℕ) (ty : Ty) → WellTyped nodes → NoTwoEqual nodes → j < length nodes → k < length nodes → HasOp nodes j (Symbol number ty) → HasOp nodes k (Symbol number ty) → j ≡ k
one_symbol nodes j k number ty w shared lj lk hj hk =
    let a = symbol_node nodes j number ty w lj hj in
    let b = symbol_node nodes k number ty w lk hk in
    shared j k a.0 b.0 a.1 b.1 (a.2 ∙ sym b.2) (a.3 ∙ sym b.3)

symbol_type : (nodes : List Node) (k number : ℕ) (ty : Ty) → WellTyped nodes → k < length nodes → HasOp nodes k (Symbol number ty) → type_at nodes k ≡ ty
unfolding type_at
symbol_type nodes k number ty w l has =
    let r = at_place nodes k l in
    ap type_in r.1 ∙ (w k r.0 r.1).typed ∙ ap (λ o. type_of o (types_at nodes r.0.parts)) (op_is nodes k r.0 (Symbol number ty) r.1 has)

-- Whether the symbol of a number is below a term.

data IsKind (op : Op) : Type 0 where
  a_symbol : (number : ℕ) (ty : Ty) → op ≡ Symbol number ty → IsKind op
  other_kind : ((number : ℕ) (ty : Ty) → op ≡ Symbol number ty → ⊥) → IsKind op

kind_of : (op : Op) → IsKind op
kind_of (Symbol number ty) = a_symbol number ty refl
kind_of other = other_kind (λ number ty e. cc)

same_number : (op : Op) (m n : ℕ) (s ty : Ty) → op ≡ Symbol m s → op ≡ Symbol n ty → m ≡ n
same_number op m n s ty h g = let e : Symbol m s ≡ Symbol n ty = sym h ∙ g in cc

has_number : (op : Op) (n : ℕ) → Is ((ty : Ty) × (op ≡ Symbol n ty))
has_number op n = elim (kind_of op) [
  | a_symbol m ty e ↦ elim (same_or_not m n) [
    | inl i ↦ inl (ty, e ∙ ap (λ x. Symbol x ty) i)
    | inr differs ↦ inr (λ r. differs (same_number op m n ty r.0 e r.1))
  ]
  | other_kind never ↦ inr (λ r. never n r.0 r.1)
]

-- the term is below t, and is the symbol of a number
record SymbolAt (nodes : List Node) (t number k : ℕ) : Type 0 where
  below : IsSubterm nodes t k
  ty : Ty
  has : HasOp nodes k (Symbol number ty)

is_symbol_at : (nodes : List Node) (t number k : ℕ) → WellTyped nodes → t < length nodes → k < length nodes → Is (SymbolAt nodes t number k)
is_symbol_at nodes t number k w there l = elim (is_below nodes w k t there) [
  | inl s ↦ elim (has_number node.0.op number) [
    | inl p ↦ inl (record { below = s; ty = p.0; has = ap (option_map (λ (n : Node). n.op)) node.1 ∙ ap Some p.1 })
    | inr never ↦ inr (λ a. never (a.ty, op_is nodes k node.0 (Symbol number a.ty) node.1 a.has))
  ]
  | inr never ↦ inr (λ a. never a.below)
]
  where
    node : (n : Node) × (slice_get nodes k ≡ Some n)
    node = at_place nodes k l

-- a number below a bound that passes, or none
found_below : (P : ℕ → Type 0) (bound : ℕ) → ((k : ℕ) → k < bound → Is (P k)) → ((k : ℕ) × (k < bound) × P k) ⊎ ((k : ℕ) → k < bound → P k → ⊥)
found_below P zero h = inr (λ k l p. omega (arith, l))
found_below P (suc n) h = elim (h n (omega arith)) [
  | inl p ↦ inl (n, omega arith, p)
  | inr last ↦ elim (found_below P n (λ k l. h k (omega (arith, l)))) [
    | inl r ↦ inl (r.0, omega (arith, r.1), r.2)
    | inr none ↦ inr (λ k l p. elim (same_or_not k n) [
      | inl e ↦ last (subst P e p)
      | inr differs ↦ none k (smaller k n l differs) p
    ])
  ]
]
  where
    smaller : (k n : ℕ) → k < suc n → (k ≡ n → ⊥) → k < n
    smaller k n l differs = by_test (nat_le n k) refl
      where
        by_test : (b : Truth) → nat_le n k ≡ b → k < n
        by_test true e = let le : n ≤ k = grind (arith, nat_tests, e) in absurd (differs (omega (arith, le, l)))
        by_test false e = grind (arith, nat_tests, e)

-- Counting, number by number.

head_contains : (x : ℕ) (xs : List ℕ) → Contains (x ∷ xs) x
head_contains x xs = (0, omega arith, refl)

tail_contains : (x y : ℕ) (xs : List ℕ) → Contains xs y → Contains (x ∷ xs) y
tail_contains x y xs c = (suc c.0, omega (arith, c.1), c.2)

-- the symbols of the first n numbers below a term, with no more bits than the types of these numbers
record Counted (supply : List Ty) (nodes : List Node) (t n : ℕ) : Type 0 where
  list : List ℕ
  only : All (IsSymbolBelow nodes t) list
  all : (k number : ℕ) → SymbolAt nodes t number k → number < n → Contains list k
  few : bits_at nodes list ≤ type_bits (take n supply)

bits_more : (supply : List Ty) (n : ℕ) (ty : Ty) → n < length supply → slice_get supply n ≡ Some ty → type_bits (take (n + 1) supply) ≡ type_bits (take n supply) + bits_or (bit_count ty)
bits_more supply n ty l at =
    let front : take (n + 1) supply ≡ take n supply ++ ty ∷ [] = take_more supply n ty l ∙ ap (λ x. take n supply ++ x ∷ []) (get_or_from_slice_get supply n ty ty at) in
    ap type_bits front ∙ type_bits-append (take n supply) (ty ∷ []) ∙ omega arith

counted_more : (supply : List Ty) (nodes : List Node) (t n : ℕ) → WellTyped nodes → NoTwoEqual nodes → t < length nodes → IsKnown supply nodes t → n < length supply → Counted supply nodes t n → Counted supply nodes t (n + 1)
counted_more supply nodes t n w shared there h l c = by_search (found_below (SymbolAt nodes t n) (length nodes) (λ k i. is_symbol_at nodes t n k w there i))
  where
    inside : (k number : ℕ) → SymbolAt nodes t number k → k < length nodes
    inside k number a = subterm_there nodes t k w there a.below

    typed : (k number : ℕ) (a : SymbolAt nodes t number k) → slice_get supply number ≡ Some a.ty
    typed k number a = symbol_below supply nodes t k number a.ty h a.below a.has

    as_number : (k m : ℕ) → SymbolAt nodes t m k → m ≡ n → SymbolAt nodes t n k
    as_number k m a e = subst (λ i. SymbolAt nodes t i k) e a

    same_some : (a b : Ty) → slice_get supply n ≡ Some a → slice_get supply n ≡ Some b → a ≡ b
    same_some a b p q = let e : Some a ≡ Some b = sym p ∙ q in cc

    same_term : (j k : ℕ) → SymbolAt nodes t n j → SymbolAt nodes t n k → j ≡ k
    same_term j k a b =
        let e : a.ty ≡ b.ty = same_some a.ty b.ty (typed j n a) (typed k n b) in
        one_symbol nodes j k n b.ty w shared (inside j n a) (inside k n b) (subst (λ s. HasOp nodes j (Symbol n s)) e a.has) b.has

    smaller : (m : ℕ) → m < n + 1 → (m ≡ n → ⊥) → m < n
    smaller m i differs = by_test (nat_le n m) refl
      where
        by_test : (b : Truth) → nat_le n m ≡ b → m < n
        by_test true e = let le : n ≤ m = grind (arith, nat_tests, e) in absurd (differs (omega (arith, le, i)))
        by_test false e = grind (arith, nat_tests, e)

    one_more : (j : ℕ) → SymbolAt nodes t n j → Counted supply nodes t (n + 1)
    one_more j a = record {
      list = j ∷ c.list;
      only = All-cons (IsSymbolBelow nodes t) j c.list (record { below = a.below; symbol = record { number = n; ty = a.ty; has = a.has } }) c.only;
      all = λ k m b i. elim (same_or_not m n) [
        | inl e ↦ subst (Contains (j ∷ c.list)) (same_term j k a (as_number k m b e)) (head_contains j c.list)
        | inr differs ↦ tail_contains j k c.list (c.all k m b (smaller m i differs))
      ];
      few =
          let own : bits_or (bit_count (type_at nodes j)) ≡ bits_or (bit_count a.ty) = ap (λ ty. bits_or (bit_count ty)) (symbol_type nodes j n a.ty w (inside j n a) a.has) in
          omega (arith, own, c.few, bits_more supply n a.ty l (typed j n a));
    }

    none_more : ((k : ℕ) → k < length nodes → SymbolAt nodes t n k → ⊥) → Counted supply nodes t (n + 1)
    none_more none = record {
      list = c.list;
      only = c.only;
      all = λ k m b i. elim (same_or_not m n) [
        | inl e ↦ absurd (none k (inside k m b) (as_number k m b e))
        | inr differs ↦ c.all k m b (smaller m i differs)
      ];
      few = let at = at_place supply n l in omega (arith, c.few, bits_more supply n at.0 l at.1);
    }

    by_search : ((k : ℕ) × (k < length nodes) × SymbolAt nodes t n k) ⊎ ((k : ℕ) → k < length nodes → SymbolAt nodes t n k → ⊥) → Counted supply nodes t (n + 1)
    by_search (inl r) = one_more r.0 r.2
    by_search (inr none) = none_more none

counted : (supply : List Ty) (nodes : List Node) (t n : ℕ) → WellTyped nodes → NoTwoEqual nodes → t < length nodes → IsKnown supply nodes t → n ≤ length supply → Counted supply nodes t n
counted supply nodes t zero w shared there h l = record { list = []; only = All-nil (IsSymbolBelow nodes t); all = λ k m a i. absurd (omega (arith, i)); few = omega arith }
counted supply nodes t (suc n) w shared there h l =
    let next : n + 1 ≡ suc n = omega arith in
    subst (Counted supply nodes t) next (counted_more supply nodes t n w shared there h (omega (arith, l)) (counted supply nodes t n w shared there h (omega (arith, l))))

-- a known term has at most the bits of its supply
pub known_bits : (supply : List Ty) (nodes : List Node) (t : ℕ) → WellTyped nodes → NoTwoEqual nodes → t < length nodes → IsKnown supply nodes t → HasBitsUpTo nodes t (type_bits supply)
known_bits supply nodes t w shared there h =
    let c = counted supply nodes t (length supply) w shared there h (omega arith) in
    record {
      symbols = c.list;
      only = c.only;
      all = λ k s.
          let at = symbol_below supply nodes t k s.symbol.number s.symbol.ty h s.below s.symbol.has in
          c.all k s.symbol.number (record { below = s.below; ty = s.symbol.ty; has = s.symbol.has }) (slice_get_within supply s.symbol.number s.symbol.ty at);
      few = omega (arith, c.few, ap type_bits (take_all (length supply) supply (omega arith)));
    }

-- the solver says that the budget is spent only where it is below 2 to the bits of the supply
budget_below : (nodes : List Node) (goal budget : ℕ) (r : Result Answer SolveError) → WellTyped nodes → NoTwoEqual nodes → goal < length nodes → r ≡ Err Budget
    → ((n : ℕ) → HasBitsUpTo nodes goal n → 2 ^ n ≤ budget → r ≢ Err Budget) → (supply : List Ty) → IsKnown supply nodes goal → budget < 2 ^ type_bits supply
budget_below nodes goal budget r w shared there is enough supply h = by_test (nat_le (2 ^ type_bits supply) budget) refl
  where
    by_test : (b : Truth) → nat_le (2 ^ type_bits supply) budget ≡ b → budget < 2 ^ type_bits supply
    by_test true e = absurd (enough (type_bits supply) (known_bits supply nodes goal w shared there h) (grind (arith, nat_tests, e)) is)
    by_test false e = grind (arith, nat_tests, e)

pub honest_is : (nodes : List Node) (goal budget : ℕ) (r : Result Answer SolveError) → WellTyped nodes → NoTwoEqual nodes → goal < length nodes → ((n : ℕ) → HasBitsUpTo nodes goal n → 2 ^ n ≤ budget → r ≢ Err Budget)
    → IfErr (solution_of r) (IsHonestFor budget nodes goal)
honest_is nodes goal budget (Ok (Found m)) w shared there enough = tt
honest_is nodes goal budget (Ok (Refuted log)) w shared there enough = tt
honest_is nodes goal budget (Err Budget) w shared there enough = budget_below nodes goal budget (Err Budget) w shared there refl enough
honest_is nodes goal budget (Err NoMemory) w shared there enough = tt
