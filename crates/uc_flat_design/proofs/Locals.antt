-- Locals of init code, each in a further cell: what names stand for where they are in scope, and what a scope has then.
use Rattle.std.proofs.Common.{◌≡◌, ℕ, zero, suc, ◌+◌, ◌-◌, ◌<◌, ◌≤◌, List, [], ◌∷◌, ◌++◌, map, length, take, drop, refl, sym, ap, ◌∙◌, subst, true, false, Bool, Option, Some, None, cond, arith}
use Rattle.std.specs.Prelude.{nat_eq, if◌then◌else◌, slice_get, slice_set}
use Rattle.std.specs.Option.{option_map}
use Rattle.std.specs.List.{find}
use Rattle.std.proofs.lemmas.List.{get_or-set_same, get_or-set_other, length-map}
use Rattle.uc_values.specs.declared.ty.Ty.{Ty}
use Rattle.uc_values.specs.declared.value.Value.{Value}
use Rattle.uc_values.specs.Values.{fits, nothing}
use Rattle.uc_meaning.specs.declared.scope.Interp.{Interp}
use Rattle.uc_meaning.specs.declared.scope.Local.{Local}
use Rattle.uc_meaning.specs.declared.scope.Scope.{Scope}
use Rattle.uc_meaning.specs.Code.{set_local}
use Rattle.uc_ops.specs.Typing.{Valid}
use Rattle.uc_ops.specs.Meaning.{part}
use Rattle.uc_flat.specs.Executions.{FitAll}
use Rattle.uc_flat_expressions.specs.declared.typed.Meant.{Meant}
use Rattle.uc_flat_expressions.specs.declared.typed.Meant.TheVariants.{Cell}
use Rattle.uc_flat_design.specs.FlatInitLawLaw.{now}
use Rattle.uc_flat_design.proofs.FlatInitLawOptions.{some_same}
use Rattle.uc_flat_design.proofs.Fields.{is_nat, not_nat}

-- A local, with the number of its cell. Lists of them have the newest one first.
pub record Held : Type 0 where
  pub name : ℕ
  pub ty : Ty
  pub cell : ℕ

abbrev pub entry_of : Held → Meant
entry_of h = Cell h.cell None h.ty

abbrev pub names_with : List Meant → List Held → List Meant
names_with base [] = base
names_with base (h ∷ hs) = slice_set (names_with base hs) h.name (entry_of h)

abbrev pub local_in : List Value → Held → Local
local_in cells h = record { name = h.name; ty = h.ty; value = part cells h.cell }

abbrev pub locals_in : List Value → List Held → List Local
locals_in cells hs = map (local_in cells) hs

-- main with the first n cells as its state, and with these locals
abbrev pub scope_with : Interp → ℕ → List Value → List Held → Scope
scope_with i n cells hs = record (now i (take n cells)) { locals = locals_in cells hs }

abbrev pub held_at : List Held → ℕ → Option Held
held_at hs x = find (λ (h : Held). nat_eq h.name x) hs

-- Each cell is one behind the first n and below k, of a valid type, and the newest local has the greatest number.
abbrev pub Stands : List Ty → ℕ → List Held → ℕ → Type 0
Stands types n [] k = n ≤ k
Stands types n (h ∷ hs) k = (h.cell < k) × (slice_get types h.cell ≡ Some h.ty) × Valid h.ty × Stands types n hs h.cell

abbrev pub FitHeld : List Value → List Held → Type 0
FitHeld cells [] = Unit {0}
FitHeld cells (h ∷ hs) = (fits h.ty (part cells h.cell) ≡ true) × FitHeld cells hs

-- there is a cell for each type, and those of the state and of locals fit theirs
pub record Fine (first types : List Ty) (hs : List Held) (cells : List Value) : Type 0 where
  pub fit : FitAll first (take (length first) cells)
  pub even : length cells ≡ length types
  pub held : FitHeld cells hs

-- ---- lists

pub none_some : {A : Type 0} (y : A) → None ≡ Some y → ⊥
none_some y h = cc

pub get_set_same : {A : Type 0} (xs : List A) (k : ℕ) (v z : A) → slice_get (slice_set xs k v) k ≡ Some z → v ≡ z
get_set_same [] k v z h = absurd (none_some z h)
get_set_same (x ∷ xs) zero v z h = some_same v z h
get_set_same (x ∷ xs) (suc k) v z h = get_set_same xs k v z h

pub get_set_other : {A : Type 0} (xs : List A) (j k : ℕ) (v : A) → (j ≡ k → ⊥) → slice_get (slice_set xs j v) k ≡ slice_get xs k
get_set_other [] j k v h = refl
get_set_other (x ∷ xs) zero zero v h = absurd (h refl)
get_set_other (x ∷ xs) zero (suc k) v h = refl
get_set_other (x ∷ xs) (suc j) zero v h = refl
get_set_other (x ∷ xs) (suc j) (suc k) v h = get_set_other xs j k v (λ e. h (ap (λ n. suc n) e))

pub part_set_same : (cells : List Value) (k : ℕ) (v : Value) → k < length cells → part (slice_set cells k v) k ≡ v
part_set_same cells k v l = get_or-set_same cells k v nothing l

pub part_set_other : (cells : List Value) (j k : ℕ) (v : Value) → (j ≡ k → ⊥) → part (slice_set cells j v) k ≡ part cells k
part_set_other cells j k v h = get_or-set_other cells j k v nothing (λ e. h (sym e))

pub take_set_front : (n : ℕ) (cells : List Value) (k : ℕ) (v : Value) → k < n → take n (slice_set cells k v) ≡ slice_set (take n cells) k v
take_set_front zero cells k v l = absurd (omega (arith, l))
take_set_front (suc n) [] k v l = refl
take_set_front (suc n) (c ∷ cells) zero v l = refl
take_set_front (suc n) (c ∷ cells) (suc k) v l = ap (λ xs. c ∷ xs) (take_set_front n cells k v (omega (arith, l)))

-- ---- where locals stand

module _ (types : List Ty) (n : ℕ) where
  pub floor : (hs : List Held) (k : ℕ) → Stands types n hs k → n ≤ k
  floor [] k s = s
  floor (h ∷ hs) k s = omega (arith, s.0, floor hs h.cell s.3)

  pub later : (hs : List Held) (j k : ℕ) → Stands types n hs j → j ≤ k → Stands types n hs k
  later [] j k s l = omega (arith, s, l)
  later (h ∷ hs) j k s l = (omega (arith, s.0, l), s.1, s.2, s.3)

  -- one of the locals
  pub record IsOne (k : ℕ) (h : Held) : Type 0 where
    pub behind : n ≤ h.cell
    pub below : h.cell < k
    pub typed : slice_get types h.cell ≡ Some h.ty
    pub valid : Valid h.ty

  pub one_of : (hs : List Held) (k x : ℕ) (h : Held) → held_at hs x ≡ Some h → Stands types n hs k → IsOne k h
  one_of [] k x h e s = absurd (none_some h e)
  one_of (g ∷ hs) k x h e s = by_name (λ q. one_of hs g.cell x h q s.3) (nat_eq g.name x) e
    where
      by_name : (held_at hs x ≡ Some h → IsOne g.cell h) → (b : Bool) → cond b (Some g) (held_at hs x) ≡ Some h → IsOne k h
      by_name outer true q = subst (IsOne k) (some_same g h q) (record { behind = floor hs g.cell s.3; below = s.0; typed = s.1; valid = s.2 })
      by_name outer false q = let r = outer q in record { behind = r.behind; below = omega (arith, r.below, s.0); typed = r.typed; valid = r.valid }

-- no local is in this cell
abbrev pub Off : ℕ → List Held → Type 0
Off j [] = Unit {0}
Off j (h ∷ hs) = (j ≡ h.cell → ⊥) × Off j hs

pub off_behind : (types : List Ty) (n : ℕ) (hs : List Held) (k j : ℕ) → Stands types n hs k → k ≤ j → Off j hs
off_behind types n [] k j s l = tt
off_behind types n (h ∷ hs) k j s l = (λ e. omega (arith, e, s.0, l), off_behind types n hs h.cell j s.3 (omega (arith, s.0, l)))

pub off_front : (types : List Ty) (n : ℕ) (hs : List Held) (k j : ℕ) → Stands types n hs k → j < n → Off j hs
off_front types n [] k j s l = tt
off_front types n (h ∷ hs) k j s l = (λ e. omega (arith, e, floor types n hs h.cell s.3, l), off_front types n hs h.cell j s.3 l)

pub locals_off : (cells : List Value) (v : Value) (j : ℕ) (hs : List Held) → Off j hs → locals_in (slice_set cells j v) hs ≡ locals_in cells hs
locals_off cells v j [] o = refl
locals_off cells v j (h ∷ hs) o =
    ap (λ w. record { name = h.name; ty = h.ty; value = w } ∷ locals_in (slice_set cells j v) hs) (part_set_other cells j h.cell v o.0)
    ∙ ap (λ ls. local_in cells h ∷ ls) (locals_off cells v j hs o.1)

pub fit_off : (cells : List Value) (v : Value) (j : ℕ) (hs : List Held) → Off j hs → FitHeld cells hs → FitHeld (slice_set cells j v) hs
fit_off cells v j [] o f = tt
fit_off cells v j (h ∷ hs) o f = (ap (fits h.ty) (part_set_other cells j h.cell v o.0) ∙ f.0, fit_off cells v j hs o.1 f.1)

-- ---- a local is found by its name

pub local_at : (cells : List Value) (hs : List Held) (x : ℕ) → find (λ (l : Local). nat_eq l.name x) (locals_in cells hs) ≡ option_map (local_in cells) (held_at hs x)
local_at cells [] x = refl
local_at cells (g ∷ hs) x = by_name (local_at cells hs x) (nat_eq g.name x)
  where
    by_name : find (λ (l : Local). nat_eq l.name x) (locals_in cells hs) ≡ option_map (local_in cells) (held_at hs x) → (b : Bool)
        → cond b (Some (local_in cells g)) (find (λ (l : Local). nat_eq l.name x) (locals_in cells hs)) ≡ option_map (local_in cells) (cond b (Some g) (held_at hs x))
    by_name outer true = refl
    by_name outer false = outer

pub fit_one : (cells : List Value) (hs : List Held) (x : ℕ) (h : Held) → held_at hs x ≡ Some h → FitHeld cells hs → fits h.ty (part cells h.cell) ≡ true
fit_one cells [] x h e f = absurd (none_some h e)
fit_one cells (g ∷ hs) x h e f = by_name (λ q. fit_one cells hs x h q f.1) (nat_eq g.name x) e
  where
    by_name : (held_at hs x ≡ Some h → fits h.ty (part cells h.cell) ≡ true) → (b : Bool) → cond b (Some g) (held_at hs x) ≡ Some h → fits h.ty (part cells h.cell) ≡ true
    by_name outer true q = subst (λ (z : Held). fits z.ty (part cells z.cell) ≡ true) (some_same g h q) f.0
    by_name outer false q = outer q

-- what a name stands for where it is that of no local, and where it is that of one
pub name_free : (base : List Meant) (hs : List Held) (x : ℕ) → held_at hs x ≡ None → slice_get (names_with base hs) x ≡ slice_get base x
name_free base [] x e = refl
name_free base (g ∷ hs) x e = by_name (λ q. name_free base hs x q) (nat_eq g.name x) refl e
  where
    some_none : Some g ≡ None → ⊥
    some_none h = cc

    by_name : (held_at hs x ≡ None → slice_get (names_with base hs) x ≡ slice_get base x) → (b : Bool) → nat_eq g.name x ≡ b → cond b (Some g) (held_at hs x) ≡ None
        → slice_get (slice_set (names_with base hs) g.name (entry_of g)) x ≡ slice_get base x
    by_name outer true q h = absurd (some_none h)
    by_name outer false q h = get_set_other (names_with base hs) g.name x (entry_of g) (not_nat g.name x q) ∙ outer h

pub name_held : (base : List Meant) (hs : List Held) (x : ℕ) (h : Held) (z : Meant) → held_at hs x ≡ Some h → slice_get (names_with base hs) x ≡ Some z → entry_of h ≡ z
name_held base [] x h z e a = absurd (none_some h e)
name_held base (g ∷ hs) x h z e a = by_name (λ q b. name_held base hs x h z q b) (nat_eq g.name x) refl e
  where
    by_name : (held_at hs x ≡ Some h → slice_get (names_with base hs) x ≡ Some z → entry_of h ≡ z) → (b : Bool) → nat_eq g.name x ≡ b → cond b (Some g) (held_at hs x) ≡ Some h → entry_of h ≡ z
    by_name outer true q i =
        let at = subst (λ j. slice_get (slice_set (names_with base hs) g.name (entry_of g)) j ≡ Some z) (sym (is_nat g.name x q)) a in
        ap entry_of (sym (some_same g h i)) ∙ get_set_same (names_with base hs) g.name (entry_of g) z at
    by_name outer false q i = outer i (sym (get_set_other (names_with base hs) g.name x (entry_of g) (not_nat g.name x q)) ∙ a)

-- ---- a local is given a value

module _ (types : List Ty) (n : ℕ) (cells : List Value) (v : Value) (x : ℕ) (h : Held) (there : h.cell < length cells) where
  pub set_held : (hs : List Held) (k : ℕ) → held_at hs x ≡ Some h → Stands types n hs k → set_local (locals_in cells hs) x v ≡ locals_in (slice_set cells h.cell v) hs
  unfolding set_local
  set_held [] k e s = absurd (none_some h e)
  set_held (g ∷ hs) k e s = by_name (λ q. set_held hs g.cell q s.3) (nat_eq g.name x) e
    where
      own : g ≡ h → (record { name = g.name; ty = g.ty; value = v } ∷ locals_in cells hs) ≡ locals_in (slice_set cells h.cell v) (g ∷ hs)
      own is =
          ap (λ w. record { name = g.name; ty = g.ty; value = w } ∷ locals_in cells hs) (sym (part_set_same cells h.cell v there) ∙ ap (λ (z : Held). part (slice_set cells h.cell v) z.cell) (sym is))
          ∙ ap (λ ls. local_in (slice_set cells h.cell v) g ∷ ls) (sym (locals_off cells v h.cell hs (off_behind types n hs g.cell h.cell s.3 (omega (arith, ap (λ (z : Held). z.cell) is)))))

      by_name : (held_at hs x ≡ Some h → set_local (locals_in cells hs) x v ≡ locals_in (slice_set cells h.cell v) hs) → (b : Bool) → cond b (Some g) (held_at hs x) ≡ Some h
          → (if b then record { name = g.name; ty = g.ty; value = v } ∷ locals_in cells hs else local_in cells g ∷ set_local (locals_in cells hs) x v) ≡ locals_in (slice_set cells h.cell v) (g ∷ hs)
      by_name outer true q = own (some_same g h q)
      by_name outer false q =
          let one = one_of types n hs g.cell x h q s.3 in
          ap (λ w. record { name = g.name; ty = g.ty; value = w } ∷ set_local (locals_in cells hs) x v) (sym (part_set_other cells h.cell g.cell v (λ i. omega (arith, i, one.below))))
          ∙ ap (λ ls. local_in (slice_set cells h.cell v) g ∷ ls) (outer q)

  pub fit_set_held : (hs : List Held) (k : ℕ) → held_at hs x ≡ Some h → Stands types n hs k → fits h.ty v ≡ true → FitHeld cells hs → FitHeld (slice_set cells h.cell v) hs
  fit_set_held [] k e s f held = tt
  fit_set_held (g ∷ hs) k e s f held = by_name (λ q. fit_set_held hs g.cell q s.3 f held.1) (nat_eq g.name x) e
    where
      by_name : (held_at hs x ≡ Some h → FitHeld (slice_set cells h.cell v) hs) → (b : Bool) → cond b (Some g) (held_at hs x) ≡ Some h → (fits g.ty (part (slice_set cells h.cell v) g.cell) ≡ true) × FitHeld (slice_set cells h.cell v) hs
      by_name outer true q =
          let is = some_same g h q in
          let at : part (slice_set cells h.cell v) g.cell ≡ v = ap (λ (z : Held). part (slice_set cells h.cell v) z.cell) is ∙ part_set_same cells h.cell v there in
          (ap (fits g.ty) at ∙ ap (λ (z : Held). fits z.ty v) is ∙ f, fit_off cells v h.cell hs (off_behind types n hs g.cell h.cell s.3 (omega (arith, ap (λ (z : Held). z.cell) is))) held.1)
      by_name outer false q =
          let one = one_of types n hs g.cell x h q s.3 in
          (ap (fits g.ty) (part_set_other cells h.cell g.cell v (λ i. omega (arith, i, one.below))) ∙ held.0, outer q)

-- ---- a block ends with the locals of before

pub fit_outer : (cells : List Value) (inner hs : List Held) → FitHeld cells (inner ++ hs) → FitHeld cells hs
fit_outer cells [] hs f = f
fit_outer cells (h ∷ inner) hs f = fit_outer cells inner hs f.1

drop_inner : (cells : List Value) (inner hs : List Held) → drop (length inner) (locals_in cells (inner ++ hs)) ≡ locals_in cells hs
drop_inner cells [] hs = refl
drop_inner cells (h ∷ inner) hs = drop_inner cells inner hs

length_inner : (inner hs : List Held) → length (inner ++ hs) ≡ length inner + length hs
length_inner [] hs = omega arith
length_inner (h ∷ inner) hs = omega (arith, length_inner inner hs)

pub keep_outer : (cells before : List Value) (inner hs : List Held) → drop (length (locals_in cells (inner ++ hs)) - length (locals_in before hs)) (locals_in cells (inner ++ hs)) ≡ locals_in cells hs
keep_outer cells before inner hs =
    let count : length (locals_in cells (inner ++ hs)) - length (locals_in before hs) ≡ length inner =
    omega (arith, length-map (inner ++ hs) (local_in cells), length-map hs (local_in before), length_inner inner hs) in
    ap (λ k. drop k (locals_in cells (inner ++ hs))) count ∙ drop_inner cells inner hs
