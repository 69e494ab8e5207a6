-- Init code has a property everywhere, where its expressions and the cells that it writes give it.
use Rattle.std.proofs.Common.{◌≡◌, ℕ, zero, suc, ◌+◌, List, [], ◌∷◌, ◌++◌, map, length, refl, sym, ap, ◌∙◌, subst, Option, Some, None, arith}
use Rattle.std.specs.Prelude.{Bool as Truth, true, false, nat_eq, slice_get, slice_set, All}
use Rattle.std.specs.Option.{option_map, option_and_then}
use Rattle.std.specs.List.{list_all}
use Rattle.std.proofs.lemmas.Bool.Decides.{nat_tests}
use Rattle.std.proofs.lemmas.List.{length-append}
use Rattle.std.proofs.lemmas.List.Elements.{All-nil, All-cons, All-head, All-tail, All-append}
use Rattle.std.proofs.lemmas.Option.{none-some, same_Some, slice_get_within}
use Rattle.uc_lexer.specs.declared.place.Place.{Place}
use Rattle.uc_syntax.specs.declared.place.Identifier.{Identifier}
use Rattle.uc_syntax.specs.declared.expression.Expr.{Expr}
use Rattle.uc_syntax.specs.declared.statement.Arm.{Arm}
use Rattle.uc_syntax.specs.declared.statement.Target.{Target}
use Rattle.uc_syntax.specs.declared.statement.TargetPart.{TargetPart}
use Rattle.uc_syntax.specs.declared.statement.Stmt.{Stmt}
use Rattle.uc_syntax.specs.declared.statement.Stmt.TheOpen.{Stmt-F}
use Rattle.uc_syntax.specs.declared.statement.Stmt.TheOpen.Stmt-F.{Local as Declare, Skip, Block, Assert, Assume, Havoc, Assign, If, Case, For, Call, Next}
use Rattle.uc_syntax.specs.declared.statement.Stmt.TheFolds.{fold-Stmt, map-Stmt, fold-roll-Stmt, ind-Stmt}
use Rattle.uc_values.specs.declared.ty.Ty.{Ty}
use Rattle.uc_values.proofs.Shapes.{and_true}
use Rattle.uc_ops.specs.Typing.{Valid}
use Rattle.uc_flat.specs.declared.expression.Expression.{Expression}
use Rattle.uc_flat.specs.declared.expression.Expression.TheVariants.{Cell as ReadCell}
use Rattle.uc_flat.specs.declared.statement.Statement.{Statement}
use Rattle.uc_flat.specs.declared.statement.Statement.TheOpen.{Statement-F}
use Rattle.uc_flat.specs.declared.statement.Statement.TheOpen.Statement-F.{Assign as AssignForm, Havoc as HavocForm, Assume as AssumeForm, If as IfForm}
use Rattle.uc_flat.specs.declared.statement.Statement.TheVariants.{Assign as AssignCell, Havoc as HavocCell, Assume as AssumeThat}
use Rattle.uc_flat.specs.Reading.{type_of}
use Rattle.uc_flat.specs.Flats.{wider_types}
use Rattle.uc_flat.specs.Fine.{IsTyped, ReadsTyped}
use Rattle.uc_flat.proofs.Extending.{slice_get-front, slice_get-back}
use Rattle.uc_flat.proofs.Making.{Alone, fine_alone}
use Rattle.uc_flat_design.proofs.OnlyReads.{cell_reads}
use Rattle.uc_flat_expressions.specs.declared.typed.TypedExpression.{TypedExpression}
use Rattle.uc_flat_expressions.specs.declared.typed.Meant.{Meant}
use Rattle.uc_flat_expressions.specs.declared.typed.Meant.TheVariants.{Cell}
use Rattle.uc_flat_expressions.specs.Types.{is_boolean}
use Rattle.uc_flat_expressions.specs.Expressions.{flat_of, all_of}
use Rattle.uc_flat_code.specs.declared.writing.Written.{Written}
use Rattle.uc_flat_code.specs.declared.writing.FlatArm.{FlatArm}
use Rattle.uc_flat_code.specs.Code.{may_write, may_havoc, written_as, written, havocked, assume_of, havoc_of, replaced_in, assigned, joined_arms, in_order as all_in_order}
use Rattle.uc_flat_code.specs.CellTypes.{Types, is_cell_type}
use Rattle.uc_flat_code.specs.Zero.{zero_of}
use Rattle.uc_flat_code.specs.declared.made.MadeCode.{MadeCode}
use Rattle.uc_flat_code.specs.declared.made.MadeArms.{MadeArms}
use Rattle.uc_flat_code.specs.Init.{Made, Making, alone, then_made, in_order, ended, in_block, plainly, declared, kept, given, kept_in, each_given, through_kept, assigned_by, arm_by, arm_with, arm_made, then_arms, arms_made, else_of, joined, if_of, making_form, making_of, made_code, init_code}
use Rattle.uc_flat_laws.specs.Fits.{AreCellsOf, ExpressionsFit, ExpressionsReadTyped, ReadsCellTypes, HasLocals, without, passed, with_local, InitLaw, InitTypedLaw}
use Rattle.uc_flat_laws.proofs.Conditions.{boolean_is}
use Rattle.uc_flat_laws.proofs.Fielded.{IsPart, replaced_part, replaced_reads, replaced_type}
use Rattle.uc_flat_laws.proofs.Standing.{Everywhere, nowhere, both, one_assign, one_havoc, one_assume, one_if}
use Rattle.uc_flat_laws.proofs.Suiting.{if_some, then_parts, map_parts}
use Rattle.uc_flat_laws.proofs.Typing.{AloneTyped, typed_alone}
use Rattle.uc_flat_laws.proofs.Laws.{cell_part}
use Rattle.uc_flat_laws.proofs.Zeros.{type_of_zero, zero_typed, zero_reads}

plus_zero : (a : ℕ) → a ≡ a + 0
plus_zero a = omega arith

moved : (a b : ℕ) → (a + 1) + b ≡ a + suc b
moved a b = omega arith

-- ---- the cells that names stand for

written_at : (o : Option Meant) (k : Written) → written_as 0 o ≡ Some k → (new : Option ℕ) × (o ≡ Some (Cell k.cell new k.ty))
written_at None k h = absurd (none-some k h)
written_at (Some (Cell old new ty)) k h =
    let made : Written = record { cell = old + 0; ty = ty } in
    let is : made ≡ k = same_Some made k h in
    (new, ap (λ j. Some (Cell j new ty)) (plus_zero old ∙ ap (λ (w : Written). w.cell) is) ∙ ap (λ (w : Written). Some (Cell k.cell new w.ty)) is)
written_at (Some other) k h = absurd (none-some k h)

written_for : (names : List Meant) (x : ℕ) (primed : Truth) (k : Written) → written names plainly x primed ≡ Some k → (new : Option ℕ) × (slice_get names x ≡ Some (Cell k.cell new k.ty))
written_for names x primed k h = written_at (slice_get names x) k (if_some (may_write false primed) (written_as 0 (slice_get names x)) k h).1

havocked_for : (names : List Meant) (x : ℕ) (primed : Truth) (k : Written) → havocked names plainly x primed ≡ Some k → (new : Option ℕ) × (slice_get names x ≡ Some (Cell k.cell new k.ty))
havocked_for names x primed k h = written_at (slice_get names x) k (if_some (may_havoc false primed) (written_as 0 (slice_get names x)) k h).1

get_set_same : {A : Type 0} (xs : List A) (k : ℕ) (v z : A) → slice_get (slice_set xs k v) k ≡ Some z → v ≡ z
get_set_same [] k v z h = absurd (none-some z h)
get_set_same (x ∷ xs) zero v z h = same_Some v z h
get_set_same (x ∷ xs) (suc k) v z h = get_set_same xs k v z h

get_set_other : {A : Type 0} (xs : List A) (j k : ℕ) (v : A) → (j ≡ k → ⊥) → slice_get (slice_set xs j v) k ≡ slice_get xs k
get_set_other [] j k v h = refl
get_set_other (x ∷ xs) zero zero v h = absurd (h refl)
get_set_other (x ∷ xs) zero (suc k) v h = refl
get_set_other (x ∷ xs) (suc j) zero v h = refl
get_set_other (x ∷ xs) (suc j) (suc k) v h = get_set_other xs j k v (λ e. h (ap (λ n. suc n) e))

same_cell : (j k : ℕ) (o p : Option ℕ) (t u : Ty) → Cell j o t ≡ Cell k p u → j ≡ k
same_cell j k o p t u h = cc

same_cell_type : (j k : ℕ) (o p : Option ℕ) (t u : Ty) → Cell j o t ≡ Cell k p u → t ≡ u
same_cell_type j k o p t u h = cc

-- where a target takes a value
record IsGiven (names : List Meant) (t : Target) (x : TypedExpression) (flat : List Statement) : Type 0 where
  pub place : Written
  pub new : Option ℕ
  pub listed : slice_get names t.name ≡ Some (Cell place.cell new place.ty)
  pub made : Expression
  pub is_made : replaced_in (ReadCell place.cell) place.ty t.parts x ≡ Some made
  pub is : AssignCell place.cell made ∷ [] ≡ flat

given_in : (names : List Meant) (t : Target) (x : TypedExpression) (flat : List Statement) → given names t x ≡ Some flat → IsGiven names t x flat
given_in names t x flat h =
    let p = then_parts (λ k. assigned k t.parts x) (written names plainly t.name t.is_primed) flat h in
    let w = written_for names t.name t.is_primed p.0 p.1 in
    let code : Expression → List Statement = λ z. AssignCell p.0.cell z ∷ [] in
    let q = map_parts code (replaced_in (ReadCell p.0.cell) p.0.ty t.parts x) flat p.2 in
    record { place = p.0; new = w.0; listed = w.1; made = q.0; is_made = q.1; is = q.2 }

-- ---- a walk

module _ (base : List Meant) (wide : List Ty) (n : ℕ) where
  -- a cell of such a number may have this type, and has it
  pub record IsPlace (k : ℕ) (ty : Ty) : Type 0 where
    pub typed : slice_get wide k ≡ Some ty
    pub type : is_cell_type ty ≡ true

  abbrev pub ArePlaces : List Meant → Type 0
  ArePlaces names = (x k : ℕ) (new : Option ℕ) (ty : Ty) → slice_get names x ≡ Some (Cell k new ty) → IsPlace k ty

  set_places : (names : List Meant) (k y : ℕ) (t : Ty) → ArePlaces names → slice_get wide k ≡ Some t → is_cell_type t ≡ true → ArePlaces (slice_set names y (Cell k None t))
  set_places names k y t places at good x j new ty h = by_name (nat_eq y x) refl
    where
      same_name : nat_eq y x ≡ true → y ≡ x
      same_name q = grind (arith, nat_tests)

      other_name : nat_eq y x ≡ false → y ≡ x → ⊥
      other_name q i = grind (arith, nat_tests)

      by_name : (b : Truth) → nat_eq y x ≡ b → IsPlace j ty
      by_name true q =
          let e = get_set_same names y (Cell k None t) (Cell j new ty) (subst (λ i. slice_get (slice_set names y (Cell k None t)) i ≡ Some (Cell j new ty)) (sym (same_name q)) h) in
          subst (λ i. IsPlace i ty) (same_cell k j None new t ty e) (subst (IsPlace k) (same_cell_type k j None new t ty e) (record { typed = at; type = good }))
      by_name false q = places x j new ty (sym (get_set_other names y x (Cell k None t) (other_name q)) ∙ h)

  pub places_of : (names : List Meant) (k : ℕ) → ArePlaces base → HasLocals base wide n names k → ArePlaces names
  places_of names k places without = places
  places_of names k places (passed others j d) = places_of others j places d
  places_of names k places (with_local others j x ty d at good) = set_places others j x ty (places_of others j places d) at good

  passed_by : (names : List Meant) (k d : ℕ) → HasLocals base wide n names k → HasLocals base wide n names (k + d)
  passed_by names k zero h = subst (HasLocals base wide n names) (plus_zero k) h
  passed_by names k (suc d) h = subst (HasLocals base wide n names) (later k d) (passed names (k + d) (passed_by names k d h))
    where
      later : (a b : ℕ) → (a + b) + 1 ≡ a + suc b
      later a b = omega arith

  -- the cells from a number on have the types of what they begin with
  abbrev pub AllAt : ℕ → List Expression → Type 0
  AllAt k [] = Unit {0}
  AllAt k (e ∷ es) = ((ty : Ty) → e ≡ zero_of ty → slice_get wide k ≡ Some ty) × AllAt (k + 1) es

  at_split : (k : ℕ) (xs ys : List Expression) → AllAt k (xs ++ ys) → AllAt k xs × AllAt (k + length xs) ys
  at_split k [] ys h = (tt, subst (λ j. AllAt j ys) (plus_zero k) h)
  at_split k (x ∷ xs) ys h = let r = at_split (k + 1) xs ys h.1 in ((h.0, r.0), subst (λ j. AllAt j ys) (moved k (length xs)) r.1)

  -- each single statement has the property A, expressions have S, and what further cells begin with has B
  pub record Suits (A : Statement-F Statement → Type 0) (S : TypedExpression → Type 0) (B : Expression → Type 0) : Type 0 where
    pub sources : (names : List Meant) (k : ℕ) (e : Expr) (t : TypedExpression) → HasLocals base wide n names k → flat_of names e ≡ Some t → S t
    pub assumed : (t : TypedExpression) → S t → is_boolean t.ty ≡ true → A (AssumeForm t.expression)
    pub decided : (t : TypedExpression) (xs ys : List Statement) → S t → is_boolean t.ty ≡ true → A (IfForm t.expression xs ys)
    pub anything : (k : ℕ) (ty : Ty) → IsPlace k ty → A (HavocForm k true)
    pub stored : (k : ℕ) (t : TypedExpression) → slice_get wide k ≡ Some t.ty → S t → A (AssignForm k t.expression)
    pub again : (k : ℕ) (t : TypedExpression) → slice_get wide k ≡ Some t.ty → S (kept_in k t)
    pub given : (k : ℕ) (ty : Ty) (parts : List TargetPart) (t : TypedExpression) (z : Expression) → IsPlace k ty → S t → replaced_in (ReadCell k) ty parts t ≡ Some z → A (AssignForm k z)
    pub begins : (ty : Ty) → is_cell_type ty ≡ true → B (zero_of ty)

  module _ (reads : Types) (A : Statement-F Statement → Type 0) (S : TypedExpression → Type 0) (B : Expression → Type 0) (places : ArePlaces base) (types_read : ReadsCellTypes reads) (suits : Suits A S B) where
    abbrev zeros : List TypedExpression → List Expression
    zeros xs = map (λ x. zero_of x.ty) xs

    -- what code has, and where what names stand for leads
    pub record Gives (k : ℕ) (a : Made) : Type 0 where
      pub code : Everywhere A a.code
      pub further : All B a.further
      pub names : HasLocals base wide n a.names (k + length a.further)

    abbrev Good : Making → Type 0
    Good x = (names : List Meant) (k : ℕ) (a : Made) → HasLocals base wide n names k → x names k ≡ Some a → AllAt k a.further → Gives k a

    abbrev AllGood : List Making → Type 0
    AllGood [] = Unit {0}
    AllGood (x ∷ xs) = Good x × AllGood xs

    abbrev ArmsGood : List (Arm Making) → Type 0
    ArmsGood [] = Unit {0}
    ArmsGood (a ∷ arms) = AllGood a.body × ArmsGood arms

    abbrev ElseGood : Option (List Making) → Type 0
    ElseGood None = Unit {0}
    ElseGood (Some block) = AllGood block

    alone_gives : (names : List Meant) (k : ℕ) (a : Made) (code : List Statement) → HasLocals base wide n names k → Everywhere A code → alone names code ≡ a → Gives k a
    alone_gives names k a code d c is = subst (Gives k) is (record { code = c; further = All-nil B; names = passed_by names k 0 d })

    both_give : (k : ℕ) (b c : Made) → Gives k b → Gives (k + length b.further) c → Gives k (then_made b c)
    both_give k b c f g = record {
      code = both A b.code c.code f.code g.code;
      further = All-append B b.further c.further f.further g.further;
      names = subst (HasLocals base wide n c.names) (joins k b.further c.further) g.names;
    }
      where
        joins : (j : ℕ) (xs ys : List Expression) → (j + length xs) + length ys ≡ j + length (xs ++ ys)
        joins j xs ys = omega (arith, length-append xs ys)

    order_good : (xs : List Making) → AllGood xs → Good (in_order xs)
    unfolding in_order
    order_good [] all names k a d h at = alone_gives names k a [] d (nowhere A) (same_Some (alone names []) a h)
    order_good (x ∷ xs) all names k a d h at =
        let p = then_parts (λ b. option_map (then_made b) (in_order xs b.names (k + length b.further))) (x names k) a h in
        let b = p.0 in
        let q = map_parts (then_made b) (in_order xs b.names (k + length b.further)) a p.2 in
        let s = at_split k b.further q.0.further (subst (λ (z : Made). AllAt k z.further) (sym q.2) at) in
        let f = all.0 names k b d p.1 s.0 in
        let g = order_good xs all.1 b.names (k + length b.further) q.0 f.names q.1 s.1 in
        subst (Gives k) q.2 (both_give k b q.0 f g)

    block_good : (xs : List Making) → AllGood xs → Good (in_block xs)
    block_good xs all names k a d h at =
        let p = map_parts (ended names) (in_order xs names k) a h in
        let f = order_good xs all names k p.0 d p.1 (subst (λ (z : Made). AllAt k z.further) (sym p.2) at) in
        subst (Gives k) p.2 (record { code = f.code; further = f.further; names = passed_by names k (length p.0.further) d })

    -- ---- locals

    declared_good : (ty : Ty) → is_cell_type ty ≡ true → (xs : List Identifier) → Good (declared ty xs)
    unfolding declared
    declared_good ty good [] names k a d h at = alone_gives names k a [] d (nowhere A) (same_Some (alone names []) a h)
    declared_good ty good (x ∷ xs) names k a d h at =
        let others = slice_set names x.name (Cell k None ty) in
        let first : Made = record { code = HavocCell k true ∷ []; further = zero_of ty ∷ []; names = names } in
        let p = map_parts (then_made first) (declared ty xs others (k + 1)) a h in
        let ats = subst (λ (z : Made). AllAt k z.further) (sym p.2) at in
        let here : slice_get wide k ≡ Some ty = ats.0 ty refl in
        let g = declared_good ty good xs others (k + 1) p.0 (with_local names k x.name ty d here good) p.1 ats.1 in
        subst (Gives k) p.2
        (record {
          code = both A (HavocCell k true ∷ []) p.0.code (one_havoc A k true (suits.anything k ty (record { typed = here; type = good }))) g.code;
          further = All-cons B (zero_of ty) p.0.further (suits.begins ty good) g.further;
          names = subst (HasLocals base wide n p.0.names) (moved k (length p.0.further)) g.names;
        })

    -- ---- simple statements

    assume_good : (e : Expr) → Good (λ names k. option_map (alone names) (option_and_then assume_of (flat_of names e)))
    assume_good e names k a d h at =
        let o = map_parts (alone names) (option_and_then assume_of (flat_of names e)) a h in
        let p = then_parts assume_of (flat_of names e) o.0 o.1 in
        let code : List Statement = AssumeThat p.0.expression ∷ [] in
        let c = if_some (is_boolean p.0.ty) (Some code) o.0 p.2 in
        let here = one_assume A p.0.expression (suits.assumed p.0 (suits.sources names k e p.0 d p.1) c.0) in
        alone_gives names k a o.0 d (subst (Everywhere A) (same_Some code o.0 c.1) here) o.2

    havoc_good : (x : ℕ) (primed : Truth) → Good (λ names k. option_map (λ j. alone names (havoc_of plainly j)) (havocked names plainly x primed))
    havoc_good x primed names k a d h at =
        let made : Written → Made = λ j. alone names (havoc_of plainly j) in
        let p = map_parts made (havocked names plainly x primed) a h in
        let w = havocked_for names x primed p.0 p.1 in
        let place = places_of names k places d x p.0.cell w.0 p.0.ty w.1 in
        alone_gives names k a (havoc_of plainly p.0) d (one_havoc A p.0.cell true (suits.anything p.0.cell p.0.ty place)) p.2

    sources_all : (names : List Meant) (k : ℕ) → HasLocals base wide n names k → (es : List Expr) (xs : List TypedExpression) → all_of (map (flat_of names) es) ≡ Some xs → All S xs
    sources_all names k d [] xs h = subst (All S) (same_Some [] xs h) (All-nil S)
    sources_all names k d (e ∷ es) xs h =
        let p = then_parts (λ x. option_map (λ ys. x ∷ ys) (all_of (map (flat_of names) es))) (flat_of names e) xs h in
        let q = map_parts (λ ys. p.0 ∷ ys) (all_of (map (flat_of names) es)) xs p.2 in
        subst (All S) q.2 (All-cons S p.0 q.0 (suits.sources names k e p.0 d p.1) (sources_all names k d es q.0 q.1))

    -- a target that takes a value has the property, and the value's type is one that cells may have
    given_good : (names : List Meant) (k : ℕ) → HasLocals base wide n names k → (t : Target) (x : TypedExpression) (flat : List Statement) → S x → given names t x ≡ Some flat → Everywhere A flat × (is_cell_type x.ty ≡ true)
    given_good names k d t x flat s h =
        let g = given_in names t x flat h in
        let place = places_of names k places d t.name g.place.cell g.new g.place.ty g.listed in (
          subst (Everywhere A) g.is (one_assign A g.place.cell g.made (suits.given g.place.cell g.place.ty t.parts x g.made place s g.is_made)),
          replaced_type t.parts (ReadCell g.place.cell) g.made g.place.ty x place.type g.is_made,
        )

    abbrev CellTyped : TypedExpression → Type 0
    CellTyped x = is_cell_type x.ty ≡ true

    each_good : (names : List Meant) (j : ℕ) → HasLocals base wide n names j → (ts : List Target) (xs : List TypedExpression) (k : ℕ) (flat : List Statement) → AllAt k (zeros xs)
        → all_in_order (each_given names k ts xs) ≡ Some flat → Everywhere A flat × All CellTyped xs
    unfolding each_given
    each_good names j d [] [] k flat at h = (subst (Everywhere A) (same_Some [] flat h) (nowhere A), All-nil CellTyped)
    each_good names j d [] (x ∷ xs) k flat at h = absurd (none-some flat h)
    each_good names j d (t ∷ ts) [] k flat at h = absurd (none-some flat h)
    each_good names j d (t ∷ ts) (x ∷ xs) k flat at h =
        let p = then_parts (λ ys. option_map (λ zs. ys ++ zs) (all_in_order (each_given names (k + 1) ts xs))) (given names t (kept_in k x)) flat h in
        let q = map_parts (λ zs. p.0 ++ zs) (all_in_order (each_given names (k + 1) ts xs)) flat p.2 in
        let g = given_good names j d t (kept_in k x) p.0 (suits.again k x (at.0 x.ty refl)) p.1 in
        let r = each_good names j d ts xs (k + 1) q.0 at.1 q.1 in
        (subst (Everywhere A) q.2 (both A p.0 q.0 g.0 r.0), All-cons CellTyped x xs g.1 r.1)

    kept_good : (xs : List TypedExpression) (k : ℕ) → All S xs → AllAt k (zeros xs) → Everywhere A (kept k xs)
    unfolding kept
    kept_good [] k s at = nowhere A
    kept_good (x ∷ xs) k s at =
        both A (AssignCell k x.expression ∷ []) (kept (k + 1) xs) (one_assign A k x.expression (suits.stored k x (at.0 x.ty refl) (All-head S x xs s))) (kept_good xs (k + 1) (All-tail S x xs s) at.1)

    zeros_begin : (xs : List TypedExpression) → All CellTyped xs → All B (zeros xs)
    zeros_begin [] c = All-nil B
    zeros_begin (x ∷ xs) c = All-cons B (zero_of x.ty) (zeros xs) (suits.begins x.ty (All-head CellTyped x xs c)) (zeros_begin xs (All-tail CellTyped x xs c))

    several_good : (ts : List Target) (xs : List TypedExpression) → All S xs → Good (λ names k. option_map (through_kept names k xs) (all_in_order (each_given names k ts xs)))
    several_good ts xs s names k a d h at =
        let p = map_parts (through_kept names k xs) (all_in_order (each_given names k ts xs)) a h in
        let ats = subst (λ (z : Made). AllAt k z.further) (sym p.2) at in
        let g = each_good names k d ts xs k p.0 ats p.1 in
        subst (Gives k) p.2
        (record { code = both A (kept k xs) p.0 (kept_good xs k s ats) g.0; further = zeros_begin xs g.1; names = passed_by names k (length (zeros xs)) d })

    assigned_good : (ts : List Target) (xs : List TypedExpression) → (names : List Meant) (k : ℕ) (a : Made) → HasLocals base wide n names k → All S xs → assigned_by ts xs names k ≡ Some a → AllAt k a.further → Gives k a
    unfolding assigned_by
    assigned_good (t ∷ []) (x ∷ []) names k a d s h at =
        let p = map_parts (alone names) (given names t x) a h in
        alone_gives names k a p.0 d (given_good names k d t x p.0 (All-head S x [] s) p.1).0 p.2
    assigned_good [] xs names k a d s h at = several_good [] xs s names k a d h at
    assigned_good (t ∷ []) [] names k a d s h at = several_good (t ∷ []) [] s names k a d h at
    assigned_good (t ∷ []) (x ∷ (y ∷ ys)) names k a d s h at = several_good (t ∷ []) (x ∷ (y ∷ ys)) s names k a d h at
    assigned_good (t ∷ (u ∷ us)) xs names k a d s h at = several_good (t ∷ (u ∷ us)) xs s names k a d h at

    assign_good : (ts : List Target) (es : List Expr) → Good (λ names k. option_and_then (λ xs. assigned_by ts xs names k) (all_of (map (flat_of names) es)))
    assign_good ts es names k a d h at =
        let p = then_parts (λ xs. assigned_by ts xs names k) (all_of (map (flat_of names) es)) a h in
        assigned_good ts p.0 names k a d (sources_all names k d es p.0 p.1) p.2 at

    -- ---- conditionals

    record GoodArm (c : FlatArm) : Type 0 where
      pub decides : (xs ys : List Statement) → A (IfForm c.condition xs ys)
      pub body : Everywhere A c.body

    abbrev AllArms : List FlatArm → Type 0
    AllArms [] = Unit {0}
    AllArms (c ∷ cs) = GoodArm c × AllArms cs

    record ArmsGive (m : MadeArms) : Type 0 where
      pub arms : AllArms m.arms
      pub further : All B m.further

    arms_both : (xs ys : List FlatArm) → AllArms xs → AllArms ys → AllArms (xs ++ ys)
    arms_both [] ys f g = g
    arms_both (x ∷ xs) ys f g = (f.0, arms_both xs ys f.1 g)

    arm_good : (arm : Arm Making) → AllGood arm.body → (names : List Meant) (k : ℕ) (m : MadeArms) → HasLocals base wide n names k → arm_made names k arm ≡ Some m → AllAt k m.further → ArmsGive m
    arm_good arm all names k m d h at =
        let p = then_parts (arm_with names k arm.body) (flat_of names arm.condition) m h in
        let c = p.0 in
        let t = if_some (is_boolean c.ty) (option_map (arm_by c.expression) (in_block arm.body names k)) m p.2 in
        let q = map_parts (arm_by c.expression) (in_block arm.body names k) m t.1 in
        let f = block_good arm.body all names k q.0 d q.1 (subst (λ (z : MadeArms). AllAt k z.further) (sym q.2) at) in
        let source = suits.sources names k arm.condition c d p.1 in
        let first : GoodArm (record { condition = c.expression; body = q.0.code }) = record { decides = λ xs ys. suits.decided c xs ys source t.0; body = f.code } in
        subst ArmsGive q.2 (record { arms = (first, tt); further = f.further })

    arms_good : (arms : List (Arm Making)) → ArmsGood arms → (names : List Meant) (k : ℕ) (m : MadeArms) → HasLocals base wide n names k → arms_made names k arms ≡ Some m → AllAt k m.further → ArmsGive m
    unfolding arms_made
    arms_good [] all names k m d h at =
        let nothing : MadeArms = record { arms = []; further = [] } in
        subst ArmsGive (same_Some nothing m h) (record { arms = tt; further = All-nil B })
    arms_good (arm ∷ arms) all names k m d h at =
        let p = then_parts (λ b. option_map (then_arms b) (arms_made names (k + length b.further) arms)) (arm_made names k arm) m h in
        let b = p.0 in
        let q = map_parts (then_arms b) (arms_made names (k + length b.further) arms) m p.2 in
        let s = at_split k b.further q.0.further (subst (λ (z : MadeArms). AllAt k z.further) (sym q.2) at) in
        let f = arm_good arm all.0 names k b d p.1 s.0 in
        let g = arms_good arms all.1 names (k + length b.further) q.0 (passed_by names k (length b.further) d) q.1 s.1 in
        subst ArmsGive q.2 (record { arms = arms_both b.arms q.0.arms f.arms g.arms; further = All-append B b.further q.0.further f.further g.further })

    joined_good : (cs : List FlatArm) (rest : List Statement) → AllArms cs → Everywhere A rest → Everywhere A (joined_arms cs rest)
    unfolding joined_arms
    joined_good [] rest all r = r
    joined_good (c ∷ cs) rest all r = one_if A c.condition c.body (joined_arms cs rest) (all.0.decides c.body (joined_arms cs rest)) all.0.body (joined_good cs rest all.1 r)

    else_good : (o : Option (List Making)) → ElseGood o → Good (else_of o)
    else_good None all names k a d h at = alone_gives names k a [] d (nowhere A) (same_Some (alone names []) a h)
    else_good (Some block) all names k a d h at = block_good block all names k a d h at

    if_good : (arms : List (Arm Making)) (o : Option (List Making)) → ArmsGood arms → ElseGood o → Good (if_of arms o)
    if_good arms o good other names k a d h at =
        let p = then_parts (λ m. option_map (joined m) (else_of o names (k + length m.further))) (arms_made names k arms) a h in
        let m = p.0 in
        let q = map_parts (joined m) (else_of o names (k + length m.further)) a p.2 in
        let s = at_split k m.further q.0.further (subst (λ (z : Made). AllAt k z.further) (sym q.2) at) in
        let f = arms_good arms good names k m d p.1 s.0 in
        let g = else_good o other names (k + length m.further) q.0 (passed_by names k (length m.further) d) q.1 s.1 in
        subst (Gives k) q.2
        (record {
          code = joined_good m.arms q.0.code f.arms g.code;
          further = All-append B m.further q.0.further f.further g.further;
          names = subst (HasLocals base wide n q.0.names) (joins k m.further q.0.further) g.names;
        })
      where
        joins : (j : ℕ) (xs ys : List Expression) → (j + length xs) + length ys ≡ j + length (xs ++ ys)
        joins j xs ys = omega (arith, length-append xs ys)

    -- ---- a layer

    abbrev arms_in : {X : Type 0} → Stmt-F X → List (Arm X)
    arms_in (If p arms o) = arms
    arms_in (Case p arms o) = arms
    arms_in other = []

    abbrev else_in : {X : Type 0} → Stmt-F X → Option (List X)
    else_in (If p arms o) = o
    else_in (Case p arms o) = o
    else_in other = None

    module _ {D : Type 0} (e : D → Stmt) (f : Stmt → Making) (same : (x : D) → Good (f (e x))) where
      list_good : (xs : List D) → AllGood (map f (map e xs))
      list_good [] = tt
      list_good (x ∷ xs) = (same x, list_good xs)

      abbrev left : Stmt-F D → Stmt-F Making
      left y = map-Stmt Stmt Making f (map-Stmt D Stmt e y)

      if_arms : (p : Place) (arms : List (Arm D)) (o : Option (List D)) → ArmsGood (arms_in (left (If p arms o)))
      if_arms p [] o = tt
      if_arms p (a ∷ arms) o = (list_good a.body, if_arms p arms o)

      case_arms : (p : Place) (arms : List (Arm D)) (o : Option (List D)) → ArmsGood (arms_in (left (Case p arms o)))
      case_arms p [] o = tt
      case_arms p (a ∷ arms) o = (list_good a.body, case_arms p arms o)

      if_else : (p : Place) (arms : List (Arm D)) (o : Option (List D)) → ElseGood (else_in (left (If p arms o)))
      if_else p arms None = tt
      if_else p arms (Some xs) = list_good xs

      case_else : (p : Place) (arms : List (Arm D)) (o : Option (List D)) → ElseGood (else_in (left (Case p arms o)))
      case_else p arms None = tt
      case_else p arms (Some xs) = list_good xs

      layer : (y : Stmt-F D) → Good (making_form reads (left y))
      layer (Declare p xs type) names k a d h at =
          let q = then_parts (λ ty. declared ty xs names k) (reads type) a h in
          declared_good q.0 (types_read type q.0 q.1) xs names k a d q.2 at
      layer (Skip p) names k a d h at = alone_gives names k a [] d (nowhere A) (same_Some (alone names []) a h)
      layer (Block p block) names k a d h at = block_good (map f (map e block)) (list_good block) names k a d h at
      layer (Assume p c) names k a d h at = assume_good c names k a d h at
      layer (Havoc p x primed) names k a d h at = havoc_good x.name primed names k a d h at
      layer (Assign p targets sources) names k a d h at = assign_good targets sources names k a d h at
      layer (If p arms o) names k a d h at = if_good (arms_in (left (If p arms o))) (else_in (left (If p arms o))) (if_arms p arms o) (if_else p arms o) names k a d h at
      layer (Case p arms o) names k a d h at = if_good (arms_in (left (Case p arms o))) (else_in (left (Case p arms o))) (case_arms p arms o) (case_else p arms o) names k a d h at
      layer (Assert p label c) names k a d h at = absurd (none-some a h)
      layer (For p x ty from to block) names k a d h at = absurd (none-some a h)
      layer (Call p targets g arguments) names k a d h at = absurd (none-some a h)
      layer (Next p i) names k a d h at = absurd (none-some a h)

    statement_good : (s : Stmt) → Good (making_of reads s)
    unfolding making_of
    statement_good =
        ind-Stmt (λ s. Good (fold-Stmt Making (making_form reads) s))
        (λ x y is.
        let F = fold-Stmt Making (making_form reads) in
        let way = layer (λ e. e.0) F (λ e. e.1) y in
        let way' = subst (λ z. Good (making_form reads (map-Stmt Stmt Making F z))) is way in
        subst Good (sym (fold-roll-Stmt Making (making_form reads) x)) way')

    all_good : (code : List Stmt) → AllGood (map (making_of reads) code)
    all_good [] = tt
    all_good (s ∷ code) = (statement_good s, all_good code)

    pub init_gives : (code : List Stmt) (made : MadeCode) → init_code reads base n code ≡ Some made → AllAt n made.further → Everywhere A made.code × All B made.further
    init_gives code made h at =
        let p = map_parts made_code (in_order (map (making_of reads) code) base n) made h in
        let g = order_good (map (making_of reads) code) (all_good code) base n p.0 without p.1 (subst (λ (z : MadeCode). AllAt n z.further) (sym p.2) at) in
        (subst (λ (z : MadeCode). Everywhere A z.code) p.2 g.code, subst (λ (z : MadeCode). All B z.further) p.2 g.further)

-- ---- over the cells of the state, with what further cells begin with behind them

listed_types : (types : List Ty) → list_all is_cell_type types ≡ true → (k : ℕ) (ty : Ty) → slice_get types k ≡ Some ty → is_cell_type ty ≡ true
listed_types [] h k ty e = absurd (none-some ty e)
listed_types (t ∷ types) h zero ty e = ap is_cell_type (sym (same_Some t ty e)) ∙ (and_true h).0
listed_types (t ∷ types) h (suc k) ty e = listed_types types (and_true h).1 k ty e

module _ (names : List Meant) (types : List Ty) (further : List Expression) (cells : AreCellsOf names types) (good : list_all is_cell_type types ≡ true) where
  abbrev pub wide : List Ty
  wide = wider_types types further

  pub own_places : ArePlaces names wide (length types) names
  own_places x k new ty h =
      let at = cells x k new ty h in
      record { typed = slice_get-front types (map (type_of types) further) k (slice_get_within types k ty at) ∙ at; type = listed_types types good k ty at }

  all_at : (es : List Expression) (k : ℕ) → ((i : ℕ) → slice_get wide (k + i) ≡ slice_get (map (type_of types) es) i) → AllAt names wide (length types) k es
  all_at [] k h = tt
  all_at (e ∷ es) k h = (
    λ ty is. ap (slice_get wide) (plus_zero k) ∙ h 0 ∙ ap (λ x. Some (type_of types x)) is ∙ ap Some (type_of_zero types ty),
    all_at es (k + 1) (λ i. ap (slice_get wide) (moved k i) ∙ h (suc i)),
  )

  pub further_at : AllAt names wide (length types) (length types) further
  further_at = all_at further (length types) (slice_get-back types (map (type_of types) further))

  place_valid : (ty : Ty) → is_cell_type ty ≡ true → Valid ty
  place_valid ty h = (and_true h).0

  pub fits_suits : ((others : List Meant) (k : ℕ) → HasLocals names wide (length types) others k → ExpressionsFit others wide)
      → Suits names wide (length types) (Alone wide) (λ t. IsPart wide t.ty t.expression) (IsTyped types)
  fits_suits fit = record {
    sources = λ others k e t d is. record { typed = (fit others k d e t is).0; type = (fit others k d e t is).1 };
    assumed = λ t s b. record { typed = s.typed; boolean = s.type ∙ boolean_is t.ty b };
    decided = λ t xs ys s b. record { typed = s.typed; boolean = s.type ∙ boolean_is t.ty b };
    anything = λ k ty p. (ty, p.typed, place_valid ty p.type);
    stored = λ k t at s. (s.typed, at ∙ ap Some (sym s.type));
    again = λ k t at. cell_part wide k t.ty at;
    given = λ k ty parts t z p s made.
        let a = replaced_part wide parts (ReadCell k) z ty t (cell_part wide k ty p.typed) (place_valid ty p.type) s made in
        (a.typed, p.typed ∙ ap Some (sym a.type));
    begins = λ ty g. zero_typed types ty g;
  }

  pub typed_suits : (constants : List Ty) → ((others : List Meant) (k : ℕ) → HasLocals names wide (length types) others k → ExpressionsReadTyped others constants)
      → Suits names wide (length types) (AloneTyped constants) (λ t. ReadsTyped constants t.expression) (ReadsTyped constants)
  typed_suits constants reads = record {
    sources = λ others k e t d is. reads others k d e t is;
    assumed = λ t s b. s;
    decided = λ t xs ys s b. s;
    anything = λ k ty p. tt;
    stored = λ k t at s. s;
    again = λ k t at. cell_reads (λ j ty. slice_get constants j ≡ Some ty) k;
    given = λ k ty parts t z p s made. replaced_reads (λ j u. slice_get constants j ≡ Some u) parts (ReadCell k) z ty t (cell_reads (λ j u. slice_get constants j ≡ Some u) k) s made;
    begins = λ ty g. zero_reads (λ j u. slice_get constants j ≡ Some u) ty;
  }

pub init_holds : InitLaw
init_holds reads names types code made types_read cells good fit is =
    let g = init_gives names (wider_types types made.further) (length types) reads (Alone (wider_types types made.further)) (λ t. IsPart (wider_types types made.further) t.ty t.expression) (IsTyped types)
    (own_places names types made.further cells good) types_read (fits_suits names types made.further cells good fit) code made is (further_at names types made.further cells good) in
    (fine_alone (wider_types types made.further) made.code g.0.at, g.1)

pub init_typed_holds : InitTypedLaw
init_typed_holds reads names types constants code made types_read cells good fit is =
    let g = init_gives names (wider_types types made.further) (length types) reads (AloneTyped constants) (λ t. ReadsTyped constants t.expression) (ReadsTyped constants)
    (own_places names types made.further cells good) types_read (typed_suits names types made.further cells good constants fit) code made is (further_at names types made.further cells good) in
    (typed_alone constants made.code g.0, g.1)
