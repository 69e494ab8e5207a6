-- Known terms stay known, and what is made of them is known.
use Rattle.std.proofs.Common.{◌≡◌, ℕ, ◌+◌, ◌<◌, ◌≤◌, List, [], ◌∷◌, ◌++◌, length, map, Some, refl, sym, ap, ◌∙◌, subst, arith, slice_get, slice_set, zero, suc, take, drop, get_or, append-nil, append_assoc, length-append}
use Rattle.std.specs.Prelude.{All, Contains, Bool as Truth}
use Rattle.std.specs.List.{flat_map}
use Rattle.std.proofs.lemmas.List.{take_more, map-append, take_all, length-take-le, length-map}
use Rattle.std.proofs.lemmas.List.Elements.{All-nil, All-cons, All-head, All-tail, All-push, All-weaker, All-append, All-take, All-drop, All-contains}
use Rattle.uc_values.specs.declared.ty.Ty.{Ty}
use Rattle.uc_ops.specs.declared.op.Op.{Op}
use Rattle.uc_ops.specs.declared.op.Op.TheVariants.{Symbol}
use Rattle.uc_ops.specs.declared.node.Node.{Node}
use Rattle.uc_ops.specs.Typing.{part_type, type_or}
use Rattle.uc_ops.proofs.Lists.{slice_get-within}
use Rattle.uc_terms.specs.Tables.{Makes, node_of}
use Rattle.uc_flat.specs.declared.expression.Expression.{Expression}
use Rattle.uc_flat.specs.declared.expression.Expression.TheVariants.{Apply}
use Rattle.uc_flat.specs.declared.statement.Statement.{Statement}
use Rattle.uc_flat.specs.declared.statement.Statement.TheVariants.{Assign, Havoc, Assume, Assert, If}
use Rattle.uc_flat.specs.declared.statement.Statement.TheOpen.Statement-F.{Assign as AssignForm, Havoc as HavocForm, Assume as AssumeForm, Assert as AssertForm, If as IfForm}
use Rattle.uc_flat.specs.declared.statement.Statement.TheViews.{roll-Statement}
use Rattle.uc_flat.specs.declared.statement.Statement.TheFolds.{fold-roll-Statement}
use Rattle.uc_flat.specs.Fine.{IsWithin, itself, IsInside, ReadsTyped}
use Rattle.uc_flat.proofs.Inside.{contains_at, part_within, within_whole, inside_whole, one_inside, one_of, first_of, second_of}
use Rattle.uc_flat.specs.declared.flat.Flat.{Flat}
use Rattle.uc_flat.specs.declared.flat.Formula.{Formula}
use Rattle.uc_flat.specs.Flats.{cell_types, wider_types, init_types}
use Rattle.uc_flat_copies.specs.declared.trace.Start.TheVariants.{Initially, Anywhere}
use Rattle.uc_symstep.specs.declared.state.Symbolic.{Symbolic}
use Rattle.uc_symstep.specs.declared.state.SymState.{SymState}
use Rattle.uc_symstep.specs.declared.branch.Open.{Open}
use Rattle.uc_symstep.specs.Growing.{Grows}
use Rattle.uc_symstep.specs.Known.{IsKnown, known, CodeReadsTyped, joined, draw_form, drawn_by, draw_types, constants_typed, step_types, supply_from, KnowsPlace, Knows, Extends, KnowsArms}
use Rattle.uc_symstep.proofs.Runs.{formula_is}

got_front : {A : Type 0} (xs ys : List A) (k : ℕ) (x : A) → slice_get xs k ≡ Some x → slice_get (xs ++ ys) k ≡ Some x
got_front [] ys k x h = cc
got_front (y ∷ xs) ys zero x h = h
got_front (y ∷ xs) ys (suc k) x h = got_front xs ys k x h

got_last : {A : Type 0} (xs : List A) (x : A) (k : ℕ) → k ≡ length xs → slice_get (xs ++ x ∷ []) k ≡ Some x
got_last {A = A} xs x k i = ap (slice_get (xs ++ x ∷ [])) i ∙ at_end xs
  where
    at_end : (ys : List A) → slice_get (ys ++ x ∷ []) (length ys) ≡ Some x
    at_end [] = refl
    at_end (y ∷ ys) = at_end ys

-- The table grows, and so does the supply.

known_behind : (supply : List Ty) (nodes more : List Node) (t : ℕ) → IsKnown supply nodes t → IsKnown supply (nodes ++ more) t
known_behind supply nodes more t (known u node there symbol parts) = known t node (got_front nodes more t node there) symbol (λ p c. known_behind supply nodes more p (parts p c))

pub known_grows : (supply : List Ty) (old new : List Node) → Grows old new → (t : ℕ) → IsKnown supply old t → IsKnown supply new t
known_grows supply old new g t h = subst (λ ns. IsKnown supply ns t) (sym g.is) (known_behind supply old g.more t h)

pub known_more : (supply more : List Ty) (nodes : List Node) (t : ℕ) → IsKnown supply nodes t → IsKnown (supply ++ more) nodes t
known_more supply more nodes t (known u node there symbol parts) =
    known t node there (λ number ty e. got_front supply more number ty (symbol number ty e)) (λ p c. known_more supply more nodes p (parts p c))

pub known_later : (supply more : List Ty) (old new : List Node) → Grows old new → (t : ℕ) → IsKnown supply old t → IsKnown (supply ++ more) new t
known_later supply more old new g t h = known_more supply more new t (known_grows supply old new g t h)

pub all_known_grow : (supply : List Ty) (old new : List Node) → Grows old new → (ts : List ℕ) → All (IsKnown supply old) ts → All (IsKnown supply new) ts
all_known_grow supply old new g ts h = All-weaker (IsKnown supply old) (IsKnown supply new) (known_grows supply old new g) ts h

pub all_known_more : (supply more : List Ty) (nodes : List Node) (ts : List ℕ) → All (IsKnown supply nodes) ts → All (IsKnown (supply ++ more) nodes) ts
all_known_more supply more nodes ts h = All-weaker (IsKnown supply nodes) (IsKnown (supply ++ more) nodes) (known_more supply more nodes) ts h

pub all_known_later : (supply more : List Ty) (old new : List Node) → Grows old new → (ts : List ℕ) → All (IsKnown supply old) ts → All (IsKnown (supply ++ more) new) ts
all_known_later supply more old new g ts h = all_known_more supply more new ts (all_known_grow supply old new g ts h)

-- New terms.

-- an operation on known parts
pub made_known : (supply : List Ty) (old new : List Node) (t : ℕ) (op : Op) (parts : List ℕ) → Makes old new t op parts
    → ((number : ℕ) (ty : Ty) → op ≡ Symbol number ty → slice_get supply number ≡ Some ty) → All (IsKnown supply old) parts → IsKnown supply new t
made_known supply old new t op parts m symbol h =
    known t (node_of old op parts) m.node symbol (λ p c. known_grows supply old new (record { more = m.grown.0; is = m.grown.1 }) p (All-contains (IsKnown supply old) parts p h c))

pub known_one : (supply : List Ty) (nodes : List Node) (a : ℕ) → IsKnown supply nodes a → All (IsKnown supply nodes) (a ∷ [])
known_one supply nodes a h = All-cons (IsKnown supply nodes) a [] h (All-nil (IsKnown supply nodes))

pub known_two : (supply : List Ty) (nodes : List Node) (a b : ℕ) → IsKnown supply nodes a → IsKnown supply nodes b → All (IsKnown supply nodes) (a ∷ b ∷ [])
known_two supply nodes a b h i = All-cons (IsKnown supply nodes) a (b ∷ []) h (known_one supply nodes b i)

pub known_three : (supply : List Ty) (nodes : List Node) (a b c : ℕ) → IsKnown supply nodes a → IsKnown supply nodes b → IsKnown supply nodes c → All (IsKnown supply nodes) (a ∷ b ∷ c ∷ [])
known_three supply nodes a b c h i j = All-cons (IsKnown supply nodes) a (b ∷ c ∷ []) h (known_two supply nodes b c i j)

same_symbol : (supply : List Ty) (n number : ℕ) (s ty : Ty) → slice_get supply n ≡ Some s → Symbol n s ≡ Symbol number ty → slice_get supply number ≡ Some ty
same_symbol supply n number s ty h e =
    let i : n ≡ number = cc in
    let j : s ≡ ty = cc in
    ap (slice_get supply) (sym i) ∙ h ∙ ap Some j

-- a symbol of the supply
pub symbol_known : (supply : List Ty) (old new : List Node) (t number : ℕ) (ty copy : Ty) → copy ≡ ty → slice_get supply number ≡ Some ty → Makes old new t (Symbol number copy) [] → IsKnown supply new t
symbol_known supply old new t number ty copy i h m =
    made_known supply old new t (Symbol number copy) [] m (λ n s e. same_symbol supply number n copy s (h ∙ ap Some (sym i)) e) (All-nil (IsKnown supply old))

-- Expressions.

got : (xs : List ℕ) (k x : ℕ) → slice_get xs k ≡ Some x → get_or xs k x ≡ x
got [] k x e = refl
got (y ∷ xs) zero x e = let f : y ≡ x = cc in f
got (y ∷ xs) (suc k) x e = got xs k x e

pub cell_known : (supply : List Ty) (nodes : List Node) (cells : List ℕ) (k t : ℕ) → slice_get cells k ≡ Some t → All (IsKnown supply nodes) cells → IsKnown supply nodes t
cell_known supply nodes cells k t h a = subst (IsKnown supply nodes) (got cells k t h) (a k t (slice_get-within cells k t h))

reads_part : (supply : List Ty) (e part : Expression) → IsWithin e part → ReadsTyped supply e → ReadsTyped supply part
reads_part supply e part w h number ty ps d = h number ty ps (within_whole e part w _ d)

pub parts_read : (supply : List Ty) (e : Expression) (op : Op) (parts xs : List Expression) → e ≡ Apply op parts → xs ≡ parts → ReadsTyped supply e → All (ReadsTyped supply) xs
parts_read supply e op parts xs i j h k d l =
    let x = get_or xs k d in
    reads_part supply e x (part_within e op parts x i (subst (λ ys. Contains ys x) j (contains_at xs k x l (same_default xs k d l)))) h
  where
    same_default : (ys : List Expression) (n : ℕ) (y : Expression) → n < length ys → get_or ys n y ≡ get_or ys n (get_or ys n y)
    same_default [] n y h = refl
    same_default (z ∷ ys) zero y h = refl
    same_default (z ∷ ys) (suc n) y h = same_default ys n y (omega (arith, h))

own_read : (supply : List Ty) (e : Expression) (op : Op) (parts : List Expression) → e ≡ Apply op parts → ReadsTyped supply e → (number : ℕ) (ty : Ty) → op ≡ Symbol number ty → slice_get supply number ≡ Some ty
own_read supply e op parts i h number ty j = h number ty parts (subst (λ o. IsWithin e (Apply o parts)) j (subst (IsWithin e) i itself))

pub apply_known : (supply : List Ty) (old new : List Node) (e : Expression) (op o : Op) (parts : List Expression) (ts us : List ℕ) (t : ℕ) → e ≡ Apply op parts → o ≡ op → us ≡ ts
    → ReadsTyped supply e → All (IsKnown supply old) ts → Makes old new t o us → IsKnown supply new t
apply_known supply old new e op o parts ts us t i p q r h m =
    made_known supply old new t o us m (λ number ty j. own_read supply e op parts i r number ty (sym p ∙ j)) (subst (All (IsKnown supply old)) (sym q) h)

pub push_known : (supply : List Ty) (old new : List Node) (ts us : List ℕ) (t : ℕ) → Grows old new → us ≡ ts ++ t ∷ [] → All (IsKnown supply old) ts → IsKnown supply new t → All (IsKnown supply new) us
push_known supply old new ts us t g i h k = subst (All (IsKnown supply new)) (sym i) (All-push (IsKnown supply new) ts t (all_known_grow supply old new g ts h) k)

pub item_read : (supply : List Ty) (xs : List Expression) (k : ℕ) (x : Expression) → k < length xs → x ≡ get_or xs k x → All (ReadsTyped supply) xs → ReadsTyped supply x
item_read supply xs k x l i a = subst (ReadsTyped supply) (sym i) (a k x l)

pub item_known : (supply : List Ty) (nodes : List Node) (xs : List ℕ) (k x : ℕ) → k < length xs → x ≡ get_or xs k x → All (IsKnown supply nodes) xs → IsKnown supply nodes x
item_known supply nodes xs k x l i a = subst (IsKnown supply nodes) (sym i) (a k x l)

set_known : (supply : List Ty) (nodes : List Node) (xs : List ℕ) (k x : ℕ) → IsKnown supply nodes x → All (IsKnown supply nodes) xs → All (IsKnown supply nodes) (slice_set xs k x)
set_known supply nodes [] k x h a = a
set_known supply nodes (y ∷ xs) zero x h a = All-cons (IsKnown supply nodes) x xs h (All-tail (IsKnown supply nodes) y xs a)
set_known supply nodes (y ∷ xs) (suc k) x h a =
    All-cons (IsKnown supply nodes) y (slice_set xs k x) (All-head (IsKnown supply nodes) y xs a) (set_known supply nodes xs k x h (All-tail (IsKnown supply nodes) y xs a))

-- Simple statements.

none_more : (supply : List Ty) (next : ℕ) → next ≡ length supply → next ≡ length (supply ++ [])
none_more supply next h = h ∙ sym (ap length (append-nil supply))

-- a cell takes a known term
pub assign_known : (supply : List Ty) (old new : List Node) (s : Symbolic) (k t : ℕ) (cells : List ℕ) → Grows old new → cells ≡ slice_set s.cells k t → IsKnown supply new t → Knows supply old s
    → KnowsPlace (supply ++ []) new cells s.path s.next
assign_known supply old new s k t cells g i h a = record {
  cells = all_known_more supply [] new cells (subst (All (IsKnown supply new)) (sym i) (set_known supply new s.cells k t h (all_known_grow supply old new g s.cells a.cells)));
  path = known_later supply [] old new g s.path a.path;
  next = none_more supply s.next a.next;
}

-- the path condition is a known term
pub assume_known : (supply : List Ty) (old new : List Node) (s : Symbolic) (path : ℕ) → Grows old new → IsKnown supply new path → Knows supply old s → KnowsPlace (supply ++ []) new s.cells path s.next
assume_known supply old new s path g h a = record {
  cells = all_known_later supply [] old new g s.cells a.cells;
  path = known_more supply [] new path h;
  next = none_more supply s.next a.next;
}

pub stays_known : (supply : List Ty) (old new : List Node) (s : Symbolic) → Grows old new → Knows supply old s → KnowsPlace (supply ++ []) new s.cells s.path s.next
stays_known supply old new s g a = assume_known supply old new s s.path g (known_grows supply old new g s.path a.path) a

-- a cell takes a new symbol
pub havoc_known : (supply : List Ty) (types : List Ty) (old new : List Node) (s : Symbolic) (k t next : ℕ) (ty : Ty) (cells : List ℕ) → Grows old new → slice_get types k ≡ Some ty
    → cells ≡ slice_set s.cells k t → next ≡ s.next + 1 → ((more : List Ty) → slice_get more s.next ≡ Some ty → IsKnown more new t) → Knows supply old s
    → KnowsPlace (supply ++ part_type types k ∷ []) new cells s.path next
havoc_known supply types old new s k t next ty cells g j i n h a =
    let drawn : ty ≡ part_type types k = sym (ap type_or j) in
    let all = supply ++ part_type types k ∷ [] in
    let here : IsKnown all new t = h all (got_last supply (part_type types k) s.next a.next ∙ ap Some (sym drawn)) in
    record {
      cells = subst (All (IsKnown all new)) (sym i) (set_known all new s.cells k t here (all_known_later supply (part_type types k ∷ []) old new g s.cells a.cells));
      path = known_later supply (part_type types k ∷ []) old new g s.path a.path;
      next = omega (arith, n, a.next, length-append supply (part_type types k ∷ []));
    }

-- Code.

reads_more : (supply more : List Ty) (e : Expression) → ReadsTyped supply e → ReadsTyped (supply ++ more) e
reads_more supply more e h number ty ps d = got_front supply more number ty (h number ty ps d)

pub code_reads_more : (supply more : List Ty) (code : List Statement) → CodeReadsTyped supply code → CodeReadsTyped (supply ++ more) code
code_reads_more supply more code h = record {
  assigns = λ k e d. reads_more supply more e (h.assigns k e d);
  assumes = λ e d. reads_more supply more e (h.assumes e d);
  asserts = λ site e d. reads_more supply more e (h.asserts site e d);
  decides = λ e xs ys d. reads_more supply more e (h.decides e xs ys d);
}

reads_within : (supply : List Ty) (a b : List Statement) → ((s : Statement) → Contains a s → IsInside b s) → CodeReadsTyped supply b → CodeReadsTyped supply a
reads_within supply a b f h = record {
  assigns = λ k e d. h.assigns k e (inside_whole a b f _ d);
  assumes = λ e d. h.assumes e (inside_whole a b f _ d);
  asserts = λ n e d. h.asserts n e (inside_whole a b f _ d);
  decides = λ e xs ys d. h.decides e xs ys (inside_whole a b f _ d);
}

abbrev One : List Ty → Statement → Type 0
One supply x = CodeReadsTyped supply (x ∷ [])

pub one_read : (supply : List Ty) (xs : List Statement) (k : ℕ) (x : Statement) → k < length xs → x ≡ get_or xs k x → CodeReadsTyped supply xs → One supply x
one_read supply xs k x l i h = reads_within supply (x ∷ []) xs (one_of xs x (contains_at xs k x l i)) h

pub assign_read : (supply : List Ty) (s : Statement) (k : ℕ) (e : Expression) → s ≡ Assign k e → One supply s → ReadsTyped supply e
assign_read supply s k e i h = (subst (One supply) i h).assigns k e (one_inside (Assign k e))

pub assume_read : (supply : List Ty) (s : Statement) (e : Expression) → s ≡ Assume e → One supply s → ReadsTyped supply e
assume_read supply s e i h = (subst (One supply) i h).assumes e (one_inside (Assume e))

pub assert_read : (supply : List Ty) (s : Statement) (site : ℕ) (e : Expression) → s ≡ Assert site e → One supply s → ReadsTyped supply e
assert_read supply s site e i h = (subst (One supply) i h).asserts site e (one_inside (Assert site e))

pub if_read : (supply : List Ty) (s : Statement) (e : Expression) (xs ys : List Statement) → s ≡ If e xs ys → One supply s → ReadsTyped supply e
if_read supply s e xs ys i h = (subst (One supply) i h).decides e xs ys (one_inside (If e xs ys))

first_read : (supply : List Ty) (s : Statement) (e : Expression) (xs ys zs : List Statement) → s ≡ If e xs ys → zs ≡ xs → One supply s → CodeReadsTyped supply zs
first_read supply s e xs ys zs i j h = subst (CodeReadsTyped supply) (sym j) (reads_within supply xs (If e xs ys ∷ []) (first_of e xs ys) (subst (One supply) i h))

second_read : (supply : List Ty) (s : Statement) (e : Expression) (xs ys zs : List Statement) → s ≡ If e xs ys → zs ≡ ys → One supply s → CodeReadsTyped supply zs
second_read supply s e xs ys zs i j h = subst (CodeReadsTyped supply) (sym j) (reads_within supply ys (If e xs ys ∷ []) (second_of e xs ys) (subst (One supply) i h))

-- What each form draws.

draws_assign : (types : List Ty) (k : ℕ) (e : Expression) → drawn_by types (Assign k e) ≡ []
unfolding drawn_by roll-Statement denote.Hole.Carrier.roll
draws_assign types k e = fold-roll-Statement (List Ty) (draw_form types) (AssignForm k e)

draws_havoc : (types : List Ty) (k : ℕ) (listed : Truth) → drawn_by types (Havoc k listed) ≡ part_type types k ∷ []
unfolding drawn_by roll-Statement denote.Hole.Carrier.roll
draws_havoc types k listed = fold-roll-Statement (List Ty) (draw_form types) (HavocForm k listed)

draws_assume : (types : List Ty) (e : Expression) → drawn_by types (Assume e) ≡ []
unfolding drawn_by roll-Statement denote.Hole.Carrier.roll
draws_assume types e = fold-roll-Statement (List Ty) (draw_form types) (AssumeForm e)

draws_assert : (types : List Ty) (site : ℕ) (e : Expression) → drawn_by types (Assert site e) ≡ []
unfolding drawn_by roll-Statement denote.Hole.Carrier.roll
draws_assert types site e = fold-roll-Statement (List Ty) (draw_form types) (AssertForm site e)

draws_if : (types : List Ty) (e : Expression) (xs ys : List Statement) → drawn_by types (If e xs ys) ≡ draw_types types xs ++ draw_types types ys
unfolding drawn_by roll-Statement denote.Hole.Carrier.roll
draws_if types e xs ys = fold-roll-Statement (List Ty) (draw_form types) (IfForm e xs ys)

joined-push : (xs : List (List Ty)) (x : List Ty) → joined (xs ++ x ∷ []) ≡ joined xs ++ x
joined-push [] x = append-nil x
joined-push (y ∷ xs) x = ap (λ ys. y ++ ys) (joined-push xs x) ∙ sym (append_assoc y (joined xs) x)

draws_more : (types : List Ty) (code : List Statement) (k : ℕ) (x : Statement) → k < length code → x ≡ get_or code k x → draw_types types (take (k + 1) code) ≡ draw_types types (take k code) ++ drawn_by types x
draws_more types code k x l i =
    ap (draw_types types) (take_more code k x l ∙ ap (λ y. take k code ++ y ∷ []) (sym i))
    ∙ ap joined (map-append (drawn_by types) (take k code) (x ∷ []))
    ∙ joined-push (map (drawn_by types) (take k code)) (drawn_by types x)

abbrev More : List Ty → List Node → Symbolic → List Ty → Type 0
More supply new t drawn = Knows (supply ++ drawn) new t

pub assign_extends : (supply types : List Ty) (new : List Node) (t : Symbolic) (x : Statement) (k : ℕ) (e : Expression) → x ≡ Assign k e → More supply new t [] → More supply new t (drawn_by types x)
assign_extends supply types new t x k e i h = subst (More supply new t) (sym (ap (drawn_by types) i ∙ draws_assign types k e)) h

pub havoc_extends : (supply types : List Ty) (new : List Node) (t : Symbolic) (x : Statement) (k : ℕ) (listed : Truth) → x ≡ Havoc k listed → More supply new t (part_type types k ∷ []) → More supply new t (drawn_by types x)
havoc_extends supply types new t x k listed i h = subst (More supply new t) (sym (ap (drawn_by types) i ∙ draws_havoc types k listed)) h

pub assume_extends : (supply types : List Ty) (new : List Node) (t : Symbolic) (x : Statement) (e : Expression) → x ≡ Assume e → More supply new t [] → More supply new t (drawn_by types x)
assume_extends supply types new t x e i h = subst (More supply new t) (sym (ap (drawn_by types) i ∙ draws_assume types e)) h

pub assert_extends : (supply types : List Ty) (new : List Node) (t : Symbolic) (x : Statement) (site : ℕ) (e : Expression) → x ≡ Assert site e → More supply new t [] → More supply new t (drawn_by types x)
assert_extends supply types new t x site e i h = subst (More supply new t) (sym (ap (drawn_by types) i ∙ draws_assert types site e)) h

abbrev CodeExtends : List Ty → List Statement → List Ty → List Node → Symbolic → List Node → Symbolic → Type 0
CodeExtends types code more old s new t = Extends (λ supply. CodeReadsTyped supply code) more old s new t

pub code_none : (types : List Ty) (code : List Statement) (nodes : List Node) (s : Symbolic) → CodeExtends types code (draw_types types (take 0 code)) nodes s nodes s
code_none types code nodes s supply r h = subst (λ ts. Knows ts nodes s) (sym (append-nil supply)) h

pub code_more : (types : List Ty) (code : List Statement) (old now new : List Node) (s t u : Symbolic) (k : ℕ) (x : Statement) → CodeExtends types code (draw_types types (take k code)) old s now t
    → Extends (λ supply. One supply x) (drawn_by types x) now t new u → k < length code → x ≡ get_or code k x → CodeExtends types code (draw_types types (take (k + 1) code)) old s new u
code_more types code old now new s t u k x f g l i supply r h =
    let before = draw_types types (take k code) in
    subst (λ ts. Knows ts new u) (append_assoc supply before (drawn_by types x) ∙ ap (λ ts. supply ++ ts) (sym (draws_more types code k x l i)))
    (g (supply ++ before) (one_read (supply ++ before) code k x l i (code_reads_more supply before code r)) (f supply r h))

pub code_end : (types : List Ty) (code : List Statement) (old now : List Node) (s t : Symbolic) (k : ℕ) → length code ≤ k → CodeExtends types code (draw_types types (take k code)) old s now t
    → CodeExtends types code (draw_types types code) old s now t
code_end types code old now s t k l f = subst (λ xs. CodeExtends types code (draw_types types xs) old s now t) (take_all k code l) f

-- a conditional, from its arms
pub if_extends : (types : List Ty) (old new late later last : List Node) (x : Statement) (e : Expression) (xs ys p q : List Statement) (cs : List ℕ) (s : Symbolic) (o : Open) (first second t : Symbolic)
    → x ≡ If e xs ys → p ≡ xs → q ≡ ys → cs ≡ first.cells → Grows new late → Grows late later
    → ((supply : List Ty) → ReadsTyped supply e → Knows supply old s → KnowsArms supply new o)
    → CodeExtends types p (draw_types types p) new o.first late first
    → CodeExtends types q (draw_types types q) late (record { cells = o.cells; path = o.path; taken = o.other; choices = first.choices; sites = first.sites; next = first.next }) later second
    → ((supply : List Ty) → IsKnown supply later o.condition → All (IsKnown supply later) cs → IsKnown supply later first.path → Knows supply later second → Knows supply last t)
    → Extends (λ supply. One supply x) (drawn_by types x) old s last t
if_extends types old new late later last x e xs ys p q cs s o first second t i a b c g h opens run_first run_second joins supply r k =
    let dp = draw_types types p in
    let dq = draw_types types q in
    let arms = opens supply (if_read supply x e xs ys i r) k in
    let one = run_first supply (first_read supply x e xs ys p i a r) arms.first in
    let two = run_second (supply ++ dp) (code_reads_more supply dp q (second_read supply x e xs ys q i b r))
    (record { cells = all_known_later supply dp new late g o.cells arms.cells; path = known_later supply dp new late g o.path arms.path; next = one.next }) in
    let all = (supply ++ dp) ++ dq in
    let condition : IsKnown all later o.condition = known_later (supply ++ dp) dq late later h o.condition (known_later supply dp new late g o.condition arms.condition) in
    let cells : All (IsKnown all later) cs = subst (All (IsKnown all later)) (sym c) (all_known_later (supply ++ dp) dq late later h first.cells one.cells) in
    let path : IsKnown all later first.path = known_later (supply ++ dp) dq late later h first.path one.path in
    let drawn : drawn_by types x ≡ dp ++ dq = ap (drawn_by types) i ∙ draws_if types e xs ys ∙ ap (λ zs. draw_types types zs ++ draw_types types ys) (sym a) ∙ ap (λ zs. dp ++ draw_types types zs) (sym b) in
    subst (λ ts. Knows ts last t) (append_assoc supply dp dq ∙ ap (λ ts. supply ++ ts) (sym drawn)) (joins all condition cells path two)

-- the arms of a conditional begin
pub arms_known : (supply : List Ty) (old new : List Node) (s : Symbolic) (condition inner other : ℕ) (cells : List ℕ) → Grows old new → cells ≡ s.cells → IsKnown supply new condition → Knows supply old s
    → KnowsArms supply new (record {
      condition = condition;
      other = other;
      first = record { cells = s.cells; path = s.path; taken = inner; choices = s.choices; sites = s.sites; next = s.next };
      cells = cells;
      path = s.path;
      taken = s.taken;
    })
arms_known supply old new s condition inner other cells g i h a =
    let own = all_known_grow supply old new g s.cells a.cells in
    let path = known_grows supply old new g s.path a.path in
    record { first = record { cells = own; path = path; next = a.next }; cells = subst (All (IsKnown supply new)) (sym i) own; condition = h; path = path }

-- States between steps.

-- the cells so far, where n is the number of the first symbol
pub record BegunKnown (now : List Node) (types : List Ty) (n always : ℕ) (own : List ℕ) (count k : ℕ) : Type 0 where
  pub truth : (supply : List Ty) → IsKnown supply now always
  pub cells : (supply : List Ty) → n ≡ length supply → All (IsKnown (supply ++ take k types) now) own
  pub number : count ≡ n + k

pub begun_known_none : (now : List Node) (types : List Ty) (n always : ℕ) (own : List ℕ) → ((supply : List Ty) → IsKnown supply now always) → own ≡ [] → BegunKnown now types n always own n 0
begun_known_none now types n always own h i = record {
  truth = h;
  cells = λ supply l. subst (All (IsKnown (supply ++ take 0 types) now)) (sym i) (All-nil (IsKnown (supply ++ take 0 types) now));
  number = omega arith;
}

pub begun_known_more : (now new : List Node) (types : List Ty) (n always : ℕ) (own more : List ℕ) (number after k t : ℕ) (ty : Ty) → BegunKnown now types n always own number k → Grows now new
    → ((supply : List Ty) → slice_get supply number ≡ Some ty → IsKnown supply new t) → k < length types → ty ≡ get_or types k ty → more ≡ own ++ t ∷ [] → after ≡ number + 1
    → BegunKnown new types n always more after (k + 1)
begun_known_more now new types n always own more number after k t ty b g h l i j a =
    let front : take (k + 1) types ≡ take k types ++ ty ∷ [] = take_more types k ty l ∙ ap (λ y. take k types ++ y ∷ []) (sym i) in
    record {
      truth = λ supply. known_grows supply now new g always (b.truth supply);
      cells = λ supply e.
          let so_far = supply ++ take k types in
          let count : number ≡ length so_far = omega (arith, b.number, e, length-append supply (take k types), length-take-le k types (omega (arith, l))) in
          let here : IsKnown (so_far ++ ty ∷ []) new t = h (so_far ++ ty ∷ []) (got_last so_far ty number count) in
          let all : All (IsKnown (so_far ++ ty ∷ []) new) more =
          subst (All (IsKnown (so_far ++ ty ∷ []) new)) (sym j) (All-push (IsKnown (so_far ++ ty ∷ []) new) own t (all_known_later so_far (ty ∷ []) now new g own (b.cells supply e)) here) in
          subst (λ ts. All (IsKnown ts new) more) (append_assoc supply (take k types) (ty ∷ []) ∙ ap (λ ts. supply ++ ts) (sym front)) all;
      number = omega (arith, a, b.number);
    }

pub begun_known_end : (now : List Node) (types : List Ty) (n always : ℕ) (own : List ℕ) (count k : ℕ) (supply : List Ty) → BegunKnown now types n always own count k → k ≡ length types → n ≡ length supply
    → KnowsPlace (supply ++ types) now own always count
begun_known_end now types n always own count k supply b e l = record {
  cells = subst (λ ts. All (IsKnown (supply ++ ts) now) own) (take_all k types (omega (arith, e))) (b.cells supply l);
  path = b.truth (supply ++ types);
  next = omega (arith, b.number, e, l, length-append supply types);
}

pub doubled_known : (supply : List Ty) (old new : List Node) (own twice copy : List ℕ) (path next : ℕ) → Grows old new → copy ≡ own → twice ≡ own ++ copy → KnowsPlace supply old own path next → KnowsPlace supply new twice path next
doubled_known supply old new own twice copy path next g i j h =
    let cells = all_known_grow supply old new g own h.cells in
    record {
      cells = subst (All (IsKnown supply new)) (sym (j ∙ ap (λ xs. own ++ xs) i)) (All-append (IsKnown supply new) own own cells cells);
      path = known_grows supply old new g path h.path;
      next = h.next;
    }

-- further cells behind the others
pub widened_known : (supply : List Ty) (old new : List Node) (s : Symbolic) (more cells : List ℕ) → Grows old new → cells ≡ s.cells ++ more → All (IsKnown supply new) more → Knows supply old s
    → KnowsPlace (supply ++ []) new cells s.path s.next
widened_known supply old new s more cells g i h a = record {
  cells = all_known_more supply [] new cells (subst (All (IsKnown supply new)) (sym i) (All-append (IsKnown supply new) s.cells more (all_known_grow supply old new g s.cells a.cells) h));
  path = known_later supply [] old new g s.path a.path;
  next = none_more supply s.next a.next;
}

all_reads_more : (supply more : List Ty) (es : List Expression) → All (ReadsTyped supply) es → All (ReadsTyped (supply ++ more)) es
all_reads_more supply more es h = All-weaker (ReadsTyped supply) (ReadsTyped (supply ++ more)) (λ e. reads_more supply more e) es h

pub begun_wide_known : (types : List Ty) (further : List Expression) (mid new : List Node) (n : ℕ) (d t : Symbolic) → ((supply : List Ty) → n ≡ length supply → Knows (supply ++ types) mid d)
    → Extends (λ supply. All (ReadsTyped supply) further) [] mid d new t → (supply : List Ty) → All (ReadsTyped supply) further → n ≡ length supply → Knows (supply ++ types) new t
begun_wide_known types further mid new n d t f g supply reads l =
    subst (λ ts. Knows ts new t) (append-nil (supply ++ types)) (g (supply ++ types) (all_reads_more supply types further reads) (f supply l))

-- what the code of a start leaves in the cells of the state
pub started_known : (types wide all : List Ty) (further : List Expression) (init : List Statement) (mid new : List Node) (n : ℕ) (d r : Symbolic) (xs cells : List ℕ)
    → ((supply : List Ty) → All (ReadsTyped supply) further → n ≡ length supply → Knows (supply ++ types) mid d)
    → CodeExtends wide init (draw_types wide init) mid d new r → wide ≡ all → xs ≡ r.cells → cells ≡ take (length types) xs
    → (supply : List Ty) → All (ReadsTyped supply) further → CodeReadsTyped supply init → n ≡ length supply → KnowsPlace ((supply ++ types) ++ draw_types all init) new cells r.path r.next
started_known types wide all further init mid new n d r xs cells f g i j k supply more reads l =
    let end = g (supply ++ types) (code_reads_more supply types init reads) (f supply more l) in
    let known_by = (supply ++ types) ++ draw_types wide init in
    let here : KnowsPlace known_by new cells r.path r.next = record {
      cells = subst (All (IsKnown known_by new)) (sym (k ∙ ap (take (length types)) j)) (All-take (IsKnown known_by new) (length types) r.cells end.cells);
      path = end.path;
      next = end.next;
    } in
    subst (λ ts. KnowsPlace ((supply ++ types) ++ draw_types ts init) new cells r.path r.next) i here

-- what the code of a step leaves in the new cells
pub stepped_known : (types two : List Ty) (step : List Statement) (old mid new : List Node) (before own xs cells : List ℕ) (path next : ℕ) (d r : Symbolic)
    → ((supply : List Ty) → KnowsPlace supply old own path next → Knows supply mid d) → CodeExtends two step (draw_types two step) mid d new r
    → own ≡ before → xs ≡ r.cells → cells ≡ drop (length types) xs → (supply : List Ty) → CodeReadsTyped supply step → KnowsPlace supply old before path next
    → KnowsPlace (supply ++ draw_types two step) new cells r.path r.next
stepped_known types two step old mid new before own xs cells path next d r f g i j k supply reads h =
    let all = supply ++ draw_types two step in
    let end = g supply reads (f supply (subst (λ ys. KnowsPlace supply old ys path next) (sym i) h)) in
    record {
      cells = subst (All (IsKnown all new)) (sym (k ∙ ap (drop (length types)) j)) (All-drop (IsKnown all new) (length types) r.cells end.cells);
      path = end.path;
      next = end.next;
    }

-- Designs.

pub start_of_known : (f : Flat) (types : List Ty) (further : List Expression) (init : List Statement) (new : List Node) (cells : List ℕ) (path next n : ℕ) → types ≡ cell_types f → further ≡ f.further → init ≡ f.init
    → ((supply : List Ty) → All (ReadsTyped supply) further → CodeReadsTyped supply init → n ≡ length supply → KnowsPlace ((supply ++ types) ++ draw_types (wider_types types further) init) new cells path next)
    → (supply : List Ty) → All (ReadsTyped supply) f.further → CodeReadsTyped supply f.init → n ≡ length supply → KnowsPlace ((supply ++ cell_types f) ++ draw_types (init_types f) f.init) new cells path next
start_of_known f types further init new cells path next n i w j h supply more reads l =
    subst (λ ts. KnowsPlace ((supply ++ ts) ++ draw_types (wider_types ts f.further) f.init) new cells path next) i
    (subst (λ es. KnowsPlace ((supply ++ types) ++ draw_types (wider_types types es) f.init) new cells path next) w
    (subst (λ code. KnowsPlace ((supply ++ types) ++ draw_types (wider_types types further) code) new cells path next) j (h supply (subst (All (ReadsTyped supply)) (sym w) more) (subst (CodeReadsTyped supply) (sym j) reads) l)))

pub step_of_known : (f : Flat) (types two : List Ty) (step : List Statement) (old new : List Node) (before cells : List ℕ) (own path next n : ℕ) → types ≡ cell_types f → two ≡ types ++ types → step ≡ f.step
    → ((supply : List Ty) → CodeReadsTyped supply step → KnowsPlace supply old before own n → KnowsPlace (supply ++ draw_types two step) new cells path next)
    → (supply : List Ty) → CodeReadsTyped supply f.step → KnowsPlace supply old before own n → KnowsPlace (supply ++ step_types f) new cells path next
step_of_known f types two step old new before cells own path next n i j k h supply reads b =
    let e : two ≡ cell_types f ++ cell_types f = j ∙ ap (λ ts. ts ++ ts) i in
    subst (λ ts. KnowsPlace (supply ++ draw_types ts f.step) new cells path next) e
    (subst (λ code. KnowsPlace (supply ++ draw_types two code) new cells path next) k (h supply (subst (CodeReadsTyped supply) (sym k) reads) b))

pub init_known : (f : Flat) (new : List Node) (cells : List ℕ) (path next n : ℕ)
    → ((supply : List Ty) → All (ReadsTyped supply) f.further → CodeReadsTyped supply f.init → n ≡ length supply → KnowsPlace ((supply ++ cell_types f) ++ draw_types (init_types f) f.init) new cells path next)
    → All (ReadsTyped (constants_typed f)) f.further → CodeReadsTyped (constants_typed f) f.init → n ≡ length f.constants → KnowsPlace (supply_from f Initially 0) new cells path next
unfolding supply_from
init_known f new cells path next n h more reads l = h (constants_typed f) more reads (l ∙ sym (length-map f.constants (λ c. c.ty)))

pub any_known : (f : Flat) (types : List Ty) (new : List Node) (cells : List ℕ) (path next n : ℕ) → types ≡ cell_types f
    → ((supply : List Ty) → n ≡ length supply → KnowsPlace (supply ++ types) new cells path next) → n ≡ length f.constants → KnowsPlace (supply_from f Anywhere 0) new cells path next
unfolding supply_from
any_known f types new cells path next n i h l =
    subst (λ ts. KnowsPlace (constants_typed f ++ ts) new cells path next) i (h (constants_typed f) (l ∙ sym (length-map f.constants (λ c. c.ty))))

cells_known : (supply : List Ty) (nodes : List Node) (states : List SymState) → All (λ (s : SymState). All (IsKnown supply nodes) s.cells) states → All (IsKnown supply nodes) (flat_map (λ s. s.cells) states)
cells_known supply nodes [] h = All-nil (IsKnown supply nodes)
cells_known supply nodes (s ∷ ss) h =
    let P : SymState → Type 0 = λ s. All (IsKnown supply nodes) s.cells in
    All-append (IsKnown supply nodes) s.cells (flat_map (λ x. x.cells) ss) (All-head P s ss h) (cells_known supply nodes ss (All-tail P s ss h))

pub formula_known : (f : Flat) (k : ℕ) (x : Formula) (own : List ℕ) (states : List SymState) (old new : List Node) (t : ℕ) → k < length f.formulas → x ≡ get_or f.formulas k x → own ≡ flat_map (λ s. s.cells) states
    → ((supply : List Ty) → ReadsTyped supply x.condition → All (IsKnown supply old) own → IsKnown supply new t)
    → (supply : List Ty) (y : Formula) → slice_get f.formulas k ≡ Some y → ReadsTyped supply y.condition → All (λ (s : SymState). All (IsKnown supply old) s.cells) states → IsKnown supply new t
formula_known f k x own states old new t l i j h supply y e reads b =
    h supply (subst (λ (z : Formula). ReadsTyped supply z.condition) (sym (formula_is f k x y l i e)) reads) (subst (All (IsKnown supply old)) (sym j) (cells_known supply old states b))
