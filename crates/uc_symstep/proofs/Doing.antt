-- What code does step by step.
use Rattle.std.proofs.Common.{◌≡◌, ℕ, ◌+◌, ◌<◌, ◌≤◌, List, [], ◌∷◌, ◌++◌, length, map, Some, refl, sym, ap, ◌∙◌, subst, arith, slice_get, zero, suc, take, get_or}
use Rattle.std.specs.Prelude.{Bool as Truth}
use Rattle.std.proofs.lemmas.List.{take_more, map-append}
use Rattle.uc_values.specs.declared.ty.Ty.{Ty}
use Rattle.uc_values.specs.declared.value.Value.{Value}
use Rattle.uc_ops.specs.declared.model.Model.{Model}
use Rattle.uc_ops.specs.declared.node.Node.{Node}
use Rattle.uc_ops.specs.Typing.{part_type}
use Rattle.uc_flat.specs.declared.expression.Expression.{Expression}
use Rattle.uc_flat.specs.declared.statement.Statement.{Statement}
use Rattle.uc_flat.specs.declared.statement.Statement.TheOpen.Statement-F.{If as IfForm}
use Rattle.uc_flat.specs.declared.statement.Statement.TheViews.{roll-Statement}
use Rattle.uc_flat.specs.declared.statement.Statement.TheVariants.{Assign, Havoc, Assume, Assert, If}
use Rattle.uc_flat.specs.declared.statement.Statement.TheFolds.{fold-roll-Statement}
use Rattle.uc_flat.specs.Reading.{type_of, is_true}
use Rattle.uc_flat.specs.Drawn.{Drawn, assigns, assumes, asserts, takes, free, go, drawn, in_order, either_arm}
use Rattle.uc_flat.specs.Counts.{total}
use Rattle.uc_flat.specs.Fine.{IsTyped, IsTest, AreFine}
use Rattle.uc_flat.proofs.Forms.{go_assign, go_havoc, go_assume, go_assert, go_if}
use Rattle.uc_flat.proofs.Inside.{contains_at, fine_within, one_inside, one_of, first_of, second_of}
use Rattle.uc_symstep.specs.declared.state.Symbolic.{Symbolic}
use Rattle.uc_symstep.specs.declared.branch.Open.{Open}
use Rattle.uc_symstep.specs.Cost.{size, size_form, sizes}
use Rattle.uc_symstep.specs.Stands.{stands, IsState, IsHavocked, Follows, Opens, Joins}
use Rattle.uc_symstep.proofs.Grown.{grows_not, grows_on}
use Rattle.uc_symstep.proofs.Branches.{branch_follows}

abbrev One : List Ty → Statement → Type 0
One types x = AreFine types (x ∷ [])

pub assign_fine : (types : List Ty) (s : Statement) (k : ℕ) (e : Expression) → s ≡ Assign k e → One types s → IsTyped types e × (slice_get types k ≡ Some (type_of types e))
assign_fine types s k e i h = (subst (One types) i h).assigns k e (one_inside (Assign k e))

pub havoc_fine : (types : List Ty) (s : Statement) (k : ℕ) (listed : Truth) → s ≡ Havoc k listed → One types s → IsHavocked types k
havoc_fine types s k listed i h = (subst (One types) i h).havocs k listed (one_inside (Havoc k listed))

pub assume_fine : (types : List Ty) (s : Statement) (e : Expression) → s ≡ Assume e → One types s → IsTest types e
assume_fine types s e i h = (subst (One types) i h).assumes e (one_inside (Assume e))

pub assert_fine : (types : List Ty) (s : Statement) (site : ℕ) (e : Expression) → s ≡ Assert site e → One types s → IsTest types e
assert_fine types s site e i h = (subst (One types) i h).asserts site e (one_inside (Assert site e))

pub if_fine : (types : List Ty) (s : Statement) (e : Expression) (xs ys : List Statement) → s ≡ If e xs ys → One types s → IsTest types e
if_fine types s e xs ys i h = (subst (One types) i h).decides e xs ys (one_inside (If e xs ys))

pub first_fine : (types : List Ty) (s : Statement) (e : Expression) (xs ys zs : List Statement) → s ≡ If e xs ys → zs ≡ xs → One types s → AreFine types zs
first_fine types s e xs ys zs i j h = subst (AreFine types) (sym j) (fine_within types xs (If e xs ys ∷ []) (first_of e xs ys) (subst (One types) i h))

pub second_fine : (types : List Ty) (s : Statement) (e : Expression) (xs ys zs : List Statement) → s ≡ If e xs ys → zs ≡ ys → One types s → AreFine types zs
second_fine types s e xs ys zs i j h = subst (AreFine types) (sym j) (fine_within types ys (If e xs ys ∷ []) (second_of e xs ys) (subst (One types) i h))

pub one_at : (types : List Ty) (xs : List Statement) (k : ℕ) (x : Statement) → k < length xs → x ≡ get_or xs k x → AreFine types xs → One types x
one_at types xs k x l i h = fine_within types (x ∷ []) xs (one_of xs x (contains_at xs k x l i)) h

pub size_if : (e : Expression) (xs ys : List Statement) → size (If e xs ys) ≡ 2 + sizes xs + sizes ys
unfolding size roll-Statement denote.Hole.Carrier.roll
size_if e xs ys = fold-roll-Statement ℕ size_form (IfForm e xs ys)

pub size_at : (xs : List Statement) (k : ℕ) (x : Statement) → k < length xs → x ≡ get_or xs k x → size x ≤ sizes xs
unfolding total
size_at [] k x l i = absurd (omega arith)
size_at (y ∷ xs) zero x l i = omega (arith, ap size i)
size_at (y ∷ xs) (suc k) x l i = omega (arith, size_at xs k x (omega (arith, l)) i)

in_order-push : (xs : List (Drawn → Drawn)) (x : Drawn → Drawn) (r : Drawn) → in_order (xs ++ x ∷ []) r ≡ x (in_order xs r)
unfolding in_order
in_order-push [] x r = refl
in_order-push (y ∷ xs) x r = in_order-push xs x (y r)

drawn_more : (m : Model) (types : List Ty) (symbols : List Value) (code : List Statement) (k : ℕ) (x : Statement) (r : Drawn) → k < length code → x ≡ get_or code k x
    → drawn m types symbols (take (k + 1) code) r ≡ go m types symbols x (drawn m types symbols (take k code) r)
unfolding drawn
drawn_more m types symbols code k x r l i =
    ap (λ c. in_order (map (go m types symbols) c) r) (take_more code k x l ∙ ap (λ y. take k code ++ y ∷ []) (sym i))
    ∙ ap (λ c. in_order c r) (map-append (go m types symbols) (take k code) (x ∷ []))
    ∙ in_order-push (map (go m types symbols) (take k code)) (go m types symbols x) r

pub follows_none : (old : List Node) (types : List Ty) (code : List Statement) (s : Symbolic) → IsState old types s → Follows old old types (λ m. drawn m types m.symbols (take 0 code)) s s
unfolding drawn in_order
follows_none old types code s h = record { grown = grows_not old old refl; state = h; same = λ m. refl }

pub follows_more : (old now new : List Node) (types : List Ty) (code : List Statement) (s t u : Symbolic) (k : ℕ) (x : Statement)
    → Follows old now types (λ m. drawn m types m.symbols (take k code)) s t → Follows now new types (λ m. go m types m.symbols x) t u
    → k < length code → x ≡ get_or code k x → Follows old new types (λ m. drawn m types m.symbols (take (k + 1) code)) s u
follows_more old now new types code s t u k x f g l i = record {
  grown = grows_on old now new f.grown g.grown;
  state = g.state;
  same = λ m. g.same m ∙ ap (go m types m.symbols x) (f.same m) ∙ sym (drawn_more m types m.symbols code k x (stands m old s) l i);
}

-- a statement does what its form does
follows_as : (old new : List Node) (types : List Ty) (x y : Statement) (f : Model → Drawn → Drawn) (s t : Symbolic) → x ≡ y → ((m : Model) (r : Drawn) → go m types m.symbols y r ≡ f m r)
    → Follows old new types f s t → Follows old new types (λ m. go m types m.symbols x) s t
follows_as old new types x y f s t i e a = record {
  grown = a.grown;
  state = a.state;
  same = λ m. a.same m ∙ sym (e m (stands m old s)) ∙ ap (λ z. go m types m.symbols z (stands m old s)) (sym i);
}

pub assign_goes : (old new : List Node) (types : List Ty) (x : Statement) (k : ℕ) (e : Expression) (s t : Symbolic) → x ≡ Assign k e
    → Follows old new types (λ m. assigns m types k e) s t → Follows old new types (λ m. go m types m.symbols x) s t
assign_goes old new types x k e s t i a = follows_as old new types x (Assign k e) (λ m. assigns m types k e) s t i (λ m r. go_assign m types m.symbols k e r) a

pub havoc_goes : (old new : List Node) (types : List Ty) (x : Statement) (k : ℕ) (listed : Truth) (s t : Symbolic) → x ≡ Havoc k listed
    → Follows old new types (λ m r. takes listed (free m.symbols (part_type types k) r.next) k r) s t → Follows old new types (λ m. go m types m.symbols x) s t
havoc_goes old new types x k listed s t i a =
    follows_as old new types x (Havoc k listed) (λ m r. takes listed (free m.symbols (part_type types k) r.next) k r) s t i (λ m r. go_havoc m types m.symbols k listed r) a

pub assume_goes : (old new : List Node) (types : List Ty) (x : Statement) (e : Expression) (s t : Symbolic) → x ≡ Assume e
    → Follows old new types (λ m. assumes m types e) s t → Follows old new types (λ m. go m types m.symbols x) s t
assume_goes old new types x e s t i a = follows_as old new types x (Assume e) (λ m. assumes m types e) s t i (λ m r. go_assume m types m.symbols e r) a

pub assert_goes : (old new : List Node) (types : List Ty) (x : Statement) (site : ℕ) (e : Expression) (s t : Symbolic) → x ≡ Assert site e
    → Follows old new types (λ m. asserts m types site e) s t → Follows old new types (λ m. go m types m.symbols x) s t
assert_goes old new types x site e s t i a = follows_as old new types x (Assert site e) (λ m. asserts m types site e) s t i (λ m r. go_assert m types m.symbols site e r) a

pub if_goes : (old new late later last : List Node) (types : List Ty) (x : Statement) (e : Expression) (xs ys p q : List Statement) (cs : List ℕ) (s : Symbolic) (o : Open) (first second t : Symbolic)
    → x ≡ If e xs ys → p ≡ xs → q ≡ ys → cs ≡ first.cells
    → IsState old types s → Opens old new types e s o → Follows new late types (λ m. drawn m types m.symbols p) o.first first
    → Follows late later types (λ m. drawn m types m.symbols q) (record { cells = o.cells; path = o.path; taken = o.other; choices = first.choices; sites = first.sites; next = first.next }) second
    → Joins later last types o.condition o.taken cs first.path second t
    → Follows old last types (λ m. go m types m.symbols x) s t
if_goes old new late later last types x e xs ys p q cs s o first second t i a b c h n f g j =
    let f' = subst (λ z. Follows new late types (λ m. drawn m types m.symbols z) o.first first) a f in
    let g' = subst (λ z. Follows late later types (λ m. drawn m types m.symbols z) (record { cells = o.cells; path = o.path; taken = o.other; choices = first.choices; sites = first.sites; next = first.next }) second) b g in
    let j' = subst (λ z. Joins later last types o.condition o.taken z first.path second t) c j in
    follows_as old last types x (If e xs ys) (λ m r. either_arm (is_true m types r.cells e) (drawn m types m.symbols xs) (drawn m types m.symbols ys) r) s t i (λ m r. go_if m types m.symbols e xs ys r)
    (branch_follows old new late later last types e (λ m. drawn m types m.symbols xs) (λ m. drawn m types m.symbols ys) s o first second t h n f' g' j')
