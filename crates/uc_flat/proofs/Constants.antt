-- Code under models that agree on the constants and functions that it reads.
use Rattle.std.proofs.Common.{◌≡◌, ℕ, ◌<◌, List, [], ◌∷◌, ◌++◌, map, refl, sym, ap, ◌∙◌, subst, slice_get, slice_set}
use Rattle.std.specs.Prelude.{not, ◌&&◌, All, Contains}
use Rattle.std.specs.Option.{option_map}
use Rattle.std.proofs.lemmas.List.Elements.{All-head, All-tail}
use Rattle.uc_values.specs.declared.ty.Ty.{Ty}
use Rattle.uc_values.specs.declared.value.Value.{Value}
use Rattle.uc_values.specs.Values.{TypedValue, truth_of}
use Rattle.uc_values.specs.Tables.{result_of}
use Rattle.uc_ops.specs.declared.model.Model.{Model}
use Rattle.uc_ops.specs.declared.op.Op.{Op}
use Rattle.uc_ops.specs.declared.op.Op.TheVariants.{Symbol, Const, Not, And, Or, Eq, Ite, Add, Scale, Le, BvAdd, BvSub, BvMul, BvNeg, BvAnd, BvOr, BvXor, BvNot, Concat, Extract, ZeroExt, SignExt, Shl, Lshr, Ashr, Slt, Sle, Ult, Ule, App, Select, Store, Diff, MkRec, GetField}
use Rattle.uc_ops.specs.Typing.{type_of as result_type}
use Rattle.uc_ops.specs.Meaning.{fitting, apply}
use Rattle.uc_flat.specs.declared.expression.Expression.{Expression}
use Rattle.uc_flat.specs.declared.expression.Expression.TheOpen.{Expression-F}
use Rattle.uc_flat.specs.declared.expression.Expression.TheOpen.Expression-F.{Cell as CellForm, Apply as ApplyForm}
use Rattle.uc_flat.specs.declared.expression.Expression.TheViews.{roll-Expression}
use Rattle.uc_flat.specs.declared.expression.Expression.TheVariants.{Apply, rolls-Cell, rolls-Apply}
use Rattle.uc_flat.specs.declared.expression.Expression.TheFolds.{ind-Expression, map-Expression}
use Rattle.uc_flat.specs.declared.statement.Statement.{Statement}
use Rattle.uc_flat.specs.declared.statement.Statement.TheOpen.{Statement-F}
use Rattle.uc_flat.specs.declared.statement.Statement.TheOpen.Statement-F.{Assign as AssignForm, Havoc as HavocForm, Assume as AssumeForm, Assert as AssertForm, If as IfForm}
use Rattle.uc_flat.specs.declared.statement.Statement.TheViews.{roll-Statement}
use Rattle.uc_flat.specs.declared.statement.Statement.TheVariants.{Assign, Assume, Assert, If, rolls-Assign, rolls-Havoc, rolls-Assume, rolls-Assert, rolls-If}
use Rattle.uc_flat.specs.declared.statement.Statement.TheFolds.{ind-Statement, map-Statement}
use Rattle.uc_flat.specs.Reading.{read, value_of, is_true}
use Rattle.uc_flat.specs.Drawn.{Drawn, listed_if, go, drawn, in_order, arm, other_arm, either_arm}
use Rattle.uc_flat.specs.Fine.{IsWithin, itself, deeper, ReadsBelow, CodeReadsBelow}
use Rattle.uc_flat.specs.Laws.{AgreeBelow}
use Rattle.uc_flat.specs.Unrolled.{widened}
use Rattle.uc_flat.proofs.Forms.{read_cell, read_apply, types_in, values_in, go_assign, go_havoc, go_assume, go_assert, go_if}
use Rattle.uc_flat.proofs.Inside.{contains_first, contains_later, reads_part, reads_within, one_inside, one_of, rest_of, first_of, second_of}

same_apply : (n : ℕ) (m m' : Model) (op : Op) (types : List Ty) (values : List Value) → AgreeBelow n m m' → ((k : ℕ) (ty : Ty) → op ≡ Symbol k ty → k < n) → apply m op types values ≡ apply m' op types values
same_apply n m m' (Symbol k ty) types values a h = ap (fitting ty) (a.symbols k (h k ty refl))
same_apply n m m' (App k ty) types values a h = ap (λ ts. fitting ty (option_map (λ t. result_of t values) (slice_get ts k))) a.tables
same_apply n m m' (Const ty v) types values a h = refl
same_apply n m m' Not types values a h = refl
same_apply n m m' And types values a h = refl
same_apply n m m' Or types values a h = refl
same_apply n m m' Eq types values a h = refl
same_apply n m m' Ite types values a h = refl
same_apply n m m' Add types values a h = refl
same_apply n m m' (Scale f) types values a h = refl
same_apply n m m' Le types values a h = refl
same_apply n m m' BvAdd types values a h = refl
same_apply n m m' BvSub types values a h = refl
same_apply n m m' BvMul types values a h = refl
same_apply n m m' BvNeg types values a h = refl
same_apply n m m' BvAnd types values a h = refl
same_apply n m m' BvOr types values a h = refl
same_apply n m m' BvXor types values a h = refl
same_apply n m m' BvNot types values a h = refl
same_apply n m m' Concat types values a h = refl
same_apply n m m' (Extract high low) types values a h = refl
same_apply n m m' (ZeroExt x) types values a h = refl
same_apply n m m' (SignExt x) types values a h = refl
same_apply n m m' Shl types values a h = refl
same_apply n m m' Lshr types values a h = refl
same_apply n m m' Ashr types values a h = refl
same_apply n m m' Slt types values a h = refl
same_apply n m m' Sle types values a h = refl
same_apply n m m' Ult types values a h = refl
same_apply n m m' Ule types values a h = refl
same_apply n m m' Select types values a h = refl
same_apply n m m' Store types values a h = refl
same_apply n m m' Diff types values a h = refl
same_apply n m m' (MkRec t) types values a h = refl
same_apply n m m' (GetField p) types values a h = refl

abbrev Same : ℕ → Model → Model → List Ty → List Value → Expression → Type 0
Same n m m' types cells e = ReadsBelow n e → read m types cells e ≡ read m' types cells e

abbrev Proved : ℕ → Model → Model → List Ty → List Value → Type 0
Proved n m m' types cells = (e : Expression) × Same n m m' types cells e

same_parts : (n : ℕ) (m m' : Model) (types : List Ty) (cells : List Value) (ps : List (Proved n m m' types cells)) → ((x : Expression) → Contains (map (λ p. p.0) ps) x → ReadsBelow n x)
    → map (read m types cells) (map (λ p. p.0) ps) ≡ map (read m' types cells) (map (λ p. p.0) ps)
same_parts n m m' types cells [] h = refl
same_parts n m m' types cells (p ∷ ps) h =
    let rest = map (λ q. q.0) ps in
    ap (λ v. v ∷ map (read m types cells) rest) (p.1 (h p.0 (contains_first p.0 rest)))
    ∙ ap (λ vs. read m' types cells p.0 ∷ vs) (same_parts n m m' types cells ps (λ x c. h x (contains_later p.0 x rest c)))

whole_is : (op : Op) (parts : List Expression) (k : ℕ) (ty : Ty) → op ≡ Symbol k ty → IsWithin (Apply op parts) (Apply (Symbol k ty) parts)
whole_is op parts k ty i = subst (λ o. IsWithin (Apply op parts) (Apply o parts)) i itself

same_cases : (n : ℕ) (m m' : Model) (types : List Ty) (cells : List Value) → AgreeBelow n m m' → (y : Expression-F (Proved n m m' types cells))
    → Same n m m' types cells (roll-Expression (map-Expression (Proved n m m' types cells) Expression (λ p. p.0) y))
same_cases n m m' types cells a (CellForm k) = subst (Same n m m' types cells) (sym (rolls-Cell k)) (λ h. read_cell m types cells k ∙ sym (read_cell m' types cells k))
same_cases n m m' types cells a (ApplyForm op ps) =
    let xs = map (λ p. p.0) ps in
    subst (Same n m m' types cells) (sym (rolls-Apply op xs))
    (λ h.
    let parts = same_parts n m m' types cells ps (λ x c. reads_part n (Apply op xs) x (deeper op xs x itself c) h) in
    read_apply m types cells op xs
    ∙ ap (λ (vs : List TypedValue). record { ty = result_type op (types_in vs); value = apply m op (types_in vs) (values_in vs) }) parts
    ∙ ap (λ v. record { ty = result_type op (types_in (map (read m' types cells) xs)); value = v })
    (same_apply n m m' op (types_in (map (read m' types cells) xs)) (values_in (map (read m' types cells) xs)) a (λ k ty i. h k ty xs (whole_is op xs k ty i)))
    ∙ sym (read_apply m' types cells op xs))

-- an expression has the same value
pub same_read : (n : ℕ) (m m' : Model) (types : List Ty) (cells : List Value) → AgreeBelow n m m' → (e : Expression) → Same n m m' types cells e
same_read n m m' types cells a = ind-Expression (Same n m m' types cells) (λ x y is. subst (λ w. Same n m m' types cells (roll-Expression w)) is (same_cases n m m' types cells a y))

pub same_value : (n : ℕ) (m m' : Model) (types : List Ty) (cells : List Value) → AgreeBelow n m m' → (e : Expression) → ReadsBelow n e → value_of m types cells e ≡ value_of m' types cells e
same_value n m m' types cells a e h = ap (λ (v : TypedValue). v.value) (same_read n m m' types cells a e h)

-- further cells begin with the same values
pub same_widened : (n : ℕ) (m m' : Model) (types : List Ty) (cells : List Value) (further : List Expression) → AgreeBelow n m m' → All (ReadsBelow n) further
    → widened m types further cells ≡ widened m' types further cells
same_widened n m m' types cells further a h = ap (λ vs. cells ++ vs) (each further h)
  where
    each : (es : List Expression) → All (ReadsBelow n) es → map (value_of m types cells) es ≡ map (value_of m' types cells) es
    each [] g = refl
    each (e ∷ es) g =
        ap (λ v. v ∷ map (value_of m types cells) es) (same_value n m m' types cells a e (All-head (ReadsBelow n) e es g))
        ∙ ap (λ vs. value_of m' types cells e ∷ vs) (each es (All-tail (ReadsBelow n) e es g))

abbrev Does : ℕ → Model → Model → List Ty → List Value → Statement → Type 0
Does n m m' types frees x = CodeReadsBelow n (x ∷ []) → (r : Drawn) → go m types frees x r ≡ go m' types frees x r

abbrev DoesAll : ℕ → Model → Model → List Ty → List Value → List Statement → Type 0
DoesAll n m m' types frees xs = CodeReadsBelow n xs → (r : Drawn) → drawn m types frees xs r ≡ drawn m' types frees xs r

if_does : (n : ℕ) (m m' : Model) (types : List Ty) (frees : List Value) → AgreeBelow n m m' → (e : Expression) (xs ys : List Statement)
    → DoesAll n m m' types frees xs → DoesAll n m m' types frees ys → Does n m m' types frees (If e xs ys)
if_does n m m' types frees a e xs ys f g h r =
    let c = is_true m types r.cells e in
    let c' = is_true m' types r.cells e in
    let same : c ≡ c' = ap truth_of (same_value n m m' types r.cells a e (h.decides e xs ys (one_inside (If e xs ys)))) in
    let first = f (reads_within n xs (If e xs ys ∷ []) (first_of e xs ys) h) (arm c' r) in
    let second = g (reads_within n ys (If e xs ys ∷ []) (second_of e xs ys) h) (other_arm c' r (drawn m' types frees xs (arm c' r))) in
    go_if m types frees e xs ys r
    ∙ ap (λ b. either_arm b (drawn m types frees xs) (drawn m types frees ys) r) same
    ∙ ap (λ x. either_arm c' (λ _. x) (drawn m types frees ys) r) first
    ∙ ap (λ x. either_arm c' (λ _. drawn m' types frees xs (arm c' r)) (λ _. x) r) second
    ∙ sym (go_if m' types frees e xs ys r)

more_does : (n : ℕ) (m m' : Model) (types : List Ty) (frees : List Value) (x : Statement) (xs : List Statement) → Does n m m' types frees x → DoesAll n m m' types frees xs → DoesAll n m m' types frees (x ∷ xs)
unfolding drawn in_order
more_does n m m' types frees x xs f g h r =
    ap (drawn m types frees xs) (f (reads_within n (x ∷ []) (x ∷ xs) (one_of (x ∷ xs) x (contains_first x xs)) h) r)
    ∙ g (reads_within n xs (x ∷ xs) (rest_of x xs) h) (go m' types frees x r)

none_does : (n : ℕ) (m m' : Model) (types : List Ty) (frees : List Value) → DoesAll n m m' types frees []
unfolding drawn in_order
none_does n m m' types frees h r = refl

abbrev Done : ℕ → Model → Model → List Ty → List Value → Type 0
Done n m m' types frees = (x : Statement) × Does n m m' types frees x

all_do : (n : ℕ) (m m' : Model) (types : List Ty) (frees : List Value) (ps : List (Done n m m' types frees)) → DoesAll n m m' types frees (map (λ p. p.0) ps)
all_do n m m' types frees [] = none_does n m m' types frees
all_do n m m' types frees (p ∷ ps) = more_does n m m' types frees p.0 (map (λ q. q.0) ps) p.1 (all_do n m m' types frees ps)

does_cases : (n : ℕ) (m m' : Model) (types : List Ty) (frees : List Value) → AgreeBelow n m m' → (y : Statement-F (Done n m m' types frees))
    → Does n m m' types frees (roll-Statement (map-Statement (Done n m m' types frees) Statement (λ p. p.0) y))
does_cases n m m' types frees a (AssignForm k e) = subst (Does n m m' types frees) (sym (rolls-Assign k e)) (λ h r.
    go_assign m types frees k e r
    ∙ ap (λ v. record { cells = slice_set r.cells k v; goes = r.goes; taken = r.taken; chosen = r.chosen; sites = r.sites; next = r.next }) (same_value n m m' types r.cells a e (h.assigns k e (one_inside (Assign k e))))
    ∙ sym (go_assign m' types frees k e r))
does_cases n m m' types frees a (HavocForm k listed) = subst (Does n m m' types frees) (sym (rolls-Havoc k listed)) (λ h r. go_havoc m types frees k listed r ∙ sym (go_havoc m' types frees k listed r))
does_cases n m m' types frees a (AssumeForm e) = subst (Does n m m' types frees) (sym (rolls-Assume e)) (λ h r.
    go_assume m types frees e r
    ∙ ap (λ v. record { cells = r.cells; goes = r.goes && truth_of v; taken = r.taken; chosen = r.chosen; sites = r.sites; next = r.next }) (same_value n m m' types r.cells a e (h.assumes e (one_inside (Assume e))))
    ∙ sym (go_assume m' types frees e r))
does_cases n m m' types frees a (AssertForm site e) = subst (Does n m m' types frees) (sym (rolls-Assert site e)) (λ h r.
    go_assert m types frees site e r
    ∙ ap (λ v. record { cells = r.cells; goes = r.goes; taken = r.taken; chosen = r.chosen; sites = r.sites ++ listed_if (r.taken && not (truth_of v)) site; next = r.next }) (same_value n m m' types r.cells a e (h.asserts site e (one_inside (Assert site e))))
    ∙ sym (go_assert m' types frees site e r))
does_cases n m m' types frees a (IfForm e ps qs) =
    subst (Does n m m' types frees) (sym (rolls-If e (map (λ p. p.0) ps) (map (λ p. p.0) qs)))
    (if_does n m m' types frees a e (map (λ p. p.0) ps) (map (λ p. p.0) qs) (all_do n m m' types frees ps) (all_do n m m' types frees qs))

statement_does : (n : ℕ) (m m' : Model) (types : List Ty) (frees : List Value) → AgreeBelow n m m' → (x : Statement) → Does n m m' types frees x
statement_does n m m' types frees a = ind-Statement (Does n m m' types frees) (λ x y is. subst (λ w. Does n m m' types frees (roll-Statement w)) is (does_cases n m m' types frees a y))

code_does : (n : ℕ) (m m' : Model) (types : List Ty) (frees : List Value) → AgreeBelow n m m' → (xs : List Statement) → DoesAll n m m' types frees xs
code_does n m m' types frees a [] = none_does n m m' types frees
code_does n m m' types frees a (x ∷ xs) = more_does n m m' types frees x xs (statement_does n m m' types frees a x) (code_does n m m' types frees a xs)

-- code does the same
pub same_drawn : (n : ℕ) (m m' : Model) (types : List Ty) (code : List Statement) (frees : List Value) (r : Drawn) → CodeReadsBelow n code → AgreeBelow n m m' → drawn m types frees code r ≡ drawn m' types frees code r
same_drawn n m m' types code frees r h a = code_does n m m' types frees a code h r
