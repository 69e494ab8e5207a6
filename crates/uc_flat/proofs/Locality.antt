-- Code reads only its own free values: it does the same where they stand elsewhere in another list.
use Rattle.std.proofs.Common.{◌≡◌, ℕ, ◌+◌, ◌<◌, ◌≤◌, List, [], ◌∷◌, ◌++◌, map, sym, ap, ◌∙◌, subst, arith, slice_get, slice_set}
use Rattle.std.specs.Prelude.{Bool, not, ◌&&◌}
use Rattle.uc_values.specs.declared.ty.Ty.{Ty}
use Rattle.uc_values.specs.declared.value.Value.{Value}
use Rattle.uc_ops.specs.declared.model.Model.{Model}
use Rattle.uc_ops.specs.Typing.{part_type}
use Rattle.uc_ops.specs.Meaning.{fitting}
use Rattle.uc_flat.specs.declared.expression.Expression.{Expression}
use Rattle.uc_flat.specs.declared.statement.Statement.{Statement}
use Rattle.uc_flat.specs.declared.statement.Statement.TheOpen.{Statement-F}
use Rattle.uc_flat.specs.declared.statement.Statement.TheOpen.Statement-F.{Assign as AssignForm, Havoc as HavocForm, Assume as AssumeForm, Assert as AssertForm, If as IfForm}
use Rattle.uc_flat.specs.declared.statement.Statement.TheViews.{roll-Statement}
use Rattle.uc_flat.specs.declared.statement.Statement.TheVariants.{Assign, Havoc, Assume, Assert, If, rolls-Assign, rolls-Havoc, rolls-Assume, rolls-Assert, rolls-If}
use Rattle.uc_flat.specs.declared.statement.Statement.TheFolds.{ind-Statement, map-Statement}
use Rattle.uc_flat.specs.Reading.{value_of, is_true}
use Rattle.uc_flat.specs.Drawn.{Drawn, free, listed_if, go, drawn, in_order, arm, other_arm, either}
use Rattle.uc_flat.specs.Counts.{draws, all_draws, total}
use Rattle.uc_flat.proofs.Forms.{go_assign, go_havoc, go_assume, go_assert, go_if, draws_assign, draws_havoc, draws_assume, draws_assert, draws_if}

-- Two lists of free values that agree on a stretch.
pub record Stretch : Type 0 where
  pub model : Model
  pub types : List Ty
  pub one : List Value
  pub two : List Value
  pub a : ℕ
  pub b : ℕ
  pub high : ℕ
  pub agree : (k : ℕ) → k < high → slice_get one (a + k) ≡ slice_get two (b + k)

-- the same place in both, after d free values of the stretch
pub record Alike (z : Stretch) (d : ℕ) (r s : Drawn) : Type 0 where
  pub cells : r.cells ≡ s.cells
  pub goes : r.goes ≡ s.goes
  pub taken : r.taken ≡ s.taken
  pub chosen : r.chosen ≡ s.chosen
  pub sites : r.sites ≡ s.sites
  pub next : r.next ≡ z.a + d
  pub next_other : s.next ≡ z.b + d

abbrev pub Moves : Stretch → Statement → Type 0
Moves z x = (r s : Drawn) (d : ℕ) → Alike z d r s → d + draws x ≤ z.high → Alike z (d + draws x) (go z.model z.types z.one x r) (go z.model z.types z.two x s)

abbrev pub MovesAll : Stretch → List Statement → Type 0
MovesAll z xs = (r s : Drawn) (d : ℕ) → Alike z d r s → d + all_draws xs ≤ z.high → Alike z (d + all_draws xs) (drawn z.model z.types z.one xs r) (drawn z.model z.types z.two xs s)

move : (z : Stretch) (x : Statement) (d n : ℕ) (r s t u : Drawn) → draws x ≡ n → go z.model z.types z.one x r ≡ t → go z.model z.types z.two x s ≡ u → Alike z (d + n) t u → Alike z (d + draws x) (go z.model z.types z.one x r) (go z.model z.types z.two x s)
move z x d n r s t u e p q a =
    subst (λ k. Alike z (d + k) (go z.model z.types z.one x r) (go z.model z.types z.two x s)) (sym e)
    (subst (λ y. Alike z (d + n) y (go z.model z.types z.two x s)) (sym p) (subst (λ y. Alike z (d + n) t y) (sym q) a))

assign_moves : (z : Stretch) (k : ℕ) (e : Expression) → Moves z (Assign k e)
assign_moves z k e r s d a h = move z (Assign k e) d 0 r s _ _ (draws_assign k e) (go_assign z.model z.types z.one k e r) (go_assign z.model z.types z.two k e s) (record {
  cells = ap (λ cs. slice_set cs k (value_of z.model z.types r.cells e)) a.cells ∙ ap (λ cs. slice_set s.cells k (value_of z.model z.types cs e)) a.cells;
  goes = a.goes;
  taken = a.taken;
  chosen = a.chosen;
  sites = a.sites;
  next = omega (arith, a.next);
  next_other = omega (arith, a.next_other);
})

assume_moves : (z : Stretch) (e : Expression) → Moves z (Assume e)
assume_moves z e r s d a h = move z (Assume e) d 0 r s _ _ (draws_assume e) (go_assume z.model z.types z.one e r) (go_assume z.model z.types z.two e s) (record {
  cells = a.cells;
  goes = ap (λ b. b && is_true z.model z.types r.cells e) a.goes ∙ ap (λ cs. s.goes && is_true z.model z.types cs e) a.cells;
  taken = a.taken;
  chosen = a.chosen;
  sites = a.sites;
  next = omega (arith, a.next);
  next_other = omega (arith, a.next_other);
})

havoc_moves : (z : Stretch) (k : ℕ) (listed : Bool) → Moves z (Havoc k listed)
havoc_moves z k listed r s d a h =
    let ty = part_type z.types k in
    let l : d < z.high = omega (arith, h, draws_havoc k listed) in
    let v : free z.one ty r.next ≡ free z.two ty s.next =
    ap (free z.one ty) a.next ∙ ap (fitting ty) (z.agree d l) ∙ ap (free z.two ty) (sym a.next_other) in
    move z (Havoc k listed) d 1 r s _ _ (draws_havoc k listed) (go_havoc z.model z.types z.one k listed r) (go_havoc z.model z.types z.two k listed s) (record {
      cells = ap (λ cs. slice_set cs k (free z.one ty r.next)) a.cells ∙ ap (slice_set s.cells k) v;
      goes = a.goes;
      taken = a.taken;
      chosen =
          ap (λ cs. cs ++ listed_if (r.taken && listed) (free z.one ty r.next)) a.chosen
          ∙ ap (λ b. s.chosen ++ listed_if (b && listed) (free z.one ty r.next)) a.taken
          ∙ ap (λ x. s.chosen ++ listed_if (s.taken && listed) x) v;
      sites = a.sites;
      next = omega (arith, a.next);
      next_other = omega (arith, a.next_other);
    })

assert_moves : (z : Stretch) (site : ℕ) (e : Expression) → Moves z (Assert site e)
assert_moves z site e r s d a h = move z (Assert site e) d 0 r s _ _ (draws_assert site e) (go_assert z.model z.types z.one site e r) (go_assert z.model z.types z.two site e s) (record {
  cells = a.cells;
  goes = a.goes;
  taken = a.taken;
  chosen = a.chosen;
  sites =
      ap (λ ns. ns ++ listed_if (r.taken && not (is_true z.model z.types r.cells e)) site) a.sites
      ∙ ap (λ b. s.sites ++ listed_if (b && not (is_true z.model z.types r.cells e)) site) a.taken
      ∙ ap (λ cs. s.sites ++ listed_if (s.taken && not (is_true z.model z.types cs e)) site) a.cells;
  next = omega (arith, a.next);
  next_other = omega (arith, a.next_other);
})

if_moves : (z : Stretch) (e : Expression) (xs ys : List Statement) → MovesAll z xs → MovesAll z ys → Moves z (If e xs ys)
if_moves z e xs ys f g r s d a h =
    let c = is_true z.model z.types r.cells e in
    let c' = is_true z.model z.types s.cells e in
    let same : c ≡ c' = ap (λ cs. is_true z.model z.types cs e) a.cells in
    let n = draws_if e xs ys in
    let first = f (arm c r) (arm c' s) d (record { cells = a.cells; goes = a.goes; taken = ap (λ b. b && c) a.taken ∙ ap (λ b. s.taken && b) same; chosen = a.chosen; sites = a.sites; next = a.next; next_other = a.next_other }) (omega (arith, h, n)) in
    let r1 = drawn z.model z.types z.one xs (arm c r) in
    let s1 = drawn z.model z.types z.two xs (arm c' s) in
    let second = g (other_arm c r r1) (other_arm c' s s1) (d + all_draws xs)
    (record { cells = a.cells; goes = a.goes; taken = ap (λ b. b && not c) a.taken ∙ ap (λ b. s.taken && not b) same; chosen = first.chosen; sites = first.sites; next = first.next; next_other = first.next_other }) (omega (arith, h, n)) in
    let r2 = drawn z.model z.types z.one ys (other_arm c r r1) in
    let s2 = drawn z.model z.types z.two ys (other_arm c' s s1) in
    move z (If e xs ys) d (all_draws xs + all_draws ys) r s _ _ n (go_if z.model z.types z.one e xs ys r) (go_if z.model z.types z.two e xs ys s) (record {
      cells = ap (λ b. either b r1.cells r2.cells) same ∙ ap (λ x. either c' x r2.cells) first.cells ∙ ap (λ x. either c' s1.cells x) second.cells;
      goes = ap (λ b. either b r1.goes r2.goes) same ∙ ap (λ x. either c' x r2.goes) first.goes ∙ ap (λ x. either c' s1.goes x) second.goes;
      taken = a.taken;
      chosen = second.chosen;
      sites = second.sites;
      next = omega (arith, second.next);
      next_other = omega (arith, second.next_other);
    })

abbrev Moved : Stretch → Type 0
Moved z = (x : Statement) × Moves z x

all_move : (z : Stretch) (ps : List (Moved z)) → MovesAll z (map (λ p. p.0) ps)
unfolding drawn in_order total
all_move z [] r s d a h = record { cells = a.cells; goes = a.goes; taken = a.taken; chosen = a.chosen; sites = a.sites; next = omega (arith, a.next); next_other = omega (arith, a.next_other) }
all_move z (p ∷ ps) r s d a h =
    let one = p.1 r s d a (omega (arith, h)) in
    let rest = all_move z ps (go z.model z.types z.one p.0 r) (go z.model z.types z.two p.0 s) (d + draws p.0) one (omega (arith, h)) in
    record { cells = rest.cells; goes = rest.goes; taken = rest.taken; chosen = rest.chosen; sites = rest.sites; next = omega (arith, rest.next); next_other = omega (arith, rest.next_other) }

cases : (z : Stretch) (y : Statement-F (Moved z)) → Moves z (roll-Statement (map-Statement (Moved z) Statement (λ p. p.0) y))
cases z (AssignForm k e) = subst (Moves z) (sym (rolls-Assign k e)) (assign_moves z k e)
cases z (HavocForm k listed) = subst (Moves z) (sym (rolls-Havoc k listed)) (havoc_moves z k listed)
cases z (AssumeForm e) = subst (Moves z) (sym (rolls-Assume e)) (assume_moves z e)
cases z (AssertForm site e) = subst (Moves z) (sym (rolls-Assert site e)) (assert_moves z site e)
cases z (IfForm e ps qs) = subst (Moves z) (sym (rolls-If e (map (λ p. p.0) ps) (map (λ p. p.0) qs))) (if_moves z e (map (λ p. p.0) ps) (map (λ p. p.0) qs) (all_move z ps) (all_move z qs))

pub statement_moves : (z : Stretch) (x : Statement) → Moves z x
statement_moves z = ind-Statement (Moves z) (λ x y is. subst (λ w. Moves z (roll-Statement w)) is (cases z y))

-- code does the same on two lists of free values that agree on the stretch that it reads
pub code_moves : (z : Stretch) (xs : List Statement) → MovesAll z xs
unfolding drawn in_order total
code_moves z [] r s d a h = record { cells = a.cells; goes = a.goes; taken = a.taken; chosen = a.chosen; sites = a.sites; next = omega (arith, a.next); next_other = omega (arith, a.next_other) }
code_moves z (x ∷ xs) r s d a h =
    let one = statement_moves z x r s d a (omega (arith, h)) in
    let rest = code_moves z xs (go z.model z.types z.one x r) (go z.model z.types z.two x s) (d + draws x) one (omega (arith, h)) in
    record { cells = rest.cells; goes = rest.goes; taken = rest.taken; chosen = rest.chosen; sites = rest.sites; next = omega (arith, rest.next); next_other = omega (arith, rest.next_other) }
