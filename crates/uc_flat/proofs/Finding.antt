-- Where code runs on choices, there are free values on which it goes the same way and lists these choices.
use Rattle.std.proofs.Common.{◌≡◌, ℕ, ◌+◌, List, [], ◌∷◌, ◌++◌, length, map, Option, Some, None, refl, sym, ap, ◌∙◌, subst, arith, slice_get, slice_set, append-nil, append_assoc, length-append, replicate}
use Rattle.std.specs.Prelude.{Bool as Truth, true, false, not, ◌&&◌, if◌then◌else◌}
use Rattle.std.specs.Option.{option_and_then, option_map}
use Rattle.std.proofs.lemmas.List.{length-replicate}
use Rattle.uc_values.specs.declared.ty.Ty.{Ty}
use Rattle.uc_values.specs.declared.value.Value.{Value}
use Rattle.uc_values.specs.Values.{fits, zero_of, nothing}
use Rattle.uc_ops.specs.declared.model.Model.{Model}
use Rattle.uc_ops.specs.Typing.{part_type}
use Rattle.uc_ops.specs.Meaning.{fitting}
use Rattle.uc_flat.specs.declared.expression.Expression.{Expression}
use Rattle.uc_flat.specs.declared.statement.Statement.{Statement}
use Rattle.uc_flat.specs.declared.statement.Statement.TheOpen.{Statement-F}
use Rattle.uc_flat.specs.declared.statement.Statement.TheOpen.Statement-F.{Assign as AssignForm, Havoc as HavocForm, Assume as AssumeForm, Assert as AssertForm, If as IfForm}
use Rattle.uc_flat.specs.declared.statement.Statement.TheViews.{roll-Statement}
use Rattle.uc_flat.specs.declared.statement.Statement.TheVariants.{Assign, Havoc, Assume, Assert, If, rolls-Assign, rolls-Havoc, rolls-Assume, rolls-Assert, rolls-If}
use Rattle.uc_flat.specs.declared.statement.Statement.TheFolds.{ind-Statement, map-Statement}
use Rattle.uc_flat.specs.Reading.{value_of, is_true}
use Rattle.uc_flat.specs.Drawn.{Drawn, free, listed_if, go, drawn, in_order, arm, other_arm, either_arm}
use Rattle.uc_flat.specs.Counts.{draws, all_draws, total}
use Rattle.uc_flat.specs.Running.{Placed, Execution, in_turn, next_of, with_choice, with_other, chooses, runs, run_all}
use Rattle.uc_flat.specs.Laws.{StandAt, GoesTo, Finds}
use Rattle.uc_flat.proofs.Forms.{go_assign, go_havoc, go_assume, go_assert, go_if, draws_assign, draws_havoc, draws_assume, draws_assert, draws_if, runs_assign, runs_havoc, runs_assume, runs_assert, runs_if}
use Rattle.uc_flat.proofs.Locality.{Stretch, statement_moves}
use Rattle.uc_flat.proofs.Extending.{slice_get-front, slice_get-back, next_after}
use Rattle.uc_flat.proofs.Choosing.{statement_chooses, code_chooses}

abbrev Good : Model → List Ty → Statement → Type 0
Good m types x = (p q : Placed) → runs m types x p ≡ Some q → Finds (λ frees. go m types frees x) (draws x) p q

abbrev GoodAll : Model → List Ty → List Statement → Type 0
GoodAll m types xs = (p q : Placed) → in_turn (map (runs m types) xs) p ≡ Some q → Finds (λ frees. drawn m types frees xs) (all_draws xs) p q

goes_as : (s t : Drawn) (q : Placed) (cs : List Value) (ns : List ℕ) → s ≡ t → GoesTo t q cs ns → GoesTo s q cs ns
goes_as s t q cs ns e g = subst (λ d. GoesTo d q cs ns) (sym e) g

some_is : (p q : Placed) → Some p ≡ Some q → p ≡ q
some_is p q h = cc

left_is : {p q : Placed} → p ≡ q → p.left ≡ q.left
left_is i = ap (λ (x : Placed). x.left) i

others_is : {p q : Placed} → p ≡ q → p.others ≡ q.others
others_is i = ap (λ (x : Placed). x.others) i

cells_is : {p q : Placed} → p ≡ q → p.cells ≡ q.cells
cells_is i = ap (λ (x : Placed). x.cells) i

sites_is : {p q : Placed} → p ≡ q → p.sites ≡ q.sites
sites_is i = ap (λ (x : Placed). x.sites) i

good_assign : (m : Model) (types : List Ty) (k : ℕ) (e : Expression) → Good m types (Assign k e)
good_assign m types k e p q h =
    let i = some_is _ q (sym (runs_assign m types k e p) ∙ h) in
    record {
      frees = [];
      count = sym (draws_assign k e);
      used = [];
      others = [];
      hits = [];
      left = left_is i;
      more = others_is i;
      sites = sym (sites_is i) ∙ sym (append-nil p.sites);
      ways = λ list r a c g t. goes_as _ _ q _ _ (go_assign m types list k e r) (record {
        goes = g;
        cells = ap (λ cs. slice_set cs k (value_of m types cs e)) c ∙ cells_is i;
        lists = sym (append-nil r.chosen);
        listed = sym (append-nil r.sites);
      });
    }

if_some : {A : Type 0} (b : Truth) (p q : A) → (if b then Some p else None) ≡ Some q → (b ≡ true) × (p ≡ q)
if_some true p q h = (refl, (let e : p ≡ q = cc in e))
if_some false p q h = cc

good_assume : (m : Model) (types : List Ty) (e : Expression) → Good m types (Assume e)
good_assume m types e p q h =
    let i = if_some (is_true m types p.cells e) p q (sym (runs_assume m types e p) ∙ h) in
    record {
      frees = [];
      count = sym (draws_assume e);
      used = [];
      others = [];
      hits = [];
      left = left_is i.1;
      more = others_is i.1;
      sites = sym (sites_is i.1) ∙ sym (append-nil p.sites);
      ways = λ list r a c g t. goes_as _ _ q _ _ (go_assume m types list e r) (record {
        goes = ap (λ b. b && is_true m types r.cells e) g ∙ ap (λ cs. is_true m types cs e) c ∙ i.0;
        cells = c ∙ cells_is i.1;
        lists = sym (append-nil r.chosen);
        listed = sym (append-nil r.sites);
      });
    }

good_assert : (m : Model) (types : List Ty) (site : ℕ) (e : Expression) → Good m types (Assert site e)
good_assert m types site e p q h =
    let i = some_is _ q (sym (runs_assert m types site e p) ∙ h) in
    record {
      frees = [];
      count = sym (draws_assert site e);
      used = [];
      others = [];
      hits = listed_if (not (is_true m types p.cells e)) site;
      left = left_is i;
      more = others_is i;
      sites = sym (sites_is i);
      ways = λ list r a c g t. goes_as _ _ q _ _ (go_assert m types list site e r) (record {
        goes = g;
        cells = c ∙ cells_is i;
        lists = sym (append-nil r.chosen);
        listed =
            ap (λ b. r.sites ++ listed_if (b && not (is_true m types r.cells e)) site) t
            ∙ ap (λ cs. r.sites ++ listed_if (not (is_true m types cs e)) site) c;
      });
    }

-- the next value of a list
record Took (ty : Ty) (values : List Value) (f : Value × List Value → Placed) (q : Placed) : Type 0 where
  pub v : Value
  pub rest : List Value
  pub first : values ≡ v ∷ rest
  pub fit : fits ty v ≡ true
  pub ends : f (v, rest) ≡ q

taken_if : (ty : Ty) (v : Value) (rest : List Value) (f : Value × List Value → Placed) (q : Placed) (b : Truth) → fits ty v ≡ b → option_map f (if b then Some (v, rest) else None) ≡ Some q → Took ty (v ∷ rest) f q
taken_if ty v rest f q true e h = record { v = v; rest = rest; first = refl; fit = e; ends = some_is _ q h }
taken_if ty v rest f q false e h = cc

took : (ty : Ty) (values : List Value) (f : Value × List Value → Placed) (q : Placed) → option_map f (next_of ty values) ≡ Some q → Took ty values f q
took ty [] f q h = cc
took ty (v ∷ rest) f q h = taken_if ty v rest f q (fits ty v) refl h

pub fitting_is : (ty : Ty) (v : Value) → fits ty v ≡ true → fitting ty (Some v) ≡ v
fitting_is ty v h = ap (λ b. if b then v else zero_of ty) h

-- the free value of a number, where it stands first
free_first : (ty : Ty) (list : List Value) (a : ℕ) (v : Value) → StandAt list a (v ∷ []) → fits ty v ≡ true → free list ty a ≡ v
free_first ty list a v s f = ap (λ n. fitting ty (slice_get list n)) (omega arith) ∙ ap (fitting ty) (s 0 (omega arith)) ∙ fitting_is ty v f

havoc_finds : (m : Model) (types : List Ty) (k : ℕ) (listed : Truth) (p q : Placed) → chooses listed (part_type types k) k p ≡ Some q → Finds (λ frees. go m types frees (Havoc k listed)) (draws (Havoc k listed)) p q
havoc_finds m types k true p q h =
    let ty = part_type types k in
    let i = took ty p.left (with_choice k p) q h in
    record {
      frees = i.v ∷ [];
      count = sym (draws_havoc k true);
      used = i.v ∷ [];
      others = [];
      hits = [];
      left = i.first ∙ ap (λ l. i.v ∷ l) (left_is i.ends);
      more = others_is i.ends;
      sites = sym (sites_is i.ends) ∙ sym (append-nil p.sites);
      ways = λ list r a c g t.
          let v = free_first ty list r.next i.v a i.fit in
          goes_as _ _ q _ _ (go_havoc m types list k true r) (record {
            goes = g;
            cells = ap (λ cs. slice_set cs k (free list ty r.next)) c ∙ ap (slice_set p.cells k) v ∙ cells_is i.ends;
            lists = ap (λ b. r.chosen ++ listed_if (b && true) (free list ty r.next)) t ∙ ap (λ x. r.chosen ++ x ∷ []) v;
            listed = sym (append-nil r.sites);
          });
    }
havoc_finds m types k false p q h =
    let ty = part_type types k in
    let i = took ty p.others (with_other k p) q h in
    record {
      frees = i.v ∷ [];
      count = sym (draws_havoc k false);
      used = [];
      others = i.v ∷ [];
      hits = [];
      left = left_is i.ends;
      more = i.first ∙ ap (λ l. i.v ∷ l) (others_is i.ends);
      sites = sym (sites_is i.ends) ∙ sym (append-nil p.sites);
      ways = λ list r a c g t.
          let v = free_first ty list r.next i.v a i.fit in
          goes_as _ _ q _ _ (go_havoc m types list k false r) (record {
            goes = g;
            cells = ap (λ cs. slice_set cs k (free list ty r.next)) c ∙ ap (slice_set p.cells k) v ∙ cells_is i.ends;
            lists = ap (λ b. r.chosen ++ listed_if (b && false) (free list ty r.next)) t;
            listed = sym (append-nil r.sites);
          });
    }

good_havoc : (m : Model) (types : List Ty) (k : ℕ) (listed : Truth) → Good m types (Havoc k listed)
good_havoc m types k listed p q h = havoc_finds m types k listed p q (sym (runs_havoc m types k listed p) ∙ h)

pub front_stands : (list : List Value) (a : ℕ) (f g : List Value) → StandAt list a (f ++ g) → StandAt list a f
front_stands list a f g h k l = h k (omega (arith, l, length-append f g)) ∙ slice_get-front f g k l

pub back_stands : (list : List Value) (a b : ℕ) (f g : List Value) → b ≡ a + length f → StandAt list a (f ++ g) → StandAt list b g
back_stands list a b f g e h k l = ap (slice_get list) (omega (arith, e)) ∙ h (length f + k) (omega (arith, l, length-append f g)) ∙ slice_get-back f g k

statement_next : (m : Model) (types : List Ty) (x : Statement) (list : List Value) (r : Drawn) → (go m types list x r).next ≡ r.next + draws x
statement_next m types x list r =
    let z : Stretch = record { model = m; types = types; one = list; two = list; a = r.next; b = r.next; high = draws x; agree = λ k h. refl } in
    let n = statement_moves z x r r 0 (record { cells = refl; goes = refl; taken = refl; chosen = refl; sites = refl; next = omega arith; next_other = omega arith }) (omega arith) in
    n.next ∙ ap (λ i. r.next + i) (omega arith)

if_finds : (m : Model) (types : List Ty) (e : Expression) (xs ys : List Statement) → GoodAll m types xs → GoodAll m types ys → (c : Truth) (p q : Placed) → is_true m types p.cells e ≡ c
    → in_turn (if c then map (runs m types) xs else map (runs m types) ys) p ≡ Some q → Finds (λ frees. go m types frees (If e xs ys)) (draws (If e xs ys)) p q
if_finds m types e xs ys f g true p q i h =
    let u = f p q h in
    let filler = replicate (all_draws ys) nothing in
    record {
      frees = u.frees ++ filler;
      count = omega (arith, length-append u.frees filler, length-replicate (all_draws ys) nothing, u.count, draws_if e xs ys);
      used = u.used;
      others = u.others;
      hits = u.hits;
      left = u.left;
      more = u.more;
      sites = u.sites;
      ways = λ list r a c w t.
          let first = drawn m types list xs (arm true r) in
          let x = u.ways list (arm true r) (front_stands list r.next u.frees filler a) c w (ap (λ b. b && true) t) in
          let rest = code_chooses m types list ys in
          let not_taken = ap (λ b. b && false) t in
          let same : is_true m types r.cells e ≡ true = ap (λ cs. is_true m types cs e) c ∙ i in
          goes_as _ _ q _ _ (go_if m types list e xs ys r ∙ ap (λ b. either_arm b (drawn m types list xs) (drawn m types list ys) r) same)
          (record { goes = x.goes; cells = x.cells; lists = rest.quiet (other_arm true r first) not_taken ∙ x.lists; listed = rest.silent (other_arm true r first) not_taken ∙ x.listed });
    }
if_finds m types e xs ys f g false p q i h =
    let u = g p q h in
    let filler = replicate (all_draws xs) nothing in
    record {
      frees = filler ++ u.frees;
      count = omega (arith, length-append filler u.frees, length-replicate (all_draws xs) nothing, u.count, draws_if e xs ys);
      used = u.used;
      others = u.others;
      hits = u.hits;
      left = u.left;
      more = u.more;
      sites = u.sites;
      ways = λ list r a c w t.
          let first = drawn m types list xs (arm false r) in
          let rest = code_chooses m types list xs in
          let not_taken = ap (λ b. b && false) t in
          let n = next_after m types xs list (arm false r) in
          let x = u.ways list (other_arm false r first) (back_stands list r.next first.next filler u.frees (omega (arith, n, length-replicate (all_draws xs) nothing)) a) c w (ap (λ b. b && true) t) in
          let same : is_true m types r.cells e ≡ false = ap (λ cs. is_true m types cs e) c ∙ i in
          goes_as _ _ q _ _ (go_if m types list e xs ys r ∙ ap (λ b. either_arm b (drawn m types list xs) (drawn m types list ys) r) same)
          (record {
            goes = x.goes;
            cells = x.cells;
            lists = x.lists ∙ ap (λ cs. cs ++ u.used) (rest.quiet (arm false r) not_taken);
            listed = x.listed ∙ ap (λ ns. ns ++ u.hits) (rest.silent (arm false r) not_taken);
          });
    }

good_if : (m : Model) (types : List Ty) (e : Expression) (xs ys : List Statement) → GoodAll m types xs → GoodAll m types ys → Good m types (If e xs ys)
good_if m types e xs ys f g p q h = if_finds m types e xs ys f g (is_true m types p.cells e) p q refl (sym (runs_if m types e xs ys p) ∙ h)

none_good : (m : Model) (types : List Ty) → GoodAll m types []
unfolding drawn in_order in_turn total
none_good m types p q h =
    let i = some_is p q h in
    record {
      frees = [];
      count = refl;
      used = [];
      others = [];
      hits = [];
      left = left_is i;
      more = others_is i;
      sites = sym (sites_is i) ∙ sym (append-nil p.sites);
      ways = λ list r a c g t. record { goes = g; cells = c ∙ cells_is i; lists = sym (append-nil r.chosen); listed = sym (append-nil r.sites) };
    }

record Between (f : Execution) (o : Option Placed) (q : Placed) : Type 0 where
  pub mid : Placed
  pub first : o ≡ Some mid
  pub then_to : f mid ≡ Some q

between : (f : Execution) (o : Option Placed) (q : Placed) → option_and_then f o ≡ Some q → Between f o q
between f None q h = cc
between f (Some mid) q h = record { mid = mid; first = refl; then_to = h }

more_good : (m : Model) (types : List Ty) (x : Statement) (xs : List Statement) → Good m types x → GoodAll m types xs → GoodAll m types (x ∷ xs)
unfolding drawn in_order in_turn total
more_good m types x xs f g p q h =
    let b = between (in_turn (map (runs m types) xs)) (runs m types x p) q h in
    let u = f p b.mid b.first in
    let w = g b.mid q b.then_to in
    record {
      frees = u.frees ++ w.frees;
      count = omega (arith, length-append u.frees w.frees, u.count, w.count);
      used = u.used ++ w.used;
      others = u.others ++ w.others;
      hits = u.hits ++ w.hits;
      left = u.left ∙ ap (λ l. u.used ++ l) w.left ∙ sym (append_assoc u.used w.used q.left);
      more = u.more ∙ ap (λ l. u.others ++ l) w.more ∙ sym (append_assoc u.others w.others q.others);
      sites = w.sites ∙ ap (λ ns. ns ++ w.hits) u.sites ∙ append_assoc p.sites u.hits w.hits;
      ways = λ list r a c v t.
          let y = u.ways list r (front_stands list r.next u.frees w.frees a) c v t in
          let mid = go m types list x r in
          let z = w.ways list mid (back_stands list r.next mid.next u.frees w.frees (omega (arith, statement_next m types x list r, u.count)) a) y.cells y.goes ((statement_chooses m types list x).keeps r ∙ t) in
          record {
            goes = z.goes;
            cells = z.cells;
            lists = z.lists ∙ ap (λ cs. cs ++ w.used) y.lists ∙ append_assoc r.chosen u.used w.used;
            listed = z.listed ∙ ap (λ ns. ns ++ w.hits) y.listed ∙ append_assoc r.sites u.hits w.hits;
          };
    }

abbrev Proved : Model → List Ty → Type 0
Proved m types = (x : Statement) × Good m types x

all_good : (m : Model) (types : List Ty) (ps : List (Proved m types)) → GoodAll m types (map (λ p. p.0) ps)
all_good m types [] = none_good m types
all_good m types (p ∷ ps) = more_good m types p.0 (map (λ q. q.0) ps) p.1 (all_good m types ps)

cases : (m : Model) (types : List Ty) (y : Statement-F (Proved m types)) → Good m types (roll-Statement (map-Statement (Proved m types) Statement (λ p. p.0) y))
cases m types (AssignForm k e) = subst (Good m types) (sym (rolls-Assign k e)) (good_assign m types k e)
cases m types (HavocForm k listed) = subst (Good m types) (sym (rolls-Havoc k listed)) (good_havoc m types k listed)
cases m types (AssumeForm e) = subst (Good m types) (sym (rolls-Assume e)) (good_assume m types e)
cases m types (AssertForm site e) = subst (Good m types) (sym (rolls-Assert site e)) (good_assert m types site e)
cases m types (IfForm e ps qs) =
    subst (Good m types) (sym (rolls-If e (map (λ p. p.0) ps) (map (λ p. p.0) qs))) (good_if m types e (map (λ p. p.0) ps) (map (λ p. p.0) qs) (all_good m types ps) (all_good m types qs))

statement_finds : (m : Model) (types : List Ty) (x : Statement) → Good m types x
statement_finds m types = ind-Statement (Good m types) (λ x y is. subst (λ w. Good m types (roll-Statement w)) is (cases m types y))

code_finds : (m : Model) (types : List Ty) (xs : List Statement) → GoodAll m types xs
code_finds m types [] = none_good m types
code_finds m types (x ∷ xs) = more_good m types x xs (statement_finds m types x) (code_finds m types xs)

-- where code runs on choices, there are free values, as many as it reads, on which it goes the same way wherever they stand
pub runs_drawn : (m : Model) (types : List Ty) (code : List Statement) (p q : Placed) → run_all m types code p ≡ Some q → Finds (λ frees. drawn m types frees code) (all_draws code) p q
unfolding run_all
runs_drawn m types code p q h = code_finds m types code p q h
