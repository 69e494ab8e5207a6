-- Where code goes on free values, it runs on the choices that it lists.
use Rattle.std.proofs.Common.{◌≡◌, ℕ, List, [], ◌∷◌, ◌++◌, map, Some, None, refl, sym, ap, ◌∙◌, subst, slice_get, slice_set, append-nil, append_assoc}
use Rattle.std.specs.Prelude.{Bool as Truth, true, false, not, ◌&&◌, if◌then◌else◌}
use Rattle.std.specs.Option.{option_and_then, option_map}
use Rattle.uc_values.specs.declared.ty.Ty.{Ty}
use Rattle.uc_values.specs.declared.value.Value.{Value}
use Rattle.uc_values.specs.Values.{fits}
use Rattle.uc_values.proofs.Shapes.{and_true}
use Rattle.uc_ops.specs.declared.model.Model.{Model}
use Rattle.uc_ops.specs.Typing.{Valid, part_type, type_or}
use Rattle.uc_ops.proofs.Fitting.{fitting-fits}
use Rattle.uc_flat.specs.declared.expression.Expression.{Expression}
use Rattle.uc_flat.specs.declared.statement.Statement.{Statement}
use Rattle.uc_flat.specs.declared.statement.Statement.TheOpen.{Statement-F}
use Rattle.uc_flat.specs.declared.statement.Statement.TheOpen.Statement-F.{Assign as AssignForm, Havoc as HavocForm, Assume as AssumeForm, Assert as AssertForm, If as IfForm}
use Rattle.uc_flat.specs.declared.statement.Statement.TheViews.{roll-Statement}
use Rattle.uc_flat.specs.declared.statement.Statement.TheVariants.{Assign, Havoc, Assume, Assert, If, rolls-Assign, rolls-Havoc, rolls-Assume, rolls-Assert, rolls-If}
use Rattle.uc_flat.specs.declared.statement.Statement.TheFolds.{ind-Statement, map-Statement}
use Rattle.uc_flat.specs.Reading.{value_of, is_true}
use Rattle.uc_flat.specs.Drawn.{Drawn, assigns, assumes, asserts, takes, free, listed_if, go, drawn, in_order, arm, other_arm, either_arm}
use Rattle.uc_flat.specs.Fine.{AreFine}
use Rattle.uc_flat.specs.Running.{Placed, Execution, in_turn, next_of, with_choice, with_other, runs, run_all}
use Rattle.uc_flat.specs.Laws.{Uses}
use Rattle.uc_flat.proofs.Forms.{go_assign, go_havoc, go_assume, go_assert, go_if, runs_assign, runs_havoc, runs_assume, runs_assert, runs_if}
use Rattle.uc_flat.proofs.Inside.{fine_within, one_inside, contains_first, one_of, rest_of, first_of, second_of}

abbrev pub place : List Value → List Value → List Value → List ℕ → Placed
place cells left others sites = record { cells = cells; left = left; others = others; sites = sites }

pub record Chooses (types : List Ty) (step : Drawn → Drawn) (code : List Statement) (run : Execution) : Type 0 where
  pub keeps : (r : Drawn) → (step r).taken ≡ r.taken
  pub quiet : (r : Drawn) → r.taken ≡ false → (step r).chosen ≡ r.chosen
  pub silent : (r : Drawn) → r.taken ≡ false → (step r).sites ≡ r.sites
  pub uses : (r : Drawn) → AreFine types code → r.taken ≡ true → (step r).goes ≡ true → Uses run r (step r)

abbrev Good : Model → List Ty → List Value → Statement → Type 0
Good m types frees x = Chooses types (go m types frees x) (x ∷ []) (runs m types x)

-- the same for what is equal at each place
good_as : (m : Model) (types : List Ty) (frees : List Value) (x : Statement) (f : Drawn → Drawn) → ((r : Drawn) → go m types frees x r ≡ f r) → Chooses types f (x ∷ []) (runs m types x) → Good m types frees x
good_as m types frees x f e a = record {
  keeps = λ r. ap (λ (d : Drawn). d.taken) (e r) ∙ a.keeps r;
  quiet = λ r t. ap (λ (d : Drawn). d.chosen) (e r) ∙ a.quiet r t;
  silent = λ r t. ap (λ (d : Drawn). d.sites) (e r) ∙ a.silent r t;
  uses = λ r h t g. subst (Uses (runs m types x) r) (sym (e r)) (a.uses r h t (ap (λ (d : Drawn). d.goes) (sym (e r)) ∙ g));
}

-- nothing is listed
at_once : (cells : List Value) (left more : List Value) (sites : List ℕ) → Some (place cells left more sites) ≡ Some (place cells left more (sites ++ []))
at_once cells left more sites = ap (λ ns. Some (place cells left more ns)) (sym (append-nil sites))

good_assign : (m : Model) (types : List Ty) (frees : List Value) (k : ℕ) (e : Expression) → Good m types frees (Assign k e)
good_assign m types frees k e = good_as m types frees (Assign k e) (assigns m types k e) (go_assign m types frees k e) (record {
  keeps = λ r. refl;
  quiet = λ r t. refl;
  silent = λ r t. refl;
  uses = λ r h t g. record {
    went = g;
    used = [];
    others = [];
    hits = [];
    chosen = sym (append-nil r.chosen);
    listed = sym (append-nil r.sites);
    ends = λ left more sites. runs_assign m types k e (place r.cells left more sites) ∙ at_once (slice_set r.cells k (value_of m types r.cells e)) left more sites;
  };
})

good_assume : (m : Model) (types : List Ty) (frees : List Value) (e : Expression) → Good m types frees (Assume e)
good_assume m types frees e = good_as m types frees (Assume e) (assumes m types e) (go_assume m types frees e) (record {
  keeps = λ r. refl;
  quiet = λ r t. refl;
  silent = λ r t. refl;
  uses = λ r h t g.
      let b = and_true g in
      record {
        went = b.0;
        used = [];
        others = [];
        hits = [];
        chosen = sym (append-nil r.chosen);
        listed = sym (append-nil r.sites);
        ends = λ left more sites.
            runs_assume m types e (place r.cells left more sites)
            ∙ ap (λ c. if c then Some (place r.cells left more sites) else None) b.1
            ∙ at_once r.cells left more sites;
      };
})

good_assert : (m : Model) (types : List Ty) (frees : List Value) (site : ℕ) (e : Expression) → Good m types frees (Assert site e)
good_assert m types frees site e = good_as m types frees (Assert site e) (asserts m types site e) (go_assert m types frees site e) (record {
  keeps = λ r. refl;
  quiet = λ r t. refl;
  silent = λ r t. ap (λ b. r.sites ++ listed_if (b && not (is_true m types r.cells e)) site) t ∙ append-nil r.sites;
  uses = λ r h t g. record {
    went = g;
    used = [];
    others = [];
    hits = listed_if (not (is_true m types r.cells e)) site;
    chosen = sym (append-nil r.chosen);
    listed = ap (λ b. r.sites ++ listed_if (b && not (is_true m types r.cells e)) site) t;
    ends = λ left more sites. runs_assert m types site e (place r.cells left more sites);
  };
})

-- the type of a havocked cell is valid
pub havoc_valid : (types : List Ty) (k : ℕ) (ty : Ty) → slice_get types k ≡ Some ty → Valid ty → Valid (part_type types k)
havoc_valid types k ty i v = subst (λ o. Valid (type_or o)) (sym i) v

next_is : (ty : Ty) (v : Value) (rest : List Value) → fits ty v ≡ true → next_of ty (v ∷ rest) ≡ Some (v, rest)
next_is ty v rest h = ap (λ b. if b then Some (v, rest) else None) h

havoc_uses : (m : Model) (types : List Ty) (frees : List Value) (k : ℕ) (listed : Truth) (r : Drawn) → AreFine types (Havoc k listed ∷ []) → r.taken ≡ true → r.goes ≡ true
    → Uses (runs m types (Havoc k listed)) r (takes listed (free frees (part_type types k) r.next) k r)
havoc_uses m types frees k true r h t g =
    let ty = part_type types k in
    let v = free frees ty r.next in
    let w = h.havocs k true (one_inside (Havoc k true)) in
    let f = fitting-fits ty (slice_get frees r.next) (havoc_valid types k w.0 w.1 w.2) in
    record {
      went = g;
      used = v ∷ [];
      others = [];
      hits = [];
      chosen = ap (λ b. r.chosen ++ listed_if (b && true) v) t;
      listed = sym (append-nil r.sites);
      ends = λ left more sites.
          let p = place r.cells (v ∷ left) more sites in
          runs_havoc m types k true p ∙ ap (option_map (with_choice k p)) (next_is ty v left f) ∙ at_once (slice_set r.cells k v) left more sites;
    }
havoc_uses m types frees k false r h t g =
    let ty = part_type types k in
    let v = free frees ty r.next in
    let w = h.havocs k false (one_inside (Havoc k false)) in
    let f = fitting-fits ty (slice_get frees r.next) (havoc_valid types k w.0 w.1 w.2) in
    record {
      went = g;
      used = [];
      others = v ∷ [];
      hits = [];
      chosen = ap (λ b. r.chosen ++ listed_if (b && false) v) t;
      listed = sym (append-nil r.sites);
      ends = λ left more sites.
          let p = place r.cells left (v ∷ more) sites in
          runs_havoc m types k false p ∙ ap (option_map (with_other k p)) (next_is ty v more f) ∙ at_once (slice_set r.cells k v) left more sites;
    }

good_havoc : (m : Model) (types : List Ty) (frees : List Value) (k : ℕ) (listed : Truth) → Good m types frees (Havoc k listed)
good_havoc m types frees k listed =
    let ty = part_type types k in
    good_as m types frees (Havoc k listed) (λ r. takes listed (free frees ty r.next) k r) (go_havoc m types frees k listed) (record {
      keeps = λ r. refl;
      quiet = λ r t. ap (λ b. r.chosen ++ listed_if (b && listed) (free frees ty r.next)) t ∙ append-nil r.chosen;
      silent = λ r t. refl;
      uses = λ r h t g. havoc_uses m types frees k listed r h t g;
    })

abbrev GoodAll : Model → List Ty → List Value → List Statement → Type 0
GoodAll m types frees xs = Chooses types (drawn m types frees xs) xs (in_turn (map (runs m types) xs))

if_uses : (m : Model) (types : List Ty) (frees : List Value) (e : Expression) (xs ys : List Statement) → GoodAll m types frees xs → GoodAll m types frees ys
    → (c : Truth) (r : Drawn) → is_true m types r.cells e ≡ c → AreFine types xs → AreFine types ys → r.taken ≡ true
    → (either_arm c (drawn m types frees xs) (drawn m types frees ys) r).goes ≡ true
    → Uses (runs m types (If e xs ys)) r (either_arm c (drawn m types frees xs) (drawn m types frees ys) r)
if_uses m types frees e xs ys p q true r i h k t g =
    let first = drawn m types frees xs (arm true r) in
    let u = p.uses (arm true r) h (ap (λ b. b && true) t) g in
    let not_taken = ap (λ b. b && false) t in
    record {
      went = u.went;
      used = u.used;
      others = u.others;
      hits = u.hits;
      chosen = q.quiet (other_arm true r first) not_taken ∙ u.chosen;
      listed = q.silent (other_arm true r first) not_taken ∙ u.listed;
      ends = λ left more sites.
          let s = place r.cells (u.used ++ left) (u.others ++ more) sites in
          runs_if m types e xs ys s ∙ ap (λ b. in_turn (if b then map (runs m types) xs else map (runs m types) ys) s) i ∙ u.ends left more sites;
    }
if_uses m types frees e xs ys p q false r i h k t g =
    let first = drawn m types frees xs (arm false r) in
    let not_taken = ap (λ b. b && false) t in
    let u = q.uses (other_arm false r first) k (ap (λ b. b && true) t) g in
    record {
      went = u.went;
      used = u.used;
      others = u.others;
      hits = u.hits;
      chosen = u.chosen ∙ ap (λ cs. cs ++ u.used) (p.quiet (arm false r) not_taken);
      listed = u.listed ∙ ap (λ ns. ns ++ u.hits) (p.silent (arm false r) not_taken);
      ends = λ left more sites.
          let s = place r.cells (u.used ++ left) (u.others ++ more) sites in
          runs_if m types e xs ys s ∙ ap (λ b. in_turn (if b then map (runs m types) xs else map (runs m types) ys) s) i ∙ u.ends left more sites;
    }

good_if : (m : Model) (types : List Ty) (frees : List Value) (e : Expression) (xs ys : List Statement) → GoodAll m types frees xs → GoodAll m types frees ys → Good m types frees (If e xs ys)
good_if m types frees e xs ys p q = good_as m types frees (If e xs ys) (λ r. either_arm (is_true m types r.cells e) (drawn m types frees xs) (drawn m types frees ys) r) (go_if m types frees e xs ys) (record {
  keeps = λ r. refl;
  quiet = λ r t.
      let c = is_true m types r.cells e in
      let first = drawn m types frees xs (arm c r) in
      q.quiet (other_arm c r first) (ap (λ b. b && not c) t) ∙ p.quiet (arm c r) (ap (λ b. b && c) t);
  silent = λ r t.
      let c = is_true m types r.cells e in
      let first = drawn m types frees xs (arm c r) in
      q.silent (other_arm c r first) (ap (λ b. b && not c) t) ∙ p.silent (arm c r) (ap (λ b. b && c) t);
  uses = λ r h t g.
      if_uses m types frees e xs ys p q (is_true m types r.cells e) r refl (fine_within types xs (If e xs ys ∷ []) (first_of e xs ys) h) (fine_within types ys (If e xs ys ∷ []) (second_of e xs ys) h) t g;
})

none_good : (m : Model) (types : List Ty) (frees : List Value) → GoodAll m types frees []
unfolding drawn in_order in_turn
none_good m types frees = record {
  keeps = λ r. refl;
  quiet = λ r t. refl;
  silent = λ r t. refl;
  uses = λ r h t g. record {
    went = g;
    used = [];
    others = [];
    hits = [];
    chosen = sym (append-nil r.chosen);
    listed = sym (append-nil r.sites);
    ends = λ left more sites. at_once r.cells left more sites;
  };
}

more_good : (m : Model) (types : List Ty) (frees : List Value) (x : Statement) (xs : List Statement) → Good m types frees x → GoodAll m types frees xs → GoodAll m types frees (x ∷ xs)
unfolding drawn in_order in_turn
more_good m types frees x xs p q = record {
  keeps = λ r. q.keeps (go m types frees x r) ∙ p.keeps r;
  quiet = λ r t. q.quiet (go m types frees x r) (p.keeps r ∙ t) ∙ p.quiet r t;
  silent = λ r t. q.silent (go m types frees x r) (p.keeps r ∙ t) ∙ p.silent r t;
  uses = λ r h t g.
      let mid = go m types frees x r in
      let u = q.uses mid (fine_within types xs (x ∷ xs) (rest_of x xs) h) (p.keeps r ∙ t) g in
      let w = p.uses r (fine_within types (x ∷ []) (x ∷ xs) (one_of (x ∷ xs) x (contains_first x xs)) h) t u.went in
      record {
        went = w.went;
        used = w.used ++ u.used;
        others = w.others ++ u.others;
        hits = w.hits ++ u.hits;
        chosen = u.chosen ∙ ap (λ cs. cs ++ u.used) w.chosen ∙ append_assoc r.chosen w.used u.used;
        listed = u.listed ∙ ap (λ ns. ns ++ u.hits) w.listed ∙ append_assoc r.sites w.hits u.hits;
        ends = λ left more sites.
            ap (λ l. option_and_then (in_turn (map (runs m types) xs)) (runs m types x (place r.cells l ((w.others ++ u.others) ++ more) sites))) (append_assoc w.used u.used left)
            ∙ ap (λ l. option_and_then (in_turn (map (runs m types) xs)) (runs m types x (place r.cells (w.used ++ (u.used ++ left)) l sites))) (append_assoc w.others u.others more)
            ∙ ap (option_and_then (in_turn (map (runs m types) xs))) (w.ends (u.used ++ left) (u.others ++ more) sites)
            ∙ u.ends left more (sites ++ w.hits)
            ∙ ap (λ ns. Some (place (drawn m types frees xs mid).cells left more ns)) (append_assoc sites w.hits u.hits);
      };
}

abbrev Proved : Model → List Ty → List Value → Type 0
Proved m types frees = (x : Statement) × Good m types frees x

all_good : (m : Model) (types : List Ty) (frees : List Value) (ps : List (Proved m types frees)) → GoodAll m types frees (map (λ p. p.0) ps)
all_good m types frees [] = none_good m types frees
all_good m types frees (p ∷ ps) = more_good m types frees p.0 (map (λ q. q.0) ps) p.1 (all_good m types frees ps)

cases : (m : Model) (types : List Ty) (frees : List Value) (y : Statement-F (Proved m types frees)) → Good m types frees (roll-Statement (map-Statement (Proved m types frees) Statement (λ p. p.0) y))
cases m types frees (AssignForm k e) = subst (Good m types frees) (sym (rolls-Assign k e)) (good_assign m types frees k e)
cases m types frees (HavocForm k listed) = subst (Good m types frees) (sym (rolls-Havoc k listed)) (good_havoc m types frees k listed)
cases m types frees (AssumeForm e) = subst (Good m types frees) (sym (rolls-Assume e)) (good_assume m types frees e)
cases m types frees (AssertForm site e) = subst (Good m types frees) (sym (rolls-Assert site e)) (good_assert m types frees site e)
cases m types frees (IfForm e ps qs) =
    subst (Good m types frees) (sym (rolls-If e (map (λ p. p.0) ps) (map (λ p. p.0) qs))) (good_if m types frees e (map (λ p. p.0) ps) (map (λ p. p.0) qs) (all_good m types frees ps) (all_good m types frees qs))

pub statement_chooses : (m : Model) (types : List Ty) (frees : List Value) (x : Statement) → Good m types frees x
statement_chooses m types frees = ind-Statement (Good m types frees) (λ x y is. subst (λ w. Good m types frees (roll-Statement w)) is (cases m types frees y))

pub code_chooses : (m : Model) (types : List Ty) (frees : List Value) (xs : List Statement) → GoodAll m types frees xs
code_chooses m types frees [] = none_good m types frees
code_chooses m types frees (x ∷ xs) = more_good m types frees x xs (statement_chooses m types frees x) (code_chooses m types frees xs)

-- where code goes, it runs on the choices that it lists, whatever follows them
pub drawn_runs : (m : Model) (types : List Ty) (frees : List Value) (code : List Statement) (r : Drawn) → AreFine types code → r.taken ≡ true → (drawn m types frees code r).goes ≡ true
    → Uses (run_all m types code) r (drawn m types frees code r)
unfolding run_all
drawn_runs m types frees code r h t g = (code_chooses m types frees code).uses r h t g
