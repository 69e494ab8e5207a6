-- Code is as large as its pieces.
use Rattle.std.proofs.Common.{◌≡◌, ℕ, zero, suc, ◌+◌, ◌*◌, ◌<◌, ◌≤◌, Bool, true, false, List, [], ◌∷◌, map, refl, ap, ◌∙◌, sym, subst, arith}
use Rattle.std.specs.Prelude.{nat_lt, ◌||◌, min, if◌then◌else◌, Result, Ok, Err}
use Rattle.std.proofs.lemmas.Bool.Decides.{nat_tests}
use Rattle.uc_syntax.specs.declared.statement.Stmt.{Stmt}
use Rattle.uc_meaning.specs.Lookup.{System}
use Rattle.uc_order_rules.specs.Sizes.{Size, most_nodes, most_statements, plus, size, size_by, size_through, sum, times, total}
use Rattle.uc_sizes.specs.declared.pieces.Repeated.{Repeated}
use Rattle.uc_sizes.specs.Pieces.{AreOf, Setting, cut, most, piece_size, repeated_amount, weight}
use Rattle.uc_sizes.specs.declared.spent.Halt.{Halt}
use Rattle.uc_sizes.specs.declared.spent.Halt.TheVariants.{TooLarge, NoMemory}
use Rattle.uc_sizes.specs.Spending.{Outcome, Spends, exceeds}
use Rattle.uc_sizes.proofs.Spending.{below_is, low_is, or_lift, or_none, outcome_two}
use Rattle.uc_sizes.specs.Levels.{at_level, pieces_size}

abbrev with_nodes : Setting → Bool → Setting
with_nodes c b = record { system = c.system; blocks = c.blocks; path = c.path; of_nodes = b }

abbrev of : Bool → Size → ℕ
of b s = if b then s.nodes else s.statements

of_plus : (b : Bool) (x y : Size) → of b (plus x y) ≡ of b x + of b y
of_plus true x y = refl
of_plus false x y = refl

of_times : (b : Bool) (n : ℕ) (x : Size) → of b (times n x) ≡ n * of b x
of_times true n x = refl
of_times false n x = refl

of_none : (b : Bool) → of b (size 0 0) ≡ 0
of_none true = refl
of_none false = refl

of_pieces : (c : Setting) (b : Bool) (ps : List Repeated) → of b (pieces_size c ps) ≡ weight (with_nodes c b) ps
unfolding sum
of_pieces c b [] = of_none b
of_pieces c b (r ∷ ps) =
    of_plus b (times r.times (piece_size c r.piece)) (pieces_size c ps) ∙ (λ k. of_times b r.times (piece_size c r.piece) k + of_pieces c b ps k)

alike : (s : System) (n : ℕ) (path : List ℕ) (ps : List Repeated) (code : List Stmt) → AreOf ps code → (b : Bool) → cut (of b (pieces_size (at_level s n path) ps)) ≡ cut (of b (size_through (suc n) s path code))
unfolding size_through
alike s n path ps code are b = ap cut (of_pieces (at_level s n path) b ps) ∙ are.same (with_nodes (at_level s n path) b)

lt_is : (m n : ℕ) → nat_lt m n ≡ true → m < n
lt_is m n h = grind (arith, nat_tests)

lt_alike : (m o p x : ℕ) → m < most → cut p ≡ cut x → nat_lt m (o + p) ≡ true → nat_lt m (o + x) ≡ true
lt_alike m o p x low same h = let l = lt_is m (o + p) h in below_is m (o + x) (omega (arith, low, same, l))

outcome_alike : (old new p x : Size) (r : Result (Unit {0}) Halt) → cut p.statements ≡ cut x.statements → cut p.nodes ≡ cut x.nodes → Outcome old new r p → Outcome old new r x
outcome_alike old new p x (Ok u) first second h =
    let low = or_none (nat_lt most_statements new.statements) (nat_lt most_nodes new.nodes) h.1 in
    let s-low : new.statements ≤ most_statements = low_is most_statements new.statements low.0 in
    let n-low : new.nodes ≤ most_nodes = low_is most_nodes new.nodes low.1 in
    let s-is : new.statements ≡ old.statements + p.statements = ap (λ y. y.statements) h.0 in
    let n-is : new.nodes ≡ old.nodes + p.nodes = ap (λ y. y.nodes) h.0 in
    let s-same : p.statements ≡ x.statements = omega (arith, first, s-low, s-is) in
    let n-same : p.nodes ≡ x.nodes = omega (arith, second, n-low, n-is) in
    (h.0 ∙ (λ k. plus old (size (s-same k) (n-same k))), h.1)
outcome_alike old new p x (Err TooLarge) first second h =
    or_lift (nat_lt most_statements (old.statements + p.statements)) (nat_lt most_nodes (old.nodes + p.nodes)) (nat_lt most_statements (old.statements + x.statements)) (nat_lt most_nodes (old.nodes + x.nodes))
    (lt_alike most_statements old.statements p.statements x.statements (omega arith) first) (lt_alike most_nodes old.nodes p.nodes x.nodes (omega arith) second) h
outcome_alike old new p x (Err NoMemory) first second h = tt

pub code_spent : (old new : Size) (r : Result (Unit {0}) Halt) (s : System) (n m : ℕ) (path : List ℕ) (ps shown : List Repeated) (code : List Stmt) → n ≡ suc m → AreOf ps code → shown ≡ ps →
    Spends old new r (pieces_size (at_level s m path) shown) → Spends old new r (size_through n s path code)
unfolding Spends
code_spent old new r s n m path ps shown code some are same h within =
    let is : AreOf shown code = subst (λ xs. AreOf xs code) (sym same) are in
    subst (λ k. Outcome old new r (size_through k s path code)) (sym some)
    (outcome_alike old new (pieces_size (at_level s m path) shown) (size_through (suc m) s path code) r (alike s m path shown code is false) (alike s m path shown code is true) (h within))

-- A piece that is run through so often.

again : (t : ℕ) (p : Size) → times (suc t) p ≡ plus p (times t p)
again t p = (λ k. size (more t p.statements k) (more t p.nodes k))
  where
    more : (x y : ℕ) → suc x * y ≡ y + x * y
    more x y = omega arith

pub again_is : (n t : ℕ) (p : Size) → n ≡ suc t → times n p ≡ plus p (times t p)
again_is n t p is = ap (λ k. times k p) is ∙ again t p

pub repeated_spent : (old mid new p : Size) (u : Unit {0}) (r : Result (Unit {0}) Halt) (n t : ℕ) → n ≡ suc t → Spends old mid (Ok u) p → ((part : Size) → mid ≡ plus old part → Spends mid new r (times t part)) → Spends old new r (times n p)
unfolding Spends
repeated_spent old mid new p u r n t is first second within =
    let x : Outcome old mid (Ok u) p = first within in
    subst (λ w. Outcome old new r w) (sym (again_is n t p is)) (outcome_two old mid new p (times t p) r x.0 (second p x.0 x.1))

pub never_is : (n : ℕ) (p : Size) → n ≡ 0 → times n p ≡ size 0 0
never_is n p is = ap (λ k. times k p) is ∙ (λ k. size (none p.statements k) (none p.nodes k))
  where
    none : (x : ℕ) → 0 * x ≡ 0
    none x = omega arith
