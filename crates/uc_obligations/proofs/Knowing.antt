-- Known terms of axioms, goals and states, over simplified terms.
use Rattle.std.proofs.Common.{◌≡◌, ℕ, ◌+◌, ◌<◌, List, [], ◌∷◌, ◌++◌, length, Some, refl, sym, ap, ◌∙◌, subst, arith, get_or, slice_get, zero, suc, append-nil, append_assoc, add-one, map, slice_index}
use Rattle.std.specs.Prelude.{All, Contains}
use Rattle.std.specs.Option.{option_map}
use Rattle.std.proofs.lemmas.List.Elements.{All-head, All-tail, All-nil, All-cons, All-contains, All-weaker}
use Rattle.std.proofs.lemmas.Option.{get_or_from_slice_get}
use Rattle.uc_values.specs.declared.ty.Ty.{Ty}
use Rattle.uc_ops.specs.declared.op.Op.TheVariants.{Symbol}
use Rattle.uc_ops.specs.declared.node.Node.{Node}
use Rattle.uc_ops.proofs.Lists.{at_place}
use Rattle.uc_terms.specs.Tables.{HasOp, WellTyped, parts_at}
use Rattle.uc_terms.specs.Subterms.{IsSubterm, itself, deeper}
use Rattle.uc_terms.proofs.Grown.{parts-node}
use Rattle.uc_simplify.specs.Features.{symbol, Brings, BringsNoMore}
use Rattle.uc_simplify.specs.Walking.{AllAnswered}
use Rattle.uc_flat.specs.declared.expression.Expression.{Expression}
use Rattle.uc_flat.specs.declared.statement.Statement.{Statement}
use Rattle.uc_flat.specs.declared.flat.Flat.{Flat}
use Rattle.uc_flat.specs.declared.flat.Formula.{Formula}
use Rattle.uc_flat.specs.Fine.{ReadsBelow, CodeReadsBelow, ReadsTyped}
use Rattle.uc_flat.specs.Flats.{cell_types, init_types, IsSound, IsFormula}
use Rattle.uc_flat_copies.specs.declared.trace.Start.{Start}
use Rattle.uc_flat_copies.specs.declared.trace.Start.TheVariants.{Initially, Anywhere}
use Rattle.uc_symstep.specs.declared.state.SymState.{SymState}
use Rattle.uc_symstep.specs.Growing.{Grows}
use Rattle.uc_symstep.specs.Unrolled.{IsSeen}
use Rattle.uc_symstep.specs.Known.{IsKnown, known, CodeReadsTyped, constants_typed, draw_types, step_types, supply_at, supply_from, ReadsOwnTypes, KnowsState}
use Rattle.uc_symstep.proofs.Known.{known_grows, all_known_grow, known_later, code_reads_more}
use Rattle.uc_symstep.proofs.Grown.{grows_on}
use Rattle.uc_obligations.specs.declared.unrolling.Unrolling.{Unrolling}
use Rattle.uc_obligations.specs.Unrolling.{AllReadTyped, KnowsLast, IsUnrolled}
use Rattle.uc_obligations.proofs.KnownTerms.{parts_before, subterm_there, symbol_below}

-- Simplified terms.

-- each symbol at or below a term has its type in the supply
abbrev Supplied : List Ty → List Node → ℕ → Type 0
Supplied supply nodes t = (k number : ℕ) (ty : Ty) → IsSubterm nodes t k → HasOp nodes k (Symbol number ty) → slice_get supply number ≡ Some ty

module _ (supply : List Ty) (nodes : List Node) (w : WellTyped nodes) (goal : ℕ) (there : goal < length nodes) (h : Supplied supply nodes goal) where
  known_within : (bound t : ℕ) → t < bound → IsSubterm nodes goal t → IsKnown supply nodes t
  known_within zero t l s = absurd (omega (arith, l))
  known_within (suc bound) t l s =
      let inside = subterm_there nodes goal t w there s in
      let node = at_place nodes t inside in
      known t node.0 node.1 (λ number ty e. h t number ty s (ap (option_map (λ (n : Node). n.op)) node.1 ∙ ap Some e))
      (λ p c.
      let d : Contains (parts_at nodes t) p = subst (λ ps. Contains ps p) (sym (parts-node nodes t node.0 node.1)) c in
      let before : p < t = All-contains (λ q. q < t) (parts_at nodes t) p (parts_before nodes t w inside) d in
      known_within bound p (omega (arith, l, before)) (deeper t p s d))

  -- where this holds, the term is known
  known_so : IsKnown supply nodes goal
  known_so = known_within (goal + 1) goal (omega arith) itself

brought : (supply : List Ty) (nodes : List Node) (t number : ℕ) (ty : Ty) → IsKnown supply nodes t → Brings nodes t (symbol number ty) → slice_get supply number ≡ Some ty
brought supply nodes t number ty h b = symbol_below supply nodes t b.place number ty h b.below (ap (option_map (λ (n : Node). n.op)) b.bears.there ∙ ap Some b.bears.shows)

-- a term that brings no more than a known one is known
pub simpler_known : (supply : List Ty) (old new : List Node) (t u : ℕ) → WellTyped new → u < length new → BringsNoMore new u old t → IsKnown supply old t → IsKnown supply new u
simpler_known supply old new t u w there no_more h = known_so supply new w u there (λ k number ty s has.
    let node = at_place new k (subterm_there new u k w there s) in
    brought supply old t number ty h (no_more (symbol number ty) (record { place = k; below = s; bears = record { node = node.0; there = node.1; shows = op_at k node.0 node.1 number ty has } })))
  where
    op_at : (k : ℕ) (node : Node) → slice_get new k ≡ Some node → (number : ℕ) (ty : Ty) → HasOp new k (Symbol number ty) → node.op ≡ Symbol number ty
    op_at k node at number ty has = let e : Some node.op ≡ Some (Symbol number ty) = sym (ap (option_map (λ (n : Node). n.op)) at) ∙ has in cc

known_answers : (supply : List Ty) (old new : List Node) (answers ts : List ℕ) → WellTyped new → AllAnswered old new answers (length old) → All (λ t. t < length old) ts → All (IsKnown supply old) ts → All (IsKnown supply new) (map (slice_index answers) ts)
known_answers supply old new answers [] w a l h = All-nil (IsKnown supply new)
known_answers supply old new answers (t ∷ ts) w a l h =
    let s = a.each t (All-head (λ t. t < length old) t ts l) in
    All-cons (IsKnown supply new) (slice_index answers t) (map (slice_index answers) ts) (simpler_known supply old new t (slice_index answers t) w s.there s.features (All-head (IsKnown supply old) t ts h))
    (known_answers supply old new answers ts w a (All-tail (λ t. t < length old) t ts l) (All-tail (IsKnown supply old) t ts h))

-- a state over simplified terms knows what it knew
pub state_known : (supply : List Ty) (old new : List Node) (types : List Ty) (s : SymState) (answers own cells : List ℕ) (path next : ℕ) → WellTyped new → AllAnswered old new answers (length old) → IsSeen old types s
    → own ≡ s.cells → cells ≡ map (slice_index answers) own → path ≡ slice_index answers s.path
    → KnowsState supply old s next → KnowsState supply new (record { cells = cells; path = path; sites = s.sites; choices = s.choices }) next
state_known supply old new types s answers own cells path next w a seen i e p h =
    let b = a.each s.path seen.path.there in
    record {
      cells = subst (All (IsKnown supply new)) (sym (e ∙ ap (map (slice_index answers)) i)) (known_answers supply old new answers s.cells w a seen.cells.there h.cells);
      path = subst (IsKnown supply new) (sym p) (simpler_known supply old new s.path (slice_index answers s.path) w b.there b.features h.path);
      next = h.next;
    }

pub one_state_known : (supply : List Ty) (nodes : List Node) (s : SymState) (states : List SymState) (next : ℕ) → states ≡ s ∷ [] → KnowsState supply nodes s next → All (λ (x : SymState). All (IsKnown supply nodes) x.cells) states
one_state_known supply nodes s states next i a =
    let P : SymState → Type 0 = λ x. All (IsKnown supply nodes) x.cells in
    subst (All P) (sym i) (All-cons P s [] a.cells (All-nil P))

-- The constants come first in each supply.

got_front : {A : Type 0} (xs ys : List A) (k : ℕ) (x : A) → slice_get xs k ≡ Some x → slice_get (xs ++ ys) k ≡ Some x
got_front [] ys k x h = cc
got_front (y ∷ xs) ys zero x h = h
got_front (y ∷ xs) ys (suc k) x h = got_front xs ys k x h

pub supply_next : (f : Flat) (start : Start) (n : ℕ) → supply_from f start (suc n) ≡ supply_from f start n ++ step_types f
unfolding supply_from
supply_next f start n = refl

first_begins : (f : Flat) (start : Start) → (more : List Ty) × (supply_at f start ≡ constants_typed f ++ more)
first_begins f Initially = (cell_types f ++ draw_types (init_types f) f.init, append_assoc (constants_typed f) (cell_types f) (draw_types (init_types f) f.init))
first_begins f Anywhere = (cell_types f, refl)

pub supply_begins : (f : Flat) (start : Start) (n : ℕ) → (more : List Ty) × (supply_from f start n ≡ constants_typed f ++ more)
unfolding supply_from
supply_begins f start zero = first_begins f start
supply_begins f start (suc n) =
    let r = supply_begins f start n in
    (r.0 ++ step_types f, ap (λ ts. ts ++ step_types f) r.1 ∙ append_assoc (constants_typed f) r.0 (step_types f))

pub formulas_read : (f : Flat) (start : Start) (n : ℕ) → ReadsOwnTypes f → AllReadTyped (supply_from f start n) f.formulas
formulas_read f start n r =
    let b = supply_begins f start n in
    let P : Formula → Type 0 = λ x. ReadsTyped (constants_typed f) x.condition in
    let Q : Formula → Type 0 = λ x. ReadsTyped (supply_from f start n) x.condition in
    All-weaker P Q (λ x h number ty ps d. ap (λ ts. slice_get ts number) b.1 ∙ got_front (constants_typed f) b.0 number ty (h number ty ps d)) f.formulas r.formulas

pub step_reads : (f : Flat) (start : Start) (n : ℕ) → ReadsOwnTypes f → CodeReadsTyped (supply_from f start n) f.step
step_reads f start n r = let b = supply_begins f start n in subst (λ ts. CodeReadsTyped ts f.step) (sym b.1) (code_reads_more (constants_typed f) b.0 f.step r.step)

-- The states after so many steps.

-- a supply knows what the first supply knows
pub later_supply : (f : Flat) (start : Start) (n : ℕ) (nodes : List Node) (t : ℕ) → IsKnown (supply_from f start n) nodes t → IsKnown (supply_from f start (n + 1)) nodes t
later_supply f start n nodes t h =
    let next : supply_from f start n ++ step_types f ≡ supply_from f start (n + 1) = sym (supply_next f start n) ∙ ap (supply_from f start) (sym (add-one n)) in
    subst (λ ts. IsKnown ts nodes t) next (known_later (supply_from f start n) (step_types f) nodes nodes (record { more = []; is = sym (append-nil nodes) }) t h)

one_last : (t s : SymState) (states : List SymState) → states ≡ t ∷ [] → slice_get states 0 ≡ Some s → t ≡ s
one_last t s states i at = let e : Some t ≡ Some s = sym (ap (λ ss. slice_get ss 0) i) ∙ at in cc

pub begun_known : (f : Flat) (start : Start) (mid a b c : List Node) (assumed axioms first next : ℕ) (s t : SymState) (states : List SymState) → Grows mid a → Grows a b → Grows b c → first ≡ length f.constants
    → ((supply : List Ty) → IsKnown supply mid assumed)
    → ((supply : List Ty) → AllReadTyped supply f.formulas → IsKnown supply a axioms)
    → (ReadsOwnTypes f → first ≡ length f.constants → KnowsState (supply_from f start 0) b s next)
    → ((supply : List Ty) (k : ℕ) → KnowsState supply b s k → KnowsState supply c t k) → states ≡ t ∷ []
    → ReadsOwnTypes f → KnowsLast f c 0 (record { start = start; axioms = axioms; assumed = assumed; states = states; fresh = record { next = next } })
begun_known f start mid a b c assumed axioms first next s t states e g h i z p q simpler j r =
    let supply = supply_from f start 0 in
    record {
      axioms = known_grows supply a c (grows_on a b c g h) axioms (p supply (formulas_read f start 0 r));
      assumed = known_grows supply mid c (grows_on mid a c e (grows_on a b c g h)) assumed (z supply);
      last = λ u at. subst (λ v. KnowsState supply c v next) (one_last t u states j at) (simpler supply next (q r i));
    }

last_of : (run more : List SymState) (n : ℕ) (t s : SymState) → length run ≡ n + 1 → more ≡ run ++ t ∷ [] → slice_get more (n + 1) ≡ Some s → t ≡ s
last_of run more n t s count i at = let e : Some t ≡ Some s = sym (ap (λ ss. slice_get ss (n + 1)) i ∙ at_end run (n + 1) (sym count)) ∙ at in cc
  where
    at_end : (xs : List SymState) (k : ℕ) → k ≡ length xs → slice_get (xs ++ t ∷ []) k ≡ Some t
    at_end xs k l = ap (slice_get (xs ++ t ∷ [])) l ∙ ends xs
      where
        ends : (ys : List SymState) → slice_get (ys ++ t ∷ []) (length ys) ≡ Some t
        ends [] = refl
        ends (y ∷ ys) = ends ys

state_at : (xs : List SymState) (k : ℕ) (x : SymState) → k < length xs → x ≡ get_or xs k x → slice_get xs k ≡ Some x
state_at [] k x l q = absurd (omega (arith, l))
state_at (y ∷ xs) zero x l q = ap Some (sym q)
state_at (y ∷ xs) (suc k) x l q = state_at xs k x (omega (arith, l)) q

-- the last state is known
last_known : (f : Flat) (now : List Node) (n : ℕ) (u : Unrolling) (run : List SymState) (s : SymState) → IsUnrolled f now n u → run ≡ u.states → s ≡ get_or run n s → ReadsOwnTypes f → KnowsState (supply_from f u.start n) now s u.fresh.next
last_known f now n u run s h i j reads = (h.known reads).last s (state_at u.states n s (omega (arith, h.run.states.count)) (j ∙ ap (λ ss. get_or ss n s) i))

pub known_state_grows : (supply : List Ty) (now new : List Node) (s : SymState) (next : ℕ) → Grows now new → KnowsState supply now s next → KnowsState supply new s next
known_state_grows supply now new s next g a = record { cells = all_known_grow supply now new g s.cells a.cells; path = known_grows supply now new g s.path a.path; next = a.next }

pub advanced_known : (f : Flat) (now mid b c : List Node) (n next assumed : ℕ) (u : Unrolling) (run more : List SymState) (r s t : SymState) → IsUnrolled f now n u → run ≡ u.states → r ≡ get_or run n r → Grows now mid → Grows mid b → Grows b c
    → ((supply : List Ty) (k : ℕ) → AllReadTyped supply f.formulas → IsKnown supply now u.assumed → KnowsState supply now r k → IsKnown supply mid assumed)
    → ((supply : List Ty) → CodeReadsTyped supply f.step → KnowsState supply mid r u.fresh.next → KnowsState (supply ++ step_types f) b s next)
    → ((supply : List Ty) (k : ℕ) → KnowsState supply b s k → KnowsState supply c t k) → more ≡ u.states ++ t ∷ []
    → ReadsOwnTypes f → KnowsLast f c (n + 1) (record { start = u.start; axioms = u.axioms; assumed = assumed; states = more; fresh = record { next = next } })
advanced_known f now mid b c n next assumed u run more r s t h i j gm g g' suppose step simpler e reads =
    let k = h.known reads in
    let supply = supply_from f u.start n in
    let before : KnowsState supply now r u.fresh.next = last_known f now n u run r h i j reads in
    let stepped : KnowsState (supply ++ step_types f) b s next = step supply (step_reads f u.start n reads) (known_state_grows supply now mid r u.fresh.next gm before) in
    let all : supply ++ step_types f ≡ supply_from f u.start (n + 1) = sym (supply_next f u.start n) ∙ ap (supply_from f u.start) (sym (add-one n)) in
    let on = grows_on mid b c g g' in
    record {
      axioms = known_grows (supply_from f u.start (n + 1)) now c (grows_on now mid c gm on) u.axioms (later_supply f u.start n now u.axioms k.axioms);
      assumed = known_grows (supply_from f u.start (n + 1)) mid c on assumed (later_supply f u.start n mid assumed (suppose supply u.fresh.next (formulas_read f u.start n reads) k.assumed before));
      last = λ v there. subst (λ x. KnowsState (supply_from f u.start (n + 1)) c x next) (last_of u.states more n t v h.run.states.count e there)
          (simpler (supply_from f u.start (n + 1)) next (subst (λ ts. KnowsState ts b s next) all stepped));
    }

pub last_grows : (f : Flat) (now new : List Node) (n : ℕ) (u : Unrolling) → Grows now new → KnowsLast f now n u → KnowsLast f new n u
last_grows f now new n u g k =
    let supply = supply_from f u.start n in
    record {
      axioms = known_grows supply now new g u.axioms k.axioms;
      assumed = known_grows supply now new g u.assumed k.assumed;
      last = λ s at. known_state_grows supply now new s u.fresh.next g (k.last s at);
    }

-- what is assumed of one formula more
pub supposed_known : (supply : List Ty) (now mid new : List Node) (s : SymState) (all next : ℕ) → Grows now mid → KnowsState supply now s next → (KnowsState supply mid s next → IsKnown supply new all) → IsKnown supply new all
supposed_known supply now mid new s all next g k h = h (known_state_grows supply now mid s next g k)

-- Goals.

pub goal_known : (f : Flat) (now new : List Node) (n : ℕ) (u : Unrolling) (run : List SymState) (s : SymState) (goal : ℕ) → IsUnrolled f now n u → run ≡ u.states → s ≡ get_or run n s
    → ((supply : List Ty) (next : ℕ) → AllReadTyped supply f.formulas → IsKnown supply now u.axioms → IsKnown supply now u.assumed → KnowsState supply now s next → IsKnown supply new goal) → ReadsOwnTypes f → IsKnown (supply_from f u.start n) new goal
goal_known f now new n u run s goal h i j made reads =
    let k = h.known reads in
    made (supply_from f u.start n) u.fresh.next (formulas_read f u.start n reads) k.axioms k.assumed (last_known f now n u run s h i j reads)

pub axiom_read : (supply : List Ty) (formulas : List Formula) (k : ℕ) (x : Formula) → slice_get formulas k ≡ Some x → AllReadTyped supply formulas → ReadsTyped supply x.condition
axiom_read supply formulas k x at h =
    subst (λ (y : Formula). ReadsTyped supply y.condition) (get_or_from_slice_get formulas k x x at) (h k x (within formulas k x at))
  where
    within : (xs : List Formula) (j : ℕ) (y : Formula) → slice_get xs j ≡ Some y → j < length xs
    within [] j y e = cc
    within (z ∷ xs) zero y e = omega arith
    within (z ∷ xs) (suc j) y e = omega (arith, within xs j y e)

-- Designs without constants.

no_reads : (f : Flat) (e : Expression) → f.constants ≡ [] → ReadsBelow (length f.constants) e → ReadsTyped (constants_typed f) e
no_reads f e none h number ty ps d = absurd (omega (arith, h number ty ps d, ap length none))

no_code_reads : (f : Flat) (code : List Statement) → f.constants ≡ [] → CodeReadsBelow (length f.constants) code → CodeReadsTyped (constants_typed f) code
no_code_reads f code none h = record {
  assigns = λ k e d. no_reads f e none (h.assigns k e d);
  assumes = λ e d. no_reads f e none (h.assumes e d);
  asserts = λ site e d. no_reads f e none (h.asserts site e d);
  decides = λ e xs ys d. no_reads f e none (h.decides e xs ys d);
}

pub no_constants : (f : Flat) → IsSound f → f.constants ≡ [] → ReadsOwnTypes f
no_constants f s none =
    let Q : Formula → Type 0 = λ x. ReadsTyped (constants_typed f) x.condition in
    record {
      further = All-weaker (ReadsBelow (length f.constants)) (ReadsTyped (constants_typed f)) (λ e h. no_reads f e none h) f.further s.further_reads;
      init = no_code_reads f f.init none s.init_reads;
      step = no_code_reads f f.step none s.step_reads;
      formulas = All-weaker (IsFormula f) Q (λ x h. no_reads f x.condition none h.reads) f.formulas s.formulas;
    }
