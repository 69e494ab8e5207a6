-- The problem of the lowered goal stands for the goal.
use Rattle.std.specs.Prelude.{◌≡◌, ◌≢◌, ℕ, ◌+◌, ◌<◌, ◌≤◌, ◌^◌, Bool as Truth, true, false, List, [], ◌∷◌, length, get_or, Option, Some, All, AllPairs, Contains, zero, suc}
use Rattle.std.specs.List.{AllZip}
use Rattle.std.proofs.Common.{refl, sym, ap, ◌∙◌, subst, arith}
use Rattle.std.proofs.Math.Pow.{pow_mono}
use Rattle.std.proofs.lemmas.List.Elements.{All-head, All-tail, All-weaker, All-contains}
use Rattle.uc_values.specs.Values.{truth_of}
use Rattle.uc_values.specs.Sizes.{bit_count}
use Rattle.uc_values.proofs.Widths.{bits-Bool, bits-Bv}
use Rattle.uc_values.specs.declared.ty.Ty.{Ty}
use Rattle.uc_values.specs.declared.ty.Ty.TheVariants.{Bool, Bv}
use Rattle.uc_values.specs.declared.value.Value.TheVariants.{Bool as truth}
use Rattle.uc_circuit.specs.Circuits.{literal_value_in}
use Rattle.uc_ops.specs.declared.model.Model.{Model}
use Rattle.uc_ops.specs.declared.node.Node.{Node}
use Rattle.uc_ops.specs.Typing.{type_at}
use Rattle.uc_terms.specs.Tables.{WellTyped, NoTwoEqual}
use Rattle.uc_terms.specs.Values.{value}
use Rattle.uc_terms.specs.Subterms.{IsSubterm, FitsTerm}
use Rattle.uc_terms.specs.Laws.{IsModelOf}
use Rattle.uc_log.specs.declared.atom.Atom.{Atom}
use Rattle.uc_log.specs.declared.atom.Atom.TheVariants.{Free, Bit, Le, Eq}
use Rattle.uc_log.specs.declared.entry.Entry.{Entry}
use Rattle.uc_log.specs.Atoms.{Agrees, bit_of}
use Rattle.uc_log.specs.Problems.{Question, IsQuestion, IsModelOf as IsModelOfProblem}
use Rattle.uc_log.specs.Entries.{Accepts}
use Rattle.uc_log.proofs.Refutation.{accepted_refutes}
use Rattle.uc_lower.specs.Made.{Grows, Within, IsLowType, truth as low_truth, bits as low_word}
use Rattle.uc_lower.specs.Lowering.{Pair, IsSymbol, IsLoweredTerm}
use Rattle.uc_lower.specs.Bits.{bits_or, bits_at, AreApart, IsSymbolBelow}
use Rattle.uc_lower.proofs.Growing.{was_subterm, kept_op, had_op, longer}
use Rattle.uc_lower.proofs.Bits.{bits_kept}
use Rattle.uc_blast.specs.Words.{is_bits, bit_width}
use Rattle.uc_blast.specs.Blasting.{IsBlastable, IsOpaque, IsOpaqueBit, AreBits, AreDifferent, bits_of, HasInputs, bits, constant, constant_question, StandsFor}
use Rattle.uc_learner.specs.Opened.{AcceptsFor}
use Rattle.uc_solver.proofs.Setting.{subterm_there, opaque_symbol}
use Rattle.uc_solver.proofs.Fitted.{Evenly, Fitted, fitted}
use Rattle.uc_solver.specs.Stands.{GoesOver, Stands, OpenedStands, HasBitsUpTo}
use Rattle.uc_solver.specs.declared.answer.SolveError.{SolveError}
use Rattle.uc_solver.specs.declared.answer.SolveError.TheVariants.{NoMemory, Budget}
use Rattle.uc_solver.specs.Answers.{IsRefuted, IsCause}
use Rattle.uc_solver.specs.Reduced.{IsReduced}
use Rattle.uc_solver.specs.Searches.{IsProblemOf, FitsBudget, IsSearchCause}
use Rattle.uc_solver.proofs.Reducing.{sub_on}

pub lowered_evenly : (nodes : List Node) (goal u : ℕ) (pairs : List Pair) → WellTyped nodes → NoTwoEqual nodes → IsReduced nodes goal u pairs → Evenly nodes u
lowered_evenly nodes goal u pairs w two r = record { well = w; two = two; there = r.lowered.there; even = r.even; none = r.lowered.no_function }

-- atoms agree under a model with the same values of the symbols
abbrev KeepsAtom : List Node → Model → Model → Atom → Type 0
KeepsAtom nodes m n a = (b : Truth) → Agrees m nodes a b → Agrees n nodes a b

zip_kept : (nodes : List Node) (m n : Model) (atoms : List Atom) (inputs : List Truth) → All (KeepsAtom nodes m n) atoms → AllZip (Agrees m nodes) atoms inputs → AllZip (Agrees n nodes) atoms inputs
zip_kept nodes m n [] [] k h = tt
zip_kept nodes m n [] (b ∷ inputs) k h = absurd h
zip_kept nodes m n (a ∷ atoms) [] k h = absurd h
zip_kept nodes m n (a ∷ atoms) (b ∷ inputs) k h =
    (All-head (KeepsAtom nodes m n) a atoms k b h.0, zip_kept nodes m n atoms inputs (All-tail (KeepsAtom nodes m n) a atoms k) h.1)

bit_kept : (nodes : List Node) (u : ℕ) (m : Model) → Evenly nodes u → (f : Fitted m nodes u) → (a : Atom) → IsOpaqueBit nodes u a → KeepsAtom nodes m f.model a
bit_kept nodes u m e f (Bit k j) o b h =
    let inside = subterm_there nodes u k e.well e.there o.0.below in
    h ∙ ap (λ v. bit_of v j) (sym (f.same k o.0.below (opaque_symbol nodes u k e.none inside o.0)))
bit_kept nodes u m e f Free o b h = absurd o
bit_kept nodes u m e f (Le x) o b h = absurd o
bit_kept nodes u m e f (Eq x y) o b h = absurd o

free_kept : (nodes : List Node) (m n : Model) → All (KeepsAtom nodes m n) (Free ∷ [])
free_kept nodes m n zero d l b h = tt
free_kept nodes m n (suc i) d l b h = absurd (omega (arith, l))

atoms_kept : (nodes : List Node) (u : ℕ) (q : Question) (m : Model) → Evenly nodes u → HasInputs nodes u q → (f : Fitted m nodes u) → All (KeepsAtom nodes m f.model) q.atoms
atoms_kept nodes u q m e (bits h) f = All-weaker (IsOpaqueBit nodes u) (KeepsAtom nodes m f.model) (bit_kept nodes u m e f) q.atoms h.opaque
atoms_kept nodes u q m e (constant b h is) f = subst (λ x. All (KeepsAtom nodes m f.model) x.atoms) (sym is) (free_kept nodes m f.model)

-- the models of the goal and of the problem go over into each other
pub stands : (nodes : List Node) (goal u : ℕ) (pairs : List Pair) (q : Question) → WellTyped nodes → NoTwoEqual nodes → IsReduced nodes goal u pairs → IsProblemOf nodes u q → Stands nodes goal q
stands nodes goal u pairs q w two r p = record {
  simple = r.simple;
  low = u;
  pairs = pairs;
  same = r.same;
  map = r.map;
  equal = r.equal;
  problem = p.stands;
  there = λ m h.
      let n = r.there m h in
      let i = p.stands.there n.0 n.2 in
      (i.0, record { between = n.0; follows = n.1; goal_model = h; problem_model = i.1 });
  back = λ n inputs h.
      let e = lowered_evenly nodes goal u pairs w two r in
      let f = fitted n nodes u e in
      let agree = zip_kept nodes n f.model q.atoms inputs (atoms_kept nodes u q n e p.inputs f) h.agree in
      let holds : truth_of (value f.model nodes u) ≡ true = ap truth_of (p.stands.same f.model inputs agree) ∙ h.goal in
      let m = r.back f.model (record { fits = f.fits; holds = holds }) in
      (m.0, record { between = f.model; follows = m.1.follows; goal_model = m.1.model; problem_model = record { agree = agree; goal = h.goal } });
}

-- an accepted log of the problem refutes the goal
pub refutes : (nodes : List Node) (goal u : ℕ) (pairs : List Pair) (q : Question) (opened : Option Question) (log : List Entry) → WellTyped nodes → NoTwoEqual nodes → IsReduced nodes goal u pairs → IsProblemOf nodes u q → IsQuestion q
    → opened ≡ Some q → Accepts nodes q log → IsRefuted nodes goal opened log
refutes nodes goal u pairs q opened log w two r p fine is a =
    let s = stands nodes goal u pairs q w two r p in
    record {
      stands = subst (OpenedStands nodes goal) (sym is) s;
      accepted = subst (λ o. AcceptsFor nodes o log) (sym is) a;
      no_model = λ m h.
          let i = s.there m h in
          accepted_refutes nodes q log fine a i.1.between i.0 i.1.problem_model;
    }

-- the inputs of the problem are no more than the symbols of the goal have bits
apart_of : (ts : List ℕ) → AreDifferent ts → AreApart ts
apart_of [] d = tt
apart_of (t ∷ ts) d = (λ c. d 0 (suc c.0) t (omega arith) (omega (arith, c.1)) (sym c.2), apart_of ts (λ i j x l h. d (suc i) (suc j) x (omega (arith, l)) (omega (arith, h))))

width_bits : (ty : Ty) → bit_width ty ≤ bits_or (bit_count ty)
width_bits Bool = omega (arith, ap bits_or bits-Bool)
width_bits (Bv w) = omega (arith, ap bits_or (bits-Bv w))
width_bits other = omega arith

bits_enough : (nodes : List Node) (ts : List ℕ) → bits_of nodes ts ≤ bits_at nodes ts
bits_enough nodes [] = omega arith
bits_enough nodes (t ∷ ts) = omega (arith, width_bits (type_at nodes t), bits_enough nodes ts)

pub fits_budget : (old nodes : List Node) (goal u n budget : ℕ) (pairs : List Pair) (q : Question) → WellTyped old → goal < length old → Grows old nodes → IsReduced nodes goal u pairs → HasBitsUpTo old goal n → 2 ^ n ≤ budget → FitsBudget nodes u q budget
fits_budget old nodes goal u n budget pairs q w l g r h enough b =
    let symbol : (k : ℕ) → IsOpaque nodes u k → IsSymbolBelow nodes u k = λ k o.
    record { below = o.below; symbol = opaque_symbol nodes u k r.lowered.no_function (subterm_there nodes u k g.well r.lowered.there o.below) o } in
    let on : (k : ℕ) → IsSymbolBelow old goal k → IsSymbolBelow nodes goal k = λ k y.
    let inside = subterm_there old goal k w l y.below in
    record { below = sub_on old nodes goal k w l g y.below; symbol = record { number = y.symbol.number; ty = y.symbol.ty; has = kept_op old nodes k _ g inside y.symbol.has } } in
    let back : (k : ℕ) → IsSymbolBelow nodes goal k → IsSymbolBelow old goal k = λ k y.
    let a = was_subterm old nodes goal w g l k y.below in
    record { below = a.below; symbol = record { number = y.symbol.number; ty = y.symbol.ty; has = had_op old nodes k _ g a.there y.symbol.has } } in
    let within : Within old h.symbols = All-weaker (IsSymbolBelow old goal) (λ k. k < length old) (λ k y. subterm_there old goal k w l y.below) h.symbols h.only in
    let fewer = r.bits b.terms h.symbols (apart_of b.terms b.apart) (All-weaker (IsOpaque nodes u) (IsSymbolBelow nodes u) symbol b.terms b.each)
    (All-weaker (IsSymbolBelow old goal) (IsSymbolBelow nodes goal) on h.symbols h.only) (λ k y. h.all k (back k y)) in
    let all : length q.atoms ≤ n = omega (arith, b.few, bits_enough nodes b.terms, fewer, bits_kept old nodes h.symbols g within, h.few) in
    omega (arith, pow_mono {i = length q.atoms} {j = n} all, enough)

-- a lowered term can be blasted
low_bits : (ty : Ty) → IsLowType ty → is_bits ty ≡ true
low_bits ty low_truth = refl
low_bits ty (low_word width) = refl

pub blastable : (nodes : List Node) (u : ℕ) → IsLoweredTerm nodes u → IsBlastable nodes u
blastable nodes u l = record { there = l.there; boolean = l.boolean; bits = λ k s. low_bits (type_at nodes k) (l.types k s) }

-- why a search stopped is why there is no answer
pub cause_of : (nodes : List Node) (goal : ℕ) (q : Question) (opened : Option Question) (here budget before after : ℕ) (e : SolveError) → Stands nodes goal q → IsSearchCause q opened here budget before after e → IsCause nodes goal opened here budget before after e
cause_of nodes goal q opened here budget before after NoMemory s h = tt
cause_of nodes goal q opened here budget before after Budget s h = record { all = h.all; stands = subst (OpenedStands nodes goal) (sym h.own) s; rose = h.rose }
