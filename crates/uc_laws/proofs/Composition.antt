-- The law of lines of hyperinvariants.
use Rattle.std.proofs.Common.{◌≡◌, List, refl, sym, subst, Bool, true, false}
use Rattle.uc_meaning.specs.declared.scope.Interp.{Interp}
use Rattle.uc_meaning.specs.Expressions.{is_true}
use Rattle.uc_meaning.specs.Runs.{Position, states_at, copies_scope}
use Rattle.uc_meaning.specs.Lines.{IsFalseAt, formula_of}
use Rattle.uc_laws.specs.Laws.{CompositionLaw}

unless_false : (b : Bool) → (b ≡ false → ⊥) → b ≡ true
unless_false true h = refl
unless_false false h = absurd (h refl)

not_both : (b : Bool) → b ≡ true → b ≡ false → ⊥
not_both b p q = absurd (cc)

pub composition_holds : CompositionLaw
composition_holds system command n steps k path formula is =
    let false_in = λ (i : Interp) (copies : List (List Position)) (f : is_true system (copies_scope i path (states_at steps copies)) formula ≡ false).
    subst (IsFalseAt system i path copies steps) (sym is) f in
    let false_of = λ (i : Interp) (copies : List (List Position)) (f : IsFalseAt system i path copies steps (formula_of system path k)).
    subst (IsFalseAt system i path copies steps) is f in (
      record {
        says = λ valid i copies adm run. unless_false (is_true system (copies_scope i path (states_at steps copies)) formula) (λ f.
            valid (record { interp = i; copies = copies }) (record { admitted = adm; fails = record { runs = run; fails = false_in i copies f } }));
        needs = λ holds trace r. not_both (is_true system (copies_scope trace.interp path (states_at steps trace.copies)) formula)
            (holds trace.interp trace.copies r.admitted r.fails.runs) (false_of trace.interp trace.copies r.fails.fails);
      },
      record {
        says = λ valid i copies adm run. unless_false (is_true system (copies_scope i path (states_at steps copies)) formula) (λ f.
            valid (record { interp = i; copies = copies }) (record { admitted = adm; fails = record { runs = run; fails = false_in i copies f } }));
        needs = λ holds trace r. not_both (is_true system (copies_scope trace.interp path (states_at steps trace.copies)) formula)
            (holds trace.interp trace.copies r.admitted r.fails.runs) (false_of trace.interp trace.copies r.fails.fails);
      },
    )
