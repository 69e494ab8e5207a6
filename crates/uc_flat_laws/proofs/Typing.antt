-- Code reads constants at their types where each statement in it does.
use Rattle.std.proofs.Common.{List, ap, ◌∙◌, sym, subst}
use Rattle.uc_values.specs.declared.ty.Ty.{Ty}
use Rattle.uc_flat.specs.declared.statement.Statement.{Statement}
use Rattle.uc_flat.specs.declared.statement.Statement.TheOpen.{Statement-F}
use Rattle.uc_flat.specs.declared.statement.Statement.TheOpen.Statement-F.{Assign as AssignForm, Havoc as HavocForm, Assume as AssumeForm, Assert as AssertForm, If as IfForm}
use Rattle.uc_flat.specs.declared.statement.Statement.TheViews.{out-Statement}
use Rattle.uc_flat.specs.declared.statement.Statement.TheVariants.{Assign, Assume, Assert, If, rolls-Assert}
use Rattle.uc_flat.specs.Fine.{ReadsTyped}
use Rattle.uc_symstep.specs.Known.{CodeReadsTyped}
use Rattle.uc_flat_laws.proofs.Standing.{Everywhere, out_statement, out_assign, out_assume, out_if}

-- a statement by itself, apart from those inside it
abbrev pub AloneTyped : List Ty → Statement-F Statement → Type 0
AloneTyped constants (AssignForm k e) = ReadsTyped constants e
AloneTyped constants (HavocForm k listed) = Unit {0}
AloneTyped constants (AssumeForm e) = ReadsTyped constants e
AloneTyped constants (AssertForm site e) = ReadsTyped constants e
AloneTyped constants (IfForm e xs ys) = ReadsTyped constants e

pub typed_alone : (constants : List Ty) (code : List Statement) → Everywhere (AloneTyped constants) code → CodeReadsTyped constants code
typed_alone constants code h = record {
  assigns = λ k e d. subst (AloneTyped constants) (out_assign k e) (h.at (Assign k e) d);
  assumes = λ e d. subst (AloneTyped constants) (out_assume e) (h.at (Assume e) d);
  asserts = λ site e d. subst (AloneTyped constants) (ap out-Statement (sym (rolls-Assert site e)) ∙ out_statement (AssertForm site e)) (h.at (Assert site e) d);
  decides = λ e xs ys d. subst (AloneTyped constants) (out_if e xs ys) (h.at (If e xs ys) d);
}
