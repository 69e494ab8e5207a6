-- When a design runs.
use Rattle.std.proofs.Common.{◌≡◌, List, [], ◌∷◌, sym, ap, ◌∙◌, subst, true}
use Rattle.std.specs.Prelude.{Result, Ok, Err}
use Rattle.uc_syntax.specs.declared.declaration.Module.{Module}
use Rattle.uc_meaning.specs.Lookup.{System}
use Rattle.uc_flat.specs.declared.flat.Flat.{Flat}
use Rattle.uc_runnable.specs.declared.runnable.NotRunnable.{NotRunnable}
use Rattle.uc_runnable.specs.declared.runnable.NotRunnable.TheVariants.{NoMemory, NotBuilt}
use Rattle.uc_flat_expressions.specs.declared.typed.FlatError.{FlatError}
use Rattle.uc_flat_expressions.specs.declared.typed.FlatError.TheVariants.{NotBuilt as not_built}
use Rattle.uc_flat_design.specs.Design.{IsFlatOf}
use Rattle.uc_flat_making.specs.Made.{IsMade}
use Rattle.uc_runnable.specs.Plain.{is_plain}
use Rattle.uc_runnable.specs.Runnable.{RunsOver, IsRunnable, IsNoneFor}
use Rattle.uc_runnable.specs.Only.{IsOnlyPlain, IsFault}

abbrev head_of : Module → List Module → Module
head_of d [] = d
head_of d (m ∷ ms) = m

-- a design that runs has one plain module
pub only_plain : (system : System) → IsRunnable system → IsOnlyPlain system.main system.modules
only_plain system r = record {
  code = r.over.code;
  only = r.over.is_flat.only;
  first = r.over.is_flat.first;
  plain = r.over.plain;
}

-- a plain module and a design over cells make it run
pub runs_over : (system : System) (flat : Flat) → IsOnlyPlain system.main system.modules → (code : Module) → IsFlatOf system code flat → RunsOver system flat
runs_over system flat one code f = record {
  code = code;
  is_flat = f;
  plain = subst (λ m. is_plain m ≡ true) (ap (head_of code) (sym one.only ∙ f.only)) one.plain;
}

-- with no design over cells it does not run
pub not_flat : (system : System) → ((code : Module) (f : Flat) → IsFlatOf system code f → ⊥) → IsRunnable system → ⊥
not_flat system none r = none r.over.code r.flat r.over.is_flat

-- what is answered of a design that does not run
pub none_for : (system : System) (e : NotRunnable) → (IsRunnable system → ⊥) → IsFault system e → IsNoneFor system e
none_for system (NotBuilt place) never fault = (never, fault)
none_for system NoMemory never fault = tt

-- ---- by what is made of the design

pub made_runs : (system : System) (r : Result Flat FlatError) (flat : Flat) → IsOnlyPlain system.main system.modules → r ≡ Ok flat → IsMade system r → RunsOver system flat
made_runs system r flat one is made = let m = subst (IsMade system) is made in runs_over system flat one m.0 m.1

pub none_made : (system : System) (r : Result Flat FlatError) (e : NotRunnable) → r ≡ Err not_built → IsMade system r → IsFault system e → IsNoneFor system e
none_made system r e is made fault = none_for system e (not_flat system (subst (IsMade system) is made)) fault
