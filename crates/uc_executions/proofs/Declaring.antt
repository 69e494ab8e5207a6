-- The results of a procedure, declared one after another where the execution is.
use Rattle.std.proofs.Common.{◌≡◌, ℕ, ◌+◌, ◌<◌, ◌≤◌, Bool, true, false, List, [], ◌∷◌, length, drop, get_or, Option, Some, None, refl, ap, ◌∙◌, sym}
use Rattle.std.specs.Prelude.{if◌then◌else◌, Result, Ok, Err, IfOk}
use Rattle.std.specs.Option.{option_and_then}
use Rattle.uc_syntax.specs.declared.place.Identifier.{Identifier}
use Rattle.uc_syntax.specs.declared.type_expression.Parameter.{Parameter}
use Rattle.uc_syntax.specs.declared.type_expression.TypeExpr.{TypeExpr}
use Rattle.uc_syntax.specs.declared.declaration.Module.{Module}
use Rattle.uc_values.specs.declared.ty.Ty.{Ty}
use Rattle.uc_values.specs.declared.value.Value.{Value}
use Rattle.uc_values.specs.Values.{fits}
use Rattle.uc_meaning.specs.Lookup.{System, module_at, module_from, main_module}
use Rattle.uc_meaning.specs.Types.{type_of_written}
use Rattle.uc_meaning.specs.Code.{Running, Goes as GoesOn, Unfit, take_choice, declare, declare_at, push_local}
use Rattle.uc_runs.specs.declared.run.Run.{Run}
use Rattle.uc_runs.specs.declared.run.Ending.{Ending}
use Rattle.uc_runs.specs.declared.run.Ending.TheVariants.{Goes}
use Rattle.uc_runs.specs.Runs.{running, ending_of}
use Rattle.uc_runs.proofs.RunFormsChoices.{declare_one, declare_all, declares_none, declares_next}
use Rattle.uc_runs.proofs.Loops.{runs_end, runs_more, runs_out}

abbrev pub pair_of : Parameter TypeExpr → ℕ × TypeExpr
pair_of p = (p.identifier.name, p.ty)

module _ (system : System) (m : Module) where
  -- a single variable
  alone : (p : Parameter TypeExpr) (r : Running) → declare system m (pair_of p ∷ []) r ≡ declare_one system m pair_of p r
  unfolding declare
  alone p r = refl

  one_here : (p : Parameter TypeExpr) (names : List Identifier) → names ≡ p.identifier ∷ [] → (o : Option Module) → o ≡ Some m → (r : Running) →
      declare_at system o names p.ty r ≡ declare_one system m pair_of p r
  one_here p names is o at r =
      (λ k. declare_at system (at k) (is k) p.ty r) ∙ alone p r

  -- a choice that is taken leaves the path
  same_path : (left : List Value) (t : Ty) (x : ℕ) (r q : Running) → take_choice t (λ v r'. GoesOn (push_local x t v r')) left r ≡ GoesOn q → q.scope.path ≡ r.scope.path
  same_path [] t x r q is = absurd (cc)
  same_path (v ∷ rest) t x r q is = by (fits t v) is
    where
      by : (b : Bool) → (if b then GoesOn (push_local x t v (record r { left = rest })) else Unfit (v ∷ rest)) ≡ GoesOn q → q.scope.path ≡ r.scope.path
      by true goes = let same : push_local x t v (record r { left = rest }) ≡ q = cc in sym (ap (λ z. z.scope.path) same)
      by false goes = absurd (cc)

  -- Before turn k the results from there on are left, and the path is that of the begin.
  pub record DeclaredTo (choices : List Value) (results : List (Parameter TypeExpr)) (start here : Run) (k : ℕ) : Type 0 where
    pub left : declare_all system m pair_of (drop k results) (running choices here) ≡ declare_all system m pair_of results (running choices start)
    pub path : here.scope.path ≡ start.scope.path

  pub begins : (choices : List Value) (results : List (Parameter TypeExpr)) (start : Run) → DeclaredTo choices results start start 0
  begins choices results start = record { left = refl; path = refl }

  module _ (choices : List Value) (results : List (Parameter TypeExpr)) (start here : Run) (k : ℕ) (before : DeclaredTo choices results start here k) (at : module_at system start.scope.path ≡ Some m) where
    pub declares_end : length results ≤ k → GoesOn (running choices here) ≡ declare_all system m pair_of results (running choices start)
    declares_end past = runs_end (declare_one system m pair_of) (declare_all system m pair_of) (declares_none system m pair_of) (declares_next system m pair_of) choices results k here _ past before.left

    module _ (p d : Parameter TypeExpr) (within : k < length results) (is : p ≡ get_or results k d) (names : List Identifier) (named : names ≡ p.identifier ∷ []) (e : Ending)
        (ends : ending_of choices e ≡ declare_at system (module_at system here.scope.path) names p.ty (running choices here)) where
      runs : ending_of choices e ≡ declare_one system m pair_of p (running choices here)
      runs = ends ∙ one_here p names named (module_at system here.scope.path) (ap (module_at system) before.path ∙ at) (running choices here)

      pub declares_more : (next : Run) → e ≡ Goes next → DeclaredTo choices results start next (k + 1)
      declares_more next goes = record {
        left = runs_more (declare_one system m pair_of) (declare_all system m pair_of) (declares_none system m pair_of) (declares_next system m pair_of) choices results k here p d within is e runs next _ goes before.left;
        path =
            same_path (drop here.used choices) (type_of_written system m p.ty) p.identifier.name (running choices here) (running choices next)
            (sym (ap (ending_of choices) (sym goes) ∙ runs)) ∙ before.path;
      }

      pub declares_out : ((r : Run) → e ≡ Goes r → ⊥) → ending_of choices e ≡ declare_all system m pair_of results (running choices start)
      declares_out other = runs_out (declare_one system m pair_of) (declare_all system m pair_of) (declares_none system m pair_of) (declares_next system m pair_of) choices results k here p d within is e runs _ other before.left

-- the module at the path of main
pub at_main : (system : System) (m : Module) → main_module system ≡ Some m → module_at system [] ≡ Some m
unfolding module_from
at_main system m some = some_of (main_module system) some
  where
    some_of : (o : Option Module) → o ≡ Some m → option_and_then (λ n. module_from system n []) o ≡ Some m
    some_of None is = absurd (cc)
    some_of (Some n) is = is

pub same_module : (m n : Module) → Some m ≡ Some n → m ≡ n
same_module m n is = cc

pub not_main : (m : Module) → None ≡ Some m → ⊥
not_main m is = cc

pub if_ok_as : {A E : Type 0} {P Q : A → Type 0} (r : Result A E) → ((x : A) → P x → Q x) → IfOk r P → IfOk r Q
if_ok_as (Ok x) so is = so x is
if_ok_as (Err e) so is = is
