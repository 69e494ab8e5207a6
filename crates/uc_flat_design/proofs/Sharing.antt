-- A model whose first symbols are the constants of an interpretation has them.
use Rattle.std.proofs.Common.{◌≡◌, ℕ, zero, suc, List, [], ◌∷◌, ◌++◌, sym, ap, ◌∙◌, false, Some}
use Rattle.std.specs.Prelude.{if◌then◌else◌, slice_get, slice_index_or}
use Rattle.uc_values.specs.declared.ty.Ty.{Ty}
use Rattle.uc_values.specs.declared.value.Value.{Value}
use Rattle.uc_values.specs.declared.value.Value.TheVariants.{Bool as truth}
use Rattle.uc_values.specs.Values.{zero_of}
use Rattle.uc_meaning.specs.declared.scope.Interp.{Interp}
use Rattle.uc_meaning.specs.Lookup.{System}
use Rattle.uc_ops.specs.declared.model.Model.{Model}
use Rattle.uc_ops.specs.Meaning.{fitting}
use Rattle.uc_flat.specs.Executions.{FitAll}
use Rattle.uc_flat_design.specs.Names.{constant_types}
use Rattle.uc_flat_design.specs.Constants.{SharesConstants}

first_fits : (types : List Ty) (values others : List Value) (k : ℕ) (ty : Ty) → FitAll types values → slice_get types k ≡ Some ty → slice_index_or values k (truth false) ≡ fitting ty (slice_get (values ++ others) k)
unfolding FitAll
first_fits [] values others k ty f h = absurd (cc)
first_fits (t ∷ types) [] others k ty f h = absurd f
first_fits (t ∷ types) (v ∷ values) others zero ty f h =
    let is : t ≡ ty = cc in
    sym (ap (λ u. fitting u (Some v)) (sym is) ∙ ap (λ b. if b then v else zero_of t) f.0)
first_fits (t ∷ types) (v ∷ values) others (suc k) ty f h = first_fits types values others k ty f.1 h

pub shares_first : (system : System) (i : Interp) (m : Model) (others : List Value) → FitAll (constant_types system) i.consts → m.symbols ≡ i.consts ++ others → SharesConstants system i m
shares_first system i m others fit is = record {
  same = λ k ty h. first_fits (constant_types system) i.consts others k ty fit h ∙ ap (λ vs. fitting ty (slice_get vs k)) (sym is);
}
