-- What values do that are written to targets one after another.
use Rattle.std.proofs.Common.{◌≡◌, ℕ, ◌≤◌, List, [], ◌∷◌, length, drop, None, refl, ap, ◌∙◌}
use Rattle.std.specs.Prelude.{slice_get}
use Rattle.std.proofs.lemmas.List.{drop_all}
use Rattle.uc_syntax.specs.declared.statement.Target.{Target}
use Rattle.uc_values.specs.declared.value.Value.{Value}
use Rattle.uc_meaning.specs.declared.scope.Scope.{Scope}
use Rattle.uc_meaning.specs.Lookup.{System, parent_of}
use Rattle.uc_meaning.specs.Cells.{cell_of}
use Rattle.uc_meaning.specs.Code.{followed, written_cell, write_all}
use Rattle.uc_meaning.proofs.Lists.{drop_past}

-- main binds nothing
pub written_at_top : (system : System) (x : ℕ) → written_cell system [] x ≡ cell_of system [] x
unfolding followed parent_of
written_at_top system x = refl

write_all_none : (system : System) (ts : List Target) (s : Scope) → write_all system ts [] s ≡ s
unfolding write_all
write_all_none system [] s = refl
write_all_none system (t ∷ ts) s = refl

pub write_all_past : (system : System) (ts : List Target) (vs : List Value) (k : ℕ) (s : Scope) → slice_get vs k ≡ None →
    write_all system (drop k ts) (drop k vs) s ≡ s
write_all_past system ts vs k s h = ap (λ ys. write_all system (drop k ts) ys s) (drop_past vs k h) ∙ write_all_none system (drop k ts) s

pub write_all_end : (system : System) (ts : List Target) (vs : List Value) (k : ℕ) (s : Scope) → length ts ≤ k →
    write_all system (drop k ts) (drop k vs) s ≡ s
unfolding write_all
write_all_end system ts vs k s past = ap (λ xs. write_all system xs (drop k vs) s) (drop_all k ts past)
