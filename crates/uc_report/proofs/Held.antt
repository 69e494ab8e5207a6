-- The type of a cell that is held.
use Rattle.std.proofs.Common.{◌≡◌, ℕ, List, [], ◌∷◌, map, refl, sym, ap, ◌∙◌}
use Rattle.std.specs.Prelude.{slice_get}
use Rattle.std.specs.Option.{option_map}
use Rattle.std.proofs.lemmas.Option.{slice_get-map}
use Rattle.uc_values.specs.declared.ty.Ty.{Ty}
use Rattle.uc_flat.specs.declared.flat.Cell.{Cell as FlatCell}
use Rattle.uc_meaning.specs.Lookup.{System}
use Rattle.uc_meaning.specs.Cells.{Cell, cells_of}
use Rattle.uc_report.specs.TraceTables.{listed}
use Rattle.uc_report.specs.TraceText.{cell_types}

types_listed : (cells : List Cell) → map (λ (c : FlatCell). c.ty) (map listed cells) ≡ map (λ (c : Cell). c.type) cells
types_listed [] = refl
types_listed (c ∷ cells) = ap (λ ts. c.type ∷ ts) (types_listed cells)

pub held_there : (d : System) (cells : List FlatCell) (place : ℕ) → cells ≡ map listed (cells_of d) → option_map (λ (c : FlatCell). c.ty) (slice_get cells place) ≡ slice_get (cell_types d) place
held_there d cells place e =
    ap (λ cs. option_map (λ (c : FlatCell). c.ty) (slice_get cs place)) e
    ∙ sym (slice_get-map (λ (c : FlatCell). c.ty) (map listed (cells_of d)) place)
    ∙ ap (λ ts. slice_get ts place) (types_listed (cells_of d))
