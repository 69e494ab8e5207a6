-- The place of a cell among those that are listed is its place among those of the design.
use Rattle.std.proofs.Common.{◌≡◌, ℕ, ◌+◌, cond, List, [], ◌∷◌, map, refl, sym, ap, ◌∙◌, Some}
use Rattle.std.specs.Prelude.{◌&&◌, nat_eq}
use Rattle.std.specs.List.{position_from}
use Rattle.uc_flat.specs.declared.flat.Cell.{Cell as FlatCell}
use Rattle.uc_meaning.specs.Lookup.{System}
use Rattle.uc_meaning.specs.Cells.{Cell, cells_of, cell_of, same_path}
use Rattle.uc_report.specs.TraceTables.{listed, place_among}

position_listed : (path : List ℕ) (x k : ℕ) (cells : List Cell)
    → position_from (λ (c : FlatCell). same_path c.path path && nat_eq c.name x) k (map listed cells) ≡ position_from (λ (c : Cell). same_path c.path path && nat_eq c.name x) k cells
position_listed path x k [] = refl
position_listed path x k (c ∷ cells) = ap (λ o. cond (same_path c.path path && nat_eq c.name x) (Some k) o) (position_listed path x (k + 1) cells)

pub place_there : (d : System) (cells : List FlatCell) (path : List ℕ) (x : ℕ) → cells ≡ map listed (cells_of d) → place_among cells path x ≡ cell_of d path x
unfolding cell_of
place_there d cells path x e = ap (λ cs. place_among cs path x) e ∙ position_listed path x 0 (cells_of d)
