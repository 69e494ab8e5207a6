-- How many labels an enum has, by its number.
use Rattle.std.proofs.Common.{◌≡◌, ℕ, zero, suc, List, [], ◌∷◌, ◌++◌, map, length, refl, ap, sym, ◌∙◌}
use Rattle.std.specs.Prelude.{slice_index_or}
use Rattle.std.specs.List.{flat_map}
use Rattle.std.proofs.lemmas.List.{map-append, length-map}
use Rattle.uc_syntax.specs.declared.place.Identifier.{Identifier}
use Rattle.uc_syntax.specs.declared.declaration.Module.{Module}
use Rattle.uc_syntax.specs.WrittenTypes.{Written, enums_of, enums_of_module, labels_of}
use Rattle.uc_type_names.specs.declared.enums.WrittenEnum.{WrittenEnum}
use Rattle.uc_type_names.specs.Lent.{enum_meant, meant}
use Rattle.uc_declared_types.specs.Counts.{counts_in, written_counts}

named : (is : List Identifier) → length is ≡ length (map {B = ℕ} (λ i. i.name) is)
named [] = refl
named (i ∷ is) = ap suc (named is)

pub meant_counts : (es : List WrittenEnum) → written_counts es ≡ map (λ e. length e.labels) (meant es)
unfolding meant
meant_counts [] = refl
meant_counts (e ∷ es) = (λ t. named e.labels.now t ∷ meant_counts es t)

pub module_counts : (m : Module) (es : List WrittenEnum) → meant es ≡ enums_of_module m → written_counts es ≡ counts_in m
module_counts m es is = meant_counts es ∙ ap (map (λ e. length e.labels)) is

all_counts : (ms : List Module) → flat_map counts_in ms ≡ map (λ e. length e.labels) (flat_map enums_of_module ms)
all_counts [] = refl
all_counts (m ∷ ms) = ap (λ ns. counts_in m ++ ns) (all_counts ms) ∙ sym (map-append (λ e. length e.labels) (enums_of_module m) (flat_map enums_of_module ms))

picked : (es : List Written) (k : ℕ) → slice_index_or (map (λ e. length e.labels) es) k 0 ≡ length (slice_index_or (map (λ e. e.labels) es) k [])
picked [] k = refl
picked (e ∷ es) zero = refl
picked (e ∷ es) (suc k) = picked es k

-- the count at the number of an enum is that of its labels
pub count_is : (ms : List Module) (ns : List ℕ) (k : ℕ) → ns ≡ flat_map counts_in ms → slice_index_or ns k 0 ≡ length (slice_index_or (labels_of ms) k [])
unfolding enums_of
count_is ms ns k is = ap (λ xs. slice_index_or xs k 0) (is ∙ all_counts ms) ∙ picked (flat_map enums_of_module ms) k
