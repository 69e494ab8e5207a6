-- What a name stands for among the fields of a record.
use Rattle.std.specs.Prelude.{ℕ, nat_eq, Option, slice_get}
use Rattle.std.specs.List.{position_from}
use Rattle.std.specs.Option.{option_map, option_and_then}
use Rattle.uc_values.specs.declared.ty.Ty.{Ty}
use Rattle.uc_ops.specs.Typing.{fields_of}

-- the first place of a field of this name, and its type
abbrev pub named_field : Ty → ℕ → Option (ℕ × Ty)
named_field ty name = option_and_then (λ k. option_map (λ f. (k, f.ty)) (slice_get (fields_of ty) k)) (position_from (λ d. nat_eq d.name name) 0 (fields_of ty))
