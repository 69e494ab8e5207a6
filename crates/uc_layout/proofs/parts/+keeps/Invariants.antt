use Rattle.std.proofs.Common.{◌≡◌, ℕ, false, take}
use Rattle.std.specs.Prelude.{IsTrue}
use Rattle.uc_values.specs.declared.value.Value.TheVariants.{Bool as truth}
use Rattle.uc_layout.specs.Kept.{lent, has_field, KeepsField}
use Rattle.uc_layout.proofs.parts.+keeps.Given as goal

abbrev pub invariant-keeps_fields-loop-field : goal.invariant-keeps_fields-loop-field
invariant-keeps_fields-loop-field l = record {
  missing : l.missing ≡ truth false;
  keeps : (f : ℕ) → IsTrue (has_field (take l.field-index l.fields) f) → KeepsField l.fields l.old l.new (lent l.written) f;
}
