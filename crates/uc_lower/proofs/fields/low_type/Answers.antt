use Rattle.uc_lower.proofs.Standing.{width_valid}
use Rattle.uc_lower.proofs.fields.low_type.Goals as goal

pub returns-in-Enum-clause-valid : goal.returns-in-Enum-clause-valid
returns-in-Enum-clause-valid c = width_valid c.in-Enum.labels c.label_width.result c.label_width.ensures.width c.label_width.ensures.high
