use Rattle.uc_sizes.proofs.Expanding.{is_large, is_within}
use Rattle.uc_sizes.proofs.large.has_large_expansion.Goals as goal

pub returns-in-Ok : goal.returns-in-Ok
returns-in-Ok c = is_within _ _ _ _ c.new-spent.ensures c.in-Ok.ensures

pub returns-in-Err-TooLarge : goal.returns-in-Err-TooLarge
returns-in-Err-TooLarge c = is_large _ _ _ _ c.new-spent.ensures c.in-Err-TooLarge.field-0-is c.in-Err-TooLarge.ensures
