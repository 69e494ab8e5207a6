use Rattle.std.proofs.Common.{ap, ◌∙◌}
use Rattle.uc_print_laws.specs.Declarations.{erased_modules}
use Rattle.uc_print_laws.proofs.DeclarationLaw.{modules_spelled}
use Rattle.uc_print_laws.proofs.printed_law.printed_is_read_back.Goals as goal

pub returns : goal.returns
returns c ms m ws ns s h i t = let a = (modules_spelled ms).spells s m h ws i in ap erased_modules (c.spells_one_list.ensures ws m m ns a.0 t a.1) ∙ a.2
