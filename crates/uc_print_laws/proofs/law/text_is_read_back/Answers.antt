use Rattle.uc_print_laws.proofs.Again.{read_back}
use Rattle.uc_print_laws.proofs.Worded.{text_shows}
use Rattle.uc_print_laws.proofs.law.text_is_read_back.Goals as goal

pub returns : goal.returns
returns c levels limit names after modules file words answer h distinct kept text is =
    read_back c.spells_one_list.ensures c.stands_alike.ensures c.levels_bound_depths.ensures c.modules_are_spelled.ensures c.names_are_counted.ensures c.names_without_places.ensures levels limit modules words h.nodes (text_shows names after modules file words h.spelled distinct kept text) answer is
