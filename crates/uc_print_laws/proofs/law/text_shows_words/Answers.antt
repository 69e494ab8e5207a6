use Rattle.uc_print_laws.proofs.Worded.{text_shows}
use Rattle.uc_print_laws.proofs.law.text_shows_words.Goals as goal

pub returns : goal.returns
returns c = text_shows
