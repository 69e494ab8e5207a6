use Rattle.std.proofs.Common.{◌++◌, ◌∙◌, ap, sym}
use Rattle.uc_syntax.proofs.Added.{append_nil}
use Rattle.uc_names.specs.Senses.{entries_meant}
use Rattle.uc_names.proofs.Forms.{on_ok}
use Rattle.uc_names.proofs.entries.add_own.Goals as goal

pub returns-in-None : goal.returns-in-None
returns-in-None c = λ s there. sym (append_nil (entries_meant s.modules c.args.entries.now)) ∙ ap (λ es. entries_meant s.modules c.args.entries.now ++ es) (c.in-None.ensures s there)

pub returns-in-Some : goal.returns-in-Some
returns-in-Some c = on_ok c.push.result (λ added s there. added s.modules ∙ ap (λ es. entries_meant s.modules c.args.entries.now ++ es) (c.in-Some.ensures s there)) c.push.ensures
