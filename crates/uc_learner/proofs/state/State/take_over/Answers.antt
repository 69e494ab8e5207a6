use Rattle.std.proofs.Common.{arith, refl, sym, ap, ◌≡◌, ◌<◌, ◌+◌, ◌^◌, length, true, false}
use Rattle.std.proofs.lemmas.Grind.{common_steps}
use Rattle.std.proofs.lemmas.Result.{on_ok_weaker}
use Rattle.uc_log.specs.declared.entry.Entry.{Entry}
use Rattle.uc_log.specs.Entries.{Known, added_nodes, given}
use Rattle.uc_learner.specs.Learners.{input_flags}
use Rattle.uc_learner.proofs.Adding.{added_variable, added_clauses}
use Rattle.uc_learner.proofs.state.State.take_over.Goals as goal

pub returns-in-Gate : goal.returns-in-Gate
returns-in-Gate c =
    let fit : c.len.result < 2 ^ 32 = omega (arith, c.cut.ensures.cut.sound.variables, c.len.ensures) in
    let room : length c.in_ok-clauses.clauses.items + length c.cut.new.self.clauses.items < 2 ^ 32 = grind (arith, common_steps) in
    let clauses : (k : Known) → length k.circuit ≡ length c.cut.new.self.inputs.items → c.in_ok-clauses.clauses.items ≡ given k c.args.entry.now =
    λ k long. c.in_ok-clauses.ensures k (grind (arith, common_steps)) in
    on_ok_weaker c.add_variable.result
    (λ one. added_variable c.args.self.now c.cut.new.self _ c.add_variable.new.self c.args.entry.now c.in_ok-clauses.clauses.items false c.cut.ensures.cut c.requires.over clauses room
    (sym (ap (λ (e : Entry). input_flags (added_nodes e)) c.in-Gate.is)) c.in_ok-append.ensures.items refl refl refl refl one)
    c.add_variable.ensures

pub returns-in-Atom : goal.returns-in-Atom
returns-in-Atom c =
    let fit : c.len.result < 2 ^ 32 = omega (arith, c.cut.ensures.cut.sound.variables, c.len.ensures) in
    let room : length c.in_ok-clauses.clauses.items + length c.cut.new.self.clauses.items < 2 ^ 32 = grind (arith, common_steps) in
    let clauses : (k : Known) → length k.circuit ≡ length c.cut.new.self.inputs.items → c.in_ok-clauses.clauses.items ≡ given k c.args.entry.now =
    λ k long. c.in_ok-clauses.ensures k (grind (arith, common_steps)) in
    on_ok_weaker c.add_variable-in-Atom.result
    (λ one. added_variable c.args.self.now c.cut.new.self _ c.add_variable-in-Atom.new.self c.args.entry.now c.in_ok-clauses.clauses.items true c.cut.ensures.cut c.requires.over clauses room
    (sym (ap (λ (e : Entry). input_flags (added_nodes e)) c.in-Atom.is)) c.in_ok-append.ensures.items refl refl refl refl one)
    c.add_variable-in-Atom.ensures

pub returns : goal.returns
returns c =
    let fit : c.len.result < 2 ^ 32 = omega (arith, c.cut.ensures.cut.sound.variables, c.len.ensures) in
    added_clauses c.args.self.now c.cut.new.self _ c.args.entry.now c.in_ok-clauses.clauses.items c.cut.ensures.cut c.requires.over
    (λ k long. c.in_ok-clauses.ensures k (grind (arith, common_steps)))
    (grind (arith, common_steps))
    (sym (ap (λ (e : Entry). input_flags (added_nodes e)) c.in-Learnt.is))
    c.in_ok-append.ensures.items refl refl refl refl refl
