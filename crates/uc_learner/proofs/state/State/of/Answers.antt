use Rattle.std.proofs.Common.{arith, ap, ◌∙◌, length, replicate, None}
use Rattle.std.proofs.lemmas.Grind.{common_steps}
use Rattle.std.proofs.lemmas.List.{length-map}
use Rattle.uc_learner.specs.Learners.{flag_of, input_flags}
use Rattle.uc_learner.proofs.Adding.{first_sound}
use Rattle.uc_learner.proofs.state.State.of.Goals as goal

pub watch_from-requires-clause-sound : goal.watch_from-requires-clause-sound
watch_from-requires-clause-sound c =
    first_sound _ c.args.p.now c.circuit-circuit.ensures.kept
    (c.in_ok-inputs.ensures ∙ ap input_flags c.circuit-circuit.ensures.circuit)
    c.in_ok-clauses.ensures
    (c.in_ok-no_values.ensures ∙ ap (λ n. replicate n None) (c.len-2.ensures.len ∙ ap length c.circuit-circuit.ensures.circuit))
    c.in_ok-with_capacity.ensures.items
    (let e = ap length c.in_ok-clauses.ensures in grind (arith, common_steps))

pub watch_from-requires-clause-watched : goal.watch_from-requires-clause-watched
watch_from-requires-clause-watched c = record { variables = 0; fewer = omega arith; linked = c.in_ok-new.ensures }

pub returns-clause-whole : goal.returns-clause-whole
returns-clause-whole c = record {
  sound =
      first_sound c.watch_from.new.self c.args.p.now c.circuit-circuit.ensures.kept
      (c.in_ok-watch_from.ensures.inputs ∙ c.in_ok-inputs.ensures ∙ ap input_flags c.circuit-circuit.ensures.circuit)
      (c.in_ok-watch_from.ensures.clauses ∙ c.in_ok-clauses.ensures)
      (c.in_ok-watch_from.ensures.values ∙ c.in_ok-no_values.ensures ∙ ap (λ n. replicate n None) (c.len-2.ensures.len ∙ ap length c.circuit-circuit.ensures.circuit))
      (c.in_ok-watch_from.ensures.trail ∙ c.in_ok-with_capacity.ensures.items)
      (let e = ap length c.in_ok-clauses.ensures in grind (arith, common_steps));
  watched = c.in_ok-watch_from.ensures.watched;
  room =
      omega (
        arith,
        ap length c.in_ok-watch_from.ensures.inputs,
        c.in_ok-watch_from.ensures.capacity,
        c.in_ok-with_capacity.ensures.exact,
        c.len-3.ensures.len,
        ap length c.in_ok-inputs.ensures,
        length-map c.circuit-circuit.result.now flag_of,
      );
}

pub returns-clause-holds : goal.returns-clause-holds
returns-clause-holds c = record {
  inputs = c.in_ok-watch_from.ensures.inputs ∙ c.in_ok-inputs.ensures ∙ ap input_flags c.circuit-circuit.ensures.circuit;
  clauses = c.in_ok-watch_from.ensures.clauses ∙ c.in_ok-clauses.ensures;
}
