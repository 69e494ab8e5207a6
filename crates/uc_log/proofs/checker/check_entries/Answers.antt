use Rattle.std.proofs.Common.{arith, sym, subst, ap, ◌∙◌, ◌+◌, length, take, get_or}
use Rattle.std.specs.Prelude.{◌↔◌, IsTrue}
use Rattle.std.proofs.lemmas.List.{length-take-le}
use Rattle.uc_log.specs.declared.entry.Entry.{Entry}
use Rattle.uc_log.specs.Entries.{known_of, known_after, Meets}
use Rattle.uc_log.proofs.Accepting.{Turn, turn, part_variables, part_clauses, more_variables, more_clauses, refused, ends_more, meet_more, front_stays}
use Rattle.uc_log.proofs.checker.check_entries.Goals as goal

pub slice_bounds-meets-end : goal.slice_bounds-meets-end
slice_bounds-meets-end c =
    let t : Turn (known_of c.args.p.now) c.args.entries.now c.args.clauses.now c.loop-entry.values c.loop-entry.entry-index c.loop-entry.variables c.loop-entry.known =
    turn c.args.terms.now c.args.p.now c.args.entries.now c.args.clauses.now c.args.values.now c.loop-entry.values c.loop-entry.entry-index c.loop-entry.variables c.loop-entry.known
    c.circuit.ensures.kept c.requires.room.clauses c.requires.room.variables c.requires.unvalued c.loop-entry.invariant.undone
    c.loop-entry.invariant.variables c.loop-entry.invariant.known c.loop-entry.invariant.meet in
    sym (length-take-le c.loop-entry.known c.args.clauses.now t.clauses_le)

pub slice_bounds-meets-end-in-loop-entry : goal.slice_bounds-meets-end-in-loop-entry
slice_bounds-meets-end-in-loop-entry c =
    let t : Turn (known_of c.args.p.now) c.args.entries.now c.args.clauses.now c.loop-entry.values c.loop-entry.entry-index c.loop-entry.variables c.loop-entry.known =
    turn c.args.terms.now c.args.p.now c.args.entries.now c.args.clauses.now c.args.values.now c.loop-entry.values c.loop-entry.entry-index c.loop-entry.variables c.loop-entry.known
    c.circuit.ensures.kept c.requires.room.clauses c.requires.room.variables c.requires.unvalued c.loop-entry.invariant.undone
    c.loop-entry.invariant.variables c.loop-entry.invariant.known c.loop-entry.invariant.meet in
    t.variables_le

pub slice_bounds-meets-end-in-loop-entry-2 : goal.slice_bounds-meets-end-in-loop-entry-2
slice_bounds-meets-end-in-loop-entry-2 c =
    let t : Turn (known_of c.args.p.now) c.args.entries.now c.args.clauses.now c.loop-entry.values c.loop-entry.entry-index c.loop-entry.variables c.loop-entry.known =
    turn c.args.terms.now c.args.p.now c.args.entries.now c.args.clauses.now c.args.values.now c.loop-entry.values c.loop-entry.entry-index c.loop-entry.variables c.loop-entry.known
    c.circuit.ensures.kept c.requires.room.clauses c.requires.room.variables c.requires.unvalued c.loop-entry.invariant.undone
    c.loop-entry.invariant.variables c.loop-entry.invariant.known c.loop-entry.invariant.meet in
    sym (length-take-le c.loop-entry.variables c.loop-entry.values t.variables_le)

pub meets-requires-clause-within : goal.meets-requires-clause-within
meets-requires-clause-within c =
    let t : Turn (known_of c.args.p.now) c.args.entries.now c.args.clauses.now c.loop-entry.values c.loop-entry.entry-index c.loop-entry.variables c.loop-entry.known =
    turn c.args.terms.now c.args.p.now c.args.entries.now c.args.clauses.now c.args.values.now c.loop-entry.values c.loop-entry.entry-index c.loop-entry.variables c.loop-entry.known
    c.circuit.ensures.kept c.requires.room.clauses c.requires.room.variables c.requires.unvalued c.loop-entry.invariant.undone
    c.loop-entry.invariant.variables c.loop-entry.invariant.known c.loop-entry.invariant.meet in
    t.within

pub meets-requires-clause-unvalued : goal.meets-requires-clause-unvalued
meets-requires-clause-unvalued c =
    let t : Turn (known_of c.args.p.now) c.args.entries.now c.args.clauses.now c.loop-entry.values c.loop-entry.entry-index c.loop-entry.variables c.loop-entry.known =
    turn c.args.terms.now c.args.p.now c.args.entries.now c.args.clauses.now c.args.values.now c.loop-entry.values c.loop-entry.entry-index c.loop-entry.variables c.loop-entry.known
    c.circuit.ensures.kept c.requires.room.clauses c.requires.room.variables c.requires.unvalued c.loop-entry.invariant.undone
    c.loop-entry.invariant.variables c.loop-entry.invariant.known c.loop-entry.invariant.meet in
    t.unvalued

pub returns-then-not-meets-clause-exact : goal.returns-then-not-meets-clause-exact
returns-then-not-meets-clause-exact c =
    let t : Turn (known_of c.args.p.now) c.args.entries.now c.args.clauses.now c.loop-entry.values c.loop-entry.entry-index c.loop-entry.variables c.loop-entry.known =
    turn c.args.terms.now c.args.p.now c.args.entries.now c.args.clauses.now c.args.values.now c.loop-entry.values c.loop-entry.entry-index c.loop-entry.variables c.loop-entry.known
    c.circuit.ensures.kept c.requires.room.clauses c.requires.room.variables c.requires.unvalued c.loop-entry.invariant.undone
    c.loop-entry.invariant.variables c.loop-entry.invariant.known c.loop-entry.invariant.meet in
    let here : IsTrue c.meets.result ↔ Meets c.args.terms.now (known_after (known_of c.args.p.now) (take c.loop-entry.entry-index c.args.entries.now)) c.entry-item.result =
    c.meets.ensures.exact (known_after (known_of c.args.p.now) (take c.loop-entry.entry-index c.args.entries.now)) (sym t.long) (sym t.clauses_are) in
    let item : IsTrue c.meets.result ↔ Meets c.args.terms.now (known_after (known_of c.args.p.now) (take c.loop-entry.entry-index c.args.entries.now)) (get_or c.args.entries.now c.loop-entry.entry-index c.entry-item.result) =
    subst (λ (e : Entry). IsTrue c.meets.result ↔ Meets c.args.terms.now (known_after (known_of c.args.p.now) (take c.loop-entry.entry-index c.args.entries.now)) e) c.entry-item.is here in (
      λ t. absurd (grind arith),
      λ accepts. absurd (refused c.args.terms.now c.args.p.now c.args.entries.now c.loop-entry.entry-index c.entry-item.result c.meets.result c.loop-entry-test.true item c.if-not-meets.true accepts),
    )

pub overflow_add-variables : goal.overflow_add-variables
overflow_add-variables c =
    let more = more_variables (known_of c.args.p.now) c.args.entries.now c.loop-entry.entry-index c.loop-entry.variables c.variables_count.result c.entry-item.result
    c.loop-entry-test.true c.entry-item.is c.loop-entry.invariant.variables c.variables_count.ensures in
    omega (arith, more, part_variables (known_of c.args.p.now) c.args.entries.now (c.loop-entry.entry-index + 1), c.requires.room.variables, c.requires.room.numbered)

pub overflow_add-known : goal.overflow_add-known
overflow_add-known c =
    let more = more_clauses (known_of c.args.p.now) c.args.entries.now c.loop-entry.entry-index c.loop-entry.known c.clauses_count-known.result c.entry-item.result
    c.loop-entry-test.true c.entry-item.is c.loop-entry.invariant.known (c.clauses_count-known.ensures (known_after (known_of c.args.p.now) (take c.loop-entry.entry-index c.args.entries.now))) in
    omega (arith, more, part_clauses (known_of c.args.p.now) c.args.entries.now (c.loop-entry.entry-index + 1), ap length c.requires.room.clauses)

pub loop-entry-preserved : goal.loop-entry-preserved
loop-entry-preserved c =
    let t : Turn (known_of c.args.p.now) c.args.entries.now c.args.clauses.now c.loop-entry.values c.loop-entry.entry-index c.loop-entry.variables c.loop-entry.known =
    turn c.args.terms.now c.args.p.now c.args.entries.now c.args.clauses.now c.args.values.now c.loop-entry.values c.loop-entry.entry-index c.loop-entry.variables c.loop-entry.known
    c.circuit.ensures.kept c.requires.room.clauses c.requires.room.variables c.requires.unvalued c.loop-entry.invariant.undone
    c.loop-entry.invariant.variables c.loop-entry.invariant.known c.loop-entry.invariant.meet in
    let here : IsTrue c.meets.result ↔ Meets c.args.terms.now (known_after (known_of c.args.p.now) (take c.loop-entry.entry-index c.args.entries.now)) c.entry-item.result =
    c.meets.ensures.exact (known_after (known_of c.args.p.now) (take c.loop-entry.entry-index c.args.entries.now)) (sym t.long) (sym t.clauses_are) in
    record {
      variables = more_variables (known_of c.args.p.now) c.args.entries.now c.loop-entry.entry-index c.loop-entry.variables c.variables_count.result c.entry-item.result
          c.loop-entry-test.true c.entry-item.is c.loop-entry.invariant.variables c.variables_count.ensures;
      known = more_clauses (known_of c.args.p.now) c.args.entries.now c.loop-entry.entry-index c.loop-entry.known c.clauses_count-known.result c.entry-item.result
          c.loop-entry-test.true c.entry-item.is c.loop-entry.invariant.known (c.clauses_count-known.ensures (known_after (known_of c.args.p.now) (take c.loop-entry.entry-index c.args.entries.now)));
      meet = meet_more c.args.terms.now (known_of c.args.p.now) c.args.entries.now c.loop-entry.entry-index c.entry-item.result c.loop-entry-test.true c.entry-item.is
          c.loop-entry.invariant.meet (here.0 c.if-not-meets.false);
      ends = ends_more (known_of c.args.p.now) c.args.entries.now c.loop-entry.entry-index c.entry-item.result _ c.loop-entry-test.true c.entry-item.is
          (c.gives_empty_clause-ends_empty.ensures (known_after (known_of c.args.p.now) (take c.loop-entry.entry-index c.args.entries.now)));
      undone = front_stays c.loop-entry.values c.meets.new.values c.loop-entry.variables c.meets.ensures.undone ∙ c.loop-entry.invariant.undone;
    }
