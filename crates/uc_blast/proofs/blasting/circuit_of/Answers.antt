use Rattle.std.specs.Prelude.{◌<◌, [], ◌∷◌, length, slice_index_or}
use Rattle.std.proofs.Common.{sym, ap, ◌∙◌, subst}
use Rattle.std.proofs.lemmas.List.Elements.{All-cons, All-nil}
use Rattle.uc_terms.specs.Subterms.{AreSubterms}
use Rattle.uc_blast.specs.Blasting.{AreBits}
use Rattle.uc_blast.specs.Walk.{word_of}
use Rattle.uc_blast.proofs.Standing.{goal-stands}
use Rattle.uc_blast.proofs.blasting.circuit_of.Goals as goal

pub subterms-requires : goal.subterms-requires
subterms-requires c = All-cons (λ x. x < length c.args.terms.now) c.args.t [] c.requires.there (All-nil (λ x. x < length c.args.terms.now))

pub make_inputs-requires-clause-marks : goal.make_inputs-requires-clause-marks
make_inputs-requires-clause-marks c = subst (AreSubterms c.args.terms.now (c.args.t ∷ [])) (sym c.as_slice-marked.ensures.value) c.in_ok-marks.ensures

pub build-requires-clause-marks : goal.build-requires-clause-marks
build-requires-clause-marks c = subst (AreSubterms c.args.terms.now (c.args.t ∷ [])) (sym c.as_slice-marked.ensures.value) c.in_ok-marks.ensures

pub returns : goal.returns
returns c =
    let nodes = c.args.terms.now in
    let marks = c.as_slice-marked.result.now in
    let sub = subst (AreSubterms nodes (c.args.t ∷ [])) (sym c.as_slice-marked.ensures.value) c.in_ok-marks.ensures in
    let standing = c.in_ok-built.ensures.stands in
    record {
      b = c.in_ok-built.built.gates;
      is = c.in_ok-circuit.ensures;
      ordered = c.len-ordered.ensures.ordered;
      inputs = standing.inputs;
      goal = goal-stands nodes c.args.t marks c.in_ok-built.built.atoms.items c.in_ok-built.built.gates c.in_ok-built.built.words.items c.word_at-root.result.now c.truth-goal.result c.requires sub standing
          (c.word_at-root.ensures ∙ ap (λ ws. slice_index_or ws c.index.result []) c.as_slice-words.ensures.value ∙ ap (word_of c.in_ok-built.built.words.items) c.index.ensures) c.truth-goal.ensures;
      bits = subst (AreBits nodes c.args.t) (sym c.in_ok-built.ensures.atoms) c.in_ok-inputs.ensures.bits;
    }
