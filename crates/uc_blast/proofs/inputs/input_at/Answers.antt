use Rattle.std.specs.Prelude.{◌≡◌, ◌++◌, true, false, length}
use Rattle.std.proofs.Common.{refl, sym, ap, ◌∙◌, rules}
use Rattle.std.proofs.lemmas.Bool.{false≢true}
use Rattle.uc_ops.specs.Typing.{type_at}
use Rattle.uc_terms.proofs.Grown.{type-node}
use Rattle.uc_blast.specs.Words.{bit_width}
use Rattle.uc_blast.specs.Blasting.{atomic_in}
use Rattle.uc_blast.specs.Walk.{term_bits, variables_from, skipped, asked}
use Rattle.uc_blast.proofs.inputs.input_at.Goals as goal

pub returns-then-not-marked : goal.returns-then-not-marked
returns-then-not-marked c =
    let off : c.args.marked ≡ false = search rules in
    skipped (λ mk. absurd (false≢true (sym off ∙ mk))) refl

pub returns-then-not-is_atomic : goal.returns-then-not-is_atomic
returns-then-not-is_atomic c =
    let composed : c.is_atomic.result ≡ false = search rules in
    skipped (λ mk. ap atomic_in c.node-node.ensures.node ∙ sym c.is_atomic.ensures ∙ composed) refl

pub returns : goal.returns
returns c =
    let marked : c.args.marked ≡ true = search rules in
    let opaque : c.is_atomic.result ≡ true = search rules in
    let before = c.args.atoms.now.items in
    let wide : c.width.result ≡ bit_width (type_at c.args.terms.now c.args.place) =
    c.width.ensures ∙ ap bit_width (sym (type-node c.args.terms.now c.args.place c.node-node.result.now c.node-node.ensures.node)) in
    asked marked (ap atomic_in c.node-node.ensures.node ∙ sym c.is_atomic.ensures ∙ opaque)
    (c.from_vec.ensures ∙ c.in_ok-word.ensures.word ∙ ap (variables_from (length before)) wide)
    (c.in_ok-word.ensures.atoms ∙ ap (λ k. before ++ term_bits k c.width.result) c.term_at.ensures ∙ ap (λ w. before ++ term_bits c.args.place w) wide)
