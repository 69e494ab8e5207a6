use Rattle.std.specs.Prelude.{◌≡◌, true, false}
use Rattle.std.proofs.Common.{refl, sym, ap, ◌∙◌, rules, subst}
use Rattle.std.proofs.lemmas.Bool.{false≢true}
use Rattle.uc_circuit.specs.Building.{size}
use Rattle.uc_blast.specs.Blasting.{atomic_in}
use Rattle.uc_blast.specs.Walk.{passed, computed, IsReady, GivesAt}
use Rattle.uc_blast.proofs.walk.step.Goals as goal

pub returns-then-not-marked : goal.returns-then-not-marked
returns-then-not-marked c =
    let off : c.args.marked ≡ false = search rules in
    passed (λ mk. absurd (false≢true (sym off ∙ mk))) refl refl

pub returns-then-is_atomic : goal.returns-then-is_atomic
returns-then-is_atomic c =
    let opaque : c.is_atomic.result ≡ true = search rules in
    passed (λ mk. ap atomic_in c.node-node.ensures.node ∙ sym c.is_atomic.ensures ∙ opaque) refl refl

pub word_at-requires-clause-ready : goal.word_at-requires-clause-ready
word_at-requires-clause-ready c =
    let marked : c.args.marked ≡ true = search rules in
    let composed : c.is_atomic.result ≡ false = search rules in
    subst (λ ws. IsReady c.args.terms.now (size c.args.gates.now) ws c.args.place) (sym c.as_slice.ensures.value)
    (c.requires.ready marked (ap atomic_in c.node-node.ensures.node ∙ sym c.is_atomic.ensures ∙ composed))

pub returns : goal.returns
returns c =
    let marked : c.args.marked ≡ true = search rules in
    let composed : c.is_atomic.result ≡ false = search rules in
    computed marked (ap atomic_in c.node-node.ensures.node ∙ sym c.is_atomic.ensures ∙ composed) c.word_at.ensures.grows c.in_ok-word.word
    (subst (λ ws. GivesAt c.args.terms.now c.word_at.new.gates ws c.args.place c.in_ok-word.word) c.as_slice.ensures.value c.in_ok-word.ensures.ok) refl
