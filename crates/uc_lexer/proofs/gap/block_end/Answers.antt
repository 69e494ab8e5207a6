use Rattle.std.proofs.Common.{refl, arith}
use Rattle.std.proofs.lemmas.Bool.{false≢true}
use Rattle.uc_lexer.proofs.Steps.{keeps_start, keeps_more, block_ends, none_ends}
use Rattle.uc_lexer.proofs.gap.block_end.Goals as goal

pub bytes-init : goal.bytes-init
bytes-init c = record { position = c.requires.position; further = omega arith; keeps = keeps_start c.args.text.now c.args.start }

pub returns-then-closes : goal.returns-then-closes
returns-then-closes c =
    let both = c.if-closes.ensures.0 refl in
    let i = c.bytes.invariant in
    rw c.along.ensures (block_ends c.args.text.now c.args.start c.bytes.here i.position i.further (omega arith) i.keeps both.0 both.1)

pub bytes-preserved : goal.bytes-preserved
bytes-preserved c =
    let i = c.bytes.invariant in
    let next = c.behind-here.ensures in
    record {
      position = next.position;
      further = let f = i.further in let n = next.at in omega arith;
      keeps = keeps_more c.args.text.now c.args.start c.bytes.here c.behind-here.result i.keeps (omega arith) next.at (λ p. false≢true (c.if-closes.ensures.1 p));
    }

pub returns : goal.returns
returns c = none_ends c.args.text.now c.args.start c.bytes.here c.bytes-test.false c.bytes.invariant.keeps
