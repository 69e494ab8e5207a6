use Rattle.std.proofs.Common.{fold, sym, subst, arith}
use Rattle.uc_front.specs.Sources.{texts_of}
use Rattle.uc_front.specs.Denotes.{with_source}
use Rattle.uc_front.specs.Refused.{IsUnspelled}
use Rattle.uc_front.specs.Errors.{IsTextError}
use Rattle.uc_front.proofs.Lists.{map_at, text_within}
use Rattle.uc_front.proofs.Texts.{lexed_at}
use Rattle.uc_front.proofs.Names.{sources_more}
use Rattle.uc_front.proofs.Spelled.{source_at, spelled_more, parsed_refused}
use Rattle.uc_front.proofs.parsing.parse_all.Goals as goal

pub parse-requires-clause-small : goal.parse-requires-clause-small
parse-requires-clause-small c =
    let at = source_at c.args.sources.now c.loop-number.number c.index-sources-number.result c.as_slice-text.result.now c.as_slice-tokens.result.now c.loop-number-test.true c.index-sources-number.is c.as_slice-text.ensures c.as_slice-tokens.ensures in
    omega (arith, text_within (texts_of c.args.sources.now) c.loop-number.number c.as_slice-text.result.now (map_at (λ s. s.text) c.args.sources.now c.loop-number.number _ at), c.requires.within)

pub parse-requires-clause-tokens : goal.parse-requires-clause-tokens
parse-requires-clause-tokens c =
    let at = source_at c.args.sources.now c.loop-number.number c.index-sources-number.result c.as_slice-text.result.now c.as_slice-tokens.result.now c.loop-number-test.true c.index-sources-number.is c.as_slice-text.ensures c.as_slice-tokens.ensures in
    lexed_at c.args.sources.now c.loop-number.number _ c.requires.lexed at

pub returns-in-Err-clause-refused : goal.returns-in-Err-clause-refused
returns-in-Err-clause-refused c =
    let at = source_at c.args.sources.now c.loop-number.number c.index-sources-number.result c.as_slice-text.result.now c.as_slice-tokens.result.now c.loop-number-test.true c.index-sources-number.is c.as_slice-text.ensures c.as_slice-tokens.ensures in
    subst (λ e. IsTextError (IsUnspelled (fold with_source c.args.names.now c.args.sources.now) c.args.sources.now) e) (sym c.syntactic.ensures)
    (parsed_refused c.loop-number.names c.parse.new.names _ c.args.sources.now c.loop-number.number _ c.loop-number.modules c.in-Err.error at c.loop-number.invariant.names c.loop-number.invariant.spelled c.in-Err.ensures.names c.in-Err.ensures.parsed)

pub loop-number-preserved : goal.loop-number-preserved
loop-number-preserved c =
    let at = source_at c.args.sources.now c.loop-number.number c.index-sources-number.result c.as_slice-text.result.now c.as_slice-tokens.result.now c.loop-number-test.true c.index-sources-number.is c.as_slice-text.ensures c.as_slice-tokens.ensures in
    let so_far = c.loop-number.invariant in
    let parsed = c.in-Ok.ensures in
    record {
      names = sources_more c.loop-number.names c.parse.new.names _ c.args.sources.now c.loop-number.number _ at so_far.names parsed.names;
      spelled = spelled_more c.loop-number.names c.parse.new.names _ c.args.sources.now c.loop-number.number _ c.loop-number.modules c.in-Ok.found c.append.new.self at so_far.names so_far.spelled parsed.names parsed.parsed c.in_ok-append.ensures;
    }
