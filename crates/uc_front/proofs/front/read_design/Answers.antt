use Rattle.std.proofs.Common.{◌≡◌, ap, ◌∙◌, subst, sym}
use Rattle.uc_front.specs.Sources.{words_of, texts_of, AreLexed}
use Rattle.uc_front.proofs.Refusing.{ends_building, sources_are}
use Rattle.uc_front.proofs.front.read_design.Goals as goal

pub returns-clause-refused : goal.returns-clause-refused
returns-clause-refused g c told =
    let held = g.X.Texts.held c.args.texts.now in
    let files = words_of c.args.files.now in
    let texts = ap texts_of c.as_slice.ensures ∙ c.in_ok-sources.ensures.texts in
    ends_building held files c.as_slice.result.now c.design_of.result
    (record { are_texts = sources_are held files _ c.as_slice.result.now (c.in_ok-found.ensures.read told) texts; are_lexed = subst (AreLexed 0) (sym c.as_slice.ensures) c.in_ok-sources.ensures.lexed })
    c.design_of.ensures.refused
