-- A type mentions only what its words mention.
use Rattle.std.proofs.Common.{Bool, Option, Some, None}
use Rattle.uc_forms.specs.Form.{deep}
use Rattle.uc_forms.specs.Spelling.{Language}
use Rattle.uc_syntax.specs.declared.place.Identifier.{Identifier}
use Rattle.uc_syntax.specs.Mentions.{Mention}
use Rattle.uc_syntax.proofs.Mentions.{mentions_boolean, mentions_integer, mentions_bits, mentions_enumeration, mentions_record, mentions_named, mentions_of_module}
use Rattle.uc_grammar.specs.declared.word.Word.{Word}
use Rattle.uc_grammar.specs.Code.{name_in, width_in}
use Rattle.uc_grammar.specs.Syntax.{words, Nested, Value, enum_braces, record_braces, array, named_type, ty, parameter}
use Rattle.uc_words.proofs.Yields.{OnSome, NamePasses, IdPasses, Yields, a_word, and_then, makes, behind, once_or_not, ◌<or>◌, a_named_word, an_id, a_new_id}
use Rattle.uc_words.proofs.Passing.{TypePasses, ParameterPasses, NestedPasses, no_mention, one_then, one_alone, id_alone, same, ids, parameters}

module _ (test : Mention → Bool) (L : Language words Nested Value) (nested : (n : Nested) → Yields test L (deep n) (NestedPasses test n)) where
  named_type_passes : (w : Word) (o : Option Identifier) → NamePasses test w → OnSome (IdPasses test) o → TypePasses test (named_type (w, o))
  named_type_passes w (Some i) n h = same (mentions_of_module w.place (name_in w.kind) i) (one_then n.0 (one_then n.1 (id_alone h)))
  named_type_passes w None n h = same (mentions_named w.place (name_in w.kind)) (one_then n.0 (one_then n.1 no_mention))

  pub type_passes : Yields test L ty (TypePasses test)
  unfolding ty
  type_passes = makes a_word (λ w h. same (mentions_boolean w.place) (one_alone h))
      <or> makes a_word (λ w h. same (mentions_integer w.place) (one_alone h))
      <or> makes a_word (λ w h. same (mentions_bits w.place (width_in w.kind)) (one_alone h))
      <or> makes (and_then a_word (nested enum_braces)) (λ x h. same (mentions_enumeration x.0.place x.1) (one_then h.0 (ids h.1)))
      <or> makes (and_then a_word (nested record_braces)) (λ x h. same (mentions_record x.0.place x.1) (one_then h.0 (parameters h.1)))
      <or> nested array
      <or> makes (and_then a_named_word (once_or_not (behind an_id))) (λ x h. named_type_passes x.0 x.1 h.0 h.1)

  pub parameter_passes : Yields test L parameter (ParameterPasses test)
  parameter_passes = makes (and_then a_new_id (behind type_passes)) (λ x h. h)
