use Rattle.std.proofs.Common.{◌≡◌, ap, length, List, subst, sym, ◌∙◌}
use Rattle.std.specs.Prelude.{slice_get}
use Rattle.std.specs.List.{list_any}
use Rattle.uc_syntax.specs.declared.declaration.Decl.{Decl}
use Rattle.uc_meaning.specs.Lookup.{System}
use Rattle.uc_names.specs.Senses.{module_in}
use Rattle.uc_graph.specs.Reached.{IsReached}
use Rattle.uc_cycles.specs.Uses.{defines_name}
use Rattle.uc_cycles.proofs.Naming.{reading_known}
use Rattle.uc_cycles.proofs.reading.reading_defines.Goals as goal

pub returns : goal.returns
returns c =
    let m = module_in c.args.homes.now.modules c.args.home in
    let ds = c.declarations_of-declarations.result.now in
    let are : ds ≡ m.decls = c.declarations_of-declarations.ensures ∙ ap (λ (s : System). (module_in s.modules c.args.home).decls) c.design.ensures in
    reading_known c.args.homes.now m c.in_ok-uses.uses (length ds) c.in_ok-left.left c.in_ok-found.found c.in_ok-names.names
    (record {
      all = ap (λ (xs : List Decl). length xs) are;
      uses = c.in_ok-uses.ensures;
      open_all = c.in_ok-left.ensures;
      reached = subst (λ us. IsReached us c.in_ok-left.left c.in_ok-uses.uses.direct c.in_ok-found.found) c.as_slice.ensures (subst (λ ns. IsReached c.as_slice.result.now c.in_ok-left.left ns c.in_ok-found.found) c.as_slice-2.ensures c.in_ok-found.ensures.reached);
      named = λ x. c.in_ok-names.ensures x ∙ ap (λ ns. list_any (λ k. defines_name x (slice_get ds k)) ns) c.as_slice-3.ensures ∙ ap (λ (xs : List Decl). list_any (λ k. defines_name x (slice_get xs k)) c.in_ok-found.found) are;
    })
