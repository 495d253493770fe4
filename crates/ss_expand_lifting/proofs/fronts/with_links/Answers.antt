use Rattle.std.proofs.Common.{◌≡◌, ◌-◌, length, Some, sym, ap, subst, ◌∙◌}
use Rattle.std.specs.Prelude.{slice_get}
use Rattle.ss_typed.specs.Tree.{ExprTree}
use Rattle.ss_typed.specs.Types.{type_of}
use Rattle.ss_expand_rules.specs.Calls.{is_lazy}
use Rattle.ss_typed.specs.Shapes.{place_of}
use Rattle.ss_expand_rules.specs.Numbers.{plain}
use Rattle.ss_expand_rules.specs.Lifting.{Pure}
use Rattle.ss_typed.specs.Parts.{linked}
use Rattle.ss_expand_expressions.specs.Sources.{stmts_of, source_of}
use Rattle.ss_expand_expressions.specs.Operands.{IsOperand}
use Rattle.ss_typed.proofs.Grouping.{chain_last_none, chain_last_some}
use Rattle.ss_expand_lifting.proofs.Links.{plain_source, plain_lifted, link_place}
use Rattle.ss_expand_lifting.proofs.fronts.with_links.Goals as goal

pub returns-in_ok-source-in-Some : goal.returns-in_ok-source-in-Some
returns-in_ok-source-in-Some c = λ s e before types code made n h no none.
    let p = c.args.place in
    let links = c.args.links.now in
    let last = c.in-Some.last.now in
    let at : Some last ≡ slice_get links (length links - 1) = c.in-Some.ensures.value in
    let first : source_of c.args.operand.source ≡ Pure (plain s.numbers e) = plain_source s e before (stmts_of code) types made.items (source_of c.args.operand.source) h.lifted no in
    let now = c.in_ok-source-in-Some.ensures e (first ∙ ap (λ ns. Pure (plain ns e)) n) ∙ ap (λ ns. Pure (plain ns (linked p e links))) (sym n) in
    record {
      lifted = plain_lifted s e (linked p e links) before (stmts_of code) types made.items _ _ h.lifted no none now;
      place = sym (chain_last_some place_of p p e links last at (λ b. link_place last p b));
      ty = sym (chain_last_some type_of (Some c.link_type.result) p e links last at (λ b. c.link_type.ensures p b));
      calls = sym none;
      lazy = sym (chain_last_some is_lazy c.is_lazy_link.result p e links last at (λ b. c.is_lazy_link.ensures p b));
    }

pub returns-in-None : goal.returns-in-None
returns-in-None c = λ s e before types code made n h no none.
    let P : ExprTree → Type 0 = λ x. IsOperand s x before types code made c.args.operand in
    subst P (sym (chain_last_none c.args.place e c.args.links.now c.in-None.ensures.value)) h
