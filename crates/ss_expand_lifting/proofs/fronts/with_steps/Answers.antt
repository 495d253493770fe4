use Rattle.std.proofs.Common.{◌≡◌, false, length, sym, ap, subst, ◌∙◌, refl}
use Rattle.ss_typed.specs.Tree.{ExprTree}
use Rattle.ss_expand_rules.specs.Calls.{is_lazy}
use Rattle.ss_typed.specs.Shapes.{place_of}
use Rattle.ss_expand_rules.specs.Numbers.{plain}
use Rattle.ss_expand_rules.specs.Lifting.{Pure}
use Rattle.ss_typed.specs.Parts.{stepped}
use Rattle.ss_expand_expressions.specs.Sources.{stmts_of, source_of}
use Rattle.ss_expand_expressions.specs.Operands.{IsOperand}
use Rattle.ss_typed.proofs.Grouping.{path_alone, path_some}
use Rattle.ss_expand_lifting.proofs.Links.{plain_source, plain_lifted, step_form_place, step_form_lazy}
use Rattle.ss_expand_lifting.proofs.fronts.with_steps.Goals as goal

pub returns : goal.returns
returns c = λ s e before types code made n h no none.
    let p = c.args.place in
    let steps = c.args.steps.now in
    let first : source_of c.args.operand.source ≡ Pure (plain s.numbers e) = plain_source s e before (stmts_of code) types made.items (source_of c.args.operand.source) h.lifted no in
    let now = c.in_ok-source.ensures e (first ∙ ap (λ ns. Pure (plain ns e)) n) ∙ ap (λ ns. Pure (plain ns (stepped p e steps))) (sym n) in
    record {
      lifted = plain_lifted s e (stepped p e steps) before (stmts_of code) types made.items _ _ h.lifted no none now;
      place = sym (path_some place_of (λ q. q) step_form_place p e steps (length steps) refl c.if-is_empty.ensures);
      ty = sym (c.path_type.ensures p e (sym h.ty));
      calls = sym none;
      lazy = sym (path_some is_lazy (λ q. false) step_form_lazy p e steps (length steps) refl c.if-is_empty.ensures);
    }

pub returns-then-is_empty : goal.returns-then-is_empty
returns-then-is_empty c = λ s e before types code made n h no none.
    let P : ExprTree → Type 0 = λ x. IsOperand s x before types code made c.args.operand in
    subst P (sym (path_alone c.args.place e c.args.steps.now (length c.args.steps.now) refl c.if-is_empty.ensures)) h
