use Rattle.std.proofs.Common.{◌≡◌, ◌+◌, ◌++◌, length, map, subst, ap, ◌∙◌, IfOk}
use Rattle.ss_typed.specs.View as typed
use Rattle.ss_expand_rules.specs.Bodies.{first_copy, meant, meant_from, this_meant, assigned_from, assigned_params, numbers_from}
use Rattle.ss_expand_rules.specs.Contracts.{first_param}
use Rattle.ss_expand_expressions.specs.Views.{numbers_of}
use Rattle.ss_expand_bodies.proofs.numbering.numbers.Goals as goal

pub returns : goal.returns
returns c =
    let b = typed.body c.args.body.now in
    let before = c.add_this.new.meant.items in
    let params = map typed.param c.deref.result.now in
    let first = c.first_param.result in
    let listed : c.add_meant.new.meant.items ≡ meant b =
    c.in_ok-first.ensures.added
    ∙ ap (λ k. before ++ meant_from b.block k first params) c.in_ok-copy.ensures
    ∙ ap (λ x. before ++ meant_from b.block (first_copy b) x params) c.first_param.ensures
    ∙ ap (λ ps. before ++ meant_from b.block (first_copy b) (first_param b) (map typed.param ps)) c.deref.ensures.value
    ∙ ap (λ is. is ++ meant_from b.block (first_copy b) (first_param b) b.params) (c.in_ok-add_this.ensures ∙ ap (λ is. is ++ this_meant b) c.new-meant.ensures.items) in
    let behind : c.in_ok-first.first ≡ first_copy b + length (assigned_params b) =
    c.in_ok-first.ensures.next
    ∙ ap (λ k. k + length (assigned_from b.block first params)) c.in_ok-copy.ensures
    ∙ ap (λ x. first_copy b + length (assigned_from b.block x params)) c.first_param.ensures
    ∙ ap (λ ps. first_copy b + length (assigned_from b.block (first_param b) (map typed.param ps))) c.deref.ensures.value in
    let same = ap (λ ms. numbers_from ms c.in_ok-first.first c.args.temporaries b.result) listed ∙ ap (λ k. numbers_from (meant b) k c.args.temporaries b.result) behind in
    subst (λ ns. IfOk c.numbers_from.result (λ r. numbers_of r ≡ ns)) same c.numbers_from.ensures
