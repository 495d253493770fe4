use Rattle.std.proofs.Common.{◌≡◌, ◌+◌, length, sym, subst, ap, ◌∙◌, arith, IfOk}
use Rattle.ss_core.specs.View.{local_of}
use Rattle.ss_typed.specs.View as typed
use Rattle.ss_expand_rules.specs.Bodies.{first_copy}
use Rattle.ss_expand_rules.specs.Contracts.{first_param}
use Rattle.std.proofs.lemmas.List.{length-map}
use Rattle.ss_expand_bodies.proofs.numbering.first_copy.Goals as goal

pub returns : goal.returns
returns c =
    let body = c.args.body.now in
    let b = typed.body body in
    let params : c.len.result ≡ length b.params = (let counted : c.len.result ≡ length body.params.items = omega (arith, body.params.ok.0) in counted) ∙ sym (length-map body.params.items typed.param) in
    let locals : c.len-2.result ≡ length b.locals = (let counted : c.len-2.result ≡ length body.locals.items = omega (arith, body.locals.ok.0) in counted) ∙ sym (length-map body.locals.items local_of) in
    let sum : c.in_ok-params.params + c.len-2.result ≡ first_copy b =
    ap (λ n. n + c.len-2.result) (c.in_ok-params.ensures ∙ ap (λ n. n + c.len.result) c.first_param.ensures ∙ ap (λ n. first_param b + n) params)
    ∙ ap (λ n. first_param b + length b.params + n) locals in
    subst (λ k. IfOk c.plus-2.result (λ n. n ≡ k)) sum c.plus-2.ensures
