use Rattle.std.proofs.Common.{◌≡◌, map, length, sym, ap, ◌∙◌, arith, Bor}
use Rattle.std.specs.Prelude.{string_bytes}
use Rattle.ss_core.specs.View.{exprs, local_of, named_of, code_of}
use Rattle.ss_typed.specs.declared.body.TypedBody.{TypedBody}
use Rattle.ss_typed.specs.View as typed
use Rattle.ss_expand_rules.specs.Contracts.{entry_conditions, exit_conditions, named_terms}
use Rattle.ss_expand_rules.specs.Bodies.{param_of, temporaries_from, wrapper_types, wrapper_numbers, wrapper_flags}
use Rattle.ss_expand_expressions.specs.Sources.{stmts_of}
use Rattle.ss_expand_expressions.specs.Views.{numbers_of}
use Rattle.ss_expand_programs.specs.Inherited.{inherited_code}
use Rattle.ss_expand_programs.proofs.Wholes.{same_body}
use Rattle.ss_expand_programs.proofs.inherited.wrapper_body.Goals as goal

pub returns : goal.returns
returns c =
    let p = typed.typed c.args.program.now in
    let b = typed.body c.args.inherited.body.now in
    let t = c.args.inherited.class.0 in
    let place = c.args.place in
    let bs = map (λ (d : Bor TypedBody). typed.body d.now) c.args.declared.now in
    let types : c.in_ok-types.types.items ≡ wrapper_types t b.result = c.in_ok-types.ensures in
    let counted : c.len.result ≡ length c.in_ok-types.types.items = omega (arith, c.in_ok-types.types.ok.0) in
    let ns : numbers_of c.in_ok-numbers.numbers ≡ wrapper_numbers b t = c.in_ok-numbers.ensures t (sym (counted ∙ ap length types)) in
    let name : string_bytes c.in_ok-clone.field-0 ≡ b.name = c.in_ok-clone.ensures.cases in
    let params : map local_of c.in_ok-params_of.field-0.items ≡ map param_of b.params =
    c.in_ok-params_of.ensures ∙ ap (λ ps. map param_of (map typed.param ps)) c.deref.ensures.value in
    let locals : map local_of c.in_ok-temporaries_of.field-0.items ≡ temporaries_from 0 (wrapper_types t b.result) =
    c.in_ok-temporaries_of.ensures ∙ ap (temporaries_from 0) (c.deref-2.ensures.value ∙ types) in
    let entry : exprs c.in_ok-contract.contract.entry.items ≡ entry_conditions (wrapper_numbers b t) place b t bs =
    c.in_ok-contract.ensures.entry ∙ ap (λ n. entry_conditions n place b t bs) ns in
    let exit : exprs c.in_ok-contract.contract.exit.items ≡ exit_conditions (wrapper_numbers b t) place b t bs =
    c.in_ok-contract.ensures.exit ∙ ap (λ n. exit_conditions n place b t bs) ns in
    let named : map named_of c.in_ok-contract.contract.named.items ≡ named_terms (wrapper_numbers b t) place b t bs =
    c.in_ok-contract.ensures.named ∙ ap (λ n. named_terms n place b t bs) ns in
    let flags : c.wrapper_flags.result ≡ wrapper_flags = c.wrapper_flags.ensures in
    let code : code_of (stmts_of c.in_ok-code.code) ≡ code_of (inherited_code p place t c.args.inherited.method b) = ap code_of c.in_ok-code.ensures in
    same_body t _ _ _ _ _ _ b.result _ _ _ _ _ _ _ _ _ _ place name params locals entry exit named flags code
