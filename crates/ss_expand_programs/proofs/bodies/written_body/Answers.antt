use Rattle.std.proofs.Common.{◌≡◌, ◌++◌, map, length, ap, ◌∙◌, arith, Bor}
use Rattle.std.specs.Prelude.{string_bytes}
use Rattle.ss_core.specs.View.{exprs, local_of, named_of, code_of}
use Rattle.ss_typed.specs.declared.body.TypedBody.{TypedBody}
use Rattle.ss_typed.specs.View as typed
use Rattle.ss_expand_rules.specs.Numbers.{uncopied}
use Rattle.ss_expand_rules.specs.Contracts.{entry_conditions, exit_conditions, named_terms}
use Rattle.ss_expand_rules.specs.Bodies as bodies
use Rattle.ss_expand_rules.specs.Bodies.{numbers, param_of, copies, temporaries_from, temporary_types, contract_numbers, copying, code_with, core_flags}
use Rattle.ss_expand_expressions.specs.Sources.{stmts_of}
use Rattle.ss_expand_expressions.specs.Views.{numbers_of}
use Rattle.ss_expand_programs.proofs.Wholes.{same_body}
use Rattle.ss_expand_programs.proofs.bodies.written_body.Goals as goal

pub returns : goal.returns
returns c =
    let p = typed.typed c.args.program.now in
    let b = typed.body c.args.body.now in
    let bs = map (λ (d : Bor TypedBody). typed.body d.now) c.args.declared.now in
    let types : c.in_ok-types.types.items ≡ temporary_types p b = c.in_ok-types.ensures in
    let counted : c.len.result ≡ length c.in_ok-types.types.items = omega (arith, c.in_ok-types.types.ok.0) in
    let again : c.len-2.result ≡ length c.in_ok-types.types.items = omega (arith, c.in_ok-types.types.ok.0) in
    let ns : numbers_of c.in_ok-numbers.numbers ≡ contract_numbers p b = c.in_ok-numbers.ensures ∙ ap (λ n. uncopied (numbers b n)) (again ∙ ap length types) in
    let name : string_bytes c.in_ok-clone.field-0 ≡ b.name = c.in_ok-clone.ensures.cases in
    let params : map local_of c.in_ok-params_of.field-0.items ≡ map param_of b.params =
    c.in_ok-params_of.ensures ∙ ap (λ ps. map param_of (map typed.param ps)) c.deref.ensures.value in
    let locals : map local_of c.in_ok-locals_of.field-0.items ≡ b.locals ++ copies b ++ temporaries_from 0 (temporary_types p b) =
    c.in_ok-locals_of.ensures ∙ ap (λ ts. b.locals ++ copies b ++ temporaries_from 0 ts) (c.deref-2.ensures.value ∙ types) in
    let entry : exprs c.in_ok-contract.contract.entry.items ≡ entry_conditions (contract_numbers p b) b.place b b.class bs =
    c.in_ok-contract.ensures.entry ∙ ap (λ n. entry_conditions n b.place b b.class bs) ns in
    let exit : exprs c.in_ok-contract.contract.exit.items ≡ exit_conditions (contract_numbers p b) b.place b b.class bs =
    c.in_ok-contract.ensures.exit ∙ ap (λ n. exit_conditions n b.place b b.class bs) ns in
    let named : map named_of c.in_ok-contract.contract.named.items ≡ named_terms (contract_numbers p b) b.place b b.class bs =
    c.in_ok-contract.ensures.named ∙ ap (λ n. named_terms n b.place b b.class bs) ns in
    let flags : c.core_flags.result ≡ core_flags b.flags = c.core_flags.ensures in
    let code : code_of (stmts_of c.in_ok-code.code) ≡ code_of (bodies.code p b) =
    ap code_of (c.in_ok-code.ensures ∙ ap (λ n. copying b ++ (code_with p b n).code) (counted ∙ ap length types)) in
    same_body b.class _ _ _ _ _ _ b.result _ _ _ _ _ _ _ _ _ _ b.place name params locals entry exit named flags code
