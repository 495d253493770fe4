use Rattle.std.proofs.Common.{◌≡◌, [], ◌∷◌, ◌++◌, length, ap, sym, subst, ◌∙◌, append_assoc, arith, codes, OnOk}
use Rattle.ss_core.specs.View as view
use Rattle.ss_report_names.specs.Names.{local_names}
use Rattle.ss_report_core.specs.Exprs.{expr_text}
use Rattle.ss_report_core.specs.Afters.{word_before, word_after}
use Rattle.ss_report_names.specs.Tables.{texts}
use Rattle.ss_report_names.specs.Contexts.{classes_of, names_in}
use Rattle.ss_report_core.proofs.ExprTexts.{chain_done, path_done, quantified_done, state_done, owners_done}
use Rattle.ss_report_core.proofs.Written.{three_written}
use Rattle.ss_report_core.proofs.exprs.+expr.Goals as goal

pub push_expr-returns-in_ok-push_opened-in-Chain : goal.push_expr-returns-in_ok-push_opened-in-Chain
push_expr-returns-in_ok-push_opened-in-Chain t c =
    let a = c.in-Chain in
    let s = c.args.context.now in
    let counted : c.len.result ≡ length a.links.items = omega (arith, a.links.ok.0) in
    chain_done _ (classes_of s.program.now) (names_in s) a.field-0 a.first a.links _ _ _ _ _ _ _ a.is counted c.deref-in-Chain.ensures c.deref-in-Chain-2.ensures.value
    c.in_ok-push_opened-in-Chain.ensures c.push_links.ensures

pub push_expr-returns-in_ok-push_expr-in-Path : goal.push_expr-returns-in_ok-push_expr-in-Path
push_expr-returns-in_ok-push_expr-in-Path t c =
    let a = c.in-Path in
    let s = c.args.context.now in
    path_done _ (classes_of s.program.now) (names_in s) a.field-0 a.first a.steps _ _ _ _ _ _ a.is c.deref-in-Path.ensures c.deref-in-Path-2.ensures.value
    c.in_ok-push_expr-in-Path.ensures c.push_steps.ensures

pub push_expr-returns-in_ok-push_expr-in-Quantified : goal.push_expr-returns-in_ok-push_expr-in-Quantified
push_expr-returns-in_ok-push_expr-in-Quantified t c =
    let a = c.in-Quantified in
    let s = c.args.context.now in
    quantified_done _ (classes_of s.program.now) (names_in s) a.field-0 a.quantifier a.name a.low a.high a.member _ _ _ _ _ _ _ _ _ _
    a.is c.deref-in-Quantified.ensures c.deref-in-Quantified-2.ensures c.deref-in-Quantified-3.ensures c.deref-in-Quantified-4.ensures c.deref-in-Quantified-5.ensures
    c.in_ok-push_low-in-Quantified.ensures c.in_ok-push_expr-in-Quantified.ensures c.push_member.ensures

pub push_expr-returns-in-State : goal.push_expr-returns-in-State
push_expr-returns-in-State t c =
    let a = c.in-State in
    let s = c.args.context.now in
    state_done _ (classes_of s.program.now) (names_in s) a.field-0 a.word a.a _ _ _ _ a.is c.deref-in-State.ensures c.push_state.ensures

pub push_expr-returns-in_ok-push_between-in-Owners : goal.push_expr-returns-in_ok-push_between-in-Owners
push_expr-returns-in_ok-push_between-in-Owners t c =
    let a = c.in-Owners in
    let s = c.args.context.now in
    owners_done _ (classes_of s.program.now) (names_in s) a.field-0 a.test a.a a.b _ _ _ _ _ _ _ a.is c.deref-in-Owners.ensures c.deref-in-Owners-2.ensures c.owners_before.ensures
    c.in_ok-push_between-in-Owners.ensures c.push_owned.ensures

pub push_state-returns : goal.push_state-returns
push_state-returns t c =
    let s = c.args.context.now in
    let cs = classes_of s.program.now in
    let before = word_before (view.word_tree c.args.word) in
    let asked = expr_text cs (names_in s) (view.expr c.args.e.now) in
    let rest = word_after cs (view.word_tree c.args.word) in
    three_written _ _ _ _ _ before asked rest _ (c.in_ok-extend_from_slice.ensures.items ∙ ap (λ t. c.args.out.now.items ++ t) c.word_before.ensures) c.in_ok-push_expr.ensures (append_assoc before asked rest) c.push_word.ensures

pub push_member-returns : goal.push_member-returns
push_member-returns t c =
    let s = c.args.context.now in
    let cs = classes_of s.program.now in
    let ls = local_names (view.body s.locals.now.body.now) in
    let more : ls ++ texts c.deref.result.now ≡ (ls ++ texts s.bound.now) ++ c.args.name.now ∷ [] = ap (λ ns. ls ++ texts ns) c.deref.ensures.value ∙ ap (λ ns. ls ++ ns) c.in_ok-bound.ensures ∙ sym (append_assoc ls (texts s.bound.now) (c.args.name.now ∷ [])) in
    subst (λ names. OnOk c.push_between.result (c.push_between.new.out.items ≡ c.args.out.now.items ++ (codes "); " ++ expr_text cs names (view.expr c.args.member.now) ++ codes "}"))) more c.push_between.ensures
