use Rattle.std.proofs.Common.{◌≡◌, [], sym, ◌∙◌, ap, Some, None}
use Rattle.std.specs.Prelude.{slice_get}
use Rattle.std.proofs.lemmas.Option.{slice_get-get_or, slice_get_past}
use Rattle.std.proofs.lemmas.Result.{IfOk-weaker}
use Rattle.ss_logic.specs.Terms.{Null, app}
use Rattle.ss_logic.specs.Express as spec
use Rattle.ss_terms.specs.Forms.{term_at, HasTerm}
use Rattle.ss_vcgen_express.specs.declared.meant.Meant.TheVariants as meant
use Rattle.ss_vcgen_express.specs.Numbers.{IsMeant}
use Rattle.ss_vcgen_express.specs.Contexts.{context_at}
use Rattle.ss_vcgen_express.proofs.Contexts.{HasTerms-get, local_found, local_past}
use Rattle.ss_vcgen_express.proofs.context.local_term.Goals as goal

pub returns-in-Some-clause-at : goal.returns-in-Some-clause-at
returns-in-Some-clause-at c =
    let h = c.in-Some.ensures.lookup in
    let e : slice_get c.args.context.now.locals.items c.args.x ≡ Some c.in-Some.t.now =
    ap (λ l. slice_get l c.args.x) (sym c.deref.ensures.value) ∙ slice_get-get_or c.deref.result.now c.args.x c.in-Some.t.now h.3.0 ∙ ap (λ t. Some t) (sym h.1) in
    record {
      has = HasTerms-get c.args.bank.now c.args.context.now.locals.items c.args.x c.in-Some.t.now c.requires.locals e;
      is = λ b k. local_found b c.args.context.now c.args.x c.in-Some.t.now e;
    }

pub returns-in-None-clause-at : goal.returns-in-None-clause-at
returns-in-None-clause-at c =
    let h = c.in-None.ensures.lookup in
    let e : slice_get c.args.context.now.locals.items c.args.x ≡ None = ap (λ l. slice_get l c.args.x) (sym c.deref.ensures.value) ∙ slice_get_past c.deref.result.now c.args.x h.3 in
    IfOk-weaker c.null.result (λ t. HasTerm c.null.new.self t × (term_at c.null.new.self t ≡ app Null [])) (λ t. IsMeant c.null.new.self (meant.One t) (λ b. spec.local_meant (context_at b c.args.context.now) c.args.x))
    (λ t p. record { has = p.0; is = λ b k. local_past b c.args.context.now c.args.x t e (k.same_terms t p.0 ∙ p.1) }) c.null.ensures.at
