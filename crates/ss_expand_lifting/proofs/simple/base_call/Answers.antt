use Rattle.std.proofs.Common.{◌≡◌, ℕ, false, ap, ⊎_elim}
use Rattle.std.specs.Prelude.{◌==◌}
use Rattle.std.proofs.lemmas.Bool.Decides.{eqb_tells}
use Rattle.ss_typed.specs.Tree.{arguments}
use Rattle.ss_typed.specs.View.{exprs}
use Rattle.ss_expand_expressions.specs.Sources.{stmts_of}
use Rattle.ss_expand_lifting.specs.Contexts.{context_of}
use Rattle.ss_expand_lifting.proofs.Statements.{no_base, some_base}
use Rattle.ss_expand_lifting.proofs.simple.base_call.Goals as goal

not_zero : (t : ℕ) → (t ≡ 0 → ⊥) → (t == 0) ≡ false
not_zero t h = ⊎_elim (λ d. absurd (h d.1)) (λ d. d.0) (eqb_tells t 0)

pub returns-in_ok-add_ready : goal.returns-in_ok-add_ready
returns-in_ok-add_ready c =
    no_base (context_of c.args.context.now) c.args.place (arguments (exprs c.args.es.now)) c.above_of-above.result.0 _ (stmts_of c.args.code.now.statements) _ c.args.made.now.items
    c.above_of-above.ensures (ap (λ k. k == 0) c.if-above-eq0.true) c.in_ok-add_ready.ensures

pub returns-in_ok-base_with : goal.returns-in_ok-base_with
returns-in_ok-base_with c =
    some_base (context_of c.args.context.now) c.args.place (arguments (exprs c.args.es.now)) c.above_of-above.result.0 _ (stmts_of c.args.code.now.statements) c.args.made.now.items _
    c.above_of-above.ensures (not_zero c.above_of-above.result.0 c.if-above-eq0.false) c.in_ok-base_with.ensures
