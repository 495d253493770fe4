use Rattle.std.proofs.Common.{ap, ◌∙◌}
use Rattle.std.specs.Prelude.{ℕ, option_map}
use Rattle.ss_typed.specs.View.{expr}
use Rattle.ss_expand_rules.specs.Lifting.{Opened}
use Rattle.ss_expand_expressions.specs.Sources.{stmts_of}
use Rattle.ss_expand_lifting.specs.Contexts.{context_of}
use Rattle.ss_expand_programs.specs.Opening.{opened_by}
use Rattle.ss_expand_programs.proofs.Codes.{opened_code}
use Rattle.ss_expand_programs.proofs.exposing.open.Goals as goal

pub returns-clause-coded : goal.returns-clause-coded
returns-clause-coded c =
    let t = option_map (λ u. u.0) c.args.class in
    opened_code (context_of c.args.context.now) c.args.place (expr c.args.e.now) t (stmts_of c.args.code.now.statements) (stmts_of c.put_object.new.code.statements) (stmts_of c.add_unpack.new.code.statements)
    c.args.made.now.items c.put_object.new.made.items c.in_ok-local.local c.exposed_class-class.result.0
    c.in_ok-local.ensures.kept c.in_ok-local.ensures.number c.exposed_class-class.ensures c.in_ok-add_unpack.ensures

pub returns-clause-opened : goal.returns-clause-opened
returns-clause-opened c =
    let s = context_of c.args.context.now in
    let u = opened_by s c.args.place (expr c.args.e.now) (option_map (λ u. u.0) c.args.class) c.args.made.now.items in
    let at = λ (x : ℕ) (k : ℕ). let o : Opened = record { place = c.args.place; local = x; class = k } in o in
    ap (λ x. at x c.exposed_class-class.result.0) c.in_ok-local.ensures.number ∙ ap (λ k. at u.local k) c.exposed_class-class.ensures
