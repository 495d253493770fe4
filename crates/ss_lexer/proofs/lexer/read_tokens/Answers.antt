use Rattle.std.proofs.Common.{refl, ap, map}
use Rattle.std.proofs.lemmas.Result.{err_from_is_err_and}
use Rattle.ss_ast.specs.Tokens.{tok}
use Rattle.ss_lexer.specs.Reading.{without_mark}
use Rattle.ss_lexer.proofs.Progress.{begins, step, stops_as, ends, read_as, first_parts, nothing_left}
use Rattle.ss_lexer.proofs.lexer.read_tokens.Goals as goal

pub loop-rest-init : goal.loop-rest-init
loop-rest-init c = begins (without_mark c.args.bytes.now) _ c.without_mark-rest.result.now c.without_mark-rest.ensures refl (ap (map tok) c.new.ensures.items) refl refl

pub loop-rest-preserved : goal.loop-rest-preserved
loop-rest-preserved c =
    let first = first_parts _ c.first_piece-form.result.1 c.loop-rest.rest.now c.split_at.result.0.now c.split_at.result.1.now c.first_piece-form.ensures.first c.split_at.ensures.front c.split_at.ensures.back in
    step (without_mark c.args.bytes.now) c.loop-rest.lexer c.take.new.self _ c.split_at.result.0.now c.loop-rest.rest.now c.split_at.result.1.now first c.loop-rest.invariant c.in_ok-take.field-0 c.in_ok-take.ensures

pub returns-in_err-take : goal.returns-in_err-take
returns-in_err-take c =
    let first = first_parts _ c.first_piece-form.result.1 c.loop-rest.rest.now c.split_at.result.0.now c.split_at.result.1.now c.first_piece-form.ensures.first c.split_at.ensures.front c.split_at.ensures.back in
    let answer = stops_as (Unit {0}) c.args.bytes.now c.loop-rest.lexer c.take.new.self _ c.split_at.result.0.now c.loop-rest.rest.now c.split_at.result.1.now first c.loop-rest.invariant c.in_err-take.field-0.0 c.if-bytes-gt-MAX_BYTES.false c.in_err-take.ensures in
    let p = err_from_is_err_and c.from_residual.result c.from_residual.ensures.1 in rw (p.1, p.2) answer

pub returns : goal.returns
returns c =
    read_as c.args.bytes.now _ c.if-bytes-gt-MAX_BYTES.false
    (ends (without_mark c.args.bytes.now) c.loop-rest.lexer c.loop-rest.rest.now _ c.loop-rest.invariant (nothing_left c.loop-rest.rest.now c.loop-rest-test.ensures) (ap (λ s. s.tokens) c.in_ok-push.ensures.state))
