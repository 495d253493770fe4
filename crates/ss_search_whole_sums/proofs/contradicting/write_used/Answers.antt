use Rattle.std.proofs.Common.{◌≡◌, ◌∙◌, length, ap, refl, arith, rules}
use Rattle.std.proofs.lemmas.Grind.{common_steps}
use Rattle.std.proofs.lemmas.Result.{on_ok_weaker}
use Rattle.ss_linear.specs.Contradictions.{sums_of}
use Rattle.ss_search_whole_sums.specs.Summing.{uses}
use Rattle.ss_search_whole_sums.proofs.Written.{adds_used, adds_unused}
use Rattle.ss_search_whole_sums.proofs.contradicting.write_used.Goals as goal

pub returns-then-uses : goal.returns-then-uses
returns-then-uses c =
    let w = c.args.written.now in
    let long : c.len-place.result ≡ length w.places.items = first_of (search rules, grind (arith, common_steps)) in
    let v = c.write.new.written in
    on_ok_weaker c.write.result (λ a.
    adds_used c.args.context.now.bank.now c.args.context.now.congruence.now.merges c.args.context.now.count (sums_of c.args.sums.now) (c.args.x, c.args.y) w.lines.items v.lines.items w.places.items v.places.items c.uses.result
    (c.uses.ensures ∙ ap (uses (sums_of c.args.sums.now)) long) c.if-uses.true a) c.write.ensures

pub returns : goal.returns
returns c =
    let w = c.args.written.now in
    let long : c.len-place.result ≡ length w.places.items = first_of (search rules, grind (arith, common_steps)) in
    adds_unused c.args.context.now.bank.now c.args.context.now.congruence.now.merges c.args.context.now.count (sums_of c.args.sums.now) (c.args.x, c.args.y) w.lines.items w.lines.items w.places.items c.push.new.self.items c.uses.result
    (c.uses.ensures ∙ ap (uses (sums_of c.args.sums.now)) long) c.if-uses.false refl 0 c.in_ok-push.ensures.items
