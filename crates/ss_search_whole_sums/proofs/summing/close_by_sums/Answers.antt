use Rattle.std.proofs.Common.{◌≡◌, ◌+◌, ◌-◌, length, arith, rules}
use Rattle.std.proofs.lemmas.Grind.{common_steps}
use Rattle.ss_search_whole_sums.proofs.Sums.{sums_close}
use Rattle.ss_search_whole_sums.proofs.summing.close_by_sums.Goals as goal

pub returns : goal.returns
returns c =
    let last : c.in_ok-last.last ≡ c.args.known + (length c.args.sums.now - 1) = first_of (search rules, grind (arith, common_steps)) in
    sums_close c.args.places.now c.args.known c.args.sums.now c.in_ok-lines.lines.items c.push.new.self.items c.in_ok-last.last c.in_ok-lines.ensures c.in_ok-push.ensures.items last
