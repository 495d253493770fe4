use Rattle.std.proofs.Common.{◌≡◌, ◌+◌, ℕ, List, length, subst, arith, rules}
use Rattle.std.proofs.lemmas.Grind.{common_steps}
use Rattle.ss_linear.specs.Contradictions.{sums_of}
use Rattle.ss_search_whole_sums.specs.Summing.{CloseBySums}
use Rattle.ss_search_whole_sums.proofs.Written.{closes_with}
use Rattle.ss_search_whole_sums.proofs.contradicting.contradict.Goals as goal

pub returns : goal.returns
returns c =
    let w = c.in_ok-written.written in
    let ss = sums_of c.args.sums.now in
    let closing = c.in_ok-closing.closing.items in
    let count : c.in_ok-count.count ≡ c.args.context.now.count + length w.lines.items = first_of (search rules, grind (arith, common_steps)) in
    closes_with c.args.context.now.bank.now c.args.context.now.congruence.now.merges c.args.context.now.count ss c.args.places.now c.args.equalities.now w.places.items w.lines.items closing c.append.new.self.items c.in_ok-count.count c.in_ok-written.ensures count
    (subst (λ (ps : List ℕ). CloseBySums ps c.in_ok-count.count ss closing) c.deref.ensures.value c.in_ok-closing.ensures) c.in_ok-append.ensures.items
