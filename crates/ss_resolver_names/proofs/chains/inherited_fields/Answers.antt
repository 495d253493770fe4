use Rattle.std.proofs.Common.{ℕ, ◌+◌, ◌-◌, ◌∷◌, length, sym, ap, ◌∙◌, arith}
use Rattle.std.specs.List.{fold}
use Rattle.ss_tables.specs.Members.{fields_in}
use Rattle.ss_tables.specs.Classes.{members_at, above, chain_from}
use Rattle.ss_tables_lookup.specs.Classes.{trees}
use Rattle.ss_resolver_names.proofs.Above.{next_chain}
use Rattle.ss_resolver_names.proofs.chains.inherited_fields.Goals as goal

pub loop-left-preserved : goal.loop-left-preserved
loop-left-preserved c =
    let cs = trees c.args.tables.now in
    let left = c.loop-left.left in
    let next = c.in-Some.next in
    let more : ℕ → ℕ → ℕ = λ a j. a + length (fields_in (members_at cs j)) in
    ap (λ o. fold more c.in_ok-count.count (chain_from cs (left - 1) o)) c.above-at-in-loop-left.ensures
    ∙ ap (λ n. fold more n (chain_from cs (left - 1) (above cs next))) (c.in_ok-count.ensures ∙ ap (λ k. c.loop-left.count + k) c.own_fields.ensures)
    ∙ ap (λ js. fold more c.loop-left.count js) (sym (next_chain cs left next c.loop-left-test.true))
    ∙ ap (λ o. fold more c.loop-left.count (chain_from cs left o)) (sym c.in-Some.is) ∙ c.loop-left.invariant
