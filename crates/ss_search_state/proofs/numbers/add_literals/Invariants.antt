use Rattle.ss_terms.specs.Forms.{HasFormulas}
use Rattle.ss_search_state.proofs.numbers.add_literals.Given as goal

abbrev pub invariant-loop-known : goal.invariant-loop-known
invariant-loop-known l = HasFormulas l.bank l.formulas.items
