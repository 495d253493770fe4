use Rattle.std.proofs.Common.{subst, []}
use Rattle.std.specs.Prelude.{flat_map}
use Rattle.ss_logic.specs.Occurring.{with_formulas}
use Rattle.ss_logic_countermodels.specs.Refuting.{told_in}
use Rattle.ss_terms.specs.Forms.{formulas_at}
use Rattle.ss_rules_occurring.specs.Found.{Holds}
use Rattle.ss_search_models.proofs.Tellings.{tells_itself}
use Rattle.ss_search_models.proofs.telling.told.Goals as goal

pub add_all-requires-clause-telling : goal.add_all-requires-clause-telling
add_all-requires-clause-telling c = tells_itself c.args.bank.now c.new-telling.result [] c.new-telling.ensures

pub returns : goal.returns
returns c =
    subst (λ gs. Holds c.args.bank.now c.add_all.new.telling.found (with_formulas gs (flat_map told_in (formulas_at c.args.bank.now c.args.fs.now)))) c.new-telling.ensures.found.are c.in_ok-add_all.ensures.found
