use Rattle.std.proofs.Common.{ap}
use Rattle.ss_core.specs.View as view
use Rattle.ss_logic.specs.Asked.{all_said}
use Rattle.ss_logic.specs.Occurring.{with_formulas}
use Rattle.ss_rules_occurring.specs.Found.{formulas_of}
use Rattle.ss_rules.proofs.Coming.{ok_added}
use Rattle.ss_rules.proofs.rounds.add_due.Goals as goal

pub returns-clause-added : goal.returns-clause-added
returns-clause-added c =
    ok_added c.add_said.result c.add_said.new.bank c.add_said.new.listed.list _ _
    (ap (λ xs. with_formulas (formulas_of c.args.bank.now c.args.listed.now.list) (all_said (view.classes c.args.classes.now) xs)) c.in_ok-asked.ensures.are)
    c.add_said.ensures.added
