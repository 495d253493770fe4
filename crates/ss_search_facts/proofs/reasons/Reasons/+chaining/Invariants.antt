use Rattle.std.proofs.Common.{◌+◌, ◌*◌}
use Rattle.ss_search_facts.proofs.reasons.Reasons.+chaining.Given as goal

abbrev pub decreases-chain : goal.decreases-chain
decreases-chain l = 4 * l.fuel + 3

abbrev pub decreases-add_path : goal.decreases-add_path
decreases-add_path l = 4 * l.fuel + 2

abbrev pub decreases-fact_of_step : goal.decreases-fact_of_step
decreases-fact_of_step l = 4 * l.fuel + 1

abbrev pub decreases-arguments : goal.decreases-arguments
decreases-arguments l = 4 * l.fuel
