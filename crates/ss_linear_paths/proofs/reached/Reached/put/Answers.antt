use Rattle.ss_linear_paths.proofs.Walking.{lists_set}
use Rattle.ss_linear_paths.proofs.reached.Reached.put.Goals as goal

pub returns-clause-paths : goal.returns-clause-paths
returns-clause-paths c = lists_set c.args.self.now.paths.items c.args.v c.args.path
