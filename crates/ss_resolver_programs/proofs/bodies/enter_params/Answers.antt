use Rattle.std.proofs.Common.{map}
use Rattle.ss_ast.specs.Programs.{param_tree}
use Rattle.ss_resolver_programs.proofs.Bodied.{params_are}
use Rattle.ss_resolver_programs.proofs.bodies.enter_params.Goals as goal

pub returns : goal.returns
returns c = params_are c.args.context.now c.args.first _ _ (map param_tree c.args.params.now) c.requires.outcome c.requires.calls c.requires.this c.new-names.ensures c.in_ok-declare_params.ensures
