use Rattle.ss_terms.specs.Forms.{shape_of}
use Rattle.ss_search_reached.proofs.Told.{outer_numbers}
use Rattle.ss_search_reached.proofs.modelling.arguments_are_there.Goals as goal

pub returns : goal.returns
returns c = outer_numbers c.args.bank.now c.args.f (shape_of c.formula_node-node.result.now) c.formula_node-node.ensures.built c.formula_node-node.ensures.below
