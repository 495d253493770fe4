use Rattle.std.proofs.lemmas.Result.{on_ok_weaker}
use Rattle.ss_logic_means.specs.Steps as tree
use Rattle.ss_terms.specs.Forms.{term_at}
use Rattle.ss_deriv.specs.declared.line.Line.TheVariants.{Chain}
use Rattle.ss_search_clashes.specs.Ways.{way}
use Rattle.ss_search_clashes.specs.Placed.{places_of}
use Rattle.ss_search_clashes.proofs.Written.{chain_line, line_pushed}
use Rattle.ss_search_clashes.proofs.placing.chain.Goals as goal

pub returns-clause-added : goal.returns-clause-added
returns-clause-added c =
    let is = places_of c.args.places.now (way c.args.context.now.joins.now c.args.x.0 c.args.y.0) in
    on_ok_weaker c.add.result (λ e. line_pushed c.args.context.now.bank.now c.args.lines.now.items c.add.new.lines.items (Chain c.args.x c.args.y c.in_ok-path.path) (tree.Chain (term_at c.args.context.now.bank.now c.args.x) (term_at c.args.context.now.bank.now c.args.y) is) e
    (chain_line c.args.context.now.bank.now c.args.x c.args.y c.in_ok-path.path is c.requires.left c.requires.right c.in_ok-path.ensures)) c.add.ensures.added
