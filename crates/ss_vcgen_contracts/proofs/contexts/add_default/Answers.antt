use Rattle.ss_logic.specs.Terms.{sort_of_type}
use Rattle.ss_logic.specs.Express.{default_of_sort}
use Rattle.ss_vcgen_contracts.proofs.Listing.{ones_push}
use Rattle.ss_vcgen_contracts.proofs.contexts.add_default.Goals as goal

pub returns-clause-at : goal.returns-clause-at
returns-clause-at c =
    ones_push c.args.bank.now c.default_term.new.bank c.args.terms.now.items c.push.new.self.items c.in_ok-t.t (λ b. default_of_sort (sort_of_type c.args.ty)) c.in_ok-t.ensures.grown c.requires c.in_ok-push.ensures.items c.in_ok-t.ensures.at
