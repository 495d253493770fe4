use Rattle.std.proofs.Common.{refl}
use Rattle.ss_terms.specs.Forms.{terms_at}
use Rattle.ss_terms.proofs.Grown.{HasFormula-grown}
use Rattle.ss_search_procedure.proofs.Saying.{exists_said}
use Rattle.ss_search_procedure.proofs.choosing.say_exists.Goals as goal

pub either-requires-clause-whole : goal.either-requires-clause-whole
either-requires-clause-whole c = HasFormula-grown c.args.bank.now c.put.new.bank c.put.ensures.grown c.args.whole c.requires.whole

pub returns-clause-said : goal.returns-clause-said
returns-clause-said c =
    let a = c.args.bank.now in
    exists_said a c.put.new.bank c.either.new.bank c.args.whole c.args.body (terms_at a c.args.constants.now) c.requires.exists.0 c.requires.exists.1 (c.put.ensures.grown.same_formulas c.args.whole c.requires.whole)
    c.in_ok-body.body c.in_ok-body.ensures.at.1 c.in_ok-body.ensures.at.0 c.either.ensures.grown c.in_ok-formula.formula c.in_ok-formula.ensures.at.0 c.in_ok-formula.ensures.at.1 _ refl refl
