use Rattle.std.proofs.Common.{refl}
use Rattle.ss_terms.specs.Forms.{terms_at}
use Rattle.ss_search_procedure.proofs.Saying.{itself_said}
use Rattle.ss_search_procedure.proofs.choosing.say.Goals as goal

pub say_exists-requires-clause-exists : goal.say_exists-requires-clause-exists
say_exists-requires-clause-exists c = (_, (rw c.in-Exists.is at c.formula_node.ensures).built)

pub returns-in-Literal-clause-said : goal.returns-in-Literal-clause-said
returns-in-Literal-clause-said c = itself_said c.args.bank.now c.args.whole (terms_at c.args.bank.now c.args.constants.now) _ (rw c.in-Literal.is at c.formula_node.ensures).built refl refl c.requires.whole

pub returns-in-And-clause-said : goal.returns-in-And-clause-said
returns-in-And-clause-said c = itself_said c.args.bank.now c.args.whole (terms_at c.args.bank.now c.args.constants.now) _ (rw c.in-And.is at c.formula_node.ensures).built refl refl c.requires.whole

pub returns-in-Or-clause-said : goal.returns-in-Or-clause-said
returns-in-Or-clause-said c = itself_said c.args.bank.now c.args.whole (terms_at c.args.bank.now c.args.constants.now) _ (rw c.in-Or.is at c.formula_node.ensures).built refl refl c.requires.whole

pub returns-in-Forall-clause-said : goal.returns-in-Forall-clause-said
returns-in-Forall-clause-said c = itself_said c.args.bank.now c.args.whole (terms_at c.args.bank.now c.args.constants.now) _ (rw c.in-Forall.is at c.formula_node.ensures).built refl refl c.requires.whole
