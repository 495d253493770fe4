use Rattle.std.proofs.Common.{refl}
use Rattle.ss_terms.specs.Forms.{formula_at}
use Rattle.ss_search_path.proofs.Reading.{and_read, or_read, no_part}
use Rattle.ss_search_path.proofs.opening.part_of.Goals as goal

pub returns-in-And : goal.returns-in-And
returns-in-And c = λ g e. c.part_among.ensures g (and_read c.args.bank.now c.args.f _ _ c.deref.ensures.value (rw c.in-And.is at c.formula_node.ensures).built c.args.part g e)

pub returns-in-Or : goal.returns-in-Or
returns-in-Or c = λ g e. c.part_among-in-Or.ensures g (or_read c.args.bank.now c.args.f _ _ c.deref-in-Or.ensures.value (rw c.in-Or.is at c.formula_node.ensures).built c.args.part g e)

pub returns-in-Literal : goal.returns-in-Literal
returns-in-Literal c = λ g e. no_part (formula_at c.args.bank.now c.args.f) _ (rw c.in-Literal.is at c.formula_node.ensures).built refl c.args.part g e

pub returns-in-Forall : goal.returns-in-Forall
returns-in-Forall c = λ g e. no_part (formula_at c.args.bank.now c.args.f) _ (rw c.in-Forall.is at c.formula_node.ensures).built refl c.args.part g e

pub returns-in-Exists : goal.returns-in-Exists
returns-in-Exists c = λ g e. no_part (formula_at c.args.bank.now c.args.f) _ (rw c.in-Exists.is at c.formula_node.ensures).built refl c.args.part g e
