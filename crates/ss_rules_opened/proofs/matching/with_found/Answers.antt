use Rattle.std.proofs.Common.{refl, set, Some, arith}
use Rattle.ss_terms.specs.Forms.{term_at}
use Rattle.ss_rules_opened.proofs.Finding.{HasTerm-there, something_there, newly_there}
use Rattle.ss_rules_opened.proofs.matching.with_found.Goals as goal

pub is_same_term-requires-clause-right : goal.is_same_term-requires-clause-right
is_same_term-requires-clause-right c = HasTerm-there c.args.bank.now c.args.found.now c.args.k _ c.in-Some.u c.requires.found c.if-k-found.false c.in-Some.is

pub returns-in-Some : goal.returns-in-Some
returns-in-Some c = something_there c.args.bank.now c.args.found.now c.args.k _ c.args.t c.in-Some.u c.is_same_term.result c.requires.found c.if-k-found.false c.in-Some.is c.is_same_term.ensures

pub returns-in-None : goal.returns-in-None
returns-in-None c = newly_there c.args.bank.now c.args.found.now (set c.args.found.now c.args.k (Some c.args.t)) c.args.k _ c.args.t c.requires.found c.requires.term c.if-k-found.false c.in-None.is refl
