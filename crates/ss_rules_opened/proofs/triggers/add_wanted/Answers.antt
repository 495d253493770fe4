use Rattle.std.proofs.Common.{refl, subst, sym, true, false, length}
use Rattle.ss_terms.specs.Forms.{term_at, HasTerms}
use Rattle.ss_terms_puts.proofs.Putting.{AreTermsBelow-push}
use Rattle.ss_rules_opened.specs.Matches.{is_wanted}
use Rattle.ss_rules_opened.proofs.Kept.{pushed, left_out}
use Rattle.ss_rules_opened.proofs.triggers.add_wanted.Goals as goal

pub returns-clause-has : goal.returns-clause-has
returns-clause-has c = subst (HasTerms c.args.bank.now) (sym c.in_ok-push.ensures.items) (AreTermsBelow-push (length c.args.bank.now.terms) c.args.kept.now.items c.args.t c.requires.kept c.requires.term)

pub returns-clause-are : goal.returns-clause-are
returns-clause-are c = pushed (term_at c.args.bank.now) (is_wanted c.args.wanted) c.args.kept.now.items c.push.new.self.items c.args.t true c.if-not-is_wanted.ensures refl c.in_ok-push.ensures.items

pub returns-then-not-is_wanted-clause-are : goal.returns-then-not-is_wanted-clause-are
returns-then-not-is_wanted-clause-are c = left_out (term_at c.args.bank.now) (is_wanted c.args.wanted) c.args.kept.now.items c.args.t false c.if-not-is_wanted.ensures refl
