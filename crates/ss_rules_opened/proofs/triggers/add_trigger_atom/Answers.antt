use Rattle.std.proofs.Common.{refl, subst, sym, true, false, length, ◌*◌}
use Rattle.ss_logic.specs.Matching.{is_trigger_atom}
use Rattle.ss_terms.specs.Forms.{formula_at, HasFormulas}
use Rattle.ss_terms_puts.proofs.Putting.{AreBelow-push}
use Rattle.ss_rules_opened.proofs.Kept.{pushed, left_out}
use Rattle.ss_rules_opened.proofs.triggers.add_trigger_atom.Goals as goal

pub returns-clause-has : goal.returns-clause-has
returns-clause-has c = subst (HasFormulas c.args.bank.now) (sym c.in_ok-push.ensures.items) (AreBelow-push (length c.args.bank.now.formulas * 2) c.args.kept.now.items c.args.f c.requires.kept c.requires.formula)

pub returns-clause-are : goal.returns-clause-are
returns-clause-are c = pushed (formula_at c.args.bank.now) (is_trigger_atom c.args.count) c.args.kept.now.items c.push.new.self.items c.args.f true c.if-not-is_trigger_atom.ensures refl c.in_ok-push.ensures.items

pub returns-then-not-is_trigger_atom-clause-are : goal.returns-then-not-is_trigger_atom-clause-are
returns-then-not-is_trigger_atom-clause-are c = left_out (formula_at c.args.bank.now) (is_trigger_atom c.args.count) c.args.kept.now.items c.args.f false c.if-not-is_trigger_atom.ensures refl
