use Rattle.std.proofs.Common.{ap, ◌∙◌}
use Rattle.ss_logic.specs.Opened.{fresh_constant}
use Rattle.ss_terms.specs.Forms.{terms_at}
use Rattle.ss_rules_opened.proofs.Fresh.{has_in_front, in_front, has_pushed, pushed}
use Rattle.ss_rules_opened.proofs.constants.add_fresh.Goals as goal

pub returns-clause-has_taken : goal.returns-clause-has_taken
returns-clause-has_taken c = has_in_front c.args.bank.now c.fresh_constant.new.bank c.fresh_constant.ensures.grown c.args.taken.now.items c.add_in_front.new.ts.items c.in_ok-t.t _ c.requires.taken (c.in_ok-t.ensures.at.0, c.in_ok-t.ensures.at.1 ∙ ap (λ ts. fresh_constant c.args.sort (terms_at c.args.bank.now ts)) c.deref.ensures.value) c.in_ok-add_in_front.ensures

pub returns-clause-taken : goal.returns-clause-taken
returns-clause-taken c = in_front c.args.bank.now c.fresh_constant.new.bank c.fresh_constant.ensures.grown c.args.taken.now.items c.add_in_front.new.ts.items c.in_ok-t.t _ c.requires.taken (c.in_ok-t.ensures.at.0, c.in_ok-t.ensures.at.1 ∙ ap (λ ts. fresh_constant c.args.sort (terms_at c.args.bank.now ts)) c.deref.ensures.value) c.in_ok-add_in_front.ensures

pub returns-clause-has_made : goal.returns-clause-has_made
returns-clause-has_made c = has_pushed c.args.bank.now c.fresh_constant.new.bank c.fresh_constant.ensures.grown c.args.made.now.items c.push.new.self.items c.in_ok-t.t _ c.requires.made (c.in_ok-t.ensures.at.0, c.in_ok-t.ensures.at.1 ∙ ap (λ ts. fresh_constant c.args.sort (terms_at c.args.bank.now ts)) c.deref.ensures.value) c.in_ok-push.ensures.items

pub returns-clause-made : goal.returns-clause-made
returns-clause-made c = pushed c.args.bank.now c.fresh_constant.new.bank c.fresh_constant.ensures.grown c.args.made.now.items c.push.new.self.items c.in_ok-t.t _ c.requires.made (c.in_ok-t.ensures.at.0, c.in_ok-t.ensures.at.1 ∙ ap (λ ts. fresh_constant c.args.sort (terms_at c.args.bank.now ts)) c.deref.ensures.value) c.in_ok-push.ensures.items
