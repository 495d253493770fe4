use Rattle.std.proofs.Common.{◌∙◌, sym, subst, map}
use Rattle.ss_terms.specs.Forms.{term_shape}
use Rattle.ss_equality_rules.specs.Names.{AreClasses}
use Rattle.ss_equality_rules.specs.Classes.{lists_of}
use Rattle.ss_equality.proofs.Entering.{more_ends, form_room, still_classes, one_more_term}
use Rattle.ss_equality.proofs.classes.Classes.enter.Goals as goal

pub invariant_of-self-in_err-push-3 : goal.invariant_of-self-in_err-push-3
invariant_of-self-in_err-push-3 c =
    subst (λ us. AreClasses (map term_shape c.self.inside.forms.items) (lists_of us) c.push-2.new.self.items c.self.inside.log.items) (sym c.in_err-push-3.ensures.items)
    (more_ends c.self.inside.forms.items c.self.inside.users.items c.self.inside.ends.items c.push-2.new.self.items c.self.inside.log.items c.args.self.now c.self.view_is c.self.invariant
    c.requires.empty c.in_ok-push-2.ensures.items)

pub add_form-requires : goal.add_form-requires
add_form-requires c = form_room c.self.inside.forms.items c.self.inside.users.items c.push-3.new.self.items c.push-3.new.self.items c.self.inside.ends.items c.push-2.new.self.items c.self.inside.log.items c.args.self.now c.self.view_is c.self.invariant c.requires.empty
    c.new.result c.new.ensures.items c.in_ok-push-3.ensures.items c.in_ok-push-2.ensures.items c.args.form c.requires.below

pub invariant_of-self-2 : goal.invariant_of-self-2
invariant_of-self-2 c = one_more_term c.self.inside.forms.items c.self.inside.users.items c.push-3.new.self.items c.add_form.new.users.items c.self.inside.ends.items c.push-2.new.self.items c.self.inside.log.items c.args.self.now c.self.view_is c.self.invariant c.requires.empty
    c.new.result c.new.ensures.items c.in_ok-push-3.ensures.items c.in_ok-push-2.ensures.items c.in_ok-add_form.ensures.long c.in_ok-add_form.ensures.kept
    c.args.form c.push-4.new.self.items c.len-number.result c.in_ok-push-4.ensures.items (c.len-number.ensures ∙ c.self.inside.forms.ok.0) c.in_ok-add_form.ensures.listed

pub invariant_of-self-in_err-add_form : goal.invariant_of-self-in_err-add_form
invariant_of-self-in_err-add_form c = still_classes c.self.inside.forms.items c.self.inside.users.items c.push-3.new.self.items c.add_form.new.users.items c.self.inside.ends.items c.push-2.new.self.items c.self.inside.log.items c.args.self.now c.self.view_is c.self.invariant c.requires.empty
    c.new.result c.new.ensures.items c.in_ok-push-3.ensures.items c.in_ok-push-2.ensures.items c.in_err-add_form.ensures.long c.in_err-add_form.ensures.kept

pub invariant_of-self-in_err-push-4 : goal.invariant_of-self-in_err-push-4
invariant_of-self-in_err-push-4 c =
    subst (λ fs. AreClasses (map term_shape fs) (lists_of c.add_form.new.users.items) c.push-2.new.self.items c.self.inside.log.items) (sym c.in_err-push-4.ensures.items)
    (still_classes c.self.inside.forms.items c.self.inside.users.items c.push-3.new.self.items c.add_form.new.users.items c.self.inside.ends.items c.push-2.new.self.items c.self.inside.log.items c.args.self.now c.self.view_is c.self.invariant c.requires.empty
    c.new.result c.new.ensures.items c.in_ok-push-3.ensures.items c.in_ok-push-2.ensures.items c.in_ok-add_form.ensures.long c.in_ok-add_form.ensures.kept)
