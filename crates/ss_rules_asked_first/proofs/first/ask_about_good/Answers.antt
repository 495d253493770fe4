use Rattle.std.proofs.Common.{◌++◌, ap, sym, ◌∙◌}
use Rattle.std.specs.Prelude.{flat_map}
use Rattle.ss_core.specs.View as view
use Rattle.ss_terms.specs.Forms.{terms_at, formulas_at}
use Rattle.ss_rules_asked.specs.Numbers.{asked_in}
use Rattle.ss_rules_asked_first.specs.Good.{nearby_at, in_stores}
use Rattle.ss_rules_asked_first.proofs.Joining.{ok_asks}
use Rattle.ss_rules_asked_first.proofs.Instances.{about_good_from}
use Rattle.ss_rules_asked_first.proofs.first.ask_about_good.Goals as goal

pub returns : goal.returns
returns c =
    ok_asks c.ask_by_sentences.result c.args.bank.now c.ask_by_sentences.new.asked.items _ _
    (ap (λ xs. asked_in c.args.bank.now c.args.asked.now.items ++ xs)
    (about_good_from (view.classes c.args.classes.now) (formulas_at c.args.bank.now c.args.atoms.now) (terms_at c.args.bank.now c.args.terms.now) (nearby_at c.args.bank.now c.in_ok-near.near) (terms_at c.args.bank.now c.deref.result.now)
    c.in_ok-near.ensures.are (ap (terms_at c.args.bank.now) c.deref.ensures.value ∙ c.in_ok-stores.ensures.are)))
    c.ask_by_sentences.ensures
