use Rattle.std.proofs.Common.{◌≡◌, true, sym, subst, ◌∙◌, ap}
use Rattle.std.specs.List.{list_any}
use Rattle.ss_logic.specs.Equal.{same_term}
use Rattle.ss_logic.specs.Terms.{Term}
use Rattle.ss_terms.specs.Forms.{term_at, terms_at}
use Rattle.ss_report_values.specs.Literals.{value_at}
use Rattle.ss_report_values.proofs.index.Index.value_of_parts.Goals as goal

pub returns-in-Some-value_at : goal.returns-in-Some-value_at
returns-in-Some-value_at c =
    let b = c.args.bank.now in
    let ts = terms_at b c.args.reading.now.terms.now in
    let ns = c.args.reading.now.classes.now in
    record {
      store_term = term_at b c.args.parts.store;
      object_term = term_at b c.args.parts.object;
      at_store = c.is_in.ensures c.if-not-is_in.false;
      at_object = sym c.class_of.ensures ∙ c.in-Some.is;
      stands = subst (λ (x : Term). list_any (same_term x) ts ≡ true) c.requires.parts.is c.requires.stands;
      value = sym (ap (value_at ts ns) c.requires.parts.is) ∙ sym c.value_at.ensures ∙ c.in-Some-value_at.is;
    }
