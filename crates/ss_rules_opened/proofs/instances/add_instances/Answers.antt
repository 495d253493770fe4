use Rattle.std.proofs.Common.{map, take, subst, sym, ap, ◌∙◌}
use Rattle.ss_terms.specs.Forms.{formula_at, HasTerms}
use Rattle.ss_terms.proofs.Grown.{IsGrown-then, HasTerms-grown}
use Rattle.ss_rules_occurring.specs.Found.{formulas_of}
use Rattle.ss_rules_opened.specs.declared.places.Tuple.{Tuple}
use Rattle.ss_rules_opened.specs.Matches.{tuples_at, instance_there}
use Rattle.ss_rules_opened.proofs.Adding.{HasTuples-get, instance_next}
use Rattle.ss_rules_opened.proofs.Noted.{next_is_instance}
use Rattle.ss_core.specs.View as view
use Rattle.ss_rules_opened.proofs.instances.add_instances.Goals as goal

pub loop-place-preserved : goal.loop-place-preserved
loop-place-preserved c = record {
  grown = IsGrown-then c.args.bank.now c.loop-place.bank c.add_instance.new.bank c.loop-place.invariant.grown c.add_instance.ensures.grown;
  added = instance_next c.args.bank.now c.loop-place.bank c.add_instance.new.bank (formula_at c.args.bank.now c.args.formula.now.whole) (formula_at c.args.bank.now c.args.formula.now.body) (formula_at c.loop-place.bank c.args.formula.now.whole) (formula_at c.loop-place.bank c.args.formula.now.body)
      (formulas_of c.args.bank.now c.args.listed.now.list) c.loop-place.listed.list c.add_instance.new.listed.list c.args.places.now c.loop-place.place-index c.place-item.result c.deref.result.now (c.deref.ensures.value ∙ ap (λ (t : Tuple). t.terms.items) c.place-item.is) c.loop-place.invariant.grown c.requires.places c.loop-place-test.true
      (c.loop-place.invariant.grown.same_formulas c.args.formula.now.whole c.requires.whole) (c.loop-place.invariant.grown.same_formulas c.args.formula.now.body c.requires.body) c.loop-place.invariant.added c.in_ok-add_instance.ensures.added;
  noted = λ are premises goal choices come.
      c.in_ok-add_instance.ensures.noted
      (next_is_instance (view.classes c.args.classes.now) c.args.bank.now c.loop-place.bank (formula_at c.args.bank.now c.args.formula.now.whole) (formula_at c.args.bank.now c.args.formula.now.body) (formula_at c.loop-place.bank c.args.formula.now.whole) (formula_at c.loop-place.bank c.args.formula.now.body)
      (formulas_of c.args.bank.now c.args.listed.now.list) (map (instance_there (formula_at c.args.bank.now c.args.formula.now.whole) (formula_at c.args.bank.now c.args.formula.now.body)) (tuples_at c.args.bank.now (take c.loop-place.place-index c.args.places.now))) c.loop-place.listed.list c.args.places.now c.loop-place.place-index c.place-item.result c.deref.result.now (c.deref.ensures.value ∙ ap (λ (t : Tuple). t.terms.items) c.place-item.is) c.loop-place.invariant.grown c.requires.places c.loop-place-test.true
      (c.loop-place.invariant.grown.same_formulas c.args.formula.now.whole c.requires.whole) (c.loop-place.invariant.grown.same_formulas c.args.formula.now.body c.requires.body) c.loop-place.invariant.added are)
      premises goal choices (c.loop-place.invariant.noted are premises goal choices come);
}

pub add_instance-requires-clause-terms : goal.add_instance-requires-clause-terms
add_instance-requires-clause-terms c =
    subst (HasTerms c.loop-place.bank) (sym (c.deref.ensures.value ∙ ap (λ (t : Tuple). t.terms.items) c.place-item.is)) (HasTerms-grown c.args.bank.now c.loop-place.bank c.loop-place.invariant.grown _ (HasTuples-get c.args.bank.now c.args.places.now c.loop-place.place-index c.place-item.result c.requires.places c.loop-place-test.true))
