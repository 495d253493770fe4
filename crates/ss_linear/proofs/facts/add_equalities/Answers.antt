use Rattle.std.proofs.Common.{sym, subst, rules, List, ◌++◌}
use Rattle.std.proofs.lemmas.List.{append-nil, take_all}
use Rattle.ss_logic.specs.Formulas.{Formula}
use Rattle.ss_terms.specs.declared.forms.TermId.{TermId}
use Rattle.ss_linear.specs.Contradictions.{equalities_at}
use Rattle.ss_linear.specs.Results.{AreFacts}
use Rattle.ss_linear.proofs.Glue.{equal_more, have_more, has_pair}
use Rattle.ss_linear.proofs.facts.add_equalities.Goals as goal

pub loop-pair-init : goal.loop-pair-init
loop-pair-init c = record {
  kept = search rules;
  parts = c.requires.parts;
  read = λ cs known of h. subst (λ (gs : List Formula). AreFacts cs c.args.bank.now gs c.args.facts.now.items) (sym (append-nil known)) h;
}

pub equality_fact-requires : goal.equality_fact-requires
equality_fact-requires c =
    let terms = has_pair c.args.bank.now c.args.equalities.now c.loop-pair.pair-index (record { 0 = 0 }, record { 0 = 0 }) c.requires.terms c.loop-pair-test.true in
    record { left = terms.0; right = terms.1; kept = c.loop-pair.invariant.kept }

pub loop-pair-preserved : goal.loop-pair-preserved
loop-pair-preserved c = record {
  kept = c.in_ok-fact.ensures.kept;
  parts = have_more c.args.bank.now c.loop-pair.facts.items c.push.new.self.items c.in_ok-fact.fact c.in_ok-push.ensures.items c.loop-pair.invariant.parts c.in_ok-fact.ensures.terms;
  read = λ cs known of h.
      equal_more cs c.args.bank.now known c.args.equalities.now c.loop-pair.pair-index (record { 0 = 0 }, record { 0 = 0 }) c.loop-pair.facts.items c.push.new.self.items c.in_ok-fact.fact c.loop-pair-test.true c.in_ok-push.ensures.items (c.loop-pair.invariant.read cs known of h) (c.in_ok-fact.ensures.fact cs of);
}

pub returns-clause-read : goal.returns-clause-read
returns-clause-read c = λ cs known of h.
    subst (λ (es : List (TermId × TermId)). AreFacts cs c.args.bank.now (known ++ equalities_at c.args.bank.now es) c.loop-pair.facts.items) (take_all c.loop-pair.pair-index c.args.equalities.now c.loop-pair-test.false) (c.loop-pair.invariant.read cs known of h)
