use Rattle.std.proofs.Common.{◌≡◌, ◌≤◌, true, length, refl, sym, ◌∙◌, subst, arith}
use Rattle.std.proofs.lemmas.Bool.{true≢false}
use Rattle.ss_terms.specs.Forms.{term_at}
use Rattle.ss_equality_rules.specs.Equal.{AreFormsOf, IsEqual}
use Rattle.ss_search_reached.specs.Known.{is_name}
use Rattle.ss_search_reached.proofs.Names.{below_next, one_name}
use Rattle.ss_search_reached.proofs.Trials.{still_equal}
use Rattle.ss_search_reached.proofs.reached.merge_names.Goals as goal

pub returns-in_default-clause-names : goal.returns-in_default-clause-names
returns-in_default-clause-names c = λ s t hs ht ns nt. absurd (true≢false (sym ns ∙ c.first_name.ensures.none c.in_default.is s hs))

pub returns-in_default-clause-of_names : goal.returns-in_default-clause-of_names
returns-in_default-clause-of_names c = λ h. h

pub loop-number-init : goal.loop-number-init
loop-number-init c = record { terms = refl; named = λ t l name. absurd (omega (arith, l)); of_names = λ h. h }

pub merge_name-requires-clause-forms : goal.merge_name-requires-clause-forms
merge_name-requires-clause-forms c = subst (AreFormsOf c.args.bank.now) (sym c.loop-number.invariant.terms) c.requires

pub loop-number-preserved : goal.loop-number-preserved
loop-number-preserved c =
    let b = c.args.bank.now in
    let n = c.loop-number.number in
    let old = c.loop-number.congruence in
    let new = c.merge_name.new.congruence in
    let e = c.in_ok-merge_name.ensures in
    record {
      terms = e.terms ∙ c.loop-number.invariant.terms;
      named = below_next (λ t. is_name (term_at b t) ≡ true → IsEqual new.terms new.merges c.in-Some.first.0 t.0) n
          (λ t l name. still_equal old new e.terms e.begins c.in-Some.first.0 t.0 (c.loop-number.invariant.named t l name))
          e.named;
      of_names = λ h. e.of_names c.in-Some.ensures.some.1 (c.loop-number.invariant.of_names h);
    }

pub returns : goal.returns
returns c =
    let b = c.args.bank.now in
    let s = c.loop-number.congruence in
    let all : length b.terms ≤ c.loop-number.number = omega (arith, c.loop-number-test.false, c.term_count-number-end.ensures) in
    record {
      terms = c.loop-number.invariant.terms;
      names = one_name b s.terms s.merges c.in-Some.first c.loop-number.number c.loop-number.invariant.named all;
      of_names = c.loop-number.invariant.of_names;
    }
