use Rattle.std.proofs.Common.{inr, refl, sym, ◌∙◌}
use Rattle.std.proofs.lemmas.Bool.{true≢false}
use Rattle.ss_search_reached.proofs.Names.{more_of_names}
use Rattle.ss_search_reached.proofs.Trials.{no_merge, same_terms, begins, are_equal}
use Rattle.ss_search_reached.proofs.reached.merge_name.Goals as goal

pub returns-then-not-is_name : goal.returns-then-not-is_name
returns-then-not-is_name c = record {
  terms = refl;
  begins = no_merge c.args.congruence.now.merges;
  named = λ e. absurd (true≢false (sym e ∙ sym c.is_name.ensures ∙ c.if-not-is_name.true));
  of_names = λ first h. h;
}

pub merge-requires-clause-bank : goal.merge-requires-clause-bank
merge-requires-clause-bank c = inr c.requires.forms

pub returns : goal.returns
returns c =
    let b = c.args.bank.now in
    let apart = c.numbers_are_apart.ensures in
    let old = c.args.congruence.now in
    let new = c.merge.new.self in
    record {
      terms = same_terms b apart old new c.args.first c.args.t 0 c.requires.forms c.in_ok-merge.ensures.terms c.in_ok-merge.ensures.merged;
      begins = begins b apart old new c.args.first c.args.t 0 c.requires.forms c.in_ok-merge.ensures.terms c.in_ok-merge.ensures.merged;
      named = λ e. are_equal b apart old new c.args.first c.args.t 0 c.requires.forms c.in_ok-merge.ensures.terms c.in_ok-merge.ensures.merged;
      of_names = λ first h. more_of_names b old.merges new.merges c.args.first c.args.t 0 first (sym c.is_name.ensures ∙ c.if-not-is_name.false) c.in_ok-merge.ensures.merged h;
    }
