use Rattle.std.proofs.Common.{◌≡◌, take}
use Rattle.ss_terms.specs.Forms.{terms_at, HasTerms, IsGrown}
use Rattle.ss_rules_asked.specs.Numbers.{arguments_at}
use Rattle.ss_rules.proofs.arguments.terms_of_arguments.Given as goal

abbrev pub invariant-loop-x : goal.invariant-loop-x
invariant-loop-x l = record {
  grown : IsGrown l.initial.bank l.bank;
  has : HasTerms l.bank l.ts.items;
  at : terms_at l.bank l.ts.items ≡ arguments_at l.initial.bank (take l.x-index l.xs);
}
