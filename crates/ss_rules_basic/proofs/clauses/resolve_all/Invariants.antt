use Rattle.std.proofs.Common.{◌≡◌, take, map, length}
use Rattle.ss_terms.specs.Forms.{Forms, term_at, terms_at, HasTerms}
use Rattle.ss_rules_basic.specs.Facts.{sentence_at, HasSentences}
use Rattle.ss_rules_basic.specs.Plans.{slot_value, clause_at, HasClauses}
use Rattle.ss_rules_basic.proofs.clauses.resolve_all.Given as goal

abbrev pub invariant-loop-clause : goal.invariant-loop-clause
invariant-loop-clause l = record {
  has : (b : Forms) → HasTerms b l.made → HasClauses b (length l.made) l.clauses → HasSentences b l.sentences.items;
  says : (b : Forms) → HasTerms b l.made → HasClauses b (length l.made) l.clauses →
      map (sentence_at b) l.sentences.items ≡ map (clause_at (slot_value (term_at b) (terms_at b l.made))) (take l.clause-index l.clauses);
}
