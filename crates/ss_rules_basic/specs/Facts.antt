-- What literals and sentences over the numbers of a bank say.
use Rattle.std.specs.Prelude.{List, [], ◌∷◌, map, not, Option, Some, None}
use Rattle.ss_logic.specs.Terms.{terms_from}
use Rattle.ss_logic.specs.Formulas.{Formula, Literal, neg}
use Rattle.ss_logic.specs.Shapes.{given}
use Rattle.ss_terms.specs.declared.forms.TermId.{TermId}
use Rattle.ss_terms.specs.Forms.{Forms, terms_at, predicate_of, HasTerms}
use Rattle.ss_rules_basic.specs.declared.facts.Fact.{Fact}
use Rattle.ss_rules_basic.specs.declared.sentences.Sentence.{Sentence}

abbrev pub terms_of : TermId → Option TermId → List TermId
terms_of left None = left ∷ []
terms_of left (Some right) = left ∷ right ∷ []

abbrev pub fact_at : Forms → Fact → Formula
fact_at b f = Literal f.holds (predicate_of f.predicate) (terms_from (terms_at b (terms_of f.left f.right)))

-- the negation
unfoldable pub denied : Fact → Fact
denied f = record f { holds = not f.holds }

abbrev pub denied_at : Forms → Fact → Formula
denied_at b f = neg (fact_at b f)

-- the literal, given the premises
abbrev pub sentence_at : Forms → Sentence → Formula
sentence_at b s = given (map (fact_at b) s.premises.items) (fact_at b s.conclusion)

-- the bank has their terms
abbrev pub HasFact : Forms → Fact → Type 0
HasFact b f = HasTerms b (terms_of f.left f.right)

abbrev pub HasFacts : Forms → List Fact → Type 0
HasFacts b [] = Unit {0}
HasFacts b (f ∷ fs) = HasFact b f × HasFacts b fs

abbrev pub HasSentence : Forms → Sentence → Type 0
HasSentence b s = HasFacts b s.premises.items × HasFact b s.conclusion

abbrev pub HasSentences : Forms → List Sentence → Type 0
HasSentences b [] = Unit {0}
HasSentences b (s ∷ ss) = HasSentence b s × HasSentences b ss
