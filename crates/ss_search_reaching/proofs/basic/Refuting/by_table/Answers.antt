use Rattle.std.specs.Prelude.{List}
use Rattle.std.proofs.lemmas.Option.{MatchOption-at_some}
use Rattle.ss_terms.specs.declared.forms.FormulaId.{FormulaId}
use Rattle.ss_search_clashes.specs.declared.known.Against.{Against}
use Rattle.ss_search_clashes.specs.Numbered.{class_of}
use Rattle.ss_search_clashes.specs.Tables.{IsTable}
use Rattle.ss_search_clashes.specs.Found.{IsAgainst}
use Rattle.ss_search_reaching.specs.Refuting.{bank_of}
use Rattle.ss_search_reaching.proofs.basic.Refuting.by_table.Goals as goal

pub by_reason-requires-clause-against : goal.by_reason-requires-clause-against
by_reason-requires-clause-against c =
    let s = c.args.self.now in
    let b = bank_of s in
    let t = c.args.table.now in
    record {
      classes = t.classes;
      are = c.requires.classes;
      holds = MatchOption-at_some (Unit {0}) (λ (a : Against). (known : List FormulaId) → IsTable b known t → IsAgainst b (class_of b t.classes) known c.args.fact.formula a) c.in-Some.against c.in-Some.is c.in_ok-against.ensures.some s.known.now c.requires.table;
    }
