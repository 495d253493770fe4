use Rattle.std.proofs.Common.{◌≡◌, ◌+◌, ◌*◌, take}
use Rattle.std.specs.List.{Contains}
use Rattle.ss_terms.specs.declared.forms.FormulaId.{FormulaId}
use Rattle.ss_search_reaching.specs.Refuting.{bank_of, IsHolding, and_of, or_of, StaysFrom, AreCasesFrom}
use Rattle.ss_search_reaching.proofs.basic.Refuting.+closing.Given as goal

abbrev pub decreases-known : goal.decreases-known
decreases-known l = 4 * l.f.0 + 3

abbrev pub decreases-one_part : goal.decreases-one_part
decreases-one_part l = 4 * l.whole.now.bound

abbrev pub decreases-some_part : goal.decreases-some_part
decreases-some_part l = 4 * l.whole.now.bound + 1

abbrev pub decreases-case : goal.decreases-case
decreases-case l = 4 * l.whole.now.bound

abbrev pub decreases-cases : goal.decreases-cases
decreases-cases l = 4 * l.whole.now.bound + 1

abbrev pub decreases-all_parts : goal.decreases-all_parts
decreases-all_parts l = 4 * l.whole.now.bound + 2

abbrev pub invariant-some_part-loop-part : goal.invariant-some_part-loop-part
invariant-some_part-loop-part l = record {
  congruence : l.congruence ≡ l.initial.congruence;
  known : l.path.known.items ≡ l.initial.path.known.items;
  stays : StaysFrom l.self l.initial.congruence.merges l.initial.path l.whole.place l.whole.from (and_of (bank_of l.self) l.whole.parts.now) l.path;
  hold : (f : FormulaId) → Contains (take l.part l.whole.parts.now) f → IsHolding l.self f;
}

abbrev pub invariant-cases-loop-part : goal.invariant-cases-loop-part
invariant-cases-loop-part l = record {
  congruence : l.congruence ≡ l.initial.congruence;
  known : l.path.known.items ≡ l.initial.path.known.items;
  stays : StaysFrom l.self l.initial.congruence.merges l.initial.path l.whole.place l.whole.from (or_of (bank_of l.self) l.whole.parts.now) l.path;
  cases : AreCasesFrom l.self l.initial.congruence.merges l.initial.path l.whole.place l.whole.from (or_of (bank_of l.self) l.whole.parts.now) l.start l.part l.lines.items;
}
