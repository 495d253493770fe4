use Rattle.std.proofs.Common.{◌≡◌, ◌++◌, map, drop}
use Rattle.ss_ast.specs.declared.class.Modifier.{Modifier}
use Rattle.ss_resolver_types_heads.specs.Faults.{bad_type}
use Rattle.ss_resolver_types.proofs.members.note_words.Given as goal

abbrev pub invariant-loop-word : goal.invariant-loop-word
invariant-loop-word l = l.found.items ++ map (λ (w : Modifier). bad_type w.place) (drop l.word-index l.words) ≡ l.fn.found.items ++ map (λ (w : Modifier). bad_type w.place) l.words
