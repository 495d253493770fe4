-- What a statement does to what is known before it, and the faults along it, with the meanings of the phase.
use Rattle.std.specs.Prelude.{List, Option, option_map, option_and_then}
use Rattle.ss_faults.specs.declared.Fault.{Fault}
use Rattle.ss_typed.specs.Tree.{ExprTree, SimpleTree, InitTree, DeclaratorTree, BlockTree, StmtTree, StmtTrees}
use Rattle.ss_paths.specs.Paths.{behind, after_block, at_end, all_declared, behind_first, test_of, declared_faults, first_faults, step_faults, faults_at, faults_in, faults_along}
use Rattle.ss_nonnull_rules.specs.Facts.{forgotten}
use Rattle.ss_nonnull_rules.specs.NonNull.{NullContext, Known, known_flow}
use Rattle.ss_nonnull_rules.specs.Faults.{inside, null_check}
use Rattle.ss_core.specs.declared.names.Place.{Place}
use Rattle.ss_nonnull_seen.specs.Seen.{Seen, seen}

abbrev pub known_behind : NullContext → StmtTree → Option Known → Option Known
known_behind s st k = option_and_then (behind (known_flow s) st) k

abbrev pub known_after_block : NullContext → BlockTree → Option Known → Option Known
known_after_block s b k = option_and_then (after_block (known_flow s) b) k

abbrev pub known_at_end : NullContext → StmtTrees → Option Known → Option Known
known_at_end s ss k = at_end (known_flow s) ss k

abbrev pub stmt_faults : NullContext → StmtTree → Option Known → List Fault
stmt_faults s st k = faults_at (known_flow s) (null_check s) st k

abbrev pub block_faults : NullContext → BlockTree → Option Known → List Fault
block_faults s b k = faults_in (known_flow s) (null_check s) b k

abbrev pub along_faults : NullContext → StmtTrees → Option Known → List Fault
along_faults s ss k = faults_along (known_flow s) (null_check s) ss k

abbrev pub known_after_all : NullContext → List DeclaratorTree → Option Known → Option Known
known_after_all s ds k = option_map (all_declared (known_flow s) ds) k

abbrev pub all_faults : NullContext → List DeclaratorTree → Option Known → List Fault
all_faults s ds k = declared_faults (known_flow s) (null_check s) ds k

-- ---- a `for`

abbrev pub known_after_first : NullContext → Option InitTree → Option Known → Option Known
known_after_first s first k = behind_first (known_flow s) first k

abbrev pub heading_faults : NullContext → Option InitTree → Option Known → List Fault
heading_faults s first k = first_faults (known_flow s) (null_check s) first k

abbrev pub step_faults_of : NullContext → Option SimpleTree → Option Known → List Fault
step_faults_of s step k = step_faults (null_check s) step k

abbrev pub test_seen : NullContext → Option Known → Place → Option ExprTree → Seen
test_seen s k p o = seen s k (test_of p o)

abbrev pub test_faults : NullContext → Option Known → Place → Option ExprTree → List Fault
test_faults s k p o = inside s k (test_of p o)

-- at the head of a loop
abbrev pub known_at_head : StmtTree → Option SimpleTree → Option Known → Option Known
known_at_head st step k = option_map (λ (l : Known). record { facts = forgotten st step l.facts; fields = l.fields }) k
