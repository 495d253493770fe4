-- The heap with the owners that a write gives.
use Rattle.std.specs.Prelude.{ℕ}
use Rattle.ss_core.specs.declared.names.Mark.{Mark}
use Rattle.ss_core.specs.declared.names.Mark.TheVariants as mark
use Rattle.ss_logic.specs.Values.{Thing, Heap}
use Rattle.ss_logic.specs.Changes.{captured, joined}

-- where a field with this mark, which the class t declares, is to refer from o to e
abbrev pub owned_heap : Mark → Heap → Thing → ℕ → Thing → Heap
owned_heap mark.Plain h o t e = h
owned_heap mark.Rep h o t e = captured h o t e
owned_heap mark.Peer h o t e = joined h o e
