use Rattle.std.proofs.Common.{drop}
use Rattle.ss_core.specs.View.{block}
use Rattle.ss_terms.specs.Forms.{Forms}
use Rattle.ss_vcgen_heaps.specs.Obligations.{behind_all}
use Rattle.ss_vcgen_builder.specs.Builder.{walk_at}
use Rattle.ss_vcgen_statements.proofs.Steps.{Along}
use Rattle.ss_vcgen.proofs.behind.+statements.Given as goal

abbrev pub invariant-behind_all-loop-stmt : goal.invariant-behind_all-loop-stmt
invariant-behind_all-loop-stmt l = Along l.fn.builder l.builder (λ (b : Forms) k. behind_all (walk_at b l.walk) (block l.code) k) (λ b k. behind_all (walk_at b l.walk) (block (drop l.stmt-index l.code)) k)
