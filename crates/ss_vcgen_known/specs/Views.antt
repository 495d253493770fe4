-- What the values of the code's types stand for.
use Rattle.std.specs.Prelude.{ℕ, map, Bool, option_map}
use Rattle.ss_bit_set.specs.Marked.{marked}
use Rattle.ss_core.specs.View.{classes}
use Rattle.ss_store_rules.specs.NonNull as spec
use Rattle.ss_vcgen_types.specs.declared.type_context.TypeContext.{TypeContext}
use Rattle.ss_vcgen_known.specs.declared.sides.Sides.{Sides}
use Rattle.ss_vcgen_known.specs.declared.fields.Fields.{Fields}
use Rattle.ss_vcgen_known.specs.declared.known.Known.{Known}
use Rattle.ss_vcgen_known.specs.declared.tests.Tests.{Tests}
use Rattle.ss_vcgen_known.specs.declared.tests.Tests.TheFolds.{fold-Tests}
use Rattle.ss_vcgen_known.specs.declared.tests.Tests.TheOpen as shape
use Rattle.ss_vcgen_known.specs.declared.tests.Tests.TheOpen.{Tests-F}
use Rattle.ss_vcgen_known.specs.Pairs.{Pair, side, alike}
use Rattle.ss_vcgen_known.specs.Sets.{at}
use Rattle.ss_vcgen_types.specs.Told.{with_told}

-- the context in which an expression has its type
abbrev pub type_context_of : TypeContext → spec.Site
type_context_of s = record { classes = classes s.classes.now; locals = s.types.now; constructs = s.constructs }

-- ---- what is known

abbrev pub pair_of : Sides → Pair
pair_of s = record { holds = option_map marked s.holds; fails = option_map marked s.fails }

-- the fields that the list says, and those past its end
abbrev pub fields_of : Fields → ℕ → Bool
fields_of s = at s.list.items s.beyond

abbrev pub known_of : Known → spec.Known
known_of k = record {
  facts = marked k.facts;
  sides = λ x v. side (at (map pair_of k.sides.items) (alike (marked k.beyond)) x) v;
  fields = fields_of k.fields;
}

-- ---- tests

abbrev pub tests_step : Tests-F (spec.Known → spec.Known) → spec.Known → spec.Known
tests_step shape.Nothing k = k
tests_step (shape.Told before told) k = with_told told.now (before.now k)

-- what is known where all the tests have come out so, from the first one
abbrev pub tested : Tests → spec.Known → spec.Known
tested = fold-Tests (spec.Known → spec.Known) tests_step
