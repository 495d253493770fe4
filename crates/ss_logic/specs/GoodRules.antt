-- The instances of the rules on good stores.
use Rattle.std.specs.Prelude.{List, [], ◌∷◌, Option, None, if◌then◌else◌}
use Rattle.ss_core.specs.Tree.{ClassTree}
use Rattle.ss_logic.specs.declared.Sort.TheVariants as sort
use Rattle.ss_logic.specs.Terms.{Term, have_sorts}
use Rattle.ss_logic.specs.Formulas.{Formula}
use Rattle.ss_logic.specs.declared.GoodRule.{GoodRule}
use Rattle.ss_logic.specs.declared.GoodRule.TheVariants as rule
use Rattle.ss_logic.specs.Good.{full_of, owned_of, marks_of, typed_of, ready_of}

abbrev pub good_sentence : List ClassTree → GoodRule → Term → List Term → Option Formula
good_sentence cs rule.Full s ts = full_of cs s ts
good_sentence cs rule.Owned s ts = owned_of cs s ts
good_sentence cs rule.Marks s ts = marks_of cs s ts
good_sentence cs rule.Typed s ts = typed_of cs s ts
good_sentence cs rule.Ready s ts = ready_of cs s ts

-- what the rule says of the store and these arguments, where they fit it
abbrev pub good_instance_of : List ClassTree → GoodRule → Term → List Term → Option Formula
good_instance_of cs name s ts = if have_sorts cs (sort.Store ∷ []) (s ∷ []) then good_sentence cs name s ts else None
