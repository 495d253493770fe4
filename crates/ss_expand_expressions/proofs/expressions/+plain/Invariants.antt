use Rattle.std.proofs.Common.{◌≡◌, take}
use Rattle.ss_core.specs.declared.names.Place.{Place}
use Rattle.ss_core.specs.Parts as core_parts
use Rattle.ss_typed.specs.Tree.{ExprTree}
use Rattle.ss_expand_rules.specs.Numbers.{plain}
use Rattle.ss_expand_expressions.specs.Views.{numbers_of, path_of}
use Rattle.ss_typed.specs.Parts.{linked, stepped}
use Rattle.ss_expand_expressions.proofs.expressions.+plain.Given as goal

abbrev pub invariant-plain_links-loop-link : goal.invariant-plain_links-loop-link
invariant-plain_links-loop-link l = (p : Place) → (before : ExprTree) → core_parts.chain_front p (plain (numbers_of l.numbers) before) l.list.items ≡ plain (numbers_of l.numbers) (linked p before (take l.link-index l.links))

abbrev pub invariant-plain_steps-loop-step : goal.invariant-plain_steps-loop-step
invariant-plain_steps-loop-step l = (p : Place) → (before : ExprTree) → path_of p (plain (numbers_of l.numbers) before) l.path ≡ plain (numbers_of l.numbers) (stepped p before (take l.step-index l.steps))
