use Rattle.std.proofs.Common.{◌≡◌, ◌++◌, map, drop}
use Rattle.ss_typed.specs.Tree.{arguments}
use Rattle.ss_typed.specs.View.{expr}
use Rattle.ss_delayed_rules.specs.Escapes.{uses_each}
use Rattle.ss_delayed.specs.Parts.{use_of, links_uses, steps_uses}
use Rattle.ss_delayed.proofs.escapes.+uses.Given as goal

abbrev pub invariant-find_in_links-loop-link : goal.invariant-find_in_links-loop-link
invariant-find_in_links-loop-link l = l.found.items ++ links_uses (use_of l.allowed) (drop l.link-index l.links) ≡ l.fn.found.items ++ links_uses (use_of l.allowed) l.links

abbrev pub invariant-find_in_steps-loop-step : goal.invariant-find_in_steps-loop-step
invariant-find_in_steps-loop-step l = l.found.items ++ steps_uses (use_of l.allowed) (drop l.step-index l.steps) ≡ l.fn.found.items ++ steps_uses (use_of l.allowed) l.steps

abbrev pub invariant-find_in_each-loop-e : goal.invariant-find_in_each-loop-e
invariant-find_in_each-loop-e l = l.found.items ++ uses_each (use_of l.allowed) (arguments (map expr (drop l.e-index l.list))) ≡ l.fn.found.items ++ uses_each (use_of l.allowed) (arguments (map expr l.list))
