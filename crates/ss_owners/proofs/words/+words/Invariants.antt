use Rattle.std.proofs.Common.{◌≡◌, ◌++◌, map, drop}
use Rattle.ss_typed.specs.Tree.{arguments}
use Rattle.ss_typed.specs.View.{expr}
use Rattle.ss_owners_rules.specs.Words.{misplaced_each}
use Rattle.ss_owners.specs.Parts.{allowed_of, links_words, steps_words}
use Rattle.ss_owners.proofs.words.+words.Given as goal

abbrev pub invariant-find_in_links-loop-link : goal.invariant-find_in_links-loop-link
invariant-find_in_links-loop-link l = l.found.items ++ links_words (allowed_of l.allowed) (drop l.link-index l.links) ≡ l.fn.found.items ++ links_words (allowed_of l.allowed) l.links

abbrev pub invariant-find_in_steps-loop-step : goal.invariant-find_in_steps-loop-step
invariant-find_in_steps-loop-step l = l.found.items ++ steps_words (allowed_of l.allowed) (drop l.step-index l.steps) ≡ l.fn.found.items ++ steps_words (allowed_of l.allowed) l.steps

abbrev pub invariant-find_in_each-loop-e : goal.invariant-find_in_each-loop-e
invariant-find_in_each-loop-e l = l.found.items ++ misplaced_each (allowed_of l.allowed) (arguments (map expr (drop l.e-index l.list))) ≡ l.fn.found.items ++ misplaced_each (allowed_of l.allowed) (arguments (map expr l.list))
