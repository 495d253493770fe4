-- Default conditions that have been listed.
use Rattle.std.specs.Prelude.{List, map}
use Rattle.std.specs.Global.{Vec}
use Rattle.ss_core.specs.declared.expr.DefaultCondition.{DefaultCondition}
use Rattle.ss_core.specs.Tree.{DefaultTree}
use Rattle.ss_core.specs.View.{default_tree}

abbrev pub defaults_of : Vec DefaultCondition → List DefaultTree
defaults_of ds = map default_tree ds.items
