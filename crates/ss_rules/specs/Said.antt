-- A list with what an instance says.
use Rattle.std.specs.Prelude.{List, Option, Some, None}
use Rattle.ss_logic.specs.Formulas.{Formula}
use Rattle.ss_logic.specs.Occurring.{with_formula}

abbrev pub with_said : List Formula → Option Formula → List Formula
with_said fs None = fs
with_said fs (Some f) = with_formula fs f
