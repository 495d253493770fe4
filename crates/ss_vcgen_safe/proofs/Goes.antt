-- A loop of a formed body goes on safely where its obligations are valid, if its prelude and its body do.
use Rattle.std.proofs.Common.{List}
use Rattle.ss_store_rules.specs.declared.Value.{Value}
use Rattle.ss_store_rules.specs.Store.{Object}
use Rattle.ss_logic.specs.Values.{Table}
use Rattle.ss_vcgen_heaps.specs.Positions.{Walk}
use Rattle.ss_vcgen_safe.specs.Goes.{IsEntered}
use Rattle.ss_vcgen_safe.specs.Forms.{LoopsGo}
use Rattle.ss_vcgen_safe.proofs.Tests.{tests_go}
use Rattle.ss_vcgen_safe.proofs.Loops.{goes}
use Rattle.ss_vcgen_safe.proofs.Heads.{head_checks, heads_are_taken}

pub loop_goes : (w : Walk) (before : List Object) (table : Table) (arguments : List Value) → IsEntered w before arguments → LoopsGo w before table arguments
loop_goes w before table arguments entered = goes w before table arguments (tests_go w before table entered.program) (head_checks w before table arguments entered) (heads_are_taken w before table arguments entered)
