-- All code goes on safely from a position at which the run is, where its obligations are valid.
use Rattle.std.proofs.Common.{List}
use Rattle.ss_core.specs.Tree.{StmtTree, AssignStmt, WriteStmt, WriteElementStmt, NewStmt, NewArrayStmt, CallStmt, ReadyStmt, IfStmt, LoopStmt, UnpackStmt, PackStmt, AssertStmt, AssumeStmt, PrintStmt, PrintTextStmt, ReturnStmt, CodeTree, NoCode, Then}
use Rattle.ss_store_rules.specs.declared.Value.{Value}
use Rattle.ss_store_rules.specs.Store.{Object}
use Rattle.ss_logic.specs.Values.{Table}
use Rattle.ss_vcgen_heaps.specs.Positions.{Walk}
use Rattle.ss_sound_outcomes.specs.Points.{Point}
use Rattle.ss_sound_outcomes.specs.Outcomes.{AllSafely}
use Rattle.ss_vcgen_safe.specs.At.{activation}
use Rattle.ss_vcgen_safe.specs.Goes.{IsEntered, Goes}
use Rattle.ss_vcgen_safe.proofs.Plain.{assign_goes, assert_goes, assume_goes, print_goes, text_goes}
use Rattle.ss_vcgen_safe.proofs.Returns.{return_goes}
use Rattle.ss_vcgen_safe.proofs.Arrays.{array_goes}
use Rattle.ss_vcgen_safe.proofs.Elements.{element_goes}
use Rattle.ss_vcgen_safe.proofs.Writes.{write_goes}
use Rattle.ss_vcgen_safe.proofs.Levels.{unpack_goes, pack_goes}
use Rattle.ss_vcgen_safe.proofs.Ready.{ready_goes}
use Rattle.ss_vcgen_safe.proofs.Calls.{call_goes}
use Rattle.ss_vcgen_safe.proofs.News.{new_goes}
use Rattle.ss_vcgen_safe.specs.Forms.{AllGoes}
use Rattle.ss_vcgen_safe.proofs.Goes.{loop_goes}
use Rattle.ss_vcgen_safe.proofs.Tests.{tests_go}
use Rattle.ss_vcgen_safe.proofs.Branches.{nothing_goes, one_more_goes, if_goes}

module _ (w : Walk) (before : List Object) (table : Table) (arguments : List Value) (entered : IsEntered w before arguments) where
  mutual
    goes : (s : StmtTree) (Q : Point → Type 0) → Goes w before table arguments s Q
    goes (IfStmt at e one other) Q = if_goes w before table arguments (tests_go w before table entered.program) at e one other Q (all_go one Q) (all_go other Q)
    goes (LoopStmt at asked prelude e body exposes) Q =
        loop_goes w before table arguments entered at asked prelude e body exposes (λ R. all_go prelude R) (λ R. all_go body R) Q
    goes (ReturnStmt at e) Q = return_goes w before table arguments entered at e Q
    goes (AssignStmt at x e) Q = assign_goes w before table arguments entered at x e Q
    goes (WriteStmt at e f m t value) Q = write_goes w before table arguments entered at e f m t value Q
    goes (WriteElementStmt at e i value) Q = element_goes w before table arguments entered at e i value Q
    goes (NewStmt at x t es) Q = new_goes w before table arguments entered at x t es Q
    goes (NewArrayStmt at x t e) Q = array_goes w before table arguments entered at x t e Q
    goes (CallStmt at x callee es) Q = call_goes w before table arguments entered at x callee es Q
    goes (ReadyStmt at) Q = ready_goes w before table arguments entered at Q
    goes (UnpackStmt at x t) Q = unpack_goes w before table arguments entered at x t Q
    goes (PackStmt at x t) Q = pack_goes w before table arguments entered at x t Q
    goes (AssertStmt at e) Q = assert_goes w before table arguments entered at e Q
    goes (AssumeStmt at e) Q = assume_goes w before table arguments entered at e Q
    goes (PrintStmt at e newline) Q = print_goes w before table arguments entered at e newline Q
    goes (PrintTextStmt at text newline) Q = text_goes w before table arguments entered at text newline Q

    pub all_go : (code : CodeTree) (Q : Point → Type 0) → AllGoes w before table arguments code Q
    all_go NoCode Q = nothing_goes w before table arguments Q
    all_go (Then s code) Q = one_more_goes w before table arguments s code Q (goes s (λ q. AllSafely (activation w before table) code q Q)) (all_go code Q)
