-- Main at its entry.
use Rattle.std.proofs.Common.{◌≡◌, ℤ, List, [], ◌∷◌, reverse, None, Some, sym, ap, ◌∙◌}
use Rattle.ss_core.specs.Tree.{BodyTree}
use Rattle.ss_store_rules.specs.declared.Value.{Value}
use Rattle.ss_store_rules.specs.Store.{Object}
use Rattle.ss_store_rules.specs.Admitted.{main_arguments, first_store, first_locals}
use Rattle.ss_machine_rules.specs.States.{Frame, ToCall, Running, frame_at_entry, locals_at_entry}
use Rattle.ss_machine_rules.specs.Runs.{start_with}
use Rattle.ss_machine_stores.specs.Shapes.{Timeline, entry_of, rest_of}
use Rattle.ss_machine.specs.declared.frame.Frame as code
use Rattle.ss_machine.specs.declared.machine.Machine.{Machine}
use Rattle.ss_machine.specs.Frames.{frame_of, frames_of, running, waiting}

pub started : (b : BodyTree) (input : List ℤ) (locals arguments : List Value) (m : Machine) → ((s : List Object) → frame_of m.top s ≡ frame_at_entry b locals s (ToCall None)) → locals ≡ locals_at_entry b arguments
    → arguments ≡ main_arguments b.params → m.below.items ≡ [] → m.stores ≡ record { now = first_store input; entries = first_store input ∷ [] } → start_with input (Some b) ≡ Running (running m ∷ waiting m) m.stores.now []
started b input locals arguments m frame l a below st =
    let main = frame_at_entry b (first_locals b) (first_store input) (ToCall None) in
    let e1 : running m ≡ main =
    frame (entry_of m.stores.entries)
    ∙ ap (λ (t : Timeline). frame_at_entry b locals (entry_of t.entries) (ToCall None)) st
    ∙ ap (λ (ls : List Value). frame_at_entry b ls (first_store input) (ToCall None)) (l ∙ ap (locals_at_entry b) a) in
    let e2 : waiting m ≡ [] = ap (λ (fs : List code.Frame). frames_of (reverse fs) (rest_of m.stores.entries)) below in
    let e3 : m.stores.now ≡ first_store input = ap (λ (t : Timeline). t.now) st in
    sym (ap (λ (f : Frame). Running (f ∷ waiting m) m.stores.now []) e1
    ∙ ap (λ (fs : List Frame). Running (main ∷ fs) m.stores.now []) e2
    ∙ ap (λ (s : List Object). Running (main ∷ []) s []) e3)
