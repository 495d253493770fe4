-- A body is entered.
use Rattle.std.proofs.Common.{◌≡◌, List, [], ◌∷◌, Bool, true, Some, Result, Ok, Err, sym, ap, ◌∙◌, subst}
use Rattle.ss_core.specs.declared.names.Place.{Place}
use Rattle.ss_core.specs.declared.names.Kind.TheVariants as kind
use Rattle.ss_core.specs.Tree.{BodyTree, CoreTree}
use Rattle.ss_store_rules.specs.declared.Value.{Value}
use Rattle.ss_store_rules.specs.Store.{Object}
use Rattle.ss_store_rules.specs.Values.{setting}
use Rattle.ss_machine_rules.specs.States.{Frame, Target, Goes, locals_at_entry, frame_at_entry}
use Rattle.ss_machine_rules.specs.Steps.{all_hold, where_holds, enter}
use Rattle.ss_machine.specs.declared.frame.Frame as code
use Rattle.ss_machine.specs.declared.halt.Halt.{Halt}
use Rattle.ss_machine.specs.declared.machine.Machine.{Machine}
use Rattle.ss_machine.specs.Frames.{frame_of, running, waiting}
use Rattle.ss_machine.specs.Moves.{Does, HaltIs, Enters}

module _ (c : CoreTree) (b : BodyTree) (at : Place) (into : Target) (arguments locals : List Value) (f : code.Frame) (old new : Machine) where
  pub entered : (r : Result Unit Halt) → locals ≡ locals_at_entry b arguments → all_hold b.entry (setting c.classes old.stores.now old.stores.now locals) ≡ true → ((s : List Object) → frame_of f s ≡ frame_at_entry b locals s into)
      → Enters r f old new → Does r (enter c (Some b) at into arguments (running old) (waiting old) old.stores.now) new
  entered (Err h) l holds is e = subst (λ (x : Halt). HaltIs x (enter c (Some b) at into arguments (running old) (waiting old) old.stores.now) new) (sym e) tt
  entered (Ok u) l holds is e =
      let s = old.stores.now in
      let gone = λ (ls : List Value). where_holds (all_hold b.entry (setting c.classes s s ls)) kind.Precondition at (Goes (frame_at_entry b ls s into ∷ running old ∷ waiting old) s []) in
      let first : gone (locals_at_entry b arguments) ≡ gone locals = ap gone (sym l) in
      let then : gone locals ≡ Goes (frame_at_entry b locals s into ∷ running old ∷ waiting old) s [] = ap (λ (h : Bool). where_holds h kind.Precondition at (Goes (frame_at_entry b locals s into ∷ running old ∷ waiting old) s [])) holds in
      first ∙ then ∙ ap (λ (x : Frame). Goes (x ∷ running old ∷ waiting old) s []) (sym (is s)) ∙ sym e
