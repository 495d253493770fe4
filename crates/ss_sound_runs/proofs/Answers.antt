-- What a body gives back.
use Rattle.std.proofs.Common.{◌≡◌, ℕ, List, ◌∷◌, Option, Ok, refl}
use Rattle.ss_core.specs.declared.names.Place.{Place}
use Rattle.ss_core.specs.Tree.{ExprTree, ReturnStmt, CoreTree}
use Rattle.ss_store_rules.specs.declared.Value.{Value}
use Rattle.ss_store_rules.specs.Store.{Object}
use Rattle.ss_store_rules.specs.Formed.{IsFormed}
use Rattle.ss_machine_rules.specs.States.{Due, Statement, ToCall, Frame, scene}
use Rattle.ss_machine_rules.specs.Steps.{result_value}
use Rattle.ss_machine_good.specs.LaterFrames.{IsGoodFrame, IsAnswer, constructed}
use Rattle.ss_machine_good.proofs.Returns.{result_is, answer_call}

pub answered : (c : CoreTree) → IsFormed c → (f : Frame) (s : List Object) (ds : List Due) → IsGoodFrame c f s → (p : Place) (e : Option ExprTree) → f.left ≡ Statement (ReturnStmt p e) ∷ ds → (v : Value) → result_value e (scene c f s) ≡ Ok v →
    (x : Option ℕ) → IsAnswer c f.body (ToCall x) (constructed f) s v
answered c formed f s ds is p e at v ev x = answer_call c formed f s p e ds at is x v (result_is c formed f s p e ds at is e refl v ev)
