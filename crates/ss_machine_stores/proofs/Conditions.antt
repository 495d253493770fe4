-- Conditions that hold.
use Rattle.std.proofs.Common.{◌≡◌, List, map, Bool, sym, ◌∙◌, ap}
use Rattle.std.specs.List.{list_all}
use Rattle.std.proofs.lemmas.List.Folds.{list_all-map}
use Rattle.ss_core.specs.Tree.{ClassTree}
use Rattle.ss_core.specs.declared.expr.Expr.{Expr}
use Rattle.ss_core.specs.View.{expr}
use Rattle.ss_store_rules.specs.declared.Value.{Value}
use Rattle.ss_store_rules.specs.Store.{Object}
use Rattle.ss_store_rules.specs.Values.{setting, holds}
use Rattle.ss_machine_rules.specs.Steps.{all_hold}

pub all_hold_is : (cs : List ClassTree) (s t entry before : List Object) (locals : List Value) (es : List Expr) (b : Bool) → s ≡ t → before ≡ entry → b ≡ list_all (λ e. holds (expr e) (setting cs s before locals)) es → b ≡ all_hold (map expr es) (setting cs t entry locals)
all_hold_is cs s t entry before locals es b now then is =
    is
    ∙ ap (λ r. list_all (λ e. holds (expr e) (setting cs r before locals)) es) now
    ∙ ap (λ r. list_all (λ e. holds (expr e) (setting cs t r locals)) es) then
    ∙ sym (list_all-map (λ e. holds e (setting cs t entry locals)) expr es)
