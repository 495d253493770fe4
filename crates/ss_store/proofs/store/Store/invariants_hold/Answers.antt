use Rattle.std.proofs.Common.{Bool, [], ◌∷◌, sym, ◌∙◌, ap, option_map}
use Rattle.std.specs.List.{list_all}
use Rattle.ss_core.specs.View.{classes, class_of, expr}
use Rattle.ss_core.specs.Tree.{ExprTree}
use Rattle.ss_store_rules.specs.declared.Value.TheVariants as value
use Rattle.ss_store_rules.specs.Reads.{is_null_or}
use Rattle.ss_store_rules.specs.Values.{setting, holds}
use Rattle.ss_store_rules.specs.Admissible.{invariants_hold}
use Rattle.ss_store.proofs.Packs.{all_of_class}
use Rattle.ss_store.proofs.store.Store.invariants_hold.Goals as goal

pub returns-in-Some : goal.returns-in-Some
returns-in-Some c =
    let cs = classes c.args.c.now.classes in
    let s = c.args.self.now.objects in
    let is = ap (option_map (λ k. class_of k.now)) (sym c.in-Some.is) ∙ c.declared.ensures in
    let p : ExprTree → Bool = λ e. holds e (setting cs s s (value.Obj c.in-Obj.o ∷ [])) in
    c.all_hold.ensures
    ∙ ap (λ es. list_all (λ e. p (expr e)) es) c.deref.ensures.value
    ∙ all_of_class cs c.args.t.0 p c.in-Some.class.now is
    ∙ ap (λ v. is_null_or v (λ q. invariants_hold cs s q c.args.t.0)) (sym c.in-Obj.is)
