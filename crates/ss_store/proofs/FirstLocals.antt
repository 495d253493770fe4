-- The locals of Main in the first state.
use Rattle.std.proofs.Common.{◌≡◌, ℕ, ℤ, Bool, true, ◌&&◌, ◌≤◌, List, [], ◌∷◌, ◌++◌, map, take, length, refl, sym, ◌∙◌, ap, Option}
use Rattle.std.specs.Prelude.{option_to_list}
use Rattle.std.proofs.lemmas.List.{map-append, append_assoc, take_all}
use Rattle.ss_core.specs.declared.names.Ty.{Ty}
use Rattle.ss_core.specs.declared.body.Local.{Local}
use Rattle.std.specs.List.{list_all}
use Rattle.std.proofs.lemmas.List.Folds.{list_all-map}
use Rattle.ss_core.specs.declared.expr.Expr.{Expr}
use Rattle.ss_core.specs.declared.body.Body.{Body}
use Rattle.ss_core.specs.Tree.{ClassTree}
use Rattle.ss_core.specs.View.{local_of, body, expr, exprs}
use Rattle.ss_store_rules.specs.declared.Value.{Value}
use Rattle.ss_store_rules.specs.Store.{Object, default_value}
use Rattle.ss_store_rules.specs.Values.{holds, setting}
use Rattle.ss_store_rules.specs.Admitted.{first_store, first_locals, takes_input}
use Rattle.ss_store_rules.specs.Locals.{types_of}

defaults_of : (ls : List Local) → map (λ x. default_value x.ty) ls ≡ map default_value (types_of (map local_of ls))
defaults_of [] = refl
defaults_of (l ∷ ls) = ap (λ xs. default_value l.ty ∷ xs) (defaults_of ls)

pub all_locals : (args now : List Value) (ls : List Local) (i : ℕ) (r : Option Ty) → length ls ≤ i → now ≡ args ++ map (λ x. default_value x.ty) (take i ls) → now ++ map default_value (option_to_list r) ≡ args ++ map default_value (types_of (map local_of ls) ++ option_to_list r)
all_locals args now ls i r past is =
    let rest = map default_value (option_to_list r) in
    let own = map default_value (types_of (map local_of ls)) in
    let all : now ≡ args ++ own = is ∙ ap (λ xs. args ++ map (λ (x : Local). default_value x.ty) xs) (take_all i ls past) ∙ ap (λ xs. args ++ xs) (defaults_of ls) in
    ap (λ xs. xs ++ rest) all ∙ append_assoc args own rest ∙ ap (λ xs. args ++ xs) (sym (map-append default_value (types_of (map local_of ls)) (option_to_list r)))

-- what Main asks at entry, evaluated one by one, is what the input has to meet
pub met_at_entry : (cs : List ClassTree) (input : List ℤ) (main : Body) (takes met : Bool) (os : List Object) (ls : List Value) (es : List Expr) →
    takes ≡ true → takes ≡ takes_input (map local_of main.params.items) input → os ≡ first_store input → ls ≡ first_locals (body main) → es ≡ main.entry.items →
    met ≡ list_all (λ e. holds (expr e) (setting cs os os ls)) es →
    met ≡ (takes_input (map local_of main.params.items) input && list_all (λ e. holds e (setting cs (first_store input) (first_store input) (first_locals (body main)))) (exprs main.entry.items))
met_at_entry cs input main takes met os ls es accepted is store locals entry each =
    rw (sym is ∙ accepted)
    (each ∙ rw (store, locals, entry) (sym (list_all-map (λ e. holds e (setting cs (first_store input) (first_store input) (first_locals (body main)))) expr main.entry.items)))
