use Rattle.std.proofs.Common.{◌≡◌, ◌++◌, ◌∷◌, [], List, ℕ, map, ◌∙◌, ap, sym, subst, append-nil, is_some, true, false, OnOk}
use Rattle.ss_tables_lookup.specs.Classes.{trees}
use Rattle.ss_tables.specs.Named.{named_in}
use Rattle.ss_resolver_names_rules.specs.Faults.{is_listed}
use Rattle.ss_resolver_rules.specs.Numbers.{names_of, declared_entry}
use Rattle.ss_resolver_tables.specs.Slots.{slots_of}
use Rattle.ss_resolver_tables.proofs.Counted.{place_listed, not_new, is_new}
use Rattle.ss_resolver_tables.proofs.slots.add_method.Goals as goal

pub returns-in-Some : goal.returns-in-Some
returns-in-Some c = λ es h.
    let n = c.args.name.now in
    let old = slots_of c.args.slots.now.items in
    let some : is_listed (names_of es) n ≡ true = sym (place_listed es n) ∙ ap (λ ps. is_some (named_in ps n)) (sym h) ∙ ap is_some (sym c.find.ensures ∙ c.in-Some.is) in
    sym (append-nil old) ∙ ap (λ ns. old ++ map (declared_entry (trees c.args.tables.now) c.args.class) ns) (sym (not_new es n some))

pub returns-in-None : goal.returns-in-None
returns-in-None c = λ es h.
    let n = c.args.name.now in
    let old = slots_of c.args.slots.now.items in
    let none : is_listed (names_of es) n ≡ false = sym (place_listed es n) ∙ ap (λ ps. is_some (named_in ps n)) (sym h) ∙ ap is_some (sym c.find.ensures ∙ c.in-None.is) in
    subst (λ (ns : List (List ℕ)). OnOk c.push_method.result (slots_of c.push_method.new.slots.items ≡ old ++ map (declared_entry (trees c.args.tables.now) c.args.class) ns)) (sym (is_new es n none)) c.push_method.ensures
