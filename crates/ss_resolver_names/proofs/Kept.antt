-- What is kept of a class is what the class has.
use Rattle.std.proofs.Common.{ℕ, ◌≡◌, List, [], Option, Some, None, option_map, ◌++◌, refl, ap, ◌∙◌}
use Rattle.std.specs.Prelude.{slice_get}
use Rattle.std.proofs.lemmas.Option.{same_Some}
use Rattle.ss_ast.specs.Programs.{ClassTree}
use Rattle.ss_tables.specs.Members.{fields_in, methods_in}
use Rattle.ss_tables.specs.Classes.{members_in, members_at}
use Rattle.ss_tables_lookup.specs.Shelves.{Shelf, shelf}
use Rattle.ss_resolver_names_rules.specs.Faults.{Faults}
use Rattle.ss_resolver_names_rules.specs.Programs.{constructors_locals_faults, methods_locals_faults}

fields_of : (cs : List ClassTree) (x : Shelf) (o : Option ClassTree) → Some x ≡ option_map (shelf cs) o → x.fields ≡ fields_in (members_in o)
fields_of cs x None e = absurd cc
fields_of cs x (Some c) e = ap (λ (y : Shelf). y.fields) (same_Some x (shelf cs c) e)

pub kept_fields : (cs : List ClassTree) (k : ℕ) (x : Shelf) → Some x ≡ option_map (shelf cs) (slice_get cs k) → x.fields ≡ fields_in (members_at cs k)
kept_fields cs k x e = fields_of cs x (slice_get cs k) e

methods_of : (cs : List ClassTree) (x : Shelf) (o : Option ClassTree) → Some x ≡ option_map (shelf cs) o → x.methods ≡ methods_in (members_in o)
methods_of cs x None e = absurd cc
methods_of cs x (Some c) e = ap (λ (y : Shelf). y.methods) (same_Some x (shelf cs c) e)

pub kept_methods : (cs : List ClassTree) (k : ℕ) (x : Shelf) → Some x ≡ option_map (shelf cs) (slice_get cs k) → x.methods ≡ methods_in (members_at cs k)
kept_methods cs k x e = methods_of cs x (slice_get cs k) e

pub no_fields : (cs : List ClassTree) (o : Option ClassTree) → None ≡ option_map (shelf cs) o → fields_in (members_in o) ≡ []
no_fields cs None e = refl
no_fields cs (Some c) e = absurd cc

pub no_methods : (cs : List ClassTree) (o : Option ClassTree) → None ≡ option_map (shelf cs) o → methods_in (members_in o) ≡ []
no_methods cs None e = refl
no_methods cs (Some c) e = absurd cc

-- the shelf of a class at a place
pub shelf_at : (cs : List ClassTree) (k : ℕ) (c : ClassTree) (x : Shelf) → slice_get cs k ≡ Some c → Some x ≡ option_map (shelf cs) (slice_get cs k) → x ≡ shelf cs c
shelf_at cs k c x at e = same_Some x (shelf cs c) (e ∙ ap (option_map (shelf cs)) at)

pub no_shelf_at : (cs : List ClassTree) (k : ℕ) (c : ClassTree) → slice_get cs k ≡ Some c → None ≡ option_map (shelf cs) (slice_get cs k) → ⊥
no_shelf_at cs k c at e = let h : None ≡ Some (shelf cs c) = e ∙ ap (option_map (shelf cs)) at in cc

-- the faults of bodies by what is kept of a class
abbrev pub shelf_bodies : List ClassTree → ℕ → Shelf → Faults
shelf_bodies cs k x = constructors_locals_faults cs k x.constructors ++ methods_locals_faults cs k x.methods
