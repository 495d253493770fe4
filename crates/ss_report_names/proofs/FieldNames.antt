-- The table of the names of fields has the names of the declared fields, in order.
use Rattle.std.proofs.Common.{◌≡◌, ℕ, zero, suc, ◌+◌, List, [], ◌∷◌, ◌++◌, map, refl, ap, sym, ◌∙◌}
use Rattle.std.specs.List.{slice_get}
use Rattle.ss_core.specs.Tree.{FieldTree, ClassTree}
use Rattle.ss_core.specs.Chain.{DeclaredField, fields_of_class, fields_from, all_fields}
use Rattle.ss_report_names.specs.Names.{or_nothing, name_of_field, field_name}
use Rattle.ss_report_names.specs.Tables.{field_names}

abbrev declared_field_name : DeclaredField → List ℕ
declared_field_name d = d.field.name

names_after : (t : ℕ) (fs : List FieldTree) (ds : List DeclaredField) → map declared_field_name (fields_of_class t fs ++ ds) ≡ map (λ f. f.name) fs ++ map declared_field_name ds
names_after t [] ds = refl
names_after t (f ∷ fs) ds = ap (λ ns. f.name ∷ ns) (names_after t fs ds)

names_from : (t : ℕ) (cs : List ClassTree) → map declared_field_name (fields_from t cs) ≡ field_names cs
names_from t [] = refl
names_from t (c ∷ cs) = names_after t c.fields (fields_from (t + 2) cs) ∙ ap (λ ns. map (λ f. f.name) c.fields ++ ns) (names_from (t + 2) cs)

name_found : (ds : List DeclaredField) (f : ℕ) → or_nothing (slice_get (map declared_field_name ds) f) ≡ name_of_field (slice_get ds f)
name_found [] f = refl
name_found (d ∷ ds) zero = refl
name_found (d ∷ ds) (suc f) = name_found ds f

pub field_named : (cs : List ClassTree) (f : ℕ) → or_nothing (slice_get (field_names cs) f) ≡ field_name cs f
field_named cs f = ap (λ ns. or_nothing (slice_get ns f)) (sym (names_from 4 cs)) ∙ name_found (all_fields cs) f
