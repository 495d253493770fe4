-- The marks of all fields, class by class.
use Rattle.std.proofs.Common.{◌≡◌, ◌++◌, ◌+◌, ℕ, List, [], ◌∷◌, map, refl, sym, ap, ◌∙◌}
use Rattle.ss_core.specs.declared.names.Mark.{Mark}
use Rattle.ss_core.specs.declared.class.Class.{Class}
use Rattle.ss_core.specs.declared.class.Classes.{Classes}
use Rattle.ss_core.specs.View.{class_of, classes}
use Rattle.ss_core.specs.Tree.{ClassTree, FieldTree}
use Rattle.ss_core.specs.Chain.{DeclaredField, fields_of_class, fields_from}
use Rattle.std.proofs.lemmas.List.{map-append}
use Rattle.ss_owners_rules.specs.Admissible.{field_marks}
use Rattle.ss_owners.specs.Marked.{marks_of, marks_in}

abbrev mark_in : DeclaredField → Mark
mark_in d = d.field.mark

own_marks : (t : ℕ) (fs : List FieldTree) → map mark_in (fields_of_class t fs) ≡ marks_of fs
own_marks t [] = refl
own_marks t (f ∷ fs) = ap (λ (ms : List Mark). f.mark ∷ ms) (own_marks t fs)

marks_from : (t : ℕ) (cs : List ClassTree) → map mark_in (fields_from t cs) ≡ marks_in cs
marks_from t [] = refl
marks_from t (c ∷ cs) =
    map-append mark_in (fields_of_class t c.fields) (fields_from (t + 2) cs)
    ∙ ap (λ (ms : List Mark). ms ++ map mark_in (fields_from (t + 2) cs)) (own_marks t c.fields)
    ∙ ap (λ (ms : List Mark). marks_of c.fields ++ ms) (marks_from (t + 2) cs)

pub marks_are : (cs : List ClassTree) → marks_in cs ≡ field_marks cs
marks_are cs = sym (marks_from 4 cs)

pub marks_found : (t : Classes) (list : List Class) (m0 m1 : List Mark) → list ≡ t.list.items → m0 ≡ [] → m1 ≡ m0 ++ marks_in (map class_of list) → m1 ≡ field_marks (classes t)
marks_found t list m0 m1 list_is none found =
    found ∙ ap (λ (ms : List Mark). ms ++ marks_in (map class_of list)) none ∙ ap (λ (cs : List Class). marks_in (map class_of cs)) list_is ∙ marks_are (classes t)
