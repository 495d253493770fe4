-- The numbers of the classes that declare fields.
use Rattle.std.proofs.Common.{◌≡◌, ◌≢◌, ℕ, ◌≤◌, List, length, sym, arith, Some}
use Rattle.std.specs.Prelude.{slice_get}
use Rattle.std.proofs.lemmas.Option.{slice_get_within}
use Rattle.ss_core.specs.Tree.{ClassTree}
use Rattle.ss_core.specs.Chain.{DeclaredField, all_fields, most_classes}
use Rattle.ss_core.proofs.Declared.{declared_place}
use Rattle.ss_core.proofs.Fields.{field_declared}
use Rattle.ss_store.specs.Shapes.{no_class}

pub not_no_class : (cs : List ClassTree) (f : ℕ) (d : DeclaredField) → length cs ≤ most_classes → Some d ≡ slice_get (all_fields cs) f → d.class ≢ no_class
not_no_class cs f d few h is =
    let field = field_declared cs f d (sym h) in
    let place = declared_place cs d.class field.by field.is_class in
    let within = slice_get_within cs place.0 field.by place.2 in
    let number = place.1 in
    absurd (omega arith)
