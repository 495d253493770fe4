use Rattle.std.proofs.Common.{◌≡◌, ◌++◌, drop, map}
use Rattle.ss_core.specs.View.{field_of, class_of}
use Rattle.ss_terms.specs.Forms.{sort_of_declaration, class_sorts}
use Rattle.ss_terms.proofs.sorts.add_fields.Given as goal

abbrev pub invariant-loop-field : goal.invariant-loop-field
invariant-loop-field l = l.sorts.items ++ map sort_of_declaration (map field_of (drop l.field-index l.class.fields.items)) ≡ l.initial.sorts.items ++ class_sorts (class_of l.class)
