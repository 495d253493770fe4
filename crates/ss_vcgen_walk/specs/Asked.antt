-- What is asked of values: the parts of expressions, by what their operands mean.
use Rattle.std.specs.Prelude.{List, [], ◌++◌, Bool, true, if◌then◌else◌}
use Rattle.ss_core.specs.declared.names.Kind.TheVariants as kind
use Rattle.ss_core.specs.declared.names.Place.{Place}
use Rattle.ss_core.specs.Tree.{WordTree, New}
use Rattle.ss_logic.specs.Shapes.{allocated}
use Rattle.ss_logic.specs.Express.{Meant, Context, over, not_null}
use Rattle.ss_vcgen_express.specs.Marked.{Marked, marked_part}

-- the object isn't null
abbrev pub asked_null : Bool → Meant → Place → List Marked
asked_null checked m p = marked_part kind.Null p checked (not_null m)

-- inside `old` it was allocated at entry
abbrev pub asked_allocated : Context → Meant → Place → List Marked
asked_allocated c m p = if c.inside_old then marked_part kind.Null p true (over m (allocated c.entry)) else []

-- its state may be read
abbrev pub asked_readable : Bool → Context → Meant → Place → List Marked
asked_readable checked c m p = asked_null checked m p ++ asked_allocated c m p

abbrev pub asked_word : WordTree → Bool → Context → Meant → Place → List Marked
asked_word New checked c m p = asked_null checked m p
asked_word w checked c m p = asked_readable checked c m p
