-- What a `modifies` clause names, by its kind.
use Rattle.std.specs.Prelude.{List, [], ◌∷◌, ◌++◌, map, Bool, if◌then◌else◌}
use Rattle.ss_core.specs.Tree.{ClassTree, BodyTree, NamedTree, FieldOf, AllOf, ElementsOf, UptoOf}
use Rattle.ss_logic.specs.Terms.{Term}
use Rattle.ss_logic.specs.Formulas.{Formula}
use Rattle.ss_logic.specs.Express.{and_of, Meant, One, Either, Says, Context, meant, at_entry}
use Rattle.ss_logic.specs.Frames as logic
use Rattle.ss_logic.specs.Frames.{NamesField, NamesAll, NamesUpto, NamesElements}
use Rattle.ss_machine_rules.specs.Frame.{subject_of}
use Rattle.ss_terms.specs.declared.forms.TermId.{TermId}
use Rattle.ss_terms.specs.declared.forms.FormulaId.{FormulaId}
use Rattle.ss_frames.specs.declared.calls.NamedTerm.{NamedTerm}
use Rattle.ss_frames.specs.declared.calls.NamedTerm.TheVariants as term
use Rattle.ss_vcgen_heaps.specs.Contracts as heaps
use Rattle.ss_vcgen_contracts.specs.declared.names.Named.{Named}
use Rattle.ss_vcgen_contracts.specs.declared.names.Named.TheVariants as named

-- as it is written, or as a caller sees it
abbrev pub name_seen : Bool → NamedTree → NamedTree
name_seen seen (UptoOf e t) = if seen then AllOf e else UptoOf e t
name_seen seen n = n

abbrev pub kind_of : NamedTree → Named
kind_of (FieldOf e f) = named.Field (record { 0 = f })
kind_of (AllOf e) = named.All
kind_of (ElementsOf e) = named.Elements
kind_of (UptoOf e t) = named.Upto (record { 0 = t })

abbrev pub named_by : Named → Formula → Term → logic.NamedTerm
named_by (named.Field f) guard o = NamesField guard o f.0
named_by named.All guard o = NamesAll guard o
named_by named.Elements guard o = NamesElements guard o
named_by (named.Upto t) guard o = NamesUpto guard o t.0

abbrev pub named_for : Named → FormulaId → TermId → NamedTerm
named_for (named.Field f) guard o = term.At guard o f
named_for named.All guard o = term.All guard o
named_for named.Elements guard o = term.Elements guard o
named_for (named.Upto t) guard o = term.Upto guard o t

abbrev pub named_as : Named → List Formula → Meant → List logic.NamedTerm
named_as k guards (One t) = named_by k (and_of guards) t ∷ []
named_as k guards (Either xs) = map (λ x. named_by k (and_of (guards ++ x.condition ∷ [])) x.value) xs
named_as k guards (Says f) = []

-- what one clause names
abbrev pub names_of : Context → NamedTree → List logic.NamedTerm
names_of c n = heaps.named_as n (heaps.naming_parts (subject_of n) c) (meant (subject_of n) c)

-- where what is named stands: inside `old`, before there is a result
abbrev pub names_context : List ClassTree → BodyTree → Term → List Meant → Context
names_context cs b before arguments = at_entry (heaps.contract_context cs b before before arguments (heaps.no_result b))
