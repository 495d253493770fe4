-- What is asked for at one term or atom, by the sentence.
use Rattle.std.specs.Prelude.{List}
use Rattle.ss_core.specs.Tree.{ClassTree}
use Rattle.ss_logic.specs.Terms.{Term}
use Rattle.ss_logic.specs.Formulas.{Formula}
use Rattle.ss_logic.specs.Asked.{Asked, asked_at_next, asked_at_owner, asked_of_term, asked_of_classes, asked_of_pair, asked_of_two_pairs, asked_of_truth, asked_at_division, asked_at_count, asked_at_equation, asked_at_equal, asked_at_new, asked_of_class}
use Rattle.ss_terms.specs.Forms.{Forms, term_at, HasTerm}
use Rattle.ss_rules_asked.specs.declared.among.Among.{Among}
use Rattle.ss_rules_asked.specs.declared.among.Among.TheVariants as some
use Rattle.ss_rules_asked.specs.declared.lists.AtTerm.{AtTerm}
use Rattle.ss_rules_asked.specs.declared.lists.AtTerm.TheVariants as term
use Rattle.ss_rules_asked.specs.declared.lists.AtAtom.{AtAtom}
use Rattle.ss_rules_asked.specs.declared.lists.AtAtom.TheVariants as atom
use Rattle.ss_rules_asked.specs.Readings.{reading_at, HasReading}

abbrev pub at_term : Forms → List ClassTree → AtTerm → Term → List Asked
at_term b cs term.Next t = asked_at_next t
at_term b cs (term.Owner after s) t = asked_at_owner (term_at b after) (term_at b s) t
at_term b cs term.Itself t = asked_of_term t
at_term b cs (term.OtherClass c) t = asked_of_classes (term_at b c) t
at_term b cs term.Pair t = asked_of_pair t
at_term b cs (term.OtherPair p) t = asked_of_two_pairs (term_at b p) t
at_term b cs term.Truth t = asked_of_truth cs t
at_term b cs term.Division t = asked_at_division t

abbrev pub HasAtTerm : Forms → AtTerm → Type 0
HasAtTerm b term.Next = Unit {0}
HasAtTerm b (term.Owner after s) = HasTerm b after × HasTerm b s
HasAtTerm b term.Itself = Unit {0}
HasAtTerm b (term.OtherClass c) = HasTerm b c
HasAtTerm b term.Pair = Unit {0}
HasAtTerm b (term.OtherPair p) = HasTerm b p
HasAtTerm b term.Truth = Unit {0}
HasAtTerm b term.Division = Unit {0}

abbrev pub at_atom : Forms → AtAtom → Formula → List Asked
at_atom b atom.Count f = asked_at_count f
at_atom b atom.Equation f = asked_at_equation f
at_atom b (atom.Equal r) f = asked_at_equal (reading_at b r) f

abbrev pub HasAtAtom : Forms → AtAtom → Type 0
HasAtAtom b atom.Count = Unit {0}
HasAtAtom b atom.Equation = Unit {0}
HasAtAtom b (atom.Equal r) = HasReading b r

-- for which the other terms are needed
abbrev pub among : Among → List Term → Term → List Asked
among some.New terms t = asked_at_new terms t
among some.Class terms t = asked_of_class terms t
