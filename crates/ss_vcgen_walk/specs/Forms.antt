-- The forms of expressions with one operand and with two: what each means, and what it asks after the parts of its operands.
use Rattle.std.specs.Prelude.{ℕ, pos, List, [], ◌∷◌, ◌++◌, Bool, true, not, flat_map, if◌then◌else◌}
use Rattle.ss_core.specs.declared.names.Kind.TheVariants as kind
use Rattle.ss_core.specs.declared.names.Place.{Place}
use Rattle.ss_core.specs.Tree.{ExprTree}
use Rattle.ss_core.specs.View.{word_tree, owners_tree}
use Rattle.ss_store_rules.specs.NonNull.{Site, Known, is_never_null}
use Rattle.ss_store_rules.specs.Types.{type_of}
use Rattle.ss_vcgen_heaps.specs.Parts.{is_upwards, fits_class}
use Rattle.ss_logic.specs.Terms.{app}
use Rattle.ss_logic.specs.Terms as term
use Rattle.ss_logic.specs.Formulas.{neg}
use Rattle.ss_logic.specs.Shapes.{number}
use Rattle.ss_logic.specs.Express.{or_of, Meant, Says, Either, choices, over, over_two, mapped, paired, said, Context, state, is_of, fits_int, word_said, owners_said, same_truths, operated, as_class, index_fits}
use Rattle.ss_vcgen_express.specs.Marked.{Marked, marked_part, marked_operation, marked_right, marked_under}
use Rattle.ss_vcgen_walk.specs.declared.singles.Single.{Single}
use Rattle.ss_vcgen_walk.specs.declared.singles.Single.TheVariants as single
use Rattle.ss_vcgen_walk.specs.declared.twos.Two.{Two}
use Rattle.ss_vcgen_walk.specs.declared.twos.Two.TheVariants as two
use Rattle.ss_vcgen_walk.specs.Asked.{asked_null, asked_readable, asked_word}

-- ---- one operand

abbrev pub single_meant : Single → Context → Meant → Meant
single_meant (single.Negate p) c m = mapped (λ x. app term.Subtract (number (pos 0) ∷ x ∷ [])) m
single_meant single.Not c m = Says (neg (said m))
single_meant (single.Is t) c m = Says (over m (is_of t.0))
single_meant (single.As t) c m = Either (flat_map (as_class t.0) (choices m))
single_meant (single.Field p f checked) c m = mapped (λ o. app (term.Field f.0) (state c ∷ o ∷ [])) m
single_meant (single.Length p checked) c m = mapped (λ o. app term.Length (o ∷ [])) m
single_meant (single.State p w checked) c m = Says (over m (word_said c (word_tree w)))

-- after the parts of the operand
abbrev pub single_asks : Single → List Marked → Context → Meant → List Marked
single_asks (single.Negate p) ps c m = ps ++ marked_part kind.Overflow p true (over m (λ x. fits_int (app term.Subtract (number (pos 0) ∷ x ∷ []))))
single_asks single.Not ps c m = ps
single_asks (single.Is t) ps c m = ps
single_asks (single.As t) ps c m = ps
single_asks (single.Field p f checked) ps c m = ps ++ asked_readable checked c m p
single_asks (single.Length p checked) ps c m = ps ++ asked_null checked m p
single_asks (single.State p w checked) ps c m = ps ++ asked_word (word_tree w) checked c m p

-- ---- two operands

abbrev pub two_meant : Two → Context → Meant → Meant → Meant
two_meant (two.Operation p o bools) c x y = operated o bools x y
two_meant (two.Element p s checked) c x y = paired (λ u v. app (term.Element s) (state c ∷ u ∷ v ∷ [])) x y
two_meant two.Implies c x y = Says (or_of (neg (said x) ∷ said y ∷ []))
two_meant two.Iff c x y = Says (same_truths x y)
two_meant (two.Owners p w first second) c x y = Says (over_two x y (owners_said c (owners_tree w)))

-- the parts of the second operand, as the form has them
abbrev pub second_asks : Two → Meant → List Marked → List Marked
second_asks (two.Operation p o bools) x qs = marked_right o x qs
second_asks (two.Element p s checked) x qs = qs
second_asks two.Implies x qs = marked_under (said x) qs
second_asks two.Iff x qs = qs
second_asks (two.Owners p w first second) x qs = qs

-- after the parts of both operands
abbrev pub asks_after : Two → List Marked → Context → Meant → Meant → List Marked
asks_after (two.Operation p o bools) ps c x y = ps ++ marked_operation o x y p
asks_after (two.Element p s checked) ps c x y = ps ++ asked_readable checked c x p ++ marked_part kind.Index p true (index_fits x y)
asks_after two.Implies ps c x y = ps
asks_after two.Iff ps c x y = ps
asks_after (two.Owners p w first second) ps c x y = ps ++ asked_readable first c x p ++ asked_readable second c y p

-- after the parts of the first operand, by those of the second
abbrev pub two_asks : Two → List Marked → List Marked → Context → Meant → Meant → List Marked
two_asks form ps qs c x y = asks_after form (ps ++ second_asks form x qs) c x y

-- ---- casts

-- after the parts of the operand e
abbrev pub cast_asks : Site → Known → Context → Place → ℕ → Bool → ExprTree → List Marked → Meant → List Marked
cast_asks s k c p t non_null e ps m =
    ps ++ (if non_null then asked_null (not (is_never_null s k c.inside_old e)) m p else [])
    ++ marked_part kind.Cast p (not (is_upwards c.classes (type_of c.classes c.types e) t)) (fits_class t m)
