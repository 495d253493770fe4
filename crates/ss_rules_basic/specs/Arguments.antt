-- What the arguments of rules are.
use Rattle.std.specs.Prelude.{Option, Some, None, Bool, true, false}
use Rattle.ss_logic.specs.Terms.{Null, Pair, Next, Term, App, no_terms, term_then}

abbrev pub parts_of : Term → Option (Term × Term)
parts_of (App Pair (term_then o (term_then t no_terms))) = Some (o, t)
parts_of t = None

-- the store of which the term is the next reference
abbrev pub store_of_next : Term → Option Term
store_of_next (App Next (term_then s no_terms)) = Some s
store_of_next t = None

abbrev pub is_null_term : Term → Bool
is_null_term (App Null no_terms) = true
is_null_term t = false
