-- Functions by their symbols, at the terms of a bank.
use Rattle.std.specs.Prelude.{List, [], ◌∷◌, ◌++◌, Option, Some, None}
use Rattle.ss_logic.specs.Terms.{Symbol, Term, app}
use Rattle.ss_terms.specs.declared.forms.TermId.{TermId}
use Rattle.ss_terms.specs.Forms.{Forms, symbol_of}
use Rattle.ss_terms.specs.Numbered.{HasTermOf}
use Rattle.ss_vcgen_express.specs.declared.functions.Function.{Function}

abbrev pub first_term : (TermId → Term) → Option TermId → List Term
first_term look None = []
first_term look (Some t) = look t ∷ []

-- at one value
abbrev pub applied : (TermId → Term) → Function → Term → Term
applied look f x = app (symbol_of f.symbol) (first_term look f.first ++ x ∷ [])

-- at two
abbrev pub applied_two : (TermId → Term) → Function → Term → Term → Term
applied_two look f x y = app (symbol_of f.symbol) (first_term look f.first ++ x ∷ y ∷ [])

-- at two, after no first term
abbrev pub of_two : Symbol → Term → Term → Term
of_two f x y = app f (x ∷ y ∷ [])

abbrev pub HasFunction : Forms → Function → Type 0
HasFunction b f = HasTermOf b f.first
