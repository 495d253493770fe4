-- The derived tests of functions and of predicates, and those of their trees.
use Rattle.std.proofs.Common.{◌≡◌, Bool, true, false, refl, sym, ap}
use Rattle.ss_logic.specs.Equal.{same_symbol, same_predicate, equal_symbols, equal_predicates, answer_from}
use Rattle.ss_terms.specs.declared.forms.Symbol.{Symbol}
use Rattle.ss_terms.specs.declared.forms.Predicate.{Predicate}
use Rattle.ss_terms.specs.contracts.forms.PredicatePartialEq.TheImpl as predicate_eq
use Rattle.ss_terms.specs.Forms.{symbol_of, predicate_of}
use Rattle.ss_terms.proofs.Symbols.{symbols_differ, predicates_differ}
use Rattle.ss_terms.proofs.Same.{is_same_symbol, symbol_Decides, predicate_Decides}

same_symbol_itself : (f g : Symbol) → f ≡ g → same_symbol (symbol_of f) (symbol_of g) ≡ true
unfolding same_symbol
same_symbol_itself f g e = answer_from _ (ap symbol_of e)

same_predicate_itself : (p q : Predicate) → p ≡ q → same_predicate (predicate_of p) (predicate_of q) ≡ true
unfolding same_predicate
same_predicate_itself p q e = answer_from _ (ap predicate_of e)

-- two tests that hold where the other does
alike : (a b : Bool) → (a ≡ true → b ≡ true) → (b ≡ true → a ≡ true) → a ≡ b
alike true b f g = sym (f refl)
alike false true f g = g refl
alike false false f g = refl

pub symbol_test : (f g : Symbol) → is_same_symbol f g ≡ same_symbol (symbol_of f) (symbol_of g)
symbol_test f g = alike _ _ (λ e. same_symbol_itself f g ((symbol_Decides f g).0 e)) (λ e. (symbol_Decides f g).1 (symbols_differ f g (equal_symbols _ _ e)))

pub predicate_test : (p q : Predicate) → (predicate_eq.ghosts).eq p q ≡ same_predicate (predicate_of p) (predicate_of q)
predicate_test p q = alike _ _ (λ e. same_predicate_itself p q ((predicate_Decides p q).0 e)) (λ e. (predicate_Decides p q).1 (predicates_differ p q (equal_predicates _ _ e)))
