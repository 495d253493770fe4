-- Reading clauses finds what the grammar says.
use Rattle.std.proofs.Common.{◌≡◌, ℕ, suc, ◌<◌, List, [], ◌∷◌, ◌++◌, length, true, false, refl, pos}
use Rattle.ss_core.specs.declared.names.Place.{Place}
use Rattle.ss_ast.specs.declared.token.Symbol.TheVariants as symbol
use Rattle.ss_ast.specs.Tokens.{ASymbol, AName}
use Rattle.ss_ast.specs.Expressions.{NameTree, ExprTree, MemberOf, ElementOf, CallOf, NumberOf, arguments}
use Rattle.ss_ast.specs.Programs.{AllOf, ElementsOf, OneOf, RequiresOf, EnsuresOf, ModifiesOf}
use Rattle.ss_grammar.specs.Language.{Done, Take, Bind, Many, Starts}
use Rattle.ss_grammar.specs.Reading.{◌>>=◌, take, times}
use Rattle.ss_grammar_expressions.specs.Heads.{Piece, place_at, is, the, PostfixHead, DotHead, IndexHead, CallHead, postfix_head, postfix_opens}
use Rattle.ss_grammar_expressions.specs.Grammar.{Expression, AnyName, ArgsEnd, IndexEnd, no_place}
use Rattle.ss_grammar_expressions.specs.Parser.{Gets, give, below, name_at, args_end, index_end}
use Rattle.ss_grammar_expressions.proofs.First.{Alive, to_choose, to_here}
use Rattle.ss_grammar_expressions.proofs.Sets.{code, In, subset_in, PartOf, larger, seq, many, done}
use Rattle.ss_grammar_expressions.proofs.Levels.{the_in, of, symbol}
use Rattle.ss_grammar_expressions.proofs.Pieces.{unary_first, expr_goes, postfix_set, postfix_in}
use Rattle.ss_grammar_expressions.proofs.Expressions.{name_to, index_end_to, args_end_to}
use Rattle.ss_grammar_expressions.proofs.Unaries.{number_piece}
use Rattle.ss_grammar_statements.specs.Grammar.{Ended, Prim}
use Rattle.ss_grammar_statements.specs.Parser.{ended, prim}
use Rattle.ss_grammar_statements.proofs.Pieces.{prim_first}
use Rattle.ss_grammar_statements.proofs.Parts.{ended_to}
use Rattle.ss_grammar_statements.proofs.Openings.{take_heads, heads_alive}
use Rattle.ss_grammar_programs.specs.Grammar.{AtDepth, push_after, Reached, Path, Whole, path_goes, Step, stepped, modified, DotStep, IndexStep, CallStep, StepAfter, AnyStep, ModifiedFrom, Modified, Modifies, ClauseAfter, Clauses}
use Rattle.ss_grammar_programs.specs.Heads.{ClauseHead, RequiresFirst, EnsuresFirst, ModifiesFirst, clause_head}
use Rattle.ss_grammar_programs.specs.Again.{Again}
use Rattle.ss_grammar_programs.specs.Parser.{expression, inner_expression, all_step, member_step, dot_step, elements_step, element_step, index_step, call_step, step_after, step, steps, modified_from, modified_term, modifies, clause_after, clauses}
use Rattle.ss_grammar_programs.proofs.Again.{repeated}
use Rattle.ss_grammar_programs.proofs.Pieces.{clauses_set, clause_in}
use Rattle.ss_grammar_programs.proofs.Opening.{made, expressions_to, inner_to, prims_to}

abbrev pub a_name_piece : Piece
a_name_piece = of (AName [])

abbrev pub an_empty_name : NameTree
an_empty_name = record { text = []; place = no_place }

-- ---- after a part of a term

all_to : (n : ℕ) → PartOf n (λ d. Take (the symbol.Star) (λ _. Done {A = Step} (λ p a. Whole (AllOf a)))) (28 ∷ []) [] false (λ d. all_step)
unfolding all_step
all_to n = symbol n symbol.Star (λ _ d. Done (λ p a. Whole (AllOf a))) [] [] true (λ _ d. give (λ p a. Whole (AllOf a))) refl (λ _. done n (λ p a. Whole (AllOf a)))

member_to : (n : ℕ) → PartOf n (λ d. Bind AnyName (λ x. Done {A = Step} (λ p a. Path (MemberOf p a x)))) (28 ∷ 32 ∷ []) [] false (λ d. member_step)
unfolding member_step
member_to n = larger n (λ d. Bind AnyName (λ x. Done (λ p a. Path (MemberOf p a x)))) (32 ∷ []) [] (28 ∷ 32 ∷ []) [] false (λ d. member_step) refl refl
    (made n (λ d. AnyName) (32 ∷ []) [] (λ d. name_at) (λ x p a. Path (MemberOf p a x)) (name_to n))

dot_step_to : (n : ℕ) → PartOf n (λ d. DotStep) (28 ∷ 32 ∷ []) [] false (λ d. dot_step)
unfolding dot_step
dot_step_to n = to_choose n (is (the symbol.Star)) (λ d. Take (the symbol.Star) (λ _. Done (λ p a. Whole (AllOf a)))) (λ d. Bind AnyName (λ x. Done (λ p a. Path (MemberOf p a x)))) (In (28 ∷ 32 ∷ [])) (In []) false (λ d. all_step) (λ d. member_step) (In (28 ∷ [])) (all_to n)
    (λ t h. subset_in (code t) (28 ∷ []) (28 ∷ 32 ∷ []) refl (the_in symbol.Star t h)) (member_to n) (λ h. absurd cc) (λ h. absurd cc) (of (ASymbol symbol.Star), [], (λ p a. Whole (AllOf a)), refl, (refl, refl))

abbrev index_first : List ℕ
index_first = 28 ∷ unary_first

elements_to : (n : ℕ) → PartOf n (λ d. Take (the symbol.Star) (λ _. Take (the symbol.CloseBracket) (λ _. Done {A = Step} (λ p a. Whole (ElementsOf a))))) (28 ∷ []) [] false (λ d. elements_step)
unfolding elements_step
elements_to n = symbol n symbol.Star (λ _ d. Take (the symbol.CloseBracket) (λ _. Done (λ p a. Whole (ElementsOf a)))) (18 ∷ []) [] false (λ _ d. take (the symbol.CloseBracket) (λ _. give (λ p a. Whole (ElementsOf a)))) refl
    (λ _. symbol n symbol.CloseBracket (λ _ d. Done (λ p a. Whole (ElementsOf a))) [] [] true (λ _ d. give (λ p a. Whole (ElementsOf a))) refl (λ _. done n (λ p a. Whole (ElementsOf a))))

element_to : (n : ℕ) → PartOf n (λ d. Bind (IndexEnd (Expression d)) (λ e. Done {A = Step} (λ p a. Path (ElementOf p a e)))) index_first [] false (λ d. element_step (suc d))
unfolding element_step
element_to n = larger n (λ d. Bind (IndexEnd (Expression d)) (λ e. Done (λ p a. Path (ElementOf p a e)))) unary_first [] index_first [] false (λ d. element_step (suc d)) refl refl
    (made n (λ d. IndexEnd (Expression d)) unary_first [] (λ d. index_end (inner_expression (suc d))) (λ e p a. Path (ElementOf p a e)) (index_end_to n Expression (λ d. inner_expression (suc d)) (inner_to n)))

index_step_to : (n : ℕ) → PartOf n IndexStep index_first [] false (λ d. index_step (suc d))
unfolding index_step
index_step_to n = to_choose n (is (the symbol.Star)) (λ d. Take (the symbol.Star) (λ _. Take (the symbol.CloseBracket) (λ _. Done (λ p a. Whole (ElementsOf a))))) (λ d. Bind (IndexEnd (Expression d)) (λ e. Done (λ p a. Path (ElementOf p a e)))) (In index_first) (In []) false (λ d. elements_step) (λ d. element_step (suc d)) (In (28 ∷ [])) (elements_to n)
    (λ t h. subset_in (code t) (28 ∷ []) index_first refl (the_in symbol.Star t h)) (element_to n) (λ h. absurd cc) (λ h. absurd cc) (of (ASymbol symbol.Star), of (ASymbol symbol.CloseBracket) ∷ [], (λ p a. Whole (ElementsOf a)), refl, (refl, refl))

call_step_to : (n : ℕ) → PartOf n CallStep (16 ∷ unary_first) [] false (λ d. call_step (suc d))
unfolding call_step
call_step_to n = made n (λ d. ArgsEnd (Expression d)) (16 ∷ unary_first) [] (λ d. args_end (inner_expression (suc d))) (λ es p a. Path (CallOf p a (arguments es))) (args_end_to n Expression (λ d. inner_expression (suc d)) (inner_to n))

-- ---- steps

module _ (n : ℕ) where
  abbrev Behind : PostfixHead → ℕ → List Piece → Step → Type 0
  Behind h d = StepAfter d h

  abbrev behind : PostfixHead → ℕ → Gets Step
  behind h d = step_after d h

  abbrev step_first : List ℕ
  step_first = 32 ∷ 16 ∷ index_first

  never : (h : PostfixHead) → postfix_opens h ≡ true → (ts : List Piece) (v : Step) → Behind h 0 ts v → ⊥
  never DotHead e ts v q = cc
  never IndexHead e ts v q = q
  never CallHead e ts v q = q

  open_step : (h : PostfixHead) → postfix_opens h ≡ true → PartOf n (λ d. Behind h (suc d)) step_first [] false (λ d. behind h (suc d))
  unfolding step_after
  open_step DotHead e = absurd cc
  open_step IndexHead e = larger n IndexStep index_first [] step_first [] false (λ d. index_step (suc d)) refl refl (index_step_to n)
  open_step CallHead e = larger n CallStep (16 ∷ unary_first) [] step_first [] false (λ d. call_step (suc d)) refl refl (call_step_to n)

  leaf_step : (h : PostfixHead) → postfix_opens h ≡ false → PartOf (suc n) (Behind h) step_first [] false (behind h)
  unfolding step_after
  leaf_step DotHead e = larger (suc n) (λ d. DotStep) (28 ∷ 32 ∷ []) [] step_first [] false (λ d. dot_step) refl refl (dot_step_to (suc n))
  leaf_step IndexHead e = absurd cc
  leaf_step CallHead e = absurd cc

  some_step : Starts (AnyStep 0) []
  some_step = record { more = of (ASymbol symbol.Dot) ∷ a_name_piece ∷ []; value = (λ p a. Path (MemberOf p a an_empty_name)); reads = record { first = an_empty_name; front = a_name_piece ∷ []; back = []; parts = refl; reads = (refl, refl); goes_on = (refl, refl) } }

  step_to : PartOf (suc n) AnyStep postfix_set [] false step
  unfolding step
  step_to = take_heads n postfix_head postfix_set postfix_in postfix_opens Behind behind step_first [] false never open_step leaf_step some_step

  step_alive : (t : Piece) → is postfix_head t ≡ true → Alive AnyStep t
  step_alive t h = heads_alive n postfix_head postfix_set postfix_in postfix_opens Behind behind step_first [] false never open_step leaf_step t h

  steps_sub : (r : Reached) (t : Piece) → path_goes r t ≡ true → In postfix_set t ≡ true
  steps_sub (Path a) t h = postfix_in t h
  steps_sub (Whole m) t h = absurd cc

  steps_alive : 0 < suc n → (r : Reached) (t : Piece) → path_goes r t ≡ true → Alive AnyStep t
  steps_alive lt (Path a) t h = step_alive t h
  steps_alive lt (Whole m) t h = absurd cc

  steps_to : (p : Place) (a : ExprTree) → PartOf (suc n) (λ d. Again path_goes (AnyStep d) (stepped p) (Path a)) postfix_set postfix_set true (λ d. steps p d a)
  unfolding steps
  steps_to p a = repeated (suc n) path_goes (stepped p) postfix_set steps_sub AnyStep postfix_set [] step step_to refl steps_alive (Path a)

  modified_from_to : (p : Place) (a : ExprTree) → PartOf (suc n) (ModifiedFrom p a) postfix_set postfix_set true (λ d. modified_from p d a)
  unfolding modified_from
  modified_from_to p a = seq (suc n) true true (λ d. Again path_goes (AnyStep d) (stepped p) (Path a)) (λ r d. Done (modified r)) postfix_set postfix_set [] [] (λ d. steps p d a) (λ r d. give (modified r)) (steps_to p a) (λ r. done (suc n) (modified r)) refl

-- ---- terms and clauses

pub modified_to : (n : ℕ) → PartOf (suc n) Modified prim_first postfix_set false modified_term
unfolding modified_term
modified_to n = to_here (suc n) place_at (λ q d. Bind (AtDepth Prim d) (λ a. ModifiedFrom q a d)) (In prim_first) (In postfix_set) (λ q d ts. prim d (below d) ts >>= λ a. modified_from q d a.0 a.1)
    (λ q. seq (suc n) false true (AtDepth Prim) (λ a d. ModifiedFrom q a d) prim_first [] postfix_set postfix_set (λ d. prim d (below d)) (λ a d. modified_from q d a) (prims_to n) (λ a. modified_from_to n q a) refl)
    (number_piece, [], OneOf (NumberOf no_place (pos 0)), record { first = NumberOf no_place (pos 0); front = number_piece ∷ []; back = []; parts = refl; reads = (refl, refl); goes_on = record { first = Path (NumberOf no_place (pos 0)); front = []; back = []; parts = refl; reads = (0, (refl, refl)); goes_on = (refl, refl) } })

abbrev terms_goes : List ℕ
terms_goes = 21 ∷ postfix_set

modifies_to : (n : ℕ) → PartOf (suc n) Modifies prim_first terms_goes false modifies
unfolding modifies
modifies_to n = larger (suc n) Modifies prim_first (terms_goes ++ postfix_set) prim_first terms_goes false modifies refl refl
    (seq (suc n) false true Modified (λ m d. Many (the symbol.Comma) (λ _. Modified d) push_after (m ∷ [])) prim_first postfix_set (21 ∷ []) terms_goes modified_term (λ m d ts. times (the symbol.Comma) (λ _. modified_term d) push_after (length ts) (m ∷ []) ts) (modified_to n)
    (λ m. many (suc n) (the symbol.Comma) (21 ∷ []) (the_in symbol.Comma) (λ _. Modified) push_after prim_first postfix_set (λ _. modified_term) (λ _. modified_to n) refl (m ∷ [])) refl)

pub conditions_to : (n : ℕ) → PartOf n (λ d. Ended (Expression d)) unary_first [] false (λ d. ended (expression d))
conditions_to n = ended_to n Expression unary_first expr_goes expression (expressions_to n) refl

clause_after_to : (n : ℕ) (h : ClauseHead) → PartOf (suc n) (λ d. ClauseAfter d h) unary_first [] false (λ d. clause_after d h)
unfolding clause_after
clause_after_to n RequiresFirst = made (suc n) (λ d. Ended (Expression d)) unary_first [] (λ d. ended (expression d)) RequiresOf (conditions_to (suc n))
clause_after_to n EnsuresFirst = made (suc n) (λ d. Ended (Expression d)) unary_first [] (λ d. ended (expression d)) EnsuresOf (conditions_to (suc n))
clause_after_to n ModifiesFirst = larger (suc n) (λ d. ClauseAfter d ModifiesFirst) prim_first [] unary_first [] false (λ d. clause_after d ModifiesFirst) refl refl
    (made (suc n) (λ d. Ended (Modifies d)) prim_first [] (λ d. ended (modifies d)) ModifiesOf (ended_to (suc n) Modifies prim_first terms_goes modifies (modifies_to n) refl))

pub clauses_to : (n : ℕ) → PartOf (suc n) Clauses clauses_set clauses_set true clauses
unfolding clauses
clauses_to n = many (suc n) clause_head clauses_set clause_in (λ h d. ClauseAfter d h) push_after unary_first [] (λ h d. clause_after d h) (clause_after_to n) refl []
