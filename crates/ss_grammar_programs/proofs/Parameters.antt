-- Reading attributes, types and parameters finds what the grammar says.
use Rattle.std.proofs.Common.{ℕ, suc, List, [], ◌∷◌, length, Ok, true, false, refl, ap, ◌-◌}
use Rattle.ss_core.specs.declared.names.Place.{Place}
use Rattle.ss_ast.specs.declared.token.Word.TheVariants as word
use Rattle.ss_ast.specs.declared.token.Symbol.TheVariants as symbol
use Rattle.ss_ast.specs.Tokens.{AWord, ASymbol}
use Rattle.ss_ast.specs.Expressions.{IntType}
use Rattle.ss_ast.specs.Programs.{ParamTree}
use Rattle.ss_grammar.specs.Language.{Done, Take, Bind, Many, Inside}
use Rattle.ss_grammar.specs.Reading.{◌>>=◌, take, times}
use Rattle.ss_grammar_expressions.specs.Heads.{is, the, type_head}
use Rattle.ss_grammar_expressions.specs.Grammar.{AnyName, no_place}
use Rattle.ss_grammar_expressions.specs.Parser.{give, type_end, name_at}
use Rattle.ss_grammar_expressions.proofs.First.{to_choose}
use Rattle.ss_grammar_expressions.proofs.Sets.{code, In, subset_in, PartOf, larger, token, seq, many, done}
use Rattle.ss_grammar_expressions.proofs.Levels.{the_in, of, symbol}
use Rattle.ss_grammar_expressions.proofs.Pieces.{type_in}
use Rattle.ss_grammar_expressions.proofs.Expressions.{name_to}
use Rattle.ss_grammar_expressions.proofs.Unaries.{type_set}
use Rattle.ss_grammar_statements.proofs.Openings.{many_heads}
use Rattle.ss_grammar_programs.specs.Grammar.{push_after, attribute_at, AttributeEnd, Attributes, TypeFrom, FullType, Parameter, Params, ParamsEnd, Parameters}
use Rattle.ss_grammar_programs.specs.Parser.{attribute_end, attributes, full_type, parameter, params, some_params, params_end, parameters}
use Rattle.ss_grammar_programs.proofs.Opening.{lower, made, less_one, opening_to, type_ends_to}

abbrev types : List ℕ
types = 32 ∷ 50 ∷ 51 ∷ 52 ∷ []

abbrev params_first : List ℕ
params_first = 17 ∷ types

attribute_end_to : (n : ℕ) (p : Place) → PartOf n (λ d. AttributeEnd p) (32 ∷ []) [] false (λ d. attribute_end p)
unfolding attribute_end
attribute_end_to n p = seq n false false (λ d. AnyName) (λ x d. Take (the symbol.CloseBracket) (λ _. Done (attribute_at p x))) (32 ∷ []) [] (18 ∷ []) [] (λ d. name_at) (λ x d. take (the symbol.CloseBracket) (λ _. give (attribute_at p x))) (name_to n)
    (λ x. symbol n symbol.CloseBracket (λ _ d. Done (attribute_at p x)) [] [] true (λ _ d. give (attribute_at p x)) refl (λ _. done n (attribute_at p x))) refl

pub attributes_to : (n : ℕ) → PartOf (suc n) Attributes (17 ∷ []) (17 ∷ []) true attributes
unfolding attributes
attributes_to n = many_heads n (the symbol.OpenBracket) (17 ∷ []) (the_in symbol.OpenBracket) (λ _. true) (λ p d. Inside (λ _. AttributeEnd p) d) (λ p d. attribute_end p) (32 ∷ []) [] false (λ _ h ts v q. q) (λ p h. attribute_end_to n p) (λ _ h. absurd cc) push_after refl []

full_type_to : (n : ℕ) → PartOf n FullType types type_set false full_type
unfolding full_type
full_type_to n = token n type_head types type_in (λ t d. TypeFrom d t) type_set type_set true (λ t d. type_end d t) (type_ends_to n) (of (AWord word.Int)) (record { place = no_place; name = IntType }) refl

parameter_to : (n : ℕ) → PartOf (suc n) Parameter params_first [] false parameter
unfolding parameter
parameter_to n = seq (suc n) true false Attributes (λ xs d. Bind (FullType d) (λ t. Bind AnyName (λ x. Done (record { attributes = xs; ty = t; name = x })))) (17 ∷ []) (17 ∷ []) types [] attributes (λ xs d ts. full_type d ts >>= λ t. name_at t.1 >>= λ x. Ok (record { attributes = xs; ty = t.0; name = x.0 }, x.1)) (attributes_to n)
    (λ xs. seq (suc n) false false FullType (λ t d. Bind AnyName (λ x. Done (record { attributes = xs; ty = t; name = x }))) types type_set (32 ∷ []) [] full_type (λ t d ts. name_at ts >>= λ x. Ok (record { attributes = xs; ty = t; name = x.0 }, x.1)) (full_type_to (suc n))
    (λ t. made (suc n) (λ d. AnyName) (32 ∷ []) [] (λ d. name_at) (λ x. record { attributes = xs; ty = t; name = x }) (name_to (suc n))) refl) refl

params_to : (n : ℕ) → PartOf (suc n) Params params_first (21 ∷ []) false params
unfolding params
params_to n = seq (suc n) false true Parameter (λ p d. Many (the symbol.Comma) (λ _. Parameter d) push_after (p ∷ [])) params_first [] (21 ∷ []) (21 ∷ []) parameter (λ p d ts. times (the symbol.Comma) (λ _. parameter d) push_after (length ts) (p ∷ []) ts) (parameter_to n)
    (λ p. many (suc n) (the symbol.Comma) (21 ∷ []) (the_in symbol.Comma) (λ _. Parameter) push_after params_first [] (λ _. parameter) (λ _. parameter_to n) refl (p ∷ [])) refl

some_params_to : (n : ℕ) → PartOf (suc n) (λ d. Bind (Params d) (λ ps. Take (the symbol.Close) (λ _. Done ps))) params_first [] false some_params
unfolding some_params
some_params_to n = seq (suc n) false false Params (λ ps d. Take (the symbol.Close) (λ _. Done ps)) params_first (21 ∷ []) (16 ∷ []) [] params (λ ps d. take (the symbol.Close) (λ _. give ps)) (params_to n)
    (λ ps. symbol (suc n) symbol.Close (λ _ d. Done ps) [] [] true (λ _ d. give ps) refl (λ _. done (suc n) ps)) refl

no_params_to : (n : ℕ) → PartOf n (λ d. Take (the symbol.Close) (λ _. Done {A = List ParamTree} [])) (16 ∷ params_first) [] false (λ d. take (the symbol.Close) (λ _. give []))
no_params_to n = larger n (λ d. Take (the symbol.Close) (λ _. Done [])) (16 ∷ []) [] (16 ∷ params_first) [] false (λ d. take (the symbol.Close) (λ _. give [])) refl refl
    (symbol n symbol.Close (λ _ d. Done []) [] [] true (λ _ d. give []) refl (λ _. done n []))

params_end_to : (n : ℕ) → PartOf (suc n) ParamsEnd (16 ∷ params_first) [] false params_end
unfolding params_end
params_end_to n = to_choose (suc n) (is (the symbol.Close)) (λ d. Take (the symbol.Close) (λ _. Done [])) (λ d. Bind (Params d) (λ ps. Take (the symbol.Close) (λ _. Done ps))) (In (16 ∷ params_first)) (In []) false (λ d. take (the symbol.Close) (λ _. give [])) some_params (In (16 ∷ params_first)) (no_params_to (suc n)) (λ t h. subset_in (code t) (16 ∷ []) (16 ∷ params_first) refl (the_in symbol.Close t h))
    (larger (suc n) (λ d. Bind (Params d) (λ ps. Take (the symbol.Close) (λ _. Done ps))) params_first [] (16 ∷ params_first) [] false some_params refl refl (some_params_to n))
    (λ h. absurd cc) (λ h. absurd cc) (of (ASymbol symbol.Close), [], [], refl, (refl, refl))

pub parameters_to : (n : ℕ) → PartOf (suc n) Parameters (36 ∷ 15 ∷ []) [] false parameters
unfolding parameters
parameters_to n = opening_to n (the symbol.Open) (15 ∷ []) (the_in symbol.Open) (λ _. ParamsEnd) (λ _. params_end) [] (16 ∷ params_first) false (λ _. lower n ParamsEnd (16 ∷ params_first) [] false params_end (params_end_to n)) (λ d _. params_end (d - 1)) (λ d _ ts. ap (λ c. params_end c ts) (less_one d))
