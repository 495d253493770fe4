-- What readers that are loops read.
use Rattle.std.proofs.Common.{◌≡◌, ℕ, List, [], length, refl}
use Rattle.ss_core.specs.declared.names.Place.{Place}
use Rattle.ss_ast.specs.declared.token.Word.TheVariants as word
use Rattle.ss_ast.specs.declared.token.Symbol.TheVariants as symbol
use Rattle.ss_ast.specs.Expressions.{ExprTree}
use Rattle.ss_grammar.specs.Reading.{◌>>=◌, take, times}
use Rattle.std.specs.Prelude.{Ok}
use Rattle.ss_grammar_expressions.specs.First.{tokened}
use Rattle.ss_grammar_expressions.specs.Heads.{Piece, is, the, the_word}
use Rattle.ss_grammar_expressions.specs.Parser.{give}
use Rattle.ss_grammar_programs.specs.Again.{again}
use Rattle.ss_grammar_programs.specs.Heads.{an_access, member_word, begins_class, begins_member, clause_head}
use Rattle.ss_grammar_programs.specs.Grammar.{push, push_after, dropped, modified, join_word}
use Rattle.ss_grammar_programs.specs.Parser.{attribute, attributes, steps, modified_from, clause_after, clauses, words, member, members, accesses, class_decl, classes, skipped_name, dotted, using_end, usings}

pub attributes_is : (d : ℕ) (ts : List Piece) → attributes d ts ≡ times (tokened (the symbol.OpenBracket)) (attribute d) push_after (length ts) [] ts
unfolding attributes
attributes_is d ts = refl

pub clauses_is : (d : ℕ) (ts : List Piece) → clauses d ts ≡ times clause_head (clause_after d) push_after (length ts) [] ts
unfolding clauses
clauses_is d ts = refl

pub modified_from_is : (p : Place) (d : ℕ) (a : ExprTree) (ts : List Piece) → modified_from p d a ts ≡ (steps p d a ts >>= λ r. Ok (modified r.0, r.1))
unfolding modified_from
modified_from_is p d a ts = refl

pub words_is : (ts : List Piece) → words ts ≡ again (λ _. is member_word) (take member_word give) join_word (length ts) [] ts
unfolding words
words_is ts = refl

pub members_is : (d : ℕ) (ts : List Piece) → members d ts ≡ again (λ _. begins_member) (member d) push (length ts) [] ts
unfolding members
members_is d ts = refl

pub accesses_is : (ts : List Piece) → accesses ts ≡ again (λ _. is an_access) (take an_access give) (λ a _. a) (length ts) tt ts
unfolding accesses
accesses_is ts = refl

pub classes_is : (d : ℕ) (ts : List Piece) → classes d ts ≡ again (λ _. begins_class) (class_decl d) push (length ts) [] ts
unfolding classes
classes_is d ts = refl

pub dotted_is : (ts : List Piece) → dotted ts ≡ times (the symbol.Dot) (λ _. skipped_name) dropped (length ts) tt ts
unfolding dotted
dotted_is ts = refl

pub usings_is : (ts : List Piece) → usings ts ≡ times (the_word word.Using) (λ _. using_end) dropped (length ts) tt ts
unfolding usings
usings_is ts = refl
