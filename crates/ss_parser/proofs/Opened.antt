-- What is read after a token that may open a level.
use Rattle.std.proofs.Common.{◌≡◌, ℕ, zero, suc, Bool, true, false, List, Some, Result, refl}
use Rattle.ss_core.specs.declared.names.Place.{Place}
use Rattle.ss_ast.specs.declared.token.Symbol.TheVariants as symbol
use Rattle.ss_grammar.specs.declared.fault.Fault.{Fault}
use Rattle.ss_grammar.specs.Reading.{◌>>=◌, take}
use Rattle.ss_grammar_expressions.specs.Heads.{Piece, the}
use Rattle.ss_grammar_expressions.specs.Parser.{Gets, Inner, give, opened, postfixes}
use Rattle.ss_grammar_statements.specs.Heads.{PrimHead, prim_opens, prim_place, StartHead, PrimFirst, start_opens, StartFirst, unless_block}
use Rattle.ss_grammar_statements.specs.Grammar.{statement_of}
use Rattle.ss_grammar_statements.specs.Parser.{Nesting, prim_after, post_after, simple_then, start_after, start_end, stmt_after, one_stmt}
use Rattle.ss_parser_statement_trees.specs.declared.heads.StmtWord.{StmtWord}
use Rattle.ss_parser_statement_trees.specs.declared.heads.StmtWord.TheVariants as word
use Rattle.ss_parser_statement_trees.specs.View.{word_first}

opened_bind : {A B : Type 0} (b : Bool) (n : ℕ) (k : Gets A) (g : Gets B) (f : A × List Piece → Result (B × List Piece) (Fault × List Piece)) → ((ts : List Piece) → g ts ≡ (k ts >>= f)) → (t : Piece) (ts : List Piece) → opened b n g t ts ≡ (opened b n k t ts >>= f)
opened_bind false n k g f e t ts = e ts
opened_bind true zero k g f e t ts = refl
opened_bind true (suc n) k g f e t ts = e ts

module _ (d : ℕ) (w : Inner) where
  pub post_opened : (h : PrimHead) (t : Piece) (ts : List Piece) → opened (prim_opens h) d (post_after d w h) t ts ≡ (opened (prim_opens h) d (prim_after d w h) t ts >>= λ e. postfixes d w (prim_place h) e.0 e.1)
  unfolding post_after
  post_opened h t ts = opened_bind (prim_opens h) d (prim_after d w h) (post_after d w h) (λ e. postfixes d w (prim_place h) e.0 e.1) (λ ts. refl) t ts

  pub path_first : (h : PrimHead) (t : Piece) (ts : List Piece) → opened (prim_opens h) d (start_after d w (PrimFirst h)) t ts ≡ (opened (prim_opens h) d (post_after d w h) t ts >>= λ a. simple_then d w a.0 a.1)
  unfolding start_after
  path_first h t ts = opened_bind (prim_opens h) d (post_after d w h) (start_after d w (PrimFirst h)) (λ a. simple_then d w a.0 a.1) (λ ts. refl) t ts

  module _ (s : Nesting) where
    pub start_first : (h : StartHead) (t : Piece) (ts : List Piece) → one_stmt d w s (StartFirst h, t) ts ≡ (opened (start_opens h) d (start_after d w h) t ts >>= λ i. take (the symbol.Semicolon) (λ _. give (statement_of i.0)) i.1)
    unfolding stmt_after start_end
    start_first h t ts = opened_bind (start_opens h) d (start_after d w h) (stmt_after d w s (StartFirst h)) (λ i. take (the symbol.Semicolon) (λ _. give (statement_of i.0)) i.1) (λ ts. refl) t ts

-- with a word no block begins
pub word_alone : (p : Place) (w : StmtWord) → unless_block (Some (word_first p w)) ≡ Some (word_first p w)
word_alone p word.If = refl
word_alone p word.While = refl
word_alone p word.For = refl
word_alone p word.Return = refl
word_alone p word.Assert = refl
word_alone p word.Assume = refl
word_alone p word.Expose = refl
