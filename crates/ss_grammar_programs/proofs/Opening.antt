-- Parts that open a level, and the parts of other grammars at each level.
use Rattle.std.proofs.Common.{◌≡◌, ℕ, zero, suc, ◌-◌, List, [], ◌∷◌, Option, Some, None, Ok, Bool, true, false, refl, subst, arith}
use Rattle.ss_ast.specs.Expressions.{NameTree}
use Rattle.ss_grammar.specs.Language.{Done, Bind, Inside, Finds}
use Rattle.ss_grammar.specs.Reading.{◌>>=◌, take}
use Rattle.ss_grammar.proofs.Facts.{known}
use Rattle.ss_grammar.proofs.Good.{take_in}
use Rattle.ss_grammar.proofs.Parts.{to_as}
use Rattle.ss_grammar_expressions.specs.First.{tokened}
use Rattle.ss_grammar_expressions.specs.Heads.{Piece, or_left_out, TypeHead}
use Rattle.ss_grammar_expressions.specs.Grammar.{TheExpression, TheTypeEnd, TheRange, Expression, HeldAfter, Held}
use Rattle.ss_grammar_expressions.specs.Parser.{Gets, held, reading, below, type_end}
use Rattle.ss_grammar_expressions.proofs.Sets.{In, PartOf}
use Rattle.ss_grammar_expressions.proofs.Levels.{may_open, by_levels, held_to}
use Rattle.ss_grammar_expressions.proofs.Pieces.{unary_first, expr_goes}
use Rattle.ss_grammar_expressions.proofs.Expressions.{inner_parts, inner_readers}
use Rattle.ss_grammar_expressions.proofs.Unaries.{type_set}
use Rattle.ss_grammar_expressions.proofs.Tied.{reads_all}
use Rattle.ss_grammar_statements.specs.Grammar.{DeclsFrom, Prim}
use Rattle.ss_grammar_statements.specs.Parser.{decls_from, prim}
use Rattle.ss_grammar_statements.proofs.Pieces.{prim_first, decls_goes}
use Rattle.ss_grammar_statements.proofs.Declarations.{decls_from_to}
use Rattle.ss_grammar_statements.proofs.Paths.{prim_to}
use Rattle.ss_grammar_statements.proofs.Written.{Exprs, exprs, whole_at}
use Rattle.ss_grammar_programs.specs.Grammar.{Opening, AtDepth, TypeFrom}
use Rattle.ss_grammar_programs.specs.Parser.{expression, inner_expression}

-- at fewer levels
pub lower : {A : Type 0} (n : ℕ) (L : ℕ → List Piece → A → Type 0) (f g : List ℕ) (e : Bool) (p : ℕ → Gets A) → PartOf (suc n) L f g e p → PartOf n L f g e p
lower n L f g e p r = record { good = r.good; finds = λ d lt ts. r.finds d (omega (arith, lt)) ts }

-- by another reader that gives the same
pub read_as : {A : Type 0} (n : ℕ) (L : ℕ → List Piece → A → Type 0) (f g : List ℕ) (e : Bool) (p q : ℕ → Gets A) → ((d : ℕ) (ts : List Piece) → p d ts ≡ q d ts) → PartOf n L f g e p → PartOf n L f g e q
read_as n L f g e p q same r = record { good = r.good; finds = λ d lt ts. subst (λ x. Finds L d ts x) (same d ts) (r.finds d lt ts) }

-- a value made of one part
pub made : {A B : Type 0} (n : ℕ) (L : ℕ → List Piece → A → Type 0) (f g : List ℕ) (p : ℕ → Gets A) (make : A → B) → PartOf n L f g false p → PartOf n (λ d. Bind (L d) (λ a. Done (make a))) f g false (λ d ts. p d ts >>= λ x. Ok (make x.0, x.1))
made n L f g p make r = to_as n L (In f) (In g) p make r

pub less_one : (d : ℕ) → d ≡ suc d - 1
less_one d = omega arith

module _ {A B : Type 0} (n : ℕ) (f : Piece → Option B) (hs : List ℕ) (sub : (t : Piece) → known (f t) ≡ true → In hs t ≡ true) (K : B → ℕ → List Piece → A → Type 0) (k : B → ℕ → Gets A) (a : A) (first : List ℕ) (e : Bool) (parts : (b : B) → PartOf n (K b) first [] e (k b)) (m : ℕ → B → Gets A) (same : (d : ℕ) (b : B) (ts : List Piece) → k b d ts ≡ m (suc d) b ts) where
  there : (x : Option B) (ts : List Piece) (v : A) → HeldAfter false (λ b. Inside (K b) 0) a x ts v → HeldAfter true (λ b. Inside (K b) 0) a x ts v
  there None ts v q = q
  there (Some b) ts v q = q

  back : (x : Option B) (ts : List Piece) (v : A) → HeldAfter true (λ b. Inside (K b) 0) a x ts v → HeldAfter false (λ b. Inside (K b) 0) a x ts v
  back None ts v q = q
  back (Some b) ts v q = q

  pub opening_to : PartOf (suc n) (Opening f K a) (36 ∷ hs) [] false (λ d. take (tokened (or_left_out f)) (held d (m d) a))
  opening_to = by_levels (suc n) (λ d. Held (may_open d) f (λ b. Inside (K b) d) a) (Opening f K a) (36 ∷ hs) [] false (λ d. take (tokened (or_left_out f)) (held d (m d) a))
      (λ ts v q. take_in (or_left_out f) (HeldAfter false (λ b. Inside (K b) 0) a) (HeldAfter true (λ b. Inside (K b) 0) a) there ts v q)
      (λ ts v q. take_in (or_left_out f) (HeldAfter true (λ b. Inside (K b) 0) a) (HeldAfter false (λ b. Inside (K b) 0) a) back ts v q)
      (λ d ts v q. q) (λ d ts v q. q)
      (held_to n f hs sub K k a first e parts (λ d b. Inside (K b) d) m (λ d b ts v q. q) (λ d b ts v q. q) same)

-- ---- parts of the grammars of expressions and of statements

-- an expression
expression_same : (d : ℕ) (ts : List Piece) → reading d TheExpression ts ≡ expression d ts
unfolding reading below
expression_same zero ts = refl
expression_same (suc d) ts = refl

pub expressions_to : (n : ℕ) → PartOf n Expression unary_first expr_goes false expression
expressions_to n = read_as n Expression unary_first expr_goes false (λ d. reading d TheExpression) expression expression_same (reads_all n TheExpression)

-- the same, one level deeper
inner_same : (d : ℕ) (ts : List Piece) → reading d TheExpression ts ≡ inner_expression (suc d) ts
unfolding below
inner_same d ts = refl

pub inner_to : (n : ℕ) → PartOf n Expression unary_first expr_goes false (λ d. inner_expression (suc d))
inner_to n = read_as n Expression unary_first expr_goes false (λ d. reading d TheExpression) (λ d. inner_expression (suc d)) inner_same (reads_all n TheExpression)

-- the rest of a type
type_same : (t : TypeHead) (d : ℕ) (ts : List Piece) → reading d (TheTypeEnd t) ts ≡ type_end d t ts
unfolding reading
type_same t zero ts = refl
type_same t (suc d) ts = refl

pub type_ends_to : (n : ℕ) (t : TypeHead) → PartOf n (λ d. TypeFrom d t) type_set type_set true (λ d. type_end d t)
type_ends_to n t = read_as n (λ d. TypeFrom d t) type_set type_set true (λ d. reading d (TheTypeEnd t)) (λ d. type_end d t) (type_same t) (reads_all n (TheTypeEnd t))

prim_same : (d : ℕ) (ts : List Piece) → prim d (inner_readers exprs d) ts ≡ prim d (below d) ts
unfolding below
prim_same zero ts = refl
prim_same (suc d) ts = refl

pub prims_to : (n : ℕ) → PartOf (suc n) (AtDepth Prim) prim_first [] false (λ d. prim d (below d))
prims_to n = by_levels (suc n) (λ d. Prim (may_open d) (inner_parts Exprs d)) (AtDepth Prim) prim_first [] false (λ d. prim d (below d))
    (λ ts v q. q) (λ ts v q. q) (λ d ts v q. q) (λ d ts v q. q)
    (read_as (suc n) (λ d. Prim (may_open d) (inner_parts Exprs d)) prim_first [] false (λ d. prim d (inner_readers exprs d)) (λ d. prim d (below d)) prim_same (prim_to n Exprs exprs (reads_all n TheExpression) (reads_all n TheRange) (whole_at (suc n))))

decls_same : (x : NameTree) (d : ℕ) (ts : List Piece) → decls_from d (inner_readers exprs d) x ts ≡ decls_from d (below d) x ts
unfolding below
decls_same x zero ts = refl
decls_same x (suc d) ts = refl

pub declarators_to : (n : ℕ) (x : NameTree) → PartOf (suc n) (AtDepth (λ o V. DeclsFrom o V x)) (23 ∷ 21 ∷ []) decls_goes true (λ d. decls_from d (below d) x)
declarators_to n x = by_levels (suc n) (λ d. DeclsFrom (may_open d) (inner_parts Exprs d) x) (AtDepth (λ o V. DeclsFrom o V x)) (23 ∷ 21 ∷ []) decls_goes true (λ d. decls_from d (below d) x)
    (λ ts v q. q) (λ ts v q. q) (λ d ts v q. q) (λ d ts v q. q)
    (read_as (suc n) (λ d. DeclsFrom (may_open d) (inner_parts Exprs d) x) (23 ∷ 21 ∷ []) decls_goes true (λ d. decls_from d (inner_readers exprs d) x) (λ d. decls_from d (below d) x) (decls_same x) (decls_from_to n Exprs exprs (whole_at (suc n)) x))
