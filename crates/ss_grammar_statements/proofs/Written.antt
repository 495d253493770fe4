-- A declaration and a simple statement, told apart by what follows a name, are the two productions.
use Rattle.std.proofs.Common.{◌≡◌, ℕ, zero, suc, List, [], ◌∷◌, ◌++◌, Option, Some, None, false, refl, sym, ap, subst, ◌∙◌, append_assoc}
use Rattle.ss_ast.specs.Expressions.{ExprTree}
use Rattle.ss_grammar.specs.Language.{Done, After, Take, Bind, Finds}
use Rattle.ss_grammar.proofs.Parts.{to_same}
use Rattle.ss_grammar_expressions.specs.Heads.{Piece}
use Rattle.ss_grammar_expressions.specs.Grammar.{Part, TheExpression, Value, AtLevel, WholeExpression}
use Rattle.ss_grammar_expressions.specs.Parser.{Gets, reading, whole_expression}
use Rattle.ss_grammar_expressions.proofs.Sets.{In, PartOf}
use Rattle.ss_grammar_expressions.proofs.Levels.{may_open}
use Rattle.ss_grammar_expressions.proofs.Pieces.{unary_first, expr_goes}
use Rattle.ss_grammar_expressions.proofs.Expressions.{inner_parts, inner_readers}
use Rattle.ss_grammar_expressions.proofs.Tied.{reads_all}

-- ---- one after the other, in other words

module _ {T A B C : Type 0} where
  pub assoc : (L : List T → A → Type 0) (K : A → List T → B → Type 0) (M : B → List T → C → Type 0) (ts : List T) (v : C) → Bind (Bind L K) M ts v → Bind L (λ a. Bind (K a) M) ts v
  assoc L K M ts v p = record {
    first = p.reads.first;
    front = p.reads.front;
    back = p.reads.back ++ p.back;
    parts = p.parts ∙ ap (λ y. y ++ p.back) p.reads.parts ∙ append_assoc p.reads.front p.reads.back p.back;
    reads = p.reads.reads;
    goes_on = record { first = p.first; front = p.reads.back; back = p.back; parts = refl; reads = p.reads.goes_on; goes_on = p.goes_on };
  }

  pub unassoc : (L : List T → A → Type 0) (K : A → List T → B → Type 0) (M : B → List T → C → Type 0) (ts : List T) (v : C) → Bind L (λ a. Bind (K a) M) ts v → Bind (Bind L K) M ts v
  unassoc L K M ts v p = record {
    first = p.goes_on.first;
    front = p.front ++ p.goes_on.front;
    back = p.goes_on.back;
    parts = p.parts ∙ ap (λ y. p.front ++ y) p.goes_on.parts ∙ sym (append_assoc p.front p.goes_on.front p.goes_on.back);
    reads = record { first = p.first; front = p.front; back = p.goes_on.front; parts = refl; reads = p.reads; goes_on = p.goes_on.reads };
    goes_on = p.goes_on.goes_on;
  }

module _ {T A B : Type 0} where
  pub from_done : (a : A) (K : A → List T → B → Type 0) (ts : List T) (v : B) → Bind (Done a) K ts v → K a ts v
  from_done a K ts v p =
      let e : p.back ≡ ts = sym (p.parts ∙ ap (λ y. y ++ p.back) p.reads.0) in
      subst (λ y. K a y v) e (subst (λ y. K y p.back v) p.reads.1 p.goes_on)

  pub to_done : (a : A) (K : A → List T → B → Type 0) (ts : List T) (v : B) → K a ts v → Bind (Done a) K ts v
  to_done a K ts v p = record { first = a; front = []; back = ts; parts = refl; reads = (refl, refl); goes_on = p }

module _ {T A B C : Type 0} (f : T → Option C) (K : C → List T → A → Type 0) (M : A → List T → B → Type 0) where
  after_out : (o : Option C) (front back ts : List T) (a : A) (v : B) → After o K front a → M a back v → ts ≡ front ++ back → After o (λ c. Bind (K c) M) ts v
  after_out None front back ts a v p q e = p
  after_out (Some c) front back ts a v p q e = record { first = a; front = front; back = back; parts = e; reads = p; goes_on = q }

  pub take_out : (ts : List T) (v : B) → Bind (Take f K) M ts v → Take f (λ c. Bind (K c) M) ts v
  take_out ts v p = at p.front p.reads p.parts
    where
      at : (front : List T) → Take f K front p.first → ts ≡ front ++ p.back → Take f (λ c. Bind (K c) M) ts v
      at [] r e = absurd r
      at (t ∷ front) r e = subst (λ y. Take f (λ c. Bind (K c) M) y v) (sym e) (after_out (f t) front p.back (front ++ p.back) p.first v r p.goes_on refl)

  after_in : (o : Option C) (t : T) (ts : List T) (v : B) → f t ≡ o → After o (λ c. Bind (K c) M) ts v → Bind (Take f K) M (t ∷ ts) v
  after_in None t ts v e p = absurd p
  after_in (Some c) t ts v e p = record { first = p.first; front = t ∷ p.front; back = p.back; parts = ap (λ (y : List T). t ∷ y) p.parts; reads = subst (λ o. After o K p.front p.first) (sym e) p.reads; goes_on = p.goes_on }

  pub take_back : (ts : List T) (v : B) → Take f (λ c. Bind (K c) M) ts v → Bind (Take f K) M ts v
  take_back [] v p = absurd p
  take_back (t ∷ ts) v p = after_in (f t) t ts v refl p

-- ---- expressions at each level

abbrev pub Exprs : (i : Part) → ℕ → List Piece → Value i → Type 0
Exprs i d = AtLevel d i

abbrev pub exprs : (i : Part) → ℕ → Gets (Value i)
exprs i d = reading d i

same_whole : (d : ℕ) (ts : List Piece) → reading d TheExpression ts ≡ whole_expression d (inner_readers exprs d) ts
unfolding reading
same_whole zero ts = refl
same_whole (suc d) ts = refl

whole_there : (d : ℕ) (ts : List Piece) (v : ExprTree) → AtLevel d TheExpression ts v → WholeExpression (may_open d) (inner_parts Exprs d) ts v
whole_there zero ts v q = q
whole_there (suc d) ts v q = q

whole_back : (d : ℕ) (ts : List Piece) (v : ExprTree) → WholeExpression (may_open d) (inner_parts Exprs d) ts v → AtLevel d TheExpression ts v
whole_back zero ts v q = q
whole_back (suc d) ts v q = q

-- an expression of a level, built of those one level deeper
pub whole_at : (n : ℕ) → PartOf n (λ d. WholeExpression (may_open d) (inner_parts Exprs d)) unary_first expr_goes false (λ d. whole_expression d (inner_readers exprs d))
whole_at n =
    let r = to_same n (λ d. AtLevel d TheExpression) (λ d. WholeExpression (may_open d) (inner_parts Exprs d)) (In unary_first) (In expr_goes) false (λ d. reading d TheExpression) whole_there whole_back (reads_all n TheExpression) in
    record { good = r.good; finds = λ d lt ts. subst (λ y. Finds (λ d. WholeExpression (may_open d) (inner_parts Exprs d)) d ts y) (same_whole d ts) (r.finds d lt ts) }
