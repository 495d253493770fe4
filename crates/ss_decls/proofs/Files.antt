-- From what reading the classes found to what the tokens are.
use Rattle.std.proofs.Common.{◌≡◌, ℕ, ◌-◌, drop, List, [], ◌∷◌, ◌++◌, length, Option, Some, None, Result, Ok, Err, true, false, refl, sym, ap, subst, ◌∙◌, arith, inl, inr}
use Rattle.std.proofs.lemmas.List.{append-nil, length-append}
use Rattle.ss_core.specs.declared.names.Place.{Place}
use Rattle.ss_core.specs.declared.names.FrontStop.{FrontStop}
use Rattle.ss_core.specs.declared.names.FrontStop.TheVariants as front
use Rattle.ss_core.specs.declared.rules.Rule.TheVariants as rule
use Rattle.ss_core.specs.Rules.{rule_number}
use Rattle.ss_ast.specs.declared.token.Symbol.TheVariants as symbol
use Rattle.ss_ast.specs.declared.token.Token.{Token}
use Rattle.ss_ast.specs.Programs.{ClassTree, ProgramTree}
use Rattle.ss_grammar.specs.declared.fault.Fault.{Fault}
use Rattle.ss_grammar.specs.declared.fault.Fault.TheVariants.{Expected, TooDeep}
use Rattle.ss_grammar.specs.Language.{Starts, Ends, Accepts, Refuses, IsDeep, Finds}
use Rattle.ss_grammar.specs.Reading.{◌>>=◌, take, after, seen, seen_as, ahead}
use Rattle.ss_grammar.proofs.Facts.{Cut, same, longer, shorter, cut}
use Rattle.ss_grammar.proofs.Answers.{found_whole}
use Rattle.ss_ast.specs.Tokens.{tok}
use Rattle.ss_grammar.specs.declared.fault.Stop.TheVariants as stop
use Rattle.ss_grammar.specs.Stops.{Fails}
use Rattle.ss_grammar_expressions.specs.Heads.{Piece, AToken, pieces, is, found, the}
use Rattle.ss_parser_expressions.specs.Answer.{first_place, rule_of}
use Rattle.ss_parser_expressions.proofs.Suffix.{behind_is}
use Rattle.ss_grammar_expressions.specs.Parser.{give}
use Rattle.ss_grammar_expressions.proofs.Sets.{code, disjoint_in}
use Rattle.ss_grammar_programs.specs.Heads.{the_end}
use Rattle.ss_grammar_programs.specs.Grammar.{Declarations}
use Rattle.ss_grammar_programs.specs.Parser.{declarations, program}
use Rattle.ss_grammar_programs.proofs.Pieces.{classes_set, end_in}
use Rattle.ss_grammar_programs.proofs.Rounds.{none_seen}
use Rattle.ss_grammar_programs.proofs.Programs.{declarations_to, declarations_find, program_finds}
use Rattle.ss_decls.specs.Answer.{IsProgram, Stopped, AfterEnd, Refusal, ProgramAnswer, rule_at}

-- a front of a list is all that stands before the rest
same_front : {T : Type 0} (a b rest : List T) → a ++ rest ≡ b ++ rest → a ≡ b
same_front {T} a b rest e = at (cut a b rest rest e)
  where
    no_longer : (x : List T) (t : T) → rest ≡ t ∷ (x ++ rest) → ⊥
    no_longer x t q = omega (arith, ap length q, length-append x rest)

    at : Cut a b rest rest → a ≡ b
    at (same p q) = p
    at (longer t x p q) = absurd (no_longer x t q)
    at (shorter t x p q) = absurd (no_longer x t q)

fronts : {T : Type 0} (ts a b rest : List T) → ts ≡ a ++ rest → ts ≡ b ++ rest → a ≡ b
fronts ts a b rest p q = same_front a b rest (sym p ∙ q)

module _ {B A : Type 0} (f : Piece → Option B) (k : B → List Piece → Result (A × List Piece) (Fault × List Piece)) where
  take_seen : (ts : List Piece) (b : B) (z : List Piece) → seen f ts ≡ Some (b, z) → take f k ts ≡ k b z
  take_seen [] b z e = absurd cc
  take_seen (t ∷ ts) b z e = at (f t) refl
    where
      at : (o : Option B) → f t ≡ o → take f k (t ∷ ts) ≡ k b z
      at None h = absurd (let g : seen_as None ts ≡ Some (b, z) = subst (λ o. seen_as o ts ≡ Some (b, z)) h e in cc)
      at (Some c) h =
          let g : (c, ts) ≡ (b, z) = (let q : seen_as (Some c) ts ≡ Some (b, z) = subst (λ o. seen_as o ts ≡ Some (b, z)) h e in cc) in
          ap (λ o. after o k (Err (Expected, t ∷ ts)) ts) h ∙ ap (λ (q : B × List Piece). k q.0 q.1) g

  take_none : (ts : List Piece) → seen f ts ≡ None → take f k ts ≡ Err (Expected, ts)
  take_none [] e = refl
  take_none (t ∷ ts) e = at (f t) refl
    where
      at : (o : Option B) → f t ≡ o → take f k (t ∷ ts) ≡ Err (Expected, t ∷ ts)
      at None h = ap (λ o. after o k (Err (Expected, t ∷ ts)) ts) h
      at (Some c) h = absurd (let g : seen_as (Some c) ts ≡ None = subst (λ o. seen_as o ts ≡ None) h e in cc)

ahead_some : {B : Type 0} (f : Piece → Option B) (ts : List Piece) (x : B × List Piece) → seen f ts ≡ Some x → ahead (is f) ts ≡ true
ahead_some f [] x e = absurd cc
ahead_some {B} f (t ∷ ts) x e = at (f t) refl
  where
    at : (o : Option B) → f t ≡ o → ahead (is f) (t ∷ ts) ≡ true
    at None h = absurd (let g : seen_as None ts ≡ Some x = subst (λ o. seen_as o ts ≡ Some x) h e in cc)
    at (Some c) h = ap found h

abbrev pub program_of : List ClassTree → Place → ProgramTree
program_of cs p = record { classes = cs; last = p }

module _ (ts : List Piece) where
  program_is : program 64 ts ≡ (declarations 64 ts >>= λ cs. take the_end (λ p. give (program_of cs.0 p)) cs.1)
  unfolding program
  program_is = refl

  program_found : (r : Result (ProgramTree × List Piece) (Fault × List Piece)) → program 64 ts ≡ r → Finds IsProgram 64 ts r
  program_found r e = subst (λ q. Finds IsProgram 64 ts q) e (program_finds 64 ts)

  classes_found : (r : Result (List ClassTree × List Piece) (Fault × List Piece)) → declarations 64 ts ≡ r → Finds Declarations 64 ts r
  classes_found r e = subst (λ q. Finds Declarations 64 ts q) e (declarations_find 64 ts)

  -- nothing in IsProgram is ts
  none_of : (f rest : List Piece) → ts ≡ f ++ rest → ((d : ℕ) (p : ProgramTree) → IsProgram d f p → ⊥) → ((d : ℕ) → Ends (IsProgram d) f rest) → (d : ℕ) (p : ProgramTree) → IsProgram d ts p → ⊥
  none_of f [] e whole en d p h = whole d p (subst (λ y. IsProgram d y p) (e ∙ append-nil f) h)
  none_of f (t ∷ rest) e whole en d p h = en d rest p (subst (λ y. IsProgram d y p) e h)

  stopped : (rest : List Piece) → Refuses IsProgram 64 ts rest → Stopped ts rest
  stopped rest g = record { front = g.front; parts = g.parts; starts = g.starts; ends = g.ends; none = none_of g.front rest g.parts g.not_whole g.ends }

  -- ---- all classes are read

  module _ (cs : List ClassTree) (rest : List Piece) (e : declarations 64 ts ≡ Ok (cs, rest)) where
    behind : program 64 ts ≡ take the_end (λ p. give (program_of cs p)) rest
    behind = program_is ∙ ap (λ r. r >>= λ x. take the_end (λ p. give (program_of x.0 p)) x.1) e

    pub whole_program : (p : Place) → seen the_end rest ≡ Some (p, []) → IsProgram 64 ts (program_of cs p)
    whole_program p s = found_whole IsProgram 64 ts (program_of cs p) (program_found (Ok (program_of cs p, [])) (behind ∙ take_seen the_end (λ p. give (program_of cs p)) rest p [] s))

    pub more_stopped : (p : Place) (t : Piece) (z : List Piece) → seen the_end rest ≡ Some (p, t ∷ z) → Stopped ts (t ∷ z)
    more_stopped p t z s =
        let a : Accepts IsProgram 64 ts (program_of cs p) (t ∷ z) = program_found (Ok (program_of cs p, t ∷ z)) (behind ∙ take_seen the_end (λ p. give (program_of cs p)) rest p (t ∷ z) s) in
        record {
          front = a.front;
          parts = a.parts;
          starts = record { more = []; value = program_of cs p; reads = subst (λ y. IsProgram 64 y (program_of cs p)) (sym (append-nil a.front)) a.reads };
          ends = a.ends;
          none = λ d q h. a.ends d z q (subst (λ y. IsProgram d y q) a.parts h);
        }

    -- the end of the text is no part of a class
    no_end : (d : ℕ) (f b : List Piece) (xs ys : List ClassTree) (v : ProgramTree) → Declarations 64 f xs → Rattle.ss_grammar.specs.Language.Take the_end (λ p. Rattle.ss_grammar.specs.Language.Done (program_of xs p)) b v → Declarations d (f ++ b) ys → ⊥
    no_end d f [] xs ys v l k m = k
    no_end d f (u ∷ b) xs ys v l k m = at (the_end u) refl k
      where
        at : (o : Option Place) → the_end u ≡ o → Rattle.ss_grammar.specs.Language.After {T = Piece} {A = ProgramTree} o (λ p. Rattle.ss_grammar.specs.Language.Done (program_of xs p)) b v → ⊥
        at None i q = q
        at (Some p) i q = disjoint_in (code u) (classes_set ++ 40 ∷ []) (35 ∷ []) refl ((declarations_to 0).good.facts.goings f u b xs ys (64, l) (d, m)) (end_in u (ap found i))

    pub more_before : (p : Place) (t : Piece) (z : List Piece) → seen the_end rest ≡ Some (p, t ∷ z) → AfterEnd ts (t ∷ z) → ⊥
    more_before p t z s x =
        let a : Accepts IsProgram 64 ts (program_of cs p) (t ∷ z) = program_found (Ok (program_of cs p, t ∷ z)) (behind ∙ take_seen the_end (λ p. give (program_of cs p)) rest p (t ∷ z) s) in
        let q : x.front ≡ a.reads.front ++ a.reads.back = fronts ts x.front a.front (t ∷ z) x.parts a.parts ∙ a.reads.parts in
        no_end x.level a.reads.front a.reads.back a.reads.first x.classes (program_of cs p) a.reads.reads a.reads.goes_on (subst (λ y. Declarations x.level y x.classes) q x.reads)

    other_refused : seen the_end rest ≡ None → Refuses IsProgram 64 ts rest
    other_refused s = program_found (Err (Expected, rest)) (behind ∙ take_none the_end (λ p. give (program_of cs p)) rest s)

    pub other_stopped : seen the_end rest ≡ None → Stopped ts rest
    other_stopped s = stopped rest (other_refused s)

    pub brace_after : (x : Place × List Piece) → seen (the symbol.CloseBrace) rest ≡ Some x → AfterEnd ts rest
    brace_after x s =
        let a : Accepts Declarations 64 ts cs rest = classes_found (Ok (cs, rest)) e in
        record { front = a.front; parts = a.parts; level = 64; classes = cs; reads = a.reads; brace = ahead_some (the symbol.CloseBrace) rest x s }

    pub no_brace : seen (the symbol.CloseBrace) rest ≡ None → AfterEnd ts rest → ⊥
    no_brace s x = let h : false ≡ true = sym (none_seen (the symbol.CloseBrace) rest s) ∙ x.brace in cc

  -- ---- a class is refused

  fault_is : (f : Fault) (rest : List Piece) → declarations 64 ts ≡ Err (f, rest) → program 64 ts ≡ Err (f, rest)
  fault_is f rest e = program_is ∙ ap (λ r. r >>= λ x. take the_end (λ p. give (program_of x.0 p)) x.1) e

  pub fault_stopped : (rest : List Piece) → declarations 64 ts ≡ Err (Expected, rest) → Stopped ts rest
  fault_stopped rest e = stopped rest (program_found (Err (Expected, rest)) (fault_is Expected rest e))

  pub fault_before : (rest : List Piece) → declarations 64 ts ≡ Err (Expected, rest) → AfterEnd ts rest → ⊥
  fault_before rest e x =
      let g : Refuses Declarations 64 ts rest = classes_found (Err (Expected, rest)) e in
      g.not_whole x.level x.classes (subst (λ y. Declarations x.level y x.classes) (fronts ts x.front g.front rest x.parts g.parts) x.reads)

  pub fault_deep : (rest : List Piece) → declarations 64 ts ≡ Err (TooDeep, rest) → IsDeep IsProgram 64 ts rest
  fault_deep rest e = program_found (Err (TooDeep, rest)) (fault_is TooDeep rest e)

-- ---- the same of tokens

no_pieces : (ts : List Token) → length ts ≡ 0 → pieces ts ≡ []
no_pieces [] e = refl
no_pieces (t ∷ ts) e = absurd (omega (arith, e))

module _ (tokens : List Token) where
  abbrev all : List Piece
  all = pieces tokens

  pub whole_is : (cs : List ClassTree) (rest behind : List Token) (p : Place) → declarations 64 all ≡ Ok (cs, pieces rest) → seen the_end (pieces rest) ≡ Some (p, pieces behind) → length behind ≡ 0 → IsProgram 64 all (program_of cs p)
  whole_is cs rest behind p e s n = whole_program all cs (pieces rest) e p (s ∙ ap (λ z. Some (p, z)) (no_pieces behind n))

  more_refused : (cs : List ClassTree) (rest behind : List Token) (p : Place) → declarations 64 all ≡ Ok (cs, pieces rest) → seen the_end (pieces rest) ≡ Some (p, pieces behind) → (length behind ≡ 0 → ⊥) → Refusal (rule_number rule.Unexpected) all (pieces behind)
  more_refused cs rest [] p e s n = absurd (n refl)
  more_refused cs rest (t ∷ z) p e s n = inl (refl, more_stopped all cs (pieces rest) e p (AToken (tok t)) (pieces z) s, more_before all cs (pieces rest) e p (AToken (tok t)) (pieces z) s)

  -- what stands in place of a class or the end of the text, a `}` or something else
  place_refused : (cs : List ClassTree) (rest : List Token) → declarations 64 all ≡ Ok (cs, pieces rest) → seen the_end (pieces rest) ≡ None → (b : Option (Place × List Piece)) → seen (the symbol.CloseBrace) (pieces rest) ≡ b → Refusal (rule_number (rule_at b)) all (pieces rest)
  place_refused cs rest e s (Some x) b = inr (inr (refl, other_stopped all cs (pieces rest) e s, brace_after all cs (pieces rest) e x b))
  place_refused cs rest e s None b = inl (refl, other_stopped all cs (pieces rest) e s, no_brace all cs (pieces rest) e b)

  answered : (n : ℕ) (rest : List Piece) (r : FrontStop) → Refusal n all rest → r ≡ front.Refused n (first_place rest) → ProgramAnswer tokens (Err r)
  answered n rest r h is =
      let a : ProgramAnswer tokens (Err (front.Refused n (first_place rest))) = (rest, refl, h) in
      subst (λ (x : FrontStop). ProgramAnswer tokens (Err x)) (sym is) a

  pub more_is : (cs : List ClassTree) (rest behind : List Token) (p : Place) (r : FrontStop) → declarations 64 all ≡ Ok (cs, pieces rest) → seen the_end (pieces rest) ≡ Some (p, pieces behind) → (length behind ≡ 0 → ⊥)
      → r ≡ front.Refused (rule_number rule.Unexpected) (first_place (pieces behind)) → ProgramAnswer tokens (Err r)
  more_is cs rest behind p r e s n = answered (rule_number rule.Unexpected) (pieces behind) r (more_refused cs rest behind p e s n)

  pub other_is : (cs : List ClassTree) (rest : List Token) (r : FrontStop) → declarations 64 all ≡ Ok (cs, pieces rest) → seen the_end (pieces rest) ≡ None
      → r ≡ front.Refused (rule_number (rule_at (seen (the symbol.CloseBrace) (pieces rest)))) (first_place (pieces rest)) → ProgramAnswer tokens (Err r)
  other_is cs rest r e s = answered (rule_number (rule_at (seen (the symbol.CloseBrace) (pieces rest)))) (pieces rest) r (place_refused cs rest e s (seen (the symbol.CloseBrace) (pieces rest)) refl)

  abbrev place_left : ℕ → Place
  place_left n = first_place (pieces (drop (length tokens - n) tokens))

  placed : (f rest : List Piece) → all ≡ f ++ rest → first_place rest ≡ place_left (length rest)
  placed f rest e = ap first_place (behind_is tokens 0 f rest (omega arith) e)

  refusal : (f : Fault) (rest : List Piece) → declarations 64 all ≡ Err (f, rest) → ProgramAnswer tokens (Err (front.Refused (rule_number (rule_of f)) (place_left (length rest))))
  refusal Expected rest e = let s = fault_stopped all rest e in (rest, placed s.front rest s.parts, inl (refl, s, fault_before all rest e))
  refusal TooDeep rest e = let g = fault_deep all rest e in (rest, placed g.front rest g.parts, inr (inl (refl, g)))

  pub faulty : (f : Fault) (n : ℕ) → Fails (stop.Fault f n) (declarations 64 all) → ProgramAnswer tokens (Err (front.Refused (rule_number (rule_of f)) (place_left n)))
  faulty f n g = look (declarations 64 all) refl g
    where
      look : (r : Result (List ClassTree × List Piece) (Fault × List Piece)) → declarations 64 all ≡ r → Fails (stop.Fault f n) r → ProgramAnswer tokens (Err (front.Refused (rule_number (rule_of f)) (place_left n)))
      look (Ok x) e q = absurd q
      look (Err d) e q =
          let a = refusal d.0 d.1 e in
          subst (λ (k : ℕ). ProgramAnswer tokens (Err (front.Refused (rule_number (rule_of f)) (place_left k)))) q.1
          (subst (λ (c : Fault). ProgramAnswer tokens (Err (front.Refused (rule_number (rule_of c)) (place_left (length d.1))))) q.0 a)
