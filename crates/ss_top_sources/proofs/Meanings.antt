-- A source means one program, or it has one fault.
use Rattle.std.proofs.Common.{◌≡◌, ◌⊎◌, ⊎_elim, List, ℕ, map, Some, None, Ok, Err, refl, sym, ap, ◌∙◌, subst}
use Rattle.ss_core.specs.declared.names.Place.{Place}
use Rattle.ss_ast.specs.Tokens.{Tok}
use Rattle.ss_ast.specs.Programs.{ProgramTree}
use Rattle.ss_lexer.specs.Reading.{Answer, HasTokens, FaultAt}
use Rattle.ss_lexer.proofs.Unique.{one_answer}
use Rattle.ss_grammar_expressions.specs.Heads.{Piece, AToken}
use Rattle.ss_parser_expressions.specs.Answer.{first_place}
use Rattle.ss_grammar_programs.proofs.Programs.{program_one}
use Rattle.ss_decls.specs.Answer.{Refusal}
use Rattle.ss_faults.specs.declared.Fault.{Fault}
use Rattle.ss_typed.specs.Tree.{TypedTree}
use Rattle.ss_resolver_rules.specs.Programs.{resolved}
use Rattle.ss_top_sources.specs.Phases.{program_fault}
use Rattle.ss_top_sources.specs.Sources.{AreProgram, AreRefused, IsAccepted, IsNoProgram, IsFaulty, IsRefused}
use Rattle.ss_top_sources.proofs.Faults.{refused_none, one_refusal}

pub one_list : (source : List ℕ) (a b : List Tok) → HasTokens source a → HasTokens source b → a ≡ b
one_list source a b x y = let e : Ok a ≡ Ok b = one_answer source (Ok a) (Ok b) x y in cc

one_tree : (a b : List Tok) (p q : ProgramTree) → a ≡ b → AreProgram a p → AreProgram b q → p ≡ q
one_tree a b p q same x y = program_one 64 64 (map AToken b) p q (subst (λ ts. AreProgram ts p) same x) y

pub one_meaning : (source : List ℕ) (ts us : List Tok) (p q : TypedTree) → IsAccepted source ts p → IsAccepted source us q → (ts ≡ us) × (p ≡ q)
one_meaning source ts us p q m n =
    let tokens = one_list source ts us m.reads n.reads in
    (tokens, sym m.resolves ∙ ap resolved (one_tree ts us m.tree n.tree tokens m.parses n.parses) ∙ n.resolves)

-- ---- what has tokens has no fault in its bytes; what is a program isn't refused

no_token_fault : (source : List ℕ) (ts : List Tok) (rule : ℕ) (at : Place) → HasTokens source ts → FaultAt rule at source → ⊥
no_token_fault source ts rule at x y = apart ts (rule, at) (Ok ts) (Err (rule, at)) refl refl (one_answer source (Ok ts) (Err (rule, at)) x y)
  where
    apart : (l : List Tok) (f : ℕ × Place) (a b : Answer) → a ≡ Ok l → b ≡ Err f → a ≡ b → ⊥
    apart l f a b c d e = absurd (cc)

no_refusal : (source : List ℕ) (ts : List Tok) (p : ProgramTree) (rule : ℕ) (at : Place) → HasTokens source ts → AreProgram ts p → IsNoProgram source rule at → ⊥
no_refusal source ts p rule at reads parses none =
    let tokens = one_list source ts none.tokens reads none.reads in
    refused_none rule (map AToken none.tokens) (none.refused).0 p (none.refused).2 (subst (λ l. AreProgram l p) tokens parses)

none_or_some : (f : Fault) → None ≡ Some f → ⊥
none_or_some f e = absurd (cc)

no_program_fault : (source : List ℕ) (ts : List Tok) (p : TypedTree) (rule : ℕ) (at : Place) → IsAccepted source ts p → IsFaulty source rule at → ⊥
no_program_fault source ts p rule at m n =
    let tokens = one_list source ts n.tokens m.reads n.reads in
    let tree = one_tree ts n.tokens m.tree n.tree tokens m.parses n.parses in
    none_or_some (record { rule = rule; place = at }) (sym m.faultless ∙ ap program_fault tree ∙ n.faulty)

pub no_fault : (source : List ℕ) (ts : List Tok) (p : TypedTree) (rule : ℕ) (at : Place) → IsAccepted source ts p → IsRefused source rule at → ⊥
no_fault source ts p rule at m h = ⊎_elim
    (λ fault. no_token_fault source ts rule at m.reads fault)
    (λ others. ⊎_elim (λ none. no_refusal source ts m.tree rule at m.reads m.parses none) (λ other. no_program_fault source ts p rule at m other) others)
    h

-- ---- one fault

one_byte_fault : (source : List ℕ) (r s : ℕ) (a b : Place) → FaultAt r a source → FaultAt s b source → (r ≡ s) × (a ≡ b)
one_byte_fault source r s a b x y =
    let e = errors (r, a) (s, b) (Err (r, a)) (Err (s, b)) refl refl (one_answer source (Err (r, a)) (Err (s, b)) x y) in
    (ap (λ (f : ℕ × Place). f.0) e, ap (λ (f : ℕ × Place). f.1) e)
  where
    errors : (f g : ℕ × Place) (x y : Answer) → x ≡ Err f → y ≡ Err g → x ≡ y → f ≡ g
    errors f g x y c d e = let same : Err f ≡ Err g = sym c ∙ e ∙ d in cc

one_token_fault : (source : List ℕ) (r s : ℕ) (a b : Place) → IsNoProgram source r a → IsNoProgram source s b → (r ≡ s) × (a ≡ b)
one_token_fault source r s a b x y =
    let tokens = one_list source x.tokens y.tokens x.reads y.reads in
    let h : AreRefused y.tokens r a = subst (λ l. AreRefused l r a) tokens x.refused in
    let same = one_refusal r s (map AToken y.tokens) h.0 (y.refused).0 h.2 (y.refused).2 in
    (same.1, sym h.1 ∙ ap first_place same.0 ∙ (y.refused).1)

one_program_fault : (source : List ℕ) (r s : ℕ) (a b : Place) → IsFaulty source r a → IsFaulty source s b → (r ≡ s) × (a ≡ b)
one_program_fault source r s a b x y =
    let tokens = one_list source x.tokens y.tokens x.reads y.reads in
    let tree = one_tree x.tokens y.tokens x.tree y.tree tokens x.parses y.parses in
    let e = one_refusal_of (record { rule = r; place = a }) (record { rule = s; place = b }) (sym x.faulty ∙ ap program_fault tree ∙ y.faulty) in
    (ap (λ (f : Fault). f.rule) e, ap (λ (f : Fault). f.place) e)
  where
    one_refusal_of : (f g : Fault) → Some f ≡ Some g → f ≡ g
    one_refusal_of f g e = cc

pub one_fault : (source : List ℕ) (r s : ℕ) (a b : Place) → IsRefused source r a → IsRefused source s b → (r ≡ s) × (a ≡ b)
one_fault source r s a b h k = ⊎_elim
    (λ x. ⊎_elim
    (λ y. one_byte_fault source r s a b x y)
    (λ others. ⊎_elim (λ y. absurd (no_token_fault source y.tokens r a y.reads x)) (λ y. absurd (no_token_fault source y.tokens r a y.reads x)) others)
    k)
    (λ more. ⊎_elim
    (λ x. ⊎_elim
    (λ y. absurd (no_token_fault source x.tokens s b x.reads y))
    (λ others. ⊎_elim (λ y. one_token_fault source r s a b x y) (λ y. absurd (no_refusal source y.tokens y.tree r a y.reads y.parses x)) others)
    k)
    (λ x. ⊎_elim
    (λ y. absurd (no_token_fault source x.tokens s b x.reads y))
    (λ others. ⊎_elim (λ y. absurd (no_refusal source x.tokens x.tree s b x.reads x.parses y)) (λ y. one_program_fault source r s a b x y) others)
    k)
    more)
    h
