-- Tokens that are refused are no program, and are refused at one token by one rule.
use Rattle.std.proofs.Common.{◌≡◌, ◌⊎◌, ⊎_elim, ℕ, List, [], ◌∷◌, ◌++◌, refl, sym, ap, ◌∙◌, subst}
use Rattle.std.proofs.lemmas.List.{append-nil, append_assoc, append_cancel_right}
use Rattle.ss_core.specs.declared.names.Place.{Place}
use Rattle.ss_ast.specs.Programs.{ProgramTree}
use Rattle.ss_grammar.specs.Language.{Starts, Ends, IsDeep}
use Rattle.ss_grammar_expressions.specs.Heads.{Piece}
use Rattle.ss_decls.specs.Answer.{IsProgram, Stopped, AfterEnd, Refusal}

-- ---- what is refused is no program

deep_none : (ts rest : List Piece) (p : ProgramTree) → IsDeep IsProgram 64 ts rest → IsProgram 64 ts p → ⊥
deep_none ts rest p d x =
    let whole : ts ≡ d.front ++ d.opening ∷ d.behind = d.parts ∙ ap (λ r. d.front ++ r) d.opens in
    (subst (λ r. Ends (IsProgram 64) d.front r) d.opens d.ends) d.behind p (subst (λ l. IsProgram 64 l p) whole x)

pub refused_none : (rule : ℕ) (ts rest : List Piece) (p : ProgramTree) → Refusal rule ts rest → IsProgram 64 ts p → ⊥
refused_none rule ts rest p h x = ⊎_elim (λ expected. (expected.1).none 64 p x) (λ others. ⊎_elim (λ deep. deep_none ts rest p deep.1 x) (λ end. (end.1).none 64 p x) others) h

-- ---- it is refused at one token

-- the tokens before the rest are the start of a program, and with the first of the rest they aren't
record Halt (ts rest : List Piece) : Type 0 where
  pub front : List Piece
  pub parts : ts ≡ front ++ rest
  pub starts : Starts (IsProgram 64) front
  pub ends : Ends (IsProgram 64) front rest

halt_stopped : (ts rest : List Piece) → Stopped ts rest → Halt ts rest
halt_stopped ts rest h = record { front = h.front; parts = h.parts; starts = h.starts; ends = h.ends 64 }

halt_deep : (ts rest : List Piece) → IsDeep IsProgram 64 ts rest → Halt ts rest
halt_deep ts rest h = record { front = h.front; parts = h.parts; starts = h.starts; ends = h.ends }

halt_of : (rule : ℕ) (ts rest : List Piece) → Refusal rule ts rest → Halt ts rest
halt_of rule ts rest h = ⊎_elim (λ expected. halt_stopped ts rest expected.1) (λ others. ⊎_elim (λ deep. halt_deep ts rest deep.1) (λ end. halt_stopped ts rest end.1) others) h

-- tokens with which nothing goes on aren't the start of more
goes_no_further : (u more : List Piece) (t : Piece) (rest : List Piece) → Ends (IsProgram 64) u (t ∷ rest) → Starts (IsProgram 64) (u ++ t ∷ more) → ⊥
goes_no_further u more t rest ends s = ends (more ++ s.more) s.value (subst (λ l. IsProgram 64 l s.value) (append_assoc u (t ∷ more) s.more) s.reads)

one_rest : (u f g x y : List Piece) → f ++ x ≡ g ++ y → Starts (IsProgram 64) (u ++ f) → Starts (IsProgram 64) (u ++ g) → Ends (IsProgram 64) (u ++ f) x → Ends (IsProgram 64) (u ++ g) y → x ≡ y
one_rest u [] [] x y e sf sg ef eg = e
one_rest u [] (t ∷ g) x y e sf sg ef eg = absurd (goes_no_further u g t (g ++ y) (subst (λ v. Ends (IsProgram 64) v (t ∷ g ++ y)) (append-nil u) (subst (λ r. Ends (IsProgram 64) (u ++ []) r) e ef)) sg)
one_rest u (t ∷ f) [] x y e sf sg ef eg = absurd (goes_no_further u f t (f ++ x) (subst (λ v. Ends (IsProgram 64) v (t ∷ f ++ x)) (append-nil u) (subst (λ r. Ends (IsProgram 64) (u ++ []) r) (sym e) eg)) sf)
one_rest u (t ∷ f) (s ∷ g) x y e sf sg ef eg =
    let head : t ≡ s = cc in
    let tail : f ++ x ≡ g ++ y = cc in
    let left : u ++ t ∷ f ≡ (u ++ t ∷ []) ++ f = sym (append_assoc u (t ∷ []) f) in
    let right : u ++ s ∷ g ≡ (u ++ t ∷ []) ++ g = ap (λ r. u ++ r ∷ g) (sym head) ∙ sym (append_assoc u (t ∷ []) g) in
    one_rest (u ++ t ∷ []) f g x y tail (subst (λ v. Starts (IsProgram 64) v) left sf) (subst (λ v. Starts (IsProgram 64) v) right sg)
    (subst (λ v. Ends (IsProgram 64) v x) left ef) (subst (λ v. Ends (IsProgram 64) v y) right eg)

one_halt : (ts x y : List Piece) → Halt ts x → Halt ts y → x ≡ y
one_halt ts x y h k = one_rest [] h.front k.front x y (sym h.parts ∙ k.parts) h.starts k.starts h.ends k.ends

-- ---- and by one rule

-- where nothing goes on, nothing goes on that nests deeper
no_deeper : (ts rest : List Piece) → Stopped ts rest → IsDeep IsProgram 64 ts rest → ⊥
no_deeper ts rest h d =
    let fronts : d.front ≡ h.front = append_cancel_right d.front h.front rest (sym d.parts ∙ h.parts) in
    let ends : Ends (IsProgram 65) d.front (d.opening ∷ d.behind) = subst (λ u. Ends (IsProgram 65) u (d.opening ∷ d.behind)) (sym fronts) (subst (λ r. Ends (IsProgram 65) h.front r) d.opens (h.ends 65)) in
    ends ((d.deeper).more) ((d.deeper).value) (subst (λ l. IsProgram 65 l (d.deeper).value) (append_assoc d.front (d.opening ∷ []) (d.deeper).more) (d.deeper).reads)

rules_same : (r s : ℕ) (ts x : List Piece) → Refusal r ts x → Refusal s ts x → r ≡ s
rules_same r s ts x h k = ⊎_elim
    (λ a. ⊎_elim (λ b. a.0 ∙ sym b.0) (λ others. ⊎_elim (λ b. absurd (no_deeper ts x a.1 b.1)) (λ b. absurd (a.2 b.2)) others) k)
    (λ more. ⊎_elim
    (λ a. ⊎_elim (λ b. absurd (no_deeper ts x b.1 a.1)) (λ others. ⊎_elim (λ b. a.0 ∙ sym b.0) (λ b. absurd (no_deeper ts x b.1 a.1)) others) k)
    (λ a. ⊎_elim (λ b. absurd (b.2 a.2)) (λ others. ⊎_elim (λ b. absurd (no_deeper ts x a.1 b.1)) (λ b. a.0 ∙ sym b.0) others) k)
    more)
    h

pub one_refusal : (r s : ℕ) (ts x y : List Piece) → Refusal r ts x → Refusal s ts y → (x ≡ y) × (r ≡ s)
one_refusal r s ts x y h k =
    let rests : y ≡ x = one_halt ts y x (halt_of s ts y k) (halt_of r ts x h) in
    (sym rests, rules_same r s ts x h (subst (λ l. Refusal s ts l) rests k))
