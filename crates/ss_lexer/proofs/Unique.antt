-- A source is read as one answer at most.
use Rattle.std.proofs.Common.{ℕ, ◌≡◌, Bool, true, false, ◌⊎◌, inl, inr, ⊎_elim, List, [], ◌∷◌, ◌++◌, length, take, Some, Result, Ok, Err, refl, sym, ap, subst, ◌∙◌}
use Rattle.std.specs.Prelude.{nat_lt, IsSome, is_some, MatchBool}
use Rattle.std.specs.declared.alloc.Global.{Global}
use Rattle.std.specs.declared.vec.Vec.{Vec}
use Rattle.std.proofs.lemmas.List.{append-nil}
use Rattle.ss_core.specs.declared.names.Place.{Place}
use Rattle.ss_core.specs.declared.names.FrontStop.{FrontStop}
use Rattle.ss_core.specs.declared.names.FrontStop.TheVariants as stop
use Rattle.ss_ast.specs.declared.token.Token.{Token}
use Rattle.ss_ast.specs.Tokens.{Kind, AnEnd, toks}
use Rattle.ss_lexer.specs.declared.pieces.Form.{Form}
use Rattle.ss_lexer.specs.Pieces.{form_of, IsFirst, Meaning, Nothing, Means, Breaks, after_sign, meaning, too_long}
use Rattle.ss_lexer.specs.Reading.{Answer, with_token, Reads, at_end, between, token, fault, start, place_after, without_mark, most_bytes, IsReadAs, Answers, IsAnswer}

-- ---- the piece at the front

-- of two fronts of a list one begins the other
data Beside (a b c d : List ℕ) : Type 0 where
  shorter : (x : List ℕ) → c ≡ a ++ x → b ≡ x ++ d → Beside a b c d
  longer : (x : List ℕ) → a ≡ c ++ x → d ≡ x ++ b → Beside a b c d

tail_same : (x y : ℕ) (xs ys : List ℕ) → x ∷ xs ≡ y ∷ ys → (x ≡ y) × (xs ≡ ys)
tail_same x y xs ys e = (cc, cc)

more_beside : (x y : ℕ) (a b c d : List ℕ) → x ≡ y → Beside a b c d → Beside (x ∷ a) b (y ∷ c) d
more_beside x y a b c d e (shorter z f g) = shorter z (let h : y ∷ c ≡ x ∷ (a ++ z) = cc in h) g
more_beside x y a b c d e (longer z f g) = longer z (let h : x ∷ a ≡ y ∷ (c ++ z) = cc in h) g

beside : (a b c d : List ℕ) → a ++ b ≡ c ++ d → Beside a b c d
beside [] b c d e = shorter c refl e
beside (x ∷ a) b [] d e = longer (x ∷ a) refl (sym e)
beside (x ∷ a) b (y ∷ c) d e = let s = tail_same x y (a ++ b) (c ++ d) e in more_beside x y a b c d s.0 (beside a b c d s.1)

is_piece : (f : Form) (text : List ℕ) → form_of text ≡ Some f → IsSome (form_of text)
is_piece f text e = ap is_some e

record Same (f g : Form) (text other rest after : List ℕ) : Type 0 where
  forms : f ≡ g
  texts : text ≡ other
  rests : rest ≡ after

same_by : (f g : Form) (text other rest after : List ℕ) → form_of text ≡ Some f → form_of other ≡ Some g → text ≡ other → rest ≡ after → Same f g text other rest after
same_by f g text other rest after e h t r = record { forms = (let two : Some f ≡ Some g = sym e ∙ ap form_of t ∙ h in cc); texts = t; rests = r }

same_first : (source : List ℕ) (f g : Form) (text other rest after : List ℕ) → IsFirst source f text rest → IsFirst source g other after → Same f g text other rest after
same_first source f g text other rest after a b = by (beside text rest other after (sym a.parts ∙ b.parts))
  where
    by : Beside text rest other after → Same f g text other rest after
    by (shorter x e h) =
        let none : x ≡ [] = a.longest x after h (subst (λ l. IsSome (form_of l)) e (is_piece g other b.piece)) in
        same_by f g text other rest after a.piece b.piece (sym (append-nil text) ∙ ap (λ l. text ++ l) (sym none) ∙ sym e) (h ∙ ap (λ l. l ++ after) none)
    by (longer x e h) =
        let none : x ≡ [] = b.longest x rest h (subst (λ l. IsSome (form_of l)) e (is_piece f text a.piece)) in
        same_by f g text other rest after a.piece b.piece (e ∙ ap (λ l. other ++ l) none ∙ append-nil other) (sym (h ∙ ap (λ l. l ++ rest) none))

-- nothing stands at the front of an empty source
no_first : (f : Form) (text rest : List ℕ) → IsFirst [] f text rest → ⊥
unfolding form_of
no_first f text rest a = by text rest a.parts a.piece
  where
    by : (text rest : List ℕ) → [] ≡ text ++ rest → form_of text ≡ Some f → ⊥
    by [] rest e h = cc
    by (c ∷ cs) rest e h = cc

-- ---- a reading, by the piece at the front

abbrev After : Meaning → Place → List Kind → List ℕ → List ℕ → Answer → Type 0
After Nothing p before text rest a = Reads (place_after p text) before rest a
After (Means k) p before text rest a = (b : Answer) × Reads (place_after p text) (k ∷ before) rest b × (a ≡ with_token (record { kind = k; place = p }) b)
After (Breaks rule n) p before text rest a = a ≡ Err (rule, place_after p (take n text))

record Stepped (p : Place) (before : List Kind) (source : List ℕ) (a : Answer) : Type 0 where
  form : Form
  text : List ℕ
  rest : List ℕ
  first : IsFirst source form text rest
  after : After (meaning (after_sign before) form text) p before text rest a

abbrev Ended : Place → List ℕ → Answer → Type 0
Ended p source a = (source ≡ []) × (a ≡ Ok (record { kind = AnEnd; place = p } ∷ []))

parts_of : {p : Place} {before : List Kind} {source : List ℕ} {a : Answer} → Reads p before source a → Ended p source a ⊎ Stepped p before source a
parts_of at_end = inl (refl, refl)
parts_of {p} {before} {source} {a} (between f text rest first m r) = inr (record { form = f; text = text; rest = rest; first = first; after = subst (λ x. After x p before text rest a) (sym m) r })
parts_of {p} {before} {source} (token {a = b} f text rest k first m r) = inr (record { form = f; text = text; rest = rest; first = first; after = subst (λ x. After x p before text rest (with_token (record { kind = k; place = p }) b)) (sym m) (b, r, refl) })
parts_of {p} {before} {source} (fault f text rest rule n first m) = inr (record { form = f; text = text; rest = rest; first = first; after = subst (λ x. After x p before text rest (Err (rule, place_after p (take n text)))) (sym m) refl })

-- what a second reading says at the piece of the first
moved : (p : Place) (before : List Kind) (source : List ℕ) (b : Answer) (f : Form) (text rest : List ℕ) (m : Meaning) → IsFirst source f text rest → meaning (after_sign before) f text ≡ m → Reads p before source b → After m p before text rest b
moved p before source b f text rest m first e r =
    ⊎_elim
    (λ ended. absurd (no_first f text rest (subst (λ s. IsFirst s f text rest) ended.0 first)))
    (λ s.
    let same = same_first source f s.form text s.text rest s.rest first s.first in
    let here : After (meaning (after_sign before) f text) p before text rest b =
    subst (λ x. After (meaning (after_sign before) f text) p before text x b) (sym same.rests)
    (subst (λ x. After (meaning (after_sign before) f x) p before x s.rest b) (sym same.texts)
    (subst (λ x. After (meaning (after_sign before) x s.text) p before s.text s.rest b) (sym same.forms) s.after)) in
    subst (λ x. After x p before text rest b) e here)
    (parts_of r)

pub one_reading : {p : Place} {before : List Kind} {source : List ℕ} {a : Answer} → Reads p before source a → (b : Answer) → Reads p before source b → a ≡ b
one_reading {p} {before} at_end b r =
    ⊎_elim (λ ended. sym ended.1) (λ s. absurd (no_first s.form s.text s.rest s.first)) (parts_of r)
one_reading {p} {before} {source} (between f text rest first m x) b r = one_reading x b (moved p before source b f text rest Nothing first m r)
one_reading {p} {before} {source} (token f text rest k first m x) b r =
    let other = moved p before source b f text rest (Means k) first m r in
    ap (with_token (record { kind = k; place = p })) (one_reading x other.0 other.1) ∙ sym other.2
one_reading {p} {before} {source} (fault f text rest rule n first m) b r = sym (moved p before source b f text rest (Breaks rule n) first m r)

pub one_answer : (bytes : List ℕ) (a b : Answer) → IsReadAs bytes a → IsReadAs bytes b → a ≡ b
one_answer bytes a b x y = by (nat_lt most_bytes (length bytes)) x y
  where
    by : (long : Bool) → MatchBool long (a ≡ Err (too_long, start)) (Reads start [] (without_mark bytes) a) → MatchBool long (b ≡ Err (too_long, start)) (Reads start [] (without_mark bytes) b) → a ≡ b
    by true x y = x ∙ sym y
    by false x y = one_reading x b y

-- so what was answered is the only answer
pub only_answer : (bytes : List ℕ) (r : Result (Vec Token Global) FrontStop) → Answers bytes r → (a : Answer) → IsReadAs bytes a → IsAnswer a r
only_answer bytes (Ok ts) h a x = one_answer bytes a (Ok (toks ts.items)) x h
only_answer bytes (Err (stop.Refused rule p)) h a x = one_answer bytes a (Err (rule, p)) x h
only_answer bytes (Err stop.Memory) h a x = tt
