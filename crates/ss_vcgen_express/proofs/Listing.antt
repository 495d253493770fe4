-- Lists of choices and of formulas that grow with their bank.
use Rattle.std.proofs.Common.{◌≡◌, ℕ, ◌+◌, ◌<◌, List, [], ◌∷◌, ◌++◌, length, map, take, get_or, sym, ◌∙◌, ap, append_assoc, Result, Ok, Err}
use Rattle.std.specs.Prelude.{IfOk, flat_map}
use Rattle.std.proofs.lemmas.List.{take_more, map_push, flat_map_more, append-nil}
use Rattle.ss_logic.specs.Terms as tree
use Rattle.ss_logic.specs.Express as spec
use Rattle.ss_terms.specs.declared.forms.TermId.{TermId}
use Rattle.ss_terms.specs.Forms.{Forms, term_at, formula_at, HasTerm, IsGrown}
use Rattle.ss_terms.proofs.Grown.{IsGrown-then, HasFormula-grown}
use Rattle.ss_vcgen_express.specs.declared.meant.Choice.{Choice}
use Rattle.ss_vcgen_express.specs.Numbers.{choice_at, choices_at, HasChoice, HasChoices, IsTerm, IsChoice, AreChoices}
use Rattle.ss_vcgen_express.proofs.Grown.{HasChoice-grown, HasChoices-grown}

pub HasChoices-push : (c : Forms) (xs : List Choice) (x : Choice) → HasChoices c xs → HasChoice c x → HasChoices c (xs ++ x ∷ [])
HasChoices-push c [] x h at = (at, tt)
HasChoices-push c (y ∷ xs) x h at = (h.0, HasChoices-push c xs x h.1 at)

-- one more choice after those of before
pub choices_more : (before : Forms → List spec.Choice) (say : Forms → spec.Choice → spec.Choice) (a c : Forms) (cs : List Choice) (i : ℕ) (d : Choice) (made after : List Choice) (z : Choice) →
    IsGrown a c → i < length cs → after ≡ made ++ z ∷ [] → AreChoices a made (λ b. before b ++ map (say b) (choices_at b (take i cs))) → IsChoice c z (λ b. say b (choice_at b (get_or cs i d))) →
    AreChoices c after (λ b. before b ++ map (say b) (choices_at b (take (i + 1) cs)))
choices_more before say a c cs i d made after z g at e was is = record {
  has = rw e (HasChoices-push c made z (HasChoices-grown g made was.has) is.has);
  are = λ b k.
      ap (choices_at b) e
      ∙ map_push (choice_at b) made z
      ∙ ap (λ xs. xs ++ choice_at b z ∷ []) (was.are b (IsGrown-then a c b g k))
      ∙ ap (λ x. (before b ++ map (say b) (choices_at b (take i cs))) ++ x ∷ []) (is.is b k)
      ∙ append_assoc (before b) (map (say b) (choices_at b (take i cs))) (say b (choice_at b (get_or cs i d)) ∷ [])
      ∙ ap (λ xs. before b ++ xs) (sym (map_push (say b) (choices_at b (take i cs)) (choice_at b (get_or cs i d)))
      ∙ ap (map (say b)) (sym (map_push (choice_at b) (take i cs) (get_or cs i d)))
      ∙ ap (λ xs. map (say b) (choices_at b xs)) (sym (take_more cs i d at)));
}

-- some more choices, for one more of a list
pub choices_flat : (say : Forms → spec.Choice → List spec.Choice) (a c : Forms) (cs : List Choice) (i : ℕ) (d : Choice) (made after : List Choice) →
    IsGrown a c → i < length cs → AreChoices a made (λ b. flat_map (say b) (choices_at b (take i cs))) → AreChoices c after (λ b. choices_at b made ++ say b (choice_at b (get_or cs i d))) →
    AreChoices c after (λ b. flat_map (say b) (choices_at b (take (i + 1) cs)))
choices_flat say a c cs i d made after g at was is = record {
  has = is.has;
  are = λ b k.
      is.are b k
      ∙ ap (λ l. l ++ say b (choice_at b (get_or cs i d))) (was.are b (IsGrown-then a c b g k))
      ∙ flat_map_more (say b) [] (choices_at b (take i cs)) (choice_at b (get_or cs i d))
      ∙ ap (flat_map (say b)) (sym (map_push (choice_at b) (take i cs) (get_or cs i d)))
      ∙ ap (λ xs. flat_map (say b) (choices_at b xs)) (sym (take_more cs i d at));
}

-- two more choices after those of before
pub choices_two : (first second : Forms → spec.Choice) (a d c : Forms) (made after : List Choice) (x y : Choice) → IsGrown a d → IsGrown d c → after ≡ (made ++ x ∷ []) ++ y ∷ [] → HasChoices a made → IsChoice d x first → IsChoice c y second →
    AreChoices c after (λ b. choices_at b made ++ first b ∷ second b ∷ [])
choices_two first second a d c made after x y g h e there is other = record {
  has = rw e (HasChoices-push c (made ++ x ∷ []) y (HasChoices-push c made x (HasChoices-grown (IsGrown-then a d c g h) made there) (HasChoice-grown h x is.has)) other.has);
  are = λ b k.
      ap (choices_at b) e
      ∙ map_push (choice_at b) (made ++ x ∷ []) y
      ∙ ap (λ xs. xs ++ choice_at b y ∷ []) (map_push (choice_at b) made x)
      ∙ append_assoc (choices_at b made) (choice_at b x ∷ []) (choice_at b y ∷ [])
      ∙ ap (λ z. choices_at b made ++ z ∷ choice_at b y ∷ []) (is.is b (IsGrown-then d c b h k))
      ∙ ap (λ z. choices_at b made ++ first b ∷ z ∷ []) (other.is b k);
}

-- ---- a term that was made

-- it is this of what the bank had before, and so in each larger bank
pub is_term : {E : Type 0} (r : Result TermId E) (a c : Forms) (says : Forms → tree.Term) → IsGrown a c → ((b : Forms) → IsGrown a b → says b ≡ says a) →
    IfOk r (λ t. HasTerm c t × (term_at c t ≡ says a)) → IfOk r (λ t. IsTerm c t says)
is_term (Ok t) a c says g stays h = record { has = h.0; is = λ b k. k.same_terms t h.0 ∙ h.1 ∙ sym (stays b (IsGrown-then a c b g k)) }
is_term (Err z) a c says g stays h = tt

-- a choice with another value
pub choice_valued : (a c : Forms) (x : Choice) (t : TermId) (says : Forms → tree.Term) → IsGrown a c → HasChoice a x → IsTerm c t says →
    IsChoice c (record { condition = x.condition; value = t }) (λ b. spec.choice (formula_at b x.condition) (says b))
choice_valued a c x t says g h is = record { has = (HasFormula-grown a c g x.condition h.0, is.has); is = λ b k. ap (spec.choice (formula_at b x.condition)) (is.is b k) }

-- nothing is added yet
pub choices_none : (a : Forms) (made : List Choice) → HasChoices a made → AreChoices a made (λ b. choices_at b made ++ [])
choices_none a made h = record { has = h; are = λ b k. sym (append-nil (choices_at b made)) }
