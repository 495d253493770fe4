-- Whatever a rule says of a good store is true, and an obligation may have it among its premises.
use Rattle.std.proofs.Common.{◌≡◌, ℕ, zero, suc, List, [], ◌∷◌, ◌++◌, Some, subst}
use Rattle.std.specs.Prelude.{slice_get}
use Rattle.ss_core.specs.Tree.{ClassTree}
use Rattle.ss_core.specs.Chain.{IsChain, NoAlso}
use Rattle.ss_logic.specs.Values.{Structure}
use Rattle.ss_logic.specs.Terms.{Term}
use Rattle.ss_logic.specs.Formulas.{Good, Formula, True, Hold, IsValid, atom}
use Rattle.ss_logic.proofs.Goods.{good_instance_true}
use Rattle.ss_logic.proofs.Sentences.{Hold-append}
use Rattle.ss_logic_means.specs.Scenes.{AreInvariants}
use Rattle.ss_logic_means.specs.Sentences.{IsOfGood, Instance, OfInvariants, AllFollowFromGood}
use Rattle.ss_logic_means.proofs.Invariants.{invariants_true}

pub sentence_true : (cs : List ClassTree) → IsChain cs → NoAlso cs → AreInvariants cs → (m : Structure) (s : Term) (f : Formula) → IsOfGood cs s f → True cs m [] (atom Good (s ∷ [])) → True cs m [] f
sentence_true cs chain beside are m s f (Instance name ts is) good = good_instance_true cs beside m name s ts f is good
sentence_true cs chain beside are m s f (OfInvariants ts is) good = invariants_true cs chain beside are m s f ts is good

hold_at : (cs : List ClassTree) (m : Structure) (fs : List Formula) (k : ℕ) (f : Formula) → Hold cs m fs → slice_get fs k ≡ Some f → True cs m [] f
hold_at cs m [] k f h e = absurd (let no : ⊥ = cc in no)
hold_at cs m (g ∷ fs) zero f h e = let same : g ≡ f = cc in subst (λ x. True cs m [] x) same h.0
hold_at cs m (g ∷ fs) (suc k) f h e = hold_at cs m fs k f h.1 e

all_follow : (cs : List ClassTree) → IsChain cs → NoAlso cs → AreInvariants cs → (m : Structure) (premises fs : List Formula) → Hold cs m premises → AllFollowFromGood cs premises fs → Hold cs m fs
all_follow cs chain beside are m premises [] h a = tt
all_follow cs chain beside are m premises (f ∷ fs) h a =
    (sentence_true cs chain beside are m a.0.store f a.0.sentence (hold_at cs m premises a.0.place (atom Good (a.0.store ∷ [])) h a.0.is_good), all_follow cs chain beside are m premises fs h a.1)

pub valid_without : (cs : List ClassTree) → IsChain cs → NoAlso cs → AreInvariants cs → (premises fs : List Formula) (goal : Formula) → AllFollowFromGood cs premises fs → IsValid cs (premises ++ fs) goal → IsValid cs premises goal
valid_without cs chain beside are premises fs goal a valid m h = valid m (Hold-append cs m premises fs h (all_follow cs chain beside are m premises fs h a))
