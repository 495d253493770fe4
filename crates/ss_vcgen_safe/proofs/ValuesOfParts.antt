-- Parts of an expression that has a value are true, and parts of a typed expression are well formed.
use Rattle.std.proofs.Common.{◌≡◌, ℕ, List, [], ◌∷◌, length, Bool, true, Ok, Err, refl, subst}
use Rattle.std.specs.Prelude.{is_some}
use Rattle.ss_core.specs.Tree.{ClassTree, ExprTree}
use Rattle.ss_store_rules.specs.declared.Value.{Value as ObjectValue}
use Rattle.ss_store_rules.specs.Numbers.{Outcome}
use Rattle.ss_store_rules.specs.Locals.{reads_only}
use Rattle.ss_store_rules.specs.NonNull.{Known, Site}
use Rattle.ss_store_rules.specs.Types.{type_of}
use Rattle.ss_store_rules.specs.Values as run
use Rattle.ss_machine_typed.specs.Settings.{IsGoodSetting}
use Rattle.ss_logic.specs.declared.Sort.{Sort}
use Rattle.ss_logic.specs.Values.{Heap, Value, Structure}
use Rattle.ss_logic.specs.Formulas.{Formula, True, AllTrue, formulas_from, is_well_formed}
use Rattle.ss_logic.specs.Express.{Meant, Context, meant, defined}
use Rattle.ss_logic_means.specs.Means.{standing}
use Rattle.ss_logic_means.specs.Scenes.{setting_of, StandsAmong, has_no_default}
use Rattle.ss_logic_means.specs.Sorts.{AreWellFormed, IsSortedAmong}
use Rattle.ss_logic_means.proofs.Denoting.{D, R, All}
use Rattle.ss_logic_means.proofs.Everywhere.{plainly_from}
use Rattle.ss_logic_means.proofs.Translating.{translated}
use Rattle.ss_logic_means.proofs.Expressed.{expressed}
use Rattle.ss_vcgen_heaps.specs.Parts.{parts}
use Rattle.ss_vcgen_safe.specs.Reading.{formulas_of}
use Rattle.ss_vcgen_safe.proofs.Among.{Each, parts_among}

-- ---- lists of formulas

pub each_formed : (cs : List ClassTree) (bound : List Sort) (fs : List Formula) → AreWellFormed cs bound fs → Each (λ f. is_well_formed cs bound f ≡ true) fs
each_formed cs bound [] a = tt
each_formed cs bound (f ∷ fs) a = (a.0, each_formed cs bound fs a.1)

pub formed_each : (cs : List ClassTree) (bound : List Sort) (fs : List Formula) → Each (λ f. is_well_formed cs bound f ≡ true) fs → AreWellFormed cs bound fs
formed_each cs bound [] a = tt
formed_each cs bound (f ∷ fs) a = (a.0, formed_each cs bound fs a.1)

module _ (cs : List ClassTree) (m : Structure) (e : List Value) where
  pub each_true : (fs : List Formula) → All cs m e fs → Each (λ f. True cs m e f) fs
  each_true [] a = tt
  each_true (f ∷ fs) a = (a.0, each_true fs a.1)

  pub true_each : (fs : List Formula) → Each (λ f. True cs m e f) fs → All cs m e fs
  true_each [] a = tt
  true_each (f ∷ fs) a = (a.0, true_each fs a.1)

  -- the parts of an outcome that is a value are true
  pub all_of_value : (ps : List Formula) (x : Meant) (r : Outcome) (u : ObjectValue) → r ≡ Ok u → R cs m e ps x r → All cs m e ps
  all_of_value ps x r u is h = let read = subst (λ o. R cs m e ps x o) is h in read.0

  -- where all parts are true there is a value, and that is what is meant
  pub value_of_all : (ps : List Formula) (x : Meant) (r : Outcome) → R cs m e ps x r → All cs m e ps → (u : ObjectValue) × (r ≡ Ok u) × D cs m e x (standing u)
  value_of_all ps x (Ok u) h a = (u, refl, h.1)
  value_of_all ps x (Err u) h a = absurd (h a)

-- ---- expressions

pub parts_formed : (among : ℕ → Bool) (x : ExprTree) (c : Context) (bound : List Sort) → IsSortedAmong among c bound → length bound ≡ c.bound → reads_only among x ≡ true → has_no_default x ≡ true → is_some (type_of c.classes c.types x) ≡ true → (s : Site) (k : Known) →
    AreWellFormed c.classes bound (formulas_of (parts x s k c))
parts_formed among x c bound st at reads none is s k =
    let whole = expressed among x c bound st (plainly_from among x reads none) is (λ _. at) in
    formed_each c.classes bound (formulas_of (parts x s k c)) (parts_among s x k c (λ f. is_well_formed c.classes bound f ≡ true) (each_formed c.classes bound (defined x c) whole.0))

pub parts_true : (among : ℕ → Bool) (m : Structure) (now entry : Heap) (x : ExprTree) (c : Context) (locals : List ObjectValue) (constructs : Bool) → IsGoodSetting (setting_of m c now entry locals) c.types constructs → (e : List Value) → StandsAmong among m c now entry locals e →
    length e ≡ c.bound → reads_only among x ≡ true → has_no_default x ≡ true → is_some (type_of c.classes c.types x) ≡ true → (s : Site) (k : Known) (v : ObjectValue) → run.value_of x (setting_of m c now entry locals) ≡ Ok v →
    AllTrue c.classes m e (formulas_from (formulas_of (parts x s k c)))
parts_true among m now entry x c locals constructs good e st at reads none is s k v has =
    let whole = translated among m now entry x c locals constructs good e st (plainly_from among x reads none) is (λ _. at) in
    true_each c.classes m e (formulas_of (parts x s k c))
    (parts_among s x k c (λ f. True c.classes m e f) (each_true c.classes m e (defined x c) (all_of_value c.classes m e (defined x c) (meant x c) (run.value_of x (setting_of m c now entry locals)) v has whole)))
