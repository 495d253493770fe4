-- Lists of terms, of names and of conditions that grow with their bank.
use Rattle.std.proofs.Common.{◌≡◌, ℕ, ◌+◌, ◌<◌, refl, List, [], ◌∷◌, ◌++◌, length, map, take, get_or, sym, ◌∙◌, ap, append_assoc}
use Rattle.std.specs.Prelude.{flat_map}
use Rattle.std.proofs.lemmas.List.{take_more, map_push, flat_map_more}
use Rattle.ss_core.specs.declared.body.Local.{Local}
use Rattle.ss_core.specs.declared.names.Ty.{Ty}
use Rattle.ss_core.specs.View.{local_of}
use Rattle.ss_store_rules.specs.Locals.{types_of}
use Rattle.ss_logic.specs.Terms.{Term, sort_of_type}
use Rattle.ss_logic.specs.Formulas.{Formula}
use Rattle.ss_logic.specs.Express as spec
use Rattle.ss_logic.specs.Express.{One, Meant, default_of_sort}
use Rattle.ss_logic.specs.Frames as logic
use Rattle.ss_terms.specs.declared.forms.TermId.{TermId}
use Rattle.ss_terms.specs.declared.forms.FormulaId.{FormulaId}
use Rattle.ss_terms.specs.Forms.{Forms, formula_at, formulas_at, HasTerms, IsGrown}
use Rattle.ss_terms.proofs.Grown.{IsGrown-then, HasTerms-grown, HasFormulas-grown}
use Rattle.ss_frames.specs.declared.calls.NamedTerm.{NamedTerm}
use Rattle.ss_frames.specs.Calls.{named_at, HasNamed, HasAllNamed}
use Rattle.ss_frames.proofs.Growing.{HasNamed-grown}
use Rattle.ss_vcgen_express.specs.declared.meant.Choice.{Choice}
use Rattle.ss_vcgen_express.specs.Numbers.{choice_at, choices_at, IsTerm, IsFormula, AreFormulas}
use Rattle.ss_vcgen_express.specs.Contexts.{local_at}
use Rattle.ss_terms.proofs.Longer.{HasFormulas-push, HasTerms-push, HasTerms-append}
use Rattle.ss_vcgen_heaps.specs.Contracts.{defaults_meant}
use Rattle.ss_vcgen_contracts.specs.Views.{ones_at, AreOnes, IsName, AreNames}

-- ---- terms

map_append : {X Y : Type 0} (f : X → Y) (xs ys : List X) → map f (xs ++ ys) ≡ map f xs ++ map f ys
map_append f [] ys = refl
map_append f (x ∷ xs) ys = ap (λ zs. f x ∷ zs) (map_append f xs ys)

-- one more term
pub ones_push : (a c : Forms) (ts after : List TermId) (t : TermId) (says : Forms → Term) → IsGrown a c → HasTerms a ts → after ≡ ts ++ t ∷ [] → IsTerm c t says → AreOnes c after (λ b. ones_at b ts ++ One (says b) ∷ [])
ones_push a c ts after t says g h e is = record {
  has = rw e (HasTerms-push c ts t (HasTerms-grown a c g ts h) is.has);
  are = λ b k. ap (ones_at b) e ∙ map_push (local_at b) ts t ∙ ap (λ x. ones_at b ts ++ One x ∷ []) (is.is b k);
}

defaults_next : (ls : List Local) (i : ℕ) (d : Local) → i < length ls → defaults_meant (types_of (map local_of (take i ls))) ++ One (default_of_sort (sort_of_type (local_of (get_or ls i d)).ty)) ∷ [] ≡ defaults_meant (types_of (map local_of (take (i + 1) ls)))
defaults_next ls i d at =
    let x = get_or ls i d in
    sym (map_push (λ t. One (default_of_sort (sort_of_type t))) (types_of (map local_of (take i ls))) (local_of x).ty)
    ∙ ap defaults_meant (sym (map_push (λ l. l.ty) (map local_of (take i ls)) (local_of x)))
    ∙ ap (λ l. defaults_meant (types_of l)) (sym (map_push local_of (take i ls) x))
    ∙ ap (λ l. defaults_meant (types_of (map local_of l))) (sym (take_more ls i d at))

-- the default of one more local
pub ones_next : (before : Forms → List Meant) (a c : Forms) (ls : List Local) (i : ℕ) (d : Local) (t : Ty) (made after : List TermId) → IsGrown a c → i < length ls → t ≡ (local_of (get_or ls i d)).ty →
    AreOnes a made (λ b. before b ++ defaults_meant (types_of (map local_of (take i ls)))) → AreOnes c after (λ b. ones_at b made ++ defaults_meant (t ∷ [])) →
    AreOnes c after (λ b. before b ++ defaults_meant (types_of (map local_of (take (i + 1) ls))))
ones_next before a c ls i d t made after g at e was is = record {
  has = is.has;
  are = λ b k.
      is.are b k
      ∙ ap (λ l. l ++ defaults_meant (t ∷ [])) (was.are b (IsGrown-then a c b g k))
      ∙ append_assoc (before b) (defaults_meant (types_of (map local_of (take i ls)))) (defaults_meant (t ∷ []))
      ∙ ap (λ u. before b ++ (defaults_meant (types_of (map local_of (take i ls))) ++ One (default_of_sort (sort_of_type u)) ∷ [])) e
      ∙ ap (λ l. before b ++ l) (defaults_next ls i d at);
}

-- arguments, defaults and results
pub ones_join : (a c : Forms) (arguments first mid results after : List TermId) (ds : List Meant) → IsGrown a c → first ≡ arguments → HasTerms a results → AreOnes c mid (λ b. ones_at b first ++ ds) → after ≡ mid ++ results →
    AreOnes c after (λ b. ones_at b arguments ++ ds ++ ones_at b results)
ones_join a c arguments first mid results after ds g f h is e = record {
  has = rw e (HasTerms-append c mid results is.has (HasTerms-grown a c g results h));
  are = λ b k.
      ap (ones_at b) e
      ∙ map_append (local_at b) mid results
      ∙ ap (λ l. l ++ ones_at b results) (is.are b k)
      ∙ ap (λ l. ones_at b l ++ ds ++ ones_at b results) f;
}

-- ---- formulas

-- one more formula, for one more of a list
pub formulas_next : {T U V : Type 0} (view : T → U) (seen : U → V) (say : Forms → V → Formula) (a c : Forms) (xs : List T) (i : ℕ) (d : T) (made after : List FormulaId) (f : FormulaId) → IsGrown a c → i < length xs →
    after ≡ made ++ f ∷ [] → AreFormulas a made (λ b. map (say b) (map seen (map view (take i xs)))) → IsFormula c f (λ b. say b (seen (view (get_or xs i d)))) →
    AreFormulas c after (λ b. map (say b) (map seen (map view (take (i + 1) xs))))
formulas_next view seen say a c xs i d made after f g at e before is = record {
  has = rw e (HasFormulas-push c made f (HasFormulas-grown a c g made before.has) is.has);
  are = λ b k.
      ap (formulas_at b) e
      ∙ map_push (formula_at b) made f
      ∙ ap (λ fs. fs ++ formula_at b f ∷ []) (before.are b (IsGrown-then a c b g k))
      ∙ ap (λ x. map (say b) (map seen (map view (take i xs))) ++ x ∷ []) (is.is b k)
      ∙ sym (map_push (say b) (map seen (map view (take i xs))) (seen (view (get_or xs i d))))
      ∙ ap (map (say b)) (sym (map_push seen (map view (take i xs)) (view (get_or xs i d))))
      ∙ ap (λ l. map (say b) (map seen l)) (sym (map_push view (take i xs) (get_or xs i d)))
      ∙ ap (λ l. map (say b) (map seen (map view l))) (sym (take_more xs i d at));
}

-- ---- names

pub HasAllNamed-grown : (a b : Forms) → IsGrown a b → (ns : List NamedTerm) → HasAllNamed a ns → HasAllNamed b ns
HasAllNamed-grown a b g [] h = tt
HasAllNamed-grown a b g (n ∷ ns) h = (HasNamed-grown a b g n h.0, HasAllNamed-grown a b g ns h.1)

HasAllNamed-push : (c : Forms) (ns : List NamedTerm) (n : NamedTerm) → HasAllNamed c ns → HasNamed c n → HasAllNamed c (ns ++ n ∷ [])
HasAllNamed-push c [] n h at = (at, tt)
HasAllNamed-push c (m ∷ ns) n h at = (h.0, HasAllNamed-push c ns n h.1 at)

-- one more name
pub names_push : (a c : Forms) (ns after : List NamedTerm) (n : NamedTerm) (says : Forms → logic.NamedTerm) → IsGrown a c → HasAllNamed a ns → after ≡ ns ++ n ∷ [] → IsName c n says → AreNames c after (λ b. map (named_at b) ns ++ says b ∷ [])
names_push a c ns after n says g h e is = record {
  has = rw e (HasAllNamed-push c ns n (HasAllNamed-grown a c g ns h) is.has);
  are = λ b k. ap (map (named_at b)) e ∙ map_push (named_at b) ns n ∙ ap (λ x. map (named_at b) ns ++ x ∷ []) (is.is b k);
}

-- one more name, for one more choice
pub names_next : (before : Forms → List logic.NamedTerm) (say : Forms → spec.Choice → logic.NamedTerm) (a c : Forms) (cs : List Choice) (i : ℕ) (d : Choice) (made after : List NamedTerm) (n : NamedTerm) → IsGrown a c → i < length cs →
    after ≡ made ++ n ∷ [] → AreNames a made (λ b. before b ++ map (say b) (choices_at b (take i cs))) → IsName c n (λ b. say b (choice_at b (get_or cs i d))) →
    AreNames c after (λ b. before b ++ map (say b) (choices_at b (take (i + 1) cs)))
names_next before say a c cs i d made after n g at e was is =
    let pushed = names_push a c made after n (λ b. say b (choice_at b (get_or cs i d))) g was.has e is in
    record {
      has = pushed.has;
      are = λ b k.
          pushed.are b k
          ∙ ap (λ l. l ++ say b (choice_at b (get_or cs i d)) ∷ []) (was.are b (IsGrown-then a c b g k))
          ∙ append_assoc (before b) (map (say b) (choices_at b (take i cs))) (say b (choice_at b (get_or cs i d)) ∷ [])
          ∙ ap (λ xs. before b ++ xs) (sym (map_push (say b) (choices_at b (take i cs)) (choice_at b (get_or cs i d)))
          ∙ ap (map (say b)) (sym (map_push (choice_at b) (take i cs) (get_or cs i d)))
          ∙ ap (λ xs. map (say b) (choices_at b xs)) (sym (take_more cs i d at)));
    }

-- some more names, for one more of a list
pub names_flat : {T U V : Type 0} (view : T → U) (seen : U → V) (say : Forms → V → List logic.NamedTerm) (a c : Forms) (xs : List T) (i : ℕ) (d : T) (made after : List NamedTerm) → IsGrown a c → i < length xs →
    AreNames a made (λ b. flat_map (say b) (map seen (map view (take i xs)))) → AreNames c after (λ b. map (named_at b) made ++ say b (seen (view (get_or xs i d)))) →
    AreNames c after (λ b. flat_map (say b) (map seen (map view (take (i + 1) xs))))
names_flat view seen say a c xs i d made after g at was is = record {
  has = is.has;
  are = λ b k.
      is.are b k
      ∙ ap (λ l. l ++ say b (seen (view (get_or xs i d)))) (was.are b (IsGrown-then a c b g k))
      ∙ flat_map_more (say b) [] (map seen (map view (take i xs))) (seen (view (get_or xs i d)))
      ∙ ap (flat_map (say b)) (sym (map_push seen (map view (take i xs)) (view (get_or xs i d))))
      ∙ ap (λ l. flat_map (say b) (map seen l)) (sym (map_push view (take i xs) (get_or xs i d)))
      ∙ ap (λ l. flat_map (say b) (map seen (map view l))) (sym (take_more xs i d at));
}
