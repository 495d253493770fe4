-- Captured arguments and owned pairs, by what their numbers stand for.
use Rattle.std.proofs.Common.{◌≡◌, ℕ, zero, suc, ◌+◌, ◌-◌, ◌<◌, ◌≤◌, Bool, true, false, List, [], ◌∷◌, ◌++◌, map, drop, length, get_or, Some, None, refl, sym, ap, ◌∙◌, append_assoc}
use Rattle.std.specs.Prelude.{if◌then◌else◌, flat_map}
use Rattle.std.proofs.lemmas.List.{drop_more, append-nil}
use Rattle.ss_core.specs.declared.names.ClassId.{ClassId}
use Rattle.ss_core.specs.declared.body.Local.{Local}
use Rattle.ss_core.specs.Tree.{ClassTree, LocalTree, BodyTree}
use Rattle.ss_core.specs.Chain.{level_above, levels_from, levels}
use Rattle.ss_core.specs.View as view
use Rattle.ss_logic.specs.Terms.{Term}
use Rattle.ss_logic.specs.Express.{Meant, One, Context, local_meant}
use Rattle.ss_terms.specs.declared.forms.TermId.{TermId}
use Rattle.ss_terms.specs.Forms.{Forms, term_at, terms_at, HasTerm, HasTerms}
use Rattle.ss_frames.specs.Calls.{owner_at, HasOwned}
use Rattle.ss_vcgen_defaults.proofs.Upwards.{level_last, level_next, levels_all}
use Rattle.ss_vcgen_heaps.specs.Contracts as heaps
use Rattle.ss_vcgen_contracts.specs.Owned.{captured_among, pairs_for, owned_for}
use Rattle.ss_vcgen_contracts.specs.Views.{ones_at}

-- ---- captured arguments, one after the other

-- what stands after the first i parameters
abbrev pub captured_after : List Local → List TermId → ℕ → List TermId
captured_after params ts i = captured_among (map view.local_of (drop i params)) (drop i ts)

abbrev captured_if : Bool → TermId → List TermId → List TermId
captured_if taken t ts = if taken then t ∷ ts else ts

after_at : (params : List Local) (ts : List TermId) (i : ℕ) (p : Local) (t : TermId) → i < length params → i < length ts → captured_after params ts i ≡ captured_if (get_or params i p).captured (get_or ts i t) (captured_after params ts (i + 1))
after_at params ts i p t l m = ap (λ ps. captured_among (map view.local_of ps) (drop i ts)) (drop_more params i p l) ∙ ap (captured_among (map view.local_of (get_or params i p ∷ drop (i + 1) params))) (drop_more ts i t m)

pub captured_more : (params : List Local) (ts : List TermId) (i : ℕ) (p : Local) (t : TermId) (before whole : List TermId) → i < length params → i < length ts → (get_or params i p).captured ≡ true → before ++ captured_after params ts i ≡ whole →
    (before ++ get_or ts i t ∷ []) ++ captured_after params ts (i + 1) ≡ whole
captured_more params ts i p t before whole l m marked is =
    append_assoc before (get_or ts i t ∷ []) (captured_after params ts (i + 1))
    ∙ ap (λ b. before ++ captured_if b (get_or ts i t) (captured_after params ts (i + 1))) (sym marked)
    ∙ ap (λ r. before ++ r) (sym (after_at params ts i p t l m))
    ∙ is

pub captured_same : (params : List Local) (ts : List TermId) (i : ℕ) (p : Local) (t : TermId) (before whole : List TermId) → i < length params → i < length ts → (get_or params i p).captured ≡ false → before ++ captured_after params ts i ≡ whole →
    before ++ captured_after params ts (i + 1) ≡ whole
captured_same params ts i p t before whole l m unmarked is =
    ap (λ b. before ++ captured_if b (get_or ts i t) (captured_after params ts (i + 1))) (sym unmarked)
    ∙ ap (λ r. before ++ r) (sym (after_at params ts i p t l m))
    ∙ is

-- ---- and what they stand for

same_if : (b : Forms) (taken : Bool) (t : TermId) (ts : List TermId) (us : List Term) → terms_at b ts ≡ us → terms_at b (captured_if taken t ts) ≡ (if taken then term_at b t ∷ us else us)
same_if b true t ts us e = ap (λ xs. term_at b t ∷ xs) e
same_if b false t ts us e = e

pub captured_at : (b : Forms) (ps : List LocalTree) (ts : List TermId) → terms_at b (captured_among ps ts) ≡ heaps.captured_terms ps (ones_at b ts)
captured_at b [] ts = refl
captured_at b (p ∷ ps) [] = refl
captured_at b (p ∷ ps) (t ∷ ts) = same_if b p.captured t (captured_among ps ts) (heaps.captured_terms ps (ones_at b ts)) (captured_at b ps ts)

pub ones_after : (b : Forms) (n : ℕ) (ts : List TermId) → ones_at b (drop n ts) ≡ drop n (ones_at b ts)
ones_after b zero ts = refl
ones_after b (suc n) [] = refl
ones_after b (suc n) (t ∷ ts) = ones_after b n ts

has_after : (b : Forms) (n : ℕ) (ts : List TermId) → HasTerms b ts → HasTerms b (drop n ts)
has_after b zero ts h = h
has_after b (suc n) [] h = tt
has_after b (suc n) (t ∷ ts) h = has_after b n ts h.1

has_if : (b : Forms) (taken : Bool) (t : TermId) (ts : List TermId) → HasTerm b t → HasTerms b ts → HasTerms b (captured_if taken t ts)
has_if b true t ts h k = (h, k)
has_if b false t ts h k = k

has_captured : (b : Forms) (ps : List LocalTree) (ts : List TermId) → HasTerms b ts → HasTerms b (captured_among ps ts)
has_captured b [] ts h = tt
has_captured b (p ∷ ps) [] h = tt
has_captured b (p ∷ ps) (t ∷ ts) h = has_if b p.captured t (captured_among ps ts) h.0 (has_captured b ps ts h.1)

pub has_captured_after : (b : Forms) (n : ℕ) (ps : List LocalTree) (ts : List TermId) → HasTerms b ts → HasTerms b (captured_among ps (drop n ts))
has_captured_after b n ps ts h = has_captured b ps (drop n ts) (has_after b n ts h)

pub captured_of_body : (b : Forms) (n : ℕ) (ps : List LocalTree) (ts : List TermId) → terms_at b (captured_among ps (drop n ts)) ≡ heaps.captured_terms ps (drop n (ones_at b ts))
captured_of_body b n ps ts = captured_at b ps (drop n ts) ∙ ap (heaps.captured_terms ps) (ones_after b n ts)

-- ---- an object at the class and those above, where i of 64 steps are made

module _ (cs : List ClassTree) (i : ℕ) (level : ClassId) (o : TermId) (before after : List (TermId × ClassId)) (all : List (TermId × ClassId)) where
  pub pairs_last : i < 64 → after ≡ before ++ (o, level) ∷ [] → None ≡ level_above cs level.0 → before ++ pairs_for o (levels_from cs (64 - i) level.0) ≡ all → after ≡ all
  pairs_last more e last was = e ∙ ap (λ l. before ++ pairs_for o l) (level_last cs i level [] (level ∷ []) (levels_from cs (64 - i) level.0) more refl last refl) ∙ was

  pub pairs_next : (u : ClassId) → i < 64 → after ≡ before ++ (o, level) ∷ [] → Some u.0 ≡ level_above cs level.0 → before ++ pairs_for o (levels_from cs (64 - i) level.0) ≡ all → after ++ pairs_for o (levels_from cs (64 - (i + 1)) u.0) ≡ all
  pairs_next u more e up was =
      ap (λ l. l ++ pairs_for o (levels_from cs (64 - (i + 1)) u.0)) e
      ∙ append_assoc before ((o, level) ∷ []) (pairs_for o (levels_from cs (64 - (i + 1)) u.0))
      ∙ ap (λ l. before ++ pairs_for o l) (level_next cs i level [] (level ∷ []) (levels_from cs (64 - i) level.0) more refl u up refl)
      ∙ was

  pub pairs_all : 64 ≤ i → before ++ pairs_for o (levels_from cs (64 - i) level.0) ≡ all → before ≡ all
  pairs_all over was = sym (append-nil before) ∙ ap (λ l. before ++ pairs_for o l) (levels_all cs i level [] [] (levels_from cs (64 - i) level.0) over refl) ∙ was

-- ---- and what they stand for

pairs_at : (b : Forms) (o : TermId) (ls : List ℕ) → map (owner_at b) (pairs_for o ls) ≡ map (λ u. record { object = term_at b o; class = u }) ls
pairs_at b o [] = refl
pairs_at b o (l ∷ ls) = ap (λ xs. record { object = term_at b o; class = l } ∷ xs) (pairs_at b o ls)

owned_if : (b : Forms) (ctor : Bool) (cs : List ClassTree) (t : ℕ) (o : TermId) (m : Meant) → m ≡ One (term_at b o) → map (owner_at b) (if ctor then pairs_for o (levels cs t) else []) ≡ (if ctor then flat_map (heaps.pairs_of cs t) (heaps.term_of_one m) else [])
owned_if b true cs t o m h =
    pairs_at b o (levels cs t)
    ∙ sym (append-nil (heaps.pairs_of cs t (term_at b o)))
    ∙ ap (λ x. flat_map (heaps.pairs_of cs t) (heaps.term_of_one x)) (sym h)
owned_if b false cs t o m h = refl

pub owned_at : (b : Forms) (cs : List ClassTree) (body : BodyTree) (c : Context) (o : TermId) → local_meant c 0 ≡ One (term_at b o) → map (owner_at b) (owned_for cs body o) ≡ heaps.owned_terms cs body c
owned_at b cs body c o h = owned_if b body.flags.ctor cs body.class o (local_meant c 0) h

has_pairs : (b : Forms) (o : TermId) (ls : List ℕ) → HasTerm b o → HasOwned b (pairs_for o ls)
has_pairs b o [] h = tt
has_pairs b o (l ∷ ls) h = (h, has_pairs b o ls h)

has_owned_if : (b : Forms) (ctor : Bool) (o : TermId) (ls : List ℕ) → HasTerm b o → HasOwned b (if ctor then pairs_for o ls else [])
has_owned_if b true o ls h = has_pairs b o ls h
has_owned_if b false o ls h = tt

pub has_owned : (b : Forms) (cs : List ClassTree) (body : BodyTree) (o : TermId) → HasTerm b o → HasOwned b (owned_for cs body o)
has_owned b cs body o h = has_owned_if b body.flags.ctor o (levels cs body.class) h
