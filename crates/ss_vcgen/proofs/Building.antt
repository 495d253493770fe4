-- Bodies, one after the other.
use Rattle.std.proofs.Common.{◌≡◌, ℕ, zero, suc, ◌+◌, ◌≤◌, List, [], ◌∷◌, ◌++◌, length, take, drop, refl, sym, ap, ◌∙◌, arith, append_assoc, Vec, Global, Option}
use Rattle.std.proofs.lemmas.List.{append-nil, map-append, take_all}
use Rattle.std.proofs.Math.Seq.{drop-length}
use Rattle.ss_core.specs.Tree.{BodyTree, CoreTree}
use Rattle.ss_store_rules.specs.NonNull.{Known as Knows, known_at_entry}
use Rattle.ss_terms.specs.declared.forms.TermId.{TermId}
use Rattle.ss_terms.specs.declared.forms.FormulaId.{FormulaId}
use Rattle.ss_terms.specs.Forms.{Forms, term_at, formulas_at, IsGrown, IsBankOf}
use Rattle.ss_terms.proofs.Grown.{IsGrown-refl, IsGrown-then, IsBankOf-grown}
use Rattle.ss_vcgen_heaps.specs.Positions as spec
use Rattle.ss_vcgen_heaps.specs.Positions.{Position}
use Rattle.ss_vcgen_heaps.specs.Obligations.{at_end, obligations, obligations_from, walk_of}
use Rattle.ss_vcgen_known.specs.declared.known.Known.{Known}
use Rattle.ss_vcgen_known.specs.Views.{known_of}
use Rattle.ss_vcgen_builder.specs.declared.guard.Guard.TheVariants as guard
use Rattle.ss_vcgen_builder.specs.declared.builder.Builder.{Builder}
use Rattle.ss_vcgen_builder.specs.declared.builder.Listed.{Listed}
use Rattle.ss_vcgen_builder.specs.Builder.{counters_of, locals_at, obligation_at, obligations_at, position_at, AreWithin, IsFine, Becomes}
use Rattle.ss_vcgen_builder.proofs.Held.{AreWithin-grown}
use Rattle.ss_vcgen.specs.Bodies.{Begins, blank}

-- ---- the beginning of a body

pub cleared : (s : Builder) (first : ℕ) (list : Vec Listed Global) (locals : Vec (Option TermId) Global) (known : Known) (body : BodyTree) → IsFine s → first ≡ length s.trail.items → list.items ≡ [] → locals.items ≡ [] →
    known_of known ≡ known_at_entry body →
    Begins s (record s { first = first; list = list; locals = locals; guard = guard.Always; known = known }) (λ b. blank body (term_at b s.store) (counters_of s.next))
cleared s first list locals known body fine is_first no_list no_locals is_known =
    let at = λ (b : Forms) (ls : List (Option TermId)) (n : Knows) (fs : List FormulaId) (os : List Listed). record (blank body (term_at b s.store) (counters_of s.next)) { locals = locals_at b ls; known = n; premises = formulas_at b fs; listed = obligations_at b s.trail.items os } in
    record {
      fine = record { locals = rw no_locals tt; store = fine.store; trail = fine.trail; list = rw no_list tt; first = omega (arith, is_first) };
      grown = IsGrown-refl s.bank;
      is = λ b k.
          ap (λ (ls : List (Option TermId)). at b ls (known_of known) (drop first s.trail.items) list.items) no_locals
          ∙ ap (λ (n : Knows). at b [] n (drop first s.trail.items) list.items) is_known
          ∙ ap (λ (n : ℕ). at b [] (known_at_entry body) (drop n s.trail.items) list.items) is_first
          ∙ ap (λ (fs : List FormulaId). at b [] (known_at_entry body) fs list.items) (drop-length s.trail.items)
          ∙ ap (at b [] (known_at_entry body) []) no_list;
      first = is_first;
      before = take_all (length s.trail.items) s.trail.items (omega arith);
    }

-- and a step after it
pub begins_on : (s t u : Builder) (f : Forms → Position) (g : Forms → Position → Position) → Begins s t f → Becomes t u (λ b. g b (position_at b t)) → Begins s u (λ b. g b (f b))
begins_on s t u f g p q = record {
  fine = q.fine;
  grown = IsGrown-then s.bank t.bank u.bank p.grown q.grown;
  is = λ b k. q.is b k ∙ ap (g b) (p.is b (IsGrown-then t.bank u.bank b q.grown k));
  first = q.first ∙ p.first;
  before = ap (λ n. take n u.trail.items) (sym p.first) ∙ q.before ∙ ap (λ n. take n t.trail.items) p.first ∙ p.before;
}

pub begins_so : (s t : Builder) (f g : Forms → Position) → ((b : Forms) → IsGrown t.bank b → f b ≡ g b) → Begins s t f → Begins s t g
begins_so s t f g e p = record { fine = p.fine; grown = p.grown; is = λ b k. p.is b k ∙ e b k; first = p.first; before = p.before }

-- ---- what was listed before

AreWithin-append : (b : Forms) (n : ℕ) (os more : List Listed) → AreWithin b n os → AreWithin b n more → AreWithin b n (os ++ more)
AreWithin-append b n [] more h k = k
AreWithin-append b n (o ∷ os) more h k = (h.0, AreWithin-append b n os more h.1 k)

AreWithin-raise : (b : Forms) (n m : ℕ) (os : List Listed) → n ≤ m → AreWithin b n os → AreWithin b m os
AreWithin-raise b n m [] le h = tt
AreWithin-raise b n m (o ∷ os) le h = (record { goal = h.0.goal; first = h.0.first; end = let e = h.0.end in omega arith }, AreWithin-raise b n m os le h.1)

take-take : (i n : ℕ) (xs : List FormulaId) → i ≤ n → take i (take n xs) ≡ take i xs
take-take zero n xs le = refl
take-take (suc i) zero xs le = absurd (omega arith)
take-take (suc i) (suc n) [] le = refl
take-take (suc i) (suc n) (x ∷ xs) le = ap (λ (ys : List FormulaId). x ∷ ys) (take-take i n xs (omega arith))

-- a longer trail says the same of them
listed_before : (a b : Forms) (old new : List FormulaId) (n : ℕ) (os : List Listed) → AreWithin a n os → take n new ≡ old → obligations_at b new os ≡ obligations_at b old os
listed_before a b old new n [] h e = refl
listed_before a b old new n (o ∷ os) h e =
    ap (λ (fs : List FormulaId). record (obligation_at b new o) { premises = formulas_at b (drop o.first fs) } ∷ obligations_at b new os) (sym (take-take o.end n new h.0.end) ∙ ap (take o.end) e)
    ∙ ap (λ (l : List spec.Obligation). obligation_at b old o ∷ l) (listed_before a b old new n os h.1 e)

-- ---- programs

module _ (c : CoreTree) where
  -- these obligations are those of the bodies before `rest`, of which the first has the number n
  pub record Built (s : Builder) (done : List Listed) (n : ℕ) (rest : List BodyTree) : Type 0 where
    pub fine : IsFine s
    pub bank : IsBankOf c.classes s.bank
    pub within : AreWithin s.bank (length s.trail.items) done
    pub are : (b : Forms) → IsGrown s.bank b → obligations_at b s.trail.items done ++ obligations_from c n (counters_of s.next) rest ≡ obligations c

  pub none_built : (s : Builder) (done : List Listed) → done ≡ [] → IsFine s → IsBankOf c.classes s.bank → counters_of s.next ≡ record { stores = 0; wholes = 0; truths = 0; things = 0 } → Built s done 0 c.bodies
  none_built s done none fine bank e = record {
    fine = fine;
    bank = bank;
    within = rw none tt;
    are = λ b k. ap (λ (os : List Listed). obligations_at b s.trail.items os ++ obligations_from c 0 (counters_of s.next) c.bodies) none ∙ ap (λ (n : spec.Counters). obligations_from c 0 n c.bodies) e;
  }

  pub built_on : (s t : Builder) (done after : List Listed) (n : ℕ) (body : BodyTree) (rest : List BodyTree) → Built s done n (body ∷ rest) → Begins s t (λ b. at_end (walk_of c n body (counters_of s.next)) (counters_of s.next)) →
      after ≡ done ++ t.list.items → Built t after (n + 1) rest
  built_on s t done after n body rest m q more =
      let longer : length s.trail.items ≤ length t.trail.items = let h = q.fine.first in let e = q.first in omega arith in
      record {
        fine = q.fine;
        bank = IsBankOf-grown c.classes s.bank t.bank q.grown m.bank;
        within = rw more (AreWithin-append t.bank (length t.trail.items) done t.list.items
            (AreWithin-raise t.bank (length s.trail.items) (length t.trail.items) done longer (AreWithin-grown s.bank t.bank q.grown (length s.trail.items) done m.within)) q.fine.list);
        are = λ b k.
            ap (λ (os : List Listed). obligations_at b t.trail.items os ++ obligations_from c (n + 1) (counters_of t.next) rest) more
            ∙ ap (λ (os : List spec.Obligation). os ++ obligations_from c (n + 1) (counters_of t.next) rest) (map-append (obligation_at b t.trail.items) done t.list.items)
            ∙ append_assoc (obligations_at b t.trail.items done) (obligations_at b t.trail.items t.list.items) (obligations_from c (n + 1) (counters_of t.next) rest)
            ∙ ap (λ (os : List spec.Obligation). os ++ (obligations_at b t.trail.items t.list.items ++ obligations_from c (n + 1) (counters_of t.next) rest)) (listed_before s.bank b s.trail.items t.trail.items (length s.trail.items) done m.within q.before)
            ∙ ap (λ (l : Position). obligations_at b s.trail.items done ++ (l.listed ++ obligations_from c (n + 1) l.next rest)) (q.is b k)
            ∙ m.are b (IsGrown-then s.bank t.bank b q.grown k);
      }

  pub all_built : (s : Builder) (done : List Listed) (n : ℕ) → Built s done n [] → obligations_at s.bank s.trail.items done ≡ obligations c
  all_built s done n m = sym (append-nil (obligations_at s.bank s.trail.items done)) ∙ m.are s.bank (IsGrown-refl s.bank)
