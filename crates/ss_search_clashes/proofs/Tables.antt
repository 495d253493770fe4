-- Tables of what known formulas say, as they grow, and what they tell.
use Rattle.std.proofs.Common.{◌≡◌, ℕ, zero, suc, ◌+◌, ◌<◌, List, [], ◌∷◌, length, Bool, true, false, not, Option, Some, None, refl, sym, ◌∙◌, ap, subst, inl, inr, ◌⊎◌, ⊎_elim, arith}
use Rattle.std.specs.Prelude.{slice_get, if◌then◌else◌, IfSome}
use Rattle.std.specs.List.{Contains}
use Rattle.std.proofs.lemmas.Bool.{true≢false, cases_Bool, cases_lt}
use Rattle.std.proofs.lemmas.Option.{slice_get-get_or, slice_get_within}
use Rattle.ss_terms.specs.declared.forms.FormulaId.{FormulaId}
use Rattle.ss_terms.specs.Forms.{Forms, formula_at, AreBelow, HasFormula, HasFormulas}
use Rattle.ss_terms.specs.Apart.{AreApart}
use Rattle.ss_search_procedure_rules.specs.Clashes.{Classing}
use Rattle.ss_logic.proofs.Lists.{contains_split}
use Rattle.ss_search_clashes.specs.declared.signatures.Said.{Said}
use Rattle.ss_search_clashes.specs.declared.clashes.Clash.TheVariants as clash
use Rattle.ss_search_clashes.specs.declared.known.Against.TheVariants as against
use Rattle.ss_search_clashes.specs.Numbered.{class_of, IsClassing, differs, is_opposed, HasNoClash, AreValuesApart}
use Rattle.ss_search_clashes.specs.Says.{Key, Says, Sayings, said_of, IsSaid, IsStep}
use Rattle.ss_search_clashes.specs.Tables.{Tabulates, Table, IsTable}
use Rattle.ss_search_clashes.specs.Found.{IsClash, IsAgainst}
use Rattle.ss_search_clashes.proofs.Numbers.{is_classing}
use Rattle.ss_search_clashes.proofs.Opposed.{contrary, says_opposed, says_once, no_both}

-- ---- what was found

pub at_some : {X : Type 0} (P : X → Type 0) (o : Option X) (x : X) → o ≡ Some x → IfSome o P → P x
at_some P o x e h = subst (λ z. IfSome z P) e h

-- what holds of each classing of the numbers holds of theirs
pub looked_up : (b : Forms) → AreApart b → (ns classes : List ℕ) → ns ≡ classes → (P : Classing → Type 0) → ((class : Classing) → IsClassing b ns class → P class) → P (class_of b classes)
looked_up b apart ns classes e P h = subst (λ ks. P (class_of b ks)) e (h (class_of b ns) (is_classing b ns apart))

-- ---- lists

below_at : (n : ℕ) (fs : List FormulaId) (i : ℕ) (f : FormulaId) → AreBelow n fs → slice_get fs i ≡ Some f → f.0 < n
below_at n [] i f h e = let no : ◌≡◌ {A = Option FormulaId} None (Some f) = e in cc
below_at n (g ∷ fs) zero f h e = let same : g ≡ f = cc in subst (λ (x : FormulaId). x.0 < n) same h.0
below_at n (g ∷ fs) (suc i) f h e = below_at n fs i f h.1 e

place_of : (fs : List FormulaId) (f : FormulaId) → Contains fs f → (i : ℕ) × (i < length fs) × (slice_get fs i ≡ Some f)
place_of fs f (i, h, e) = (i, h, slice_get-get_or fs i f h ∙ ap Some e)

said_both : (gs : Sayings) (k : Key) (h : Bool) → IsSaid gs k h → IsSaid gs k (not h) → ⊥
said_both gs k h (i, a) (j, c) =
    let both : ◌≡◌ {A = Option Said} (Some (record { place = i; holds = h })) (Some (record { place = j; holds = not h })) = sym a ∙ c in
    let same : ◌≡◌ {A = Said} (record { place = i; holds = h }) (record { place = j; holds = not h }) = cc in
    differ h (ap (λ (s : Said). s.holds) same)
  where
    differ : (h : Bool) → h ≡ not h → ⊥
    differ true e = true≢false e
    differ false e = true≢false (sym e)

module _ (b : Forms) (class : Classing) (known : List FormulaId) where
  -- ---- as they grow

  pub none_tabulated : (gs : Sayings) → gs ≡ [] → Tabulates b class known 0 gs
  none_tabulated gs e = subst (Tabulates b class known 0) (sym e) (record {
    different = λ i f h at. absurd (omega (arith, h));
    stands = λ i f h at. absurd (omega (arith, h));
    right = λ k s h. let no : ◌≡◌ {A = Option Said} None (Some s) = h in cc;
  })

  module _ (place : ℕ) (f : FormulaId) (at : slice_get known place ≡ Some f) (old : Sayings) (t : Tabulates b class known place old) where
    -- the next formula, and those before it
    next : (P : FormulaId → Type 0) → P f → ((i : ℕ) (g : FormulaId) → i < place → slice_get known i ≡ Some g → P g) → (i : ℕ) (g : FormulaId) → i < place + 1 → slice_get known i ≡ Some g → P g
    next P here before i g h e = ⊎_elim
        (λ l. before i g l e)
        (λ l.
        let last : i ≡ place = omega (arith, h, l) in
        let both : Some f ≡ Some g = sym at ∙ ap (slice_get known) (sym last) ∙ e in
        let same : f ≡ g = cc in
        subst P same here)
        (cases_lt i place)

    pub says_nothing : differs class (formula_at b f) ≡ false → ((k : Key) (holds : Bool) → Says b class (formula_at b f) k holds → ⊥) → Tabulates b class known (place + 1) old
    says_nothing d n = record {
      different = next (λ g. differs class (formula_at b g) ≡ false) d t.different;
      stands = next (λ g. (k : Key) (holds : Bool) → Says b class (formula_at b g) k holds → IsSaid old k holds) (λ k h s. absurd (n k h s)) t.stands;
      right = t.right;
    }

    pub says_this : AreApart b → (new : Sayings) (k : Key) (holds : Bool) → differs class (formula_at b f) ≡ false → Says b class (formula_at b f) k holds → IsStep old new k (record { place = place; holds = holds }) → IsSaid new k holds → Tabulates b class known (place + 1) new
    says_this apart new k holds d says step said = record {
      different = next (λ g. differs class (formula_at b g) ≡ false) d t.different;
      stands = next (λ g. (x : Key) (v : Bool) → Says b class (formula_at b g) x v → IsSaid new x v)
          (λ x v s.
          let one = says_once b class apart (formula_at b f) k x holds v says s in
          subst (λ y. IsSaid new y v) one.keys (subst (IsSaid new k) one.holds said))
          (λ i g l e x v s. let r = t.stands i g l e x v s in (r.0, step.kept x (record { place = r.0; holds = v }) r.1));
      right = λ x s e. ⊎_elim
          (λ l. t.right x s l)
          (λ r. subst (λ (u : Said). (g : FormulaId) × (slice_get known u.place ≡ Some g) × Says b class (formula_at b g) x u.holds) r.1 (f, at, subst (λ y. Says b class (formula_at b f) y holds) r.0 says))
          (step.more x s e);
    }

    pub says_opposite : (k : Key) (holds : Bool) (other : ℕ) → Says b class (formula_at b f) k holds → said_of old k ≡ Some (record { place = other; holds = not holds }) →
        IsClash b class known (if holds then clash.Opposed place other else clash.Opposed other place)
    says_opposite k true other says said =
        let r = t.right k (record { place = other; holds = false }) said in
        (f, r.0, at, r.1, says_opposed b class (formula_at b f) (formula_at b r.0) k says r.2)
    says_opposite k false other says said =
        let r = t.right k (record { place = other; holds = true }) said in
        (r.0, f, r.1, at, says_opposed b class (formula_at b r.0) (formula_at b f) k r.2 says)

  -- ---- what they tell

  module _ (has : HasFormulas b known) (gs : Sayings) (stands : (i : ℕ) (f : FormulaId) → slice_get known i ≡ Some f → (k : Key) (holds : Bool) → Says b class (formula_at b f) k holds → IsSaid gs k holds) where
    pub not_opposed : (f g : FormulaId) → Contains known f → Contains known g → is_opposed class (formula_at b f) (formula_at b g) ≡ false
    not_opposed f g hf hg = ⊎_elim
        (λ e.
        let p = place_of known f hf in
        let q = place_of known g hg in
        let c = contrary b class f g (below_at _ known p.0 f has p.2) (below_at _ known q.0 g has q.2) e in
        absurd (said_both gs c.key c.holds (stands p.0 f p.2 c.key c.holds c.left) (stands q.0 g q.2 c.key (not c.holds) c.right)))
        (λ (e : is_opposed class (formula_at b f) (formula_at b g) ≡ false). e)
        (cases_Bool (is_opposed class (formula_at b f) (formula_at b g)))

  module _ (has : HasFormulas b known) (gs : Sayings) (t : Tabulates b class known (length known) gs) (values : AreValuesApart b class) where
    all_stand : (i : ℕ) (f : FormulaId) → slice_get known i ≡ Some f → (k : Key) (holds : Bool) → Says b class (formula_at b f) k holds → IsSaid gs k holds
    all_stand i f e = t.stands i f (slice_get_within known i f e) e

    pub no_clash : HasNoClash b class known
    no_clash = record {
      different = λ f h. let p = place_of known f h in t.different p.0 f p.1 p.2;
      unopposed = not_opposed has gs all_stand;
      values = values;
    }

pub is_table : (b : Forms) (known : List FormulaId) (table : Table) → HasFormulas b known → Tabulates b (class_of b table.classes) known (length known) table.said → AreValuesApart b (class_of b table.classes) → IsTable b known table
is_table b known table has t values = record {
  has = has;
  none = no_clash b (class_of b table.classes) known has table.said t values;
  stands = λ i f e. t.stands i f (slice_get_within known i f e) e;
  right = t.right;
}

-- ---- one more formula

module _ (b : Forms) (known : List FormulaId) (table : Table) (is : IsTable b known table) (apart : AreApart b) (f : FormulaId) (has : HasFormula b f) where
  abbrev class : Classing
  class = class_of b table.classes

  -- nothing known says the opposite
  module _ (d : differs class (formula_at b f) ≡ false) (none : (k : Key) (holds : Bool) → Says b class (formula_at b f) k holds → IsSaid table.said k (not holds) → ⊥) where
    double : (h : Bool) → not (not h) ≡ h
    double true = refl
    double false = refl

    known_has : (g : FormulaId) → Contains known g → HasFormula b g
    known_has g h = let p = place_of known g h in below_at _ known p.0 g is.has p.2

    says_stand : (g : FormulaId) → Contains known g → (k : Key) (holds : Bool) → Says b class (formula_at b g) k holds → IsSaid table.said k holds
    says_stand g h k holds s = let p = place_of known g h in is.stands p.0 g p.2 k holds s

    new_first : (g : FormulaId) → Contains known g → is_opposed class (formula_at b f) (formula_at b g) ≡ true → ⊥
    new_first g h e =
        let c = contrary b class f g has (known_has g h) e in
        none c.key c.holds c.left (says_stand g h c.key (not c.holds) c.right)

    new_second : (g : FormulaId) → Contains known g → is_opposed class (formula_at b g) (formula_at b f) ≡ true → ⊥
    new_second g h e =
        let c = contrary b class g f (known_has g h) has e in
        none c.key (not c.holds) c.right (subst (IsSaid table.said c.key) (sym (double c.holds)) (says_stand g h c.key c.holds c.left))

    new_itself : is_opposed class (formula_at b f) (formula_at b f) ≡ true → ⊥
    new_itself e = let c = contrary b class f f has has e in no_both b class apart (formula_at b f) c.key c.holds c.left c.right

    refuted : (x : Bool) → (x ≡ true → ⊥) → x ≡ false
    refuted true n = absurd (n refl)
    refuted false n = refl

    pub one_more : HasNoClash b class (f ∷ known)
    one_more = record {
      different = λ g h. ⊎_elim (λ e. subst (λ x. differs class (formula_at b x) ≡ false) e d) (λ k. is.none.different g k) (contains_split f known g h);
      unopposed = λ x y hx hy. ⊎_elim
          (λ ex. ⊎_elim
          (λ ey. subst (λ z. is_opposed class (formula_at b z) (formula_at b y) ≡ false) ex (subst (λ z. is_opposed class (formula_at b f) (formula_at b z) ≡ false) ey (refuted (is_opposed class (formula_at b f) (formula_at b f)) new_itself)))
          (λ ky. subst (λ z. is_opposed class (formula_at b z) (formula_at b y) ≡ false) ex (refuted (is_opposed class (formula_at b f) (formula_at b y)) (new_first y ky)))
          (contains_split f known y hy))
          (λ kx. ⊎_elim
          (λ ey. subst (λ z. is_opposed class (formula_at b x) (formula_at b z) ≡ false) ey (refuted (is_opposed class (formula_at b x) (formula_at b f)) (new_second x kx)))
          (λ ky. is.none.unopposed x y kx ky)
          (contains_split f known y hy))
          (contains_split f known x hx);
      values = is.none.values;
    }

  -- what it says is what was looked up
  pub says_only : (k : Key) (holds : Bool) → Says b class (formula_at b f) k holds → (IsSaid table.said k (not holds) → ⊥) → (x : Key) (v : Bool) → Says b class (formula_at b f) x v → IsSaid table.said x (not v) → ⊥
  says_only k holds says n x v s said =
      let one = says_once b class apart (formula_at b f) k x holds v says s in
      n (subst (λ y. IsSaid table.said y (not holds)) (sym one.keys) (subst (λ y. IsSaid table.said x (not y)) (sym one.holds) said))

  pub is_against : (k : Key) (holds : Bool) (place : ℕ) → Says b class (formula_at b f) k holds → said_of table.said k ≡ Some (record { place = place; holds = not holds }) → IsAgainst b class known f (against.Known place)
  is_against k true place says said =
      let r = is.right k (record { place = place; holds = false }) said in
      (r.0, r.1, inl (says_opposed b class (formula_at b f) (formula_at b r.0) k says r.2))
  is_against k false place says said =
      let r = is.right k (record { place = place; holds = true }) said in
      (r.0, r.1, inr (says_opposed b class (formula_at b r.0) (formula_at b f) k r.2 says))
