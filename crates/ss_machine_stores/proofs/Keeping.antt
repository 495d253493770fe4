-- Where all that changed keeps the frame condition, and all that isn't at its full level, every object does.
use Rattle.std.proofs.Common.{◌≡◌, ℕ, zero, suc, ◌+◌, List, [], ◌∷◌, Bool, true, false, ◌&&◌, Option, Some, None, refl, sym, ◌∙◌, ap, subst, arith, inl, inr, ◌⊎◌, ⊎_elim}
use Rattle.std.specs.Prelude.{◌==◌, if◌then◌else◌, not, slice_get, unwrap_or, is_some}
use Rattle.std.specs.List.{list_all}
use Rattle.std.proofs.lemmas.Bool.{eqb-true, and_parts}
use Rattle.ss_store_rules.specs.Store.{Object}
use Rattle.ss_store_rules.specs.Reads.{no_object, object_at, is_allocated, is_full}
use Rattle.ss_machine_rules.specs.declared.Location.{Location}
use Rattle.ss_machine_rules.specs.Frame as frame
use Rattle.ss_machine_rules.specs.Frame.{is_empty, is_old, is_free, unkept_at, unkept_of_old, unkept_of_new, unkept}
use Rattle.ss_journal.specs.declared.changes.OldHeader.{OldHeader}
use Rattle.ss_journal.specs.Shapes.{OldContent, Segment}
use Rattle.ss_journal.specs.Undo.{header_of, content_of, with_header, with_content, entries_of, headers_of, contents_of}
use Rattle.ss_machine_stores.specs.Shapes.{entry_of}
use Rattle.ss_machine_saves.specs.Whole.{agrees, is_listed, AreWhole}
use Rattle.ss_machine_stores.specs.Spans.{keeps, headers_keep, contents_keep, all_keep}
use Rattle.ss_machine_stores.proofs.Untouched.{untouched, full_is_kept, kept_by_all}
use Rattle.ss_machine_stores.proofs.Entries.{entry_object}

either : (b : Bool) → (b ≡ true) ⊎ (b ≡ false)
either true = inl refl
either false = inr refl

empty_is : (ls : List Location) → is_empty ls ≡ true → ls ≡ []
empty_is [] e = refl
empty_is (l ∷ ls) e = cc

header_keeps : (k : ℕ → Bool) (hs : List OldHeader) (q : ℕ) → list_all (λ h. k h.position) hs ≡ true → is_some (header_of hs q) ≡ true → k q ≡ true
header_keeps k [] q all some = cc
header_keeps k (h ∷ hs) q all some =
    let b = and_parts (k h.position) (list_all (λ x. k x.position) hs) all in
    ⊎_elim
    (λ here. subst (λ i. k i ≡ true) (sym (eqb-true q h.position here)) b.0)
    (λ other. header_keeps k hs q b.1 (rw other at some))
    (either (q == h.position))

content_keeps : (k : ℕ → Bool) (cs : List OldContent) (q : ℕ) → list_all (λ o. k o.position) cs ≡ true → is_some (content_of cs q) ≡ true → k q ≡ true
content_keeps k [] q all some = cc
content_keeps k (c ∷ cs) q all some =
    let b = and_parts (k c.position) (list_all (λ x. k x.position) cs) all in
    ⊎_elim
    (λ here. subst (λ i. k i ≡ true) (sym (eqb-true q c.position here)) b.0)
    (λ other. content_keeps k cs q b.1 (rw other at some))
    (either (q == c.position))

listed_keeps : (k : ℕ → Bool) (us : List ℕ) (q : ℕ) → list_all k us ≡ true → is_listed us q ≡ true → k q ≡ true
listed_keeps k [] q all some = cc
listed_keeps k (u ∷ us) q all some =
    let b = and_parts (k u) (list_all k us) all in
    ⊎_elim
    (λ here. subst (λ i. k i ≡ true) (eqb-true u q here) b.0)
    (λ other. listed_keeps k us q b.1 (rw other at some))
    (either (u == q))

none_left : {X : Type 0} (r : Option X) → is_some r ≡ false → r ≡ None
none_left None e = refl
none_left (Some x) e = cc

agree_at : (s : List Object) (q : ℕ) (y : Object) → list_all agrees s ≡ true → slice_get s q ≡ Some y → agrees y ≡ true
agree_at [] q y a e = cc
agree_at (x ∷ s) zero y a e = let is : x ≡ y = cc in subst (λ z. agrees z ≡ true) is (and_parts (agrees x) (list_all agrees s) a).0
agree_at (x ∷ s) (suc q) y a e = agree_at s q y (and_parts (agrees x) (list_all agrees s) a).1 e

if_either : (b : Bool) (xs ys : List Location) → (b ≡ true → xs ≡ []) → ys ≡ [] → (if b then xs else ys) ≡ []
if_either true xs ys e f = e refl
if_either false xs ys e f = f

-- an object that no entry of the log names and that is at its full level
untouched_keeps : (c : frame.Span) (gs : List Segment) (q : ℕ) (y : Object) → c.entry ≡ entry_of (entries_of gs c.now) → slice_get c.now q ≡ Some y → agrees y ≡ true → header_of (headers_of gs) q ≡ None → content_of (contents_of gs) q ≡ None → is_full y ≡ true → unkept_at c q y ≡ []
untouched_keeps c gs q y entry e agree no_header no_content full =
    let now : object_at c.now q ≡ y = ap (λ o. unwrap_or o no_object) e in
    if_either (is_old c q) (unkept_of_old c q y) (unkept_of_new c q y)
    (λ old.
    let there : is_allocated (entry_of (entries_of gs c.now)) q ≡ true = ap (λ t. is_allocated t q) (sym entry) ∙ (and_parts (is_allocated c.entry q) (not (is_free c (object_at c.entry q))) old).0 in
    let was : object_at c.entry q ≡ y =
    ap (λ t. object_at t q) entry ∙ entry_object gs c.now q there
    ∙ ap (λ r. with_content r (with_header (header_of (headers_of gs) q) (object_at c.now q))) no_content
    ∙ ap (λ r. with_header r (object_at c.now q)) no_header
    ∙ now in
    subst (λ z. unkept_of_old c q z ≡ []) was (untouched c q (subst (λ z. agrees z ≡ true) (sym was) agree)))
    (full_is_kept c q y full)

kept_at : (c : frame.Span) (q : ℕ) (y : Object) → slice_get c.now q ≡ Some y → keeps c q ≡ true → unkept_at c q y ≡ []
kept_at c q y e k = let now : object_at c.now q ≡ y = ap (λ o. unwrap_or o no_object) e in subst (λ z. unkept_at c q z ≡ []) now (empty_is (unkept_at c q (object_at c.now q)) k)

pub all_kept : (c : frame.Span) (gs : List Segment) (us : List ℕ) → AreWhole c.now gs us → c.entry ≡ entry_of (entries_of gs c.now) → all_keep c gs us ≡ true → unkept c ≡ []
all_kept c gs us w entry all =
    let two = and_parts (headers_keep c gs && contents_keep c gs) (list_all (keeps c) us) all in
    let one = and_parts (headers_keep c gs) (contents_keep c gs) two.0 in
    kept_by_all c 0 c.now
    (λ q y e.
    let z : 0 + q ≡ q = omega arith in
    rw z
    (⊎_elim
    (λ has. kept_at c q y e (header_keeps (keeps c) (headers_of gs) q one.0 has))
    (λ no_header. ⊎_elim
    (λ has. kept_at c q y e (content_keeps (keeps c) (contents_of gs) q one.1 has))
    (λ no_content. ⊎_elim
    (λ full. untouched_keeps c gs q y entry e (agree_at c.now q y w.agree e) (none_left (header_of (headers_of gs) q) no_header) (none_left (content_of (contents_of gs) q) no_content) full)
    (λ less. kept_at c q y e (listed_keeps (keeps c) us q two.1 (w.listed q y e less)))
    (either (is_full y)))
    (either (is_some (content_of (contents_of gs) q))))
    (either (is_some (header_of (headers_of gs) q)))))
