-- Bodies are entered and left, and objects are made.
use Rattle.std.proofs.Common.{◌≡◌, ℕ, ℤ, pos, negsuc, List, [], ◌∷◌, ◌++◌, length, Result, Ok, Err, OnOk, OnErr, true, refl, arith, sym, ◌∙◌, ap, subst}
use Rattle.std.proofs.lemmas.List.{take-append-le}
use Rattle.std.specs.declared.alloc.AllocError.{AllocError}
use Rattle.ss_core.specs.Tree.{ClassTree}
use Rattle.ss_store.specs.declared.making.NewStop.{NewStop}
use Rattle.ss_store.specs.Shapes.{Contents}
use Rattle.ss_store_rules.specs.Store.{Object}
use Rattle.ss_store_rules.specs.Changes.{changed, new_object, new_object_of, new_array, new_array_of, ready_of}
use Rattle.ss_journal.specs.Shapes.{Segment}
use Rattle.ss_journal.specs.Undo.{restored, entries_of, joined}
use Rattle.ss_journal.specs.Saved.{counts, has_header, HasMore, AreSame}
use Rattle.ss_journal.proofs.Undo.{entries-entered, entries-left}
use Rattle.ss_machine_stores.specs.Shapes.{Timeline, rest_of}
use Rattle.ss_machine_saves.specs.Whole.{is_listed, HasMoreListed, AreCounted, AreWhole}
use Rattle.ss_machine_stores.proofs.Kept.{AreKept, whole_more, ready_kept}
use Rattle.ss_machine_stores.proofs.New.{object_whole, array_whole}

pub left_entries : (gs : List Segment) (s : List Object) → AreCounted (counts gs) (length s) → entries_of (joined gs) s ≡ rest_of (entries_of gs s)
left_entries [] s w = refl
left_entries (g ∷ []) s w = refl
left_entries (g ∷ h ∷ gs) s w = entries-left g h gs s w.1.0

abbrev pub timeline : List Object → List Segment → Timeline
timeline s gs = record { now = s; entries = entries_of gs s }

abbrev pub entered : Timeline → Timeline
entered t = record { now = t.now; entries = t.now ∷ t.entries }

pub entered_is : (r : Result (Unit {0}) AllocError) (s : List Object) (n : ℕ) (gs hs : List Segment) (t : Timeline) → n ≡ length s → OnOk r (hs ≡ record { count = n; headers = []; contents = [] } ∷ gs) → timeline s gs ≡ t → OnOk r (timeline s hs ≡ entered t)
entered_is (Err e) s n gs hs t count ok is = tt
entered_is (Ok u) s n gs hs t count ok is =
    let first : hs ≡ record { count = length s; headers = []; contents = [] } ∷ gs = ok ∙ ap (λ k. record { count = k; headers = []; contents = [] } ∷ gs) count in
    let here : Timeline → List (List Object) → Timeline = λ z es. record z { entries = es } in
    ap (timeline s) first ∙ ap (here (timeline s gs)) (entries-entered gs s) ∙ ap entered is

-- an object more changes no entry
pushed_entries : (gs : List Segment) (s : List Object) (z : Object) → AreCounted (counts gs) (length s) → entries_of gs (s ++ z ∷ []) ≡ entries_of gs s
pushed_entries [] s z w = refl
pushed_entries (g ∷ gs) s z w = ap (λ t. t ∷ entries_of gs t) (ap (changed (restored g)) (take-append-le g.count s (z ∷ []) w.0))

pub array_kept : (s t : List Object) (class : ℕ) (n : ℤ) (r : Result ℕ NewStop) (gs : List Segment) (us : List ℕ) → AreWhole s gs us → OnOk r (new_array_of s class n ≡ Ok t) → OnErr r (t ≡ s) → AreKept s t gs gs us
array_kept s t class n (Err e) gs us w ok err = subst (λ z. AreKept s z gs gs us) (sym err) (record { entries = refl; whole = w })
array_kept s t class (negsuc n) (Ok a) gs us w ok err = cc
array_kept s t class (pos n) (Ok a) gs us w ok err =
    let is : s ++ new_array class n (length s) ∷ [] ≡ t = cc in
    subst (λ z. AreKept s z gs gs us) is (record { entries = pushed_entries gs s (new_array class n (length s)) w.counted; whole = array_whole s class n gs us w })

pub objects_kept : {X Y : Type 0} (r : Result X Y) (a b : Contents) → OnErr r (a ≡ b) → OnErr r (a.objects ≡ b.objects)
objects_kept (Ok u) a b e = tt
objects_kept (Err u) a b e = ap (λ (z : Contents). z.objects) e

pub object_kept : (cs : List ClassTree) (s t : List Object) (class : ℕ) (r : Result ℕ AllocError) (gs : List Segment) (us vs : List ℕ) → AreWhole s gs us → HasMoreListed us vs → is_listed vs (length s) ≡ true → OnOk r (t ≡ new_object_of cs s class) → OnErr r (t ≡ s) → AreKept s t gs gs vs
object_kept cs s t class r gs us vs w more listed ok err = by_result r ok err
  where
    w' : AreWhole s gs vs
    w' = record { counted = w.counted; agree = w.agree; listed = λ q x e n. more q (w.listed q x e n) }

    by_result : (r : Result ℕ AllocError) → OnOk r (t ≡ new_object_of cs s class) → OnErr r (t ≡ s) → AreKept s t gs gs vs
    by_result (Err e) ok err = subst (λ z. AreKept s z gs gs vs) (sym err) (record { entries = refl; whole = w' })
    by_result (Ok o) ok err = subst (λ z. AreKept s z gs gs vs) (sym ok) (record { entries = pushed_entries gs s (new_object cs class (length s)) w.counted; whole = object_whole cs s class gs vs listed w' })

pub ready_made : (s t : List Object) (gs hs : List Segment) (us : List ℕ) (o : ℕ) → AreWhole s gs us → HasMore s gs hs → has_header hs o ≡ true → t ≡ ready_of s o → AreKept s t gs hs us
ready_made s t gs hs us o w more has is =
    let k = ready_kept s hs us o has (whole_more s gs hs us us more (λ q e. e) w) in
    subst (λ z. AreKept s z gs hs us) (sym is) (record { entries = k.entries ∙ more.entries; whole = k.whole })

joined_counted : (gs : List Segment) (n : ℕ) → AreCounted (counts gs) n → AreCounted (counts (joined gs)) n
joined_counted [] n w = tt
joined_counted (g ∷ []) n w = tt
joined_counted (g ∷ h ∷ gs) n w = let a = w.0 in let b = w.1.0 in (omega (arith, a, b), w.1.1)

-- the running body is left
pub left_whole : (s : List Object) (gs hs ks : List Segment) (us : List ℕ) → AreWhole s gs us → hs ≡ joined gs → AreSame hs ks → AreWhole s ks us
left_whole s gs hs ks us w is same = record {
  counted = subst (λ ns. AreCounted ns (length s)) (sym (same.counts ∙ ap counts is)) (joined_counted gs (length s) w.counted);
  agree = w.agree;
  listed = w.listed;
}

abbrev pub left : Timeline → Timeline
left t = record { now = t.now; entries = rest_of t.entries }

pub left_is : (s : List Object) (gs hs ks : List Segment) (t : Timeline) → AreCounted (counts gs) (length s) → hs ≡ joined gs → AreSame hs ks → timeline s gs ≡ t → timeline s ks ≡ left t
left_is s gs hs ks t w is same view =
    let here : Timeline → List (List Object) → Timeline = λ z es. record z { entries = es } in
    ap (here (timeline s gs)) (same.entries s ∙ ap (λ js. entries_of js s) is ∙ left_entries gs s w) ∙ ap left view
