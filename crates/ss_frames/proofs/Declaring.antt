-- The classes that declare the fields, class by class.
use Rattle.std.proofs.Common.{◌≡◌, ℕ, ◌+◌, ◌*◌, ◌^◌, ◌<◌, ◌≤◌, List, ◌++◌, length, map, get_or, drop, append_assoc, sym, ◌∙◌, ap, subst, arith}
use Rattle.std.proofs.lemmas.List.{drop_more, length-map, map-append}
use Rattle.ss_core.specs.Chain.{fields_of_class, fields_from, most_classes}
use Rattle.ss_core.specs.View.{class_of}
use Rattle.ss_core.specs.declared.class.Class.{Class}
use Rattle.ss_frames.specs.Calls.{declaring_class}

-- one more class
class_more : (ds : List Class) (i n : ℕ) (d : Class) (before after all : List ℕ) → i < length ds →
    after ≡ before ++ map declaring_class (fields_of_class n (class_of (get_or ds i d)).fields) → before ++ map declaring_class (fields_from n (map class_of (drop i ds))) ≡ all → after ++ map declaring_class (fields_from (n + 2) (map class_of (drop (i + 1) ds))) ≡ all
class_more ds i n d before after all h e was =
    let own = fields_of_class n (class_of (get_or ds i d)).fields in
    let rest = fields_from (n + 2) (map class_of (drop (i + 1) ds)) in
    ap (λ xs. xs ++ map declaring_class rest) e
    ∙ append_assoc before (map declaring_class own) (map declaring_class rest)
    ∙ ap (λ xs. before ++ xs) (sym (map-append declaring_class own rest))
    ∙ ap (λ cs. before ++ map declaring_class (fields_from n (map class_of cs))) (sym (drop_more ds i d h))
    ∙ was

pub class_next : (es ds : List Class) → ds ≡ es → (i n : ℕ) (x : Class) → x ≡ get_or ds i x → i < length ds → (before after all : List ℕ) →
    after ≡ before ++ map declaring_class (fields_of_class n (class_of x).fields) → before ++ map declaring_class (fields_from n (map class_of (drop i es))) ≡ all → after ++ map declaring_class (fields_from (n + 2) (map class_of (drop (i + 1) es))) ≡ all
class_next es ds v i n x is h before after all e was =
    let h' : i < length es = subst (λ xs. i < length xs) v h in
    let is' : x ≡ get_or es i x = subst (λ xs. x ≡ get_or xs i x) v is in
    class_more es i n x before after all h' (e ∙ ap (λ y. before ++ map declaring_class (fields_of_class n (class_of y).fields)) is') was

-- the number of the class after the next one is small
pub number_fits : (items : List Class) (i number : ℕ) → i < length items → length (map class_of items) ≤ most_classes → number ≡ 4 + 2 * i → number + 2 < 2 ^ 16
number_fits items i number l few count = let all = length-map items class_of in omega arith
