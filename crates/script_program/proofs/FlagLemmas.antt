-- Flags that tell which numbers are among some: one more, and what collections are made from.
use Rattle.std.proofs.Common.{◌≡◌, ℕ, suc, ◌+◌, ◌<◌, ◌≤◌, Bool, true, false, eqb, ◌||◌, List, []}
use Rattle.std.proofs.Common.{◌∷◌, ◌++◌, length, map, take, drop, get_or, set, replicate}
use Rattle.std.proofs.Common.{if◌then◌else◌, refl, sym, ap, ◌∙◌, subst, arith, Some, slice_get}
use Rattle.std.proofs.lemmas.Bool.{eqb-true, eq-eqb}
use Rattle.std.proofs.lemmas.Option.{slice_get_within, get_or_from_slice_get}
use Rattle.std.proofs.lemmas.List.{length-map, get_or_default, drop_all, get_or-set_same}
use Rattle.std.proofs.lemmas.List.{get_or-set_other, get_or-replicate, length-set, length-replicate}
use Rattle.std.proofs.lemmas.List.{take_more, map_push}
use Rattle.std.proofs.lemmas.List.Folds.{list_any-append}
use Rattle.std.proofs.Math.Seq.{drop-cons}
use Rattle.script_program.specs.declared.made.Made.{Made}
use Rattle.flume_types.specs.declared.types.Ty.{Ty}
use Rattle.body_check.specs.of_written_types.Named.{Named}
use Rattle.body_check.specs.of_written_types.Known.{Known}
use Rattle.script_program.specs.declared.made.Function.{Function as HeldFunction}
use Rattle.script_program.specs.declared.made.Node.{Node as HeldNode}
use Rattle.script_program.specs.declared.made.Output.{Output}
use Rattle.script_program.specs.Script.{Node}
use Rattle.script_program.specs.Needed.{holds_number, with_reads, read_from, is_needed}
use Rattle.script_program.specs.Rested.{rests}
use Rattle.script_program.specs.inner.Tables.{node_of, numbered_of}
use Rattle.script_program.specs.inner.Flags.{AreFlags, held_made, held_reads, TellNeeded}

-- ---- the same numbers in another order

moves : (t a b : Bool) → (t || (a || b)) ≡ ((a || (t || false)) || b)
moves true true b = refl
moves true false b = refl
moves false true b = refl
moves false false b = refl

front-behind : (x : ℕ) (xs ys : List ℕ) (n : ℕ)
    → holds_number (x ∷ (xs ++ ys)) n ≡ holds_number ((xs ++ x ∷ []) ++ ys) n
front-behind x xs ys n =
    ap (λ b. eqb x n || b) (list_any-append (λ it. eqb it n) xs ys)
    ∙ moves (eqb x n) (holds_number xs n) (holds_number ys n)
    ∙ sym
    (list_any-append (λ it. eqb it n) (xs ++ x ∷ []) ys
    ∙ ap (λ b. b || holds_number ys n) (list_any-append (λ it. eqb it n) xs (x ∷ [])))

turns : (t a : Bool) → (t || a) ≡ (a || (t || false))
turns true true = refl
turns true false = refl
turns false true = refl
turns false false = refl

first-last : (x : ℕ) (xs : List ℕ) (n : ℕ) → holds_number (x ∷ xs) n ≡ holds_number (xs ++ x ∷ []) n
first-last x xs n =
    turns (eqb x n) (holds_number xs n) ∙ sym (list_any-append (λ it. eqb it n) xs (x ∷ []))

-- ---- one number more

set-at : (flags : List Bool) (number n : ℕ) (numbers : List ℕ) → AreFlags numbers flags
    → n < length flags → (b : Bool) → eqb number n ≡ b
    → get_or (set flags number true) n false ≡ (b || holds_number numbers n)
set-at flags number n numbers are in_ true e =
    let same : number ≡ n = eqb-true number n e in
    subst (λ k. get_or (set flags k true) n false ≡ true) (sym same)
    (get_or-set_same flags n true false in_)
set-at flags number n numbers are in_ false e =
    let other : n ≡ number → ⊥ = λ same. let is = eq-eqb number n (sym same) in cc in
    get_or-set_other flags number n true false other ∙ are n in_

pub marked : (flags after : List Bool) (number : ℕ) (numbers : List ℕ)
    → after ≡ set flags number true → AreFlags numbers flags → AreFlags (number ∷ numbers) after
marked flags after number numbers is are =
    subst (AreFlags (number ∷ numbers)) (sym is)
    (λ n in_. set-at flags number n numbers are
    (subst (λ k. n < k) (length-set flags number true) in_) (eqb number n) refl)

past-at : (number n : ℕ) (numbers : List ℕ) → n < number → (b : Bool) → eqb number n ≡ b
    → holds_number numbers n ≡ (b || holds_number numbers n)
past-at number n numbers less true e =
    let same = eqb-true number n e in absurd (omega (arith, same))
past-at number n numbers less false e = refl

-- a number for which there is no flag
pub past : (flags : List Bool) (number : ℕ) (numbers : List ℕ) → length flags ≤ number
    → AreFlags numbers flags → AreFlags (number ∷ numbers) flags
past flags number numbers far are =
    λ n in_. are n in_ ∙ past-at number n numbers (omega (arith, in_, far)) (eqb number n) refl

-- one flag more is unset, of those below a number
unset-at : (flags : List Bool) (number n : ℕ) → number < length flags
    → ((k : ℕ) → k < number → get_or flags k false ≡ false) → n < number + 1
    → (b : Bool) → eqb n number ≡ b → get_or (set flags number false) n false ≡ false
unset-at flags number n in_ before below true e =
    let same : n ≡ number = eqb-true n number e in
    subst (λ k. get_or (set flags number false) k false ≡ false) (sym same)
    (get_or-set_same flags number false false in_)
unset-at flags number n in_ before below false e =
    let other : n ≡ number → ⊥ = λ same. let is = eq-eqb n number same in cc in
    get_or-set_other flags number n false false other ∙ before n (omega arith)

pub one-unset : (flags : List Bool) (number : ℕ) → number < length flags
    → ((k : ℕ) → k < number → get_or flags k false ≡ false) → (n : ℕ) → n < number + 1
    → get_or (set flags number false) n false ≡ false
one-unset flags number in_ before n below =
    unset-at flags number n in_ before below (eqb n number) refl

-- ---- numbers of a list, one by one

pub none-marked : (flags : List Bool) (count : ℕ) → flags ≡ replicate count false
    → AreFlags [] flags
none-marked flags count is =
    subst (AreFlags []) (sym is)
    (λ n in_. get_or-replicate count n false false
    (subst (λ k. n < k) (length-replicate count false) in_))

pub all-step : (flags : List Bool) (sources others : List ℕ) (i d : ℕ) → i < length sources
    → AreFlags (get_or sources i d ∷ (take i sources ++ others)) flags
    → AreFlags (take (i + 1) sources ++ others) flags
all-step flags sources others i d in_ are =
    subst (λ xs. AreFlags (xs ++ others) flags) (sym (take_more sources i d in_))
    (λ n at. are n at ∙ front-behind (get_or sources i d) (take i sources) others n)

pub each-step : {A : Type 0} (f : A → ℕ) (flags : List Bool) (xs : List A) (i : ℕ) (x : A)
    → Some x ≡ slice_get xs i → AreFlags (f x ∷ map f (take i xs)) flags
    → AreFlags (map f (take (i + 1) xs)) flags
each-step f flags xs i x is are =
    let more : map f (take (i + 1) xs) ≡ map f (take i xs) ++ f x ∷ [] =
    ap (map f)
    (take_more xs i x (slice_get_within xs i x (sym is))
    ∙ ap (λ y. take i xs ++ y ∷ []) (get_or_from_slice_get xs i x x (sym is)))
    ∙ map_push f (take i xs) x in
    subst (λ ns. AreFlags ns flags) (sym more)
    (λ n at. are n at ∙ first-last (f x) (map f (take i xs)) n)

-- ---- what collections are made from

pub read-next : {A : Type 0} (f : A → Made) (numbers : List ℕ) (xs : List A) (k next : ℕ) (x : A)
    → suc k ≡ next → k < length xs → x ≡ get_or xs k x
    → read_from numbers k (map f (drop k xs))
    ≡ with_reads (read_from numbers next (map f (drop next xs))) k (f x)
read-next f numbers xs k next x after within at =
    ap (λ ys. read_from numbers k (map f ys))
    (drop-cons xs k x within ∙ ap (λ y. y ∷ drop (suc k) xs) (sym at))
    ∙ ap (λ m. with_reads (read_from numbers m (map f (drop m xs))) k (f x)) after

pub none-left : {A : Type 0} (f : A → Made) (numbers : List ℕ) (xs : List A) (k : ℕ)
    → length xs ≤ k → read_from numbers k (map f (drop k xs)) ≡ numbers
none-left f numbers xs k past = ap (λ ys. read_from numbers k (map f ys)) (drop_all k xs past)

-- ---- a program's flags

same-made : (types : List Ty) (nodes : Named HeldNode)
    → map (λ (entry : List ℕ × Node). entry.1.made) (map (node_of types) nodes) ≡ held_made nodes
same-made types [] = refl
same-made types (entry ∷ nodes) = ap (λ all. entry.1.made ∷ all) (same-made types nodes)

pub tells : (known : Known) (functions : Named HeldFunction) (nodes : Named HeldNode)
    (outputs : Named Output) (flags : List Bool) (n : ℕ) (flag : Bool)
    → TellNeeded nodes outputs flags
    → n < length (numbered_of known functions nodes outputs).script.nodes
    → flag ≡ get_or flags n flag
    → flag ≡ is_needed (numbered_of known functions nodes outputs).script n
tells known functions nodes outputs flags n flag tell in_ is =
    let same = length-map nodes (node_of known.types) in
    let within : n < length flags = omega (arith, in_, tell.many, same) in
    is ∙ get_or_default flags n flag false within ∙ tell.told n within
    ∙ ap (λ all. holds_number (read_from (held_reads outputs) 0 all) n)
    (sym (same-made known.types nodes))

-- flags that tell what a collection of a program rests on
pub rests-told : (known : Known) (functions : Named HeldFunction) (nodes : Named HeldNode)
    (outputs : Named Output) (asked : ℕ) (flags : List Bool)
    → AreFlags (read_from (asked ∷ []) 0 (held_made nodes)) flags → (n : ℕ) → n < length flags
    → get_or flags n false ≡ rests (numbered_of known functions nodes outputs).script asked n
rests-told known functions nodes outputs asked flags told n within =
    told n within
    ∙ ap (λ all. holds_number (read_from (asked ∷ []) 0 all) n) (sym (same-made known.types nodes))

pub as-many-flags : (known : Known) (functions : Named HeldFunction) (nodes : Named HeldNode)
    (outputs : Named Output) (flags : List Bool) → length flags ≡ length nodes
    → length flags ≡ length (numbered_of known functions nodes outputs).script.nodes
as-many-flags known functions nodes outputs flags many =
    many ∙ sym (length-map nodes (node_of known.types))
