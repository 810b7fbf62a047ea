-- What names stand for, as more of them come behind those that there are.
use Rattle.std.proofs.Common.{◌≡◌, ℕ, suc, ◌+◌, ◌<◌, Bool, true, false, cond, not, ◌||◌, List, [], ◌∷◌, ◌++◌, length, map, Option, Some, None, is_some, Ok, refl, sym, ap, ◌∙◌, subst, arith, append_assoc, length-append}
use Rattle.std.specs.List.{list_any}
use Rattle.std.specs.Map.{keys_of}
use Rattle.std.specs.Str.{bytes_eq}
use Rattle.std.proofs.lemmas.List.{append-nil}
use Rattle.std.proofs.lemmas.List.Folds.{list_any-append}
use Rattle.std.proofs.lemmas.Slice.Eq.{bytes_eq-Decides}
use Rattle.flume_grammar.specs.declared.fault.ScriptKind.TheVariants.{Twice}
use Rattle.written_types.specs.Answer.{unless}
use Rattle.written_types.specs.Named.{Named, find}
use Rattle.script_keys.specs.Rests.{holds_name}
use Rattle.script_program.specs.declared.made.Standing.{Standing}
use Rattle.script_program.specs.declared.made.Standing.TheVariants.{Collection, Hidden}
use Rattle.script_program.specs.Script.{Making, State, given, node_from, with_node, with_nodes}
use Rattle.direct_meaning.specs.of_script_rules.Rules.{all_fresh}
use Rattle.direct_meaning.proofs.of_script_rules.CheckedLemmas.{both, holds}
use Rattle.direct_meaning.proofs.of_script_rules.StateLemmas.{has-key}
use Rattle.key_meaning.proofs.Alike.{Meet, Paired, Pairs, number_for, stands}

-- ---- names that are found

in-front : {A : Type 0} (b : Bool) (x y : A) (o p : Option A) → (o ≡ Some x → p ≡ Some x)
    → cond b (Some y) o ≡ Some x → cond b (Some y) p ≡ Some x
in-front true x y o p further e = e
in-front false x y o p further e = further e

pub found_first : {A : Type 0} (name : List ℕ) (names more : Named A) (x : A)
    → find name names ≡ Some x → find name (names ++ more) ≡ Some x
found_first name [] more x e = cc
found_first name (entry ∷ names) more x e =
    in-front (bytes_eq name entry.0) x entry.1 (find name names) (find name (names ++ more))
    (found_first name names more x) e

behind : {A : Type 0} (b : Bool) (y : A) (o p q : Option A) → (o ≡ None → p ≡ q)
    → cond b (Some y) o ≡ None → cond b (Some y) p ≡ q
behind true y o p q further e = cc
behind false y o p q further e = further e

pub found_later : {A : Type 0} (name : List ℕ) (names more : Named A) → find name names ≡ None
    → find name (names ++ more) ≡ find name more
found_later name [] more e = refl
found_later name (entry ∷ names) more e =
    behind (bytes_eq name entry.0) entry.1 (find name names) (find name (names ++ more))
    (find name more) (found_later name names more) e

-- a name that stands for none behind stands for what it stood for
pub stands_more : (name : List ℕ) (names more : Named Standing) → stands name more ≡ None
    → stands name (names ++ more) ≡ stands name names
stands_more name names more none = by (find name names) refl
  where
    by : (o : Option Standing) → find name names ≡ o
        → stands name (names ++ more) ≡ stands name names
    by (Some x) is =
        ap number_for (found_first name names more x is) ∙ sym (ap number_for is)
    by None is =
        ap number_for (found_later name names more is) ∙ none ∙ sym (ap number_for is)

pub stands_later : (name : List ℕ) (names more : Named Standing) → find name names ≡ None
    → stands name (names ++ more) ≡ stands name more
stands_later name names more none = ap number_for (found_later name names more none)

-- ---- names that are among others

pub same_bytes : (a b : List ℕ) → bytes_eq a b ≡ true → a ≡ b
same_bytes a b is = (bytes_eq-Decides a b).0 is

pub or-later : (a b : Bool) → b ≡ true → (a || b) ≡ true
or-later true b is = refl
or-later false b is = is

pub neither : (a b : Bool) → (a || b) ≡ false → (a ≡ false) × (b ≡ false)
neither true b is = cc
neither false b is = (refl, is)

-- one that is among them is another than one that is not
pub other_name : (names : List (List ℕ)) (name own : List ℕ) → holds_name names name ≡ true
    → holds_name names own ≡ false → bytes_eq name own ≡ false
other_name names name own here away = by (bytes_eq name own) refl
  where
    by : (b : Bool) → bytes_eq name own ≡ b → b ≡ false
    by false is = refl
    by true is =
        let same : name ≡ own = same_bytes name own is in
        let e : true ≡ false = sym here ∙ ap (holds_name names) same ∙ away in
        cc

-- the same of several
pub other_names : (names : List (List ℕ)) (name : List ℕ) (own : List (List ℕ))
    → holds_name names name ≡ true → list_any (holds_name names) own ≡ false
    → list_any (bytes_eq name) own ≡ false
other_names names name [] here away = refl
other_names names name (first ∷ own) here away =
    let both_ = neither (holds_name names first) (list_any (holds_name names) own) away in
    λ i. other_name names name first here both_.0 i || other_names names name own here both_.1 i

pub none_found : {A : Type 0} (name : List ℕ) (names : Named A)
    → list_any (bytes_eq name) (keys_of names) ≡ false → find name names ≡ None
none_found name names away = by (find name names) (has-key name names ∙ away)
  where
    by : {A : Type 0} (o : Option A) → is_some o ≡ false → o ≡ None
    by None is = refl
    by (Some x) is = cc

-- ---- names that are new

not-true : (b : Bool) → not b ≡ true → b ≡ false
not-true true e = cc
not-true false e = refl

new_names : (line : ℕ) (taken names : List (List ℕ)) (u : Unit {0})
    → all_fresh line taken names ≡ Ok u → (name : List ℕ) → list_any (bytes_eq name) names ≡ true
    → list_any (bytes_eq name) taken ≡ false
new_names line taken [] u e name among = cc
new_names line taken (own ∷ names) u e name among =
    by (λ t new later. new_names line t names u new name later) (bytes_eq name own) refl among
  where
    by : ((t : List (List ℕ)) → all_fresh line t names ≡ Ok u
        → list_any (bytes_eq name) names ≡ true → list_any (bytes_eq name) t ≡ false)
        → (b : Bool) → bytes_eq name own ≡ b
        → (b || list_any (bytes_eq name) names) ≡ true
        → list_any (bytes_eq name) taken ≡ false
    by again true is later =
        let new = both (unless line Twice (not (list_any (bytes_eq own) taken))) _ u e in
        let same : name ≡ own = same_bytes name own is in
        ap (λ n. list_any (bytes_eq n) taken) same
        ∙ not-true (list_any (bytes_eq own) taken) (holds line Twice _ new.part new.first)
    by again false is later =
        let new = both (unless line Twice (not (list_any (bytes_eq own) taken))) _ u e in
        (neither (list_any (bytes_eq name) taken) (list_any (bytes_eq name) (own ∷ []))
        (sym (list_any-append (bytes_eq name) taken (own ∷ []))
        ∙ again (taken ++ own ∷ []) new.then later)).0

-- a name that is found to be new stands for nothing
pub new_found : {A : Type 0} (line : ℕ) (names : Named A) (own : List (List ℕ)) (u : Unit {0})
    → all_fresh line (keys_of names) own ≡ Ok u → (name : List ℕ)
    → list_any (bytes_eq name) own ≡ true → find name names ≡ None
new_found line names own u e name among =
    none_found name names (new_names line (keys_of names) own u e name among)

-- ---- names of what a let makes

-- so many of them stand for collections from a number on
abbrev pub standing : List (List ℕ) → List Making → ℕ → Named Standing
standing [] makings k = []
standing (name ∷ names) [] k = []
standing (name ∷ names) (making ∷ makings) k =
    (name, Collection k) ∷ standing names makings (suc k)

pub names_are : (names : List (List ℕ)) (makings : List Making) (s : State)
    → (with_nodes names makings s).names ≡ s.names ++ standing names makings (length s.nodes)
names_are [] makings s = sym (append-nil s.names)
names_are (name ∷ names) [] s = sym (append-nil s.names)
names_are (name ∷ names) (making ∷ makings) s =
    let next = with_node name making s in
    let one : length next.nodes ≡ suc (length s.nodes) =
    omega (arith, length-append s.nodes ((name, node_from s.statements making) ∷ [])) in
    names_are names makings next
    ∙ ap (λ k. next.names ++ standing names makings k) one
    ∙ append_assoc s.names ((name, Collection (length s.nodes)) ∷ [])
    (standing names makings (suc (length s.nodes)))

pub types_are : (names : List (List ℕ)) (makings : List Making) (s : State)
    → (with_nodes names makings s).types ≡ s.types
types_are [] makings s = refl
types_are (name ∷ names) [] s = refl
types_are (name ∷ names) (making ∷ makings) s = types_are names makings (with_node name making s)

pub none_standing : (name : List ℕ) (names : List (List ℕ)) (makings : List Making) (k : ℕ)
    → list_any (bytes_eq name) names ≡ false → stands name (standing names makings k) ≡ None
none_standing name [] makings k away = refl
none_standing name (own ∷ names) [] k away = refl
none_standing name (own ∷ names) (making ∷ makings) k away =
    let both_ = neither (bytes_eq name own) (list_any (bytes_eq name) names) away in
    ap (λ b. number_for (cond b (Some (Collection k)) (find name (standing names makings (suc k)))))
    both_.0
    ∙ none_standing name names makings (suc k) both_.1

-- a name of both stands for a pair in both, or for none
pub standing_meet : (pairs : Pairs) (name : List ℕ) (names : List (List ℕ))
    (makings others : List Making) (k l : ℕ) → length makings ≡ length others
    → ((i : ℕ) → i < length makings → Paired pairs (k + i) (l + i))
    → Meet pairs (stands name (standing names makings k)) (stands name (standing names others l))
standing_meet pairs name [] makings others k l same all = tt
standing_meet pairs name (own ∷ names) [] [] k l same all = tt
standing_meet pairs name (own ∷ names) [] (other ∷ others) k l same all =
    absurd (omega (arith, same))
standing_meet pairs name (own ∷ names) (making ∷ makings) [] k l same all =
    absurd (omega (arith, same))
standing_meet pairs name (own ∷ names) (making ∷ makings) (other ∷ others) k l same all =
    by
    (standing_meet pairs name names makings others (suc k) (suc l) (omega (arith, same))
    (λ i below.
    let here : k + suc i ≡ suc k + i = omega arith in
    let there : l + suc i ≡ suc l + i = omega arith in
    subst (λ n. Paired pairs n (suc l + i)) here
    (subst (λ n. Paired pairs (k + suc i) n) there (all (suc i) (omega arith)))))
    (bytes_eq name own)
  where
    by : Meet pairs (stands name (standing names makings (suc k)))
        (stands name (standing names others (suc l)))
        → (b : Bool)
        → Meet pairs
        (number_for (cond b (Some (Collection k)) (find name (standing names makings (suc k)))))
        (number_for (cond b (Some (Collection l)) (find name (standing names others (suc l)))))
    by later true =
        let here : k + 0 ≡ k = omega arith in
        let there : l + 0 ≡ l = omega arith in
        subst (λ n. Paired pairs n l) here
        (subst (λ n. Paired pairs (k + 0) n) there (all 0 (omega arith)))
    by later false = later

-- ---- names behind a repeat

-- names that are taken
abbrev pub hidden : List (List ℕ) → Named Standing
hidden names = map (λ name. (name, Hidden)) names

none_hidden : (name : List ℕ) (names : Named Standing) → stands name (given [] names) ≡ None
none_hidden name [] = refl
none_hidden name (entry ∷ names) = by (none_hidden name names) (bytes_eq name entry.0)
  where
    by : stands name (given [] names) ≡ None → (b : Bool)
        → number_for (cond b (Some Hidden) (find name (given [] names))) ≡ None
    by later true = refl
    by later false = later

pub none_given : (name : List ℕ) (own : List (List ℕ)) (gives : List ℕ) (rest : Named Standing)
    → length gives ≡ length own → list_any (bytes_eq name) own ≡ false
    → stands name (given gives (hidden own ++ rest)) ≡ None
none_given name [] [] rest same away = none_hidden name rest
none_given name [] (n ∷ gives) rest same away = absurd (omega (arith, same))
none_given name (first ∷ own) [] rest same away = absurd (omega (arith, same))
none_given name (first ∷ own) (n ∷ gives) rest same away =
    let both_ = neither (bytes_eq name first) (list_any (bytes_eq name) own) away in
    ap
    (λ b. number_for (cond b (Some (Collection n)) (find name (given gives (hidden own ++ rest)))))
    both_.0
    ∙ none_given name own gives rest (omega (arith, same)) both_.1
