-- What enters a repeat, and what stands behind it, in two states that are alike.
use Rattle.std.proofs.Common.{◌≡◌, ℕ, zero, suc, ◌+◌, ◌≤◌, Bool, true, false, cond, List, [], ◌∷◌, ◌++◌, length, map, drop, Some, None, slice_get, refl, sym, ap, ◌∙◌, subst, arith}
use Rattle.std.specs.List.{AllZip}
use Rattle.std.specs.Str.{bytes_eq}
use Rattle.written_types.specs.Named.{Named, find}
use Rattle.script_keys.specs.declared.rests.Names.{Names}
use Rattle.script_program.specs.declared.made.Made.{Made}
use Rattle.script_program.specs.declared.made.Made.TheVariants as made
use Rattle.script_program.specs.declared.made.Standing.{Standing}
use Rattle.script_program.specs.declared.made.Standing.TheVariants.{Collection, Hidden}
use Rattle.script_program.specs.Script.{Function, Node, Operand, State, given, with_hidden}
use Rattle.direct_meaning.specs.of_script_rules.Rules as spec
use Rattle.direct_meaning.proofs.of_script_rules.StateLemmas.{nodes-hidden}
use Rattle.direct_meaning.proofs.of_script_rules.FoundLemmas.{own}
use Rattle.direct_meaning.specs.of_script_laws.Fitting.{AreInPlace, IsInPlace}
use Rattle.direct_meaning.proofs.of_script_laws.RepeatLemmas.{functions-hidden}
use Rattle.key_meaning.proofs.Adding.{Placed}
use Rattle.key_meaning.proofs.Alike.{FunctionsMeet, IsAlike, MadeAlike, MakingAlike, Meet, NodeAlike, Paired, Pairs, flatten, number_for, place_of, stands, whole}
use Rattle.key_meaning.proofs.Finding.{OperandAlike}
use Rattle.key_meaning.proofs.Repeating.{names_hidden}
use Rattle.key_meaning.proofs.Standing.{hidden, none_given, stands_more}

-- ---- what enters

none_taken : (name : List ℕ) (names : List (List ℕ)) → stands name (hidden names) ≡ None
none_taken name [] = refl
none_taken name (own ∷ names) = by (none_taken name names) (bytes_eq name own)
  where
    by : stands name (hidden names) ≡ None → (b : Bool)
        → number_for (cond b (Some Hidden) (find name (hidden names))) ≡ None
    by later true = refl
    by later false = later

module _ (SameFile : List ℕ → Type 0) (names : Names) (pairs : Pairs) (s r : State)
    (alike : IsAlike SameFile names pairs s r) (own_ : List (List ℕ)) where
  hidden_names : (t : State) (name : List ℕ)
      → stands name (with_hidden own_ t).names ≡ stands name t.names
  hidden_names t name =
      ap (stands name) (names_hidden own_ t)
      ∙ stands_more name t.names (hidden own_) (none_taken name own_)

  pub hidden_alike : IsAlike SameFile names pairs (with_hidden own_ s) (with_hidden own_ r)
  hidden_alike = record {
    collections = λ name is.
        subst (Meet pairs (stands name (with_hidden own_ s).names)) (sym (hidden_names r name))
        (subst (λ o. Meet pairs o (stands name r.names)) (sym (hidden_names s name))
        (alike.collections name is));
    functions = λ name is.
        subst (λ fs. FunctionsMeet (find name (with_hidden own_ s).functions) (find name fs))
        (sym (functions-hidden own_ r))
        (subst (λ fs. FunctionsMeet (find name fs) (find name r.functions))
        (sym (functions-hidden own_ s)) (alike.functions name is));
    paired = λ a b among.
        subst (λ ns. NodeAlike SameFile pairs (with_hidden own_ s).functions
        (with_hidden own_ r).functions (with_hidden own_ s).nodes ns a b)
        (sym (nodes-hidden own_ r))
        (subst (λ ns. NodeAlike SameFile pairs (with_hidden own_ s).functions
        (with_hidden own_ r).functions ns r.nodes a b) (sym (nodes-hidden own_ s))
        (subst (λ fs. NodeAlike SameFile pairs (with_hidden own_ s).functions fs s.nodes r.nodes
        a b) (sym (functions-hidden own_ r))
        (subst (λ fs. NodeAlike SameFile pairs fs r.functions s.nodes r.nodes a b)
        (sym (functions-hidden own_ s)) (alike.paired a b among))));
  }

module _ (SameFile : List ℕ → Type 0) (pairs : Pairs) (functions others : Named Function) where
  again_alike : (kind : Bool) (a b : ℕ) → Paired pairs a b
      → MadeAlike SameFile pairs functions others (spec.again kind a) (spec.again kind b)
  again_alike true a b reads = whole reads
  again_alike false a b reads = flatten (reads, tt)

  pub entered_alike : (from more : List Operand) → AllZip (OperandAlike pairs) from more
      → AllZip (MakingAlike SameFile pairs functions others) (map spec.entered from)
      (map spec.entered more)
  entered_alike [] [] zipped = tt
  entered_alike [] (two ∷ more) zipped = absurd zipped
  entered_alike (one ∷ from) [] zipped = absurd zipped
  entered_alike (one ∷ from) (two ∷ more) zipped = (
    record {
      type = zipped.0.type;
      how =
          subst
          (λ kind. MadeAlike SameFile pairs functions others (spec.again one.is_object one.number)
          (spec.again kind two.number))
          zipped.0.kind (again_alike one.is_object one.number two.number zipped.0.number);
    },
    entered_alike from more zipped.1,
  )

again_placed : (kind : Bool) (number k : ℕ) → place_of (spec.again kind number) ≤ k
again_placed true number k = omega arith
again_placed false number k = omega arith

pub entered_placed : (k : ℕ) (from : List Operand) → Placed k (map spec.entered from)
entered_placed k [] = tt
entered_placed k (one ∷ from) =
    (again_placed one.is_object one.number k, entered_placed (suc k) from)

-- ---- lets of a body

pub in_place_at : (k : ℕ) (hows : List Made) → AreInPlace k hows → (j : ℕ) (how : Made)
    → slice_get hows j ≡ Some how → place_of how ≤ k + j
in_place_at k [] are j how at = cc
in_place_at k (first ∷ hows) are zero how at =
    let same : first ≡ how = cc in
    let here = own_place k first are.0 in
    subst (λ h. place_of h ≤ k + 0) same (omega (arith, here))
  where
    own_place : (k : ℕ) (how : Made) → IsInPlace k how → place_of how ≤ k
    own_place k (made.Do source called output) is = is
    own_place k _ is = omega arith
in_place_at k (first ∷ hows) are (suc j) how at =
    let later = in_place_at (suc k) hows are.1 j how at in
    omega (arith, later)

pub drop_get : {A : Type 0} (n : ℕ) (xs : List A) (j : ℕ)
    → slice_get (drop n xs) j ≡ slice_get xs (n + j)
drop_get zero xs j = let e : j ≡ 0 + j = omega arith in ap (slice_get xs) e
drop_get (suc n) [] j = refl
drop_get (suc n) (x ∷ xs) j =
    let e : suc (n + j) ≡ suc n + j = omega arith in
    drop_get n xs j ∙ ap (slice_get (x ∷ xs)) e

pub mapped_at : (nodes : Named Node) (j : ℕ) (entry : List ℕ × Node)
    → slice_get nodes j ≡ Some entry
    → slice_get (map (λ (e : List ℕ × Node). e.1.made) nodes) j ≡ Some entry.1.made
mapped_at [] j entry at = cc
mapped_at (first ∷ nodes) zero entry at =
    let same : first ≡ entry = cc in ap (λ (e : List ℕ × Node). Some e.1.made) same
mapped_at (first ∷ nodes) (suc j) entry at = mapped_at nodes j entry at

-- ---- names behind a repeat

pub given_meet : (pairs : Pairs) (name : List ℕ) (own_ : List (List ℕ)) (gs hs : List ℕ)
    (rest more : Named Standing) → AllZip (Paired pairs) gs hs → length gs ≡ length own_
    → Meet pairs (stands name (given gs (hidden own_ ++ rest)))
    (stands name (given hs (hidden own_ ++ more)))
given_meet pairs name [] [] [] rest more zipped same =
    subst (λ o. Meet pairs o (stands name (given [] more)))
    (sym (none_given name [] [] rest refl refl))
    (subst (Meet pairs None) (sym (none_given name [] [] more refl refl)) tt)
given_meet pairs name [] (g ∷ gs) hs rest more zipped same = absurd (omega (arith, same))
given_meet pairs name (first ∷ own_) [] hs rest more zipped same = absurd (omega (arith, same))
given_meet pairs name own_ [] (h ∷ hs) rest more zipped same = absurd zipped
given_meet pairs name own_ (g ∷ gs) [] rest more zipped same = absurd zipped
given_meet pairs name (first ∷ own_) (g ∷ gs) (h ∷ hs) rest more zipped same =
    by (given_meet pairs name own_ gs hs rest more zipped.1 (omega (arith, same)))
    (bytes_eq name first)
  where
    by : Meet pairs (stands name (given gs (hidden own_ ++ rest)))
        (stands name (given hs (hidden own_ ++ more)))
        → (b : Bool)
        → Meet pairs
        (number_for (cond b (Some (Collection g)) (find name (given gs (hidden own_ ++ rest)))))
        (number_for (cond b (Some (Collection h)) (find name (given hs (hidden own_ ++ more)))))
    by later true = zipped.0
    by later false = later
