-- The lists of a script in which no collection is a kept one stand in its order, and rows of its
-- inputs are such lists.
use Rattle.std.proofs.Common.{◌≡◌, ℕ, suc, Bool, true, false, cond, List, [], ◌∷◌, ◌++◌, if◌then◌else◌, refl, sym, ap, subst}
use Rattle.std.specs.List.{AllByRecursion as Each, filter, flat_map}
use Rattle.flume_types.specs.declared.types.Ty.{Ty}
use Rattle.flume_value.specs.declared.value.Value.{Value}
use Rattle.script_laws.specs.of_written_types.Named.{Named}
use Rattle.script_program.specs.declared.made.Made.{Made}
use Rattle.script_program.specs.declared.made.Made.TheVariants as made
use Rattle.script_program.specs.Needed.{is_needed, collections_numbered}
use Rattle.script_program.specs.Saved.{IsUnsaved}
use Rattle.script_program.specs.Script.{Node, Script}
use Rattle.script_program.specs.Sources.{in_order, by_kinds, source_kind, source_kinds}
use Rattle.direct_meaning.specs.Inputs.{AreInputs, AreLists, HaveRows, Sourced, Wanted, inputs_of, sourced, sourced_by, wanted_by}

abbrev pub more_if : {X : Type 0} → Bool → List X → List X → List X
more_if b xs rest = if b then xs ++ rest else rest

pub flat-if : {A B : Type 0} (g : A → List B) (b : Bool) (x : A) (xs : List A)
    → flat_map g (cond b (x ∷ xs) xs) ≡ more_if b (g x) (flat_map g xs)
flat-if g true x xs = refl
flat-if g false x xs = refl

-- all inputs: as they stand
all-inputs : {X : Type 0} (kinds : List Bool) → Each (λ kind. kind ≡ false) kinds
    → (lists : List X) → by_kinds kinds lists ≡ lists
all-inputs [] none lists = refl
all-inputs (true ∷ kinds) none lists = let e = none.0 in cc
all-inputs (false ∷ kinds) none [] = refl
all-inputs (false ∷ kinds) none (list ∷ lists) =
    ap (λ l. list ∷ l) (all-inputs kinds none.1 lists)

no-kept : (b : Bool) (how : Made) → IsUnsaved how → (rest : List Bool)
    → Each (λ kind. kind ≡ false) rest
    → Each (λ kind. kind ≡ false) (more_if b (source_kind how) rest)
no-kept false how un rest each = each
no-kept true (made.Input file columns) un rest each = (refl, each)
no-kept true (made.Saved is_object call) un rest each = absurd un
no-kept true _ un rest each = each

all-plain : (script : Script) (n : ℕ) (nodes : Named Node)
    → Each (λ entry. IsUnsaved entry.1.made) nodes
    → Each (λ kind. kind ≡ false)
    (flat_map (λ it. source_kind it.1.1.made)
    (filter (λ it. is_needed script it.0) (collections_numbered n nodes)))
all-plain script n [] un = tt
all-plain script n (entry ∷ nodes) un =
    subst (Each (λ kind. kind ≡ false))
    (sym
    (flat-if (λ (x : ℕ × (List ℕ × Node)). source_kind x.1.1.made) (is_needed script n) (n, entry)
    (filter (λ it. is_needed script it.0) (collections_numbered (suc n) nodes))))
    (no-kept (is_needed script n) entry.1.made un.0 _ (all-plain script (suc n) nodes un.1))

-- its lists stand in order of the script
pub plain-order : {X : Type 0} (script : Script)
    → Each (λ entry. IsUnsaved entry.1.made) script.nodes → (lists : List X)
    → in_order script lists ≡ lists
plain-order script un lists =
    all-inputs (source_kinds script) (all-plain script 0 script.nodes un) lists

-- ---- rows of inputs are lists of its sources

one-more : (b : Bool) (how : Made) → IsUnsaved how → (type : Ty) (own : List Wanted)
    (others : List Sourced) (rows : List (List Value))
    → ((left : List (List Value)) → HaveRows own left → AreLists others left)
    → HaveRows (more_if b (wanted_by how type) own) rows
    → AreLists (more_if b (sourced_by how type) others) rows
one-more false how un type own others rows behind have = behind rows have
one-more true (made.Input file columns) un type own others [] behind have = absurd have
one-more true (made.Input file columns) un type own others (list ∷ rows) behind have =
    (record { typed = have.0; one = λ e. cc }, behind rows have.1)
one-more true (made.Saved is_object call) un type own others rows behind have = absurd un
one-more true _ un type own others rows behind have = behind rows have

lists-from : (script : Script) (n : ℕ) (nodes : Named Node)
    → Each (λ entry. IsUnsaved entry.1.made) nodes → (rows : List (List Value))
    → HaveRows (flat_map (λ it. wanted_by it.1.1.made it.1.1.type)
    (filter (λ it. is_needed script it.0) (collections_numbered n nodes))) rows
    → AreLists (flat_map (λ it. sourced_by it.1.1.made it.1.1.type)
    (filter (λ it. is_needed script it.0) (collections_numbered n nodes))) rows
lists-from script n [] un [] have = tt
lists-from script n [] un (list ∷ rows) have = absurd have
lists-from script n (entry ∷ nodes) un rows have =
    let rest = filter (λ it. is_needed script it.0) (collections_numbered (suc n) nodes) in
    subst (λ l. AreLists l rows)
    (sym (flat-if (λ (x : ℕ × (List ℕ × Node)). sourced_by x.1.1.made x.1.1.type)
    (is_needed script n) (n, entry) rest))
    (one-more (is_needed script n) entry.1.made un.0 entry.1.type _ _ rows
    (λ left. lists-from script (suc n) nodes un.1 left)
    (subst (λ l. HaveRows l rows)
    (flat-if (λ (x : ℕ × (List ℕ × Node)). wanted_by x.1.1.made x.1.1.type) (is_needed script n)
    (n, entry) rest) have))

pub plain-inputs : (script : Script) → Each (λ entry. IsUnsaved entry.1.made) script.nodes
    → (rows : List (List Value)) → HaveRows (inputs_of script) rows → AreInputs script rows
plain-inputs script un rows have =
    subst (AreLists (sourced script)) (sym (plain-order script un rows))
    (lists-from script 0 script.nodes un rows have)
