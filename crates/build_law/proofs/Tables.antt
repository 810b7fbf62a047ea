-- The collections that are made of a script: which they are, and that what they are made of is
-- made.
use Rattle.std.proofs.Common.{◌≡◌, ℕ, zero, suc, Bool, true, false, List, [], ◌∷◌, ◌++◌, length, get_or, Option, Some, None, refl, sym, ◌∙◌, subst, arith, append_assoc, append-nil, length-append}
use Rattle.std.specs.Prelude.{option_and_then, if◌then◌else◌}
use Rattle.flume_value.specs.declared.value.Value.{Value}
use Rattle.flume_collection.specs.Collection.{Collection}
use Rattle.written_types.specs.Named.{Named}
use Rattle.graph_build.specs.of_script_program.declared.made.Made.{Made}
use Rattle.graph_build.specs.of_script_program.Script.{Node, Script}
use Rattle.direct_meaning.specs.Direct.{collections, inputs_behind, made_as, made_at}
use Rattle.graph_build.specs.of_script_program.Needed.{is_needed}
use Rattle.graph_build.specs.Wanted.{wanted_from}
pub use Rattle.direct_meaning.proofs.PlaceLemmas.{found_then as and_then_some, mapped as map_some}

-- ---- tables

-- made exactly where it is needed
abbrev pub Matches : List (Option Collection) → List (Option Made) → Type 0
Matches [] [] = Unit {0}
Matches (None ∷ table) (None ∷ ws) = Matches table ws
Matches (Some c ∷ table) (Some made ∷ ws) = Matches table ws
Matches _ _ = ⊥

pub record Continues (script : Script) (table : List (Option Collection)) (nodes : Named Node)
    (all : List (Option Collection)) : Type 0 where
  pub tail : List (Option Collection)
  pub is : all ≡ table ++ tail
  pub matches : Matches tail (wanted_from script (length table) nodes)

pub one_longer : {A : Type 0} (xs : List A) (x : A) → length (xs ++ x ∷ []) ≡ suc (length xs)
one_longer xs x = rw length-append (omega arith)

-- one node more, whether it is needed or not
with_made : (script : Script) (table all : List (Option Collection)) (entry : List ℕ × Node)
    (nodes : Named Node) (c : Collection) → is_needed script (length table) ≡ true
    → Continues script (table ++ Some c ∷ []) nodes all
    → Continues script table (entry ∷ nodes) all
with_made script table all entry nodes c needed h = record {
  tail = Some c ∷ h.tail;
  is = h.is ∙ append_assoc table (Some c ∷ []) h.tail;
  matches =
      subst
      (λ b. Matches (Some c ∷ h.tail)
      ((if b then Some entry.1.made else None) ∷ wanted_from script (suc (length table)) nodes))
      (sym needed)
      (subst (λ k. Matches h.tail (wanted_from script k nodes)) (one_longer table (Some c))
      h.matches);
}

without_made : (script : Script) (table all : List (Option Collection)) (entry : List ℕ × Node)
    (nodes : Named Node) → is_needed script (length table) ≡ false
    → Continues script (table ++ None ∷ []) nodes all
    → Continues script table (entry ∷ nodes) all
without_made script table all entry nodes needless h = record {
  tail = None ∷ h.tail;
  is = h.is ∙ append_assoc table (None ∷ []) h.tail;
  matches =
      subst
      (λ b. Matches (None ∷ h.tail)
      ((if b then Some entry.1.made else None) ∷ wanted_from script (suc (length table)) nodes))
      (sym needless)
      (subst (λ k. Matches h.tail (wanted_from script k nodes)) (one_longer table None)
      h.matches);
}

next_continues : (script : Script) (table all : List (Option Collection)) (entry : List ℕ × Node)
    (nodes : Named Node) (inputs : List (List Value)) (b : Bool)
    → is_needed script (length table) ≡ b
    → ((inputs : List (List Value)) (table : List (Option Collection))
    → collections script nodes inputs table ≡ Some all → Continues script table nodes all)
    → (if b then option_and_then (λ c.
    collections script nodes (inputs_behind entry.1.made inputs) (table ++ Some c ∷ []))
    (made_as script (length table) entry.1.made inputs table)
    else collections script nodes inputs (table ++ None ∷ [])) ≡ Some all
    → Continues script table (entry ∷ nodes) all
next_continues script table all entry nodes inputs true needed behind h =
    let (c, made, rest) =
    and_then_some
    (λ c. collections script nodes (inputs_behind entry.1.made inputs) (table ++ Some c ∷ []))
    (made_as script (length table) entry.1.made inputs table) all h in
    with_made script table all entry nodes c needed
    (behind (inputs_behind entry.1.made inputs) (table ++ Some c ∷ []) rest)
next_continues script table all entry nodes inputs false needless behind h =
    without_made script table all entry nodes needless (behind inputs (table ++ None ∷ []) h)

-- what is made of the nodes behind a table
pub continues : (script : Script) (nodes : Named Node) (inputs : List (List Value))
    (table all : List (Option Collection)) → collections script nodes inputs table ≡ Some all
    → Continues script table nodes all
continues script [] [] table all h =
    let e : table ≡ all = cc in
    record { tail = []; is = sym e ∙ sym (append-nil table); matches = tt }
continues script [] (rows ∷ inputs) table all h = cc
continues script (entry ∷ nodes) inputs table all h =
    next_continues script table all entry nodes inputs (is_needed script (length table)) refl
    (λ inputs table. continues script nodes inputs table all) h

-- what is made is needed
pub made_wanted : (table : List (Option Collection)) (ws : List (Option Made)) (j : ℕ)
    (c : Collection) → Matches table ws → made_at table j ≡ Some c
    → (made : Made) × (get_or ws j None ≡ Some made)
made_wanted [] ws j c m h = cc
made_wanted (None ∷ table) (None ∷ ws) zero c m h = cc
made_wanted (Some d ∷ table) (Some made ∷ ws) zero c m h = (made, refl)
made_wanted (None ∷ table) (None ∷ ws) (suc j) c m h = made_wanted table ws j c m h
made_wanted (Some d ∷ table) (Some made ∷ ws) (suc j) c m h = made_wanted table ws j c m h
made_wanted (None ∷ table) (Some made ∷ ws) j c m h = elim m [ ]
made_wanted (Some d ∷ table) (None ∷ ws) j c m h = elim m [ ]
made_wanted (None ∷ table) [] j c m h = elim m [ ]
made_wanted (Some d ∷ table) [] j c m h = elim m [ ]

-- what is made stays made
pub made_before : (table tail : List (Option Collection)) (j : ℕ) (c : Collection)
    → made_at table j ≡ Some c → made_at (table ++ tail) j ≡ Some c
made_before [] tail j c h = cc
made_before (d ∷ table) tail zero c h = h
made_before (d ∷ table) tail (suc j) c h = made_before table tail j c h

pub made_next : (table tail : List (Option Collection)) (c : Collection)
    → made_at (table ++ Some c ∷ tail) (length table) ≡ Some c
made_next [] tail c = refl
made_next (d ∷ table) tail c = made_next table tail c
