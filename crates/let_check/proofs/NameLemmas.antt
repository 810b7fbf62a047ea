-- Names that are found to be new are so where they are added, one after another.
use Rattle.std.proofs.Common.{◌≡◌, ℕ, Bool, true, false, not, ◌||◌, List, [], ◌∷◌, ◌++◌}
use Rattle.std.proofs.Common.{is_some, Ok, refl, sym, ap, ◌∙◌, subst}
use Rattle.std.proofs.Common.{map, ◌⊎◌, inl, inr}
use Rattle.std.specs.List.{list_any}
use Rattle.std.specs.Map.{keys_of}
use Rattle.std.specs.Str.{bytes_eq}
use Rattle.std.proofs.lemmas.List.Folds.{list_any-append}
use Rattle.flume_grammar.specs.declared.fault.ScriptKind.TheVariants.{Twice}
use Rattle.operation_check.specs.of_written_types.Answer.{unless}
use Rattle.operation_check.specs.of_written_types.Named.{Named, find}
use Rattle.flume_types.specs.declared.types.Ty.{Ty}
use Rattle.script_program.specs.declared.made.Making.{Making as HeldMaking}
use Rattle.script_program.specs.Program.{making_in}
use Rattle.script_program.specs.declared.made.Standing.TheVariants.{Hidden}
use Rattle.script_program.specs.Script.{Making, State, with_standing, with_node}
use Rattle.script_program.specs.Script.{with_nodes}
use Rattle.script_rules.specs.Rules.{all_fresh}
use Rattle.let_check.specs.inner.Names.{AreFree, AreNew}
use Rattle.script_rules.proofs.CheckedLemmas.{both, holds}
use Rattle.script_rules.proofs.StateLemmas.{has-key}

-- a name stands for something where it is among the names, or among more
pub is-among : {A : Type 0} (name : List ℕ) (names : Named A) (more : List (List ℕ))
    → (is_some (find name names) || list_any (bytes_eq name) more)
    ≡ list_any (bytes_eq name) (keys_of names ++ more)
is-among name names more =
    ap (λ b. b || list_any (bytes_eq name) more) (has-key name names)
    ∙ sym (list_any-append (bytes_eq name) (keys_of names) more)

keys-push : {A : Type 0} (names : Named A) (name : List ℕ) (x : A)
    → keys_of (names ++ (name, x) ∷ []) ≡ keys_of names ++ name ∷ []
keys-push [] name x = refl
keys-push (entry ∷ names) name x = ap (λ keys. entry.0 ∷ keys) (keys-push names name x)

not-true : (b : Bool) → not b ≡ true → b ≡ false
not-true true e = cc
not-true false e = refl

pub are-new : (line : ℕ) (names : List (List ℕ)) (makings : List Making) (s : State) (u : Unit {0})
    → all_fresh line (keys_of s.names) names ≡ Ok u → AreNew names makings s
are-new line [] makings s u e = tt
are-new line (name ∷ names) [] s u e = tt
are-new line (name ∷ names) (making ∷ makings) s u e =
    let taken = list_any (bytes_eq name) (keys_of s.names) in
    let new = both (unless line Twice (not taken)) _ u e in
    let next = with_node name making s in (
      has-key name s.names ∙ not-true taken (holds line Twice _ new.part new.first),
      are-new line names makings next u
          (subst (λ keys. all_fresh line keys names ≡ Ok u) (sym (keys-push s.names name _))
          new.then),
    )

pub are-free : (line : ℕ) (names : List (List ℕ)) (s : State) (u : Unit {0})
    → all_fresh line (keys_of s.names) names ≡ Ok u → AreFree names s
are-free line [] s u e = tt
are-free line (name ∷ names) s u e =
    let taken = list_any (bytes_eq name) (keys_of s.names) in
    let new = both (unless line Twice (not taken)) _ u e in
    let next = with_standing name Hidden s in (
      has-key name s.names ∙ not-true taken (holds line Twice _ new.part new.first),
      are-free line names next u
          (subst (λ keys. all_fresh line keys names ≡ Ok u) (sym (keys-push s.names name _))
          new.then),
    )

-- ---- one name after another, of names and what is made in memory

pub none-added : (types : List Ty) (names : List (List ℕ)) (makings : List HeldMaking) (s : State)
    → (names ≡ []) ⊎ (makings ≡ []) → s ≡ with_nodes names (map (making_in types) makings) s
none-added types [] makings s ended = refl
none-added types (name ∷ names) [] s ended = refl
none-added types (name ∷ names) (making ∷ makings) s (inl e) = cc
none-added types (name ∷ names) (making ∷ makings) s (inr e) = cc

module _ (types : List Ty) (s : State) (name : List ℕ) (names all-names : List (List ℕ))
    (making : HeldMaking) (makings all-makings : List HeldMaking)
    (first : all-names ≡ name ∷ names) (second : all-makings ≡ making ∷ makings)
    (types-after : List Ty) (after : State) (same : types-after ≡ types)
    (put : after ≡ with_node name (making_in types making) s) where
  -- the other names are new behind the first
  pub others-new : AreNew all-names (map (making_in types) all-makings) s
      → AreNew names (map (making_in types-after) makings) after
  others-new new =
      let both = subst (λ names. AreNew names (map (making_in types) (making ∷ makings)) s) first
      (subst (λ makings. AreNew all-names (map (making_in types) makings) s) second new) in
      subst (λ s. AreNew names (map (making_in types-after) makings) s) (sym put)
      (subst (λ types-now. AreNew names (map (making_in types-now) makings)
      (with_node name (making_in types making) s)) (sym same) both.1)

  -- what is added with the others is added with all of them
  pub others-added : with_nodes names (map (making_in types-after) makings) after
      ≡ with_nodes all-names (map (making_in types) all-makings) s
  others-added =
      ap (λ types-now. with_nodes names (map (making_in types-now) makings) after) same
      ∙ ap (with_nodes names (map (making_in types) makings)) put
      ∙ sym (ap (λ names. with_nodes names (map (making_in types) (making ∷ makings)) s) first)
      ∙ sym (ap (λ makings. with_nodes all-names (map (making_in types) makings) s) second)
