-- Lists of collections that are alike, one by one.
use Rattle.std.proofs.Common.{◌≡◌, ℕ, zero, suc, ◌+◌, ◌<◌, List, [], ◌∷◌, ◌++◌, length, Option, Some, slice_get, refl, sym, ap, ◌∙◌, subst, arith, ⊎_elim}
use Rattle.std.specs.Prelude.{⊤}
use Rattle.std.proofs.lemmas.List.Elements.{Contains-append_cases}
use Rattle.written_types.specs.Named.{Named}
use Rattle.script_program.specs.Script.{Function, Node}
use Rattle.direct_meaning.proofs.of_script_laws.PlaceLemmas.{behind-is, front-kept}
use Rattle.key_meaning.proofs.Alike.{EntryAlike, NodeAlike, Paired, Pairs}
use Rattle.key_meaning.proofs.Lists.{along, along_from}

-- ---- entries that are alike, from two numbers on

module _ (SameFile : List ℕ → Type 0) (pairs : Pairs) (functions others : Named Function) where
  abbrev pub EntriesAlike : ℕ → ℕ → Named Node → Named Node → Type 0
  EntriesAlike a b [] [] = ⊤
  EntriesAlike a b [] (other ∷ rest) = ⊥
  EntriesAlike a b (entry ∷ nodes) [] = ⊥
  EntriesAlike a b (entry ∷ nodes) (other ∷ rest) =
      EntryAlike SameFile pairs functions others a b entry other
      × EntriesAlike (suc a) (suc b) nodes rest

  -- those of two places
  pub record EntryAt (a b : ℕ) (o p : Option (List ℕ × Node)) : Type 0 where
    pub entry : List ℕ × Node
    pub other : List ℕ × Node
    pub here : o ≡ Some entry
    pub there : p ≡ Some other
    pub alike : EntryAlike SameFile pairs functions others a b entry other

  -- under the same numbers
  moved : (a b c d : ℕ) (o p : Option (List ℕ × Node)) → a ≡ c → b ≡ d → EntryAt a b o p
      → EntryAt c d o p
  moved a b c d o p here there_ it =
      subst (λ (at : ℕ × ℕ). EntryAt at.0 at.1 o p) (λ i. (here i, there_ i)) it

  pub entry_at : (a b : ℕ) (nodes rest : Named Node) → EntriesAlike a b nodes rest → (i : ℕ)
      → i < length nodes → EntryAt (a + i) (b + i) (slice_get nodes i) (slice_get rest i)
  entry_at a b [] [] alike i below = absurd (omega arith)
  entry_at a b [] (other ∷ rest) alike i below = absurd alike
  entry_at a b (entry ∷ nodes) [] alike i below = absurd alike
  entry_at a b (entry ∷ nodes) (other ∷ rest) alike zero below =
      moved a b (a + 0) (b + 0) (Some entry) (Some other) (omega arith) (omega arith) (record {
        entry = entry;
        other = other;
        here = refl;
        there = refl;
        alike = alike.0;
      })
  entry_at a b (entry ∷ nodes) (other ∷ rest) alike (suc i) below =
      moved (suc a + i) (suc b + i) (a + suc i) (b + suc i) (slice_get nodes i) (slice_get rest i)
      (omega arith) (omega arith)
      (entry_at (suc a) (suc b) nodes rest alike.1 i (omega arith))

  pub entries_long : (a b : ℕ) (nodes rest : Named Node) → EntriesAlike a b nodes rest
      → length nodes ≡ length rest
  entries_long a b [] [] alike = refl
  entries_long a b [] (other ∷ rest) alike = absurd alike
  entries_long a b (entry ∷ nodes) [] alike = absurd alike
  entries_long a b (entry ∷ nodes) (other ∷ rest) alike =
      ap suc (entries_long (suc a) (suc b) nodes rest alike.1)

  pub entries_append : (a b : ℕ) (nodes rest more others_more : Named Node) (c d : ℕ)
      → c ≡ a + length nodes → d ≡ b + length nodes → EntriesAlike a b nodes rest
      → EntriesAlike c d more others_more
      → EntriesAlike a b (nodes ++ more) (rest ++ others_more)
  entries_append a b [] [] more others_more c d here there_ alike also =
      let first : c ≡ a = omega (arith, here) in
      let second : d ≡ b = omega (arith, there_) in
      subst (λ n. EntriesAlike n b more others_more) first
      (subst (λ n. EntriesAlike c n more others_more) second also)
  entries_append a b [] (other ∷ rest) more others_more c d here there_ alike also =
      absurd alike
  entries_append a b (entry ∷ nodes) [] more others_more c d here there_ alike also =
      absurd alike
  entries_append a b (entry ∷ nodes) (other ∷ rest) more others_more c d here there_ alike also = (
    alike.0,
    entries_append (suc a) (suc b) nodes rest more others_more c d (omega (arith, here))
        (omega (arith, there_)) alike.1 also,
  )

  -- collections that are paired, and behind them some that are alike
  pub with_entries : (front : Pairs) (nodes rest more others_more : Named Node)
      → ((a b : ℕ) → Paired front a b
      → NodeAlike SameFile pairs functions others nodes rest a b)
      → EntriesAlike (length nodes) (length rest) more others_more
      → (a b : ℕ) → Paired (front ++ along (length nodes) (length rest) (length more)) a b
      → NodeAlike SameFile pairs functions others (nodes ++ more) (rest ++ others_more) a b
  with_entries front nodes rest more others_more paired alike a b among =
      ⊎_elim
      (λ (here : Paired front a b).
      let it = paired a b here in
      record {
        entry = it.entry;
        other = it.other;
        here = front-kept nodes more a it.entry it.here;
        there = front-kept rest others_more b it.other it.there;
        alike = it.alike;
      })
      (λ (new : Paired (along (length nodes) (length rest) (length more)) a b).
      let at = along_from (length nodes) (length rest) (length more) a b new in
      let it =
      moved (length nodes + at.place) (length rest + at.place) a b (slice_get more at.place)
      (slice_get others_more at.place) (sym at.here) (sym at.there)
      (entry_at (length nodes) (length rest) more others_more alike at.place at.below) in
      record {
        entry = it.entry;
        other = it.other;
        here =
            ap (slice_get (nodes ++ more)) at.here ∙ behind-is nodes more at.place ∙ it.here;
        there =
            ap (slice_get (rest ++ others_more)) at.there
            ∙ behind-is rest others_more at.place ∙ it.there;
        alike = it.alike;
      })
      (Contains-append_cases front (along (length nodes) (length rest) (length more)) (a, b)
      among)
