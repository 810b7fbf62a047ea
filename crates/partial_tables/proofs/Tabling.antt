-- A pair more: it goes into the last table, or begins one of its own.
use Rattle.std.proofs.Common.{◌≡◌, ◌<◌, ◌≤◌, ℕ, suc, true, false, cond, Bool, ◌||◌, [], ◌∷◌, ◌++◌, length, Option, Some, refl, sym, ap, ◌∙◌, subst, append_assoc, arith}
use Rattle.std.specs.Prelude.{List}
use Rattle.std.specs.List.{IsDistinct, cons_option}
use Rattle.std.proofs.lemmas.List.Elements.{filter_map-append, recursion_from_All}
use Rattle.flume_value.specs.declared.value.Value.{Value}
use Rattle.flume_value.specs.Equality.{value_eq}
use Rattle.bag_groups.specs.Pairs.{pairs_of, parts_of}
use Rattle.combine_table.specs.declared.comb.Comb.{Comb}
use Rattle.combine_table.specs.Accumulators.{HasShape, accumulator, merged}
use Rattle.combine_table.proofs.Merging.{accumulator-HasShape}
use Rattle.partial_tables.specs.Merges.{StandFor}
use Rattle.partial_tables.specs.Runs.{AreTables, IsTableOf, most_keys, next, one}
use Rattle.partial_tables.specs.Tables.{IsPartialOf, Pairs, added, has_key}
use Rattle.partial_tables.specs.inner.Regrouped.{Regrouped}
use Rattle.partial_tables.proofs.Adding.{kept_more}
use Rattle.partial_tables.proofs.Regrouping.{added_regroups, regrouped_stands}
use Rattle.partial_tables.proofs.Standing.{stands_both, stands_more, stands_none}

-- ---- how many keys there are

suc_within : (b : Bool) (n : ℕ) → suc (cond b n (suc n)) ≡ cond b (suc n) (suc (suc n))
suc_within true n = refl
suc_within false n = refl

length-added : (c : Comb) (ps : Pairs) (k a : Value)
    → length (added c ps k a) ≡ cond (has_key k ps) (length ps) (suc (length ps))
length-added c [] k a = refl
length-added c (p ∷ ps) k a =
    elim (value_eq p.0 k) as
    (λ b. length (cond b ((p.0, merged c p.1 a) ∷ ps) (p ∷ added c ps k a))
    ≡ cond (b || has_key k ps) (suc (length ps)) (suc (suc (length ps)))) [
      | true ↦ refl
      | false ↦ ap suc (length-added c ps k a) ∙ suc_within (has_key k ps) (length ps)
    ]

added_few : (c : Comb) (ps : Pairs) (k a : Value) → length ps ≤ most_keys
    → (has_key k ps ≡ false → length ps < most_keys) → length (added c ps k a) ≤ most_keys
added_few c ps k a few room = by (has_key k ps) refl
  where
    by : (b : Bool) → has_key k ps ≡ b → length (added c ps k a) ≤ most_keys
    by true is =
        let same : length (added c ps k a) ≡ length ps = length-added c ps k a
        ∙ ap (λ b. cond b (length ps) (suc (length ps))) is in
        omega arith
    by false is =
        let more : length (added c ps k a) ≡ suc (length ps) = length-added c ps k a
        ∙ ap (λ b. cond b (length ps) (suc (length ps))) is in
        let some = room is in
        omega arith

-- ---- the table of a run

none_table : (c : Comb) → IsTableOf c [] []
unfolding IsDistinct
none_table c = record { distinct = tt; stands = stands_none c; few = omega arith }

-- a pair more in the run
pub put_in : (c : Comb) (run table now : Pairs) (k v a : Value) → now ≡ added c table k a
    → a ≡ accumulator c (v ∷ []) → (has_key k table ≡ false → length table < most_keys)
    → IsTableOf c run table → IsTableOf c (run ++ (k, v) ∷ []) now
put_in c run table now k v a is made room t =
    let shape = recursion_from_All (IsPartialOf c) table t.stands.shape in
    let has : HasShape c a = subst (HasShape c) (sym made) (accumulator-HasShape c (v ∷ [])) in
    record {
      distinct = (kept_more c table now k a is has (shape, t.distinct)).1;
      stands = regrouped_stands c (table ++ (k, a) ∷ []) now (run ++ (k, v) ∷ [])
          (subst (Regrouped c (table ++ (k, a) ∷ [])) (sym is)
          (added_regroups c table k a has shape))
          (subst (λ b. StandFor c (table ++ (k, b) ∷ []) (run ++ (k, v) ∷ [])) (sym made)
          (stands_more c table run k v t.stands));
      few = subst (λ (l : Pairs). length l ≤ most_keys) (sym is)
          (added_few c table k a t.few room);
    }

-- ---- all tables

pub tables_none : (c : Comb) → AreTables c [] [] []
tables_none c = one (none_table c)

last_few : (c : Comb) (pairs taken last : Pairs) → AreTables c pairs taken last
    → length last ≤ most_keys
last_few c pairs taken last (one t) = t.few
last_few c pairs taken last (next tables full lacks t) = t.few

longer : (c : Comb) (pairs taken last now more : Pairs)
    → ((run : Pairs) → IsTableOf c run last → IsTableOf c (run ++ more) now)
    → AreTables c pairs taken last → AreTables c (pairs ++ more) taken now
longer c pairs taken last now more put (one {run} t) = one (put run t)
longer c pairs taken last now more put (next {pairs = front} {run} {k} {v} tables full lacks t) =
    subst (λ (l : Pairs). AreTables c l taken now)
    (sym (append_assoc front ((k, v) ∷ run) more))
    (next tables full lacks (put ((k, v) ∷ run) t))

-- a pair goes into the last table
pub tables_more : (c : Comb) (pairs taken last now : Pairs) (k v a : Value)
    → now ≡ added c last k a → a ≡ accumulator c (v ∷ [])
    → (has_key k last ≡ false → length last < most_keys) → AreTables c pairs taken last
    → AreTables c (pairs ++ (k, v) ∷ []) taken now
tables_more c pairs taken last now k v a is made room tables =
    longer c pairs taken last now ((k, v) ∷ [])
    (λ run t. put_in c run last now k v a is made room t) tables

-- a pair whose key has no room there begins a table of its own
pub tables_next : (c : Comb) (pairs taken full now all : Pairs) (k v a : Value)
    → now ≡ added c [] k a → all ≡ taken ++ full → a ≡ accumulator c (v ∷ [])
    → most_keys ≤ length full → has_key k full ≡ false → AreTables c pairs taken full
    → AreTables c (pairs ++ (k, v) ∷ []) all now
tables_next c pairs taken full now all k v a is behind made room lacks tables =
    let few = last_few c pairs taken full tables in
    let same : length full ≡ most_keys = omega arith in
    subst (λ (l : Pairs). AreTables c (pairs ++ (k, v) ∷ []) l now) (sym behind)
    (next tables same lacks
    (put_in c [] [] now k v a is made (λ none. omega arith) (none_table c)))

-- together they stand for all pairs
pub tables_stand : (c : Comb) (pairs taken last : Pairs) → AreTables c pairs taken last
    → StandFor c (taken ++ last) pairs
tables_stand c pairs taken last (one t) = t.stands
tables_stand c pairs taken last
    (next {pairs = front} {taken = before} {full} {run} {k} {v} tables same lacks t) =
    stands_both c (before ++ full) front last ((k, v) ∷ run)
    (tables_stand c front before full tables) t.stands

-- ---- of a pair as a value

pub value_tables : (c d : Comb) (pairs : List Value) (pair k v : Value)
    (taken last others now : Pairs) → d ≡ c → parts_of pair ≡ Some (k, v)
    → ((ps : Pairs) → AreTables d ps taken last → AreTables d (ps ++ (k, v) ∷ []) others now)
    → AreTables c (pairs_of pairs) taken last
    → AreTables c (pairs_of (pairs ++ pair ∷ [])) others now
value_tables c d pairs pair k v taken last others now is parts put tables =
    let split : pairs_of (pairs ++ pair ∷ []) ≡ pairs_of pairs ++ (k, v) ∷ [] =
    filter_map-append parts_of pairs (pair ∷ [])
    ∙ ap (λ o. pairs_of pairs ++ one_of o) parts in
    subst (λ (l : Pairs). AreTables c l others now) (sym split)
    (subst (λ (e : Comb). AreTables e (pairs_of pairs ++ (k, v) ∷ []) others now) is
    (put (pairs_of pairs) (subst (λ (e : Comb). AreTables e (pairs_of pairs) taken last) (sym is)
    tables)))
  where
    one_of : Option (Value × Value) → Pairs
    one_of o = cons_option o []
