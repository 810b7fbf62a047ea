-- Accumulators that are merged in a table stand for what they stood for one by one.
use Rattle.std.proofs.Common.{◌≡◌, true, false, cond, Bool, ◌||◌, [], ◌∷◌, ◌++◌, refl, sym, ap, ◌∙◌, subst, append-nil}
use Rattle.std.proofs.lemmas.List.Elements.{All-from_recursion}
use Rattle.flume_value.specs.declared.value.Value.{Value}
use Rattle.flume_value.specs.Equality.{value_eq}
use Rattle.flume_value.proofs.EachLemmas.{Each-append}
use Rattle.bag_groups.proofs.PairOrder.{same-value_eq}
use Rattle.combine_table.specs.declared.comb.Comb.{Comb}
use Rattle.combine_table.specs.Accumulators.{accumulator, HasShape, merged}
use Rattle.combine_table.proofs.Merging.{merged-HasShape, merged-comm, merged-assoc, merged-unit_right}
use Rattle.partial_tables.specs.Tables.{Pairs, has_key, added, IsPartialOf, HaveShape}
use Rattle.partial_tables.specs.Merges.{values_at, merged_all, StandFor}
use Rattle.partial_tables.specs.inner.Regrouped.{Regrouped}
use Rattle.partial_tables.proofs.Standing.{merged_all-HasShape, merged_all-append, values_at-cons, values_at-append, has_key-append}

pub regrouped_stands : (c : Comb) (xs ys ps : Pairs) → Regrouped c xs ys → StandFor c xs ps
    → StandFor c ys ps
regrouped_stands c xs ys ps r s = record {
  shape = All-from_recursion (IsPartialOf c) ys r.shape;
  keys = λ k. r.keys k ∙ s.keys k;
  merges = λ k. r.merges k ∙ s.merges k;
}

regrouped_itself : (c : Comb) (xs : Pairs) → HaveShape c xs → Regrouped c xs xs
regrouped_itself c xs e = record { shape = e; keys = λ k. refl; merges = λ k. refl }

regrouped_twice : (c : Comb) (xs ys zs : Pairs) → Regrouped c xs ys → Regrouped c ys zs
    → Regrouped c xs zs
regrouped_twice c xs ys zs r s = record {
  shape = s.shape;
  keys = λ k. s.keys k ∙ r.keys k;
  merges = λ k. s.merges k ∙ r.merges k;
}

-- behind others, and before others
regrouped_behind : (c : Comb) (ws xs ys : Pairs) → HaveShape c ws → Regrouped c xs ys
    → Regrouped c (ws ++ xs) (ws ++ ys)
regrouped_behind c ws xs ys e r = record {
  shape = Each-append (λ (p : Value × Value). HasShape c p.1) ws ys e r.shape;
  keys = λ k. has_key-append k ws ys ∙ ap (λ b. has_key k ws || b) (r.keys k)
      ∙ sym (has_key-append k ws xs);
  merges = λ k. ap (merged_all c) (values_at-append k ws ys)
      ∙ merged_all-append c (values_at k ws) (values_at k ys)
      ∙ ap (merged c (merged_all c (values_at k ws))) (r.merges k)
      ∙ sym (ap (merged_all c) (values_at-append k ws xs)
      ∙ merged_all-append c (values_at k ws) (values_at k xs));
}

regrouped_before : (c : Comb) (xs ys zs : Pairs) → HaveShape c zs → Regrouped c xs ys
    → Regrouped c (xs ++ zs) (ys ++ zs)
regrouped_before c xs ys zs e r = record {
  shape = Each-append (λ (p : Value × Value). HasShape c p.1) ys zs r.shape e;
  keys = λ k. has_key-append k ys zs ∙ ap (λ b. b || has_key k zs) (r.keys k)
      ∙ sym (has_key-append k xs zs);
  merges = λ k. ap (merged_all c) (values_at-append k ys zs)
      ∙ merged_all-append c (values_at k ys) (values_at k zs)
      ∙ ap (λ m. merged c m (merged_all c (values_at k zs))) (r.merges k)
      ∙ sym (ap (merged_all c) (values_at-append k xs zs)
      ∙ merged_all-append c (values_at k xs) (values_at k zs));
}

-- ---- one accumulator more

either_once : (b h : Bool) → (b || h) ≡ (b || (h || (b || false)))
either_once true h = refl
either_once false true = refl
either_once false false = refl

-- what stands last is merged with what stands first
to_front : (c : Comb) (b a m : Value) → HasShape c a → HasShape c m
    → merged c (merged c b a) m ≡ merged c b (merged c m (merged c a (accumulator c [])))
to_front c b a m h g =
    merged-assoc c b a m
    ∙ ap (merged c b) (merged-comm c a m ∙ ap (merged c m) (sym (merged-unit_right c a h)))

-- the values of a key before and after an accumulator of the first pair's key is added
values_last : (i k a : Value) (p : Value × Value) (ps : Pairs) → k ≡ p.0
    → values_at i (p ∷ (ps ++ (k, a) ∷ []))
    ≡ cond (value_eq p.0 i) (p.1 ∷ (values_at i ps ++ cond (value_eq p.0 i) (a ∷ []) []))
    (values_at i ps ++ cond (value_eq p.0 i) (a ∷ []) [])
values_last i k a p ps same =
    values_at-cons i p.0 p.1 (ps ++ (k, a) ∷ [])
    ∙ ap (λ l. cond (value_eq p.0 i) (p.1 ∷ l) l)
    (values_at-append i ps ((k, a) ∷ [])
    ∙ ap (λ l. values_at i ps ++ l)
    (values_at-cons i k a [] ∙ ap (λ v. cond (value_eq v i) (a ∷ []) []) same))

added_first : (c : Comb) (p : Value × Value) (ps : Pairs) (k a : Value) → HasShape c a
    → HaveShape c ps → k ≡ p.0
    → Regrouped c (p ∷ (ps ++ (k, a) ∷ [])) ((p.0, merged c p.1 a) ∷ ps)
added_first c p ps k a h e same = record {
  shape = (merged-HasShape c p.1 a, e);
  keys = λ i. either_once (value_eq p.0 i) (has_key i ps)
      ∙ ap (λ v. value_eq p.0 i || (has_key i ps || (value_eq v i || false))) (sym same)
      ∙ sym (ap (λ b. value_eq p.0 i || b) (has_key-append i ps ((k, a) ∷ [])));
  merges = λ i.
      let rest = values_at i ps in
      ap (merged_all c) (values_at-cons i p.0 (merged c p.1 a) ps)
      ∙ elim (value_eq p.0 i) as
      (λ b. merged_all c (cond b (merged c p.1 a ∷ rest) rest)
      ≡ merged_all c (cond b (p.1 ∷ (rest ++ cond b (a ∷ []) [])) (rest ++ cond b (a ∷ []) []))) [
        | true ↦ to_front c p.1 a (merged_all c rest) h (merged_all-HasShape c rest)
            ∙ ap (merged c p.1) (sym (merged_all-append c rest (a ∷ [])))
        | false ↦ ap (merged_all c) (sym (append-nil rest))
      ]
      ∙ sym (ap (merged_all c) (values_last i k a p ps same));
}

added_later : (c : Comb) (p : Value × Value) (xs ys : Pairs) → HasShape c p.1 → Regrouped c xs ys
    → Regrouped c (p ∷ xs) (p ∷ ys)
added_later c p xs ys h r = regrouped_behind c (p ∷ []) xs ys (h, tt) r

pub added_regroups : (c : Comb) (ps : Pairs) (k a : Value) → HasShape c a → HaveShape c ps
    → Regrouped c (ps ++ (k, a) ∷ []) (added c ps k a)
added_regroups c [] k a h e = regrouped_itself c ((k, a) ∷ []) (h, tt)
added_regroups c (p ∷ ps) k a h e =
    elim (value_eq p.0 k) as
    (λ b. value_eq p.0 k ≡ b → Regrouped c (p ∷ (ps ++ (k, a) ∷ []))
    (cond b ((p.0, merged c p.1 a) ∷ ps) (p ∷ added c ps k a))) [
      | true ↦ λ is. added_first c p ps k a h e.1 (sym (same-value_eq p.0 k is))
      | false ↦ λ is. added_later c p (ps ++ (k, a) ∷ []) (added c ps k a) e.0
          (added_regroups c ps k a h e.1)
    ] refl

-- an accumulator more
pub merged_more : (c : Comb) (old now ps : Pairs) (k a : Value) → Regrouped c ps old
    → HasShape c a → now ≡ added c old k a → Regrouped c (ps ++ (k, a) ∷ []) now
merged_more c old now ps k a r h is =
    subst (Regrouped c (ps ++ (k, a) ∷ [])) (sym is)
    (regrouped_twice c (ps ++ (k, a) ∷ []) (old ++ (k, a) ∷ []) (added c old k a)
    (regrouped_before c ps old ((k, a) ∷ []) (h, tt) r)
    (added_regroups c old k a h r.shape))
