-- What stands for pairs, as more pairs are put in one after another.
use Rattle.std.proofs.Common.{◌≡◌, List, [], ◌∷◌, ◌++◌, length, map, sym, ap, ◌∙◌, subst, append-nil, append_assoc}
use Rattle.std.proofs.lemmas.List.{map-append}
use Rattle.flume_value.specs.declared.value.Value.{Value}
use Rattle.shuffle_parts.proofs.Parting.{all_taken}

module _ {P X : Type 0} (as_pair : P → Value) (Stands : List Value → X → Type 0) (first : X)
    (all : List P) where
  -- `now` stands for the pairs that `first` stood for and for these behind them; the rest is left
  pub record ArePut (now : X) (taken rest : List P) : Type 0 where
    pub stands : (done : List Value) → Stands done first → Stands (done ++ map as_pair taken) now
    pub whole : taken ++ rest ≡ all

  pub none_put : (rest : List P) → rest ≡ all → ArePut first [] rest
  none_put rest is = record {
    stands = λ done. subst (λ (l : List Value). Stands l first) (sym (append-nil done));
    whole = is;
  }

  pub one_put : (now next : X) (taken rest left : List P) (p : P) → ArePut now taken rest
      → rest ≡ p ∷ left
      → ((done : List Value) → Stands done now → Stands (done ++ as_pair p ∷ []) next)
      → ArePut next (taken ++ p ∷ []) left
  one_put now next taken rest left p were is put = record {
    stands = λ done stands.
        subst (λ (l : List Value). Stands l next)
        (append_assoc done (map as_pair taken) (as_pair p ∷ [])
        ∙ ap (λ (l : List Value). done ++ l) (sym (map-append as_pair taken (p ∷ []))))
        (put (done ++ map as_pair taken) (were.stands done stands));
    whole = append_assoc taken (p ∷ []) left ∙ ap (λ (l : List P). taken ++ l) (sym is)
        ∙ were.whole;
  }

  pub all_put : (now : X) (taken rest : List P) → ArePut now taken rest → length rest ≡ 0
      → (done : List Value) → Stands done first → Stands (done ++ map as_pair all) now
  all_put now taken rest were none done stands =
      subst (λ (l : List P). Stands (done ++ map as_pair l) now)
      (all_taken taken rest all were.whole none) (were.stands done stands)
