-- The turns of two repeats that are alike are alike.
use Rattle.std.proofs.Common.{◌≡◌, ℕ, zero, suc, ◌+◌, ◌-◌, ◌*◌, ◌<◌, ◌≤◌, nat_lt, Bool, true, false, List, [], ◌∷◌, length, Some, slice_get, slice_index_or, refl, sym, ap, ◌∙◌, subst, arith, ⊎_elim, ◌⊎◌, suc-mul}
use Rattle.std.specs.List.{AllZip}
use Rattle.std.proofs.lemmas.Bool.{ltb-false, ltb-true}
use Rattle.std.proofs.lemmas.List.{length-map}
use Rattle.written_types.specs.Named.{Named}
use Rattle.script_program.specs.declared.made.Made.{Made}
use Rattle.script_program.specs.declared.made.Made.TheVariants as made
use Rattle.script_program.specs.Script.{Function, Node}
use Rattle.direct_meaning.specs.of_script_rules.Repeats.{Repeat, copied_let, gives_left, name_in_turn, last_gives, nodes_left, made_from_others, seen, turn_gives, turn_nodes, turn_to, unrolled}
use Rattle.direct_meaning.proofs.of_script_laws.MemberLemmas.{in_mapped, within, zip_length}
use Rattle.direct_meaning.proofs.of_script_laws.StandLemmas.{seen_entering, seen_let, stands_inside, stands_outside}
use Rattle.key_meaning.proofs.Entries.{EntriesAlike, entries_append}
use Rattle.key_meaning.proofs.Alike.{EntryAlike, MadeAlike, Paired, Pairs, made_moved, place_of, same_place, zip_moved, zip_more}
use Rattle.key_meaning.proofs.Lists.{Behind, zip_at}

place_moved : (to : ℕ → ℕ) (how : Made) → place_of (made_from_others to how) ≡ place_of how
place_moved to (made.Do source called output) = refl
place_moved to _ = refl

-- entries that are alike, one by one
entries_from : (SameFile : List ℕ → Type 0) (pairs : Pairs) (functions others : Named Function)
    (a b : ℕ) (nodes rest : Named Node) → length nodes ≡ length rest
    → ((i : ℕ) (entry other : List ℕ × Node) → slice_get nodes i ≡ Some entry
    → slice_get rest i ≡ Some other
    → EntryAlike SameFile pairs functions others (a + i) (b + i) entry other)
    → EntriesAlike SameFile pairs functions others a b nodes rest
entries_from SameFile pairs functions others a b [] [] same each = tt
entries_from SameFile pairs functions others a b [] (other ∷ rest) same each =
    absurd (omega (arith, same))
entries_from SameFile pairs functions others a b (entry ∷ nodes) [] same each =
    absurd (omega (arith, same))
entries_from SameFile pairs functions others a b (entry ∷ nodes) (other ∷ rest) same each =
    let here : a + 0 ≡ a = omega arith in
    let there : b + 0 ≡ b = omega arith in (
      subst (λ n. EntryAlike SameFile pairs functions others n b entry other) here
          (subst (λ n. EntryAlike SameFile pairs functions others (a + 0) n entry other) there
          (each 0 entry other refl refl)),
      entries_from SameFile pairs functions others (suc a) (suc b) nodes rest
          (omega (arith, same))
          (λ i more others_more at at_.
          let next : a + suc i ≡ suc a + i = omega arith in
          let next_ : b + suc i ≡ suc b + i = omega arith in
          subst (λ n. EntryAlike SameFile pairs functions others n (suc b + i) more others_more)
          next
          (subst
          (λ n. EntryAlike SameFile pairs functions others (a + suc i) n more others_more) next_
          (each (suc i) more others_more at at_))),
    )

module _ (SameFile : List ℕ → Type 0) (functions others : Named Function) (pairs inner : Pairs)
    (k l m n : ℕ) where
  -- a let of a body
  pub record LetAlike (entry other : List ℕ × Node) : Type 0 where
    pub name : entry.0 ≡ other.0
    pub type : entry.1.type ≡ other.1.type
    pub how : MadeAlike SameFile inner functions others entry.1.made other.1.made

  -- Two repeats, behind so many collections each: as many enter, and as many lets are in the
  -- bodies, which are alike by the order of each.
  pub record Matches (repeat other : Repeat) : Type 0 where
    pub outside : repeat.outside ≡ k
    pub outside_there : other.outside ≡ l
    pub turns : repeat.turns ≡ other.turns
    pub from : AllZip (Paired pairs) repeat.from other.from
    pub entering : length repeat.from ≡ m
    pub body : length repeat.body ≡ n
    pub body_there : length other.body ≡ n
    pub gives : AllZip (Paired inner) repeat.gives other.gives
    pub gives_long : length repeat.gives ≡ m
    pub lets : (j : ℕ) (entry more : List ℕ × Node) → slice_get repeat.body j ≡ Some entry
        → slice_get other.body j ≡ Some more → LetAlike entry more
    pub in_place : (j : ℕ) (entry : List ℕ × Node) → slice_get repeat.body j ≡ Some entry
        → place_of entry.1.made ≤ j
    pub either : (a b : ℕ) → Paired inner a b
        → (Paired pairs a b × (a < k × b < l)) ⊎ Behind k l (m + n) a b

  module _ (repeat other : Repeat) (are : Matches repeat other) (all : Pairs)
      (sub : (a b : ℕ) → Paired pairs a b → Paired all a b) where
    -- ---- one turn

    module _ (es fs : List ℕ) (x y : ℕ) (zipped : AllZip (Paired all) es fs)
        (many : length es ≡ m) (new : (j : ℕ) → j < n → Paired all (x + j) (y + j)) where
      abbrev to : ℕ → ℕ
      to = turn_to repeat es x

      abbrev back : ℕ → ℕ
      back = turn_to other fs y

      as_many : length fs ≡ m
      as_many = sym (zip_length (Paired all) es fs zipped) ∙ many

      seen_pair : (i : ℕ) → i < m + n
          → Paired all (slice_index_or (seen repeat es x) i 0)
          (slice_index_or (seen other fs y) i 0)
      seen_pair i below = by (nat_lt i m) refl
        where
          by : (t : Bool) → nat_lt i m ≡ t
              → Paired all (slice_index_or (seen repeat es x) i 0)
              (slice_index_or (seen other fs y) i 0)
          by true first =
              let enters = ltb-true i m first in
              zip_at (Paired all) es fs zipped i _ _
              (seen_entering repeat es x i (omega (arith, enters, many)))
              (seen_entering other fs y i (omega (arith, enters, as_many)))
          by false later =
              let above = ltb-false i m later in
              let here : length es + (i - m) ≡ i = omega (arith, above, many) in
              let there : length fs + (i - m) ≡ i = omega (arith, above, as_many) in
              let first =
              ap (λ p. slice_index_or (seen repeat es x) p 0) (sym here)
              ∙ seen_let repeat es x (i - m) (omega (arith, above, below, are.body)) in
              let second =
              ap (λ p. slice_index_or (seen other fs y) p 0) (sym there)
              ∙ seen_let other fs y (i - m) (omega (arith, above, below, are.body_there)) in
              subst (λ p. Paired all p (slice_index_or (seen other fs y) i 0)) (sym first)
              (subst (Paired all (x + (i - m))) (sym second)
              (new (i - m) (omega (arith, above, below))))

      moved : (a b : ℕ) → Paired inner a b → Paired all (to a) (back b)
      moved a b is =
          ⊎_elim
          (λ (old : Paired pairs a b × (a < k × b < l)).
          let below = old.1.0 in
          let below_ = old.1.1 in
          let here =
          stands_outside repeat.outside (seen repeat es x) a (omega (arith, are.outside, below)) in
          let there =
          stands_outside other.outside (seen other fs y) b
          (omega (arith, are.outside_there, below_)) in
          subst (λ p. Paired all p (back b)) (sym here)
          (subst (Paired all a) (sym there) (sub a b old.0)))
          (λ (at : Behind k l (m + n) a b).
          let place : a - repeat.outside ≡ at.place = omega (arith, at.here, are.outside) in
          let place_ : b - other.outside ≡ at.place =
          omega (arith, at.there, are.outside_there) in
          let here =
          stands_inside repeat.outside (seen repeat es x) a
          (omega (arith, at.here, are.outside))
          ∙ ap (λ p. slice_index_or (seen repeat es x) p 0) place in
          let there =
          stands_inside other.outside (seen other fs y) b
          (omega (arith, at.there, are.outside_there))
          ∙ ap (λ p. slice_index_or (seen other fs y) p 0) place_ in
          subst (λ p. Paired all p (back b)) (sym here)
          (subst (Paired all (slice_index_or (seen repeat es x) at.place 0)) (sym there)
          (seen_pair at.place at.below)))
          (are.either a b is)

      copy_alike : (turn i : ℕ) (entry more : List ℕ × Node) → i < n
          → slice_get repeat.body i ≡ Some entry → slice_get other.body i ≡ Some more
          → EntryAlike SameFile all functions others (x + i) (y + i) (copied_let turn to entry)
          (copied_let turn back more)
      copy_alike turn i entry more below at at_ =
          let it = are.lets i entry more at at_ in
          let output = place_of entry.1.made in
          let output_ = place_of more.1.made in
          let same : output ≡ output_ = same_place SameFile inner functions others it.how in
          let back_by = are.in_place i entry at in
          let here : x + (i - output) ≡ x + i - place_of (made_from_others to entry.1.made) =
          omega (arith, back_by, place_moved to entry.1.made) in
          let there : y + (i - output) ≡ y + i - place_of (made_from_others back more.1.made) =
          omega (arith, back_by, place_moved back more.1.made, same) in
          record {
            name = ap (name_in_turn turn) it.name;
            type = it.type;
            how = made_moved SameFile inner all functions others to back moved it.how;
            first =
                subst (λ p. Paired all p (y + i - place_of (made_from_others back more.1.made)))
                here
                (subst (Paired all (x + (i - output))) there
                (new (i - output) (omega (arith, below))));
          }

      turn_alike : (turn : ℕ)
          → EntriesAlike SameFile all functions others x y (turn_nodes repeat es x turn)
          (turn_nodes other fs y turn)
      turn_alike turn =
          entries_from SameFile all functions others x y (turn_nodes repeat es x turn)
          (turn_nodes other fs y turn)
          (length-map repeat.body (copied_let turn to)
          ∙ are.body ∙ sym are.body_there
          ∙ sym (length-map other.body (copied_let turn back)))
          (λ i entry more at at_.
          let here = in_mapped (copied_let turn to) repeat.body i entry at in
          let there = in_mapped (copied_let turn back) other.body i more at_ in
          let below = within repeat.body i here.0 here.1 in
          subst (λ e. EntryAlike SameFile all functions others (x + i) (y + i) e more) here.2
          (subst
          (λ e. EntryAlike SameFile all functions others (x + i) (y + i) (copied_let turn to here.0)
          e)
          there.2
          (copy_alike turn i here.0 there.0 (omega (arith, below, are.body)) here.1 there.1)))

      given_alike : AllZip (Paired all) (turn_gives repeat es x) (turn_gives other fs y)
      given_alike =
          zip_moved SameFile inner all functions others to back moved repeat.gives other.gives
          are.gives

    -- ---- all turns

    one_turn : (left j : ℕ) → j < n → j < suc left * n
    one_turn left j below =
        let product = suc-mul left n in
        omega (arith, product)

    later_turns : (left j : ℕ) → j < left * n → n + j < suc left * n
    later_turns left j below =
        let product = suc-mul left n in
        omega (arith, product)

    next_new : (left x y : ℕ) → ((j : ℕ) → j < suc left * n → Paired all (x + j) (y + j))
        → (j : ℕ) → j < left * n
        → Paired all (x + length repeat.body + j) (y + length other.body + j)
    next_new left x y new j below =
        let here : x + (n + j) ≡ x + length repeat.body + j = omega (arith, are.body) in
        let there : y + (n + j) ≡ y + length other.body + j = omega (arith, are.body_there) in
        subst (λ p. Paired all p (y + length other.body + j)) here
        (subst (Paired all (x + (n + j))) there (new (n + j) (later_turns left j below)))

    left_alike : (left turn : ℕ) (es fs : List ℕ) (x y : ℕ) → AllZip (Paired all) es fs
        → length es ≡ m → ((j : ℕ) → j < left * n → Paired all (x + j) (y + j))
        → EntriesAlike SameFile all functions others x y (nodes_left repeat left turn es x)
        (nodes_left other left turn fs y)
    left_alike zero turn es fs x y zipped many new = tt
    left_alike (suc left) turn es fs x y zipped many new =
        let first = λ (j : ℕ) (below : j < n). new j (one_turn left j below) in
        let long = length-map repeat.body (copied_let turn (turn_to repeat es x)) in
        let long_ = length-map other.body (copied_let turn (turn_to other fs y)) in
        entries_append SameFile all functions others x y (turn_nodes repeat es x turn)
        (turn_nodes other fs y turn)
        (nodes_left repeat left (suc turn) (turn_gives repeat es x) (x + length repeat.body))
        (nodes_left other left (suc turn) (turn_gives other fs y) (y + length other.body))
        (x + length repeat.body) (y + length other.body) (omega (arith, long))
        (omega (arith, long_)) (turn_alike es fs x y zipped many first turn)
        (left_alike left (suc turn) (turn_gives repeat es x) (turn_gives other fs y)
        (x + length repeat.body) (y + length other.body)
        (given_alike es fs x y zipped many first)
        (length-map repeat.gives (turn_to repeat es x) ∙ are.gives_long)
        (next_new left x y new))

    gives_alike : (left : ℕ) (es fs : List ℕ) (x y : ℕ) → AllZip (Paired all) es fs
        → length es ≡ m → ((j : ℕ) → j < left * n → Paired all (x + j) (y + j))
        → AllZip (Paired all) (gives_left repeat left es x) (gives_left other left fs y)
    gives_alike zero es fs x y zipped many new = zipped
    gives_alike (suc left) es fs x y zipped many new =
        let first = λ (j : ℕ) (below : j < n). new j (one_turn left j below) in
        gives_alike left (turn_gives repeat es x) (turn_gives other fs y)
        (x + length repeat.body) (y + length other.body)
        (given_alike es fs x y zipped many first)
        (length-map repeat.gives (turn_to repeat es x) ∙ are.gives_long)
        (next_new left x y new)

    module _ (new : (j : ℕ) → j < repeat.turns * n → Paired all (k + j) (l + j)) where
      pub unrolled_alike : EntriesAlike SameFile all functions others k l (unrolled repeat)
          (unrolled other)
      unrolled_alike =
          subst
          (λ t. EntriesAlike SameFile all functions others k l (unrolled repeat)
          (nodes_left other t 1 other.from other.outside)) are.turns
          (subst
          (λ o. EntriesAlike SameFile all functions others k l (unrolled repeat)
          (nodes_left other repeat.turns 1 other.from o)) (sym are.outside_there)
          (subst
          (λ o. EntriesAlike SameFile all functions others k l
          (nodes_left repeat repeat.turns 1 repeat.from o)
          (nodes_left other repeat.turns 1 other.from l)) (sym are.outside)
          (left_alike repeat.turns 1 repeat.from other.from k l
          (zip_more (Paired pairs) (Paired all) sub repeat.from other.from are.from) are.entering
          new)))

      pub last_alike : AllZip (Paired all) (last_gives repeat) (last_gives other)
      last_alike =
          subst
          (λ t. AllZip (Paired all) (last_gives repeat)
          (gives_left other t other.from other.outside)) are.turns
          (subst
          (λ o. AllZip (Paired all) (last_gives repeat)
          (gives_left other repeat.turns other.from o)) (sym are.outside_there)
          (subst
          (λ o. AllZip (Paired all) (gives_left repeat repeat.turns repeat.from o)
          (gives_left other repeat.turns other.from l)) (sym are.outside)
          (gives_alike repeat.turns repeat.from other.from k l
          (zip_more (Paired pairs) (Paired all) sub repeat.from other.from are.from) are.entering
          new)))
