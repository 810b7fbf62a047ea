-- What is read as a value are its canonical bytes, and it has no more levels than that.
use Rattle.std.proofs.Common.{◌≡◌, ℕ, zero, suc, ◌+◌, ◌≤◌, ◌&&◌, true, List, [], ◌∷◌, ◌++◌, length, Some, refl, sym, ap, ◌∙◌, subst, arith}
use Rattle.std.specs.List.{list_all, flat_map}
use Rattle.flume_value.specs.declared.value.Value.{Value}
use Rattle.flume_value.specs.declared.value.Value.TheVariants as variant
use Rattle.flume_value.specs.Canonical.{length_bytes, int_bytes, wide_bytes, canonical}
use Rattle.flume_value.specs.Ranges.{fits_length, fits}
use Rattle.flume_value.proofs.BoolLemmas.{and_both}
use Rattle.flume_value.proofs.CanonicalLemmas.{canonical-Int, canonical-Bool, canonical-Text, canonical-List, canonical-Rec, canonical-Left, canonical-Right, canonical-Wide}
use Rattle.flume_value.proofs.RangeLemmas.{fits-Int, fits-Bool, fits-Text, fits-List, fits-Rec, fits-Left, fits-Right, fits-Wide}
use Rattle.value_reading.specs.Levels.{greatest_by, levels_of}
use Rattle.value_reading.specs.declared.tag.Tag.{Tag}
use Rattle.value_reading.specs.declared.tag.Tag.TheVariants as tag
use Rattle.value_reading.specs.inner.Reading.{Out, made, number_at, int_at, wide_at, bool_at, tag_at, text_at, parts_at, items_at, behind, value_at}
use Rattle.value_reading.proofs.Digits.{Small}
use Rattle.value_reading.proofs.Leaves.{Takes, takes_both, bind_some, made_some, tag_byte, text_bytes, truth_byte, length_takes, int_takes, wide_takes, bool_takes, tag_takes, text_takes}
use Rattle.value_reading.proofs.LevelLemmas.{Within, greatest_within, levels-Int, levels-Bool, levels-Text, levels-List, levels-Rec, levels-Left, levels-Right, levels-Wide}

-- a value of so many levels at most was read, and that is left
pub record Read (n : ℕ) (bytes : List ℕ) (v : Value) (rest : List ℕ) : Type 0 where
  pub takes : Takes bytes (canonical v) rest
  pub held : fits v ≡ true
  pub levels : levels_of v ≤ n

-- the same, behind the byte that tells the variant
record Behind (n t : ℕ) (bytes : List ℕ) (v : Value) (rest : List ℕ) : Type 0 where
  text : List ℕ
  takes : Takes bytes text rest
  bytes_are : canonical v ≡ t ∷ text
  held : fits v ≡ true
  levels : levels_of v ≤ n

read_behind : (n t : ℕ) (bytes : List ℕ) (v : Value) (rest : List ℕ)
    → Behind n t bytes v rest → Read n (t ∷ bytes) v rest
read_behind n t bytes v rest b = record {
  takes = record {
    parts = ap (λ bs. t ∷ bs) b.takes.parts ∙ sym (ap (λ bs. bs ++ rest) b.bytes_are);
    small = b.takes.small;
  };
  held = b.held;
  levels = b.levels;
}

-- what holds of a pair that was made
at_pair : (P : Value → List ℕ → Type 0) (x : Value × List ℕ) (v : Value) (rest : List ℕ)
    → (v, rest) ≡ x → P v rest → P x.0 x.1
at_pair P x v rest e h = subst (λ (y : Value × List ℕ). P y.0 y.1) e h

one_level : (n : ℕ) (v : Value) → levels_of v ≡ 1 → levels_of v ≤ suc n
one_level n v e = omega (arith, e)

more_level : (n m : ℕ) (v : Value) → levels_of v ≡ m + 1 → m ≤ n → levels_of v ≤ suc n
more_level n m v e h = omega (arith, e, h)

module _ (part : List ℕ → Out Value) (n : ℕ)
    (takes : (bytes : List ℕ) (x : Value × List ℕ) → Small bytes → part bytes ≡ Some x
    → Read n bytes x.0 x.1) where
  record Parts (k : ℕ) (bytes : List ℕ) (xs : List Value) (rest : List ℕ) : Type 0 where
    all : Takes bytes (flat_map canonical xs) rest
    count : length xs ≡ k
    held : list_all fits xs ≡ true
    levels : Within n xs

  parts_take : (k : ℕ) (bytes : List ℕ) (x : List Value × List ℕ) → Small bytes
      → parts_at part k bytes ≡ Some x → Parts k bytes x.0 x.1
  unfolding parts_at
  parts_take zero bytes x s e =
      let is : ([], bytes) ≡ x = cc in
      subst (λ (y : List Value × List ℕ). Parts 0 bytes y.0 y.1) is (record {
        all = record { parts = refl; small = s };
        count = refl;
        held = refl;
        levels = tt;
      })
  parts_take (suc k) bytes x s e =
      let b = bind_some (part bytes) (λ v rest. made (λ vs. v ∷ vs) (parts_at part k rest)) x e in
      let first = takes bytes b.0 s b.1 in
      let m = made_some (λ vs. b.0.0 ∷ vs) (parts_at part k b.0.1) x b.2 in
      let others = parts_take k b.0.1 m.0 first.takes.small m.1 in
      subst (λ (y : List Value × List ℕ). Parts (suc k) bytes y.0 y.1) m.2 (record {
        all = takes_both bytes (canonical b.0.0) b.0.1 (flat_map canonical m.0.0) m.0.1
            first.takes others.all;
        count = ap suc others.count;
        held = and_both (fits b.0.0) (list_all fits m.0.0) first.held others.held;
        levels = (first.levels, others.levels);
      })

  abbrev items_bytes : List Value → List ℕ
  items_bytes xs = length_bytes (length xs) ++ flat_map canonical xs

  record Items (bytes : List ℕ) (xs : List Value) (rest : List ℕ) : Type 0 where
    all : Takes bytes (items_bytes xs) rest
    count : fits_length (length xs) ≡ true
    held : list_all fits xs ≡ true
    levels : Within n xs

  items_take : (bytes : List ℕ) (x : List Value × List ℕ) → Small bytes
      → items_at part bytes ≡ Some x → Items bytes x.0 x.1
  unfolding items_at
  items_take bytes x s e =
      let b = bind_some (number_at 8 bytes) (parts_at part) x e in
      let count = length_takes bytes b.0 s b.1 in
      let members = parts_take b.0.0 b.0.1 x count.0.small b.2 in
      let both = takes_both bytes (length_bytes b.0.0) b.0.1 (flat_map canonical x.0) x.1
      count.0 members.all in
      record {
        all = subst (λ k. Takes bytes (length_bytes k ++ flat_map canonical x.0) x.1)
            (sym members.count) both;
        count = subst (λ k. fits_length k ≡ true) (sym members.count) count.1;
        held = members.held;
        levels = members.levels;
      }

  -- a variant of what was taken, behind its tag
  variant_takes : {A : Type 0} (make : A → Value) (t : ℕ) (text : A → List ℕ) (o : Out A)
      (bytes : List ℕ) (x : Value × List ℕ)
      → ((a : A) → canonical (make a) ≡ t ∷ text a)
      → ((y : A × List ℕ) → o ≡ Some y
      → Takes bytes (text y.0) y.1 × (fits (make y.0) ≡ true) × (levels_of (make y.0) ≤ suc n))
      → made make o ≡ Some x → Behind (suc n) t bytes x.0 x.1
  variant_takes make t text o bytes x bytes_are taken e =
      let m = made_some make o x e in
      let (took, held, levels) = taken m.0 m.1 in
      at_pair (Behind (suc n) t bytes) x (make m.0.0) m.0.1 m.2 (record {
        text = text m.0.0;
        takes = took;
        bytes_are = bytes_are m.0.0;
        held = held;
        levels = levels;
      })

  -- a variant of a list, and one of a value
  list_takes : (make : List Value → Value) (t : ℕ)
      → ((xs : List Value) → canonical (make xs) ≡ t ∷ items_bytes xs)
      → ((xs : List Value) → fits (make xs) ≡ (fits_length (length xs) && list_all fits xs))
      → ((xs : List Value) → levels_of (make xs) ≡ greatest_by levels_of xs + 1)
      → (bytes : List ℕ) (x : Value × List ℕ) → Small bytes
      → made make (items_at part bytes) ≡ Some x → Behind (suc n) t bytes x.0 x.1
  list_takes make t bytes_are held levels bytes x s =
      variant_takes make t items_bytes (items_at part bytes) bytes x bytes_are
      (λ y e. let taken = items_take bytes y s e in (
        taken.all,
        held y.0 ∙ and_both _ _ taken.count taken.held,
        more_level n _ (make y.0) (levels y.0) (greatest_within n y.0 taken.levels),
      ))

  part_takes : (make : Value → Value) (t : ℕ)
      → ((v : Value) → canonical (make v) ≡ t ∷ canonical v)
      → ((v : Value) → fits (make v) ≡ fits v)
      → ((v : Value) → levels_of (make v) ≡ levels_of v + 1)
      → (bytes : List ℕ) (x : Value × List ℕ) → Small bytes
      → made make (part bytes) ≡ Some x → Behind (suc n) t bytes x.0 x.1
  part_takes make t bytes_are held levels bytes x s =
      variant_takes make t canonical (part bytes) bytes x bytes_are (λ y e.
      let taken = takes bytes y s e in (
        taken.takes,
        held y.0 ∙ taken.held,
        more_level n _ (make y.0) (levels y.0) taken.levels,
      ))

  behind_takes : (t : Tag) (bytes : List ℕ) (x : Value × List ℕ) → Small bytes
      → behind part t bytes ≡ Some x → Behind (suc n) (tag_byte t) bytes x.0 x.1
  behind_takes tag.Int bytes x s =
      variant_takes variant.Int 1 int_bytes (int_at bytes) bytes x canonical-Int (λ y e.
      let t = int_takes bytes y s e in
      (t.0, fits-Int y.0 ∙ t.1, one_level n (variant.Int y.0) (levels-Int y.0)))
  behind_takes tag.Bool bytes x s =
      variant_takes variant.Bool 2 (λ b. truth_byte b ∷ []) (bool_at bytes) bytes x canonical-Bool
      (λ y e. (
        bool_takes bytes y s e,
        fits-Bool y.0,
        one_level n (variant.Bool y.0) (levels-Bool y.0),
      ))
  behind_takes tag.Text bytes x s =
      variant_takes variant.Text 3 text_bytes (text_at bytes) bytes x canonical-Text (λ y e.
      let t = text_takes bytes y s e in
      (t.0, fits-Text y.0 ∙ t.1, one_level n (variant.Text y.0) (levels-Text y.0)))
  behind_takes tag.List bytes x s =
      list_takes variant.List 4 canonical-List fits-List levels-List bytes x s
  behind_takes tag.Rec bytes x s =
      list_takes variant.Rec 5 canonical-Rec fits-Rec levels-Rec bytes x s
  behind_takes tag.Left bytes x s =
      part_takes variant.Left 6 canonical-Left fits-Left levels-Left bytes x s
  behind_takes tag.Right bytes x s =
      part_takes variant.Right 7 canonical-Right fits-Right levels-Right bytes x s
  behind_takes tag.Wide bytes x s =
      variant_takes variant.Wide 8 wide_bytes (wide_at bytes) bytes x canonical-Wide (λ y e.
      let t = wide_takes bytes y s e in
      (t.0, fits-Wide y.0 ∙ t.1, one_level n (variant.Wide y.0) (levels-Wide y.0)))

pub value_takes : (n : ℕ) (bytes : List ℕ) (x : Value × List ℕ) → Small bytes
    → value_at n bytes ≡ Some x → Read n bytes x.0 x.1
unfolding value_at
value_takes zero bytes x s e = absurd (cc)
value_takes (suc n) bytes x s e =
    let b = bind_some (tag_at bytes) (behind (value_at n)) x e in
    let t = tag_takes bytes b.0 s b.1 in
    let r = behind_takes (value_at n) n (value_takes n) b.0.0 b.0.1 x t.small b.2 in
    subst (λ bs. Read (suc n) bs x.0 x.1) (sym t.parts)
    (read_behind (suc n) (tag_byte b.0.0) b.0.1 x.0 x.1 r)
