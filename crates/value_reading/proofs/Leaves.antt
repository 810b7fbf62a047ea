-- Parts without parts: what is read is what was written, and what was written is read again.
use Rattle.std.proofs.Common.{◌≡◌, ℕ, ◌+◌, ◌*◌, ◌%◌, ◌^◌, ◌<◌, ◌≤◌, ◌==◌, ℤ, Bool, true, false, ltb, List, [], ◌∷◌, ◌++◌, length, take, drop, Option, Some, None, Fits, FitsSigned, if◌then◌else◌, refl, sym, ap, ◌∙◌, subst, append_assoc, arith}
use Rattle.std.specs.Int.{Width, w64, w128, bytes_high_first, cast_signed, cast_unsigned}
use Rattle.std.proofs.Math.Nat.{mod-eq_of_lt}
use Rattle.std.proofs.lemmas.Bool.{ltb-true, ltb-false, le-ltb, eqb-true}
use Rattle.std.proofs.lemmas.Int.{to_z-of_z, of_z-to_z}
use Rattle.std.proofs.lemmas.List.{take_at, drop_at, take-append-drop, length-append, length-take-le}
use Rattle.std.proofs.Math.Facts.{sfits_to_z}
use mir.Val.{bits}
use mir.ValLaws.{of_z_fits}
use Rattle.flume_value.specs.Canonical.{length_bytes, int_bytes, wide_bytes}
use Rattle.flume_value.specs.Ranges.{fits_int, fits_wide, fits_length}
use Rattle.flume_value.specs.inner.Numbers.{number}
use Rattle.flume_value.proofs.NumberLemmas.{small-drop}
use Rattle.flume_value.proofs.RangeLemmas.{fits_int-signed, fits_wide-signed, fits_length-below, signed-fits_int, signed-fits_wide}
use Rattle.value_reading.specs.declared.tag.Tag.{Tag}
use Rattle.value_reading.specs.declared.tag.Tag.TheVariants as tag
use Rattle.value_reading.specs.inner.Reading.{Out, bind, made, told, byte_at, front_at, number_at, int_at, wide_at, truth_of, bool_at, tag_of, tag_at, text_at}
use Rattle.value_reading.proofs.Digits.{Small, front_digits, front_below, number-of, length-bytes}

-- what was taken from the front, and what is left
pub record Takes (bytes text rest : List ℕ) : Type 0 where
  pub parts : bytes ≡ text ++ rest
  pub small : Small rest

pub takes_both : (a x b y c : List ℕ) → Takes a x b → Takes b y c → Takes a (x ++ y) c
takes_both a x b y c p q = record {
  parts = p.parts ∙ ap (λ t. x ++ t) q.parts ∙ sym (append_assoc x y c);
  small = q.small;
}

-- ---- steps that gave something

pub bind_some : {A B : Type 0} (o : Out A) (f : A → List ℕ → Out B) (y : B × List ℕ)
    → bind o f ≡ Some y → (x : A × List ℕ) × (o ≡ Some x) × (f x.0 x.1 ≡ Some y)
bind_some None f y e = absurd (cc)
bind_some (Some x) f y e = (x, refl, e)

pub made_some : {A B : Type 0} (f : A → B) (o : Out A) (y : B × List ℕ)
    → made f o ≡ Some y → (x : A × List ℕ) × (o ≡ Some x) × ((f x.0, x.1) ≡ y)
made_some f None y e = absurd (cc)
made_some f (Some x) y e = (x, refl, cc)

told_some : {A : Type 0} (o : Option A) (bytes : List ℕ) (y : A × List ℕ)
    → told o bytes ≡ Some y → (x : A) × (o ≡ Some x) × ((x, bytes) ≡ y)
told_some None bytes y e = absurd (cc)
told_some (Some x) bytes y e = (x, refl, cc)

passed : {A : Type 0} (b : Bool) (x y : A) → (if b then None else Some x) ≡ Some y
    → (b ≡ false) × (x ≡ y)
passed true x y e = absurd (cc)
passed false x y e = (refl, cc)

some_is : {A : Type 0} (x y : A) → Some x ≡ Some y → x ≡ y
some_is x y e = cc

-- ---- numbers

number_takes : (k : ℕ) (bytes : List ℕ) (x : ℕ × List ℕ) → Small bytes
    → number_at k bytes ≡ Some x
    → Takes bytes (bytes_high_first k x.0) x.1 × (x.0 < 256 ^ k)
unfolding number_at
number_takes k bytes x s e =
    let g = passed (ltb (length bytes) k) (number (take k bytes), drop k bytes) x e in
    let long : k ≤ length bytes = ltb-false (length bytes) k g.0 in
    subst (λ (y : ℕ × List ℕ). Takes bytes (bytes_high_first k y.0) y.1 × (y.0 < 256 ^ k)) g.1 (
      record {
        parts = sym (ap (λ t. t ++ drop k bytes) (front_digits k bytes s long)
            ∙ take-append-drop k bytes);
        small = small-drop k bytes s;
      },
      front_below k bytes s long,
    )

number_again : (k n : ℕ) (rest : List ℕ) → n < 256 ^ k
    → number_at k (bytes_high_first k n ++ rest) ≡ Some (n, rest)
unfolding number_at
number_again k n rest low =
    let bytes = bytes_high_first k n in
    let len = length-bytes k n in
    let long : ltb (length (bytes ++ rest)) k ≡ false
    = le-ltb (length (bytes ++ rest)) k (omega (arith, length-append bytes rest, len)) in
    let front : number (take k (bytes ++ rest)) ≡ n
    = ap number (take_at bytes rest k len) ∙ number-of k 0 n
    ∙ last (n % 256 ^ k) (256 ^ k) (mod-eq_of_lt low) in
    let back : drop k (bytes ++ rest) ≡ rest = drop_at bytes rest k len in
    (λ i. if long i then None else Some (front i, back i))
  where
    last : (m p : ℕ) → m ≡ n → 0 * p + m ≡ n
    last m p e = omega (arith, e)

-- ---- lengths

pub length_takes : (bytes : List ℕ) (x : ℕ × List ℕ) → Small bytes → number_at 8 bytes ≡ Some x
    → Takes bytes (length_bytes x.0) x.1 × (fits_length x.0 ≡ true)
unfolding length_bytes
length_takes bytes x s e =
    let t = number_takes 8 bytes x s e in (t.0, fits_length-below x.0 t.1)

pub length_again : (n : ℕ) (rest : List ℕ) → fits_length n ≡ true
    → number_at 8 (length_bytes n ++ rest) ≡ Some (n, rest)
unfolding length_bytes
length_again n rest p = number_again 8 n rest (ltb-true n (2 ^ 64) p)

-- ---- signed numbers

-- a signed number, in as many bytes as its width has
module _ (w : Width) (k : ℕ) (whole : 256 ^ k ≡ 2 ^ bits w) where
  signed_takes : (bytes : List ℕ) (x : ℤ × List ℕ) → Small bytes
      → made (cast_signed w) (number_at k bytes) ≡ Some x
      → Takes bytes (bytes_high_first k (cast_unsigned w x.0)) x.1 × FitsSigned w x.0
  signed_takes bytes x s e =
      let m = made_some (cast_signed w) (number_at k bytes) x e in
      let n = m.0.0 in
      let t = number_takes k bytes m.0 s m.1 in
      let low : n < 2 ^ bits w = subst (λ b. n < b) whole t.1 in
      let fits : Fits w n = record { fits = low } in
      subst (λ (y : ℤ × List ℕ). Takes bytes (bytes_high_first k (cast_unsigned w y.0)) y.1
      × FitsSigned w y.0) m.2 (
        subst (λ b. Takes bytes (bytes_high_first k b) m.0.1) (sym (of_z-to_z w n low)) t.0,
        sfits_to_z fits,
      )

  signed_again : (n : ℤ) (rest : List ℕ) → FitsSigned w n
      → made (cast_signed w) (number_at k (bytes_high_first k (cast_unsigned w n) ++ rest))
      ≡ Some (n, rest)
  signed_again n rest f =
      ap (made (cast_signed w)) (number_again k (cast_unsigned w n) rest
      (subst (λ b. cast_unsigned w n < b) (sym whole) (of_z_fits w n f).fits))
      ∙ ap (λ m. Some (m, rest)) (to_z-of_z w n f)

pub int_takes : (bytes : List ℕ) (x : ℤ × List ℕ) → Small bytes → int_at bytes ≡ Some x
    → Takes bytes (int_bytes x.0) x.1 × (fits_int x.0 ≡ true)
unfolding int_bytes
int_takes bytes x s e =
    let t = signed_takes w64 8 refl bytes x s e in (t.0, fits_int-signed x.0 t.1)

pub wide_takes : (bytes : List ℕ) (x : ℤ × List ℕ) → Small bytes → wide_at bytes ≡ Some x
    → Takes bytes (wide_bytes x.0) x.1 × (fits_wide x.0 ≡ true)
unfolding wide_bytes
wide_takes bytes x s e =
    let t = signed_takes w128 16 refl bytes x s e in (t.0, fits_wide-signed x.0 t.1)

pub int_again : (n : ℤ) (rest : List ℕ) → fits_int n ≡ true
    → int_at (int_bytes n ++ rest) ≡ Some (n, rest)
unfolding int_bytes
int_again n rest p = signed_again w64 8 refl n rest (signed-fits_int n p)

pub wide_again : (n : ℤ) (rest : List ℕ) → fits_wide n ≡ true
    → wide_at (wide_bytes n ++ rest) ≡ Some (n, rest)
unfolding wide_bytes
wide_again n rest p = signed_again w128 16 refl n rest (signed-fits_wide n p)

-- ---- one byte

byte_takes : (bytes : List ℕ) (x : ℕ × List ℕ) → Small bytes → byte_at bytes ≡ Some x
    → Takes bytes (x.0 ∷ []) x.1
byte_takes [] x s e = absurd (cc)
byte_takes (b ∷ bytes) x s e =
    subst (λ (y : ℕ × List ℕ). Takes (b ∷ bytes) (y.0 ∷ []) y.1) (some_is (b, bytes) x e)
    (record { parts = refl; small = s.1 })

-- what a byte is told to be, where its number is written
module _ {A : Type 0} (of : ℕ → Option A) (number : A → ℕ)
    (only : (b : ℕ) (x : A) → of b ≡ Some x → b ≡ number x) where
  byte_told : (bytes : List ℕ) (x : A × List ℕ) → Small bytes
      → bind (byte_at bytes) (λ b rest. told (of b) rest) ≡ Some x
      → Takes bytes (number x.0 ∷ []) x.1
  byte_told bytes x s e =
      let b = bind_some (byte_at bytes) (λ b rest. told (of b) rest) x e in
      let t = byte_takes bytes b.0 s b.1 in
      let o = told_some (of b.0.0) b.0.1 x b.2 in
      subst (λ (y : A × List ℕ). Takes bytes (number y.0 ∷ []) y.1) o.2
      (subst (λ n. Takes bytes (n ∷ []) b.0.1) (only b.0.0 o.0 o.1) t)

abbrev pub truth_byte : Bool → ℕ
truth_byte b = if b then 1 else 0

abbrev pub tag_byte : Tag → ℕ
tag_byte tag.Int = 1
tag_byte tag.Bool = 2
tag_byte tag.Text = 3
tag_byte tag.List = 4
tag_byte tag.Rec = 5
tag_byte tag.Left = 6
tag_byte tag.Right = 7
tag_byte tag.Wide = 8

-- one test, and the others where it fails
pick : {A : Type 0} (number : A → ℕ) (b n : ℕ) (a : A) (others : Option A) (x : A)
    → n ≡ number a → (others ≡ Some x → b ≡ number x)
    → (if b == n then Some a else others) ≡ Some x → b ≡ number x
pick number b n a others x is rest e = tested (b == n) refl e
  where
    tested : (t : Bool) → (b == n) ≡ t → (if t then Some a else others) ≡ Some x
        → b ≡ number x
    tested true q e = eqb-true b n q ∙ is ∙ ap number (some_is a x e)
    tested false q e = rest e

never : {A : Type 0} (number : A → ℕ) (b : ℕ) (x : A) → None ≡ Some x → b ≡ number x
never number b x e = absurd (cc)

truth_only : (b : ℕ) (x : Bool) → truth_of b ≡ Some x → b ≡ truth_byte x
truth_only b x =
    let one = pick truth_byte b 1 true None x refl (never truth_byte b x) in
    pick truth_byte b 0 false (if b == 1 then Some true else None) x refl one

tag_only : (b : ℕ) (x : Tag) → tag_of b ≡ Some x → b ≡ tag_byte x
tag_only b x =
    let t8 : Option Tag = if b == 8 then Some tag.Wide else None in
    let t7 : Option Tag = if b == 7 then Some tag.Right else t8 in
    let t6 : Option Tag = if b == 6 then Some tag.Left else t7 in
    let t5 : Option Tag = if b == 5 then Some tag.Rec else t6 in
    let t4 : Option Tag = if b == 4 then Some tag.List else t5 in
    let t3 : Option Tag = if b == 3 then Some tag.Text else t4 in
    let t2 : Option Tag = if b == 2 then Some tag.Bool else t3 in
    let p8 = pick tag_byte b 8 tag.Wide None x refl (never tag_byte b x) in
    let p7 = pick tag_byte b 7 tag.Right t8 x refl p8 in
    let p6 = pick tag_byte b 6 tag.Left t7 x refl p7 in
    let p5 = pick tag_byte b 5 tag.Rec t6 x refl p6 in
    let p4 = pick tag_byte b 4 tag.List t5 x refl p5 in
    let p3 = pick tag_byte b 3 tag.Text t4 x refl p4 in
    let p2 = pick tag_byte b 2 tag.Bool t3 x refl p3 in
    pick tag_byte b 1 tag.Int t2 x refl p2

pub bool_takes : (bytes : List ℕ) (x : Bool × List ℕ) → Small bytes → bool_at bytes ≡ Some x
    → Takes bytes (truth_byte x.0 ∷ []) x.1
bool_takes = byte_told truth_of truth_byte truth_only

pub tag_takes : (bytes : List ℕ) (x : Tag × List ℕ) → Small bytes → tag_at bytes ≡ Some x
    → Takes bytes (tag_byte x.0 ∷ []) x.1
tag_takes = byte_told tag_of tag_byte tag_only

pub bool_again : (b : Bool) (rest : List ℕ) → bool_at (truth_byte b ∷ rest) ≡ Some (b, rest)
bool_again true rest = refl
bool_again false rest = refl

pub tag_again : (x : Tag) (rest : List ℕ) → tag_at (tag_byte x ∷ rest) ≡ Some (x, rest)
tag_again tag.Int rest = refl
tag_again tag.Bool rest = refl
tag_again tag.Text rest = refl
tag_again tag.List rest = refl
tag_again tag.Rec rest = refl
tag_again tag.Left rest = refl
tag_again tag.Right rest = refl
tag_again tag.Wide rest = refl

-- ---- texts

front_takes : (k : ℕ) (bytes : List ℕ) (x : List ℕ × List ℕ) → Small bytes
    → front_at k bytes ≡ Some x → Takes bytes x.0 x.1 × (length x.0 ≡ k)
unfolding front_at
front_takes k bytes x s e =
    let g = passed (ltb (length bytes) k) (take k bytes, drop k bytes) x e in
    let long : k ≤ length bytes = ltb-false (length bytes) k g.0 in
    subst (λ (y : List ℕ × List ℕ). Takes bytes y.0 y.1 × (length y.0 ≡ k)) g.1 (
      record { parts = sym (take-append-drop k bytes); small = small-drop k bytes s },
      length-take-le k bytes long,
    )

front_again : (text rest : List ℕ) → front_at (length text) (text ++ rest) ≡ Some (text, rest)
unfolding front_at
front_again text rest =
    let long : ltb (length (text ++ rest)) (length text) ≡ false
    = le-ltb (length (text ++ rest)) (length text) (omega (arith, length-append text rest)) in
    let front = take_at text rest (length text) refl in
    let back = drop_at text rest (length text) refl in
    (λ i. if long i then None else Some (front i, back i))

abbrev pub text_bytes : List ℕ → List ℕ
text_bytes text = length_bytes (length text) ++ text

pub text_takes : (bytes : List ℕ) (x : List ℕ × List ℕ) → Small bytes → text_at bytes ≡ Some x
    → Takes bytes (text_bytes x.0) x.1 × (fits_length (length x.0) ≡ true)
unfolding text_at
text_takes bytes x s e =
    let b = bind_some (number_at 8 bytes) front_at x e in
    let n = length_takes bytes b.0 s b.1 in
    let t = front_takes b.0.0 b.0.1 x n.0.small b.2 in
    let both = takes_both bytes (length_bytes b.0.0) b.0.1 x.0 x.1 n.0 t.0 in (
      subst (λ k. Takes bytes (length_bytes k ++ x.0) x.1) (sym t.1) both,
      subst (λ k. fits_length k ≡ true) (sym t.1) n.1,
    )

pub text_again : (text rest : List ℕ) → fits_length (length text) ≡ true
    → text_at (text_bytes text ++ rest) ≡ Some (text, rest)
unfolding text_at
text_again text rest p =
    ap (λ bs. bind (number_at 8 bs) front_at)
    (append_assoc (length_bytes (length text)) text rest)
    ∙ ap (λ o. bind o front_at) (length_again (length text) (text ++ rest) p)
    ∙ front_again text rest
