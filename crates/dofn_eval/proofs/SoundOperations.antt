-- An operation at operands of its types is sound: what it gives has its type.
use Rattle.std.proofs.Common.{◌≡◌, ℕ, zero, suc, ℤ, pos, negsuc, true, false, cond, Option, Some, None, List, [], ◌∷◌, ◌++◌, map, length, slice_get, refl, sym, ap, ◌∙◌, subst}
use Rattle.std.specs.Prelude.{◌+ℤ◌, ◌-ℤ◌, ◌*ℤ◌, int_div, int_rem, option_map}
use Rattle.std.specs.List.{AllByRecursion as Each}
use Rattle.std.proofs.lemmas.Option.{slice_get-map}
use Rattle.flume_value.specs.declared.value.Value.{Value}
use Rattle.flume_value.specs.declared.value.Value.TheVariants as variant
use Rattle.flume_value.specs.declared.fault.Kind.TheVariants.{Overflow}
use Rattle.flume_types.specs.declared.types.Ty.{Ty}
use Rattle.flume_types.specs.declared.types.Ty.TheVariants as ty
use Rattle.flume_types.specs.declared.types.Field.{Field}
use Rattle.flume_types.specs.Typing.{Has, HaveTypes, types_of}
use Rattle.flume_types.proofs.TypingLemmas.{has_type-Left, has_type-Right}
use Rattle.flume_types.proofs.PartLemmas.{Part, int_in, bool_in, text_in, list_in, record_in, has_int, has_bool, has_text, has_list}
use Rattle.dofn_eval.specs.declared.expr.Unary.{Unary}
use Rattle.dofn_eval.specs.declared.expr.Binary.{Binary}
use Rattle.dofn_eval.specs.declared.expr.Arithmetic.{Arithmetic}
use Rattle.dofn_eval.specs.declared.expr.Arithmetic.TheVariants.{Add, Subtract, Multiply, Divide, Remainder}
use Rattle.dofn_eval.specs.Outcome.{Outcome, Gives, Traps, Stuck, with_part}
use Rattle.flume_value.specs.Parts.{int_of, bool_of, text_of, members_of, fields_of}
use Rattle.flume_value.specs.Ranges.{fits_int}
use Rattle.flume_value.proofs.EachLemmas.{Each-append}
use Rattle.int_text.specs.Ints.{int_of_text}
use Rattle.dofn_eval.specs.Words.{words_of}
use Rattle.dofn_eval.specs.Operations.{whole_number, quotient, remainder, arithmetic, field_in, member_found, member_at, member_in, length_of, appended, shown_int, chosen, of_one, of_two}
use Rattle.dofn_eval.specs.Typed.{UnaryTyped, BinaryTyped, negates, inverts, counts_members, counts_bytes, splits, writes, reads, lefts, rights, computes, compares, joins_texts, joins_lists}
use Rattle.dofn_eval.proofs.SoundOutcomes.{Sound, sound_part}

each_text : (ss : List (List ℕ)) → Each (Has ty.Text) (map variant.Text ss)
each_text [] = tt
each_text (s ∷ ss) = (has_text s, each_text ss)

sound_whole : (n : ℤ) → Sound (Has ty.Int) (whole_number n)
sound_whole n = elim (fits_int n) as
    (λ b. Sound (Has ty.Int) (cond b (Gives (variant.Int n)) (Traps Overflow)))
    [ true ↦ has_int n | false ↦ tt ]

sound_quotient : (m n : ℤ) → Sound (Has ty.Int) (quotient m n)
sound_quotient m (pos zero) = tt
sound_quotient m (pos (suc n)) = sound_whole (int_div m (pos (suc n)))
sound_quotient m (negsuc n) = sound_whole (int_div m (negsuc n))

sound_remainder : (m n : ℤ) → Sound (Has ty.Int) (remainder m n)
sound_remainder m (pos zero) = tt
sound_remainder m (pos (suc n)) = has_int (int_rem m (pos (suc n)))
sound_remainder m (negsuc n) = has_int (int_rem m (negsuc n))

sound_arithmetic : (op : Arithmetic) (m n : ℤ) → Sound (Has ty.Int) (arithmetic op m n)
sound_arithmetic Add m n = sound_whole (m +ℤ n)
sound_arithmetic Subtract m n = sound_whole (m -ℤ n)
sound_arithmetic Multiply m n = sound_whole (m *ℤ n)
sound_arithmetic Divide m n = sound_quotient m n
sound_arithmetic Remainder m n = sound_remainder m n

sound_length_list : (v : Value) (t : Ty) → Has (ty.List t) v
    → Sound (Has ty.Int) (length_of (members_of v) (text_of v))
sound_length_list v t h = let p = list_in v t h in
    subst (λ m. Sound (Has ty.Int) (length_of m (text_of v))) (sym p.1)
    (sound_whole (pos (length p.0)))

sound_length_text : (v : Value) → Has ty.Text v
    → Sound (Has ty.Int) (length_of (members_of v) (text_of v))
sound_length_text v h =
    let p = text_in v h in
    subst (λ m. Sound (Has ty.Int) (length_of m (text_of v))) (sym p.2)
    (subst (λ m. Sound (Has ty.Int) (length_of None m)) (sym p.1)
    (sound_whole (pos (length p.0))))

sound_join_lists : (x y : Value) (t : Ty) → Has (ty.List t) x → Has (ty.List t) y
    → Sound (Has (ty.List t)) (appended (members_of x) (members_of y) (text_of x) (text_of y))
sound_join_lists x y t g h =
    let p = list_in x t g in let q = list_in y t h in
    subst (λ m. Sound (Has (ty.List t)) (appended m (members_of y) (text_of x) (text_of y)))
    (sym p.1)
    (subst (λ m. Sound (Has (ty.List t)) (appended (Some p.0) m (text_of x) (text_of y))) (sym q.1)
    (has_list t (p.0 ++ q.0) (Each-append (Has t) p.0 q.0 p.2 q.2)))

sound_join_texts : (x y : Value) → Has ty.Text x → Has ty.Text y
    → Sound (Has ty.Text) (appended (members_of x) (members_of y) (text_of x) (text_of y))
sound_join_texts x y g h =
    let p = text_in x g in let q = text_in y h in
    subst (λ m. Sound (Has ty.Text) (appended m (members_of y) (text_of x) (text_of y))) (sym p.2)
    (subst (λ m. Sound (Has ty.Text) (appended None m (text_of x) (text_of y))) (sym q.2)
    (subst (λ m. Sound (Has ty.Text) (appended None None m (text_of y))) (sym p.1)
    (subst (λ m. Sound (Has ty.Text) (appended None None (Some p.0) m)) (sym q.1)
    (has_text (p.0 ++ q.0)))))

sound_shown : (o : Option ℤ) → Sound (Has ty.Int) (shown_int o)
sound_shown (Some n) = has_int n
sound_shown None = tt

pub sound_one : (op : Unary) (u t : Ty) (x : Value) → UnaryTyped op u t → Has u x
    → Sound (Has t) (of_one op x)
sound_one _ _ _ x negates h = sound_part _ (Has ty.Int) (int_of x) _ (int_in x h)
    (λ n _. sound_whole (pos 0 -ℤ n))
sound_one _ _ _ x inverts h = sound_part _ (Has ty.Bool) (bool_of x) _ (bool_in x h)
    (λ b _. has_bool _)
sound_one _ _ _ x (counts_members t) h = sound_length_list x t h
sound_one _ _ _ x counts_bytes h = sound_length_text x h
sound_one _ _ _ x splits h = sound_part _ (Has (ty.List ty.Text)) (text_of x) _ (text_in x h)
    (λ s _. has_list ty.Text (map variant.Text (words_of s)) (each_text (words_of s)))
sound_one _ _ _ x writes h = sound_part _ (Has ty.Text) (int_of x) _ (int_in x h)
    (λ n _. has_text _)
sound_one _ _ _ x reads h =
    sound_part _ (Has ty.Int) (text_of x) _ (text_in x h) (λ s _. sound_shown (int_of_text s))
sound_one _ _ _ x (lefts t u) h = has_type-Left x t u ∙ h
sound_one _ _ _ x (rights t u) h = has_type-Right x t u ∙ h

pub sound_two : (op : Binary) (u w t : Ty) (x y : Value) → BinaryTyped op u w t → Has u x → Has w y
    → Sound (Has t) (of_two op x y)
sound_two _ _ _ _ x y (computes op) g h =
    sound_part _ (Has ty.Int) (int_of x) _ (int_in x g)
    (λ m _. sound_part _ (Has ty.Int) (int_of y) _ (int_in y h)
    (λ n _. sound_arithmetic op m n))
sound_two _ _ _ _ x y (compares op t) g h = has_bool _
sound_two _ _ _ _ x y joins_texts g h = sound_join_texts x y g h
sound_two _ _ _ _ x y (joins_lists t) g h = sound_join_lists x y t g h

-- the value at a place has the type at that place
at_place : (ts : List Ty) (vs : List Value) (i : ℕ) (t : Ty) → HaveTypes ts vs → slice_get ts i
    ≡ Some t → Part (slice_get vs i) (Has t)
at_place [] vs i t h e = cc
at_place (u ∷ ts) [] i t h e = absurd h
at_place (u ∷ ts) (v ∷ vs) zero t h e = let same : u
    ≡ t = cc in (v, refl, subst (λ r. Has r v) same h.0)
at_place (u ∷ ts) (v ∷ vs) (suc i) t h e = at_place ts vs i t h.1 e

pub sound_slot : (ts : List Ty) (vs : List Value) (i : ℕ) (t : Ty) → HaveTypes ts vs
    → slice_get ts i ≡ Some t → Sound (Has t) (with_part (slice_get vs i) Gives)
sound_slot ts vs i t h e = sound_part (Has t) (Has t) (slice_get vs i) _ (at_place ts vs i t h e)
    (λ v p. p)

pub sound_field : (fs : List (Field Ty)) (i : ℕ) (f : Field Ty) (x : Value)
    → slice_get fs i ≡ Some f → Has (ty.Rec fs) x → Sound (Has f.ty) (field_in i x)
sound_field fs i f x e h =
    let at : slice_get (types_of fs) i ≡ Some f.ty = slice_get-map (λ (g : Field Ty). g.ty) fs i
    ∙ ap (λ o. option_map (λ (g : Field Ty). g.ty) o) e in
    sound_part (HaveTypes (types_of fs)) (Has f.ty) (fields_of x) _ (record_in x fs h)
    (λ xs p. sound_slot (types_of fs) xs i f.ty p at)

sound_found : (t : Ty) (xs : List Value) (i : ℕ) → Each (Has t) xs
    → Sound (Has t) (member_found (slice_get xs i))
sound_found t [] i h = tt
sound_found t (x ∷ xs) zero h = h.0
sound_found t (x ∷ xs) (suc i) h = sound_found t xs i h.1

sound_member : (t : Ty) (xs : List Value) (n : ℤ) → Each (Has t) xs → Sound (Has t) (member_at xs n)
sound_member t xs (pos n) h = sound_found t xs n h
sound_member t xs (negsuc n) h = tt

pub sound_index : (t : Ty) (x y : Value) → Has (ty.List t) x → Has ty.Int y
    → Sound (Has t) (member_in x y)
sound_index t x y g h =
    sound_part (Each (Has t)) (Has t) (members_of x) _ (list_in x t g)
    (λ xs p. sound_part _ (Has t) (int_of y) _ (int_in y h) (λ n _. sound_member t xs n p))

pub sound_chosen : {A : Type 0} (P : A → Type 0) (o : Outcome Value) (a b : Outcome A)
    → Sound (Has ty.Bool) o → Sound P a → Sound P b → Sound P (chosen o a b)
sound_chosen P (Gives x) a b h p q =
    sound_part _ P (bool_of x) _ (bool_in x h)
    (λ t _. elim t as (λ c. Sound P (cond c a b)) [ true ↦ p | false ↦ q ])
sound_chosen P (Traps k) a b h p q = tt
sound_chosen P Stuck a b h p q = absurd h
