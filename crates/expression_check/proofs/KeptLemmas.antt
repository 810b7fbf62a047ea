-- What stays as types are added.
use Rattle.std.proofs.Common.{◌≡◌, ℕ, ◌+◌, ◌<◌, List, [], ◌∷◌, ◌++◌, length, map, drop, get_or, Ok, sym, ap, ◌∙◌}
use Rattle.std.proofs.lemmas.List.{drop_more}
use Rattle.type_table.specs.of_flume_types.declared.types.Ty.{Ty}
use Rattle.flume_grammar.specs.declared.tree.Expr.{Expr}
use Rattle.dofn_eval.specs.declared.expr.Expr.{Expr as Slots}
use Rattle.type_table.specs.Table.{type_at, Extends}
use Rattle.expression_types.specs.of_written_types.Answer.{◌>>=◌}
use Rattle.expression_types.proofs.of_written_types.NamedLemmas.{below-push, push-same, same-map}
use Rattle.expression_check.specs.declared.typed.Operand.{Operand}
use Rattle.expression_types.specs.Held.{AreTypes}
use Rattle.expression_types.specs.Sight.{Sight}
use Rattle.expression_check.specs.Slots.{SlotsAndType, operand, pair_slots, all_slots, pick, pick_slots, slots_of}

pub operand-kept : (old new : List Ty) → Extends old new → (made : Operand)
    → made.ty < length old → operand new made ≡ operand old made
operand-kept old new more made in_ = λ i. (made.expr, more.same made.ty in_ i)

pub types-kept : (old new : List Ty) → Extends old new → (ids : List ℕ)
    → AreTypes (length old) ids → map (type_at new) ids ≡ map (type_at old) ids
types-kept old new more =
    same-map (type_at new) (type_at old) (λ id. id < length old) more.same

pub types-push : (old new : List Ty) → Extends old new → (ids after : List ℕ) (id : ℕ)
    → after ≡ ids ++ id ∷ [] → AreTypes (length old) ids
    → map (type_at new) after ≡ map (type_at old) ids ++ type_at new id ∷ []
types-push old new more =
    push-same (type_at new) (type_at old) (λ id. id < length old) more.same

pub within-push : (old new : List Ty) → Extends old new → (ids after : List ℕ) (id : ℕ)
    → after ≡ ids ++ id ∷ [] → AreTypes (length old) ids → id < length new
    → AreTypes (length new) after
within-push = below-push (λ id. id)

-- ---- parts, from the left

pub next-part : (line : ℕ) (parts : List Expr) (i : ℕ) (part : Expr) (s : Sight)
    (slots : List Slots) (types : List Ty) (x : SlotsAndType) → i < length parts
    → part ≡ get_or parts i part → slots_of line part s ≡ Ok x
    → all_slots (slots_of line) (drop (i + 1) parts) s (slots ++ x.0 ∷ []) (types ++ x.1 ∷ [])
    ≡ all_slots (slots_of line) (drop i parts) s slots types
next-part line parts i part s slots types x in_ is one =
    sym (ap (λ rest. all_slots (slots_of line) rest s slots types)
    (drop_more parts i part in_ ∙ ap (λ y. y ∷ drop (i + 1) parts) (sym is))
    ∙ ap (λ r. r >>= λ x. all_slots (slots_of line) (drop (i + 1) parts) s (slots ++ x.0 ∷ [])
    (types ++ x.1 ∷ [])) one)

pub picked-is : (line : ℕ) (c a b : Expr) (s t : Sight) (x y : SlotsAndType)
    (both : SlotsAndType × SlotsAndType)
    → slots_of line c s ≡ Ok x → t ≡ s → pair_slots (slots_of line) a b t ≡ Ok both → y ≡ x
    → pick_slots line (slots_of line) c a b s ≡ pick line y both.0 both.1
picked-is line c a b s t x y both test same parts kept =
    ap (λ r. r >>= λ x. pair_slots (slots_of line) a b s >>= λ both. pick line x both.0 both.1) test
    ∙ ap (λ s. pair_slots (slots_of line) a b s >>= λ both. pick line x both.0 both.1) (sym same)
    ∙ ap (λ r. r >>= λ both. pick line x both.0 both.1) parts
    ∙ ap (λ x. pick line x both.0 both.1) (sym kept)
