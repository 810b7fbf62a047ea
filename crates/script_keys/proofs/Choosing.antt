-- What a key does not depend on.
use Rattle.std.proofs.Common.{◌≡◌, ℕ, zero, suc, ◌+◌, ◌<◌, Bool, true, false, List, [], ◌∷◌, ◌++◌, if◌then◌else◌, length, get_or, drop, codes, refl, sym, ap, ◌∙◌, append_assoc, arith}
use Rattle.std.specs.List.{flat_map, AllByRecursion}
use Rattle.outside.specs.declared.file.File.{File}
use Rattle.script_keys.specs.Keys.{AreSameFiles, AreSameWhereBelonging, collection_key, part_bytes, key_parts_from, key_parts_of, piece}
use Rattle.script_keys.specs.Rests.{belongs, flags_from}
use Rattle.script_keys.specs.declared.outline.Outline.{Outline}
use Rattle.script_keys.specs.declared.parts.KeyPart.{KeyPart}

chosen : (it : Outline) (text own : List ℕ) (xs ys : List KeyPart) (b : Bool)
    → (b ≡ true → text ≡ own) → xs ≡ ys
    → (if b then key_parts_of it text else []) ++ xs ≡ (if b then key_parts_of it own else []) ++ ys
chosen it text own xs ys true h e = λ i. key_parts_of it (h refl i) ++ e i
chosen it text own xs ys false h e = e

pub same_parts : (name : List ℕ) (outlines : List Outline) (texts more : List (List ℕ))
    → AreSameWhereBelonging name outlines texts more
    → key_parts_from name outlines texts ≡ key_parts_from name outlines more
same_parts name [] texts more h = refl
same_parts name (it ∷ others) [] more h = absurd h
same_parts name (it ∷ others) (text ∷ texts) [] h = absurd h
same_parts name (it ∷ others) (text ∷ texts) (own ∷ more) h =
    chosen it text own (key_parts_from name others texts) (key_parts_from name others more)
    (belongs name others it) h.0 (same_parts name others texts more h.1)

same_bytes : (parts : List KeyPart) (files others : List File) → AreSameFiles files others parts
    → flat_map (part_bytes files) parts ≡ flat_map (part_bytes others) parts
same_bytes [] files others h = refl
same_bytes (part ∷ parts) files others h =
    λ i. h.0 i ++ same_bytes parts files others h.1 i

pub same_key : (name : List ℕ) (parts : List KeyPart) (files others : List File)
    → AreSameFiles files others parts
    → collection_key files parts name ≡ collection_key others parts name
same_key name parts files others h =
    ap (λ bytes. (codes "FLUME1" ++ bytes) ++ piece name) (same_bytes parts files others h)

-- the parts of the statements from one on, by that one and those from the next
next_parts : (name : List ℕ) (outlines : List Outline) (texts : List (List ℕ)) (k : ℕ)
    (it : Outline) (text : List ℕ) (flag : Bool) → k < length outlines → k < length texts
    → it ≡ get_or outlines k it → text ≡ get_or texts k text
    → flag ≡ get_or (flags_from name outlines) k flag
    → key_parts_from name (drop k outlines) (drop k texts)
    ≡ (if flag then key_parts_of it text else [])
    ++ key_parts_from name (drop (suc k) outlines) (drop (suc k) texts)
next_parts name [] texts k it text flag a b e f g = absurd (omega (arith, a))
next_parts name (o ∷ os) [] k it text flag a b e f g = absurd (omega (arith, b))
next_parts name (o ∷ os) (t ∷ ts) zero it text flag a b e f g =
    (λ i. (if sym g i then key_parts_of (sym e i) (sym f i) else []) ++ key_parts_from name os ts)
next_parts name (o ∷ os) (t ∷ ts) (suc k) it text flag a b e f g =
    next_parts name os ts k it text flag (omega (arith, a)) (omega (arith, b)) e f g

-- the parts so far, with one statement more
pub more_parts : (name : List ℕ) (outlines : List Outline) (texts : List (List ℕ)) (k : ℕ)
    (it : Outline) (text : List ℕ) (flag : Bool) (parts more all : List KeyPart)
    → k < length outlines → length texts ≡ length outlines → it ≡ get_or outlines k it
    → text ≡ get_or texts k text → flag ≡ get_or (flags_from name outlines) k flag
    → more ≡ parts ++ (if flag then key_parts_of it text else [])
    → parts ++ key_parts_from name (drop k outlines) (drop k texts) ≡ all
    → more ++ key_parts_from name (drop (k + 1) outlines) (drop (k + 1) texts) ≡ all
more_parts name outlines texts k it text flag parts more all below many e f g here so_far =
    let own : List KeyPart = if flag then key_parts_of it text else [] in
    let rest : ℕ → List KeyPart = λ n. key_parts_from name (drop n outlines) (drop n texts) in
    let few : k < length texts = omega (arith, below, many) in
    let same : k + 1 ≡ suc k = omega arith in
    ap (λ ps. ps ++ rest (k + 1)) here
    ∙ append_assoc parts own (rest (k + 1))
    ∙ ap (λ n. parts ++ (own ++ rest n)) same
    ∙ ap (λ ps. parts ++ ps)
    (sym (next_parts name outlines texts k it text flag below few e f g))
    ∙ so_far

pub as_many : (name : List ℕ) (outlines : List Outline)
    → length (flags_from name outlines) ≡ length outlines
as_many name [] = refl
as_many name (it ∷ others) = ap suc (as_many name others)
