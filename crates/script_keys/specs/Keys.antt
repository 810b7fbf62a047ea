-- The key of a collection: what it is made of, and its bytes.
use Rattle.std.specs.Prelude.{◌≡◌, ℕ, Bool, true, false, List, [], ◌∷◌, ◌++◌, codes, if◌then◌else◌, length, unwrap_or}
use Rattle.std.specs.List.{flat_map, AllByRecursion}
use Rattle.flume_value.specs.Canonical.{length_bytes}
use Rattle.outside.specs.Files.{bytes_of}
use Rattle.outside.specs.declared.file.File.{File}
use Rattle.script_keys.specs.declared.outline.Outline.{Outline}
use Rattle.script_keys.specs.declared.outline.Outline.TheVariants as outline
use Rattle.script_keys.specs.declared.parts.KeyPart.{KeyPart}
use Rattle.script_keys.specs.declared.parts.KeyPart.TheVariants as part
use Rattle.script_keys.specs.Rests.{belongs}

-- the parts that a statement gives to a key to which it belongs: its text, and the file of an input
abbrev pub key_parts_of : Outline → List ℕ → List KeyPart
key_parts_of (outline.Input name file) text = part.Text text ∷ part.File file ∷ []
key_parts_of _ text = part.Text text ∷ []

-- what the key of a collection is made of, in the order of the script, where its statements have
-- these outlines and texts
abbrev pub key_parts_from : List ℕ → List Outline → List (List ℕ) → List KeyPart
key_parts_from name [] texts = []
key_parts_from name (it ∷ others) [] = []
key_parts_from name (it ∷ others) (text ∷ texts) =
    (if belongs name others it then key_parts_of it text else [])
    ++ key_parts_from name others texts

-- ---- bytes

-- a piece: its length in eight bytes, the highest first, and its bytes
abbrev pub piece : List ℕ → List ℕ
piece bytes = length_bytes (length bytes) ++ bytes

abbrev pub part_bytes : List File → KeyPart → List ℕ
part_bytes files (part.Text text) = piece text
part_bytes files (part.File name) = piece (unwrap_or (bytes_of files name) [])

-- the key of the collection of a name, which is made of these parts, where these are the files
abbrev pub collection_key : List File → List KeyPart → List ℕ → List ℕ
collection_key files parts name =
    (codes "FLUME1" ++ flat_map (part_bytes files) parts) ++ piece name

-- ---- what a key does not depend on

-- the texts are the same where a statement belongs to the key of the collection
abbrev pub AreSameWhereBelonging : List ℕ → List Outline → List (List ℕ) → List (List ℕ) → Type 0
AreSameWhereBelonging name [] texts more = Unit {0}
AreSameWhereBelonging name (it ∷ others) (text ∷ texts) (own ∷ more) =
    (belongs name others it ≡ true → text ≡ own) × AreSameWhereBelonging name others texts more
AreSameWhereBelonging name (it ∷ others) _ _ = ⊥

-- the files have the same bytes under the names of these parts
abbrev pub AreSameFiles : List File → List File → List KeyPart → Type 0
AreSameFiles files others parts =
    AllByRecursion (λ own. part_bytes files own ≡ part_bytes others own) parts
