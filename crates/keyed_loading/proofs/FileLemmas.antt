-- Files of inputs, as they are loaded one after the other.
use Rattle.std.proofs.Common.{◌≡◌, ℕ, List, [], ◌∷◌, ◌++◌, Option, sym, subst}
use Rattle.std.specs.List.{AllZip}
use Rattle.script_loading.specs.Limits.{input_limit}
use Rattle.script_loading.specs.Loads.{Loads}
use Rattle.script_loading.specs.of_direct_meaning.Inputs.{Wanted}
use Rattle.outside.specs.declared.file.File.{File}
use Rattle.keyed_loading.specs.Files.{AreFilesOf, IsFileOf}

zip_both : {A B : Type 0} (R : A → B → Type 0) (xs more : List A) (ys others : List B)
    → AllZip R xs ys → AllZip R more others → AllZip R (xs ++ more) (ys ++ others)
zip_both R [] more [] others first second = second
zip_both R [] more (y ∷ ys) others first second = absurd first
zip_both R (x ∷ xs) more [] others first second = absurd first
zip_both R (x ∷ xs) more (y ∷ ys) others first second =
    (first.0, zip_both R xs more ys others first.1 second)

-- the file of an input, which has these bytes, is behind those of others
pub file_behind : (told : Option (List File)) (it : Wanted) (bytes : List ℕ) (own : File)
    (files more : List File) (done : List Wanted) → Loads told it.file input_limit bytes
    → own.name ≡ it.file → own.bytes ≡ bytes → more ≡ files ++ own ∷ []
    → AreFilesOf told done files → AreFilesOf told (done ++ it ∷ []) more
file_behind told it bytes own files more done loads named same longer are =
    let file : IsFileOf told it own = record {
      name = named;
      loads = subst (λ (b : List ℕ). Loads told it.file input_limit b) (sym same) loads;
    } in
    subst (λ (l : List File). AreFilesOf told (done ++ it ∷ []) l) (sym longer)
    (zip_both (IsFileOf told) done (it ∷ []) files (own ∷ []) are (file, tt))
