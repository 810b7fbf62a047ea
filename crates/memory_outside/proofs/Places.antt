-- Places of files in a list.
use Rattle.std.proofs.Common.{◌≡◌, ℕ, suc, ◌+◌, ◌<◌, List, [], ◌∷◌, ◌++◌, Bool, true, false, cond, Some, None, refl, ap, sym, ◌∙◌, length, set, arith, rules, subst, unwrap_or, take}
use Rattle.std.proofs.lemmas.List.{length-map}
use Rattle.std.proofs.Math.Seq.{take-length}
use Rattle.std.specs.Str.{bytes_eq}
use Rattle.std.specs.Option.{option_map}
use Rattle.std.specs.declared.option.Option.{Option}
use Rattle.std.proofs.lemmas.Slice.Eq.{bytes_eq-Decides}
use Rattle.outside.specs.declared.file.File.{File}
use Rattle.memory_outside.specs.declared.slots.Slot.{Slot}
use Rattle.outside.specs.Files.{bytes_of, with_file, with_piece}
use Rattle.memory_outside.specs.Slots.{file_name_at, bytes_at, place_of_file, IsPlace, slot_files, slot_file}
use Rattle.std.proofs.lemmas.Option.{same_Some}

-- what holds of a file at its place
pub record AtPlace (files : List File) (name : List ℕ) (k : ℕ) : Type 0 where
  pub within : k < length files
  pub name_is : file_name_at files k ≡ name
  pub bytes_is : bytes_of files name ≡ Some (bytes_at files k)
  pub with_is : (bytes : List ℕ) → with_file files name bytes
      ≡ set files k (record { name = name; bytes = bytes })
  pub same : (bytes : List ℕ)
      → place_of_file (set files k (record { name = name; bytes = bytes })) name
      ≡ Some k

at_head : (file : File) (files : List File) (name : List ℕ) → bytes_eq file.name name ≡ true
    → AtPlace (file ∷ files) name 0
at_head file files name e = record {
  within = omega arith;
  name_is = (bytes_eq-Decides file.name name).0 e;
  bytes_is = rw e refl;
  with_is = λ bytes. rw e refl;
  same = λ bytes. rw ((bytes_eq-Decides name name).1 refl) refl;
}

behind_head : (file : File) (files : List File) (name : List ℕ) (k : ℕ)
    → bytes_eq file.name name ≡ false → AtPlace files name k → AtPlace (file ∷ files) name (suc k)
behind_head file files name k e h = record {
  within = let w = h.within in omega arith;
  name_is = h.name_is;
  bytes_is = rw e h.bytes_is;
  with_is = λ bytes. rw e (ap (λ fs. file ∷ fs) (h.with_is bytes));
  same = λ bytes. rw e (ap (option_map (λ k. k + 1)) (h.same bytes) ∙ ap Some (search rules));
}

pub at_place : (files : List File) (name : List ℕ) (k : ℕ) → place_of_file files name ≡ Some k
    → AtPlace files name k
at_place [] name k h = absurd (cc)
at_place (file ∷ files) name k h = cases (at_place files name) (bytes_eq file.name name) refl
    (place_of_file files name) refl h
  where
    cases : ((j : ℕ) → place_of_file files name ≡ Some j → AtPlace files name j) → (b : Bool)
        → bytes_eq file.name name ≡ b → (o : Option ℕ) → place_of_file files name ≡ o
        → cond b (Some 0) (option_map (λ k. k + 1) o) ≡ Some k → AtPlace (file ∷ files) name k
    cases ih true e o is h = subst (AtPlace (file ∷ files) name) (cc) (at_head file files name e)
    cases ih false e None is h = absurd (cc)
    cases ih false e (Some j) is h = let p : suc j ≡ k
        = grind arith in subst (AtPlace (file ∷ files) name) p
        (behind_head file files name j e (ih j is))

-- a name that no file has
pub record AtNone (files : List File) (name : List ℕ) : Type 0 where
  pub bytes_is : bytes_of files name ≡ None
  pub with_is : (bytes : List ℕ) → with_file files name bytes ≡ files
      ++ record { name = name; bytes = bytes } ∷ []
  pub place_is : (bytes : List ℕ)
      → place_of_file (files ++ record { name = name; bytes = bytes } ∷ [])
      name ≡ Some (length files)

pub at_none : (files : List File) (name : List ℕ) → place_of_file files name ≡ None
    → AtNone files name
at_none [] name h = record {
  bytes_is = refl;
  with_is = λ bytes. refl;
  place_is = λ bytes. rw ((bytes_eq-Decides name name).1 refl) refl;
}
at_none (file ∷ files) name h = cases (at_none files name) (bytes_eq file.name name) refl
    (place_of_file files name) refl h
  where
    cases : (place_of_file files name ≡ None → AtNone files name) → (b : Bool)
        → bytes_eq file.name name ≡ b → (o : Option ℕ) → place_of_file files name ≡ o
        → cond b (Some 0) (option_map (λ k. k + 1) o) ≡ None → AtNone (file ∷ files) name
    cases ih true e o is h = absurd (cc)
    cases ih false e (Some j) is h = absurd (cc)
    cases ih false e None is h = let r = ih is in record {
      bytes_is = rw e r.bytes_is;
      with_is = λ bytes. rw e (ap (λ fs. file ∷ fs) (r.with_is bytes));
      place_is = λ bytes. rw e (ap (option_map (λ k. k + 1)) (r.place_is bytes)
          ∙ ap Some (search rules));
    }

-- a file that was rewritten, or added: it stands at k
pub record Rewritten (files new : List File) (name bytes : List ℕ) (k : ℕ) : Type 0 where
  pub files_is : new ≡ with_file files name bytes
  pub name_is : file_name_at new k ≡ name
  pub place : IsPlace new k

at_new : (new : List File) (name : List ℕ) (k : ℕ) → place_of_file new name ≡ Some k
    → (file_name_at new k ≡ name) × IsPlace new k
at_new new name k p = let n = (at_place new name k p).name_is in (n, rw n p)

pub rewritten : (files new : List File) (name bytes : List ℕ) (k : ℕ)
    → place_of_file files name ≡ Some k → new ≡ set files k (record {
      name = file_name_at files k;
      bytes = bytes;
    }) → Rewritten files new name bytes k
rewritten files new name bytes k p e =
    let a = at_place files name k p in
    let e' : new ≡ set files k (record { name = name; bytes = bytes }) = e
    ∙ ap (λ n. set files k (record { name = n; bytes = bytes })) a.name_is in
    let q : place_of_file new name ≡ Some k = ap (λ fs. place_of_file fs name) e' ∙ a.same bytes in
    record {
      files_is = e' ∙ sym (a.with_is bytes);
      name_is = (at_new new name k q).0;
      place = (at_new new name k q).1;
    }

pub added : (files new : List File) (name bytes : List ℕ) → place_of_file files name ≡ None
    → new ≡ files ++ record { name = name; bytes = bytes } ∷ []
    → Rewritten files new name bytes (length files)
added files new name bytes p e =
    let a = at_none files name p in
    let q : place_of_file new name ≡ Some (length files) = ap (λ fs. place_of_file fs name) e
    ∙ a.place_is bytes in
    record {
      files_is = e ∙ sym (a.with_is bytes);
      name_is = (at_new new name (length files) q).0;
      place = (at_new new name (length files) q).1;
    }

pub piece_at : (files : List File) (name piece : List ℕ) (k : ℕ) → place_of_file files name ≡ Some k
    → with_piece files name piece ≡ with_file files name (bytes_at files k ++ piece)
piece_at files name piece k p = ap (λ o. with_file files name (unwrap_or o [] ++ piece))
    (at_place files name k p).bytes_is

pub within : (slots : List Slot) (name : List ℕ) (k : ℕ)
    → place_of_file (slot_files slots) name ≡ Some k
    → k < length slots
within slots name k p =
    rw (← length-map slots slot_file) (at_place (slot_files slots) name k p).within

pub added_at : (slots new : List Slot) (name : List ℕ) (k : ℕ) → k ≡ length slots
    → place_of_file (slot_files slots) name ≡ None
    → slot_files new ≡ slot_files slots ++ record { name = name; bytes = [] } ∷ []
    → Rewritten (slot_files slots) (slot_files new) name [] k
added_at slots new name k is p h = rw (is, ← length-map slots slot_file)
    (added (slot_files slots) (slot_files new) name [] p h)

-- after a write to the begun file
module _ (files new : List File) (begun : Option ℕ) (k : ℕ) (piece : List ℕ) (is : begun ≡ Some k)
    (p : IsPlace files k) (r : Rewritten files new (file_name_at files k)
    (bytes_at files k ++ piece) k)
  where
    pub written_files : new
        ≡ with_piece files (unwrap_or (option_map (file_name_at files) begun) [])
        (take (length piece) piece)
    written_files = rw (is, take-length piece)
        (r.files_is ∙ sym (piece_at files (file_name_at files k) piece k p))

    pub written_name : unwrap_or (option_map (file_name_at new) begun) []
        ≡ unwrap_or (option_map (file_name_at files) begun) []
    written_name = rw is r.name_is

    pub written_place : (x : ℕ) → begun ≡ Some x → IsPlace new x
    written_place x e = subst (IsPlace new) (same_Some k x (sym is ∙ e)) r.place
